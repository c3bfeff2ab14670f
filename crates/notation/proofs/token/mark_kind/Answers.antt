use mathlib.Core.Path.{sym, ap, ◌∙◌}
use borrow.Author.Tests.{ne_eqb}
use Rattle.notation.specs.Bytes.{position, same}
use Rattle.notation.specs.Token.{symbols, symbol}
use Rattle.notation.proofs.Marks.{mark_of, marks_none, lone_equals, lone_minus, lone_less}
use Rattle.notation.proofs.token.mark_kind.Goals as goal

pub returns-in-40 : goal.returns-in-40
unfolding symbol symbols position same
returns-in-40 c = ap (λ b. mark_of b c.args.next) (sym c.in-40.is)

pub returns-in-41 : goal.returns-in-41
unfolding symbol symbols position same
returns-in-41 c = ap (λ b. mark_of b c.args.next) (sym c.in-41.is)

pub returns-in-91 : goal.returns-in-91
unfolding symbol symbols position same
returns-in-91 c = ap (λ b. mark_of b c.args.next) (sym c.in-91.is)

pub returns-in-93 : goal.returns-in-93
unfolding symbol symbols position same
returns-in-93 c = ap (λ b. mark_of b c.args.next) (sym c.in-93.is)

pub returns-in-123 : goal.returns-in-123
unfolding symbol symbols position same
returns-in-123 c = ap (λ b. mark_of b c.args.next) (sym c.in-123.is)

pub returns-in-125 : goal.returns-in-125
unfolding symbol symbols position same
returns-in-125 c = ap (λ b. mark_of b c.args.next) (sym c.in-125.is)

pub returns-in-58 : goal.returns-in-58
unfolding symbol symbols position same
returns-in-58 c = ap (λ b. mark_of b c.args.next) (sym c.in-58.is)

pub returns-in-44 : goal.returns-in-44
unfolding symbol symbols position same
returns-in-44 c = ap (λ b. mark_of b c.args.next) (sym c.in-44.is)

pub returns-in-59 : goal.returns-in-59
unfolding symbol symbols position same
returns-in-59 c = ap (λ b. mark_of b c.args.next) (sym c.in-59.is)

pub returns-in-124 : goal.returns-in-124
unfolding symbol symbols position same
returns-in-124 c = ap (λ b. mark_of b c.args.next) (sym c.in-124.is)

pub returns-in-49 : goal.returns-in-49
unfolding symbol symbols position same
returns-in-49 c = ap (λ b. mark_of b c.args.next) (sym c.in-49.is)

pub returns-in-42 : goal.returns-in-42
unfolding symbol symbols position same
returns-in-42 c = ap (λ b. mark_of b c.args.next) (sym c.in-42.is)

pub returns-in-64 : goal.returns-in-64
unfolding symbol symbols position same
returns-in-64 c = ap (λ b. mark_of b c.args.next) (sym c.in-64.is)

pub returns-in-43 : goal.returns-in-43
unfolding symbol symbols position same
returns-in-43 c = ap (λ b. mark_of b c.args.next) (sym c.in-43.is)

pub returns-in-38 : goal.returns-in-38
unfolding symbol symbols position same
returns-in-38 c = ap (λ b. mark_of b c.args.next) (sym c.in-38.is)

pub returns-then-next-eq62 : goal.returns-then-next-eq62
unfolding symbol symbols position same
returns-then-next-eq62 c = rw (c.in-61.is, c.if-next-eq62.true)

pub returns-else-next-eq62 : goal.returns-else-next-eq62
returns-else-next-eq62 c = lone_equals _ c.if-next-eq62.false ∙ ap (λ b. mark_of b c.args.next) (sym c.in-61.is)

pub returns-then-next-eq111 : goal.returns-then-next-eq111
unfolding symbol symbols position same
returns-then-next-eq111 c = rw (c.in-45.is, c.if-next-eq111.true)

pub returns-else-next-eq111 : goal.returns-else-next-eq111
returns-else-next-eq111 c = lone_minus _ c.if-next-eq111.false ∙ ap (λ b. mark_of b c.args.next) (sym c.in-45.is)

pub returns-then-next-eq45 : goal.returns-then-next-eq45
unfolding symbol symbols position same
returns-then-next-eq45 c = rw (c.in-60.is, c.if-next-eq45.true)

pub returns-else-next-eq45 : goal.returns-else-next-eq45
returns-else-next-eq45 c = lone_less _ c.if-next-eq45.false ∙ ap (λ b. mark_of b c.args.next) (sym c.in-60.is)

pub returns-in_default : goal.returns-in_default
returns-in_default c =
    let b = c.args.b in
    marks_none b c.args.next (rw (
      ne_eqb b 40 c.in_default.in_default-own.rest.0.0.0.0.0.0.0.0.0.0.0.0.0.0.0.0.0.1,
      ne_eqb b 41 c.in_default.in_default-own.rest.0.0.0.0.0.0.0.0.0.0.0.0.0.0.0.0.1,
      ne_eqb b 91 c.in_default.in_default-own.rest.0.0.0.0.0.0.0.0.0.0.0.0.0.0.0.1,
      ne_eqb b 93 c.in_default.in_default-own.rest.0.0.0.0.0.0.0.0.0.0.0.0.0.0.1,
      ne_eqb b 123 c.in_default.in_default-own.rest.0.0.0.0.0.0.0.0.0.0.0.0.0.1,
      ne_eqb b 125 c.in_default.in_default-own.rest.0.0.0.0.0.0.0.0.0.0.0.0.1,
      ne_eqb b 58 c.in_default.in_default-own.rest.0.0.0.0.0.0.0.0.0.0.0.1,
      ne_eqb b 44 c.in_default.in_default-own.rest.0.0.0.0.0.0.0.0.0.0.1,
      ne_eqb b 59 c.in_default.in_default-own.rest.0.0.0.0.0.0.0.0.0.1,
      ne_eqb b 124 c.in_default.in_default-own.rest.0.0.0.0.0.0.0.0.1,
      ne_eqb b 49 c.in_default.in_default-own.rest.0.0.0.0.0.0.0.1,
      ne_eqb b 42 c.in_default.in_default-own.rest.0.0.0.0.0.0.1,
      ne_eqb b 64 c.in_default.in_default-own.rest.0.0.0.0.0.1,
      ne_eqb b 43 c.in_default.in_default-own.rest.0.0.0.0.1,
      ne_eqb b 38 c.in_default.in_default-own.rest.0.0.0.1,
      ne_eqb b 61 c.in_default.in_default-own.rest.0.0.1,
      ne_eqb b 45 c.in_default.in_default-own.rest.0.1,
      ne_eqb b 60 c.in_default.in_default-own.rest.1,
    ))
