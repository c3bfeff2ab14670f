use mathlib.Core.Path.{refl, sym, ap, ◌∙◌}
use mathlib.Core.Bool.{true, false, not}
use native.Mathlib.Omega.{arith}
use Rattle.notation.specs.Bytes.{name_byte}
use Rattle.notation.proofs.Names.{same_names, negated, matched_end, matched_past, matched_differ, matched_in, matched_next}
use borrow.Author.Rules.{rules}
use Rattle.notation.proofs.token.names_equal.Goals as goal

pub returns-then-a-b : goal.returns-then-a-b
returns-then-a-b c = same_names c.args.text.now c.args.a c.args.b c.if-a-b.true

pub loop-x-init : goal.loop-x-init
loop-x-init c = record { left = refl }

pub returns-then-not-is_name_byte : goal.returns-then-not-is_name_byte
returns-then-not-is_name_byte c =
    ap not (c.is_name_byte-then-not-is_name_byte.ensures ∙ ap name_byte c.byte_at-d.ensures) ∙ matched_end c.loop-x.invariant
    (negated _ true (ap not (sym c.is_name_byte.ensures) ∙ c.if-not-is_name_byte.true-raw))

pub returns-then-c-d : goal.returns-then-c-d
returns-then-c-d c =
    matched_differ c.loop-x.invariant (negated _ false (ap not (sym c.is_name_byte.ensures) ∙ c.if-not-is_name_byte.false-raw))
    (λ e. c.if-c-d.true (e ∙ sym c.byte_at-d.ensures))

pub overflow_add-y : goal.overflow_add-y
overflow_add-y c =
    omega (
      arith,
      matched_in c.loop-x.invariant (negated _ false (ap not (sym c.is_name_byte.ensures) ∙ c.if-not-is_name_byte.false-raw))
          (c.if-c-d.false ∙ c.byte_at-d.ensures),
    )

pub loop-x-preserved : goal.loop-x-preserved
loop-x-preserved c =
    matched_next c.loop-x.invariant (negated _ false (ap not (sym c.is_name_byte.ensures) ∙ c.if-not-is_name_byte.false-raw))
    (c.if-c-d.false ∙ c.byte_at-d.ensures)

pub returns : goal.returns
returns c = ap not (c.is_name_byte-2.ensures ∙ ap name_byte c.byte_at.ensures) ∙ matched_past c.loop-x.invariant (search rules)
