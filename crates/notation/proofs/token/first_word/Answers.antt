use borrow.Author.Rules.{rules}
use mathlib.Core.Path.{sym, ap}
use borrow.Author.Tests.{ne_eqb}
use Rattle.notation.specs.Bytes.{position}
use Rattle.notation.specs.Token.{symbols}
use Rattle.notation.specs.SymbolTable.{beginning}
use Rattle.notation.proofs.Symbols.{begins_none}
use Rattle.notation.proofs.token.first_word.Goals as goal

pub returns-in-116 : goal.returns-in-116
unfolding beginning symbols position
returns-in-116 c = ap (λ b. beginning b 0) (sym c.in-116.is)

pub returns-in-112 : goal.returns-in-112
unfolding beginning symbols position
returns-in-112 c = ap (λ b. beginning b 0) (sym c.in-112.is)

pub returns-in-101 : goal.returns-in-101
unfolding beginning symbols position
returns-in-101 c = ap (λ b. beginning b 0) (sym c.in-101.is)

pub returns-in-115 : goal.returns-in-115
unfolding beginning symbols position
returns-in-115 c = ap (λ b. beginning b 0) (sym c.in-115.is)

pub returns-in-114 : goal.returns-in-114
unfolding beginning symbols position
returns-in-114 c = ap (λ b. beginning b 0) (sym c.in-114.is)

pub returns-in-102 : goal.returns-in-102
unfolding beginning symbols position
returns-in-102 c = ap (λ b. beginning b 0) (sym c.in-102.is)

pub returns-in-99 : goal.returns-in-99
unfolding beginning symbols position
returns-in-99 c = ap (λ b. beginning b 0) (sym c.in-99.is)

pub returns-in_default : goal.returns-in_default
returns-in_default c =
    let b = c.args.b in
    begins_none b (search rules) c.requires (rw (
      ne_eqb b 116 c.in_default.in_default-own.rest.0.0.0.0.0.0.1,
      ne_eqb b 112 c.in_default.in_default-own.rest.0.0.0.0.0.1,
      ne_eqb b 101 c.in_default.in_default-own.rest.0.0.0.0.1,
      ne_eqb b 115 c.in_default.in_default-own.rest.0.0.0.1,
      ne_eqb b 114 c.in_default.in_default-own.rest.0.0.1,
      ne_eqb b 102 c.in_default.in_default-own.rest.0.1,
      ne_eqb b 99 c.in_default.in_default-own.rest.1,
    ))
