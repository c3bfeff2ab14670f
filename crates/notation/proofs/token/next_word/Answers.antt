use borrow.Author.Rules.{rules}
use mathlib.Core.Path.{sym, ap}
use borrow.Author.Tests.{ne_eqb}
use native.Mathlib.Omega.{arith}
use Prim.Native.Nat.{◌+◌}
use mathlib.Core.List.{[]}
use lib.ListN.{get_or}
use Rattle.notation.specs.Bytes.{position}
use Rattle.notation.specs.Token.{symbols}
use Rattle.notation.specs.SymbolTable.{beginning}
use Rattle.notation.proofs.Symbols.{follows_none}
use Rattle.notation.proofs.token.next_word.Goals as goal

pub returns-in-0-clause-value : goal.returns-in-0-clause-value
unfolding beginning symbols position
returns-in-0-clause-value c = ap (λ k. beginning (get_or (get_or symbols k []) 0 0) (k + 1)) (sym c.in-0.is)

pub returns-in-0-clause-lower_bound : goal.returns-in-0-clause-lower_bound
unfolding beginning symbols position
returns-in-0-clause-lower_bound c = omega (arith, c.in-0.is)

pub returns-in-4-clause-value : goal.returns-in-4-clause-value
unfolding beginning symbols position
returns-in-4-clause-value c = ap (λ k. beginning (get_or (get_or symbols k []) 0 0) (k + 1)) (sym c.in-4.is)

pub returns-in-4-clause-lower_bound : goal.returns-in-4-clause-lower_bound
unfolding beginning symbols position
returns-in-4-clause-lower_bound c = omega (arith, c.in-4.is)

pub returns-in-6-clause-value : goal.returns-in-6-clause-value
unfolding beginning symbols position
returns-in-6-clause-value c = ap (λ k. beginning (get_or (get_or symbols k []) 0 0) (k + 1)) (sym c.in-6.is)

pub returns-in-6-clause-lower_bound : goal.returns-in-6-clause-lower_bound
unfolding beginning symbols position
returns-in-6-clause-lower_bound c = omega (arith, c.in-6.is)

pub returns-in-7-clause-value : goal.returns-in-7-clause-value
unfolding beginning symbols position
returns-in-7-clause-value c = ap (λ k. beginning (get_or (get_or symbols k []) 0 0) (k + 1)) (sym c.in-7.is)

pub returns-in-7-clause-lower_bound : goal.returns-in-7-clause-lower_bound
unfolding beginning symbols position
returns-in-7-clause-lower_bound c = omega (arith, c.in-7.is)

pub returns-in_default-clause-value : goal.returns-in_default-clause-value
returns-in_default-clause-value c =
    let k = c.args.k in follows_none k (search rules) (rw (
      ne_eqb k 0 c.in_default.in_default-own.rest.0.0.0.1,
      ne_eqb k 4 c.in_default.in_default-own.rest.0.0.1,
      ne_eqb k 6 c.in_default.in_default-own.rest.0.1,
      ne_eqb k 7 c.in_default.in_default-own.rest.1,
    ))
