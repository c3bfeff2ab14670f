use mathlib.Core.Path.{subst}
use native.Mathlib.Omega.{arith}
use Rattle.check_contexts.specs.Halves.{held_bounded}
use Rattle.check_contexts.specs.Held.{Retypes}
use Rattle.read_tables.specs.Access.{node_there}
use Rattle.check_terms.specs.Sends.{acts_so, found_type, chooses_absent, chooses_not, chooses_so}
use Rattle.check_terms.specs.Next.{stops, goes, handed_on}
use Rattle.check_terms.proofs.sends.choose_next.Goals as goal

pub returns-in_err-e : goal.returns-in_err-e
returns-in_err-e c =
    let none = c.in_err-e.ensures.ok_part in
    stops (handed_on _ c.from_residual.ensures.1 none c.in_err-e.ensures.value) (chooses_absent _ c.acting.ensures none)

pub chooses_over-requires : goal.chooses_over-requires
chooses_over-requires c = let found = acts_so c.acting.ensures c.in_ok-e.ensures.ok_part in (c.requires.0, found.fits, found.side)

pub returns-in_err-after : goal.returns-in_err-after
returns-in_err-after c =
    let none = c.in_err-after.ensures.ok_part in
    stops (handed_on _ c.from_residual-in_err-after.ensures.1 none c.in_err-after.ensures.value)
    (chooses_not _ (acts_so c.acting.ensures c.in_ok-e.ensures.ok_part) c.chooses_over.ensures none)

pub narrow-requires : goal.narrow-requires
narrow-requires c = omega (arith, node_there _ _ c.requires.0 _ (found_type c.chooses_over.ensures.type c.in_ok-after.ensures.ok_part))

pub retype_end-requires-clause-count_le_held_limit : goal.retype_end-requires-clause-count_le_held_limit
retype_end-requires-clause-count_le_held_limit c = (
  c.requires.1.many,
  omega (arith, node_there _ _ c.requires.0 _ (found_type c.chooses_over.ensures.type c.in_ok-after.ensures.ok_part), c.narrow.ensures),
)

pub retype_end-requires-clause-all : goal.retype_end-requires-clause-all
retype_end-requires-clause-all c = held_bounded c.requires.1

pub returns : goal.returns
returns c =
    let d = subst (λ j. Retypes c.args.text.now c.args.h c.args.c j c.retype_end.result) c.narrow.ensures c.retype_end.ensures in
    goes _ (d.fits c.args.scratch.now (found_type c.chooses_over.ensures.type c.in_ok-after.ensures.ok_part) c.requires.1)
    (chooses_so _ (acts_so c.acting.ensures c.in_ok-e.ensures.ok_part) c.chooses_over.ensures c.in_ok-after.ensures.ok_part d)
