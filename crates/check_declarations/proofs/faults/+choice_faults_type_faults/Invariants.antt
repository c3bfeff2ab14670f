-- The walk over a type: along its right parts, and over the alternatives of a choice.
use Rattle.check_declarations.specs.Faults.{alternative_faults}
use Rattle.check_declarations.specs.Lowest.{Walking}
use Rattle.notation.specs.Sizes.{type_terms}
use Rattle.read_tables.specs.Decode.{type_in}
use Rattle.check_declarations.specs.Faults.{Typewise}
use Prim.Native.Nat.{◌+◌, ◌*◌}
use Rattle.notation.specs.Sizes.{type_terms, alternatives_terms}
use Rattle.read_tables.specs.Roots.{alternatives_in}
use Rattle.check_declarations.proofs.faults.+choice_faults_type_faults.Given as goal

abbrev pub decreases-choice_faults : goal.decreases-choice_faults
decreases-choice_faults l = 2 * alternatives_terms (alternatives_in l.text.now l.scratch.now l.e l.count) + 1

abbrev pub decreases-type_faults : goal.decreases-type_faults
decreases-type_faults l = 2 * type_terms (type_in l.text.now l.scratch.now l.i)

abbrev pub invariant-choice_faults-loop-k : goal.invariant-choice_faults-loop-k
invariant-choice_faults-loop-k l = Walking (alternative_faults l.text l.scratch l.pass l.e) l.initial.l l.count l.k l.l

abbrev pub invariant-type_faults-loop-at : goal.invariant-type_faults-loop-at
invariant-type_faults-loop-at l = Typewise l.text l.scratch l.pass l.i l.initial.l l.at l.n l.l

abbrev pub decreases-type_faults-loop-at : goal.decreases-type_faults-loop-at
decreases-type_faults-loop-at l = type_terms (type_in l.text l.scratch l.at)
