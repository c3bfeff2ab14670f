-- The walk over a type for its marks: along its right parts, and over the alternatives of a choice.
use Rattle.check_declarations.specs.Other.{alternative_other}
use Rattle.check_declarations.specs.Reach.{marked, Testing}
use Rattle.notation.specs.Sizes.{type_terms}
use Rattle.read_tables.specs.Decode.{type_in}
use Rattle.check_declarations.specs.Other.{Otherwise}
use Rattle.check_declarations.specs.Reach.{marked}
use Prim.Native.Nat.{◌+◌, ◌*◌}
use Rattle.notation.specs.Sizes.{type_terms, alternatives_terms}
use Rattle.read_tables.specs.Roots.{alternatives_in}
use Rattle.check_declarations.proofs.reach.+alternatives_other_has_other.Given as goal

abbrev pub decreases-alternatives_other : goal.decreases-alternatives_other
decreases-alternatives_other l = 2 * alternatives_terms (alternatives_in l.text.now l.scratch.now l.e l.count) + 1

abbrev pub decreases-has_other : goal.decreases-has_other
decreases-has_other l = 2 * type_terms (type_in l.text.now l.scratch.now l.i)

abbrev pub invariant-alternatives_other-loop-k : goal.invariant-alternatives_other-loop-k
invariant-alternatives_other-loop-k l = Testing (alternative_other l.text l.scratch (marked l.text l.scratch l.marks) l.e) l.count l.k

abbrev pub invariant-has_other-loop-n : goal.invariant-has_other-loop-n
invariant-has_other-loop-n l = Otherwise l.text l.scratch (marked l.text l.scratch l.marks) l.i l.at l.n

abbrev pub decreases-has_other-loop-n : goal.decreases-has_other-loop-n
decreases-has_other-loop-n l = type_terms (type_in l.text l.scratch l.at)
