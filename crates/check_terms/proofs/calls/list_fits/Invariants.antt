use Prim.Native.Nat.{◌-◌}
use lib.ListN.{length}
use Rattle.check_terms.specs.Lists.{Fitting}
use Rattle.check_terms.proofs.calls.list_fits.Given as goal

abbrev pub invariant-loop-x : goal.invariant-loop-x
invariant-loop-x l = Fitting l.text l.scratch l.h l.from l.side l.first l.n l.i l.k l.m

abbrev pub decreases-loop-x : goal.decreases-loop-x
decreases-loop-x l = length l.text - l.i
