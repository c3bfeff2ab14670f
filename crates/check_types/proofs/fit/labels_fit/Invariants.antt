use Rattle.std.proofs.Common.{◌-◌}
use Rattle.check_types.specs.LabelsFit.{Fitting}
use Rattle.check_types.proofs.fit.labels_fit.Given as goal

abbrev pub invariant-loop-k : goal.invariant-loop-k
invariant-loop-k l = Fitting l.text l.scratch l.e l.n l.d l.m (l.d - l.k) (l.m - l.k)
