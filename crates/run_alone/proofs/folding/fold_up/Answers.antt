use native.Mathlib.Omega.{arith}
use Rattle.run_alone.specs.Folding.{oldest_held, folds_empty, folds_oldest}
use Rattle.run_alone.specs.Parting.{folds}
use Rattle.run_alone.proofs.folding.fold_up.Goals as goal

pub returns-then-p-eq0 : goal.returns-then-p-eq0
returns-then-p-eq0 c = folds_empty c.args.text.now c.args.scratch.now c.args.run.now _ c.args.place c.args.p _ c.if-p-eq0.true c.leave.ensures

pub returns : goal.returns
returns c =
    folds_oldest c.args.text.now c.args.scratch.now c.args.run.now _ c.args.place c.args.p _ c.end_at-e.result
    c.without-held.result c.end_at-e.ensures.k_value c.without-held.ensures.result_value
    c.part.ensures
