use Rattle.std.proofs.Common.{arith}
use Rattle.check_types.specs.Alternatives.{all_left, one_less}
use Rattle.check_types.specs.LabelsFit.{Fitting, fit_start, fit_there, fit_not, fit_on, fit_end}
use Rattle.check_types.proofs.fit.labels_fit.Goals as goal

pub loop-k-init : goal.loop-k-init
loop-k-init c = all_left (Fitting _ _ _ _ _ _) _ _ (fit_start _ _ _ _ _ _ c.requires.2)

pub overflow_sub-d : goal.overflow_sub-d
overflow_sub-d c = omega (arith, fit_there _ _ _ _ _ _ _ _ c.loop-k.invariant (λ z. omega arith) c.requires.0)

pub branch-b-requires : goal.branch-b-requires
branch-b-requires c = fit_there _ _ _ _ _ _ _ _ c.loop-k.invariant (λ z. omega arith) c.requires.0

pub labelled-requires : goal.labelled-requires
labelled-requires c = (c.requires.0, c.requires.1)

pub returns-then-is_none : goal.returns-then-is_none
returns-then-is_none c = fit_not _ _ _ _ _ _ _ _ c.loop-k.invariant (λ z. omega arith) _ c.branch-b.ensures c.labelled.ensures c.if-is_none.ensures

pub loop-k-preserved : goal.loop-k-preserved
loop-k-preserved c = one_less (Fitting _ _ _ _ _ _) _ _ c.loop-k.k (fit_on _ _ _ _ _ _ _ _ c.loop-k.invariant (λ z. omega arith) _ c.branch-b.ensures c.labelled.ensures c.if-is_none.ensures)

pub returns : goal.returns
returns c = fit_end _ _ _ _ _ _ _ _ c.loop-k.invariant (omega arith)
