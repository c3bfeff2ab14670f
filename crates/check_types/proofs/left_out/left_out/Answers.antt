use Rattle.std.proofs.Common.{arith}
use Rattle.check_types.specs.Alternatives.{all_left, one_less}
use Rattle.check_types.specs.LeftOut.{Leaving, leave_start, leave_there, leave_found, leave_on, leave_end}
use Rattle.check_types.proofs.left_out.left_out.Goals as goal

pub loop-i-init : goal.loop-i-init
loop-i-init c =
    let a = c.args in
    all_left (λ e n. Leaving a.text.now a.scratch.now a.e a.n a.d a.m a.k e n a.k) _ _ (leave_start _ _ _ _ _ _ _ c.requires.1)

pub overflow_sub-e : goal.overflow_sub-e
overflow_sub-e c = omega (arith, leave_there _ _ _ _ _ _ _ _ _ _ c.loop-i.invariant (λ z. omega arith) c.requires.0)

pub alternative-a-requires : goal.alternative-a-requires
alternative-a-requires c = leave_there _ _ _ _ _ _ _ _ _ _ c.loop-i.invariant (λ z. omega arith) c.requires.0

pub own_left_out-requires : goal.own_left_out-requires
own_left_out-requires c = (c.requires.0, c.requires.2)

pub returns-in_err-left : goal.returns-in_err-left
returns-in_err-left c = rw c.from_residual.ensures (leave_found _ _ _ _ _ _ _ _ _ _ c.loop-i.invariant (λ z. omega arith) _ c.alternative-a.ensures _ c.in_err-left.ensures)

pub loop-i-preserved : goal.loop-i-preserved
loop-i-preserved c =
    let a = c.args in
    one_less (λ e n. Leaving a.text.now a.scratch.now a.e a.n a.d a.m a.k e n c.in_ok-left.left) _ _ c.loop-i.i
    (leave_on _ _ _ _ _ _ _ _ _ _ c.loop-i.invariant (λ z. omega arith) _ c.alternative-a.ensures _ c.in_ok-left.ensures)

pub returns : goal.returns
returns c = leave_end _ _ _ _ _ _ _ _ _ _ c.loop-i.invariant (omega arith)
