use Rattle.std.proofs.Common.{arith}
use Rattle.check_types.specs.Alternatives.{all_left, one_less}
use Rattle.check_types.specs.Meeting.{Meeting, meet_start, meet_there, meet_stop, meet_on, meet_end}
use Rattle.check_types.proofs.equality.meet_labels.Goals as goal

pub loop-k-init : goal.loop-k-init
loop-k-init c = all_left (Meeting _ _ _ _ _ _ _ _ _ _) _ _ (meet_start _ _ _ _ _ _ _ _ c.requires.1)

pub overflow_sub-e : goal.overflow_sub-e
overflow_sub-e c = omega (arith, meet_there _ _ _ _ _ _ _ _ _ _ _ _ c.loop-k.invariant (λ z. omega arith) c.requires.0)

pub alternative-a-requires : goal.alternative-a-requires
alternative-a-requires c = meet_there _ _ _ _ _ _ _ _ _ _ _ _ c.loop-k.invariant (λ z. omega arith) c.requires.0

pub meet_label-requires : goal.meet_label-requires
meet_label-requires c = (c.requires.0, c.requires.2, c.requires.3)

pub returns-then-not-meet_label : goal.returns-then-not-meet_label
returns-then-not-meet_label c = meet_stop _ _ _ _ _ _ _ _ _ _ _ _ c.loop-k.invariant (λ z. omega arith) _ c.alternative-a.ensures _ _ _ c.meet_label.ensures c.if-not-meet_label.true

pub loop-k-preserved : goal.loop-k-preserved
loop-k-preserved c = one_less (Meeting _ _ _ _ _ _ _ _ _ _) _ _ c.loop-k.k (meet_on _ _ _ _ _ _ _ _ _ _ _ _ c.loop-k.invariant (λ z. omega arith) _ c.alternative-a.ensures _ _ _ c.meet_label.ensures c.if-not-meet_label.false)

pub returns : goal.returns
returns c = meet_end _ _ _ _ _ _ _ _ _ _ _ _ c.loop-k.invariant (omega arith)
