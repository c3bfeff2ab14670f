-- What a step leaves keeps the invariant: a clause for each rule.
use Rattle.std.specs.Prelude.{ℕ}
use Rattle.calculus.specs.Program.{Program}
use Rattle.calculus.specs.Typing.{Bodies}
use Rattle.calculus.specs.Configuration.{Config}
use Rattle.calculus.specs.Reduces.{Sends, close_meets, channel_meets, label_meets, label_left_out, close_shows, label_shows, channel_shows, gone_shows, close_lost, label_lost, channel_lost, Reduces, communicates, spawns, tries, calls, cancels, raises, joins, joins_outside, joins_nobody, nobody_joins, unanswered, folds, leaves}
use Rattle.calculus.specs.declared.answers.Seen.{Seen}
use Rattle.theory_ends.specs.FarEnds.{far_held, far_outside, far_nobody}
use Rattle.theory_preservation.specs.Invariant.{Inv, runs_typed}
use Rattle.theory_preservation.specs.GivingUp.{cancel_keeps, fold_keeps}
use Rattle.theory_preservation.specs.Handlers.{raise_keeps, lost_keeps, leave_keeps}
use Rattle.theory_preservation.specs.Making.{spawn_keeps, try_keeps}
use Rattle.theory_preservation.specs.Joining.{forward_keeps, forward_out_keeps, joined_nobody, nobody_joined}
use Rattle.theory_preservation.specs.Calling.{call_keeps}
use Rattle.theory_preservation.specs.Sending.{close_met, close_shown, close_gone, label_met, label_unmet, label_shown, label_gone, channel_met, channel_shown, gone_shown, channel_gone}

module _ {p : Program} {C : Config} (I : Inv p C) where
  sends_keep : {i : ℕ} {seen : Seen} {D : Config} → Sends p C i seen D → Inv p D
  sends_keep (close_meets r c a) = close_met I r c a
  sends_keep (channel_meets {e = e} r c a) = channel_met I r c.held (far_held C e c.far) a
  sends_keep (label_meets {e = e} r c a b) = label_met I r c.held (far_held C e c.far) a b
  sends_keep (label_left_out {e = e} r c a _ _) = label_unmet I r c.held (far_held C e c.far) a
  sends_keep (close_shows {e = e} r c) = close_shown I r e
  sends_keep (label_shows {e = e} r c) = label_shown I r c.held (far_outside C e c.far)
  sends_keep (channel_shows {e = e} r c d _ lt) = channel_shown I r c.held (far_outside C e c.far) d.held lt
  sends_keep (gone_shows {e = e} r c d lt) = gone_shown I r c.held (far_outside C e c.far) d.held lt
  sends_keep (close_lost r c) = close_gone I r
  sends_keep (label_lost {e = e} r c) = label_gone I r c.held (far_nobody C e c.far)
  sends_keep (channel_lost {e = e} r c d g) = channel_gone I r c.held (far_nobody C e c.far) d g

pub reduces_keep : {p : Program} → Bodies p → {C : Config} → Inv p C → {i : ℕ} {seen : Seen} {D : Config} → Reduces p C i seen D → Inv p D
reduces_keep B I (communicates n s) = sends_keep I s
reduces_keep B I (spawns r lt k) = spawn_keeps I r.stands r.runs lt k (runs_typed I r)
reduces_keep B I (tries r lt) = try_keeps I r.stands r.runs lt (runs_typed I r)
reduces_keep B I (calls r s) = call_keeps B I r s (runs_typed I r)
reduces_keep B I (cancels r _ g) = cancel_keeps I r.stands r.runs g (runs_typed I r)
reduces_keep B I (raises r _) = raise_keeps I r.stands r.runs (runs_typed I r)
reduces_keep B {C} I (joins {e = e} r x c _) = forward_keeps I r.stands r.runs x.held c.held (runs_typed I r) (far_held C e x.far)
reduces_keep B I (joins_outside r x c _) = forward_out_keeps I r.stands r.runs x.held c.held (runs_typed I r)
reduces_keep B I (joins_nobody r x c _) = joined_nobody I r.stands r.runs x.held c.held
reduces_keep B I (nobody_joins r x c g) = nobody_joined I r.stands r.runs x c.held g
reduces_keep B I (unanswered {c = c} r _ _) = lost_keeps I r.stands r.runs c.name
reduces_keep B I (folds s d h g) = fold_keeps I s d h g
reduces_keep B I (leaves s e) = leave_keeps I s e
