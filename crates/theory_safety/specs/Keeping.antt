-- What holds where a run begins, and is kept by each step that is taken, holds after every call of every list.
use Rattle.std.specs.Prelude.{ℕ, zero, suc, ◌≡◌, false}
use Rattle.std.proofs.Common.{sym, subst}
use Rattle.std.proofs.Math.Option.{some}
use Rattle.calculus.specs.Program.{Signature, Program}
use Rattle.calculus.specs.Configuration.{Config}
use Rattle.calculus.specs.Runs.{start_config, exec_of, run_on}
use Rattle.calculus.specs.Machine.{Call, Reply}
use Rattle.calculus.specs.declared.answers.Seen.{Seen}
use Rattle.theory_reductions.specs.Halting as step
use Rattle.theory_progress.specs.RunOn.{steps_to, given, run_on_steps}
use Rattle.theory_safety.specs.Replies.{Replied, refuses, begins, carries_out, halts_run, runs, reports, surveys_places, names, refusal_config}

pub record Kept (p : Program) (K : Config → Type 0) : Type 0 where
  pub begun : (line : ℕ) (s : Signature) → exec_of p line ≡ some s → K (start_config s)
  pub taken : {C : Config} → K C → C.halted ≡ false → {i : ℕ} {seen : Seen} {D : Config} → step.Takes p C i seen D → K D

module _ {p : Program} (K : Config → Type 0) (k : Kept p K) where
  steps_keep : (n : ℕ) (C D : Config) → K C → steps_to p n C D → K D
  steps_keep zero C D v h = subst K h v
  steps_keep (suc n) C D v h = steps_keep n h.1 D (k.taken v h.2.going h.2.takes) h.3

  pub run_kept : (C : Config) → K C → (budget : ℕ) → K (run_on p C budget).config
  run_kept C v budget = steps_keep (given (run_on p C budget).answer) C _ v (run_on_steps p C budget)

  pub reply_kept : {C : Config} {c : Call} {r : Reply} → K C → Replied p C c r → K r.config
  reply_kept {C} v (refuses {c} n i) = subst K (sym (refusal_config C c n i)) v
  reply_kept v (begins {line = line} g e) = k.begun line g e
  reply_kept {C} v (carries_out seen D g e) = k.taken v g (step.carries_out e)
  reply_kept {C} v (halts_run g e) = k.taken v g (step.halts e)
  reply_kept {C} v (runs {budget = budget}) = run_kept C v budget
  reply_kept v reports = v
  reply_kept v surveys_places = v
  reply_kept v (names n) = v
