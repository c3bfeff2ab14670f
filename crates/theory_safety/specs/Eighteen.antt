-- Refusal 18 is "never given by start, nor, under the same text, to what start, a step or run-on left": they leave what its test accepts.
use Rattle.std.specs.Prelude.{ℕ, ◌≡◌, List, ◌∷◌, true, false, Ok}
use Rattle.std.proofs.Math.Option.{some}
use Rattle.notation.specs.Tree.{Declaration}
use Rattle.calculus.specs.Program.{Signature, Program, program_of}
use Rattle.calculus.specs.Accepted.{accepted, checked}
use Rattle.calculus.specs.Configuration.{Config}
use Rattle.calculus.specs.Runs.{start_config, exec_of, run_on}
use Rattle.calculus.specs.Named.{In}
use Rattle.calculus.specs.Machine.{Call, call_start, started, respond, idle, Exchange, history}
use Rattle.calculus.specs.declared.answers.Seen.{Seen}
use Rattle.theory_reductions.specs.Halting.{Takes}
use Rattle.theory_decision.specs.Decide.{well_formed?, well_formed?_iff}
use Rattle.theory_preservation.specs.Preserved.{takes_preserves}
use Rattle.theory_preservation.specs.Accepted.{accepted_bodies, accepted_start}
use Rattle.theory_safety.specs.Safety.{run_keeps, plain_demand3}

module _ (text : List ℕ) (ds : List Declaration) (ok : checked text ≡ accepted ds) where
  abbrev p : Program
  p = program_of ds

  pub start_never_18 : (line : ℕ) (g : Signature) → exec_of p line ≡ some g → well_formed? p (start_config g) ≡ true
  start_never_18 line g e = (well_formed?_iff p (start_config g)).1 (accepted_start text ds ok line g e)

  -- a step that is carried out, and one that halts the run
  pub step_never_18 : (C : Config) → well_formed? p C ≡ true → C.halted ≡ false → (i : ℕ) {seen : Seen} {D : Config} → Takes p C i seen D → well_formed? p D ≡ true
  step_never_18 C w g i {D = D} t = (well_formed?_iff p D).1 (takes_preserves p (accepted_bodies text ds ok) ((well_formed?_iff p C).0 w) g t)

  pub run_on_never_18 : (C : Config) (budget : ℕ) → well_formed? p C ≡ true → well_formed? p (run_on p C budget).config ≡ true
  run_on_never_18 C budget w = (well_formed?_iff p _).1 (run_keeps text ds ok C ((well_formed?_iff p C).0 w) budget)

  -- whatever calls follow a start that is carried out, the next one meets what the test accepts
  pub calls_never_18 : (scratch run line : ℕ) (calls : List Call) → (respond text idle (call_start scratch run line)).answer ≡ started (Ok tt)
      → (m : Exchange) → In m (history text idle (call_start scratch run line ∷ calls)) → well_formed? p m.after.config ≡ true
  calls_never_18 scratch run line calls e m k = (well_formed?_iff p _).1 (plain_demand3.at_each_call text ds scratch run line calls ok e m k).safe.well_formed
