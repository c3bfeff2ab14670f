-- Preservation: what a step leaves is well formed, in a run that has not halted: one that is carried out, and one that halts the run.
use Rattle.std.specs.Prelude.{◌≡◌, false, ℕ}
use Rattle.std.proofs.Common.{sym, ◌∙◌, true≢false}
use Rattle.notation.specs.Tree.{Located, Proc}
use Rattle.calculus.specs.Program.{Program}
use Rattle.calculus.specs.Typing.{Bodies}
use Rattle.calculus.specs.Configuration.{End, Process, Config, halt, Far, far_end}
use Rattle.calculus.specs.Steps.{carried, step}
use Rattle.calculus.specs.Reduces.{Runs, Holds, Naming, its_own, its_recv, Reduces, Halts, nobody_catches, nobody_takes_lem}
use Rattle.calculus.specs.WellFormed.{WellFormed, by_step}
use Rattle.calculus.specs.declared.answers.Seen.{Seen}
use Rattle.theory_reductions.specs.StepIff.{step_iff, halts_iff}
use Rattle.theory_reductions.specs.Halting.{Takes, carries_out, halts, reduces_keeps}
use Rattle.theory_preservation.specs.Invariant.{Inv}
use Rattle.theory_preservation.specs.Stepping.{reduces_keep}
use Rattle.theory_preservation.specs.ToInvariant.{inv_iff}

-- the invariant says nothing of the halt
inv_halt : {p : Program} {C : Config} → Inv p C → Inv p (halt C)
inv_halt I = record { id = I.id; roster = I.roster; next = I.next; shows = I.shows; good = I.good; places = I.places; numbers = I.numbers }

-- what would halt the run would still do so, were it not halted: no rule looks at the halt
module _ {C : Config} where
  still_runs : {i : ℕ} {q : Process} {P : Proc} → Runs C i q P → Runs (halt C) i q P
  still_runs r = record { stands = record { there = r.stands.there }; runs = r.runs }

  still_holds : {q : Process} {c : Located} {e : End} {f : Far} → Holds C q c e f → Holds (halt C) q c e f
  unfolding far_end
  still_holds h = record { held = h.held; far = h.far }

  still_names : {i j : ℕ} → Naming C i j → Naming (halt C) i j
  still_names its_own = its_own
  still_names (its_recv r t h a u) = its_recv (still_runs r) t (still_holds h) a u

  still_halts : {i : ℕ} → Halts C i → Halts (halt C) i
  still_halts (nobody_catches r l) = nobody_catches (still_runs r) l
  still_halts (nobody_takes_lem n r h a b l) = nobody_takes_lem (still_names n) (still_runs r) (still_holds h) a b l

pub halts_preserves : (p : Program) {C : Config} → WellFormed p C → {i : ℕ} → Halts C i → WellFormed p (halt C)
halts_preserves p {C} w h = (inv_iff p (halt C)).0 (inv_halt ((inv_iff p C).1 w).0, λ _. by_step (still_halts h))

module _ (p : Program) (B : Bodies p) where
  -- each rule keeps well-formedness
  pub reduces_preserves : {C : Config} → WellFormed p C → C.halted ≡ false → {i : ℕ} {seen : Seen} {D : Config} → Reduces p C i seen D → WellFormed p D
  reduces_preserves {C} w g {D = D} r = (inv_iff p D).0 (reduces_keep B ((inv_iff p C).1 w).0 r, λ h. absurd (true≢false (sym h ∙ (reduces_keeps r).0 ∙ g)))

  -- and so does the step at a place
  pub preserved : (C : Config) → WellFormed p C → C.halted ≡ false → (i : ℕ) (seen : Seen) (D : Config) → step p C i ≡ carried seen D → WellFormed p D
  preserved C w g i seen D e = reduces_preserves w g ((step_iff p C i).0 e)

  -- whether it is carried out or halts the run
  pub takes_preserves : {C : Config} → WellFormed p C → C.halted ≡ false → {i : ℕ} {seen : Seen} {D : Config} → Takes p C i seen D → WellFormed p D
  takes_preserves {C} w g {i} (carries_out {seen} {D} e) = preserved C w g i seen D e
  takes_preserves {C} w g {i} (halts e) = halts_preserves p w ((halts_iff p C i).0 e)
