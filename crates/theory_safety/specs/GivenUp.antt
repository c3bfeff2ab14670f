-- The inherited fault: a process whose recv finds the far end given up never goes on with what follows the recv, whatever its link and in whatever order the steps come.
use Rattle.std.specs.Prelude.{ℕ, ◌≡◌, refl, false}
use Rattle.std.proofs.Common.{◌∙◌, subst₂}
use Rattle.notation.specs.Tree.{Located, Proc}
use Rattle.calculus.specs.Program.{Program}
use Rattle.calculus.specs.Typing.{Bodies}
use Rattle.calculus.specs.Configuration.{Process, Config}
use Rattle.calculus.specs.WellFormed.{WellFormed}
use Rattle.theory_derivations.specs.Named.{lookup_in}
use Rattle.theory_reductions.specs.StepIff.{step_iff}
use Rattle.theory_reductions.specs.Halting.{carried_keeps}
use Rattle.theory_progress.specs.Starting.{Forsaken}
use Rattle.theory_progress.specs.Folding.{FoldsAt, Follows, no_step, own_step, other_step}
use Rattle.theory_progress.specs.GivenUp.{never_runs}
use Rattle.theory_progress.specs.StandingStill.{stands_still}
use Rattle.theory_preservation.specs.Preserved.{preserved}
use Rattle.theory_preservation.specs.StaysGivenUp.{given_up_stays}

-- what becomes of a process that ran the recv P on c: it still stands before it, and the far end is still given up; or it folds up
pub data Lost (C : Config) (j : ℕ) (c : Located) (P : Proc) : Type 0 where
  before_recv : {q : Process} (f : Forsaken C j q c) → f.term ≡ P → Lost C j c P
  folds_up_lem : FoldsAt C.processes j → Lost C j c P

module _ (p : Program) (B : Bodies p) where
  pub never_goes_on : {C D : Config} {i j : ℕ} {q : Process} {c : Located} → WellFormed p C → C.halted ≡ false → (f : Forsaken C i q c) → Follows p C i D j → Lost D j c f.term
  never_goes_on {c = c} w z f (no_step e y) = subst₂ (λ D j. Lost D j c f.term) e y (before_recv f refl)
  never_goes_on {C} {i = i} {q = q} {c} w z f (own_step seen e h r) = folds_up_lem (never_runs p C i q c f e r)
  never_goes_on {C} {q = q} {c} w z f (other_step {E = E} k seen e n r) =
      let s = stands_still w f n e in
      let g : Forsaken E _ s.process c = record {
        term = f.term;
        runs = record { stands = record { there = s.there }; runs = s.is.runs };
        wanted = f.wanted;
        receives_on = f.receives_on;
        held = f.held;
        holds = record { held = s.is.holds; far = given_up_stays w ((step_iff p C k).0 e) f.runs.stands (lookup_in c.name q.held f.holds.held) f.holds.far };
      } in
      never_goes_on (preserved p B C w z k seen E e) (carried_keeps p C E k seen e ∙ z) g r
