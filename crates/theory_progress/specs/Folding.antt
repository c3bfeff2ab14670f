-- A process that folds up folds up until it leaves: no step makes it run a term.
use Rattle.std.specs.Prelude.{ℕ, ◌≤◌, ◌≡◌, refl, ◌≢◌, List, [], ◌∷◌, length}
use Rattle.std.proofs.Common.{arith, sym, ◌∙◌, ap, subst, subst₂}
use Rattle.notation.specs.Tree.{Name}
use Rattle.calculus.specs.Program.{Program}
use Rattle.calculus.specs.Configuration.{End, folding, Process, Config, Stands, folds_up}
use Rattle.calculus.specs.Steps.{carried, parting, started_doing, folded_handler, changed_at, leaving, folding_up, step_doing, step}
use Rattle.calculus.specs.declared.answers.Seen.{Seen}
use Rattle.theory_ends.specs.Lists.{found_below, set_at, length_removed}
use Rattle.theory_reductions.specs.CarriedOut.{step_at}
use Rattle.theory_progress.specs.Shapes.{config_by}
use Rattle.theory_progress.specs.Placed.{Does, DoesAt, place_after, length_changed}
use Rattle.theory_progress.specs.Elsewhere.{Stays, After, as_before, started, folded, silent_after}

-- a process that folds up at a place
abbrev pub FoldsAt : List Process → ℕ → Type 0
FoldsAt = DoesAt folding

-- ── a step at another place leaves it folding up: a handler that folds up is not started
still_folds : {C : Config} {k i : ℕ} {l : List Process} → After C k i (Does folding) l → Stays C k i (Does folding) l
still_folds (as_before f) = f
still_folds (started s z f) = record { process = f.process; there = f.there; is = f.is.2 ∙ ap started_doing f.is.1 }
still_folds (folded s e z f) = f

pub folding_stays : (p : Program) (C D : Config) (k i : ℕ) (seen : Seen) → step p C k ≡ carried seen D → i ≢ k → FoldsAt C.processes i
    → FoldsAt D.processes (place_after k (length C.processes) (length D.processes) i)
folding_stays p C D k i seen e n f = still_folds (silent_after C k i refl n f p e)

-- ── its own step leaves it folding up with one channel less, or takes it from the list
pub folding_on : (p : Program) (C : Config) (i : ℕ) (q : Process) → Stands C i q → q.doing ≡ folding → step p C i ≡ folding_up C i q q.held
folding_on p C i q s d = step_at p s ∙ ap (step_doing p C i q) d

own_folds : (C D : Config) (i : ℕ) (q : Process) (seen : Seen) → Stands C i q → (l : List (Name × End)) → folding_up C i q l ≡ carried seen D
    → length C.processes ≤ length D.processes
    → FoldsAt D.processes i
unfolding folding_up leaving parting
own_folds C D i q seen s [] e h =
    let c = length_changed folded_handler q.link C.processes in
    let a = length_removed i (changed_at folded_handler q.link C.processes) (let b = found_below C.processes i s.there in omega arith) in
    let d = ap (λ r. length (config_by C r).processes) e in
    absurd (omega arith)
own_folds C D i q seen s (x ∷ l) e h =
    subst (λ r. FoldsAt (config_by C r).processes i) e
    (record { process = folds_up q l; there = set_at C.processes i _ (found_below C.processes i s.there); is = refl })

-- ── a process followed through steps: that at place i of C is, after them, that at place j of D
pub data Follows (p : Program) : Config → ℕ → Config → ℕ → Type 0 where
  no_step : {C D : Config} {i j : ℕ} → C ≡ D → i ≡ j → Follows p C i D j
  -- its own step, where it does not leave
  own_step : {C E D : Config} {i j : ℕ} (seen : Seen) → step p C i ≡ carried seen E → length C.processes ≤ length E.processes
      → Follows p E i D j → Follows p C i D j
  other_step : {C E D : Config} {i j : ℕ} (k : ℕ) (seen : Seen) → step p C k ≡ carried seen E → i ≢ k
      → Follows p E (place_after k (length C.processes) (length E.processes) i) D j → Follows p C i D j

pub folds_on : {p : Program} {C D : Config} {i j : ℕ} → Follows p C i D j → FoldsAt C.processes i → FoldsAt D.processes j
folds_on (no_step e z) f = subst₂ (λ (C : Config) i. FoldsAt C.processes i) e z f
folds_on {p} (own_step {C} {E} {i = i} seen e h r) f =
    let s : Stands C i f.process = record { there = f.there } in
    folds_on r (own_folds C E i f.process seen s f.process.held (sym (folding_on p C i f.process s f.is) ∙ e) h)
folds_on {p} (other_step {C} {E} {i = i} k seen e n r) f = folds_on r (folding_stays p C E k i seen e n f)
