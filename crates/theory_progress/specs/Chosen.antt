-- The place that run-on chooses: the first whose step is taken.
use Prim.Native.Nat.{ℕ, suc, ◌+◌, ◌≤◌, ◌<◌}
use native.Mathlib.Omega.{arith}
use Rattle.std.proofs.Math.Decide.{ℕ_discrete, dec_lt}
use Rattle.std.specs.Prelude.{◌≡◌, Bool}
use Rattle.std.proofs.Math.Path.{refl, ap}
use Rattle.std.proofs.Common.{sym, ◌∙◌, inl, inr, true≢false}
use mathlib.Core.List.{List, [], ◌∷◌}
use Rattle.std.proofs.Math.Option.{Option, some, none, some-injective, none-ne-some, some-ne-none}
use Rattle.std.proofs.Math.Bool.{true, false, cond}
use Rattle.std.proofs.lemmas.Bool.{false≢true}
use Rattle.std.proofs.Math.ListN.{length}
use Rattle.calculus.specs.Program.{Program}
use Rattle.calculus.specs.Configuration.{Process, Config, halt}
use Rattle.calculus.specs.Steps.{Outcome, carried, uncaught, not_open, lacking, step_of, step}
use Rattle.calculus.specs.Runs.{is_taken, first_from, choose_place}
use Rattle.calculus.specs.Reduces.{Lacks, Applies}
use Rattle.calculus.specs.declared.answers.Seen.{Seen}
use Rattle.theory_ends.specs.Lists.{past_the_end}
use Rattle.calculus.specs.declared.answers.Seen.TheVariants.{Nothing}
use Rattle.theory_reductions.specs.CarriedOut.{carried_out_lem, halts_out}
use Rattle.theory_reductions.specs.Halting.{Takes, carries_out, halts}

-- ── "Run-on takes the first open place that can be carried out"
-- the step at a place is taken: carried out, or one that halts the run
pub record Steps (p : Program) (C : Config) (i : ℕ) : Type 0 where
  pub seen : Seen
  pub after : Config
  pub takes : Takes p C i seen after

pub steps : (p : Program) (C : Config) (i : ℕ) → is_taken (step p C i) ≡ true → Steps p C i
steps p C i e = go (step p C i) refl e
  where
    go : (r : Outcome) → step p C i ≡ r → is_taken r ≡ true → Steps p C i
    go (carried s D) h e = record { seen = s; after = D; takes = carries_out h }
    go uncaught h e = record { seen = Nothing; after = halt C; takes = halts h }
    go not_open h e = absurd (false≢true e)
    go lacking h e = absurd (false≢true e)

pub is_taken_lem : {p : Program} {C : Config} {i : ℕ} {seen : Seen} {D : Config} → Takes p C i seen D → is_taken (step p C i) ≡ true
is_taken_lem (carries_out e) = ap is_taken e
is_taken_lem (halts e) = ap is_taken e

-- a place that holds a process and whose step is taken, where none before it is
pub record First (p : Program) (C : Config) (i : ℕ) : Type 0 where
  pub place : i < length C.processes
  pub taken : Steps p C i
  pub none_before : (j : ℕ) → j < i → is_taken (step p C j) ≡ false

module _ (p : Program) (C : Config) where
  first_from_lem : (i : ℕ) (l : List Process) {k : ℕ} → first_from p C i l ≡ some k
      → (i ≤ k) × (k < i + length l) × (is_taken (step p C k) ≡ true) × ((j : ℕ) → i ≤ j → j < k → is_taken (step p C j) ≡ false)
  unfolding first_from
  first_from_lem i [] e = absurd (none-ne-some _ e)
  first_from_lem i (q ∷ l) {k} e = go (is_taken (step p C i)) refl e (λ h. first_from_lem (suc i) l h)
    where
      go : (b : Bool) → is_taken (step p C i) ≡ b → cond b (some i) (first_from p C (suc i) l) ≡ some k
          → (first_from p C (suc i) l ≡ some k → (suc i ≤ k) × (k < suc i + length l) × (is_taken (step p C k) ≡ true) × ((j : ℕ) → suc i ≤ j → j < k → is_taken (step p C j) ≡ false))
          → (i ≤ k) × (k < i + length (q ∷ l)) × (is_taken (step p C k) ≡ true) × ((j : ℕ) → i ≤ j → j < k → is_taken (step p C j) ≡ false)
      go true t e r = let z = some-injective _ _ e in (omega arith, omega arith, rw (← z) t, λ j h g. absurd (omega arith))
      go false t e r =
          let y = r e in
          let a = y.0 in
          let b = y.1 in
          (omega arith, omega arith, y.2, λ j h g. here j h g (ℕ_discrete j i))
        where
          here : (j : ℕ) → i ≤ j → j < k → Dec (j ≡ i) → is_taken (step p C j) ≡ false
          here j h g (yes z) = ap (λ j. is_taken (step p C j)) z ∙ t
          here j h g (no n) = (r e).3 j (omega arith) g

  none_from : (i : ℕ) (l : List Process) → first_from p C i l ≡ none → (j : ℕ) → i ≤ j → j < i + length l → is_taken (step p C j) ≡ false
  unfolding first_from
  none_from i [] e j h g = absurd (omega arith)
  none_from i (q ∷ l) e j h g = go (is_taken (step p C i)) refl e (λ f h g. none_from (suc i) l f j h g) (ℕ_discrete j i)
    where
      go : (b : Bool) → is_taken (step p C i) ≡ b → cond b (some i) (first_from p C (suc i) l) ≡ none
          → (first_from p C (suc i) l ≡ none → suc i ≤ j → j < suc i + length l → is_taken (step p C j) ≡ false) → Dec (j ≡ i)
          → is_taken (step p C j) ≡ false
      go true t e r d = absurd (some-ne-none _ e)
      go false t e r (yes z) = ap (λ j. is_taken (step p C j)) z ∙ t
      go false t e r (no n) = r e (omega arith) (omega arith)

  -- where a place is chosen, its step is taken, and none before it
  pub chosen_first : {i : ℕ} → choose_place p C ≡ some i → First p C i
  unfolding choose_place
  chosen_first {i} e =
      let y = first_from_lem 0 C.processes e in
      record { place = (let a = y.1 in omega arith); taken = steps p C i y.2; none_before = λ j h. y.3 j (omega arith) h }

  -- where none is chosen, no step can be taken
  pub none_chosen : choose_place p C ≡ none → (i : ℕ) → is_taken (step p C i) ≡ false
  unfolding choose_place step
  none_chosen e i = go (dec_lt i (length C.processes))
    where
      go : Dec (i < length C.processes) → is_taken (step p C i) ≡ false
      go (yes h) = none_from 0 C.processes e i (omega arith) (omega arith)
      go (no n) = ap (λ o. is_taken (step_of p C i o)) (past_the_end C.processes i (omega arith))

  -- where a rule applies and does not lack, the step is taken
  pub applies_takes : (i : ℕ) → Applies p C i → ¬ Lacks C i → Steps p C i
  applies_takes i (inl (s, D, r)) n = record { seen = s; after = D; takes = carries_out (carried_out_lem p r) }
  applies_takes i (inr (inl h)) n = record { seen = Nothing; after = halt C; takes = halts (halts_out p h) }
  applies_takes i (inr (inr l)) n = absurd (n l)

  -- run-on finds a place where there is one
  pub run_on_finds : (i : ℕ) → Applies p C i → ¬ Lacks C i → (j : ℕ) × (choose_place p C ≡ some j) × First p C j
  run_on_finds i o n = go (choose_place p C) refl
    where
      go : (c : Option ℕ) → choose_place p C ≡ c → (j : ℕ) × (choose_place p C ≡ some j) × First p C j
      go none e = absurd (true≢false (sym (is_taken_lem (applies_takes i o n).takes) ∙ none_chosen e i))
      go (some j) e = (j, e, chosen_first e)
