-- What the step at each place is, for an entry that is lent a run.
use Prim.Native.Nat.{ℕ, zero, suc, ◌+◌, ◌<◌, ◌≤◌}
use Rattle.std.specs.Prelude.{◌≡◌, length, get_or, set, take, Ok, IfOk}
use Rattle.std.proofs.Math.Path.{refl, ap}
use Rattle.std.proofs.Common.{sym, ◌∙◌}
use mathlib.Core.List.{List, [], ◌∷◌}
use native.Mathlib.Omega.{arith}
use Rattle.notation.specs.Refusals.{OrRefusal}
use Rattle.notation.specs.Limits.{run_words, process_places}
use Rattle.notation.specs.Tables.{tables, FitsTables}
use Rattle.notation.specs.Tree.{Declaration}
use Rattle.calculus.specs.Accepted.{accepted, checked}
use Rattle.calculus.specs.Configuration.{Process, Config}
use Rattle.calculus.specs.Machine.{surveyed}
use Rattle.calculus.specs.Program.{Program}
use Rattle.calculus.specs.Runs.{openness, openness_from, places}
use Rattle.calculus.specs.Steps.{step}
use Rattle.calculus.specs.declared.answers.Places.{Places}
use Rattle.read_tables.specs.Program.{program_in}
use Rattle.run_words.specs.Raw.{raw_in}
use Rattle.run_alone.specs.Run.{config_in}
use Rattle.run_alone.specs.Changes.{places_in}
use Rattle.interpreter.specs.Entries.{to_places, HoldsRun, config_of, ZerosFrom, places_answer}
use Rattle.interpreter.specs.Past.{past_run}
use Rattle.interpreter.specs.Inside.{answers_past}
use Rattle.interpreter.specs.Listing.{Listed, Listing, listing_on, listing_end, ListsIn}

-- a survey of an accepted text
abbrev pub SurveysIn : List ℕ → List ℕ → OrRefusal Places → Type 0
SurveysIn s ws r = ListsIn s ws to_places (places_answer r) (IfOk r λ l. ZerosFrom l.processes l.steps)

-- ── the places, one by one
module _ (p : Program) (C : Config) where
  from_many : (i : ℕ) (l : List Process) → length (openness_from p C i l) ≡ length l
  unfolding openness_from
  from_many i [] = refl
  from_many i (q ∷ l) = ap suc (from_many (suc i) l)

  from_at : (i k : ℕ) (l : List Process) → k < length l → get_or (openness_from p C i l) k 0 ≡ openness C.halted (step p C (i + k))
  unfolding openness_from
  from_at i k [] h = absurd (omega arith)
  from_at i zero (q ∷ l) h = ap (λ j. openness C.halted (step p C j)) (omega arith)
  from_at i (suc k) (q ∷ l) h = from_at (suc i) k l (omega (arith, h)) ∙ ap (λ j. openness C.halted (step p C j)) (omega arith)

  pub places_many : length (places p C) ≡ length C.processes
  unfolding places
  places_many = from_many 0 C.processes

  place_at : (k : ℕ) → k < length C.processes → get_or (places p C) k 0 ≡ openness C.halted (step p C k)
  unfolding places
  place_at k h = let e : 0 + k ≡ k = omega arith in from_at 0 k C.processes h ∙ ap (λ j. openness C.halted (step p C j)) e

module _ (s w ws : List ℕ) where
  abbrev P : Program
  P = program_in s w

  abbrev C : Config
  C = config_in s w ws

  all_places : length (places P C) ≡ length (raw_in ws).processes
  all_places = places_many P C ∙ places_in s w ws

  pub surveyed_on : {words : List ℕ} {k x : ℕ} → Listing process_places (places P C) words k → k < length (raw_in ws).processes → length (raw_in ws).processes ≤ process_places
      → x ≡ openness C.halted (step P C k) → Listing process_places (places P C) (set words k x) (k + 1)
  surveyed_on {words} {k} a h m e = listing_on (places P C) words k a (omega (arith, h, all_places)) (omega (arith, m, all_places)) (e ∙ sym (place_at P C k (omega (arith, h, places_in s w ws))))

  pub surveyed_end : {words : List ℕ} {k : ℕ} → Listing process_places (places P C) words k → length (raw_in ws).processes ≤ k → k ≤ length (raw_in ws).processes → Listed words (places P C)
  surveyed_end {words} {k} a h l = listing_end (places P C) words k a (omega (arith, h, all_places)) (omega (arith, l, all_places))

-- ── carried out
module _ (s : List ℕ) (ds : List Declaration) (ok : checked s ≡ accepted ds) (fits : FitsTables s) (ws : List ℕ) where
  abbrev all : List ℕ
  all = places (program_in s (tables s)) (config_of s ws)

  pub survey_told : run_words ≤ length ws → HoldsRun s ws → (n : ℕ) (steps : List ℕ) → n ≡ length (raw_in ws).processes → Listed steps all → SurveysIn s ws (Ok (record { processes = n; steps = steps }))
  survey_told wide holds n steps e f =
      let m : n ≡ length all = e ∙ sym (all_places s (tables s) ws) in
      record {
        answers = answers_past s ds ok fits to_places ws (past_run (program_in s (tables s)) to_places (config_of s ws)) refl (λ _. wide) (λ _. holds)
            (λ j. surveyed (Ok (m j)) ((ap (λ c. take c steps) m ∙ f.begins) j))
            (record { is = record { holds = holds; is = refl; past = refl; long = refl } });
        rest = λ k h. f.rest k (omega (arith, h, m));
      }
