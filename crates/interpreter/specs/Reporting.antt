-- The numbers of a report.
use Rattle.std.specs.Prelude.{ℕ, zero, suc, ◌+◌, ◌<◌, ◌≤◌, ◌≡◌, refl, List, [], ◌∷◌, map, length, get_or, set, take, Ok, IfOk}
use Rattle.std.proofs.Common.{sym, ◌∙◌, ap, arith}
use Rattle.std.proofs.Math.Option.{some, none-ne-some, some-injective}
use Rattle.std.proofs.Math.ListN.{get_elem?}
use Rattle.std.proofs.lemmas.List.{length-map}
use Rattle.notation.specs.Refusals.{OrRefusal}
use Rattle.notation.specs.Limits.{run_words, outside_numbers}
use Rattle.notation.specs.Tables.{tables, FitsTables}
use Rattle.notation.specs.Token.{name_at}
use Rattle.notation.specs.Tree.{Declaration}
use Rattle.calculus.specs.Accepted.{accepted, checked}
use Rattle.calculus.specs.Configuration.{Outside}
use Rattle.calculus.specs.Runs.{report}
use Rattle.calculus.specs.declared.answers.Report.{Report}
use Rattle.read_tables.specs.Decode.{process_in}
use Rattle.read_tables.specs.Program.{plain_in}
use Rattle.run_words.specs.Raw.{RawOutside, RawConfig, raw_in}
use Rattle.run_words.specs.Decode.{decoded_outside}
use Rattle.interpreter.specs.Entries.{to_report, HoldsRun, config_of, ZerosFrom, report_answer}
use Rattle.interpreter.specs.RunningOn.{report_told}
use Rattle.interpreter.specs.Listing.{Listed, Listing, listing_on, listing_end, ListsIn}

abbrev pub numbers_of : RawConfig → List ℕ
numbers_of C = map (λ (o : RawOutside). o.number) C.outside

-- a report of an accepted text
abbrev pub ReportsIn : List ℕ → List ℕ → OrRefusal Report → Type 0
ReportsIn s ws r = ListsIn s ws to_report (report_answer r) (IfOk r λ l. ZerosFrom l.open l.numbers)

-- ── the numbers, one by one
number_at : (l : List RawOutside) (k : ℕ) {o : RawOutside} → get_elem? l k ≡ some o → get_or (map (λ (o : RawOutside). o.number) l) k 0 ≡ o.number
number_at [] k e = absurd (none-ne-some _ e)
number_at (x ∷ l) zero e = ap (λ (o : RawOutside). o.number) (some-injective _ _ e)
number_at (x ∷ l) (suc k) e = number_at l k e

module _ (C : RawConfig) where
  pub many : length (numbers_of C) ≡ length C.outside
  many = length-map C.outside _

  pub numbered_on : {words : List ℕ} {k : ℕ} {o : RawOutside} {x : ℕ} → Listing outside_numbers (numbers_of C) words k → k < length C.outside → length C.outside ≤ outside_numbers
      → get_elem? C.outside k ≡ some o → x ≡ o.number → Listing outside_numbers (numbers_of C) (set words k x) (k + 1)
  numbered_on {words} {k} a h m e q = listing_on (numbers_of C) words k a (omega (arith, h, many)) (omega (arith, m, many)) (q ∙ sym (number_at C.outside k e))

  pub numbered_end : {words : List ℕ} {k : ℕ} → Listing outside_numbers (numbers_of C) words k → length C.outside ≤ k → k ≤ length C.outside → Listed words (numbers_of C)
  numbered_end {words} {k} a h l = listing_end (numbers_of C) words k a (omega (arith, h, many)) (omega (arith, l, many))

-- ── carried out
module _ (s : List ℕ) (ds : List Declaration) (ok : checked s ≡ accepted ds) (fits : FitsTables s) (ws : List ℕ) where
  numbers_decoded : (l : List RawOutside) → map (λ (o : RawOutside). o.number) l ≡ map (λ (o : Outside). o.number) (map (decoded_outside (name_at s) (plain_in s (tables s)) (process_in s (tables s))) l)
  numbers_decoded [] = refl
  numbers_decoded (o ∷ l) = ap (λ r. o.number ∷ r) (numbers_decoded l)

  numbers_are : numbers_of (raw_in ws) ≡ report (config_of s ws)
  unfolding report
  numbers_are = numbers_decoded (raw_in ws).outside

  pub report_open : run_words ≤ length ws → HoldsRun s ws → (n : ℕ) (numbers : List ℕ) → n ≡ length (raw_in ws).outside → Listed numbers (numbers_of (raw_in ws)) → ReportsIn s ws (Ok (record { «open» = n; numbers = numbers }))
  report_open wide holds n numbers e f = record {
    answers = report_told s ds ok fits ws wide holds (e ∙ sym (many (raw_in ws)) ∙ ap length numbers_are) (ap (λ m. take m numbers) (e ∙ sym (many (raw_in ws))) ∙ f.begins ∙ numbers_are);
    rest = λ k h. f.rest k (omega (arith, h, e, many (raw_in ws)));
  }
