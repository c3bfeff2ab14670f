-- The tests of the outside's numbers.
use Rattle.std.specs.Prelude.{ℕ, ◌+◌, ◌≤◌, ◌<◌, List, map, ◌≡◌, refl, Bool, true, false, ltb, leb, length, drop}
use Rattle.std.proofs.lemmas.Simd.{map-map}
use Rattle.std.proofs.Math.Path.{sym, ap, ap₂}
use Rattle.std.proofs.Common.{◌∙◌, add-one, le-leb, drop_of_length-le}
use Rattle.std.proofs.Math.Bool.{cond}
use Rattle.std.proofs.Math.Option.{some}
use Rattle.std.proofs.lemmas.Bool.{lt-leb}
use Rattle.std.proofs.Math.ListN.{get_elem?}
use Rattle.calculus.specs.Named.{every}
use Rattle.calculus.specs.Configuration.{Outside, Config}
use Rattle.theory_decision.specs.Lists.{all_from}
use Rattle.theory_decision.specs.Decide.{rising}
use Rattle.run_words.specs.Raw.{RawOutside, RawConfig}
use Rattle.run_words.specs.ListLaws.{drop_at}
use Rattle.run_words.specs.Decode.{decoded_outside}
use Rattle.run_joints.specs.Answers.{Answers}
use Rattle.run_joints.specs.Tests.{all_map, all_from_lem}

-- they rise; all of them are given
unfoldable pub numbers_rise : Config → Bool
numbers_rise C = rising 0 (map (λ (o : Outside). o.number) C.outside)

unfoldable pub numbers_given : Config → Bool
numbers_given C = every (λ (o : Outside). ltb o.number C.given) C.outside

-- ── the same, on numbers
abbrev pub number_of : RawOutside → ℕ
number_of o = o.number

abbrev pub is_given : ℕ → ℕ → RawOutside → Bool
is_given n _ o = ltb o.number n

module _ (C : RawConfig) {r : Bool} where
  pub answers_rise : rising 0 (map number_of C.outside) ≡ r → Answers r numbers_rise C
  unfolding numbers_rise
  answers_rise e = record { is = λ n t m. sym (ap (rising 0) (map-map (λ (o : Outside). o.number) (decoded_outside n t m) C.outside) ∙ e) }

  pub answers_given : all_from (is_given C.given) 0 C.outside ≡ r → Answers r numbers_given C
  unfolding numbers_given
  answers_given e = record { is = λ n t m. sym (all_map (decoded_outside n t m) _ _ (λ o. refl) C.outside ∙ all_from_lem _ 0 C.outside ∙ e) }

-- ── a loop over the channels has come to position k: what is left of the test, of which `low` is the lowest number
pub record Rise (l : List RawOutside) (low k : ℕ) : Type 0 where
  pub rest : rising 0 (map number_of l) ≡ rising low (map number_of (drop k l))

pub rise_start : {l : List RawOutside} → Rise l 0 0
rise_start = record { rest = refl }

module _ {l : List RawOutside} {low k : ℕ} where
  rise_turn : {o : RawOutside} {t : Bool} → Rise l low k → get_elem? l k ≡ some o → leb low o.number ≡ t
      → rising 0 (map number_of l) ≡ cond t (rising (o.number + 1) (map number_of (drop (k + 1) l))) false
  unfolding rising
  rise_turn {o} r e t =
      r.rest ∙ ap (λ d. rising low (map number_of d)) (drop_at l k e)
      ∙ ap₂ {C = Bool} (λ j m. cond (leb low o.number) (rising j (map number_of (drop m l))) false) (sym (add-one o.number)) (sym (add-one k))
      ∙ ap (λ b. cond b (rising (o.number + 1) (map number_of (drop (k + 1) l))) false) t

  pub rise_passed : {o : RawOutside} → Rise l low k → get_elem? l k ≡ some o → low ≤ o.number → Rise l (o.number + 1) (k + 1)
  rise_passed r e h = record { rest = rise_turn r e (le-leb _ _ h) }

  pub rise_failed : {o : RawOutside} → Rise l low k → get_elem? l k ≡ some o → o.number < low → rising 0 (map number_of l) ≡ false
  rise_failed r e h = rise_turn r e (lt-leb _ _ h)

  pub rise_end : Rise l low k → length l ≤ k → rising 0 (map number_of l) ≡ true
  unfolding rising
  rise_end r h = r.rest ∙ ap (λ d. rising low (map number_of d)) (drop_of_length-le l h)
