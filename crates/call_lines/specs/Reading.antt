-- The loops over the bytes of a line and of a log: what is looked for in all of them is what is looked for from i on.
use Rattle.std.specs.Prelude.{ℕ, suc, ◌+◌, ◌-◌, ◌≤◌, ◌<◌, ◌≡◌, refl, List, [], ◌∷◌, Bool, true, false, ◌&&◌, ltb, eqb, length, take, drop, get_or, count_by, Some, None}
use Rattle.std.proofs.Math.Path.{sym, ap}
use Rattle.std.proofs.Common.{◌∙◌, add-one, arith, drop_of_length-le, length-drop, drop-cons, take_all}
use Rattle.std.proofs.Math.Bool.{cond}
use Rattle.std.proofs.lemmas.Bool.Decides.{nat_tests}
use Rattle.std.proofs.lemmas.List.Recursion.{is_sum_by}
use Rattle.std.specs.List.{starts_with}
use Rattle.std.specs.Cmp.Lexicographic.{pointwise}
use Rattle.notation.specs.Bytes.{within}
use Rattle.call_lines.specs.CallLine.{begins, numbers, with_digit, number_from, before, is_feed, is_sought, seek, fed, feeds}
use Rattle.call_lines.specs.declared.log.Sought.{Sought}

-- a list from i on: its first element and the rest, or nothing
module _ (l : List ℕ) (i : ℕ) where
  from_here : i < length l → drop i l ≡ get_or l i 0 ∷ drop (i + 1) l
  from_here h = drop-cons l i 0 h ∙ ap (λ k. get_or l i 0 ∷ drop k l) (sym (add-one i))

  pub none_from : length l ≤ i → drop i l ≡ []
  none_from h = drop_of_length-le l h

  -- as a part of a slice
  pub part_from : take (length l - i) (drop i l) ≡ drop i l
  part_from = take_all (length l - i) (drop i l) (omega (arith, length-drop i l))

-- ── a list begins with a word, as the library's `strip_prefix` and `starts_with` say it
chosen : (b t : Bool) → cond b t false ≡ (b && t)
chosen true t = refl
chosen false t = refl

either_way : (x y : ℕ) → eqb x y ≡ eqb y x
either_way x y = grind (arith, nat_tests)

pub front_is : (w l : List ℕ) → begins w l ≡ pointwise eqb (take (length w) l) w
unfolding begins
front_is [] l = refl
front_is (x ∷ w) [] = refl
front_is (x ∷ w) (y ∷ l) = ap (λ t. cond (eqb y x) t false) (front_is w l) ∙ chosen (eqb y x) (pointwise eqb (take (length w) l) w)

pub begins_is : (w l : List ℕ) → begins w l ≡ starts_with eqb l w
unfolding begins
begins_is [] l = refl
begins_is (x ∷ w) [] = refl
begins_is (x ∷ w) (y ∷ l) = ap (λ t. cond (eqb y x) t false) (begins_is w l) ∙ chosen (eqb y x) (starts_with eqb l w) ∙ ap (λ b. b && starts_with eqb l w) (either_way y x)

-- ── a number
pub number_step : (l : List ℕ) (i n : ℕ) → i < length l → number_from n (drop i l) ≡ cond (within 48 57 (get_or l i 0)) (cond (ltb (with_digit n (get_or l i 0)) numbers) (number_from (with_digit n (get_or l i 0)) (drop (i + 1) l)) None) None
unfolding number_from
number_step l i n h = ap (number_from n) (from_here l i h)

pub number_end : (l : List ℕ) (i n : ℕ) → length l ≤ i → number_from n (drop i l) ≡ Some n
unfolding number_from
number_end l i n h = ap (number_from n) (none_from l i h)

-- ── what stands before a word
module _ (w l : List ℕ) (i : ℕ) where
  pub before_step : i < length l → before w (drop i l) ≡ cond (starts_with eqb (take (length l - i) (drop i l)) w) 0 (suc (before w (drop (i + 1) l)))
  unfolding before
  before_step h =
      ap (before w) (from_here l i h)
      ∙ ap (λ b. cond b 0 (suc (before w (drop (i + 1) l)))) (begins_is w (get_or l i 0 ∷ drop (i + 1) l) ∙ ap (λ x. starts_with eqb x w) (sym (from_here l i h) ∙ sym (part_from l i)))

  pub before_end : length l ≤ i → before w (drop i l) ≡ 0
  unfolding before
  before_end h = ap (before w) (none_from l i h)

-- ── the first line that is sought
module _ (sought : Sought) (starts : Bool) (l : List ℕ) (i : ℕ) where
  pub seek_step : i < length l → seek sought starts (drop i l) ≡ cond (starts && is_sought sought (take (length l - i) (drop i l))) 0 (suc (seek sought (is_feed (get_or l i 0)) (drop (i + 1) l)))
  unfolding seek
  seek_step h =
      ap (seek sought starts) (from_here l i h)
      ∙ ap (λ x. cond (starts && is_sought sought x) 0 (suc (seek sought (is_feed (get_or l i 0)) (drop (i + 1) l)))) (sym (from_here l i h) ∙ sym (part_from l i))

  pub seek_end : length l ≤ i → seek sought starts (drop i l) ≡ 0
  unfolding seek
  seek_end h = ap (seek sought starts) (none_from l i h)

-- ── line feeds, as the library counts them
pub feeds_is : (l : List ℕ) → feeds l ≡ count_by is_feed l
unfolding feeds
feeds_is = is_sum_by feeds fed refl (λ _ _. refl)
