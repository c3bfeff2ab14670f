-- Laws of searches in lists.
use Prim.Native.Nat.{ℕ, zero, suc, ◌+◌, ◌-◌, ◌*◌, ◌≤◌, ◌<◌}
use Rattle.std.specs.Prelude.{Option as CodeOption, Some, None}
use native.Mathlib.Omega.{arith}
use mathlib.Core.List.{List}
use mathlib.Core.Path.{◌≡◌, refl, sym, ap, ap₂, ◌∙◌}
use mathlib.Core.Option.{Option, some}
use mathlib.Core.Bool.{Bool, true, false, cond, ◌&&◌}
use borrow.Author.Tests.{eq-eqb, ne_eqb}
use lib.Dec.{eqb}
use lib.ListN.{length, get_elem?, drop}
use Rattle.calculus.specs.Types.{Side, provided, used, other}
use Rattle.run_words.specs.Lists.{scan}
use Rattle.run_words.specs.ListLaws.{length_tab, at_tab, scan_step, scan_end}
use Rattle.run_words.specs.Raw.{RawEnd, RawProcess, RawConfig, side_of, end_of, process_of, process_row, places_at, place_words, ends_from, end_words, side_radix, held_count, end_by}
use Rattle.run_words.specs.Values.{end_in}
use Rattle.run_words.specs.Operations.{first_step, is_end, held_at, Holder, holder_here, holder_step, holder_of, outside_at, or_outside, far_from, far_end}
use Rattle.run_words.specs.RowLaws.{end_of_lem}
use Rattle.run_words.specs.SliceLaws.{word}
use Rattle.run_words.specs.declared.records.End.{End}
use Rattle.run_words.specs.declared.records.Far.{Far}
use Rattle.run_words.specs.declared.records.Far.TheVariants as far
use Rattle.run_words.proofs.Ends.{same_sides}

-- a search from a position on
abbrev pub first_from : {A : Type 0} → (A → Bool) → List A → ℕ → CodeOption ℕ
first_from p l i = scan (first_step p) None i (drop i l)

module _ {A : Type 0} (p : A → Bool) (l : List A) (i : ℕ) {x : A} (e : get_elem? l i ≡ some x) where
  pub stops_here : p x ≡ true → first_from p l i ≡ Some i
  stops_here t = scan_step (first_step p) None l i e ∙ ap (λ b. cond b (Some i) (first_from p l (i + 1))) t

  pub goes_on_lem : p x ≡ false → first_from p l i ≡ first_from p l (i + 1)
  goes_on_lem t = scan_step (first_step p) None l i e ∙ ap (λ b. cond b (Some i) (first_from p l (i + 1))) t

-- the test of an end
module _ (channel side : ℕ) (e : End) (s : side < 2) (t : e.side < 2) where
  end_test : is_end channel (side_of side) (end_in e) ≡ eqb channel e.channel && eqb side e.side
  end_test = ap (λ b. eqb channel e.channel && b) (same_sides side e.side s t)

  pub end_found_lem : channel ≡ e.channel → side ≡ e.side → is_end channel (side_of side) (end_in e) ≡ true
  end_found_lem p q = rw (end_test, eq-eqb _ _ p, eq-eqb _ _ q)

  pub end_other_side : channel ≡ e.channel → (side ≡ e.side → ⊥) → is_end channel (side_of side) (end_in e) ≡ false
  end_other_side p q = rw (end_test, eq-eqb _ _ p, ne_eqb _ _ q)

  pub end_elsewhere : (channel ≡ e.channel → ⊥) → is_end channel (side_of side) (end_in e) ≡ false
  end_elsewhere p = rw (end_test, ne_eqb _ _ p)

-- the same search in the words of the process at a place: its end k begins at the word `at`
abbrev pub held_there : List ℕ → ℕ → List RawEnd
held_there ws i = (process_of (process_row ws i)).held

abbrev pub held_from : ℕ → ℕ → List ℕ → ℕ → ℕ → CodeOption ℕ
held_from channel side ws i k = first_from (is_end channel (side_of side)) (held_there ws i) k

pub length_there : (ws : List ℕ) (i : ℕ) → length (held_there ws i) ≡ process_row ws i 2
length_there ws i = length_tab (λ j. end_of (λ t. process_row ws i (3 + 2 * j + t))) (process_row ws i 2)

pub end_there : (ws : List ℕ) (i k at : ℕ) → k < held_count ws i → at ≡ places_at + ends_from + place_words * i + end_words * k → get_elem? (held_there ws i) k ≡ some (end_by (word ws at) (word ws (at + 1)))
end_there ws i k at h e =
    let x : places_at + place_words * i + (ends_from + end_words * k + 0) ≡ at = omega arith in
    let y : places_at + place_words * i + (ends_from + end_words * k + 1) ≡ at + 1 = omega arith in
    at_tab _ (held_count ws i) k h ∙ ap {B = Option RawEnd} some (end_of_lem (λ t. process_row ws i (ends_from + end_words * k + t)) (ap (word ws) x) (ap (word ws) y))

module _ (ws : List ℕ) (i k : ℕ) (e : End) (g : get_elem? (held_there ws i) k ≡ some (end_in e)) (b : e.side < side_radix) (channel side : ℕ) (s : side < side_radix) where
  pub there_stops : channel ≡ e.channel → side ≡ e.side → held_from channel side ws i k ≡ Some k
  there_stops p q = stops_here (is_end channel (side_of side)) (held_there ws i) k g (end_found_lem channel side e s b p q)

  pub there_other_side : channel ≡ e.channel → (side ≡ e.side → ⊥) → held_from channel side ws i k ≡ held_from channel side ws i (k + 1)
  there_other_side p q = goes_on_lem (is_end channel (side_of side)) (held_there ws i) k g (end_other_side channel side e s b p q)

  pub there_elsewhere : (channel ≡ e.channel → ⊥) → held_from channel side ws i k ≡ held_from channel side ws i (k + 1)
  there_elsewhere p = goes_on_lem (is_end channel (side_of side)) (held_there ws i) k g (end_elsewhere channel side e s b p)

pub there_ends : (channel side : ℕ) (ws : List ℕ) (i k : ℕ) → process_row ws i 2 ≤ k → held_from channel side ws i k ≡ None
there_ends channel side ws i k h =
    scan_end (first_step (is_end channel (side_of side))) None (held_there ws i) k (omega (arith, length_there ws i))

-- the search for a holder from a place on
abbrev pub holder_from : ℕ → Side → List RawProcess → ℕ → Holder
holder_from k s l i = scan (holder_step k s) None i (drop i l)

pub holder_turn : (k : ℕ) (s : Side) (l : List RawProcess) (i : ℕ) {p : RawProcess} (f : CodeOption ℕ) → get_elem? l i ≡ some p → held_at k s p.held ≡ f → holder_from k s l i ≡ holder_here i f
    (holder_from k s l (i + 1))
holder_turn k s l i f e q = scan_step (holder_step k s) None l i e ∙ ap (λ x. holder_here i x (holder_from k s l (i + 1))) q

-- the far end, case by case
other_side : (s : ℕ) → s < 2 → side_of (1 - s) ≡ other (side_of s)
other_side zero h = refl
other_side (suc s) h = let e : 1 - suc s ≡ 0 = omega arith in ap side_of e

used_outside : (f : CodeOption ℕ) → or_outside used f ≡ far.GivenUp
used_outside (Some j) = refl
used_outside None = refl

module _ (C : RawConfig) (k s : ℕ) (h : s < 2) (x : Holder) (e : holder_of k (side_of (1 - s)) C.processes ≡ x) where
  far_from_lem : far_end C k (side_of s) ≡ far_from x (or_outside (side_of s) (outside_at k C.outside))
  unfolding far_end
  far_from_lem = ap (λ y. far_from y (or_outside (side_of s) (outside_at k C.outside))) (ap (λ o. holder_of k o C.processes) (sym (other_side s h)) ∙ e)

  pub far_held : (i j : ℕ) → x ≡ Some (i, j) → far_end C k (side_of s) ≡ far.Process i j
  far_held i j p = far_from_lem ∙ ap (λ y. far_from y (or_outside (side_of s) (outside_at k C.outside))) p

  pub far_used : x ≡ None → s ≡ 1 → far_end C k (side_of s) ≡ far.GivenUp
  far_used p q =
      far_from_lem ∙ ap₂ {C = Far} (λ y o. far_from y (or_outside (side_of o) (outside_at k C.outside))) p q ∙ used_outside (outside_at k C.outside)

  pub far_provided : x ≡ None → (s ≡ 1 → ⊥) → (f : CodeOption ℕ) → outside_at k C.outside ≡ f → far_end C k (side_of s) ≡ or_outside provided f
  far_provided p q f g =
      let z : s ≡ 0 = omega arith in
      far_from_lem ∙ ap₂ {C = Far} (λ y o. far_from y (or_outside (side_of o) (outside_at k C.outside))) p z ∙ ap (or_outside provided) g
