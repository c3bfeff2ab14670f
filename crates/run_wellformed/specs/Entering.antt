-- Ends as the code takes them: by the numbers of their words, and from lists by position.
use Rattle.std.specs.Prelude.{ℕ, zero, suc, ◌+◌, ◌-◌, ◌<◌, ◌≡◌, refl, List, [], ◌∷◌, ◌++◌, map, Bool, true, false, cond, length, get_or, set, drop}
use Rattle.std.proofs.Common.{sym, ◌∙◌, ap, subst, arith, add-one, eq-eqb, ne_eqb}
use Rattle.std.proofs.Math.Option.{some}
use Rattle.std.proofs.Math.ListN.{get_elem?}
use Rattle.calculus.specs.Types.{other}
use Rattle.run_words.specs.ListLaws.{drop_at}
use Rattle.run_words.specs.Raw.{RawEnd, RawProcess, RawOutside, side_of}
use Rattle.run_words.specs.Values.{end_in}
use Rattle.run_words.specs.declared.records.End.{End}
use Rattle.run_wellformed.specs.Kept.{keys, place_of, far_same, fits, Entered, misfit, added, process_ends, outside_end}

-- ── words of an end
other_side : (x : ℕ) → x < 2 → side_of (1 - x) ≡ other (side_of x)
other_side zero h = refl
other_side (suc zero) h = refl
other_side (suc (suc x)) h = absurd (omega arith)

-- ── the words of an end's key and of its far end's are read
module _ (s w ws : List ℕ) (e : End) (short : e.channel < 512) (two : e.side < 2) (here : ℕ) (p : here ≡ place_of e.channel (side_of e.side)) where
  pub key_twice : (get_or ws here 0 ≡ 0 → ⊥) → Entered s w ws ws (end_in e ∷ []) false
  key_twice d =
      misfit s w ws (end_in e)
      (ap (λ t. cond t (far_same s w e.node (get_or ws (place_of e.channel (other (side_of e.side))) 0)) false) (ne_eqb _ 0 (λ q. d (ap (λ k. get_or ws k 0) p ∙ q))))

  module _ (z : get_or ws here 0 ≡ 0) (there : ℕ) (q : there ≡ place_of e.channel (side_of (1 - e.side))) {r : Bool} (f : r ≡ far_same s w e.node (get_or ws there 0)) where
    free : get_or ws (place_of e.channel (side_of e.side)) 0 ≡ 0
    free = ap (λ k. get_or ws k 0) (sym p) ∙ z

    fits_as : {t : Bool} → r ≡ t → fits s w ws e.channel (side_of e.side) e.node ≡ t
    fits_as h =
        ap (λ t. cond t (far_same s w e.node (get_or ws (place_of e.channel (other (side_of e.side))) 0)) false) (eq-eqb _ 0 free)
        ∙ ap (λ k. far_same s w e.node (get_or ws k 0)) (sym (q ∙ ap (place_of e.channel) (other_side e.side two))) ∙ sym f ∙ h

    pub far_differs : r ≡ false → Entered s w ws ws (end_in e ∷ []) false
    far_differs h = misfit s w ws (end_in e) (fits_as h)

    pub key_kept : r ≡ true → length ws ≡ keys → Entered s w ws (set ws here (e.node + 1)) (end_in e ∷ []) true
    key_kept h l =
        subst (λ k. Entered s w ws (set ws k (e.node + 1)) (end_in e ∷ []) true) (sym p)
        (subst (λ n. Entered s w ws (set ws (place_of e.channel (side_of e.side)) n) (end_in e ∷ []) true) (sym (add-one e.node)) (added s w ws (end_in e) short l free (fits_as h)))

-- ── from a position on
pub held_turn : (l : List RawEnd) (k : ℕ) {e : RawEnd} → get_elem? l k ≡ some e → drop k l ≡ (e ∷ []) ++ drop (k + 1) l
held_turn l k {e} g = drop_at l k g ∙ ap (λ m. e ∷ drop m l) (sym (add-one k))

pub process_turn : (l : List RawProcess) (i : ℕ) {p : RawProcess} → get_elem? l i ≡ some p → process_ends (drop i l) ≡ p.held ++ process_ends (drop (i + 1) l)
process_turn l i {p} g = ap process_ends (drop_at l i g) ∙ ap (λ m. p.held ++ process_ends (drop m l)) (sym (add-one i))

pub outside_turn : (l : List RawOutside) (k : ℕ) {o : RawOutside} → get_elem? l k ≡ some o → map outside_end (drop k l) ≡ (outside_end o ∷ []) ++ map outside_end (drop (k + 1) l)
outside_turn l k {o} g = ap (map outside_end) (drop_at l k g) ∙ ap (λ m. outside_end o ∷ map outside_end (drop m l)) (sym (add-one k))
