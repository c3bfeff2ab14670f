-- Laws of marks for the channel places.
use Prim.Native.Nat.{ℕ, zero, suc, ◌+◌, ◌≤◌, ◌<◌}
use mathlib.Core.List.{List, [], ◌∷◌, map}
use mathlib.Core.Path.{◌≡◌, refl, sym, ap, subst, ◌∙◌}
use mathlib.Core.Bool.{Bool, true, false, not, cond}
use mathlib.Core.Option.{some}
use native.Mathlib.Omega.{arith}
use native.Mathlib.Numerals.{add-one}
use native.Mathlib.Decide.{ℕ_discrete}
use borrow.Author.Tests.{eq-eqb, ne_eqb}
use Rattle.std.specs.Prelude.{Some, position}
use Rattle.std.specs.List.{position_from}
use Rattle.std.proofs.lemmas.Iterator.Adapters.{position_from-zero}
use lib.ListN.{length, get_or, get_elem?, set, drop, length-set, replicate, length-replicate, get_or-replicate, drop_of_length-le}
use lib.Seq.{get_or-set_same, get_or-set_other}
use Rattle.notation.specs.Limits.{channel_places}
use Rattle.calculus.specs.Configuration.{among, free_from}
use Rattle.run_words.specs.ListLaws.{drop_at}
use Rattle.run_words.specs.Values.{Marked}
use Rattle.run_words.specs.Raw.{RawEnd, RawProcess, RawOutside}
use Rattle.run_words.specs.Operations.{held_channels, process_channels, found_in}

pub unmarked : Marked (replicate channel_places false) []
unmarked = record { long = length-replicate channel_places false; each = λ k h. get_or-replicate channel_places k false false h }

pub mark : (m : List Bool) (l : List ℕ) (c : ℕ) → c < channel_places → Marked m l → Marked (set m c true) (c ∷ l)
mark m l c h a = record { long = length-set m c true ∙ a.long; each = λ k b. at k b (ℕ_discrete k c) }
  where
    at : (k : ℕ) → k < channel_places → Dec (k ≡ c) → get_or (set m c true) k false ≡ among k (c ∷ l)
    at k b (yes p) = ap (λ j. get_or (set m c true) j false) p ∙ get_or-set_same m c true false (omega (arith, a.long)) ∙ sym (ap (λ t. cond t true (among k l)) (eq-eqb k c p))
    at k b (no p) = get_or-set_other m c k true false p ∙ a.each k b ∙ sym (ap (λ t. cond t true (among k l)) (ne_eqb k c p))

pub marked_as : (m : List Bool) {l r : List ℕ} → l ≡ r → Marked m l → Marked m r
marked_as m e a = subst (Marked m) e a

-- lists from their end
module _ {A : Type 0} (l : List A) where
  pub drop_turn : (j k : ℕ) {x : A} → get_elem? l j ≡ some x → k ≡ suc j → drop j l ≡ x ∷ drop k l
  drop_turn j k {x} e q = drop_at l j e ∙ ap (λ (n : ℕ). x ∷ drop n l) (sym q)

  pub drop_none : (k : ℕ) → k ≡ length l → drop k l ≡ []
  drop_none k e = let h : length l ≤ k = omega arith in drop_of_length-le l h

  pub drop_all : (k : ℕ) → k ≡ 0 → drop k l ≡ l
  drop_all k e = ap (λ n. drop n l) e

pub held_turn : (l : List RawEnd) (j k c : ℕ) (r : List ℕ) {e : RawEnd} → get_elem? l j ≡ some e → k ≡ suc j → c ≡ e.channel → c ∷ held_channels (drop k l) r ≡ held_channels (drop j l) r
held_turn l j k c r g q p = ap (λ (x : ℕ). x ∷ held_channels (drop k l) r) p ∙ ap (λ d. held_channels d r) (sym (drop_turn l j k g q))

pub outside_turn : (l : List RawOutside) (j k c : ℕ) {o : RawOutside} → get_elem? l j ≡ some o → k ≡ suc j → c ≡ o.channel
    → c ∷ map (λ (o : RawOutside). o.channel) (drop k l) ≡ map (λ (o : RawOutside). o.channel) (drop j l)
outside_turn l j k c g q p = ap (λ (x : ℕ). x ∷ map (λ (o : RawOutside). o.channel) (drop k l)) p ∙ ap (map (λ (o : RawOutside). o.channel)) (sym (drop_turn l j k g q))

pub process_turn : (l : List RawProcess) (j k : ℕ) (r : List ℕ) {p : RawProcess} → get_elem? l j ≡ some p → k ≡ suc j → held_channels p.held (process_channels (drop k l) r) ≡ process_channels
    (drop j l) r
process_turn l j k r g q = ap (λ d. process_channels d r) (sym (drop_turn l j k g q))

-- ── the first place without a mark is the lowest that is free
free_from_lem : (m : List Bool) (l : List ℕ) (k n : ℕ) → length m ≡ n → ((j : ℕ) → j < n → get_or m j false ≡ among (k + j) l) → position_from not k m ≡ found_in (free_from l k n)
free_from_lem [] l k zero h a = refl
free_from_lem [] l k (suc n) h a = absurd (omega arith)
free_from_lem (x ∷ m) l k zero h a = absurd (omega arith)
free_from_lem (x ∷ m) l k (suc n) h a =
    let rest : position_from not (suc k) m ≡ found_in (free_from l (suc k) n) = free_from_lem m l (suc k) n (omega arith) (λ j b. a (suc j) (omega arith) ∙ ap (λ i. among i l) (omega arith)) in
    let here : x ≡ among k l = a 0 (omega arith) ∙ ap (λ i. among i l) (omega arith) in
    rw (here, add-one) (go (among k l) rest)
  where
    go : (t : Bool) → position_from not (suc k) m ≡ found_in (free_from l (suc k) n)
        → cond (not t) (Some k) (position_from not (suc k) m) ≡ found_in (cond t (free_from l (suc k) n) (some k))
    go true e = e
    go false e = refl

pub free_found : (m : List Bool) (l : List ℕ) → Marked m l → position not m ≡ found_in (free_from l 0 channel_places)
free_found m l a = position_from-zero not m ∙ free_from_lem m l 0 channel_places a.long (λ j b. a.each j b ∙ ap (λ i. among i l) (omega arith))
