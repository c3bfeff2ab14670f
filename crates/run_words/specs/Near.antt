-- Who holds an end that no two processes hold: sought outwards from a place.
use Rattle.std.specs.Prelude.{ℕ, zero, suc, ◌+◌, ◌≤◌, ◌<◌, List, [], ◌∷◌, Bool, true, false, ◌&&◌, eqb, length}
use Rattle.std.specs.Prelude.{Option as CodeOption, Some, None, IsSome}
use Rattle.std.proofs.Common.{◌∙◌, arith, eqb-true}
use Rattle.std.proofs.Math.Path.{◌≡◌, refl, sym, ap, ap₂}
use Rattle.std.proofs.lemmas.Bool.{false≢true}
use Rattle.std.proofs.Math.Option.{Option, some, none}
use Rattle.std.proofs.Math.ListN.{get_elem?}
use Rattle.calculus.specs.Types.{Side, provided, used, same_side}
use Rattle.run_words.specs.ListLaws.{all_at, below_length}
use Rattle.run_words.specs.Raw.{RawEnd, RawProcess}
use Rattle.run_words.specs.Operations.{is_end, held_at, Holder, holder_here, holder_of}
use Rattle.run_words.specs.SearchLaws.{First, here, later, first_at, first_of, holds_of, holds_at, holds_held, nobody_from}

-- ── what is found has the channel and the side
first_test : {A : Type 0} (p : A → Bool) {l : List A} {k : ℕ} {x : A} → First p l k x → p x ≡ true
first_test p (here r) = r
first_test p (later r f) = first_test p f

same_side_lem : (a b : Side) → same_side a b ≡ true → a ≡ b
same_side_lem provided provided e = refl
same_side_lem provided used e = absurd (false≢true e)
same_side_lem used provided e = absurd (false≢true e)
same_side_lem used used e = refl

both_true : (a b : Bool) → a && b ≡ true → (a ≡ true) × (b ≡ true)
both_true true b e = (refl, e)
both_true false b e = absurd (false≢true e)

pub held_key : (k : ℕ) (s : Side) (l : List RawEnd) (j : ℕ) → held_at k s l ≡ Some j → (e : RawEnd) × (get_elem? l j ≡ some e) × (e.channel ≡ k) × (e.side ≡ s)
unfolding held_at
held_key k s l j q =
    let f = first_of (is_end k s) l j q in
    let t = both_true (eqb k f.0.channel) (same_side s f.0.side) (first_test (is_end k s) f.1) in
    (f.0, first_at (is_end k s) f.1, sym (eqb-true _ _ t.0), sym (same_side_lem _ _ t.1))

-- ── the process at a place as the holder of an end
abbrev pub held_by : ℕ → Side → ℕ → Option RawProcess → Holder
held_by k s i none = None
held_by k s i (some p) = holder_here i (held_at k s p.held) None

abbrev pub held_around : ℕ → Side → List RawProcess → ℕ → Holder
held_around k s l i = held_by k s i (get_elem? l i)

past : (l : List RawProcess) (i : ℕ) → length l ≤ i → get_elem? l i ≡ none
past [] i h = refl
past (x ∷ l) zero h = absurd (omega arith)
past (x ∷ l) (suc i) h = past l i (omega arith)

module _ (k : ℕ) (s : Side) (l : List RawProcess) (i : ℕ) where
  pub nobody_past : length l ≤ i → held_around k s l i ≡ None
  nobody_past h = ap (held_by k s i) (past l i h)

  pub held_here : {p : RawProcess} (f : CodeOption ℕ) → get_elem? l i ≡ some p → held_at k s p.held ≡ f → held_around k s l i ≡ holder_here i f None
  held_here f g h = ap (held_by k s i) g ∙ ap (λ (r : CodeOption ℕ). holder_here i r None) h

-- no end is held by two processes
pub record HeldOnce (l : List RawProcess) : Type 0 where
  pub one : (k : ℕ) (s : Side) (i j a b : ℕ) (p q : RawProcess) → get_elem? l i ≡ some p → get_elem? l j ≡ some q → held_at k s p.held ≡ Some a → held_at k s q.held ≡ Some b → i ≡ j

module _ (k : ℕ) (s : Side) (l : List RawProcess) where
  holder_is : HeldOnce l → (i a : ℕ) {p : RawProcess} → get_elem? l i ≡ some p → held_at k s p.held ≡ Some a → holder_of k s l ≡ Some (i, a)
  unfolding holder_of
  holder_is o i a {p} g h = go (holder_of k s l) refl
    where
      go : (x : Holder) → holder_of k s l ≡ x → holder_of k s l ≡ Some (i, a)
      go None e =
          let n : held_at k s p.held ≡ None = all_at _ l i (nobody_from k s l 0 e) g in
          let z : ◌≡◌ {A = ℕ} 0 1 = cc in
          absurd (omega arith)
      go (Some (j, b)) e =
          let (q, f) = holds_of k s l j b e in
          let z = o.one k s i j a b p q g (holds_at k s f) h (holds_held k s f) in
          let u : some q ≡ some p = sym (holds_at k s f) ∙ ap (get_elem? l) (sym z) ∙ g in
          let y : q ≡ p = cc in
          let v : Some b ≡ Some a = sym (holds_held k s f) ∙ ap (λ (r : RawProcess). held_at k s r.held) y ∙ h in
          let x : b ≡ a = cc in
          e ∙ ap₂ {C = Holder} (λ m n. Some (m, n)) (sym z) x

  pub near_found : HeldOnce l → (i : ℕ) → IsSome (held_around k s l i) → held_around k s l i ≡ holder_of k s l
  near_found o i e = at (get_elem? l i) refl e
    where
      by : (p : RawProcess) → get_elem? l i ≡ some p → (f : CodeOption ℕ) → held_at k s p.held ≡ f → IsSome (holder_here i f None) → holder_here i f None ≡ holder_of k s l
      by p g (Some a) h e = sym (holder_is o i a g h)
      by p g None h e = absurd (false≢true e)

      at : (o : Option RawProcess) → get_elem? l i ≡ o → IsSome (held_by k s i o) → held_around k s l i ≡ holder_of k s l
      at none g e = absurd (false≢true e)
      at (some p) g e = ap (held_by k s i) g ∙ by p g (held_at k s p.held) refl e

-- ── as far as the search has come: nobody at most d places up, or fewer than d down
pub record Around (k : ℕ) (s : Side) (l : List RawProcess) (place d : ℕ) : Type 0 where
  pub nobody : (j : ℕ) → j ≤ place + d → place < j + d → held_around k s l j ≡ None

module _ {k : ℕ} {s : Side} {l : List RawProcess} {place d : ℕ} (t : Around k s l place d) where
  pub around_all : place < length l → length l ≤ d → holder_of k s l ≡ None
  around_all b c = go (holder_of k s l) refl
    where
      go : (x : Holder) → holder_of k s l ≡ x → holder_of k s l ≡ None
      go None e = e
      go (Some (i, a)) e =
          let (p, f) = holds_of k s l i a e in
          let g = holds_at k s f in
          let h = holds_held k s f in
          let n : held_around k s l i ≡ Some (i, a) = held_here k s l i (Some a) g h in
          let m : held_around k s l i ≡ None = t.nobody i (omega (arith, below_length l i g)) (omega (arith, below_length l i g)) in
          let z : ◌≡◌ {A = ℕ} 0 1 = cc in
          absurd (omega arith)
