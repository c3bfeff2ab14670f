-- Laws of searches: what was found is there, and nothing before it.
use Rattle.std.specs.Prelude.{ℕ, zero, suc, ◌+◌, ◌<◌, List, [], ◌∷◌, Bool, true, false, cond, length}
use Rattle.std.specs.Prelude.{Option, Some, None}
use Rattle.std.proofs.Math.Path.{◌≡◌, refl, subst}
use Rattle.std.proofs.Common.{sym, ap, ap₂, ◌∙◌}
use Rattle.std.proofs.Math.Option.{some}
use Rattle.std.proofs.lemmas.Option.{some_pair_parts}
use native.Mathlib.Omega.{arith}
use Rattle.std.proofs.Math.ListN.{get_elem?}
use Rattle.calculus.specs.Types.{Side, provided, used, other}
use Rattle.run_words.specs.Lists.{All, scan}
use Rattle.run_words.specs.ListLaws.{below_length}
use Rattle.run_words.specs.Raw.{RawEnd, RawProcess, RawOutside, RawConfig}
use Rattle.run_words.specs.Operations.{first_step, first, is_end, held_at, Holder, holder_here, holder_step, holder_of, on_channel, outside_at, or_outside, far_from, far_end}
use Rattle.run_words.specs.declared.records.Far.{Far}
use Rattle.run_words.specs.declared.records.Far.TheVariants as far

-- ── x is the first element that passes the test, at position k
pub data First {A : Type 0} (p : A → Bool) : List A → ℕ → A → Type 0 where
  here : {x : A} {l : List A} → p x ≡ true → First p (x ∷ l) zero x
  later : {x y : A} {l : List A} {k : ℕ} → p y ≡ false → First p l k x → First p (y ∷ l) (suc k) x

module _ {A : Type 0} (p : A → Bool) where
  first_from_lem : (l : List A) (i k : ℕ) → scan (first_step p) None i l ≡ Some k → (m : ℕ) × (x : A) × (k ≡ i + m) × First p l m x
  first_from_lem [] i k e = let z : ◌≡◌ {A = ℕ} 0 1 = cc in absurd (omega arith)
  first_from_lem (y ∷ l) i k e = go (p y) refl e (first_from_lem l (suc i) k)
    where
      go : (t : Bool) → p y ≡ t → cond t (Some i) (scan (first_step p) None (suc i) l) ≡ Some k
          → (scan (first_step p) None (suc i) l ≡ Some k → (m : ℕ) × (x : A) × (k ≡ suc i + m) × First p l m x) → (m : ℕ) × (x : A) × (k ≡ i + m) × First p (y ∷ l) m x
      go true r q h = let z : i ≡ k = cc in (0, y, omega arith, here r)
      go false r q h = let s = h q in (suc s.0, s.1, omega (arith, s.2), later r s.3)

  pub first_at : {l : List A} {k : ℕ} {x : A} → First p l k x → get_elem? l k ≡ some x
  first_at (here r) = refl
  first_at (later r f) = first_at f

  pub first_of : (l : List A) (k : ℕ) → first p l ≡ Some k → (x : A) × First p l k x
  first_of l k e =
      let s = first_from_lem l 0 k e in
      let z : s.0 ≡ k = omega (arith, s.2) in
      (s.1, subst (λ (m : ℕ). First p l m s.1) z s.3)

  pub first_below : (l : List A) (k : ℕ) → first p l ≡ Some k → k < length l
  first_below l k e = below_length l k (first_at (first_of l k e).1)

  -- it is what stands there
  pub first_here : (l : List A) (k : ℕ) {x : A} → first p l ≡ Some k → get_elem? l k ≡ some x → First p l k x
  first_here l k {x} e g =
      let s = first_of l k e in
      let u : some s.0 ≡ some x = sym (first_at s.1) ∙ g in
      let z : s.0 ≡ x = cc in
      subst (First p l k) z s.1

  -- nothing passes the test
  pub none_from : (l : List A) (i : ℕ) → scan (first_step p) None i l ≡ None → All (λ x. p x ≡ false) l
  none_from [] i e = tt
  none_from (y ∷ l) i e = go (p y) refl e (none_from l (suc i))
    where
      go : (t : Bool) → p y ≡ t → cond t (Some i) (scan (first_step p) None (suc i) l) ≡ None
          → (scan (first_step p) None (suc i) l ≡ None → All (λ x. p x ≡ false) l) → (p y ≡ false) × All (λ x. p x ≡ false) l
      go true r q h = let z : ◌≡◌ {A = ℕ} 0 1 = cc in absurd (omega arith)
      go false r q h = (r, h q)

pub held_below : (k : ℕ) (s : Side) (l : List RawEnd) (j : ℕ) → held_at k s l ≡ Some j → j < length l
unfolding held_at
held_below k s l j e = first_below (is_end k s) l j e

-- what stands where it was found
pub held_there_lem : (k : ℕ) (s : Side) (l : List RawEnd) (j : ℕ) → held_at k s l ≡ Some j → (e : RawEnd) × (get_elem? l j ≡ some e)
unfolding held_at
held_there_lem k s l j e = let f = first_of (is_end k s) l j e in (f.0, first_at (is_end k s) f.1)

pub outside_there : (k : ℕ) (l : List RawOutside) (j : ℕ) → outside_at k l ≡ Some j → (o : RawOutside) × (get_elem? l j ≡ some o)
unfolding outside_at
outside_there k l j e = let f = first_of (on_channel k) l j e in (f.0, first_at (on_channel k) f.1)

pub outside_below : (k : ℕ) (l : List RawOutside) (j : ℕ) → outside_at k l ≡ Some j → j < length l
unfolding outside_at
outside_below k l j e = first_below (on_channel k) l j e

-- ── p at place i is the first process that holds an end, at position j
pub data Holds (k : ℕ) (s : Side) : List RawProcess → ℕ → ℕ → RawProcess → Type 0 where
  here : {p : RawProcess} {l : List RawProcess} {j : ℕ} → held_at k s p.held ≡ Some j → Holds k s (p ∷ l) zero j p
  later : {p q : RawProcess} {l : List RawProcess} {i j : ℕ} → held_at k s q.held ≡ None → Holds k s l i j p → Holds k s (q ∷ l) (suc i) j p

module _ (k : ℕ) (s : Side) where
  holds_from : (l : List RawProcess) (n i j : ℕ) → scan (holder_step k s) None n l ≡ Some (i, j) → (m : ℕ) × (p : RawProcess) × (i ≡ n + m) × Holds k s l m j p
  holds_from [] n i j e = let z : ◌≡◌ {A = ℕ} 0 1 = cc in absurd (omega arith)
  holds_from (q ∷ l) n i j e = go (held_at k s q.held) refl e (holds_from l (suc n) i j)
    where
      go : (f : Option ℕ) → held_at k s q.held ≡ f → holder_here n f (scan (holder_step k s) None (suc n) l) ≡ Some (i, j)
          → (scan (holder_step k s) None (suc n) l ≡ Some (i, j) → (m : ℕ) × (p : RawProcess) × (i ≡ suc n + m) × Holds k s l m j p)
          → (m : ℕ) × (p : RawProcess) × (i ≡ n + m) × Holds k s (q ∷ l) m j p
      go (Some c) r e h =
          let (z, y) = some_pair_parts _ _ _ _ e in
          (0, q, omega arith, here (r ∙ ap Some y))
      go None r e h = let t = h e in (suc t.0, t.1, omega (arith, t.2), later r t.3)

  pub holds_at : {l : List RawProcess} {i j : ℕ} {p : RawProcess} → Holds k s l i j p → get_elem? l i ≡ some p
  holds_at (here r) = refl
  holds_at (later r h) = holds_at h

  pub holds_held : {l : List RawProcess} {i j : ℕ} {p : RawProcess} → Holds k s l i j p → held_at k s p.held ≡ Some j
  holds_held (here r) = r
  holds_held (later r h) = holds_held h

  pub holds_of : (l : List RawProcess) (i j : ℕ) → holder_of k s l ≡ Some (i, j) → (p : RawProcess) × Holds k s l i j p
  unfolding holder_of
  holds_of l i j e =
      let t = holds_from l 0 i j e in
      let z : t.0 ≡ i = omega (arith, t.2) in
      (t.1, subst (λ (m : ℕ). Holds k s l m j t.1) z t.3)

  pub holds_here : (l : List RawProcess) (i j : ℕ) {p : RawProcess} → holder_of k s l ≡ Some (i, j) → get_elem? l i ≡ some p → Holds k s l i j p
  holds_here l i j {p} e g =
      let t = holds_of l i j e in
      let u : some t.0 ≡ some p = sym (holds_at t.1) ∙ g in
      let z : t.0 ≡ p = cc in
      subst (Holds k s l i j) z t.1

  -- where to look
  pub holder_place : (l : List RawProcess) (i j : ℕ) → holder_of k s l ≡ Some (i, j) → i < length l
  holder_place l i j e = below_length l i (holds_at (holds_of l i j e).1)

  pub holder_position : (l : List RawProcess) (i j : ℕ) {p : RawProcess} → holder_of k s l ≡ Some (i, j) → get_elem? l i ≡ some p → j < length p.held
  holder_position l i j {p} e g = held_below k s p.held j (holds_held (holds_here l i j e g))

  pub nobody_from : (l : List RawProcess) (n : ℕ) → scan (holder_step k s) None n l ≡ None → All (λ p. held_at k s p.held ≡ None) l
  nobody_from [] n e = tt
  nobody_from (q ∷ l) n e = go (held_at k s q.held) refl e (nobody_from l (suc n))
    where
      go : (f : Option ℕ) → held_at k s q.held ≡ f → holder_here n f (scan (holder_step k s) None (suc n) l) ≡ None
          → (scan (holder_step k s) None (suc n) l ≡ None → All (λ p. held_at k s p.held ≡ None) l)
          → (held_at k s q.held ≡ None) × All (λ p. held_at k s p.held ≡ None) l
      go (Some c) r e h = let z : ◌≡◌ {A = ℕ} 0 1 = cc in absurd (omega arith)
      go None r e h = (r, h e)

-- ── the far end, back to what was found
module _ (C : RawConfig) (k : ℕ) where
  abbrev held : Side → Holder
  held s = holder_of k (other s) C.processes

  pub far_process : (s : Side) (i j : ℕ) → far_end C k s ≡ far.Process i j → held s ≡ Some (i, j)
  unfolding far_end
  far_process s i j e = go (held s) refl e
    where
      at_outside_lem : (s : Side) (f : Option ℕ) → or_outside s f ≡ far.Process i j → ⊥
      at_outside_lem s None e = let z : ◌≡◌ {A = ℕ} 0 1 = cc in omega arith
      at_outside_lem provided (Some n) e = let z : ◌≡◌ {A = ℕ} 0 1 = cc in omega arith
      at_outside_lem used (Some n) e = let z : ◌≡◌ {A = ℕ} 0 1 = cc in omega arith

      go : (h : Holder) → held s ≡ h → far_from h (or_outside s (outside_at k C.outside)) ≡ far.Process i j → held s ≡ Some (i, j)
      go (Some (a, b)) r e =
          let x : a ≡ i = cc in
          let y : b ≡ j = cc in
          r ∙ ap₂ {C = Holder} (λ m n. Some (m, n)) x y
      go None r e = absurd (at_outside_lem s (outside_at k C.outside) e)

  -- nobody holds it
  far_nobody : (s : Side) (f : Far) → ((i j : ℕ) → far.Process i j ≡ f → ⊥) → far_end C k s ≡ f → (held s ≡ None) × (or_outside s (outside_at k C.outside) ≡ f)
  unfolding far_end
  far_nobody s f n e = go (held s) refl e
    where
      go : (h : Holder) → held s ≡ h → far_from h (or_outside s (outside_at k C.outside)) ≡ f → (held s ≡ None) × (or_outside s (outside_at k C.outside) ≡ f)
      go (Some (a, b)) r e = absurd (n a b e)
      go None r e = (r, e)

  pub far_outside : (s : Side) (j : ℕ) → far_end C k s ≡ far.Outside j → (held s ≡ None) × (s ≡ provided) × (outside_at k C.outside ≡ Some j)
  far_outside s j e =
      let t = far_nobody s (far.Outside j) (λ a b q. let z : ◌≡◌ {A = ℕ} 0 1 = cc in omega arith) e in
      let u = go s (outside_at k C.outside) t.1 in
      (t.0, u.0, u.1)
    where
      go : (s : Side) (f : Option ℕ) → or_outside s f ≡ far.Outside j → (s ≡ provided) × (f ≡ Some j)
      go s None e = let z : ◌≡◌ {A = ℕ} 0 1 = cc in absurd (omega arith)
      go provided (Some n) e = let z : n ≡ j = cc in (refl, ap Some z)
      go used (Some n) e = let z : ◌≡◌ {A = ℕ} 0 1 = cc in absurd (omega arith)

  pub far_given_up : (s : Side) → far_end C k s ≡ far.GivenUp → (held s ≡ None) × (or_outside s (outside_at k C.outside) ≡ far.GivenUp)
  far_given_up s e = far_nobody s far.GivenUp (λ a b q. let z : ◌≡◌ {A = ℕ} 0 1 = cc in omega arith) e
