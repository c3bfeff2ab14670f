-- Names compared byte by byte, from two offsets on: a name is its first byte and the name after it, or none.
use Prim.Native.Nat.{ℕ, zero, suc, ◌+◌, ◌-◌, ◌≤◌, ◌<◌}
use mathlib.Core.Path.{◌≡◌, refl, sym, ap, ap₂, subst, ◌∙◌}
use mathlib.Core.List.{List, [], ◌∷◌}
use mathlib.Core.Bool.{Bool, true, false, false≢true, not}
use native.Mathlib.Numerals.{add-one, unary_clauses}
use native.Mathlib.Decide.{dec_lt}
use native.Mathlib.Omega.{arith}
use lib.Dec.{T, eqb}
use lib.ListN.{length, get_or, drop, drop_of_length-le, length-take, length-drop, get_or-eq_default}
use lib.Seq.{drop-cons, take-nil, get_or-take, get_or-drop}
use borrow.Author.Tests.{eq-eqb, ne_eqb}
use Rattle.notation.specs.Bytes.{letter, name_byte, position, same}
use Rattle.notation.specs.Token.{name_end, name_at}
use Rattle.notation.proofs.ByteTables.{same→eq}
use Rattle.notation.proofs.Scans.{same_length}
use Rattle.notation.proofs.Tokens.{find_ge, find_le}

-- the same bytes as itself
same_self : (xs : List ℕ) → true ≡ same xs xs
unfolding same
same_self [] = refl
same_self (x ∷ xs) = rw (same, eq-eqb x x refl) (same_self xs)

pub same_names : (s : List ℕ) (a b : ℕ) → a ≡ b → true ≡ same (name_at s a) (name_at s b)
same_names s a b e = same_self (name_at s a) ∙ ap (λ i. same (name_at s a) (name_at s i)) e

-- one byte more in front of each
same_first : (x y : ℕ) (xs ys : List ℕ) → x ≡ y → same (x ∷ xs) (y ∷ ys) ≡ same xs ys
unfolding same
same_first x y xs ys e = rw (same, eq-eqb x y e)

other_first : (x y : ℕ) (xs ys : List ℕ) → (x ≡ y → ⊥) → same (x ∷ xs) (y ∷ ys) ≡ false
unfolding same
other_first x y xs ys e = rw (same, ne_eqb x y e)

same_empty : (xs : List ℕ) → eqb (length xs) 0 ≡ same xs []
unfolding same
same_empty [] = refl
same_empty (x ∷ xs) = ne_eqb (length (x ∷ xs)) 0 (λ e. omega arith)

pub negated : (b t : Bool) → not b ≡ t → b ≡ not t
negated true t e = ap not e
negated false t e = ap not e

-- past the text there is no byte of a name
past_none : (s : List ℕ) (i : ℕ) → length s ≤ i → name_byte (get_or s i 0) ≡ false
unfolding name_byte letter
past_none s i h = ap name_byte (get_or-eq_default s 0 h)

module _ (s : List ℕ) (i : ℕ) where
  name_in : name_byte (get_or s i 0) ≡ true → i < length s
  name_in e = go (dec_lt i (length s))
    where
      go : Dec (i < length s) → i < length s
      go (yes l) = l
      go (no n) = absurd (false≢true (sym (past_none s i (omega arith)) ∙ e))

  name_none : name_byte (get_or s i 0) ≡ false → name_at s i ≡ []
  unfolding name_at name_end position
  name_none e = go (dec_lt i (length s))
    where
      go : Dec (i < length s) → name_at s i ≡ []
      go (yes l) = let z : i - i ≡ 0 = omega arith in rw (drop-cons s i 0 l, position, e, z)
      go (no n) = rw (drop_of_length-le s {i = i} (omega arith)) (take-nil (i - i))

  pub name_more : name_byte (get_or s i 0) ≡ true → name_at s i ≡ get_or s i 0 ∷ name_at s (suc i)
  unfolding name_at name_end position
  name_more e =
      let l = name_in e in
      let g = find_ge (λ b. not (name_byte b)) (drop (suc i) s) (suc i) in
      let z : position (λ b. not (name_byte b)) (drop (suc i) s) (suc i) - i ≡ suc (position (λ b. not (name_byte b)) (drop (suc i) s) (suc i) - suc i) = omega arith in
      rw (drop-cons s i 0 l, position, e, z)

  -- by how many bytes the name has: whether one of its bytes stands here
  name_stops : 0 ≡ length (name_at s i) → name_byte (get_or s i 0) ≡ false
  name_stops e = go (name_byte (get_or s i 0)) refl
    where
      go : (t : Bool) → name_byte (get_or s i 0) ≡ t → t ≡ false
      go true f = absurd (omega (arith, ap length (name_more f)))
      go false f = refl

  name_goes : (n : ℕ) → suc n ≡ length (name_at s i) → (name_byte (get_or s i 0) ≡ true) × (n ≡ length (name_at s (i + 1)))
  name_goes n e = go (name_byte (get_or s i 0)) refl
    where
      go : (t : Bool) → name_byte (get_or s i 0) ≡ t → (t ≡ true) × (n ≡ length (name_at s (i + 1)))
      go true f = (refl, rw (add-one i) (omega (arith, ap length (name_more f))))
      go false f = absurd (omega (arith, ap length (name_none f)))

  -- its bytes are those of the text
  pub name_long : name_end s i - i ≡ length (name_at s i)
  unfolding name_at name_end
  name_long =
      let name : ℕ → Bool = λ b. not (name_byte b) in
      omega (arith, find_ge name (drop i s) i, find_le name (drop i s) i, length-take (name_end s i - i) (drop i s))

  pub name_fits : length (name_at s i) ≤ length s - i
  unfolding name_at
  name_fits = omega (arith, length-take (name_end s i - i) (drop i s), length-drop i s)

  name_byte_lem : (k : ℕ) → k < length (name_at s i) → get_or (name_at s i) k 0 ≡ get_or s (i + k) 0
  unfolding name_at
  name_byte_lem k h = let l : k < name_end s i - i = omega (arith, name_long) in rw (get_or-take, get_or-drop)

-- the names at a and b are compared up to x and y, and are alike so far
pub record Matched (s : List ℕ) (a b x y : ℕ) : Type 0 where
  pub left : same (name_at s x) (name_at s y) ≡ same (name_at s a) (name_at s b)

module _ {s : List ℕ} {a b x y : ℕ} (m : Matched s a b x y) where
  -- the first name has come to its end
  pub matched_end : name_byte (get_or s x 0) ≡ false → not (name_byte (get_or s y 0)) ≡ same (name_at s a) (name_at s b)
  unfolding same
  matched_end e = go (name_byte (get_or s y 0)) refl ∙ m.left
    where
      go : (t : Bool) → name_byte (get_or s y 0) ≡ t → not t ≡ same (name_at s x) (name_at s y)
      go true f = sym (ap₂ same (name_none s x e) (name_more s y f))
      go false f = sym (ap₂ same (name_none s x e) (name_none s y f))

  pub matched_past : length s ≤ x → not (name_byte (get_or s y 0)) ≡ same (name_at s a) (name_at s b)
  matched_past h = matched_end (past_none s x h)

  pub matched_differ : name_byte (get_or s x 0) ≡ true → (get_or s x 0 ≡ get_or s y 0 → ⊥) → false ≡ same (name_at s a) (name_at s b)
  unfolding same
  matched_differ e d = go (name_byte (get_or s y 0)) refl ∙ m.left
    where
      go : (t : Bool) → name_byte (get_or s y 0) ≡ t → false ≡ same (name_at s x) (name_at s y)
      go true f = sym (ap₂ same (name_more s x e) (name_more s y f) ∙ other_first (get_or s x 0) (get_or s y 0) (name_at s (suc x)) (name_at s (suc y)) d)
      go false f = sym (ap₂ same (name_more s x e) (name_none s y f))

  -- a byte further both
  pub matched_in : name_byte (get_or s x 0) ≡ true → get_or s x 0 ≡ get_or s y 0 → y < length s
  matched_in e d = name_in s y (ap name_byte (sym d) ∙ e)

  pub matched_next : name_byte (get_or s x 0) ≡ true → get_or s x 0 ≡ get_or s y 0 → Matched s a b (x + 1) (y + 1)
  unfolding same
  matched_next e d =
      let f : name_byte (get_or s y 0) ≡ true = ap name_byte (sym d) ∙ e in
      let n : same (name_at s x) (name_at s y) ≡ same (name_at s (suc x)) (name_at s (suc y)) =
      ap₂ same (name_more s x e) (name_more s y f) ∙ same_first (get_or s x 0) (get_or s y 0) (name_at s (suc x)) (name_at s (suc y)) d in
      record { left = rw (add-one x, add-one y) (sym n ∙ m.left) }

-- all bytes of the first name are alike: the second is the same where it ends there too
matched_all : (n : ℕ) {s : List ℕ} {a b x y : ℕ} → Matched s a b x y → n ≡ length (name_at s x) → ((j : ℕ) → j < n → get_or s (x + j) 0 ≡ get_or s (y + j) 0)
    → not (name_byte (get_or s (y + n) 0)) ≡ same (name_at s a) (name_at s b)
matched_all zero {s = s} {x = x} m e f = simp unary_clauses (matched_end m (name_stops s x e))
matched_all (suc n) {s = s} {x = x} {y = y} m e f =
    let g = name_goes s x n e in
    let past : (i j : ℕ) → i + 1 + j ≡ i + suc j = λ i j. omega arith in
    rw (← past y n)
    (matched_all n (matched_next m g.0 (simp unary_clauses at (f 0 (omega arith)))) g.1 (λ j h. rw (past x j, past y j) (f (suc j) (omega arith))))

-- ── n bytes compared from the last one: those from the k-th on are alike
pub record AlikeFrom (s : List ℕ) (a b n k : ℕ) : Type 0 where
  pub most : k ≤ n
  pub bytes : (j : ℕ) → k ≤ j → j < n → get_or s (a + j) 0 ≡ get_or s (b + j) 0

pub alike_none : (s : List ℕ) (a b n : ℕ) → AlikeFrom s a b n n
alike_none s a b n = record { most = omega arith; bytes = λ j h l. absurd (omega arith) }

pub alike_more : {s : List ℕ} {a b n k : ℕ} → AlikeFrom s a b n k → 0 < k → get_or s (a + (k - 1)) 0 ≡ get_or s (b + (k - 1)) 0 → AlikeFrom s a b n (k - 1)
alike_more {s = s} {a = a} {b = b} {n = n} {k = k} v h e = record { most = omega (arith, v.most); bytes = λ j l m. go j l m (dec_lt j k) }
  where
    go : (j : ℕ) → k - 1 ≤ j → j < n → Dec (j < k) → get_or s (a + j) 0 ≡ get_or s (b + j) 0
    go j l m (yes r) = let z : j ≡ k - 1 = omega arith in rw z e
    go j l m (no r) = v.bytes j (omega arith) m

-- the name at b compared with the one at a, which has n bytes
module _ (s : List ℕ) (a b n : ℕ) (e : n ≡ length (name_at s a)) where
  -- past the text there is the empty name
  pub other_past : length s ≤ b → eqb n 0 ≡ same (name_at s a) (name_at s b)
  other_past h = rw (e, name_none s b (past_none s b h)) (same_empty (name_at s a))

  -- fewer bytes are left than the name has
  pub other_short : length s - b < n → false ≡ same (name_at s a) (name_at s b)
  other_short h = sym (same_length (name_at s a) (name_at s b) (λ l. omega (arith, name_fits s b)))

  pub other_byte : (k : ℕ) → k < n → (get_or s (a + k) 0 ≡ get_or s (b + k) 0 → ⊥) → false ≡ same (name_at s a) (name_at s b)
  other_byte k h d = go (same (name_at s a) (name_at s b)) refl
    where
      go : (t : Bool) → same (name_at s a) (name_at s b) ≡ t → false ≡ t
      go true r =
          let q : name_at s a ≡ name_at s b = same→eq (name_at s a) (name_at s b) (subst T (sym r) tt) in
          absurd (d (sym (name_byte_lem s a k (omega arith)) ∙ ap (λ l. get_or l k 0) q ∙ name_byte_lem s b k (omega (arith, ap length q))))
      go false r = refl

  pub alike_all : {k : ℕ} → AlikeFrom s a b n k → k ≤ 0 → not (name_byte (get_or s (b + n) 0)) ≡ same (name_at s a) (name_at s b)
  alike_all v h = matched_all n (record { left = refl }) e (λ j l. v.bytes j (omega arith) l)

-- a name is no longer than its text
pub name_within : (s : List ℕ) (at : ℕ) {x : List ℕ} → x ≡ name_at s at → length x ≤ length s
unfolding name_at
name_within s at e = omega (arith, ap length e, length-take (name_end s at - at) (drop at s), length-drop at s)
