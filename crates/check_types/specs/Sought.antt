-- The element of a given number in a list that is walked over part by part.
use Rattle.std.specs.Prelude.{ℕ, zero, suc, ◌+◌, ◌≡◌, refl, List, [], ◌∷◌, ◌++◌, map, length}
use Rattle.std.proofs.Common.{sym, ◌∙◌, ap, subst, arith, length-append}
use Rattle.std.proofs.Math.Option
use Rattle.std.proofs.Math.Option.{some, none, none-ne-some}
use Rattle.std.proofs.Math.ListN.{get_elem?}
use Rattle.std.proofs.lemmas.List.{length-map}

-- what a search comes to: the element; or all were passed over, and so many are still to be
pub data Reached (A : Type 0) : Type 0 where
  there : A → Reached A
  past : ℕ → Reached A

abbrev reaches : {A : Type 0} → List A → ℕ → Reached A → Type 0
reaches l k (there x) = get_elem? l k ≡ some x
reaches l k (past j) = length l + j ≡ k

-- the element k of l
pub record Sought {A : Type 0} (l : List A) (k : ℕ) (r : Reached A) : Type 0 where
  pub is : reaches l k r

-- as far as the search for the element k of l has come: it is the element j of what is left
pub record SoughtOn {A : Type 0} (l : List A) (k : ℕ) (left : List A) (j : ℕ) : Type 0 where
  pub so : (r : Reached A) → Sought left j r → Sought l k r

-- the same of what f makes of each element
abbrev pub mapped : {A B : Type 0} → (A → B) → Reached A → Reached B
mapped f (there x) = there (f x)
mapped f (past j) = past j

-- ── laws
pub sought_map : {A B : Type 0} (f : A → B) (l : List A) (k : ℕ) (r : Reached A) → Sought l k r → Sought (map f l) k (mapped f r)
sought_map {A} {B} f l k (there x) s = record { is = at l k s.is }
  where
    at : (l : List A) (k : ℕ) → get_elem? l k ≡ some x → get_elem? (map f l) k ≡ some (f x)
    at [] k e = absurd (none-ne-some x e)
    at (a ∷ l) zero e = ap (Option.map f) e
    at (a ∷ l) (suc k) e = at l k e
sought_map f l k (past j) s = let y = s.is in record { is = omega (arith, length-map l f) }

module _ {A : Type 0} where
  pub sought_none : (k : ℕ) → Sought {A = A} [] k (past k)
  sought_none k = record { is = omega arith }

  first_there : (l m : List A) (k : ℕ) {x : A} → get_elem? l k ≡ some x → get_elem? (l ++ m) k ≡ some x
  first_there [] m k {x} e = absurd (none-ne-some x e)
  first_there (a ∷ l) m zero e = e
  first_there (a ∷ l) m (suc k) e = first_there l m k e

  rest_there : (l m : List A) (j : ℕ) → get_elem? (l ++ m) (length l + j) ≡ get_elem? m j
  rest_there [] m j = ap (get_elem? m) {x = 0 + j} {y = j} (omega arith)
  rest_there (a ∷ l) m j = ap (get_elem? (a ∷ (l ++ m))) {x = suc (length l) + j} {y = suc (length l + j)} (omega arith) ∙ rest_there l m j

  rest_sought : (l m : List A) (k j : ℕ) (r : Reached A) → length l + j ≡ k → Sought m j r → Sought (l ++ m) k r
  rest_sought l m k j (there x) e s = record { is = ap (get_elem? (l ++ m)) (sym e) ∙ rest_there l m j ∙ s.is }
  rest_sought l m k j (past i) e s = let y = s.is in record { is = omega (arith, length-append l m) }

  pub sought_as : {l m : List A} {k : ℕ} {r : Reached A} → l ≡ m → Sought l k r → Sought m k r
  sought_as {k = k} {r = r} e s = subst (λ x. Sought x k r) e s

  pub sought_start : (l : List A) (k : ℕ) → SoughtOn l k l k
  sought_start l k = record { so = λ r s. s }

  -- what is left begins with x
  module _ {l left : List A} {k i : ℕ} (s : SoughtOn l k left i) (x y : List A) (e : left ≡ x ++ y) where
    sought_begins : (r : Reached A) → Sought (x ++ y) i r → Sought l k r
    sought_begins r t = s.so r (sought_as (sym e) t)

    pub sought_first : {r : Reached A} {a : A} → Sought x i r → r ≡ there a → Sought l k r
    sought_first {r} {a} t q = subst (Sought l k) (sym q) (sought_begins (there a) (record { is = first_there x y i (subst (Sought x i) q t).is }))

    pub sought_on : {r : Reached A} {j : ℕ} → Sought x i r → r ≡ past j → SoughtOn l k y j
    sought_on {r} {j} t q = record { so = λ p u. sought_begins p (rest_sought x y i j p (subst (Sought x i) q t).is u) }

  pub sought_end : {l left : List A} {k j : ℕ} → SoughtOn l k left j → left ≡ [] → Sought l k (past j)
  sought_end {j = j} s e = s.so (past j) (sought_as (sym e) (sought_none j))

  -- where all were passed over, there is none of that number
  pub sought_past : {l : List A} {k j : ℕ} → Sought l k (past j) → get_elem? l k ≡ none
  sought_past {l} {k} {j} s = beyond l k s.is
    where
      beyond : (l : List A) (k : ℕ) → length l + j ≡ k → get_elem? l k ≡ none
      beyond [] k e = refl
      beyond (a ∷ l) zero e = absurd (omega arith)
      beyond (a ∷ l) (suc k) e = beyond l k (omega arith)
