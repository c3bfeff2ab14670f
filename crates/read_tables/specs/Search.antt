-- A declaration found by its name: the first of its kind that has it.
use Rattle.std.specs.Prelude.{ℕ, zero, suc, ◌+◌, ◌-◌, ◌*◌, ◌<◌, ◌≤◌, ◌≡◌, refl, List, Bool, true, false, cond, get_or}
use Rattle.std.specs.Prelude.{Option as CodeOption, Some, None}
use Rattle.std.proofs.Common.{sym, ◌∙◌, ap, subst, arith}
use Rattle.std.proofs.Math.Option.{Option, some, none, map}
use Rattle.notation.specs.Bytes.{same}
use Rattle.notation.specs.Token.{name_at}
use Rattle.notation.specs.Tree.{Name}
use Rattle.calculus.specs.Named.{lookup}
use Rattle.read_tables.specs.Decode.{numbered}

abbrev pub place_of : CodeOption ℕ → Option ℕ
place_of (Some i) = some i
place_of None = none

-- the first of n elements from k on that has the name
unfoldable pub first_named : {X : Type 0} → Name → (ℕ → Name × X) → ℕ → ℕ → CodeOption ℕ
first_named name f k zero = None
first_named name f k (suc n) = cond (same name (f k).0) (Some k) (first_named name f (k + 1) n)

-- what r finds under a name in a list whose n elements f gives by number
pub record Sought {X : Type 0} (name : Name) (l : List (Name × X)) (f : ℕ → Name × X) (n : ℕ) (r : CodeOption ℕ) : Type 0 where
  pub is : lookup name l ≡ map (λ i. (f i).1) (place_of r)
  pub below : (i : ℕ) → r ≡ Some i → i < n
  pub first : r ≡ first_named name f 0 n

-- ── a search finds what the list has under the name
module _ {X : Type 0} (name : Name) (f : ℕ → Name × X) where
  -- what r finds among n elements from k on
  pub record SoughtFrom (k n : ℕ) (r : CodeOption ℕ) : Type 0 where
    pub is : lookup name (numbered f k n) ≡ map (λ i. (f i).1) (place_of r)
    pub below : (i : ℕ) → r ≡ Some i → i < k + n

  -- the first of them: found, or passed over
  first_from : (k n : ℕ) (b : Bool) {r : CodeOption ℕ} → SoughtFrom (k + 1) n r
      → (cond b (some (f k).1) (lookup name (numbered f (k + 1) n)) ≡ map (λ i. (f i).1) (place_of (cond b (Some k) r))) × ((i : ℕ) → cond b (Some k) r ≡ Some i → i < k + suc n)
  first_from k n true s = (refl, λ i e. (let z : k ≡ i = cc in omega arith))
  first_from k n false s = (s.is, λ i e. (let l = s.below i e in omega arith))

  sought_from : (n k : ℕ) → SoughtFrom k n (first_named name f k n)
  unfolding lookup first_named
  sought_from zero k = record { is = refl; below = λ i e. absurd (cc) }
  sought_from (suc n) k = let s = first_from k n (same name (f k).0) (sought_from n (k + 1)) in record { is = s.0; below = s.1 }

pub sought_first : {X : Type 0} (name : Name) (l : List (Name × X)) (f : ℕ → Name × X) (n : ℕ) → l ≡ numbered f 0 n → Sought name l f n (first_named name f 0 n)
sought_first name l f n e = let s = sought_from name f n 0 in record { is = ap (lookup name) e ∙ s.is; below = λ i q. (let b = s.below i q in omega arith); first = refl }

-- it turns on nothing but the names
module _ {X Y : Type 0} (name : Name) (f : ℕ → Name × X) (g : ℕ → Name × Y) (e : (k : ℕ) → (g k).0 ≡ (f k).0) where
  names_first : (n k : ℕ) → first_named name g k n ≡ first_named name f k n
  unfolding first_named
  names_first zero k = refl
  names_first (suc n) k = λ j. cond (same name (e k j)) (Some k) (names_first n (k + 1) j)

  pub sought_by : (l : List (Name × X)) (n : ℕ) → l ≡ numbered f 0 n → {m : ℕ} → m ≡ n → {r : CodeOption ℕ} → r ≡ first_named name g 0 m → Sought name l f n r
  sought_by l n q {m} z {r} h = subst (Sought name l f n) (sym (h ∙ ap (first_named name g 0) z ∙ names_first n 0)) (sought_first name l f n q)

-- ── as far as the search has come: what is left decides
-- the names of entries of so many words each from the word `table` on
abbrev pub named_from : List ℕ → List ℕ → ℕ → ℕ → ℕ → Name × Unit {0}
named_from s w table size i = (name_at s (get_or w (table + size * i) 0), tt)

module _ {X : Type 0} (name : Name) (f : ℕ → Name × X) (n : ℕ) where
  pub record Seeking (k : ℕ) : Type 0 where
    pub rest : first_named name f 0 n ≡ first_named name f k (n - k)

  pub seeking_none : Seeking 0
  seeking_none = let z : n ≡ n - 0 = omega arith in record { rest = ap (first_named name f 0) z }

  module _ {k : ℕ} (t : Seeking k) where
    module _ (l : k < n) {x : Name} (p : x ≡ (f k).0) {b : Bool} (u : b ≡ same name x) where
      tested : (q : Bool) → b ≡ q → first_named name f 0 n ≡ cond q (Some k) (first_named name f (k + 1) (n - (k + 1)))
      unfolding first_named
      tested q e =
          let z : n - k ≡ suc (n - (k + 1)) = omega arith in
          t.rest ∙ ap (first_named name f k) z ∙ ap (λ c. cond c (Some k) (first_named name f (k + 1) (n - (k + 1)))) (sym (u ∙ ap (same name) p) ∙ e)

      pub seeking_found : b ≡ true → Some k ≡ first_named name f 0 n
      seeking_found e = sym (tested true e)

      pub seeking_on : b ≡ false → Seeking (k + 1)
      seeking_on e = record { rest = tested false e }

    pub seeking_end : n ≤ k → None ≡ first_named name f 0 n
    unfolding first_named
    seeking_end l = let z : n - k ≡ 0 = omega arith in sym (t.rest ∙ ap (first_named name f k) z)
