-- Lists: members by their positions, one element changed, put in or taken out, sublists, and lists in which nothing comes twice.
use Rattle.std.specs.Prelude.{ℕ, zero, suc, ◌≤◌, ◌<◌, ◌≡◌, refl, ◌↔◌, ◌≢◌, ◌⊎◌, Bool, true, false, length, take, drop, set, ltb}
use Rattle.std.proofs.Common.{arith, sym, ◌∙◌, ap, subst, inl, inr, true≢false}
use Rattle.std.proofs.Math.Decide.{ℕ_discrete, dec_le}
use mathlib.Core.List.Memᴰ
use mathlib.Core.List.{List, [], ◌∷◌, ◌++◌, map, Sublistᴰ}
use Rattle.std.proofs.Math.Option
use Rattle.std.proofs.Math.Option.{some, none, some-injective, none-ne-some, some-ne-none}
use Rattle.std.proofs.Math.ListN.{get_elem?}
use Rattle.std.proofs.lemmas.List.{length-map}
use Rattle.calculus.specs.Configuration.{Process, relinked, moved_up, moved_down, inserted, removed}
use Rattle.calculus.specs.Named.{In, NoneTwice}
use Rattle.theory_derivations.specs.Booleans.{ltb_iff}
use Rattle.theory_derivations.specs.Lists.{none_iff, sub_in}

-- a test for less that fails
pub not_below : (m n : ℕ) → (ltb m n ≡ false) ↔ (n ≤ m)
not_below m n = (λ e. to (dec_le n m) e, λ h. from (ltb m n) refl h)
  where
    to : Dec (n ≤ m) → ltb m n ≡ false → n ≤ m
    to (yes h) e = h
    to (no h) e = absurd (true≢false (sym ((ltb_iff m n).1 (omega arith)) ∙ e))

    from : (b : Bool) → ltb m n ≡ b → n ≤ m → b ≡ false
    from true e h = let l = (ltb_iff m n).0 e in absurd (omega arith)
    from false e h = refl

-- ── members by their positions
module _ {A : Type 0} where
  pub found_below : (l : List A) (i : ℕ) {a : A} → get_elem? l i ≡ some a → i < length l
  found_below [] i {a} e = absurd (none-ne-some a e)
  found_below (x ∷ l) zero e = omega arith
  found_below (x ∷ l) (suc i) e = omega (arith, found_below l i e)

  pub below_found : (l : List A) (i : ℕ) → i < length l → (a : A) × (get_elem? l i ≡ some a)
  below_found [] i h = absurd (omega arith)
  below_found (x ∷ l) zero h = (x, refl)
  below_found (x ∷ l) (suc i) h = below_found l i (omega arith)

  pub found_in : (l : List A) (i : ℕ) {a : A} → get_elem? l i ≡ some a → In a l
  found_in [] i {a} e = absurd (none-ne-some a e)
  found_in (x ∷ l) zero {a} e = Memᴰ.head (sym (some-injective x a e))
  found_in (x ∷ l) (suc i) e = Memᴰ.tail (found_in l i e)

  pub in_found : {a : A} {l : List A} → In a l → (i : ℕ) × (get_elem? l i ≡ some a)
  in_found (Memᴰ.head e) = (zero, ap some (sym e))
  in_found (Memᴰ.tail m) = let r = in_found m in (suc r.0, r.1)

  -- at one position stands one element
  pub found_one : (l : List A) {i j : ℕ} {a b : A} → i ≡ j → get_elem? l i ≡ some a → get_elem? l j ≡ some b → a ≡ b
  found_one l z e f = some-injective _ _ (sym e ∙ ap (get_elem? l) z ∙ f)

  pub past_the_end : (l : List A) (i : ℕ) → length l ≤ i → get_elem? l i ≡ none
  past_the_end [] i h = refl
  past_the_end (y ∷ l) zero h = absurd (omega arith)
  past_the_end (y ∷ l) (suc i) h = past_the_end l i (omega arith)

  pub none_past : (l : List A) (i : ℕ) → get_elem? l i ≡ none → length l ≤ i
  none_past [] i e = omega arith
  none_past (y ∷ l) zero e = absurd (some-ne-none _ e)
  none_past (y ∷ l) (suc i) e = let h = none_past l i e in omega arith

pub found_map : {A B : Type 0} (f : A → B) (l : List A) (i : ℕ) → get_elem? (map f l) i ≡ Option.map f (get_elem? l i)
found_map f [] i = refl
found_map f (x ∷ l) zero = refl
found_map f (x ∷ l) (suc i) = found_map f l i

-- ── one element changed, put in or taken out
module _ {A : Type 0} where
  pub set_at : (l : List A) (i : ℕ) (a : A) → i < length l → get_elem? (set l i a) i ≡ some a
  set_at [] i a h = absurd (omega arith)
  set_at (x ∷ l) zero a h = refl
  set_at (x ∷ l) (suc i) a h = set_at l i a (omega arith)

  -- two lists make none
  pub nil_left : (l m : List A) → l ++ m ≡ [] → l ≡ []
  nil_left l m e = ((none_iff l m).0 e).0

  pub nil_right : (l m : List A) → l ++ m ≡ [] → m ≡ []
  nil_right l m e = ((none_iff l m).0 e).1

  pub set_twice : (l : List A) (i : ℕ) (a b : A) → set (set l i a) i b ≡ set l i b
  set_twice [] i a b = refl
  set_twice (x ∷ l) zero a b = refl
  set_twice (x ∷ l) (suc i) a b = ap (λ r. x ∷ r) (set_twice l i a b)

  pub set_off : (l : List A) (i j : ℕ) (a : A) → j ≢ i → get_elem? (set l i a) j ≡ get_elem? l j
  set_off [] i j a n = refl
  set_off (x ∷ l) zero zero a n = absurd (n refl)
  set_off (x ∷ l) zero (suc j) a n = refl
  set_off (x ∷ l) (suc i) zero a n = refl
  set_off (x ∷ l) (suc i) (suc j) a n = set_off l i j a (λ e. n (ap suc e))

  -- an element after one was replaced: the new one, or an old one elsewhere
  pub set_cases : (l : List A) (i : ℕ) (a : A) → i < length l → (j : ℕ) (r : A) → get_elem? (set l i a) j ≡ some r → ((j ≡ i) × (a ≡ r)) ⊎ ((j ≢ i) × (get_elem? l j ≡ some r))
  set_cases l i a h j r e = go (ℕ_discrete j i)
    where
      go : Dec (j ≡ i) → ((j ≡ i) × (a ≡ r)) ⊎ ((j ≢ i) × (get_elem? l j ≡ some r))
      go (yes z) = inl (z, some-injective a r (sym (set_at l i a h) ∙ ap (get_elem? (set l i a)) (sym z) ∙ e))
      go (no n) = inr (n, sym (set_off l i j a n) ∙ e)

  -- an element put in at n, and the one at n taken out
  abbrev pub put_in : ℕ → A → List A → List A
  put_in n a l = take n l ++ (a ∷ drop n l)

  abbrev pub take_out : ℕ → List A → List A
  take_out n l = take n l ++ drop (suc n) l

  pub in_low : (n : ℕ) (a : A) (l : List A) (j : ℕ) → j < length l → j < n → get_elem? (put_in n a l) j ≡ get_elem? l j
  in_low zero a l j h k = absurd (omega arith)
  in_low (suc n) a [] j h k = absurd (omega arith)
  in_low (suc n) a (x ∷ l) zero h k = refl
  in_low (suc n) a (x ∷ l) (suc j) h k = in_low n a l j (omega arith) (omega arith)

  pub in_here : (n : ℕ) (a : A) (l : List A) → n ≤ length l → get_elem? (put_in n a l) n ≡ some a
  in_here zero a l h = refl
  in_here (suc n) a [] h = absurd (omega arith)
  in_here (suc n) a (x ∷ l) h = in_here n a l (omega arith)

  pub in_high : (n : ℕ) (a : A) (l : List A) (j : ℕ) → n ≤ length l → n ≤ j → get_elem? (put_in n a l) (suc j) ≡ get_elem? l j
  in_high zero a l j h k = refl
  in_high (suc n) a [] j h k = absurd (omega arith)
  in_high (suc n) a (x ∷ l) zero h k = absurd (omega arith)
  in_high (suc n) a (x ∷ l) (suc j) h k = in_high n a l j (omega arith) (omega arith)

  pub out_low : (n : ℕ) (l : List A) (j : ℕ) → j < n → get_elem? (take_out n l) j ≡ get_elem? l j
  out_low zero l j k = absurd (omega arith)
  out_low (suc n) [] j k = refl
  out_low (suc n) (x ∷ l) zero k = refl
  out_low (suc n) (x ∷ l) (suc j) k = out_low n l j (omega arith)

  pub out_high : (n : ℕ) (l : List A) (j : ℕ) → n ≤ j → get_elem? (take_out n l) j ≡ get_elem? l (suc j)
  out_high zero [] j k = refl
  out_high zero (x ∷ l) j k = refl
  out_high (suc n) [] j k = refl
  out_high (suc n) (x ∷ l) zero k = absurd (omega arith)
  out_high (suc n) (x ∷ l) (suc j) k = out_high n l j (omega arith)

  pub length_in : (n : ℕ) (a : A) (l : List A) → length (put_in n a l) ≡ suc (length l)
  length_in zero a l = refl
  length_in (suc n) a [] = refl
  length_in (suc n) a (x ∷ l) = ap suc (length_in n a l)

  pub length_out : (n : ℕ) (l : List A) → n < length l → suc (length (take_out n l)) ≡ length l
  length_out n [] h = absurd (omega arith)
  length_out zero (x ∷ l) h = refl
  length_out (suc n) (x ∷ l) h = ap suc (length_out n l (omega arith))

-- a process put in after a place, or taken out
pub length_inserted : (k : ℕ) (x : Process) (l : List Process) → length (inserted k x l) ≡ suc (length l)
unfolding inserted
length_inserted k x l = length_in (suc k) x (map (relinked (moved_up k)) l) ∙ ap suc (length-map l (relinked (moved_up k)))

pub length_removed : (k : ℕ) (l : List Process) → k < length l → suc (length (removed k l)) ≡ length l
unfolding removed
length_removed k l h =
    let e = length-map l (relinked (moved_down k)) in
    length_out k (map (relinked (moved_down k)) l) (omega arith) ∙ e

-- ── no element twice
module _ {A B : Type 0} (f : A → B) where
  -- what is found twice is one element
  pub once_by : {x y : A} {l : List A} → NoneTwice (map f l) → In x l → In y l → f x ≡ f y → x ≡ y
  once_by u (Memᴰ.head h) (Memᴰ.head g) z = h ∙ sym g
  once_by u (Memᴰ.head h) (Memᴰ.tail k) z = absurd (u.0 (Memᴰ.cast (ap f (sym h) ∙ z) (Memᴰ.map f k)))
  once_by u (Memᴰ.tail k) (Memᴰ.head g) z = absurd (u.0 (Memᴰ.cast (ap f (sym g) ∙ sym z) (Memᴰ.map f k)))
  once_by u (Memᴰ.tail k) (Memᴰ.tail n) z = once_by u.1 k n z

module _ {A : Type 0} where
  pub once_append : (l m : List A) → NoneTwice l → NoneTwice m → ((x : A) → In x l → In x m → ⊥) → NoneTwice (l ++ m)
  once_append [] m u w n = w
  once_append (x ∷ l) m u w n = ((λ i. go (Memᴰ.append_cases l i)), once_append l m u.1 w (λ y i. n y (Memᴰ.tail i)))
    where
      go : In x l ⊎ In x m → ⊥
      go (inl i) = u.0 i
      go (inr i) = n x (Memᴰ.head refl) i

  pub once_snoc : (l : List A) (x : A) → NoneTwice l → ¬ In x l → NoneTwice (l ++ (x ∷ []))
  once_snoc l x u n = once_append l (x ∷ []) u (Memᴰ.not-nil, tt) (λ y i j. n (Memᴰ.cast (sym (Memᴰ.eq_of_singleton j)) i))

  -- two lists, one after the other
  pub once_left : (l m : List A) → NoneTwice (l ++ m) → NoneTwice l
  once_left [] m u = tt
  once_left (x ∷ l) m u = ((λ i. u.0 (Memᴰ.append_left m i)), once_left l m u.1)

  pub once_right : (l m : List A) → NoneTwice (l ++ m) → NoneTwice m
  once_right [] m u = u
  once_right (x ∷ l) m u = once_right l m u.1

  pub once_apart : (l m : List A) → NoneTwice (l ++ m) → {x y : A} → In x l → In y m → x ≢ y
  once_apart [] m u i j z = elim i [ ]
  once_apart (a ∷ l) m u (Memᴰ.head e) j z = u.0 (Memᴰ.append_right l (Memᴰ.cast (sym e ∙ z) j))
  once_apart (a ∷ l) m u (Memᴰ.tail i) j z = once_apart l m u.1 i j z

pub map-append : {A B : Type 0} (f : A → B) (l m : List A) → map f (l ++ m) ≡ map f l ++ map f m
map-append f [] m = refl
map-append f (x ∷ l) m = ap (λ r. f x ∷ r) (map-append f l m)

-- ── sublists
module _ {A : Type 0} where
  pub sub_once : {B : Type 0} (f : A → B) {l m : List A} → Sublistᴰ l m → NoneTwice (map f m) → NoneTwice (map f l)
  sub_once f Sublistᴰ.slnil u = tt
  sub_once f (Sublistᴰ.cons s) u = sub_once f s u.1
  sub_once f (Sublistᴰ.cons-cons {l₁ = l} e s) u = (
    (λ i. let r = Memᴰ.of_map f l i in u.0 (Memᴰ.cast (ap f (sym e) ∙ sym r.2) (Memᴰ.map f (sub_in s r.1)))),
    sub_once f s u.1,
  )

  pub length_snoc : (l : List A) (x : A) → length (l ++ (x ∷ [])) ≡ suc (length l)
  length_snoc [] x = refl
  length_snoc (y ∷ l) x = ap suc (length_snoc l x)

-- a search that says what it found
pub search : {A : Type 0} {Q : A → Type 0} → ((x : A) → Dec (Q x)) → (l : List A) → Dec ((x : A) × In x l × Q x)
search d [] = no λ r. Memᴰ.not-nil r.1
search {A} {Q} d (a ∷ l) = go (d a) (search d l)
  where
    go : Dec (Q a) → Dec ((x : A) × In x l × Q x) → Dec ((x : A) × In x (a ∷ l) × Q x)
    go (yes q) r = yes (a, Memᴰ.head refl, q)
    go (no n) (yes r) = yes (r.0, Memᴰ.tail r.1, r.2)
    go (no n) (no f) = no λ r. none_of r.0 r.2 (Memᴰ.cases_cons r.1)
      where
        none_of : (x : A) → Q x → (x ≡ a) ⊎ In x l → ⊥
        none_of x q (inl e) = n (subst Q e q)
        none_of x q (inr m) = f (x, m, q)
