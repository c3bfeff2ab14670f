-- The lowest of a list of offsets, kept while the list is made.
use Rattle.std.specs.Prelude.{Option, Some, None}
use Rattle.std.specs.Prelude.{ℕ, suc, ◌+◌, ◌-◌, ◌<◌, ◌≤◌, ◌≡◌, refl, List, [], ◌∷◌, ◌++◌, true, false, cond, ltb}
use Rattle.std.proofs.Common.{sym, ◌∙◌, ap, arith}
use Rattle.calculus.specs.Verdict.{Verdict, fine, refused, lower, lowest, faults}
use Rattle.check_declarations.specs.Listed.{fold}

-- the lowest offset so far, if there is one
abbrev pub Lowest : Type 0
Lowest = Option ℕ

abbrev pub under : Lowest → ℕ → Lowest
under None j = Some j
under (Some i) j = Some (lower i j)

unfoldable pub lowest_with : Lowest → List ℕ → Lowest
lowest_with l [] = l
lowest_with l (j ∷ js) = lowest_with (under l j) js

-- no offset yet
abbrev pub least : Lowest
least = None

-- r is the lowest of low and the offsets
pub record Lowered (low : Lowest) (xs : List ℕ) (r : Lowest) : Type 0 where
  pub is : r ≡ lowest_with low xs

-- ── what the lowest offset says
abbrev pub refused_at : ℕ → Lowest → Verdict
refused_at n None = fine
refused_at n (Some i) = refused n i

lowest_at : (n i : ℕ) (is : List ℕ) → refused n (lowest i is) ≡ refused_at n (lowest_with (Some i) is)
unfolding lowest_with
lowest_at n i [] = refl
lowest_at n i (j ∷ js) = lowest_at n (lower i j) js

pub faults_lowest : (n : ℕ) (xs : List ℕ) → faults n xs ≡ refused_at n (lowest_with None xs)
unfolding faults lowest_with
faults_lowest n [] = refl
faults_lowest n (i ∷ is) = lowest_at n i is

-- ── lists one after the other
pub lowest_append : (l : Lowest) (xs ys : List ℕ) → lowest_with l (xs ++ ys) ≡ lowest_with (lowest_with l xs) ys
unfolding lowest_with
lowest_append l [] ys = refl
lowest_append l (x ∷ xs) ys = lowest_append (under l x) xs ys

pub lowered_none : {l : Lowest} → Lowered l [] l
unfolding lowest_with
lowered_none = record { is = refl }

pub lowered_one : {l r : Lowest} {j : ℕ} → r ≡ under l j → Lowered l (j ∷ []) r
unfolding lowest_with
lowered_one e = record { is = e }

-- one offset more: the first, one below the lowest so far, one that is not
pub under_nothing : {l : Lowest} {j : ℕ} → l ≡ None → Lowered l (j ∷ []) (Some j)
under_nothing e = rw e (lowered_one refl)

pub under_lower : {l : Lowest} {i j : ℕ} → l ≡ Some i → ltb j i ≡ true → Lowered l (j ∷ []) (Some j)
under_lower {l} {i} {j} e t = rw e (lowered_one (ap (λ b. Some (cond b j i)) (sym t)))

pub under_higher : {l : Lowest} {i j : ℕ} → l ≡ Some i → ltb j i ≡ false → Lowered l (j ∷ []) (Some i)
under_higher {l} {i} {j} e t = rw e (lowered_one (ap (λ b. Some (cond b j i)) (sym t)))

pub lowered_then : {l k r : Lowest} {xs ys : List ℕ} → Lowered l xs k → Lowered k ys r → Lowered l (xs ++ ys) r
lowered_then {l} {k} {r} {xs} {ys} a b = record { is = b.is ∙ ap (λ m. lowest_with m ys) a.is ∙ sym (lowest_append l xs ys) }

pub lowered_as : {l r : Lowest} {xs ys : List ℕ} → xs ≡ ys → Lowered l xs r → Lowered l ys r
lowered_as {l} e a = record { is = a.is ∙ ap (lowest_with l) e }

-- what is left to take, ys under l, is as the whole, xs under low
pub record Left (low : Lowest) (xs : List ℕ) (l : Lowest) (ys : List ℕ) : Type 0 where
  pub rest : lowest_with low xs ≡ lowest_with l ys

pub left_all : {l : Lowest} {xs : List ℕ} → Left l xs l xs
left_all = record { rest = refl }

module _ {low l : Lowest} {xs : List ℕ} where
  pub left_as : {ys zs : List ℕ} → ys ≡ zs → Left low xs l ys → Left low xs l zs
  left_as e t = record { rest = t.rest ∙ ap (lowest_with l) e }

  pub left_after : {k : Lowest} {ys zs : List ℕ} → Left low xs l (ys ++ zs) → Lowered l ys k → Left low xs k zs
  left_after {k} {ys} {zs} t a = record { rest = t.rest ∙ lowest_append l ys zs ∙ ap (λ m. lowest_with m zs) (sym a.is) }

  pub left_done : {k : Lowest} {ys : List ℕ} → Left low xs l ys → Lowered l ys k → Lowered low xs k
  left_done t a = record { is = a.is ∙ sym t.rest }

-- ── the offsets that g gives for n numbers from i on
abbrev pub over : (ℕ → List ℕ) → ℕ → ℕ → List ℕ
over = fold ◌++◌ []

-- a walk over n numbers that has come to the number i
pub record Walking (g : ℕ → List ℕ) (low : Lowest) (n i : ℕ) (l : Lowest) : Type 0 where
  pub upto : i ≤ n
  pub left : Left low (over g 0 n) l (over g i (n - i))

pub walk_start : {g : ℕ → List ℕ} {low : Lowest} {n : ℕ} → Walking g low n 0 low
walk_start {g} {n = n} = let z : n ≡ n - 0 = omega arith in record { upto = omega arith; left = left_as (ap (over g 0) z) left_all }

pub walk_on : {g : ℕ → List ℕ} {low l k : Lowest} {n i j : ℕ} → j ≡ i + 1 → Walking g low n i l → i < n → Lowered l (g i) k → Walking g low n j k
walk_on {g} {n = n} {i = i} p t h a =
    let e : n - i ≡ suc (n - (i + 1)) = omega arith in
    rw p (record { upto = omega arith; left = left_after (left_as (ap (over g i) e) t.left) a })

pub walk_end : {g : ℕ → List ℕ} {low l : Lowest} {n i : ℕ} → Walking g low n i l → n ≤ i → Lowered low (over g 0 n) l
walk_end {g} {n = n} {i = i} t h =
    let z : n - i ≡ 0 = omega arith in
    left_done (left_as (ap (over g i) z) t.left) lowered_none
