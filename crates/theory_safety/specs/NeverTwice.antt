-- "numbers are never given twice in a run".
use Rattle.std.specs.Prelude.{ℕ, zero, suc, ◌+◌, ◌≤◌, ◌≡◌, refl, List, [], ◌∷◌, ◌++◌, map, length}
use Rattle.std.proofs.Common.{arith, sym, ◌∙◌, ap, subst}
use mathlib.Core.List.Memᴰ
use Rattle.notation.specs.Tree.{Name, Ty}
use Rattle.calculus.specs.Program.{Signature, Program}
use Rattle.calculus.specs.Configuration.{Outside, Config}
use Rattle.calculus.specs.Steps.{carried, step}
use Rattle.calculus.specs.Runs.{start_outside, start_config, report}
use Rattle.calculus.specs.Named.{In, NoneTwice}
use Rattle.calculus.specs.declared.answers.Seen.{Seen}
use Rattle.calculus.specs.declared.answers.Seen.TheVariants.{Nothing, Label, Close, Passed, Cancelled}
use Rattle.theory_reductions.specs.Halting.{Counted, carried_counts}

-- steps from C to D, each at some place, that show these one after another
abbrev pub Steps : Program → Config → List Seen → Config → Type 0
Steps p C [] D = C ≡ D
Steps p C (seen ∷ l) D = (i : ℕ) × (E : Config) × (step p C i ≡ carried seen E) × Steps p E l D

-- the numbers under which channels are passed out, in the order of the steps
abbrev pub number_of : Seen → List ℕ → List ℕ
number_of Nothing r = r
number_of (Label n l) r = r
number_of (Close n) r = r
number_of (Passed n m gone) r = m ∷ r
number_of (Cancelled n) r = r

abbrev pub numbers_passed : List Seen → List ℕ
numbers_passed [] = []
numbers_passed (seen ∷ l) = number_of seen (numbers_passed l)

-- n numbers from k on
abbrev pub numbers_from : ℕ → ℕ → List ℕ
numbers_from k zero = []
numbers_from k (suc n) = k ∷ numbers_from (suc k) n

-- a list of so many numbers from g on, after which h are given
pub record InOrder (g : ℕ) (l : List ℕ) (h : ℕ) : Type 0 where
  pub count : ℕ
  pub numbers : l ≡ numbers_from g count
  pub after : h ≡ g + count

-- one step before
pub one_step : (g h k : ℕ) (seen : Seen) (l : List ℕ) → Counted g seen h → InOrder h l k → InOrder g (number_of seen l) k
one_step g h k Nothing l e r = subst (λ x. InOrder x l k) e r
one_step g h k (Label n m) l e r = subst (λ x. InOrder x l k) e r
one_step g h k (Close n) l e r = subst (λ x. InOrder x l k) e r
one_step g h k (Passed n m gone) l (e, f) r =
    let r' = subst (λ x. InOrder x l k) f r in
    record { count = suc r'.count; numbers = (λ i. e i ∷ r'.numbers i); after = omega (arith, r'.after) }
one_step g h k (Cancelled n) l e r = subst (λ x. InOrder x l k) e r

-- the channels that are passed out take the numbers that follow those given before, in order
pub passed_in_order : (p : Program) (C D : Config) (l : List Seen) → Steps p C l D → InOrder C.given (numbers_passed l) D.given
passed_in_order p C D [] e = record { count = 0; numbers = refl; after = (let f = ap (λ (X : Config). X.given) e in omega (arith, f)) }
passed_in_order p C D (seen ∷ l) (i, E, e, r) =
    one_step C.given E.given D.given seen (numbers_passed l) (carried_counts p C i seen e) (passed_in_order p E D l r)

-- ── so none comes twice, and none is below the first
from_least : (k n m : ℕ) → In m (numbers_from k n) → k ≤ m
from_least k zero m h = absurd (Memᴰ.not-nil h)
from_least k (suc n) m (Memᴰ.head e) = omega (arith, e)
from_least k (suc n) m (Memᴰ.tail h) = omega (arith, from_least (suc k) n m h)

from_once : (k n : ℕ) → NoneTwice (numbers_from k n)
from_once k zero = tt
from_once k (suc n) = ((λ h. let l = from_least (suc k) n k h in omega arith), from_once (suc k) n)

module _ {g : ℕ} {l : List ℕ} {h : ℕ} (o : InOrder g l h) where
  pub order_once : NoneTwice l
  order_once = subst NoneTwice (sym o.numbers) (from_once g o.count)

  pub order_new : (m : ℕ) → In m l → g ≤ m
  order_new m i = from_least g o.count m (subst (In m) o.numbers i)

module _ (p : Program) (C D : Config) (l : List Seen) (r : Steps p C l D) where
  -- the numbers that the steps of a run pass out are all different
  pub passed_once : NoneTwice (numbers_passed l)
  passed_once = order_once (passed_in_order p C D l r)

  -- and none of them was given before
  pub passed_new : (m : ℕ) → In m (numbers_passed l) → C.given ≤ m
  passed_new = order_new (passed_in_order p C D l r)

-- ── from the start on: the numbers of the signature's channels are the first
numbers_join : (k j a b n : ℕ) → j ≡ k + a → n ≡ a + b → numbers_from k a ++ numbers_from j b ≡ numbers_from k n
numbers_join k j zero b n e f =
    let x : j ≡ k = omega (arith, e) in
    let y : b ≡ n = omega (arith, f) in
    λ i. numbers_from (x i) (y i)
numbers_join k j (suc a) b n e f =
    let y : suc (a + b) ≡ n = omega (arith, f) in
    ap (λ r. k ∷ r) (numbers_join (suc k) j a b (a + b) (omega (arith, e)) refl) ∙ ap (numbers_from k) y

start_numbers : (k : ℕ) (l : List (Name × Ty Name)) → map (λ (o : Outside). o.number) (start_outside k l) ≡ numbers_from k (length l)
start_numbers k [] = refl
start_numbers k (e ∷ l) = ap (λ r. k ∷ r) (start_numbers (suc k) l)

-- every number that a run gives, at its start and after it: those from 0 on, in order
pub start_order : (s : Signature) {l : List ℕ} {h : ℕ} → InOrder (start_config s).given l h → report (start_config s) ++ l ≡ numbers_from 0 h
unfolding report start_config
start_order s {h = h} o =
    (λ i. start_numbers 0 s.provides i ++ o.numbers i) ∙ numbers_join 0 (length s.provides) (length s.provides) o.count h (omega arith) o.after

pub start_once : (s : Signature) {l : List ℕ} {h : ℕ} → InOrder (start_config s).given l h → NoneTwice (report (start_config s) ++ l)
start_once s {h = h} o = subst NoneTwice (sym (start_order s o)) (from_once 0 h)

-- "numbers are never given twice in a run"
pub never_twice : (p : Program) (s : Signature) (D : Config) (l : List Seen) → Steps p (start_config s) l D → NoneTwice (report (start_config s) ++ numbers_passed l)
never_twice p s D l r = start_once s (passed_in_order p (start_config s) D l r)
