-- Refusal 9: the types that reach @, -o or &, by a mark for each declared type.
use Prim.Native.Nat.{ℕ, zero, suc, ◌+◌, ◌-◌, ◌<◌, ◌≤◌}
use Rattle.std.specs.Prelude.{◌≡◌, Bool, true, cond, not, length, get_or, set, replicate, ◌⊎◌}
use Rattle.std.proofs.Math.Path.{refl, ap}
use Rattle.std.proofs.Common.{sym, ◌∙◌, true≢false, add-one, length-set, get_or-set_same, get_or-set_other, inl, inr, eq-or-lt_of_le}
use mathlib.Core.List.{List, [], ◌∷◌}
use Rattle.std.proofs.Math.Bool.{false, ◌||◌}
use Rattle.std.proofs.lemmas.Bool.{false≢true}
use native.Mathlib.Omega.{arith}
use Rattle.notation.specs.Bytes.{same}
use Rattle.notation.specs.Token.{name_at}
use Rattle.notation.specs.Tree.{Name, Ty}
use Rattle.notation.specs.Limits.{type_limit}
use Rattle.calculus.specs.Declarations.{has_other, names_with_other, reach_other}
use Rattle.calculus.specs.Named.{any_of}
use Rattle.read_tables.specs.Decode.{tally_in, numbered}
use Rattle.read_tables.specs.declared.access.Labelled.{Labelled}
use Rattle.read_tables.specs.Access.{TypeOf}
use Rattle.read_tables.specs.Program.{program_in, plain_in, named_type, types_in}
use Rattle.check_declarations.specs.Listed.{fold}

-- ── a test of one number among n
unfoldable pub any_below : (ℕ → Bool) → ℕ → Bool
any_below g n = fold ◌||◌ false g 0 n

-- a search that has come to the number i
pub record Testing (g : ℕ → Bool) (n i : ℕ) : Type 0 where
  pub upto : i ≤ n
  pub rest : any_below g n ≡ fold ◌||◌ false g i (n - i)

module _ {g : ℕ → Bool} {n : ℕ} where
  pub test_start : Testing g n 0
  unfolding any_below
  test_start = let z : n ≡ n - 0 = omega arith in record { upto = omega arith; rest = ap (fold ◌||◌ false g 0) z }

  pub test_end : {i : ℕ} → Testing g n i → n ≤ i → false ≡ any_below g n
  test_end {i} t h = let z : n - i ≡ 0 = omega arith in sym (t.rest ∙ ap (fold ◌||◌ false g i) z)

  module _ {i : ℕ} (t : Testing g n i) (h : i < n) {r : Bool} (e : r ≡ g i) where
    tested : {b : Bool} → r ≡ b → any_below g n ≡ (b || fold ◌||◌ false g (i + 1) (n - (i + 1)))
    tested q =
        let z : n - i ≡ suc (n - (i + 1)) = omega arith in
        t.rest ∙ ap (fold ◌||◌ false g i) z ∙ ap (λ x. x || fold ◌||◌ false g (i + 1) (n - (i + 1))) (sym e ∙ q)

    pub test_found : r ≡ true → true ≡ any_below g n
    test_found q = sym (tested q)

    pub test_on : {j : ℕ} → j ≡ i + 1 → r ≡ false → Testing g n j
    test_on p q = rw p (record { upto = omega arith; rest = tested q })

-- no number below n has what none has
none_below : (g : ℕ → Bool) (n i : ℕ) → false ≡ fold ◌||◌ false g i n → (k : ℕ) → i ≤ k → k < i + n → g k ≡ false
none_below g zero i e k a b = absurd (omega arith)
none_below g (suc n) i e k a b = go (g i) refl e (λ q c. none_below g n (i + 1) q k c (omega arith))
  where
    go : (x : Bool) → g i ≡ x → false ≡ (x || fold ◌||◌ false g (i + 1) n)
        → (false ≡ fold ◌||◌ false g (i + 1) n → i + 1 ≤ k → g k ≡ false) → g k ≡ false
    go true p q later = absurd (false≢true q)
    go false p q later = at (eq-or-lt_of_le a)
      where
        at : (i ≡ k) ⊎ (i < k) → g k ≡ false
        at (inl z) = ap g (sym z) ∙ p
        at (inr c) = later q (omega arith)

-- the names of the marked types among n from the number i on
abbrev marked_from : (ℕ → Name × Ty Name) → List Bool → ℕ → ℕ → List Name
marked_from f m i zero = []
marked_from f m i (suc n) = cond (get_or m i false) ((f i).0 ∷ marked_from f m (i + 1) n) (marked_from f m (i + 1) n)

unfoldable pub marked : List ℕ → List ℕ → List Bool → List Name
marked s w m = marked_from (named_type s w) m 0 (tally_in w).types

-- the type i, whose mark is b, is marked and has the name x
unfoldable pub marked_so : List ℕ → List ℕ → Bool → Name → ℕ → Bool
marked_so s w b x i = cond b (same x (named_type s w i).0) false

abbrev pub is_marked : List ℕ → List ℕ → List Bool → Name → ℕ → Bool
is_marked s w m x i = marked_so s w (get_or m i false) x i

-- two lists of marks differ at the number i
abbrev pub differs : Bool → Bool → Bool
differs a b = cond a (not b) b

abbrev pub differs_at : List Bool → List Bool → ℕ → Bool
differs_at a b i = differs (get_or a i false) (get_or b i false)

-- the marks that follow m
pub record Next (s w : List ℕ) (m r : List Bool) : Type 0 where
  pub is : marked s w r ≡ names_with_other (marked s w m) (program_in s w).types

-- the marks of the types that reach @, -o or & through names
pub record Reaches (s w : List ℕ) (m : List Bool) : Type 0 where
  pub is : marked s w m ≡ reach_other (length (program_in s w).types) (program_in s w).types

-- ── a marked type has a name
or_cond : (c : Bool) {x y : Bool} → x ≡ y → (c || x) ≡ cond c true y
or_cond true e = refl
or_cond false e = e

any_marked : (f : ℕ → Name × Ty Name) (m : List Bool) (x : Name) (n i : ℕ) → fold ◌||◌ false (λ k. cond (get_or m k false) (same x (f k).0) false) i n ≡ any_of (same x) (marked_from f m i n)
any_marked f m x zero i = refl
any_marked f m x (suc n) i = go (get_or m i false) (any_marked f m x n (i + 1))
  where
    go : (b : Bool) → fold ◌||◌ false (λ k. cond (get_or m k false) (same x (f k).0) false) (i + 1) n ≡ any_of (same x) (marked_from f m (i + 1) n)
        → (cond b (same x (f i).0) false || fold ◌||◌ false (λ k. cond (get_or m k false) (same x (f k).0) false) (i + 1) n) ≡ any_of (same x) (cond b ((f i).0 ∷ marked_from f m (i + 1) n) (marked_from f m (i + 1) n))
    go true e = or_cond (same x (f i).0) e
    go false e = e

pub marked_any : (s w : List ℕ) (m : List Bool) (x : Name) → any_below (is_marked s w m x) (tally_in w).types ≡ any_of (same x) (marked s w m)
unfolding any_below marked_so marked
marked_any s w m x = any_marked (named_type s w) m x (tally_in w).types 0

pub marked_not : (s w : List ℕ) (b : Bool) (x : Name) (i : ℕ) → b ≡ false → false ≡ marked_so s w b x i
unfolding marked_so
marked_not s w b x i e = rw e refl

pub marked_named : (s w : List ℕ) (b : Bool) (x : Name) (i : ℕ) {t : Labelled} {r : Bool} → b ≡ true → TypeOf w i t → r ≡ same x (name_at s t.at) → r ≡ marked_so s w b x i
unfolding marked_so
marked_named s w b x i e o q = rw e (q ∙ ap (λ (d : Name × Ty Name). same x d.0) (sym (o.is s)))

-- ── rounds
-- the marks r are those of the types with @, -o or &, or a name of bad, up to the number i
pub record Marking (s w : List ℕ) (bad : List Name) (r : List Bool) (i : ℕ) : Type 0 where
  pub upto : i ≤ (tally_in w).types
  pub long : length r ≡ type_limit
  pub are : (k : ℕ) → k < i → get_or r k false ≡ has_other bad (named_type s w k).1

module _ (f : ℕ → Name × Ty Name) (bad : List Name) (r : List Bool) where
  marks_name : (n i : ℕ) → ((k : ℕ) → k < i + n → get_or r k false ≡ has_other bad (f k).1) → marked_from f r i n ≡ names_with_other bad (numbered f i n)
  marks_name zero i h = refl
  marks_name (suc n) i h = rw (h i (omega arith), marks_name n (i + 1) (λ k b. h k (omega arith))) refl

unmarked : (n i : ℕ) → get_or (replicate n false) i false ≡ false
unmarked zero i = refl
unmarked (suc n) zero = refl
unmarked (suc n) (suc i) = unmarked n i

-- the marks after k rounds
pub record Rounds (s w : List ℕ) (m : List Bool) (k : ℕ) : Type 0 where
  pub upto : k ≤ (tally_in w).types
  pub is : marked s w m ≡ reach_other k (program_in s w).types

numbered_length : {A : Type 0} (f : ℕ → A) (n i : ℕ) → length (numbered f i n) ≡ n
numbered_length f zero i = refl
numbered_length f (suc n) i = ap suc (numbered_length f n (i + 1))

-- once a round changes nothing, no later one does
settled : (types : List (Name × Ty Name)) (k n : ℕ) → names_with_other (reach_other k types) types ≡ reach_other k types → k ≤ n → reach_other n types ≡ reach_other k types
unfolding reach_other
settled types k zero e b = ap (λ i. reach_other i types) {x = 0} {y = k} (omega arith)
settled types k (suc n) e b = at (eq-or-lt_of_le b) (λ c. settled types k n e c)
  where
    at : (k ≡ suc n) ⊎ (k < suc n) → (k ≤ n → reach_other n types ≡ reach_other k types) → reach_other (suc n) types ≡ reach_other k types
    at (inl z) before = ap (λ i. reach_other i types) (sym z)
    at (inr c) before = ap (λ l. names_with_other l types) (before (omega arith)) ∙ e

-- marks that do not differ mark the same names
same_marks : (s w : List ℕ) (m r : List Bool) → false ≡ any_below (differs_at m r) (tally_in w).types → marked s w r ≡ marked s w m
unfolding any_below marked
same_marks s w m r e =
    let alike_at : (k : ℕ) → k < (tally_in w).types → get_or r k false ≡ get_or m k false =
    λ k b. alike (get_or m k false) (get_or r k false) (none_below (differs_at m r) (tally_in w).types 0 e k (omega arith) (omega arith)) in
    go (tally_in w).types 0 (λ k b. alike_at k (omega arith))
  where
    alike : (x y : Bool) → differs x y ≡ false → y ≡ x
    alike true true e = refl
    alike true false e = absurd (true≢false e)
    alike false y e = e

    go : (n i : ℕ) → ((k : ℕ) → k < i + n → get_or r k false ≡ get_or m k false)
        → marked_from (named_type s w) r i n ≡ marked_from (named_type s w) m i n
    go zero i h = refl
    go (suc n) i h = rw (h i (omega arith), go n (i + 1) (λ k b. h k (omega arith))) refl

types_long : (s w : List ℕ) → length (program_in s w).types ≡ (tally_in w).types
types_long s w = ap length (types_in s w) ∙ numbered_length (named_type s w) (tally_in w).types 0

module _ {s w : List ℕ} where
  pub mark_start : {bad : List Name} {r : List Bool} → length r ≡ type_limit → Marking s w bad r 0
  mark_start l = record { upto = omega arith; long = l; are = λ k b. absurd (omega arith) }

  pub mark_on : {bad : List Name} {r : List Bool} {x : Bool} {t : Labelled} (i : ℕ) {j : ℕ} → j ≡ i + 1 → Marking s w bad r i → i < (tally_in w).types → i < type_limit → TypeOf w i t → x ≡ has_other bad (plain_in s w t.number) → Marking s w bad (set r i x) j
  mark_on {bad} {r} {x} {t} i p m h b o e =
      rw p
      (record {
        upto = omega arith;
        long = length-set r i x ∙ m.long;
        are = λ k c. let b : k ≤ i = omega arith in go k (eq-or-lt_of_le b);
      })
    where
      here : x ≡ has_other bad (named_type s w i).1
      here = e ∙ ap (λ (d : Name × Ty Name). has_other bad d.1) (sym (o.is s))

      go : (k : ℕ) → (k ≡ i) ⊎ (k < i) → get_or (set r i x) k false ≡ has_other bad (named_type s w k).1
      go k (inl z) = rw z (get_or-set_same r i x false (omega (arith, m.long)) ∙ here)
      go k (inr c) = get_or-set_other r i k x false (λ q. omega (arith, q)) ∙ m.are k c

  pub mark_end : {m r : List Bool} {i : ℕ} → Marking s w (marked s w m) r i → (tally_in w).types ≤ i → Next s w m r
  unfolding marked
  mark_end {m} {r} {i} t h =
      let b = t.upto in
      record { is = marks_name (named_type s w) (marked s w m) r (tally_in w).types 0 (λ k c. t.are k (omega arith)) ∙ ap (names_with_other (marked s w m)) (sym (types_in s w)) }

  pub rounds_start : Rounds s w (replicate type_limit false) 0
  unfolding reach_other marked
  rounds_start = record { upto = omega arith; is = none (tally_in w).types 0 }
    where
      none : (n i : ℕ) → marked_from (named_type s w) (replicate type_limit false) i n ≡ []
      none zero i = refl
      none (suc n) i = rw (unmarked type_limit i) (none n (i + 1))

  pub rounds_on : {m r : List Bool} {k j : ℕ} → j ≡ k + 1 → Rounds s w m k → k < (tally_in w).types → Next s w m r → Rounds s w r j
  unfolding reach_other
  rounds_on {k = k} p t h n =
      rw p
      (record {
        upto = omega arith;
        is = n.is ∙ ap (λ l. names_with_other l (program_in s w).types) t.is ∙ ap (λ i. reach_other i (program_in s w).types) (sym (add-one k));
      })

  pub rounds_settled : {m r : List Bool} {k n : ℕ} {differ : Bool} → Rounds s w m k → Next s w m r → n ≡ (tally_in w).types
      → differ ≡ any_below (differs_at m r) n → differ ≡ false → Reaches s w m
  rounds_settled {m} {r} {k} t n z d e =
      let types = (program_in s w).types in
      let b = t.upto in
      let alike = same_marks s w m r (sym e ∙ d ∙ ap (any_below (differs_at m r)) z) in
      let again : names_with_other (reach_other k types) types ≡ reach_other k types =
      ap (λ l. names_with_other l types) (sym t.is) ∙ sym n.is ∙ alike ∙ t.is in
      record { is = t.is ∙ sym (settled types k (length types) again (omega (arith, types_long s w))) }

  pub rounds_end : {m : List Bool} {k : ℕ} → Rounds s w m k → (tally_in w).types ≤ k → Reaches s w m
  rounds_end {m} {k} t h =
      let b = t.upto in
      let e : k ≡ (tally_in w).types = omega arith in
      record { is = t.is ∙ ap (λ i. reach_other i (program_in s w).types) (e ∙ sym (types_long s w)) }
