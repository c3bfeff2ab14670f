-- Marks of what is held: what the code over them promises, position by position.
use Rattle.std.specs.Prelude.{ℕ, zero, suc, ◌+◌, ◌*◌, ◌/◌, ◌<◌, ◌≤◌, ◌≡◌, refl, ◌⊎◌, List, Bool, true, false, not, ◌||◌, ◌&&◌, cond, T, length, take, get_or, set, replicate}
use Rattle.std.proofs.Common.{sym, ◌∙◌, ap, subst, add-one, inl, inr, true≢false, arith, eq-or-lt_of_le, length-set, get_or-set_same, get_or-set_other}
use Rattle.std.proofs.lemmas.List.{get_or-replicate}
use Rattle.std.proofs.lemmas.List.Folds.{list_any_more}
use Rattle.std.specs.Bool.{beq}
use Rattle.std.specs.List.{list_any}
use Rattle.notation.specs.Limits.{held_limit}
use Rattle.notation.specs.Bytes.{same}
use Rattle.notation.specs.Token.{name_at}
use Rattle.notation.specs.Tree.{Name}
use Rattle.notation.proofs.ByteTables.{same→eq}
use Rattle.run_words.specs.Raw.{end_words, side_radix}
use Rattle.check_contexts.specs.declared.marks.Marks.{Marks}

abbrev pub mark_of : Marks → ℕ → Bool
mark_of m k = get_or m.set k false

-- no position is marked, and each is
abbrev pub NONE : Marks
NONE = record { set = replicate held_limit false }

abbrev pub ALL : Marks
ALL = record { set = replicate held_limit true }

none_of : (n k : ℕ) → get_or (replicate n false) k false ≡ false
none_of zero k = refl
none_of (suc n) zero = refl
none_of (suc n) (suc k) = none_of n k

pub no_mark : (k : ℕ) → mark_of NONE k ≡ false
no_mark k = none_of held_limit k

pub every_mark : (k : ℕ) → k < held_limit → mark_of ALL k ≡ true
every_mark k b = get_or-replicate held_limit k true false b

-- one mark is put, the others stay
pub record Puts (m : Marks) (k : ℕ) (b : Bool) (r : Marks) : Type 0 where
  pub here : mark_of r k ≡ b
  pub other : (j : ℕ) → (j ≡ k → ⊥) → mark_of r j ≡ mark_of m j

-- one of the first n positions has it
unfoldable pub any_of : (ℕ → Bool) → ℕ → Bool
any_of f zero = false
any_of f (suc n) = any_of f n || f n

-- the name of the end k, of the words of what is held
abbrev pub held_name : List ℕ → List ℕ → ℕ → Name
held_name s ends k = name_at s (get_or ends (end_words * k) 0 / side_radix)

-- the test of the name at an offset
abbrev pub is_name : List ℕ → ℕ → Name → Bool
is_name s at x = same x (name_at s at)

pub same_swap : (xs ys : List ℕ) → same xs ys ≡ same ys xs
same_swap xs ys = go (same xs ys) refl (same ys xs) refl
  where
    go : (a : Bool) → same xs ys ≡ a → (b : Bool) → same ys xs ≡ b → a ≡ b
    go true p true q = refl
    go false p false q = refl
    go true p false q = let e = same→eq xs ys (subst T (sym p) tt) in sym p ∙ (λ i. same (e i) (sym e i)) ∙ q
    go false p true q = let e = same→eq ys xs (subst T (sym q) tt) in sym p ∙ (λ i. same (sym e i) (e i)) ∙ q

-- of the first n names, those that are sought and pass the test are marked too
pub record Marked (s ends : List ℕ) (n : ℕ) (sought : Marks) (test : Name → Bool) (m r : Marks) : Type 0 where
  pub at : (k : ℕ) → k < n → mark_of r k ≡ mark_of m k || (mark_of sought k && test (held_name s ends k))

-- of the first n names, those that pass the test are sought no more
pub record Hidden (s ends : List ℕ) (n : ℕ) (test : Name → Bool) (m r : Marks) : Type 0 where
  pub at : (k : ℕ) → k < n → mark_of r k ≡ mark_of m k && not (test (held_name s ends k))

-- of the first n names, those that are sought and are the name at `at` have the mark `mark`, the others the one that they had
pub record MarkPut (s ends : List ℕ) (n : ℕ) (sought : Marks) (at : ℕ) (mark : Bool) (m r : Marks) : Type 0 where
  pub each : (k : ℕ) → k < n → mark_of r k ≡ cond (mark_of sought k && is_name s at (held_name s ends k)) mark (mark_of m k)

-- ── tests of bools
or_none : (a : Bool) → a ≡ a || false
or_none true = refl
or_none false = refl

pub and_none : (a : Bool) → a && false ≡ false
and_none true = refl
and_none false = refl

and_all : (a : Bool) → a && true ≡ a
and_all true = refl
and_all false = refl

one_then : (a o t u : Bool) → (a || (o && t)) || (o && u) ≡ a || (o && (t || u))
one_then true o t u = refl
one_then false true true u = refl
one_then false true false u = refl
one_then false false t u = refl

-- ── the mark of one position is put
pub puts_there : {m : Marks} {k : ℕ} (b : Bool) → k < length m.set → Puts m k b (record { set = set m.set k b })
puts_there {m} {k} b l = record { here = get_or-set_same m.set k b false l; other = λ j d. get_or-set_other m.set k j b false d }

-- ── marking by one test, then by another
module _ {s ends : List ℕ} {n : ℕ} {sought : Marks} where
  pub marked_as : {t u : Name → Bool} {m r : Marks} → ((x : Name) → t x ≡ u x) → Marked s ends n sought t m r → Marked s ends n sought u m r
  marked_as {m = m} e h = record { at = λ k b. h.at k b ∙ ap (λ c. mark_of m k || (mark_of sought k && c)) (e (held_name s ends k)) }

  pub marked_apart : {t : Name → Bool} {m : Marks} → ((k : ℕ) → k < n → t (held_name s ends k) ≡ false) → Marked s ends n sought t m m
  marked_apart {m = m} e = record {
    at = λ k b. or_none (mark_of m k) ∙ ap (λ c. mark_of m k || c) (sym (ap (λ c. mark_of sought k && c) (e k b) ∙ and_none (mark_of sought k)));
  }

  pub marked_none : {t : Name → Bool} {m : Marks} → ((x : Name) → t x ≡ false) → Marked s ends n sought t m m
  marked_none e = marked_apart (λ k b. e (held_name s ends k))

  pub marked_then : {t u : Name → Bool} {m r v : Marks} → Marked s ends n sought t m r → Marked s ends n sought u r v → Marked s ends n sought (λ x. t x || u x) m v
  marked_then {t = t} {u = u} {m = m} f g = record {
    at = λ k b.
        let x = held_name s ends k in
        g.at k b ∙ ap (λ c. c || (mark_of sought k && u x)) (f.at k b) ∙ one_then (mark_of m k) (mark_of sought k) (t x) (u x);
  }

module _ {s ends : List ℕ} {n : ℕ} where
  pub hidden_as : {t u : Name → Bool} {m r : Marks} → ((x : Name) → t x ≡ u x) → Hidden s ends n t m r → Hidden s ends n u m r
  hidden_as {m = m} e h = record { at = λ k b. h.at k b ∙ ap (λ c. mark_of m k && not c) (e (held_name s ends k)) }

  pub hidden_apart : {t : Name → Bool} {m : Marks} → ((k : ℕ) → k < n → t (held_name s ends k) ≡ false) → Hidden s ends n t m m
  hidden_apart {m = m} e = record { at = λ k b. sym (ap (λ c. mark_of m k && not c) (e k b) ∙ and_all (mark_of m k)) }

  pub hidden_none : {t : Name → Bool} {m : Marks} → ((x : Name) → t x ≡ false) → Hidden s ends n t m m
  hidden_none e = hidden_apart (λ k b. e (held_name s ends k))

-- ── as far as a loop over the positions has come: those below k are as g says, the others as before
pub record Upto (g : ℕ → Bool) (m r : Marks) (k : ℕ) : Type 0 where
  pub below : (j : ℕ) → j < k → mark_of r j ≡ g j
  pub above : (j : ℕ) → k ≤ j → mark_of r j ≡ mark_of m j

module _ {g : ℕ → Bool} {m : Marks} where
  pub upto_none : Upto g m m 0
  upto_none = record { below = λ j b. absurd (omega arith); above = λ j b. refl }

  pub upto_next : {r v : Marks} {k : ℕ} {b : Bool} → Upto g m r k → (i : ℕ) → i ≡ k + 1 → Puts r k b v → (mark_of r k ≡ mark_of m k → b ≡ g k) → Upto g m v i
  upto_next {r} {v} {k} t i z p e = record {
    below = λ j b. go j (eq-or-lt_of_le (omega arith));
    above = λ j b. p.other j (omega arith) ∙ t.above j (omega arith);
  }
    where
      go : (j : ℕ) → (j ≡ k) ⊎ (j < k) → mark_of v j ≡ g j
      go j (inl q) = subst (λ l. mark_of v l ≡ g l) (sym q) (p.here ∙ e (t.above k (omega arith)))
      go j (inr q) = p.other j (omega arith) ∙ t.below j q

-- ── the loop that puts the mark of a name
module _ (s ends : List ℕ) (at : ℕ) (sought : Marks) (mark : Bool) (m : Marks) where
  abbrev put_to : ℕ → Bool
  put_to j = cond (mark_of sought j && is_name s at (held_name s ends j)) mark (mark_of m j)

  pub record Putting (r : Marks) (k : ℕ) : Type 0 where
    pub long : length r.set ≡ held_limit
    pub upto : Upto put_to m r k

module _ {s ends : List ℕ} {at : ℕ} {sought : Marks} {mark : Bool} {m : Marks} where
  pub put_none : length m.set ≡ held_limit → Putting s ends at sought mark m m 0
  put_none l = record { long = l; upto = upto_none }

  module _ {r : Marks} {k : ℕ} (t : Putting s ends at sought mark m r k) where
    module _ {b : Bool} (e : b ≡ mark_of sought k && is_name s at (held_name s ends k)) where
      pub put_here : b ≡ true → k < held_limit → Putting s ends at sought mark m (record { set = set r.set k mark }) (k + 1)
      put_here o l = record { long = length-set r.set k mark ∙ t.long; upto = upto_next t.upto (k + 1) refl (puts_there {m = r} mark (omega (arith, t.long))) (λ q. ap (λ c. cond c mark (mark_of m k)) (sym o ∙ e)) }

      pub put_not : b ≡ false → Putting s ends at sought mark m r (k + 1)
      put_not o = record { long = t.long; upto = upto_next t.upto (k + 1) refl (record { here = refl; other = λ j d. refl }) (λ q. q ∙ ap (λ c. cond c mark (mark_of m k)) (sym o ∙ e)) }

    pub put_all : {n : ℕ} → n ≤ k → MarkPut s ends n sought at mark m r
    put_all l = record { each = λ j b. t.upto.below j (omega arith) }

-- a name is marked where the mark is put, and hidden where it is taken from what is sought
or_put : (m t : Bool) → cond t true m ≡ m || t
or_put true true = refl
or_put true false = refl
or_put false true = refl
or_put false false = refl

and_put : (m t : Bool) → cond (m && t) false m ≡ m && not t
and_put true true = refl
and_put true false = refl
and_put false t = refl

module _ {s ends : List ℕ} {n at : ℕ} {m r : Marks} where
  pub marks_name : {sought : Marks} → MarkPut s ends n sought at true m r → Marked s ends n sought (is_name s at) m r
  marks_name {sought} p = record { at = λ k b. p.each k b ∙ or_put (mark_of m k) (mark_of sought k && is_name s at (held_name s ends k)) }

  pub hides_name : MarkPut s ends n m at false m r → Hidden s ends n (is_name s at) m r
  hides_name p = record { at = λ k b. p.each k b ∙ and_put (mark_of m k) (is_name s at (held_name s ends k)) }

-- ── whether anything is sought
is_true : (b : Bool) → beq b true ≡ b
is_true true = refl
is_true false = refl

pub any_set : (l : List Bool) (n : ℕ) → n ≤ length l → list_any (λ b. beq b true) (take n l) ≡ any_of (λ k. get_or l k false) n
unfolding any_of
any_set l zero h = refl
any_set l (suc n) h =
    let more = list_any_more (λ b. beq b true) l n false (omega arith) in
    ap (λ i. list_any (λ b. beq b true) (take i l)) (sym (add-one n)) ∙ more ∙ λ j. any_set l n (omega arith) j || is_true (get_or l n false) j

-- nothing is marked where nothing is sought
pub any_none : (f : ℕ → Bool) (n : ℕ) → any_of f n ≡ false → (k : ℕ) → k < n → f k ≡ false
unfolding any_of
any_none f zero e k b = absurd (omega arith)
any_none f (suc n) e k b = go (any_of f n) (f n) refl refl e (λ h. any_none f n h k) (eq-or-lt_of_le (omega arith))
  where
    go : (a c : Bool) → any_of f n ≡ a → f n ≡ c → a || c ≡ false → (any_of f n ≡ false → k < n → f k ≡ false) → (k ≡ n) ⊎ (k < n) → f k ≡ false
    go true c p q o h l = absurd (true≢false o)
    go false c p q o h (inl l) = ap f l ∙ q ∙ o
    go false c p q o h (inr l) = h p l

pub marked_idle : {s ends : List ℕ} {n : ℕ} {sought m : Marks} {test : Name → Bool} → any_of (mark_of sought) n ≡ false → Marked s ends n sought test m m
marked_idle {s = s} {ends = ends} {n = n} {sought = sought} {m = m} {test = test} e = record {
  at = λ k b. or_none (mark_of m k) ∙ ap (λ c. mark_of m k || (c && test (held_name s ends k))) (sym (any_none (mark_of sought) n e k b));
}
