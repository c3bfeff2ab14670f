-- What each half of a process takes of what is held.
use Rattle.std.specs.Prelude.{ℕ, zero, suc, ◌+◌, ◌-◌, ◌≤◌, ◌<◌, ◌≡◌, Bool, not, ◌||◌, ◌&&◌, length, take}
use Rattle.std.proofs.Math.Path.{refl, sym, ap, subst}
use Rattle.std.proofs.Common.{◌∙◌, take_all}
use native.Mathlib.Omega.{arith}
use mathlib.Core.List.{List, [], ◌∷◌, ◌++◌, map}
use Rattle.std.proofs.Math.Bool.{true, false, cond}
use Rattle.std.specs.Bool.{beq}
use Rattle.std.proofs.Math.Option.{none-ne-some, some-injective, some}
use Rattle.std.proofs.lemmas.List.{length-map}
use Rattle.std.proofs.Math.ListN.{get_elem?}
use Rattle.notation.specs.Limits.{held_limit}
use Rattle.notation.specs.Token.{name_at}
use Rattle.notation.specs.Tree.{Name}
use Rattle.calculus.specs.Configuration.{end}
use Rattle.calculus.specs.Types.{Side, provided, used}
use Rattle.calculus.specs.Named.{kept, names, every}
use Rattle.calculus.specs.Mentions.{mentions, half_mentions, spawn_takes, spawn_leaves, try_takes, never_both, exactly_one}
use Rattle.read_tables.specs.Decode.{process_in}
use Rattle.read_tables.specs.Program.{plain_in}
use Rattle.read_tables.specs.Roots.{TypeIn, ProcessIn}
use Rattle.run_words.specs.Lists.{All}
use Rattle.run_words.specs.ListLaws.{below_length, all_at, all_of}
use Rattle.run_words.specs.Raw.{RawEnd, BoundedEnd, side_of}
use Rattle.run_words.specs.Values.{end_in, held_in, held_length}
use Rattle.run_words.specs.declared.records.End.{End}
use Rattle.run_words.specs.declared.records.Held.{Held}
use Rattle.check_contexts.specs.Found.{end_of_words}
use Rattle.check_contexts.specs.Held.{end_is, ends_in, channels_of, EndIn, HeldIn, Brings}
use Rattle.check_contexts.specs.Marks.{mark_of, any_of, any_none, held_name, is_name, Marked, Hidden, NONE, ALL, no_mark, every_mark}
use Rattle.check_contexts.specs.declared.marks.Marks.{Marks}
use Rattle.check_contexts.specs.declared.halves.Half.{Half}
use Rattle.check_contexts.specs.declared.halves.Half.TheVariants.{OfSpawn, OfTry}

abbrev pub HalfIn : List ℕ → List ℕ → Half → Type 0
HalfIn s w (OfSpawn x p) = ProcessIn s w p
HalfIn s w (OfTry p) = ProcessIn s w p

-- the first half of a spawn provides the new channel, the second uses it
abbrev pub half_side : Bool → Side
half_side true = provided
half_side false = used

-- the half mentions a name that is held; a spawn's new name is none
abbrev pub takes : List ℕ → List ℕ → Half → Name → Bool
takes s w (OfSpawn x p) n = half_mentions (name_at s x) (process_in s w p) n
takes s w (OfTry p) n = mentions (process_in s w p) n

abbrev pub wanted : Bool → Bool → Bool
wanted want taken = cond want taken (not taken)

-- what a half takes, or leaves
pub record Keeps (s w : List ℕ) (h : Held) (half : Half) (want : Bool) (r : Held) : Type 0 where
  pub is : channels_of s w r ≡ kept (λ n. wanted want (takes s w half n)) (channels_of s w h)
  pub fits : HeldIn s w r

abbrev pub fair : Bool → Bool → Bool → Bool
fair exactly first second = cond first (not second) (cond exactly second true)

-- each name that is held is taken by the two halves as it may be
pub record Fair (s w : List ℕ) (h : Held) (first second : Half) (exactly r : Bool) : Type 0 where
  pub is : r ≡ every (λ n. fair exactly (takes s w first n) (takes s w second n)) (names (channels_of s w h))

-- ── what the code promises, position by position
-- of the held channels that `of` marks, those that the half takes
pub record Takes (s w : List ℕ) (h : Held) (half : Half) (of r : Marks) : Type 0 where
  pub at : (k : ℕ) → k < h.count → mark_of r k ≡ mark_of of k && takes s w half (held_name s h.words k)

-- those of a list that pass a test of their position, the first of which is j
abbrev pub picked : (ℕ → Bool) → ℕ → List RawEnd → List RawEnd
picked f j [] = []
picked f j (e ∷ l) = cond (f j) (e ∷ picked f (j + 1) l) (picked f (j + 1) l)

pub record Picks (h : Held) (m : Marks) (want : Bool) (r : Held) : Type 0 where
  pub is : held_in r ≡ picked (λ k. wanted want (mark_of m k)) 0 (held_in h)
  pub few : r.count ≤ h.count

-- n positions from j on all pass a test
unfoldable pub all_from : (ℕ → Bool) → ℕ → ℕ → Bool
all_from f j zero = true
all_from f j (suc n) = cond (f j) (all_from f (j + 1) n) false

pub record Divides (n : ℕ) (first second : Marks) (exactly r : Bool) : Type 0 where
  pub is : r ≡ all_from (λ k. fair exactly (mark_of first k) (mark_of second k)) 0 n

-- ── what a walk has marked
and_then : (o b m : Bool) → (o && not b) && m ≡ o && (not b && m)
and_then true b m = refl
and_then false b m = refl

module _ {s w : List ℕ} {h : Held} {of : Marks} where
  pub takes_idle : {half : Half} → any_of (mark_of of) h.count ≡ false → Takes s w h half of NONE
  takes_idle {half} e = record { at = λ k b. no_mark k ∙ ap (λ c. c && takes s w half (held_name s h.words k)) (sym (any_none (mark_of of) h.count e k b)) }

  pub takes_spawn : {x p : ℕ} {sought r : Marks} → Hidden s h.words h.count (is_name s x) of sought → Marked s h.words h.count sought (mentions (process_in s w p)) NONE r → Takes s w h (OfSpawn x p) of r
  unfolding half_mentions
  takes_spawn {x} {p} f g = record {
    at = λ k b.
        let n = held_name s h.words k in
        let y = mentions (process_in s w p) n in
        g.at k b ∙ (λ j. no_mark k j || (f.at k b j && y)) ∙ and_then (mark_of of k) (is_name s x n) y;
  }

  pub takes_try : {p : ℕ} {r : Marks} → Marked s h.words h.count of (mentions (process_in s w p)) NONE r → Takes s w h (OfTry p) of r
  takes_try {p} g = record { at = λ k b. g.at k b ∙ ap (λ c. c || (mark_of of k && mentions (process_in s w p) (held_name s h.words k))) (no_mark k) }

-- ── as far as the loop that picks has come
pub append-nil : {A : Type 0} (l : List A) → l ++ [] ≡ l
append-nil [] = refl
append-nil (x ∷ l) = ap (◌∷◌ x) (append-nil l)

pub append_assoc : {A : Type 0} (a b c : List A) → (a ++ b) ++ c ≡ a ++ (b ++ c)
append_assoc [] b c = refl
append_assoc (x ∷ a) b c = ap (◌∷◌ x) (append_assoc a b c)

picked_next : (f : ℕ → Bool) (j : ℕ) (l : List RawEnd) (k : ℕ) {e : RawEnd} → get_elem? l k ≡ some e → picked f j (take (suc k) l) ≡ picked f j (take k l) ++ cond (f (j + k)) (e ∷ []) []
picked_next f j [] k h = absurd (none-ne-some _ h)
picked_next f j (x ∷ l) zero h = let z : j ≡ j + 0 = omega arith in λ i. cond (f (z i)) (some-injective _ _ h i ∷ []) []
picked_next f j (x ∷ l) (suc k) {e} h =
    let z : j + 1 + k ≡ j + suc k = omega arith in
    go (f j) (picked_next f (j + 1) l k h ∙ ap (λ i. picked f (j + 1) (take k l) ++ cond (f i) (e ∷ []) []) z)
  where
    go : (b : Bool) → picked f (j + 1) (take (suc k) l) ≡ picked f (j + 1) (take k l) ++ cond (f (j + suc k)) (e ∷ []) []
        → cond b (x ∷ picked f (j + 1) (take (suc k) l)) (picked f (j + 1) (take (suc k) l)) ≡ cond b (x ∷ picked f (j + 1) (take k l)) (picked f (j + 1) (take k l)) ++ cond (f (j + suc k)) (e ∷ []) []
    go true q = ap (◌∷◌ x) q
    go false q = q

pub record Picking (h : Held) (m : Marks) (want : Bool) (r : Held) (k : ℕ) : Type 0 where
  pub upto : k ≤ h.count
  pub few : r.count ≤ k
  pub is : held_in r ≡ picked (λ i. wanted want (mark_of m i)) 0 (take k (held_in h))

same_wanted : (taken want : Bool) → beq taken want ≡ wanted want taken
same_wanted true true = refl
same_wanted true false = refl
same_wanted false true = refl
same_wanted false false = refl

module _ {h : Held} {m : Marks} {want : Bool} where
  pub pick_none : (r : Held) → held_in r ≡ [] → r.count ≡ 0 → Picking h m want r 0
  pick_none r e n = record { upto = omega arith; few = omega arith; is = e }

  module _ {r : Held} {k : ℕ} (t : Picking h m want r k) where
    pick_next : (e : End) {b : Bool} {r' : Held} → get_elem? (held_in h) k ≡ some (end_in e) → b ≡ wanted want (mark_of m k) → held_in r' ≡ held_in r ++ cond b (end_in e ∷ []) [] → r'.count ≤ r.count + 1
        → Picking h m want r' (k + 1)
    pick_next e g p q n =
        let f : ℕ → Bool = λ i. wanted want (mark_of m i) in
        let u : suc k ≡ k + 1 = omega arith in
        let y : k ≡ 0 + k = omega arith in
        record {
          upto = omega (arith, below_length (held_in h) k g, held_length h);
          few = omega (arith, t.few);
          is = q ∙ (λ i. t.is i ++ cond (p i) (end_in e ∷ []) []) ∙ ap (λ i. picked f 0 (take k (held_in h)) ++ cond (f i) (end_in e ∷ []) []) y
              ∙ sym (picked_next f 0 (held_in h) k g) ∙ ap (λ i. picked f 0 (take i (held_in h))) u;
        }

    -- the end at k goes with what is kept, or does not
    module _ (e : End) {taken : Bool} (g : get_elem? (held_in h) k ≡ some (end_in e)) (p : taken ≡ mark_of m k) where
      asked_for : {b : Bool} → beq taken want ≡ b → b ≡ wanted want (mark_of m k)
      asked_for o = sym o ∙ same_wanted taken want ∙ ap (wanted want) p

      pub pick_kept : beq taken want ≡ true → {r' : Held} → held_in r' ≡ held_in r ++ (end_in e ∷ []) → r'.count ≡ r.count + 1 → Picking h m want r' (k + 1)
      pick_kept o q n = pick_next e g (asked_for o) q (omega arith)

      pub pick_left : beq taken want ≡ false → Picking h m want r (k + 1)
      pick_left o = pick_next e g (asked_for o) (sym (append-nil (held_in r))) (omega arith)

    pub pick_all : h.count ≤ k → Picks h m want r
    pick_all o = record {
      is = t.is ∙ ap (picked (λ i. wanted want (mark_of m i)) 0) (take_all k (held_in h) (omega (arith, held_length h)));
      few = omega (arith, t.few, t.upto);
    }

-- ── what is picked by marks is what the half takes
module _ (s w : List ℕ) (f : ℕ → Bool) (p : Name → Bool) where
  abbrev Agree : ℕ → List RawEnd → Type 0
  Agree j l = (k : ℕ) (e : RawEnd) → get_elem? l k ≡ some e → f (j + k) ≡ p (name_at s e.name)

  agree_start : (l : List RawEnd) → ((k : ℕ) (e : RawEnd) → get_elem? l k ≡ some e → f k ≡ p (name_at s e.name)) → Agree 0 l
  agree_start l a k e g = let z : 0 + k ≡ k = omega arith in ap f z ∙ a k e g

  agree_here : (j : ℕ) (e : RawEnd) (l : List RawEnd) → Agree j (e ∷ l) → f j ≡ p (name_at s e.name)
  agree_here j e l a = let z : j ≡ j + 0 = omega arith in ap f z ∙ a 0 e refl

  agree_rest : (j : ℕ) (e : RawEnd) (l : List RawEnd) → Agree j (e ∷ l) → Agree (j + 1) l
  agree_rest j e l a k x h = let z : j + 1 + k ≡ j + suc k = omega arith in ap f z ∙ a (suc k) x h

  picked_kept : (j : ℕ) (l : List RawEnd) → Agree j l → ends_in s w (picked f j l) ≡ kept p (ends_in s w l)
  unfolding kept
  picked_kept j [] a = refl
  picked_kept j (e ∷ l) a = go (f j) (agree_here j e l a) (picked_kept (j + 1) l (agree_rest j e l a))
    where
      go : (b : Bool) → b ≡ p (name_at s e.name) → ends_in s w (picked f (j + 1) l) ≡ kept p (ends_in s w l)
          → ends_in s w (cond b (e ∷ picked f (j + 1) l) (picked f (j + 1) l)) ≡ cond (p (name_at s e.name)) (end_is s w e ∷ kept p (ends_in s w l)) (kept p (ends_in s w l))
      go true q h = λ i. cond (q i) (end_is s w e ∷ h i) (h i)
      go false q h = λ i. cond (q i) (end_is s w e ∷ h i) (h i)

all_picked : (P : RawEnd → Type 0) (f : ℕ → Bool) (j : ℕ) (l : List RawEnd) → All P l → All P (picked f j l)
all_picked P f j [] a = tt
all_picked P f j (e ∷ l) (a, b) = go (f j) (all_picked P f (j + 1) l b)
  where
    go : (c : Bool) → All P (picked f (j + 1) l) → All P (cond c (e ∷ picked f (j + 1) l) (picked f (j + 1) l))
    go true h = (a, h)
    go false h = h

-- the name of an end, by its words
held_name_lem : (s : List ℕ) (h : Held) (k : ℕ) {e : RawEnd} → get_elem? (held_in h) k ≡ some e → name_at s e.name ≡ held_name s h.words k
held_name_lem s h k {e} g =
    let l : k < h.count = omega (arith, below_length (held_in h) k g, held_length h) in
    ap (λ (x : RawEnd). name_at s x.name) (some-injective _ _ (sym g ∙ end_of_words h.count h.words k l))

module _ {s w : List ℕ} {h : Held} {half : Half} {m : Marks} (t : Takes s w h half ALL m) (u : HeldIn s w h) where
  -- each held channel is marked if the half takes it
  marked_so_lem : (k : ℕ) (e : RawEnd) → get_elem? (held_in h) k ≡ some e → mark_of m k ≡ takes s w half (name_at s e.name)
  marked_so_lem k e g =
      let l : k < h.count = omega (arith, below_length (held_in h) k g, held_length h) in
      t.at k l ∙ (λ j. every_mark k (omega (arith, u.many)) j && takes s w half (sym (held_name_lem s h k g) j))

  pub keeps_so : {want : Bool} {r : Held} → Picks h m want r → Keeps s w h half want r
  unfolding channels_of
  keeps_so {want} {r} q = record {
    is = ap (ends_in s w) q.is ∙ picked_kept s w _ (λ n. wanted want (takes s w half n)) 0 (held_in h) (agree_start s w (λ k. wanted want (mark_of m k)) (λ n. wanted want (takes s w half n)) (held_in h) (λ k e g. ap (wanted want) (marked_so_lem k e g)));
    fits = record { many = omega (arith, q.few, u.many); each = subst (All (EndIn s w)) (sym q.is) (all_picked (EndIn s w) _ 0 (held_in h) u.each) };
  }

-- ── as far as the loop that tests has come: what is left decides
pub record Dividing (n : ℕ) (first second : Marks) (exactly : Bool) (k : ℕ) : Type 0 where
  pub rest : all_from (λ i. fair exactly (mark_of first i) (mark_of second i)) 0 n ≡ all_from (λ i. fair exactly (mark_of first i) (mark_of second i)) k (n - k)

one_more : (f : ℕ → Bool) (k n : ℕ) → k < n → {b : Bool} → b ≡ f k → all_from f k (n - k) ≡ cond b (all_from f (k + 1) (n - (k + 1))) false
unfolding all_from
one_more f k n l e =
    let z : n - k ≡ suc (n - (k + 1)) = omega arith in
    ap (all_from f k) z ∙ ap (λ c. cond c (all_from f (k + 1) (n - (k + 1))) false) (sym e)

abbrev test_of : Bool → Marks → Marks → ℕ → Bool
test_of exactly first second k = fair exactly (mark_of first k) (mark_of second k)

module _ {n : ℕ} {first second : Marks} {exactly : Bool} where
  pub divide_none : Dividing n first second exactly 0
  divide_none = let z : n ≡ n - 0 = omega arith in record { rest = ap (all_from (test_of exactly first second) 0) z }

  module _ {k : ℕ} (t : Dividing n first second exactly k) (l : k < n) {a b c : Bool} (p : a ≡ mark_of first k) (q : b ≡ mark_of second k) (e : c ≡ fair exactly a b) where
    asked : c ≡ test_of exactly first second k
    asked = e ∙ λ j. fair exactly (p j) (q j)

    pub divide_on : c ≡ true → (i : ℕ) → i ≡ k + 1 → Dividing n first second exactly i
    divide_on o i z = record { rest = t.rest ∙ one_more (test_of exactly first second) k n l (sym o ∙ asked) ∙ ap (λ m. all_from (test_of exactly first second) m (n - m)) (sym z) }

    pub divide_fails : c ≡ false → Divides n first second exactly false
    divide_fails o = record { is = sym (t.rest ∙ one_more (test_of exactly first second) k n l (sym o ∙ asked)) }

  pub divide_all : {k : ℕ} → Dividing n first second exactly k → n ≤ k → Divides n first second exactly true
  unfolding all_from
  divide_all {k} t l = let z : n - k ≡ 0 = omega arith in record { is = sym (t.rest ∙ ap (all_from (test_of exactly first second) k) z) }

-- ── what the marks divide is what the halves do
names_held : (s w : List ℕ) (l : List RawEnd) → names (ends_in s w l) ≡ map (λ (e : RawEnd). name_at s e.name) l
unfolding names
names_held s w [] = refl
names_held s w (e ∷ l) = ap (◌∷◌ (name_at s e.name)) (names_held s w l)

all_positions : (s : List ℕ) (f : ℕ → Bool) (p : Name → Bool) (j : ℕ) (l : List RawEnd) → Agree s [] f p j l → all_from f j (length l) ≡ every p (map (λ (e : RawEnd). name_at s e.name) l)
unfolding all_from
all_positions s f p j [] a = refl
all_positions s f p j (e ∷ l) a = λ i. cond (agree_here s [] f p j e l a i) (all_positions s f p (j + 1) l (agree_rest s [] f p j e l a) i) false

-- of the second half it is enough to know which of the first half's it takes, where a channel may be left by both
only_both : (a b : Bool) → fair false a (a && b) ≡ fair false a b
only_both true b = refl
only_both false b = refl

module _ {s w : List ℕ} {h : Held} {first second : Half} {a b : Marks} (t : Takes s w h first ALL a) (u : HeldIn s w h) where
  fair_at : (exactly : Bool) {r : Bool} → ((k : ℕ) (e : RawEnd) → get_elem? (held_in h) k ≡ some e → fair exactly (mark_of a k) (mark_of b k) ≡ fair exactly (takes s w first (name_at s e.name)) (takes s w second (name_at s e.name)))
      → Divides h.count a b exactly r → Fair s w h first second exactly r
  unfolding channels_of
  fair_at exactly g d = record {
    is = d.is ∙ ap (all_from (λ k. fair exactly (mark_of a k) (mark_of b k)) 0) (sym (held_length h))
        ∙ all_positions s _ (λ n. fair exactly (takes s w first n) (takes s w second n)) 0 (held_in h) (agree_start s [] (λ k. fair exactly (mark_of a k) (mark_of b k)) (λ n. fair exactly (takes s w first n) (takes s w second n)) (held_in h) g)
        ∙ ap (every (λ n. fair exactly (takes s w first n) (takes s w second n))) (sym (names_held s w (held_in h)));
  }

  pub fair_each : {exactly r : Bool} → Takes s w h second ALL b → Divides h.count a b exactly r → Fair s w h first second exactly r
  fair_each {exactly} v d = fair_at exactly (λ k e g j. fair exactly (marked_so_lem t u k e g j) (marked_so_lem v u k e g j)) d

  pub fair_both : {r : Bool} → Takes s w h second a b → Divides h.count a b false r → Fair s w h first second false r
  fair_both v d = fair_at false (λ k e g.
      let l : k < h.count = omega (arith, below_length (held_in h) k g, held_length h) in
      let x = takes s w second (name_at s e.name) in
      (λ j. fair false (mark_of a k) (v.at k l j))
      ∙ (λ j. fair false (marked_so_lem t u k e g j) (marked_so_lem t u k e g j && takes s w second (sym (held_name_lem s h k g) j)))
      ∙ only_both (takes s w first (name_at s e.name)) x) d

-- what is held may be packed into words again
pub held_bounded : {s w : List ℕ} {h : Held} → HeldIn s w h → All BoundedEnd (held_in h)
held_bounded {s} {w} {h} u = all_of BoundedEnd (held_in h) (λ k e g. (all_at (EndIn s w) (held_in h) k u.each g).bounds)

-- ── a half of a spawn
-- what it holds before the new channel comes has room for it
pub record HasRoom (h : Held) (m : Marks) (first : Bool) : Type 0 where
  pub few : length (picked (λ k. wanted first (mark_of m k)) 0 (held_in h)) < held_limit

-- what it takes or is left, and its end of the new channel
pub record SpawnHalf (h : Held) (m : Marks) (name node : ℕ) (first : Bool) (channel : ℕ) (r : Held) : Type 0 where
  pub is : {s w : List ℕ} {half : Half} → Takes s w h half ALL m → HeldIn s w h
      → channels_of s w r ≡ kept (λ n. wanted first (takes s w half n)) (channels_of s w h) ++ ((name_at s name, end (half_side first) channel (plain_in s w node)) ∷ [])
  pub fits : {s w : List ℕ} {half : Half} → Takes s w h half ALL m → HeldIn s w h → TypeIn s w node → HeldIn s w r

pub has_room : {s w : List ℕ} {h : Held} {half : Half} {m : Marks} (first : Bool) → Takes s w h half ALL m → HeldIn s w h → length (kept (λ n. wanted first (takes s w half n)) (channels_of s w h)) < held_limit → HasRoom h m first
unfolding channels_of
has_room {s} {w} {h} {half} {m} first t u l =
    let f : ℕ → Bool = λ k. wanted first (mark_of m k) in
    let q = picked_kept s w f (λ n. wanted first (takes s w half n)) 0 (held_in h) (agree_start s w f (λ n. wanted first (takes s w half n)) (held_in h) (λ k e g. ap (wanted first) (marked_so_lem t u k e g))) in
    record { few = omega (arith, l, ap length q, length-map (picked f 0 (held_in h)) (end_is s w)) }

pub picks_few : {h a : Held} {m : Marks} {first : Bool} → HasRoom h m first → Picks h m first a → a.count < held_limit
picks_few {a = a} f q = omega (arith, f.few, ap length q.is, held_length a)

pub half_joined : {h a r : Held} {m : Marks} {name node channel side : ℕ} {first : Bool} → Picks h m first a → side_of side ≡ half_side first → Brings a name side node channel r → SpawnHalf h m name node first channel r
half_joined {name = name} {node = node} {channel = channel} q e b = record {
  is = λ {s} {w} t u. b.is s w ∙ λ j. (keeps_so t u q).is j ++ ((name_at s name, end (e j) channel (plain_in s w node)) ∷ []);
  fits = λ {s} {w} t u a. b.fits s w a (keeps_so t u q).fits;
}

-- a test of what is not so
pub not_true : (b : Bool) → not b ≡ true → b ≡ false
not_true true e = sym e
not_true false e = refl

pub not-false : (b : Bool) → not b ≡ false → b ≡ true
not-false true e = refl
not-false false e = sym e

-- ── in the calculus' own words
module _ (s w : List ℕ) (h : Held) where
  pub spawn_takes_lem : (x p : ℕ) (r : Held) → Keeps s w h (OfSpawn x p) true r → channels_of s w r ≡ spawn_takes (name_at s x) (process_in s w p) (channels_of s w h)
  unfolding spawn_takes
  spawn_takes_lem x p r k = k.is

  pub spawn_leaves_lem : (x p : ℕ) (r : Held) → Keeps s w h (OfSpawn x p) false r → channels_of s w r ≡ spawn_leaves (name_at s x) (process_in s w p) (channels_of s w h)
  unfolding spawn_leaves
  spawn_leaves_lem x p r k = k.is

  pub try_takes_lem : (p : ℕ) (r : Held) → Keeps s w h (OfTry p) true r → channels_of s w r ≡ try_takes (process_in s w p) (channels_of s w h)
  unfolding try_takes
  try_takes_lem p r k = k.is

  never_both_lem : (a b : Bool) → fair false a b ≡ not (a && b)
  never_both_lem true b = refl
  never_both_lem false b = refl

  all_same : {A : Type 0} (p q : A → Bool) → ((a : A) → p a ≡ q a) → (l : List A) → every p l ≡ every q l
  all_same p q e [] = refl
  all_same p q e (a ∷ l) = λ i. cond (e a i) (all_same p q e l i) false

  pub never_shared : (x p q : ℕ) (r : Bool) → Fair s w h (OfSpawn x p) (OfSpawn x q) false r → r ≡ never_both (name_at s x) (process_in s w p) (process_in s w q) (names (channels_of s w h))
  unfolding never_both
  never_shared x p q r f = f.is ∙ all_same _ _ (λ n. never_both_lem (takes s w (OfSpawn x p) n) (takes s w (OfSpawn x q) n)) (names (channels_of s w h))

  pub shared_once : (p q : ℕ) (r : Bool) → Fair s w h (OfTry p) (OfTry q) true r → r ≡ exactly_one (process_in s w p) (process_in s w q) (names (channels_of s w h))
  unfolding exactly_one
  shared_once p q r f = f.is
