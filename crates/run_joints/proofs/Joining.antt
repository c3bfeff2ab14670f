-- Laws of joining joints one after another.
use Prim.Native.Nat.{ℕ, ◌+◌, ◌<◌}
use mathlib.Core.List.{List, [], ◌∷◌, ◌++◌, append-nil, append_assoc}
use mathlib.Core.Path.{◌≡◌, refl, sym, ap, subst, ◌∙◌}
use mathlib.Core.Bool.{Bool, true, false, cond}
use mathlib.Core.Option.{some}
use native.Mathlib.Omega.{arith}
use native.Mathlib.Numerals.{add-one}
use borrow.Author.Tests.{eq-eqb, ne_eqb}
use lib.Dec.{eqb}
use lib.ListN.{get_elem?, get_or, drop}
use Rattle.calculus.specs.Types.{provided, used}
use Rattle.calculus.specs.Forest.{Joint}
use Rattle.theory_decision.specs.Circles.{relabelled, joins, forest?}
use Rattle.run_words.specs.ListLaws.{drop_at}
use Rattle.run_words.specs.Raw.{RawEnd, RawProcess, RawConfig, side_of, Bounded}
use Rattle.run_words.specs.Values.{end_in, Moved}
use Rattle.run_words.specs.Operations.{far_end}
use Rattle.run_words.specs.SearchLaws.{far_process, holder_place}
use Rattle.run_words.specs.declared.records.End.{End}
use Rattle.run_words.specs.declared.records.Far.{Far}
use Rattle.run_words.specs.declared.records.Far.TheVariants as far
use Rattle.run_joints.specs.Circles.{joint_of, end_joint, held_joints, process_joints, joints_from, Labelled, Joined}

pub joined_none : (ws : List ℕ) → Joined ws ws [] true
joined_none ws = record { is = λ label l. (label, l, λ K. refl) }

pub joined_as : {old new : List ℕ} {J K : List Joint} {r : Bool} → K ≡ J → Joined old new J r → Joined old new K r
joined_as {old} {new} {r = r} e p = subst (λ L. Joined old new L r) (sym e) p

pub joined_then : {a b c : List ℕ} {J K : List Joint} {t r : Bool} → t ≡ true → Joined a b J t → Joined b c K r → Joined a c (J ++ K) r
joined_then {a} {b} {J = J} {K} e p q = record {
  is = λ label l.
      let x = (subst (Joined a b J) e p).is label l in
      let y = q.is x.0 x.1 in
      (y.0, y.1, λ L. ap (joins label) (append_assoc J K L) ∙ x.2 (K ++ L) ∙ y.2 L);
}

pub joined_stop : {a b : List ℕ} {J : List Joint} {t : Bool} (K : List Joint) → t ≡ false → Joined a b J t → Joined a b (J ++ K) false
joined_stop {a} {b} {J} K e p = record {
  is = λ label l.
      let x = (subst (Joined a b J) e p).is label l in
      (x.0, x.1, λ L. ap (joins label) (append_assoc J K L) ∙ x.2 (K ++ L));
}

pub joined_all : {old new : List ℕ} {J : List Joint} {r : Bool} → Labelled old (λ x. x) → Joined old new J r → forest? J ≡ r
unfolding forest? joins
joined_all {J = J} {r} l p =
    let x = p.is (λ x. x) l in
    ap (joins (λ x. x)) (sym (append-nil J)) ∙ x.2 [] ∙ go r x.0
  where
    go : (r : Bool) (after : ℕ → ℕ) → cond r (joins after []) false ≡ r
    go true after = refl
    go false after = refl

-- ── one joint
joins_first : (label : ℕ → ℕ) (i j : ℕ) (K : List Joint) {t : Bool} → eqb (label i) (label j) ≡ t → joins label ((i, j) ∷ K) ≡ cond t false (joins (relabelled (label i) (label j) label) K)
unfolding joins
joins_first label i j K e = ap (λ t. cond t false (joins (relabelled (label i) (label j) label) K)) e

-- the words once the labels of the joint's places have become one
abbrev OneLabel : List ℕ → List ℕ → ℕ → ℕ → Type 0
OneLabel ws new i j = Moved ws new 0 128 (relabelled (get_or ws i 0) (get_or ws j 0) (λ x. get_or ws x 0))

module _ (ws : List ℕ) (i j : ℕ) (a : i < 128) (b : j < 128) where
  pub circle : get_or ws i 0 ≡ get_or ws j 0 → Joined ws ws ((i, j) ∷ []) false
  circle e = record {
    is = λ label l. (label, l, λ K. joins_first label i j K (eq-eqb (label i) (label j) (sym (l.each i a) ∙ e ∙ l.each j b)));
  }

  joins_one : (new : List ℕ) (label : ℕ → ℕ) → Labelled ws label → OneLabel ws new i j → Labelled new (relabelled (label i) (label j) label)
  unfolding relabelled
  joins_one new label l m = record {
    long = m.long ∙ l.long;
    each = λ x h. m.inside x (omega arith) h ∙ (λ k. cond (eqb (l.each x h k) (l.each j b k)) (l.each i a k) (l.each x h k));
  }

  pub apart : (new : List ℕ) → (get_or ws i 0 ≡ get_or ws j 0 → ⊥) → OneLabel ws new i j → Joined ws new ((i, j) ∷ []) true
  apart new n m = record {
    is = λ label l. (
      relabelled (label i) (label j) label,
      joins_one new label l m,
      λ K. joins_first label i j K
          (ne_eqb (label i) (label j) (λ e. n (l.each i a ∙ e ∙ sym (l.each j b)))),
    );
  }

-- ── the joint of an end that is held at place i
module _ (C : RawConfig) (i : ℕ) (e : End) {old : List ℕ} where
  pub joined_used : e.side ≡ 1 → Joined old old (end_joint C i (end_in e)) true
  joined_used p = joined_as (ap (λ (s : ℕ). joint_of i (side_of s) (far_end C e.channel (side_of s))) p) (joined_none old)

  pub joined_provided : {new : List ℕ} {f : Far} {r : Bool} → e.side < 2 → (e.side ≡ 1 → ⊥) → far_end C e.channel provided ≡ f → Joined old new (joint_of i provided f) r → Joined old new
      (end_joint C i (end_in e)) r
  joined_provided h n q =
      let z : e.side ≡ 0 = omega arith in
      joined_as (ap (λ (s : ℕ). joint_of i (side_of s) (far_end C e.channel (side_of s))) z ∙ ap (joint_of i provided) q)

pub far_place : (C : RawConfig) (k j m : ℕ) → Bounded C → far_end C k provided ≡ far.Process j m → j < 128
far_place C k j m b e = omega (arith, holder_place k used C.processes j m (far_process C k provided j m e), b.places)

-- ── a loop over joints J has joined some, and K are left
pub record Left (old now : List ℕ) (J K : List Joint) : Type 0 where
  pub rest : (new : List ℕ) (r : Bool) → Joined now new K r → Joined old new J r

pub left_start : (ws : List ℕ) (J : List Joint) → Left ws ws J J
left_start ws J = record { rest = λ new r p. p }

module _ {old now : List ℕ} {J K : List Joint} (l : Left old now J K) where
  pub left_next : {next : List ℕ} {t : Bool} (L M : List Joint) → K ≡ L ++ M → t ≡ true → Joined now next L t → Left old next J M
  left_next L M e h p = record { rest = λ new r q. l.rest new r (joined_as e (joined_then h p q)) }

  pub left_stop : {next : List ℕ} {t : Bool} (L M : List Joint) → K ≡ L ++ M → t ≡ false → Joined now next L t → Joined old next J false
  left_stop {next} L M e h p = l.rest next false (joined_as e (joined_stop M h p))

  pub left_end : K ≡ [] → Joined old now J true
  left_end e = l.rest now true (joined_as e (joined_none now))

module _ (C : RawConfig) where
  pub held_turn : (i : ℕ) (l : List RawEnd) (k : ℕ) {e : RawEnd} → get_elem? l k ≡ some e → held_joints C i (drop k l) ≡ end_joint C i e ++ held_joints C i (drop (k + 1) l)
  held_turn i l k {e} g = ap (held_joints C i) (drop_at l k g) ∙ ap (λ m. end_joint C i e ++ held_joints C i (drop m l)) (sym (add-one k))

  pub process_turn : (l : List RawProcess) (i : ℕ) {p : RawProcess} → get_elem? l i ≡ some p → joints_from C i (drop i l) ≡ process_joints C i p ++ joints_from C (i + 1) (drop (i + 1) l)
  process_turn l i {p} g = ap (joints_from C i) (drop_at l i g) ∙ ap (λ m. process_joints C i p ++ joints_from C m (drop m l)) (sym (add-one i))
