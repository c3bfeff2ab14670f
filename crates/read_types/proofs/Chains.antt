-- A type is an atom, and a turn for each infix mark after it: the answer from here is the answer of the whole.
use mathlib.Core.Path.{◌≡◌, refl, ap, sym, subst, ◌∙◌}
use mathlib.Core.List.{List}
use mathlib.Core.Bool.{Bool, true, false, cond, ◌||◌}
use Prim.Native.Nat.{ℕ, suc, ◌+◌, ◌*◌, ◌<◌, ◌≤◌}
use native.Mathlib.Omega.{arith}
use lib.Dec.{eqb}
use borrow.Author.Tests.{eqb-true}
use Rattle.std.specs.Prelude.{Ok, Err}
use Rattle.notation.specs.Fine.{FineType}
use Rattle.notation.specs.Limits.{type_term_limit}
use Rattle.notation.specs.Token.{kind_at, k_star, k_at, k_lolli, k_end}
use Rattle.notation.specs.Onward.{width}
use Rattle.notation.specs.Tree.{Located, Ty, tensor, par, lolli}
use Rattle.notation.specs.Reader.{Result, Taken, got, on_token, part, lastly, choose, type_term}
use Rattle.notation.specs.Types.{is_infix, infix_of, right_by, type_by, read_type, read_atom}
use Rattle.notation.specs.Tables.{more_nodes, lasting, type_node, put_node, put_infix, after_infix, after_type, write_type}
use Rattle.notation.specs.declared.refusal.Refusal.{Refusal}
use Rattle.notation.specs.declared.reading.Cursor.{Cursor}
use Rattle.notation.specs.declared.reading.Tally.{Tally}
use Rattle.read_types.specs.Filling.{Out, Kept, Stepped, Room, Form, Made, Meets, AheadType, type_form, infix_kind, root_before, Waits, put_mark, MarkPut, whole_root, unread, TypeRead, AtomRead}
use Rattle.read_types.proofs.Filled.{same, ◌upon◌, node_kept, took, made_got, made_same, made_lastly, gone_on, stopped, meets_no, at_more, more_no, more_got}
use Rattle.read_types.proofs.Taking.{width_pos}
use Rattle.read_types.proofs.Late.{type_put}

never_both_lem : {P : Type 0} {b : Bool} → b ≡ true → b ≡ false → P
never_both_lem e f = absurd (let z : true ≡ false = sym e ∙ f in let y : ◌≡◌ {A = ℕ} 0 1 = cc in omega arith)

-- an infix mark is a token
pub infix_most : (k : ℕ) → is_infix k ≡ true → k ≤ 31
unfolding is_infix
infix_most k e = go (eqb k k_star) refl (eqb k k_at) refl e
  where
    go : (a : Bool) → eqb k k_star ≡ a → (b : Bool) → eqb k k_at ≡ b → (a || b || eqb k k_lolli) ≡ true → k ≤ 31
    go true x b y e = omega (arith, eqb-true k k_star x)
    go false x true y e = omega (arith, eqb-true k k_at y)
    go false x false y e = omega (arith, eqb-true k k_lolli e)

-- the root before an infix mark, and before another token
pub before_mark : (kind : ℕ) (l : Tally) → is_infix kind ≡ true → root_before kind l ≡ l.nodes
unfolding root_before
before_mark kind l e = rw e refl

pub before_other : (kind : ℕ) (l : Tally) → is_infix kind ≡ false → root_before kind l ≡ l.last
unfolding root_before
before_other kind l e = rw e refl

before_most : (kind : ℕ) (l : Tally) → l.last < l.nodes → root_before kind l ≤ l.nodes
before_most kind l h = go (is_infix kind) refl
  where
    go : (b : Bool) → is_infix kind ≡ b → root_before kind l ≤ l.nodes
    go true e = omega (arith, before_mark kind l e)
    go false e = omega (arith, before_other kind l e)

-- the node of a mark that waits, and the root of the whole; and where none waits
mark_put : (mark : ℕ) → is_infix mark ≡ true → (i left right : ℕ) (w : List ℕ) → put_mark mark i left right w ≡ put_node w i (type_node (infix_kind mark) left right)
unfolding put_mark
mark_put mark e i left right w = rw e refl

none_put : (mark : ℕ) → is_infix mark ≡ false → (i left right : ℕ) (w : List ℕ) → put_mark mark i left right w ≡ w
unfolding put_mark
none_put mark e i left right w = rw e refl

pub root_known : (mark : ℕ) → is_infix mark ≡ true → (root right : ℕ) → whole_root mark root right ≡ root
unfolding whole_root
root_known mark e root right = rw e refl

pub root_here : (mark : ℕ) → is_infix mark ≡ false → (root right : ℕ) → whole_root mark root right ≡ right
unfolding whole_root
root_here mark e root right = rw e refl

pub mark_written : (mark i left right : ℕ) {w v : List ℕ} → is_infix mark ≡ true → Waits mark i left → v ≡ put_node w i (type_node (infix_kind mark) left right)
    → MarkPut mark i left right w v
mark_written mark i left right {w} m h e = record {
  words = e ∙ sym (mark_put mark m i left right w);
  kept = node_kept i (type_node (infix_kind mark) left right) e (h.few m).0;
}

pub none_written : (mark i left right : ℕ) {w : List ℕ} → is_infix mark ≡ false → MarkPut mark i left right w w
none_written mark i left right {w} m = record { words = sym (none_put mark m i left right w); kept = same }

-- the words of an infix type, by its mark
infix_after : (kind : ℕ) (A B : Ty Located) (k : Tally) → after_type (infix_of kind A B) k ≡ after_infix (after_type A k) (after_type B)
unfolding infix_of after_type
infix_after kind A B k = go (eqb kind k_star) (eqb kind k_at)
  where
    go : (a b : Bool) → after_type (cond a (tensor A B) (cond b (par A B) (lolli A B))) k ≡ after_infix (after_type A k) (after_type B)
    go true b = refl
    go false true = refl
    go false false = refl

-- the node of an infix mark, and the type to its right
abbrev write_right : ℕ → Ty Located → Tally → List ℕ → List ℕ
write_right kind B k w = write_type B (more_nodes k) (put_infix (infix_kind kind) k (after_type B (more_nodes k)) w)

infix_write : (kind : ℕ) (A B : Ty Located) (k : Tally) (w : List ℕ) → write_type (infix_of kind A B) k w ≡ write_right kind B (after_type A k) (write_type A k w)
unfolding infix_of infix_kind write_type
infix_write kind A B k w = go (eqb kind k_star) (eqb kind k_at)
  where
    d : Tally
    d = after_type A k

    go : (a b : Bool)
        → write_type (cond a (tensor A B) (cond b (par A B) (lolli A B))) k w
        ≡ write_type B (more_nodes d) (put_infix (cond a 2 (cond b 3 4)) d (after_type B (more_nodes d)) (write_type A k w))
    go true b = refl
    go false true = refl
    go false false = refl

infix_fine : (kind : ℕ) (A B : Ty Located) → FineType A → FineType B → FineType (infix_of kind A B)
unfolding infix_of FineType
infix_fine kind A B f g = go (eqb kind k_star) (eqb kind k_at)
  where
    go : (a b : Bool) → FineType (cond a (tensor A B) (cond b (par A B) (lolli A B)))
    go true b = (f, g)
    go false true = (f, g)
    go false false = (f, g)

-- ── what follows an atom: nothing, or an infix mark and a type
-- an infix mark of this kind and the type to its right, within a type that has this root
abbrev right_form : ℕ → ℕ → Form (Ty Located)
right_form root kind = record {
  after = λ B k. lasting root (after_type B (more_nodes k));
  write = write_right kind;
  Fine = FineType;
  Ahead = λ s c k d l. AheadType 0 s c k d l × (l.last ≡ root);
}

abbrev RightRead : ℕ → ℕ → List ℕ → List ℕ → Cursor → Tally → Out → List ℕ → Type 0
RightRead root kind s w c k = Meets (right_form root kind) s w c k (3 * unread s c + 1) (λ m. right_by (λ d. read_type m s d) s kind c)

-- the answer from an atom on that a token of this kind follows
pub record RestRead (root kind : ℕ) (s w : List ℕ) (c : Cursor) (k : Tally) (r : Out) (v : List ℕ) : Type 0 where
  pub none : is_infix kind ≡ false → (r ≡ Ok (c, lasting root k)) × (v ≡ w)
  pub right : is_infix kind ≡ true → RightRead root kind s w c k r v
  pub kept : Kept w v

-- the definition's rest of a type, after the atom A
abbrev rest_by : ℕ → List ℕ → Ty Located → Cursor → Result (Ty Located)
rest_by m s A c =
    choose (is_infix (kind_at s c.at))
    (λ d. lastly (infix_of (kind_at s d.at) A) (right_by (λ e. read_type m s e) s (kind_at s d.at) d))
    (λ d. got A d)
    c

type_rest : (m : ℕ) (s : List ℕ) (c : Cursor) → read_type (suc m) s c ≡ part (read_atom m s c) (rest_by m s)
unfolding read_type type_by
type_rest m s c = refl

right_rest : (m : ℕ) (s : List ℕ) (kind : ℕ) (c : Cursor)
    → right_by (λ d. read_type (suc m) s d) s kind c ≡ part (right_by (λ d. read_atom m s d) s kind c) (rest_by m s)
right_rest m s kind c = go (type_term s kind c)
  where
    go : (x : Taken) → on_token x (λ _ d. read_type (suc m) s d) ≡ part (on_token x (λ _ d. read_atom m s d)) (rest_by m s)
    go (Ok (i, d)) = type_rest m s d
    go (Err y) = refl

-- a type that is written by these
abbrev form_of : (Ty Located → Tally → Tally) → (Ty Located → Tally → List ℕ → List ℕ) → (List ℕ → Cursor → Tally → Cursor → Tally → Type 0) → Form (Ty Located)
form_of after write Ahead = record { after = after; write = write; Fine = FineType; Ahead = Ahead }

-- an atom f that was read, and then its rest, which began with the words v₂, are the type g
module _ (s w v v₂ : List ℕ) (c d : Cursor) (k l : Tally) (root kind : ℕ) {b bound : ℕ} (f g : ℕ → Result (Ty Located)) {q : Out}
    (after after₂ : Ty Located → Tally → Tally) (write write₂ : Ty Located → Tally → List ℕ → List ℕ)
    (Ahead Ahead₂ : List ℕ → Cursor → Tally → Cursor → Tally → Type 0)
    (a : Meets (form_of after write Ahead) s w c k b f q v) (e : q ≡ Ok (d, l))
    (next : kind ≡ kind_at s d.at) (is : (m : ℕ) → g (suc m) ≡ part (f m) (rest_by m s))
    (more : b < bound) (less : 3 * unread s d + 1 < bound) (stays : Kept w v₂)
    (goes : (x : Cursor) (j : Tally) → (right_form root kind).Ahead s d l x j → Ahead₂ s c k x j) (ends : is_infix kind ≡ false → Ahead₂ s c k d (lasting root l))
    (one : is_infix kind ≡ false → (A : Ty Located) → l ≡ after A k → v ≡ write A k w → (lasting root l ≡ after₂ A k) × (v₂ ≡ write₂ A k w))
    (two : is_infix kind ≡ true → (A B : Ty Located) → l ≡ after A k → v ≡ write A k w
    → (lasting root (after_type B (more_nodes l)) ≡ after₂ (infix_of kind A B) k) × (write_right kind B l v₂ ≡ write₂ (infix_of kind A B) k w)) where
  abbrev whole : Form (Ty Located)
  whole = form_of after₂ write₂ Ahead₂

  -- the rest, by its first token
  rest_none : is_infix kind ≡ false → (m : ℕ) (A : Ty Located) → f m ≡ got A d → g (suc m) ≡ got A d
  rest_none n m A y = is m ∙ rw (y, sym (ap is_infix next) ∙ n)

  rest_right : is_infix kind ≡ true → (m : ℕ) (A : Ty Located) → f m ≡ got A d → g (suc m) ≡ lastly (infix_of kind A) (right_by (λ e. read_type m s e) s kind d)
  rest_right n m A y = is m ∙ rw (y, sym (ap is_infix next) ∙ n, ← next)

  rest_whole : {r : Out} {u : List ℕ} → RestRead root kind s v₂ d l r u → Meets whole s w c k bound g r u
  rest_whole {r} {u} h = go (is_infix kind) refl
    where
      go : (b : Bool) → is_infix kind ≡ b → Meets whole s w c k bound g r u
      go false n =
          rw ((h.none n).0, (h.none n).1)
          (more_got whole s w c k g (ends n) stays
          (λ m lo. gone_on (f m) (a.is m (omega arith)) e λ A y al av fi.
          made_got A (rest_none n m A y) (ap (λ x. Ok (d, x)) (one n A al av).0) (one n A al av).1 fi))
      go true n = let t = h.right n in record {
        is = at_more (λ m. Made whole w k (g m) r u) (λ m lo. gone_on (f m) (a.is m (omega arith)) e λ A y al av fi.
            rw (rest_right n m A y)
            (made_lastly (right_form root kind) whole (infix_of kind A) (right_by (λ e. read_type m s e) s kind d)
            (λ B fi₂. let z = two n A B al av in (z.0, z.1, infix_fine kind A B fi fi₂)) (t.is m (omega arith))));
        kept = h.kept upon stays;
        on = λ x j z. goes x j (t.on x j z);
      }

-- ── a type: its first atom, and the rest
module _ {s w v : List ℕ} {c : Cursor} {k : Tally} (room : Room s w c k) {q : Out} (a : AtomRead s w c k q v) where
  pub type_no : {r : Out} {y : Refusal} → q ≡ Err y → r ≡ Err y → TypeRead s w c k r v
  type_no g h = more_no type_form s w c k (λ m. read_type m s c) h a.kept (λ m lo. type_rest m s c ∙ rw (stopped (read_atom m s c) (a.is m (omega arith)) g))

  pub type_whole : {d : Cursor} {l : Tally} → q ≡ Ok (d, l) → {root kind : ℕ} → kind ≡ kind_at s d.at → root ≡ root_before kind l
      → {r : Out} {u : List ℕ} → RestRead root kind s v d l r u → TypeRead s w c k r u
  type_whole {d} {l} e {root} {kind} next z =
      let o = a.on d l e in
      rest_whole s w v v c d k l root kind (λ m. read_atom m s c) (λ m. read_type m s c)
      after_type after_type write_type write_type type_form.Ahead type_form.Ahead a e next (λ m. type_rest m s c)
      (omega arith) (omega arith) a.kept
      (λ x j y. omega (arith, before_most kind l o.1))
      (λ n. let y = z ∙ before_other kind l n in omega arith)
      (λ n A al av. (ap (λ x. lasting x l) (z ∙ before_other kind l n) ∙ al, av))
      (λ n A B al av. (
        ap (λ x. lasting x (after_type B (more_nodes l))) (z ∙ before_mark kind l n) ∙ ap (λ x. after_infix x (after_type B)) al ∙ sym (infix_after kind A B k),
        (λ i. write_right kind B (al i) (av i)) ∙ sym (infix_write kind A B k w),
      ))

-- ── an infix mark and the atom to its right
-- an atom to the right of an infix mark, whose node is counted and not yet written
abbrev operand_form : Form (Ty Located)
operand_form = record {
  after = λ A k. after_type A (more_nodes k);
  write = λ A k w. write_type A (more_nodes k) w;
  Fine = FineType;
  Ahead = type_form.Ahead;
}

abbrev OperandRead : ℕ → List ℕ → List ℕ → Cursor → Tally → Out → List ℕ → Type 0
OperandRead kind s w c k = Meets operand_form s w c k (3 * unread s c) (λ m. right_by (λ d. read_atom m s d) s kind c)

module _ (s w : List ℕ) (c : Cursor) (k : Tally) (room : Room s w c k)
    (kind : ℕ) {q : Taken} (u : Stepped s c (width kind) 1 0 (type_term s kind c) q) (wide : 1 ≤ width kind) where
  operand_no : {r : Out} {y : Refusal} → q ≡ Err y → r ≡ Err y → OperandRead kind s w c k r w
  operand_no g h = meets_no s w c k h same (λ m _. rw (took u g))

  operand_atom : {i : ℕ} {d : Cursor} → q ≡ Ok (i, d) → {p : Out} {v : List ℕ} → AtomRead s w d (more_nodes k) p v → OperandRead kind s w c k p v
  operand_atom {i} {d} e a =
      let o = u.on i d e in
      record {
        is = λ m lo. rw (took u e) (made_same type_form operand_form (read_atom m s d) (λ A fi. (refl, refl, fi)) (a.is m (omega arith)));
        kept = a.kept;
        on = λ x j y. let o₂ = a.on x j y in omega arith;
      }

-- ── a turn: an infix mark and the atom to its right, whose node is written late
module _ {s w v : List ℕ} {c : Cursor} {k : Tally} (room : Room s w c k)
    (root kind : ℕ) (mark : is_infix kind ≡ true) {q : Out} (a : OperandRead kind s w c k q v) where
  turn_no : {r : Out} {y : Refusal} → q ≡ Err y → r ≡ Err y → RestRead root kind s w c k r v
  turn_no g h = record {
    none = λ n. never_both_lem mark n;
    right = λ _. more_no (right_form root kind) s w c k (λ m. right_by (λ d. read_type m s d) s kind c) h a.kept
        (λ m lo. right_rest m s kind c ∙ rw (stopped (right_by (λ d. read_atom m s d) s kind c) (a.is m (omega arith)) g));
    kept = a.kept;
  }

  module _ {d : Cursor} {l : Tally} (e : q ≡ Ok (d, l)) (next : ℕ) (follows : next ≡ kind_at s d.at) where
    -- the words of T after the mark's node, to the right of which is the root x
    abbrev behind : Ty Located → ℕ → List ℕ
    behind T x = write_type T (more_nodes k) (put_node w k.nodes (type_node (infix_kind kind) k.last x))

    module _ {v₂ : List ℕ} (p : v₂ ≡ put_node v k.nodes (type_node (infix_kind kind) k.last (root_before next l))) where
      few : k.nodes < type_term_limit
      few = let o = a.on d l e in omega arith

      late : (A : Ty Located) → v ≡ write_type A (more_nodes k) w → v₂ ≡ behind A (root_before next l)
      late A av =
          let node = type_node (infix_kind kind) k.last (root_before next l) in
          p ∙ ap (λ x. put_node x k.nodes node) av ∙ sym (type_put k.nodes node few A (more_nodes k) w (omega arith))

      stays : Kept w v₂
      stays = node_kept k.nodes (type_node (infix_kind kind) k.last (root_before next l)) p few upon a.kept

      turn_on : {r : Out} {u : List ℕ} → RestRead root next s v₂ d l r u → RestRead root kind s w c k r u
      turn_on {r} {u} h =
          let o = a.on d l e in
          record {
            none = λ n. never_both_lem mark n;
            right = λ _. rest_whole s w v v₂ c d k l root next (λ m. right_by (λ d. read_atom m s d) s kind c) (λ m. right_by (λ d. read_type m s d) s kind c)
                operand_form.after (right_form root kind).after operand_form.write (right_form root kind).write
                operand_form.Ahead (right_form root kind).Ahead a e follows
                (λ m. right_rest m s kind c) (omega arith) (omega arith) stays (λ x j y. omega arith) (λ n. omega arith)
                (λ n A al av. (ap (lasting root) al, late A av ∙ ap (behind A) (before_other next l n ∙ ap (λ (x : Tally). x.last) al)))
                (λ n A B al av.
                let whole = sym (infix_after next A B (more_nodes k)) in (
                  ap (λ x. lasting root (after_type B (more_nodes x))) al ∙ ap (lasting root) whole,
                  (λ i. write_right next B (al i) (late A av i))
                      ∙ sym (infix_write next A B (more_nodes k) (put_node w k.nodes (type_node (infix_kind kind) k.last (root_before next l))))
                      ∙ ap (behind (infix_of next A B)) (before_mark next l n ∙ ap (λ (x : Tally). x.nodes) al ∙ ap (λ (x : Tally). x.last) whole),
                ))
                h;
            kept = h.kept upon stays;
          }

-- ── the loop: the answer from here is the answer of the whole type
pub record Chain (s w₀ : List ℕ) (c₀ : Cursor) (k₀ : Tally) (w : List ℕ) (c : Cursor) (k : Tally) (mark left root : ℕ) : Type 0 where
  pub room : Room s w c k
  pub waits : Waits mark k.last left
  pub later : c₀.at ≤ c.at
  pub kept : Kept w₀ w
  pub no : {q r : Out} {v : List ℕ} {y : Refusal} → AtomRead s w c k q v → q ≡ Err y → r ≡ Err y → TypeRead s w₀ c₀ k₀ r v
  pub whole : {q : Out} {v : List ℕ} {d : Cursor} {l : Tally} → AtomRead s w c k q v → q ≡ Ok (d, l) → (next : ℕ) → next ≡ kind_at s d.at
      → (r : Out) (u : List ℕ) → RestRead (whole_root mark root (root_before next l)) next s (put_mark mark k.last left (root_before next l) v) d l r u
      → TypeRead s w₀ c₀ k₀ r u

pub chain_start : {s w : List ℕ} {c : Cursor} {k : Tally} → Room s w c k → Chain s w c k w c k k_end 0 0
unfolding is_infix put_mark whole_root
chain_start room = record {
  room = room;
  waits = record { few = λ e. never_both_lem e refl };
  later = omega arith;
  kept = same;
  no = λ a g h. type_no room a g h;
  whole = λ a e next n r u h. type_whole room a e n refl h;
}

-- a turn: the atom, the token after it, the node of the mark that waited, the whole type's root
module _ {s w₀ w : List ℕ} {c₀ c : Cursor} {k₀ k : Tally} {mark left root : ℕ} (h : Chain s w₀ c₀ k₀ w c k mark left root)
    {v : List ℕ} {q : Out} (a : AtomRead s w c k q v) {d : Cursor} {l : Tally} (e : q ≡ Ok (d, l)) {next right root₂ : ℕ} {v₂ : List ℕ}
    (n : next ≡ kind_at s d.at) (z : right ≡ root_before next l) (p : MarkPut mark k.last left right v v₂)
    (y : root₂ ≡ whole_root mark root right) where
  rest : (r : Out) (u : List ℕ) → RestRead root₂ next s v₂ d l r u → TypeRead s w₀ c₀ k₀ r u
  rest r u x =
      h.whole a e next n r u
      (subst (λ g. RestRead g next s (put_mark mark k.last left (root_before next l) v) d l r u) (y ∙ ap (whole_root mark root) z)
      (subst (λ v₃. RestRead root₂ next s v₃ d l r u) (p.words ∙ ap (λ x. put_mark mark k.last left x v) z) x))

  pub chain_end : is_infix next ≡ false → {m : Tally} → m ≡ lasting root₂ l → TypeRead s w₀ c₀ k₀ (Ok (d, m)) v₂
  chain_end f g = rest _ v₂ (record { none = λ _. (ap (λ x. Ok (d, x)) g, refl); right = λ t. never_both_lem t f; kept = same })

  module _ (marked : is_infix next ≡ true) {t : Taken} (u : Stepped s d (width next) 1 0 (type_term s next d) t) where
    room₂ : Room s v₂ d l
    room₂ = let o = a.on d l e in let x = h.room in omega (arith, p.kept.long, a.kept.long)

    pub chain_no : {r : Out} {y : Refusal} → t ≡ Err y → r ≡ Err y → TypeRead s w₀ c₀ k₀ r v₂
    chain_no {r} g f = rest r v₂ (turn_no room₂ root₂ next marked (operand_no s v₂ d l room₂ next u (width_pos next) g f) f f)

    pub chain_on : {i : ℕ} {f : Cursor} → t ≡ Ok (i, f) → Chain s w₀ c₀ k₀ v₂ f (more_nodes l) next l.last root₂
    chain_on {i} {f} g =
        let o = a.on d l e in
        let o₂ = u.on i f g in
        let x = room₂ in
        let wide = width_pos next in
        let before = h.later in
        record {
          room = omega arith;
          waits = record { few = λ _. omega arith };
          later = omega arith;
          kept = p.kept upon a.kept upon h.kept;
          no = λ a₂ g₂ f₂. rest _ _ (turn_no room₂ root₂ next marked (operand_atom s v₂ d l room₂ next u wide g a₂) g₂ f₂);
          whole = λ {q = q₂} {v = v₃} {d = d₂} {l = m} a₂ e₂ next₂ n₂ r u₂ x₂.
              rest r u₂ (turn_on room₂ root₂ next marked (operand_atom s v₂ d l room₂ next u wide g a₂) e₂ next₂ n₂
              (mark_put next marked l.nodes l.last (root_before next₂ m) v₃)
              (subst (λ g₃. RestRead g₃ next₂ s (put_mark next l.nodes l.last (root_before next₂ m) v₃) d₂ m r u₂)
              (root_known next marked root₂ (root_before next₂ m)) x₂));
        }
