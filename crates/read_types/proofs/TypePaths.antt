-- What the definition says on each way through the code that reads an atom.
use mathlib.Core.Path.{◌≡◌, refl, ap, sym, ◌∙◌}
use mathlib.Core.List.{List}
use mathlib.Core.Logic.{◌⊎◌, inl, inr}
use mathlib.Core.Bool.{Bool, true, false, cond, ◌||◌}
use Prim.Native.Nat.{ℕ, suc, ◌-◌, ◌*◌, ◌<◌, ◌≤◌}
use native.Mathlib.Omega.{arith}
use native.Mathlib.Decide.{ℕ_discrete}
use lib.Dec.{eqb}
use borrow.Author.Tests.{eqb-true, ne_eqb}
use Rattle.std.specs.Prelude.{Ok, Err}
use Rattle.notation.specs.Fine.{FineAlternatives, FineType, SomeAlternative}
use Rattle.notation.specs.Limits.{type_term_limit}
use Rattle.notation.specs.Token.{kind_at, k_one, k_name, k_round_open, k_round_close, k_brace_open, k_brace_close, k_plus, k_with}
use Rattle.notation.specs.Tree.{Located, Ty, unit, named, plus, with, Alternatives}
use Rattle.notation.specs.Reader.{Result, Taken, got, on_token, part, expect, misfit, opening, type_term, closed, then_token, onward_from, name_in}
use Rattle.notation.specs.Types.{type_head, choice_by, atom_by, read_type, read_atom, read_alternatives}
use Rattle.notation.specs.Tables.{more_nodes, lasting, type_node, put_node, put_choice, after_type, after_alternatives, write_type, write_alternatives}
use Rattle.notation.specs.declared.refusal.Refusal.{Refusal}
use Rattle.notation.specs.declared.reading.Cursor.{Cursor}
use Rattle.notation.specs.declared.reading.Tally.{Tally}
use Rattle.notation.specs.declared.reading.TypeNode.{TypeNode}
use Rattle.notation.specs.declared.token.TypeHead.{TypeHead}
use Rattle.notation.specs.declared.token.TypeHead.TheVariants.{Plus, With, Other}
use Rattle.read_types.specs.Filling.{Out, Stepped, choice_opening, is_choice, misfit_refusal, Put, Room, Meets, type_form, choice_of, unread, TypeRead, AtomRead, AlternativesRead, OneRead, NameRead, RoundRead, ChoiceRead}
use Rattle.read_types.proofs.Late.{alternatives_put}
use Rattle.read_types.proofs.Filled.{same, ◌upon◌, node_kept, took, made_got, gone_on, stopped, meets_no, meets_got, more_no, more_made}

-- the mark of a choice is one of two
choice_marks : (k : ℕ) → is_choice k ≡ true → (k ≡ k_plus) ⊎ (k ≡ k_with)
unfolding is_choice
choice_marks k e = go (eqb k k_plus) refl e
  where
    go : (b : Bool) → eqb k k_plus ≡ b → (b || eqb k k_with) ≡ true → (k ≡ k_plus) ⊎ (k ≡ k_with)
    go true x e = inl (eqb-true k k_plus x)
    go false x e = inr (eqb-true k k_with e)

pub choice_mark : (k : ℕ) → is_choice k ≡ true → (28 ≤ k) × (k ≤ 29)
choice_mark k e = go (choice_marks k e)
  where
    go : (k ≡ k_plus) ⊎ (k ≡ k_with) → (28 ≤ k) × (k ≤ 29)
    go (inl x) = omega arith
    go (inr x) = omega arith

-- a token that begins no atom
neither : (x y : Bool) → (x || y) ≡ false → cond x Plus (cond y With Other) ≡ Other
neither false false e = refl
neither true y e = cc
neither false true e = cc

head_other : (k : ℕ) → (k ≡ k_one → ⊥) → (k ≡ k_name → ⊥) → (k ≡ k_round_open → ⊥) → is_choice k ≡ false → type_head k ≡ Other
unfolding type_head is_choice
head_other k a b c e = rw (ne_eqb _ _ a, ne_eqb _ _ b, ne_eqb _ _ c) (neither (eqb k k_plus) (eqb k k_with) e)

-- the definition at one more fuel
atom_suc : (m : ℕ) (s : List ℕ) (c : Cursor)
    → read_atom (suc m) s c ≡ atom_by (λ d. read_type m s d) (λ d. read_alternatives m s 0 d) s c (type_head (kind_at s c.at))
unfolding read_type
atom_suc m s c = refl

module _ (s w : List ℕ) (c : Cursor) (k : Tally) (room : Room s w c k) where
  -- ── 1, and a name
  module _ {q : Taken} (u : Stepped s c 1 1 0 (type_term s k_one c) q) where
    pub one_no : {r : Out} {y : Refusal} → q ≡ Err y → r ≡ Err y → OneRead s w c k r w
    one_no g h = meets_no s w c k h same (λ m _. rw (took u g))

    pub one_got : {i : ℕ} {d : Cursor} {l : Tally} {v : List ℕ} → q ≡ Ok (i, d)
        → Put w (put_node w k.nodes (type_node 0 0 0)) (more_nodes k) l v → OneRead s w c k (Ok (d, l)) v
    unfolding after_type write_type FineType
    one_got {i} {d} e p =
        let o = u.on i d e in
        rw p.is (meets_got s w c k (omega arith) p.kept (λ m _. made_got unit (rw (took u e)) refl p.words (omega arith)))

  module _ {q : Taken} (u : Stepped s c 1 1 0 (type_term s k_name c) q) where
    pub name_no : {r : Out} {y : Refusal} → q ≡ Err y → r ≡ Err y → NameRead s w c k r w
    name_no g h = meets_no s w c k h same (λ m _. rw (took u g))

    pub name_got : {i : ℕ} {d : Cursor} {l : Tally} {v : List ℕ} → q ≡ Ok (i, d)
        → Put w (put_node w k.nodes (type_node 1 0 i)) (more_nodes k) l v → NameRead s w c k (Ok (d, l)) v
    unfolding after_type write_type FineType
    name_got {i} {d} e p =
        let o = u.on i d e in
        rw p.is (meets_got s w c k (omega arith) p.kept (λ m _. made_got (named (name_in s i)) (rw (took u e)) refl p.words (omega arith)))

  -- ── a type in round brackets
  module _ {q : Taken} (u : Stepped s c 1 0 0 (opening s k_round_open c) q) where
    pub round_no : {r : Out} {y : Refusal} → q ≡ Err y → r ≡ Err y → RoundRead s w c k r w
    round_no g h = meets_no s w c k h same (λ m _. rw (took u g))

    module _ {i : ℕ} {d : Cursor} (e : q ≡ Ok (i, d)) {p : Out} {v : List ℕ} (t : TypeRead s w d k p v) where
      pub round_inner_no : {r : Out} {y : Refusal} → p ≡ Err y → r ≡ Err y → RoundRead s w c k r v
      round_inner_no g h =
          let o = u.on i d e in
          meets_no s w c k h t.kept (λ m lo. rw (took u e, stopped (read_type m s d) (t.is m (omega arith)) g))

      module _ {f : Cursor} {l : Tally} (g : p ≡ Ok (f, l)) {x : Taken} (y : Stepped s f 1 0 0 (expect s k_round_close f) x) where
        pub round_close_no : {r : Out} {y : Refusal} → x ≡ Err y → r ≡ Err y → RoundRead s w c k r v
        round_close_no z h =
            let o = u.on i d e in
            meets_no s w c k h t.kept
            (λ m lo. gone_on (read_type m s d) (t.is m (omega arith)) g λ A a _ _ _. rw (took u e, a, took y z))

        pub round_got : {j : ℕ} {b : Cursor} → x ≡ Ok (j, b) → RoundRead s w c k (Ok (closed c b, l)) v
        round_got {j} {b} z =
            let o = u.on i d e in
            let o₂ = t.on f l g in
            let o₃ = y.on j b z in
            meets_got s w c k (omega arith) t.kept
            (λ m lo. gone_on (read_type m s d) (t.is m (omega arith)) g λ A a al av fi.
            made_got A (rw (took u e, a, took y z)) (ap (λ x. Ok (closed c b, x)) al) av fi)

-- a choice's words, by its mark
choice_after : (kind : ℕ) (r : Alternatives Located) (k : Tally) → after_type (choice_of kind r) k ≡ lasting k.nodes (after_alternatives r (more_nodes k))
unfolding choice_of after_type
choice_after kind r k = go (eqb kind k_plus)
  where
    go : (b : Bool) → after_type (cond b (plus r) (with r)) k ≡ lasting k.nodes (after_alternatives r (more_nodes k))
    go true = refl
    go false = refl

choice_write : (kind : ℕ) (r : Alternatives Located) (k : Tally) (w : List ℕ) → 28 ≤ kind → kind ≤ 29
    → write_type (choice_of kind r) k w ≡ write_alternatives r (more_nodes k) (put_choice (kind - 23) k (after_alternatives r (more_nodes k)) w)
unfolding choice_of write_type
choice_write kind r k w l h = go (ℕ_discrete kind 28)
  where
    go : Dec (kind ≡ 28)
        → write_type (cond (eqb kind k_plus) (plus r) (with r)) k w
        ≡ write_alternatives r (more_nodes k) (put_choice (kind - 23) k (after_alternatives r (more_nodes k)) w)
    go (yes e) = rw e
    go (no n) = let e : kind ≡ 29 = omega arith in rw e

choice_fine : (kind : ℕ) (r : Alternatives Located) → FineAlternatives r × SomeAlternative r → FineType (choice_of kind r)
unfolding choice_of FineType
choice_fine kind r f = go (eqb kind k_plus)
  where
    go : (b : Bool) → FineType (cond b (plus r) (with r))
    go true = f
    go false = f

-- two tokens in a row, in the definition's words
pub then_take : {A : Type 0} (want : Taken) (g : Cursor → Taken) (f : ℕ → Cursor → Result A)
    → on_token (then_token want g) f ≡ on_token want (λ i d. on_token (g d) (λ _ e. f i e))
then_take {A} (Ok (i, d)) g f = go (g d)
  where
    go : (x : Taken) → ◌≡◌ {A = Result A} (on_token (onward_from i x) f) (on_token x (λ _ e. f i e))
    go (Ok (j, e)) = refl
    go (Err y) = refl
then_take (Err y) g f = refl

module _ (s w : List ℕ) (c : Cursor) (k : Tally) (room : Room s w c k) where
  -- ── a choice
  module _ (kind : ℕ) (low : 28 ≤ kind) (high : kind ≤ 29) {q : Taken} (u : Stepped s c 2 1 0 (choice_opening s kind c) q) where
    -- the definition, with its two first tokens as one
    choice_is : (m : ℕ) → choice_by (λ d. read_alternatives m s 0 d) s kind (choice_of kind) c
        ≡ on_token (choice_opening s kind c) (λ _ e. part (read_alternatives m s 0 e) λ r f. on_token (expect s k_brace_close f) λ _ g. got (choice_of kind r) (closed c g))
    unfolding choice_opening
    choice_is m = sym (then_take (type_term s kind c) (opening s k_brace_open) _)

    pub choice_no : {r : Out} {y : Refusal} → q ≡ Err y → r ≡ Err y → ChoiceRead kind s w c k r w
    choice_no g h = meets_no s w c k h same (λ m _. choice_is m ∙ rw (took u g))

    module _ {i : ℕ} {d : Cursor} (e : q ≡ Ok (i, d)) {p : Out} {v : List ℕ} (t : AlternativesRead s w d (more_nodes k) p v) where
      pub choice_list_no : {r : Out} {y : Refusal} → p ≡ Err y → r ≡ Err y → ChoiceRead kind s w c k r v
      choice_list_no g h =
          let o = u.on i d e in
          meets_no s w c k h t.kept (λ m lo. choice_is m ∙ rw (took u e, stopped (read_alternatives m s 0 d) (t.is m (omega arith)) g))

      module _ {f : Cursor} {l : Tally} (g : p ≡ Ok (f, l)) {x : Taken} (y : Stepped s f 1 0 0 (expect s k_brace_close f) x) where
        pub choice_close_no : {r : Out} {y : Refusal} → x ≡ Err y → r ≡ Err y → ChoiceRead kind s w c k r v
        choice_close_no z h =
            let o = u.on i d e in
            meets_no s w c k h t.kept
            (λ m lo. gone_on (read_alternatives m s 0 d) (t.is m (omega arith)) g λ r a _ _ _. choice_is m ∙ rw (took u e, a, took y z))

        pub choice_got : {j : ℕ} {b : Cursor} {l₂ : Tally} {v₂ : List ℕ} → x ≡ Ok (j, b)
            → v₂ ≡ put_node v k.nodes (type_node (kind - 23) l.alternatives l.last)
            → l₂ ≡ lasting k.nodes l → ChoiceRead kind s w c k (Ok (closed c b, l₂)) v₂
        choice_got {j} {b} z words tally =
            let o = u.on i d e in
            let o₂ = t.on f l g in
            let o₃ = y.on j b z in
            let few : k.nodes < type_term_limit = omega arith in
            let node : Tally → TypeNode = λ x. type_node (kind - 23) x.alternatives x.last in
            rw tally
            (meets_got s w c k (omega arith) (node_kept k.nodes (node l) words few upon t.kept)
            (λ m lo. gone_on (read_alternatives m s 0 d) (t.is m (omega arith)) g λ r a al av fi.
            made_got (choice_of kind r) (choice_is m ∙ rw (took u e, a, took y z))
            ((λ i. Ok (closed c b, lasting k.nodes (al i))) ∙ ap (λ x. Ok (closed c b, x)) (sym (choice_after kind r k)))
            (words ∙ (λ i. put_choice (kind - 23) k (al i) (av i))
            ∙ sym (alternatives_put k.nodes (node (after_alternatives r (more_nodes k))) few r (more_nodes k) w (omega arith))
            ∙ sym (choice_write kind r k w low high))
            (choice_fine kind r fi)))

  -- ── atoms, by what begins them
  module _ (kind : ℕ) (is : kind ≡ kind_at s c.at) where
    atom_by_lem : {h : TypeHead} → type_head kind ≡ h → (m : ℕ) → read_atom (suc m) s c ≡ atom_by (λ d. read_type m s d) (λ d. read_alternatives m s 0 d) s c h
    atom_by_lem e m = rw (atom_suc, ← is, e)

    -- an atom whose definition is f, which r and v meet
    atom_as : {h : TypeHead} → type_head kind ≡ h → {b : ℕ} → b ≤ 3 * unread s c → {f : ℕ → Result (Ty Located)} {r : Out} {v : List ℕ}
        → Meets type_form s w c k b f r v → ((m : ℕ) → atom_by (λ d. read_type m s d) (λ d. read_alternatives m s 0 d) s c h ≡ f m) → AtomRead s w c k r v
    atom_as e l {f} {r} {v} t same =
        record {
          is = more_made type_form w k (λ m. read_atom m s c) (λ m lo. rw (atom_by_lem e m, same m) (t.is m (omega arith)));
          kept = t.kept;
          on = t.on;
        }

    pub atom_one : {r : Out} {v : List ℕ} → kind ≡ k_one → OneRead s w c k r v → AtomRead s w c k r v
    unfolding type_head atom_by
    atom_one e t = atom_as (ap type_head e) (omega arith) t (λ m. refl)

    pub atom_name : {r : Out} {v : List ℕ} → kind ≡ k_name → NameRead s w c k r v → AtomRead s w c k r v
    unfolding type_head atom_by
    atom_name e t = atom_as (ap type_head e) (omega arith) t (λ m. refl)

    pub atom_round : {r : Out} {v : List ℕ} → kind ≡ k_round_open → RoundRead s w c k r v → AtomRead s w c k r v
    unfolding type_head atom_by
    atom_round e t = atom_as (ap type_head e) (omega arith) t (λ m. refl)

    pub atom_choice : {r : Out} {v : List ℕ} → is_choice kind ≡ true → ChoiceRead kind s w c k r v → AtomRead s w c k r v
    unfolding type_head atom_by choice_of
    atom_choice {r} {v} e t = go (choice_marks kind e)
      where
        go : (kind ≡ k_plus) ⊎ (kind ≡ k_with) → AtomRead s w c k r v
        go (inl x) = atom_as (ap type_head x) (omega arith) t (λ m. rw x)
        go (inr x) = atom_as (ap type_head x) (omega arith) t (λ m. rw x)

    pub atom_other : {r : Out} → (kind ≡ k_one → ⊥) → (kind ≡ k_name → ⊥) → (kind ≡ k_round_open → ⊥) → is_choice kind ≡ false → r ≡ Err (misfit_refusal s c.at)
        → AtomRead s w c k r w
    unfolding atom_by misfit
    atom_other a b c' e h = more_no type_form s w c k (λ m. read_atom m s c) h same (λ m _. atom_by_lem (head_other kind a b c' e) m)
