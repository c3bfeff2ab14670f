-- What the typing rules ask of a term that ends its process.
use Rattle.std.specs.Prelude.{ℕ, ◌<◌, ◌≡◌, refl, List, [], ◌∷◌, ◌++◌, Bool, true, false, ◌&&◌, length, Option, None, Result, Ok, Err}
use Rattle.std.proofs.Math.Path.{sym, ap}
use Rattle.std.proofs.Common.{◌∙◌, arith}
use Rattle.notation.specs.Token.{name_at}
use Rattle.notation.specs.Tree.{Name, Located, fwd, call}
use Rattle.calculus.specs.Named.{lookup, without, is_some, every, distinct}
use Rattle.calculus.specs.Types.{provided, used, same_side}
use Rattle.calculus.specs.SameType.{same_type}
use Rattle.calculus.specs.Program.{Slot, Context, Program}
use Rattle.calculus.specs.Declarations.{is_nil}
use Rattle.calculus.specs.Typing.{names_of}
use Rattle.calculus.specs.Checking.{fits_slot, list_fits, check, without_all}
use Rattle.calculus.specs.Verdict.{Verdict, fine, refused}
use Rattle.calculus.specs.Warnings.{missing}
use Rattle.run_words.specs.Raw.{side_of}
use Rattle.run_words.specs.declared.records.End.{End as EndWords}
use Rattle.run_words.specs.declared.records.Held.{Held}
use Rattle.read_tables.specs.Program.{plain_in, program_in}
use Rattle.check_contexts.specs.Held.{Sees, Drops}
use Rattle.check_terms.specs.Findings.{Finding, lacking, found}
use Rattle.check_terms.specs.Next.{Step, stop, go, asking, granted, resume, context_in, asking_none, asking_some, having_asks, demand_asks}
use Rattle.check_terms.specs.Acting.{slot_in, different_sides, equal_sides}
use Rattle.check_terms.specs.Sends.{dropped, count_so, Seen, sees_not}

-- what the code answers: a refusal by its number, or nothing
abbrev pub answer_of : Step → Result (Unit {0}) ℕ
answer_of (stop n) = Err n
answer_of (go G) = Ok tt

-- the verdict that it stands for, of a term whose first token stands at an offset
abbrev pub verdict_by : ℕ → Result (Unit {0}) ℕ → Verdict
verdict_by at (Ok x) = fine
verdict_by at (Err n) = refused n at

-- ── fwd x c
abbrev pub joins : Program → Slot → Slot → Bool
joins p h e = same_side h.side provided && fits_slot p used h.type e

unfoldable pub forwards : Program → Name → Name → Context → Step
forwards p x c G =
    asking 10 (lookup x G) λ h.
    asking 10 (lookup c G) λ e.
    granted 11 (joins p h e) (granted 13 (is_nil (without_all (x ∷ c ∷ []) G)) (go G))

-- ── call
unfoldable pub calls : Program → Name → List Name → List Name → Context → Step
calls p q xs ys G =
    granted 10 (every (λ n. is_some (lookup n G)) (xs ++ ys))
    (asking 11 (lookup q p.processes) λ s.
    granted 11 (list_fits p G provided xs s.provides && list_fits p G used ys s.uses)
    (granted 11 (distinct (xs ++ ys)) (granted 13 (is_nil (without_all (xs ++ ys) G)) (go G))))

-- ── what is found of such a term is the rule's step: no label is left out
abbrev ended : Context → Finding
ended G = lacking []

pub found_fwd : (p : Program) (G : Context) (at : ℕ) (x c : Located) → found p G (fwd at x c) ≡ resume at (forwards p x.name c.name G) ended
unfolding check missing forwards
found_fwd p G at x c =
    having_asks 10 at (lookup x.name G) _ _ _ ended λ h.
    having_asks 10 at (lookup c.name G) _ _ _ ended λ e.
    demand_asks 11 at (joins p h e) _ _ _ ended (demand_asks 13 at (is_nil (without_all (x.name ∷ c.name ∷ []) G)) _ _ _ ended refl)

pub found_call : (p : Program) (G : Context) (at : ℕ) (q : Located) (bracket : ℕ) (xs ys : List Located) → found p G (call at q bracket xs ys) ≡ resume at (calls p q.name (names_of xs) (names_of ys) G) ended
unfolding check missing calls
found_call p G at q bracket xs ys =
    demand_asks 10 at (every (λ n. is_some (lookup n G)) (names_of xs ++ names_of ys)) _ _ _ ended
    (having_asks 11 at (lookup q.name p.processes) _ _ _ ended λ s.
    demand_asks 11 at (list_fits p G provided (names_of xs) s.provides && list_fits p G used (names_of ys) s.uses) _ _ _ ended
    (demand_asks 11 at (distinct (names_of xs ++ names_of ys)) _ _ _ ended (demand_asks 13 at (is_nil (without_all (names_of xs ++ names_of ys) G)) _ _ _ ended refl)))

-- ── the ways through the code of fwd
module _ (s w : List ℕ) (x c : EndWords) (p : x.side < 2) (q : c.side < 2) where
  pub joins_not_provided : (x.side ≡ 0 → ⊥) → false ≡ joins (program_in s w) (slot_in s w x) (slot_in s w c)
  joins_not_provided n =
      sym (ap (λ b. b && (same_side (side_of c.side) used && same_type (program_in s w).types (plain_in s w c.node) (plain_in s w x.node))) (different_sides x.side 0 p (omega arith) n))

  module _ (m : x.side ≡ 0) where
    pub joins_not_used : (c.side ≡ 1 → ⊥) → false ≡ joins (program_in s w) (slot_in s w x) (slot_in s w c)
    joins_not_used n =
        sym λ j. equal_sides x.side 0 p (omega arith) m j && (different_sides c.side 1 q (omega arith) n j && same_type (program_in s w).types (plain_in s w c.node) (plain_in s w x.node))

    pub joins_so : {r : Bool} {i k : ℕ} → c.side ≡ 1 → i ≡ c.node → k ≡ x.node → r ≡ same_type (program_in s w).types (plain_in s w i) (plain_in s w k) → r ≡ joins (program_in s w) (slot_in s w x) (slot_in s w c)
    joins_so n y z e =
        e
        ∙ (λ j. same_type (program_in s w).types (plain_in s w (y j)) (plain_in s w (z j)))
        ∙ sym λ j. equal_sides x.side 0 p (omega arith) m j && (equal_sides c.side 1 q (omega arith) n j && same_type (program_in s w).types (plain_in s w c.node) (plain_in s w x.node))

-- nothing is held where nothing is counted
nil_zero : {A : Type 0} (l : List A) → length l ≡ 0 → is_nil l ≡ true
nil_zero [] e = refl
nil_zero (x ∷ l) e = absurd (omega arith)

nil_not : {A : Type 0} (l : List A) → (length l ≡ 0 → ⊥) → is_nil l ≡ false
nil_not [] e = absurd (e refl)
nil_not (x ∷ l) e = refl

pub none_left : (s w : List ℕ) (r : Held) → r.count ≡ 0 → is_nil (context_in s w r) ≡ true
none_left s w r e = nil_zero (context_in s w r) (count_so s w r ∙ e)

pub some_left : (s w : List ℕ) (r : Held) → (r.count ≡ 0 → ⊥) → is_nil (context_in s w r) ≡ false
some_left s w r e = nil_not (context_in s w r) (λ z. e (sym (count_so s w r) ∙ z))

module _ {s : List ℕ} (w : List ℕ) {h : Held} {x : ℕ} (c : ℕ) where
  pub forwards_no_x : {r : Option EndWords} → Sees s h x r → r ≡ None → answer_of (forwards (program_in s w) (name_at s x) (name_at s c) (context_in s w h)) ≡ Err 10
  unfolding forwards
  forwards_no_x f z = ap answer_of (asking_none 10 _ (sees_not w f z))

  module _ {d : EndWords} (f : Seen s w h x d) where
    pub forwards_no_c : {r : Option EndWords} → Sees s h c r → r ≡ None → answer_of (forwards (program_in s w) (name_at s x) (name_at s c) (context_in s w h)) ≡ Err 10
    unfolding forwards
    forwards_no_c g z = ap answer_of (asking_some 10 _ f.is ∙ asking_none 10 _ (sees_not w g z))

    module _ {e : EndWords} (g : Seen s w h c e) where
      forwards_by : {a b : Bool} → joins (program_in s w) (slot_in s w d) (slot_in s w e) ≡ a → is_nil (without_all (name_at s x ∷ name_at s c ∷ []) (context_in s w h)) ≡ b
          → forwards (program_in s w) (name_at s x) (name_at s c) (context_in s w h) ≡ granted 11 a (granted 13 b (go (context_in s w h)))
      unfolding forwards
      forwards_by p q = asking_some 10 _ f.is ∙ asking_some 10 _ g.is ∙ λ j. granted 11 (p j) (granted 13 (q j) (go (context_in s w h)))

      pub forwards_not : false ≡ joins (program_in s w) (slot_in s w d) (slot_in s w e) → answer_of (forwards (program_in s w) (name_at s x) (name_at s c) (context_in s w h)) ≡ Err 11
      forwards_not p = ap answer_of (forwards_by (sym p) refl)

      left : (l r : Held) → Drops s h x l → Drops s l c r → without_all (name_at s x ∷ name_at s c ∷ []) (context_in s w h) ≡ context_in s w r
      unfolding without_all
      left l r a b = ap (without (name_at s c)) (dropped s w h x l a) ∙ dropped s w l c r b

      pub forwards_left : true ≡ joins (program_in s w) (slot_in s w d) (slot_in s w e) → {l r : Held} → Drops s h x l → Drops s l c r → (r.count ≡ 0 → ⊥)
          → answer_of (forwards (program_in s w) (name_at s x) (name_at s c) (context_in s w h)) ≡ Err 13
      forwards_left p {l} {r} a b z = ap answer_of (forwards_by (sym p) (ap is_nil (left l r a b) ∙ some_left s w r z))

      pub forwards_so : true ≡ joins (program_in s w) (slot_in s w d) (slot_in s w e) → {l r : Held} → Drops s h x l → Drops s l c r → r.count ≡ 0
          → answer_of (forwards (program_in s w) (name_at s x) (name_at s c) (context_in s w h)) ≡ Ok tt
      forwards_so p {l} {r} a b z = ap answer_of (forwards_by (sym p) (ap is_nil (left l r a b) ∙ none_left s w r z))
