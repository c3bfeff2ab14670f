-- The reading of types is right about the rules of types.
use Rattle.std.specs.Prelude.{ℕ, zero, suc, ◌+◌, ◌≡◌, Bool, true, false, ◌||◌, eqb, ltb}
use Rattle.std.proofs.Math.Path.{refl, subst}
use Rattle.std.proofs.Common.{sym, ◌∙◌, ap, true≢false, arith, eqb-true}
use mathlib.Core.List.{List, [], ◌∷◌, ◌++◌, append-nil}
use Rattle.std.proofs.lemmas.Bool.{false≢true}
use Rattle.notation.specs.Token.{kind_at, k_one, k_name, k_round_open, k_round_close, k_brace_open, k_brace_close, k_plus, k_with, k_colon, k_comma, k_star, k_at, k_lolli}
use Rattle.notation.specs.Tree.{Located, Ty, unit, named, plus, with, Alternatives, alternative}
use Rattle.notation.specs.Reader.{Result, got, on_token, lastly, choose, expect}
use Rattle.notation.specs.Types.{type_head, is_infix, infix_of, right_by, type_by, round_by, choice_by, atom_by, alternatives_by, read_type, read_atom, read_alternatives}
use Rattle.notation.specs.declared.reading.Cursor.{Cursor}
use Rattle.notation.specs.declared.token.TypeHead.{TypeHead}
use Rattle.notation.specs.declared.token.TypeHead.TheVariants.{One as OneHead, Name as NameHead, Round, Plus, With, Other}
use Rattle.grammar.specs.Terminals.{Tok, Terminal, type_mark, closes, listed, mark}
use Rattle.grammar.specs.Grammar as rule
use Rattle.grammar.specs.Grammar.{IsType, IsAtom, AreAlternatives}
use Rattle.grammar.specs.Counting.{Counts}
use Rattle.theory_notation.specs.Standing.{token_in, first_of}
use Rattle.theory_notation.specs.Phrases.{Phrase, Role, rules, one, seq, ret, mapped, lang, Each, Right, leads, joins, ended, becomes}
use Rattle.theory_notation.specs.Laws.{right_got, right_ret, right_misfit, right_narrow, right_part, right_lastly}
use Rattle.theory_notation.specs.Roles.{type_marks, type_names, openers, closers, marks, listed_labels}
use Rattle.theory_notation.specs.Levels.{Level, right_plain, right_type, right_opening, right_listed, right_close}

-- a rule's terminals and its value, by what they are equal to
pub recast : {A : Type 0} (L : List Terminal → A → Type 0) {p q : List Terminal} {a b : A} → L p a → q ≡ p → b ≡ a → L q b
recast L {q = q} {a = a} x e f = subst (L q) (sym f) (subst (λ p. L p a) (sym e) x)

-- ── the phrases
abbrev pub type_p : {s : List ℕ} → Phrase s (Ty Located)
type_p = rules (λ next A p. IsType p A) (λ o. record { terminals = type_mark k_one o ∷ []; next = 0; value = unit; starts = refl; member = rule.atom rule.unit })

abbrev pub atom_p : {s : List ℕ} → Phrase s (Ty Located)
atom_p = rules (λ next A p. IsAtom p A) (λ o. record { terminals = type_mark k_one o ∷ []; next = 0; value = unit; starts = refl; member = rule.unit })

abbrev pub alternatives_p : {s : List ℕ} → ℕ → Phrase s (Alternatives Located)
alternatives_p n = rules (λ next r p. AreAlternatives n p r) (λ o.
    record {
      terminals = listed n (record { at = o; name = [] }) ∷ mark k_colon 0 ∷ type_mark k_one 0 ∷ [];
      next = 0;
      value = alternative (record { at = o; name = [] }) unit Alternatives.none;
      starts = refl;
      member = rule.last (rule.atom rule.unit);
    })

abbrev is_other : TypeHead → Bool
is_other OneHead = false
is_other NameHead = false
is_other Round = false
is_other Plus = false
is_other With = false
is_other Other = true

module _ (s : List ℕ) where
  abbrev choice_p : (k : ℕ) → ltb k k_name ≡ true → (Alternatives Located → Ty Located) → Phrase s (Ty Located)
  choice_p k p choice = one (type_marks s k p) λ _. one (openers s k_brace_open refl) λ _. seq (alternatives_p 0) λ r. one (closers s k_brace_close refl) λ _. ret (choice r)

  -- an atom by its head
  abbrev head_p : TypeHead → Phrase s (Ty Located)
  head_p OneHead = one (type_marks s k_one refl) λ _. ret unit
  head_p NameHead = one (type_names s) λ n. ret (named n)
  head_p Round = one (openers s k_round_open refl) λ _. seq type_p λ A. one (closers s k_round_close refl) λ _. ret A
  head_p Plus = choice_p k_plus refl plus
  head_p With = choice_p k_with refl with
  head_p Other = atom_p

  head_atom : (h : TypeHead) (next : ℕ) (A : Ty Located) (p : List Terminal) → lang (head_p h) next A p → IsAtom p A
  head_atom OneHead next A p y = recast IsAtom (rule.unit {a = y.value}) (let e = y.is in let f = y.follows.none in cc) y.follows.value
  head_atom NameHead next A p y = recast IsAtom (rule.named {n = y.value}) (let e = y.is in let f = y.follows.none in cc) y.follows.value
  head_atom Round next A p y =
      let z = y.follows.follows in
      recast IsAtom (rule.round {a = y.value} z.value y.follows.begins) (let e = y.is in let f = y.follows.is in let g = z.is in let h = z.follows.none in cc) z.follows.value
  head_atom Plus next A p y =
      let x = y.follows in
      let z = x.follows.follows in
      recast IsAtom (rule.plus {a = y.value} {b = x.value} z.value x.follows.begins) (let e = y.is in let d = x.is in let f = x.follows.is in let g = z.is in let h = z.follows.none in cc) z.follows.value
  head_atom With next A p y =
      let x = y.follows in
      let z = x.follows.follows in
      recast IsAtom (rule.with {a = y.value} {b = x.value} z.value x.follows.begins) (let e = y.is in let d = x.is in let f = x.follows.is in let g = z.is in let h = z.follows.none in cc) z.follows.value
  head_atom Other next A p y = y

  -- .. and every atom has the head that its first token says
  atom_head : {p : List Terminal} {A : Ty Located} → IsAtom p A → (t : Tok) (next : ℕ) → lang (head_p (type_head (first_of p t).kind)) next A p
  unfolding type_head
  atom_head (rule.unit {a}) t next = leads a ended
  atom_head (rule.named {n}) t next = leads n ended
  atom_head (rule.plus {p} {a} {b} c {r} d) t next = leads a (leads b (joins r p (closes k_brace_close c ∷ []) refl d (leads c ended)))
  atom_head (rule.with {p} {a} {b} c {r} d) t next = leads a (leads b (joins r p (closes k_brace_close c ∷ []) refl d (leads c ended)))
  atom_head (rule.round {p} {a} b {A} d) t next = leads a (joins A p (closes k_round_close b ∷ []) refl d (leads b ended))

  atom_known : {p : List Terminal} {A : Ty Located} → IsAtom p A → (t : Tok) → is_other (type_head (first_of p t).kind) ≡ false
  unfolding type_head
  atom_known rule.unit t = refl
  atom_known rule.named t = refl
  atom_known (rule.plus c d) t = refl
  atom_known (rule.with c d) t = refl
  atom_known (rule.round b d) t = refl

-- ── what may follow a type, and a list of labels
abbrev pub NotInfix : ℕ → Type 0
NotInfix k = is_infix k ≡ false

abbrev pub NoLabel : ℕ → Type 0
NoLabel k = NotInfix k × (eqb k k_comma ≡ false)

abbrev pub Any : ℕ → Type 0
Any k = Unit {0}

infix_cases : (P : ℕ → Type 0) → P k_star → P k_at → P k_lolli → (k : ℕ) → is_infix k ≡ true → P k
unfolding is_infix
infix_cases P f g h k = go (eqb k k_star) (eqb k k_at) (eqb k k_lolli) refl refl refl
  where
    go : (a b c : Bool) → eqb k k_star ≡ a → eqb k k_at ≡ b → eqb k k_lolli ≡ c → (a || b || c) ≡ true → P k
    go true b c x y z e = subst P (sym (eqb-true k k_star x)) f
    go false true c x y z e = subst P (sym (eqb-true k k_at y)) g
    go false false true x y z e = subst P (sym (eqb-true k k_lolli z)) h
    go false false false x y z e = absurd (false≢true e)

infix_plain : (k : ℕ) → is_infix k ≡ true → ltb k k_name ≡ true
infix_plain = infix_cases (λ k. ltb k k_name ≡ true) refl refl refl

-- what follows the first atom of a type
data Tail (A : Ty Located) : ℕ → Ty Located → List Terminal → Type 0 where
  stop : {next : ℕ} → Tail A next A []
  goes : {next a : ℕ} {q : List Terminal} {B : Ty Located} (k : ℕ) → is_infix k ≡ true → IsType q B → Tail A next (infix_of k A B) (type_mark k a ∷ q)

abbrev tail_p : {s : List ℕ} → Ty Located → Phrase s (Ty Located)
tail_p A = rules (Tail A) (λ o. record { terminals = []; next = o; value = A; starts = refl; member = stop })

infix_type : (k a : ℕ) → is_infix k ≡ true → {p q : List Terminal} {A B : Ty Located} → IsAtom p A → IsType q B → IsType (p ++ (type_mark k a ∷ q)) (infix_of k A B)
unfolding infix_of
infix_type k a e {p} {q} {A} {B} x y =
    infix_cases (λ k. IsType (p ++ (type_mark k a ∷ q)) (infix_of k A B)) (rule.tensor a x y) (rule.par a x y) (rule.lolli a x y) k e

with_tail : {next : ℕ} {A B : Ty Located} {p q r : List Terminal} → p ≡ q ++ r → IsAtom q A → Tail A next B r → IsType p B
with_tail {q = q} e x stop = recast IsType (rule.atom x) (e ∙ append-nil q) refl
with_tail e x (goes {a = a} k i d) = recast IsType (infix_type k a i x d) e refl

abbrev tailed_p : (s : List ℕ) → Phrase s (Ty Located)
tailed_p s = seq atom_p tail_p

tailed : (s : List ℕ) (next : ℕ) (B : Ty Located) (p : List Terminal) → lang (tailed_p s) next B p → IsType p B
tailed s next B p y = with_tail y.is y.begins y.follows

tailed_of : {p : List Terminal} {B : Ty Located} → IsType p B → (s : List ℕ) (next : ℕ) → lang (tailed_p s) next B p
unfolding infix_of is_infix
tailed_of (rule.atom {p} {A} x) s next = joins A p ([]) (sym (append-nil p)) x stop
tailed_of (rule.tensor {p} {q} a {A} x y) s next = joins A p _ refl x (goes k_star refl y)
tailed_of (rule.par {p} {q} a {A} x y) s next = joins A p _ refl x (goes k_at refl y)
tailed_of (rule.lolli {p} {q} a {A} x y) s next = joins A p _ refl x (goes k_lolli refl y)

-- what follows a label's type
data More (n : ℕ) : ℕ → Alternatives Located → List Terminal → Type 0 where
  none : {next : ℕ} → More n next Alternatives.none []
  some : {next b : ℕ} {q : List Terminal} {r : Alternatives Located} → AreAlternatives (suc n) q r → More n next r (mark k_comma b ∷ q)

abbrev more_p : {s : List ℕ} → ℕ → Phrase s (Alternatives Located)
more_p n = rules (More n) (λ o. record { terminals = []; next = o; value = Alternatives.none; starts = refl; member = none })

module _ (s : List ℕ) where
  abbrev labels_p : ℕ → Phrase s (Alternatives Located)
  labels_p n = one (listed_labels s n) λ l. one (marks s k_colon refl) λ _. seq type_p λ A. mapped (alternative l A) (more_p n)

  with_more : {n next a : ℕ} {l : Located} {A : Ty Located} {r : Alternatives Located} {p q : List Terminal} → IsType p A → More n next r q → AreAlternatives n (listed n l ∷ mark k_colon a ∷ (p ++ q)) (alternative l A r)
  with_more {n} {a = a} {l} {A} {p = p} x none = recast (AreAlternatives n) (rule.last x) (ap (λ q. listed n l ∷ mark k_colon a ∷ q) (append-nil p)) refl
  with_more x (some {b = b} d) = rule.more b x d

  labels_are : (n next : ℕ) (r : Alternatives Located) (p : List Terminal) → lang (labels_p n) next r p → AreAlternatives n p r
  labels_are n next r p y =
      let x = y.follows in
      let z = x.follows in
      recast (AreAlternatives n) (with_more {a = x.value} {l = y.value} z.begins z.follows.of) (let e = y.is in let f = x.is in let g = z.is in cc) z.follows.is

  are_labels : {n : ℕ} {p : List Terminal} {r : Alternatives Located} → AreAlternatives n p r → (next : ℕ) → lang (labels_p n) next r p
  are_labels (rule.last {a = a} {p} {l} {A} x) next = leads l (leads a (joins A p ([]) (sym (append-nil p)) x (becomes (Alternatives.none) none)))
  are_labels (rule.more {a = a} b {p} {q} {l} {A} {r} x d) next = leads l (leads a (joins A p (mark k_comma b ∷ q) refl x (becomes r (some d))))

  -- an infix mark and a type, after A
  abbrev infix_p : Ty Located → (k : ℕ) → ltb k k_name ≡ true → Phrase s (Ty Located)
  infix_p A k p = mapped (infix_of k A) (one (type_marks s k p) λ _. type_p)

  -- ── the readings
  -- what begins with a terminal of one kind begins with that kind
  pub ahead_one : {k : ℕ} {X A : Type 0} {R : X → Terminal} {value : ℕ → X} (F G : ℕ → Type 0) (ρ : Role s k R value) (φ : X → Phrase s A) → G k → Each F (lang (one ρ φ)) (λ a q t ts. G (first_of q t).kind)
  ahead_one F G ρ φ g a q t ts y f = subst (λ q. G (first_of q t).kind) (sym y.is) (subst G (sym (ρ.kind y.value)) g)

  module _ {base : Counts} {o : ℕ} {m : Counts} {c : Cursor} (lv : Level base o c m) (type : Cursor → Result (Ty Located)) where
    module _ (t : (d : Cursor) (n : Counts) → Level base (suc o) d n → Right s NotInfix (Level base (suc o)) type_p n d (type d)) where
      round_right : Right s Any (Level base o) (head_p s Round) m c (round_by type s c)
      unfolding is_infix
      round_right =
          right_opening lv k_round_open refl _ _ λ d n v.
          right_part Any type_p (λ A. one (closers s k_round_close refl) λ _. ret A) (λ A. ahead_one Any NotInfix (closers s k_round_close refl) (λ _. ret A) refl) (type d) _ (t d n v) λ A e k w.
          right_close w k_round_close refl A c lv.depth

      module _ (labels : Cursor → Result (Alternatives Located)) (u : (d : Cursor) (n : Counts) → Level base (suc o) d n → Right s NoLabel (Level base (suc o)) (alternatives_p 0) n d (labels d)) where
        choice_right : (k : ℕ) (p : ltb k k_name ≡ true) (choice : Alternatives Located → Ty Located) → Right s Any (Level base o) (choice_p s k p choice) m c (choice_by labels s k choice c)
        unfolding is_infix
        choice_right k p choice =
            right_type lv (type_marks s k p) _ _ (λ h. h) (λ h. h) refl λ d n v.
            right_opening v k_brace_open refl _ _ λ e j w.
            right_part Any (alternatives_p 0) (λ r. one (closers s k_brace_close refl) λ _. ret (choice r)) (λ r. ahead_one Any NoLabel (closers s k_brace_close refl) (λ _. ret (choice r)) (refl, refl)) (labels e) _ (u e j w) λ r f i x.
            right_close x k_brace_close refl (choice r) c lv.depth

        head_right : (h : TypeHead) → type_head (kind_at s c.at) ≡ h → Right s Any (Level base o) atom_p m c (atom_by type labels s c h)
        unfolding atom_by
        head_right h e = narrowed h e (by h e)
          where
            narrowed : (h : TypeHead) → type_head (kind_at s c.at) ≡ h → Right s Any (Level base o) (head_p s h) m c (atom_by type labels s c h) → Right s Any (Level base o) atom_p m c (atom_by type labels s c h)
            narrowed h e r = right_narrow _ (head_atom s h) (λ b q t ts y f z. subst (λ k. lang (head_p s k) t.at b q) (ap (λ (u : Tok). type_head u.kind) z ∙ e) (atom_head s y t t.at)) r

            by : (h : TypeHead) → type_head (kind_at s c.at) ≡ h → Right s Any (Level base o) (head_p s h) m c (atom_by type labels s c h)
            by OneHead e = right_type lv (type_marks s k_one refl) _ _ (λ h. h) (λ h. h) refl λ d n v. right_ret unit v
            by NameHead e = right_type lv (type_names s) _ _ (λ h. h) (λ h. h) refl λ d n v. right_ret _ v
            by Round e = round_right
            by Plus e = choice_right k_plus refl plus
            by With e = choice_right k_with refl with
            by Other e = right_misfit atom_p (λ b q t ts y f z. true≢false (sym (ap is_other (ap (λ (u : Tok). type_head u.kind) z ∙ e)) ∙ atom_known s y t))

    -- an atom, and what follows it
    module _ (atom : Cursor → Result (Ty Located)) (a : Right s Any (Level base o) atom_p m c (atom c)) (t : (d : Cursor) (n : Counts) → Level base o d n → Right s NotInfix (Level base o) type_p n d (type d)) where
      tail_right : (A : Ty Located) (d : Cursor) (n : Counts) → Level base o d n
          → (b : Bool) → is_infix (kind_at s d.at) ≡ b
          → Right s NotInfix (Level base o) (tail_p A) n d (choose b (λ d. lastly (infix_of (kind_at s d.at) A) (right_by type s (kind_at s d.at) d)) (λ d. got A d) d)
      tail_right A d n v true e =
          let p = infix_plain (kind_at s d.at) e in
          right_narrow _ into out
          (right_lastly (one (type_marks s (kind_at s d.at) p) λ _. type_p) (infix_of (kind_at s d.at) A) _
          (right_type v (type_marks s (kind_at s d.at) p) _ _ (λ h. h) (λ h. h) refl λ f j w. t f j w))
        where
          into : (next : ℕ) (B : Ty Located) (p : List Terminal) → lang (infix_p A (kind_at s d.at) (infix_plain (kind_at s d.at) e)) next B p → Tail A next B p
          into next B p y = recast (λ p B. Tail A next B p) (goes (kind_at s d.at) e y.of.follows) y.of.is y.is

          out : Each NotInfix (Tail A) (λ B q t ts. first_of q t ≡ token_in s d.at → lang (infix_p A (kind_at s d.at) (infix_plain (kind_at s d.at) e)) t.at B q)
          out B q t ts stop f z = absurd (false≢true (sym f ∙ ap (λ (u : Tok). is_infix u.kind) z ∙ e))
          out B q t ts (goes {a = a} {q = r} {B = B'} j i x) f z =
              let l : j ≡ kind_at s d.at = ap (λ (u : Tok). u.kind) z in
              record { value = B'; is = ap (λ j. infix_of j A B') l; of = record { value = a; rest = r; is = ap (λ j. type_mark j a ∷ r) l; follows = x } }
      tail_right A d n v false e =
          right_got (tail_p A) A stop v
          (λ B q t ts y f z. only t y (ap (λ (u : Tok). is_infix u.kind) z ∙ e))
        where
          only : {next : ℕ} {B : Ty Located} {q : List Terminal} (t : Tok) → Tail A next B q → is_infix (first_of q t).kind ≡ false → (q ≡ []) × (B ≡ A)
          only t stop e = (refl, refl)
          only t (goes k i x) e = absurd (true≢false (sym i ∙ e))

      type_right : Right s NotInfix (Level base o) type_p m c (type_by atom type s c)
      unfolding type_by
      type_right =
          right_narrow _ (tailed s) (λ B q t ts y f z. tailed_of y s t.at)
          (right_part NotInfix atom_p tail_p (λ A B q t ts y f. tt) (atom c) _ a λ A d n v. tail_right A d n v (is_infix (kind_at s d.at)) refl)

  -- ── a list of labels
  module _ {base : Counts} {o : ℕ} {m : Counts} {c : Cursor} (lv : Level base o c m) (type : Cursor → Result (Ty Located)) (more : Cursor → Result (Alternatives Located)) (n : ℕ)
      (t : (d : Cursor) (k : Counts) → Level base o d k → Right s NotInfix (Level base o) type_p k d (type d))
      (u : (d : Cursor) (k : Counts) → Level base o d k → Right s NoLabel (Level base o) (alternatives_p (suc n)) k d (more d)) where
    more_right : (d : Cursor) (k : Counts) → Level base o d k → (b : Bool) → eqb (kind_at s d.at) k_comma ≡ b
        → Right s NoLabel (Level base o) (more_p n) k d (choose b (λ c. on_token (expect s k_comma c) λ _ d. more d) (λ c. got Alternatives.none c) d)
    more_right d k v true e =
        right_narrow _ into out (right_plain v (marks s k_comma refl) (λ _. alternatives_p (suc n)) _ tt refl λ f j w. u f j w)
      where
        into : (next : ℕ) (r : Alternatives Located) (p : List Terminal) → lang (one (marks s k_comma refl) (λ _. alternatives_p (suc n))) next r p → More n next r p
        into next r p y = recast (λ p r. More n next r p) (some y.follows) y.is refl

        out : Each NoLabel (More n) (λ r q t ts. first_of q t ≡ token_in s d.at → lang (one (marks s k_comma refl) (λ _. alternatives_p (suc n))) t.at r q)
        out r q t ts none f z = absurd (false≢true (sym f.1 ∙ ap (λ (u : Tok). eqb u.kind k_comma) z ∙ e))
        out r q t ts (some {b = b} {q = p} x) f z = leads b x
    more_right d k v false e =
        right_got (more_p n) Alternatives.none none v (λ r q t ts y f z. only t y (ap (λ (u : Tok). eqb u.kind k_comma) z ∙ e))
      where
        only : {next : ℕ} {r : Alternatives Located} {q : List Terminal} (t : Tok) → More n next r q → eqb (first_of q t).kind k_comma ≡ false → (q ≡ []) × (r ≡ Alternatives.none)
        only t none e = (refl, refl)
        only t (some x) e = absurd (true≢false e)

    abbrev further_p : Located → Ty Located → Phrase s (Alternatives Located)
    further_p l A = mapped (alternative l A) (more_p n)

    more_ahead : (l : Located) (A : Ty Located) → Each NoLabel (lang (further_p l A)) (λ r q t ts. NotInfix (first_of q t).kind)
    unfolding is_infix
    more_ahead l A r q t ts y f = go t y.of f.0
      where
        go : {next : ℕ} {r : Alternatives Located} {q : List Terminal} (t : Tok) → More n next r q → NotInfix t.kind → NotInfix (first_of q t).kind
        go t none f = f
        go t (some x) f = refl

    labels_right : Right s NoLabel (Level base o) (alternatives_p n) m c (alternatives_by type more s n c)
    unfolding alternatives_by
    labels_right =
        right_narrow {ψ = labels_p n} _ (labels_are n) (λ r q t ts y f z. are_labels y t.at)
        (right_listed lv n _ _ λ d k v.
        right_plain v (marks s k_colon refl) _ _ tt refl λ e j w.
        right_part NoLabel type_p _ (λ A. more_ahead _ A) (type e) _ (t e j w) λ A f i x.
        right_lastly (more_p n) _ _ (more_right f i x (eqb (kind_at s f.at) k_comma) refl))

  -- ── all of them
  module _ {base : Counts} where
    mutual
      unfolding read_type

      pub type_reads : (n : ℕ) {o : ℕ} (c : Cursor) (m : Counts) → Level base o c m → Right s NotInfix (Level base o) type_p m c (read_type n s c)
      type_reads zero c m v = record { holds = tt }
      type_reads (suc n) c m v = type_right v (λ d. read_type n s d) (λ d. read_atom n s d) (atom_reads n c m v) (λ d k w. type_reads n d k w)

      atom_reads : (n : ℕ) {o : ℕ} (c : Cursor) (m : Counts) → Level base o c m → Right s Any (Level base o) atom_p m c (read_atom n s c)
      atom_reads zero c m v = record { holds = tt }
      atom_reads (suc n) c m v = head_right v (λ d. read_type n s d) (λ d k w. type_reads n d k w) (λ d. read_alternatives n s 0 d) (λ d k w. labels_read n 0 d k w) (type_head (kind_at s c.at)) refl

      labels_read : (n k : ℕ) {o : ℕ} (c : Cursor) (m : Counts) → Level base o c m → Right s NoLabel (Level base o) (alternatives_p k) m c (read_alternatives n s k c)
      labels_read zero k c m v = record { holds = tt }
      labels_read (suc n) k {o} c m v =
          labels_right v (λ d. read_type n s d) (λ d. read_alternatives n s (k + 1) d) k (λ d j w. type_reads n d j w)
          (λ d j w. let e : k + 1 ≡ suc k = omega arith in subst (λ i. Right s NoLabel (Level base o) (alternatives_p i) j d (read_alternatives n s (k + 1) d)) e (labels_read n (k + 1) d j w))
