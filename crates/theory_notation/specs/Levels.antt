-- What counts have to do with a cursor, and a law for each kind of token that readings take.
use Rattle.std.specs.Prelude.{ℕ, suc, ◌-◌, ◌<◌, ◌≡◌, List, Ok, Err}
use Rattle.std.proofs.Math.Path.{refl, ap, subst}
use Rattle.std.proofs.Common.{◌∙◌, arith}
use Rattle.std.proofs.Math.Dec.{ltb}
use borrow.Author.Tests.{ltb-true, ltb-false}
use Rattle.notation.specs.Limits.{type_term_limit, process_term_limit, bracket_limit, label_limit}
use Rattle.notation.specs.Token.{token_at, k_round_open, k_round_close}
use Rattle.notation.specs.Tree.{Located}
use Rattle.notation.specs.Reader.{Result, Taken, got, on_token, past, expect, opening, may_open, deeper, type_term, may_type, with_type, process_term, may_process, with_process, closed, closed_taken, onward_from, then_token, label_in}
use Rattle.notation.specs.Types.{label_term}
use Rattle.notation.specs.Processes.{unit_taken}
use Rattle.notation.specs.declared.reading.Cursor.{Cursor}
use Rattle.grammar.specs.Terminals.{Terminal, closes}
use Rattle.grammar.specs.Counting.{Counts, counts, counted, Fits}
use Rattle.theory_notation.specs.Phrases.{Phrase, Role, one, ret, Right}
use Rattle.theory_notation.specs.Laws.{here, right_ret, right_expect, right_limited, right_there}
use Rattle.theory_notation.specs.Roles.{Plain, openers, closers, listed_labels}

-- the counts at a cursor, with o brackets open: those of declarations are as in `base`
abbrev pub tally : Counts → Cursor → ℕ → Counts
tally base d o = counts base.types base.processes base.execs d.types d.terms o

pub record Level (base : Counts) (o : ℕ) (d : Cursor) (m : Counts) : Type 0 where
  pub is : m ≡ tally base d o
  pub depth : d.depth ≡ o

-- a bracket was closed, of which the cursor does not know yet
pub record Closing (base : Counts) (o : ℕ) (d : Cursor) (m : Counts) : Type 0 where
  pub is : m ≡ tally base d o

module _ {s : List ℕ} {base : Counts} {o : ℕ} {A : Type 0} {F : ℕ → Type 0} {E : Cursor → Counts → Type 0} {m : Counts} {c : Cursor} (lv : Level base o c m) where
  module _ {k : ℕ} {X : Type 0} {R : X → Terminal} {value : ℕ → X} (ρ : Role s k R value) (φ : X → Phrase s A) (f : ℕ → Cursor → Result A) where
    -- a name, a word or a mark that nothing counts
    pub right_plain : Fits m (R (here value s c)) → counted m (R (here value s c)) ≡ m
        → ((d : Cursor) (n : Counts) → Level base o d n → Right s F E (φ (here value s c)) n d (f (token_at s c.at).start d))
        → Right s F E (one ρ φ) m c (on_token (expect s k c) f)
    right_plain fit e g = right_expect ρ φ f (λ _. fit) (λ _. g _ _ (record { is = e ∙ lv.is; depth = lv.depth }))

    -- the last token of a list, which closes its bracket
    pub right_type : (m.type_terms < type_term_limit → Fits m (R (here value s c))) → (Fits m (R (here value s c)) → m.type_terms < type_term_limit)
        → counted m (R (here value s c)) ≡ counts m.types m.processes m.execs (suc m.type_terms) m.process_terms m.brackets
        → ((d : Cursor) (n : Counts) → Level base o d n → Right s F E (φ (here value s c)) n d (f (token_at s c.at).start d))
        → Right s F E (one ρ φ) m c (on_token (type_term s k c) f)
    unfolding type_term
    right_type to from e g =
        let z : m.type_terms ≡ c.types = ap (λ (n : Counts). n.type_terms) lv.is in
        right_limited ρ φ may_type with_type f (λ _. refl)
        (λ b. to (let h = ltb-true c.types type_term_limit b in omega arith))
        (λ b h. let g = ltb-false c.types type_term_limit b in let y = from h in absurd (omega arith))
        (λ _ _. g _ _ (record {
          is = e ∙ ap (λ (n : Counts). counts n.types n.processes n.execs (suc n.type_terms) n.process_terms n.brackets) lv.is ∙ ap (λ t. counts base.types base.processes base.execs t c.terms o) (omega arith);
          depth = lv.depth;
        }))

    -- the first token of a process term
    pub right_process : (m.process_terms < process_term_limit → Fits m (R (here value s c))) → (Fits m (R (here value s c)) → m.process_terms < process_term_limit)
        → counted m (R (here value s c)) ≡ counts m.types m.processes m.execs m.type_terms (suc m.process_terms) m.brackets
        → ((d : Cursor) (n : Counts) → Level base o d n → Right s F E (φ (here value s c)) n d (f (token_at s c.at).start d))
        → Right s F E (one ρ φ) m c (on_token (process_term s k c) f)
    unfolding process_term
    right_process to from e g =
        let z : m.process_terms ≡ c.terms = ap (λ (n : Counts). n.process_terms) lv.is in
        right_limited ρ φ may_process with_process f (λ _. refl)
        (λ b. to (let h = ltb-true c.terms process_term_limit b in omega arith))
        (λ b h. let g = ltb-false c.terms process_term_limit b in let y = from h in absurd (omega arith))
        (λ _ _. g _ _ (record {
          is = e ∙ ap (λ (n : Counts). counts n.types n.processes n.execs n.type_terms (suc n.process_terms) n.brackets) lv.is ∙ ap (λ t. counts base.types base.processes base.execs c.types t o) (omega arith);
          depth = lv.depth;
        }))

  -- a bracket that opens
  pub right_opening : (k : ℕ) (p : Plain k) (φ : ℕ → Phrase s A) (f : ℕ → Cursor → Result A)
      → ((d : Cursor) (n : Counts) → Level base (suc o) d n → Right s F E (φ (token_at s c.at).start) n d (f (token_at s c.at).start d))
      → Right s F E (one (openers s k p) φ) m c (on_token (opening s k c) f)
  unfolding opening
  right_opening k p φ f g =
      let z : m.brackets ≡ o = ap (λ (n : Counts). n.brackets) lv.is in
      let y = lv.depth in
      right_limited (openers s k p) φ may_open deeper f (λ _. refl)
      (λ b. let h = ltb-true c.depth bracket_limit b in omega arith)
      (λ b h. let g = ltb-false c.depth bracket_limit b in absurd (omega arith))
      (λ _ _. g _ _ (record {
        is = ap (λ (n : Counts). counts n.types n.processes n.execs n.type_terms n.process_terms (suc n.brackets)) lv.is;
        depth = omega arith;
      }))

  -- a label of a list
  pub right_listed : (before : ℕ) (φ : Located → Phrase s A) (f : ℕ → Cursor → Result A)
      → ((d : Cursor) (n : Counts) → Level base o d n → Right s F E (φ (label_in s (token_at s c.at).start)) n d (f (token_at s c.at).start d))
      → Right s F E (one (listed_labels s before) φ) m c (on_token (label_term s before c) f)
  unfolding label_term
  right_listed before φ f g =
      right_limited (listed_labels s before) φ (λ _. ltb before label_limit) (λ d. d) f (λ _. refl)
      (λ b. ltb-true before label_limit b)
      (λ b h. let g = ltb-false before label_limit b in absurd (omega arith))
      (λ _ _. g _ _ (record { is = lv.is; depth = lv.depth }))

-- ── a bracket that closes: o are open after it
lower : {base : Counts} {o : ℕ} {m : Counts} {c : Cursor} → Level base (suc o) c m → (k a : ℕ) → counted m (closes k a) ≡ tally base c o
lower {base} {o} {c = c} lv k a = ap (λ (n : Counts). counts n.types n.processes n.execs n.type_terms n.process_terms (n.brackets - 1)) lv.is ∙ ap (λ b. counts base.types base.processes base.execs c.types c.terms b) (omega arith)

module _ {s : List ℕ} {base : Counts} {o : ℕ} {A : Type 0} {F : ℕ → Type 0} {m : Counts} {c : Cursor} (lv : Level base (suc o) c m) (k : ℕ) (p : Plain k) where
  -- .. after which nothing is read; the cursor knows, by that before the bracket
  pub right_close : (a : A) (before : Cursor) → before.depth ≡ o
      → Right s F (Level base o) (one (closers s k p) (λ _. ret a)) m c (on_token (expect s k c) λ _ f. got a (closed before f))
  right_close a before e =
      right_expect (closers s k p) (λ _. ret a) _ (λ _. tt)
      (λ _. right_there _ _ refl _ (right_ret a (record { is = lower lv k (token_at s c.at).start; depth = e })))

  -- .. and the cursor does not know yet
  pub right_last : (a : A) → Right s F (Closing base o) (one (closers s k p) (λ _. ret a)) m c (on_token (expect s k c) λ _ f. got a f)
  right_last a = right_expect (closers s k p) (λ _. ret a) _ (λ _. tt) (λ _. right_ret a (record { is = lower lv k (token_at s c.at).start }))

-- ()
taken_twice : {A : Type 0} (c : Cursor) (t : Taken) (g : Cursor → Taken) (f : ℕ → Cursor → Result A) → on_token t (λ i d. on_token (g d) (λ _ e. f i (closed c e))) ≡ on_token (closed_taken c (then_token t g)) f
taken_twice c (Ok (i, d)) g f = go (g d)
  where
    go : (u : Taken) → on_token u (λ _ e. f i (closed c e)) ≡ on_token (closed_taken c (onward_from i u)) f
    go (Ok (j, e)) = refl
    go (Err e) = refl
taken_twice c (Err e) g f = refl

module _ {s : List ℕ} {base : Counts} {o : ℕ} {A : Type 0} {F : ℕ → Type 0} {E : Cursor → Counts → Type 0} {m : Counts} {c : Cursor} (lv : Level base o c m) where
  pub right_unit : (φ : Phrase s A) (f : ℕ → Cursor → Result A)
      → ((d : Cursor) (n : Counts) → Level base o d n → Right s F E φ n d (f (token_at s c.at).start d))
      → Right s F E (one (openers s k_round_open refl) (λ _. one (closers s k_round_close refl) (λ _. φ))) m c (on_token (unit_taken s c) f)
  unfolding unit_taken
  right_unit φ f g =
      subst (Right s F E (one (openers s k_round_open refl) (λ _. one (closers s k_round_close refl) (λ _. φ))) m c) (taken_twice c (opening s k_round_open c) (expect s k_round_close) f)
      (right_opening lv k_round_open refl _ _ λ d n v.
      right_expect (closers s k_round_close refl) (λ _. φ) _ (λ _. tt) (λ _.
      right_there _ _ refl _ (g (closed c (past d (token_at s d.at))) _ (record { is = lower v k_round_close (token_at s d.at).start; depth = lv.depth }))))
