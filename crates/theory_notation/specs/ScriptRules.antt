-- The reading of a script is right about the rules of declarations.
use Prim.Native.Nat.{ℕ, zero, suc, ◌<◌}
use Rattle.std.specs.Prelude.{◌≡◌, Bool, ltb}
use Rattle.std.proofs.Math.Path.{refl, ap, subst}
use Rattle.std.proofs.Common.{sym, ◌∙◌, arith}
use mathlib.Core.List.{List, [], ◌∷◌, ◌++◌, append_assoc}
use Rattle.std.proofs.Math.Bool.{true, false, cond, true≢false}
use Rattle.std.proofs.Math.Dec.{eqb}
use borrow.Author.Tests.{ltb-true, ltb-false, eqb-true}
use Rattle.notation.specs.Limits.{type_limit, process_limit, exec_limit}
use Rattle.notation.specs.Token.{token_at, kind_at, k_type, k_proc, k_exec, k_end, k_round_open, k_round_close, k_square_open, k_square_close, k_equals}
use Rattle.notation.specs.Tree.{Located, Entry, Declaration, declare_type, declare_proc, declare_exec}
use Rattle.notation.specs.Reader.{Result, on_token, part, lastly, expect, name_in}
use Rattle.notation.specs.Types.{is_infix}
use Rattle.notation.specs.Processes.{term_head, read_process}
use Rattle.notation.specs.Scripts.{declaration_head, Count, keyword, entry_list, type_declaration, proc_declaration, exec_declaration, more_types, more_processes, more_execs, script_by, read_script}
use Rattle.notation.specs.declared.reading.Cursor.{Cursor}
use Rattle.notation.specs.declared.token.DeclarationHead.{DeclarationHead}
use Rattle.notation.specs.declared.token.DeclarationHead.TheVariants.{TypeWord, ProcWord, ExecWord, End, Other}
use Rattle.grammar.specs.Terminals.{Tok, Terminal, declares_type, declares_proc, declares_exec, opens, closes, name, mark, following}
use Rattle.grammar.specs.Grammar as rule
use Rattle.grammar.specs.Grammar.{IsEntry, IsProcess, IsDeclaration, IsScript}
use Rattle.grammar.specs.Counting.{Counts, counts, counted, Fits}
use Rattle.theory_notation.specs.Standing.{token_in, first_of}
use Rattle.theory_notation.specs.Phrases.{Phrase, Role, rules, one, seq, ret, mapped, lang, Each, Right, leads, joins, ended, becomes}
use Rattle.theory_notation.specs.Laws.{right_got, right_ret, right_misfit, right_narrow, right_part, right_lastly, right_limited, right_before}
use Rattle.theory_notation.specs.Roles.{word_role, openers, marks, names}
use Rattle.theory_notation.specs.Levels.{tally, Level, right_plain}
use Rattle.theory_notation.specs.TypeRules.{recast, NotInfix, type_p, type_reads}
use Rattle.theory_notation.specs.Lists.{AnyClosed, any, any_closed_p, entries_begun, entry_list_right}
use Rattle.theory_notation.specs.ProcessRules.{Ends, process_p, process_reads}

-- ── what may follow a declaration, and a script
abbrev After : ℕ → Type 0
After k = NotInfix k × Ends k

abbrev pub AtEnd : ℕ → Type 0
AtEnd k = k ≡ k_end

-- ── the phrases
abbrev declaration_p : {s : List ℕ} → Phrase s Declaration
declaration_p = rules (λ next a p. IsDeclaration next p a) (λ o.
    record { terminals = declares_exec o ∷ name (record { at = 0; name = [] }) ∷ []; next = 0; value = declare_exec (record { at = 0; name = [] }); starts = refl; member = rule.exec })

abbrev pub script_p : {s : List ℕ} → Phrase s (List Declaration)
script_p = rules (λ next ds p. IsScript next p ds) (λ o. record { terminals = []; next = o; value = []; starts = refl; member = rule.none })

module _ (s : List ℕ) where
  abbrev type_words : Role s k_type declares_type (λ i. i)
  type_words = word_role s k_type declares_type (λ a. refl) refl

  abbrev proc_words : Role s k_proc declares_proc (λ i. i)
  proc_words = word_role s k_proc declares_proc (λ a. refl) refl

  abbrev exec_words : Role s k_exec declares_exec (λ i. i)
  exec_words = word_role s k_exec declares_exec (λ a. refl) refl

  -- a declaration by its keyword
  abbrev declared_p : DeclarationHead → Phrase s Declaration
  declared_p TypeWord = one type_words λ _. one (names s) λ t. one (marks s k_equals refl) λ _. mapped (declare_type t) type_p
  declared_p ProcWord =
      one proc_words λ _.
      one (names s) λ n.
      one (openers s k_round_open refl) λ _.
      seq (any_closed_p IsEntry entries_begun k_round_close) λ xs.
      one (openers s k_square_open refl) λ _.
      seq (any_closed_p IsEntry entries_begun k_square_close) λ ys. one (marks s k_equals refl) λ _. mapped (declare_proc n xs ys) process_p
  declared_p ExecWord = one exec_words λ _. one (names s) λ n. ret (declare_exec n)
  declared_p End = declaration_p
  declared_p Other = declaration_p

  proc_is : {a b next : ℕ} (e g : ℕ) {n : Located} {xs ys : List Entry} {P : _} {p q r l : List Terminal} {u v : ℕ} → l ≡ declares_proc a ∷ name n ∷ opens k_round_open b ∷ (p ++ (opens k_square_open e ∷ (q ++ (mark k_equals g ∷ r))))
      → AnyClosed IsEntry k_round_close u xs p → AnyClosed IsEntry k_square_close v ys q → IsProcess next r P → IsDeclaration next l (declare_proc n xs ys P)
  proc_is {a} {b} {next} e g {n} {r = r} z (any {p = p} d x) (any {p = q} f y) t =
      recast (IsDeclaration next) (rule.proc d e f g x y t)
      (z ∙ ap (λ l. declares_proc a ∷ name n ∷ opens k_round_open b ∷ l)
      (append_assoc p (closes k_round_close d ∷ []) (opens k_square_open e ∷ ((q ++ (closes k_square_close f ∷ [])) ++ (mark k_equals g ∷ r)))
      ∙ ap (λ l. p ++ (closes k_round_close d ∷ opens k_square_open e ∷ l)) (append_assoc q (closes k_square_close f ∷ []) (mark k_equals g ∷ r)))) refl

  declared_is : (h : DeclarationHead) (next : ℕ) (a : Declaration) (p : List Terminal) → lang (declared_p h) next a p → IsDeclaration next p a
  declared_is TypeWord next a p y =
      let x = y.follows in
      let z = x.follows in
      recast (IsDeclaration next) (rule.type {a = y.value} {b = z.value} {t = x.value} z.follows.of) (let e = y.is in let f = x.is in let g = z.is in cc) z.follows.is
  declared_is ProcWord next a p y =
      let x = y.follows in
      let z = x.follows in
      let w = z.follows in
      let v = w.follows in
      let u = v.follows in
      let t = u.follows in
      subst (IsDeclaration next p) (sym t.follows.is)
      (proc_is {a = y.value} {b = z.value} v.value t.value {n = x.value} (let e = y.is in let f = x.is in let g = z.is in let h = w.is in let i = v.is in let j = u.is in let k = t.is in cc) w.begins u.begins t.follows.of)
  declared_is ExecWord next a p y =
      let x = y.follows in
      recast (IsDeclaration next) (rule.exec {a = y.value} {n = x.value}) (let e = y.is in let f = x.is in let g = x.follows.none in cc) x.follows.value
  declared_is End next a p y = y
  declared_is Other next a p y = y

  is_declared : {next : ℕ} {p : List Terminal} {a : Declaration} → IsDeclaration next p a → (t : Tok) → lang (declared_p (declaration_head (first_of p t).kind)) next a p
  unfolding declaration_head
  is_declared (rule.type {a = a} {b = b} {t = t} {A = A} x) u = leads a (leads t (leads b (becomes A x)))
  is_declared (rule.proc {a = a} {b = b} d e f g {n = n} {p} {q} {r} {xs} {ys} {P} x y z) u = leads a (leads n (leads b (joins xs (p ++ (closes k_round_close d ∷ [])) (opens k_square_open e ∷ (q ++ (closes k_square_close f ∷ mark k_equals g ∷ r))) (sym (append_assoc p (closes k_round_close d ∷ []) _)) (any d x) (leads e (joins ys (q ++ (closes k_square_close f ∷ [])) (mark k_equals g ∷ r) (sym (append_assoc q (closes k_square_close f ∷ []) _)) (any f y) (leads g (becomes P z)))))))
  is_declared (rule.exec {a = a} {n = n}) u = leads a (leads n ended)

  -- ── the readings
  -- the keyword of a declaration, of which so many came before
  module _ {base : Counts} {o : ℕ} {A : Type 0} {F : ℕ → Type 0} {E : Cursor → Counts → Type 0} {m : Counts} {c : Cursor} (lv : Level base o c m) where
    right_keyword : {k : ℕ} {R : ℕ → Terminal} (ρ : Role s k R (λ i. i)) (φ : ℕ → Phrase s A) (f : ℕ → Cursor → Result A) (before limit : ℕ) (next : Counts)
        → (before < limit → Fits m (R (token_at s c.at).start)) → (Fits m (R (token_at s c.at).start) → before < limit) → counted m (R (token_at s c.at).start) ≡ tally next c o
        → ((d : Cursor) (n : Counts) → Level next o d n → Right s F E (φ (token_at s c.at).start) n d (f (token_at s c.at).start d))
        → Right s F E (one ρ φ) m c (on_token (keyword s k before limit c) f)
    right_keyword ρ φ f before limit next to from e g =
        right_limited ρ φ (λ _. ltb before limit) (λ d. d) f (λ _. refl)
        (λ b. to (ltb-true before limit b))
        (λ b h. let x = ltb-false before limit b in let y = from h in absurd (omega arith))
        (λ _ _. g _ _ (record { is = e; depth = lv.depth }))

  -- counts of declarations, as the reading has them
  abbrev base_of : Count → Counts
  base_of k = counts k.types k.processes k.execs 0 0 0

  module _ (n : ℕ) {c : Cursor} {m : Counts} (k : Count) (lv : Level (base_of k) 0 c m) where
    type_right : Right s After (Level (base_of (more_types k)) 0) (declared_p TypeWord) m c (type_declaration n s k.types c)
    unfolding type_declaration
    type_right =
        let z : m.types ≡ k.types = ap (λ (n : Counts). n.types) lv.is in
        right_keyword lv type_words _ _ k.types type_limit (base_of (more_types k)) (λ h. omega arith) (λ h. omega arith)
        (ap (λ (n : Counts). counts (suc n.types) n.processes n.execs n.type_terms n.process_terms n.brackets) lv.is ∙ ap (λ t. counts t k.processes k.execs c.types c.terms 0) (omega arith)) λ d j v.
        right_plain v (names s) _ _ tt refl λ e i w.
        right_plain w (marks s k_equals refl) _ _ tt refl λ f h x. right_lastly type_p _ _ (right_before (λ k g. g.0) _ (type_reads s n f h x))

    proc_right : Right s After (Level (base_of (more_processes k)) 0) (declared_p ProcWord) m c (proc_declaration n s k.processes c)
    unfolding proc_declaration is_infix
    proc_right =
        let z : m.processes ≡ k.processes = ap (λ (n : Counts). n.processes) lv.is in
        right_keyword lv proc_words _ _ k.processes process_limit (base_of (more_processes k)) (λ h. omega arith) (λ h. omega arith)
        (ap (λ (n : Counts). counts n.types (suc n.processes) n.execs n.type_terms n.process_terms n.brackets) lv.is ∙ ap (λ t. counts k.types t k.execs c.types c.terms 0) (omega arith)) λ d j v.
        right_plain v (names s) _ _ tt refl λ e i w.
        let declared = name_in s (token_at s d.at).start in
        entry_list_right w n k_round_open k_round_close refl refl refl refl _ (λ _ xs f. part (entry_list n s k_square_open k_square_close f) λ ys g. on_token (expect s k_equals g) λ _ h. lastly (declare_proc declared xs ys) (read_process n s h)) λ xs f h x.
        entry_list_right x n k_square_open k_square_close refl refl refl refl _ (λ _ ys g. on_token (expect s k_equals g) λ _ h. lastly (declare_proc declared xs ys) (read_process n s h)) λ ys g l y.
        right_plain y (marks s k_equals refl) _ _ tt refl λ q r u. right_lastly process_p _ _ (right_before (λ k g. g.1) _ (process_reads s n q r u))

    exec_right : Right s After (Level (base_of (more_execs k)) 0) (declared_p ExecWord) m c (exec_declaration s k.execs c)
    unfolding exec_declaration
    exec_right =
        let z : m.execs ≡ k.execs = ap (λ (n : Counts). n.execs) lv.is in
        right_keyword lv exec_words _ _ k.execs exec_limit (base_of (more_execs k)) (λ h. omega arith) (λ h. omega arith)
        (ap (λ (n : Counts). counts n.types n.processes (suc n.execs) n.type_terms n.process_terms n.brackets) lv.is ∙ ap (λ t. counts k.types k.processes t c.types c.terms 0) (omega arith)) λ d j v.
        right_plain v (names s) _ _ tt refl λ e i w. right_ret _ w

  -- ── a script by its first token
  abbrev is_end : DeclarationHead → Bool
  is_end TypeWord = false
  is_end ProcWord = false
  is_end ExecWord = false
  is_end End = true
  is_end Other = false

  abbrev is_keyword : DeclarationHead → Bool
  is_keyword TypeWord = true
  is_keyword ProcWord = true
  is_keyword ExecWord = true
  is_keyword End = false
  is_keyword Other = false

  end_head : (k : ℕ) → declaration_head k ≡ End → k ≡ k_end
  unfolding declaration_head
  end_head k = go (eqb k k_type) (eqb k k_proc) (eqb k k_exec) (eqb k k_end) refl
    where
      go : (a b c d : Bool) → eqb k k_end ≡ d → cond a TypeWord (cond b ProcWord (cond c ExecWord (cond d End Other))) ≡ End → k ≡ k_end
      go true b c d e z = absurd (true≢false (sym (ap is_end z)))
      go false true c d e z = absurd (true≢false (sym (ap is_end z)))
      go false false true d e z = absurd (true≢false (sym (ap is_end z)))
      go false false false true e z = eqb-true k k_end e
      go false false false false e z = absurd (true≢false (sym (ap is_end z)))

  keyword_first : {next : ℕ} {p : List Terminal} {a : Declaration} → IsDeclaration next p a → (q : List Terminal) (t : Tok) → (is_keyword (declaration_head (first_of (p ++ q) t).kind) ≡ true) × After (first_of (p ++ q) t).kind
  unfolding declaration_head is_infix term_head
  keyword_first (rule.type x) q t = (refl, (refl, (refl, refl)))
  keyword_first (rule.proc d e f g x y z) q t = (refl, (refl, (refl, refl)))
  keyword_first rule.exec q t = (refl, (refl, (refl, refl)))

  first_declared : {next : ℕ} {p : List Terminal} {a : Declaration} → IsDeclaration next p a → (q : List Terminal) (t : Tok) → lang (declared_p (declaration_head (first_of (p ++ q) t).kind)) next a p
  first_declared (rule.type x) q t = is_declared (rule.type x) t
  first_declared (rule.proc d e f g x y z) q t = is_declared (rule.proc d e f g x y z) t
  first_declared rule.exec q t = is_declared rule.exec t

  abbrev again_p : DeclarationHead → Phrase s (List Declaration)
  again_p h = seq (declared_p h) λ a. mapped (◌∷◌ a) script_p

  abbrev then_p : Declaration → Phrase s (List Declaration)
  then_p a = mapped (◌∷◌ a) script_p

  again_ahead : (a : Declaration) → Each AtEnd (lang (then_p a)) (λ ds q t ts. After (first_of q t).kind)
  unfolding is_infix term_head
  again_ahead a ds q t ts y f = go t y.of f
    where
      go : {next : ℕ} {ds : List Declaration} {q : List Terminal} (t : Tok) → IsScript next q ds → t.kind ≡ k_end → After (first_of q t).kind
      go t rule.none f = subst After (sym f) (refl, (refl, refl))
      go t (rule.more {q = q} d r) f = (keyword_first d q t).1

  -- the reading ends where the text does
  abbrev pub Final : Cursor → Counts → Type 0
  Final d m = kind_at s d.at ≡ k_end

  module _ (script : Count → Cursor → Result (List Declaration)) (r : (k : Count) (d : Cursor) (m : Counts) → Level (base_of k) 0 d m → Right s AtEnd Final script_p m d (script k d)) (n : ℕ) (c : Cursor) (m : Counts) (k : Count) (lv : Level (base_of k) 0 c m) where
    headed : (h : DeclarationHead) → declaration_head (kind_at s c.at) ≡ h → is_end h ≡ false → (x : Result (List Declaration)) → Right s AtEnd Final (again_p h) m c x → Right s AtEnd Final script_p m c x
    unfolding declaration_head
    headed h e w x y =
        right_narrow {ψ = again_p h} x
        (λ next ds p y. recast (IsScript next) (rule.more (declared_is h _ _ _ y.begins) y.follows.of) y.is y.follows.is)
        (λ ds q t ts y f z. out t y f z) y
      where
        out : {next : ℕ} {ds : List Declaration} {q : List Terminal} (t : Tok) → IsScript next q ds → t.kind ≡ k_end → first_of q t ≡ token_in s c.at → lang (again_p h) next ds q
        out t rule.none f z = absurd (true≢false (ap (λ k. is_end (declaration_head k)) (sym f ∙ ap (λ (u : Tok). u.kind) z) ∙ ap is_end e ∙ w))
        out {next} t (rule.more {p = p} {q} {a} {ds} d r) f z = joins a p q refl (subst (λ k. lang (declared_p k) (following q next) a p) (ap (λ (u : Tok). declaration_head u.kind) z ∙ e) (first_declared d q t)) (becomes ds r)

    script_right : (h : DeclarationHead) → declaration_head (kind_at s c.at) ≡ h → Right s AtEnd Final script_p m c (script_by script n s k c h)
    unfolding script_by declaration_head
    script_right TypeWord e = headed TypeWord e refl _ (right_part AtEnd (declared_p TypeWord) _ again_ahead _ _ (type_right n k lv) λ a d j v. right_lastly script_p _ _ (r _ d j v))
    script_right ProcWord e = headed ProcWord e refl _ (right_part AtEnd (declared_p ProcWord) _ again_ahead _ _ (proc_right n k lv) λ a d j v. right_lastly script_p _ _ (r _ d j v))
    script_right ExecWord e = headed ExecWord e refl _ (right_part AtEnd (declared_p ExecWord) _ again_ahead _ _ (exec_right n k lv) λ a d j v. right_lastly script_p _ _ (r _ d j v))
    script_right End e = right_got script_p [] rule.none (end_head _ e) (λ ds q t ts y f z. only t y z)
      where
        only : {next : ℕ} {ds : List Declaration} {q : List Terminal} (t : Tok) → IsScript next q ds → first_of q t ≡ token_in s c.at → (q ≡ []) × (ds ≡ [])
        only t rule.none z = (refl, refl)
        only t (rule.more {q = q} d r) z = absurd (true≢false (sym (keyword_first d q t).0 ∙ ap is_keyword (ap (λ (u : Tok). declaration_head u.kind) z ∙ e)))
    script_right Other e = right_misfit script_p (λ ds q t ts y f z. no_member t y f z)
      where
        no_member : {next : ℕ} {ds : List Declaration} {q : List Terminal} (t : Tok) → IsScript next q ds → t.kind ≡ k_end → first_of q t ≡ token_in s c.at → ⊥
        no_member t rule.none f z = true≢false (ap (λ k. is_end (declaration_head k)) (sym f ∙ ap (λ (u : Tok). u.kind) z) ∙ ap is_end e)
        no_member t (rule.more {q = q} d r) f z = true≢false (sym (keyword_first d q t).0 ∙ ap is_keyword (ap (λ (u : Tok). declaration_head u.kind) z ∙ e))

  pub script_reads : (n : ℕ) (k : Count) (c : Cursor) (m : Counts) → Level (base_of k) 0 c m → Right s AtEnd Final script_p m c (read_script n s k c)
  unfolding read_script
  script_reads zero k c m v = record { holds = tt }
  script_reads (suc n) k c m v = script_right (λ j d. read_script n s j d) (λ j d i w. script_reads n j d i w) n c m k v (declaration_head (kind_at s c.at)) refl
