-- What the definition says on each way through the code that reads declarations and the script.
use mathlib.Core.Path.{◌≡◌, refl, ap, sym, ◌∙◌}
use mathlib.Core.List.{List, [], ◌∷◌}
use mathlib.Core.Bool.{Bool, true, false, cond}
use Prim.Native.Nat.{ℕ, suc, ◌+◌, ◌-◌, ◌<◌, ◌≤◌}
use native.Mathlib.Omega.{arith}
use lib.ListN.{length}
use lib.Dec.{eqb, ltb}
use borrow.Author.Tests.{ltb-true, ne_eqb}
use Rattle.std.specs.Prelude.{Ok, Err}
use Rattle.notation.specs.Fine.{FineDeclaration}
use Rattle.notation.specs.Limits.{type_limit, process_limit, exec_limit}
use Rattle.notation.specs.Token.{kind_at, k_name, k_equals, k_type, k_proc, k_exec, k_end, k_round_open, k_round_close, k_square_open, k_square_close}
use Rattle.notation.specs.Tree.{Located, Ty, unit, named, tensor, par, lolli, plus, with, Alternatives, alternative, Entry, Declaration, declare_type, declare_proc, declare_exec}
use Rattle.notation.specs.Reader.{Result, Taken, part, lastly, expect, misfit, name_in, got, on_token}
use Rattle.notation.specs.Types.{read_type}
use Rattle.notation.specs.Processes.{read_process}
use Rattle.notation.specs.Scripts.{Count, keyword, entry_list, declaration_head, type_declaration, proc_declaration, exec_declaration, script_by, read_script}
use Rattle.notation.specs.Tables.{more_nodes, more_entries, more_types, more_processes, more_execs, put_type, put_process, process_entry, pointer_to, put_exec, after_type, after_alternatives, after_entries, write_entries, after_process, write_process, after_declaration, write_declaration, after_script, write_script}
use Rattle.notation.specs.declared.refusal.Refusal.{Refusal}
use Rattle.notation.specs.declared.reading.Cursor.{Cursor}
use Rattle.notation.specs.declared.reading.Tally.{Tally}
use Rattle.notation.specs.declared.token.DeclarationHead.{DeclarationHead}
use Rattle.notation.specs.declared.token.DeclarationHead.TheVariants.{TypeWord, ProcWord, ExecWord, Other}
use Rattle.read_types.specs.Filling.{Out, TypeRead, Stepped, misfit_refusal, Put, Room}
use Rattle.read_text.specs.Turns.{peek, ProcessRead}
use Rattle.read_text.specs.Scripts.{after_token, declared_name, EntriesRead, declaration_by, count_by, DeclarationRead, count_of, Counted, script_form, ScriptRead}
use Rattle.read_types.proofs.Filled.{same, ◌upon◌, put_kept, took, made_got, gone_on, stopped, meets_no, meets_got, more_no, more_got, more_made}
use Rattle.read_text.proofs.Turning.{limit_held, made_as, Through, through_on}
use Rattle.read_text.proofs.Pointers.{pointer_at}

-- ── a keyword and the name after it
name_taken : {A : Type 0} (t : Taken) (f : Cursor → Taken) (g : ℕ → Cursor → Result A) → on_token t (λ _ d. on_token (f d) g) ≡ on_token (after_token t f) g
name_taken (Ok (i, d)) f g = refl
name_taken (Err y) f g = refl

-- one that was taken is within its limit
pub name_held : {s : List ℕ} {c : Cursor} {n i : ℕ} {d : Cursor} {q : Taken} (kind before limit : ℕ)
    → Stepped s c n 0 0 (declared_name s kind before limit c) q → q ≡ Ok (i, d) → before < limit
unfolding declared_name
name_held {s} {c} kind before limit u e =
    ltb-true before limit (limit_held (λ x. after_token x (expect s k_name)) (λ y. refl) (expect s kind c) (ltb before limit) (took u e))

-- ── how many entries a list appends
mutual
  unfolding after_type

  type_entries : (A : Ty Located) (k : Tally) → (after_type A k).entries ≡ k.entries
  type_entries unit k = refl
  type_entries (named n) k = refl
  type_entries (tensor A B) k = type_entries B (more_nodes (after_type A k)) ∙ type_entries A k
  type_entries (par A B) k = type_entries B (more_nodes (after_type A k)) ∙ type_entries A k
  type_entries (lolli A B) k = type_entries B (more_nodes (after_type A k)) ∙ type_entries A k
  type_entries (plus r) k = alternatives_entries r (more_nodes k)
  type_entries (with r) k = alternatives_entries r (more_nodes k)

  alternatives_entries : (r : Alternatives Located) (k : Tally) → (after_alternatives r k).entries ≡ k.entries
  alternatives_entries Alternatives.none k = refl
  alternatives_entries (alternative l A r) k = alternatives_entries r (after_type A k) ∙ type_entries A k

entries_many : (es : List Entry) (k : Tally) → (after_entries es k).entries ≡ length es + k.entries
unfolding after_entries
entries_many [] k = let none : length {A = Entry} [] ≡ 0 = refl in omega arith
entries_many (e ∷ es) k =
    let rest = entries_many es (more_entries (after_type e.type k)) in
    let one = type_entries e.type k in
    let more : length (e ∷ es) ≡ suc (length es) = refl in
    omega arith

entries_read : (es : List Entry) (k l : Tally) → l ≡ after_entries es k → l.entries - k.entries ≡ length es
entries_read es k l e =
    let many = entries_many es k in
    let here : l.entries ≡ (after_entries es k).entries = ap (λ x. x.entries) e in
    omega arith

-- how many of each kind a tally has
count_is : (l : Tally) (types processes execs : ℕ) → l.types ≡ types → l.processes ≡ processes → l.execs ≡ execs
    → count_of l ≡ record { types = types; processes = processes; execs = execs }
count_is l types processes execs a b d = λ j. record { types = a j; processes = b j; execs = d j }

-- ── type t = A
module _ (s w : List ℕ) (c : Cursor) (k : Tally) (room : Room s w c k) {q : Taken} (u : Stepped s c 2 0 0 (declared_name s k_type k.types type_limit c) q) where
  abbrev Types : Out → List ℕ → Type 0
  Types = DeclarationRead TypeWord s w c k

  type_is : (m : ℕ) → type_declaration m s k.types c ≡ on_token (declared_name s k_type k.types type_limit c) λ i e. on_token (expect s k_equals e) λ _ f. lastly (declare_type (name_in s i)) (read_type m s f)
  unfolding type_declaration declared_name
  type_is m = name_taken (keyword s k_type k.types type_limit c) (expect s k_name) _

  pub type_no : {r : Out} {y : Refusal} → q ≡ Err y → r ≡ Err y → Types r w
  type_no g h = meets_no s w c k h same (λ m _. type_is m ∙ rw (took u g))

  module _ {i : ℕ} {f : Cursor} (e : q ≡ Ok (i, f)) {z : Taken} (a : Stepped s f 1 0 0 (expect s k_equals f) z) where
    pub type_equals_no : {r : Out} {y : Refusal} → z ≡ Err y → r ≡ Err y → Types r w
    type_equals_no h l = meets_no s w c k l same (λ m _. type_is m ∙ rw (took u e, took a h))

    module _ {j : ℕ} {b : Cursor} (h : z ≡ Ok (j, b)) {p : Out} {v : List ℕ} (t : TypeRead s w b k p v) where
      pub type_type_no : {r : Out} {y : Refusal} → p ≡ Err y → r ≡ Err y → Types r v
      type_type_no l r-is =
          let o₂ = u.on i f e in
          let o₃ = a.on j b h in
          meets_no s w c k r-is t.kept (λ m lo. type_is m ∙ rw (took u e, took a h, stopped (read_type m s b) (t.is m (omega arith)) l))

      pub type_got : {b₂ : Cursor} {l l₂ : Tally} {v₂ : List ℕ} → p ≡ Ok (b₂, l) → Put v (put_type v l.types i l.last) (more_types l) l₂ v₂
          → Types (Ok (b₂, l₂)) v₂
      unfolding after_declaration write_declaration FineDeclaration
      type_got {b₂} {l} n pt =
          let o₂ = u.on i f e in
          let o₃ = a.on j b h in
          let o₄ = t.on b₂ l n in
          let few = name_held k_type k.types type_limit u e in
          rw (pt.is, pt.words)
          (meets_got s w c k (
            omega arith,
            count_is (more_types l) (k.types + 1) k.processes k.execs (omega arith) (omega arith) (omega arith),
            λ n. omega arith,
          ) (put_kept pt upon t.kept)
          (λ m lo. gone_on (read_type m s b) (t.is m (omega arith)) n λ A x₂ al av fi.
          let number : l.types ≡ k.types = o₄.0.6.4.0 in
          made_got (declare_type (name_in s i) A) (type_is m ∙ rw (took u e, took a h, x₂)) (λ j. Ok (b₂, more_types (al j)))
          (λ j. put_type (av j) (number j) i (al j).last) (omega arith, fi)))

-- ── exec p
module _ (s w : List ℕ) (c : Cursor) (k : Tally) (room : Room s w c k) {q : Taken} (u : Stepped s c 2 0 0 (declared_name s k_exec k.execs exec_limit c) q) where
  abbrev Execs : Out → List ℕ → Type 0
  Execs = DeclarationRead ExecWord s w c k

  exec_is : (m : ℕ) → exec_declaration s k.execs c ≡ on_token (declared_name s k_exec k.execs exec_limit c) λ i e. got (declare_exec (name_in s i)) e
  unfolding exec_declaration declared_name
  exec_is m = name_taken (keyword s k_exec k.execs exec_limit c) (expect s k_name) _

  pub exec_no : {r : Out} {y : Refusal} → q ≡ Err y → r ≡ Err y → Execs r w
  exec_no g h = meets_no s w c k h same (λ m _. exec_is m ∙ rw (took u g))

  pub exec_got : {i : ℕ} {f : Cursor} {l : Tally} {v : List ℕ} → q ≡ Ok (i, f) → Put w (put_exec w k.execs i) (more_execs k) l v → Execs (Ok (f, l)) v
  unfolding after_declaration write_declaration FineDeclaration
  exec_got {i} {f} e pt =
      let o₂ = u.on i f e in
      let few = name_held k_exec k.execs exec_limit u e in
      rw (pt.is, pt.words)
      (meets_got s w c k (omega arith, refl, λ n. omega arith) (put_kept pt)
      (λ m lo. made_got (declare_exec (name_in s i)) (exec_is m ∙ rw (took u e)) refl refl (omega arith)))

-- ── proc p (x : A, ..) [y : B, ..] = P
module _ (s w : List ℕ) (c : Cursor) (k : Tally) (room : Room s w c k) {q : Taken} (u : Stepped s c 2 0 0
    (declared_name s k_proc k.processes process_limit c) q) where
  abbrev Procs : Out → List ℕ → Type 0
  Procs = DeclarationRead ProcWord s w c k

  proc_is : (m : ℕ) → proc_declaration m s k.processes c ≡ on_token (declared_name s k_proc k.processes process_limit c) λ i e. part (entry_list m s k_round_open k_round_close e) λ xs f. part
      (entry_list m s k_square_open k_square_close f) λ ys g. on_token (expect s k_equals g) λ _ h. lastly (declare_proc (name_in s i) xs ys) (read_process m s h)
  unfolding proc_declaration declared_name
  proc_is m = name_taken (keyword s k_proc k.processes process_limit c) (expect s k_name) _

  pub proc_no : {r : Out} {y : Refusal} → q ≡ Err y → r ≡ Err y → Procs r w
  proc_no g h = meets_no s w c k h same (λ m _. proc_is m ∙ rw (took u g))

  module _ {i : ℕ} {f : Cursor} (e : q ≡ Ok (i, f)) {p : Out} {v : List ℕ} (t : EntriesRead (λ m. entry_list m s k_round_open k_round_close f) s w f k p v) where
    pub proc_provides_no : {r : Out} {y : Refusal} → p ≡ Err y → r ≡ Err y → Procs r v
    proc_provides_no h r-is =
        let o₂ = u.on i f e in
        meets_no s w c k r-is t.kept (λ m lo. proc_is m ∙ rw (took u e, stopped (entry_list m s k_round_open k_round_close f) (t.is m (omega arith)) h))

    module _ {b : Cursor} {l : Tally} (h : p ≡ Ok (b, l)) {p₂ : Out} {v₂ : List ℕ} (t₂ : EntriesRead
        (λ m. entry_list m s k_square_open k_square_close b) s v b l p₂ v₂) where
      pub proc_uses_no : {r : Out} {y : Refusal} → p₂ ≡ Err y → r ≡ Err y → Procs r v₂
      proc_uses_no h₂ r-is =
          let o₂ = u.on i f e in
          let o₃ = t.on b l h in
          meets_no s w c k r-is (t₂.kept upon t.kept)
          (λ m lo. gone_on (entry_list m s k_round_open k_round_close f) (t.is m (omega arith)) h λ xs a _ _ _.
          proc_is m ∙ rw (took u e, a, stopped (entry_list m s k_square_open k_square_close b) (t₂.is m (omega arith)) h₂))

      module _ {b₂ : Cursor} {l₂ : Tally} (h₂ : p₂ ≡ Ok (b₂, l₂)) {z : Taken} (a : Stepped s b₂ 1 0 0 (expect s k_equals b₂) z) where
        pub proc_equals_no : {r : Out} {y : Refusal} → z ≡ Err y → r ≡ Err y → Procs r v₂
        proc_equals_no n r =
            let o₂ = u.on i f e in
            let o₃ = t.on b l h in
            meets_no s w c k r (t₂.kept upon t.kept)
            (λ m lo. gone_on (entry_list m s k_round_open k_round_close f) (t.is m (omega arith)) h λ xs x₁ _ _ _.
            gone_on (entry_list m s k_square_open k_square_close b) (t₂.is m (omega arith)) h₂ λ ys x₂ _ _ _.
            proc_is m ∙ rw (took u e, x₁, x₂, took a n))

        module _ {j : ℕ} {b₃ : Cursor} (n : z ≡ Ok (j, b₃)) {p₃ : Out} {v₃ : List ℕ} (t₃ : ProcessRead s v₂ b₃ l₂ p₃ v₃) where
          pub proc_body_no : {r : Out} {y : Refusal} → p₃ ≡ Err y → r ≡ Err y → Procs r v₃
          proc_body_no r r-is =
              let o₂ = u.on i f e in
              let o₃ = t.on b l h in
              let o₄ = t₂.on b₂ l₂ h₂ in
              let o₅ = a.on j b₃ n in
              meets_no s w c k r-is (t₃.kept upon t₂.kept upon t.kept)
              (λ m lo. gone_on (entry_list m s k_round_open k_round_close f) (t.is m (omega arith)) h λ xs x₁ _ _ _.
              gone_on (entry_list m s k_square_open k_square_close b) (t₂.is m (omega arith)) h₂ λ ys x₂ _ _ _.
              proc_is m ∙ rw (took u e, x₁, x₂, took a n, stopped (read_process m s b₃) (t₃.is m (omega arith)) r))

          pub proc_got : {body : ℕ} → body ≡ peek s b₃.at l₂.terms → {b₄ : Cursor} {l₃ l₄ : Tally} {v₄ : List ℕ} → p₃ ≡ Ok (b₄, l₃)
              → Put v₃ (put_process v₃ l₃.processes (process_entry i k.entries (l.entries - k.entries) (l₂.entries - l.entries) body)) (more_processes l₃) l₄ v₄ → Procs (Ok (b₄, l₄)) v₄
          unfolding after_declaration write_declaration FineDeclaration
          proc_got {body} at {b₄} {l₃} r pt =
              let o₂ = u.on i f e in
              let o₃ = t.on b l h in
              let o₄ = t₂.on b₂ l₂ h₂ in
              let o₅ = a.on j b₃ n in
              let o₆ = t₃.on b₄ l₃ r in
              let few = name_held k_proc k.processes process_limit u e in
              rw (pt.is, pt.words)
              (meets_got s w c k (
                omega arith,
                count_is (more_processes l₃) k.types (k.processes + 1) k.execs (omega arith) (omega arith)
                    (omega arith),
                λ n. omega arith,
              )
              (put_kept pt upon t₃.kept upon t₂.kept upon t.kept)
              (λ m lo. gone_on (entry_list m s k_round_open k_round_close f) (t.is m (omega arith)) h λ xs x₁ al av fi.
              gone_on (entry_list m s k_square_open k_square_close b) (t₂.is m (omega arith)) h₂ λ ys x₂ bl bv fi₂.
              gone_on (read_process m s b₃) (t₃.is m (omega arith)) r λ P x₃ cl cv fi₃.
              let tally : l₂ ≡ after_entries ys (after_entries xs k) = bl ∙ ap (after_entries ys) al in
              let words : v₂ ≡ write_entries ys (after_entries xs k) (write_entries xs k w) = bv ∙ (λ j. write_entries ys (al j) (av j)) in
              let last : l₃ ≡ after_process P (after_entries ys (after_entries xs k)) = cl ∙ ap (after_process P) tally in
              let all : v₃ ≡ write_process P (after_entries ys (after_entries xs k)) (write_entries ys (after_entries xs k) (write_entries xs k w)) = cv ∙
              (λ j. write_process P (tally j) (words j)) in
              let number : l₃.processes ≡ k.processes = omega arith in
              let first : l.entries - k.entries ≡ length xs = entries_read xs k l al in
              let second : l₂.entries - l.entries ≡ length ys = entries_read ys l l₂ bl in
              let to : body ≡ pointer_to P (after_entries ys (after_entries xs k)).terms = at ∙ sym (pointer_at m s b₃ b₄ P l₂.terms x₃) ∙ ap
              (λ (x : Tally). pointer_to P x.terms) tally in
              made_got (declare_proc (name_in s i) xs ys P) (proc_is m ∙ rw (took u e, x₁, x₂, took a n, x₃)) (λ j. Ok (b₄, more_processes (last j)))
              (λ j. put_process (all j) (number j) (process_entry i k.entries (first j) (second j) (to j))) (omega arith, fi, fi₂, fi₃)))

-- ── a declaration that no token begins
pub declare_no : (h : DeclarationHead) (s w : List ℕ) (c : Cursor) (k : Tally) {r : Out} → ((m : ℕ) → declaration_by h m s (count_of k) c ≡ misfit s c)
    → r ≡ Err (misfit_refusal s c.at) → DeclarationRead h s w c k r
    w
unfolding misfit
declare_no h s w c k e g = meets_no s w c k g same (λ m _. e m)

-- ── the script
-- before the end of the text: a declaration by what begins it, and the script after it
script_by_lem : (script : Count → Cursor → Result (List Declaration)) (m : ℕ) (s : List ℕ) (n : Count) (c : Cursor) (k : ℕ) → ((k ≡ k_end) → ⊥)
    → script_by script m s n c (declaration_head k) ≡ part (declaration_by (declaration_head k) m s n c) (λ a d. lastly (◌∷◌ a) (script (count_by (declaration_head k) n) d))
unfolding script_by declaration_head misfit
script_by_lem script m s n c k e = rw (ne_eqb k k_end e) (go (eqb k k_type) (eqb k k_proc) (eqb k k_exec))
  where
    head : Bool → Bool → Bool → DeclarationHead
    head a b d = cond a TypeWord (cond b ProcWord (cond d ExecWord Other))

    go : (a b d : Bool) → script_by script m s n c (head a b d) ≡ part (declaration_by (head a b d) m s n c) (λ x f. lastly (◌∷◌ x) (script (count_by (head a b d) n) f))
    go true b d = refl
    go false true d = refl
    go false false true = refl
    go false false false = refl

module _ (s w : List ℕ) (c : Cursor) (k : Tally) (room : Room s w c k) (counted : Counted k) {kind : ℕ} (at : kind ≡ kind_at s c.at) where
  script_suc : (m : ℕ) → read_script (suc m) s (count_of k) c ≡ script_by (λ j d. read_script m s j d) m s (count_of k) c (declaration_head kind)
  unfolding read_script
  script_suc m = rw at refl

  pub script_end : kind ≡ k_end → ScriptRead s w c k (Ok (c, k)) w
  unfolding script_by declaration_head after_script write_script
  script_end e =
      more_got script_form s w c k (λ m. read_script m s (count_of k) c) (omega arith) same
      (λ m _. made_got [] (script_suc m ∙ rw e refl) refl refl (omega arith))

  module _ (more : (kind ≡ k_end) → ⊥) {h : DeclarationHead} (head : h ≡ declaration_head kind) {p : Out} {v : List ℕ} (t : DeclarationRead h s w c k p v) where
    script_is : (m : ℕ) → read_script (suc m) s (count_of k) c ≡ part (declaration_by h m s (count_of k) c) (λ a d. lastly (◌∷◌ a) (read_script m s (count_by h (count_of k)) d))
    script_is m = script_suc m ∙ rw head (script_by_lem (λ j d. read_script m s j d) m s (count_of k) c kind more)

    pub script_no : {r : Out} {y : Refusal} → p ≡ Err y → r ≡ Err y → ScriptRead s w c k r v
    script_no g r-is =
        more_no script_form s w c k (λ m. read_script m s (count_of k) c) r-is t.kept (λ m lo. script_is m ∙ rw
        (stopped (declaration_by h m s (count_of k) c) (t.is m (omega arith)) g))

    script_more : {d : Cursor} {l : Tally} → p ≡ Ok (d, l) → (x : Out) (v₂ : List ℕ) → ScriptRead s v d l x v₂ → ScriptRead s w c k x v₂
    unfolding after_script write_script
    script_more {d} {l} g x v₂ y =
        let o = (t.on d l g).0 in
        record {
          is = more_made script_form w k (λ m. read_script m s (count_of k) c)
              (λ m lo. gone_on (declaration_by h m s (count_of k) c) (t.is m (omega arith)) g λ a x₁ al av _.
              made_as y (◌∷◌ a) w k m (omega arith) (script_is m ∙ rw (x₁, sym (ap (λ j. read_script m s j d) (t.on d l g).1)))
              (λ ds _ _ _ _. (ap (after_script ds) al, (λ j. write_script ds (al j) (av j)), omega arith)));
          kept = y.kept upon t.kept;
          on = λ b l₂ z. let o₂ = y.on b l₂ z in omega arith;
        }

    -- the loop over declarations
    pub script_on : {w₀ : List ℕ} {c₀ : Cursor} {k₀ : Tally} → Through (ScriptRead s) s w₀ c₀ k₀ w c k → {d : Cursor} {l : Tally} → p ≡ Ok (d, l)
        → Through (ScriptRead s) s w₀ c₀ k₀ v d l × Counted l
    script_on y {d} {l} g =
        let o = t.on d l g in
        (through_on y (omega (arith, t.kept.long)) (omega arith) t.kept (script_more g), o.2 counted)
