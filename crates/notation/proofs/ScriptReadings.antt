-- A text that is read has its names and labels from the text, and its offsets fit their words; else it is refused by 2 to 5.
use Prim.Native.Nat.{ℕ, zero, suc, ◌+◌, ◌*◌, ◌≤◌, ◌<◌}
use native.Mathlib.Omega.{arith}
use mathlib.Core.Path.{◌≡◌, refl, subst}
use mathlib.Core.List.{List, []}
use lib.ListN.{length}
use lib.Dec.{leb, ltb, eqb}
use borrow.Author.Tests.{leb-true, leb-false}
use Rattle.notation.specs.Fine.{FineDeclaration, FineEntries, FineScript}
use Rattle.notation.specs.From.{EntriesFrom, DeclarationFrom, ScriptFrom}
use Rattle.notation.specs.Limits.{text_limit, type_limit, process_limit, exec_limit}
use Rattle.notation.specs.Token.{kind_at, k_type, k_proc, k_exec, k_name, k_round_open, k_round_close, k_square_open, k_square_close, k_colon, k_comma, k_equals, k_fault}
use Rattle.notation.specs.Tree.{Entry, Declaration}
use Rattle.notation.specs.Reader.{Result, got, refused, expect}
use Rattle.notation.specs.Scripts.{read_entries, entry_list, declaration_head, Count, keyword, type_declaration, proc_declaration, exec_declaration, script_by, read_script, start, fuel, read_text}
use Rattle.notation.specs.declared.reading.Cursor.{Cursor}
use Rattle.notation.specs.declared.token.DeclarationHead.{DeclarationHead}
use Rattle.notation.specs.declared.token.DeclarationHead.TheVariants.{TypeWord, ProcWord, ExecWord, End, Other}
use Rattle.notation.proofs.Tokens.{cond_both}
use Rattle.notation.proofs.Readings.{Ahead, Takes, Reads, reads_got, reads_take, reads_part, reads_lastly, reads_choose, reads_misfit, takes_limited, takes_expect, takes_opening}
use Rattle.notation.proofs.TypeReadings.{type_read}
use Rattle.notation.proofs.ProcessReadings.{process_read}

abbrev ReadEntries : List ℕ → List Entry → Type 0
ReadEntries s es = EntriesFrom s es × FineEntries es

abbrev ReadDeclaration : List ℕ → Declaration → Type 0
ReadDeclaration s a = DeclarationFrom s a × FineDeclaration a

abbrev pub ReadScript : List ℕ → List Declaration → Type 0
ReadScript s ds = ScriptFrom s ds × FineScript ds

module _ (s : List ℕ) (short : length s ≤ text_limit) where
  -- ── the lists of a signature
  entries_read : (n close : ℕ) → close < k_fault → (c : Cursor) → c.at ≤ length s → 2 * length s + 1 ≤ n + 2 * c.at → Reads s c.at (ReadEntries s) (read_entries n s close c)
  unfolding read_entries EntriesFrom FineEntries
  entries_read zero close k c l b = absurd (omega arith)
  entries_read (suc n) close k c l b =
      reads_take _ (takes_expect s k_name c (omega arith)) λ i d h.
      reads_take _ (takes_expect s k_colon d (omega arith)) λ _ e g.
      reads_part _ (type_read s short n e g.1 (omega arith)) λ A f x (t, v).
      reads_choose (eqb (kind_at s f.at) k_comma) _ _ f
      (λ _.
      reads_take _ (takes_expect s k_comma f (omega arith)) λ _ o y.
      reads_lastly _ (entries_read n close k o y.1 (omega arith)) (omega arith) λ es (t', v'). ((refl, t, t'), (omega arith, v, v')))
      (λ _. reads_take _ (takes_expect s close f k) λ _ o y. reads_got _ o (omega arith) ((refl, t, omega arith), (omega arith, v, omega arith)))

  list_read : (n open' close : ℕ) → open' < k_fault → close < k_fault → (c : Cursor) → 2 * length s + 1 ≤ n + 2 * (c.at + 1) → Reads s c.at (ReadEntries s) (entry_list n s open' close c)
  unfolding entry_list EntriesFrom FineEntries
  list_read n open' close j k c b =
      reads_take _ (takes_opening s open' c j) λ _ d h.
      reads_part {from = d.at} {Q = ReadEntries s} _
      (reads_choose (eqb (kind_at s d.at) k_name) _ _ d
      (λ _. entries_read n close k d h.1 (omega arith))
      (λ _. reads_take _ (takes_expect s close d k) λ _ e g. reads_got [] e (omega arith) (omega arith, omega arith)))
      λ es e g v. reads_got es _ (omega arith) v

  -- ── declarations
  takes_keyword : (k before limit : ℕ) (c : Cursor) → k < k_fault → Takes s c (keyword s k before limit c)
  takes_keyword k before limit c l = takes_limited (expect s k c) (λ _. ltb before limit) (λ d. d) (λ _. refl) (takes_expect s k c l)

  module _ (n before : ℕ) (c : Cursor) (b : 2 * length s + 1 ≤ n + 2 * (c.at + 1)) (m : n ≤ fuel s) where
    type_declared : Reads s (c.at + 1) (ReadDeclaration s) (type_declaration n s before c)
    unfolding type_declaration DeclarationFrom FineDeclaration
    type_declared =
        reads_take _ (takes_keyword k_type before type_limit c (omega arith)) λ _ d h.
        reads_take _ (takes_expect s k_name d (omega arith)) λ i e g.
        reads_take _ (takes_expect s k_equals e (omega arith)) λ _ f x.
        reads_lastly _ (type_read s short n f x.1 (omega arith)) (omega arith) λ A (t, v). ((refl, t), (omega arith, v))

    proc_declared : Reads s (c.at + 1) (ReadDeclaration s) (proc_declaration n s before c)
    unfolding proc_declaration DeclarationFrom FineDeclaration
    proc_declared =
        reads_take _ (takes_keyword k_proc before process_limit c (omega arith)) λ _ d h.
        reads_take _ (takes_expect s k_name d (omega arith)) λ i e g.
        reads_part _ (list_read n k_round_open k_round_close (omega arith) (omega arith) e (omega arith)) λ xs f x (t, v).
        reads_part _ (list_read n k_square_open k_square_close (omega arith) (omega arith) f (omega arith)) λ ys o y (t', v').
        reads_take _ (takes_expect s k_equals o (omega arith)) λ _ p z.
        reads_lastly _ (process_read s short n p (omega arith)) (omega arith) λ P (t'', v''). ((refl, t, t', t''), (omega arith, v, v', v''))

    exec_declared : Reads s (c.at + 1) (ReadDeclaration s) (exec_declaration s before c)
    unfolding exec_declaration DeclarationFrom FineDeclaration
    exec_declared =
        reads_take _ (takes_keyword k_exec before exec_limit c (omega arith)) λ _ d h.
        reads_take _ (takes_expect s k_name d (omega arith)) λ i e g. reads_got _ e (omega arith) (refl, omega arith)

  script_reads : (script : Count → Cursor → Result (List Declaration)) (c : Cursor) → ((k : Count) (d : Cursor) → Ahead s (c.at + 1) d → Reads s d.at (ReadScript s) (script k d))
      → (n : ℕ) → c.at ≤ length s → 2 * length s + 1 ≤ n + 2 * (c.at + 1) → n ≤ fuel s → (k : Count) (h : DeclarationHead) → Reads s c.at (ReadScript s) (script_by script n s k c h)
  unfolding script_by ScriptFrom FineScript
  script_reads script c q n l b m k TypeWord = reads_part _ (type_declared n k.types c b m) λ a d h (t, v). reads_lastly _ (q _ d h) (omega arith) λ r (t', v'). ((t, t'), (v, v'))
  script_reads script c q n l b m k ProcWord = reads_part _ (proc_declared n k.processes c b m) λ a d h (t, v). reads_lastly _ (q _ d h) (omega arith) λ r (t', v'). ((t, t'), (v, v'))
  script_reads script c q n l b m k ExecWord = reads_part _ (exec_declared n k.execs c b m) λ a d h (t, v). reads_lastly _ (q _ d h) (omega arith) λ r (t', v'). ((t, t'), (v, v'))
  script_reads script c q n l b m k End = reads_got [] c (omega arith) (omega arith, omega arith)
  script_reads script c q n l b m k Other = reads_misfit s c.at c

  script_read : (n : ℕ) (k : Count) (c : Cursor) → c.at ≤ length s → 2 * length s + 1 ≤ n + 2 * c.at → n ≤ fuel s → Reads s c.at (ReadScript s) (read_script n s k c)
  unfolding read_script
  script_read zero k c l b m = absurd (omega arith)
  script_read (suc n) k c l b m =
      script_reads (λ j d. read_script n s j d) c (λ j d h. script_read n j d h.1 (omega arith) (omega arith)) n l (omega arith) (omega arith) k (declaration_head (kind_at s c.at))

-- ── a text: 2 where it is too long, else 3 to 5; at an offset within the text and the limit
abbrev TextOf : List ℕ → Result (List Declaration) → Type 0
TextOf s (got ds d) = ReadScript s ds
TextOf s (refused n i) = (2 ≤ n) × (n ≤ 5) × (i ≤ length s) × (i ≤ text_limit)

record Text (s : List ℕ) (r : Result (List Declaration)) : Type 0 where
  holds : TextOf s r

by_reading : (s : List ℕ) (low : ℕ) (r : Result (List Declaration)) → length s ≤ text_limit → Reads s low (ReadScript s) r → Text s r
by_reading s low (got ds d) l h = record { holds = h.holds.1 }
by_reading s low (refused n i) l h = let g = h.holds in record { holds = omega arith }

text_reads : (s : List ℕ) → Text s (read_text s)
unfolding read_text
text_reads s =
    cond_both (Text s) (leb (length s) text_limit) _ _
    (λ e. let l = leb-true (length s) text_limit e in by_reading s 0 _ l (script_read s l (fuel s) _ start (omega arith) (omega arith) (omega arith)))
    (λ e. record { holds = omega (arith, leb-false (length s) text_limit e) })

-- what is known of the script that was read, and of the number and the offset of a refusal
pub text_read : (s : List ℕ) (ds : List Declaration) (d : Cursor) → read_text s ≡ got ds d → ReadScript s ds
text_read s ds d e = (subst (Text s) e (text_reads s)).holds

pub read_numbered : (s : List ℕ) (n i : ℕ) → read_text s ≡ refused n i → (2 ≤ n) × (n ≤ 5)
read_numbered s n i e = let h = (subst (Text s) e (text_reads s)).holds in (h.0, h.1)

-- "No offset passes 8,192": the end of a full text is the last
pub read_offset : (s : List ℕ) (n i : ℕ) → read_text s ≡ refused n i → (i ≤ length s) × (i ≤ text_limit)
read_offset s n i e = let h = (subst (Text s) e (text_reads s)).holds in (h.2, h.3)
