-- The tables as a whole: at each number of the tables of declarations stand trees and signatures, so that code may begin its walk there.
use Rattle.std.specs.Prelude.{ℕ, suc, ◌+◌, ◌<◌, ◌≤◌, ◌≡◌, refl, ◌⊎◌, length}
use Rattle.std.proofs.Common.{sym, ◌∙◌, inl, inr, eq-or-lt_of_le, arith}
use Rattle.std.proofs.Math.Path.{subst}
use mathlib.Core.List.{List, [], ◌∷◌}
use Rattle.notation.specs.Fine.{FineScript}
use Rattle.notation.specs.Limits.{scratch_words}
use Rattle.notation.specs.Tree.{Entry, Declaration, declare_type, declare_proc, declare_exec}
use Rattle.notation.specs.Reader.{Result, got, refused, name_in}
use Rattle.notation.specs.Scripts.{read_text}
use Rattle.notation.specs.Tables.{lasting, after_declaration, after_script, write_script, nothing, zeros, tables_of, tables, process_entry, Within}
use Rattle.notation.specs.declared.reading.Cursor.{Cursor}
use Rattle.notation.specs.declared.reading.Tally.{Tally}
use Rattle.notation.specs.declared.reading.ProcessEntry.{ProcessEntry}
use Rattle.notation.specs.Tables.{tables_read, Area}
use Rattle.notation.specs.Layout.{zeros_length}
use Rattle.notation.proofs.Zeroed.{zeros_area}
use Rattle.read_tables.specs.Decode.{tally_in, entry_at, type_at, process_at, entries_in, type_in, script_in}
use Rattle.read_tables.specs.Growth.{Grown, grown_then, grown_lasting, grown_counts}
use Rattle.notation.specs.From.{EntriesFrom, DeclarationFrom, ScriptFrom}
use Rattle.read_tables.specs.Stands.{EntriesAt, DeclarationAt, ScriptAt}
use Rattle.read_tables.specs.Declarations.{script_grown, script_kept, script_written}
use Rattle.read_tables.specs.Scripts.{sorted, grows_by, counted, script_decoded}
use Rattle.notation.proofs.ScriptReadings.{text_read}
use Rattle.read_tables.specs.Roots.{TypeIn, type_in_lem, ProcessIn}

-- n signature entries stand from the place i on
pub record EntriesIn (s w : List ℕ) (i n : ℕ) : Type 0 where
  pub list : List Entry
  pub long : n ≡ length list
  pub from : EntriesFrom s list
  pub is : EntriesAt w (tally_in w) i list

-- the first of them: where its name stands, and the number of its type
pub record FirstEntry (s w : List ℕ) (i n at number : ℕ) : Type 0 where
  pub within : i < (tally_in w).entries
  pub type : TypeIn s w number
  pub rest : EntriesIn s w (i + 1) n
  pub is : entries_in s w i (suc n) ≡ record { channel = name_in s at; type = type_in s w number } ∷ entries_in s w (i + 1) n

abbrev EntryThere : List ℕ → List ℕ → ℕ → ℕ → Type 0
EntryThere s w i n = FirstEntry s w i n (entry_at w i).0 (entry_at w i).1

pub first_entry : (s w : List ℕ) (i n : ℕ) → EntriesIn s w i (suc n) → EntryThere s w i n
unfolding EntriesAt EntriesFrom entries_in
first_entry s w i n t = go t.list t.long t.from t.is
  where
    go : (es : List Entry) → suc n ≡ length es → EntriesFrom s es → EntriesAt w (tally_in w) i es → EntryThere s w i n
    go [] l f m = absurd (omega arith)
    go (e ∷ es) l (f, f', f'') (x, b, a, m, m') =
        let z : x ≡ (entry_at w i).1 = λ j. (sym a j).1 in
        let u = type_in_lem s w x e.type f' m in
        record { within = b; type = subst (TypeIn s w) z u; rest = record { list = es; long = omega arith; from = f''; is = m' }; is = refl }

-- a process's entry: its signature and its body stand
pub record SignatureIn (s w : List ℕ) (e : ProcessEntry) : Type 0 where
  pub provides : EntriesIn s w e.first e.provided
  pub uses : EntriesIn s w (e.first + e.provided) e.used
  pub body : ProcessIn s w e.body

-- what holds here and of all that is past holds from here on
here_or_past : (Q : ℕ → Type 0) (j i : ℕ) → j ≤ i → Q j → (j < i → Q i) → Q i
here_or_past Q j i l q f = go (eq-or-lt_of_le l)
  where
    go : (j ≡ i) ⊎ (j < i) → Q i
    go (inl z) = subst Q z q
    go (inr m) = f m

module _ (s w : List ℕ) where
  abbrev TypeThere : ℕ → Type 0
  TypeThere i = TypeIn s w (type_at w i).1

  abbrev SignatureThere : ℕ → Type 0
  SignatureThere i = SignatureIn s w (process_at w i)

  -- at each number of the table of types a type stands, and at each of processes a signature
  pub each_type : (ds : List Declaration) (j : Tally) → ScriptFrom s ds → ScriptAt w (tally_in w) j ds → (i : ℕ) → j.types ≤ i → i < (after_script ds j).types → TypeIn s w (type_at w i).1
  unfolding after_script ScriptFrom ScriptAt DeclarationFrom DeclarationAt
  each_type [] j t e i lo hi = absurd (omega arith)
  each_type (declare_type n A ∷ r) j ((t, t'), u) ((x, b, e, a), m) i lo hi =
      here_or_past TypeThere j.types i lo (subst (TypeIn s w) (λ v. (sym e v).1) (type_in_lem s w x A t' a))
      (λ l. each_type r (after_declaration (declare_type n A) j) u m i (omega (arith, grows_by (declare_type n A) j)) hi)
  each_type (declare_proc n xs ys P ∷ r) j (t, u) (e, m) i lo hi =
      each_type r (after_declaration (declare_proc n xs ys P) j) u m i (omega (arith, grows_by (declare_proc n xs ys P) j)) hi
  each_type (declare_exec n ∷ r) j (t, u) (e, m) i lo hi = each_type r (after_declaration (declare_exec n) j) u m i (omega (arith, grows_by (declare_exec n) j)) hi

  pub each_process : (ds : List Declaration) (j : Tally) → ScriptFrom s ds → ScriptAt w (tally_in w) j ds → (i : ℕ) → j.processes ≤ i → i < (after_script ds j).processes → SignatureIn s w (process_at w i)
  unfolding after_script ScriptFrom ScriptAt DeclarationFrom DeclarationAt
  each_process [] j t e i lo hi = absurd (omega arith)
  each_process (declare_type n A ∷ r) j (t, u) (e, m) i lo hi = each_process r (after_declaration (declare_type n A) j) u m i (omega (arith, grows_by (declare_type n A) j)) hi
  each_process (declare_proc n xs ys P ∷ r) j ((t, t', t'', o), u) ((p, b, e, f, g, c, q), m) i lo hi =
      let y : SignatureIn s w (process_entry n.at j.entries (length xs) (length ys) p) = record {
        provides = record { list = xs; long = refl; from = t'; is = f };
        uses = record { list = ys; long = refl; from = t''; is = g };
        body = record { tree = P; few = c; from = o; is = q };
      } in
      here_or_past SignatureThere j.processes i lo (subst (SignatureIn s w) (sym e) y)
      (λ l. each_process r (after_declaration (declare_proc n xs ys P) j) u m i (omega (arith, grows_by (declare_proc n xs ys P) j)) hi)
  each_process (declare_exec n ∷ r) j (t, u) (e, m) i lo hi = each_process r (after_declaration (declare_exec n) j) u m i (omega (arith, grows_by (declare_exec n) j)) hi

-- the tables of a text stand in w: what code over the tables asks for
pub record Tables (s w : List ℕ) : Type 0 where
  pub area : Area w
  pub within : Within (tally_in w)
  pub types : (i : ℕ) → i < (tally_in w).types → TypeIn s w (type_at w i).1
  pub processes : (i : ℕ) → i < (tally_in w).processes → SignatureIn s w (process_at w i)

-- the counts are written last, over the words of a script
module _ (ds : List Declaration) where
  filled : Area (write_script ds nothing zeros)
  filled = omega (arith, zeros_area, (script_grown ds nothing zeros).long)

  pub tables_counted : tally_in (tables_of ds) ≡ lasting 0 (after_script ds nothing)
  unfolding tables_of
  tables_counted = counted (after_script ds nothing) (write_script ds nothing zeros) filled

  pub tables_grown : Grown (after_script ds nothing) (tally_in (tables_of ds)) (write_script ds nothing zeros) (tables_of ds)
  unfolding tables_of
  tables_grown =
      let k = after_script ds nothing in
      let w = write_script ds nothing zeros in
      subst (λ (l : Tally). Grown k l w (tables_of ds)) (sym tables_counted) (grown_then (grown_counts k w) (grown_lasting 0 k (tables_of ds)))

-- the words that a text decides are as many as are lent at least
pub tables_length : (s : List ℕ) → length (tables s) ≡ scratch_words
unfolding tables
tables_length s = go (read_text s)
  where
    go : (r : Result (List Declaration)) → length (tables_read r) ≡ scratch_words
    go (got ds d) = (tables_grown ds).long ∙ (script_grown ds nothing zeros).long ∙ zeros_length
    go (refused n i) = zeros_length

-- the tables of a script that was read are such
pub tables_in : (ds : List Declaration) (s : List ℕ) → ScriptFrom s ds → FineScript ds → Within (after_script ds nothing) → Tables s (tables_of ds)
tables_in ds s t f h =
    let v = tables_of ds in
    let c = tables_counted ds in
    let g = tables_grown ds in
    let within : Within (tally_in v) = subst Within (sym c) h in
    let e : ScriptAt v (tally_in v) nothing ds = script_kept g within ds nothing (script_written ds nothing zeros f zeros_area h) in
    record {
      area = omega (arith, filled ds, g.long);
      within = within;
      types = λ i l. each_type s v ds nothing t e i (omega arith) (subst (λ (m : Tally). i < m.types) c l);
      processes = λ i l. each_process s v ds nothing t e i (omega arith) (subst (λ (m : Tally). i < m.processes) c l);
    }

-- whatever text is read: its tables give back its script, where they have room for it, as a text that `read` did not refuse has (`FitsTables`)
pub text_decoded : (s : List ℕ) (ds : List Declaration) (d : Cursor) → read_text s ≡ got ds d → Within (after_script ds nothing)
    → (script_in s (tables s) ≡ sorted ds) × Tables s (tables s)
unfolding tables
text_decoded s ds d e h =
    let (t, f) = text_read s ds d e in
    rw e (script_decoded ds s t f h, tables_in ds s t f h)
