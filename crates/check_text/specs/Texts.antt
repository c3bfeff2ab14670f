-- What the check of a text promises: the verdict is the calculus' own, and the words are decided by the text.
use Rattle.std.specs.Prelude.{ℕ, ◌<◌, ◌≤◌, ◌≡◌, List, ◌++◌, length, drop, take}
use Rattle.std.proofs.Math.Path.{refl, sym, ap}
use Rattle.std.proofs.Common.{◌∙◌, subst, arith, drop_of_length-le, take_all}
use Rattle.notation.specs.Limits.{scratch_words}
use Rattle.notation.specs.Reader.{Result, got, refused}
use Rattle.notation.specs.Scripts.{read_text}
use Rattle.notation.specs.Tables.{tables, tables_read, zeros, FitsTables}
use Rattle.notation.specs.Layout.{zeros_length}
use Rattle.notation.specs.Tree.{Declaration}
use Rattle.notation.specs.declared.reading.Cursor.{Cursor}
use Rattle.notation.specs.declared.script.Script.{Script}
use Rattle.calculus.specs.Accepted.{Checked, accepted, faulty, judged, checked, checked_read}
use Rattle.calculus.specs.Checking.{typed}
use Rattle.calculus.specs.Declarations.{declared}
use Rattle.calculus.specs.Verdict.{fine, and_then}
use Rattle.calculus.specs.Verdict as calculus
use Rattle.calculus.specs.Verdict.{verdict_of}
use Rattle.check_contexts.specs.Halves.{append-nil}
use Rattle.check_declarations.specs.Sorted.{declared_sorted, typed_sorted}
use Rattle.std.specs.Prelude.{Ok, Err, IsErrAnd}
use Rattle.std.proofs.lemmas.Result.{err_from_is_err_and}
use Rattle.notation.specs.declared.refusal.Refusal.{Refusal}
use Rattle.notation.specs.Refusals.{OrRefusal, refuses}
use Rattle.read_text.specs.Reading.{answer_of, TextRead}
use Rattle.read_tables.specs.Decode.{script_in}
use Rattle.read_tables.specs.Scripts.{sorted}
use Rattle.read_tables.specs.Whole.{Tables, tables_length, text_decoded}

-- what a text comes to, as a verdict, and the words that it decides
abbrev pub verdict_in : Checked → calculus.Verdict
verdict_in (accepted ds) = fine
verdict_in (faulty n i) = calculus.refused n i

abbrev pub words_in : List ℕ → Checked → List ℕ
words_in s (accepted ds) = tables s
words_in s (faulty n i) = zeros

pub words_length : (s : List ℕ) (c : Checked) → length (words_in s c) ≡ scratch_words
words_length s (accepted ds) = tables_length s
words_length s (faulty n i) = zeros_length

pub record PartChecked (s : List ℕ) (r : OrRefusal (Unit {0})) (v : List ℕ) : Type 0 where
  pub is : verdict_of r ≡ verdict_in (checked s)
  pub words : v ≡ words_in s (checked s)
  pub fits : FitsTables s

-- "After 1 no lent slice is touched; after 2 to 15 the first 6,144 scratch words are zero; otherwise they hold the checked tables"
pub record TextChecked (s w : List ℕ) (r : OrRefusal (Unit {0})) (v : List ℕ) : Type 0 where
  pub short : length w < scratch_words → (r ≡ refuses 1 0) × (v ≡ w)
  pub enough : scratch_words ≤ length w → (verdict_of r ≡ verdict_in (checked s)) × (v ≡ words_in s (checked s) ++ drop scratch_words w) × FitsTables s

pub checked_short : (s w : List ℕ) → length w < scratch_words → TextChecked s w (refuses 1 0) w
checked_short s w l = record { short = λ _. (refl, refl); enough = λ h. absurd (omega arith) }

pub checked_enough : (s w : List ℕ) (r : OrRefusal (Unit {0})) (v : List ℕ) → scratch_words ≤ length w → PartChecked s r v → TextChecked s w r (v ++ drop scratch_words w)
checked_enough s w r v l p = record { short = λ h. absurd (omega arith); enough = λ _. (p.is, ap (λ x. x ++ drop scratch_words w) p.words, p.fits) }

-- ── what `read` left
-- the tables of a text that was read
pub record TablesOf (s v : List ℕ) : Type 0 where
  pub script : List Declaration
  pub end : Cursor
  pub read : read_text s ≡ got script end
  pub words : v ≡ tables s
  pub long : length v ≡ scratch_words
  pub fits : FitsTables s

module _ (s w v : List ℕ) (r : OrRefusal Script) (n : length w ≡ scratch_words) (kept : length v ≡ scratch_words) (t : TextRead s w r v) where
  enough : (r ≡ answer_of (read_text s)) × (v ≡ tables s ++ drop scratch_words w) × FitsTables s
  enough = t.enough (omega arith)

  words_so : v ≡ tables s
  words_so = enough.1 ∙ ap (λ l. tables s ++ l) (drop_of_length-le w {i = scratch_words} (omega arith)) ∙ append-nil (tables s)

  abbrev is_read : OrRefusal Script → Type 0
  is_read (Ok c) = Unit {0}
  is_read (Err e) = ⊥

  abbrev is_refused : OrRefusal Script → Type 0
  is_refused (Ok c) = ⊥
  is_refused (Err e) = Unit {0}

  abbrev refusal_of : OrRefusal Script → calculus.Verdict
  refusal_of (Ok c) = fine
  refusal_of (Err e) = calculus.refused e.number e.at

  refused_so : (m i : ℕ) → r ≡ refuses m i → PartChecked s (refuses m i) v
  unfolding checked tables
  refused_so m i e = go (read_text s) refl (sym e ∙ enough.0)
    where
      go : (o : Result (List Declaration)) → read_text s ≡ o → refuses m i ≡ answer_of o → PartChecked s (refuses m i) v
      go (got ds c) q z = absurd (subst is_refused z tt)
      go (refused k j) q z = record { is = ap refusal_of z ∙ sym (ap (λ x. verdict_in (checked_read x)) q); words = words_so ∙ ap tables_read q ∙ sym (ap (λ x. words_in s (checked_read x)) q); fits = enough.2 }

  -- the refusal of a text that is not read, which a `?` hands on
  pub part_refused : {e : Refusal} → r ≡ Err e → (x : OrRefusal (Unit {0})) → IsErrAnd x (λ d. d ≡ e) → PartChecked s x v
  part_refused {e} q x h = let (d, x_is, d_is) = err_from_is_err_and x h in rw (x_is, d_is) (refused_so e.number e.at q)

  pub part_read : (c : Script) → r ≡ Ok c → TablesOf s v
  part_read c e = go (read_text s) refl (sym e ∙ enough.0)
    where
      go : (o : Result (List Declaration)) → read_text s ≡ o → Ok c ≡ answer_of o → TablesOf s v
      go (got ds d) q z = record { script = ds; end = d; read = q; words = words_so; long = kept; fits = enough.2 }
      go (refused k j) q z = absurd (subst is_read z tt)

-- ── the script in the tables
module _ (s v : List ℕ) (t : TablesOf s v) where
  decoded : (script_in s (tables s) ≡ sorted t.script) × Tables s (tables s)
  decoded = text_decoded s t.script t.end t.read (t.fits t.script t.end t.read)

  whole : take scratch_words v ≡ tables s
  whole = take_all scratch_words v (omega (arith, t.long)) ∙ t.words

  pub tables_there : Tables s (take scratch_words v)
  tables_there = subst (Tables s) (sym whole) decoded.1

  both : and_then (declared (script_in s (take scratch_words v))) (typed (script_in s (take scratch_words v))) ≡ and_then (declared t.script) (typed t.script)
  both =
      ap (λ x. and_then (declared (script_in s x)) (typed (script_in s x))) whole
      ∙ ap (λ ds. and_then (declared ds) (typed ds)) decoded.0
      ∙ λ j. and_then (declared_sorted t.script j) (typed_sorted t.script j)

  checked_by : checked s ≡ judged t.script (and_then (declared t.script) (typed t.script))
  unfolding checked
  checked_by = ap checked_read t.read

  module _ (u : OrRefusal (Unit {0})) (e : verdict_of u ≡ and_then (declared (script_in s (take scratch_words v))) (typed (script_in s (take scratch_words v)))) where
    judged_by : (x : OrRefusal (Unit {0})) → u ≡ x → checked s ≡ judged t.script (verdict_of x)
    judged_by x q = checked_by ∙ ap (judged t.script) (sym both ∙ sym e ∙ ap verdict_of q)

    pub part_fine : u ≡ (Ok tt) → PartChecked s (Ok tt) v
    part_fine q = record { is = sym (ap verdict_in (judged_by (Ok tt) q)); words = t.words ∙ sym (ap (words_in s) (judged_by (Ok tt) q)); fits = t.fits }

    pub part_faulty : {e : Refusal} → u ≡ Err e → (z : List ℕ) → z ≡ zeros → PartChecked s (Err e) z
    part_faulty {e} q z o = record { is = sym (ap verdict_in (judged_by (Err e) q)); words = o ∙ sym (ap (words_in s) (judged_by (Err e) q)); fits = t.fits }
