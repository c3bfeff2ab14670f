-- A whole text.
use mathlib.Core.Path.{◌≡◌, refl, ap, sym, subst, ◌∙◌}
use mathlib.Core.List.{List, ◌++◌}
use Prim.Native.Nat.{ℕ, ◌+◌, ◌<◌, ◌≤◌}
use native.Mathlib.Omega.{arith}
use borrow.Author.Tests.{lt-leb, le-leb}
use native.Mathlib.Decide.{ℕ_discrete}
use lib.ListN.{length, get_or, set, drop, get_or-replicate}
use lib.Seq.{ext_get_or, get_or-set_same, get_or-set_other}
use Rattle.std.specs.Prelude.{Ok, Err}
use Rattle.notation.specs.Limits.{text_limit, scratch_words}
use Rattle.notation.specs.Tree.{Declaration}
use Rattle.notation.specs.Reader.{got, refused}
use Rattle.notation.specs.Scripts.{read_text, read_script, start, fuel}
use Rattle.notation.specs.Tables.{after_script, write_script, write_counts, nothing, zeros, tables, tables_of, Within}
use Rattle.notation.specs.Layout.{zeros_length}
use Rattle.notation.specs.declared.refusal.Refusal.{Refusal}
use Rattle.notation.specs.declared.reading.Cursor.{Cursor}
use Rattle.notation.specs.declared.reading.Tally.{Tally}
use Rattle.notation.specs.Refusals.{OrRefusal, refuses}
use Rattle.notation.specs.declared.script.Script.{Script}
use Rattle.read_types.specs.Filling.{Out}
use Rattle.read_text.specs.Scripts.{ScriptRead}
use Rattle.read_text.specs.Reading.{Filled, TextRead}
use Rattle.read_types.proofs.Filled.{gone_on, stopped}

pub zeros_long : (v : List ℕ) → v ≡ zeros → length v ≡ scratch_words
zeros_long v e = ap length e ∙ zeros_length

-- what is refused is not read
not_read : {P : Type 0} {n i : ℕ} {ds : List Declaration} {d : Cursor} → refused n i ≡ got ds d → P
not_read e = absurd (let z : ◌≡◌ {A = ℕ} 0 1 = cc in omega arith)

filled_no : (s v : List ℕ) (n i : ℕ) → read_text s ≡ refused n i → v ≡ zeros → Filled s (refuses n i) v
unfolding tables
filled_no s v n i x z = record { is = rw x; words = rw x z; fits = λ ds d e. not_read (sym x ∙ e) }

pub fill_long : (s v : List ℕ) → text_limit < length s → v ≡ zeros → Filled s (refuses 2 text_limit) v
unfolding read_text
fill_long s v h z = filled_no s v 2 text_limit (rw (lt-leb _ _ h)) z

-- what is read is read once
same_fits : (ds ds₂ : List Declaration) (d d₂ : Cursor) → got ds d ≡ got ds₂ d₂ → Within (after_script ds nothing) → Within (after_script ds₂ nothing)
same_fits ds ds₂ d d₂ e h = let both : ds ≡ ds₂ = cc in subst (λ x. Within (after_script x nothing)) both h

-- a text that is not too long
read_is : (s : List ℕ) → length s ≤ text_limit → read_text s ≡ read_script (fuel s) s (record { types = 0; processes = 0; execs = 0 }) start
unfolding read_text
read_is s h = rw (le-leb _ _ h)

module _ (s w v : List ℕ) {r : Out} (h : length s ≤ text_limit) (t : ScriptRead s w start nothing r v) where
  pub fill_no : {y : Refusal} {v₂ : List ℕ} → r ≡ Err y → v₂ ≡ zeros → Filled s (Err y) v₂
  fill_no {y} {v₂} q z = filled_no s v₂ y.number y.at (read_is s h ∙ stopped (read_script (fuel s) s _ start) (t.is (fuel s) (omega arith)) q) z

  pub fill_got : {d : Cursor} {l : Tally} {v₂ : List ℕ} → w ≡ zeros → r ≡ Ok (d, l) → v₂ ≡ write_counts l v
      → Filled s (Ok (record { types = l.types; processes = l.processes; execs = l.execs })) v₂
  unfolding tables tables_of
  fill_got {d} {l} {v₂} z q x =
      gone_on (read_script (fuel s) s _ start) (t.is (fuel s) (omega arith)) q λ ds a al av _.
      let same : read_text s ≡ got ds d = read_is s h ∙ a in
      let o = t.on d l q in
      record {
        is = rw same (λ j. Ok (record { types = (al j).types; processes = (al j).processes; execs = (al j).execs }));
        words = rw same (x ∙ (λ j. write_counts (al j) (av j)) ∙ ap (λ w. write_counts (after_script ds nothing) (write_script ds nothing w)) z);
        fits = λ ds₂ d₂ e. same_fits ds ds₂ d d₂ (sym same ∙ e) (subst Within al (omega arith));
      }

pub text_short : (s w : List ℕ) → length w < scratch_words → TextRead s w (refuses 1 0) w
text_short s w h = record { short = λ _. (refl, refl); enough = λ l. absurd (omega arith) }

pub text_full : (s w ys : List ℕ) (r : OrRefusal Script) → scratch_words ≤ length w → Filled s r ys → TextRead s w r (ys ++ drop scratch_words w)
text_full s w ys r h f = record { short = λ m. absurd (omega arith); enough = λ _. (f.is, ap (λ x. x ++ drop scratch_words w) f.words, f.fits) }
