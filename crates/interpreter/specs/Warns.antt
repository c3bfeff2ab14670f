-- What the function for a script's warnings promises: s is the text, w and v the scratch words before and after, k the number asked for.
use Rattle.std.specs.Prelude.{ℕ, ◌≡◌, refl, List, length, take, Option, Ok, Err, IsOkAnd}
use Rattle.std.proofs.Common.{sym, subst}
use Rattle.std.proofs.Math.ListN.{get_elem?}
use Rattle.notation.specs.Limits.{scratch_words}
use Rattle.calculus.specs.Accepted.{Checked, accepted, faulty}
use Rattle.calculus.specs.Machine.{text_checked}
use Rattle.calculus.specs.Warnings.{warnings, TellsOf}
use Rattle.calculus.specs.declared.answers.Missing.{Missing}
use Rattle.notation.specs.Refusals.{OrRefusal, refuses}
use Rattle.notation.specs.declared.refusal.Refusal.{Refusal}
use Rattle.theory_safety.specs.Replies.{enough_text}
use Rattle.read_tables.specs.Decode.{script_in}
use Rattle.check_text.specs.Texts.{TextChecked}
use Rattle.check_accepted.specs.Texts.{warnings_in_lem}
use Rattle.check_accepted.specs.Verdicts.{text_refused, scratch_enough_lem, text_accepted}
use Rattle.interpreter.specs.Entries.{scratch_after}
use Rattle.interpreter.specs.Inside.{scratch_is}

-- by the text's verdict: its refusal; or the script's warning of that number, or that there is none
abbrev pub WarnsBy : List ℕ → Checked → ℕ → OrRefusal (Option Missing) → Type 0
WarnsBy s (accepted ds) k r = IsOkAnd r λ w. TellsOf s (get_elem? (warnings ds) k) w
WarnsBy s (faulty n i) k r = r ≡ refuses n i

-- scratch is left as an entry leaves it
pub record Warns (s w : List ℕ) (k : ℕ) (r : OrRefusal (Option Missing)) (v : List ℕ) : Type 0 where
  pub scratch : v ≡ scratch_after s w
  pub told : WarnsBy s (text_checked s (length w)) k r

module _ (s w x : List ℕ) (v : OrRefusal (Unit {0})) (t : TextChecked s w v x) {k : ℕ} where
  pub warns_refused : {f : Refusal} → v ≡ Err f → Warns s w k (Err f) x
  warns_refused {f} e = record { scratch = scratch_is s w x v t; told = subst (λ c. WarnsBy s c k (Err f)) (sym (text_refused s w x v t f.number f.at e)) refl }

  pub warns_accepted : {r : Option Missing} (e : v ≡ (Ok tt)) → TellsOf s (get_elem? (warnings (script_in s (take scratch_words x))) k) r → Warns s w k (Ok r) x
  warns_accepted {r} e y =
      let u = text_accepted s w x v t e in
      record {
        scratch = scratch_is s w x v t;
        told = subst (λ c. WarnsBy s c k (Ok r)) (sym (enough_text s u.script u.accepts (length w) (scratch_enough_lem s w x v t e)))
            (subst (λ l. TellsOf s (get_elem? l k) r) (warnings_in_lem u) y);
      }
