-- Where the name of an exec line stands.
use Rattle.std.specs.Prelude.{ℕ, ◌≤◌, ◌≡◌, refl, List, [], length, Ok, Err, IfOk, IfErr}
use Rattle.std.proofs.Math.Path.{sym, ap}
use Rattle.std.proofs.Common.{◌∙◌, subst, arith}
use Rattle.std.proofs.Math.Option.{some}
use Rattle.std.proofs.Math.ListN.{get_elem?}
use Rattle.notation.specs.Reader.{name_in}
use Rattle.notation.specs.Token.{name_at}
use Rattle.calculus.specs.Accepted.{checked}
use Rattle.calculus.specs.Program.{Program}
use Rattle.notation.specs.Refusals.{OrRefusal, refuses}
use Rattle.notation.specs.declared.refusal.Refusal.{Refusal}
use Rattle.read_tables.specs.Program.{program_in}
use Rattle.check_text.specs.Texts.{TextChecked}
use Rattle.check_accepted.specs.Texts.{TextIn, program_in_lem}
use Rattle.interpreter.specs.Entries.{to_name, Names, lines_in, offset_in, exec_offset, name_placed, NamesAt}
use Rattle.check_accepted.specs.Verdicts.{text_refused}
use Rattle.interpreter.specs.Cases.{text_numbered}
use Rattle.interpreter.specs.Inside.{AnswersIn, answers_accepted, answers_refused}
use Rattle.interpreter.specs.Told.{name_none, name_told}

-- of an accepted text
pub record NamesIn (s : List ℕ) (line : ℕ) (r : OrRefusal ℕ) : Type 0 where
  pub names : AnswersIn s (to_name line) [] (name_placed s r) []
  pub stands : IfOk r λ place. place ≡ exec_offset s line
  pub numbered : IfErr r λ e. 1 ≤ e.number

-- ── an accepted text
module _ {s w : List ℕ} (t : TextIn s w) {line : ℕ} where
  pub place_none : length (program_in s w).execs ≤ line → NamesIn s line (refuses 17 0)
  place_none l = record { names = name_none t l; stands = tt; numbered = omega arith }

  pub place_told : {place : ℕ} → get_elem? (program_in s w).execs line ≡ some (name_in s place) → NamesIn s line (Ok place)
  unfolding exec_offset
  place_told {place} e =
      let lines : lines_in (checked s) ≡ (program_in s w).execs = ap lines_in t.accepts ∙ ap (λ (p : Program). p.execs) (sym (program_in_lem t)) in
      record {
        names = name_told t (name_in s place) e refl;
        stands = sym (ap (λ l. offset_in (get_elem? l line)) lines ∙ ap offset_in e);
        numbered = tt;
      }

-- ── with the text's own verdict
module _ (s w x : List ℕ) (v : OrRefusal (Unit {0})) (t : TextChecked s w v x) {line : ℕ} where
  pub place_refused : {f : Refusal} → v ≡ Err f → NamesAt s w line (Err f) x
  place_refused {f} e = record { names = answers_refused s w x v t (to_name line) [] e; stands = tt; numbered = text_numbered s (length w) f.number f.at (text_refused s w x v t f.number f.at e) }

  pub place_accepted : {r : OrRefusal ℕ} → v ≡ (Ok tt) → NamesIn s line r → NamesAt s w line r x
  place_accepted e m = record { names = answers_accepted s w x v t (to_name line) [] e m.names; stands = m.stands; numbered = m.numbered }

-- the part of the text that stands there
pub part_named : {s w v part : List ℕ} {line place : ℕ} → NamesAt s w line (Ok place) v → part ≡ name_at s place → Names s w line part 0 0 v
part_named {s} {w} {v} {line = line} m e = subst (λ p. Names s w line p 0 0 v) (sym e) m.names
