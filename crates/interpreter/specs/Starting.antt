-- Start and the name of an exec line, of an accepted text.
use Rattle.std.specs.Prelude.{ℕ, ◌≤◌, ◌≡◌, refl, List, [], Bool, true, false, length, Ok}
use Rattle.std.proofs.Common.{sym, ap, subst, arith}
use Rattle.std.proofs.lemmas.Bool.{false≢true}
use Rattle.std.proofs.Math.Option.{Option, some, none}
use Rattle.std.proofs.Math.ListN.{get_elem?}
use Rattle.notation.specs.Limits.{run_words}
use Rattle.notation.specs.Refusals.{OrRefusal, refuses}
use Rattle.notation.specs.Tables.{tables, FitsTables}
use Rattle.notation.specs.Tree.{Located, Declaration}
use Rattle.calculus.specs.Accepted.{accepted, checked}
use Rattle.calculus.specs.Machine.{started, name_given, reply, on_line}
use Rattle.calculus.specs.Program.{Signature, Program}
use Rattle.calculus.specs.Runs.{start_config, exec_of}
use Rattle.calculus.specs.WellFormed.{WellFormed}
use Rattle.theory_ends.specs.Lists.{found_below}
use Rattle.theory_preservation.specs.Accepted.{accepted_start}
use Rattle.read_tables.specs.Program.{program_in}
use Rattle.run_steps.specs.Starting.{BeginsBy, Begins}
use Rattle.check_accepted.specs.Texts.{program_is}
use Rattle.interpreter.specs.Entries.{to_start, to_name, config_of}
use Rattle.interpreter.specs.Past.{refuse}
use Rattle.interpreter.specs.Inside.{AnswersIn, answers_past}
use Rattle.interpreter.specs.Runs.{leaves_run}

abbrev pub started_by : Bool → OrRefusal (Unit {0})
started_by true = Ok tt
started_by false = refuses 17 0

module _ (s : List ℕ) (ds : List Declaration) (ok : checked s ≡ accepted ds) (fits : FitsTables s) (line : ℕ) where
  abbrev P : Program
  P = program_in s (tables s)

  module _ (ws : List ℕ) (wide : run_words ≤ length ws) where
    pub start_told : {vs : List ℕ} {b : Bool} → Begins s (tables s) ws vs b (exec_of P line) → AnswersIn s (to_start line) ws (started (started_by b)) vs
    start_told {vs} {b} m = go (exec_of P line) refl m.is
      where
        formed : (g : Signature) → exec_of P line ≡ some g → WellFormed P (start_config g)
        formed g = subst (λ p. exec_of p line ≡ some g → WellFormed p (start_config g)) (sym (program_is s ds ok fits)) (accepted_start s ds ok line g)

        go : (o : Option Signature) → exec_of P line ≡ o → BeginsBy s (tables s) ws vs b o → AnswersIn s (to_start line) ws (started (started_by b)) vs
        go none e m =
            answers_past s ds ok fits (to_start line) ws (refuse (to_start line) (config_of s ws) 17 0)
            (ap (λ o. on_line o (refuse (to_start line) (config_of s ws)) λ g. reply (started (Ok tt)) (start_config g)) e)
            (λ _. wide) (λ z. absurd (false≢true z)) (ap (λ x. started (started_by x)) m.0) (record { is = m.1 })
        go (some g) e m =
            answers_past s ds ok fits (to_start line) ws (reply (started (Ok tt)) (start_config g))
            (ap (λ o. on_line o (refuse (to_start line) (config_of s ws)) λ g. reply (started (Ok tt)) (start_config g)) e)
            (λ _. wide) (λ z. absurd (false≢true z)) (ap (λ x. started (started_by x)) m.0) (record { is = leaves_run s ws vs (start_config g) m.1 (formed g e) })

  -- ── the name of an exec line
  names_by : (o : Option Located) {part : List ℕ} {number at : ℕ} → get_elem? P.execs line ≡ o
      → name_given part number at ≡ (on_line o (refuse (to_name line) (config_of s [])) (λ n. reply (name_given n.name 0 0) (config_of s []))).answer
      → AnswersIn s (to_name line) [] (name_given part number at) []
  names_by o e a =
      answers_past s ds ok fits (to_name line) [] (on_line o (refuse (to_name line) (config_of s [])) λ n. reply (name_given n.name 0 0) (config_of s []))
      (ap (λ o. on_line o (refuse (to_name line) (config_of s [])) λ n. reply (name_given n.name 0 0) (config_of s [])) e)
      (λ z. absurd (false≢true z)) (λ z. absurd (false≢true z)) a (record { is = refl })

  pub name_none : length P.execs ≤ line → AnswersIn s (to_name line) [] (name_given [] 17 0) []
  name_none l = go (get_elem? P.execs line) refl
    where
      go : (o : Option Located) → get_elem? P.execs line ≡ o → AnswersIn s (to_name line) [] (name_given [] 17 0) []
      go none e = names_by none e refl
      go (some n) e = absurd (omega (arith, l, found_below P.execs line e))

  pub name_told : (n : Located) → get_elem? P.execs line ≡ some n → AnswersIn s (to_name line) [] (name_given n.name 0 0) []
  name_told n e = names_by (some n) e refl
