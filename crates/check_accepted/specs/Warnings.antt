-- The warnings of an accepted text: they are few, and their names stand in the text.
use Rattle.std.specs.Prelude.{ℕ, ◌*◌, ◌≤◌, ◌≡◌, List, length}
use Rattle.std.proofs.Common.{sym, ◌∙◌, ap, arith}
use Rattle.std.proofs.Math.Option.{some}
use Rattle.std.proofs.Math.ListN.{get_elem?}
use Rattle.notation.specs.Limits.{type_term_limit, process_term_limit}
use Rattle.notation.specs.Token.{name_at}
use Rattle.notation.specs.Tree.{Located}
use Rattle.notation.proofs.ScriptReadings.{text_read}
use Rattle.calculus.specs.Demands.{Derivable}
use Rattle.calculus.specs.Warnings.{Warning, warnings}
use Rattle.theory_derivations.specs.Accepts.{read_as, accepts}
use Rattle.read_tables.specs.Decode.{script_in}
use Rattle.check_accepted.specs.Texts.{TextIn, warnings_in_lem}
use Rattle.check_accepted.specs.FewWarnings.{few_warnings}
use Rattle.check_accepted.specs.WarningNames.{warning_names}

module _ {s w : List ℕ} (t : TextIn s w) where
  derivable : Derivable s t.script
  derivable = (accepts s t.script).0 t.accepts

  pub warnings_few : length (warnings (script_in s w)) ≤ type_term_limit * process_term_limit
  warnings_few = omega (
    arith,
    ap (λ (l : List Warning). length l) (warnings_in_lem t),
    few_warnings t.script (t.fits t.script (read_as derivable).0 (read_as derivable).1),
  )

  pub warning_in_lem : (k : ℕ) (x : Warning) → get_elem? (warnings (script_in s w)) k ≡ some x → (x.process.name ≡ name_at s x.process.at) × (x.channel.name ≡ name_at s x.channel.at)
  warning_in_lem k x e =
      let n = warning_names s t.script (text_read s t.script (read_as derivable).0 (read_as derivable).1).0 k x (sym (ap (λ (l : List Warning). get_elem? l k) (warnings_in_lem t)) ∙ e) in
      (sym (ap (λ (l : Located). l.name) n.0), sym (ap (λ (l : Located). l.name) n.1))
