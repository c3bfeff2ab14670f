-- An accepted text: its script stands in its tables, and the program that they hold is the script's own.
use Rattle.std.specs.Prelude.{ℕ, ◌≡◌, List}
use Rattle.std.proofs.Common.{sym, ◌∙◌, subst}
use Rattle.std.proofs.Math.Path.{ap}
use Rattle.notation.specs.Tree.{Declaration}
use Rattle.notation.specs.Tables.{nothing, tables, after_script, FitsTables, Within}
use Rattle.calculus.specs.Program.{program_of}
use Rattle.calculus.specs.Accepted.{accepted, checked}
use Rattle.calculus.specs.Demands.{Derivable}
use Rattle.calculus.specs.Checking.{typed}
use Rattle.calculus.specs.Verdict.{fine}
use Rattle.calculus.specs.Warnings.{warnings}
use Rattle.theory_derivations.specs.Accepts.{typed_iff, read_as, accepts}
use Rattle.calculus.specs.Typing.{Bodies}
use Rattle.theory_preservation.specs.Accepted.{accepted_bodies}
use Rattle.read_tables.specs.Program.{program_in, program_sorted}
use Rattle.read_tables.specs.Scripts.{sorted}
use Rattle.read_tables.specs.Decode.{script_in}
use Rattle.read_tables.specs.Whole.{Tables, text_decoded}
use Rattle.check_declarations.specs.Sorted.{typed_sorted, warnings_sorted}
use Rattle.read_tables.specs.Everywhere.{Everywhere, text_everywhere}

module _ (s : List ℕ) (ds : List Declaration) (ok : checked s ≡ accepted ds) (fits : FitsTables s) where
  derivable : Derivable s ds
  derivable = (accepts s ds).0 ok

  within : Within (after_script ds nothing)
  within = fits ds (read_as derivable).0 (read_as derivable).1

  decoded : (script_in s (tables s) ≡ sorted ds) × Tables s (tables s)
  decoded = text_decoded s ds (read_as derivable).0 (read_as derivable).1 within

  pub tables_stand : Tables s (tables s)
  tables_stand = decoded.1

  pub tables_everywhere : Everywhere s (tables s)
  tables_everywhere = text_everywhere s ds (read_as derivable).0 (read_as derivable).1 within

  -- nothing is at fault in the script of the tables, and its warnings are the text's
  pub script_fine : typed (script_in s (tables s)) ≡ fine
  script_fine = ap typed decoded.0 ∙ typed_sorted ds ∙ (typed_iff ds).1 derivable.derivation

  pub script_warnings : warnings (script_in s (tables s)) ≡ warnings ds
  script_warnings = ap warnings decoded.0 ∙ warnings_sorted ds

  pub program_is : program_in s (tables s) ≡ program_of ds
  unfolding program_in
  program_is = ap program_of decoded.0 ∙ program_sorted ds

  pub bodies_typed : Bodies (program_in s (tables s))
  bodies_typed = subst Bodies (sym program_is) (accepted_bodies s ds ok)

-- ── words w that hold the tables of s, which is accepted
pub record TextIn (s w : List ℕ) : Type 0 where
  pub script : List Declaration
  pub accepts : checked s ≡ accepted script
  pub words : w ≡ tables s
  pub fits : FitsTables s

module _ {s w : List ℕ} (t : TextIn s w) where
  -- what holds of the tables holds of the words, and the other way
  pub over : (Q : List ℕ → Type 0) → Q (tables s) → Q w
  over Q q = subst Q (sym t.words) q

  pub under : (Q : List ℕ → Type 0) → Q w → Q (tables s)
  under Q q = subst Q t.words q

  pub tables_in : Tables s w
  tables_in = over (Tables s) (tables_stand s t.script t.accepts t.fits)

  pub everywhere_in : Everywhere s w
  everywhere_in = over (Everywhere s) (tables_everywhere s t.script t.accepts t.fits)

  pub program_in_lem : program_in s w ≡ program_of t.script
  program_in_lem = ap (program_in s) t.words ∙ program_is s t.script t.accepts t.fits

  pub bodies_in : Bodies (program_in s w)
  bodies_in = over (λ x. Bodies (program_in s x)) (bodies_typed s t.script t.accepts t.fits)

  pub typed_in_lem : typed (script_in s w) ≡ fine
  typed_in_lem = over (λ x. typed (script_in s x) ≡ fine) (script_fine s t.script t.accepts t.fits)

  pub warnings_in_lem : warnings (script_in s w) ≡ warnings t.script
  warnings_in_lem = over (λ x. warnings (script_in s x) ≡ warnings t.script) (script_warnings s t.script t.accepts t.fits)
