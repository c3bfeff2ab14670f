use mathlib.Core.Path.{refl, ap}
use Rattle.std.specs.Prelude.{Err}
use Rattle.notation.specs.declared.token.DeclarationHead.TheVariants.{End, Other}
use Rattle.read_text.proofs.ScriptPaths.{declare_no}
use Rattle.read_text.proofs.scripts.declare.Goals as goal

pub returns-in-TypeWord : goal.returns-in-TypeWord
returns-in-TypeWord c = rw c.in-TypeWord.is c.declare_type.ensures

pub returns-in-ProcWord : goal.returns-in-ProcWord
returns-in-ProcWord c = rw c.in-ProcWord.is c.declare_proc.ensures

pub returns-in-ExecWord : goal.returns-in-ExecWord
returns-in-ExecWord c = rw c.in-ExecWord.is c.declare_exec.ensures

pub returns-in-End : goal.returns-in-End
returns-in-End c = rw c.in-End.is (declare_no End _ _ _ _ (λ m. refl) (ap (λ y. Err y) c.misfit.ensures))

pub returns-in-Other : goal.returns-in-Other
returns-in-Other c = rw c.in-Other.is (declare_no Other _ _ _ _ (λ m. refl) (ap (λ y. Err y) c.misfit-in-Other.ensures))
