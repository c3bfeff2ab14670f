use mathlib.Core.Path.{ap, sym}
use Rattle.check_declarations.specs.Lowest.{refused_at}
use Rattle.check_declarations.proofs.verdict.refusal.Goals as goal

pub returns-in-Some : goal.returns-in-Some
returns-in-Some c = sym (ap (refused_at _) c.in-Some.is)
