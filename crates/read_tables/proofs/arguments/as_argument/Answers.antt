use borrow.Author.Tests.{eq-eqb, ne_eqb}
use mathlib.Core.Path.{refl}
use Rattle.read_tables.specs.Names.{as_argument}
use Rattle.read_tables.proofs.arguments.as_argument.Goals as goal

pub returns-then-t-eq-NAME : goal.returns-then-t-eq-NAME
unfolding as_argument
returns-then-t-eq-NAME c = rw (eq-eqb _ _ c.if-t-eq-NAME.true) refl

pub returns : goal.returns
unfolding as_argument
returns c = rw (ne_eqb _ _ c.if-t-eq-NAME.false) refl
