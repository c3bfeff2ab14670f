use Rattle.check_accepted.specs.Texts.{tables_in, everywhere_in}
use Rattle.interpreter.specs.Told.{holds_in, formed_in, short_strange, unknown_strange}
use Rattle.interpreter.proofs.inside.holds_run.Goals as goal

pub returns-then-run-lt-RUN_WORDS-clause-err : goal.returns-then-run-lt-RUN_WORDS-clause-err
returns-then-run-lt-RUN_WORDS-clause-err c = rw c.of_call.ensures (short_strange c.requires c.if-run-lt-RUN_WORDS.true)

pub well_formed-requires-clause-tables : goal.well_formed-requires-clause-tables
well_formed-requires-clause-tables c = (tables_in c.requires, everywhere_in c.requires)

pub returns-then-not-well_formed-clause-err : goal.returns-then-not-well_formed-clause-err
returns-then-not-well_formed-clause-err c =
    rw c.of_call-then-not-well_formed.ensures
    (unknown_strange c.requires c.if-run-lt-RUN_WORDS.false (λ f. c.well_formed-2.ensures.no c.if-not-well_formed.true (formed_in c.requires _ f)))

pub returns-clause-ok : goal.returns-clause-ok
returns-clause-ok c = (c.if-run-lt-RUN_WORDS.false, holds_in c.requires _ (c.well_formed-2.ensures.yes c.if-not-well_formed.false))
