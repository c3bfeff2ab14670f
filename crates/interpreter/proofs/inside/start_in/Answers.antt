use mathlib.Core.Path.{refl}
use Rattle.interpreter.specs.Entries.{to_start}
use Rattle.check_accepted.specs.Texts.{tables_in}
use Rattle.interpreter.specs.Told.{small_in, too_short, start_told}
use Rattle.interpreter.proofs.inside.start_in.Goals as goal

pub returns-then-run-lt-RUN_WORDS : goal.returns-then-run-lt-RUN_WORDS
returns-then-run-lt-RUN_WORDS c = rw c.of_call.ensures (too_short c.requires (to_start _) refl c.if-run-lt-RUN_WORDS.true)

pub begin_line-requires-clause-tables : goal.begin_line-requires-clause-tables
begin_line-requires-clause-tables c = tables_in c.requires

pub begin_line-requires-clause-small_signatures : goal.begin_line-requires-clause-small_signatures
begin_line-requires-clause-small_signatures c = small_in c.requires

pub returns-then-not-begin_line : goal.returns-then-not-begin_line
returns-then-not-begin_line c =
    rw c.of_call-then-not-begin_line.ensures (start_told c.requires c.if-run-lt-RUN_WORDS.false c.begin_line.ensures c.if-not-begin_line.true)

pub returns : goal.returns
returns c = start_told c.requires c.if-run-lt-RUN_WORDS.false c.begin_line.ensures c.if-not-begin_line.false
