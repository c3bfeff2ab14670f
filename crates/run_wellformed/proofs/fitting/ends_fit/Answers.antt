use mathlib.Core.Path.{sym, ◌∙◌}
use mathlib.Core.List.{map}
use Rattle.run_words.specs.Raw.{raw_in}
use Rattle.run_wellformed.specs.Kept.{outside_end, kept_none, entered_all, entered_stop, entered_then}
use Rattle.run_wellformed.proofs.fitting.ends_fit.Goals as goal

pub enter_processes-requires-clause-kept : goal.enter_processes-requires-clause-kept
enter_processes-requires-clause-kept c = kept_none c.args.text.now c.args.scratch.now

pub returns-else-enter_processes : goal.returns-else-enter_processes
returns-else-enter_processes c =
    entered_all c.args.text.now c.args.scratch.now (entered_stop c.args.text.now c.args.scratch.now (map outside_end (raw_in c.args.run.now).outside)
    c.if-enter_processes.false c.enter_processes.ensures.entered) ∙ sym c.if-enter_processes.false

pub returns-then-enter_processes : goal.returns-then-enter_processes
returns-then-enter_processes c =
    entered_all c.args.text.now c.args.scratch.now (entered_then c.args.text.now c.args.scratch.now c.if-enter_processes.true
    c.enter_processes.ensures.entered c.enter_outside.ensures)
