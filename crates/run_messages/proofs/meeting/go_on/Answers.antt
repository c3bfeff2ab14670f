use native.Mathlib.Omega.{arith}
use mathlib.Core.Path.{refl}
use Rattle.run_alone.specs.Changes.{runs_on, pointer_small}
use Rattle.run_words.specs.Values.{running_on}
use Rattle.run_messages.proofs.meeting.go_on.Goals as goal

pub overflow_cast-r : goal.overflow_cast-r
overflow_cast-r c = omega (arith, pointer_small c.args.text.now c.args.scratch.now _ c.requires.run_of.tables c.requires.process_in.0)

pub store_both-requires-clause-process_of_2 : goal.store_both-requires-clause-process_of_2
store_both-requires-clause-process_of_2 c =
    let r = c.requires.receiver_in.stands in runs_on c.requires.run_of.tables (running_on c.args.pointer c.args.held c.args.to.process) refl r.is.link
    c.requires.process_in.0 c.requires.process_in.1
