use mathlib.Core.Path.{sym, ap}
use Rattle.interpreter.specs.Stepping.{stepped_by}
use Rattle.interpreter.proofs.inside.answer_of.Goals as goal

pub returns-in-Carried : goal.returns-in-Carried
returns-in-Carried c = sym (ap stepped_by c.in-Carried.is)

pub returns-in-Uncaught : goal.returns-in-Uncaught
returns-in-Uncaught c = sym (ap stepped_by c.in-Uncaught.is)

pub returns-in-NotOpen : goal.returns-in-NotOpen
returns-in-NotOpen c = rw c.of_call.ensures (sym (ap stepped_by c.in-NotOpen.is))

pub returns-in-Lacking : goal.returns-in-Lacking
returns-in-Lacking c = rw c.of_call-in-Lacking.ensures (sym (ap stepped_by c.in-Lacking.is))
