use native.Mathlib.Omega.{arith}
use Rattle.run_steps.specs.Starting.{execs_many, exec_name}
use Rattle.check_accepted.specs.Texts.{tables_in}
use Rattle.interpreter.specs.Naming.{place_none, place_told}
use Rattle.interpreter.proofs.names.place_in.Goals as goal

pub exec_count-requires : goal.exec_count-requires
exec_count-requires c = (tables_in c.requires).area

pub returns-then-exec_count-i : goal.returns-then-exec_count-i
returns-then-exec_count-i c =
    rw c.of_call.ensures (place_none c.requires (omega (arith, execs_many c.args.text.now c.args.tables.now, c.exec_count.ensures, c.if-exec_count-i.true)))

pub exec_at-requires : goal.exec_at-requires
exec_at-requires c = (
  (tables_in c.requires).area,
  omega (arith, (tables_in c.requires).within, c.exec_count.ensures, c.if-exec_count-i.false),
)

pub returns : goal.returns
returns c =
    place_told c.requires
    (exec_name c.args.text.now c.args.tables.now c.args.line _ (omega (arith, c.exec_count.ensures, c.if-exec_count-i.false)) c.exec_at.ensures)
