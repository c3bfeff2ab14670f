use native.Mathlib.Omega.{arith}
use Rattle.run_wellformed.specs.Halting.{runs_nothing, runs_label, runs_other}
use Rattle.run_wellformed.proofs.halting.halts.Goals as goal

pub returns-in_default : goal.returns-in_default
returns-in_default c = runs_nothing c.args.text.now c.args.scratch.now c.args.run.now c.args.p c.requires.run_of c.requires.process_of c.in_default.ensures

pub returns-in_default-kind : goal.returns-in_default-kind
returns-in_default-kind c =
    runs_other c.args.text.now c.args.scratch.now c.args.run.now c.args.p c.requires.run_of c.requires.process_of c.in-Some.n c.in-Some.ensures (λ e. omega arith) (λ e. omega arith)

pub returns-in-3 : goal.returns-in-3
returns-in-3 c = runs_label c.args.text.now c.args.scratch.now c.args.run.now c.args.p c.requires.run_of c.requires.process_of c.in-Some.n c.in-Some.ensures c.in-3.is c.nobody_takes.ensures
