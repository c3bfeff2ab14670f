use native.Mathlib.Omega.{arith}
use Rattle.notation.specs.Token.{k_exec}
use Rattle.notation.specs.Limits.{exec_limit}
use Rattle.read_text.proofs.ScriptPaths.{name_held, exec_no, exec_got}
use Rattle.read_types.proofs.Taking.{step_no, step_at, read_left}
use Rattle.read_text.proofs.scripts.declare_exec.Goals as goal

pub returns-in_err-i : goal.returns-in_err-i
returns-in_err-i c =
    exec_no _ _ _ _ c.requires c.declared_name.ensures
    (step_no _ c.in_err-i.was) (read_left _ _ _ c.from_residual.ensures.1)

pub put_exec-requires : goal.put_exec-requires
put_exec-requires c = grind (arith, name_held k_exec c.args.k.now.execs exec_limit c.declared_name.ensures (step_at _ c.in_ok-i.was))

pub returns : goal.returns
returns c =
    exec_got _ _ _ _ c.requires
    c.declared_name.ensures (step_at _ c.in_ok-i.was)
    c.put_exec.ensures
