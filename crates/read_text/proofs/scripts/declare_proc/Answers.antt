use native.Mathlib.Omega.{arith}
use Rattle.notation.specs.Token.{k_proc}
use Rattle.notation.specs.Limits.{process_limit}
use Rattle.read_text.proofs.ScriptPaths.{name_held, proc_no, proc_provides_no, proc_uses_no, proc_equals_no, proc_body_no, proc_got}
use Rattle.read_types.proofs.Taking.{step_no, step_at, read_no, read_at, read_left}
use Rattle.read_text.proofs.scripts.declare_proc.Goals as goal

pub returns-in_err-i : goal.returns-in_err-i
returns-in_err-i c =
    proc_no _ _ _ _ c.requires c.declared_name.ensures
    (step_no _ c.in_err-i.was) (read_left _ _ _ c.from_residual.ensures.1)

pub returns-in_err-entry_list : goal.returns-in_err-entry_list
returns-in_err-entry_list c =
    proc_provides_no _ _ _ _ c.requires c.declared_name.ensures (step_at _ c.in_ok-i.was)
    c.entry_list.ensures (read_no _ _ c.in_err-entry_list.was) (read_left _ _ _ c.from_residual-in_err-entry_list.ensures.1)

pub returns-in_err-entry_list-2 : goal.returns-in_err-entry_list-2
returns-in_err-entry_list-2 c =
    proc_uses_no _ _ _ _ c.requires c.declared_name.ensures (step_at _ c.in_ok-i.was)
    c.entry_list.ensures (read_at _ _ c.in_ok-entry_list.was)
    c.entry_list-2.ensures (read_no _ _ c.in_err-entry_list-2.was) (read_left _ _ _ c.from_residual-in_err-entry_list-2.ensures.1)

pub returns-in_err-expect : goal.returns-in_err-expect
returns-in_err-expect c =
    proc_equals_no _ _ _ _ c.requires c.declared_name.ensures (step_at _ c.in_ok-i.was)
    c.entry_list.ensures (read_at _ _ c.in_ok-entry_list.was)
    c.entry_list-2.ensures (read_at _ _ c.in_ok-entry_list-2.was) c.expect.ensures
    (step_no _ c.in_err-expect.was) (read_left _ _ _ c.from_residual-in_err-expect.ensures.1)

pub returns-in_err-read_process : goal.returns-in_err-read_process
returns-in_err-read_process c =
    proc_body_no _ _ _ _ c.requires c.declared_name.ensures (step_at _ c.in_ok-i.was)
    c.entry_list.ensures (read_at _ _ c.in_ok-entry_list.was)
    c.entry_list-2.ensures (read_at _ _ c.in_ok-entry_list-2.was) c.expect.ensures
    (step_at _ c.in_ok-expect.was) c.read_process.ensures (read_no _ _ c.in_err-read_process.was) (read_left _ _ _ c.from_residual-in_err-read_process.ensures.1)

pub put_process-requires-clause-area : goal.put_process-requires-clause-area
put_process-requires-clause-area c = grind (arith, name_held k_proc c.args.k.now.processes process_limit c.declared_name.ensures (step_at _ c.in_ok-i.was))

pub returns : goal.returns
returns c =
    proc_got _ _ _ _ c.requires c.declared_name.ensures (step_at _ c.in_ok-i.was)
    c.entry_list.ensures (read_at _ _ c.in_ok-entry_list.was)
    c.entry_list-2.ensures (read_at _ _ c.in_ok-entry_list-2.was)
    c.expect.ensures (step_at _ c.in_ok-expect.was)
    c.read_process.ensures c.pointer-body.ensures.value (read_at _ _ c.in_ok-read_process.was)
    c.put_process.ensures
