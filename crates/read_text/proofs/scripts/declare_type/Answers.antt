use native.Mathlib.Omega.{arith}
use Rattle.notation.specs.Token.{k_type}
use Rattle.notation.specs.Limits.{type_limit}
use Rattle.read_text.proofs.ScriptPaths.{name_held, type_no, type_equals_no, type_type_no, type_got}
use Rattle.read_types.proofs.Taking.{step_no, step_at, read_no, read_at, read_left}
use Rattle.read_text.proofs.scripts.declare_type.Goals as goal

pub returns-in_err-i : goal.returns-in_err-i
returns-in_err-i c =
    type_no _ _ _ _ c.requires c.declared_name.ensures
    (step_no _ c.in_err-i.was) (read_left _ _ _ c.from_residual.ensures.1)

pub returns-in_err-expect : goal.returns-in_err-expect
returns-in_err-expect c =
    type_equals_no _ _ _ _ c.requires
    c.declared_name.ensures (step_at _ c.in_ok-i.was)
    c.expect.ensures
    (step_no _ c.in_err-expect.was) (read_left _ _ _ c.from_residual-in_err-expect.ensures.1)

pub returns-in_err-read_type : goal.returns-in_err-read_type
returns-in_err-read_type c =
    type_type_no _ _ _ _ c.requires c.declared_name.ensures (step_at _ c.in_ok-i.was)
    c.expect.ensures
    (step_at _ c.in_ok-expect.was) c.read_type.ensures (read_no _ _ c.in_err-read_type.was) (read_left _ _ _ c.from_residual-in_err-read_type.ensures.1)

pub put_type-requires : goal.put_type-requires
put_type-requires c = grind (arith, name_held k_type c.args.k.now.types type_limit c.declared_name.ensures (step_at _ c.in_ok-i.was))

pub returns : goal.returns
returns c =
    type_got _ _ _ _ c.requires c.declared_name.ensures (step_at _ c.in_ok-i.was)
    c.expect.ensures (step_at _ c.in_ok-expect.was)
    c.read_type.ensures (read_at _ _ c.in_ok-read_type.was) c.put_type.ensures
