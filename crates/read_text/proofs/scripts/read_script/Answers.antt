use native.Mathlib.Omega.{arith}
use Rattle.read_text.proofs.Turning.{through_start}
use Rattle.read_text.proofs.ScriptPaths.{script_end, script_no, script_on}
use Rattle.read_types.proofs.Taking.{read_no, read_at, read_left}
use Rattle.read_text.proofs.scripts.read_script.Goals as goal

pub loop-kind-init : goal.loop-kind-init
loop-kind-init c = (through_start c.requires.0, c.requires.1)

pub returns-then-kind-eq-END : goal.returns-then-kind-eq-END
returns-then-kind-eq-END c = c.loop-kind.invariant.0.whole _ _ (script_end _ _ _ _ c.loop-kind.invariant.0.room c.loop-kind.invariant.1 c.kind_at-kind.ensures c.if-kind-eq-END.true)

pub returns-in_err-declare : goal.returns-in_err-declare
returns-in_err-declare c =
    c.loop-kind.invariant.0.whole _ _ (script_no _ _ _ _ c.loop-kind.invariant.0.room c.loop-kind.invariant.1 c.kind_at-kind.ensures c.if-kind-eq-END.false
    c.declaration_head.ensures c.declare.ensures (read_no _ _ c.in_err-declare.was) (read_left _ _ _ c.from_residual.ensures.1))

pub loop-kind-preserved : goal.loop-kind-preserved
loop-kind-preserved c =
    script_on _ _ _ _ c.loop-kind.invariant.0.room c.loop-kind.invariant.1 c.kind_at-kind.ensures c.if-kind-eq-END.false
    c.declaration_head.ensures c.declare.ensures c.loop-kind.invariant.0 (read_at _ _ c.in_ok-declare.was)
