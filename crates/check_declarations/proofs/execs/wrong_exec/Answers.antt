use Rattle.check_declarations.specs.Execs.{exec_keeps, exec_breaks}
use Rattle.check_declarations.proofs.execs.wrong_exec.Goals as goal

pub returns-then-keeps_rule : goal.returns-then-keeps_rule
returns-then-keeps_rule c = exec_keeps _ _ c.exec_at-at.ensures c.keeps_rule.ensures c.if-keeps_rule.true

pub returns : goal.returns
returns c = exec_breaks _ _ c.exec_at-at.ensures c.keeps_rule.ensures c.if-keeps_rule.false c.lowered.ensures
