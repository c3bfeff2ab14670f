use native.Mathlib.Omega.{arith}
use Rattle.check_declarations.specs.Execs.{keeps_none, keeps_uses, keeps_provides}
use Rattle.check_declarations.proofs.execs.keeps_rule.Goals as goal

pub returns-in_default : goal.returns-in_default
returns-in_default c = keeps_none _ _ c.find_process-f.ensures c.in_default.is

pub declared_process-d-requires : goal.declared_process-d-requires
declared_process-d-requires c = (c.requires.0.area, omega (arith, c.find_process-f.ensures.below _ c.in-Some.is, c.requires.0.within))

pub returns-then-d-ne0 : goal.returns-then-d-ne0
returns-then-d-ne0 c =
    keeps_uses _ _ c.find_process-f.ensures c.in-Some.is c.declared_process-d.ensures
    c.if-d-ne0.true

pub entries_other-other-requires : goal.entries_other-other-requires
entries_other-other-requires c = (c.requires.0, (c.declared_process-d.ensures.stands _ c.requires.0 (c.find_process-f.ensures.below _ c.in-Some.is)).provides)

pub returns : goal.returns
returns c =
    keeps_provides _ _ c.find_process-f.ensures c.in-Some.is c.declared_process-d.ensures c.requires.1 c.if-d-ne0.false
    c.entries_other-other.ensures
