use Rattle.check_types.specs.Acting.{stands_itself, stands_declared, stands_undeclared}
use Rattle.check_types.proofs.acting.standing.Goals as goal

pub returns-then-n-ne-NAMED : goal.returns-then-n-ne-NAMED
returns-then-n-ne-NAMED c = stands_itself _ _ _ c.type_node-n.ensures _ c.requires.0 c.requires.1 c.if-n-ne-NAMED.true

pub returns-in-Some : goal.returns-in-Some
returns-in-Some c =
    stands_declared _ _ _ c.type_node-n.ensures _ c.requires.0 c.requires.1 c.if-n-ne-NAMED.false c.find_type.ensures _ _
    c.in-Some.is c.declared_type.ensures

pub returns-in-None : goal.returns-in-None
returns-in-None c =
    stands_undeclared _ _ _ c.type_node-n.ensures _ c.requires.0 c.requires.1 c.if-n-ne-NAMED.false
    c.find_type.ensures c.in-None.is
