use Rattle.check_declarations.specs.Bare.{definition_there, bare_named, bare_other}
use Rattle.check_declarations.proofs.bare.bare_name.Goals as goal

pub type_node-n-requires : goal.type_node-n-requires
type_node-n-requires c = (c.requires.0.area, definition_there _ _ c.requires.0 _ c.requires.1 c.declared_type-t.ensures)

pub returns-then-n-eq-NAMED : goal.returns-then-n-eq-NAMED
returns-then-n-eq-NAMED c =
    bare_named _ _ c.requires.0 _ c.requires.1 c.declared_type-t.ensures c.type_node-n.ensures c.if-n-eq-NAMED.true
    c.lowered.ensures

pub returns : goal.returns
returns c = bare_other _ _ c.requires.0 _ c.requires.1 c.declared_type-t.ensures c.type_node-n.ensures c.if-n-eq-NAMED.false
