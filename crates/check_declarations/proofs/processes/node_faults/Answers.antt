use Rattle.check_declarations.specs.Listed.{branches_fit}
use Rattle.check_declarations.specs.ProcessFaults.{spawn_type, recv_branches, own_type_lem, own_labels, own_call, own_none}
use Rattle.check_declarations.proofs.processes.node_faults.Goals as goal

pub type_faults-requires : goal.type_faults-requires
type_faults-requires c = (c.requires.0, spawn_type c.requires.0 c.requires.1.1 c.requires.1.2 c.requires.1.3 c.if-n-eq-SPAWN.true)

pub returns-then-n-eq-SPAWN : goal.returns-then-n-eq-SPAWN
returns-then-n-eq-SPAWN c = own_type_lem _ _ c.args.pass _ c.if-n-eq-SPAWN.true c.type_faults.ensures

pub list_faults-requires : goal.list_faults-requires
list_faults-requires c = (c.requires.0, branches_fit _ _ c.requires.0 _ _ (recv_branches c.requires.0 c.requires.1.1 c.requires.1.2 c.requires.1.3 c.if-n-eq-RECV_LABEL.true))

pub returns-then-n-eq-RECV_LABEL : goal.returns-then-n-eq-RECV_LABEL
returns-then-n-eq-RECV_LABEL c = own_labels _ _ c.args.pass _ c.if-n-eq-RECV_LABEL.true c.list_faults.ensures

pub returns-then-n-eq-CALL : goal.returns-then-n-eq-CALL
returns-then-n-eq-CALL c = own_call _ _ c.args.pass _ c.if-n-eq-CALL.true c.call_faults.ensures

pub returns : goal.returns
returns c =
    own_none _ _ c.args.pass _ c.if-n-eq-SPAWN.false c.if-n-eq-RECV_LABEL.false
    c.if-n-eq-CALL.false
