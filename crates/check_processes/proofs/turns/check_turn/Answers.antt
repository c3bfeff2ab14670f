use Rattle.check_processes.specs.Process.{node_in}
use Rattle.check_processes.proofs.turns.check_turn.Goals as goal

pub check_empty-requires : goal.check_empty-requires
check_empty-requires c = (c.requires.0, c.requires.2, c.if-p-ge-PROCESS_TERMS.true)

pub returns-then-p-ge-PROCESS_TERMS : goal.returns-then-p-ge-PROCESS_TERMS
returns-then-p-ge-PROCESS_TERMS c = c.check_empty.ensures

pub term_node-n-requires : goal.term_node-n-requires
term_node-n-requires c = (c.requires.0.area, c.if-p-ge-PROCESS_TERMS.false)

pub check_term-requires : goal.check_term-requires
check_term-requires c =
    let e = c.args in
    (c.requires.0, c.requires.1, node_in e.text.now e.scratch.now e.p _ c.requires.0 c.requires.2 c.if-p-ge-PROCESS_TERMS.false c.term_node-n.ensures)

pub returns : goal.returns
returns c = c.check_term.ensures
