use Rattle.check_terms.specs.Next.{context_in}
use Rattle.check_processes.specs.Turns.{turned_ended}
use Rattle.check_processes.specs.Nodes.{end_at}
use Rattle.check_processes.proofs.turns.check_last.Goals as goal

pub check_end-requires-clause-tables : goal.check_end-requires-clause-tables
check_end-requires-clause-tables c = (c.requires.0, c.requires.1)

pub check_end-requires-clause-call_at : goal.check_end-requires-clause-call_at
check_end-requires-clause-call_at c = (end_at _ _ _ c.args.n c.requires.2 c.requires.3 c.requires.4).0

pub returns : goal.returns
returns c =
    let ends = end_at _ _ _ c.args.n c.requires.2 c.requires.3 c.requires.4 in
    rw c.ended.ensures (turned_ended _ _ c.check_end.ensures (ends.1 (context_in c.args.text.now c.args.scratch.now c.args.h)))
