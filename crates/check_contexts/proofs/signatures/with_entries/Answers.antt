use native.Mathlib.Omega.{arith}
use Rattle.check_contexts.specs.Signatures.{entry_node, entries_none, entries_on_lem, entries_all}
use Rattle.check_contexts.proofs.signatures.with_entries.Goals as goal

pub loop-k-init : goal.loop-k-init
loop-k-init c = entries_none

pub overflow_add-first : goal.overflow_add-first
overflow_add-first c = omega (arith, (c.requires.1.each _ c.loop-k-test.true).0)

pub entry-e-requires : goal.entry-e-requires
entry-e-requires c = (c.requires.0, (c.requires.1.each _ c.loop-k-test.true).0)

pub overflow_cast-e-in-loop-k : goal.overflow_cast-e-in-loop-k
overflow_cast-e-in-loop-k c = omega (arith, entry_node c.requires.1 c.loop-k-test.true c.entry-e.ensures)

pub with-r-requires-clause-bounded_end : goal.with-r-requires-clause-bounded_end
with-r-requires-clause-bounded_end c = (
  record {
    name = c.entry-e.ensures.at;
    node = entry_node c.requires.1 c.loop-k-test.true c.entry-e.ensures;
    channel = omega (arith, c.requires.2);
  },
  c.requires.3,
)

pub loop-k-preserved : goal.loop-k-preserved
loop-k-preserved c = entries_on_lem c.loop-k.invariant c.entry-e.ensures c.with-r.ensures.result_value c.with-r.ensures.count_value

pub returns : goal.returns
returns c = entries_all c.loop-k.invariant (omega arith) (omega arith)
