use native.Mathlib.Omega.{arith}
use Rattle.check_contexts.specs.Signatures.{entry_node}
use Rattle.run_steps.specs.Starting.{used_none, used_many, used_on, used_all}
use Rattle.run_steps.proofs.starting.use_channels.Goals as goal

pub loop-number-init : goal.loop-number-init
loop-number-init c = used_none c.requires.run_words_in_bounds.1

pub overflow_add-first : goal.overflow_add-first
overflow_add-first c = omega (arith, (c.requires.area.1.each _ c.loop-number-test.true).0)

pub entry-e-requires : goal.entry-e-requires
entry-e-requires c = (c.requires.area.0, (c.requires.area.1.each _ c.loop-number-test.true).0)

pub overflow_cast-number : goal.overflow_cast-number
overflow_cast-number c = omega (arith, c.loop-number-test.true, c.requires.run_words_in_bounds.2)

pub overflow_cast-e : goal.overflow_cast-e
overflow_cast-e c = omega (arith, entry_node c.requires.area.1 c.loop-number-test.true c.entry-e.ensures)

pub overflow_cast-number-in-loop-number : goal.overflow_cast-number-in-loop-number
overflow_cast-number-in-loop-number c = omega (arith, c.loop-number-test.true, c.requires.run_words_in_bounds.2)

pub append_outside-requires-clause-run_words_in_bounds : goal.append_outside-requires-clause-run_words_in_bounds
append_outside-requires-clause-run_words_in_bounds c =
    let loop = c.loop-number in omega (arith, c.requires.run_words_in_bounds.0, loop.invariant.is.long)

pub append_outside-requires-clause-bounded : goal.append_outside-requires-clause-bounded
append_outside-requires-clause-bounded c =
    let loop = c.loop-number in loop.invariant.bounds

pub append_outside-requires-clause-run_len_bound : goal.append_outside-requires-clause-run_len_bound
append_outside-requires-clause-run_len_bound c =
    let loop_test = c.loop-number-test in
    let loop = c.loop-number in omega (arith, c.requires.run_words_in_bounds.2, loop_test.true, used_many loop.invariant)

pub append_outside-requires-clause-bounded_outside : goal.append_outside-requires-clause-bounded_outside
append_outside-requires-clause-bounded_outside c =
    let loop_test = c.loop-number-test in
    record {
      number = omega (arith, loop_test.true, c.requires.run_words_in_bounds.2);
      node = entry_node c.requires.area.1 loop_test.true c.entry-e.ensures;
      channel =
          omega (arith, loop_test.true, c.requires.run_words_in_bounds.2);
    }

pub loop-number-preserved : goal.loop-number-preserved
loop-number-preserved c =
    used_on c.loop-number.invariant c.loop-number-test.true c.entry-e.ensures c.append_outside.ensures.changed
    c.append_outside.ensures.still_bounded

pub returns-clause-changed : goal.returns-clause-changed
returns-clause-changed c = used_all c.loop-number.invariant c.loop-number-test.false

pub returns-clause-bounded : goal.returns-clause-bounded
returns-clause-bounded c = c.loop-number.invariant.bounds
