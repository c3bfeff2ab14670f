use mathlib.Core.Path.{sym, ◌∙◌}
use native.Mathlib.Omega.{arith}
use Rattle.run_alone.specs.Calling.{entering_start, entering_done, entering_ended, entering_there, entering_type, entering_on}
use Rattle.read_tables.specs.Access.{node_there}
use Rattle.check_contexts.specs.Walks.{walked}
use Rattle.run_alone.proofs.calling.enter_list.Goals as goal

pub returns-in_default-clause-enters_list : goal.returns-in_default-clause-enters_list
returns-in_default-clause-enters_list c =
    let loop = c.loop-left in
    let ended = entering_ended c.args.text.now c.args.scratch.now c.args.h c.args.r c.args.from c.args.side c.args.first c.args.n loop.q
    loop.at loop.i loop.left loop.invariant _ (sym c.next_argument.ensures.value ∙ c.in_default.is) in ended

pub entry-e-requires : goal.entry-e-requires
entry-e-requires c =
    let loop = c.loop-left in (
      c.requires.tables.0.area,
      entering_there c.args.text.now c.args.scratch.now c.args.h c.args.r c.args.from c.args.side c.args.first
          c.args.n loop.q loop.at loop.i loop.left loop.invariant c.loop-left-test.true c.requires.tables.0,
    )

pub overflow_cast-e-in-loop-left : goal.overflow_cast-e-in-loop-left
overflow_cast-e-in-loop-left c =
    let loop = c.loop-left in
    omega (
      arith,
      (node_there c.args.text.now c.args.scratch.now c.requires.tables.0 _
          (entering_type c.args.text.now c.args.scratch.now c.args.h c.args.r c.args.from c.args.side c.args.first c.args.n loop.q
          loop.at loop.i loop.left loop.invariant c.loop-left-test.true c.entry-e.result c.entry-e.ensures)),
    )

pub enter_end-q-requires-clause-held_in : goal.enter_end-q-requires-clause-held_in
enter_end-q-requires-clause-held_in c =
    let entry = c.entry-e in
    let loop_test = c.loop-left-test in
    let loop = c.loop-left in
    let text = c.args.text.now in
    let scratch = c.args.scratch.now in
    let entering-type' = entering_type text scratch c.args.h c.args.r c.args.from c.args.side c.args.first c.args.n
    loop.q loop.at loop.i loop.left loop.invariant loop_test.true entry.result entry.ensures in (c.requires.held_in.0, loop.invariant.fits, entering-type')

pub enter_end-q-requires-clause-count_lt_held_limit : goal.enter_end-q-requires-clause-count_lt_held_limit
enter_end-q-requires-clause-count_lt_held_limit c =
    let entry = c.entry-e in
    let loop_test = c.loop-left-test in
    let loop = c.loop-left in
    let text = c.args.text.now in
    let scratch = c.args.scratch.now in
    let entering-type' = entering_type text scratch c.args.h c.args.r c.args.from c.args.side c.args.first c.args.n
    loop.q loop.at loop.i loop.left loop.invariant loop_test.true entry.result entry.ensures in (
      omega (arith, loop.invariant.few, loop_test.true, c.requires.n_bound.0),
      entry.ensures.at,
      c.requires.n_bound.1,
      (node_there text scratch c.requires.tables.0 _ entering-type'),
    )

pub overflow_add-i : goal.overflow_add-i
overflow_add-i c =
    let loop = c.loop-left in
    omega (
      arith,
      entering_there c.args.text.now c.args.scratch.now c.args.h c.args.r c.args.from c.args.side c.args.first c.args.n
          loop.q loop.at loop.i loop.left loop.invariant c.loop-left-test.true c.requires.tables.0,
    )

pub loop-left-preserved : goal.loop-left-preserved
loop-left-preserved c =
    let entry = c.entry-e in
    let loop = c.loop-left in
    entering_on c.args.text.now c.args.scratch.now c.args.h c.args.r c.args.from c.args.side
    c.args.first c.args.n loop.q loop.at loop.i loop.left loop.invariant c.loop-left-test.true entry.result entry.ensures _ _
    _ (sym c.next_argument.ensures.value ∙ c.in-Name.is) c.enter_end-q.ensures

pub returns-clause-enters_list : goal.returns-clause-enters_list
returns-clause-enters_list c =
    let done = entering_done c.args.text.now c.args.scratch.now c.args.h c.args.r c.args.from c.args.side c.args.first c.args.n c.loop-left.q c.loop-left.at
    c.loop-left.i c.loop-left.left c.loop-left.invariant c.loop-left-test.false in done
