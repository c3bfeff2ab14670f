use native.Mathlib.Omega.{arith}
use mathlib.Core.Path.{sym, ◌∙◌, subst}
use Rattle.run_wellformed.specs.Typing.{left_on, left_twice, left_none}
use Rattle.run_words.specs.Values.{end_in}
use Rattle.check_contexts.specs.Held.{Sees}
use Rattle.run_wellformed.proofs.typing.names_distinct.Goals as goal

pub loop-rest-preserved : goal.loop-rest-preserved
loop-rest-preserved c =
    let loop = c.loop-rest in
    left_on c.args.text.now c.args.h loop.rest c.without-rest.result loop.invariant {raw = end_in c.end_at-e.result} c.end_at-e.ensures.k_value c.without-rest.ensures.result_value
    (subst (λ n. Sees c.args.text.now c.without-rest.result n c.find_end.result) c.wide.ensures.value c.find_end.ensures)
    (sym c.is_some.ensures ∙ c.if-is_some.false) (omega (arith, loop.invariant.few, c.without-rest.ensures.count_value))

pub returns-then-is_some : goal.returns-then-is_some
returns-then-is_some c =
    let loop = c.loop-rest in
    left_twice c.args.text.now c.args.h loop.rest c.without-rest.result loop.invariant {raw = end_in c.end_at-e.result} c.end_at-e.ensures.k_value c.without-rest.ensures.result_value
    (subst (λ n. Sees c.args.text.now c.without-rest.result n c.find_end.result) c.wide.ensures.value c.find_end.ensures)
    (sym c.is_some.ensures ∙ c.if-is_some.true)

pub returns : goal.returns
returns c =
    left_none c.args.text.now c.args.h c.loop-rest.rest c.loop-rest.invariant
    (omega (arith, c.loop-rest-test.false))
