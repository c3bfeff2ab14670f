use native.Mathlib.Omega.{arith}
use mathlib.Core.Path.{sym, ◌∙◌, ap}
use mathlib.Core.Bool.{not}
use Rattle.run_words.specs.Raw.{raw_in}
use Rattle.run_joints.specs.Tests.{each_passed, each_failed, each_end, all_from_lem}
use Rattle.run_alone.specs.Changes.{loaded}
use Rattle.run_wellformed.specs.Halting.{halts_in, some_found, none_found}
use Rattle.run_wellformed.proofs.halting.some_halts.Goals as goal

pub halts-requires-clause-process_of : goal.halts-requires-clause-process_of
halts-requires-clause-process_of c = (loaded _ _ c.load.result c.requires (c.load.ensures.i_value, (c.load.ensures.bounded_process, c.load.ensures.count_le_held_limit))).is

pub returns-then-halts : goal.returns-then-halts
returns-then-halts c =
    let a = c.args in
    let processes = (raw_in a.run.now).processes in
    let halts = halts_in a.text.now a.scratch.now (raw_in a.run.now) in
    some_found halts processes
    (all_from_lem (λ q. not (halts q)) 0 processes ∙ each_failed c.loop-i.invariant c.load.ensures.i_value (ap not (sym c.halts.ensures ∙ c.if-halts.true)))

pub loop-i-preserved : goal.loop-i-preserved
loop-i-preserved c = each_passed c.loop-i.invariant c.load.ensures.i_value (ap not (sym c.halts.ensures ∙ c.if-halts.false))

pub returns : goal.returns
returns c =
    let a = c.args in
    let processes = (raw_in a.run.now).processes in
    let halts = halts_in a.text.now a.scratch.now (raw_in a.run.now) in
    none_found halts processes (all_from_lem (λ q. not (halts q)) 0 processes ∙ each_end c.loop-i.invariant (omega arith))
