use mathlib.Core.Path.{refl, sym, ◌∙◌, ap}
use native.Mathlib.Omega.{arith}
use Rattle.calculus.specs.Verdict.{verdict_of}
use Rattle.check_text.specs.Bodies.{checking_start, checking_on, checking_stops, checking_end}
use Rattle.check_text.proofs.bodies.check_bodies.Goals as goal

pub process_count-n-requires : goal.process_count-n-requires
process_count-n-requires c = c.requires.area

pub loop-i-init : goal.loop-i-init
loop-i-init c = checking_start _ _ _ c.process_count-n.ensures

pub check_body-requires : goal.check_body-requires
check_body-requires c = (c.requires, omega (arith, c.loop-i-test.true, c.process_count-n.ensures))

pub returns-in_err-check_body : goal.returns-in_err-check_body
returns-in_err-check_body c =
    let loop = c.loop-i in
    checking_stops c.args.text.now c.args.scratch.now _ loop.i loop.invariant c.loop-i-test.true _ c.from_residual.ensures.1
    (sym c.check_body.ensures ∙ ap verdict_of c.in_err-check_body.was)

pub loop-i-preserved : goal.loop-i-preserved
loop-i-preserved c =
    let loop = c.loop-i in
    checking_on c.args.text.now c.args.scratch.now _ loop.i loop.invariant c.loop-i-test.true
    (sym c.check_body.ensures ∙ ap verdict_of c.in_ok-check_body.was) _ refl

pub returns : goal.returns
returns c = checking_end c.args.text.now c.args.scratch.now _ c.loop-i.i c.loop-i.invariant c.loop-i-test.false
