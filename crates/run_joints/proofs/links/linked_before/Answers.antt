use native.Mathlib.Omega.{arith}
use Prim.Native.Nat.{◌-◌}
use mathlib.Core.Path.{◌≡◌, ap, ◌∙◌}
use Rattle.run_words.specs.Raw.{raw_in}
use Rattle.calculus.specs.Named.{any_of}
use Rattle.run_joints.specs.Tests.{before, before_none, any_here, any_on}
use Rattle.run_joints.specs.Links.{links_to}
use Rattle.run_joints.proofs.Handlers.{link_is, link_not}
use Rattle.run_joints.proofs.links.linked_before.Goals as goal

pub returns-then-wide-h : goal.returns-then-wide-h
returns-then-wide-h c =
    let a = c.args in
    c.loop-i.invariant ∙ any_here (links_to a.h) (raw_in a.run.now).processes (c.loop-i.i - 1) c.loop-i.i (omega arith) c.load-p.ensures.i_value (link_is a.h c.load-p.result.link (omega arith))

pub loop-i-preserved : goal.loop-i-preserved
loop-i-preserved c =
    let a = c.args in
    c.loop-i.invariant ∙ any_on (links_to a.h) (raw_in a.run.now).processes (c.loop-i.i - 1) c.loop-i.i (omega arith) c.load-p.ensures.i_value
    (link_not a.h c.load-p.result.link (λ e. c.if-wide-h.false (omega arith)))

pub returns : goal.returns
returns c =
    let a = c.args in
    let e : c.loop-i.i ≡ 0 = omega arith in
    c.loop-i.invariant ∙ ap (λ k. any_of (links_to a.h) (before k (raw_in a.run.now).processes)) e ∙ ap (any_of (links_to a.h)) (before_none (raw_in a.run.now).processes)
