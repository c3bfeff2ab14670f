use Rattle.run_wellformed.specs.Entering.{key_twice, far_differs, key_kept}
use Rattle.run_wellformed.proofs.fitting.enter.Goals as goal

pub returns-then-seen-here-ne0-clause-entered : goal.returns-then-seen-here-ne0-clause-entered
returns-then-seen-here-ne0-clause-entered c =
    key_twice c.args.text.now c.args.scratch.now c.args.seen.now c.args.e c.requires.node.1 c.requires.node.2 c.place-here.result
    c.place-here.ensures.value c.if-seen-here-ne0.true

pub returns-then-not-far_same-clause-entered : goal.returns-then-not-far_same-clause-entered
returns-then-not-far_same-clause-entered c =
    far_differs c.args.text.now c.args.scratch.now c.args.seen.now c.args.e c.requires.node.1 c.requires.node.2 c.place-here.result c.place-here.ensures.value
    c.if-seen-here-ne0.false c.place-there.result c.place-there.ensures.value c.far_same.ensures c.if-not-far_same.true

pub returns-clause-entered : goal.returns-clause-entered
returns-clause-entered c =
    key_kept c.args.text.now c.args.scratch.now c.args.seen.now c.args.e c.requires.node.1 c.requires.node.2 c.place-here.result c.place-here.ensures.value
    c.if-seen-here-ne0.false c.place-there.result c.place-there.ensures.value c.far_same.ensures c.if-not-far_same.false c.requires.kept.long
