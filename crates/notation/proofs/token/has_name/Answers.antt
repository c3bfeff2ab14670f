use borrow.Author.Rules.{rules}
use native.Mathlib.Omega.{arith}
use mathlib.Core.Path.{ap, ◌∙◌}
use mathlib.Core.Bool.{not}
use Rattle.notation.specs.Bytes.{name_byte}
use Rattle.notation.proofs.Names.{name_fits, alike_none, alike_more, alike_all, other_past, other_short, other_byte}
use Rattle.notation.proofs.token.has_name.Goals as goal

pub returns-then-text-there : goal.returns-then-text-there
returns-then-text-there c = other_past c.args.text.now c.args.at c.args.there c.args.n c.requires c.if-text-there.true

pub returns-then-text-there-2 : goal.returns-then-text-there-2
returns-then-text-there-2 c = other_short c.args.text.now c.args.at c.args.there c.args.n c.requires c.if-text-there-2.true

pub loop-k-init : goal.loop-k-init
loop-k-init c = alike_none _ _ _ _

pub overflow_add-at : goal.overflow_add-at
overflow_add-at c = omega (arith, name_fits c.args.text.now c.args.at, c.requires)

pub bounds-text-at : goal.bounds-text-at
bounds-text-at c = omega (arith, name_fits c.args.text.now c.args.at, c.requires)

pub returns-then-text-at : goal.returns-then-text-at
returns-then-text-at c = other_byte c.args.text.now c.args.at c.args.there c.args.n c.requires _ (omega arith) c.if-text-at.true

pub loop-k-preserved : goal.loop-k-preserved
loop-k-preserved c = alike_more c.loop-k.invariant (search rules) c.if-text-at.false

pub returns : goal.returns
returns c = ap not (c.is_name_byte.ensures ∙ ap name_byte c.byte_at.ensures) ∙ alike_all c.args.text.now c.args.at c.args.there c.args.n c.requires c.loop-k.invariant (search rules)
