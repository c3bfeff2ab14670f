use mathlib.Core.Path.{refl, sym, ◌∙◌}
use borrow.Author.Tests.{eq-eqb, ne_eqb}
use Rattle.run_words.specs.Raw.{raw_in}
use Rattle.run_words.specs.Operations.{on_channel, outside_at}
use Rattle.run_words.proofs.Searches.{stops_here, goes_on_lem}
use Rattle.run_words.proofs.outside.find_outside.Goals as goal

pub loop-k-init : goal.loop-k-init
unfolding outside_at
loop-k-init c = refl

pub returns-then-channel-o : goal.returns-then-channel-o
returns-then-channel-o c =
    let a = c.args in
    sym (c.loop-k.invariant ∙ stops_here (on_channel a.channel) (raw_in a.run.now).outside c.loop-k.k c.outside_at-o.ensures.k_value (eq-eqb _ _ c.if-channel-o.true))

pub loop-k-preserved : goal.loop-k-preserved
loop-k-preserved c =
    let a = c.args in
    c.loop-k.invariant ∙ goes_on_lem (on_channel a.channel) (raw_in a.run.now).outside c.loop-k.k c.outside_at-o.ensures.k_value (ne_eqb _ _ c.if-channel-o.false)
