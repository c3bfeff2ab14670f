use mathlib.Core.Path.{◌∙◌, sym}
use native.Mathlib.Omega.{arith}
use Rattle.run_words.specs.Values.{held_length}
use Rattle.run_wellformed.specs.Alike.{matching_none, matching_all}
use Rattle.run_wellformed.proofs.alike.held_match.Goals as goal

pub loop-k-init : goal.loop-k-init
loop-k-init c = matching_none _ _ (held_length c.args.h ∙ sym c.requires.1 ∙ sym (held_length c.args.g))

pub returns : goal.returns
returns c = λ z. matching_all _ _ c.loop-k.invariant (let l = held_length c.args.h in omega (arith, l))
