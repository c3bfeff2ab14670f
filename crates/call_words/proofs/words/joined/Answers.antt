use native.Mathlib.Omega.{arith}
use mathlib.Core.Path.{refl}
use mathlib.Core.List.{[]}
use Rattle.call_words.specs.Laying.{laid_after}
use Rattle.call_words.proofs.words.joined.Goals as goal

pub returns : goal.returns
returns c =
    let first = c.args.first.now in
    let then = c.args.then.now in
    laid_after first then (laid_after [] first refl refl (omega (arith, c.requires)) c.lay.ensures) refl c.requires c.lay-2.ensures
