use native.Mathlib.Omega.{arith}
use Prim.Native.Nat.{◌+◌, ◌*◌}
use mathlib.Core.Path.{◌≡◌, refl, sym, ap, ◌∙◌}
use lib.ListN.{get_or}
use Rattle.run_words.specs.Raw.{places_at, place_words}
use Rattle.run_words.proofs.Rows.{moved_at}
use Rattle.run_words.specs.SliceLaws.{counted}
use Rattle.run_words.proofs.Shifts.{link_few, relinked_words}
use Rattle.run_words.proofs.places.relink.Goals as goal

pub moved_link-requires : goal.moved_link-requires
moved_link-requires c =
    let e : places_at + place_words * c.loop-k.k + 1 ≡ places_at + 1 + place_words * c.loop-k.k = omega arith in
    let l = link_few c.args.run.now c.loop-k.k c.requires.bounded (omega arith) in
    let w : get_or c.loop-k.run (places_at + 1 + place_words * c.loop-k.k) 0 ≡ get_or c.args.run.now (places_at + place_words * c.loop-k.k + 1) 0 =
    c.loop-k.invariant.above (places_at + 1 + place_words * c.loop-k.k) (omega arith) ∙ ap (λ m. get_or c.args.run.now m 0) (sym e) in
    (omega arith, omega arith)

pub returns : goal.returns
returns c =
    let ws = c.args.run.now in
    relinked_words ws _ c.args.up c.args.i (get_or ws 0 0) c.requires.bounded refl (moved_at _ _ _ _ _ _ _ c.loop-k.invariant refl (omega (arith, counted ws)))
