use native.Mathlib.Omega.{arith}
use mathlib.Core.Path.{◌≡◌, refl, sym, ap, ◌∙◌}
use mathlib.Core.Bool.{false, false≢true}
use Rattle.std.specs.Prelude.{Some, None, is_some}
use Rattle.run_words.specs.Operations.{Holder}
use Rattle.run_words.specs.Raw.{raw_in, side_of}
use Rattle.run_words.specs.Near.{near_found, around_all}
use Rattle.run_words.proofs.far.holder_near.Goals as goal

nobody : (h : Holder) → false ≡ is_some h → h ≡ None
nobody None e = refl
nobody (Some p) e = absurd (false≢true e)

pub returns-then-is_some : goal.returns-then-is_some
returns-then-is_some c =
    c.holder_at-up.ensures ∙ near_found c.args.channel (side_of c.args.side) (raw_in c.args.run.now).processes c.requires.place_in_bounds.1 _ (ap is_some (sym c.holder_at-up.ensures) ∙ sym c.if-is_some.ensures)

pub returns-then-is_some-2 : goal.returns-then-is_some-2
returns-then-is_some-2 c =
    c.holder_at-down.ensures ∙ near_found c.args.channel (side_of c.args.side) (raw_in c.args.run.now).processes c.requires.place_in_bounds.1 _ (ap is_some (sym c.holder_at-down.ensures) ∙ sym c.if-is_some-2.ensures)

pub returns : goal.returns
returns c = sym (around_all c.loop-d.invariant c.requires.place_in_bounds.0 (omega arith))
