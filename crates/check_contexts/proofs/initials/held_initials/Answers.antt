use Prim.Native.Nat.{◌<◌}
use mathlib.Core.Path.{refl, sym, ◌∙◌, ap}
use native.Mathlib.Omega.{arith}
use mathlib.Core.Bool.{true}
use lib.ListN.{get_or, length-set}
use Rattle.notation.specs.Limits.{held_limit}
use Rattle.check_contexts.specs.Initials.{initials_none, initials_all, initials_next, initials_done}
use Rattle.check_contexts.proofs.initials.held_initials.Goals as goal

pub loop-k-init : goal.loop-k-init
loop-k-init c = (refl, initials_none _ _ _)

pub returns-then-not-is_name_byte : goal.returns-then-not-is_name_byte
returns-then-not-is_name_byte c = initials_all _ _ _ c.requires

pub loop-k-preserved : goal.loop-k-preserved
loop-k-preserved c =
    let entry = c.args in
    let byte = c.byte_at-b.ensures ∙ ap (λ i. get_or entry.text.now i 0) c.name_at.ensures in
    let few : c.loop-k.k < held_limit = omega arith in
    let next = initials_next c.loop-k.invariant.1 byte (sym c.is_name_byte.ensures ∙ c.if-not-is_name_byte.false) c.loop-k.invariant.0 few _ _ c.initial.ensures.value refl in
    (length-set c.loop-k.r _ true ∙ c.loop-k.invariant.0, next)

pub returns : goal.returns
returns c = initials_done c.loop-k.invariant.1 _ (omega arith)
