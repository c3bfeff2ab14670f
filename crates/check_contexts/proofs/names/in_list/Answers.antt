use native.Mathlib.Omega.{arith}
use mathlib.Core.Path.{refl, sym, ◌∙◌}
use Rattle.notation.specs.Token.{name_at}
use Rattle.check_contexts.specs.Walks.{walk_start, unmet_on, unmet_met, unmet_end, forward_name}
use Rattle.check_contexts.proofs.names.in_list.Goals as goal

pub loop-there-init : goal.loop-there-init
loop-there-init c = walk_start _ _ _ (λ xs. refl)

pub has_name-requires : goal.has_name-requires
has_name-requires c = c.name_length-bytes.ensures

pub returns-then-has_name : goal.returns-then-has_name
returns-then-has_name c =
    unmet_met c.loop-there.invariant _ _
    (sym c.next_argument.ensures.value ∙ c.in-Name.is) (sym c.has_name.ensures ∙ c.if-has_name.true)

pub loop-there-smaller : goal.loop-there-smaller
loop-there-smaller c = omega (arith, forward_name _ _ _ _ _ c.next_argument.ensures.forward c.in-Name.is)

pub loop-there-preserved : goal.loop-there-preserved
loop-there-preserved c =
    unmet_on (name_at c.args.text.now c.args.at) c.loop-there.invariant _ _
    (sym c.next_argument.ensures.value ∙ c.in-Name.is) (sym c.has_name.ensures ∙ c.if-has_name.false)

pub returns : goal.returns
returns c = unmet_end c.loop-there.invariant _ (sym c.next_argument.ensures.value ∙ c.in_default.is)
