use mathlib.Core.Path.{◌∙◌, ap}
use mathlib.Core.Bool.{false}
use Prim.Native.Nat.{◌%◌}
use lib.ListN.{get_or}
use Rattle.check_contexts.specs.Initials.{initial_radix}
use Rattle.check_contexts.proofs.initials.may_be_held.Goals as goal

pub returns : goal.returns
returns c = ap (λ i. get_or c.args.initials.now i false) (c.initial.ensures.value ∙ ap (λ b. b % initial_radix) c.byte_at.ensures)
