use Rattle.check_declarations.specs.Names.{repeat_seen, repeat_new}
use mathlib.Core.Path.{ap, sym}
use Rattle.check_declarations.proofs.names.repeated_name.Goals as goal

pub returns-then-seen_before : goal.returns-then-seen_before
returns-then-seen_before c = repeat_seen _ _ c.seen_before.ensures c.if-seen_before.true (sym (ap (λ x. x.at) (c.name_at-p.ensures.is _))) c.lowered.ensures

pub returns : goal.returns
returns c = repeat_new _ _ c.seen_before.ensures c.if-seen_before.false
