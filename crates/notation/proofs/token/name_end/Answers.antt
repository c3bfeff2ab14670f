use mathlib.Core.Path.{refl, sym, ap, ◌∙◌}
use mathlib.Core.Bool.{not}
use Rattle.notation.specs.Token.{name_end}
use Rattle.notation.proofs.Scans.{scan_hit, scan_next, scan_end}
use borrow.Author.Rules.{rules}
use Rattle.notation.proofs.token.name_end.Goals as goal

pub loop-i-init : goal.loop-i-init
loop-i-init c = (search rules, record { left = refl })

pub loop-i-preserved : goal.loop-i-preserved
loop-i-preserved c = (search rules, scan_next c.loop-i.invariant.1 0 (search rules) (ap not (sym c.is_name_byte.ensures ∙ c.if-is_name_byte.true)))

pub returns-else-is_name_byte-clause-value : goal.returns-else-is_name_byte-clause-value
unfolding name_end
returns-else-is_name_byte-clause-value c = scan_hit c.loop-i.invariant.1 0 (search rules) (ap not (sym c.is_name_byte.ensures ∙ c.if-is_name_byte.false))

pub returns-after-loop-i-clause-value : goal.returns-after-loop-i-clause-value
unfolding name_end
returns-after-loop-i-clause-value c = scan_end c.loop-i.invariant.1 (search rules)
