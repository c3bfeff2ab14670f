use mathlib.Core.Path.{refl, sym, ap, ◌∙◌}
use mathlib.Core.Bool.{not}
use Rattle.notation.specs.Token.{skip}
use Rattle.notation.proofs.Scans.{scan_hit, scan_next, scan_end}
use borrow.Author.Rules.{rules}
use Rattle.notation.proofs.token.skip.Goals as goal

pub loop-i-init : goal.loop-i-init
loop-i-init c = record { left = refl }

pub loop-i-preserved : goal.loop-i-preserved
loop-i-preserved c = scan_next c.loop-i.invariant 0 (search rules) (ap not (sym c.is_blank.ensures ∙ c.if-is_blank.true))

pub returns-else-is_blank : goal.returns-else-is_blank
unfolding skip
returns-else-is_blank c = scan_hit c.loop-i.invariant 0 (search rules) (ap not (sym c.is_blank.ensures ∙ c.if-is_blank.false))

pub returns-after-loop-i : goal.returns-after-loop-i
unfolding skip
returns-after-loop-i c = scan_end c.loop-i.invariant (search rules)
