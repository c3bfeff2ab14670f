use borrow.Author.Rules.{rules}
use mathlib.Core.Path.{refl, sym, ◌∙◌}
use native.Mathlib.Omega.{arith}
use Rattle.notation.specs.Token.{symbols}
use Rattle.notation.proofs.Symbols.{sought_from, sought_next, sought_hit, sought_end}
use Rattle.notation.proofs.token.word_from.Goals as goal

pub loop-k-init : goal.loop-k-init
loop-k-init c = sought_from c.args.w.now _ c.requires.1

pub is_word-requires : goal.is_word-requires
unfolding symbols
is_word-requires c = (search rules, refl)

pub returns-then-is_word : goal.returns-then-is_word
returns-then-is_word c =
    sought_hit c.args.w.now _ c.loop-k.invariant (search rules)
    (sym c.is_word.ensures ∙ c.if-is_word.true)

pub loop-k-smaller : goal.loop-k-smaller
loop-k-smaller c = omega (arith, c.next_word-k.ensures.lower_bound)

pub loop-k-preserved : goal.loop-k-preserved
loop-k-preserved c =
    sought_next c.args.w.now _ c.loop-k.invariant _ (search rules)
    (sym c.is_word.ensures ∙ c.if-is_word.false) c.next_word-k.ensures.value

pub returns : goal.returns
returns c = sought_end c.args.w.now _ c.loop-k.invariant c.requires.0 (search rules)
