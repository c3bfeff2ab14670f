use borrow.Author.Rules.{rules}
use mathlib.Core.Path.{refl, ap, ◌∙◌}
use Rattle.notation.specs.Bytes.{letter}
use Rattle.notation.specs.Token.{symbol}
use Rattle.notation.proofs.Symbols.{sought_from, sought_end, word_short, word_long, word_bytes, word_begins}
use Rattle.notation.proofs.token.word_kind.Goals as goal

pub returns-then-n-lt3 : goal.returns-then-n-lt3
returns-then-n-lt3 c = word_short c.args.text.now c.args.i c.args.n c.requires.0 c.requires.1 c.if-n-lt3.true

pub returns-then-n-gt6 : goal.returns-then-n-gt6
returns-then-n-gt6 c = word_long c.args.text.now c.args.i c.args.n c.requires.0 c.requires.1 c.if-n-gt6.true

pub first_word-k-requires : goal.first_word-k-requires
first_word-k-requires c = ap letter c.byte_at.ensures ∙ c.requires.0

pub word_from-requires : goal.word_from-requires
word_from-requires c =
    let bytes = c.part.ensures ∙ word_bytes c.args.text.now c.args.i c.args.n c.requires.0 c.requires.1 in
    word_begins c.args.text.now c.args.i c.args.n c.requires.0 c.requires.1 _ _ _ bytes c.byte_at.ensures c.first_word-k.ensures

pub returns-then-k-le-CATCH : goal.returns-then-k-le-CATCH
returns-then-k-le-CATCH c = c.word_from.ensures ∙ ap symbol (c.part.ensures ∙ word_bytes c.args.text.now c.args.i c.args.n c.requires.0 c.requires.1)

pub returns : goal.returns
returns c =
    let begins = word_begins c.args.text.now c.args.i c.args.n c.requires.0 c.requires.1 _ _ _ refl c.byte_at.ensures c.first_word-k.ensures in
    sought_end _ _ (sought_from _ _ begins.1) begins.0 (search rules)
