use mathlib.Core.Path.{◌∙◌}
use Rattle.run_wellformed.specs.Typing.{doing_typed}
use Rattle.run_words.specs.Values.{process_in}
use Rattle.check_contexts.specs.Held.{channels_of}
use Rattle.run_wellformed.specs.OfText.{held_in_lem, pointer_in}
use Rattle.run_wellformed.proofs.typing.process_typed.Goals as goal

pub term_typed-requires : goal.term_typed-requires
term_typed-requires c = (
  c.requires.tables.0,
  held_in_lem c.args.text.now c.args.scratch.now c.requires.tables.1 c.args.p c.requires.process_of.2 c.requires.process_of.1.1 c.requires.process_of.0,
  pointer_in
      c.args.text.now c.args.scratch.now c.requires.tables.1 (c.requires.process_of.0.term c.if-p-eq-FOLDING.false),
)

pub returns-else-p-eq-FOLDING : goal.returns-else-p-eq-FOLDING
unfolding channels_of
returns-else-p-eq-FOLDING c = c.term_typed.ensures ∙ doing_typed c.args.text.now c.args.scratch.now (process_in c.args.p) c.if-p-eq-FOLDING.false
