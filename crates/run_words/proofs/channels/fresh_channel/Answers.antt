use mathlib.Core.Path.{◌∙◌}
use borrow.Author.Rules.{rules}
use borrow.Author.Tests.{tests}
use mathlib.Core.Bool.{not}
use Rattle.std.proofs.lemmas.Iterator.{YieldsList-from_slice}
use Rattle.std.proofs.lemmas.Iterator.Search.{position_from_yields_List}
use Rattle.run_words.specs.Operations.{fresh_channel}
use Rattle.run_words.proofs.Marks.{free_found}
use Rattle.run_words.proofs.channels.fresh_channel.Goals as goal

pub returns : goal.returns
unfolding fresh_channel
returns c =
    position_from_yields_List not _ _ _ c.position.ensures.ran (YieldsList-from_slice c.marked.result cc) (λ x b q k. search (rules, tests))
    ∙ free_found c.marked.result _ c.marked.ensures
