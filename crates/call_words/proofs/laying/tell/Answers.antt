use Rattle.call_words.specs.Laying.{tells}
use borrow.Author.Rules.{rules}
use Rattle.call_words.proofs.laying.tell.Goals as goal

pub returns : goal.returns
returns c = tells (search rules) c.lay.ensures
