use mathlib.Core.Path.{◌∙◌}
use mathlib.Core.List.{[], ◌∷◌}
use native.Mathlib.Omega.{arith}
use Rattle.calculus.specs.Answers.{stepped_as}
use Rattle.call_words.specs.Words.{seen_words, words_of}
use Rattle.call_words.specs.Answered.{seen_follows}
use Rattle.call_words.proofs.words.step_words.Goals as goal

pub returns-in-Carried : goal.returns-in-Carried
unfolding words_of stepped_as seen_words
returns-in-Carried c =
    λ i. c.joined.ensures ∙ seen_follows c.args.text.now (0 ∷ []) c.in-Carried.seen (omega arith) c.seen_words.ensures ∙ rw c.in-Carried.is

pub returns-in-Uncaught : goal.returns-in-Uncaught
unfolding words_of stepped_as seen_words
returns-in-Uncaught c = λ i. rw (c.padded.ensures, c.in-Uncaught.is)
