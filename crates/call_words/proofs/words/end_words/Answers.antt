use mathlib.Core.Path.{◌∙◌}
use mathlib.Core.List.{[], ◌∷◌}
use native.Mathlib.Omega.{arith}
use Rattle.calculus.specs.Answers.{ran_on_as}
use Rattle.call_words.specs.Words.{seen_words, words_of}
use Rattle.call_words.specs.Answered.{seen_follows}
use Rattle.call_words.proofs.words.end_words.Goals as goal

pub returns-in-Shown : goal.returns-in-Shown
unfolding words_of ran_on_as seen_words
returns-in-Shown c =
    λ i.
    let shown = c.in-Shown in
    c.joined.ensures ∙ seen_follows c.args.text.now (0 ∷ 1 ∷ shown.steps ∷ []) shown.seen (omega arith) c.seen_words.ensures ∙ rw shown.is

pub returns-in-Done : goal.returns-in-Done
unfolding words_of ran_on_as seen_words
returns-in-Done c = λ i. rw (c.padded.ensures, c.in-Done.is)

pub returns-in-Full : goal.returns-in-Full
unfolding words_of ran_on_as seen_words
returns-in-Full c = λ i. rw (c.padded-in-Full.ensures, c.in-Full.is)

pub returns-in-Stopped : goal.returns-in-Stopped
unfolding words_of ran_on_as seen_words
returns-in-Stopped c = λ i. rw (c.padded-in-Stopped.ensures, c.in-Stopped.is)

pub returns-in-Uncaught : goal.returns-in-Uncaught
unfolding words_of ran_on_as seen_words
returns-in-Uncaught c = λ i. rw (c.padded-in-Uncaught.ensures, c.in-Uncaught.is)
