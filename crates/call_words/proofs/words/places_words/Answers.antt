use mathlib.Core.Path.{◌≡◌, sym, ◌∙◌, ap}
use native.Mathlib.Omega.{arith}
use Rattle.std.proofs.lemmas.Result.{IfOk-at_ok}
use Rattle.interpreter.specs.Entries.{ZerosFrom, places_answer}
use lib.ListN.{length}
use Rattle.calculus.specs.Answers.{counted_as}
use Rattle.call_words.specs.Words.{words_of, padded}
use Rattle.call_words.specs.Answered.{places_told}
use borrow.Author.Rules.{rules}
use Rattle.call_words.proofs.words.places_words.Goals as goal

pub joined-requires : goal.joined-requires
joined-requires c =
    let l : length c.in-Ok.p.steps ≡ 128 = search rules in
    omega (arith, l)

pub returns-in-Ok : goal.returns-in-Ok
returns-in-Ok c =
    λ s i.
    let l : length c.in-Ok.p.steps ≡ 128 = search rules in
    c.joined.ensures ∙ places_told s i c.in-Ok.p (omega (arith, l)) (IfOk-at_ok (λ p. ZerosFrom p.processes p.steps) c.in-Ok.is c.requires)
    ∙ ap (λ a. padded (words_of s i (places_answer a))) (sym c.in-Ok.is)

pub returns-in-Err : goal.returns-in-Err
unfolding words_of counted_as
returns-in-Err c = λ s i. rw (c.refused_words.ensures, c.in-Err.is)
