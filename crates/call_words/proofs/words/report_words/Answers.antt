use mathlib.Core.Path.{◌≡◌, sym, ◌∙◌, ap}
use native.Mathlib.Omega.{arith}
use Rattle.std.proofs.lemmas.Result.{IfOk-at_ok}
use Rattle.interpreter.specs.Entries.{ZerosFrom, report_answer}
use lib.ListN.{length}
use Rattle.calculus.specs.Answers.{counted_as}
use Rattle.call_words.specs.Words.{words_of, padded}
use Rattle.call_words.specs.Answered.{report_told}
use borrow.Author.Rules.{rules}
use Rattle.call_words.proofs.words.report_words.Goals as goal

pub joined-requires : goal.joined-requires
joined-requires c =
    let l : length c.in-Ok.r.numbers ≡ 32 = search rules in
    omega (arith, l)

pub returns-in-Ok : goal.returns-in-Ok
returns-in-Ok c =
    λ s i.
    let l : length c.in-Ok.r.numbers ≡ 32 = search rules in
    c.joined.ensures ∙ report_told s i c.in-Ok.r (omega (arith, l)) (IfOk-at_ok (λ r. ZerosFrom r.open r.numbers) c.in-Ok.is c.requires)
    ∙ ap (λ a. padded (words_of s i (report_answer a))) (sym c.in-Ok.is)

pub returns-in-Err : goal.returns-in-Err
unfolding words_of counted_as
returns-in-Err c = λ s i. rw (c.refused_words.ensures, c.in-Err.is)
