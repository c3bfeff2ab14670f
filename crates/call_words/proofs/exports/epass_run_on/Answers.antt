use Rattle.calculus.specs.Machine.{ran_on}
use Rattle.interpreter.specs.Entries.{to_run_on}
use Rattle.call_words.specs.Exported.{exported_short, exported}
use Rattle.call_words.proofs.exports.epass_run_on.Goals as goal

pub returns-then-answer-lt-ANSWER_WORDS : goal.returns-then-answer-lt-ANSWER_WORDS
returns-then-answer-lt-ANSWER_WORDS c = let args = c.args in exported_short args.text.now (to_run_on args.budget) c.if-answer-lt-ANSWER_WORDS.true

pub returns : goal.returns
returns c =
    let args = c.args in
    let s = args.text.now in
    let called = c.run_on-told in
    exported s (to_run_on args.budget) (ran_on called.result) c.if-answer-lt-ANSWER_WORDS.false called.ensures (c.ran_on_words.ensures 0) c.tell.ensures
