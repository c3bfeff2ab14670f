use Rattle.calculus.specs.Machine.{stepped}
use Rattle.interpreter.specs.Entries.{to_step}
use Rattle.call_words.specs.Exported.{exported_short, exported}
use Rattle.call_words.proofs.exports.epass_step.Goals as goal

pub returns-then-answer-lt-ANSWER_WORDS : goal.returns-then-answer-lt-ANSWER_WORDS
returns-then-answer-lt-ANSWER_WORDS c = let args = c.args in exported_short args.text.now (to_step args.place) c.if-answer-lt-ANSWER_WORDS.true

pub returns : goal.returns
returns c =
    let args = c.args in
    let s = args.text.now in
    let called = c.step-told in
    exported s (to_step args.place) (stepped called.result) c.if-answer-lt-ANSWER_WORDS.false called.ensures (c.stepped_words.ensures 0) c.tell.ensures
