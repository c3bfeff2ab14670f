use Rattle.calculus.specs.Machine.{started}
use Rattle.interpreter.specs.Entries.{to_start}
use Rattle.call_words.specs.Exported.{exported_short, exported}
use Rattle.call_words.proofs.exports.epass_start.Goals as goal

pub returns-then-answer-lt-ANSWER_WORDS : goal.returns-then-answer-lt-ANSWER_WORDS
returns-then-answer-lt-ANSWER_WORDS c = let args = c.args in exported_short args.text.now (to_start args.line) c.if-answer-lt-ANSWER_WORDS.true

pub returns : goal.returns
returns c =
    let args = c.args in
    let s = args.text.now in
    let called = c.start-told in
    exported s (to_start args.line) (started called.result) c.if-answer-lt-ANSWER_WORDS.false called.ensures (c.started_words.ensures s 0) c.tell.ensures
