use Rattle.interpreter.specs.Entries.{to_name}
use Rattle.call_words.specs.Exported.{exported_short, exported}
use Rattle.call_words.proofs.exports.epass_exec_name.Goals as goal

pub returns-then-answer-lt-ANSWER_WORDS : goal.returns-then-answer-lt-ANSWER_WORDS
returns-then-answer-lt-ANSWER_WORDS c = let args = c.args in exported_short args.text.now (to_name args.line) c.if-answer-lt-ANSWER_WORDS.true

pub returns : goal.returns
returns c =
    let args = c.args in
    let s = args.text.now in
    let called = c.exec_place-place in
    exported s (to_name args.line) _ c.if-answer-lt-ANSWER_WORDS.false called.ensures.names (c.name_words.ensures _ called.ensures.stands called.ensures.numbered) c.tell.ensures
