use Rattle.interpreter.specs.Entries.{to_places, places_answer}
use Rattle.call_words.specs.Exported.{exported_short, exported}
use Rattle.call_words.proofs.exports.epass_places.Goals as goal

pub returns-then-answer-lt-ANSWER_WORDS : goal.returns-then-answer-lt-ANSWER_WORDS
returns-then-answer-lt-ANSWER_WORDS c = exported_short c.args.text.now to_places c.if-answer-lt-ANSWER_WORDS.true

pub returns : goal.returns
returns c =
    let s = c.args.text.now in
    let called = c.places-told in
    exported s to_places (places_answer called.result) c.if-answer-lt-ANSWER_WORDS.false called.ensures.answers (c.places_words.ensures s 0) c.tell.ensures
