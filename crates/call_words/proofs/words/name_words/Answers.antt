use mathlib.Core.Path.{◌≡◌, sym, ◌∙◌, ap}
use Prim.Native.Nat.{◌≤◌}
use Rattle.std.proofs.lemmas.Result.{IfOk-at_ok, IfErr-at_err}
use Rattle.interpreter.specs.Entries.{name_placed}
use Rattle.call_words.specs.Words.{words_of, padded}
use Rattle.call_words.specs.Answered.{name_refused}
use Rattle.call_words.proofs.words.name_words.Goals as goal

pub returns-in-Ok : goal.returns-in-Ok
unfolding words_of
returns-in-Ok c = λ i h n.
    let e = IfOk-at_ok (λ at. at ≡ i) c.in-Ok.is h in
    rw (c.padded.ensures, c.as_word.ensures, c.name_word.ensures, c.in-Ok.is, e)

pub returns-in-Err : goal.returns-in-Err
returns-in-Err c = λ i h n.
    let e = c.in-Err.e in
    c.refused_words.ensures
    ∙ name_refused c.args.text.now i e (IfErr-at_err (λ e. 1 ≤ e.number) c.in-Err.is n)
    ∙ ap (λ r. padded (words_of c.args.text.now i (name_placed c.args.text.now r))) (sym c.in-Err.is)
