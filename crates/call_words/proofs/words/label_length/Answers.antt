use Rattle.notation.proofs.Names.{name_fits}
use native.Mathlib.Omega.{arith}
use Prim.Native.Nat.{◌+◌}
use Rattle.call_words.specs.Warned.{label_past}
use Rattle.call_words.proofs.words.label_length.Goals as goal

pub returns-then-text-at : goal.returns-then-text-at
returns-then-text-at c = let args = c.args in label_past args.text.now args.at c.if-text-at.true

pub overflow_add-n : goal.overflow_add-n
overflow_add-n c = let args = c.args in omega (arith, name_fits args.text.now (args.at + 1), c.name_length-n.ensures)

pub returns : goal.returns
returns c = rw (c.as_word.ensures, c.name_length-n.ensures)
