use borrow.Author.Rules.{rules}
use native.Mathlib.Omega.{arith}
use Rattle.std.proofs.Common.{◌∙◌, ap, get_or}
use Rattle.std.proofs.lemmas.List.{get_or-take}
use Rattle.notation.specs.Limits.{run_words}
use Rattle.run_steps.proofs.trials.copy_of.Goals as goal

pub returns : goal.returns
returns c = record {
  long = search rules;
  same = λ k l. ap (λ m. get_or m k 0) c.copy_from_slice.ensures.after ∙ get_or-take run_words c.args.run.now k 0 l;
}
