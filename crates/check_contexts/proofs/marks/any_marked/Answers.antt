use borrow.Author.Rules.{rules}
use Rattle.std.proofs.Common.{◌≡◌, ◌∙◌, length, arith}
use Rattle.notation.specs.Limits.{held_limit}
use Rattle.check_contexts.specs.Marks.{any_set}
use Rattle.check_contexts.proofs.marks.any_marked.Goals as goal

pub returns : goal.returns
returns c =
    let all : length c.args.m.set ≡ held_limit = search rules in
    c.contains.ensures.value ∙ any_set c.args.m.set c.args.n (omega arith)
