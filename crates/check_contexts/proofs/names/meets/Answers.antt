use Rattle.std.proofs.Common.{◌&&◌, sym, ◌∙◌}
use Rattle.notation.specs.Token.{name_at}
use Rattle.check_contexts.specs.Marks.{is_name, same_swap}
use Rattle.check_contexts.proofs.names.meets.Goals as goal

pub returns-then-is_marked : goal.returns-then-is_marked
returns-then-is_marked c =
    let a = c.args in
    let text = a.text.now in
    let so = sym c.is_marked.ensures ∙ c.if-is_marked.true in
    c.has_name.ensures ∙ same_swap _ _ ∙ λ j. sym so j && is_name text a.at (name_at text (c.name_at.ensures j))
