use Rattle.std.proofs.Common.{sym, ◌∙◌}
use Rattle.check_contexts.specs.Marks.{Marked}
use Rattle.check_contexts.specs.Mentioned.{acts_first, acted_call, acted_names, first_marked, first_none, second_marked, second_none}
use Rattle.check_contexts.proofs.mentions.mark_acted.Goals as goal
use Rattle.check_contexts.proofs.mentions.mark_acted.Goals.{Joined-has_first_name, then-has_first_name, else-has_first_name}

pub returns-then-node-eq-CALL : goal.returns-then-node-eq-CALL
returns-then-node-eq-CALL c = acted_call _ c.requires.0 c.if-node-eq-CALL.true c.mark_call.ensures

first : (c : Joined-has_first_name) → Marked c.args.text.now c.args.ends.now c.args.n c.args.sought (acts_first c.args.text.now c.args.node) c.args.m c.if-has_first_name.r
first c =
    elim c.if-has_first_name.branch [
      | then-has_first_name w ↦ rw w.r-is (first_marked c.args.node (sym c.has_first_name.ensures ∙ w.if-has_first_name.true) w.mark_name-r.ensures)
      | else-has_first_name w ↦ rw w.r-is (first_none c.args.node (sym c.has_first_name.ensures ∙ w.if-has_first_name.false))
    ]

pub returns-then-has_second_name : goal.returns-then-has_second_name
returns-then-has_second_name c =
    acted_names c.args.node c.if-node-eq-CALL.false (first (goal.at.returns-then-has_second_name c).Joined-has_first_name)
    (second_marked c.args.node (sym c.has_second_name.ensures ∙ c.if-has_second_name.true) c.mark_name-r-then-has_second_name.ensures)

pub returns-else-has_second_name : goal.returns-else-has_second_name
returns-else-has_second_name c =
    acted_names c.args.node c.if-node-eq-CALL.false (first (goal.at.returns-else-has_second_name c).Joined-has_first_name)
    (second_none c.args.node (sym c.has_second_name.ensures ∙ c.if-has_second_name.false))
