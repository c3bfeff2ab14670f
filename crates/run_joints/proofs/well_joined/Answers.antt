use mathlib.Core.Path.{sym, ◌∙◌}
use Rattle.run_joints.specs.WellJoined.{lead_part, linked_part, once_part, free_part, rise_part, refuses, accepts}
use Rattle.run_joints.proofs.well_joined.Goals as goal
use Rattle.run_joints.proofs.well_joined.Goals.{then-links_lead, else-links_lead, then-handlers_linked, else-handlers_linked, then-linked_once, else-linked_once, then-forest, else-forest}

pub returns-then-numbers_rise : goal.returns-then-numbers_rise
returns-then-numbers_rise c =
    elim c.if-forest.branch [
      | then-forest f ↦
          elim c.if-linked_once.branch [
            | then-linked_once o ↦
                elim c.if-handlers_linked.branch [
                  | then-handlers_linked h ↦
                      elim c.if-links_lead.branch [
                        | then-links_lead l ↦
                            accepts c.links_lead.ensures l.if-links_lead.true l.handlers_linked.ensures (cc) h.linked_once.ensures (cc) o.forest.ensures (cc) f.numbers_rise.ensures (cc) c.numbers_given.ensures
                        | else-links_lead l ↦ cc
                      ]
                  | else-handlers_linked h ↦ cc
                ]
            | else-linked_once o ↦ cc
          ]
      | else-forest f ↦ cc
    ]

pub returns-else-numbers_rise : goal.returns-else-numbers_rise
returns-else-numbers_rise c =
    rw c.if-numbers_rise.false (elim c.if-forest.branch [
      | then-forest f ↦ refuses rise_part f.numbers_rise.ensures (sym f.value-is ∙ c.if-numbers_rise.false)
      | else-forest f ↦
          elim c.if-linked_once.branch [
            | then-linked_once o ↦ refuses free_part o.forest.ensures (sym o.value-is ∙ f.if-forest.false)
            | else-linked_once o ↦
                elim c.if-handlers_linked.branch [
                  | then-handlers_linked h ↦ refuses once_part h.linked_once.ensures (sym h.value-is ∙ o.if-linked_once.false)
                  | else-handlers_linked h ↦
                      elim c.if-links_lead.branch [
                        | then-links_lead l ↦ refuses linked_part l.handlers_linked.ensures (sym l.value-is ∙ h.if-handlers_linked.false)
                        | else-links_lead l ↦ refuses lead_part c.links_lead.ensures l.if-links_lead.false
                      ]
                ]
          ]
    ])
