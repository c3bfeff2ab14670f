use Rattle.std.proofs.Common.{rules, true}
use mathlib.Core.Path.{sym, ◌∙◌}
use mathlib.Core.Bool.{true≢false}
use Rattle.run_words.specs.Raw.{raw_in, Bounded}
use Rattle.run_words.proofs.Decisions.{refused_as}
use Rattle.run_wellformed.specs.OfText.{OfText, run_of}
use Rattle.run_wellformed.specs.Formed.{parts, decided}
use Rattle.run_wellformed.proofs.well_formed.Goals as goal
use Rattle.run_wellformed.proofs.well_formed.Goals.{then-bounded, else-bounded, then-numbers_stand, else-numbers_stand, then-processes_typed, else-processes_typed, then-ends_fit, else-ends_fit, then-outside_outward, else-outside_outward}

pub halt_fits-requires : goal.halt_fits-requires
halt_fits-requires c =
    let bounded : Bounded (raw_in c.args.run.now) = search rules in
    let of_text : OfText c.args.scratch.now (raw_in c.args.run.now) = search rules in
    run_of c.args.text.now c.args.scratch.now c.requires.tables.1 c.args.run.now c.requires.tables.0 c.requires.run_words_in_bounds bounded of_text

pub returns-then-halt_fits : goal.returns-then-halt_fits
returns-then-halt_fits c =
    elim c.if-outside_outward.branch [
      | then-outside_outward h ↦
          elim c.if-ends_fit.branch [
            | then-ends_fit x ↦
                elim c.if-processes_typed.branch [
                  | then-processes_typed e ↦
                      elim c.if-numbers_stand.branch [
                        | then-numbers_stand t ↦
                            elim c.if-bounded.branch [
                              | then-bounded o ↦
                                  decided c.args.text.now c.args.scratch.now (raw_in c.args.run.now) (c.bounded.ensures.yes o.if-bounded.true) (o.numbers_stand.ensures.yes (cc)) (cc) (cc) (cc) (cc) c.well_joined.ensures
                              | else-bounded o ↦ cc
                            ]
                        | else-numbers_stand t ↦ cc
                      ]
                  | else-processes_typed e ↦ cc
                ]
            | else-ends_fit x ↦ cc
          ]
      | else-outside_outward h ↦ cc
    ]

pub returns-else-halt_fits : goal.returns-else-halt_fits
returns-else-halt_fits c =
    let never = parts c.args.text.now c.args.scratch.now (raw_in c.args.run.now) in
    refused_as c.if-halt_fits.false λ f.
    let p = never f in
    elim c.if-outside_outward.branch [
      | then-outside_outward h ↦ true≢false (sym p.halted ∙ sym h.halt_fits.ensures ∙ sym h.value-is ∙ c.if-halt_fits.false)
      | else-outside_outward h ↦
          elim c.if-ends_fit.branch [
            | then-ends_fit x ↦ true≢false (sym p.outwards ∙ sym x.outside_outward.ensures ∙ sym x.value-is ∙ h.if-outside_outward.false)
            | else-ends_fit x ↦
                elim c.if-processes_typed.branch [
                  | then-processes_typed e ↦ true≢false (sym p.fit ∙ e.ends_fit.ensures ∙ sym e.value-is ∙ x.if-ends_fit.false)
                  | else-processes_typed e ↦
                      elim c.if-numbers_stand.branch [
                        | then-numbers_stand t ↦ true≢false (sym p.typed ∙ sym t.processes_typed.ensures ∙ sym t.value-is ∙ e.if-processes_typed.false)
                        | else-numbers_stand t ↦
                            elim c.if-bounded.branch [
                              | then-bounded o ↦ o.numbers_stand.ensures.no (sym o.value-is ∙ t.if-numbers_stand.false) f.of_text
                              | else-bounded o ↦ c.bounded.ensures.no o.if-bounded.false f.bounded
                            ]
                      ]
                ]
          ]
    ]
