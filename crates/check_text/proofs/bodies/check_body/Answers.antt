use mathlib.Core.Path.{sym, ◌∙◌}
use native.Mathlib.Omega.{arith}
use Prim.Native.Nat.{◌+◌}
use borrow.Author.Tests.{ltb-true, ltb-false}
use Rattle.notation.specs.Limits.{held_limit}
use Rattle.check_text.specs.Bodies.{seventeenth_entry, body_named, body_checked}
use Rattle.check_text.proofs.bodies.check_body.Goals as goal

pub declared_process-e-requires : goal.declared_process-e-requires
declared_process-e-requires c = let t = c.requires.0 in (t.area, omega (arith, t.within, c.requires.1))

pub overflow_add-e : goal.overflow_add-e
overflow_add-e c =
    let declared-process = c.declared_process-e in
    omega (
      arith,
      (seventeenth_entry c.args.text.now c.args.scratch.now declared-process.result
          (declared-process.ensures.stands c.args.text.now c.requires.0 c.requires.1) c.requires.0
          (ltb-true held_limit (declared-process.result.provided + declared-process.result.used) (sym c.has_seventeenth.ensures ∙ c.if-has_seventeenth.true))),
    )

pub entry-t-requires : goal.entry-t-requires
entry-t-requires c =
    let declared-process = c.declared_process-e in (
      c.requires.0.area,
      (seventeenth_entry c.args.text.now c.args.scratch.now declared-process.result
          (declared-process.ensures.stands c.args.text.now c.requires.0 c.requires.1) c.requires.0
          (ltb-true held_limit (declared-process.result.provided + declared-process.result.used) (sym c.has_seventeenth.ensures ∙ c.if-has_seventeenth.true))),
    )

pub returns-then-has_seventeenth : goal.returns-then-has_seventeenth
returns-then-has_seventeenth c =
    let declared-process = c.declared_process-e in
    body_named c.args.text.now c.args.scratch.now c.args.i declared-process.result declared-process.ensures _ c.entry-t.ensures
    (ltb-true held_limit (declared-process.result.provided + declared-process.result.used) (sym c.has_seventeenth.ensures ∙ c.if-has_seventeenth.true))

pub signature_held-h-requires : goal.signature_held-h-requires
signature_held-h-requires c =
    let declared-process = c.declared_process-e in
    let ltb-false' = ltb-false held_limit (declared-process.result.provided + declared-process.result.used) (sym c.has_seventeenth.ensures ∙ c.if-has_seventeenth.false) in (
      c.requires.0,
      (declared-process.ensures.stands c.args.text.now c.requires.0 c.requires.1),
      declared-process.ensures.small,
      omega (arith, ltb-false'),
      omega (arith, ltb-false'),
    )

pub check_process-requires : goal.check_process-requires
check_process-requires c = (c.requires.0, c.signature_held-h.ensures.fits, (c.declared_process-e.ensures.stands c.args.text.now c.requires.0 c.requires.1).body)

pub returns : goal.returns
returns c =
    let declared-process = c.declared_process-e in
    body_checked c.args.text.now c.args.scratch.now c.args.i declared-process.result declared-process.ensures _
    (ltb-false held_limit (declared-process.result.provided + declared-process.result.used) (sym c.has_seventeenth.ensures ∙ c.if-has_seventeenth.false))
    c.signature_held-h.ensures c.check_process.ensures
