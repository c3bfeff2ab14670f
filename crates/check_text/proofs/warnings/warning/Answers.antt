use native.Mathlib.Omega.{arith}
use mathlib.Core.Path.{refl}
use Rattle.check_text.specs.Warnings.{seek_start, seek_end, seek_room, seek_fine, seek_found, seek_on}
use Rattle.check_text.proofs.warnings.warning.Goals as goal

pub process_count-n-requires : goal.process_count-n-requires
process_count-n-requires c = c.requires.0.area

pub loop-i-init : goal.loop-i-init
loop-i-init c = seek_start _ _ _ _ c.process_count-n.ensures c.requires.1

pub declared_process-e-requires : goal.declared_process-e-requires
declared_process-e-requires c = let t = c.requires.0 in (t.area, omega (arith, t.within, c.loop-i-test.true, c.process_count-n.ensures))

pub signature_held-h-requires : goal.signature_held-h-requires
signature_held-h-requires c =
    let t = c.requires.0 in
    let e = c.args in
    let g = c.declared_process-e.ensures in
    let room = seek_room e.text.now e.scratch.now _ _ _ _ c.loop-i.invariant c.loop-i-test.true _ g in
    (t, g.stands e.text.now t (omega (arith, c.loop-i-test.true, c.process_count-n.ensures)), g.small, omega (arith, room), omega (arith, room))

pub missing_label-requires : goal.missing_label-requires
missing_label-requires c =
    let t = c.requires.0 in
    let e = c.args in
    let g = c.declared_process-e.ensures in
    let f = c.signature_held-h.ensures in
    (t, f.fits, (g.stands e.text.now t (omega (arith, c.loop-i-test.true, c.process_count-n.ensures))).body, seek_fine e.text.now e.scratch.now _ _ _ _ c.loop-i.invariant c.loop-i-test.true _ g _ f)

pub returns-in-Break : goal.returns-in-Break
returns-in-Break c =
    let e = c.args in
    seek_found e.text.now e.scratch.now _ _ _ _ c.loop-i.invariant c.loop-i-test.true _ c.declared_process-e.ensures _ c.signature_held-h.ensures _ c.missing_label.ensures _ c.in-Break.is

pub loop-i-preserved : goal.loop-i-preserved
loop-i-preserved c =
    let e = c.args in
    seek_on e.text.now e.scratch.now _ _ _ _ c.loop-i.invariant c.loop-i-test.true _ c.declared_process-e.ensures _ c.signature_held-h.ensures _ c.missing_label.ensures _ c.in-Continue.is _ refl

pub returns : goal.returns
returns c = let e = c.args in seek_end e.text.now e.scratch.now _ _ _ _ c.loop-i.invariant c.loop-i-test.false
