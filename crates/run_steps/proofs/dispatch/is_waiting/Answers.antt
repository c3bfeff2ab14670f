use native.Mathlib.Omega.{arith}
use Rattle.run_steps.specs.Dispatch.{waits_not, waits_so, send_waits_so}
use Rattle.run_steps.proofs.dispatch.is_waiting.Goals as goal

pub doing-d-requires : goal.doing-d-requires
doing-d-requires c = (c.requires.run_of.wide, omega (arith, c.requires.place_in_bounds, c.requires.run_of.bounds.places))

pub returns-in-1-to-3 : goal.returns-in-1-to-3
returns-in-1-to-3 c = send_waits_so c.requires.run_of c.requires.well_formed c.requires.place_in_bounds _ _ _ c.doing-d.ensures.0 c.doing-d.ensures.1 c.in-Some.ensures (omega arith) (omega arith) c.awaits_recv.ensures

pub returns-in-6-to-8 : goal.returns-in-6-to-8
returns-in-6-to-8 c = waits_so c.requires.run_of c.requires.well_formed c.requires.place_in_bounds _ _ _ c.doing-d.ensures.0 c.doing-d.ensures.1 c.in-Some.ensures (omega arith) (omega arith) c.awaits_send.ensures
