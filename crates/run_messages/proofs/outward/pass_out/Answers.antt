use native.Mathlib.Omega.{arith}
use Rattle.run_messages.specs.Outward.{passes_none, passes_lacking, passes_out}
use Rattle.run_alone.specs.Parting.{end_found_lem}
use Rattle.run_messages.proofs.outward.pass_out.Goals as goal

pub far_end-far-requires-clause-side_lt_side_radix : goal.far_end-far-requires-clause-side_lt_side_radix
far_end-far-requires-clause-side_lt_side_radix c =
    (end_found_lem {w = c.args.scratch.now} c.find_end.ensures c.in-Some.is
    c.requires.sending_in.stands.is.held).1

pub pass_numbered-requires-clause-end_in : goal.pass_numbered-requires-clause-end_in
pass_numbered-requires-clause-end_in c =
    (end_found_lem {w = c.args.scratch.now} c.find_end.ensures c.in-Some.is
    c.requires.sending_in.stands.is.held).0

pub returns : goal.returns
returns c =
    passes_out c.args.text.now c.args.scratch.now c.args.run.now c.args.sent c.args.o.number c.requires.kind_value
    c.find_end.ensures c.in-Some.is _ _ (omega (arith, c.if-m-ge-OUTSIDE_NUMBERS.false, c.given-m.ensures))
    c.far_end-far.ensures c.is_given_up-gone.ensures c.pass_numbered.ensures
