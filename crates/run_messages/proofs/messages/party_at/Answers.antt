use Rattle.run_alone.specs.Changes.{loaded}
use Rattle.run_alone.specs.Forwarding.{far_place, far_position}
use Rattle.run_messages.specs.Parties.{party_in, party_idle}
use Rattle.run_messages.proofs.messages.party_at.Goals as goal

pub load-process-requires-clause-i_in_bounds : goal.load-process-requires-clause-i_in_bounds
load-process-requires-clause-i_in_bounds c = far_place c.args.text.now c.args.scratch.now c.args.run.now c.requires.far_at.end _ _ c.requires.far_at.is

pub end_at-y-requires : goal.end_at-y-requires
end_at-y-requires c = (
  c.load-process.ensures.count_le_held_limit,
  far_position c.args.text.now c.args.scratch.now c.args.run.now c.requires.far_at.end _ _ c.requires.far_at.is _ c.load-process.ensures.i_value,
)

pub turn_on-requires-clause-process_in : goal.turn_on-requires-clause-process_in
turn_on-requires-clause-process_in c =
    let load = c.load-process in
    (loaded c.args.text.now c.args.scratch.now load.result c.requires.run_of (load.ensures.i_value, (load.ensures.bounded_process, load.ensures.count_le_held_limit))).is.term

pub returns-in_err-term : goal.returns-in_err-term
returns-in_err-term c =
    let load = c.load-process in
    let stands = loaded c.args.text.now c.args.scratch.now load.result c.requires.run_of (load.ensures.i_value, (load.ensures.bounded_process, load.ensures.count_le_held_limit)) in
    rw c.from_residual.ensures (party_idle _ _ _ _ stands load.ensures.i_value _ c.end_at-y.ensures.k_value c.in_err-term.ensures)

pub returns : goal.returns
returns c =
    let load = c.load-process in
    let stands = loaded c.args.text.now c.args.scratch.now load.result c.requires.run_of (load.ensures.i_value, (load.ensures.bounded_process, load.ensures.count_le_held_limit)) in
    party_in _ _ _ _ stands load.ensures.i_value _ c.end_at-y.ensures.k_value _ c.in_ok-term.ensures
