use native.Mathlib.Omega.{arith}
use Rattle.read_text.proofs.ProcessPaths.{not_read, not_closed, read, bracketed_no, bracketed_closed}
use mathlib.Core.Path.{refl, ap, sym, ◌∙◌}
use borrow.Author.Tests.{eq-eqb, ne_eqb}
use Rattle.read_text.proofs.BranchPaths.{keeping_start, keeping_on, branch_few, branches_no, branches_inner_no, branches_bar_no, branches_end}
use Rattle.read_text.proofs.ProcessPaths.{handler_unit, handler_channel, handler_label, handler_other}
use Rattle.read_text.proofs.ProcessPaths.{parts_no, parts_on}
use Rattle.read_text.proofs.Turning.{turns_no, turns_on, turns_end}
use Rattle.read_text.proofs.ProcessPaths.{recv_no, recv_name_no, recv_open_no, recv_closed}
use Rattle.read_text.proofs.ProcessPaths.{spawn_no, spawn_type_no, spawn_arrow_no, spawn_on}
use Rattle.read_text.proofs.ProcessPaths.{try_no, try_main_no, try_catch_no, try_read}
use Rattle.read_text.proofs.ProcessPaths.{turn_by, turn_read, turn_read_no, turn_empty}
use Rattle.read_text.proofs.Turning.{head_is}
use Rattle.read_text.proofs.ProcessPaths.{labels_no, labels_got}
use Rattle.read_text.proofs.ProcessPaths.{one_no, one_read}
use Rattle.read_types.proofs.Taking.{left, step_no, step_at, read_no, read_at, read_left}
use Rattle.std.specs.Prelude.{Err, Ok}
use Rattle.read_text.proofs.processes.+read_bracketed_read_branches_read_handler_read_parts_read_process_read_recv_read_spawn_read_try_read_turn_receive_label_receive_one.Goals as goal
use Rattle.notation.proofs.Tokens.{token_onward}
use Rattle.notation.specs.declared.token.TermHead.{TermHead}

pub read_branches-loop-i-init : goal.read_branches-loop-i-init
read_branches-loop-i-init t c = keeping_start _ refl c.requires

pub read_branches-returns-in_err-i : goal.read_branches-returns-in_err-i
read_branches-returns-in_err-i t c =
    branches_no _ _ _ _ _ c.loop-i.invariant c.label_then.ensures
    (step_no _ c.in_err-i.was) (read_left _ _ _ c.from_residual.ensures.1)

pub read_branches-returns-in_err-read_process : goal.read_branches-returns-in_err-read_process
read_branches-returns-in_err-read_process t c =
    branches_inner_no _ _ _ _ _ c.loop-i.invariant c.label_then.ensures
    (step_at _ c.in_ok-i.was) c.read_process.ensures (read_no _ _ c.in_err-read_process.was) (read_left _ _ _ c.from_residual-in_err-read_process.ensures.1)

pub read_branches-bounds-kept-n : goal.read_branches-bounds-kept-n
read_branches-bounds-kept-n t c =
    omega (
      arith,
      branch_few _ _ _ c.label_then.ensures (step_at _ c.in_ok-i.was),
      c.loop-i.invariant.wide,
    )

pub read_branches-returns-in_err-expect : goal.read_branches-returns-in_err-expect
read_branches-returns-in_err-expect t c =
    branches_bar_no _ _ _ _ _ c.loop-i.invariant
    c.label_then.ensures (step_at _ c.in_ok-i.was)
    c.read_process.ensures (read_at _ _ c.in_ok-read_process.was) c.pointer-p.ensures.value
    c.pair_word.ensures (eq-eqb _ _ (sym c.kind_at.ensures ∙ c.if-kind_at-eq-BAR.true))
    c.expect.ensures (step_no _ c.in_err-expect.was) (read_left _ _ _ c.from_residual-in_err-expect.ensures.1)

pub read_branches-loop-i-preserved : goal.read_branches-loop-i-preserved
read_branches-loop-i-preserved t c =
    keeping_on _ _ _ _ _ c.loop-i.invariant
    c.label_then.ensures (step_at _ c.in_ok-i.was)
    c.read_process.ensures (read_at _ _ c.in_ok-read_process.was) c.pointer-p.ensures.value
    c.pair_word.ensures (eq-eqb _ _ (sym c.kind_at.ensures ∙ c.if-kind_at-eq-BAR.true))
    c.expect.ensures (step_at _ c.in_ok-expect.was)

pub read_branches-put_list-requires : goal.read_branches-put_list-requires
read_branches-put_list-requires t c =
    let read_process_lem = c.read_process in
    let label_then_lem = c.label_then in
    let loop = c.loop-i in
    omega (
      arith,
      loop.invariant.room,
      loop.invariant.bytes,
      branch_few _ _ _ label_then_lem.ensures (step_at _ c.in_ok-i.was),
      label_then_lem.ensures.on _ _
          (step_at _ c.in_ok-i.was),
      read_process_lem.ensures.on _ _ (read_at _ _ c.in_ok-read_process.was),
      read_process_lem.ensures.kept.long,
    )

pub read_branches-returns-else-kind_at-eq-BAR : goal.read_branches-returns-else-kind_at-eq-BAR
read_branches-returns-else-kind_at-eq-BAR t c =
    branches_end _ _ _ _ _ c.loop-i.invariant
    c.label_then.ensures (step_at _ c.in_ok-i.was)
    c.read_process.ensures (read_at _ _ c.in_ok-read_process.was) c.pointer-p.ensures.value
    c.pair_word.ensures (ne_eqb _ _ (λ e. c.if-kind_at-eq-BAR.false (c.kind_at.ensures ∙ e)))
    c.put_list.ensures

pub read_handler-returns-in-Unit : goal.read_handler-returns-in-Unit
read_handler-returns-in-Unit t c =
    handler_unit _ _ _ _ _ _ (sym c.payload_at-head.ensures
    ∙ c.in-Unit.is) (rw (← c.in-Unit.is)
    c.receive_one.ensures)

pub read_handler-returns-in-Channel : goal.read_handler-returns-in-Channel
read_handler-returns-in-Channel t c =
    handler_channel _ _ _ _ _ _ (sym c.payload_at-head.ensures
    ∙ c.in-Channel.is) (rw (← c.in-Channel.is)
    c.receive_one-in-Channel.ensures)

pub read_handler-returns-in-Label : goal.read_handler-returns-in-Label
read_handler-returns-in-Label t c =
    handler_label _ _ _ _ _ _ (sym c.payload_at-head.ensures
    ∙ c.in-Label.is) c.receive_label.ensures

pub read_handler-returns-in-Other : goal.read_handler-returns-in-Other
read_handler-returns-in-Other t c = handler_other _ _ _ _ _ _ (sym c.payload_at-head.ensures ∙ c.in-Other.is) (ap (λ y. Err y) c.misfit.ensures)

pub read_parts-returns : goal.read_parts-returns
read_parts-returns t c =
    parts_on _ _ _ _ c.requires.room.0 _ _ c.read_bracketed.ensures (read_at _ _ c.in_ok-read_bracketed.was)
    c.pointer_within-second.ensures.value c.follow.ensures

pub read_recv-returns-in_err-at : goal.read_recv-returns-in_err-at
read_recv-returns-in_err-at t c =
    recv_no _ _ _ _ c.requires c.process_term.ensures
    (step_no _ c.in_err-at.was) (read_left _ _ _ c.from_residual.ensures.1)

pub read_recv-returns-in_err-i : goal.read_recv-returns-in_err-i
read_recv-returns-in_err-i t c =
    recv_name_no _ _ _ _ c.requires
    c.process_term.ensures (step_at _ c.in_ok-at.was)
    c.expect.ensures (step_no _ c.in_err-i.was) (read_left _ _ _ c.from_residual-in_err-i.ensures.1)

pub read_recv-returns-in_err-opening : goal.read_recv-returns-in_err-opening
read_recv-returns-in_err-opening t c =
    recv_open_no _ _ _ _ c.requires c.process_term.ensures (step_at _ c.in_ok-at.was)
    c.expect.ensures (step_at _ c.in_ok-i.was) c.opening.ensures
    (step_no _ c.in_err-opening.was) (read_left _ _ _ c.from_residual-in_err-opening.ensures.1)

pub read_spawn-returns-in_err-at : goal.read_spawn-returns-in_err-at
read_spawn-returns-in_err-at t c =
    spawn_no _ _ _ _ c.requires c.name_colon.ensures
    (step_no _ c.in_err-at.was) (left _ c.from_residual.ensures.1)

pub read_spawn-returns-in_err-read_type : goal.read_spawn-returns-in_err-read_type
read_spawn-returns-in_err-read_type t c =
    spawn_type_no _ _ _ _ c.requires c.name_colon.ensures (step_at _ c.in_ok-at.was)
    c.read_type.ensures (read_no _ _ c.in_err-read_type.was) (left _ c.from_residual-in_err-read_type.ensures.1)

pub read_spawn-returns-in_err-expect : goal.read_spawn-returns-in_err-expect
read_spawn-returns-in_err-expect t c =
    spawn_arrow_no _ _ _ _ c.requires c.name_colon.ensures (step_at _ c.in_ok-at.was)
    c.read_type.ensures (read_at _ _ c.in_ok-read_type.was) c.expect.ensures
    (step_no _ c.in_err-expect.was) (left _ c.from_residual-in_err-expect.ensures.1)

pub read_spawn-returns : goal.read_spawn-returns
read_spawn-returns t c =
    spawn_on _ _ _ _ c.requires c.name_colon.ensures (step_at _ c.in_ok-at.was)
    c.read_type.ensures (read_at _ _ c.in_ok-read_type.was) c.expect.ensures
    (step_at _ c.in_ok-expect.was) c.read_parts.ensures

pub read_try-returns-in_err-at : goal.read_try-returns-in_err-at
read_try-returns-in_err-at t c =
    try_no _ _ _ _ c.requires c.process_term.ensures
    (step_no _ c.in_err-at.was) (read_left _ _ _ c.from_residual.ensures.1)

pub read_try-returns-in_err-read_bracketed : goal.read_try-returns-in_err-read_bracketed
read_try-returns-in_err-read_bracketed t c =
    try_main_no _ _ _ _ c.requires c.process_term.ensures (step_at _ c.in_ok-at.was)
    c.read_bracketed.ensures (read_no _ _ c.in_err-read_bracketed.was) (read_left _ _ _ c.from_residual-in_err-read_bracketed.ensures.1)

pub read_try-returns-in_err-expect : goal.read_try-returns-in_err-expect
read_try-returns-in_err-expect t c =
    try_catch_no _ _ _ _ c.requires c.process_term.ensures (step_at _ c.in_ok-at.was)
    c.read_bracketed.ensures (read_at _ _ c.in_ok-read_bracketed.was) c.expect.ensures
    (step_no _ c.in_err-expect.was) (read_left _ _ _ c.from_residual-in_err-expect.ensures.1)

pub read_try-returns : goal.read_try-returns
read_try-returns t c =
    try_read _ _ _ _ c.requires c.process_term.ensures (step_at _ c.in_ok-at.was)
    c.read_bracketed.ensures (read_at _ _ c.in_ok-read_bracketed.was) c.expect.ensures
    (step_at _ c.in_ok-expect.was) c.pointer_within-second.ensures.value
    c.pointer_within-third.ensures.value c.put_term.ensures c.read_bracketed-2.ensures

pub read_turn-returns-in-Send : goal.read_turn-returns-in-Send
read_turn-returns-in-Send t c =
    turn_by _ _ _ _ c.requires _
    (head_is _ _ c.kind_at.ensures c.term_head.ensures c.in-Send.is)
    c.read_send.ensures

pub read_turn-returns-in-Cancel : goal.read_turn-returns-in-Cancel
read_turn-returns-in-Cancel t c =
    turn_by _ _ _ _ c.requires _
    (head_is _ _ c.kind_at.ensures c.term_head.ensures c.in-Cancel.is)
    c.read_cancel.ensures

pub read_turn-returns-in-Raise : goal.read_turn-returns-in-Raise
read_turn-returns-in-Raise t c =
    turn_by _ _ _ _ c.requires _
    (head_is _ _ c.kind_at.ensures c.term_head.ensures c.in-Raise.is)
    c.read_raise.ensures

pub read_turn-returns-in-Spawn : goal.read_turn-returns-in-Spawn
read_turn-returns-in-Spawn t c =
    turn_by _ _ _ _ c.requires _
    (head_is _ _ c.kind_at.ensures c.term_head.ensures c.in-Spawn.is)
    c.read_spawn.ensures

pub receive_label-returns : goal.receive_label-returns
receive_label-returns t c =
    labels_got _ _ _ _ c.requires.room _ _ c.requires.at_lt_text_limit.0 c.requires.at_lt_text_limit.1
    c.read_branches.ensures (read_at _ _ c.in_ok-read_branches.was) c.put_term.ensures

pub receive_one-returns : goal.receive_one-returns
receive_one-returns t c =
    one_read _ _ _ _ c.requires.room _ _ c.requires.at_lt_text_limit.0 c.requires.at_lt_text_limit.1 _ c.payload_then.ensures c.requires.at_lt_text_limit.2
    (step_at _ c.in_ok-j.was) c.payload_node-n.ensures.value c.put_before.ensures
    c.read_process.ensures

pub read_bracketed-returns-in_err-opening : goal.read_bracketed-returns-in_err-opening
read_bracketed-returns-in_err-opening t c =
    bracketed_no _ _ _ _ c.requires c.opening.ensures (step_no _ c.in_err-opening.was) (read_left _ _ _ c.from_residual.ensures.1)

pub read_bracketed-returns-in_err-read_process : goal.read_bracketed-returns-in_err-read_process
read_bracketed-returns-in_err-read_process t c =
    bracketed_closed _ _ _ _ c.requires c.opening.ensures (step_at _ c.in_ok-opening.was) c.read_process.ensures
    (not_read (read_no _ _ c.in_err-read_process.was) (read_left _ _ _ c.from_residual-in_err-read_process.ensures.1))

pub read_bracketed-returns-in_err-expect : goal.read_bracketed-returns-in_err-expect
read_bracketed-returns-in_err-expect t c =
    bracketed_closed _ _ _ _ c.requires c.opening.ensures (step_at _ c.in_ok-opening.was) c.read_process.ensures
    (not_closed (read_at _ _ c.in_ok-read_process.was) c.expect.ensures (step_no _ c.in_err-expect.was) (read_left _ _ _ c.from_residual-in_err-expect.ensures.1))

pub read_bracketed-returns : goal.read_bracketed-returns
read_bracketed-returns t c =
    bracketed_closed _ _ _ _ c.requires c.opening.ensures (step_at _ c.in_ok-opening.was) c.read_process.ensures
    (read (read_at _ _ c.in_ok-read_process.was) c.expect.ensures (step_at _ c.in_ok-expect.was) refl)

pub read_recv-returns-in_err-read_handler : goal.read_recv-returns-in_err-read_handler
read_recv-returns-in_err-read_handler t c =
    recv_closed _ _ _ _ c.requires c.process_term.ensures (step_at _ c.in_ok-at.was)
    c.expect.ensures (step_at _ c.in_ok-i.was) c.opening.ensures
    (step_at _ c.in_ok-opening.was) c.read_handler.ensures
    (not_read (read_no _ _ c.in_err-read_handler.was) (read_left _ _ _ c.from_residual-in_err-read_handler.ensures.1))

pub read_recv-returns-in_err-expect : goal.read_recv-returns-in_err-expect
read_recv-returns-in_err-expect t c =
    recv_closed _ _ _ _ c.requires c.process_term.ensures (step_at _ c.in_ok-at.was)
    c.expect.ensures (step_at _ c.in_ok-i.was) c.opening.ensures
    (step_at _ c.in_ok-opening.was) c.read_handler.ensures
    (not_closed (read_at _ _ c.in_ok-read_handler.was) c.expect-2.ensures (step_no _ c.in_err-expect.was) (read_left _ _ _ c.from_residual-in_err-expect.ensures.1))

pub read_recv-returns : goal.read_recv-returns
read_recv-returns t c =
    recv_closed _ _ _ _ c.requires c.process_term.ensures (step_at _ c.in_ok-at.was)
    c.expect.ensures (step_at _ c.in_ok-i.was) c.opening.ensures
    (step_at _ c.in_ok-opening.was) c.read_handler.ensures
    (read (read_at _ _ c.in_ok-read_handler.was) c.expect-2.ensures (step_at _ c.in_ok-expect.was) refl)

pub read_process-returns-in_err-read_turn : goal.read_process-returns-in_err-read_turn
read_process-returns-in_err-read_turn t c =
    turns_no c.loop.invariant c.read_turn.ensures c.in_err-read_turn.was (read_left _ _ _ c.from_residual.ensures.1)

pub read_process-loop-preserved : goal.read_process-loop-preserved
read_process-loop-preserved t c = turns_on c.loop.invariant c.read_turn.ensures (c.in_ok-read_turn.was ∙ ap (λ x. Ok x) c.in-On.is)

pub read_process-returns-in-Done : goal.read_process-returns-in-Done
read_process-returns-in-Done t c = turns_end c.loop.invariant c.read_turn.ensures (c.in_ok-read_turn.was ∙ ap (λ x. Ok x) c.in-Done.is)

pub read_turn-returns-in_err-read_recv-in-Recv : goal.read_turn-returns-in_err-read_recv-in-Recv
read_turn-returns-in_err-read_recv-in-Recv t c =
    turn_read_no _ _ _ _ c.requires _ (head_is _ _ c.kind_at.ensures c.term_head.ensures c.in-Recv.is) c.read_recv.ensures
    (read_no _ _ c.in_err-read_recv-in-Recv.was) (left _ c.from_residual.ensures.1)

pub read_turn-returns-in_ok-read_recv-in-Recv : goal.read_turn-returns-in_ok-read_recv-in-Recv
read_turn-returns-in_ok-read_recv-in-Recv t c =
    turn_read _ _ _ _ c.requires _ (head_is _ _ c.kind_at.ensures c.term_head.ensures c.in-Recv.is) c.read_recv.ensures
    (read_at _ _ c.in_ok-read_recv-in-Recv.was)

pub read_turn-returns-in_err-read_fwd-in-Fwd : goal.read_turn-returns-in_err-read_fwd-in-Fwd
read_turn-returns-in_err-read_fwd-in-Fwd t c =
    turn_read_no _ _ _ _ c.requires _ (head_is _ _ c.kind_at.ensures c.term_head.ensures c.in-Fwd.is) c.read_fwd.ensures
    (read_no _ _ c.in_err-read_fwd-in-Fwd.was) (left _ c.from_residual-in_err-read_fwd-in-Fwd.ensures.1)

pub read_turn-returns-in_ok-read_fwd-in-Fwd : goal.read_turn-returns-in_ok-read_fwd-in-Fwd
read_turn-returns-in_ok-read_fwd-in-Fwd t c =
    turn_read _ _ _ _ c.requires _ (head_is _ _ c.kind_at.ensures c.term_head.ensures c.in-Fwd.is) c.read_fwd.ensures
    (read_at _ _ c.in_ok-read_fwd-in-Fwd.was)

pub read_turn-returns-in_err-read_call-in-Call : goal.read_turn-returns-in_err-read_call-in-Call
read_turn-returns-in_err-read_call-in-Call t c =
    turn_read_no _ _ _ _ c.requires _ (head_is _ _ c.kind_at.ensures c.term_head.ensures c.in-Call.is) c.read_call.ensures
    (read_no _ _ c.in_err-read_call-in-Call.was) (left _ c.from_residual-in_err-read_call-in-Call.ensures.1)

pub read_turn-returns-in_ok-read_call-in-Call : goal.read_turn-returns-in_ok-read_call-in-Call
read_turn-returns-in_ok-read_call-in-Call t c =
    turn_read _ _ _ _ c.requires _ (head_is _ _ c.kind_at.ensures c.term_head.ensures c.in-Call.is) c.read_call.ensures
    (read_at _ _ c.in_ok-read_call-in-Call.was)

pub read_turn-returns-in_err-read_try-in-Try : goal.read_turn-returns-in_err-read_try-in-Try
read_turn-returns-in_err-read_try-in-Try t c =
    turn_read_no _ _ _ _ c.requires _ (head_is _ _ c.kind_at.ensures c.term_head.ensures c.in-Try.is) c.read_try.ensures
    (read_no _ _ c.in_err-read_try-in-Try.was) (left _ c.from_residual-in_err-read_try-in-Try.ensures.1)

pub read_turn-returns-in_ok-read_try-in-Try : goal.read_turn-returns-in_ok-read_try-in-Try
read_turn-returns-in_ok-read_try-in-Try t c =
    turn_read _ _ _ _ c.requires _ (head_is _ _ c.kind_at.ensures c.term_head.ensures c.in-Try.is) c.read_try.ensures
    (read_at _ _ c.in_ok-read_try-in-Try.was)

pub read_turn-returns-in-Empty : goal.read_turn-returns-in-Empty
read_turn-returns-in-Empty t c =
    turn_empty _ _ _ _ c.requires (head_is _ _ c.kind_at.ensures c.term_head.ensures c.in-Empty.is)
    (omega (arith, c.requires, (token_onward c.args.text.now c.args.c.now.at).starts))
