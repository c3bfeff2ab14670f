use borrow.Author.Tests.{eq-eqb, ne_eqb}
use native.Mathlib.Omega.{arith}
use mathlib.Core.Path.{refl, ap, sym, ◌∙◌}
use Rattle.read_types.proofs.Gathering.{gathered_start, gathered_on, gathered_end, label_no, typed_no, comma_no, read_one}
use Rattle.read_types.proofs.TypePaths.{atom_one, atom_name, atom_round, atom_choice, atom_other, choice_mark}
use Rattle.read_types.proofs.TypePaths.{choice_no, choice_list_no, choice_close_no, choice_got}
use Rattle.read_types.proofs.Chains.{chain_start, chain_on, chain_no, chain_end, infix_most}
use Rattle.read_types.proofs.Taking.{step_no, step_at, read_no, read_at, read_left}
use Rattle.std.specs.Prelude.{Err}
use Rattle.read_types.proofs.types.+read_alternatives_read_atom_read_choice_read_round_read_type.Goals as goal

pub read_alternatives-loop-i-init : goal.read_alternatives-loop-i-init
read_alternatives-loop-i-init t c = gathered_start _ refl c.requires

pub read_alternatives-returns-in_err-i : goal.read_alternatives-returns-in_err-i
read_alternatives-returns-in_err-i t c =
    label_no c.loop-i.invariant c.label_colon.ensures (step_no _ c.in_err-i.was)
    (read_left _ _ _ c.from_residual.ensures.1)

pub read_alternatives-returns-in_err-read_type : goal.read_alternatives-returns-in_err-read_type
read_alternatives-returns-in_err-read_type t c =
    typed_no c.loop-i.invariant c.label_colon.ensures (step_at _ c.in_ok-i.was)
    c.read_type.ensures (read_no _ _ c.in_err-read_type.was) (read_left _ _ _ c.from_residual-in_err-read_type.ensures.1)

pub read_alternatives-bounds-kept-n : goal.read_alternatives-bounds-kept-n
read_alternatives-bounds-kept-n t c =
    omega (
      arith,
      read_one c.loop-i.invariant c.label_colon.ensures
          (step_at _ c.in_ok-i.was) c.read_type.ensures (read_at _ _ c.in_ok-read_type.was),
    )

pub read_alternatives-returns-in_err-expect : goal.read_alternatives-returns-in_err-expect
read_alternatives-returns-in_err-expect t c =
    comma_no c.loop-i.invariant c.label_colon.ensures (step_at _ c.in_ok-i.was)
    c.read_type.ensures (read_at _ _ c.in_ok-read_type.was) c.pair_word.ensures
    (eq-eqb _ _ (sym c.kind_at.ensures ∙ c.if-kind_at-eq-COMMA.true)) c.expect.ensures
    (step_no _ c.in_err-expect.was) (read_left _ _ _ c.from_residual-in_err-expect.ensures.1)

pub read_alternatives-loop-i-preserved : goal.read_alternatives-loop-i-preserved
read_alternatives-loop-i-preserved t c =
    gathered_on c.loop-i.invariant c.label_colon.ensures
    (step_at _ c.in_ok-i.was) c.read_type.ensures (read_at _ _ c.in_ok-read_type.was)
    c.pair_word.ensures (eq-eqb _ _ (sym c.kind_at.ensures ∙ c.if-kind_at-eq-COMMA.true))
    c.expect.ensures (step_at _ c.in_ok-expect.was)

pub read_alternatives-put_alternatives-requires : goal.read_alternatives-put_alternatives-requires
read_alternatives-put_alternatives-requires t c =
    omega (
      arith,
      read_one c.loop-i.invariant c.label_colon.ensures
          (step_at _ c.in_ok-i.was) c.read_type.ensures (read_at _ _ c.in_ok-read_type.was),
    )

pub read_alternatives-returns-else-kind_at-eq-COMMA : goal.read_alternatives-returns-else-kind_at-eq-COMMA
read_alternatives-returns-else-kind_at-eq-COMMA t c =
    gathered_end c.loop-i.invariant c.label_colon.ensures
    (step_at _ c.in_ok-i.was) c.read_type.ensures (read_at _ _ c.in_ok-read_type.was)
    c.pair_word.ensures (ne_eqb _ _ (λ q. c.if-kind_at-eq-COMMA.false (c.kind_at.ensures ∙ q)))
    c.put_alternatives.ensures

pub read_atom-returns-then-kind-eq-ONE : goal.read_atom-returns-then-kind-eq-ONE
read_atom-returns-then-kind-eq-ONE t c = atom_one _ _ _ _ c.requires _ c.kind_at-kind.ensures c.if-kind-eq-ONE.true c.one_type.ensures

pub read_atom-returns-then-kind-eq-NAME : goal.read_atom-returns-then-kind-eq-NAME
read_atom-returns-then-kind-eq-NAME t c = atom_name _ _ _ _ c.requires _ c.kind_at-kind.ensures c.if-kind-eq-NAME.true c.name_type.ensures

pub read_atom-returns-then-kind-eq-ROUND_OPEN : goal.read_atom-returns-then-kind-eq-ROUND_OPEN
read_atom-returns-then-kind-eq-ROUND_OPEN t c = atom_round _ _ _ _ c.requires _ c.kind_at-kind.ensures c.if-kind-eq-ROUND_OPEN.true c.read_round.ensures

pub read_atom-read_choice-requires : goal.read_atom-read_choice-requires
read_atom-read_choice-requires t c =
    let mark = sym c.is_choice.ensures ∙ c.if-is_choice.true in
    (omega (arith, c.decreases), (c.requires, choice_mark _ mark))

pub read_atom-returns-then-is_choice : goal.read_atom-returns-then-is_choice
read_atom-returns-then-is_choice t c =
    atom_choice _ _ _ _ c.requires _ c.kind_at-kind.ensures (sym c.is_choice.ensures ∙ c.if-is_choice.true)
    c.read_choice.ensures

pub read_atom-returns : goal.read_atom-returns
read_atom-returns t c =
    atom_other _ _ _ _ c.requires _ c.kind_at-kind.ensures c.if-kind-eq-ONE.false c.if-kind-eq-NAME.false
    c.if-kind-eq-ROUND_OPEN.false (sym c.is_choice.ensures ∙ c.if-is_choice.false) (ap (λ y. Err y) c.misfit.ensures)

pub read_choice-returns-in_err-choice_opening : goal.read_choice-returns-in_err-choice_opening
read_choice-returns-in_err-choice_opening t c =
    choice_no _ _ _ _ c.requires.room _ c.requires.le_kind.0 c.requires.le_kind.1 c.choice_opening.ensures
    (step_no _ c.in_err-choice_opening.was) (read_left _ _ _ c.from_residual.ensures.1)

pub read_choice-returns-in_err-read_alternatives : goal.read_choice-returns-in_err-read_alternatives
read_choice-returns-in_err-read_alternatives t c =
    choice_list_no _ _ _ _ c.requires.room _ c.requires.le_kind.0 c.requires.le_kind.1 c.choice_opening.ensures
    (step_at _ c.in_ok-choice_opening.was) (rw c.count_node.ensures at c.read_alternatives.ensures) (read_no _ _ c.in_err-read_alternatives.was) (read_left _ _ _ c.from_residual-in_err-read_alternatives.ensures.1)

pub read_choice-returns-in_err-expect : goal.read_choice-returns-in_err-expect
read_choice-returns-in_err-expect t c =
    choice_close_no _ _ _ _ c.requires.room _ c.requires.le_kind.0 c.requires.le_kind.1 c.choice_opening.ensures
    (step_at _ c.in_ok-choice_opening.was) (rw c.count_node.ensures at c.read_alternatives.ensures) (read_at _ _ c.in_ok-read_alternatives.was)
    c.expect.ensures (step_no _ c.in_err-expect.was) (read_left _ _ _ c.from_residual-in_err-expect.ensures.1)

pub read_choice-returns : goal.read_choice-returns
read_choice-returns t c =
    choice_got _ _ _ _ c.requires.room _ c.requires.le_kind.0 c.requires.le_kind.1 c.choice_opening.ensures
    (step_at _ c.in_ok-choice_opening.was) (rw c.count_node.ensures at c.read_alternatives.ensures) (read_at _ _ c.in_ok-read_alternatives.was)
    c.expect.ensures (step_at _ c.in_ok-expect.was) c.put_node.ensures refl

pub read_type-loop-next-init : goal.read_type-loop-next-init
read_type-loop-next-init t c = chain_start c.requires

pub read_type-returns-in_err-read_atom : goal.read_type-returns-in_err-read_atom
read_type-returns-in_err-read_atom t c = c.loop-next.invariant.no c.read_atom.ensures (read_no _ _ c.in_err-read_atom.was) (read_left _ _ _ c.from_residual.ensures.1)

pub read_type-type_term-requires : goal.read_type-type_term-requires
read_type-type_term-requires t c = (c.loop-next.invariant.room.0, infix_most _ (sym c.is_infix.ensures ∙ c.if-is_infix.true))

pub read_type-returns-in_err-type_term : goal.read_type-returns-in_err-type_term
read_type-returns-in_err-type_term t c =
    let loop = c.loop-next in
    let read = c.read_atom in
    chain_no loop.invariant read.ensures (read_at _ _ c.in_ok-read_atom.was) c.kind_at-next.ensures
    c.root_before-right.ensures.value c.put_infix.ensures c.whole_root-root.ensures
    (sym c.is_infix.ensures ∙ c.if-is_infix.true)
    c.type_term.ensures (step_no _ c.in_err-type_term.was) (read_left _ _ _ c.from_residual-in_err-type_term.ensures.1)

pub read_type-loop-next-preserved : goal.read_type-loop-next-preserved
read_type-loop-next-preserved t c =
    let loop = c.loop-next in
    let read = c.read_atom in
    rw c.count_node.ensures (chain_on loop.invariant read.ensures (read_at _ _ c.in_ok-read_atom.was) c.kind_at-next.ensures
    c.root_before-right.ensures.value c.put_infix.ensures c.whole_root-root.ensures
    (sym c.is_infix.ensures ∙ c.if-is_infix.true)
    c.type_term.ensures (step_at _ c.in_ok-type_term.was))

pub read_type-returns-else-is_infix : goal.read_type-returns-else-is_infix
read_type-returns-else-is_infix t c =
    let loop = c.loop-next in
    let read = c.read_atom in
    chain_end loop.invariant read.ensures (read_at _ _ c.in_ok-read_atom.was) c.kind_at-next.ensures
    c.root_before-right.ensures.value c.put_infix.ensures c.whole_root-root.ensures
    (sym c.is_infix.ensures ∙ c.if-is_infix.false) refl
