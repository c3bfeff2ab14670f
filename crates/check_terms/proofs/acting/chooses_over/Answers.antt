use Rattle.read_tables.specs.Access.{node_there}
use Rattle.check_terms.specs.Acting.{typed_as, listed, chooses_nothing, chooses_other_end, chooses_by}
use Rattle.check_terms.proofs.acting.chooses_over.Goals as goal

pub choosing-requires : goal.choosing-requires
choosing-requires c = (
  c.requires.0.area,
  node_there c.args.text.now c.args.scratch.now c.requires.0 _ (typed_as _ _ c.args.c _ c.wide.ensures.value c.requires.1),
)

pub returns-in_err-t : goal.returns-in_err-t
returns-in_err-t c = rw c.from_residual.ensures (chooses_nothing c.requires.0 _ _ c.requires.1 _ c.wide.ensures.value c.in_err-t.ensures)

pub returns-then-c-t : goal.returns-then-c-t
returns-then-c-t c = chooses_other_end c.requires.0 _ _ c.requires.1 _ c.wide.ensures.value c.in_ok-t.t c.in_ok-t.ensures c.requires.2 c.if-c-t.true

pub labelled-requires : goal.labelled-requires
labelled-requires c = (
  c.requires.0,
  (listed c.requires.0 c.args.c c.args.at c.requires.1 _ c.wide.ensures.value c.in_ok-t.t c.in_ok-t.ensures c.requires.2).1,
)

pub returns : goal.returns
returns c =
    chooses_by c.requires.0 _ _ c.requires.1 _ c.wide.ensures.value c.in_ok-t.t c.in_ok-t.ensures c.requires.2 _
    c.if-c-t.false c.labelled.ensures
