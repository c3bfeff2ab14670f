use mathlib.Core.Path.{sym, ◌∙◌, ap}
use mathlib.Core.Bool.{true, false}
use Rattle.calculus.specs.SameType.{same_type}
use Rattle.read_tables.specs.Access.{node_there}
use Rattle.read_tables.specs.Program.{plain_in, program_in}
use Rattle.check_terms.specs.Acting.{typed_as, passing_there, passes_nothing, passes_other_end, passes_other_side, passes_by}
use Rattle.check_terms.proofs.acting.passes_over.Goals as goal

pub passing-requires : goal.passing-requires
passing-requires c = (
  c.requires.0.area,
  node_there c.args.text.now c.args.scratch.now c.requires.0 _ (typed_as _ _ c.args.c _ c.wide.ensures.value c.requires.1),
)

pub returns-in_err-t : goal.returns-in_err-t
returns-in_err-t c = rw c.from_residual.ensures (passes_nothing c.requires.0 _ _ c.requires.1 _ c.wide.ensures.value c.in_err-t.ensures)

pub returns-then-c-t : goal.returns-then-c-t
returns-then-c-t c =
    passes_other_end c.requires.0 _ _ c.requires.1 _ c.wide.ensures.value c.in_ok-t.t c.in_ok-t.ensures c.requires.3 c.requires.4 c.if-c-t.true

pub returns-then-a-t : goal.returns-then-a-t
returns-then-a-t c =
    passes_other_side c.requires.0 _ _ c.requires.1 _ c.wide.ensures.value c.in_ok-t.t c.in_ok-t.ensures c.requires.3 c.requires.4
    c.if-c-t.false c.if-a-t.true

pub same_type-requires : goal.same_type-requires
same_type-requires c = (
  c.requires.0,
  typed_as _ _ c.args.a _ c.wide-2.ensures.value c.requires.2,
  (passing_there c.requires.0 c.args.c c.args.a c.requires.1 _ c.wide.ensures.value c.in_ok-t.ensures).parts.0,
)

pub returns-then-same_type : goal.returns-then-same_type
returns-then-same_type c =
    let same = ap (λ k. same_type (program_in c.args.text.now c.args.scratch.now).types (plain_in c.args.text.now c.args.scratch.now k) (plain_in c.args.text.now c.args.scratch.now c.in_ok-t.t.what)) (sym c.wide-2.ensures.value) in
    passes_by c.requires.0 _ _ c.requires.1 _ c.wide.ensures.value c.in_ok-t.t c.in_ok-t.ensures c.requires.3 c.requires.4
    c.if-c-t.false c.if-a-t.false true (same ∙ sym c.if-same_type.ensures)

pub returns : goal.returns
returns c =
    let same = ap (λ k. same_type (program_in c.args.text.now c.args.scratch.now).types (plain_in c.args.text.now c.args.scratch.now k) (plain_in c.args.text.now c.args.scratch.now c.in_ok-t.t.what)) (sym c.wide-2.ensures.value) in
    passes_by c.requires.0 _ _ c.requires.1 _ c.wide.ensures.value c.in_ok-t.t c.in_ok-t.ensures c.requires.3 c.requires.4
    c.if-c-t.false c.if-a-t.false false (same ∙ sym c.if-same_type.ensures)
