use Rattle.std.proofs.Common.{arith}
use Rattle.run_words.specs.ListLaws.{all_at}
use Rattle.run_words.specs.Raw.{BoundedEnd}
use Rattle.run_words.specs.Values.{held_in}
use Rattle.check_contexts.specs.Halves.{pick_none, pick_kept, pick_left, pick_all}
use Rattle.check_contexts.proofs.halves.keep.Goals as goal
use Rattle.check_contexts.proofs.halves.keep.Goals.{then-is_marked-want, else-is_marked-want}

pub loop-k-init : goal.loop-k-init
loop-k-init c = pick_none _ c.no_ends-r.ensures.result_value c.no_ends-r.ensures.count_value

pub with-r-requires : goal.with-r-requires
with-r-requires c = record {
  count_lt_held_limit = omega (arith, c.loop-k.invariant.few);
  bounded_end = (all_at BoundedEnd (held_in c.args.h) c.loop-k.k c.requires.1 c.end_at-e.ensures.k_value, c.end_at-e.ensures.side_lt_side_radix.0);
}

pub loop-k-preserved : goal.loop-k-preserved
loop-k-preserved c =
    elim c.if-is_marked-want.branch [
      | then-is_marked-want w ↦ rw w.r-is (pick_kept c.loop-k.invariant _ c.end_at-e.ensures.k_value c.is_marked.ensures w.if-is_marked-want.true w.with-r.ensures.result_value w.with-r.ensures.count_value)
      | else-is_marked-want w ↦ rw w.r-is (pick_left c.loop-k.invariant _ c.end_at-e.ensures.k_value c.is_marked.ensures w.if-is_marked-want.false)
    ]

pub returns : goal.returns
returns c = pick_all c.loop-k.invariant (omega arith)
