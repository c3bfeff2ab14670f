use Rattle.std.proofs.Common.{sym, ◌∙◌, arith, rules}
use Rattle.check_contexts.specs.Initials.{put_excluded}
use Rattle.check_contexts.specs.Marks.{put_none, put_here, put_not, put_all}
use Rattle.check_contexts.proofs.names.put_mark.Goals as goal
use Rattle.check_contexts.proofs.names.put_mark.Goals.{then-meets, else-meets}

pub returns-then-not-may_be_held : goal.returns-then-not-may_be_held
returns-then-not-may_be_held c = put_excluded c.requires _ (sym c.may_be_held.ensures ∙ c.if-not-may_be_held.true)

pub loop-k-init : goal.loop-k-init
loop-k-init c = put_none (search rules)

pub loop-k-preserved : goal.loop-k-preserved
loop-k-preserved c =
    elim c.if-meets.branch [
      | then-meets w ↦ rw w.r-is (put_here c.loop-k.invariant c.meets.ensures w.if-meets.true (omega arith))
      | else-meets w ↦ rw w.r-is (put_not c.loop-k.invariant c.meets.ensures w.if-meets.false)
    ]

pub returns : goal.returns
returns c = put_all c.loop-k.invariant (omega arith)
