use native.Mathlib.Omega.{arith}
use Prim.Native.Nat.{◌-◌}
use mathlib.Core.Path.{sym, ◌∙◌}
use borrow.Author.Tests.{eq-eqb}
use Rattle.run_words.specs.Raw.{raw_in}
use Rattle.run_joints.specs.Tests.{before}
use Rattle.run_joints.proofs.Handlers.{no_link_new, new_unless_linked}
use Rattle.run_joints.proofs.links.link_new.Goals as goal

pub returns-then-link-eq-UNLINKED : goal.returns-then-link-eq-UNLINKED
returns-then-link-eq-UNLINKED c =
    no_link_new (before c.args.n (raw_in c.args.run.now).processes) c.args.link c.if-link-eq-UNLINKED.true
    ∙ sym (eq-eqb _ _ c.if-link-eq-UNLINKED.true)

pub returns-else-link-eq-UNLINKED : goal.returns-else-link-eq-UNLINKED
returns-else-link-eq-UNLINKED c = new_unless_linked (before c.args.n (raw_in c.args.run.now).processes) c.args.link (c.wide.result - 1) (omega arith) c.linked_before.ensures
