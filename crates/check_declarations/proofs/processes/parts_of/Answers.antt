use borrow.Author.Tests.{eq-eqb, ne_eqb}
use mathlib.Core.Path.{refl}
use Rattle.check_declarations.specs.ProcessFaults.{parts_of}
use Rattle.check_declarations.proofs.processes.parts_of.Goals as goal

pub returns-then-kind-eq-SPAWN : goal.returns-then-kind-eq-SPAWN
unfolding parts_of
returns-then-kind-eq-SPAWN c = rw (eq-eqb _ _ c.if-kind-eq-SPAWN.true) refl

pub returns-then-kind-eq-RECV_LABEL : goal.returns-then-kind-eq-RECV_LABEL
unfolding parts_of
returns-then-kind-eq-RECV_LABEL c = rw (ne_eqb _ _ c.if-kind-eq-SPAWN.false, eq-eqb _ _ c.if-kind-eq-RECV_LABEL.true) refl

pub returns-then-kind-eq-FWD : goal.returns-then-kind-eq-FWD
unfolding parts_of
returns-then-kind-eq-FWD c = rw (ne_eqb _ _ c.if-kind-eq-SPAWN.false, ne_eqb _ _ c.if-kind-eq-RECV_LABEL.false, eq-eqb _ _ c.if-kind-eq-FWD.true) refl

pub returns-then-kind-eq-CALL : goal.returns-then-kind-eq-CALL
unfolding parts_of
returns-then-kind-eq-CALL c = rw (ne_eqb _ _ c.if-kind-eq-SPAWN.false, ne_eqb _ _ c.if-kind-eq-RECV_LABEL.false, ne_eqb _ _ c.if-kind-eq-FWD.false, eq-eqb _ _ c.if-kind-eq-CALL.true) refl

pub returns-then-kind-eq-TRY : goal.returns-then-kind-eq-TRY
unfolding parts_of
returns-then-kind-eq-TRY c =
    rw (
      ne_eqb _ _ c.if-kind-eq-SPAWN.false,
      ne_eqb _ _ c.if-kind-eq-RECV_LABEL.false,
      ne_eqb _ _ c.if-kind-eq-FWD.false,
      ne_eqb _ _
          c.if-kind-eq-CALL.false,
      eq-eqb _ _ c.if-kind-eq-TRY.true,
    ) refl

pub returns : goal.returns
unfolding parts_of
returns c =
    rw (
      ne_eqb _ _ c.if-kind-eq-SPAWN.false,
      ne_eqb _ _ c.if-kind-eq-RECV_LABEL.false,
      ne_eqb _ _ c.if-kind-eq-FWD.false,
      ne_eqb _ _
          c.if-kind-eq-CALL.false,
      ne_eqb _ _ c.if-kind-eq-TRY.false,
    ) refl
