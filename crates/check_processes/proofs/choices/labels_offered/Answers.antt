use Rattle.read_tables.specs.Access.{node_there}
use Rattle.check_terms.specs.Acting.{typed_as}
use Rattle.check_terms.specs.Next.{handed_on}
use Rattle.check_terms.specs.Sends.{acts_so}
use Rattle.check_processes.specs.Offers.{offers_absent, offers_nothing, labels_there, offers_own_end, offers_not, offers_so}
use Rattle.check_processes.proofs.choices.labels_offered.Goals as goal

pub acting-requires : goal.acting-requires
acting-requires c = (c.requires.0, c.requires.1)

pub returns-in_err-e : goal.returns-in_err-e
returns-in_err-e c =
    let none = c.in_err-e.ensures.ok_part in
    offers_absent _ (handed_on _ c.from_residual.ensures.1 none c.in_err-e.ensures.value) c.acting.ensures none

pub choosing-requires : goal.choosing-requires
choosing-requires c = (
  c.requires.0.area,
  node_there _ _ c.requires.0 _ (typed_as _ _ _ _ c.wide.ensures.value (acts_so c.acting.ensures c.in_ok-e.ensures.ok_part).fits),
)

pub returns-in_err-t : goal.returns-in_err-t
returns-in_err-t c =
    let none = c.in_err-t.ensures.ok_part in
    offers_nothing _ (acts_so c.acting.ensures c.in_ok-e.ensures.ok_part) c.requires.0 c.wide.ensures.value c.choosing.ensures
    (handed_on _ c.from_residual-in_err-t.ensures.1 none c.in_err-t.ensures.value) none

pub returns-then-e-t : goal.returns-then-e-t
returns-then-e-t c =
    offers_own_end _ (acts_so c.acting.ensures c.in_ok-e.ensures.ok_part) c.requires.0 c.wide.ensures.value c.choosing.ensures
    c.in_ok-t.ensures.ok_part c.if-e-t.true

pub labels_fit-requires : goal.labels_fit-requires
labels_fit-requires c = (
  c.requires.0,
  labels_there c.args.n (acts_so c.acting.ensures c.in_ok-e.ensures.ok_part) c.requires.0 c.wide.ensures.value c.choosing.ensures c.in_ok-t.ensures.ok_part,
  c.requires.2,
)

pub returns-then-not-labels_fit : goal.returns-then-not-labels_fit
returns-then-not-labels_fit c =
    offers_not _ (acts_so c.acting.ensures c.in_ok-e.ensures.ok_part) c.requires.0 c.wide.ensures.value c.choosing.ensures
    c.in_ok-t.ensures.ok_part c.if-e-t.false c.if-not-labels_fit.ensures

pub returns : goal.returns
returns c =
    offers_so _ (acts_so c.acting.ensures c.in_ok-e.ensures.ok_part) c.requires.0 c.wide.ensures.value c.choosing.ensures
    c.in_ok-t.ensures.ok_part c.if-e-t.false c.if-not-labels_fit.ensures
