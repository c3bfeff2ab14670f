use mathlib.Core.Path.{sym, ◌∙◌}
use Rattle.check_terms.specs.Sends.{sees_so}
use Rattle.check_terms.specs.Endings.{forwards_no_x, forwards_no_c, forwards_not, forwards_left, forwards_so}
use Rattle.check_terms.specs.Next.{handed_on}
use Rattle.check_terms.proofs.forwards.check_forward.Goals as goal

pub find_end-requires : goal.find_end-requires
find_end-requires c = c.requires.1.many

pub returns-in_err-e : goal.returns-in_err-e
returns-in_err-e c =
    let none = c.in_err-e.ensures.ok_part in
    handed_on _ c.from_residual.ensures.1 none c.in_err-e.ensures.value ∙ sym (forwards_no_x _ _ c.find_end.ensures none)

pub find_end-requires-2 : goal.find_end-requires-2
find_end-requires-2 c = c.requires.1.many

pub returns-in_err-d : goal.returns-in_err-d
returns-in_err-d c =
    let none = c.in_err-d.ensures.ok_part in
    handed_on _ c.from_residual-in_err-d.ensures.1 none c.in_err-d.ensures.value ∙ sym
    (forwards_no_c _ _ (sees_so c.requires.1 c.find_end.ensures c.in_ok-e.ensures.ok_part) c.find_end-2.ensures none)

pub may_join-requires : goal.may_join-requires
may_join-requires c =
    let x = sees_so c.requires.1 c.find_end.ensures c.in_ok-e.ensures.ok_part in
    let y = sees_so c.requires.1 c.find_end-2.ensures c.in_ok-d.ensures.ok_part in
    (c.requires.0, x.fits, y.fits, x.side, y.side)

pub returns-then-not-may_join : goal.returns-then-not-may_join
returns-then-not-may_join c =
    sym (forwards_not _ _ (sees_so c.requires.1 c.find_end.ensures c.in_ok-e.ensures.ok_part)
    (sees_so c.requires.1 c.find_end-2.ensures c.in_ok-d.ensures.ok_part) c.if-not-may_join.ensures)

pub drop_end-l-requires : goal.drop_end-l-requires
drop_end-l-requires c = c.requires.1.many

pub drop_end-r-requires : goal.drop_end-r-requires
drop_end-r-requires c = (c.drop_end-l.ensures.fits _ c.requires.1).many

pub returns-then-r-ne0 : goal.returns-then-r-ne0
returns-then-r-ne0 c =
    sym (forwards_left _ _ (sees_so c.requires.1 c.find_end.ensures c.in_ok-e.ensures.ok_part)
    (sees_so c.requires.1 c.find_end-2.ensures c.in_ok-d.ensures.ok_part) c.if-not-may_join.ensures
    c.drop_end-l.ensures c.drop_end-r.ensures c.if-r-ne0.true)

pub returns : goal.returns
returns c =
    sym (forwards_so _ _ (sees_so c.requires.1 c.find_end.ensures c.in_ok-e.ensures.ok_part)
    (sees_so c.requires.1 c.find_end-2.ensures c.in_ok-d.ensures.ok_part) c.if-not-may_join.ensures
    c.drop_end-l.ensures c.drop_end-r.ensures c.if-r-ne0.false)
