use Rattle.check_terms.specs.Calls.{checked_held, checked_fit, checked_distinct, checked_fine, checked_left}
use Rattle.check_terms.proofs.calls.check_lists.Goals as goal

pub lists_held-requires : goal.lists_held-requires
lists_held-requires c = c.requires.1.many

pub returns-then-not-lists_held : goal.returns-then-not-lists_held
returns-then-not-lists_held c = checked_held _ _ _ _ _ _ c.if-not-lists_held.ensures

pub lists_fit-requires : goal.lists_fit-requires
lists_fit-requires c = c.requires

pub returns-then-not-lists_fit : goal.returns-then-not-lists_fit
returns-then-not-lists_fit c = checked_fit _ _ _ _ _ _ c.if-not-lists_held.ensures c.if-not-lists_fit.ensures

pub returns-then-not-names_distinct : goal.returns-then-not-names_distinct
returns-then-not-names_distinct c =
    checked_distinct _ _ _ _ _ _ c.if-not-lists_held.ensures c.if-not-lists_fit.ensures c.if-not-names_distinct.ensures

pub count_left-requires : goal.count_left-requires
count_left-requires c = c.requires.1.many

pub returns-then-count_left-ne0 : goal.returns-then-count_left-ne0
returns-then-count_left-ne0 c =
    checked_left _ _ _ _ _ _ c.if-not-lists_held.ensures c.if-not-lists_fit.ensures c.if-not-names_distinct.ensures
    c.count_left.ensures c.if-count_left-ne0.true

pub returns : goal.returns
returns c =
    checked_fine _ _ _ _ _ _ c.if-not-lists_held.ensures c.if-not-lists_fit.ensures c.if-not-names_distinct.ensures
    c.count_left.ensures c.if-count_left-ne0.false
