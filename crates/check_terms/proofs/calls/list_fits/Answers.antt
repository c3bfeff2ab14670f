use mathlib.Core.Path.{refl, sym, ◌∙◌}
use native.Mathlib.Omega.{arith}
use Rattle.check_terms.specs.Lists.{fit_start, fit_end, fit_short, entries_left, fit_on, fit_not}
use Rattle.check_contexts.specs.Walks.{forward_name}
use Rattle.read_tables.specs.Access.{entry_there}
use Rattle.check_terms.proofs.calls.list_fits.Goals as goal

pub loop-x-init : goal.loop-x-init
loop-x-init c = fit_start _ _ _ _ _ _ _ c.requires.3

pub returns : goal.returns
returns c = fit_end _ _ _ _ _ _ _ _ _ _ c.loop-x.invariant _ (sym c.in_default.ensures.value)

pub returns-then-m-eq0 : goal.returns-then-m-eq0
returns-then-m-eq0 c = fit_short _ _ _ _ _ _ _ _ _ _ c.loop-x.invariant _ _ (sym c.in-Name.ensures.value) c.if-m-eq0.true

pub entry-t-requires : goal.entry-t-requires
entry-t-requires c = (
  c.requires.0.area,
  entry_there _ _ c.requires.0 _ _ (entries_left _ _ _ _ _ _ _ _ _ _ c.loop-x.invariant c.if-m-eq0.false),
)

pub entry_fits-requires : goal.entry_fits-requires
entry_fits-requires c = (
  c.requires.0,
  c.requires.1,
  c.requires.2,
  (c.entry-t.ensures.says _ _ (entries_left _ _ _ _ _ _ _ _ _ _ c.loop-x.invariant c.if-m-eq0.false)).type,
)

pub returns-then-not-entry_fits : goal.returns-then-not-entry_fits
returns-then-not-entry_fits c =
    fit_not _ _ _ _ _ _ _ _ _ _ c.loop-x.invariant c.if-m-eq0.false _ c.entry-t.ensures _ _ (sym c.in-Name.ensures.value)
    (sym c.entry_fits.ensures ∙ c.if-not-entry_fits.true)

pub overflow_add-k : goal.overflow_add-k
overflow_add-k c =
    omega (
      arith,
      entry_there _ _ c.requires.0 _ _ (entries_left _ _ _ _ _ _ _ _ _ _ c.loop-x.invariant c.if-m-eq0.false),
    )

pub loop-x-smaller : goal.loop-x-smaller
loop-x-smaller c = omega (arith, forward_name _ _ _ _ _ c.next_argument.ensures.forward c.in-Name.is)

pub loop-x-preserved : goal.loop-x-preserved
loop-x-preserved c =
    fit_on _ _ _ _ _ _ _ _ _ _ c.loop-x.invariant c.if-m-eq0.false _ c.entry-t.ensures _ _ (sym c.in-Name.ensures.value) _ _ refl refl
    (sym c.entry_fits.ensures ∙ c.if-not-entry_fits.false)
