use mathlib.Core.Path.{sym}
use Rattle.run_words.specs.Raw.{raw_in}
use Rattle.run_words.proofs.Searches.{far_held, far_used, far_provided}
use Rattle.run_words.proofs.far.far_by.Goals as goal

pub returns-in-Some : goal.returns-in-Some
returns-in-Some c = sym (far_held (raw_in c.args.run.now) c.args.channel c.args.side c.requires.side_lt_side_radix c.args.h (sym c.requires.h_value) _ _ c.in-Some.is)

pub returns-then-side-eq-USED : goal.returns-then-side-eq-USED
returns-then-side-eq-USED c = sym (far_used (raw_in c.args.run.now) c.args.channel c.args.side c.requires.side_lt_side_radix c.args.h (sym c.requires.h_value) c.in_default.is c.if-side-eq-USED.true)

pub returns-in-Some-find_outside : goal.returns-in-Some-find_outside
returns-in-Some-find_outside c =
    sym (far_provided (raw_in c.args.run.now) c.args.channel c.args.side c.requires.side_lt_side_radix c.args.h (sym c.requires.h_value) c.in_default.is
    c.if-side-eq-USED.false _ (sym c.in-Some-find_outside.ensures))

pub returns-in-None : goal.returns-in-None
returns-in-None c =
    sym (far_provided (raw_in c.args.run.now) c.args.channel c.args.side c.requires.side_lt_side_radix c.args.h (sym c.requires.h_value) c.in_default.is
    c.if-side-eq-USED.false _ (sym c.in-None.ensures))
