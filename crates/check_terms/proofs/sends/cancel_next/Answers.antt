use mathlib.Core.Path.{refl}
use Rattle.check_terms.specs.Sends.{gives_not, gives_so}
use Rattle.check_terms.specs.Next.{stops, goes}
use Rattle.check_terms.proofs.sends.cancel_next.Goals as goal

pub is_new-requires : goal.is_new-requires
is_new-requires c = c.requires.1.many

pub returns-then-is_new : goal.returns-then-is_new
returns-then-is_new c = stops refl (gives_not _ _ c.args.h c.args.c (c.if-is_new.ensures c.args.scratch.now))

pub drop_end-requires : goal.drop_end-requires
drop_end-requires c = c.requires.1.many

pub returns : goal.returns
returns c =
    goes _ (c.drop_end.ensures.fits _ c.requires.1)
    (gives_so _ _ c.args.h c.args.c (c.if-is_new.ensures c.args.scratch.now) c.drop_end.ensures)
