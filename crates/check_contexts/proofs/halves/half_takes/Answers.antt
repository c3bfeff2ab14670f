use mathlib.Core.Path.{sym, ◌∙◌, subst}
use Rattle.check_contexts.specs.Halves.{HalfIn, Takes, takes_idle, takes_spawn, takes_try}
use Rattle.check_contexts.proofs.halves.half_takes.Goals as goal

pub any_marked-requires : goal.any_marked-requires
any_marked-requires c = c.requires.2

pub returns-then-not-any_marked : goal.returns-then-not-any_marked
returns-then-not-any_marked c = takes_idle (sym c.any_marked.ensures ∙ c.if-not-any_marked.true)

pub held_initials-initials-requires : goal.held_initials-initials-requires
held_initials-initials-requires c = c.requires.2

pub hide_name-sought-requires : goal.hide_name-sought-requires
hide_name-sought-requires c = c.held_initials-initials.ensures

pub mark_process-requires : goal.mark_process-requires
mark_process-requires c = (c.requires.0, c.held_initials-initials.ensures, subst (HalfIn c.args.text.now c.args.scratch.now) c.in-OfSpawn.is c.requires.1)

pub mark_process-requires-in-OfTry : goal.mark_process-requires-in-OfTry
mark_process-requires-in-OfTry c = (c.requires.0, c.held_initials-initials.ensures, subst (HalfIn c.args.text.now c.args.scratch.now) c.in-OfTry.is c.requires.1)

pub returns-in-OfSpawn : goal.returns-in-OfSpawn
returns-in-OfSpawn c =
    let a = c.args in
    subst (λ d. Takes a.text.now a.scratch.now a.h d a.of c.mark_process.result) (sym c.in-OfSpawn.is) (takes_spawn c.hide_name-sought.ensures c.mark_process.ensures)

pub returns-in-OfTry : goal.returns-in-OfTry
returns-in-OfTry c =
    let a = c.args in
    subst (λ d. Takes a.text.now a.scratch.now a.h d a.of c.mark_process-in-OfTry.result) (sym c.in-OfTry.is) (takes_try c.mark_process-in-OfTry.ensures)
