-- Fwd: the far ends of its two channels become one channel, and it is left empty.
use Rattle.std.specs.Prelude.{◌≡◌, ℕ}
use Rattle.std.proofs.Common.{sym, ◌∙◌, ap, subst}
use mathlib.Core.List.Sublistᴰ
use mathlib.Core.List.{[]}
use Rattle.std.proofs.Math.Option.{some, some-injective}
use Rattle.notation.specs.Tree.{Located, fwd}
use Rattle.calculus.specs.Named.{lookup}
use Rattle.calculus.specs.Types.{provided, used, other}
use Rattle.calculus.specs.Program.{Program}
use Rattle.calculus.specs.OneType.{OneType}
use Rattle.calculus.specs.Typing.{Typed, forwards}
use Rattle.calculus.specs.Configuration.{End, running, folding, Process, Config, Stands, with_outside, replaced, Holder, relinked, moved_outside, folds_up}
use Rattle.calculus.specs.Steps.{moved_end, far_moved}
use Rattle.calculus.specs.Reduces.{GivesUp}
use Rattle.calculus.specs.WellFormed.{context_of}
use Rattle.calculus.specs.declared.answers.Seen.{Seen}
use Rattle.theory_ends.specs.Contexts.{held_plain}
use Rattle.theory_ends.specs.FarEnds.{HeldFar}
use Rattle.theory_preservation.specs.Roster.{runs_awake, goes_folding}
use Rattle.theory_preservation.specs.Forwarding.{forwarded, forwarded_out}
use Rattle.theory_preservation.specs.Relocating.{Relocated, relocated}
use Rattle.theory_preservation.specs.Invariant.{Inv, at_roster, fine_at, inv_set, inv_two}
use Rattle.theory_preservation.specs.GivingUp.{folds_up_lem, parts}

-- the far end of e is moved to the channel m
pub far_relocated : {p : Program} {C : Config} (I : Inv p C) (e : End) (m : ℕ) {h : Holder} (f : HeldFar C e h)
    → Relocated f.end m h.process.held (moved_end e.channel (other e.side) m h.process.held)
far_relocated I e m {h} f =
    subst (Relocated f.end m h.process.held) (λ t. moved_end (f.channel t) (f.side t) m h.process.held)
    (relocated h.name f.end m h.process.held (fine_at I h.place h.process f.stands).keys f.held)

module _ {p : Program} {C : Config} (I : Inv p C) {i : ℕ} {q : Process} (here : Stands C i q) where
  -- e is the end of x, d that of c
  module _ {o : ℕ} {x c : Located} (r : q.doing ≡ running (fwd o x c)) {e d : End} (le : lookup x.name q.held ≡ some e) (ld : lookup c.name q.held ≡ some d) where
    -- x is provided, c is used, and their types are one
    pub record ForwarderTyped : Type 0 where
      pub gives : e.side ≡ provided
      pub takes : d.side ≡ used
      pub one : OneType p e.type d.type

    pub forwards_as : Typed p (context_of q.held) (fwd o x c) → ForwarderTyped
    forwards_as (forwards A B hx hc ab _) =
        let a = held_plain x.name q.held provided A hx in
        let b = held_plain c.name q.held used B hc in
        let ea : a.end ≡ e = some-injective _ _ (sym a.found ∙ le) in
        let db : b.end ≡ d = some-injective _ _ (sym b.found ∙ ld) in
        record {
          gives = ap (λ (e : End). e.side) (sym ea) ∙ a.side;
          takes = ap (λ (e : End). e.side) (sym db) ∙ b.side;
          one = rw (ap (λ (e : End). e.type) (sym ea) ∙ a.type, ap (λ (e : End). e.type) (sym db) ∙ b.type) ab;
        }

    pub forward_keeps : {h : Holder} → Typed p (context_of q.held) (fwd o x c) → HeldFar C e h → Inv p (replaced h.place (far_moved e d h.process) (replaced i (folds_up q []) C))
    forward_keeps {h} t f =
        let m = forwards_as t in
        inv_two I i h.place q h.process here.there f.stands folding h.process.doing [] _
        (forwarded I.good (I.id i) (relinked I.id q) (at_roster I i q here.there) (runs_awake r) x.name c.name e d le ld m.gives m.takes m.one (I.id h.place)
        (relinked I.id h.process) (at_roster I h.place h.process f.stands) h.name f.end f.held f.channel f.side _ (far_relocated I e d.channel f))

    pub forward_out_keeps : Typed p (context_of q.held) (fwd o x c) → Inv p (with_outside (moved_outside e.channel d.channel C.outside) (replaced i (folds_up q []) C))
    forward_out_keeps t =
        let m = forwards_as t in
        inv_set I i q here.there folding [] I.numbers
        (forwarded_out I.good (I.id i) (relinked I.id q) (at_roster I i q here.there) (runs_awake r) x.name c.name e d le ld m.gives m.takes m.one)

    pub joined_nobody : Inv p (replaced i (folds_up q []) C)
    joined_nobody = folds_up_lem I here (runs_awake r) (Sublistᴰ.nil-sublist q.held)

    pub nobody_joined : {seen : Seen} {D : Config} → GivesUp C e seen D → Inv p (replaced i (folds_up q []) D)
    nobody_joined g = parts I here folding (goes_folding (runs_awake r)) (Sublistᴰ.nil-sublist q.held) tt g
