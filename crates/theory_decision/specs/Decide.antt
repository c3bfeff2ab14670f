-- Whether a configuration is well formed, as a test.
use Rattle.std.specs.Prelude.{ℕ, suc, ◌≡◌, refl, ◌↔◌, List, [], ◌∷◌, map, Bool, true, false, cond, ◌&&◌, length, leb, ltb}
use Rattle.std.proofs.Math.Logic.Iff
use Rattle.std.proofs.Math.Bool.{So}
use Rattle.notation.specs.Limits.{held_limit, process_places, channel_places, outside_numbers}
use Rattle.notation.specs.Tree.{Proc}
use Rattle.calculus.specs.Named.{NoneTwice, names, distinct, every}
use Rattle.calculus.specs.Program.{Context, Program}
use Rattle.calculus.specs.Verdict.{Verdict, fine, refused}
use Rattle.calculus.specs.Declarations.{outward}
use Rattle.calculus.specs.Typing.{Typed}
use Rattle.calculus.specs.Checking.{check}
use Rattle.calculus.specs.Configuration.{End, Doing, running, folding, waiting, Process, Outside, Config}
use Rattle.calculus.specs.Forest.{joints}
use Rattle.calculus.specs.WellFormed.{Rising, context_of, ends, TypedAs, WellFormed}
use Rattle.theory_derivations.specs.Booleans.{never, ◌and◌, and_cond, ltb_iff, leb_iff}
use Rattle.theory_derivations.specs.Fine.{refuted}
use Rattle.theory_derivations.specs.Named.{distinct_iff}
use Rattle.theory_derivations.specs.Reached.{outward_iff}
use Rattle.theory_derivations.specs.Rules.{check_iff}
use Rattle.theory_decision.specs.Lists.{all_law}
use Rattle.theory_decision.specs.Circles.{forest?, forest?_iff}
use Rattle.theory_decision.specs.Ends.{ends_fit, ends_fit_iff}
use Rattle.theory_decision.specs.Halting.{halt_fits, halt_fits_iff}
use Rattle.theory_decision.specs.Links.{places_law, links_lead, links_lead_iff, handlers_linked, handlers_linked_iff, linked_once, linked_once_iff}

-- ── typing, by the checking pass
abbrev pub is_fine : Verdict → Bool
is_fine fine = true
is_fine (refused n at) = false

is_fine_iff : (v : Verdict) → So (is_fine v) ↔ (v ≡ fine)
is_fine_iff fine = (λ _. refl, λ _. refl)
is_fine_iff (refused n at) = (never, refuted)

abbrev pub typed? : Program → Context → Proc → Bool
typed? p G P = distinct (names G) && is_fine (check p G P)

typed?_iff : (p : Program) (G : Context) (P : Proc) → So (typed? p G P) ↔ (NoneTwice (names G) × Typed p G P)
typed?_iff p G P = distinct_iff (names G) and Iff.trans (is_fine_iff (check p G P)) (check_iff p P G)

abbrev pub typed_as? : Program → Context → Doing → Bool
typed_as? p G (running P) = typed? p G P
typed_as? p G folding = true
typed_as? p G (waiting Q) = typed? p G Q

typed_as?_iff : (p : Program) (G : Context) (d : Doing) → So (typed_as? p G d) ↔ TypedAs p G d
typed_as?_iff p G (running P) = typed?_iff p G P
typed_as?_iff p G folding = (λ _. tt, λ _. refl)
typed_as?_iff p G (waiting Q) = typed?_iff p G Q

-- ── numbers that rise
unfoldable pub rising : ℕ → List ℕ → Bool
rising low [] = true
rising low (n ∷ l) = let r = rising (suc n) l in cond (leb low n) r false

rising_iff : (low : ℕ) (l : List ℕ) → So (rising low l) ↔ Rising low l
unfolding rising
rising_iff low [] = (λ _. tt, λ _. refl)
rising_iff low (n ∷ l) = Iff.trans (and_cond (leb low n) (rising (suc n) l)) (Iff.and (leb_iff low n) (rising_iff (suc n) l))

-- ── the clauses in one
unfoldable pub well_formed? : Program → Config → Bool
well_formed? p C =
    every (λ q. typed_as? p (context_of q.held) q.doing) C.processes
    && ends_fit p (ends C)
    && links_lead C
    && handlers_linked C
    && linked_once C
    && forest? (joints C)
    && every (λ (o : Outside). outward p o.type && ltb o.number C.given) C.outside
    && rising 0 (map (λ (o : Outside). o.number) C.outside)
    && halt_fits C
    && leb (length C.processes) process_places
    && every (λ (e : End). ltb e.channel channel_places) (ends C)
    && leb C.given outside_numbers
    && every (λ (q : Process). leb (length q.held) held_limit) C.processes

pub well_formed?_iff : (p : Program) (C : Config) → So (well_formed? p C) ↔ WellFormed p C
unfolding well_formed?
well_formed?_iff p C = Iff.trans
    (places_law C _ (λ q. typed_as?_iff p (context_of q.held) q.doing)
    and ends_fit_iff p (ends C)
    and links_lead_iff C
    and handlers_linked_iff C
    and linked_once_iff C
    and forest?_iff (joints C)
    and all_law _ C.outside (λ o. outward_iff p o.type and ltb_iff o.number C.given)
    and rising_iff 0 (map (λ (o : Outside). o.number) C.outside)
    and halt_fits_iff C
    and leb_iff (length C.processes) process_places
    and all_law _ (ends C) (λ e. ltb_iff e.channel channel_places)
    and leb_iff C.given outside_numbers
    and places_law C _ (λ q. leb_iff (length q.held) held_limit)) (
      λ ((((((((((((t, (u, o)), l), h), m), f), x), n), z), c), k), g), r). record {
        typed = t;
        once = u;
        agree = o;
        links = l;
        linked = h;
        linked_once = m;
        forest = f;
        outside = x;
        numbers = n;
        halt = z;
        processes = c;
        channels = k;
        given = g;
        held = r;
      },
      λ w. ((((((((((((w.typed, (w.once, w.agree)), w.links), w.linked), w.linked_once), w.forest), w.outside), w.numbers), w.halt), w.processes), w.channels), w.given), w.held),
    )
