-- A run of this text that is well formed: what the tests of its parts say together.
use Rattle.std.specs.Prelude.{ℕ, ◌<◌, ◌≡◌, refl, ◌↔◌, List, [], ◌∷◌, map, Bool, ◌&&◌, leb, ltb, length}
use Rattle.std.proofs.Common.{sym, ◌∙◌, true≢false, arith, le-leb, lt-ltb}
use Rattle.std.proofs.Math.Path.{ap}
use Rattle.std.proofs.Math.Logic.Iff
use Rattle.std.proofs.Math.Bool.{So}
use Rattle.std.proofs.lemmas.List.{length-map}
use Rattle.notation.specs.Limits.{held_limit, process_places, channel_places, outside_numbers}
use Rattle.notation.specs.Token.{name_at}
use Rattle.notation.specs.Tree.{Name}
use Rattle.calculus.specs.Named.{every}
use Rattle.calculus.specs.Program.{Program}
use Rattle.calculus.specs.Declarations.{outward}
use Rattle.calculus.specs.Configuration.{End, Process, Outside, Config}
use Rattle.calculus.specs.Forest.{joints}
use Rattle.calculus.specs.WellFormed.{ends, WellFormed}
use Rattle.theory_derivations.specs.Booleans.{itself, ◌and◌, and_cond, all_iff}
use Rattle.theory_decision.specs.Lists.{pairwise, implies}
use Rattle.theory_decision.specs.Halting.{halt_fits}
use Rattle.theory_decision.specs.Circles.{forest?}
use Rattle.theory_decision.specs.Ends.{ends_fit}
use Rattle.theory_decision.specs.Links.{links_lead, handlers_linked, linked_once}
use Rattle.theory_decision.specs.Decide.{rising, well_formed?, well_formed?_iff}
use Rattle.read_tables.specs.Decode.{process_in}
use Rattle.read_tables.specs.Program.{plain_in, program_in}
use Rattle.run_words.specs.Lists.{All}
use Rattle.run_words.specs.ListLaws.{all_append, all_weaken}
use Rattle.run_words.specs.ListLaws as laws
use Rattle.run_words.specs.Raw.{RawEnd, RawProcess, RawConfig, BoundedProcess, BoundedOutside, Bounded}
use Rattle.run_words.specs.Decode.{decoded_end, decoded_process, decoded_outside, decoded, is_halted}
use Rattle.run_words.specs.Values.{Decided}
use Rattle.run_joints.specs.Answers.{Answers}
use Rattle.run_joints.specs.Tests.{all_map, any_map}
use Rattle.run_joints.specs.Numbers.{numbers_rise, numbers_given}
use Rattle.run_joints.specs.Circles.{circle_free}
use Rattle.run_joints.specs.WellJoined.{well_joined}
use Rattle.run_wellformed.specs.OfText.{OfText}
use Rattle.run_wellformed.specs.Typing.{typed_process, typed_in}
use Rattle.run_wellformed.specs.Outward.{outward_in}
use Rattle.run_wellformed.specs.Halting.{halts_in, halt_in}
use Rattle.run_wellformed.specs.Kept.{as_end, beside_in, outside_end, process_ends, raw_ends, ends_in_lem, ends_decoded}

-- the configuration that the numbers of C stand for
abbrev pub config_in : List ℕ → List ℕ → RawConfig → Config
config_in s w C = decoded (name_at s) (plain_in s w) (process_in s w) C

pub record Formed (s w : List ℕ) (C : RawConfig) : Type 0 where
  pub bounded : Bounded C
  pub of_text : OfText w C
  pub is : WellFormed (program_in s w) (config_in s w C)

-- ── the clauses of the test, and of its part about joints
abbrev is_outward : Program → Outside → Bool
is_outward p o = outward p o.type

abbrev is_given : Config → Outside → Bool
is_given C o = ltb o.number C.given

all_both : {X : Type 0} (f g : X → Bool) (l : List X) → So (every (λ x. f x && g x) l) ↔ (So (every f l) × So (every g l))
all_both f g l = (
  λ e. ((all_iff f l).1 (λ x m. ((one x).0 ((all_iff _ l).0 e x m)).0), (all_iff g l).1 (λ x m. ((one x).0 ((all_iff _ l).0 e x m)).1)),
  λ (a, b). (all_iff _ l).1 (λ x m. (one x).1 ((all_iff f l).0 a x m, (all_iff g l).0 b x m)),
)
  where
    one : (x : _) → So (f x && g x) ↔ (So (f x) × So (g x))
    one x = itself (f x) and itself (g x)

-- what the bounds give
abbrev Few : Config → Type 0
Few C = So (leb (length C.processes) process_places) × So (every (λ (e : End). ltb e.channel channel_places) (ends C)) × So (leb C.given outside_numbers) × So (every (λ (q : Process). leb (length q.held) held_limit) C.processes)

split : (p : Program) (C : Config) → So (well_formed? p C) ↔ (So (every (typed_process p) C.processes) × So (ends_fit p (ends C)) × So (every (is_outward p) C.outside) × So (halt_fits C) × So (well_joined C) × Few C)
unfolding well_formed? well_joined circle_free numbers_rise numbers_given
split p C = Iff.trans
    (itself (every (typed_process p) C.processes)
    and itself (ends_fit p (ends C))
    and itself (links_lead C)
    and itself (handlers_linked C)
    and itself (linked_once C)
    and itself (forest? (joints C))
    and all_both (is_outward p) (is_given C) C.outside
    and itself (rising 0 (map (λ (o : Outside). o.number) C.outside))
    and itself (halt_fits C)
    and itself (leb (length C.processes) process_places)
    and itself (every (λ (e : End). ltb e.channel channel_places) (ends C))
    and itself (leb C.given outside_numbers)
    and itself (every (λ (q : Process). leb (length q.held) held_limit) C.processes)) (
      λ ((((((((((((t, e), l), h), m), f), (x, g)), n), z), a), b), c), d). (t, e, x, z, joined.1 (((((l, h), m), f), n), g), (a, b, c, d)),
      λ (t, e, x, z, j, (a, b, c, d)). let (((((l, h), m), f), n), g) = joined.0 j in ((((((((((((t, e), l), h), m), f), (x, g)), n), z), a), b), c), d),
    )
  where
    joined : So (well_joined C) ↔ (((((So (links_lead C) × So (handlers_linked C)) × So (linked_once C)) × So (forest? (joints C))) × So (numbers_rise C)) × So (numbers_given C))
    joined =
        itself (links_lead C) and itself (handlers_linked C) and itself (linked_once C) and itself (circle_free C) and itself (numbers_rise C) and itself (numbers_given C)

-- ── what a bounded run gives
all_of : {X : Type 0} (P : X → Type 0) (f : X → Bool) → ((x : X) → P x → So (f x)) → (l : List X) → All P l → So (every f l)
all_of P f h [] a = refl
all_of P f h (x ∷ l) a = (and_cond (f x) (every f l)).1 (h x a.0, all_of P f h l a.1)

abbrev Near : RawEnd → Type 0
Near e = e.channel < channel_places

module _ (s w : List ℕ) (C : RawConfig) where
  held_near : (n : ℕ) (l : List RawProcess) → All (BoundedProcess n) l → All Near (process_ends l)
  held_near n [] a = tt
  held_near n (p ∷ l) a = all_append Near p.held (process_ends l) (all_weaken _ Near (λ e b. b.channel) p.held a.0.each) (held_near n l a.1)

  few : Bounded C → Few (config_in s w C)
  few b = (
    le-leb (length (config_in s w C).processes) process_places (omega (arith, length-map C.processes process, b.places)),
    ap (every (λ (e : End). ltb e.channel channel_places)) (ends_in_lem s w C) ∙ all_map (as_end s w) (λ (e : End). ltb e.channel channel_places) near? (λ e. refl) (raw_ends C)
        ∙ all_of Near near? (λ e. lt-ltb e.channel channel_places) (raw_ends C) near,
    le-leb C.given outside_numbers b.given,
    all_map process (λ (q : Process). leb (length q.held) held_limit) few? (λ q. refl) C.processes
        ∙ all_of (BoundedProcess (length C.processes)) few? (λ q h. le-leb (length (map named q.held)) held_limit (omega (arith, length-map q.held named, h.many))) C.processes b.processes,
  )
    where
      process : RawProcess → Process
      process = decoded_process (name_at s) (plain_in s w) (process_in s w)

      named : RawEnd → Name × End
      named = decoded_end (name_at s) (plain_in s w) (process_in s w)

      near? : RawEnd → Bool
      near? e = ltb e.channel channel_places

      few? : RawProcess → Bool
      few? q = leb (length (map named q.held)) held_limit

      near : All Near (raw_ends C)
      near =
          all_append Near (process_ends C.processes) (map outside_end C.outside) (held_near (length C.processes) C.processes b.processes)
          (laws.all_map BoundedOutside Near outside_end (λ o h. h.channel) C.outside b.outside)

  -- ── the tests that the code makes
  typed_as : every (typed_process (program_in s w)) (config_in s w C).processes ≡ every (typed_in s w) C.processes
  typed_as = all_map (decoded_process (name_at s) (plain_in s w) (process_in s w)) _ (typed_in s w) (λ q. refl) C.processes

  outward_as : every (is_outward (program_in s w)) (config_in s w C).outside ≡ every (outward_in s w) C.outside
  outward_as = all_map (decoded_outside (name_at s) (plain_in s w) (process_in s w)) _ (outward_in s w) (λ o. refl) C.outside

  halt_as : halt_fits (config_in s w C) ≡ halt_in s w C
  unfolding halt_fits
  halt_as = ap (implies (is_halted C.halted)) (any_map (decoded_process (name_at s) (plain_in s w) (process_in s w)) _ (halts_in s w C) (λ q. refl) C.processes)

  -- all of them pass on what is well formed, and what they all pass on is
  pub record Parts : Type 0 where
    pub typed : So (every (typed_in s w) C.processes)
    pub fit : So (pairwise (beside_in s w) [] (raw_ends C))
    pub outwards : So (every (outward_in s w) C.outside)
    pub halted : So (halt_in s w C)
    pub joined : So (well_joined (config_in s w C))

  pub parts : Formed s w C → Parts
  parts f =
      let (t, e, x, z, j, m) = (split (program_in s w) (config_in s w C)).0 ((well_formed?_iff _ _).1 f.is) in
      record { typed = sym typed_as ∙ t; fit = sym (ends_decoded s w C) ∙ e; outwards = sym outward_as ∙ x; halted = sym halt_as ∙ z; joined = j }

  formed : Bounded C → OfText w C → Parts → Formed s w C
  formed b o p = record {
    bounded = b;
    of_text = o;
    is = (well_formed?_iff _ _).0 ((split (program_in s w) (config_in s w C)).1 (typed_as ∙ p.typed, ends_decoded s w C ∙ p.fit, outward_as ∙ p.outwards, halt_as ∙ p.halted, p.joined, few b));
  }

  -- the last test decides
  pub decided : {r : Bool} → Bounded C → OfText w C → So (every (typed_in s w) C.processes) → So (pairwise (beside_in s w) [] (raw_ends C)) → So (every (outward_in s w) C.outside) → So (halt_in s w C)
      → Answers r well_joined C → Decided r (Formed s w C)
  decided b o t f x h j =
      let last = j.is (name_at s) (plain_in s w) (process_in s w) in
      record { yes = λ e. formed b o (record { typed = t; fit = f; outwards = x; halted = h; joined = sym last ∙ e }); no = λ e g. true≢false (sym (parts g).joined ∙ sym last ∙ e) }
