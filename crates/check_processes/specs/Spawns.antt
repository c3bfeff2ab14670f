-- The ways through the code of a spawn and of a try.
use Rattle.std.specs.Prelude.{ℕ, ◌<◌, ◌≤◌, ◌≡◌, refl, List, Bool, not, ◌&&◌, ltb, length, Result, Ok, Err}
use Rattle.std.proofs.Math.Path.{sym}
use Rattle.std.proofs.Common.{◌∙◌, ap, true≢false, arith, lt-ltb, le-ltb, ltb-true}
use Rattle.std.proofs.Math.Bool.{true, false}
use Rattle.notation.specs.Limits.{held_limit}
use Rattle.notation.specs.Token.{name_at}
use Rattle.notation.specs.Tree.{Name, Proc}
use Rattle.notation.specs.declared.reading.TermNode.{TermNode}
use Rattle.calculus.specs.Named.{lookup, is_some, names, kept}
use Rattle.calculus.specs.Mentions.{spawn_takes, spawn_leaves, try_takes, never_both, exactly_one}
use Rattle.calculus.specs.Program.{slot, Context}
use Rattle.calculus.specs.Typing.{bringing}
use Rattle.calculus.specs.Configuration.{End}
use Rattle.calculus.specs.WellFormed.{context_of}
use Rattle.theory_ends.specs.Contexts.{context_kept, context_names, context_append, context_length}
use Rattle.run_words.specs.declared.records.Held.{Held}
use Rattle.read_tables.specs.Decode.{process_in}
use Rattle.read_tables.specs.Program.{plain_in, program_in}
use Rattle.check_contexts.specs.Held.{channels_of, HeldIn}
use Rattle.check_contexts.specs.Marks.{ALL}
use Rattle.check_contexts.specs.declared.marks.Marks.{Marks}
use Rattle.check_contexts.specs.Halves.{half_side, wanted, takes, Takes, Keeps, keeps_so, Picks, Fair, fair_both, fair_each, Divides, HasRoom, has_room, SpawnHalf, spawn_takes_lem, spawn_leaves_lem, try_takes_lem, never_shared, shared_once}
use Rattle.check_contexts.specs.declared.halves.Half.TheVariants.{OfSpawn, OfTry}
use Rattle.check_terms.specs.Findings.{Finding, refusal, found, both}
use Rattle.check_terms.specs.Next.{go, granted, resume, context_in}
use Rattle.check_terms.specs.Endings.{answer_of}
use Rattle.check_terms.specs.Sends.{count_so}
use Rattle.check_processes.specs.Nodes.{NodeIn, apart?, joins?, spawn_step, half_context, spawn_at, try_at}
use Rattle.check_processes.specs.Process.{spawn_stops, spawn_goes}
use Rattle.check_processes.specs.Turns.{found_at}

-- ── a split of what is held is a split of the context
context_takes : (x : Name) (P : Proc) (l : List (Name × End)) → context_of (spawn_takes x P l) ≡ spawn_takes x P (context_of l)
unfolding spawn_takes
context_takes x P l = sym (context_kept _ l)

context_leaves : (x : Name) (P : Proc) (l : List (Name × End)) → context_of (spawn_leaves x P l) ≡ spawn_leaves x P (context_of l)
unfolding spawn_leaves
context_leaves x P l = sym (context_kept _ l)

context_tries : (P : Proc) (l : List (Name × End)) → context_of (try_takes P l) ≡ try_takes P (context_of l)
unfolding try_takes
context_tries P l = sym (context_kept _ l)

module _ (s w : List ℕ) (h : Held) where
  tried : (p : ℕ) (r : Held) → Keeps s w h (OfTry p) true r → context_in s w r ≡ try_takes (process_in s w p) (context_in s w h)
  tried p r k = ap context_of (try_takes_lem s w h p r k) ∙ context_tries (process_in s w p) (channels_of s w h)

  tried_once : (p q : ℕ) (r : Bool) → Fair s w h (OfTry p) (OfTry q) true r → r ≡ exactly_one (process_in s w p) (process_in s w q) (names (context_in s w h))
  tried_once p q r f = shared_once s w h p q r f ∙ ap (exactly_one (process_in s w p) (process_in s w q)) (sym (context_names (channels_of s w h)))

-- ── a spawn
module _ (s w : List ℕ) (h : Held) (n : TermNode) where
  abbrev G : Context
  G = context_in s w h

  abbrev x : Name
  x = name_at s n.at

  apart_so : (r : Bool) → Fair s w h (OfSpawn n.at n.second) (OfSpawn n.at n.third) false r → r ≡ apart? s w n G
  apart_so r f = never_shared s w h n.at n.second n.third r f ∙ ap (never_both x (process_in s w n.second) (process_in s w n.third)) (sym (context_names (channels_of s w h)))

  pub apart_by : {taken shared : Marks} {r : Bool} → Takes s w h (OfSpawn n.at n.second) ALL taken → HeldIn s w h → Takes s w h (OfSpawn n.at n.third) taken shared
      → Divides h.count taken shared false r → r ≡ apart? s w n G
  apart_by {r = r} t u v d = apart_so r (fair_both t u v d)

  taken : (r : Held) → Keeps s w h (OfSpawn n.at n.second) true r → context_in s w r ≡ spawn_takes x (process_in s w n.second) G
  taken r k = ap context_of (spawn_takes_lem s w h n.at n.second r k) ∙ context_takes x (process_in s w n.second) (channels_of s w h)

  left : (r : Held) → Keeps s w h (OfSpawn n.at n.second) false r → context_in s w r ≡ spawn_leaves x (process_in s w n.second) G
  left r k = ap context_of (spawn_leaves_lem s w h n.at n.second r k) ∙ context_leaves x (process_in s w n.second) (channels_of s w h)

  abbrev new? : Bool
  new? = not (is_some (lookup x G))

  abbrev answer : Result (Unit {0}) ℕ
  answer = answer_of (spawn_step s w n G)

  step : (a b : Bool) → apart? s w n G ≡ a → joins? s w n G ≡ b → spawn_step s w n G ≡ granted 13 a (granted 15 b (go G))
  unfolding spawn_step
  step a b p q = λ j. granted 13 (p j) (granted 15 (q j) (go G))

  pub spawn_shared : false ≡ apart? s w n G → Err 13 ≡ answer
  spawn_shared p = sym (ap answer_of (step false (joins? s w n G) (sym p) refl))

  -- the tests of the new name
  room : (r : Held) (H : Context) → context_in s w r ≡ H → (b : Bool) → ltb r.count held_limit ≡ b → ltb (length H) held_limit ≡ b
  room r H e b q = ap (λ m. ltb m held_limit) (ap length (sym e) ∙ count_so s w r) ∙ q

  abbrev joins_by : Bool → Bool → Bool → Bool
  joins_by c d e = (c && d) && (c && e)

  abbrev takes? : Bool
  takes? = ltb (length (spawn_takes x (process_in s w n.second) G)) held_limit

  abbrev leaves? : Bool
  leaves? = ltb (length (spawn_leaves x (process_in s w n.second) G)) held_limit

  module _ (p : true ≡ apart? s w n G) where
    joins_as : {b : Bool} → joins? s w n G ≡ b → answer_of (granted 15 b (go G)) ≡ answer
    joins_as {b} q = sym (ap answer_of (step true b (sym p) q))

    pub spawn_known : false ≡ new? → Err 15 ≡ answer
    spawn_known q = joins_as (ap (λ c. joins_by c takes? leaves?) (sym q))

    module _ (q : true ≡ new?) {a : Held} (k : Keeps s w h (OfSpawn n.at n.second) true a) where
      pub spawn_full : a.count ≡ held_limit → Err 15 ≡ answer
      spawn_full z = joins_as (λ j. joins_by (sym q j) (room a _ (taken a k) false (le-ltb a.count held_limit (omega arith)) j) leaves?)

      module _ (l : a.count < held_limit) {b : Held} (m : Keeps s w h (OfSpawn n.at n.second) false b) where
        pub spawn_full_rest : b.count ≡ held_limit → Err 15 ≡ answer
        spawn_full_rest z =
            joins_as (λ j. joins_by (sym q j) (room a _ (taken a k) true (lt-ltb a.count held_limit l) j) (room b _ (left b m) false (le-ltb b.count held_limit (omega arith)) j))

        pub spawn_fine : b.count < held_limit → Ok tt ≡ answer
        spawn_fine z = joins_as (λ j. joins_by (sym q j) (room a _ (taken a k) true (lt-ltb a.count held_limit l) j) (room b _ (left b m) true (lt-ltb b.count held_limit z) j))

  -- ── where nothing is at fault, both halves have room
  fine_joins : (a b : Bool) → Ok tt ≡ answer_of (granted 13 a (granted 15 b (go G))) → b ≡ true
  fine_joins true true e = refl
  fine_joins true false e = cc
  fine_joins false b e = cc

  joins_so : Ok tt ≡ answer → joins? s w n G ≡ true
  unfolding spawn_step
  joins_so e = fine_joins (apart? s w n G) (joins? s w n G) e

  both_rooms : (c d e : Bool) → joins_by c d e ≡ true → (d ≡ true) × (e ≡ true)
  both_rooms true true true z = (refl, refl)
  both_rooms true true false z = absurd (true≢false (sym z))
  both_rooms true false e z = absurd (true≢false (sym z))
  both_rooms false d e z = absurd (true≢false (sym z))

  -- what the half has, before the new channel is brought in
  abbrev half_of : Bool → Context
  half_of true = spawn_takes x (process_in s w n.second) G
  half_of false = spawn_leaves x (process_in s w n.second) G

  -- the same of the channels
  half_kept : (first : Bool) → context_of (kept (λ y. wanted first (takes s w (OfSpawn n.at n.second) y)) (channels_of s w h)) ≡ half_of first
  unfolding spawn_takes spawn_leaves
  half_kept true = sym (context_kept _ (channels_of s w h))
  half_kept false = sym (context_kept _ (channels_of s w h))

  half_room : (first : Bool) → Ok tt ≡ answer → length (half_of first) < held_limit
  half_room true e = ltb-true _ held_limit (both_rooms new? takes? leaves? (joins_so e)).0
  half_room false e = ltb-true _ held_limit (both_rooms new? takes? leaves? (joins_so e)).1

  module _ {taken : Marks} (t : Takes s w h (OfSpawn n.at n.second) ALL taken) (u : HeldIn s w h) (first : Bool) where
    pub half_has_room : Ok tt ≡ answer → HasRoom h taken first
    half_has_room e =
        let l = kept (λ y. wanted first (takes s w (OfSpawn n.at n.second) y)) (channels_of s w h) in
        has_room first t u (omega (arith, half_room first e, ap length (half_kept first), context_length l))

    half_context_lem : bringing x (slot (half_side first) (plain_in s w n.first)) (half_of first) ≡ half_context s w n G first
    half_context_lem = go first
      where
        go : (b : Bool) → bringing x (slot (half_side b) (plain_in s w n.first)) (half_of b) ≡ half_context s w n G b
        go true = refl
        go false = refl

    pub half_so : {name node : ℕ} {r : Held} → name ≡ n.at → node ≡ n.first → SpawnHalf h taken name node first 0 r → context_in s w r ≡ half_context s w n G first
    half_so p q f =
        ap context_of (f.is t u)
        ∙ context_append (kept _ (channels_of s w h)) _
        ∙ (λ j. bringing (name_at s (p j)) (slot (half_side first) (plain_in s w (q j))) (half_kept first j))
        ∙ half_context_lem

-- ── what a spawn's checks come to
module _ (s w : List ℕ) (h : Held) (p : ℕ) (n : TermNode) (t : NodeIn s w p n) (z : n.kind ≡ 5) where
  abbrev context : Context
  context = context_in s w h

  abbrev first? : Context → Finding
  first? H = found (program_in s w) (half_context s w n H true) (process_in s w n.second)

  abbrev second? : Context → Finding
  second? H = found (program_in s w) (half_context s w n H false) (process_in s w n.third)

  spawn_said : found_at s w h p ≡ resume n.at (spawn_step s w n context) (λ H. both (first? H) (second? H))
  spawn_said = (spawn_at s w p n t z).4 context

  pub spawn_refused : {r : ℕ} → Err r ≡ answer_of (spawn_step s w n context) → refusal r n.at ≡ found_at s w h p
  spawn_refused e = spawn_stops s w n context n.at (λ H. both (first? H) (second? H)) e ∙ sym spawn_said

  pub spawn_halves : Ok tt ≡ answer_of (spawn_step s w n context) → (a b : Held) → context_in s w a ≡ half_context s w n context true → context_in s w b ≡ half_context s w n context false
      → both (found_at s w a n.second) (found_at s w b n.third) ≡ found_at s w h p
  spawn_halves e a b f g =
      (λ j. both (found (program_in s w) (f j) (process_in s w n.second)) (found (program_in s w) (g j) (process_in s w n.third)))
      ∙ sym (spawn_said ∙ spawn_goes s w n context n.at (λ H. both (first? H) (second? H)) e)

-- ── what a try's checks come to
module _ (s w : List ℕ) (h : Held) (p : ℕ) (n : TermNode) (t : NodeIn s w p n) (z : 12 ≤ n.kind) where
  abbrev halves? : Context → Finding
  halves? H = both (found (program_in s w) (try_takes (process_in s w n.second) H) (process_in s w n.second)) (found (program_in s w) (try_takes (process_in s w n.third) H) (process_in s w n.third))

  module _ (u : HeldIn s w h) {a b : Marks} (f : Takes s w h (OfTry n.second) ALL a) (g : Takes s w h (OfTry n.third) ALL b) where
    try_by : {r : Bool} → Divides h.count a b true r → resume n.at (granted 13 r (go (context_in s w h))) halves? ≡ found_at s w h p
    try_by {r} d = sym ((try_at s w p n t z).3 (context_in s w h) ∙ ap (λ c. resume n.at (granted 13 c (go (context_in s w h))) halves?) (sym (tried_once s w h n.second n.third r (fair_each f u g d))))

    pub try_refused : Divides h.count a b true false → refusal 13 n.at ≡ found_at s w h p
    try_refused d = try_by d

    pub try_halves : Divides h.count a b true true → (x y : Held) → Picks h a true x → Picks h b true y
        → both (found_at s w x n.second) (found_at s w y n.third) ≡ found_at s w h p
    try_halves d x y k l =
        (λ j. both (found (program_in s w) (tried s w h n.second x (keeps_so f u k) j) (process_in s w n.second)) (found (program_in s w) (tried s w h n.third y (keeps_so g u l) j) (process_in s w n.third)))
        ∙ try_by d
