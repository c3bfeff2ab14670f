-- The configuration that a start makes keeps the invariant.
use Rattle.std.specs.Prelude.{◌≡◌, refl, ◌≢◌, ◌⊎◌, List, [], ◌∷◌, ◌++◌, map, length}
use Rattle.std.proofs.Common.{sym, ◌∙◌, ap, inl, inr, append-nil, true≢false}
use Rattle.std.proofs.Math.Path.{subst}
use mathlib.Core.List.Memᴰ
use Rattle.std.proofs.Math.Option.{some, none, none-ne-some, some-injective}
use Rattle.std.proofs.lemmas.Bool.{false≢true}
use Prim.Native.Nat.{ℕ, zero, suc, ◌+◌, ◌≤◌, ◌<◌}
use native.Mathlib.Omega.{arith}
use Rattle.std.proofs.Math.ListN.{get_elem?}
use Rattle.std.proofs.Math.Dec.{lit≤}
use Rattle.notation.specs.Limits.{held_limit, channel_places, outside_numbers}
use Rattle.notation.specs.Tree.{Name, Ty}
use Rattle.calculus.specs.Named.{names, In, NoneTwice}
use Rattle.calculus.specs.Types.{provided, used}
use Rattle.calculus.specs.Program.{slot, Signature, Program, on_side, signature_context}
use Rattle.calculus.specs.Declarations.{entry_types}
use Rattle.calculus.specs.Outward.{Outward}
use Rattle.calculus.specs.OneType.{OneType}
use Rattle.calculus.specs.Typing.{Typed, TypedBody}
use Rattle.calculus.specs.Configuration.{End, end, running, Process, process, relinked, Outside}
use Rattle.calculus.specs.Runs.{start_held, start_outside, start_config}
use Rattle.calculus.specs.WellFormed.{Rising, context_of, is_waiting, WellFormed}
use Rattle.theory_derivations.specs.OneType.{one_refl}
use Rattle.theory_ends.specs.Lists.{once_by}
use Rattle.theory_ends.specs.Contexts.{context_names, context_length}
use Rattle.theory_ends.specs.Ends.{side_clash, key_at}
use Rattle.theory_preservation.specs.Witness.{Key, Tip, OneOf, of_channels, one_of_refl, one_of_sym, one_of_trans, Witness, tip_number, tip_side, tip_type, key_number}
use Rattle.theory_preservation.specs.Mates.{Quiet, quiet_none, quiet_some, mates_quiet}
use Rattle.theory_preservation.specs.Roster.{Roster, channel_key, channel_key_one, Tips, holds, links, waits, Has, outside, inside, Fine, Fair, profile}
use Rattle.theory_preservation.specs.Invariant.{Inv}
use Rattle.theory_preservation.specs.FromInvariant.{inv_well_formed}

-- ── the channels of a start, from k on
start_context : (k : ℕ) (l : List (Name × Ty Name)) → context_of (start_held k l) ≡ on_side provided l
start_context k [] = refl
start_context k (e ∷ l) = ap (λ r. (e.0, slot provided e.1) ∷ r) (start_context (suc k) l)

start_end : (k : ℕ) (l : List (Name × Ty Name)) (x : Name × End) → In x (start_held k l) → (k ≤ x.1.channel) × (x.1.channel < k + length l) × (x.1.side ≡ provided)
start_end k [] x i = absurd (Memᴰ.not-nil i)
start_end k (e ∷ l) x (Memᴰ.head h) =
    let c : x.1.channel ≡ k = ap (λ (x : Name × End). x.1.channel) h in
    (omega arith, omega arith, ap (λ (x : Name × End). x.1.side) h)
start_end k (e ∷ l) x (Memᴰ.tail i) = let r = start_end (suc k) l x i in let a = r.0 in let b = r.1 in (omega arith, omega arith, r.2)

start_keys : (k : ℕ) (l : List (Name × Ty Name)) → NoneTwice (map key_at (start_held k l))
start_keys k [] = tt
start_keys k (e ∷ l) = (
  (λ m. let x = Memᴰ.of_map key_at (start_held (suc k) l) m in let b = (start_end (suc k) l x.0 x.1).0 in let c = ap key_number x.2 in omega arith),
  start_keys (suc k) l,
)

-- the outside's channels are those of the process, and of one type with them
start_other : (p : Program) (k : ℕ) (l : List (Name × Ty Name)) (y : Outside) → In y (start_outside k l)
    → (x : Name × End) × In x (start_held k l) × (x.1.channel ≡ y.channel) × OneType p x.1.type y.type
start_other p k [] y i = absurd (Memᴰ.not-nil i)
start_other p k (e ∷ l) y (Memᴰ.head h) = (
  (e.0, end provided k e.1),
  Memᴰ.head refl,
  ap (λ (y : Outside). y.channel) (sym h),
  subst (λ (y : Outside). OneType p e.1 y.type) (sym h) (one_refl p e.1),
)
start_other p k (e ∷ l) y (Memᴰ.tail i) = let r = start_other p (suc k) l y i in (r.0, Memᴰ.tail r.1, r.2, r.3)

start_number : (k : ℕ) (l : List (Name × Ty Name)) (y : Outside) → In y (start_outside k l)
    → (y.number ≡ y.channel) × (k ≤ y.channel) × (y.channel < k + length l) × In y.type (entry_types l)
start_number k [] y i = absurd (Memᴰ.not-nil i)
start_number k (e ∷ l) y (Memᴰ.head h) =
    let c : y.channel ≡ k = ap (λ (y : Outside). y.channel) h in
    (ap (λ (y : Outside). y.number) h ∙ sym c, omega arith, omega arith, Memᴰ.head (ap (λ (y : Outside). y.type) h))
start_number k (e ∷ l) y (Memᴰ.tail i) = let r = start_number (suc k) l y i in let a = r.1 in let b = r.2 in (r.0, omega arith, omega arith, Memᴰ.tail r.3)

start_rising : (k : ℕ) (l : List (Name × Ty Name)) → Rising k (map (λ (y : Outside). y.number) (start_outside k l))
start_rising k [] = tt
start_rising k (e ∷ l) = (omega arith, start_rising (suc k) l)

start_channels : (k : ℕ) (l : List (Name × Ty Name)) → NoneTwice (map (λ (y : Outside). y.channel) (start_outside k l))
start_channels k [] = tt
start_channels k (e ∷ l) = (
  (λ m. let y = Memᴰ.of_map (λ (y : Outside). y.channel) (start_outside (suc k) l) m in let r = start_number (suc k) l y.0 y.1 in let a = r.1 in let c = y.2 in omega arith),
  start_channels (suc k) l,
)

-- an exec process uses nothing, so it starts with what its signature says
pub started_context : (s : Signature) → s.uses ≡ [] → context_of (start_held 0 s.provides) ≡ signature_context s
started_context s u = start_context 0 s.provides ∙ sym (append-nil (on_side provided s.provides)) ∙ ap (λ r. on_side provided s.provides ++ on_side used r) (sym u)

module _ (p : Program) (s : Signature) (d : NoneTwice (names (signature_context s))) (u : s.uses ≡ []) (o : (A : Ty Name) → In A (entry_types s.provides) → Outward p A) (t : TypedBody p s) where
  abbrev l : List (Name × Ty Name)
  l = s.provides

  abbrev q : Process
  q = process (running s.body) (start_held 0 s.provides) none

  abbrev S : Roster
  S zero = none
  S (suc zero) = some q
  S (suc (suc v)) = none

  same_context : context_of (start_held 0 l) ≡ signature_context s
  same_context = started_context s u

  few : length l ≤ held_limit
  few = subst (λ n. n ≤ held_limit) (ap length (sym same_context) ∙ context_length (start_held 0 l) ∙ held_length 0 l) t.room
    where
      held_length : (k : ℕ) (l : List (Name × Ty Name)) → length (start_held k l) ≡ length l
      held_length k [] = refl
      held_length k (e ∷ l) = ap suc (held_length (suc k) l)

  abbrev O : List Outside
  O = start_outside 0 l

  -- the process has identity 1
  at_one : (v : ℕ) (r : Process) → S v ≡ some r → (v ≡ 1) × (q ≡ r)
  at_one zero r e = absurd (none-ne-some r e)
  at_one (suc zero) r e = (refl, some-injective _ _ e)
  at_one (suc (suc v)) r e = absurd (none-ne-some r e)

  -- an end is provided by the process or used by the outside
  abbrev EndIs : ℕ → Tip → Type 0
  EndIs v e =
      (x : Name × End) × In x (start_held 0 l) × (e.0.0 ≡ channel_key x.1.channel) × OneOf p (some x.1.type) e.1 ×
      (((v ≡ 1) × (e.0.1 ≡ provided)) ⊎ ((v ≡ 0) × (e.0.1 ≡ used)))

  ends_are : (v : ℕ) (e : Tip) → Has S O v e → EndIs v e
  ends_are v e (outside z y i h) =
      let x = start_other p 0 l y i in
      (x.0, x.1, ap tip_number h ∙ ap channel_key (sym x.2), subst (OneOf p (some x.0.1.type)) (ap tip_type (sym h)) (of_channels x.3), inr (z, ap tip_side h))
  ends_are v e (inside r w h) = go (at_one v r w) h
    where
      go : (v ≡ 1) × (q ≡ r) → Tips v r e → EndIs v e
      go (z, y) (holds x i k) =
          let m : In x (start_held 0 l) = subst (λ (r : Process). In x r.held) (sym y) i in
          (x, m, ap tip_number k, subst (OneOf p (some x.1.type)) (ap tip_type (sym k)) (one_of_refl p (some x.1.type)), inl (z, ap tip_side k ∙ (start_end 0 l x m).2))
      go (z, y) (links h k _) = absurd (none-ne-some h (ap (λ (r : Process). r.link) y ∙ k))
      go (z, y) (waits k _) = absurd (true≢false (sym k ∙ ap (λ (r : Process). is_waiting r.doing) (sym y)))

  abbrev own₁ : Key → ℕ
  own₁ k = elim k.1 as (λ _. ℕ) [ provided ↦ 1 | used ↦ 0 ]

  start_witness : Witness p (Has S O) 2
  start_witness = record {
    K = [];
    own = own₁;
    once = tt;
    forest = tt;
    sound = λ v e h. side e v (ends_are v e h).4;
    agree = λ u v e f h g z. types u v e f z (ends_are u e h) (ends_are v f g);
    live = λ u v e f h g u0 v0 z a b. absurd (no_use v f v0 b (ends_are v f g).4);
    vertex = λ k s m. absurd (Memᴰ.not-nil m);
  }
    where
      side : (e : Tip) (v : ℕ) → ((v ≡ 1) × (e.0.1 ≡ provided)) ⊎ ((v ≡ 0) × (e.0.1 ≡ used)) → own₁ e.0 ≡ v
      side e v (inl z) = ap (λ s. own₁ (0, s)) z.1 ∙ sym z.0
      side e v (inr z) = ap (λ s. own₁ (0, s)) z.1 ∙ sym z.0

      -- two ends of one channel are of one of the process's
      types : (u v : ℕ) (e f : Tip) → e.0.0 ≡ f.0.0 → EndIs u e → EndIs v f → OneOf p e.1 f.1
      types u v e f z x y =
          let one : x.0 ≡ y.0 = once_by key_at (start_keys 0 l) x.1 y.1
          (λ j. (
            channel_key_one x.0.1.channel y.0.1.channel (sym x.2 ∙ z ∙ y.2) j,
            ((start_end 0 l x.0 x.1).2 ∙ sym (start_end 0 l y.0 y.1).2) j,
          )) in
          one_of_trans p (one_of_sym p x.3) (subst (λ (x : Name × End). OneOf p (some x.1.type) f.1) (sym one) y.3)

      no_use : (v : ℕ) (f : Tip) → v ≢ 0 → f.0.1 ≡ used → ((v ≡ 1) × (f.0.1 ≡ provided)) ⊎ ((v ≡ 0) × (f.0.1 ≡ used)) → ⊥
      no_use v f n b (inl z) = side_clash (sym z.1 ∙ b)
      no_use v f n b (inr z) = n z.0

  start_fine : Fine p q
  start_fine = record {
    typed = subst (λ G. Typed p G s.body) (sym same_context) t.body;
    names = subst NoneTwice (ap names (sym same_context) ∙ context_names (start_held 0 l)) d;
    keys = start_keys 0 l;
    room = subst (λ n. n ≤ held_limit) (ap length (sym same_context) ∙ context_length (start_held 0 l)) t.room;
    channels = λ x i. let b = (start_end 0 l x i).1 in let f = few in let c : held_limit ≤ channel_places = lit≤ tt in omega arith;
  }

  start_fair : Fair p (length l) O
  start_fair = record {
    outwards = λ y i. o y.type (start_number 0 l y i).3;
    below = λ y i. let r = start_number 0 l y i in let a = r.0 in let b = r.2 in omega arith;
    rising = start_rising 0 l;
    keys = start_channels 0 l;
    channels = λ y i. let r = start_number 0 l y i in let b = r.2 in let f = few in let c : held_limit ≤ channel_places = lit≤ tt in omega arith;
  }

  start_inv : Inv p (start_config s)
  unfolding start_config
  start_inv = record {
    id = suc;
    roster = S;
    next = 2;
    shows = record { there = there'; back = back'; apart = λ i j a b e. omega arith; within = within' };
    good = record {
      witness = start_witness;
      fine = λ v r e. subst (Fine p) (at_one v r e).1 start_fine;
      placed = λ v r e. let z = (at_one v r e).0 in (omega arith, omega arith);
      mates = mates_quiet quiet;
      fair = start_fair;
    };
    places = lit≤ tt;
    numbers = let f = few in let c : held_limit ≤ outside_numbers = lit≤ tt in omega arith;
  }
    where
      quiet : (v : ℕ) → Quiet (profile (S v))
      quiet zero = quiet_none
      quiet (suc zero) = quiet_some
      quiet (suc (suc v)) = quiet_none

      there' : (i : ℕ) (r : Process) → get_elem? (q ∷ []) i ≡ some r → S (suc i) ≡ some (relinked suc r)
      there' zero r e = ap (λ r. some (relinked suc r)) (some-injective q r e)
      there' (suc i) r e = absurd (none-ne-some r e)

      back' : (v : ℕ) (r : Process) → S v ≡ some r → (i : ℕ) × (r' : Process) × (get_elem? (q ∷ []) i ≡ some r') × (suc i ≡ v)
      back' v r e = (0, q, refl, sym (at_one v r e).0)

      within' : (i : ℕ) (r : Process) → get_elem? (q ∷ []) i ≡ some r → (h : ℕ) → r.link ≡ some h → h < 1
      within' zero r e h z = absurd (none-ne-some h (ap (λ (r : Process). r.link) (some-injective q r e) ∙ z))
      within' (suc i) r e h z = absurd (none-ne-some r e)

  pub start_well_formed : WellFormed p (start_config s)
  unfolding start_config
  start_well_formed = inv_well_formed start_inv (λ h. absurd (false≢true h))
