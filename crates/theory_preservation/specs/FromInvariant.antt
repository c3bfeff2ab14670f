-- What keeps the invariant is well formed, but for its halt, of which the invariant says nothing.
use Rattle.std.specs.Prelude.{◌≡◌, refl, ◌≢◌, ◌⊎◌, map, Bool, true, ℕ, ◌<◌}
use Rattle.std.proofs.Common.{sym, ◌∙◌, ap, subst, inl, inr}
use mathlib.Core.List.Memᴰ
use Rattle.std.proofs.Math.Option
use Rattle.std.proofs.Math.Option.{Option, some, none, none-ne-some, map-eq-some_iff}
use Rattle.std.proofs.Math.ListN.{get_elem?}
use Rattle.notation.specs.Limits.{channel_places}
use Rattle.notation.specs.Tree.{Name}
use Rattle.calculus.specs.Named.{names, In, NoneTwice}
use Rattle.calculus.specs.Types.{Side, used}
use Rattle.calculus.specs.Program.{Context, Program}
use Rattle.calculus.specs.Configuration.{End, end, Doing, running, folding, waiting, Process, relinked, Config, Stands}
use Rattle.calculus.specs.Forest.{Forest, joints}
use Rattle.calculus.specs.WellFormed.{context_of, process_ends, outside_ends, ends, key, TypedAs, is_waiting, WouldHalt, WellFormed}
use Rattle.theory_graphs.specs.Moves.{thin}
use Rattle.theory_ends.specs.Lists.{once_append, map-append, found_below}
use Rattle.theory_ends.specs.Contexts.{context_names}
use Rattle.theory_ends.specs.Ends.{key_at, end_process, keys_once, end_outside, keys_outside}
use Rattle.theory_preservation.specs.Witness.{joint, Witness}
use Rattle.theory_preservation.specs.Mates.{link_of}
use Rattle.theory_preservation.specs.Roster.{Roster, tip_of, holds, Has, outside, inside, TypedDoing, profile, Good, NamesDiffer}
use Rattle.theory_preservation.specs.TwoEnds.{above, owner, one_type, key_of_key}
use Rattle.theory_preservation.specs.Invariant.{Inv, at_roster, fine_at, handler}
use Rattle.theory_preservation.specs.Joints.{forest_back, numbers, joints_are, numbers_once, numbers_live}

typed_as : (p : Program) (G : Context) (d : Doing) → NamesDiffer d (names G) → TypedDoing p G d → TypedAs p G d
typed_as p G (running P) n t = (n, t)
typed_as p G folding n t = tt
typed_as p G (waiting P) n t = (n, t)

module _ {p : Program} {C : Config} (I : Inv p C) where
  abbrev S : Roster
  S = I.roster

  abbrev G : Good p I.roster C.outside C.given I.next
  G = I.good

  abbrev W : Witness p (Has I.roster C.outside) I.next
  W = I.good.witness

  held_at : (i : ℕ) (q : Process) → get_elem? C.processes i ≡ some q → (x : Name × End) → In x q.held → Has S C.outside (I.id i) (tip_of x.1)
  held_at i q e x m = inside (relinked I.id q) (at_roster I i q e) (holds x m refl)

  end_has : (e : End) → In e (ends C) → (v : ℕ) × Has S C.outside v (tip_of e)
  end_has e m = go (Memᴰ.append_cases (process_ends C.processes) m)
    where
      go : In e (process_ends C.processes) ⊎ In e (outside_ends C.outside) → (v : ℕ) × Has S C.outside v (tip_of e)
      go (inl k) = let x = end_process C.processes e k in (I.id x.0, subst (λ e. Has S C.outside (I.id x.0) (tip_of e)) x.5 (held_at x.0 x.1 x.2 x.3 x.4))
      go (inr k) = let y = end_outside C.outside e k in (0, outside refl y.0 y.1 (ap tip_of (sym y.2)))

  id_above : (i : ℕ) (q : Process) → get_elem? C.processes i ≡ some q → I.id i ≢ 0
  id_above i q e = above G (I.id i) (relinked I.id q) (at_roster I i q e)

  none_held_twice : NoneTwice (map key (ends C))
  none_held_twice =
      subst NoneTwice (sym (map-append key (process_ends C.processes) (outside_ends C.outside)))
      (once_append (map key (process_ends C.processes)) (map key (outside_ends C.outside)) (keys_once C.processes (λ j q e. (fine_at I j q e).keys) one)
      (keys_outside C.outside G.fair.keys) disjoint)
    where
      one : (i j : ℕ) (q r : Process) → get_elem? C.processes i ≡ some q → get_elem? C.processes j ≡ some r → (x y : Name × End) → In x q.held → In y r.held
          → key_at x ≡ key_at y → i ≡ j
      one i j q r e f x y m n z =
          I.shows.apart i j (found_below C.processes i e) (found_below C.processes j f)
          (owner G (I.id i) (I.id j) _ _ (some y.1.type) (held_at i q e x m)
          (subst (λ k. Has S C.outside (I.id j) (k, some y.1.type)) (sym (key_of_key x.1 y.1 z)) (held_at j r f y n)))

      disjoint : (k : ℕ × Side) → In k (map key (process_ends C.processes)) → In k (map key (outside_ends C.outside)) → ⊥
      disjoint k a b =
          let e = Memᴰ.of_map key (process_ends C.processes) a in
          let x = end_process C.processes e.0 e.1 in
          let d = Memᴰ.of_map key (outside_ends C.outside) b in
          let y = end_outside C.outside d.0 d.1 in
          id_above x.0 x.1 x.2
          (owner G (I.id x.0) 0 _ _ (some y.0.type) (held_at x.0 x.1 x.2 x.3 x.4)
          (outside refl y.0 y.1 (λ i. (key_of_key x.3.1 (end used y.0.channel y.0.type) (ap key x.5 ∙ e.2 ∙ sym d.2 ∙ ap key (sym y.2)) i, some y.0.type))))

  profile_of : (i : ℕ) (q : Process) → get_elem? C.processes i ≡ some q → profile (S (I.id i)) ≡ some (Option.map I.id q.link, is_waiting q.doing)
  profile_of i q e = ap profile (at_roster I i q e)

  -- an identity that is linked to h is that of a process that is linked to the place of h
  linker : (h : ℕ) (r : Process) → get_elem? C.processes h ≡ some r → is_waiting r.doing ≡ true → (i : ℕ) × (q : Process) × Stands C i q × (q.link ≡ some h)
  linker h r e w = go m.0 (S m.0) refl m.2
    where
      m : (v : ℕ) × (x : Bool) × (profile (S v) ≡ some (some (I.id h), x))
      m = G.mates.down (I.id h) (Option.map I.id r.link) (profile_of h r e ∙ ap (λ b. some (Option.map I.id r.link, b)) w)

      go : (v : ℕ) (o : Option Process) → S v ≡ o → {x : Bool} → profile (S v) ≡ some (some (I.id h), x) → (i : ℕ) × (q : Process) × Stands C i q × (q.link ≡ some h)
      go v none z y = absurd (none-ne-some _ (sym (ap profile z) ∙ y))
      go v (some r') z y =
          let b = I.shows.back v r' z in
          let k : Option.map I.id b.1.link ≡ some (I.id h) = link_of (sym (profile_of b.0 b.1 b.2) ∙ ap (λ v. profile (S v)) b.3 ∙ y) in
          let n = (map-eq-some_iff {B = ℕ} I.id b.1.link).0 k in
          (b.0, b.1, record { there = b.2 }, n.1 ∙ ap some (I.shows.apart n.0 h (I.shows.within b.0 b.1 b.2 n.0 n.1) (found_below C.processes h e) n.2))

  pub inv_well_formed : (C.halted ≡ true → WouldHalt C) → WellFormed p C
  inv_well_formed halts = record {
    typed = λ i q s. let f = fine_at I i q s.there in
        typed_as p (context_of q.held) q.doing (subst (NamesDiffer q.doing) (sym (context_names q.held)) f.names) f.typed;
    once = none_held_twice;
    agree = λ e d m n z. let u = end_has e m in let v = end_has d n in one_type G u.0 v.0 e d z u.1 v.1;
    links = λ i q s h z. let r = handler I i q s.there h z in (r.0, record { there = r.1 }, r.2);
    linked = λ h r s w. linker h r s.there w;
    linked_once = λ i j q r s t h z y. I.shows.apart i j (found_below C.processes i s.there) (found_below C.processes j t.there)
        (G.mates.once (I.id i) (I.id j) (I.id h) _ _ (profile_of i q s.there ∙ ap (λ o. some (Option.map I.id o, is_waiting q.doing)) z)
        (profile_of j r t.there ∙ ap (λ o. some (Option.map I.id o, is_waiting r.doing)) y));
    forest = forest_back I.id (joints C) (subst Forest (joints_are C I.shows W.own W.sound (λ i q e. handler I i q e))
        (thin (joint W.own) W.K (numbers C I.shows W.own W.sound (λ i q e. handler I i q e))
        (numbers_once C I.shows W.own W.sound (λ i q e. handler I i q e) (λ j q e. (fine_at I j q e).keys))
        (numbers_live C I.shows W.own W.sound (λ i q e. handler I i q e) id_above W.K W.live) W.forest));
    outside = λ o m. (G.fair.outwards o m, G.fair.below o m);
    numbers = G.fair.rising;
    halt = halts;
    processes = I.places;
    channels = channels';
    given = I.numbers;
    held = λ i q s. (fine_at I i q s.there).room;
  }
    where
      channels' : (e : End) → In e (ends C) → e.channel < channel_places
      channels' e m = go (Memᴰ.append_cases (process_ends C.processes) m)
        where
          go : In e (process_ends C.processes) ⊎ In e (outside_ends C.outside) → e.channel < channel_places
          go (inl k) = let x = end_process C.processes e k in subst (λ (e : End). e.channel < channel_places) x.5 ((fine_at I x.0 x.1 x.2).channels x.3 x.4)
          go (inr k) = let y = end_outside C.outside e k in subst (λ (e : End). e.channel < channel_places) y.2 (G.fair.channels y.0 y.1)
