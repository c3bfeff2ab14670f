-- What is well formed keeps the invariant.
use Rattle.std.specs.Prelude.{◌≡◌, refl, ◌↔◌, List, map, Bool, true, ℕ, suc, pred, length}
use Rattle.std.proofs.Common.{sym, ◌∙◌, ap, subst, arith}
use mathlib.Core.List.Memᴰ
use Rattle.std.proofs.Math.Option
use Rattle.std.proofs.Math.Option.{Option, some, none, none-ne-some, some-injective, map-eq-some_iff}
use Rattle.std.proofs.Math.ListN.{get_elem?}
use Rattle.calculus.specs.Named.{names}
use Rattle.calculus.specs.Types.{used}
use Rattle.calculus.specs.Program.{Context, Program}
use Rattle.calculus.specs.Configuration.{end, Doing, running, folding, waiting, Process, relinked, Config}
use Rattle.calculus.specs.Forest.{Forest, joints}
use Rattle.calculus.specs.WellFormed.{context_of, process_ends, outside_ends, key, TypedAs, is_waiting, WouldHalt, WellFormed}
use Rattle.theory_ends.specs.Lists.{found_below, once_right}
use Rattle.theory_ends.specs.Contexts.{context_names}
use Rattle.theory_ends.specs.Ends.{process_end, keys_of_process, outside_end_lem, outside_keys}
use Rattle.theory_preservation.specs.Witness.{Witness}
use Rattle.theory_preservation.specs.Mates.{Mates}
use Rattle.theory_preservation.specs.Roster.{TypedDoing, Fine, Fair, profile, NamesDiffer}
use Rattle.theory_preservation.specs.Places.{Shows}
use Rattle.theory_preservation.specs.Invariant.{Inv}
use Rattle.theory_preservation.specs.Joints.{forest_along, numbers, joints_are, numbers_once, numbers_all}
use Rattle.theory_preservation.specs.Seats.{seated, SeatedHas, seat_back, keys_apart, process_keys, has_agree, owner_of, owner_below, owner_sound}
use Rattle.theory_preservation.specs.FromInvariant.{inv_well_formed}

as_typed : (p : Program) (G : Context) (d : Doing) → TypedAs p G d → TypedDoing p G d
as_typed p G (running P) t = t.1
as_typed p G folding t = tt
as_typed p G (waiting P) t = t.1

as_names : (p : Program) (G : Context) (d : Doing) → TypedAs p G d → NamesDiffer d (names G)
as_names p G (running P) t = t.0
as_names p G folding t = tt
as_names p G (waiting P) t = t.0

module _ {p : Program} {C : Config} (w : WellFormed p C) where
  handlers : (i : ℕ) (q : Process) → get_elem? C.processes i ≡ some q → (h : ℕ) → q.link ≡ some h → (r : Process) × (get_elem? C.processes h ≡ some r) × (is_waiting r.doing ≡ true)
  handlers i q e h z = let r = w.links i q (record { there = e }) h z in (r.0, r.1.there, r.2)

  shown : Shows suc C.processes (seated C.processes)
  shown = record {
    there = λ i q e. ap (Option.map (relinked suc)) e;
    back = λ v r e. let x = seat_back C v r e in (x.0, x.1, x.3, sym x.2);
    apart = λ i j _ _ e. omega arith;
    within = λ i q e h z. found_below C.processes h (handlers i q e h z).1;
  }

  abbrev joined : List ℕ
  joined = numbers C shown (owner_of C) (owner_sound w) handlers

  found_witness : Witness p (SeatedHas C) (suc (length C.processes))
  found_witness = record {
    K = joined;
    own = owner_of C;
    once = numbers_once C shown (owner_of C) (owner_sound w) handlers (λ j q e. keys_of_process C.processes (process_keys w) j q e);
    forest = subst Forest (sym (joints_are C shown (owner_of C) (owner_sound w) handlers)) (forest_along suc pred (λ x. omega arith) (joints C) w.forest);
    sound = owner_sound w;
    agree = has_agree w;
    live = numbers_all C shown (owner_of C) (owner_sound w) handlers;
    vertex = λ k s _. owner_below C (k, s);
  }

  profile_seated : (i : ℕ) (q : Process) → get_elem? C.processes i ≡ some q → profile (seated C.processes (suc i)) ≡ some (Option.map suc q.link, is_waiting q.doing)
  profile_seated i q e = ap (λ o. profile (Option.map (relinked suc) o)) e

  -- what a profile says of the process at a place
  seat_profile : (v : ℕ) (l : Option ℕ) (b : Bool) → profile (seated C.processes v) ≡ some (l, b)
      → (i : ℕ) × (q : Process) × (v ≡ suc i) × (get_elem? C.processes i ≡ some q) × (Option.map suc q.link ≡ l) × (is_waiting q.doing ≡ b)
  seat_profile v l b e = go (seated C.processes v) refl
    where
      go : (o : Option Process) → seated C.processes v ≡ o
          → (i : ℕ) × (q : Process) × (v ≡ suc i) × (get_elem? C.processes i ≡ some q) × (Option.map suc q.link ≡ l) × (is_waiting q.doing ≡ b)
      go none z = absurd (none-ne-some (l, b) (sym (ap profile z) ∙ e))
      go (some r) z =
          let x = seat_back C v r z in
          let y = some-injective _ _ (sym (profile_seated x.0 x.1 x.3) ∙ ap (λ v. profile (seated C.processes v)) (sym x.2) ∙ e) in
          (x.0, x.1, x.2, x.3, ap (λ (z : Option ℕ × Bool). z.0) y, ap (λ (z : Option ℕ × Bool). z.1) y)

  -- a link to the identity h is one to the place before it
  link_place : (o : Option ℕ) (h : ℕ) → Option.map suc o ≡ some h → (k : ℕ) × (o ≡ some k) × (suc k ≡ h)
  link_place o h e = (map-eq-some_iff {B = ℕ} suc o).0 e

  found_mates : Mates (λ v. profile (seated C.processes v))
  found_mates = record { up = up'; down = down'; once = once' }
    where
      up' : (v h : ℕ) (b : Bool) → profile (seated C.processes v) ≡ some (some h, b) → (l : Option ℕ) × (profile (seated C.processes h) ≡ some (l, true))
      up' v h b e =
          let x = seat_profile v (some h) b e in
          let k = link_place x.1.link h x.4 in
          let r = handlers x.0 x.1 x.3 k.0 k.1 in (
            Option.map suc r.0.link,
            ap (λ v. profile (seated C.processes v)) (sym k.2) ∙ profile_seated k.0 r.0 r.1
                ∙ ap (λ b. some (Option.map suc r.0.link, b)) r.2,
          )

      down' : (h : ℕ) (l : Option ℕ) → profile (seated C.processes h) ≡ some (l, true) → (v : ℕ) × (b : Bool) × (profile (seated C.processes v) ≡ some (some h, b))
      down' h l e =
          let x = seat_profile h l true e in
          let r = w.linked x.0 x.1 (record { there = x.3 }) x.5 in (
            suc r.0,
            is_waiting r.1.doing,
            profile_seated r.0 r.1 r.2.there ∙ (λ j. some (Option.map suc (r.3 j), is_waiting r.1.doing))
                ∙ ap (λ h. some (some h, is_waiting r.1.doing)) (sym x.2),
          )

      once' : (u v h : ℕ) (a b : Bool) → profile (seated C.processes u) ≡ some (some h, a) → profile (seated C.processes v) ≡ some (some h, b) → u ≡ v
      once' u v h a b e f =
          let x = seat_profile u (some h) a e in
          let y = seat_profile v (some h) b f in
          let k = link_place x.1.link h x.4 in
          let m = link_place y.1.link h y.4 in
          let z : m.0 ≡ k.0 = (let k2 = k.2 in let m2 = m.2 in omega arith) in
          x.2 ∙ ap suc (w.linked_once x.0 y.0 x.1 y.1 (record { there = x.3 }) (record { there = y.3 }) k.0 k.1 (m.1 ∙ ap some z)) ∙ sym y.2

  found_fine : (i : ℕ) (q : Process) → get_elem? C.processes i ≡ some q → Fine p (relinked suc q)
  found_fine i q e = record {
    typed = as_typed p (context_of q.held) q.doing (w.typed i q (record { there = e }));
    names = subst (NamesDiffer q.doing) (context_names q.held) (as_names p (context_of q.held) q.doing (w.typed i q (record { there = e })));
    keys = keys_of_process C.processes (process_keys w) i q e;
    room = w.held i q (record { there = e });
    channels = λ x m. w.channels x.1 (Memᴰ.append_left (outside_ends C.outside) (process_end C.processes i q e x m));
  }

  found_fair : Fair p C.given C.outside
  found_fair = record {
    outwards = λ y m. (w.outside y m).0;
    below = λ y m. (w.outside y m).1;
    rising = w.numbers;
    keys = outside_keys C.outside (once_right (map key (process_ends C.processes)) (map key (outside_ends C.outside)) (keys_apart w));
    channels = λ y m. w.channels (end used y.channel y.type) (Memᴰ.append_right (process_ends C.processes) (outside_end_lem C.outside y m));
  }

  pub well_formed_inv : Inv p C
  well_formed_inv = record {
    id = suc;
    roster = seated C.processes;
    next = suc (length C.processes);
    shows = shown;
    good = record {
      witness = found_witness;
      fine = λ v r e. let x = seat_back C v r e in subst (Fine p) x.4 (found_fine x.0 x.1 x.3);
      placed = λ v r e. let x = seat_back C v r e in let b = found_below C.processes x.0 x.3 in let z = x.2 in (omega arith, omega arith);
      mates = found_mates;
      fair = found_fair;
    };
    places = w.processes;
    numbers = w.given;
  }

-- the invariant, with what is asked of a halted run, is well-formedness
pub inv_iff : (p : Program) (C : Config) → (Inv p C × (C.halted ≡ true → WouldHalt C)) ↔ WellFormed p C
inv_iff p C = (λ (I, h). inv_well_formed I h, λ w. (well_formed_inv w, w.halt))
