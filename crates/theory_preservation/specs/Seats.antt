-- A configuration as a roster: the process at place i has the identity i + 1. Who has which end, and that it is one.
use Rattle.std.specs.Prelude.{◌≡◌, refl, ◌≢◌, List, [], ◌∷◌, ◌++◌, map, Bool, true, false, length}
use Rattle.std.proofs.Common.{sym, ◌∙◌, ap, subst, true≢false}
use mathlib.Core.List.Memᴰ
use Rattle.std.proofs.Math.Option
use Rattle.std.proofs.Math.Option.{Option, some, none, none-ne-some, some-injective, map-eq-some_iff}
use Prim.Native.Nat.{ℕ, zero, suc, ◌<◌}
use native.Mathlib.Omega.{arith}
use Rattle.std.proofs.Math.ListN.{get_elem?}
use Rattle.notation.specs.Tree.{Name, Ty}
use Rattle.calculus.specs.Types.{Side, provided, used}
use Rattle.calculus.specs.Program.{Program}
use Rattle.calculus.specs.Configuration.{End, end, Process, relinked, Outside, Config}
use Rattle.calculus.specs.Named.{In, NoneTwice}
use Rattle.calculus.specs.WellFormed.{process_ends, outside_ends, ends, key, is_waiting, WellFormed}
use Rattle.theory_ends.specs.Lists.{search, map-append, found_below, once_left, once_apart}
use Rattle.theory_ends.specs.Ends.{side_clash, process_end, one_process, outside_end_lem}
use Rattle.theory_preservation.specs.Witness.{Key, Tip, key_discrete, OneOf, of_channels, of_links, tip_number, tip_key, key_number, key_side}
use Rattle.theory_preservation.specs.Roster.{Roster, channel_key_one, link_key, link_key_one, channel_no_link, key_of, tip_of, link_tip, outside_tip, Tips, holds, links, waits, Has, outside, inside}
use Rattle.theory_preservation.specs.TwoEnds.{key_from_key}

abbrev pub seated : List Process → Roster
seated l zero = none
seated l (suc i) = Option.map (relinked suc) (get_elem? l i)

-- ── where an end is
-- v has the end e of a channel
data HasEnd (C : Config) (v : ℕ) (e : End) : Type 0 where
  outside_has : v ≡ 0 → (y : Outside) → In y C.outside → e ≡ end used y.channel y.type → HasEnd C v e
  process_has : (i : ℕ) (q : Process) → v ≡ suc i → get_elem? C.processes i ≡ some q → (n : Name) → In (n, e) q.held → HasEnd C v e

-- v has the side s of the link to the handler at h
data HasLink (C : Config) (v h : ℕ) (s : Side) : Type 0 where
  by_linked : (i : ℕ) (q : Process) → v ≡ suc i → get_elem? C.processes i ≡ some q → q.link ≡ some h → s ≡ provided → HasLink C v h s
  by_handler : (r : Process) → v ≡ suc h → get_elem? C.processes h ≡ some r → s ≡ used → HasLink C v h s

data Seat (C : Config) (v : ℕ) (t : Tip) : Type 0 where
  channel_seat : (e : End) → t ≡ tip_of e → HasEnd C v e → Seat C v t
  link_seat : (h : ℕ) (s : Side) → t ≡ link_tip (suc h) s → HasLink C v h s → Seat C v t

module _ (C : Config) where
  abbrev pub SeatedHas : ℕ → Tip → Type 0
  SeatedHas = Has (seated C.processes) C.outside

  pub seat_back : (v : ℕ) (r : Process) → seated C.processes v ≡ some r → (i : ℕ) × (q : Process) × (v ≡ suc i) × (get_elem? C.processes i ≡ some q) × (relinked suc q ≡ r)
  seat_back zero r e = absurd (none-ne-some r e)
  seat_back (suc i) r e = let x = (map-eq-some_iff {B = Process} (relinked suc) (get_elem? C.processes i)).0 e in (i, x.0, refl, x.1, x.2)

  has_seat : (v : ℕ) (t : Tip) → SeatedHas v t → Seat C v t
  has_seat v t (outside z y i e) = channel_seat (end used y.channel y.type) e (outside_has z y i refl)
  has_seat v t (inside r w h) = go (seat_back v r w) h
    where
      go : (i : ℕ) × (q : Process) × (v ≡ suc i) × (get_elem? C.processes i ≡ some q) × (relinked suc q ≡ r) → Tips v r t → Seat C v t
      go (i, q, z, e, y) (holds x m k) = channel_seat x.1 k (process_has i q z e x.0 (subst (λ (r : Process). In x r.held) (sym y) m))
      go (i, q, z, e, y) (links h l k) =
          let x = (map-eq-some_iff {B = ℕ} suc q.link).0 (ap (λ (r : Process). r.link) y ∙ l) in
          link_seat x.0 provided (k ∙ ap (λ h. link_tip h provided) (sym x.2)) (by_linked i q z e x.1 refl)
      go (i, q, z, e, y) (waits _ k) = link_seat i used (k ∙ ap (λ v. link_tip v used) z) (by_handler q z e refl)

  end_below : (v : ℕ) (e : End) → HasEnd C v e → v < suc (length C.processes)
  end_below v e (outside_has z _ _ _) = omega arith
  end_below v e (process_has i q z h _ _) = let b = found_below C.processes i h in omega arith

  link_below : (v h : ℕ) (s : Side) → HasLink C v h s → v < suc (length C.processes)
  link_below v h s (by_linked i q z e _ _) = let b = found_below C.processes i e in omega arith
  link_below v h s (by_handler r z e _) = let b = found_below C.processes h e in omega arith

  pub has_below : (v : ℕ) (t : Tip) → SeatedHas v t → v < suc (length C.processes)
  has_below v t h = go (has_seat v t h)
    where
      go : Seat C v t → v < suc (length C.processes)
      go (channel_seat e _ x) = end_below v e x
      go (link_seat k s _ x) = link_below v k s x

-- ── one owner, one type
module _ {p : Program} {C : Config} (w : WellFormed p C) where
  pub keys_apart : NoneTwice (map key (process_ends C.processes) ++ map key (outside_ends C.outside))
  keys_apart = subst NoneTwice (map-append key (process_ends C.processes) (outside_ends C.outside)) w.once

  pub process_keys : NoneTwice (map key (process_ends C.processes))
  process_keys = once_left (map key (process_ends C.processes)) (map key (outside_ends C.outside)) keys_apart

  not_both : (y : Outside) → In y C.outside → (i : ℕ) (q : Process) → get_elem? C.processes i ≡ some q → (x : Name × End) → In x q.held → key x.1 ≢ (y.channel, used)
  not_both y m i q e x n = once_apart (map key (process_ends C.processes)) (map key (outside_ends C.outside)) keys_apart
      (Memᴰ.map key (process_end C.processes i q e x n)) (Memᴰ.map key (outside_end_lem C.outside y m))

  end_one : (u v : ℕ) (e d : End) → HasEnd C u e → HasEnd C v d → key e ≡ key d → u ≡ v
  end_one u v e d (outside_has z _ _ _) (outside_has y _ _ _) k = z ∙ sym y
  end_one u v e d (outside_has _ o m g) (process_has j r _ n x l) k = absurd (not_both o m j r n (x, d) l (sym k ∙ ap key g))
  end_one u v e d (process_has j r _ n x l) (outside_has _ o m g) k = absurd (not_both o m j r n (x, e) l (k ∙ ap key g))
  end_one u v e d (process_has i q z m x l) (process_has j r y n x' l') k =
      z ∙ ap suc (one_process C.processes process_keys i j q r m n (x, e) (x', d) l l' k) ∙ sym y

  link_one : (u v h g : ℕ) (s t : Side) → HasLink C u h s → HasLink C v g t → h ≡ g → s ≡ t → u ≡ v
  link_one u v h g s t (by_linked i q z m l _) (by_linked j r y n k _) e _ =
      z ∙ ap suc (w.linked_once i j q r (record { there = m }) (record { there = n }) h l (k ∙ ap some (sym e))) ∙ sym y
  link_one u v h g s t (by_linked _ _ _ _ _ a) (by_handler _ _ _ b) _ e = absurd (side_clash (sym a ∙ e ∙ b))
  link_one u v h g s t (by_handler _ _ _ b) (by_linked _ _ _ _ _ a) _ e = absurd (side_clash (sym a ∙ sym e ∙ b))
  link_one u v h g s t (by_handler _ z _ _) (by_handler _ y _ _) e _ = z ∙ ap suc e ∙ sym y

  -- a channel's number is no link's
  mixed : (e f : Tip) (d : End) (h : ℕ) (s : Side) → e ≡ tip_of d → f ≡ link_tip (suc h) s → e.0.0 ≢ f.0.0
  mixed e f d h s a b z = channel_no_link d.channel (suc h) (ap tip_number (sym a) ∙ z ∙ ap tip_number b)

  pub has_one : (u v : ℕ) (e f : Tip) → SeatedHas C u e → SeatedHas C v f → e.0 ≡ f.0 → u ≡ v
  has_one u v e f x y k = go (has_seat C u e x) (has_seat C v f y)
    where
      go : Seat C u e → Seat C v f → u ≡ v
      go (channel_seat d a h) (channel_seat d' b g) = end_one u v d d' h g (key_from_key d d' (ap tip_key (sym a) ∙ k ∙ ap tip_key b))
      go (channel_seat d a _) (link_seat h s b _) = absurd (mixed e f d h s a b (ap key_number k))
      go (link_seat h s a _) (channel_seat d b _) = absurd (mixed f e d h s b a (ap key_number (sym k)))
      go (link_seat h s a x) (link_seat h' s' b y) =
          let z = ap tip_key (sym a) ∙ k ∙ ap tip_key b in
          let n = link_key_one (suc h) (suc h') (ap key_number z) in
          link_one u v h h' s s' x y (omega arith) (ap key_side z)

  end_in_lem : (v : ℕ) (e : End) → HasEnd C v e → In e (ends C)
  end_in_lem v e (outside_has _ y m z) = Memᴰ.append_right (process_ends C.processes) (Memᴰ.cast z (outside_end_lem C.outside y m))
  end_in_lem v e (process_has i q _ h n m) = Memᴰ.append_left (outside_ends C.outside) (process_end C.processes i q h (n, e) m)

  pub has_agree : (u v : ℕ) (e f : Tip) → SeatedHas C u e → SeatedHas C v f → e.0.0 ≡ f.0.0 → OneOf p e.1 f.1
  has_agree u v e f x y z = go (has_seat C u e x) (has_seat C v f y)
    where
      go : Seat C u e → Seat C v f → OneOf p e.1 f.1
      go (channel_seat d a h) (channel_seat d' b g) =
          let c = channel_key_one d.channel d'.channel (ap tip_number (sym a) ∙ z ∙ ap tip_number b) in
          rw (a, b) (of_channels (w.agree d d' (end_in_lem u d h) (end_in_lem v d' g) c))
      go (channel_seat d a _) (link_seat h s b _) = absurd (mixed e f d h s a b z)
      go (link_seat h s a _) (channel_seat d b _) = absurd (mixed f e d h s b a (sym z))
      go (link_seat h s a _) (link_seat h' s' b _) = rw (a, b) of_links

-- ── who has the end of a key, by a search
search_places : {A : Type 0} {Q : ℕ → A → Type 0} → ((i : ℕ) (a : A) → Dec (Q i a)) → (l : List A) → Dec ((i : ℕ) × (a : A) × (get_elem? l i ≡ some a) × Q i a)
search_places d [] = no λ x. none-ne-some x.1 x.2
search_places {A} {Q} d (a ∷ l) = go (d 0 a) (search_places (λ i. d (suc i)) l)
  where
    go : Dec (Q 0 a) → Dec ((i : ℕ) × (b : A) × (get_elem? l i ≡ some b) × Q (suc i) b) → Dec ((i : ℕ) × (b : A) × (get_elem? (a ∷ l) i ≡ some b) × Q i b)
    go (yes q) r = yes (0, a, refl, q)
    go (no n) (yes r) = yes (suc r.0, r.1, r.2, r.3)
    go (no n) (no m) = no λ x. past x.0 x.1 x.2 x.3
      where
        past : (i : ℕ) (b : A) → get_elem? (a ∷ l) i ≡ some b → Q i b → ⊥
        past zero b e q = n (subst (Q 0) (sym (some-injective a b e)) q)
        past (suc i) b e q = m (i, b, e, q)

-- an end of the process r of v
abbrev TipAt : ℕ → Process → Key → Type 0
TipAt v r k = (t : Option (Ty Name)) × Tips v r (k, t)

tip_at : (v : ℕ) (r : Process) (k : Key) → Dec (TipAt v r k)
tip_at v r k = go (search (λ (x : Name × End). key_discrete (key_of x.1) k) r.held) (link_at r.link) (wait_at (is_waiting r.doing))
  where
    link_at : (o : Option ℕ) → Dec ((h : ℕ) × (o ≡ some h) × ((link_key h, provided) ≡ k))
    link_at none = no λ x. none-ne-some x.0 x.1
    link_at (some h) = by (key_discrete (link_key h, provided) k)
      where
        by : Dec ((link_key h, provided) ≡ k) → Dec ((g : ℕ) × (some h ≡ some g) × ((link_key g, provided) ≡ k))
        by (yes z) = yes (h, refl, z)
        by (no n) = no λ x. n (ap (λ h. (link_key h, provided)) (some-injective h x.0 x.1) ∙ x.2)

    wait_at : (b : Bool) → Dec ((b ≡ true) × ((link_key v, used) ≡ k))
    wait_at b = by b (key_discrete (link_key v, used) k)
      where
        by : (b : Bool) → Dec ((link_key v, used) ≡ k) → Dec ((b ≡ true) × ((link_key v, used) ≡ k))
        by true (yes z) = yes (refl, z)
        by true (no n) = no λ x. n x.1
        by false d = no λ x. true≢false (sym x.0)

    go : Dec ((x : Name × End) × In x r.held × (key_of x.1 ≡ k)) → Dec ((h : ℕ) × (r.link ≡ some h) × ((link_key h, provided) ≡ k))
        → Dec ((is_waiting r.doing ≡ true) × ((link_key v, used) ≡ k)) → Dec (TipAt v r k)
    go (yes x) d f = yes (some x.0.1.type, holds x.0 x.1 (λ j. (sym x.2 j, some x.0.1.type)))
    go (no n) (yes x) f = yes (none, links x.0 x.1 (λ j. (sym x.2 j, none)))
    go (no n) (no m) (yes x) = yes (none, waits x.0 (λ j. (sym x.1 j, none)))
    go (no n) (no m) (no l) = no λ x. without x.0 x.1
      where
        without : (t : Option (Ty Name)) → ¬ Tips v r (k, t)
        without t (holds x i z) = n (x, i, ap tip_key (sym z))
        without t (links h e z) = m (h, e, ap tip_key (sym z))
        without t (waits b z) = l (b, ap tip_key (sym z))

module _ (C : Config) where
  abbrev Owned : Key → Type 0
  Owned k = (v : ℕ) × (t : Option (Ty Name)) × SeatedHas C v (k, t)

  find_owner : (k : Key) → Dec (Owned k)
  find_owner k = out (search (λ (y : Outside). key_discrete (outside_tip y).0 k) C.outside)
    where
      inner : ¬ ((y : Outside) × In y C.outside × ((outside_tip y).0 ≡ k))
          → Dec ((i : ℕ) × (q : Process) × (get_elem? C.processes i ≡ some q) × TipAt (suc i) (relinked suc q) k) → Dec (Owned k)
      inner n (yes x) = yes (suc x.0, x.3.0, inside (relinked suc x.1) (ap (Option.map (relinked suc)) x.2) x.3.1)
      inner n (no m) = no λ x. none_has x.0 x.1 x.2
        where
          none_has : (v : ℕ) (t : Option (Ty Name)) → ¬ SeatedHas C v (k, t)
          none_has v t (outside _ y i e) = n (y, i, ap tip_key (sym e))
          none_has v t (inside r w h) =
              let x = seat_back C v r w in
              m (x.0, x.1, x.3, (t, subst (λ (y : ℕ × Process). Tips y.0 y.1 (k, t)) (λ j. (x.2 j, sym x.4 j)) h))

      out : Dec ((y : Outside) × In y C.outside × ((outside_tip y).0 ≡ k)) → Dec (Owned k)
      out (yes x) = yes (0, some x.0.type, outside refl x.0 x.1 (λ j. (sym x.2 j, some x.0.type)))
      out (no n) = inner n (search_places (λ i q. tip_at (suc i) (relinked suc q) k) C.processes)

  abbrev owner_if : {k : Key} → Dec (Owned k) → ℕ
  owner_if (yes r) = r.0
  owner_if (no _) = 0

  pub owner_of : Key → ℕ
  owner_of k = owner_if (find_owner k)

  pub owner_below : (k : Key) → owner_of k < suc (length C.processes)
  unfolding owner_of
  owner_below k = go (find_owner k)
    where
      go : (d : Dec (Owned k)) → owner_if d < suc (length C.processes)
      go (yes r) = has_below C r.0 (k, r.1) r.2
      go (no n) = omega arith

pub owner_sound : {p : Program} {C : Config} → WellFormed p C → (v : ℕ) (t : Tip) → SeatedHas C v t → owner_of C t.0 ≡ v
unfolding owner_of
owner_sound {C = C} w v t h = go (find_owner C t.0)
  where
    go : (d : Dec (Owned C t.0)) → owner_if C d ≡ v
    go (yes r) = has_one w r.0 v (t.0, r.1) t r.2 h refl
    go (no n) = absurd (n (v, t.1, h))
