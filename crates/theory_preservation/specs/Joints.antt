-- The joints of a configuration by their numbers: what `joints` lists, with identities for places.
use Rattle.std.specs.Prelude.{◌≡◌, refl, ◌≢◌, ◌⊎◌, List, [], ◌∷◌, ◌++◌, map, true, ℕ, zero, suc, ◌+◌, ◌≤◌}
use Rattle.std.proofs.Common.{sym, ◌∙◌, subst, inl, inr, arith}
use Rattle.std.proofs.Math.Path.{ap}
use mathlib.Core.List.Memᴰ
use Rattle.std.proofs.lemmas.Simd.{map-map}
use Rattle.std.proofs.Math.Option
use Rattle.std.proofs.Math.Option.{Option, some, none, none-ne-some, some-injective, map-eq-some_iff}
use Rattle.std.proofs.Math.ListN.{get_elem?}
use Rattle.notation.specs.Tree.{Name}
use Rattle.calculus.specs.Types.{Side, provided, used, other}
use Rattle.calculus.specs.Configuration.{End, Process, relinked, Config, Holder, Far, at_process, at_outside, given_up, far_end}
use Rattle.calculus.specs.Forest.{Joint, Connected, here, past, over, back, Forest, joint_at, channel_joints, link_joint, joints_from, joints}
use Rattle.calculus.specs.Named.{In, NoneTwice}
use Rattle.calculus.specs.WellFormed.{is_waiting}
use Rattle.theory_ends.specs.Lists.{once_append, map-append, found_below}
use Rattle.theory_ends.specs.Ends.{side_clash, key_at}
use Rattle.theory_ends.specs.FarEnds.{Found, FarIs, at_process_lem, at_outside_lem, at_nobody, far_is}
use Rattle.theory_preservation.specs.Witness.{Key, Tip, joint, tip_number, tip_side}
use Rattle.theory_preservation.specs.Roster.{Roster, channel_key, link_key, channel_key_one, channel_no_link, tip_of, link_tip, holds, links, waits, Has, outside, inside}
use Rattle.theory_preservation.specs.Places.{Shows}
use Rattle.theory_preservation.specs.FarEnds.{held_back, nobody_has}

-- ── vertices under other names
abbrev pub both : (ℕ → ℕ) → Joint → Joint
both f j = (f j.0, f j.1)

connected_along : (f : ℕ → ℕ) {J : List Joint} {x y : ℕ} → Connected J x y → Connected (map (both f) J) (f x) (f y)
connected_along f (here e) = here (ap f e)
connected_along f (past c) = past (connected_along f c)
connected_along f (over c d) = over (connected_along f c) (connected_along f d)
connected_along f (back c d) = back (connected_along f c) (connected_along f d)

-- what is a forest under other names was one
pub forest_back : (f : ℕ → ℕ) (J : List Joint) → Forest (map (both f) J) → Forest J
forest_back f [] g = tt
forest_back f (j ∷ J) g = (forest_back f J g.0, λ c. g.1 (connected_along f c))

-- names that can be undone keep a forest
pub forest_along : (f g : ℕ → ℕ) → ((x : ℕ) → g (f x) ≡ x) → (J : List Joint) → Forest J → Forest (map (both f) J)
forest_along f g h J F = forest_back g (map (both f) J) (subst Forest (sym (map-map (both g) (both f) J ∙ undone J)) F)
  where
    undone : (J : List Joint) → map (λ j. both g (both f j)) J ≡ J
    undone [] = refl
    undone (j ∷ J) = λ i. (h j.0 i, h j.1 i) ∷ undone J i

-- ── the numbers of the joints, in the order of `joints`
abbrev far_key : End → Side → Far → List ℕ
far_key e provided (at_process h) = channel_key e.channel ∷ []
far_key e provided (at_outside n) = []
far_key e provided given_up = []
far_key e used f = []

abbrev held_keys : Config → List (Name × End) → List ℕ
held_keys C [] = []
held_keys C (x ∷ l) = far_key x.1 x.1.side (far_end C x.1) ++ held_keys C l

abbrev link_numbers : (ℕ → ℕ) → Option ℕ → List ℕ
link_numbers id none = []
link_numbers id (some h) = link_key (id h) ∷ []

abbrev pub numbers_from : (ℕ → ℕ) → Config → List Process → List ℕ
numbers_from id C [] = []
numbers_from id C (q ∷ l) = (held_keys C q.held ++ link_numbers id q.link) ++ numbers_from id C l

-- a number among them: a provided end with its far end at a process, or a link
far_key_lem : (C : Config) (e : End) (s : Side) (f : Far) → FarIs C e f → e.side ≡ s → (k : ℕ) → In k (far_key e s f)
    → (k ≡ channel_key e.channel) × (e.side ≡ provided) × (h : Holder) × Found C.processes e.channel (other e.side) h
far_key_lem C e provided _ (at_process_lem h f) z k i = (Memᴰ.eq_of_singleton i, z, h, f)
far_key_lem C e provided _ (at_outside_lem n y _ _ _) z k i = absurd (Memᴰ.not-nil i)
far_key_lem C e provided _ (at_nobody _ _) z k i = absurd (Memᴰ.not-nil i)
far_key_lem C e used f _ z k i = absurd (Memᴰ.not-nil i)

held_key : (C : Config) (l : List (Name × End)) (k : ℕ) → In k (held_keys C l)
    → (x : Name × End) × In x l × (k ≡ channel_key x.1.channel) × (x.1.side ≡ provided) × (h : Holder) × Found C.processes x.1.channel (other x.1.side) h
held_key C [] k i = absurd (Memᴰ.not-nil i)
held_key C (x ∷ l) k i = go (held_key C l k) (Memᴰ.append_cases (far_key x.1 x.1.side (far_end C x.1)) i)
  where
    go : (In k (held_keys C l) → (x : Name × End) × In x l × (k ≡ channel_key x.1.channel) × (x.1.side ≡ provided) × (h : Holder) × Found C.processes
        x.1.channel (other x.1.side) h)
        → In k (far_key x.1 x.1.side (far_end C x.1)) ⊎ In k (held_keys C l)
        → (y : Name × End) × In y (x ∷ l) × (k ≡ channel_key y.1.channel) × (y.1.side ≡ provided) × (h : Holder) × Found C.processes y.1.channel (other y.1.side) h
    go r (inl j) = let z = far_key_lem C x.1 x.1.side (far_end C x.1) (far_is C x.1) refl k j in (x, Memᴰ.head refl, z.0, z.1, z.2, z.3)
    go r (inr j) = let z = r j in (z.0, Memᴰ.tail z.1, z.2, z.3, z.4, z.5)

link_number : (id : ℕ → ℕ) (o : Option ℕ) (k : ℕ) → In k (link_numbers id o) → (h : ℕ) × (o ≡ some h) × (k ≡ link_key (id h))
link_number id none k i = absurd (Memᴰ.not-nil i)
link_number id (some h) k i = (h, refl, Memᴰ.eq_of_singleton i)

module _ (C : Config) {id : ℕ → ℕ} {S : Roster} (s : Shows id C.processes S) (own : Key → ℕ) (sound : (v : ℕ) (t : Tip) → Has S C.outside v t → own t.0 ≡ v)
    (handlers : (i : ℕ) (q : Process) → get_elem? C.processes i ≡ some q → (h : ℕ) → q.link ≡ some h
    → (r : Process) × (get_elem? C.processes h ≡ some r) × (is_waiting r.doing ≡ true)) where
  held_has : (i : ℕ) (q : Process) → get_elem? C.processes i ≡ some q → (x : Name × End) → In x q.held → Has S C.outside (id i) (tip_of x.1)
  held_has i q e x m = inside (relinked id q) (s.there i q e) (holds x m refl)

  link_has : (i : ℕ) (q : Process) → get_elem? C.processes i ≡ some q → (h : ℕ) → q.link ≡ some h → Has S C.outside (id i) (link_tip (id h) provided)
  link_has i q e h z = inside (relinked id q) (s.there i q e) (links (id h) (ap (Option.map id) z) refl)

  wait_has : (h : ℕ) (r : Process) → get_elem? C.processes h ≡ some r → is_waiting r.doing ≡ true → Has S C.outside (id h) (link_tip (id h) used)
  wait_has h r e w = inside (relinked id r) (s.there h r e) (waits w refl)

  -- ── the joint of each number is the joint that is listed
  far_joint : (i : ℕ) (e : End) → Has S C.outside (id i) (tip_of e) → (t : Side) → e.side ≡ t → (f : Far) → FarIs C e f → map (joint own) (far_key e t f) ≡ map (both id) (joint_at i t f)
  far_joint i e he provided z _ (at_process_lem h f) = λ j. (near j, far j) ∷ []
    where
      near : own (channel_key e.channel, provided) ≡ id i
      near = ap (λ t. own (channel_key e.channel, t)) (sym z) ∙ sound (id i) (tip_of e) he

      far : own (channel_key e.channel, used) ≡ id h.place
      far =
          (λ j. own (channel_key (sym f.channel j), sym (f.side ∙ ap other z) j)) ∙ sound (id h.place) (tip_of f.end)
          (held_has h.place h.process f.stands (h.name, f.end) f.held)
  far_joint i e he provided z _ (at_outside_lem n y _ _ _) = refl
  far_joint i e he provided z _ (at_nobody _ _) = refl
  far_joint i e he used z f _ = refl

  held_joints_lem : (i : ℕ) (l : List (Name × End)) → ((x : Name × End) → In x l → Has S C.outside (id i) (tip_of x.1))
      → map (joint own) (held_keys C l) ≡ map (both id) (channel_joints C i l)
  held_joints_lem i [] h = refl
  held_joints_lem i (x ∷ l) h =
      map-append (joint own) (far_key x.1 x.1.side (far_end C x.1)) (held_keys C l)
      ∙ (λ j. far_joint i x.1 (h x (Memᴰ.head refl)) x.1.side refl (far_end C x.1) (far_is C x.1) j ++ held_joints_lem i l (λ y m. h y (Memᴰ.tail m)) j)
      ∙ sym (map-append (both id) (joint_at i x.1.side (far_end C x.1)) (channel_joints C i l))

  link_joints : (i : ℕ) (q : Process) → get_elem? C.processes i ≡ some q → (o : Option ℕ) → q.link ≡ o → map (joint own) (link_numbers id o) ≡ map (both id) (link_joint i o)
  link_joints i q e none z = refl
  link_joints i q e (some h) z =
      let r = handlers i q e h z in
      λ j. (sound (id i) (link_tip (id h) provided) (link_has i q e h z) j, sound (id h) (link_tip (id h) used) (wait_has h r.0 r.1 r.2) j) ∷ []

  -- l is the list from place i on
  abbrev From : ℕ → List Process → Type 0
  From i l = (j : ℕ) (q : Process) → get_elem? l j ≡ some q → get_elem? C.processes (i + j) ≡ some q

  from_head : (i : ℕ) (q : Process) (l : List Process) → From i (q ∷ l) → get_elem? C.processes i ≡ some q
  from_head i q l f = ap (get_elem? C.processes) (omega arith) ∙ f 0 q refl

  from_tail : (i : ℕ) (q : Process) (l : List Process) → From i (q ∷ l) → From (suc i) l
  from_tail i q l f j r e = ap (get_elem? C.processes) (omega arith) ∙ f (suc j) r e

  joints_from_lem : (i : ℕ) (l : List Process) → From i l → map (joint own) (numbers_from id C l) ≡ map (both id) (joints_from C i l)
  joints_from_lem i [] f = refl
  joints_from_lem i (q ∷ l) f =
      let e = from_head i q l f in
      map-append (joint own) (held_keys C q.held ++ link_numbers id q.link) (numbers_from id C l)
      ∙ (λ j. (map-append (joint own) (held_keys C q.held) (link_numbers id q.link)
      ∙ (λ j. held_joints_lem i q.held (held_has i q e) j ++ link_joints i q e q.link refl j)
      ∙ sym (map-append (both id) (channel_joints C i q.held) (link_joint i q.link))) j ++ joints_from_lem (suc i) l (from_tail i q l f) j)
      ∙ sym (map-append (both id) (channel_joints C i q.held ++ link_joint i q.link) (joints_from C (suc i) l))

  abbrev pub numbers : List ℕ
  numbers = numbers_from id C C.processes

  pub joints_are : map (joint own) numbers ≡ map (both id) (joints C)
  unfolding joints
  joints_are = joints_from_lem 0 C.processes (λ j q e. ap (get_elem? C.processes) (omega arith) ∙ e)

  -- ── no number twice
  -- the provided end of each number of the process at i is there
  number_own : (i : ℕ) (q : Process) → get_elem? C.processes i ≡ some q → (k : ℕ) → In k (held_keys C q.held ++ link_numbers id q.link) → own (k, provided) ≡ id i
  number_own i q e k m = go (Memᴰ.append_cases (held_keys C q.held) m)
    where
      go : In k (held_keys C q.held) ⊎ In k (link_numbers id q.link) → own (k, provided) ≡ id i
      go (inl j) = let x = held_key C q.held k j in (λ j. own (x.2 j, sym x.3 j)) ∙ sound (id i) (tip_of x.0.1) (held_has i q e x.0 x.1)
      go (inr j) = let x = link_number id q.link k j in (λ j. own (x.2 j, provided)) ∙ sound (id i) (link_tip (id x.0) provided) (link_has i q e x.0 x.1)

  held_once : (l : List (Name × End)) → NoneTwice (map key_at l) → NoneTwice (held_keys C l)
  held_once [] u = tt
  held_once (x ∷ l) u = once_append (far_key x.1 x.1.side (far_end C x.1)) (held_keys C l) (one x.1.side (far_end C x.1)) (held_once l u.1) disjoint
    where
      one : (t : Side) (f : Far) → NoneTwice (far_key x.1 t f)
      one provided (at_process h) = (Memᴰ.not-nil, tt)
      one provided (at_outside n) = tt
      one provided given_up = tt
      one used f = tt

      disjoint : (k : ℕ) → In k (far_key x.1 x.1.side (far_end C x.1)) → In k (held_keys C l) → ⊥
      disjoint k i j =
          let a = far_key_lem C x.1 x.1.side (far_end C x.1) (far_is C x.1) refl k i in
          let b = held_key C l k j in
          u.0 (Memᴰ.cast (λ i. (channel_key_one x.1.channel b.0.1.channel (sym a.0 ∙ b.2) i, (a.1 ∙ sym b.3) i)) (Memᴰ.map key_at b.1))

  process_once : (q : Process) → NoneTwice (map key_at q.held) → NoneTwice (held_keys C q.held ++ link_numbers id q.link)
  process_once q u = once_append (held_keys C q.held) (link_numbers id q.link) (held_once q.held u) (one q.link)
      (λ k i j. let a = held_key C q.held k i in let b = link_number id q.link k j in channel_no_link a.0.1.channel (id b.0) (sym a.2 ∙ b.2))
    where
      one : (o : Option ℕ) → NoneTwice (link_numbers id o)
      one none = tt
      one (some h) = (Memᴰ.not-nil, tt)

  -- which process a number comes from
  number_from_lem : (i : ℕ) (l : List Process) → From i l → (k : ℕ) → In k (numbers_from id C l)
      → (j : ℕ) × (q : Process) × (get_elem? C.processes j ≡ some q) × (i ≤ j) × In k (held_keys C q.held ++ link_numbers id q.link)
  number_from_lem i [] f k m = absurd (Memᴰ.not-nil m)
  number_from_lem i (q ∷ l) f k m = go (number_from_lem (suc i) l (from_tail i q l f) k) (Memᴰ.append_cases (held_keys C q.held ++ link_numbers id q.link) m)
    where
      go : (In k (numbers_from id C l) → (j : ℕ) × (q : Process) × (get_elem? C.processes j ≡ some q) × (suc i ≤ j) × In k (held_keys C q.held ++ link_numbers id q.link))
          → In k (held_keys C q.held ++ link_numbers id q.link) ⊎ In k (numbers_from id C l)
          → (j : ℕ) × (q : Process) × (get_elem? C.processes j ≡ some q) × (i ≤ j) × In k (held_keys C q.held ++ link_numbers id q.link)
      go r (inl x) = (i, q, from_head i q l f, omega arith, x)
      go r (inr x) = let y = r x in (y.0, y.1, y.2, (let z = y.3 in omega arith), y.4)

  numbers_once_from : (i : ℕ) (l : List Process) → From i l → ((j : ℕ) (q : Process) → get_elem? C.processes j ≡ some q → NoneTwice (map key_at q.held)) → NoneTwice (numbers_from id C l)
  numbers_once_from i [] f u = tt
  numbers_once_from i (q ∷ l) f u =
      once_append (held_keys C q.held ++ link_numbers id q.link) (numbers_from id C l) (process_once q (u i q e)) (numbers_once_from (suc i) l (from_tail i q l f) u) disjoint
    where
      e : get_elem? C.processes i ≡ some q
      e = from_head i q l f

      disjoint : (k : ℕ) → In k (held_keys C q.held ++ link_numbers id q.link) → In k (numbers_from id C l) → ⊥
      disjoint k a b =
          let x = number_from_lem (suc i) l (from_tail i q l f) k b in
          let z : i ≡ x.0 = s.apart i x.0 (found_below C.processes i e) (found_below C.processes x.0 x.2)
          (sym (number_own i q e k a) ∙ number_own x.0 x.1 x.2 k x.4) in
          let w = x.3 in omega arith

  pub numbers_once : ((j : ℕ) (q : Process) → get_elem? C.processes j ≡ some q → NoneTwice (map key_at q.held)) → NoneTwice numbers
  numbers_once = numbers_once_from 0 C.processes (λ j q e. ap (get_elem? C.processes) (omega arith) ∙ e)

  -- ── the numbers are those of joints with both ends at processes
  -- what counts every such joint counts the numbers
  pub numbers_live : ((i : ℕ) (q : Process) → get_elem? C.processes i ≡ some q → id i ≢ 0) → (K : List ℕ)
      → ((u v : ℕ) (e f : Tip) → Has S C.outside u e → Has S C.outside v f → u ≢ 0 → v ≢ 0 → e.0.0 ≡ f.0.0 → e.0.1 ≡ provided → f.0.1 ≡ used → In e.0.0 K)
      → (k : ℕ) → In k numbers → In k K
  numbers_live pos K live k m = go (number_from_lem 0 C.processes (λ j q e. ap (get_elem? C.processes) (omega arith) ∙ e) k m)
    where
      go : (j : ℕ) × (q : Process) × (get_elem? C.processes j ≡ some q) × (0 ≤ j) × In k (held_keys C q.held ++ link_numbers id q.link) → In k K
      go (j, q, e, _, m) = two (Memᴰ.append_cases (held_keys C q.held) m)
        where
          two : In k (held_keys C q.held) ⊎ In k (link_numbers id q.link) → In k K
          two (inl n) =
              let x = held_key C q.held k n in
              let f = x.5 in
              let h = x.4 in
              Memᴰ.cast x.2 (live (id j) (id h.place) (tip_of x.0.1) (tip_of f.end) (held_has j q e x.0 x.1)
              (held_has h.place h.process f.stands (h.name, f.end) f.held)
              (pos j q e) (pos h.place h.process f.stands) (ap channel_key (sym f.channel)) x.3 (f.side ∙ ap other x.3))
          two (inr n) =
              let x = link_number id q.link k n in
              let r = handlers j q e x.0 x.1 in
              Memᴰ.cast x.2 (live (id j) (id x.0) (link_tip (id x.0) provided) (link_tip (id x.0) used) (link_has j q e x.0 x.1)
              (wait_has x.0 r.0 r.1 r.2) (pos j q e) (pos x.0 r.0 r.1) refl refl refl)

  -- and every such joint is among them
  in_numbers : (l : List Process) (i : ℕ) (q : Process) → get_elem? l i ≡ some q → (k : ℕ) → In k (held_keys C q.held ++ link_numbers id q.link) → In k (numbers_from id C l)
  in_numbers [] i q e k m = absurd (none-ne-some q e)
  in_numbers (r ∷ l) zero q e k m =
      Memᴰ.append_left (numbers_from id C l) (subst (λ (q : Process). In k (held_keys C q.held ++ link_numbers id q.link)) (sym (some-injective _ _ e)) m)
  in_numbers (r ∷ l) (suc i) q e k m = Memᴰ.append_right (held_keys C r.held ++ link_numbers id r.link) (in_numbers l i q e k m)

  in_held : (l : List (Name × End)) (x : Name × End) → In x l → (k : ℕ) → In k (far_key x.1 x.1.side (far_end C x.1)) → In k (held_keys C l)
  in_held [] x i k m = elim i [ ]
  in_held (y ∷ l) x (Memᴰ.head e) k m = Memᴰ.append_left (held_keys C l) (subst (λ (x : Name × End). In k (far_key x.1 x.1.side (far_end C x.1))) e m)
  in_held (y ∷ l) x (Memᴰ.tail i) k m = Memᴰ.append_right (far_key y.1 y.1.side (far_end C y.1)) (in_held l x i k m)

  pub numbers_all : (u v : ℕ) (e f : Tip) → Has S C.outside u e → Has S C.outside v f → u ≢ 0 → v ≢ 0 → e.0.0 ≡ f.0.0 → e.0.1 ≡ provided → f.0.1 ≡ used → In e.0.0 numbers
  numbers_all u v e f (outside z _ _ _) g u0 v0 p a b = absurd (u0 z)
  numbers_all u v e f (inside r w (waits _ h)) g u0 v0 p a b = absurd (side_clash (sym a ∙ ap tip_side h))
  numbers_all u v e f (inside r w (links h l y)) g u0 v0 p a b =
      let x = s.back u r w in
      let z : relinked id x.1 ≡ r = some-injective _ _ (sym (s.there x.0 x.1 x.2) ∙ ap S x.3 ∙ w) in
      let k = (map-eq-some_iff {B = ℕ} id x.1.link).0 (ap (λ (r : Process). r.link) z ∙ l) in
      Memᴰ.cast (ap tip_number y ∙ ap link_key (sym k.2))
      (in_numbers C.processes x.0 x.1 x.2 _ (Memᴰ.append_right (held_keys C x.1.held)
      (subst (λ o. In (link_key (id k.0)) (link_numbers id o)) (sym k.1) (Memᴰ.head refl))))
  numbers_all u v e f (inside r w (holds x m y)) g u0 v0 p a b =
      let q = held_back C s u r w x m in
      Memᴰ.cast (ap tip_number y)
      (in_numbers C.processes q.0 q.1 q.2 (channel_key x.1.channel)
      (Memᴰ.append_left (link_numbers id q.1.link) (in_held q.1.held x q.3 _ (at_far x.1.side (sym (ap tip_side y) ∙ a) (far_end C x.1) (far_is C x.1)))))
    where
      far : f.0 ≡ (channel_key x.1.channel, used)
      far i = ((sym p ∙ ap tip_number y) i, b i)

      at_far : (t : Side) → t ≡ provided → (d : Far) → FarIs C x.1 d → In (channel_key x.1.channel) (far_key x.1 t d)
      at_far used z d k = absurd (side_clash (sym z))
      at_far provided z _ (at_process_lem h k) = Memᴰ.head refl
      at_far provided z _ (at_outside_lem n o i c _) =
          absurd (v0 (sym (sound v f g) ∙ ap own far ∙ sound 0 ((channel_key x.1.channel, used), some o.type) (outside refl o i (λ j. ((channel_key (sym c j), used), some o.type)))))
      at_far provided z _ (at_nobody n o) =
          absurd (nobody_has C s x.1 (record { processes = n; outside = o }) v f.1 (subst (λ k. Has S C.outside v (k, f.1)) (far ∙ (λ i. (channel_key x.1.channel, other ((sym a ∙ ap tip_side y) i)))) g))
