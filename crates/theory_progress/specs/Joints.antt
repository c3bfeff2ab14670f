-- Joints are fewer than processes; and a joint by its key, which each of its two ends finds.
use Rattle.std.specs.Prelude.{ℕ, zero, suc, ◌+◌, ◌<◌, ◌≡◌, refl, ◌≢◌, ◌⊎◌, List, [], ◌∷◌, ◌++◌, length}
use Rattle.std.proofs.Common.{arith, sym, ◌∙◌, ap, subst, inl, inr, length-append}
use mathlib.Core.List.Memᴰ
use Rattle.std.proofs.Math.Option.{Option, some, none, some-injective, none-ne-some}
use Rattle.std.proofs.Math.ListN.{get_elem?}
use Rattle.notation.specs.Tree.{Name}
use Rattle.calculus.specs.Types.{Side, provided, used, other}
use Rattle.calculus.specs.Program.{Program}
use Rattle.calculus.specs.Configuration.{End, Process, Config, Stands, Holder, Far, at_process, at_outside, given_up, far_end}
use Rattle.calculus.specs.Forest.{Joint, joint_at, channel_joints, link_joint, joints_from, joints}
use Rattle.calculus.specs.Named.{In}
use Rattle.calculus.specs.WellFormed.{WellFormed}
use Rattle.theory_graphs.specs.Graph.{EndsIn, forest_small}
use Rattle.theory_ends.specs.Lists.{found_below}
use Rattle.theory_ends.specs.FarEnds.{stands_at, found_key, HeldFar, FarIs, at_process_lem, at_outside_lem, at_nobody, far_is, far_back, far_found}
use Rattle.theory_progress.specs.Places.{places, length_places, in_places}

-- ── the ends of joints are places of processes
abbrev Within : Config → Joint → Type 0
Within C j = (j.0 < length C.processes) × (j.1 < length C.processes)

stands_below : {C : Config} {i : ℕ} {q : Process} → Stands C i q → i < length C.processes
stands_below {C} {i} s = found_below C.processes i s.there

joint_within : {C : Config} {i : ℕ} {e : End} {f : Far} {j : Joint} → i < length C.processes → (s : Side) → FarIs C e f → In j (joint_at i s f)
    → Within C j
joint_within {C} h provided (at_process_lem _ v) (Memᴰ.head e) = subst (Within C) (sym e) (h, stands_below (stands_at C v))
joint_within h provided (at_process_lem _ v) (Memᴰ.tail m) = elim m [ ]
joint_within h used (at_process_lem _ v) m = absurd (Memᴰ.not-nil m)
joint_within h provided (at_outside_lem _ _ _ _ _) m = absurd (Memᴰ.not-nil m)
joint_within h used (at_outside_lem _ _ _ _ _) m = absurd (Memᴰ.not-nil m)
joint_within h provided (at_nobody _ _) m = absurd (Memᴰ.not-nil m)
joint_within h used (at_nobody _ _) m = absurd (Memᴰ.not-nil m)

channel_within : (C : Config) {i : ℕ} (l : List (Name × End)) {j : Joint} → i < length C.processes → In j (channel_joints C i l) → Within C j
channel_within C [] h m = absurd (Memᴰ.not-nil m)
channel_within C {i} (e ∷ l) {j} h m = go (Memᴰ.append_cases (joint_at i e.1.side (far_end C e.1)) m) (λ k. channel_within C l h k)
  where
    go : In j (joint_at i e.1.side (far_end C e.1)) ⊎ In j (channel_joints C i l) → (In j (channel_joints C i l) → Within C j) → Within C j
    go (inl k) r = joint_within h e.1.side (far_is C e.1) k
    go (inr k) r = r k

link_within : {p : Program} {C : Config} → WellFormed p C → {i : ℕ} {q : Process} → Stands C i q → (o : Option ℕ) → q.link ≡ o → {j : Joint}
    → In j (link_joint i o) → Within C j
link_within w s none e m = absurd (Memᴰ.not-nil m)
link_within {C = C} w {i} {q} s (some h) e (Memᴰ.head z) = subst (Within C) (sym z) (stands_below s, stands_below (w.links i q s h e).1)
link_within w s (some h) e (Memᴰ.tail m) = elim m [ ]

joints_within : {p : Program} {C : Config} → WellFormed p C → (i : ℕ) (l : List Process)
    → ((k : ℕ) (q : Process) → get_elem? l k ≡ some q → Stands C (i + k) q) → {j : Joint} → In j (joints_from C i l) → Within C j
joints_within w i [] f m = absurd (Memᴰ.not-nil m)
joints_within {C = C} w i (q ∷ l) f {j} m =
    go (Memᴰ.append_cases (channel_joints C i q.held ++ link_joint i q.link) m)
    (λ k. joints_within w (suc i) l (λ n r e. subst (λ i. Stands C i r) (omega arith) (f (suc n) r e)) k)
  where
    s : Stands C i q
    s = subst (λ i. Stands C i q) (omega arith) (f 0 q refl)

    own : In j (channel_joints C i q.held) ⊎ In j (link_joint i q.link) → Within C j
    own (inl k) = channel_within C q.held (stands_below s) k
    own (inr k) = link_within w s q.link refl k

    go : In j (channel_joints C i q.held ++ link_joint i q.link) ⊎ In j (joints_from C (suc i) l) → (In j (joints_from C (suc i) l) → Within C j)
        → Within C j
    go (inl k) r = own (Memᴰ.append_cases (channel_joints C i q.held) k)
    go (inr k) r = r k

-- "the joints form a forest", so they are fewer than the processes
pub joints_fewer : (p : Program) (C : Config) → WellFormed p C → C.processes ≢ [] → length (joints C) < length C.processes
unfolding joints
joints_fewer p C w n = go C.processes refl
  where
    ends_in_lem : EndsIn (joints C) (places (length C.processes))
    ends_in_lem j m =
        let h = joints_within w 0 C.processes (λ k q e. record { there = ap (get_elem? C.processes) (omega arith) ∙ e }) m in
        (in_places _ h.0, in_places _ h.1)

    go : (l : List Process) → C.processes ≡ l → length (joints C) < length C.processes
    go [] e = absurd (n e)
    go (q ∷ l) e =
        let z : 0 < length C.processes = rw e (omega arith) in
        let b = forest_small (joints C) (places (length C.processes)) w.forest ends_in_lem (in_places _ z) in
        rw length_places at b

-- ── a joint by its key: the channel, or the place of the handler that waits
pub data JointKey : Type 0 where
  channel : ℕ → JointKey
  handler : ℕ → JointKey
  deriving Discrete as JointKey-discrete

abbrev key_at : ℕ → Side → Far → List JointKey
key_at k provided (at_process h) = channel k ∷ []
key_at k provided (at_outside n) = []
key_at k provided given_up = []
key_at k used f = []

abbrev channel_keys : Config → List (Name × End) → List JointKey
channel_keys C [] = []
channel_keys C (e ∷ l) = key_at e.1.channel e.1.side (far_end C e.1) ++ channel_keys C l

abbrev link_key : Option ℕ → List JointKey
link_key none = []
link_key (some h) = handler h ∷ []

abbrev keys_from : Config → List Process → List JointKey
keys_from C [] = []
keys_from C (q ∷ l) = (channel_keys C q.held ++ link_key q.link) ++ keys_from C l

pub joint_keys : Config → List JointKey
joint_keys C = keys_from C C.processes

length_key : (i k : ℕ) (s : Side) (f : Far) → length (key_at k s f) ≡ length (joint_at i s f)
length_key i k provided (at_process h) = refl
length_key i k provided (at_outside n) = refl
length_key i k provided given_up = refl
length_key i k used f = refl

length_channel_keys : (C : Config) (i : ℕ) (l : List (Name × End)) → length (channel_keys C l) ≡ length (channel_joints C i l)
length_channel_keys C i [] = refl
length_channel_keys C i (e ∷ l) = simp (length-append, length_key i e.1.channel e.1.side (far_end C e.1), length_channel_keys C i l)

length_link_key : (i : ℕ) (o : Option ℕ) → length (link_key o) ≡ length (link_joint i o)
length_link_key i none = refl
length_link_key i (some h) = refl

length_keys : (C : Config) (i : ℕ) (l : List Process) → length (keys_from C l) ≡ length (joints_from C i l)
length_keys C i [] = refl
length_keys C i (q ∷ l) = simp (length-append, length_channel_keys C i q.held, length_link_key i q.link, length_keys C (suc i) l)

-- there are as many keys as joints
pub keys_of_joints : (C : Config) → length (joint_keys C) ≡ length (joints C)
unfolding joints joint_keys
keys_of_joints C = length_keys C 0 C.processes

channel_key_lem : (C : Config) {n : Name} {e : End} {h : Holder} (l : List (Name × End)) → In (n, e) l → e.side ≡ provided → far_end C e ≡ at_process h
    → In (channel e.channel) (channel_keys C l)
channel_key_lem C [] m s f = elim m [ ]
channel_key_lem C {e = e} (x ∷ l) (Memᴰ.head g) s f =
    Memᴰ.append_left (channel_keys C l)
    (subst (λ (y : Name × End). In (channel e.channel) (key_at y.1.channel y.1.side (far_end C y.1))) g (rw (f, s) (Memᴰ.head refl)))
channel_key_lem C (x ∷ l) (Memᴰ.tail m) s f = Memᴰ.append_right (key_at x.1.channel x.1.side (far_end C x.1)) (channel_key_lem C l m s f)

key_in : (C : Config) (l : List Process) (i : ℕ) {q : Process} {k : JointKey} → get_elem? l i ≡ some q
    → In k (channel_keys C q.held ++ link_key q.link) → In k (keys_from C l)
key_in C [] i h m = absurd (none-ne-some _ h)
key_in C (r ∷ l) zero {k = k} h m =
    Memᴰ.append_left (keys_from C l)
    (subst (λ (q : Process). In k (channel_keys C q.held ++ link_key q.link)) (sym (some-injective _ _ h)) m)
key_in C (r ∷ l) (suc i) h m = Memᴰ.append_right (channel_keys C r.held ++ link_key r.link) (key_in C l i h m)

-- a link is a joint
pub link_joint_lem : {C : Config} {i h : ℕ} {q : Process} → Stands C i q → q.link ≡ some h → In (handler h) (joint_keys C)
unfolding joint_keys
link_joint_lem {C} {i} {h} {q} s e = key_in C C.processes i s.there (Memᴰ.append_right (channel_keys C q.held) (rw e (Memᴰ.head refl)))

-- a channel with processes at both ends is a joint
pub channel_joint : {p : Program} {C : Config} → WellFormed p C → {i : ℕ} {q : Process} {n : Name} {e : End} {h : Holder} → Stands C i q
    → In (n, e) q.held → far_end C e ≡ at_process h → HeldFar C e h → In (channel e.channel) (joint_keys C)
unfolding joint_keys
channel_joint {C = C} w {i} {q} {n} {e} {h} s m f v = go e.side refl
  where
    own : {j : ℕ} {r : Process} {c : Name} {d : End} {g : Holder} → Stands C j r → In (c, d) r.held → d.side ≡ provided → far_end C d ≡ at_process g
        → In (channel d.channel) (keys_from C C.processes)
    own {j} {r} t k z f = key_in C C.processes j t.there (Memᴰ.append_left (link_key r.link) (channel_key_lem C r.held k z f))

    go : (s : Side) → e.side ≡ s → In (channel e.channel) (keys_from C C.processes)
    go provided z = own s m z f
    go used z =
        let g = far_found w v.end s m (far_back e v.end (found_key v)) in
        Memᴰ.cast (ap channel (sym v.channel)) (own (stands_at C v) v.held (v.side ∙ ap other z) g)
