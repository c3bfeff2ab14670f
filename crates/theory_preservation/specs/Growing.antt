-- Rules that make a process: the new one takes some ends of its maker, and is joined to it by a new channel or link.
use Rattle.std.specs.Prelude.{◌≡◌, refl, ◌≢◌, ◌⊎◌, Bool, true, false, not, ℕ, suc, ◌<◌, length}
use Rattle.std.proofs.Common.{sym, ◌∙◌, ap, subst, inl, inr, true≢false, arith}
use mathlib.Core.List.Memᴰ
use mathlib.Core.List.{List, [], ◌∷◌, ◌++◌, map, Sublistᴰ}
use Rattle.std.proofs.Math.Option.{Option, some, none, none-ne-some, some-injective}
use Rattle.std.proofs.Math.Bool.{So}
use Rattle.notation.specs.Limits.{held_limit, channel_places}
use Rattle.notation.specs.Tree.{Name, Ty, Proc}
use Rattle.calculus.specs.Named.{lookup, kept, names, In}
use Rattle.calculus.specs.Types.{Side, provided, used}
use Rattle.calculus.specs.Program.{Program}
use Rattle.calculus.specs.Typing.{Typed}
use Rattle.calculus.specs.Configuration.{End, end, Doing, running, folding, waiting, Process, process, Outside, goes_on, linked_by, becoming}
use Rattle.calculus.specs.WellFormed.{context_of, key, is_waiting}
use Rattle.theory_derivations.specs.Lists.{sub_in}
use Rattle.theory_ends.specs.Lists.{once_by, sub_once}
use Rattle.theory_derivations.specs.Named.{absent, names_in}
use Rattle.theory_ends.specs.Names.{kept_sub, kept_in, names_map}
use Rattle.theory_ends.specs.Ends.{key_at}
use Rattle.theory_preservation.specs.Witness.{Key, Tip, Rel, Witness, Moved, Joined, sides, Between, over, joined_uses, joined_provides, tip_number, key_number}
use Rattle.theory_preservation.specs.Mates.{put, put_elim, Profile, Mates, mates_same, mates_put, mates_new, Quiet, quiet_none, quiet_some}
use Rattle.theory_preservation.specs.Roster.{Roster, channel_key, link_key, link_key_one, channel_no_link, key_of, tip_of, link_tip, Tips, holds, links, waits, Has, outside, inside, TypedDoing, Fine, fine_more, fine_new, fine_less, profile, Good, Afterwards, one_after, good_after, same_after, NamesDiffer, Goes, runs_on, runs_awake, goes_folding, names_less}
use Rattle.theory_preservation.specs.LettingGo.{profile_put_two}
use Rattle.theory_preservation.specs.TwoEnds.{key_from_key, above, owner, held_tip}

abbrev link_keys : Option ℕ → List Key
link_keys none = []
link_keys (some h) = (link_key h, provided) ∷ []

-- the keys of what is held, as joints have them
abbrev keys_of : List (Name × End) → List Key
keys_of l = map (λ (x : Name × End). key_of x.1) l

-- The process r of u makes a new one. What `goes` picks of its channels, and the link `given`, go to the new one; what `keeps` picks stays.
-- The new joint has the number k and the type T, and its ends are where `ends` says.
pub record Fork (S : Roster) (o : List Outside) : Type 0 where
  pub u : ℕ
  pub r : Process
  pub there : S u ≡ some r
  pub keeps : Name → Bool
  pub goes : Name → Bool
  pub disjoint : (x : Name × End) → In x r.held → So (keeps x.0) → So (goes x.0) → ⊥
  pub given : Option ℕ
  pub own_link : (h : ℕ) → given ≡ some h → r.link ≡ some h
  pub k : ℕ
  pub free : (v : ℕ) (t : Tip) → Has S o v t → t.0.0 ≢ k
  pub ends : Side → ℕ
  pub T : Option (Ty Name)

module _ {p : Program} {S : Roster} {o : List Outside} {given next : ℕ} (G : Good p S o given next) where
  -- no process is at `next`, and no link leads there
  pub nobody : S next ≡ none
  nobody = go (S next) refl
    where
      go : (x : Option Process) → S next ≡ x → S next ≡ none
      go none e = e
      go (some r) e = let b = (G.placed next r e).1 in absurd (omega arith)

  link_free : (v : ℕ) (t : Tip) → Has S o v t → t.0.0 ≢ link_key next
  link_free v t (outside _ y _ h) z = channel_no_link y.channel next (sym (ap tip_number h) ∙ z)
  link_free v t (inside r s (holds x _ h)) z = channel_no_link x.1.channel next (sym (ap tip_number h) ∙ z)
  link_free v t (inside r s (waits _ h)) z =
      let b = (G.placed v r s).1 in
      let e = link_key_one v next (sym (ap tip_number h) ∙ z) in omega arith
  link_free v t (inside r s (links k l h)) z =
      let e = link_key_one k next (sym (ap tip_number h) ∙ z) in
      let m = G.mates.up v k (is_waiting r.doing) (ap profile s ∙ ap (λ l. some (l, is_waiting r.doing)) l) in
      none-ne-some (m.0, true) (sym (ap profile nobody) ∙ ap (λ k. profile (S k)) (sym e) ∙ m.1)

  module _ (F : Fork S o) where
    u0 : F.u ≢ 0
    u0 = above G F.u F.r F.there

    un : F.u < next
    un = (G.placed F.u F.r F.there).1

    abbrev moving : List Key
    moving = keys_of (kept F.goes (F.r).held) ++ link_keys F.given

    abbrev R : Rel
    R = Moved (Joined (Has S o) F.k F.ends F.T) moving F.u next

    goes_has : (q : Key) → In q moving → (t : Option (Ty Name)) × Has S o F.u (q, t)
    goes_has q m = go (Memᴰ.append_cases (keys_of (kept F.goes (F.r).held)) m)
      where
        on_link : (l : Option ℕ) → ((h : ℕ) → l ≡ some h → (F.r).link ≡ some h) → In q (link_keys l) → (t : Option (Ty Name)) × Has S o F.u (q, t)
        on_link none z i = absurd (Memᴰ.not-nil i)
        on_link (some h) z i = (none, inside F.r F.there (links h (z h refl) (λ j. (Memᴰ.eq_of_singleton i j, none))))

        go : In q (keys_of (kept F.goes (F.r).held)) ⊎ In q (link_keys F.given) → (t : Option (Ty Name)) × Has S o F.u (q, t)
        go (inl i) =
            let x = Memᴰ.of_map (λ (x : Name × End). key_of x.1) (kept F.goes (F.r).held) i in
            (some x.0.1.type, inside F.r F.there (holds x.0 (sub_in (kept_sub F.goes (F.r).held) x.1) (λ j. (sym x.2 j, some x.0.1.type))))
        go (inr i) = on_link F.given F.own_link i

    link_key_lem : (l : Option ℕ) (q : Key) → In q (link_keys l) → (h : ℕ) × (q.0 ≡ link_key h)
    link_key_lem none q i = absurd (Memᴰ.not-nil i)
    link_key_lem (some h) q i = (h, ap key_number (Memᴰ.eq_of_singleton i))

    stays : (x : Name × End) → In x (kept F.keeps (F.r).held) → R F.u (tip_of x.1)
    stays x i = inl ((λ m. go (Memᴰ.append_cases (keys_of (kept F.goes (F.r).held)) m)), inl (held_tip G F.u F.r F.there x xin))
      where
        xin : In x (F.r).held
        xin = sub_in (kept_sub F.keeps (F.r).held) i

        go : In (key_of x.1) (keys_of (kept F.goes (F.r).held)) ⊎ In (key_of x.1) (link_keys F.given) → ⊥
        go (inl j) =
            let y = Memᴰ.of_map (λ (x : Name × End). key_of x.1) (kept F.goes (F.r).held) j in
            let e = once_by key_at (G.fine F.u F.r F.there).keys (sub_in (kept_sub F.goes (F.r).held) y.1) xin (key_from_key y.0.1 x.1 y.2) in
            F.disjoint x xin (kept_in F.keeps (F.r).held i) (subst (λ (y : Name × End). So (F.goes y.0)) e (kept_in F.goes (F.r).held y.1))
        go (inr j) = let h = link_key_lem F.given (key_of x.1) j in channel_no_link x.1.channel h.0 h.1

    comes : (x : Name × End) → In x (kept F.goes (F.r).held) → R next (tip_of x.1)
    comes x i = inr (Memᴰ.append_left (link_keys F.given) (Memᴰ.map (λ (x : Name × End). key_of x.1) i), refl, inl (held_tip G F.u F.r F.there x (sub_in (kept_sub F.goes (F.r).held) i)))

    link_comes : (h : ℕ) → F.given ≡ some h → R next (link_tip h provided)
    link_comes h e =
        inr (
          Memᴰ.append_right (keys_of (kept F.goes (F.r).held)) (subst (λ l. In (link_key h, provided) (link_keys l)) (sym e) (Memᴰ.head refl)),
          refl,
          inl (inside F.r F.there (links h (F.own_link h e) refl)),
        )

    link_stays : F.given ≡ none → (h : ℕ) → (F.r).link ≡ some h → R F.u (link_tip h provided)
    link_stays n h e = inl ((λ m. go (Memᴰ.append_cases (keys_of (kept F.goes (F.r).held)) m)), inl (inside F.r F.there (links h e refl)))
      where
        go : In (link_key h, provided) (keys_of (kept F.goes (F.r).held)) ⊎ In (link_key h, provided) (link_keys F.given) → ⊥
        go (inl j) = let y = Memᴰ.of_map (λ (x : Name × End). key_of x.1) (kept F.goes (F.r).held) j in channel_no_link y.0.1.channel h (ap key_number y.2)
        go (inr j) = Memᴰ.not-nil (subst (λ l. In (link_key h, provided) (link_keys l)) n j)

    joint_at_lem : (s : Side) → R (F.ends s) ((F.k, s), F.T)
    joint_at_lem s = inl ((λ m. let x = goes_has (F.k, s) m in F.free F.u ((F.k, s), x.0) x.1 refl), inr (refl, refl, refl))

    elsewhere : (v : ℕ) (t : Tip) → v ≢ F.u → Has S o v t → R v t
    elsewhere v t n h = inl ((λ m. let x = goes_has t.0 m in n (owner G v F.u t.0 t.1 x.0 h x.1)), inl h)

    -- the new joint is between F.u and the new process
    grown : Witness p (Joined (Has S o) F.k F.ends F.T) (suc next) → ((F.ends provided ≡ F.u) × (F.ends used ≡ next)) ⊎ ((F.ends provided ≡ next) × (F.ends used ≡ F.u)) → Witness p R (suc next)
    grown W b =
        over W moving F.u next (λ q i. let x = goes_has q i in W.sound F.u (q, x.0) (inl x.1)) u0 F.k
        (W.live (F.ends provided) (F.ends used) ((F.k, provided), F.T) ((F.k, used), F.T) (inr (refl, refl, refl)) (inr (refl, refl, refl)) (nonzero provided b)
        (nonzero used b) refl refl refl)
        (λ s m. let x = goes_has (F.k, s) m in F.free F.u ((F.k, s), x.0) x.1 refl) (between b)
      where
        n0 : next ≢ 0
        n0 e = omega (arith, un)

        nonzero : (s : Side) → ((F.ends provided ≡ F.u) × (F.ends used ≡ next)) ⊎ ((F.ends provided ≡ next) × (F.ends used ≡ F.u)) → F.ends s ≢ 0
        nonzero provided (inl x) e = u0 (sym x.0 ∙ e)
        nonzero used (inl x) e = n0 (sym x.1 ∙ e)
        nonzero provided (inr x) e = n0 (sym x.0 ∙ e)
        nonzero used (inr x) e = u0 (sym x.1 ∙ e)

        own_is : (s : Side) → W.own (F.k, s) ≡ F.ends s
        own_is s = W.sound (F.ends s) ((F.k, s), F.T) (inr (refl, refl, refl))

        between : ((F.ends provided ≡ F.u) × (F.ends used ≡ next)) ⊎ ((F.ends provided ≡ next) × (F.ends used ≡ F.u)) → Between W.own F.k F.u next
        between (inl x) = inl (own_is provided ∙ x.0, own_is used ∙ x.1)
        between (inr x) = inr (own_is provided ∙ x.0, own_is used ∙ x.1)

    -- ── what is at v afterwards
    abbrev Grows : ℕ → Option Process → Type 0
    Grows = Afterwards p R (suc next)

    grown_good : Witness p R (suc next) → {S' : Roster} → ((v : ℕ) → Grows v (S' v)) → Mates (λ v. profile (S' v)) → Good p S' o given (suc next)
    grown_good W c m = good_after W c m (λ y i. elsewhere 0 _ (λ e. u0 (sym e)) (outside refl y i refl)) G.fair

    old : (v : ℕ) → v ≢ F.u → Grows v (S v)
    old v n = same_after G v (omega arith) (λ e _ h. elsewhere v e n h)

    u_place : (0 < F.u) × (F.u < suc next)
    u_place = let b = G.placed F.u F.r F.there in (b.0, let c = b.1 in omega arith)

    next_place : (0 < next) × (next < suc next)
    next_place = let b = un in (omega arith, omega arith)

  -- ── a process that holds less and one more channel
  with_channel : (r : Process) → Fine p r → (d : Doing) → Goes r.doing d → (k : Option ℕ) (t : Name → Bool) (x : Name) (e : End) → lookup x r.held ≡ none
      → ¬ In (key e) (map key_at r.held) → length (kept t r.held) < held_limit
      → e.channel < channel_places → TypedDoing p (context_of (kept t r.held ++ ((x, e) ∷ []))) d → Fine p (linked_by k (becoming d (kept t r.held ++ ((x, e) ∷ [])) r))
  with_channel r f d w k t x e new nk room lt td =
      fine_more r d k (kept t r.held) x e (names_less d sub (w.names (names r.held) f.names)) no_name (sub_once key_at sub f.keys)
      (λ m. let y = Memᴰ.of_map key_at (kept t r.held) m in nk (Memᴰ.cast (sym y.2) (Memᴰ.map key_at (sub_in sub y.1))))
      room (λ y i. f.channels y (sub_in sub i)) lt td
    where
      sub : Sublistᴰ (kept t r.held) r.held
      sub = kept_sub t r.held

      no_name : ¬ In x (names (kept t r.held))
      no_name m =
          let y = Memᴰ.of_map (λ (y : Name × End). y.0) (kept t r.held) (subst (In x) (names_map (kept t r.held)) m) in
          absent x r.held new (Memᴰ.cast (sym y.2) (names_in r.held (sub_in sub y.1)))

  -- ── spawn: the new process takes what t picks, and provides x on the channel n
  module _ (u : ℕ) (r : Process) (su : S u ≡ some r) {R₀ : Proc} (wr : r.doing ≡ running R₀) (t : Name → Bool) (x : Name) (A : Ty Name) (n : ℕ)
      (free : (v : ℕ) (e : Tip) → Has S o v e → e.0.0 ≢ channel_key n)
      (lt : n < channel_places) (new : lookup x r.held ≡ none) (P Q : Proc) where
    abbrev rest : Name → Bool
    rest m = not (t m)

    abbrev maker : Process
    maker = goes_on r Q (kept rest r.held ++ ((x, end used n A) ∷ []))

    abbrev made : Process
    made = process (running P) (kept t r.held ++ ((x, end provided n A) ∷ [])) none

    disjoint : (y : Name × End) → In y r.held → So (not (t y.0)) → So (t y.0) → ⊥
    disjoint y i a b = go (t y.0) a b
      where
        go : (b : Bool) → So (not b) → So b → ⊥
        go true a b = true≢false (sym a)
        go false a b = true≢false (sym b)

    none_link : (h : ℕ) → none ≡ some h → r.link ≡ some h
    none_link h e = absurd (none-ne-some h e)

    no_key : (s : Side) → ¬ In (n, s) (map key_at r.held)
    no_key s m = let y = Memᴰ.of_map key_at r.held m in free u (tip_of y.0.1) (held_tip G u r su y.0 y.1) (ap (λ (k : ℕ × Side). channel_key k.0) y.2)

    abbrev fork : Fork S o
    fork = record { u = u; r = r; there = su; keeps = rest; goes = t; disjoint = disjoint; given = none; own_link = none_link; k = channel_key n; free = free; ends = sides next u; T = some A }

    abbrev R₁ : Rel
    R₁ = R fork

    pub spawn_good : length (kept t r.held) < held_limit → length (kept rest r.held) < held_limit → Typed p (context_of made.held) P
        → Typed p (context_of maker.held) Q
        → Good p (put next (some made) (put u (some maker) S)) o given (suc next)
    spawn_good roomP roomQ t_p t_q =
        grown_good fork
        (grown fork (joined_provides G.witness (channel_key n) u next (some A) free (omega arith) (G.placed u r su).1) (inr (refl, refl)))
        (put_elim (Grows fork) next (some made) (put u (some maker) S)
        (one_after made (next_place fork)
        (fine_new (with_channel r (G.fine u r su) (running P) (runs_on wr P) none t x (end provided n A) new (no_key provided) roomP lt t_p)) made_tips)
        (λ v _. put_elim (Grows fork) u (some maker) S
        (one_after maker (u_place fork)
        (with_channel r (G.fine u r su) (running Q) (runs_on wr Q) r.link rest x (end used n A) new (no_key used) roomQ lt t_q) maker_tips)
        (old fork) v))
        mates'
      where
        made_tips : (e : Tip) → Tips next made e → R₁ next e
        made_tips e (holds y i z) = rw z (go y (Memᴰ.append_cases (kept t r.held) i))
          where
            go : (y : Name × End) → In y (kept t r.held) ⊎ In y ((x, end provided n A) ∷ []) → R₁ next (tip_of y.1)
            go y (inl j) = comes fork y j
            go y (inr j) = subst (λ (y : Name × End). R₁ next (tip_of y.1)) (sym (Memᴰ.eq_of_singleton j)) (joint_at_lem fork provided)
        made_tips e (links h k z) = absurd (none-ne-some h k)
        made_tips e (waits k z) = absurd (true≢false (sym k))

        maker_tips : (e : Tip) → Tips u maker e → R₁ u e
        maker_tips e (holds y i z) = rw z (go y (Memᴰ.append_cases (kept rest r.held) i))
          where
            go : (y : Name × End) → In y (kept rest r.held) ⊎ In y ((x, end used n A) ∷ []) → R₁ u (tip_of y.1)
            go y (inl j) = stays fork y j
            go y (inr j) = subst (λ (y : Name × End). R₁ u (tip_of y.1)) (sym (Memᴰ.eq_of_singleton j)) (joint_at_lem fork used)
        maker_tips e (links h k z) = rw z (link_stays fork refl h k)
        maker_tips e (waits k z) = absurd (true≢false (sym k))

        F : ℕ → Profile
        F v = profile (S v)

        same : (v : ℕ) → F v ≡ put u (some (r.link, false)) F v
        same = put_elim (λ v y. F v ≡ y) u (some (r.link, false)) F (ap profile su ∙ ap (λ b. some (r.link, b)) (runs_awake wr)) (λ v _. refl)

        mates' : Mates (λ v. profile (put next (some made) (put u (some maker) S) v))
        mates' =
            mates_same (λ v. sym (profile_put_two next u (some made) (some maker) S v))
            (mates_put (mates_same same G.mates) next (some (none, false)) (subst Quiet (sym (sym (same next) ∙ ap profile nobody)) quiet_none) quiet_some)

  -- ── try: the new process takes what t₂ picks, and waits as the handler
  module _ (u : ℕ) (r : Process) (su : S u ≡ some r) {R₀ : Proc} (wr : r.doing ≡ running R₀) (t₁ t₂ : Name → Bool)
      (disjoint : (x : Name × End) → In x r.held → So (t₁ x.0) → So (t₂ x.0) → ⊥) (P Q : Proc) where
    abbrev tryer : Process
    tryer = linked_by (some next) (goes_on r P (kept t₁ r.held))

    abbrev waiter : Process
    waiter = process (waiting Q) (kept t₂ r.held) r.link

    abbrev fork' : Fork S o
    fork' = record {
      u = u;
      r = r;
      there = su;
      keeps = t₁;
      goes = t₂;
      disjoint = disjoint;
      given = r.link;
      own_link =
          λ h e. e;
      k = link_key next;
      free = link_free;
      ends = sides u next;
      T = none;
    }

    abbrev R₂ : Rel
    R₂ = R fork'

    half : (d : Doing) → NamesDiffer d (names r.held) → (k : Option ℕ) (t : Name → Bool) → TypedDoing p (context_of (kept t r.held)) d
        → Fine p (linked_by k (becoming d (kept t r.held) r))
    half d n k t td =
        let f = fine_less (G.fine u r su) folding (goes_folding (runs_awake wr)) (kept_sub t r.held) tt in
        record { typed = td; names = names_less d (kept_sub t r.held) n; keys = f.keys; room = f.room; channels = f.channels }

    pub try_good : Typed p (context_of (kept t₁ r.held)) P → Typed p (context_of (kept t₂ r.held)) Q
        → Good p (put u (some tryer) (put next (some waiter) S)) o given (suc next)
    try_good t_p t_q =
        grown_good fork'
        (grown fork' (joined_uses G.witness (link_key next) u next none link_free (omega arith) (G.placed u r su).1) (inl (refl, refl)))
        (put_elim (Grows fork') u (some tryer) (put next (some waiter) S)
        (one_after tryer (u_place fork')
        (half (running P) ((runs_on wr P).names _ (G.fine u r su).names) (some next) t₁ t_p) tryer_tips)
        (λ v nu. put_elim (λ v y. v ≢ u → Grows fork' v y) next (some waiter) S
        (λ _. one_after waiter (next_place fork')
        (fine_new (half (waiting Q) ((runs_on wr Q).names _ (G.fine u r su).names) r.link t₂ t_q)) waiter_tips)
        (λ v _ n. old fork' v n) v nu))
        (mates_same (λ v. sym (profile_put_two u next (some tryer) (some waiter) S v))
        (mates_new G.mates u next r.link (ap profile su ∙ ap (λ b. some (r.link, b)) (runs_awake wr)) (ap profile nobody)))
      where
        tryer_tips : (e : Tip) → Tips u tryer e → R₂ u e
        tryer_tips e (holds y i z) = rw z (stays fork' y i)
        tryer_tips e (links h k z) =
            subst (R₂ u) (ap (λ h. link_tip h provided) (some-injective _ _ k) ∙ sym z) (joint_at_lem fork' provided)
        tryer_tips e (waits k z) = absurd (true≢false (sym k))

        waiter_tips : (e : Tip) → Tips next waiter e → R₂ next e
        waiter_tips e (holds y i z) = rw z (comes fork' y i)
        waiter_tips e (links h k z) = rw z (link_comes fork' h k)
        waiter_tips e (waits k z) = rw z (joint_at_lem fork' used)
