-- A channel goes over a channel.
use Rattle.std.specs.Prelude.{◌≡◌, refl, ◌≢◌, ◌⊎◌, cond, ℕ, suc, ◌<◌, length}
use Rattle.std.proofs.Common.{sym, ◌∙◌, subst, inl, inr}
use Rattle.std.proofs.Math.Path.{ap}
use mathlib.Core.List.Memᴰ
use mathlib.Core.List.{List, [], ◌∷◌, ◌++◌, map, Sublistᴰ}
use Rattle.std.proofs.Math.Option.{Option, some, none}
use Rattle.notation.specs.Limits.{held_limit, channel_places}
use Rattle.notation.specs.Bytes.{same}
use Rattle.notation.specs.Tree.{Name, Ty}
use Rattle.calculus.specs.Named.{lookup, without, names, In, NoneTwice}
use Rattle.calculus.specs.Types.{used, other}
use Rattle.calculus.specs.Program.{Program}
use Rattle.calculus.specs.Outward.{Outward}
use Rattle.calculus.specs.OneType.{OneType}
use Rattle.calculus.specs.Configuration.{End, of_type, Doing, Process, Outside, retyped_end, retyped_outside, becoming}
use Rattle.calculus.specs.WellFormed.{context_of, key}
use Rattle.theory_derivations.specs.OneType.{one_refl}
use Rattle.theory_derivations.specs.Lists.{sub_in}
use Rattle.theory_ends.specs.Lists.{sub_once}
use Rattle.theory_derivations.specs.Named.{by_test, lookup_in, absent}
use Rattle.theory_ends.specs.Names.{without_sub, without_cases, changed_cases, changed_names, changed_length}
use Rattle.theory_ends.specs.Ends.{key_at}
use Rattle.theory_ends.specs.FarEnds.{FarOutside}
use Rattle.theory_preservation.specs.Witness.{Tip, Rel, of_channels, Witness, Retyped, retyping, Moved, over, outing, key_number}
use Rattle.theory_preservation.specs.Mates.{put}
use Rattle.theory_preservation.specs.Roster.{Roster, Continues, channel_key, channel_no_link, key_of, tip_of, link_tip, outside_tip, Has, outside, TypedDoing, Fine, fine_more, Fair, Good, Change, becomes, one_good, two_good, NamesDiffer}
use Rattle.theory_preservation.specs.TwoEnds.{far_key_of, key_cases, key_of_key, key_from_key, Facing, Opposite, turned, above, owner, held_tip, is_joint, joint_between, ends_apart, facing_opposite, opposite_outside, opposite_nobody, elsewhere, held_facing}
use Rattle.theory_preservation.specs.Each.{each_more}
use Rattle.theory_preservation.specs.Outsides.{channel_of, fair_less, fair_retyped, fair_later, fair_more}
use Rattle.theory_preservation.specs.Retyping.{retyped_keys, retyped_channels, fine_retyped, retyped_off, RetypedChannel, retyped_tip, retyped_link, retyped_out}

pub lookup_without : {X : Type 0} (c a : Name) (l : List (Name × X)) → c ≢ a → lookup c (without a l) ≡ lookup c l
unfolding lookup without
lookup_without c a [] n = refl
lookup_without {X} c a (x ∷ l) n =
    by_test (λ b. lookup c (cond b l (x ∷ without a l)) ≡ lookup c (x ∷ l)) a x.0
    (λ z. sym (by_test (λ b. cond b (some x.1) (lookup c l) ≡ lookup c l) c x.0 (λ y. absurd (n (y ∙ sym z))) (λ _. refl)))
    (λ _. ap (λ r. cond (same c x.0) (some x.1) r) (lookup_without c a l n))

module _ {p : Program} {S : Roster} {o : List Outside} {given next : ℕ} (G : Good p S o given next) where
  -- the process r of u sends its channel a, of which it has the end d, over c, of which it has the end e, and c then has the type B there
  module _ {u : ℕ} {r : Process} {P : Doing} (t : Continues S u r P) {c a : Name} (ca : c ≢ a) {e d : End} (B : Ty Name) (lc : lookup c r.held ≡ some e) (la : lookup a r.held ≡ some d)
      (t_p : TypedDoing p (context_of (retyped_end c B (without a r.held))) P) where
    abbrev left : List (Name × End)
    left = retyped_end c B (without a r.held)

    abbrev after : Process
    after = becoming P left r

    -- the ends of c retyped, and that of d gone to v
    abbrev To : ℕ → Rel
    To v = Moved (RetypedChannel G e B) (key_of d ∷ []) u v

    u0 : u ≢ 0
    u0 = above G u r t.there

    hu : Has S o u (tip_of e)
    hu = held_tip G u r t.there (c, e) (lookup_in c r.held lc)

    ha : Has S o u (tip_of d)
    ha = held_tip G u r t.there (a, d) (lookup_in a r.held la)

    others : (x : Name × End) → In x (without a r.held) → In x r.held × (key x.1 ≢ key d)
    others = without_cases key a r.held d (G.fine u r t.there).keys la

    lc' : lookup c (without a r.held) ≡ some e
    lc' = lookup_without c a r.held ca ∙ lc

    ed : key e ≢ key d
    ed = (others (c, e) (lookup_in c (without a r.held) lc')).1

    -- d is one of some ends
    only_d : {q : _} → In q (key_of d ∷ []) → q ≡ key_of d
    only_d m = Memᴰ.eq_of_singleton m

    fine : Fine p after
    fine = fine_retyped (G.fine u r t.there) P t.goes (without_sub a r.held) c B t_p

    -- another's end stays, where it is no end of c
    else_stays : (v w : ℕ) (x : Tip) → v ≢ u → Has S o v x → x.0.0 ≢ channel_key e.channel → To w v x
    else_stays v w x nu h n =
        inl ((λ m. nu (owner G v u (key_of d) x.1 (some d.type) (subst (λ q. Has S o v (q, x.1)) (only_d m) h) ha)), retyped_off p (Has S o) v x h n)

    module _ {w : ℕ} (m : Opposite S o u w e) where
      -- the sender's ends afterwards: none of them is that of d
      sender_end : (x : Name × End) → In x left → RetypedChannel G e B u (tip_of x.1) × (key x.1 ≢ key d)
      sender_end x i = go (changed_cases key c (of_type B) (without a r.held) e (sub_once key_at (without_sub a r.held) (G.fine u r t.there).keys) lc' x i)
        where
          go : (x.1 ≡ of_type B e) ⊎ (In x (without a r.held) × (key x.1 ≢ key e)) → RetypedChannel G e B u (tip_of x.1) × (key x.1 ≢ key d)
          go (inl z) = (retyped_tip G m (one_refl p B) x.1 (inl z), λ y. ed (ap key (sym z) ∙ y))
          go (inr z) = let y = others x z.0 in (retyped_tip G m (one_refl p B) x.1 (inr (held_tip G u r t.there x y.0, z.1)), y.1)

      -- d is on another channel
      other_channel : channel_key d.channel ≢ channel_key e.channel
      other_channel z = go (key_cases e (key_of d) z)
        where
          go : (key_of d ≡ key_of e) ⊎ (key_of d ≡ far_key_of e) → ⊥
          go (inl h) = ed (sym (key_from_key d e h))
          go (inr h) = m.not_near (some d.type) (subst (λ q. Has S o u (q, some d.type)) h ha)

      passed_end_lem : {A : Ty Name} → OneType p d.type A → RetypedChannel G e B u (tip_of (of_type A d))
      passed_end_lem one = (some d.type, ha, inr (other_channel, of_channels one))

      -- to v, by whatever way
      sender : (v : ℕ) → Change p (To v) next u (S u) (some after)
      sender v =
          becomes G (To v) u r t.there P left t.goes.waits fine
          (λ x i. let y = sender_end x i in inl ((λ n. y.1 (key_from_key x.1 d (only_d n))), y.0))
          (λ h s k. inl ((λ n. channel_no_link d.channel h (sym (ap key_number (only_d n)))), retyped_link G e B u h k))

    -- ── to the process q of w, which takes it as x; c then has the type B' there, and x the type A
    module _ {B' A : Ty Name} (bb : OneType p B B') (da : OneType p d.type A) {w : ℕ} {q : Process} {Q : Doing} (t' : Continues S w q Q) (c' x : Name) {f : End}
        (lf : lookup c' q.held ≡ some f) (z : f.channel ≡ e.channel) (s : f.side ≡ other e.side) (new : lookup x q.held ≡ none) (room : length q.held < held_limit)
        (t_q : TypedDoing p (context_of (retyped_end c' B' q.held ++ ((x, of_type A d) ∷ []))) Q) where
      abbrev kept : List (Name × End)
      kept = retyped_end c' B' q.held

      abbrev got : List (Name × End)
      got = (x, of_type A d) ∷ []

      abbrev taker : Process
      taker = becoming Q (kept ++ got) q

      m : Facing S o u w e f
      m = held_facing G t.there t'.there c c' (lookup_in c r.held lc) (lookup_in c' q.held lf) z s

      -- what w has of itself is not d
      no_d : (k : Option (Ty Name)) → ¬ Has S o w (key_of d, k)
      no_d k h = ends_apart G m (owner G u w (key_of d) (some d.type) k ha h)

      own_end : (y : Name × End) → In y kept → RetypedChannel G e B w (tip_of y.1)
      own_end y i =
          subst (λ k. Retyped p (Has S o) (channel_key k) (some B) w (tip_of y.1)) z
          (retyped_tip G (facing_opposite G (turned m)) bb y.1 (go (changed_cases key c' (of_type B') q.held f (G.fine w q t'.there).keys lf y i)))
        where
          go : (y.1 ≡ of_type B' f) ⊎ (In y q.held × (key y.1 ≢ key f)) → (y.1 ≡ of_type B' f) ⊎ (Has S o w (tip_of y.1) × (key y.1 ≢ key f))
          go (inl h) = inl h
          go (inr h) = inr (held_tip G w q t'.there y h.0, h.1)

      taken : (y : Name × End) → In y kept ⊎ In y got → To w w (tip_of y.1)
      taken y (inl i) = let k = own_end y i in inl ((λ n. no_d k.0 (subst (λ q. Has S o w (q, k.0)) (only_d n) k.1)), k)
      taken y (inr i) =
          subst (λ (y : Name × End). To w w (tip_of y.1)) (sym (Memᴰ.eq_of_singleton i)) (inr (Memᴰ.head refl, refl, passed_end_lem (facing_opposite G m) da))

      taker_fine : Fine p taker
      taker_fine =
          fine_more q Q q.link kept x (of_type A d) (subst (NamesDiffer Q) (sym same_names) (t'.goes.names (names q.held) g.names))
          (λ n. absent x q.held new (subst (In x) same_names n)) (subst NoneTwice (sym (retyped_keys c' B' q.held)) g.keys) no_key
          (subst (λ n. n < held_limit) (sym (changed_length c' _ q.held)) room) (retyped_channels c' B' q.held channel_places g.channels)
          ((G.fine u r t.there).channels (a, d) (lookup_in a r.held la)) t_q
        where
          g : Fine p q
          g = G.fine w q t'.there

          same_names : names kept ≡ names q.held
          same_names = changed_names c' _ q.held

          no_key : ¬ In (key d) (map key_at kept)
          no_key n =
              let y = Memᴰ.of_map key_at q.held (subst (In (key d)) (retyped_keys c' B' q.held) n) in
              no_d (some y.0.1.type) (subst (λ k. Has S o w (k, some y.0.1.type)) (key_of_key y.0.1 d y.2) (held_tip G w q t'.there y.0 y.1))

      moving : Witness p (To w) next
      unfolding retyping
      moving =
          over (retyping G.witness (channel_key e.channel) (some B)) (key_of d ∷ []) u w (λ y n. ap G.witness.own (only_d n) ∙ G.witness.sound u (tip_of d) ha) u0
          (channel_key e.channel) (is_joint G m) (λ s n. other_channel (facing_opposite G m) (sym (ap key_number (only_d n)))) (joint_between G m)

      pub passed : Good p (put w (some taker) (put u (some after) S)) o given next
      passed =
          two_good G moving u w after taker (sender (facing_opposite G m) w)
          (becomes G (To w) w q t'.there Q (kept ++ got) t'.goes.waits taker_fine (λ y i. taken y (Memᴰ.append_cases kept i))
          (λ h s k. else_stays w w (link_tip h s) (λ y. ends_apart G m (sym y)) k (λ y. channel_no_link e.channel h (sym y))))
          (λ v k nu nw h. else_stays v w k nu h (elsewhere G (facing_opposite G m) v k nu nw h)) u0 m.far_process

    -- ── to nobody: the channel is given up
    pub passed_unheard : ((v : ℕ) (k : Option (Ty Name)) → ¬ Has S o v (far_key_of e, k)) → {o' : List Outside} → Sublistᴰ o' o → Good p (put u (some after) S) o' given next
    passed_unheard far {o'} sub =
        let m = opposite_nobody G hu far in
        one_good G (retyping G.witness (channel_key e.channel) (some B)) u after
        (becomes G (RetypedChannel G e B) u r t.there P left t.goes.waits fine (λ x i. (sender_end m x i).0) (λ h s k. retyped_link G e B u h k))
        (λ v k nu _ h. retyped_off p (Has S o) v k h (elsewhere G m v k nu nu h))
        (λ y i. let h : Has S o 0 (outside_tip y) = outside refl y (sub_in sub i) refl in
        retyped_off p (Has S o) 0 (outside_tip y) h (elsewhere G m 0 (outside_tip y) (λ z. u0 (sym z)) (λ z. u0 (sym z)) h))
        (fair_less G.fair sub)

    -- ── to the outside, which uses it from then on with the type A, or lets go of it at once; c then has the type B' there
    module _ {B' A : Ty Name} (bb : OneType p B B') (da : OneType p d.type A) (y : FarOutside o e) (sd : d.side ≡ used) (o_b : Outward p B') (o_a : Outward p A) where
      abbrev shown : Outside
      shown = record { number = given; channel = d.channel; type = A }

      abbrev o₁ : List Outside
      o₁ = retyped_outside e.channel B' o

      n : Opposite S o u 0 e
      n = opposite_outside G u0 hu y

      d_used : key_of d ≡ (channel_key d.channel, used)
      d_used i = (channel_key d.channel, sd i)

      -- no end of the outside is that of d
      no_d_out : (x : Outside) → In x o₁ → (channel_key x.channel, used) ≢ key_of d
      no_d_out x j z = let k = retyped_out G e bb x j in u0 (owner G u 0 (key_of d) (some d.type) k.0 ha (subst (λ q. Has S o 0 (q, k.0)) z k.1))

      old_out : (x : Outside) → In x o₁ → To 0 0 (outside_tip x)
      old_out x j = inl ((λ k. no_d_out x j (only_d k)), retyped_out G e bb x j)

      new_out : To 0 0 (outside_tip shown)
      new_out = inr (Memᴰ.head (sym d_used), refl, subst (λ q. RetypedChannel G e B u (q, some A)) d_used (passed_end_lem n da))

      passed_to : (o' : List Outside) → ((x : Outside) → In x o' → To 0 0 (outside_tip x)) → Fair p (suc given) o' → Good p (put u (some after) S) o' (suc given) next
      unfolding retyping
      passed_to o' out f =
          one_good G (outing (retyping G.witness (channel_key e.channel) (some B)) (key_of d) u u0 (G.witness.sound u (tip_of d) ha)) u after (sender n 0)
          (λ v k nu n0 h. else_stays v 0 k nu h (elsewhere G n v k nu n0 h)) out f

      F : Fair p given o₁
      F = fair_retyped G.fair e.channel B' o_b

      pub passed_gone : Good p (put u (some after) S) o₁ (suc given) next
      passed_gone = passed_to o₁ old_out (fair_later F)

      pub passed_out_lem : Good p (put u (some after) S) (o₁ ++ (shown ∷ [])) (suc given) next
      passed_out_lem = passed_to (o₁ ++ (shown ∷ [])) (each_more (λ x. To 0 0 (outside_tip x)) o₁ shown old_out new_out)
          (fair_more shown F o_a ((G.fine u r t.there).channels (a, d) (lookup_in a r.held la))
          (λ k. let x = Memᴰ.of_map channel_of o₁ k in no_d_out x.0 x.1 ((λ j. (channel_key (x.2 j), used)) ∙ sym d_used)))
