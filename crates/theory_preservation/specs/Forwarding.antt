-- A forwarder: its two channels become one, and it is left empty.
use Rattle.std.specs.Prelude.{◌≡◌, ◌≢◌, ◌⊎◌, false, ℕ, ◌≤◌, ◌<◌}
use Rattle.std.proofs.Math.Path.{refl, ap}
use Rattle.std.proofs.Common.{sym, ◌∙◌, subst, inl, inr}
use mathlib.Core.List.Memᴰ
use mathlib.Core.List.Sublistᴰ
use mathlib.Core.List.{List, [], ◌∷◌, map}
use Rattle.std.proofs.Math.Option.{some}
use Rattle.notation.specs.Limits.{held_limit, channel_places}
use Rattle.notation.specs.Tree.{Name}
use Rattle.calculus.specs.Named.{lookup, In}
use Rattle.calculus.specs.Types.{provided, used, other}
use Rattle.calculus.specs.Program.{Program}
use Rattle.calculus.specs.OneType.{OneType}
use Rattle.calculus.specs.Configuration.{End, end, of_channel, folding, Process, Outside, outside_of_channel, moved_outside, holding, folds_up}
use Rattle.calculus.specs.WellFormed.{key, is_waiting}
use Rattle.theory_derivations.specs.OneType.{one_sym, one_trans}
use Rattle.theory_derivations.specs.Named.{lookup_in}
use Rattle.theory_ends.specs.Ends.{side_clash, key_at}
use Rattle.theory_preservation.specs.Witness.{Tip, Rel, of_channels, Witness, Recast, recast_same, recasting, Moved, over, outing, key_number, key_side}
use Rattle.theory_preservation.specs.Mates.{put}
use Rattle.theory_preservation.specs.Roster.{Roster, channel_key, channel_no_link, key_of, tip_of, link_tip, outside_tip, Has, outside, TypedDoing, Fine, fine_less, Good, Change, becomes, one_good, two_good, NamesDiffer, goes_folding}
use Rattle.theory_preservation.specs.Relocating.{Relocated}
use Rattle.theory_preservation.specs.TwoEnds.{far_key_of, key_cases, Facing, above, owner, one_type, held_tip, is_joint, joint_between, ends_apart, facing_opposite, held_facing}
use Rattle.theory_preservation.specs.Outsides.{channel_of, each_changed, fair_moved}

module _ {p : Program} {S : Roster} {o : List Outside} {given next : ℕ} (G : Good p S o given next) where
  -- the process r of u provides x, by the end e, and uses c, by the end d
  module _ (u : ℕ) (r : Process) (su : S u ≡ some r) (wr : is_waiting r.doing ≡ false) (x c : Name) (e d : End) (lx : lookup x r.held ≡ some e) (lc : lookup c r.held ≡ some d)
      (se : e.side ≡ provided) (sd : d.side ≡ used) (ed : OneType p e.type d.type) where
    u0 : u ≢ 0
    u0 = above G u r su

    hx : Has S o u (tip_of e)
    hx = held_tip G u r su (x, e) (lookup_in x r.held lx)

    hc : Has S o u (tip_of d)
    hc = held_tip G u r su (c, d) (lookup_in c r.held lc)

    abbrev R : ℕ → Rel
    R w = Moved (Recast p (Has S o)) (key_of d ∷ []) u w

    -- another's end stays
    stays : (v w : ℕ) (t : Tip) → v ≢ u → Has S o v t → R w v t
    stays v w t n h = inl ((λ m. n (owner G v u (key_of d) t.1 (some d.type) (subst (λ q. Has S o v (q, t.1)) (Memᴰ.eq_of_singleton m) h) hc)), recast_same p (Has S o) v t h)

    forwarder : (w : ℕ) → Change p (R w) next u (S u) (some (folds_up r []))
    forwarder w =
        becomes G (R w) u r su folding [] wr (fine_less (G.fine u r su) folding (goes_folding wr) (Sublistᴰ.nil-sublist r.held) tt) (λ y i. absurd (Memᴰ.not-nil i))
        (λ h s t. inl ((λ m. channel_no_link d.channel h (sym (ap key_number (Memᴰ.eq_of_singleton m)))), recast_same p (Has S o) u (link_tip h s) t))

    -- the far end of e takes the place of d, with its own type
    moves : (w : ℕ) (f g : End) → Has S o w (tip_of f) → f.channel ≡ e.channel → f.side ≡ used → g ≡ of_channel d.channel f → R w w (tip_of g)
    moves w f g hf z s h =
        let k : key_of g ≡ key_of d = λ i. (channel_key (h i).channel, (ap (λ (e : End). e.side) h ∙ s ∙ sym sd) i) in
        let one : OneType p d.type f.type = one_trans p (one_sym p ed) (one_type G u w e f (sym z) hx hf) in
        inr (
          Memᴰ.head k,
          refl,
          (some d.type, subst (λ k. Has S o u (k, some d.type)) (sym k) hc, of_channels (subst (λ (g : End). OneType p d.type g.type) (sym h) one)),
        )

    -- ── the far end of e is at the process q of w
    module _ (w : ℕ) (q : Process) (sw : S w ≡ some q) (n : Name) (f : End) (hf : In (n, f) q.held) (z : f.channel ≡ e.channel) (s : f.side ≡ other e.side)
        (l' : List (Name × End)) (rl : Relocated f d.channel q.held l') where
      m : Facing S o u w e f
      m = held_facing G su sw x n (lookup_in x r.held lx) hf z s

      sf : f.side ≡ used
      sf = s ∙ ap other se

      W : Witness p (R w) next
      unfolding recasting
      W =
          over (recasting G.witness) (key_of d ∷ []) u w (λ y i. ap G.witness.own (Memᴰ.eq_of_singleton i) ∙ G.witness.sound u (tip_of d) hc) u0 (channel_key e.channel)
          (is_joint G m) (λ t i. off (key_cases e (key_of d) (sym (ap key_number (Memᴰ.eq_of_singleton i))))) (joint_between G m)
        where
          off : (key_of d ≡ key_of e) ⊎ (key_of d ≡ far_key_of e) → ⊥
          off (inl h) = side_clash (sym se ∙ ap key_side (sym h) ∙ sd)
          off (inr h) = (facing_opposite G m).not_near (some d.type) (subst (λ k. Has S o u (k, some d.type)) h hc)

      q_fine : Fine p (holding l' q)
      q_fine = record {
        typed = subst (λ C. TypedDoing p C q.doing) (sym rl.context) g.typed;
        names = subst (NamesDiffer q.doing) (sym rl.names) g.names;
        keys = rl.once fresh;
        room = subst (λ n. n ≤ held_limit) (sym rl.long) g.room;
        channels = λ y i. chan y (rl.entry y i);
      }
        where
          g : Fine p q
          g = G.fine w q sw

          fresh : ¬ In (d.channel, f.side) (map key_at q.held)
          fresh i =
              let y = Memᴰ.of_map key_at q.held i in
              ends_apart G m (owner G u w (key_of d) (some d.type) (some y.0.1.type) hc
              (subst (λ k. Has S o w (k, some y.0.1.type)) (λ i. (channel_key (y.2 i).0, (ap key_side y.2 ∙ sf ∙ sym sd) i)) (held_tip G w q sw y.0 y.1)))

          chan : (y : Name × End) → (y.1 ≡ of_channel d.channel f) ⊎ (In y q.held × (key y.1 ≢ key f)) → y.1.channel < channel_places
          chan y (inl h) = subst (λ (e : End). e.channel < channel_places) (sym h) ((G.fine u r su).channels (c, d) (lookup_in c r.held lc))
          chan y (inr h) = g.channels y h.0

      pub forwarded : Good p (put w (some (holding l' q)) (put u (some (folds_up r [])) S)) o given next
      forwarded =
          two_good G W u w (folds_up r []) (holding l' q) (forwarder w)
          (becomes G (R w) w q sw q.doing l' refl q_fine (λ y i. end_at y (rl.entry y i)) (λ h s t. stays w w (link_tip h s) (λ y. ends_apart G m (sym y)) t))
          (λ v t nu nw h. stays v w t nu h) u0 m.far_process
        where
          end_at : (y : Name × End) → (y.1 ≡ of_channel d.channel f) ⊎ (In y q.held × (key y.1 ≢ key f)) → R w w (tip_of y.1)
          end_at y (inl h) = moves w f y.1 m.far z sf h
          end_at y (inr h) = stays w w (tip_of y.1) (λ y. ends_apart G m (sym y)) (held_tip G w q sw y h.0)

    -- ── the far end of e is the outside's
    pub forwarded_out : Good p (put u (some (folds_up r [])) S) (moved_outside e.channel d.channel o) given next
    unfolding recasting
    forwarded_out =
        one_good G (outing (recasting G.witness) (key_of d) u u0 (G.witness.sound u (tip_of d) hc)) u (folds_up r []) (forwarder 0) (λ v t nu _ h. stays v 0 t nu h)
        (each_changed e.channel (outside_of_channel d.channel) (λ y. R 0 0 (outside_tip y)) o G.fair.keys
        (λ y i z. moves 0 (end used y.channel y.type) (end used d.channel y.type) (outside refl y i refl) z refl refl)
        (λ y i _. stays 0 0 (outside_tip y) (λ k. u0 (sym k)) (outside refl y i refl)))
        (fair_moved G.fair e.channel d.channel ((G.fine u r su).channels (c, d) (lookup_in c r.held lc)) fresh)
      where
        fresh : ¬ In d.channel (map channel_of o)
        fresh m =
            let y = Memᴰ.of_map channel_of o m in
            u0 (owner G u 0 (key_of d) (some d.type) (some y.0.type) hc (outside refl y.0 y.1 (λ i. ((channel_key (sym y.2 i), sd i), some y.0.type))))
