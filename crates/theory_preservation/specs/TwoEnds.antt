-- Who has the two ends of a channel: its owners are two, or the far end is the outside's, or nobody's.
use Rattle.std.specs.Prelude.{◌≡◌, refl, ◌≢◌, ◌⊎◌, List, ℕ}
use Rattle.std.proofs.Common.{sym, ◌∙◌, ap, subst, inl, inr, arith}
use mathlib.Core.List.Memᴰ
use Rattle.std.proofs.Math.Option.{Option, some}
use Rattle.notation.specs.Tree.{Name, Ty}
use Rattle.calculus.specs.Types.{Side, provided, used, other}
use Rattle.calculus.specs.Program.{Program}
use Rattle.calculus.specs.OneType.{OneType}
use Rattle.calculus.specs.Configuration.{End, Process, Outside}
use Rattle.calculus.specs.Named.{In}
use Rattle.calculus.specs.WellFormed.{key}
use Rattle.theory_graphs.specs.Moves.{no_loop}
use Rattle.theory_ends.specs.FarEnds.{FarOutside}
use Rattle.theory_preservation.specs.Witness.{Key, Tip, side_discrete, of_channel_lem, joint, Between, key_number}
use Rattle.theory_preservation.specs.Roster.{Roster, channel_key, channel_key_one, key_of, tip_of, holds, Has, outside, inside, Good}

-- ── keys
other_side : (s t : Side) → s ≢ t → s ≡ other t
other_side provided provided n = absurd (n refl)
other_side provided used n = refl
other_side used provided n = refl
other_side used used n = absurd (n refl)

other_other : (s : Side) → other (other s) ≡ s
other_other provided = refl
other_other used = refl

abbrev pub far_key_of : End → Key
far_key_of e = (channel_key e.channel, other e.side)

-- a key of the channel of e is that of e or that of its far end
pub key_cases : (e : End) (q : Key) → q.0 ≡ channel_key e.channel → (q ≡ key_of e) ⊎ (q ≡ far_key_of e)
key_cases e q z = go (side_discrete q.1 e.side)
  where
    go : Dec (q.1 ≡ e.side) → (q ≡ key_of e) ⊎ (q ≡ far_key_of e)
    go (yes h) = inl (λ i. (z i, h i))
    go (no n) = inr (λ i. (z i, other_side q.1 e.side n i))

pub key_of_key : (x e : End) → key x ≡ key e → key_of x ≡ key_of e
key_of_key x e h i = (channel_key (h i).0, (h i).1)

pub key_from_key : (x e : End) → key_of x ≡ key_of e → key x ≡ key e
key_from_key x e h i = (channel_key_one x.channel e.channel (ap key_number h) i, (h i).1)

-- ── two ends
-- the processes of u and w have the two ends e and f of a channel
pub record Facing (S : Roster) (o : List Outside) (u w : ℕ) (e f : End) : Type 0 where
  pub near : Has S o u (tip_of e)
  pub far : Has S o w (tip_of f)
  pub channel : f.channel ≡ e.channel
  pub side : f.side ≡ other e.side
  pub near_process : u ≢ 0
  pub far_process : w ≢ 0

-- u has the end e, and not the far end: if anybody has that, w has
pub record Opposite (S : Roster) (o : List Outside) (u w : ℕ) (e : End) : Type 0 where
  pub near : Has S o u (tip_of e)
  pub only : (v : ℕ) (t : Option (Ty Name)) → Has S o v (far_key_of e, t) → v ≡ w
  pub not_near : (t : Option (Ty Name)) → ¬ Has S o u (far_key_of e, t)

pub turned : {S : Roster} {o : List Outside} {u w : ℕ} {e f : End} → Facing S o u w e f → Facing S o w u f e
turned {e = e} m = record {
  near = m.far;
  far = m.near;
  channel = sym m.channel;
  side = sym (ap other m.side ∙ other_other e.side);
  near_process = m.far_process;
  far_process = m.near_process;
}

module _ {p : Program} {S : Roster} {o : List Outside} {given next : ℕ} (G : Good p S o given next) where
  pub above : (u : ℕ) (r : Process) → S u ≡ some r → u ≢ 0
  above u r su e = let b = (G.placed u r su).0 in omega arith

  -- one end, one owner
  pub owner : (u v : ℕ) (q : Key) (s t : Option (Ty Name)) → Has S o u (q, s) → Has S o v (q, t) → u ≡ v
  owner u v q s t h g = sym (G.witness.sound u (q, s) h) ∙ G.witness.sound v (q, t) g

  -- both ends, one type
  pub one_type : (u v : ℕ) (e d : End) → e.channel ≡ d.channel → Has S o u (tip_of e) → Has S o v (tip_of d) → OneType p e.type d.type
  one_type u v e d z h g = of_channel_lem (G.witness.agree u v (tip_of e) (tip_of d) h g (ap channel_key z))

  pub held_tip : (u : ℕ) (r : Process) → S u ≡ some r → (x : Name × End) → In x r.held → Has S o u (tip_of x.1)
  held_tip u r su x i = inside r su (holds x i refl)

  -- ── at two processes: the channel is a joint, and these are two
  module _ {u w : ℕ} {e f : End} (m : Facing S o u w e f) where
    pub is_joint : In (channel_key e.channel) G.witness.K
    is_joint = go e.side refl
      where
        go : (t : Side) → e.side ≡ t → In (channel_key e.channel) G.witness.K
        go provided z = G.witness.live u w (tip_of e) (tip_of f) m.near m.far m.near_process m.far_process (ap channel_key (sym m.channel)) z (m.side ∙ ap other z)
        go used z = Memᴰ.cast (ap channel_key (sym m.channel))
            (G.witness.live w u (tip_of f) (tip_of e) m.far m.near m.far_process m.near_process (ap channel_key m.channel) (m.side ∙ ap other z) z)

    near_owner : (t : Side) → e.side ≡ t → G.witness.own (channel_key e.channel, t) ≡ u
    near_owner t y = ap (λ t. G.witness.own (channel_key e.channel, t)) (sym y) ∙ G.witness.sound u (tip_of e) m.near

    far_owner : (t : Side) → e.side ≡ t → G.witness.own (channel_key e.channel, other t) ≡ w
    far_owner t y = (λ i. G.witness.own (channel_key (sym m.channel i), (ap other (sym y) ∙ sym m.side) i)) ∙ G.witness.sound w (tip_of f) m.far

    pub joint_between : Between G.witness.own (channel_key e.channel) u w
    joint_between = go e.side refl
      where
        go : (t : Side) → e.side ≡ t → Between G.witness.own (channel_key e.channel) u w
        go provided y = inl (near_owner provided y, far_owner provided y)
        go used y = inr (far_owner used y, near_owner used y)

    pub ends_apart : u ≢ w
    ends_apart z = no_loop (joint G.witness.own) G.witness.K G.witness.forest (channel_key e.channel) is_joint (go joint_between)
      where
        go : Between G.witness.own (channel_key e.channel) u w → G.witness.own (channel_key e.channel, provided) ≡ G.witness.own (channel_key e.channel, used)
        go (inl y) = y.0 ∙ z ∙ sym y.1
        go (inr y) = y.0 ∙ sym z ∙ sym y.1

    pub facing_opposite : Opposite S o u w e
    facing_opposite = record { near = m.near; only = only; not_near = λ t h. ends_apart (only u t h) }
      where
        only : (v : ℕ) (t : Option (Ty Name)) → Has S o v (far_key_of e, t) → v ≡ w
        only v t h = owner v w (far_key_of e) t (some f.type) h (subst (λ k. Has S o w (k, some f.type)) (λ i. (channel_key (m.channel i), m.side i)) m.far)

  -- ── at the outside, and at nobody
  pub opposite_outside : {u : ℕ} {e : End} → u ≢ 0 → Has S o u (tip_of e) → FarOutside o e → Opposite S o u 0 e
  opposite_outside {u} {e} u0 h y = record { near = h; only = only; not_near = λ t g. u0 (only u t g) }
    where
      only : (v : ℕ) (t : Option (Ty Name)) → Has S o v (far_key_of e, t) → v ≡ 0
      only v t g = owner v 0 (far_key_of e) t (some y.entry.type) g (outside refl y.entry y.listed (λ i. ((channel_key (sym y.channel i), other (y.side i)), some y.entry.type)))

  pub opposite_nobody : {u : ℕ} {e : End} → Has S o u (tip_of e) → ((v : ℕ) (t : Option (Ty Name)) → ¬ Has S o v (far_key_of e, t)) → Opposite S o u u e
  opposite_nobody {u} h n = record { near = h; only = λ v t g. absurd (n v t g); not_near = n u }

  -- who is neither has no end of the channel
  pub elsewhere : {u w : ℕ} {e : End} → Opposite S o u w e → (v : ℕ) (t : Tip) → v ≢ u → v ≢ w → Has S o v t → t.0.0 ≢ channel_key e.channel
  elsewhere {u} {w} {e} m v t nu nw h z = go (key_cases e t.0 z)
    where
      go : (t.0 ≡ key_of e) ⊎ (t.0 ≡ far_key_of e) → ⊥
      go (inl y) = nu (owner v u t.0 t.1 (some e.type) h (subst (λ k. Has S o u (k, some e.type)) (sym y) m.near))
      go (inr y) = nw (m.only v t.1 (subst (λ k. Has S o v (k, t.1)) y h))

  -- what a process holds, and the far end that another holds
  pub held_facing : {u w : ℕ} {r q : Process} → S u ≡ some r → S w ≡ some q → (c n : Name) {e f : End} → In (c, e) r.held → In (n, f) q.held → f.channel ≡ e.channel
      → f.side ≡ other e.side → Facing S o u w e f
  held_facing {u} {w} {r} {q} su sw c n {e} {f} i j z s = record {
    near = held_tip u r su (c, e) i;
    far = held_tip w q sw (n, f) j;
    channel = z;
    side = s;
    near_process = above u r su;
    far_process = above w q sw;
  }
