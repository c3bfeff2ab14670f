-- What the machine finds in the list: the far end of an end, and a channel that is free.
use Rattle.std.specs.Prelude.{◌≡◌, refl, ◌≢◌, List, [], ◌∷◌, map, ℕ, zero, suc, ◌<◌}
use Rattle.std.proofs.Common.{sym, ◌∙◌, ap, subst}
use mathlib.Core.List.Memᴰ
use Rattle.std.proofs.Math.Option.{Option, some, none-ne-some, some-injective}
use Rattle.std.proofs.Math.ListN.{get_elem?}
use Rattle.notation.specs.Limits.{channel_places}
use Rattle.notation.specs.Tree.{Name, Ty}
use Rattle.calculus.specs.Types.{Side, provided, used, other}
use Rattle.calculus.specs.Configuration.{End, Process, relinked, Outside, Config, held_channels, process_channels, channels_held, fresh_channel}
use Rattle.calculus.specs.Named.{In}
use Rattle.theory_ends.specs.Ends.{side_clash}
use Rattle.theory_ends.specs.FarEnds.{FarNobody}
use Rattle.theory_ends.specs.Fresh.{fresh_free}
use Rattle.theory_preservation.specs.Witness.{Tip, tip_number, tip_side}
use Rattle.theory_preservation.specs.Roster.{Roster, channel_key, channel_key_one, channel_no_link, holds, links, waits, Has, outside, inside}
use Rattle.theory_preservation.specs.TwoEnds.{far_key_of}
use Rattle.theory_preservation.specs.Places.{Shows}

-- the side whose other side is the used one
pub other_used : (s : Side) → other s ≡ used → s ≡ provided
other_used provided z = refl
other_used used z = absurd (side_clash z)

-- ── from the list to the roster
module _ (C : Config) {id : ℕ → ℕ} {S : Roster} (s : Shows id C.processes S) where
  -- who has an end of a channel holds it at a place
  pub held_back : (v : ℕ) (r : Process) → S v ≡ some r → (x : Name × End) → In x r.held → (j : ℕ) × (q : Process) × (get_elem? C.processes j ≡ some q) × In x q.held
  held_back v r e x i =
      let b = s.back v r e in
      let z : relinked id b.1 ≡ r = some-injective _ _ (sym (s.there b.0 b.1 b.2) ∙ ap S b.3 ∙ e) in
      (b.0, b.1, b.2, subst (λ (r : Process). In x r.held) (sym z) i)

  -- nobody has the far end of e
  pub nobody_has : (e : End) → FarNobody C e → (v : ℕ) (t : Option (Ty Name)) → ¬ Has S C.outside v (far_key_of e, t)
  nobody_has e f v t (outside _ y i h) = f.outside (other_used e.side (ap tip_side h)) y i (sym (channel_key_one e.channel y.channel (ap tip_number h)))
  nobody_has e f v t (inside r w (holds x i h)) =
      let q = held_back v r w x i in
      f.processes q.0 q.1 q.2 x q.3 (sym (channel_key_one e.channel x.1.channel (ap tip_number h))) (sym (ap tip_side h))
  nobody_has e f v t (inside r w (links k _ h)) = channel_no_link e.channel k (ap tip_number h)
  nobody_has e f v t (inside r w (waits _ h)) = channel_no_link e.channel v (ap tip_number h)

-- ── a free channel
held_channels_lem : (l : List (Name × End)) (r : List ℕ) → ((x : Name × End) → In x l → In x.1.channel (held_channels l r)) × ((k : ℕ) → In k r → In k (held_channels l r))
held_channels_lem [] r = (λ x i. absurd (Memᴰ.not-nil i), λ k i. i)
held_channels_lem (x ∷ l) r = (go (held_channels_lem l r).0, λ k i. Memᴰ.tail ((held_channels_lem l r).1 k i))
  where
    go : ((y : Name × End) → In y l → In y.1.channel (held_channels l r)) → (y : Name × End) → In y (x ∷ l) → In y.1.channel (x.1.channel ∷ held_channels l r)
    go f y (Memᴰ.head e) = Memᴰ.head (ap (λ (y : Name × End). y.1.channel) e)
    go f y (Memᴰ.tail i) = Memᴰ.tail (f y i)

process_channels_lem : (l : List Process) (r : List ℕ) → ((j : ℕ) (q : Process) → get_elem? l j ≡ some q → (x : Name × End) → In x q.held
    → In x.1.channel (process_channels l r)) × ((k : ℕ) → In k r → In k (process_channels l r))
process_channels_lem [] r = (λ j q e. absurd (none-ne-some q e), λ k i. i)
process_channels_lem (p ∷ l) r = (go (process_channels_lem l r).0, λ k i. (held_channels_lem p.held (process_channels l r)).1 k ((process_channels_lem l r).1 k i))
  where
    go : ((j : ℕ) (q : Process) → get_elem? l j ≡ some q → (x : Name × End) → In x q.held → In x.1.channel (process_channels l r))
        → (j : ℕ) (q : Process) → get_elem? (p ∷ l) j ≡ some q → (x : Name × End) → In x q.held → In x.1.channel (process_channels (p ∷ l) r)
    go f zero q e x i = (held_channels_lem p.held (process_channels l r)).0 x (subst (λ (q : Process). In x q.held) (sym (some-injective _ _ e)) i)
    go f (suc j) q e x i = (held_channels_lem p.held (process_channels l r)).1 x.1.channel (f j q e x i)

module _ (C : Config) {id : ℕ → ℕ} {S : Roster} (s : Shows id C.processes S) where
  pub fresh_unheld : (k : ℕ) → fresh_channel C ≡ some k → (k < channel_places) × ((v : ℕ) (t : Tip) → Has S C.outside v t → t.0.0 ≢ channel_key k)
  unfolding channels_held
  fresh_unheld k e = let r = fresh_free C e in (r.place, λ v t h z. r.free (busy v t h z))
    where
      all : ((j : ℕ) (q : Process) → get_elem? C.processes j ≡ some q → (x : Name × End) → In x q.held → In x.1.channel (channels_held C)) × ((k : ℕ)
          → In k (map (λ (o : Outside). o.channel) C.outside) → In k (channels_held C))
      all = process_channels_lem C.processes (map (λ (o : Outside). o.channel) C.outside)

      busy : (v : ℕ) (t : Tip) → Has S C.outside v t → t.0.0 ≡ channel_key k → In k (channels_held C)
      busy v t (outside _ y i h) z =
          subst (λ k. In k (channels_held C)) (channel_key_one y.channel k (sym (ap tip_number h) ∙ z)) (all.1 y.channel (Memᴰ.map (λ (o : Outside). o.channel) i))
      busy v t (inside r w (holds x i h)) z =
          let q = held_back C s v r w x i in
          subst (λ k. In k (channels_held C)) (channel_key_one x.1.channel k (sym (ap tip_number h) ∙ z)) (all.0 q.0 q.1 q.2 x q.3)
      busy v t (inside r w (links h _ y)) z = absurd (channel_no_link k h (sym z ∙ ap tip_number y))
      busy v t (inside r w (waits _ y)) z = absurd (channel_no_link k v (sym z ∙ ap tip_number y))
