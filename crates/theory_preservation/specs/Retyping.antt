-- A label goes over a channel: each of its ends gets another type, and these are one type again.
use Rattle.std.specs.Prelude.{◌≡◌, refl, ◌≢◌, ◌⊎◌, ℕ, ◌≤◌, ◌<◌}
use Rattle.std.proofs.Common.{sym, ap, subst, inl, inr, arith}
use mathlib.Core.List.Memᴰ
use mathlib.Core.List.Sublistᴰ
use mathlib.Core.List.{List, map, Sublistᴰ}
use Rattle.std.proofs.Math.Option.{Option, some}
use Rattle.notation.specs.Limits.{held_limit, channel_places}
use Rattle.notation.specs.Tree.{Name, Ty}
use Rattle.calculus.specs.Named.{lookup, names, In, NoneTwice}
use Rattle.calculus.specs.Types.{other}
use Rattle.calculus.specs.Program.{Program}
use Rattle.calculus.specs.Outward.{Outward}
use Rattle.calculus.specs.OneType.{OneType}
use Rattle.calculus.specs.Configuration.{End, of_type, Doing, Process, Outside, outside_of_type, retyped_end, retyped_outside, becoming}
use Rattle.calculus.specs.WellFormed.{context_of, key}
use Rattle.theory_derivations.specs.OneType.{one_refl}
use Rattle.theory_derivations.specs.Lists.{sub_in, sub_length}
use Rattle.theory_ends.specs.Lists.{sub_once}
use Rattle.theory_derivations.specs.Named.{lookup_in}
use Rattle.theory_ends.specs.Names.{changed_cases, changed_names, changed_length, changed_map}
use Rattle.theory_ends.specs.Ends.{key_at}
use Rattle.theory_ends.specs.FarEnds.{FarOutside}
use Rattle.theory_preservation.specs.Witness.{Tip, Rel, one_of_refl, of_channels, Retyped, retyping, key_number}
use Rattle.theory_preservation.specs.Mates.{put}
use Rattle.theory_preservation.specs.Roster.{Roster, Continues, channel_key, channel_key_one, channel_no_link, key_of, tip_of, link_tip, outside_tip, Has, outside, TypedDoing, Fine, Good, Change, becomes, one_good, two_good, NamesDiffer, Goes, names_less}
use Rattle.theory_preservation.specs.TwoEnds.{far_key_of, key_cases, key_from_key, Facing, Opposite, turned, above, held_tip, facing_opposite, opposite_outside, opposite_nobody, elsewhere, held_facing}
use Rattle.theory_preservation.specs.Outsides.{each_changed, fair_retyped}

-- ── a process with one end retyped
pub retyped_keys : (c : Name) (A : Ty Name) (l : List (Name × End)) → map key_at (retyped_end c A l) ≡ map key_at l
retyped_keys c A l = changed_map key c (of_type A) (λ _. refl) l

pub retyped_channels : (c : Name) (A : Ty Name) (l : List (Name × End)) (n : ℕ) → ((x : Name × End) → In x l → x.1.channel < n) → (x : Name × End)
    → In x (retyped_end c A l) → x.1.channel < n
retyped_channels c A l n h x i =
    let r = Memᴰ.of_map key_at l (subst (In (key_at x)) (retyped_keys c A l) (Memᴰ.map key_at i)) in
    subst (λ k. k < n) (ap key_number r.2) (h r.0 r.1)

pub fine_retyped : {p : Program} {r : Process} → Fine p r → (d : Doing) → Goes r.doing d → {l : List (Name × End)} → Sublistᴰ l r.held → (c : Name) (A : Ty Name)
    → TypedDoing p (context_of (retyped_end c A l)) d → Fine p (becoming d (retyped_end c A l) r)
fine_retyped {p} {r} f d w {l} s c A t = record {
  typed = t;
  names = subst (NamesDiffer d) (sym (changed_names c _ l)) (names_less d s (w.names (names r.held) f.names));
  keys = subst NoneTwice (sym (retyped_keys c A l)) (sub_once key_at s f.keys);
  room = subst (λ n. n ≤ held_limit) (sym (changed_length c _ l)) (let a = f.room in let b = sub_length s in omega arith);
  channels = retyped_channels c A l channel_places (λ x i. f.channels x (sub_in s i));
}

-- ── what is kept of the ends when those of e's channel get types that are one with T
pub retyped_off : (p : Program) (H : Rel) {k : ℕ} {T : Option (Ty Name)} (v : ℕ) (t : Tip) → H v t → t.0.0 ≢ k → Retyped p H k T v t
retyped_off p H v t h n = (t.1, h, inr (n, one_of_refl p t.1))

module _ {p : Program} {S : Roster} {o : List Outside} {given next : ℕ} (G : Good p S o given next) where
  abbrev pub RetypedChannel : End → Ty Name → Rel
  RetypedChannel e T = Retyped p (Has S o) (channel_key e.channel) (some T)

  -- e itself, and each other end of u
  pub retyped_tip : {u w : ℕ} {e : End} → Opposite S o u w e → {T A : Ty Name} → OneType p T A → (x : End) → (x ≡ of_type A e) ⊎ (Has S o u (tip_of x) × (key x ≢ key e))
      → RetypedChannel e T u (tip_of x)
  retyped_tip {u} {e = e} m {T} one x (inl z) = (
    some e.type,
    subst (λ k. Has S o u (k, some e.type)) (λ i. (channel_key (sym z i).channel, (sym z i).side)) m.near,
    inl (ap (λ (x : End). channel_key x.channel) z, of_channels (subst (λ (x : End). OneType p T x.type) (sym z) one)),
  )
  retyped_tip {u} {e = e} m one x (inr h) = retyped_off p (Has S o) u (tip_of x) h.0 (λ z. go (key_cases e (key_of x) z))
    where
      go : (key_of x ≡ key_of e) ⊎ (key_of x ≡ far_key_of e) → ⊥
      go (inl z) = h.1 (key_from_key x e z)
      go (inr z) = m.not_near (some x.type) (subst (λ k. Has S o u (k, some x.type)) z h.0)

  pub retyped_link : (e : End) (T : Ty Name) (u h : ℕ) {s : _} → Has S o u (link_tip h s) → RetypedChannel e T u (link_tip h s)
  retyped_link e T u h {s} t = retyped_off p (Has S o) u (link_tip h s) t (λ z. channel_no_link e.channel h (sym z))

  -- the outside's ends
  pub retyped_out : (e : End) {T A : Ty Name} → OneType p T A → (y : Outside) → In y (retyped_outside e.channel A o) → RetypedChannel e T 0 (outside_tip y)
  retyped_out e {T} {A} one = each_changed e.channel (outside_of_type A) (λ y. RetypedChannel e T 0 (outside_tip y)) o G.fair.keys
      (λ x i z. (some x.type, outside refl x i refl, inl (ap channel_key z, of_channels one)))
      (λ x i n. retyped_off p (Has S o) 0 (outside_tip x) (outside refl x i refl) (λ z. n (channel_key_one x.channel e.channel z)))

  -- the process r of u with its end e retyped
  retypes : {u w : ℕ} {r : Process} {d : Doing} (a : Continues S u r d) (c : Name) {e : End} {T A : Ty Name} → Opposite S o u w e → OneType p T A → lookup c r.held ≡ some e
      → TypedDoing p (context_of (retyped_end c A r.held)) d → Change p (RetypedChannel e T) next u (S u) (some (becoming d (retyped_end c A r.held) r))
  retypes {u} {r = r} {d = d} a c {e} {T} {A} m one lc t =
      becomes G (RetypedChannel e T) u r a.there d (retyped_end c A r.held) a.goes.waits (fine_retyped (G.fine u r a.there) d a.goes (Sublistᴰ.refl r.held) c A t)
      (λ x i. retyped_tip m one x.1 (entry x (changed_cases key c (of_type A) r.held e (G.fine u r a.there).keys lc x i)))
      (λ h s k. retyped_link e T u h k)
    where
      entry : (x : Name × End) → (x.1 ≡ of_type A e) ⊎ (In x r.held × (key x.1 ≢ key e)) → (x.1 ≡ of_type A e) ⊎ (Has S o u (tip_of x.1) × (key x.1 ≢ key e))
      entry x (inl z) = inl z
      entry x (inr z) = inr (held_tip G u r a.there x z.0, z.1)

  -- ── the rules: a label goes over the channel of e, from the process r of u, and A is what is left for it
  module _ {u : ℕ} {r : Process} {d : Doing} (a : Continues S u r d) (c : Name) {e : End} (A : Ty Name) (lc : lookup c r.held ≡ some e)
      (td : TypedDoing p (context_of (retyped_end c A r.held)) d) where
    abbrev after : Process
    after = becoming d (retyped_end c A r.held) r

    hu : Has S o u (tip_of e)
    hu = held_tip G u r a.there (c, e) (lookup_in c r.held lc)

    u0 : u ≢ 0
    u0 = above G u r a.there

    -- to the process q of w, whose end f goes on by its own type
    pub chosen : {B : Ty Name} → OneType p A B → {w : ℕ} {q : Process} {d' : Doing} → Continues S w q d' → (c' : Name) {f : End} → lookup c' q.held ≡ some f → f.channel ≡ e.channel
        → f.side ≡ other e.side → TypedDoing p (context_of (retyped_end c' B q.held)) d'
        → Good p (put w (some (becoming d' (retyped_end c' B q.held) q)) (put u (some after) S)) o given next
    chosen {B} one {w} {q} {d'} b c' {f} lf z s t =
        two_good G (retyping G.witness (channel_key e.channel) (some A)) u w after (becoming d' (retyped_end c' B q.held) q)
        (retypes a c (facing_opposite G m) (one_refl p A) lc td)
        (subst (λ k. Change p (Retyped p (Has S o) (channel_key k) (some A)) next w (S w) (some (becoming d' (retyped_end c' B q.held) q))) z (retypes b c' (facing_opposite G (turned m)) one lf t))
        (λ v t nu nw h. retyped_off p (Has S o) v t h (elsewhere G (facing_opposite G m) v t nu nw h)) u0 m.far_process
      where
        m : Facing S o u w e f
        m = held_facing G a.there b.there c c' (lookup_in c r.held lc) (lookup_in c' q.held lf) z s

    -- to the outside, whose end goes on by its own type
    pub chosen_out : {B : Ty Name} → OneType p A B → FarOutside o e → Outward p B → Good p (put u (some after) S) (retyped_outside e.channel B o) given next
    chosen_out {B} one y ob =
        let m = opposite_outside G u0 hu y in
        one_good G (retyping G.witness (channel_key e.channel) (some A)) u after (retypes a c m (one_refl p A) lc td)
        (λ v t nu n0 h. retyped_off p (Has S o) v t h (elsewhere G m v t nu n0 h)) (retyped_out e one) (fair_retyped G.fair e.channel B ob)

    -- to nobody
    pub chosen_unheard : ((v : ℕ) (t : Option (Ty Name)) → ¬ Has S o v (far_key_of e, t)) → Good p (put u (some after) S) o given next
    chosen_unheard far =
        let m = opposite_nobody G hu far in
        one_good G (retyping G.witness (channel_key e.channel) (some A)) u after (retypes a c m (one_refl p A) lc td)
        (λ v t nu _ h. retyped_off p (Has S o) v t h (elsewhere G m v t nu nu h))
        (λ y i. let h : Has S o 0 (outside_tip y) = outside refl y i refl in
        retyped_off p (Has S o) 0 (outside_tip y) h (elsewhere G m 0 (outside_tip y) (λ z. u0 (sym z)) (λ z. u0 (sym z)) h)) G.fair
