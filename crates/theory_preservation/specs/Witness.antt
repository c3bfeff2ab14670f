-- Who has which ends, with a forest of joints: the operations that every rule of the machine is made of.
-- A joint may stay in the forest when nobody has its ends any more (a ghost), so letting go never touches the forest.
use Rattle.std.specs.Prelude.{◌≡◌, refl, ◌≢◌, ◌⊎◌, List, [], ◌∷◌, map, ℕ, suc, ◌≤◌, ◌<◌}
use Rattle.std.proofs.Common.{sym, ◌∙◌, ap, subst, inl, inr, arith}
use Rattle.std.proofs.Math.Logic.{ite, if_pos, if_neg}
use mathlib.Core.List.Memᴰ
use Rattle.std.proofs.Math.Option.{Option, some, none}
use Rattle.std.proofs.Math.Decide.{ℕ_discrete}
use Rattle.notation.specs.Tree.{Name, Ty}
use Rattle.calculus.specs.Types.{Side, provided, used}
use Rattle.calculus.specs.Program.{Program}
use Rattle.calculus.specs.OneType.{OneType}
use Rattle.calculus.specs.Forest.{Joint, Forest}
use Rattle.calculus.specs.Named.{In, NoneTwice}
use Rattle.theory_graphs.specs.Graph.{dec_in, glue, glue_j, glue_at, glue_off, glue_self}
use Rattle.theory_graphs.specs.Moves.{map_cong, share, grow, grow_turned, thin}
use Rattle.theory_derivations.specs.OneType.{one_refl, one_sym, one_trans}
use Rattle.theory_ends.specs.Ends.{side_clash}

-- the number of a joint and a side of it
abbrev pub Key : Type 0
Key = ℕ × Side

-- an end: its key and its type; an end of a link has none
abbrev pub Tip : Type 0
Tip = Key × Option (Ty Name)

abbrev pub key_number : Key → ℕ
key_number k = k.0

abbrev pub key_side : Key → Side
key_side k = k.1

abbrev pub tip_key : Tip → Key
tip_key t = t.0

abbrev pub tip_number : Tip → ℕ
tip_number t = t.0.0

abbrev pub tip_side : Tip → Side
tip_side t = t.0.1

abbrev pub tip_type : Tip → Option (Ty Name)
tip_type t = t.1

-- which vertex has which ends; the vertex 0 is the outside
abbrev pub Rel : Type 1
Rel = ℕ → Tip → Type 0

-- ── keys are told apart
unfoldable pub side_discrete : (s t : Side) → Dec (s ≡ t)
side_discrete provided provided = yes refl
side_discrete provided used = no side_clash
side_discrete used provided = no λ e. side_clash (sym e)
side_discrete used used = yes refl

abbrev pub dec_pair : {A B : Type 0} (p q : A × B) → Dec (p.0 ≡ q.0) → Dec (p.1 ≡ q.1) → Dec (p ≡ q)
dec_pair p q (yes e) (yes f) = yes λ i. (e i, f i)
dec_pair p q (yes e) (no n) = no λ h. n (ap (λ z. z.1) h)
dec_pair p q (no n) d = no λ h. n (ap (λ z. z.0) h)

unfoldable pub key_discrete : (p q : Key) → Dec (p ≡ q)
key_discrete p q = dec_pair p q (ℕ_discrete p.0 q.0) (side_discrete p.1 q.1)

abbrev pub joint : (Key → ℕ) → ℕ → Joint
joint own k = (own (k, provided), own (k, used))

-- the types of two ends are one; an end of a link has none
pub data OneOf (p : Program) : Option (Ty Name) → Option (Ty Name) → Type 0 where
  of_links : OneOf p none none
  of_channels : {A B : Ty Name} → OneType p A B → OneOf p (some A) (some B)

pub of_channel_lem : {p : Program} {A B : Ty Name} → OneOf p (some A) (some B) → OneType p A B
of_channel_lem (of_channels h) = h

module _ (p : Program) where
  pub one_of_refl : (s : Option (Ty Name)) → OneOf p s s
  one_of_refl none = of_links
  one_of_refl (some A) = of_channels (one_refl p A)

  pub one_of_sym : {s t : Option (Ty Name)} → OneOf p s t → OneOf p t s
  one_of_sym of_links = of_links
  one_of_sym (of_channels h) = of_channels (one_sym p h)

  pub one_of_trans : {s t u : Option (Ty Name)} → OneOf p s t → OneOf p t u → OneOf p s u
  one_of_trans of_links k = k
  one_of_trans (of_channels h) (of_channels k) = of_channels (one_trans p h k)

-- K: the numbers that join, at least those with both ends at processes; below `next` stand the vertices of all of them.
-- Each end has its own type; those of one number have one type.
pub record Witness (p : Program) (H : Rel) (next : ℕ) : Type 0 where
  pub K : List ℕ
  pub own : Key → ℕ
  pub once : NoneTwice K
  pub forest : Forest (map (joint own) K)
  pub sound : (v : ℕ) (e : Tip) → H v e → own e.0 ≡ v
  pub agree : (u v : ℕ) (e f : Tip) → H u e → H v f → e.0.0 ≡ f.0.0 → OneOf p e.1 f.1
  pub live : (u v : ℕ) (e f : Tip) → H u e → H v f → u ≢ 0 → v ≢ 0 → e.0.0 ≡ f.0.0 → e.0.1 ≡ provided → f.0.1 ≡ used → In e.0.0 K
  pub vertex : (k : ℕ) (s : Side) → In k K → own (k, s) < next

-- ── fewer ends, more vertices
pub fewer : {p : Program} {H H' : Rel} {n m : ℕ} → Witness p H n → n ≤ m → ((v : ℕ) (e : Tip) → H' v e → H v e) → Witness p H' m
fewer w le s = record {
  K = w.K;
  own = w.own;
  once = w.once;
  forest = w.forest;
  sound = λ v e h. w.sound v e (s v e h);
  agree = λ u v e f h g. w.agree u v e f (s u e h) (s v f g);
  live = λ u v e f h g. w.live u v e f (s u e h) (s v f g);
  vertex = λ k s m. let b = w.vertex k s m in omega arith;
}

-- ── each end gets a type that is one with what it had
abbrev pub Recast : Program → Rel → Rel
Recast p H v e = (t : Option (Ty Name)) × H v (e.0, t) × OneOf p t e.1

pub recast_same : (p : Program) (H : Rel) (v : ℕ) (e : Tip) → H v e → Recast p H v e
recast_same p H v e h = (e.1, h, one_of_refl p e.1)

-- ── the ends of k get types that are one with T, and each other end one that is one with what it had
abbrev pub Retyped : Program → Rel → ℕ → Option (Ty Name) → Rel
Retyped p H k T v e = (t : Option (Ty Name)) × H v (e.0, t) × (((e.0.0 ≡ k) × OneOf p T e.1) ⊎ ((e.0.0 ≢ k) × OneOf p t e.1))

module _ {p : Program} {H : Rel} {n : ℕ} (w : Witness p H n) where
  -- the owners stay, whatever the types
  abbrev pub Typeless : Rel → Type 0
  Typeless R = (v : ℕ) (e : Tip) → R v e → (t : Option (Ty Name)) × H v (e.0, t)

  abbrev pub with_types_lem : {R : Rel} → Typeless R → ((u v : ℕ) (e f : Tip) → R u e → R v f → e.0.0 ≡ f.0.0 → OneOf p e.1 f.1) → Witness p R n
  with_types_lem s a = record {
    K = w.K;
    own = w.own;
    once = w.once;
    forest = w.forest;
    sound = λ v e h. let t = s v e h in w.sound v (e.0, t.0) t.1;
    agree = a;
    live = λ u v e f h g. let t = s u e h in let x = s v f g in w.live u v (e.0, t.0) (f.0, x.0) t.1 x.1;
    vertex = w.vertex;
  }

  -- two ends that were of one type are so again
  pub again : (u v : ℕ) (e f : Tip) (s t : Option (Ty Name)) → H u (e.0, s) → H v (f.0, t) → e.0.0 ≡ f.0.0 → OneOf p s e.1 → OneOf p t f.1 → OneOf p e.1 f.1
  again u v e f s t h g z a b = one_of_trans p (one_of_sym p a) (one_of_trans p (w.agree u v (e.0, s) (f.0, t) h g z) b)

  unfoldable pub recasting : Witness p (Recast p H) n
  recasting = with_types_lem (λ v e h. (h.0, h.1)) (λ u v e f h g z. again u v e f h.0 g.0 h.1 g.1 z h.2 g.2)

  unfoldable pub retyping : (k : ℕ) (T : Option (Ty Name)) → Witness p (Retyped p H k T) n
  retyping k T = with_types_lem (λ v e h. (h.0, h.1)) (λ u v e f h g z. go u v e f h g z h.2 g.2)
    where
      go : (u v : ℕ) (e f : Tip) (h : Retyped p H k T u e) (g : Retyped p H k T v f) → e.0.0 ≡ f.0.0
          → ((e.0.0 ≡ k) × OneOf p T e.1) ⊎ ((e.0.0 ≢ k) × OneOf p h.0 e.1)
          → ((f.0.0 ≡ k) × OneOf p T f.1) ⊎ ((f.0.0 ≢ k) × OneOf p g.0 f.1) → OneOf p e.1 f.1
      go u v e f h g z (inl a) (inl b) = one_of_trans p (one_of_sym p a.1) b.1
      go u v e f h g z (inl a) (inr b) = absurd (b.0 (sym z ∙ a.0))
      go u v e f h g z (inr a) (inl b) = absurd (a.0 (z ∙ b.0))
      go u v e f h g z (inr a) (inr b) = again u v e f h.0 g.0 h.1 g.1 z a.1 b.1

-- ── the ends S go from u to w
abbrev pub Moved : Rel → List Key → ℕ → ℕ → Rel
Moved H S u w v e = ((¬ In e.0 S) × H v e) ⊎ (In e.0 S × (v ≡ w) × H u e)

abbrev moved_own : (Key → ℕ) → List Key → ℕ → Key → ℕ
moved_own own S w q = ite (dec_in key_discrete q S) w (own q)

-- the joint k has its ends at u and w
abbrev pub Between : (Key → ℕ) → ℕ → ℕ → ℕ → Type 0
Between own k u w = ((own (k, provided) ≡ u) × (own (k, used) ≡ w)) ⊎ ((own (k, provided) ≡ w) × (own (k, used) ≡ u))

module _ {p : Program} {H : Rel} {n : ℕ} (W : Witness p H n) (S : List Key) (u w : ℕ) (from : (q : Key) → In q S → W.own q ≡ u) (u0 : u ≢ 0) where
  abbrev own' : Key → ℕ
  own' = moved_own W.own S w

  moved_sound : (v : ℕ) (e : Tip) → Moved H S u w v e → own' e.0 ≡ v
  moved_sound v e (inl h) = if_neg (dec_in key_discrete e.0 S) h.0 _ _ ∙ W.sound v e h.1
  moved_sound v e (inr h) = if_pos (dec_in key_discrete e.0 S) h.0 _ _ ∙ sym h.1

  was : (v : ℕ) (e : Tip) → Moved H S u w v e → (x : ℕ) × H x e × (v ≢ 0 → x ≢ 0)
  was v e (inl h) = (v, h.1, λ z. z)
  was v e (inr h) = (u, h.2, λ z. u0)

  -- over a joint k between u and w
  pub over : (k : ℕ) → In k W.K → ((s : Side) → ¬ In (k, s) S) → Between W.own k u w → Witness p (Moved H S u w) n
  over k m out b = record {
    K = W.K;
    own = own';
    once = W.once;
    forest = share (joint W.own) W.K W.forest (joint own') k m (λ t. (here provided t, here used t)) (λ x _ t. (glued (x, provided) b t, glued (x, used) b t));
    sound = moved_sound;
    agree = λ v x e f h g. W.agree _ _ e f (was v e h).1 (was x f g).1;
    live = λ v x e f h g v0 x0. W.live _ _ e f (was v e h).1 (was x f g).1 ((was v e h).2 v0) ((was x f g).2 x0);
    vertex = λ x s i. bound (x, s) i b;
  }
    where
      here : (s : Side) → own' (k, s) ≡ W.own (k, s)
      here s = if_neg (dec_in key_discrete (k, s) S) (out s) _ _

      g : ℕ → ℕ
      g = glue (W.own (k, provided)) (W.own (k, used))

      ends : Between W.own k u w → g w ≡ g u
      ends (inl z) = glue_at _ _ w (sym z.1) ∙ sym (glue_self _ (W.own (k, used))) ∙ ap g z.0
      ends (inr z) = ap g (sym z.0) ∙ glue_self _ (W.own (k, used)) ∙ sym (glue_at _ _ u (sym z.1))

      glued : (q : Key) → Between W.own k u w → g (own' q) ≡ g (W.own q)
      glued q b = go (dec_in key_discrete q S)
        where
          go : (d : Dec (In q S)) → g (ite d w (W.own q)) ≡ g (W.own q)
          go (yes i) = ends b ∙ ap g (sym (from q i))
          go (no _) = refl

      bound : (q : Key) → In q.0 W.K → Between W.own k u w → own' q < n
      bound q i b = go (dec_in key_discrete q S) b
        where
          go : (d : Dec (In q S)) → Between W.own k u w → ite d w (W.own q) < n
          go (yes _) (inl z) = subst (λ x. x < n) z.1 (W.vertex k used m)
          go (yes _) (inr z) = subst (λ x. x < n) z.0 (W.vertex k provided m)
          go (no _) _ = W.vertex q.0 q.1 i

-- ── a list of numbers without one of them
abbrev apart : ℕ → List ℕ → List ℕ
apart k [] = []
apart k (x ∷ l) = ite (ℕ_discrete x k) (apart k l) (x ∷ apart k l)

apart_in : (k x : ℕ) (l : List ℕ) → In x (apart k l) → In x l × (x ≢ k)
apart_in k x [] m = absurd (Memᴰ.not-nil m)
apart_in k x (y ∷ l) m = go (ℕ_discrete y k) (apart_in k x l) m
  where
    go : (d : Dec (y ≡ k)) → (In x (apart k l) → In x l × (x ≢ k)) → In x (ite d (apart k l) (y ∷ apart k l)) → In x (y ∷ l) × (x ≢ k)
    go (yes _) r i = (Memᴰ.tail (r i).0, (r i).1)
    go (no n) r (Memᴰ.head e) = (Memᴰ.head e, λ z. n (sym e ∙ z))
    go (no n) r (Memᴰ.tail i) = (Memᴰ.tail (r i).0, (r i).1)

in_apart : (k x : ℕ) (l : List ℕ) → In x l → x ≢ k → In x (apart k l)
in_apart k x [] m n = m
in_apart k x (y ∷ l) m n = go (ℕ_discrete y k) (λ i. in_apart k x l i n) m
  where
    go : (d : Dec (y ≡ k)) → (In x l → In x (apart k l)) → In x (y ∷ l) → In x (ite d (apart k l) (y ∷ apart k l))
    go (yes z) r (Memᴰ.head e) = absurd (n (e ∙ z))
    go (yes z) r (Memᴰ.tail i) = r i
    go (no _) r (Memᴰ.head e) = Memᴰ.head e
    go (no _) r (Memᴰ.tail i) = Memᴰ.tail (r i)

apart_once : (k : ℕ) (l : List ℕ) → NoneTwice l → NoneTwice (apart k l)
apart_once k [] u = tt
apart_once k (y ∷ l) u = go (ℕ_discrete y k) (apart_once k l u.1)
  where
    go : (d : Dec (y ≡ k)) → NoneTwice (apart k l) → NoneTwice (ite d (apart k l) (y ∷ apart k l))
    go (yes _) r = r
    go (no _) r = ((λ m. u.0 (apart_in k y l m).0), r)

-- the joint k goes, and own may change there
apart_forest : {p : Program} {H : Rel} {n : ℕ} (W : Witness p H n) (k : ℕ) (own : Key → ℕ) → ((x : ℕ) (s : Side) → x ≢ k → own (x, s) ≡ W.own (x, s)) → Forest (map (joint own) (apart k W.K))
apart_forest W k own h =
    subst Forest (map_cong (joint W.own) (joint own) (apart k W.K) (λ x m t. (sym (h x provided (apart_in k x W.K m).1) t, sym (h x used (apart_in k x W.K m).1) t)))
    (thin (joint W.own) W.K (apart k W.K) (apart_once k W.K W.once) (λ x m. (apart_in k x W.K m).0) W.forest)

-- ── the end q goes to the outside
pub outing : {p : Program} {H : Rel} {n : ℕ} (W : Witness p H n) (q : Key) (u : ℕ) → u ≢ 0 → W.own q ≡ u → Witness p (Moved H (q ∷ []) u 0) n
outing {H = H} {n = n} W q u u0 f = record {
  K = apart q.0 W.K;
  own = moved_own W.own (q ∷ []) 0;
  once = apart_once q.0 W.K W.once;
  forest = apart_forest W q.0 (moved_own W.own (q ∷ []) 0) same;
  sound = moved_sound W (q ∷ []) u 0 from u0;
  agree = λ v x e f h g. W.agree _ _ e f (was W (q ∷ []) u 0 from u0 v e h).1 (was W (q ∷ []) u 0 from u0 x f g).1;
  live = live';
  vertex = λ x s m. let r = apart_in q.0 x W.K m in subst (λ y. y < n) (sym (same x s r.1)) (W.vertex x s r.0);
}
  where
    from : (p : Key) → In p (q ∷ []) → W.own p ≡ u
    from p m = ap W.own (Memᴰ.eq_of_singleton m) ∙ f

    same : (x : ℕ) (s : Side) → x ≢ q.0 → moved_own W.own (q ∷ []) 0 (x, s) ≡ W.own (x, s)
    same x s n = if_neg (dec_in key_discrete (x, s) (q ∷ [])) (λ m. n (ap key_number (Memᴰ.eq_of_singleton m))) _ _

    live' : (v x : ℕ) (e f : Tip) → Moved H (q ∷ []) u 0 v e → Moved H (q ∷ []) u 0 x f → v ≢ 0 → x ≢ 0 → e.0.0 ≡ f.0.0 → e.0.1 ≡ provided → f.0.1 ≡ used
        → In e.0.0 (apart q.0 W.K)
    live' v x e f (inl h) (inl g) v0 x0 p a b = in_apart q.0 e.0.0 W.K (W.live v x e f h.1 g.1 v0 x0 p a b) (λ z. off q.1 refl z)
      where
        off : (s : Side) → q.1 ≡ s → e.0.0 ≡ q.0 → ⊥
        off provided y z = h.0 (Memᴰ.head λ t. (z t, (a ∙ sym y) t))
        off used y z = g.0 (Memᴰ.head λ t. ((sym p ∙ z) t, (b ∙ sym y) t))
    live' v x e f (inl h) (inr g) v0 x0 p a b = absurd (x0 g.1)
    live' v x e f (inr h) g v0 x0 p a b = absurd (v0 h.1)

-- ── a new joint k, of which nobody has an end, between the vertex i and a new vertex z
abbrev pub sides : ℕ → ℕ → Side → ℕ
sides g t provided = g
sides g t used = t

abbrev pub Joined : Rel → ℕ → (Side → ℕ) → Option (Ty Name) → Rel
Joined H k at T v e = H v e ⊎ ((e.0.0 ≡ k) × (v ≡ at e.0.1) × (e.1 ≡ T))

module _ {p : Program} {H : Rel} {n : ℕ} (W : Witness p H n) (k i z : ℕ) (T : Option (Ty Name)) (free : (v : ℕ) (e : Tip) → H v e → e.0.0 ≢ k) (nz : n ≤ z) (i< : i < n) where
  abbrev at_own : (Side → ℕ) → Key → ℕ
  at_own at q = ite (ℕ_discrete q.0 k) (at q.1) (W.own q)

  old_own : (at : Side → ℕ) (x : ℕ) (s : Side) → x ≢ k → at_own at (x, s) ≡ W.own (x, s)
  old_own at x s l = if_neg (ℕ_discrete x k) l _ _

  new_own : (at : Side → ℕ) (s : Side) → at_own at (k, s) ≡ at s
  new_own at s = if_pos (ℕ_discrete k k) refl _ _

  glued_old : (at : Side → ℕ) (x : ℕ) → In x (apart k W.K) → glue_j i z (joint (at_own at) x) ≡ joint W.own x
  glued_old at x h t = (one provided t, one used t)
    where
      one : (s : Side) → glue i z (at_own at (x, s)) ≡ W.own (x, s)
      one s =
          let r = apart_in k x W.K h in
          ap (glue i z) (old_own at x s r.1) ∙ glue_off i z (W.own (x, s)) (λ e. let b = W.vertex x s r.0 in omega arith)

  joined_with : (at : Side → ℕ) → ((s : Side) → at s < suc z) → Forest (map (joint (at_own at)) (k ∷ apart k W.K)) → Witness p (Joined H k at T) (suc z)
  joined_with at lt fo = record {
    K = k ∷ apart k W.K;
    own = at_own at;
    once = ((λ h. (apart_in k k W.K h).1 refl), apart_once k W.K W.once);
    forest = fo;
    sound = sound';
    agree = agree';
    live = live';
    vertex = vertex';
  }
    where
      sound' : (v : ℕ) (e : Tip) → Joined H k at T v e → at_own at e.0 ≡ v
      sound' v e (inl h) = old_own at e.0.0 e.0.1 (free v e h) ∙ W.sound v e h
      sound' v e (inr h) = if_pos (ℕ_discrete e.0.0 k) h.0 _ _ ∙ sym h.1

      agree' : (u v : ℕ) (e f : Tip) → Joined H k at T u e → Joined H k at T v f → e.0.0 ≡ f.0.0 → OneOf p e.1 f.1
      agree' u v e f (inl h) (inl g) y = W.agree u v e f h g y
      agree' u v e f (inl h) (inr g) y = absurd (free u e h (y ∙ g.0))
      agree' u v e f (inr h) (inl g) y = absurd (free v f g (sym y ∙ h.0))
      agree' u v e f (inr h) (inr g) y = subst (OneOf p e.1) (h.2 ∙ sym g.2) (one_of_refl p e.1)

      live' : (u v : ℕ) (e f : Tip) → Joined H k at T u e → Joined H k at T v f → u ≢ 0 → v ≢ 0 → e.0.0 ≡ f.0.0 → e.0.1 ≡ provided → f.0.1 ≡ used → In e.0.0 (k ∷ apart k W.K)
      live' u v e f (inl h) (inl g) u0 v0 p a b = Memᴰ.tail (in_apart k e.0.0 W.K (W.live u v e f h g u0 v0 p a b) (free u e h))
      live' u v e f (inr h) g u0 v0 p a b = Memᴰ.head h.0
      live' u v e f (inl h) (inr g) u0 v0 p a b = Memᴰ.head (p ∙ g.0)

      vertex' : (x : ℕ) (s : Side) → In x (k ∷ apart k W.K) → at_own at (x, s) < suc z
      vertex' x s (Memᴰ.head e) = subst (λ y. y < suc z) (sym (if_pos (ℕ_discrete x k) e _ _)) (lt s)
      vertex' x s (Memᴰ.tail h) =
          let r = apart_in k x W.K h in
          subst (λ y. y < suc z) (sym (old_own at x s r.1)) (let b = W.vertex x s r.0 in omega arith)

  iz : i ≢ z
  iz e = omega arith

  gone : Forest (map (joint W.own) (apart k W.K))
  gone = apart_forest W k W.own (λ x s n. refl)

  -- the new vertex uses, or it provides
  pub joined_uses : Witness p (Joined H k (sides i z) T) (suc z)
  joined_uses =
      joined_with (sides i z) lt
      (grow (joint W.own) (apart k W.K) gone (joint (at_own (sides i z))) k i z (λ t. (new_own (sides i z) provided t, new_own (sides i z) used t)) iz (glued_old (sides i z)))
    where
      lt : (s : Side) → sides i z s < suc z
      lt provided = omega arith
      lt used = omega arith

  pub joined_provides : Witness p (Joined H k (sides z i) T) (suc z)
  joined_provides =
      joined_with (sides z i) lt
      (grow_turned (joint W.own) (apart k W.K) gone (joint (at_own (sides z i))) k i z (λ t. (new_own (sides z i) provided t, new_own (sides z i) used t)) iz (glued_old (sides z i)))
    where
      lt : (s : Side) → sides z i s < suc z
      lt provided = omega arith
      lt used = omega arith
