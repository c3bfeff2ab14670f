-- Links and waiting handlers, apart from everything else: each process is seen as its link and whether it waits.
use Rattle.std.specs.Prelude.{◌≡◌, refl, ◌≢◌, ◌⊎◌, Bool, true, false, ℕ}
use Rattle.std.proofs.Common.{sym, ◌∙◌, ap, subst, inl, inr, true≢false}
use Rattle.std.proofs.Math.Path.{fun_ext}
use Rattle.std.proofs.Math.Logic.{ite, if_pos, if_neg}
use Rattle.std.proofs.Math.Option.{Option, some, none, none-ne-some, some-injective}
use Rattle.std.proofs.Math.Decide.{ℕ_discrete}

-- ── the value at u put in place of what stood there
module _ {X : Type 0} where
  abbrev pub put : ℕ → X → (ℕ → X) → ℕ → X
  put u x F v = ite (ℕ_discrete v u) x (F v)

  pub put_at : (u : ℕ) (x : X) (F : ℕ → X) (v : ℕ) → v ≡ u → put u x F v ≡ x
  put_at u x F v e = if_pos (ℕ_discrete v u) e _ _

  pub put_off : (u : ℕ) (x : X) (F : ℕ → X) (v : ℕ) → v ≢ u → put u x F v ≡ F v
  put_off u x F v n = if_neg (ℕ_discrete v u) n _ _

  pub put_elim : (Q : ℕ → X → Type 0) (u : ℕ) (x : X) (F : ℕ → X) → Q u x → ((v : ℕ) → v ≢ u → Q v (F v)) → (v : ℕ) → Q v (put u x F v)
  put_elim Q u x F a b v = go (ℕ_discrete v u)
    where
      go : (d : Dec (v ≡ u)) → Q v (ite d x (F v))
      go (yes e) = subst (λ v. Q v x) (sym e) a
      go (no n) = b v n

-- what is seen of a process: its link, and whether it waits; none where no process is
abbrev pub Profile : Type 0
Profile = Option (Option ℕ × Bool)

pub link_of : {l m : Option ℕ} {b c : Bool} → Path Profile (some (l, b)) (some (m, c)) → l ≡ m
link_of e = ap (λ (x : Option ℕ × Bool). x.0) (some-injective _ _ e)

pub waits_of : {l m : Option ℕ} {b c : Bool} → Path Profile (some (l, b)) (some (m, c)) → b ≡ c
waits_of e = ap (λ (x : Option ℕ × Bool). x.1) (some-injective _ _ e)

-- a link leads to a waiting handler; to a waiting handler leads one link
pub record Mates (F : ℕ → Profile) : Type 0 where
  pub up : (v h : ℕ) (w : Bool) → F v ≡ some (some h, w) → (l : Option ℕ) × (F h ≡ some (l, true))
  pub down : (h : ℕ) (l : Option ℕ) → F h ≡ some (l, true) → (v : ℕ) × (w : Bool) × (F v ≡ some (some h, w))
  pub once : (u v h : ℕ) (w x : Bool) → F u ≡ some (some h, w) → F v ≡ some (some h, x) → u ≡ v

pub mates_same : {F G : ℕ → Profile} → ((v : ℕ) → F v ≡ G v) → Mates F → Mates G
mates_same h = subst Mates (fun_ext h)

-- without link, and not waiting
pub record Quiet (x : Profile) : Type 0 where
  pub unlinked : (h : ℕ) (w : Bool) → x ≢ some (some h, w)
  pub active : (l : Option ℕ) → x ≢ some (l, true)

pub quiet_none : Quiet none
quiet_none = record { unlinked = λ h w. none-ne-some (some h, w); active = λ l. none-ne-some (l, true) }

pub quiet_some : Quiet (some (none, false))
quiet_some = record {
  unlinked = λ h w e. none-ne-some h (link_of e);
  active = λ l e. true≢false (sym (waits_of e));
}

pub mates_quiet : {F : ℕ → Profile} → ((v : ℕ) → Quiet (F v)) → Mates F
mates_quiet q = record { up = λ v h w e. absurd ((q v).unlinked h w e); down = λ h l e. absurd ((q h).active l e); once = λ u v h w x e. absurd ((q u).unlinked h w e) }

module _ {F : ℕ → Profile} (m : Mates F) where
  -- who is without link and waits for none may change so, come or go
  pub mates_put : (u : ℕ) (x : Profile) → Quiet (F u) → Quiet x → Mates (put u x F)
  mates_put u x q q' = record { up = up'; down = down'; once = once' }
    where
      -- a link, or a waiting handler, stands elsewhere, as before
      linked : (v h : ℕ) (w : Bool) → put u x F v ≡ some (some h, w) → F v ≡ some (some h, w)
      linked = put_elim (λ v y. (h : ℕ) (w : Bool) → y ≡ some (some h, w) → F v ≡ some (some h, w)) u x F (λ h w e. absurd (q'.unlinked h w e)) (λ v n h w e. e)

      link : (v h : ℕ) (w : Bool) → F v ≡ some (some h, w) → put u x F v ≡ some (some h, w)
      link v h w e = put_off u x F v (λ z. q.unlinked h w (ap F (sym z) ∙ e)) ∙ e

      waiting : (h : ℕ) (l : Option ℕ) → F h ≡ some (l, true) → put u x F h ≡ some (l, true)
      waiting h l e = put_off u x F h (λ z. q.active l (ap F (sym z) ∙ e)) ∙ e

      waited : (h : ℕ) (l : Option ℕ) → put u x F h ≡ some (l, true) → F h ≡ some (l, true)
      waited = put_elim (λ v y. (l : Option ℕ) → y ≡ some (l, true) → F v ≡ some (l, true)) u x F (λ l e. absurd (q'.active l e)) (λ v n l e. e)

      up' : (v h : ℕ) (w : Bool) → put u x F v ≡ some (some h, w) → (l : Option ℕ) × (put u x F h ≡ some (l, true))
      up' v h w e = let r = m.up v h w (linked v h w e) in (r.0, waiting h r.0 r.1)

      down' : (h : ℕ) (l : Option ℕ) → put u x F h ≡ some (l, true) → (v : ℕ) × (w : Bool) × (put u x F v ≡ some (some h, w))
      down' h l e = let r = m.down h l (waited h l e) in (r.0, r.1, link r.0 h r.1 r.2)

      once' : (a b h : ℕ) (w y : Bool) → put u x F a ≡ some (some h, w) → put u x F b ≡ some (some h, y) → a ≡ b
      once' a b h w y e f = m.once a b h w y (linked a h w e) (linked b h y f)

  -- the process u lets go of its link, and its handler h waits no more
  pub mates_cut : (u h : ℕ) (l : Option ℕ) → F u ≡ some (some h, false) → F h ≡ some (l, true) → Mates (put u (some (none, false)) (put h (some (l, false)) F))
  mates_cut u h l fu fh = record { up = up'; down = down'; once = once' }
    where
      G : ℕ → Profile
      G = put u (some (none, false)) (put h (some (l, false)) F)

      past : (v : ℕ) → v ≢ u → G v ≡ put h (some (l, false)) F v
      past = put_off u (some (none, false)) (put h (some (l, false)) F)

      linked : (v k : ℕ) (w : Bool) → G v ≡ some (some k, w) → (v ≢ u) × (x : Bool) × (F v ≡ some (some k, x))
      linked = put_elim (λ v y. (k : ℕ) (w : Bool) → y ≡ some (some k, w) → (v ≢ u) × (x : Bool) × (F v ≡ some (some k, x))) u (some (none, false)) (put h (some (l, false)) F)
          (λ k w e. absurd (quiet_some.unlinked k w e))
          (λ v n. put_elim (λ v y. v ≢ u → (k : ℕ) (w : Bool) → y ≡ some (some k, w) → (v ≢ u) × (x : Bool) × (F v ≡ some (some k, x))) h (some (l, false)) F
          (λ n k w e. (n, true, fh ∙ ap (λ a. some (a, true)) (link_of e))) (λ v _ n k w e. (n, w, e)) v n)

      link : (v k : ℕ) (w : Bool) → v ≢ u → F v ≡ some (some k, w) → (x : Bool) × (G v ≡ some (some k, x))
      link v k w n e = go (ℕ_discrete v h)
        where
          go : Dec (v ≡ h) → (x : Bool) × (G v ≡ some (some k, x))
          go (yes z) = (false, past v n ∙ put_at h (some (l, false)) F v z ∙ ap (λ a. some (a, false)) (link_of (sym fh ∙ ap F (sym z) ∙ e)))
          go (no z) = (w, past v n ∙ put_off h (some (l, false)) F v z ∙ e)

      waiting : (k : ℕ) (a : Option ℕ) → k ≢ h → F k ≡ some (a, true) → G k ≡ some (a, true)
      waiting k a n e = past k (λ z. true≢false (sym (waits_of (sym fu ∙ ap F (sym z) ∙ e)))) ∙ put_off h (some (l, false)) F k n ∙ e

      waited : (k : ℕ) (a : Option ℕ) → G k ≡ some (a, true) → (k ≢ h) × (F k ≡ some (a, true))
      waited = put_elim (λ k y. (a : Option ℕ) → y ≡ some (a, true) → (k ≢ h) × (F k ≡ some (a, true))) u (some (none, false)) (put h (some (l, false)) F)
          (λ a e. absurd (quiet_some.active a e))
          (λ k _. put_elim (λ k y. (a : Option ℕ) → y ≡ some (a, true) → (k ≢ h) × (F k ≡ some (a, true))) h (some (l, false)) F
          (λ a e. absurd (true≢false (sym (waits_of e)))) (λ k n a e. (n, e)) k)

      up' : (v k : ℕ) (w : Bool) → G v ≡ some (some k, w) → (a : Option ℕ) × (G k ≡ some (a, true))
      up' v k w e =
          let f = linked v k w e in
          let r = m.up v k f.1 f.2 in
          (r.0, waiting k r.0 (λ z. f.0 (m.once v u h f.1 false (f.2 ∙ ap (λ k. some (some k, f.1)) z) fu)) r.1)

      down' : (k : ℕ) (a : Option ℕ) → G k ≡ some (a, true) → (v : ℕ) × (w : Bool) × (G v ≡ some (some k, w))
      down' k a e =
          let f = waited k a e in
          let r = m.down k a f.1 in
          let g = link r.0 k r.1 (λ z. f.0 (some-injective _ _ (link_of (sym r.2 ∙ ap F z ∙ fu)))) r.2 in
          (r.0, g.0, g.1)

      once' : (a b k : ℕ) (w y : Bool) → G a ≡ some (some k, w) → G b ≡ some (some k, y) → a ≡ b
      once' a b k w y e f = let r = linked a k w e in let s = linked b k y f in m.once a b k r.1 s.1 r.2 s.2

  -- the process u gets a new handler z, to which its link goes
  pub mates_new : (u z : ℕ) (l : Option ℕ) → F u ≡ some (l, false) → F z ≡ none → Mates (put u (some (some z, false)) (put z (some (l, true)) F))
  mates_new u z l fu fz = record { up = up'; down = down'; once = once' }
    where
      G : ℕ → Profile
      G = put u (some (some z, false)) (put z (some (l, true)) F)

      past : (v : ℕ) → v ≢ u → G v ≡ put z (some (l, true)) F v
      past = put_off u (some (some z, false)) (put z (some (l, true)) F)

      uz : u ≢ z
      uz e = none-ne-some (l, false) (sym fz ∙ ap F (sym e) ∙ fu)

      at_u : G u ≡ some (some z, false)
      at_u = put_at u (some (some z, false)) (put z (some (l, true)) F) u refl

      at_z : G z ≡ some (l, true)
      at_z = past z (λ e. uz (sym e)) ∙ put_at z (some (l, true)) F z refl

      -- who had a link: u's is now that of z
      heir : ℕ → ℕ
      heir v = ite (ℕ_discrete v u) z v

      link : (v k : ℕ) (w : Bool) → F v ≡ some (some k, w) → (x : ℕ) × (y : Bool) × (G x ≡ some (some k, y))
      link v k w e = go (ℕ_discrete v u)
        where
          go : Dec (v ≡ u) → (x : ℕ) × (y : Bool) × (G x ≡ some (some k, y))
          go (yes y) = (z, true, at_z ∙ ap (λ a. some (a, true)) (link_of (sym fu ∙ ap F (sym y) ∙ e)))
          go (no n) = (v, w, past v n ∙ put_off z (some (l, true)) F v (λ y. none-ne-some (some k, w) (sym fz ∙ ap F (sym y) ∙ e)) ∙ e)

      waiting : (k : ℕ) (a : Option ℕ) → F k ≡ some (a, true) → G k ≡ some (a, true)
      waiting k a e =
          past k (λ y. true≢false (sym (waits_of (sym fu ∙ ap F (sym y) ∙ e))))
          ∙ put_off z (some (l, true)) F k (λ y. none-ne-some (a, true) (sym fz ∙ ap F (sym y) ∙ e)) ∙ e

      -- a link afterwards: the new one, or an old one, at its heir
      linked : (v k : ℕ) (w : Bool) → G v ≡ some (some k, w) → ((v ≡ u) × (k ≡ z)) ⊎ ((x : ℕ) × (y : Bool) × (F x ≡ some (some k, y)) × (v ≡ heir x))
      linked = put_elim (λ v y. (k : ℕ) (w : Bool) → y ≡ some (some k, w) → ((v ≡ u) × (k ≡ z)) ⊎ ((x : ℕ) × (y : Bool) × (F x ≡ some (some k, y)) × (v ≡ heir x))) u
          (some (some z, false)) (put z (some (l, true)) F)
          (λ k w e. inl (refl, sym (some-injective _ _ (link_of e))))
          (λ v n. put_elim (λ v y. v ≢ u → (k : ℕ) (w : Bool) → y ≡ some (some k, w) → ((v ≡ u) × (k ≡ z)) ⊎
          ((x : ℕ) × (y : Bool) × (F x ≡ some (some k, y)) × (v ≡ heir x))) z (some (l, true)) F
          (λ _ k w e. inr (u, false, fu ∙ ap (λ a. some (a, false)) (link_of e), sym (if_pos (ℕ_discrete u u) refl _ _)))
          (λ v _ n k w e. inr (v, w, e, sym (if_neg (ℕ_discrete v u) n _ _))) v n)

      old : (k : ℕ) (x : ℕ) (y : Bool) → F x ≡ some (some k, y) → k ≢ z
      old k x y e n = let r = m.up x k y e in none-ne-some (r.0, true) (sym fz ∙ ap F (sym n) ∙ r.1)

      up' : (v k : ℕ) (w : Bool) → G v ≡ some (some k, w) → (a : Option ℕ) × (G k ≡ some (a, true))
      up' v k w e = go (linked v k w e)
        where
          go : ((v ≡ u) × (k ≡ z)) ⊎ ((x : ℕ) × (y : Bool) × (F x ≡ some (some k, y)) × (v ≡ heir x)) → (a : Option ℕ) × (G k ≡ some (a, true))
          go (inl y) = (l, subst (λ k. G k ≡ some (l, true)) (sym y.1) at_z)
          go (inr y) = let r = m.up y.0 k y.1 y.2 in (r.0, waiting k r.0 r.1)

      down' : (k : ℕ) (a : Option ℕ) → G k ≡ some (a, true) → (v : ℕ) × (w : Bool) × (G v ≡ some (some k, w))
      down' = put_elim (λ k y. (a : Option ℕ) → y ≡ some (a, true) → (v : ℕ) × (w : Bool) × (G v ≡ some (some k, w))) u (some (some z, false)) (put z (some (l, true)) F)
          (λ a e. absurd (true≢false (sym (waits_of e))))
          (λ k _. put_elim (λ k y. (a : Option ℕ) → y ≡ some (a, true) → (v : ℕ) × (w : Bool) × (G v ≡ some (some k, w))) z (some (l, true)) F
          (λ a e. (u, false, at_u)) (λ k n a e. let r = m.down k a e in link r.0 k r.1 r.2) k)

      once' : (a b k : ℕ) (w y : Bool) → G a ≡ some (some k, w) → G b ≡ some (some k, y) → a ≡ b
      once' a b k w y e f = go (linked a k w e) (linked b k y f)
        where
          go : ((a ≡ u) × (k ≡ z)) ⊎ ((x : ℕ) × (y : Bool) × (F x ≡ some (some k, y)) × (a ≡ heir x))
              → ((b ≡ u) × (k ≡ z)) ⊎ ((x : ℕ) × (y : Bool) × (F x ≡ some (some k, y)) × (b ≡ heir x)) → a ≡ b
          go (inl r) (inl s) = r.0 ∙ sym s.0
          go (inl r) (inr s) = absurd (old k s.0 s.1 s.2 r.1)
          go (inr r) (inl s) = absurd (old k r.0 r.1 r.2 s.1)
          go (inr r) (inr s) = r.3 ∙ ap heir (m.once r.0 s.0 k r.1 s.1 r.2 s.2) ∙ sym s.3
