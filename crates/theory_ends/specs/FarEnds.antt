-- Who holds the far end of an end: a process, the outside, or nobody.
use Rattle.std.specs.Prelude.{◌≡◌, ◌≢◌, ◌⊎◌, List, [], ◌∷◌, Bool, true, false, ◌&&◌, eqb}
use Rattle.std.proofs.Math.Path.{refl, sym}
use Rattle.std.proofs.Common.{◌∙◌, ap, subst, inl, inr, arith}
use mathlib.Core.List.Memᴰ
use Rattle.std.proofs.Math.Option.{Option, some, none, none-ne-some, some-injective}
use Rattle.std.proofs.Math.Bool.{So, and-eq-true_iff}
use Rattle.std.proofs.lemmas.Bool.{false≢true}
use Prim.Native.Nat.{ℕ, zero, suc, ◌+◌}
use Rattle.std.proofs.Math.ListN.{get_elem?}
use Rattle.notation.specs.Tree.{Name}
use Rattle.calculus.specs.Types.{Side, provided, used, other, same_side}
use Rattle.calculus.specs.Program.{Program}
use Rattle.calculus.specs.Configuration.{End, Process, Outside, Config, Stands, held_as, Holder, holder_here, holder_from, outside_of, Far, at_process, at_outside, given_up, or_outside, far_from, far_end}
use Rattle.calculus.specs.Named.{In}
use Rattle.calculus.specs.WellFormed.{key, WellFormed}
use Rattle.theory_derivations.specs.Booleans.{bool_cases, cond_true, cond_false, eqb_iff}
use Rattle.theory_derivations.specs.Equality.{same_side_iff}
use Rattle.theory_ends.specs.Lists.{found_one}
use Rattle.theory_ends.specs.Ends.{side_clash, one_holder, one_name}

-- ── who holds an end
abbrev pub is_end : ℕ → Side → End → Bool
is_end k s e = eqb k e.channel && same_side s e.side

pub is_end_lem : (k : ℕ) (s : Side) (e : End) → So (is_end k s e) → (e.channel ≡ k) × (e.side ≡ s)
is_end_lem k s e h = let r = (and-eq-true_iff (eqb k e.channel) (same_side s e.side)).0 h in (sym ((eqb_iff k e.channel).0 r.0), sym ((same_side_iff s e.side).0 r.1))

pub end_is : (k : ℕ) (s : Side) (e : End) → e.channel ≡ k → e.side ≡ s → So (is_end k s e)
end_is k s e a b = (and-eq-true_iff (eqb k e.channel) (same_side s e.side)).1 ((eqb_iff k e.channel).1 (sym a), (same_side_iff s e.side).1 (sym b))

held_some : (k : ℕ) (s : Side) (l : List (Name × End)) (n : Name) → held_as k s l ≡ some n → (e : End) × In (n, e) l × (e.channel ≡ k) × (e.side ≡ s)
unfolding held_as
held_some k s [] n h = absurd (none-ne-some n h)
held_some k s (x ∷ l) n h = go (bool_cases (is_end k s x.1)) (held_some k s l n)
  where
    go : (is_end k s x.1 ≡ true) ⊎ (is_end k s x.1 ≡ false) → (held_as k s l ≡ some n → (e : End) × In (n, e) l × (e.channel ≡ k) × (e.side ≡ s))
        → (e : End) × In (n, e) (x ∷ l) × (e.channel ≡ k) × (e.side ≡ s)
    go (inl z) r =
        let m : x.0 ≡ n = some-injective _ _ (sym (cond_true (some x.0) (held_as k s l) z) ∙ h) in
        let e = is_end_lem k s x.1 z in
        (x.1, Memᴰ.head (λ i. (sym m i, x.1)), e.0, e.1)
    go (inr z) r = let e = r (sym (cond_false (some x.0) (held_as k s l) z) ∙ h) in (e.0, Memᴰ.tail e.1, e.2, e.3)

held_none : (k : ℕ) (s : Side) (l : List (Name × End)) → held_as k s l ≡ none → (x : Name × End) → In x l → x.1.channel ≡ k → x.1.side ≡ s → ⊥
unfolding held_as
held_none k s [] h x i a b = Memᴰ.not-nil i
held_none k s (y ∷ l) h x i a b = go (bool_cases (is_end k s y.1)) (λ h j. held_none k s l h x j a b) i
  where
    go : (is_end k s y.1 ≡ true) ⊎ (is_end k s y.1 ≡ false) → (held_as k s l ≡ none → In x l → ⊥) → In x (y ∷ l) → ⊥
    go (inl z) r j = none-ne-some y.0 (sym h ∙ cond_true (some y.0) (held_as k s l) z)
    go (inr z) r (Memᴰ.head e) = false≢true (sym z ∙ subst (λ (x : Name × End). So (is_end k s x.1)) e (end_is k s x.1 a b))
    go (inr z) r (Memᴰ.tail j) = r (sym (cond_false (some y.0) (held_as k s l) z) ∙ h) j

-- a process holds an end under a name
pub record Found (l : List Process) (k : ℕ) (s : Side) (h : Holder) : Type 0 where
  pub stands : get_elem? l h.place ≡ some h.process
  pub end : End
  pub held : In (h.name, end) h.process.held
  pub channel : end.channel ≡ k
  pub side : end.side ≡ s

pub stands_at : (C : Config) {k : ℕ} {s : Side} {h : Holder} → Found C.processes k s h → Stands C h.place h.process
stands_at C f = record { there = f.stands }

pub found_key : {l : List Process} {k : ℕ} {s : Side} {h : Holder} (f : Found l k s h) → key f.end ≡ (k, s)
found_key f = λ i. (f.channel i, f.side i)

holder_some : (i k : ℕ) (s : Side) (l : List Process) (h : Holder) → holder_from i k s l ≡ some h
    → (j : ℕ) × (h.place ≡ i + j) × (get_elem? l j ≡ some h.process) × (held_as k s h.process.held ≡ some h.name)
unfolding holder_from
holder_some i k s [] h e = absurd (none-ne-some h e)
holder_some i k s (q ∷ l) h e = go (held_as k s q.held) refl (holder_some (suc i) k s l h) e
  where
    go : (o : Option Name) → held_as k s q.held ≡ o
        → (holder_from (suc i) k s l ≡ some h → (j : ℕ) × (h.place ≡ suc i + j) × (get_elem? l j ≡ some h.process) × (held_as k s h.process.held ≡ some h.name))
        → holder_here i q o (holder_from (suc i) k s l) ≡ some h
        → (j : ℕ) × (h.place ≡ i + j) × (get_elem? (q ∷ l) j ≡ some h.process) × (held_as k s h.process.held ≡ some h.name)
    go none z r e = let x = r e in (suc x.0, (let y = x.1 in omega arith), x.2, x.3)
    go (some n) z r e =
        let y = some-injective _ _ e in (
          0,
          (let p = ap (λ (h : Holder). h.place) (sym y) in omega arith),
          ap (λ (h : Holder). some h.process) y,
          ap (λ (h : Holder). held_as k s h.process.held)
              (sym y) ∙ z ∙ ap (λ (h : Holder). some h.name) y,
        )

holder_none : (i k : ℕ) (s : Side) (l : List Process) → holder_from i k s l ≡ none → (j : ℕ) (q : Process) → get_elem? l j ≡ some q → held_as k s q.held ≡ none
unfolding holder_from
holder_none i k s [] e j q h = absurd (none-ne-some q h)
holder_none i k s (r ∷ l) e j q h = go (held_as k s r.held) refl (holder_none (suc i) k s l) e j h
  where
    go : (o : Option Name) → held_as k s r.held ≡ o → (holder_from (suc i) k s l ≡ none → (j : ℕ) (q : Process) → get_elem? l j ≡ some q → held_as k s q.held ≡ none)
        → holder_here i r o (holder_from (suc i) k s l) ≡ none → (j : ℕ) → get_elem? (r ∷ l) j ≡ some q → held_as k s q.held ≡ none
    go (some n) z f e j h = absurd (none-ne-some _ (sym e))
    go none z f e zero h = ap (λ (q : Process). held_as k s q.held) (sym (some-injective _ _ h)) ∙ z
    go none z f e (suc j) h = f e j q h

outside_some : (k : ℕ) (o : List Outside) (y : Outside) → outside_of k o ≡ some y → In y o × (y.channel ≡ k)
unfolding outside_of
outside_some k [] y e = absurd (none-ne-some y e)
outside_some k (x ∷ o) y e = go (bool_cases (eqb k x.channel)) (outside_some k o y)
  where
    go : (eqb k x.channel ≡ true) ⊎ (eqb k x.channel ≡ false) → (outside_of k o ≡ some y → In y o × (y.channel ≡ k)) → In y (x ∷ o) × (y.channel ≡ k)
    go (inl z) r =
        let w : x ≡ y = some-injective _ _ (sym (cond_true (some x) (outside_of k o) z) ∙ e) in
        (Memᴰ.head (sym w), ap (λ (y : Outside). y.channel) (sym w) ∙ sym ((eqb_iff k x.channel).0 z))
    go (inr z) r = let w = r (sym (cond_false (some x) (outside_of k o) z) ∙ e) in (Memᴰ.tail w.0, w.1)

outside_none : (k : ℕ) (o : List Outside) → outside_of k o ≡ none → (y : Outside) → In y o → y.channel ≢ k
unfolding outside_of
outside_none k [] e y i z = Memᴰ.not-nil i
outside_none k (x ∷ o) e y i z = go (bool_cases (eqb k x.channel)) (λ e j. outside_none k o e y j z) i
  where
    go : (eqb k x.channel ≡ true) ⊎ (eqb k x.channel ≡ false) → (outside_of k o ≡ none → In y o → ⊥) → In y (x ∷ o) → ⊥
    go (inl w) r j = none-ne-some x (sym e ∙ cond_true (some x) (outside_of k o) w)
    go (inr w) r (Memᴰ.head h) = false≢true (sym w ∙ (eqb_iff k x.channel).1 (sym z ∙ ap (λ (y : Outside). y.channel) h))
    go (inr w) r (Memᴰ.tail j) = r (sym (cond_false (some x) (outside_of k o) w) ∙ e) j

-- ── the far end of e
-- a process holds it
abbrev pub HeldFar : Config → End → Holder → Type 0
HeldFar C e h = Found C.processes e.channel (other e.side) h

-- what each answer says: a process holds it; the outside does; nobody does
pub data FarIs (C : Config) (e : End) : Far → Type 0 where
  at_process_lem : (h : Holder) → HeldFar C e h → FarIs C e (at_process h)
  at_outside_lem : (n : ℕ) (y : Outside) → In y C.outside → y.channel ≡ e.channel → e.side ≡ provided → FarIs C e (at_outside n)
  at_nobody : ((j : ℕ) (q : Process) → get_elem? C.processes j ≡ some q → (x : Name × End) → In x q.held → x.1.channel ≡ e.channel → x.1.side ≡ other e.side → ⊥)
      → (e.side ≡ provided → (y : Outside) → In y C.outside → y.channel ≢ e.channel) → FarIs C e given_up

held_by : (C : Config) (e : End) (h : Holder) → holder_from 0 e.channel (other e.side) C.processes ≡ some h → HeldFar C e h
held_by C e h z =
    let r = holder_some 0 e.channel (other e.side) C.processes h z in
    let d = held_some e.channel (other e.side) h.process.held h.name r.3 in
    let at : h.place ≡ r.0 = (let y = r.1 in omega arith) in
    record { stands = ap (get_elem? C.processes) at ∙ r.2; end = d.0; held = d.1; channel = d.2; side = d.3 }

pub far_is : (C : Config) (e : End) → FarIs C e (far_end C e)
unfolding far_end
far_is C e = go (holder_from 0 e.channel (other e.side) C.processes) refl
  where
    out : (s : Side) → e.side ≡ s → (y : Option Outside) → outside_of e.channel C.outside ≡ y → holder_from 0 e.channel (other e.side) C.processes ≡ none
        → FarIs C e (or_outside s y)
    out s z none w h = at_nobody (λ j q g x. held_none e.channel (other e.side) q.held (holder_none 0 _ _ C.processes h j q g) x) (λ _. outside_none e.channel C.outside w)
    out provided z (some y) w h = let r = outside_some e.channel C.outside y w in at_outside_lem y.number y r.0 r.1 z
    out used z (some y) w h = at_nobody (λ j q g x. held_none e.channel (other e.side) q.held (holder_none 0 _ _ C.processes h j q g) x) (λ p. absurd (side_clash (sym p ∙ z)))

    go : (o : Option Holder) → holder_from 0 e.channel (other e.side) C.processes ≡ o → FarIs C e (far_from o (or_outside e.side (outside_of e.channel C.outside)))
    go none z = out e.side refl (outside_of e.channel C.outside) refl z
    go (some h) z = at_process_lem h (held_by C e h z)

-- ── what is known by the answer
-- the outside's channel that a far end is
pub record FarOutside (o : List Outside) (e : End) : Type 0 where
  pub entry : Outside
  pub found : outside_of e.channel o ≡ some entry
  pub listed : In entry o
  pub channel : entry.channel ≡ e.channel
  pub side : e.side ≡ provided

-- no process holds it, nor does the outside
pub record FarNobody (C : Config) (e : End) : Type 0 where
  pub processes : (j : ℕ) (q : Process) → get_elem? C.processes j ≡ some q → (x : Name × End) → In x q.held → x.1.channel ≡ e.channel → x.1.side ≡ other e.side → ⊥
  pub outside : e.side ≡ provided → (y : Outside) → In y C.outside → y.channel ≢ e.channel

module _ (C : Config) (e : End) where
  pub far_held : {h : Holder} → far_end C e ≡ at_process h → HeldFar C e h
  far_held z = go (subst (FarIs C e) z (far_is C e))
    where
      go : {h : Holder} → FarIs C e (at_process h) → HeldFar C e h
      go (at_process_lem h f) = f

  pub far_outside : {n : ℕ} → far_end C e ≡ at_outside n → FarOutside C.outside e
  far_outside z = go (subst (FarIs C e) z (far_is C e))
    where
      by : (o : Option Outside) → outside_of e.channel C.outside ≡ o → (y : Outside) → In y C.outside → y.channel ≡ e.channel → e.side ≡ provided → FarOutside C.outside e
      by none w y i c s = absurd (outside_none e.channel C.outside w y i c)
      by (some x) w y i c s = let r = outside_some e.channel C.outside x w in record { entry = x; found = w; listed = r.0; channel = r.1; side = s }

      go : {n : ℕ} → FarIs C e (at_outside n) → FarOutside C.outside e
      go (at_outside_lem n y i c s) = by (outside_of e.channel C.outside) refl y i c s

  pub far_nobody : far_end C e ≡ given_up → FarNobody C e
  far_nobody z = go (subst (FarIs C e) z (far_is C e))
    where
      go : FarIs C e given_up → FarNobody C e
      go (at_nobody a o) = record { processes = a; outside = o }

-- the key of the far end
abbrev pub far_key : End → ℕ × Side
far_key e = (e.channel, other e.side)

-- of an end whose far end was given up, no process holds the far end
pub given_up_unheld : {C : Config} (e : End) → far_end C e ≡ given_up → {j : ℕ} {q : Process} → Stands C j q → {n : Name} {d : End} → In (n, d) q.held → key d ≢ far_key e
given_up_unheld {C} e z {j} {q} s {n} {d} m k =
    (far_nobody C e z).processes j q s.there (n, d) m (ap (λ (k : ℕ × Side). k.0) k) (ap (λ (k : ℕ × Side). k.1) k)

-- an end is the far end of its far end
pub far_back : (e d : End) → key d ≡ far_key e → key e ≡ far_key d
far_back e d z = λ i. (ap (λ (k : ℕ × Side). k.0) (sym z) i, (sym (other_other e.side) ∙ ap (λ (k : ℕ × Side). other k.1) (sym z)) i)
  where
    other_other : (s : Side) → other (other s) ≡ s
    other_other provided = refl
    other_other used = refl

module _ {p : Program} {C : Config} (w : WellFormed p C) where
  -- who holds the other side of a channel is its far end
  pub far_found : {j : ℕ} {r : Process} {n : Name} {d : End} (e : End) → Stands C j r → In (n, d) r.held → key d ≡ far_key e
      → far_end C e ≡ at_process (record { place = j; process = r; name = n })
  unfolding far_end
  far_found {j} {r} {n} {d} e s m z = go (holder_from 0 e.channel (other e.side) C.processes) refl
    where
      go : (o : Option Holder) → holder_from 0 e.channel (other e.side) C.processes ≡ o
          → far_from o (or_outside e.side (outside_of e.channel C.outside)) ≡ at_process (record { place = j; process = r; name = n })
      go none t =
          absurd (held_none e.channel (other e.side) r.held (holder_none 0 e.channel (other e.side) C.processes t j r s.there) (n, d) m
          (ap (λ (k : ℕ × Side). k.0) z) (ap (λ (k : ℕ × Side). k.1) z))
      go (some h) t =
          let f = held_by C e h t in
          let g = found_key f ∙ sym z in
          let b : h.place ≡ j = one_holder w (stands_at C f) s f.held m g in
          let c : h.process ≡ r = found_one C.processes b f.stands s.there in
          let a : h.name ≡ n = one_name w s (subst (λ (r : Process). In (h.name, f.end) r.held) c f.held) m g in
          λ i. at_process (record { place = b i; process = c i; name = a i })
