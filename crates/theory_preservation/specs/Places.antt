-- Places and identities: the list of processes shows a roster, and what the machine does to the list is done to the roster.
use Rattle.std.specs.Prelude.{◌≡◌, ◌≢◌, ◌⊎◌, true, false, cond, ℕ, zero, suc, ◌-◌, ◌≤◌, ◌<◌, length, set, ltb}
use Rattle.std.proofs.Math.Path.{refl, ap}
use Rattle.std.proofs.Common.{sym, ◌∙◌, subst, inl, inr, arith, length-set}
use mathlib.Core.List.{List, map}
use Rattle.std.proofs.Math.Option
use Rattle.std.proofs.Math.Option.{Option, some, none, none-ne-some, some-injective, map-eq-some_iff}
use Rattle.std.proofs.Math.Decide.{ℕ_discrete, dec_lt}
use Rattle.std.proofs.Math.ListN.{get_elem?}
use Rattle.std.proofs.lemmas.List.{length-map}
use Rattle.calculus.specs.Configuration.{Process, linked_by, moved_up, moved_down, relinked, inserted, removed}
use Rattle.theory_derivations.specs.Booleans.{bool_cases, cond_true, cond_false, ltb_iff}
use Rattle.theory_ends.specs.Lists.{found_below, below_found, set_at, set_off, set_cases, put_in, take_out, in_low, in_here, in_high, out_low, out_high, length_in, length_removed, found_map, not_below}
use Rattle.theory_preservation.specs.Mates.{put, put_at, put_off, put_elim}
use Rattle.theory_preservation.specs.Roster.{Roster}

-- ── where a place goes
-- a choice by whether one place is before another
tested : (i j : ℕ) (a b : ℕ) → ((i < j) × (cond (ltb i j) a b ≡ a)) ⊎ ((j ≤ i) × (cond (ltb i j) a b ≡ b))
tested i j a b = go (bool_cases (ltb i j))
  where
    go : (ltb i j ≡ true) ⊎ (ltb i j ≡ false) → ((i < j) × (cond (ltb i j) a b ≡ a)) ⊎ ((j ≤ i) × (cond (ltb i j) a b ≡ b))
    go (inl e) = inl ((ltb_iff i j).0 e, cond_true a b e)
    go (inr e) = inr ((not_below i j).0 e, cond_false a b e)

abbrev Up : ℕ → ℕ → Type 0
Up i h = ((i < h) × (moved_up i h ≡ suc h)) ⊎ ((h ≤ i) × (moved_up i h ≡ h))

up_cases : (i h : ℕ) → Up i h
up_cases i h = tested i h (suc h) h

abbrev Down : ℕ → ℕ → Type 0
Down i h = ((i < h) × (moved_down i h ≡ h - 1)) ⊎ ((h ≤ i) × (moved_down i h ≡ h))

down_cases : (i h : ℕ) → Down i h
down_cases i h = tested i h (h - 1) h

-- the place that goes to j when place i is taken out
abbrev skip : ℕ → ℕ → ℕ
skip i j = cond (ltb j i) j (suc j)

abbrev Skip : ℕ → ℕ → Type 0
Skip i j = ((j < i) × (skip i j ≡ j)) ⊎ ((i ≤ j) × (skip i j ≡ suc j))

skip_cases : (i j : ℕ) → Skip i j
skip_cases i j = tested j i j (suc j)

down_up : (i h : ℕ) → (moved_up i h ≢ suc i) × (moved_down i (moved_up i h) ≡ h)
down_up i h = go (up_cases i h) (down_cases i (moved_up i h))
  where
    go : Up i h → Down i (moved_up i h)
        → (moved_up i h ≢ suc i) × (moved_down i (moved_up i h) ≡ h)
    go (inl a) (inl b) = let a0 = a.0 in let a1 = a.1 in let b1 = b.1 in ((λ e. omega arith), omega arith)
    go (inl a) (inr b) = let a0 = a.0 in let a1 = a.1 in let b0 = b.0 in absurd (omega arith)
    go (inr a) (inl b) = let a0 = a.0 in let a1 = a.1 in let b0 = b.0 in absurd (omega arith)
    go (inr a) (inr b) = let a0 = a.0 in let a1 = a.1 in let b1 = b.1 in ((λ e. omega arith), omega arith)

skip_down : (i h : ℕ) → h ≢ i → skip i (moved_down i h) ≡ h
skip_down i h n = go (down_cases i h) (skip_cases i (moved_down i h))
  where
    go : Down i h → Skip i (moved_down i h)
        → skip i (moved_down i h) ≡ h
    go (inl a) (inl b) = let a0 = a.0 in let a1 = a.1 in let b0 = b.0 in absurd (omega arith)
    go (inl a) (inr b) = let a0 = a.0 in let a1 = a.1 in let b1 = b.1 in omega arith
    go (inr a) (inl b) = let a1 = a.1 in let b1 = b.1 in omega arith
    go (inr a) (inr b) = let a0 = a.0 in let a1 = a.1 in let b0 = b.0 in absurd (n (omega arith))

-- who is at v stands at a place
abbrev Back : (ℕ → ℕ) → List Process → ℕ → Option Process → Type 0
Back id l v x = (r : Process) → x ≡ some r → (i : ℕ) × (q : Process) × (get_elem? l i ≡ some q) × (id i ≡ v)

-- ── the list l shows the roster S: the process at place i has the identity id i, and its link becomes that of an identity
pub record Shows (id : ℕ → ℕ) (l : List Process) (S : Roster) : Type 0 where
  pub there : (i : ℕ) (q : Process) → get_elem? l i ≡ some q → S (id i) ≡ some (relinked id q)
  pub back : (v : ℕ) (r : Process) → S v ≡ some r → (i : ℕ) × (q : Process) × (get_elem? l i ≡ some q) × (id i ≡ v)
  pub apart : (i j : ℕ) → i < length l → j < length l → id i ≡ id j → i ≡ j
  pub within : (i : ℕ) (q : Process) → get_elem? l i ≡ some q → (h : ℕ) → q.link ≡ some h → h < length l

module _ {id : ℕ → ℕ} {l : List Process} {S : Roster} (s : Shows id l S) where
  -- ── the process at place i is replaced
  pub shows_set : (i : ℕ) → i < length l → (q : Process) → ((h : ℕ) → q.link ≡ some h → h < length l) → Shows id (set l i q) (put (id i) (some (relinked id q)) S)
  shows_set i h q k = record {
    there = there';
    back = put_elim (Back id (set l i q)) (id i) (some (relinked id q)) S
        (λ r e. (i, q, set_at l i q h, refl)) back';
    apart = apart';
    within = within';
  }
    where
      len : length (set l i q) ≡ length l
      len = length-set l i q

      there' : (j : ℕ) (r : Process) → get_elem? (set l i q) j ≡ some r → put (id i) (some (relinked id q)) S (id j) ≡ some (relinked id r)
      there' j r e = go (set_cases l i q h j r e)
        where
          go : ((j ≡ i) × (q ≡ r)) ⊎ ((j ≢ i) × (get_elem? l j ≡ some r)) → put (id i) (some (relinked id q)) S (id j) ≡ some (relinked id r)
          go (inl z) = put_at (id i) (some (relinked id q)) S (id j) (ap id z.0) ∙ ap (λ r. some (relinked id r)) z.1
          go (inr z) = put_off (id i) (some (relinked id q)) S (id j) (λ y. z.0 (s.apart j i (found_below l j z.1) h y)) ∙ s.there j r z.1

      back' : (v : ℕ) → v ≢ id i → (r : Process) → S v ≡ some r → (j : ℕ) × (r' : Process) × (get_elem? (set l i q) j ≡ some r') × (id j ≡ v)
      back' v n r e = let b = s.back v r e in (b.0, b.1, set_off l i b.0 q (λ z. n (sym b.3 ∙ ap id z)) ∙ b.2, b.3)

      apart' : (a b : ℕ) → a < length (set l i q) → b < length (set l i q) → id a ≡ id b → a ≡ b
      apart' a b x y e = s.apart a b (omega (arith, len)) (omega (arith, len)) e

      within' : (j : ℕ) (r : Process) → get_elem? (set l i q) j ≡ some r → (m : ℕ) → r.link ≡ some m → m < length (set l i q)
      within' j r e m z = subst (λ n. m < n) (sym len) (go (set_cases l i q h j r e))
        where
          go : ((j ≡ i) × (q ≡ r)) ⊎ ((j ≢ i) × (get_elem? l j ≡ some r)) → m < length l
          go (inl y) = k m (ap (λ (r : Process). r.link) y.1 ∙ z)
          go (inr y) = s.within j r y.1 m z

  -- ── a process q is put in after place i, with an identity z that nobody has
  pub id_in : ℕ → ℕ → ℕ → ℕ
  id_in i z = put (suc i) z (λ j. id (moved_down i j))

  id_in_up : (i z h : ℕ) → id_in i z (moved_up i h) ≡ id h
  unfolding id_in
  id_in_up i z h = let e = down_up i h in put_off (suc i) z (λ j. id (moved_down i j)) (moved_up i h) e.0 ∙ ap id e.1

  pub id_in_new : (i z : ℕ) → id_in i z (suc i) ≡ z
  unfolding id_in
  id_in_new i z = put_at (suc i) z (λ j. id (moved_down i j)) (suc i) refl

  pub id_in_low : (i z : ℕ) → id_in i z i ≡ id i
  id_in_low i z = go (up_cases i i)
    where
      go : Up i i → id_in i z i ≡ id i
      go (inl h) = let h0 = h.0 in absurd (omega arith)
      go (inr h) = ap (id_in i z) (sym h.1) ∙ id_in_up i z i

  relink_map : (f g : ℕ → ℕ) (o : Option ℕ) → ((h : ℕ) → o ≡ some h → f (g h) ≡ id h) → Option.map f (Option.map g o) ≡ Option.map id o
  relink_map f g none e = refl
  relink_map f g (some h) e = ap some (e h refl)

  pub relinked_in : (i z : ℕ) (o : Option ℕ) → Option.map (id_in i z) (Option.map (moved_up i) o) ≡ Option.map id o
  relinked_in i z o = relink_map (id_in i z) (moved_up i) o (λ h _. id_in_up i z h)

  -- the element at a place of the longer list
  module _ (i : ℕ) (h : i < length l) (q : Process) where
    abbrev m : List Process
    m = map (relinked (moved_up i)) l

    len_m : length m ≡ length l
    len_m = length-map l (relinked (moved_up i))

    -- the new one, or an old one where it went
    abbrev InCase : ℕ → Process → Type 0
    InCase j r = ((j ≡ suc i) × (q ≡ r)) ⊎ ((k : ℕ) × (r' : Process) × (get_elem? l k ≡ some r') × (j ≡ moved_up i k) × (relinked (moved_up i) r' ≡ r))

    old_in : (j : ℕ) (r : Process) → get_elem? l j ≡ some r → get_elem? (put_in (suc i) q m) (moved_up i j) ≡ some (relinked (moved_up i) r)
    old_in j r e = go (up_cases i j)
      where
        e' : get_elem? m j ≡ some (relinked (moved_up i) r)
        e' = found_map (relinked (moved_up i)) l j ∙ ap (Option.map (relinked (moved_up i))) e

        go : Up i j → get_elem? (put_in (suc i) q m) (moved_up i j) ≡ some (relinked (moved_up i) r)
        go (inl z) = ap (get_elem? (put_in (suc i) q m)) z.1 ∙ in_high (suc i) q m j (omega (arith, len_m)) z.0 ∙ e'
        go (inr z) = let z0 = z.0 in ap (get_elem? (put_in (suc i) q m)) z.1 ∙ in_low (suc i) q m j (omega (arith, len_m)) (omega arith) ∙ e'

    in_old : (j : ℕ) (r : Process) → get_elem? (put_in (suc i) q m) j ≡ some r → InCase j r
    in_old j r e = go (ℕ_discrete j (suc i))
      where
        from : (k : ℕ) → j ≡ moved_up i k → get_elem? m k ≡ some r → InCase j r
        from k z y = let x = (map-eq-some_iff {B = Process} (relinked (moved_up i)) (get_elem? l k)).0 (sym (found_map (relinked (moved_up i)) l k) ∙ y) in inr (k, x.0, x.1, z, x.2)

        past : (k : ℕ) → j ≡ suc k → i < k → InCase j r
        past k z y = from k (z ∙ sym (up (up_cases i k))) (sym (in_high (suc i) q m k (omega (arith, len_m)) y) ∙ ap (get_elem? (put_in (suc i) q m)) (sym z) ∙ e)
          where
            up : Up i k → moved_up i k ≡ suc k
            up (inl x) = x.1
            up (inr x) = let x0 = x.0 in absurd (omega arith)

        before : j ≤ i → InCase j r
        before y = from j (sym (up (up_cases i j))) (sym (in_low (suc i) q m j (omega (arith, len_m)) (omega arith)) ∙ e)
          where
            up : Up i j → moved_up i j ≡ j
            up (inl x) = let x0 = x.0 in absurd (omega arith)
            up (inr x) = x.1

        side : (j' : ℕ) → j ≡ j' → j ≢ suc i → InCase j r
        side zero z n = before (omega arith)
        side (suc k) z n = two (dec_lt i k)
          where
            two : Dec (i < k) → InCase j r
            two (yes y) = past k z y
            two (no y) = before (omega arith)

        go : Dec (j ≡ suc i) → InCase j r
        go (yes z) = inl (z, some-injective q r (sym (in_here (suc i) q m (omega (arith, len_m))) ∙ ap (get_elem? (put_in (suc i) q m)) (sym z) ∙ e))
        go (no n) = side j refl n

  pub up_below : (i h : ℕ) → h < length l → moved_up i h < suc (length l)
  up_below i h b = go (up_cases i h)
    where
      go : Up i h → moved_up i h < suc (length l)
      go (inl z) = let z1 = z.1 in omega arith
      go (inr z) = let z1 = z.1 in omega arith

  pub shows_in : (i z : ℕ) → i < length l → ((j : ℕ) → j < length l → id j ≢ z) → (q : Process) → ((h : ℕ) → q.link ≡ some h → h < suc (length l))
      → Shows (id_in i z) (inserted i q l) (put z (some (relinked (id_in i z) q)) S)
  unfolding inserted
  shows_in i z h new q k = record { there = there'; back = put_elim (Back (id_in i z) (put_in (suc i) q m')) z (some (relinked (id_in i z) q)) S here back'; apart = apart'; within = within' }
    where
      m' : List Process
      m' = map (relinked (moved_up i)) l

      len : length (put_in (suc i) q m') ≡ suc (length l)
      len = length_in (suc i) q m' ∙ ap suc (length-map l (relinked (moved_up i)))

      there' : (j : ℕ) (r : Process) → get_elem? (put_in (suc i) q m') j ≡ some r → put z (some (relinked (id_in i z) q)) S (id_in i z j) ≡ some (relinked (id_in i z) r)
      there' j r e = go (in_old i h q j r e)
        where
          go : InCase i h q j r → put z (some (relinked (id_in i z) q)) S (id_in i z j) ≡ some (relinked (id_in i z) r)
          go (inl y) = put_at z (some (relinked (id_in i z) q)) S (id_in i z j) (ap (id_in i z) y.0 ∙ id_in_new i z) ∙ ap (λ r. some (relinked (id_in i z) r)) y.1
          go (inr y) =
              let e : id_in i z j ≡ id y.0 = ap (id_in i z) y.3 ∙ id_in_up i z y.0 in
              put_off z (some (relinked (id_in i z) q)) S (id_in i z j) (λ w. new y.0 (found_below l y.0 y.2) (sym e ∙ w)) ∙ ap S e ∙ s.there y.0 y.1 y.2
              ∙ ap (λ o. some (linked_by o y.1)) (sym (relinked_in i z y.1.link)) ∙ ap (λ r. some (relinked (id_in i z) r)) y.4

      here : (r : Process) → some (relinked (id_in i z) q) ≡ some r → (j : ℕ) × (q' : Process) × (get_elem? (put_in (suc i) q m') j ≡ some q') × (id_in i z j ≡ z)
      here r e = (suc i, q, in_here (suc i) q m' (omega (arith, length-map l (relinked (moved_up i)))), id_in_new i z)

      back' : (v : ℕ) → v ≢ z → (r : Process) → S v ≡ some r → (j : ℕ) × (q' : Process) × (get_elem? (put_in (suc i) q m') j ≡ some q') × (id_in i z j ≡ v)
      back' v n r e = let b = s.back v r e in (moved_up i b.0, relinked (moved_up i) b.1, old_in i h q b.0 b.1 b.2, id_in_up i z b.0 ∙ b.3)

      from : (j : ℕ) → j < length (put_in (suc i) q m') → (j ≡ suc i) ⊎ ((k : ℕ) × (k < length l) × (j ≡ moved_up i k))
      from j b = let x = below_found (put_in (suc i) q m') j b in go (in_old i h q j x.0 x.1)
        where
          go : {r : Process} → InCase i h q j r → (j ≡ suc i) ⊎ ((k : ℕ) × (k < length l) × (j ≡ moved_up i k))
          go (inl y) = inl y.0
          go (inr y) = inr (y.0, found_below l y.0 y.2, y.3)

      apart' : (a b : ℕ) → a < length (put_in (suc i) q m') → b < length (put_in (suc i) q m') → id_in i z a ≡ id_in i z b → a ≡ b
      apart' a b x y e = go (from a x) (from b y)
        where
          is_new : (a : ℕ) → a ≡ suc i → id_in i z a ≡ z
          is_new a w = ap (id_in i z) w ∙ id_in_new i z

          is_old : (a : ℕ) (w : (k : ℕ) × (k < length l) × (a ≡ moved_up i k)) → id_in i z a ≡ id w.0
          is_old a w = ap (id_in i z) w.2 ∙ id_in_up i z w.0

          go : (a ≡ suc i) ⊎ ((k : ℕ) × (k < length l) × (a ≡ moved_up i k)) → (b ≡ suc i) ⊎ ((k : ℕ) × (k < length l) × (b ≡ moved_up i k)) → a ≡ b
          go (inl u) (inl w) = u ∙ sym w
          go (inl u) (inr w) = absurd (new w.0 w.1 (sym (is_old b w) ∙ sym e ∙ is_new a u))
          go (inr u) (inl w) = absurd (new u.0 u.1 (sym (is_old a u) ∙ e ∙ is_new b w))
          go (inr u) (inr w) = u.2 ∙ ap (moved_up i) (s.apart u.0 w.0 u.1 w.1 (sym (is_old a u) ∙ e ∙ is_old b w)) ∙ sym w.2

      within' : (j : ℕ) (r : Process) → get_elem? (put_in (suc i) q m') j ≡ some r → (a : ℕ) → r.link ≡ some a → a < length (put_in (suc i) q m')
      within' j r e a w = subst (λ n. a < n) (sym len) (go (in_old i h q j r e))
        where
          go : InCase i h q j r → a < suc (length l)
          go (inl y) = k a (ap (λ (r : Process). r.link) y.1 ∙ w)
          go (inr y) =
              let x = (map-eq-some_iff {B = ℕ} (moved_up i) y.1.link).0 (ap (λ (r : Process). r.link) y.4 ∙ w) in
              subst (λ a. a < suc (length l)) x.2 (up_below i x.0 (s.within y.0 y.1 y.2 x.0 x.1))

  -- ── the process at place i leaves; no link leads to it
  pub id_out : ℕ → ℕ → ℕ
  id_out i j = id (skip i j)

  id_out_down : (i h : ℕ) → h ≢ i → id_out i (moved_down i h) ≡ id h
  unfolding id_out
  id_out_down i h n = ap id (skip_down i h n)

  skip_below : (i j n : ℕ) → i < suc n → j < n → skip i j < suc n
  skip_below i j n h k = go (skip_cases i j)
    where
      go : Skip i j → skip i j < suc n
      go (inl z) = let z1 = z.1 in omega arith
      go (inr z) = let z1 = z.1 in omega arith

  down_below : (i h n : ℕ) → i < suc n → h < suc n → h ≢ i → moved_down i h < n
  down_below i h n a b c = go (down_cases i h)
    where
      go : Down i h → moved_down i h < n
      go (inl z) = let z0 = z.0 in let z1 = z.1 in omega arith
      go (inr z) = let z0 = z.0 in let z1 = z.1 in omega arith

  skip_one : (i a b : ℕ) → skip i a ≡ skip i b → a ≡ b
  skip_one i a b e = go (skip_cases i a) (skip_cases i b)
    where
      go : Skip i a → Skip i b → a ≡ b
      go (inl x) (inl y) = sym x.1 ∙ e ∙ y.1
      go (inl x) (inr y) = let x0 = x.0 in let x1 = x.1 in let y0 = y.0 in let y1 = y.1 in absurd (omega arith)
      go (inr x) (inl y) = let x0 = x.0 in let x1 = x.1 in let y0 = y.0 in let y1 = y.1 in absurd (omega arith)
      go (inr x) (inr y) = let x1 = x.1 in let y1 = y.1 in omega arith

  skip_not : (i j : ℕ) → skip i j ≢ i
  skip_not i j e = go (skip_cases i j)
    where
      go : Skip i j → ⊥
      go (inl z) = let z0 = z.0 in let z1 = z.1 in omega arith
      go (inr z) = let z0 = z.0 in let z1 = z.1 in omega arith

  pub shows_out : (i : ℕ) → i < length l → ((j : ℕ) (r : Process) → get_elem? l j ≡ some r → r.link ≢ some i) → Shows (id_out i) (removed i l) (put (id i) none S)
  unfolding removed id_out
  shows_out i h alone = record {
    there = there';
    back = put_elim (Back (id_out i) (take_out i m')) (id i) none S
        (λ r e. absurd (none-ne-some r e)) back';
    apart = apart';
    within = within';
  }
    where
      m' : List Process
      m' = map (relinked (moved_down i)) l

      len : suc (length (take_out i m')) ≡ length l
      len = length_removed i l h

      at_skip : (j : ℕ) → get_elem? (take_out i m') j ≡ Option.map (relinked (moved_down i)) (get_elem? l (skip i j))
      at_skip j = go (skip_cases i j)
        where
          go : Skip i j → get_elem? (take_out i m') j ≡ Option.map (relinked (moved_down i)) (get_elem? l (skip i j))
          go (inl z) = out_low i m' j z.0 ∙ found_map (relinked (moved_down i)) l j ∙ ap (λ k. Option.map (relinked (moved_down i)) (get_elem? l k)) (sym z.1)
          go (inr z) = out_high i m' j z.0 ∙ found_map (relinked (moved_down i)) l (suc j) ∙ ap (λ k. Option.map (relinked (moved_down i)) (get_elem? l k)) (sym z.1)

      from : (j : ℕ) (r : Process) → get_elem? (take_out i m') j ≡ some r → (q : Process) × (get_elem? l (skip i j) ≡ some q) × (relinked (moved_down i) q ≡ r)
      from j r e = (map-eq-some_iff {B = Process} (relinked (moved_down i)) (get_elem? l (skip i j))).0 (sym (at_skip j) ∙ e)

      there' : (j : ℕ) (r : Process) → get_elem? (take_out i m') j ≡ some r → put (id i) none S (id (skip i j)) ≡ some (relinked (id_out i) r)
      there' j r e =
          let x = from j r e in
          put_off (id i) none S (id (skip i j)) (λ z. skip_not i j (s.apart (skip i j) i (found_below l (skip i j) x.1) h z)) ∙ s.there (skip i j) x.0 x.1
          ∙ ap (λ o. some (linked_by o x.0))
          (sym (relink_map (id_out i) (moved_down i) x.0.link (λ k y. id_out_down i k (λ z. alone (skip i j) x.0 x.1 (y ∙ ap some z)))))
          ∙ ap (λ r. some (relinked (id_out i) r)) x.2

      back' : (v : ℕ) → v ≢ id i → (r : Process) → S v ≡ some r → (j : ℕ) × (q : Process) × (get_elem? (take_out i m') j ≡ some q) × (id (skip i j) ≡ v)
      back' v n r e =
          let b = s.back v r e in
          let z : skip i (moved_down i b.0) ≡ b.0 = skip_down i b.0 (λ z. n (sym b.3 ∙ ap id z)) in (
            moved_down i b.0,
            relinked (moved_down i) b.1,
            at_skip (moved_down i b.0) ∙ ap (λ k. Option.map (relinked (moved_down i)) (get_elem? l k)) z
                ∙ ap (Option.map (relinked (moved_down i))) b.2,
            ap id z ∙ b.3,
          )

      apart' : (a b : ℕ) → a < length (take_out i m') → b < length (take_out i m') → id (skip i a) ≡ id (skip i b) → a ≡ b
      apart' a b x y e =
          let i< : i < suc (length (take_out i m')) = omega (arith, len) in
          skip_one i a b (s.apart (skip i a) (skip i b) (subst (λ n. skip i a < n) len (skip_below i a _ i< x)) (subst (λ n. skip i b < n) len (skip_below i b _ i< y)) e)

      within' : (j : ℕ) (r : Process) → get_elem? (take_out i m') j ≡ some r → (a : ℕ) → r.link ≡ some a → a < length (take_out i m')
      within' j r e a w =
          let x = from j r e in
          let y = (map-eq-some_iff {B = ℕ} (moved_down i) x.0.link).0 (ap (λ (r : Process). r.link) x.2 ∙ w) in
          let b = s.within (skip i j) x.0 x.1 y.0 y.1 in
          subst (λ a. a < length (take_out i m')) y.2 (down_below i y.0 (length (take_out i m')) (omega (arith, len)) (omega (arith, len))
          (λ z. alone (skip i j) x.0 x.1 (y.1 ∙ ap some z)))
