-- The laws of joints that close no circle, and the pigeonhole.
use Rattle.std.specs.Prelude.{◌≡◌, refl, ◌≢◌, ◌⊎◌, ℕ, zero, suc, ◌≤◌, ◌<◌, length}
use Rattle.std.proofs.Common.{sym, ◌∙◌, ap, subst, inl, inr, arith}
use mathlib.Core.List.Memᴰ
use mathlib.Core.List.Permᴰ
use mathlib.Core.List.{List, [], ◌∷◌, map, Permᴰ}
use mathlib.Core.HLevel.{Discrete}
use Rattle.std.proofs.Math.Decide.{ℕ_discrete}
use Rattle.std.proofs.lemmas.List.{length-map}
use Rattle.calculus.specs.Forest.{Joint, Connected, here, past, over, back, Forest}
use Rattle.calculus.specs.Named.{In, NoneTwice}

pub connected_refl : (J : List Joint) {x y : ℕ} → x ≡ y → Connected J x y
connected_refl [] e = here e
connected_refl (j ∷ J) e = past (connected_refl J e)

pub connected_sym : {J : List Joint} {x y : ℕ} → Connected J x y → Connected J y x
connected_sym (here e) = here (sym e)
connected_sym (past p) = past (connected_sym p)
connected_sym (over p q) = back (connected_sym q) (connected_sym p)
connected_sym (back p q) = over (connected_sym q) (connected_sym p)

pub connected_trans : {J : List Joint} {x y z : ℕ} → Connected J x y → Connected J y z → Connected J x z
connected_trans (here e) (here f) = here (e ∙ f)
connected_trans (past p) (past q) = past (connected_trans p q)
connected_trans (past p) (over q r) = over (connected_trans p q) r
connected_trans (past p) (back q r) = back (connected_trans p q) r
connected_trans (over p q) (past r) = over p (connected_trans q r)
connected_trans (over p q) (over r s) = over p s
connected_trans (over p q) (back r s) = past (connected_trans p s)
connected_trans (back p q) (past r) = back p (connected_trans q r)
connected_trans (back p q) (over r s) = past (connected_trans p s)
connected_trans (back p q) (back r s) = back p s

-- the least equivalence: whatever relates the ends of every joint relates what the joints connect
pub record Equiv (R : ℕ → ℕ → Type 0) : Type 0 where
  pub rfl : (x y : ℕ) → x ≡ y → R x y
  pub flip : (x y : ℕ) → R x y → R y x
  pub next : (x y z : ℕ) → R x y → R y z → R x z

pub connected_fold : (R : ℕ → ℕ → Type 0) → Equiv R → {J : List Joint} {x y : ℕ} → ((j : Joint) → In j J → R j.0 j.1) → Connected J x y → R x y
connected_fold R e h (here {x} {y} p) = e.rfl x y p
connected_fold R e h (past p) = connected_fold R e (λ i m. h i (Memᴰ.tail m)) p
connected_fold R e h (over {j} {x = x} {y} p q) =
    let k = h j (Memᴰ.head refl) in
    e.next x j.1 y (e.next x j.0 j.1 (connected_fold R e (λ i m. h i (Memᴰ.tail m)) p) k) (connected_fold R e (λ i m. h i (Memᴰ.tail m)) q)
connected_fold R e h (back {j} {x = x} {y} p q) =
    let k = e.flip j.0 j.1 (h j (Memᴰ.head refl)) in
    e.next x j.0 y (e.next x j.1 j.0 (connected_fold R e (λ i m. h i (Memᴰ.tail m)) p) k) (connected_fold R e (λ i m. h i (Memᴰ.tail m)) q)

pub connected_equiv : (J : List Joint) → Equiv (Connected J)
connected_equiv J = record { rfl = λ x y e. connected_refl J e; flip = λ x y p. connected_sym p; next = λ x y z p q. connected_trans p q }

-- a joint connects its ends
pub connected_joint : (j : Joint) {J : List Joint} → In j J → Connected J j.0 j.1
connected_joint j (Memᴰ.head {x = i} {xs = J} e) = over (connected_refl J (ap (λ k. k.0) e)) (connected_refl J (ap (λ k. k.1) (sym e)))
connected_joint j (Memᴰ.tail m) = past (connected_joint j m)

-- more joints connect more
pub connected_mono : {J K : List Joint} {x y : ℕ} → ((j : Joint) → In j J → In j K) → Connected J x y → Connected K x y
connected_mono {K = K} h = connected_fold (Connected K) (connected_equiv K) (λ j m. connected_joint j (h j m))

-- neighbours may change places
pub forest_swap : (i j : Joint) (J : List Joint) → Forest (i ∷ j ∷ J) → Forest (j ∷ i ∷ J)
forest_swap i j J f = ((f.0.0, λ p. f.1 (past p)), no_circle)
  where
    no_circle : ¬ Connected (i ∷ J) j.0 j.1
    no_circle (past p) = f.0.1 p
    no_circle (over p q) = f.1 (over (connected_sym p) (connected_sym q))
    no_circle (back p q) = f.1 (back q p)

connected_perm : {J K : List Joint} → Permᴰ J K → {x y : ℕ} → Connected J x y → Connected K x y
connected_perm Permᴰ.nil p = p
connected_perm (Permᴰ.cons e d) (past p) = past (connected_perm d p)
connected_perm (Permᴰ.cons {l₂ = K} e d) (over p q) =
    over (connected_trans (connected_perm d p) (connected_refl K (ap (λ k. k.0) e))) (connected_trans (connected_refl K (ap (λ k. k.1) (sym e))) (connected_perm d q))
connected_perm (Permᴰ.cons {l₂ = K} e d) (back p q) =
    back (connected_trans (connected_perm d p) (connected_refl K (ap (λ k. k.1) e))) (connected_trans (connected_refl K (ap (λ k. k.0) (sym e))) (connected_perm d q))
connected_perm (Permᴰ.swap {a} {b} {a'} {b'} {l} e f) p = connected_mono moved p
  where
    moved : (j : Joint) → In j (a ∷ b ∷ l) → In j (a' ∷ b' ∷ l)
    moved j (Memᴰ.head h) = Memᴰ.tail (Memᴰ.head (h ∙ e))
    moved j (Memᴰ.tail (Memᴰ.head h)) = Memᴰ.head (h ∙ f)
    moved j (Memᴰ.tail (Memᴰ.tail m)) = Memᴰ.tail (Memᴰ.tail m)
connected_perm (Permᴰ.trans d₁ d₂) p = connected_perm d₂ (connected_perm d₁ p)

-- gluing the vertex q to the vertex p
pub glue : ℕ → ℕ → ℕ → ℕ
glue p q x = elim (ℕ_discrete x q) [ yes _ ↦ p | no _ ↦ x ]

pub glue_cases : (p q x : ℕ) → ((x ≡ q) × (glue p q x ≡ p)) ⊎ ((x ≢ q) × (glue p q x ≡ x))
unfolding glue
glue_cases p q x = go (ℕ_discrete x q) refl
  where
    go : (d : Dec (x ≡ q)) → ℕ_discrete x q ≡ d → ((x ≡ q) × (glue p q x ≡ p)) ⊎ ((x ≢ q) × (glue p q x ≡ x))
    go (yes e) h = inl (e, rw (h, glue))
    go (no n) h = inr (n, rw (h, glue))

pub glue_at : (p q x : ℕ) → x ≡ q → glue p q x ≡ p
glue_at p q x e = go (glue_cases p q x)
  where
    go : ((x ≡ q) × (glue p q x ≡ p)) ⊎ ((x ≢ q) × (glue p q x ≡ x)) → glue p q x ≡ p
    go (inl h) = h.1
    go (inr h) = absurd (h.0 e)

pub glue_off : (p q x : ℕ) → x ≢ q → glue p q x ≡ x
glue_off p q x n = go (glue_cases p q x)
  where
    go : ((x ≡ q) × (glue p q x ≡ p)) ⊎ ((x ≢ q) × (glue p q x ≡ x)) → glue p q x ≡ x
    go (inl h) = absurd (n h.0)
    go (inr h) = h.1

pub glue_self : (p q : ℕ) → glue p q p ≡ p
glue_self p q = go (glue_cases p q p)
  where
    go : ((p ≡ q) × (glue p q p ≡ p)) ⊎ ((p ≢ q) × (glue p q p ≡ p)) → glue p q p ≡ p
    go (inl h) = h.1
    go (inr h) = h.1

abbrev pub glue_j : ℕ → ℕ → Joint → Joint
glue_j p q j = (glue p q j.0, glue p q j.1)

abbrev pub glued : ℕ → ℕ → List Joint → List Joint
glued p q = map (glue_j p q)

module _ (p q : ℕ) (J : List Joint) where
  to_glued : {x y : ℕ} → Connected ((p, q) ∷ J) x y → Connected (glued p q J) (glue p q x) (glue p q y)
  to_glued = connected_fold (λ x y. Connected (glued p q J) (glue p q x) (glue p q y)) R (λ j m. ends j (Memᴰ.cases_cons m))
    where
      R : Equiv (λ x y. Connected (glued p q J) (glue p q x) (glue p q y))
      R = record { rfl = λ x y e. connected_refl (glued p q J) (ap (glue p q) e); flip = λ x y c. connected_sym c; next = λ x y z c d. connected_trans c d }

      ends : (j : Joint) → (j ≡ (p, q)) ⊎ In j J → Connected (glued p q J) (glue p q j.0) (glue p q j.1)
      ends j (inl e) = connected_refl (glued p q J) (ap (λ k. glue p q k.0) e ∙ glue_self p q ∙ sym (glue_at p q q refl) ∙ ap (λ k. glue p q k.1) (sym e))
      ends j (inr m) = connected_joint (glue_j p q j) (Memᴰ.map (glue_j p q) m)

  near : (x : ℕ) → Connected ((p, q) ∷ J) x (glue p q x)
  near x = go (glue_cases p q x)
    where
      go : ((x ≡ q) × (glue p q x ≡ p)) ⊎ ((x ≢ q) × (glue p q x ≡ x)) → Connected ((p, q) ∷ J) x (glue p q x)
      go (inl h) = back (connected_refl J h.0) (connected_refl J (sym h.1))
      go (inr h) = past (connected_refl J (sym h.1))

  unglued : {x y : ℕ} → Connected (glued p q J) x y → Connected ((p, q) ∷ J) x y
  unglued = connected_fold (Connected ((p, q) ∷ J)) (connected_equiv ((p, q) ∷ J)) (λ i m. ends i (Memᴰ.of_map (glue_j p q) J m))
    where
      ends : (i : Joint) → (j : Joint) × In j J × (glue_j p q j ≡ i) → Connected ((p, q) ∷ J) i.0 i.1
      ends i h = subst (λ (k : Joint). Connected ((p, q) ∷ J) k.0 k.1) h.2
          (connected_trans (connected_sym (near h.0.0)) (connected_trans (past (connected_joint h.0 h.1)) (near h.0.1)))

  from_glued : {x y : ℕ} → Connected (glued p q J) (glue p q x) (glue p q y) → Connected ((p, q) ∷ J) x y
  from_glued {x} {y} c = connected_trans (near x) (connected_trans (unglued c) (connected_sym (near y)))

-- THE law: a joint p-q closes no circle with J exactly where J, with q glued to p, has none
pub contract : (p q : ℕ) (J : List Joint) → Forest ((p, q) ∷ J) → Forest (glued p q J)
contract p q [] f = tt
contract p q (j ∷ J) f = let g = forest_swap (p, q) j J f in (contract p q J g.0, λ c. g.1 (from_glued p q J c))

pub expand : (p q : ℕ) → p ≢ q → (J : List Joint) → Forest (glued p q J) → Forest ((p, q) ∷ J)
expand p q n [] f = (tt, apart)
  where
    apart : ¬ Connected [] p q
    apart (here e) = n e
expand p q n (j ∷ J) f = forest_swap j (p, q) J (expand p q n J f.0, λ c. f.1 (to_glued p q J c))

pub forest_perm : {J K : List Joint} → Permᴰ J K → Forest J → Forest K
forest_perm Permᴰ.nil f = f
forest_perm (Permᴰ.cons {l₁ = J} e d) f = (forest_perm d f.0, λ c. f.1 (subst (λ (k : Joint). Connected J k.0 k.1) (sym e) (connected_perm (Permᴰ.symm d) c)))
forest_perm (Permᴰ.swap {a} {b} {a'} {b'} {l} e g) f = rw (← g, ← e) (forest_swap a b l f)
forest_perm (Permᴰ.trans d₁ d₂) f = forest_perm d₂ (forest_perm d₁ f)

-- ── what follows from the law
-- with p-q a joint, the joints of p and q may be shared out anew between p and q
pub share_out : (p q : ℕ) (J K : List Joint) → glued p q J ≡ glued p q K → Forest ((p, q) ∷ J) → Forest ((p, q) ∷ K)
share_out p q J K e f = expand p q (λ h. f.1 (connected_refl J h)) K (rw e at (contract p q J f))

-- some joints of p move to a vertex q, and a joint p-q is added
pub split : (p q : ℕ) (J K : List Joint) → p ≢ q → glued p q K ≡ J → Forest J → Forest ((p, q) ∷ K)
split p q J K n e f = expand p q n K (rw e f)

-- s-r and s-t become s-r and r-t
pub move_end : (s r t : ℕ) (J : List Joint) → Forest ((s, r) ∷ (s, t) ∷ J) → Forest ((s, r) ∷ (r, t) ∷ J)
move_end s r t J = share_out s r ((s, t) ∷ J) ((r, t) ∷ J) (ap (λ x. (x, glue s r t) ∷ glued s r J) (glue_self s r ∙ sym (glue_at s r r refl)))

-- a vertex that is no end of J
abbrev pub Off : ℕ → List Joint → Type 0
Off q J = (j : Joint) → In j J → (j.0 ≢ q) × (j.1 ≢ q)

glued_off : (p q : ℕ) (J : List Joint) → Off q J → glued p q J ≡ J
glued_off p q [] o = refl
glued_off p q (j ∷ J) o =
    let h = o j (Memᴰ.head refl) in
    λ i. (glue_off p q j.0 h.0 i, glue_off p q j.1 h.1 i) ∷ glued_off p q J (λ k m. o k (Memᴰ.tail m)) i

-- l-f and f-r become l-r, where f has no other joint
pub bypass : (l f r : ℕ) (J : List Joint) → Off f J → Forest ((l, f) ∷ (f, r) ∷ J) → Forest ((l, r) ∷ J)
bypass l f r J o h =
    let c = contract l f ((f, r) ∷ J) h in
    let n : r ≢ f = λ e. h.0.1 (connected_refl J (sym e)) in
    rw (glue_at l f f refl, glue_off l f r n, glued_off l f J o) at c

-- a joint may go
pub drop_joint : (j : Joint) (J : List Joint) → Forest (j ∷ J) → Forest J
drop_joint j J f = f.0

-- ── counting: a list without one of its members, named by the proof that it is there
abbrev pub del : {A : Type 0} {a : A} {l : List A} → In a l → List A
del (Memᴰ.head {xs} e) = xs
del (Memᴰ.tail {x} m) = x ∷ del m

pub length_del : {A : Type 0} {a : A} {l : List A} (m : In a l) → length l ≡ suc (length (del m))
length_del (Memᴰ.head e) = refl
length_del (Memᴰ.tail m) = ap suc (length_del m)

pub in_del : {A : Type 0} {a y : A} {l : List A} (m : In a l) → In y l → y ≢ a → In y (del m)
in_del (Memᴰ.head e) (Memᴰ.head f) n = absurd (n (f ∙ sym e))
in_del (Memᴰ.head e) (Memᴰ.tail k) n = k
in_del (Memᴰ.tail m) (Memᴰ.head f) n = Memᴰ.head f
in_del (Memᴰ.tail m) (Memᴰ.tail k) n = Memᴰ.tail (in_del m k n)

abbrev pub EndsIn : List Joint → List ℕ → Type 0
EndsIn J W = (j : Joint) → In j J → In j.0 W × In j.1 W

pub glue_in : (p q x : ℕ) {W : List ℕ} (m : In q W) → In p W → p ≢ q → In x W → In (glue p q x) (del m)
glue_in p q x {W} m k n h = go (glue_cases p q x)
  where
    go : ((x ≡ q) × (glue p q x ≡ p)) ⊎ ((x ≢ q) × (glue p q x ≡ x)) → In (glue p q x) (del m)
    go (inl e) = Memᴰ.cast e.1 (in_del m k n)
    go (inr e) = Memᴰ.cast e.1 (in_del m h e.0)

glued_ends : (p q : ℕ) (J : List Joint) {W : List ℕ} (m : In q W) → In p W → p ≢ q → EndsIn J W → EndsIn (glued p q J) (del m)
glued_ends p q J m k n h i c =
    let r = Memᴰ.of_map (glue_j p q) J c in
    let e = h r.0 r.1 in
    (Memᴰ.cast (ap (λ (k : Joint). k.0) (sym r.2)) (glue_in p q r.0.0 m k n e.0), Memᴰ.cast (ap (λ (k : Joint). k.1) (sym r.2)) (glue_in p q r.0.1 m k n e.1))

count : (n : ℕ) (J : List Joint) (W : List ℕ) → length J ≡ n → Forest J → EndsIn J W → {v : ℕ} → In v W → length J < length W
count zero [] W e f h m = omega (arith, length_del m)
count (suc n) [] W e f h m = omega (arith, length_del m)
count zero (j ∷ J) W e f h m = absurd (omega arith)
count (suc n) (j ∷ J) W e f h m =
    let k = h j (Memᴰ.head refl) in
    let a : j.0 ≢ j.1 = λ z. f.1 (connected_refl J z) in
    let l = length-map J (glue_j j.0 j.1) in
    let r = count n (glued j.0 j.1 J) (del k.1) (l ∙ omega arith) (contract j.0 j.1 J f)
    (glued_ends j.0 j.1 J k.1 k.0 a (λ i c. h i (Memᴰ.tail c))) (in_del k.1 k.0 a) in
    omega (arith, length_del k.1)

-- joints that close no circle are fewer than the vertices that they join
pub forest_small : (J : List Joint) (W : List ℕ) → Forest J → EndsIn J W → {v : ℕ} → In v W → length J < length W
forest_small J W = count (length J) J W refl

-- ── pigeonhole
none_twice_length : {A : Type 0} (L K : List A) → NoneTwice L → ((x : A) → In x L → In x K) → length L ≤ length K
none_twice_length [] K d s = omega arith
none_twice_length (x ∷ L) K d s =
    let m = s x (Memᴰ.head refl) in
    let r = none_twice_length L (del m) d.1 (λ y k. in_del m (s y (Memᴰ.tail k)) (λ e. d.0 (Memᴰ.cast (sym e) k))) in
    omega (arith, length_del m)

unfoldable pub dec_in : {A : Type 0} → Discrete A → (a : A) (l : List A) → Dec (In a l)
dec_in d a [] = no λ m. elim m [ ]
dec_in {A} d a (x ∷ l) = go (d a x) (dec_in d a l)
  where
    go : Dec (a ≡ x) → Dec (In a l) → Dec (In a (x ∷ l))
    go (yes e) r = yes (Memᴰ.head e)
    go (no n) (yes m) = yes (Memᴰ.tail m)
    go (no n) (no k) = no λ m. none (Memᴰ.cases_cons m)
      where
        none : (a ≡ x) ⊎ In a l → ⊥
        none (inl e) = n e
        none (inr m) = k m

-- two different members of W with one image
pub record Twins {A B : Type 0} (g : B → A) (W : List B) : Type 0 where
  pub one : B
  pub two : B
  pub one_in : In one W
  pub two_in : In two W
  pub differ : one ≢ two
  pub agree : g one ≡ g two

twins_or_none_twice : {A B : Type 0} → Discrete A → (g : B → A) (W : List B) → NoneTwice W → Twins g W ⊎ NoneTwice (map g W)
twins_or_none_twice d g [] u = inr tt
twins_or_none_twice {A} {B} d g (v ∷ W) u = go (dec_in d (g v) (map g W)) (twins_or_none_twice d g W u.1)
  where
    found : (w : B) × In w W × (g w ≡ g v) → Twins g (v ∷ W)
    found r = record { one = v; two = r.0; one_in = Memᴰ.head refl; two_in = Memᴰ.tail r.1; differ = λ e. u.0 (Memᴰ.cast e r.1); agree = sym r.2 }

    go : Dec (In (g v) (map g W)) → Twins g W ⊎ NoneTwice (map g W) → Twins g (v ∷ W) ⊎ NoneTwice (map g (v ∷ W))
    go (yes m) r = inl (found (Memᴰ.of_map g W m))
    go (no n) (inl t) = inl (record { one = t.one; two = t.two; one_in = Memᴰ.tail t.one_in; two_in = Memᴰ.tail t.two_in; differ = t.differ; agree = t.agree })
    go (no n) (inr r) = inr (n, r)

pub pigeonhole : {A B : Type 0} → Discrete A → (g : B → A) (W : List B) (K : List A) → NoneTwice W → ((v : B) → In v W → In (g v) K) → length K < length W → Twins g W
pigeonhole {A} {B} d g W K u h lt = go (twins_or_none_twice d g W u)
  where
    holes : (x : A) → (v : B) × In v W × (g v ≡ x) → In x K
    holes x r = Memᴰ.cast (sym r.2) (h r.0 r.1)

    go : Twins g W ⊎ NoneTwice (map g W) → Twins g W
    go (inl t) = t
    go (inr n) =
        let le = none_twice_length (map g W) K n (λ x m. holes x (Memᴰ.of_map g W m)) in
        absurd (omega (arith, length-map W g))
