-- Moves that close no circle, of joints that are numbered: `map jt K`, for a list K of numbers and the joint of each.
use Rattle.std.specs.Prelude.{◌≡◌, refl, ◌≢◌, ℕ}
use Rattle.std.proofs.Common.{sym, ◌∙◌, ap, subst}
use mathlib.Core.List.Memᴰ
use mathlib.Core.List.Permᴰ
use mathlib.Core.List.{List, [], ◌∷◌, map, map-map, Memᴰ, Permᴰ}
use Rattle.calculus.specs.Forest.{Joint, Forest}
use Rattle.calculus.specs.Named.{In, NoneTwice}
use Rattle.theory_graphs.specs.Graph.{connected_sym, connected_mono, connected_refl, forest_perm, del, in_del, glue_j, glued, contract, expand, share_out}

pub map_cong : {A B : Type 0} (f g : A → B) (l : List A) → ((x : A) → In x l → f x ≡ g x) → map f l ≡ map g l
map_cong f g [] h = refl
map_cong f g (x ∷ l) h = λ i. h x (Memᴰ.head refl) i ∷ map_cong f g l (λ y m. h y (Memᴰ.tail m)) i

pub del_in : {A : Type 0} {a y : A} {l : List A} (m : In a l) → In y (del m) → In y l
del_in (Memᴰ.head e) k = Memᴰ.tail k
del_in (Memᴰ.tail m) (Memᴰ.head e) = Memᴰ.head e
del_in (Memᴰ.tail m) (Memᴰ.tail k) = Memᴰ.tail (del_in m k)

pub none_twice_del : {A : Type 0} {a : A} {l : List A} (m : In a l) → NoneTwice l → NoneTwice (del m)
none_twice_del (Memᴰ.head e) u = u.1
none_twice_del (Memᴰ.tail m) u = ((λ k. u.0 (del_in m k)), none_twice_del m u.1)

pub del_not : {A : Type 0} {a : A} {l : List A} (m : In a l) → NoneTwice l → ¬ In a (del m)
del_not (Memᴰ.head e) u k = u.0 (Memᴰ.cast (sym e) k)
del_not (Memᴰ.tail m) u (Memᴰ.head e) = u.0 (Memᴰ.cast (sym e) m)
del_not (Memᴰ.tail m) u (Memᴰ.tail k) = del_not m u.1 k

front : {A B : Type 0} (f : A → B) {a : A} {l : List A} (m : In a l) → Permᴰ (map f l) (f a ∷ map f (del m))
front f (Memᴰ.head {xs = l} e) = Permᴰ.cons (ap f (sym e)) (Permᴰ.refl (map f l))
front f (Memᴰ.tail m) = Permᴰ.trans (Permᴰ.cons refl (front f m)) (Permᴰ.swap refl refl)

module _ (jt : ℕ → Joint) (K : List ℕ) (f : Forest (map jt K)) where
  to_front : {k : ℕ} (m : In k K) → Forest (jt k ∷ map jt (del m))
  to_front m = forest_perm (front jt m) f

  -- with the joint k there, ends move freely between the two ends of k
  pub share : (jt' : ℕ → Joint) (k : ℕ) → In k K → jt' k ≡ jt k → ((x : ℕ) → In x K → glue_j (jt k).0 (jt k).1 (jt' x) ≡ glue_j (jt k).0 (jt k).1 (jt x)) → Forest (map jt' K)
  share jt' k m e h =
      let p = (jt k).0 in
      let q = (jt k).1 in
      let here : glued p q (map jt (del m)) ≡ glued p q (map jt' (del m)) =
      map-map (glue_j p q) jt (del m) ∙ map_cong _ _ (del m) (λ x i. sym (h x (del_in m i))) ∙ sym (map-map (glue_j p q) jt' (del m)) in
      let g : Forest (jt k ∷ map jt' (del m)) = share_out p q (map jt (del m)) (map jt' (del m)) here (to_front m) in
      forest_perm (Permᴰ.symm (front jt' m)) (subst (λ j. Forest (j ∷ map jt' (del m))) (sym e) g)

  -- a new joint k, between p and q, to which ends of p may have moved
  pub grow : (jt' : ℕ → Joint) (k p q : ℕ) → jt' k ≡ (p, q) → p ≢ q → ((x : ℕ) → In x K → glue_j p q (jt' x) ≡ jt x) → Forest (map jt' (k ∷ K))
  grow jt' k p q e n h =
      let here : map jt K ≡ glued p q (map jt' K) = sym (map-map (glue_j p q) jt' K ∙ map_cong _ _ K h) in
      subst (λ j. Forest (j ∷ map jt' K)) (sym e) (expand p q n (map jt' K) (subst Forest here f))

  -- the joint k goes, and its two ends become one place
  pub merge : (jt' : ℕ → Joint) (k : ℕ) (m : In k K) → ((x : ℕ) → In x (del m) → glue_j (jt k).0 (jt k).1 (jt x) ≡ jt' x) → Forest (map jt' (del m))
  merge jt' k m h = subst Forest (map-map _ jt (del m) ∙ map_cong _ _ (del m) h) (contract (jt k).0 (jt k).1 (map jt (del m)) (to_front m))

-- some joints go
pub thin : (jt : ℕ → Joint) (K L : List ℕ) → NoneTwice L → ((x : ℕ) → In x L → In x K) → Forest (map jt K) → Forest (map jt L)
thin jt K [] u s f = tt
thin jt K (x ∷ L) u s f =
    let m = s x (Memᴰ.head refl) in
    let g = to_front jt K f m in
    let t : (y : ℕ) → In y L → In y (del m) = λ y i. in_del m (s y (Memᴰ.tail i)) (λ e. u.0 (Memᴰ.cast (sym e) i)) in
    (thin jt (del m) L u.1 t g.0, λ c. g.1 (connected_mono (λ j i. let r = Memᴰ.of_map jt L i in Memᴰ.cast (sym r.2) (Memᴰ.map jt (t r.0 r.1))) c))

-- the here with the new joint, or the one that goes, read from its other end
turn : (p q : ℕ) (J : List Joint) → Forest ((p, q) ∷ J) → Forest ((q, p) ∷ J)
turn p q J f = (f.0, λ c. f.1 (connected_sym c))

pub grow_turned : (jt : ℕ → Joint) (K : List ℕ) → Forest (map jt K) → (jt' : ℕ → Joint) (k p q : ℕ) → jt' k ≡ (q, p) → p ≢ q → ((x : ℕ) → In x K → glue_j p q (jt' x) ≡ jt x) → Forest (map jt' (k ∷ K))
grow_turned jt K f jt' k p q e n h =
    let here : map jt K ≡ glued p q (map jt' K) = sym (map-map (glue_j p q) jt' K ∙ map_cong _ _ K h) in
    subst (λ j. Forest (j ∷ map jt' K)) (sym e) (turn p q (map jt' K) (expand p q n (map jt' K) (subst Forest here f)))

pub merge_turned : (jt : ℕ → Joint) (K : List ℕ) → Forest (map jt K) → (jt' : ℕ → Joint) (k : ℕ) (m : In k K) → ((x : ℕ) → In x (del m) → glue_j (jt k).1 (jt k).0 (jt x) ≡ jt' x) → Forest (map jt' (del m))
merge_turned jt K f jt' k m h = subst Forest (map-map _ jt (del m) ∙ map_cong _ _ (del m) h) (contract (jt k).1 (jt k).0 (map jt (del m)) (turn (jt k).0 (jt k).1 (map jt (del m)) (to_front jt K f m)))

pub no_loop : (jt : ℕ → Joint) (K : List ℕ) → Forest (map jt K) → (k : ℕ) → In k K → (jt k).0 ≢ (jt k).1
no_loop jt K f k m e = (to_front jt K f m).1 (connected_refl _ e)
