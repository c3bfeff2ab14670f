-- The list of all ends: who holds each, and that none is held twice.
use Rattle.std.specs.Prelude.{◌≡◌, refl, ◌≢◌, ◌⊎◌, List, [], ◌∷◌, ◌++◌, map, ℕ, zero, suc}
use Rattle.std.proofs.Common.{sym, ◌∙◌, ap, subst, inl, inr, arith}
use mathlib.Core.List.Memᴰ
use Rattle.std.proofs.Math.Option.{some, none-ne-some, some-injective}
use Rattle.std.proofs.lemmas.Bool.{false≢true}
use Rattle.std.proofs.Math.ListN.{get_elem?}
use Rattle.notation.specs.Tree.{Name}
use Rattle.calculus.specs.Types.{Side, provided, used, same_side}
use Rattle.calculus.specs.Program.{Program}
use Rattle.calculus.specs.Configuration.{End, end, Process, Outside, Config, Stands}
use Rattle.calculus.specs.Named.{In, NoneTwice}
use Rattle.calculus.specs.WellFormed.{key, held_ends, process_ends, outside_ends, ends, WellFormed}
use Rattle.theory_ends.specs.Lists.{once_by, once_append, once_left, once_right, once_apart, map-append}

pub side_clash : provided ≢ used
side_clash e = false≢true (sym (ap (same_side provided) e))

abbrev pub key_at : Name × End → ℕ × Side
key_at x = key x.1

-- ── ends of processes
held_keys_lem : (l : List (Name × End)) → map key (held_ends l) ≡ map key_at l
held_keys_lem [] = refl
held_keys_lem (x ∷ l) = ap (λ r. key x.1 ∷ r) (held_keys_lem l)

held_in_lem : (l : List (Name × End)) (x : Name × End) → In x l → In x.1 (held_ends l)
held_in_lem [] x i = elim i [ ]
held_in_lem (y ∷ l) x (Memᴰ.head e) = Memᴰ.head (ap (λ (x : Name × End). x.1) e)
held_in_lem (y ∷ l) x (Memᴰ.tail i) = Memᴰ.tail (held_in_lem l x i)

in_held : (l : List (Name × End)) (e : End) → In e (held_ends l) → (x : Name × End) × In x l × (x.1 ≡ e)
in_held [] e i = absurd (Memᴰ.not-nil i)
in_held (y ∷ l) e (Memᴰ.head z) = (y, Memᴰ.head refl, sym z)
in_held (y ∷ l) e (Memᴰ.tail i) = let r = in_held l e i in (r.0, Memᴰ.tail r.1, r.2)

pub process_end : (l : List Process) (j : ℕ) (q : Process) → get_elem? l j ≡ some q → (x : Name × End) → In x q.held → In x.1 (process_ends l)
process_end [] j q e x i = absurd (none-ne-some q e)
process_end (r ∷ l) zero q e x i = Memᴰ.append_left (process_ends l) (held_in_lem r.held x (subst (λ (q : Process). In x q.held) (sym (some-injective _ _ e)) i))
process_end (r ∷ l) (suc j) q e x i = Memᴰ.append_right (held_ends r.held) (process_end l j q e x i)

pub end_process : (l : List Process) (e : End) → In e (process_ends l) → (j : ℕ) × (q : Process) × (get_elem? l j ≡ some q) × (x : Name × End) × In x q.held × (x.1 ≡ e)
end_process [] e i = absurd (Memᴰ.not-nil i)
end_process (r ∷ l) e i = go (end_process l e) (Memᴰ.append_cases (held_ends r.held) i)
  where
    go : (In e (process_ends l) → (j : ℕ) × (q : Process) × (get_elem? l j ≡ some q) × (x : Name × End) × In x q.held × (x.1 ≡ e)) → In e (held_ends r.held) ⊎ In e (process_ends l)
        → (j : ℕ) × (q : Process) × (get_elem? (r ∷ l) j ≡ some q) × (x : Name × End) × In x q.held × (x.1 ≡ e)
    go f (inl k) = let x = in_held r.held e k in (0, r, refl, x.0, x.1, x.2)
    go f (inr k) = let x = f k in (suc x.0, x.1, x.2, x.3, x.4, x.5)

-- ── none twice, among processes
pub keys_of_process : (l : List Process) → NoneTwice (map key (process_ends l)) → (j : ℕ) (q : Process) → get_elem? l j ≡ some q → NoneTwice (map key_at q.held)
keys_of_process [] u j q e = absurd (none-ne-some q e)
keys_of_process (r ∷ l) u zero q e =
    subst (λ (q : Process). NoneTwice (map key_at q.held)) (some-injective _ _ e)
    (subst NoneTwice (held_keys_lem r.held) (once_left (map key (held_ends r.held)) (map key (process_ends l)) (subst NoneTwice (map-append key (held_ends r.held) (process_ends l)) u)))
keys_of_process (r ∷ l) u (suc j) q e =
    keys_of_process l (once_right (map key (held_ends r.held)) (map key (process_ends l)) (subst NoneTwice (map-append key (held_ends r.held) (process_ends l)) u)) j q e

pub one_process : (l : List Process) → NoneTwice (map key (process_ends l)) → (i j : ℕ) (q r : Process) → get_elem? l i ≡ some q → get_elem? l j ≡ some r
    → (x y : Name × End) → In x q.held → In y r.held → key_at x ≡ key_at y → i ≡ j
one_process [] u i j q r e f x y m n z = absurd (none-ne-some q e)
one_process (p ∷ l) u i j q r e f x y m n z = go (λ v i j e f. one_process l v i j q r e f x y m n z) i j e f
  where
    u' : NoneTwice (map key (held_ends p.held) ++ map key (process_ends l))
    u' = subst NoneTwice (map-append key (held_ends p.held) (process_ends l)) u

    first : {q : Process} {x : Name × End} → some p ≡ some q → In x q.held → In (key_at x) (map key (held_ends p.held))
    first {q} {x} e m = Memᴰ.map key (held_in_lem p.held x (subst (λ (q : Process). In x q.held) (sym (some-injective _ _ e)) m))

    later : (j : ℕ) {r : Process} {y : Name × End} → get_elem? l j ≡ some r → In y r.held → In (key_at y) (map key (process_ends l))
    later j {r} {y} f n = Memᴰ.map key (process_end l j r f y n)

    go : (NoneTwice (map key (process_ends l)) → (i j : ℕ) → get_elem? l i ≡ some q → get_elem? l j ≡ some r → i ≡ j) → (i j : ℕ) → get_elem? (p ∷ l) i ≡ some q
        → get_elem? (p ∷ l) j ≡ some r → i ≡ j
    go rec zero zero e f = refl
    go rec zero (suc j) e f = absurd (once_apart (map key (held_ends p.held)) (map key (process_ends l)) u' (first e m) (later j f n) z)
    go rec (suc i) zero e f = absurd (once_apart (map key (held_ends p.held)) (map key (process_ends l)) u' (first f n) (later i e m) (sym z))
    go rec (suc i) (suc j) e f = ap suc (rec (once_right (map key (held_ends p.held)) (map key (process_ends l)) u') i j e f)

-- where each process holds no key twice, and no two hold the same, none is held twice
pub keys_once : (l : List Process) → ((j : ℕ) (q : Process) → get_elem? l j ≡ some q → NoneTwice (map key_at q.held))
    → ((i j : ℕ) (q r : Process) → get_elem? l i ≡ some q → get_elem? l j ≡ some r → (x y : Name × End) → In x q.held → In y r.held
    → key_at x ≡ key_at y → i ≡ j) → NoneTwice (map key (process_ends l))
keys_once [] u h = tt
keys_once (p ∷ l) u h =
    subst NoneTwice (sym (map-append key (held_ends p.held) (process_ends l)))
    (once_append (map key (held_ends p.held)) (map key (process_ends l)) (subst NoneTwice (sym (held_keys_lem p.held)) (u 0 p refl))
    (keys_once l (λ j. u (suc j)) (λ i j q r e f x y m n z. let w = h (suc i) (suc j) q r e f x y m n z in omega arith)) disjoint)
  where
    disjoint : (k : ℕ × Side) → In k (map key (held_ends p.held)) → In k (map key (process_ends l)) → ⊥
    disjoint k a b =
        let e = Memᴰ.of_map key (held_ends p.held) a in
        let x = in_held p.held e.0 e.1 in
        let d = Memᴰ.of_map key (process_ends l) b in
        let y = end_process l d.0 d.1 in
        let w = h 0 (suc y.0) p y.1 refl y.2 x.0 y.3 x.1 y.4 (ap key x.2 ∙ e.2 ∙ sym d.2 ∙ ap key (sym y.5)) in omega arith

-- ── ends of the outside
pub outside_end_lem : (o : List Outside) (y : Outside) → In y o → In (end used y.channel y.type) (outside_ends o)
outside_end_lem [] y i = elim i [ ]
outside_end_lem (x ∷ o) y (Memᴰ.head e) = Memᴰ.head (λ i. end used (e i).channel (e i).type)
outside_end_lem (x ∷ o) y (Memᴰ.tail i) = Memᴰ.tail (outside_end_lem o y i)

pub end_outside : (o : List Outside) (e : End) → In e (outside_ends o) → (y : Outside) × In y o × (end used y.channel y.type ≡ e)
end_outside [] e i = absurd (Memᴰ.not-nil i)
end_outside (x ∷ o) e (Memᴰ.head z) = (x, Memᴰ.head refl, sym z)
end_outside (x ∷ o) e (Memᴰ.tail i) = let r = end_outside o e i in (r.0, Memᴰ.tail r.1, r.2)

pub outside_keys : (o : List Outside) → NoneTwice (map key (outside_ends o)) → NoneTwice (map (λ (y : Outside). y.channel) o)
outside_keys [] u = tt
outside_keys (x ∷ o) u = (
  (λ m. let y = Memᴰ.of_map (λ (y : Outside). y.channel) o m in u.0 (Memᴰ.cast (λ i. (sym y.2 i, used)) (Memᴰ.map key (outside_end_lem o y.0 y.1)))),
  outside_keys o u.1,
)

pub keys_outside : (o : List Outside) → NoneTwice (map (λ (y : Outside). y.channel) o) → NoneTwice (map key (outside_ends o))
keys_outside [] u = tt
keys_outside (x ∷ o) u = (
  (λ m. let e = Memᴰ.of_map key (outside_ends o) m in let y = end_outside o e.0 e.1 in
      u.0 (Memᴰ.cast (ap (λ (k : ℕ × Side). k.0) (sym e.2) ∙ ap (λ (e : End). e.channel) (sym y.2)) (Memᴰ.map (λ (y : Outside). y.channel) y.1))),
  keys_outside o u.1,
)

-- ── the ends of a configuration
pub entry_in_ends : {C : Config} {i : ℕ} {q : Process} {n : Name} {e : End} → Stands C i q → In (n, e) q.held → In e (ends C)
entry_in_ends {C} {i} {q} {n} {e} s m = Memᴰ.append_left (outside_ends C.outside) (process_end C.processes i q s.there (n, e) m)

pub outside_in_ends : (C : Config) {o : Outside} → In o C.outside → In (end used o.channel o.type) (ends C)
outside_in_ends C {o} m = Memᴰ.append_right (process_ends C.processes) (outside_end_lem C.outside o m)

module _ {p : Program} {C : Config} (w : WellFormed p C) where
  keys : NoneTwice (map key (process_ends C.processes))
  keys =
      once_left (map key (process_ends C.processes)) (map key (outside_ends C.outside))
      (subst NoneTwice (map-append key (process_ends C.processes) (outside_ends C.outside)) w.once)

  -- "each held at most once": one process, one name
  pub one_holder : {i j : ℕ} {q r : Process} {n m : Name} {e d : End} → Stands C i q → Stands C j r → In (n, e) q.held → In (m, d) r.held
      → key e ≡ key d → i ≡ j
  one_holder {i} {j} {q} {r} {n} {m} {e} {d} s t a b z = one_process C.processes keys i j q r s.there t.there (n, e) (m, d) a b z

  pub one_name : {i : ℕ} {q : Process} {n m : Name} {e d : End} → Stands C i q → In (n, e) q.held → In (m, d) q.held → key e ≡ key d → n ≡ m
  one_name {i} {q} s a b z = ap (λ (x : Name × End). x.0) (once_by key_at (keys_of_process C.processes keys i q s.there) a b z)
