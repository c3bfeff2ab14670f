-- How declarations of different kinds are mixed does not matter: what refusals 6 to 15 and the warnings say of a script they say of it sorted, as the tables hold it.
use Rattle.std.specs.Prelude.{Some, None}
use Rattle.std.specs.Prelude.{ℕ, min, ◌≡◌, Bool, true, false, cond, ltb}
use Rattle.std.proofs.Math.Path.{refl, sym, ap}
use Rattle.std.proofs.Common.{◌∙◌, arith, ltb-true, ltb-false}
use mathlib.Core.List.{List, [], ◌∷◌, ◌++◌, append-nil, append_assoc}
use Rattle.notation.specs.Tree.{Located, Ty, Proc, Entry, Declaration, declare_type, declare_proc, declare_exec}
use Rattle.calculus.specs.Program.{Program, program_of}
use Rattle.calculus.specs.Declarations.{gather, type_name, process_name, repeats, own_repeats, repeated, own_undefined, undefined, own_bare_name, bare_names, breaking, wrong_execs, declared}
use Rattle.calculus.specs.Checking.{check_declaration, check_declarations, typed}
use Rattle.calculus.specs.Verdict.{Verdict, fine, refused, and_then, lower, faults}
use Rattle.calculus.specs.Warnings.{own_warnings, warnings}
use Rattle.read_tables.specs.Program.{program_sorted}
use Rattle.read_tables.specs.Scripts.{own_type, own_proc, own_exec, sorted}
use Rattle.read_tables.specs.Scripts as scripts
use Rattle.check_declarations.specs.Lowest.{Lowest, under, lowest_with, lowest_append, refused_at, faults_lowest}

-- ── the lowest offset does not depend on the order
lower_min : (i j : ℕ) → lower i j ≡ min i j
lower_min i j = go (ltb j i) refl
  where
    go : (b : Bool) → ltb j i ≡ b → cond b j i ≡ min i j
    go true e = let h = ltb-true j i e in omega arith
    go false e = let h = ltb-false j i e in omega arith

under_swap : (l : Lowest) (j k : ℕ) → under (under l j) k ≡ under (under l k) j
under_swap None j k = ap Some (let a = lower_min j k in let b = lower_min k j in omega arith)
under_swap (Some i) j k = ap Some (both j k ∙ (let e : min (min i j) k ≡ min (min i k) j = omega arith in e) ∙ sym (both k j))
  where
    both : (m n : ℕ) → lower (lower i m) n ≡ min (min i m) n
    both m n = lower_min (lower i m) n ∙ ap (λ x. min x n) (lower_min i m)

under_last : (l : Lowest) (j : ℕ) (xs : List ℕ) → lowest_with (under l j) xs ≡ under (lowest_with l xs) j
unfolding lowest_with
under_last l j [] = refl
under_last l j (x ∷ xs) = ap (λ m. lowest_with m xs) (under_swap l j x) ∙ under_last (under l x) j xs

lowest_swap : (l : Lowest) (xs ys : List ℕ) → lowest_with (lowest_with l xs) ys ≡ lowest_with (lowest_with l ys) xs
unfolding lowest_with
lowest_swap l xs [] = refl
lowest_swap l xs (y ∷ ys) = ap (λ m. lowest_with m ys) (sym (under_last l y xs)) ∙ lowest_swap (under l y) xs ys

-- ── what is gathered from a script, and from it sorted
module _ (f : Declaration → List ℕ) where
  abbrev low : Lowest → List Declaration → Lowest
  low l ds = lowest_with l (gather f ds)

  low_first : (l : Lowest) (a : Declaration) (r : List Declaration) → low l (a ∷ r) ≡ low (lowest_with l (f a)) r
  low_first l a r = lowest_append l (f a) (gather f r)

  -- a declaration may be taken first
  taken_first : (x : List Declaration) (l : Lowest) (a : Declaration) (y : List Declaration) → low l (x ++ (a ∷ y)) ≡ low (lowest_with l (f a)) (x ++ y)
  taken_first [] l a y = low_first l a y
  taken_first (b ∷ x) l a y =
      low_first l b (x ++ (a ∷ y))
      ∙ taken_first x (lowest_with l (f b)) a y
      ∙ ap (λ m. low m (x ++ y)) (lowest_swap l (f b) (f a))
      ∙ sym (low_first (lowest_with l (f a)) b (x ++ y))

  low_sorted : (ds : List Declaration) (l : Lowest) → low l (sorted ds) ≡ low l ds
  unfolding sorted scripts.gather
  low_sorted [] l = refl
  low_sorted (declare_type n A ∷ r) l = low_first l (declare_type n A) (sorted r) ∙ low_sorted r (lowest_with l (f (declare_type n A))) ∙ sym (low_first l (declare_type n A) r)
  low_sorted (declare_proc n xs ys P ∷ r) l =
      let a = declare_proc n xs ys P in
      taken_first (scripts.gather own_type r) l a (scripts.gather own_proc r ++ scripts.gather own_exec r) ∙ low_sorted r (lowest_with l (f a)) ∙ sym (low_first l a r)
  low_sorted (declare_exec n ∷ r) l =
      let a = declare_exec n in
      let x = scripts.gather own_type r in
      let y = scripts.gather own_proc r in
      let z = scripts.gather own_exec r in
      ap (low l) (sym (append_assoc x y (a ∷ z)))
      ∙ taken_first (x ++ y) l a z
      ∙ ap (low (lowest_with l (f a))) (append_assoc x y z)
      ∙ low_sorted r (lowest_with l (f a))
      ∙ sym (low_first l a r)

  gather_sorted : (n : ℕ) (ds : List Declaration) → faults n (gather f (sorted ds)) ≡ faults n (gather f ds)
  gather_sorted n ds = faults_lowest n (gather f (sorted ds)) ∙ ap (refused_at n) (low_sorted ds None) ∙ sym (faults_lowest n (gather f ds))

-- ── the names of one kind keep their order
module _ {X : Type 0} where
  pub gather_append : (f : Declaration → List X) (x y : List Declaration) → gather f (x ++ y) ≡ gather f x ++ gather f y
  gather_append f [] y = refl
  gather_append f (a ∷ x) y = ap (◌++◌ (f a)) (gather_append f x y) ∙ sym (append_assoc (f a) (gather f x) (gather f y))

  -- f of the declarations of a kind is g of all
  of_kind_lem : (f g : Declaration → List X) (own : Declaration → List Declaration) → ((a : Declaration) → gather f (own a) ≡ g a) → (ds : List Declaration) → gather f (scripts.gather own ds) ≡ gather g ds
  unfolding scripts.gather
  of_kind_lem f g own h [] = refl
  of_kind_lem f g own h (a ∷ r) = gather_append f (own a) (scripts.gather own r) ∙ (λ j. h a j ++ of_kind_lem f g own h r j)

  abbrev nothing : Declaration → List X
  nothing a = []

  gather_nothing : (ds : List Declaration) → gather nothing ds ≡ []
  gather_nothing [] = refl
  gather_nothing (a ∷ r) = gather_nothing r

  in_kinds : (f : Declaration → List X) (ds : List Declaration) → gather f (sorted ds) ≡ gather f (scripts.gather own_type ds) ++ (gather f (scripts.gather own_proc ds) ++ gather f (scripts.gather own_exec ds))
  unfolding sorted
  in_kinds f ds =
      gather_append f (scripts.gather own_type ds) (scripts.gather own_proc ds ++ scripts.gather own_exec ds)
      ∙ ap (◌++◌ (gather f (scripts.gather own_type ds))) (gather_append f (scripts.gather own_proc ds) (scripts.gather own_exec ds))

-- what holds of a declaration of each kind holds of all
by_kind : (Q : Declaration → Type 0) → ((n : Located) (A : Ty Located) → Q (declare_type n A)) → ((n : Located) (xs ys : List Entry) (P : Proc) → Q (declare_proc n xs ys P)) → ((n : Located) → Q (declare_exec n)) → (a : Declaration) → Q a
by_kind Q t p e (declare_type n A) = t n A
by_kind Q t p e (declare_proc n xs ys P) = p n xs ys P
by_kind Q t p e (declare_exec n) = e n

type_names_lem : (ds : List Declaration) → gather type_name (sorted ds) ≡ gather type_name ds
type_names_lem ds =
    let types = of_kind_lem type_name type_name own_type (by_kind (λ a. gather type_name (own_type a) ≡ type_name a) (λ n A. refl) (λ n xs ys P. refl) (λ n. refl)) ds in
    let processes = of_kind_lem type_name nothing own_proc (by_kind (λ a. gather type_name (own_proc a) ≡ []) (λ n A. refl) (λ n xs ys P. refl) (λ n. refl)) ds ∙ gather_nothing ds in
    let execs = of_kind_lem type_name nothing own_exec (by_kind (λ a. gather type_name (own_exec a) ≡ []) (λ n A. refl) (λ n xs ys P. refl) (λ n. refl)) ds ∙ gather_nothing ds in
    in_kinds type_name ds ∙ (λ j. types j ++ (processes j ++ execs j)) ∙ append-nil (gather type_name ds)

-- of processes alone
of_processes_lem : {X : Type 0} (f : Declaration → List X) → ((n : Located) (A : Ty Located) → f (declare_type n A) ≡ []) → ((n : Located) → f (declare_exec n) ≡ []) → (ds : List Declaration) → gather f (sorted ds) ≡ gather f ds
of_processes_lem f t e ds =
    let types = of_kind_lem f nothing own_type (by_kind (λ a. gather f (own_type a) ≡ []) (λ n A. append-nil (f (declare_type n A)) ∙ t n A) (λ n xs ys P. refl) (λ n. refl)) ds ∙ gather_nothing ds in
    let processes = of_kind_lem f f own_proc (by_kind (λ a. gather f (own_proc a) ≡ f a) (λ n A. sym (t n A)) (λ n xs ys P. append-nil (f (declare_proc n xs ys P))) (λ n. sym (e n))) ds in
    let execs = of_kind_lem f nothing own_exec (by_kind (λ a. gather f (own_exec a) ≡ []) (λ n A. refl) (λ n xs ys P. refl) (λ n. append-nil (f (declare_exec n)) ∙ e n)) ds ∙ gather_nothing ds in
    in_kinds f ds ∙ (λ j. types j ++ (processes j ++ execs j)) ∙ append-nil (gather f ds)

process_names : (ds : List Declaration) → gather process_name (sorted ds) ≡ gather process_name ds
process_names = of_processes_lem process_name (λ n A. refl) (λ n. refl)

pub warnings_sorted : (ds : List Declaration) → warnings (sorted ds) ≡ warnings ds
unfolding warnings
warnings_sorted ds = ap (λ p. gather (own_warnings p) (sorted ds)) (program_sorted ds) ∙ of_processes_lem (own_warnings (program_of ds)) (λ n A. refl) (λ n. refl) ds

-- ── the four passes
repeated_sorted : (ds : List Declaration) → faults 6 (repeated (sorted ds)) ≡ faults 6 (repeated ds)
unfolding repeated
repeated_sorted ds =
    let t = repeats [] (gather type_name ds) in
    let p = repeats [] (gather process_name ds) in
    let low : List ℕ → Lowest = λ l. lowest_with None (t ++ (p ++ l)) in
    let parts : (l : List ℕ) → low l ≡ lowest_with (lowest_with (lowest_with None t) p) l = λ l. lowest_append None t (p ++ l) ∙ lowest_append (lowest_with None t) p l in
    (λ j. faults 6 (repeats [] (type_names_lem ds j) ++ (repeats [] (process_names ds j) ++ gather own_repeats (sorted ds))))
    ∙ faults_lowest 6 (t ++ (p ++ gather own_repeats (sorted ds)))
    ∙ ap (refused_at 6) (parts (gather own_repeats (sorted ds)) ∙ low_sorted own_repeats ds (lowest_with (lowest_with None t) p) ∙ sym (parts (gather own_repeats ds)))
    ∙ sym (faults_lowest 6 (t ++ (p ++ gather own_repeats ds)))

undefined_sorted : (ds : List Declaration) → faults 7 (undefined (sorted ds)) ≡ faults 7 (undefined ds)
unfolding undefined
undefined_sorted ds = ap (λ p. faults 7 (gather (own_undefined p) (sorted ds))) (program_sorted ds) ∙ gather_sorted (own_undefined (program_of ds)) 7 ds

bare_sorted : (ds : List Declaration) → faults 8 (bare_names (sorted ds)) ≡ faults 8 (bare_names ds)
unfolding bare_names
bare_sorted ds = gather_sorted own_bare_name 8 ds

execs_sorted : (ds : List Declaration) → faults 9 (wrong_execs (sorted ds)) ≡ faults 9 (wrong_execs ds)
unfolding wrong_execs
execs_sorted ds = ap (λ (p : Program). faults 9 (breaking p p.execs)) (program_sorted ds)

pub declared_sorted : (ds : List Declaration) → declared (sorted ds) ≡ declared ds
unfolding declared
declared_sorted ds = λ j. and_then (repeated_sorted ds j) (and_then (undefined_sorted ds j) (and_then (bare_sorted ds j) (execs_sorted ds j)))

-- ── refusals 10 to 15: processes alone
then_fine : (v : Verdict) → and_then v fine ≡ v
then_fine fine = refl
then_fine (refused n i) = refl

then_then : (u v w : Verdict) → and_then (and_then u v) w ≡ and_then u (and_then v w)
then_then fine v w = refl
then_then (refused n i) v w = refl

module _ (p : Program) where
  check_append : (x y : List Declaration) → check_declarations p (x ++ y) ≡ and_then (check_declarations p x) (check_declarations p y)
  check_append [] y = refl
  check_append (a ∷ x) y = ap (and_then (check_declaration p a)) (check_append x y) ∙ sym (then_then (check_declaration p a) (check_declarations p x) (check_declarations p y))

  types_fine : (ds : List Declaration) → check_declarations p (scripts.gather own_type ds) ≡ fine
  unfolding scripts.gather
  types_fine [] = refl
  types_fine (declare_type n A ∷ r) = types_fine r
  types_fine (declare_proc n xs ys P ∷ r) = types_fine r
  types_fine (declare_exec n ∷ r) = types_fine r

  execs_fine : (ds : List Declaration) → check_declarations p (scripts.gather own_exec ds) ≡ fine
  unfolding scripts.gather
  execs_fine [] = refl
  execs_fine (declare_type n A ∷ r) = execs_fine r
  execs_fine (declare_proc n xs ys P ∷ r) = execs_fine r
  execs_fine (declare_exec n ∷ r) = execs_fine r

  processes_alone : (ds : List Declaration) → check_declarations p (scripts.gather own_proc ds) ≡ check_declarations p ds
  unfolding scripts.gather
  processes_alone [] = refl
  processes_alone (declare_type n A ∷ r) = processes_alone r
  processes_alone (declare_proc n xs ys P ∷ r) = ap (and_then (check_declaration p (declare_proc n xs ys P))) (processes_alone r)
  processes_alone (declare_exec n ∷ r) = processes_alone r

  check_sorted : (ds : List Declaration) → check_declarations p (sorted ds) ≡ check_declarations p ds
  unfolding sorted
  check_sorted ds =
      check_append (scripts.gather own_type ds) (scripts.gather own_proc ds ++ scripts.gather own_exec ds)
      ∙ (λ j. and_then (types_fine ds j) (check_append (scripts.gather own_proc ds) (scripts.gather own_exec ds) j))
      ∙ (λ j. and_then (processes_alone ds j) (execs_fine ds j))
      ∙ then_fine (check_declarations p ds)

pub typed_sorted : (ds : List Declaration) → typed (sorted ds) ≡ typed ds
unfolding typed
typed_sorted ds = ap (λ p. check_declarations p (sorted ds)) (program_sorted ds) ∙ check_sorted (program_of ds) ds
