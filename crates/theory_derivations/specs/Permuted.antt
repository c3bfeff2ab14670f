-- Nothing is held beside the names of a list exactly where the names held are a permutation of it.
use Rattle.std.proofs.Common.{arith, ◌∙◌}
use Rattle.std.specs.Prelude.{◌≡◌, ◌↔◌, ◌≢◌, cond, length}
use Rattle.std.proofs.Math.Path.{refl, sym, subst}
use Rattle.std.proofs.Math.Logic.{⊎_elim}
use mathlib.Core.List.Memᴰ
use mathlib.Core.List.Permᴰ
use mathlib.Core.List.{List, [], ◌∷◌}
use Rattle.notation.specs.Tree.{Name}
use Rattle.calculus.specs.Named.{In, NoneTwice, Permuted, without, names}
use Rattle.calculus.specs.Checking.{without_all}
use Rattle.theory_derivations.specs.Lists.{permuted_length}
use Rattle.theory_derivations.specs.Named.{by_test}

module _ {X : Type 0} where
  without_permutes : (c : Name) (l : List (Name × X)) → In c (names l) → Permuted (names l) (c ∷ names (without c l))
  unfolding names without
  without_permutes c [] m = absurd (Memᴰ.not-nil m)
  without_permutes c (e ∷ l) m =
      by_test (λ b. Permuted (e.0 ∷ names l) (c ∷ names (cond b l (e ∷ without c l)))) c e.0 (λ h. Permᴰ.cons (sym h) (Permᴰ.refl (names l))) λ h.
      Permᴰ.trans (Permᴰ.cons refl (without_permutes c l (⊎_elim (λ z. absurd (h z)) (λ k. k) (Memᴰ.cases_cons m)))) (Permᴰ.swap refl refl)

  without_others : (c n : Name) (l : List (Name × X)) → n ≢ c → In n (names l) → In n (names (without c l))
  unfolding names without
  without_others c n [] h m = m
  without_others c n (e ∷ l) h m =
      by_test (λ b. In n (names (cond b l (e ∷ without c l)))) c e.0 (λ z. ⊎_elim (λ k. absurd (h (k ∙ sym z))) (λ k. k) (Memᴰ.cases_cons m)) λ _.
      ⊎_elim (λ k. Memᴰ.head k) (λ k. Memᴰ.tail (without_others c n l h k)) (Memᴰ.cases_cons m)

  -- the others of a list that is held are held beside its first
  rest_held : (n : Name) (ns : List Name) (l : List (Name × X)) → NoneTwice (n ∷ ns) → ((m : Name) → In m (n ∷ ns) → In m (names l)) → (m : Name) → In m ns → In m (names (without n l))
  rest_held n ns l u h m i = without_others n m l (λ e. u.0 (Memᴰ.cast (sym e) i)) (h m (Memᴰ.tail i))

  no_names : (l : List (Name × X)) → length (names l) ≡ 0 → l ≡ []
  unfolding names
  no_names [] e = refl
  no_names (x ∷ l) e = absurd (omega arith)

  none_besides : (ns : List Name) (l : List (Name × X)) → NoneTwice ns → ((n : Name) → In n ns → In n (names l)) → length (names l) ≡ length ns → without_all ns l ≡ []
  unfolding without_all
  none_besides [] l u h e = no_names l e
  none_besides (n ∷ ns) l u h e =
      let z = permuted_length (without_permutes n l (h n (Memᴰ.head refl))) in none_besides ns (without n l) u.1 (rest_held n ns l u h) (omega arith)

  permuted : (ns : List Name) (l : List (Name × X)) → NoneTwice ns → ((n : Name) → In n ns → In n (names l)) → without_all ns l ≡ [] → Permuted (names l) ns
  unfolding without_all names
  permuted [] l u h e = subst (λ k. Permuted (names k) []) (sym e) Permᴰ.nil
  permuted (n ∷ ns) l u h e = Permᴰ.trans (without_permutes n l (h n (Memᴰ.head refl))) (Permᴰ.cons refl (permuted ns (without n l) u.1 (rest_held n ns l u h) e))

  pub without_all_iff : (ns : List Name) (l : List (Name × X)) → NoneTwice ns → ((n : Name) → In n ns → In n (names l)) → (without_all ns l ≡ []) ↔ Permuted (names l) ns
  without_all_iff ns l u h = (permuted ns l u h, λ d. none_besides ns l u h (permuted_length d))
