-- The test of two types is exact: it looks at every part that their unfolding comes to.
use Rattle.std.specs.Prelude.{◌≡◌, refl, ◌↔◌, List, [], ◌∷◌, ◌++◌, Bool, true, false, cond}
use Rattle.std.proofs.Common.{sym, subst, inl, inr}
use Rattle.std.proofs.Math.Bool.{So}
use Rattle.std.proofs.Math.Option.{Option, some, none, get_or, none-ne-some, some-injective}
use Rattle.trees.specs.Heads as trees
use Rattle.trees.specs.Heads.{Inside}
use Rattle.trees.specs.Equal.{Equal}
use Rattle.trees.specs.Listed.{Listed, in_left, in_right, in_either}
use Rattle.trees.proofs.Decide.{equal_iff}
use Rattle.notation.specs.Bytes.{same}
use Rattle.notation.specs.Tree.{Name, Ty, unit, named, tensor, par, lolli, plus, with, Alternatives, alternative, Ty-discrete}
use Rattle.calculus.specs.Named.{lookup}
use Rattle.calculus.specs.Types.{shape, unfolded}
use Rattle.calculus.specs.SameType.{rows, head_by, head_of, parts, parts_below, declared_parts, same_sound, same_refl, same_name?, same_type}

-- ── a list that holds the parts of whatever it holds
abbrev Full : List (Ty Name) → Type 0
Full l = (x y : Ty Name) → Listed x l → Listed y (parts x) → Listed y l

full_none : Full []
full_none x y i k = i

full_join : (l m : List (Ty Name)) → Full l → Full m → Full (l ++ m)
full_join l m f g x y i k = elim (in_either x l m i) [ inl j ↦ in_left y l m (f x y j k) | inr j ↦ in_right y l m (g x y j k) ]

full_under : (A : Ty Name) (l : List (Ty Name)) → parts A ≡ A ∷ l → Full l → Full (parts A)
full_under A l e f x y i k = go (subst (Listed x) e i)
  where
    go : Listed x (A ∷ l) → Listed y (parts A)
    go (inl z) = subst (λ B. Listed y (parts B)) z k
    go (inr j) = subst (Listed y) (sym e) (inr (f x y j k))

parts_self : (A : Ty Name) → Listed A (parts A)
unfolding parts
parts_self unit = inl refl
parts_self (named n) = inl refl
parts_self (tensor A B) = inl refl
parts_self (par A B) = inl refl
parts_self (lolli A B) = inl refl
parts_self (plus r) = inl refl
parts_self (with r) = inl refl

mutual
  unfolding parts parts_below

  parts_full : (A : Ty Name) → Full (parts A)
  parts_full unit = full_under unit [] refl full_none
  parts_full (named n) = full_under (named n) [] refl full_none
  parts_full (tensor A B) = full_under (tensor A B) (parts A ++ parts B) refl (full_join (parts A) (parts B) (parts_full A) (parts_full B))
  parts_full (par A B) = full_under (par A B) (parts A ++ parts B) refl (full_join (parts A) (parts B) (parts_full A) (parts_full B))
  parts_full (lolli A B) = full_under (lolli A B) (parts A ++ parts B) refl (full_join (parts A) (parts B) (parts_full A) (parts_full B))
  parts_full (plus r) = full_under (plus r) (parts_below r) refl (below_full r)
  parts_full (with r) = full_under (with r) (parts_below r) refl (below_full r)

  below_full : (r : Alternatives Name) → Full (parts_below r)
  below_full Alternatives.none = full_none
  below_full (alternative l A r) = full_join (parts A) (parts_below r) (parts_full A) (below_full r)

declared_full : (l : List (Name × Ty Name)) → Full (declared_parts l)
unfolding declared_parts
declared_full [] = full_none
declared_full (e ∷ l) = full_join (parts e.1) (declared_parts l) (parts_full e.1) (declared_full l)

-- ── a search that finds x finds a part
-- whether it stops at A, or goes on to what it finds of the rest
found_in : (A x : Ty Name) (rest : List (Ty Name)) (o : Option (Ty Name)) (t : Bool) → (o ≡ some x → Listed x rest) → cond t (some A) o ≡ some x → Listed x (parts A ++ rest)
found_in A x rest o true f e = in_left x (parts A) rest (subst (λ B. Listed B (parts A)) (some-injective A x e) (parts_self A))
found_in A x rest o false f e = in_right x (parts A) rest (f e)

declared_in : (n : Name) (l : List (Name × Ty Name)) (x : Ty Name) → lookup n l ≡ some x → Listed x (declared_parts l)
unfolding lookup declared_parts
declared_in n [] x e = absurd (none-ne-some x e)
declared_in n (d ∷ l) x e = found_in d.1 x (declared_parts l) (lookup n l) (same n d.0) (declared_in n l x) e

labelled_in : (l : Name) (r : Alternatives Name) (x : Ty Name) → trees.labelled same l (rows r) ≡ some x → Listed x (parts_below r)
unfolding trees.labelled parts
labelled_in l Alternatives.none x e = absurd (none-ne-some x e)
labelled_in l (alternative m A r) x e = found_in A x (parts_below r) (trees.labelled same l (rows r)) (same l m) (labelled_in l r x) e

-- what is below the head of a type is among its parts
two_inside : (P : Ty Name → Type 0) (A B : Ty Name) → ((y : Ty Name) → Listed y (parts A ++ parts B) → P y) → P A × P B
two_inside P A B f = (f A (in_left A (parts A) (parts B) (parts_self A)), f B (in_right B (parts A) (parts B) (parts_self B)))

head_inside : (P : Ty Name → Type 0) (A : Ty Name) → ((y : Ty Name) → Listed y (parts A) → P y) → Inside same P (head_by (shape A))
unfolding parts
head_inside P unit f = tt
head_inside P (named n) f = tt
head_inside P (tensor A B) f = two_inside P A B (λ y i. f y (inr i))
head_inside P (par A B) f = two_inside P A B (λ y i. f y (inr i))
head_inside P (lolli A B) f = two_inside P A B (λ y i. f y (inr i))
head_inside P (plus r) f = λ l x e. f x (inr (labelled_in l r x e))
head_inside P (with r) f = λ l x e. f x (inr (labelled_in l r x e))

-- ── the parts of both types and of those declared
module _ (types : List (Name × Ty Name)) (A B : Ty Name) where
  abbrev among : List (Ty Name)
  among = (parts A ++ parts B) ++ declared_parts types

  among_full : Full among
  among_full = full_join (parts A ++ parts B) (declared_parts types) (full_join (parts A) (parts B) (parts_full A) (parts_full B)) (declared_full types)

  standing_in : (x : Ty Name) → Listed x among → Listed (unfolded types x) among
  standing_in unit i = i
  standing_in (named n) i = go (lookup n types) refl
    where
      go : (o : Option (Ty Name)) → lookup n types ≡ o → Listed (get_or o (named n)) among
      go none e = i
      go (some C) e = in_right C (parts A ++ parts B) (declared_parts types) (declared_in n types C e)
  standing_in (tensor C D) i = i
  standing_in (par C D) i = i
  standing_in (lolli C D) i = i
  standing_in (plus r) i = i
  standing_in (with r) i = i

  among_whole : (x : Ty Name) → Listed x among → Inside same (λ y. Listed y among) (head_of types x)
  among_whole x i = head_inside (λ y. Listed y among) (unfolded types x) (λ y j. among_full (unfolded types x) y (standing_in x i) j)

  -- the test passes exactly for types that are equal as trees
  pub same_tree : So (same_type types A B) ↔ Equal same (head_of types) A B
  unfolding same_type
  same_tree =
      equal_iff same same_sound same_refl (Ty-discrete (λ a b. same_name? a b (same a b) refl)) (head_of types) among among_whole A B
      (in_left A (parts A ++ parts B) (declared_parts types) (in_left A (parts A) (parts B) (parts_self A)))
      (in_left B (parts A ++ parts B) (declared_parts types) (in_right B (parts A) (parts B) (parts_self B)))
