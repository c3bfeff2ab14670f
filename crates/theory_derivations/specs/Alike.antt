-- Types are alike exactly where their heads match.
use Rattle.std.specs.Prelude.{◌≡◌, refl, List, [], ◌∷◌, Bool, true, false, cond, eqb}
use Rattle.std.proofs.Common.{ap, subst}
use Rattle.std.proofs.Math.Option.{some}
use Rattle.trees.specs.Both.{Both}
use Rattle.trees.specs.Heads as trees
use Rattle.trees.specs.Heads.{Head, Matching, leaves, words, pairs, choices}
use Rattle.notation.specs.Bytes.{same}
use Rattle.notation.specs.Tree.{Name, Ty, unit, named, tensor, par, lolli, plus, with, Alternatives, alternative}
use Rattle.calculus.specs.Types.{shape, labelled}
use Rattle.calculus.specs.OneType.{Alike, units, names, tensors, pars, lollis, pluses, withs}
use Rattle.calculus.specs.SameType.{rows, head_by}

labelled_rows : (l : Name) (r : Alternatives Name) → labelled l r ≡ trees.labelled same l (rows r)
unfolding labelled trees.labelled
labelled_rows l Alternatives.none = refl
labelled_rows l (alternative m A r) = ap (λ o. cond (same l m) (some A) o) (labelled_rows l r)

-- a type from its head
abbrev unrows : List (Name × Ty Name) → Alternatives Name
unrows [] = Alternatives.none
unrows (e ∷ l) = alternative e.0 e.1 (unrows l)

abbrev unhead : Head Name (Ty Name) → Ty Name
unhead trees.leaf = unit
unhead (trees.word n) = named n
unhead (trees.pair k A B) = cond (eqb k 2) (tensor A B) (cond (eqb k 3) (par A B) (lolli A B))
unhead (trees.choice k l) = cond (eqb k 5) (plus (unrows l)) (with (unrows l))

unrows_rows : (r : Alternatives Name) → unrows (rows r) ≡ r
unrows_rows Alternatives.none = refl
unrows_rows (alternative l A r) = ap (alternative l A) (unrows_rows r)

rows_unrows : (l : List (Name × Ty Name)) → rows (unrows l) ≡ l
rows_unrows [] = refl
rows_unrows (e ∷ l) = ap (λ r. e ∷ r) (rows_unrows l)

unhead_head : (A : Ty Name) → unhead (head_by (shape A)) ≡ A
unhead_head unit = refl
unhead_head (named n) = refl
unhead_head (tensor A B) = refl
unhead_head (par A B) = refl
unhead_head (lolli A B) = refl
unhead_head (plus r) = ap plus (unrows_rows r)
unhead_head (with r) = ap with (unrows_rows r)

-- each label leads in both to types that R relates, or in neither to any
abbrev pub Leads : (Ty Name → Ty Name → Type 0) → Alternatives Name → Alternatives Name → Type 0
Leads R r q = (l : Name) → Both R (labelled l r) (labelled l q)

module _ {R : Ty Name → Ty Name → Type 0} where
  leads_rows : (r q : Alternatives Name) → Leads R r q → (l : Name) → Both R (trees.labelled same l (rows r)) (trees.labelled same l (rows q))
  leads_rows r q f l = rw (labelled_rows l r, labelled_rows l q) at (f l)

  pub alike_heads : {A B : Ty Name} → Alike R A B → Matching same R (head_by (shape A)) (head_by (shape B))
  alike_heads units = leaves
  alike_heads names = words
  alike_heads (tensors a b) = pairs a b
  alike_heads (pars a b) = pairs a b
  alike_heads (lollis a b) = pairs a b
  alike_heads (pluses {r = r} {q = q} f) = choices (leads_rows r q f)
  alike_heads (withs {r = r} {q = q} f) = choices (leads_rows r q f)

  leads_unrows : (r q : List (Name × Ty Name)) → ((l : Name) → Both R (trees.labelled same l r) (trees.labelled same l q)) → Leads R (unrows r) (unrows q)
  leads_unrows r q f l = rw (labelled_rows l (unrows r), labelled_rows l (unrows q), rows_unrows r, rows_unrows q) (f l)

  matching_alike : {h g : Head Name (Ty Name)} → Matching same R h g → Alike R (unhead h) (unhead g)
  matching_alike leaves = units
  matching_alike words = names
  matching_alike (pairs {k = k} {a = A} {b = B} {c = C} {d = D} x y) = go (eqb k 2) (eqb k 3)
    where
      go : (s t : Bool) → Alike R (cond s (tensor A B) (cond t (par A B) (lolli A B))) (cond s (tensor C D) (cond t (par C D) (lolli C D)))
      go true t = tensors x y
      go false true = pars x y
      go false false = lollis x y
  matching_alike (choices {k = k} {r = r} {q = q} f) = go (eqb k 5)
    where
      go : (s : Bool) → Alike R (cond s (plus (unrows r)) (with (unrows r))) (cond s (plus (unrows q)) (with (unrows q)))
      go true = pluses (leads_unrows r q f)
      go false = withs (leads_unrows r q f)

  pub heads_alike : (A B : Ty Name) → Matching same R (head_by (shape A)) (head_by (shape B)) → Alike R A B
  heads_alike A B m = subst (λ C. Alike R C B) (unhead_head A) (subst (λ D. Alike R (unhead (head_by (shape A))) D) (unhead_head B) (matching_alike m))
