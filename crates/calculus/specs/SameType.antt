-- The test that `check` makes of two types. It need not be believed: that it is exact is a law (`one_iff`, theory_derivations/specs/OneType.antt).
use Rattle.std.specs.Prelude.{◌≡◌, refl, List, [], ◌∷◌, ◌++◌, Bool, true, false, T}
use Rattle.std.proofs.Common.{sym, ◌∙◌, ap, subst, true≢false, eq-eqb}
use Rattle.std.proofs.Math.Bool.{So}
use Rattle.trees.specs.Heads as trees
use Rattle.trees.specs.Heads.{Head}
use Rattle.trees.proofs.Decide.{equal?}
use Rattle.notation.proofs.ByteTables.{same→eq}
use Rattle.notation.specs.Bytes.{same}
use Rattle.notation.specs.Tree.{Name, Ty, unit, named, tensor, par, lolli, plus, with, Alternatives, alternative, Ty-discrete}
use Rattle.calculus.specs.Types.{Shape, leaf, word, pair, choice, shape, unfolded}

-- ── a type as a tree: its head is that of what its name stands for
abbrev pub rows : Alternatives Name → List (Name × Ty Name)
rows Alternatives.none = []
rows (alternative l A r) = (l, A) ∷ rows r

abbrev pub head_by : Shape → Head Name (Ty Name)
head_by leaf = trees.leaf
head_by (word n) = trees.word n
head_by (pair k A B) = trees.pair k A B
head_by (choice k r) = trees.choice k (rows r)

abbrev pub head_of : List (Name × Ty Name) → Ty Name → Head Name (Ty Name)
head_of types A = head_by (shape (unfolded types A))

-- ── the parts of a type, itself among them; those of all declared types
unfoldable mutual
  pub parts : Ty Name → List (Ty Name)
  parts unit = unit ∷ []
  parts (named n) = named n ∷ []
  parts (tensor A B) = tensor A B ∷ (parts A ++ parts B)
  parts (par A B) = par A B ∷ (parts A ++ parts B)
  parts (lolli A B) = lolli A B ∷ (parts A ++ parts B)
  parts (plus r) = plus r ∷ parts_below r
  parts (with r) = with r ∷ parts_below r

  pub parts_below : Alternatives Name → List (Ty Name)
  parts_below Alternatives.none = []
  parts_below (alternative l A r) = parts A ++ parts_below r

unfoldable pub declared_parts : List (Name × Ty Name) → List (Ty Name)
declared_parts [] = []
declared_parts (e ∷ l) = parts e.1 ++ declared_parts l

-- ── names
pub same_sound : (a b : Name) → So (same a b) → a ≡ b
same_sound a b e = same→eq a b (subst T (sym e) tt)

pub same_refl : (a : Name) → So (same a a)
unfolding same
same_refl [] = refl
same_refl (x ∷ xs) = rw (eq-eqb x x refl, same) (same_refl xs)

abbrev pub same_name? : (a b : Name) (t : Bool) → same a b ≡ t → Dec (a ≡ b)
same_name? a b true e = yes (same_sound a b e)
same_name? a b false e = no (λ z. true≢false (sym (same_refl a) ∙ ap (same a) z ∙ e))

-- the comparison of trees, over all parts that it may come to
unfoldable pub same_type : List (Name × Ty Name) → Ty Name → Ty Name → Bool
same_type types A B = equal? same same_sound same_refl (Ty-discrete (λ a b. same_name? a b (same a b) refl)) (head_of types) ((parts A ++ parts B) ++ declared_parts types) A B
