-- A channel by its name is the one at the first position that has the name.
use Rattle.std.specs.Prelude.{ℕ, ◌≡◌, false, set}
use Rattle.std.proofs.Math.Path.{refl, sym, ap}
use Rattle.std.proofs.Common.{◌∙◌}
use mathlib.Core.List.{List, [], ◌∷◌}
use Rattle.std.proofs.Math.Bool.{cond}
use Rattle.std.proofs.Math.Option.{some, none}
use Rattle.notation.specs.Tree.{Name}
use Rattle.notation.specs.Token.{name_at}
use Rattle.calculus.specs.Named.{lookup, without, changed}
use Rattle.calculus.specs.Configuration.{End}
use Rattle.run_words.specs.Lists.{All, remove_at}
use Rattle.run_words.specs.Raw.{RawEnd}
use Rattle.run_words.specs.SearchLaws.{First, here, later}
use Rattle.check_contexts.specs.Held.{end_is, ends_in, is_named}

module _ (s w : List ℕ) (at : ℕ) where
  abbrev name : Name
  name = name_at s at

  -- ── where it is
  pub there_lookup : {l : List RawEnd} {k : ℕ} {e : RawEnd} → First (is_named s at) l k e → lookup name (ends_in s w l) ≡ some (end_is s w e).1
  unfolding lookup
  there_lookup (here {x} {l} r) = ap (λ t. cond t (some (end_is s w x).1) (lookup name (ends_in s w l))) r
  there_lookup (later {x} {y} {l} r h) = ap (λ t. cond t (some (end_is s w y).1) (lookup name (ends_in s w l))) r ∙ there_lookup h

  pub there_without : {l : List RawEnd} {k : ℕ} {e : RawEnd} → First (is_named s at) l k e → ends_in s w (remove_at k l) ≡ without name (ends_in s w l)
  unfolding without
  there_without (here {x} {l} r) = sym (ap (λ t. cond t (ends_in s w l) (end_is s w x ∷ without name (ends_in s w l))) r)
  there_without (later {x} {y} {l} r h) = ap (◌∷◌ (end_is s w y)) (there_without h) ∙ sym (ap (λ t. cond t (ends_in s w l) (end_is s w y ∷ without name (ends_in s w l))) r)

  module _ (f : End → End) where
    pub there_changed : {l : List RawEnd} {k : ℕ} {e : RawEnd} (d : RawEnd) → First (is_named s at) l k e → end_is s w d ≡ ((end_is s w e).0, f (end_is s w e).1) → ends_in s w (set l k d) ≡ changed name f (ends_in s w l)
    unfolding changed
    there_changed d (here {x} {l} r) q =
        ap (λ z. z ∷ ends_in s w l) q ∙ sym (ap (λ t. cond t (((end_is s w x).0, f (end_is s w x).1) ∷ ends_in s w l) (end_is s w x ∷ changed name f (ends_in s w l))) r)
    there_changed d (later {x} {y} {l} r h) q =
        ap (◌∷◌ (end_is s w y)) (there_changed d h q) ∙ sym (ap (λ t. cond t (((end_is s w y).0, f (end_is s w y).1) ∷ ends_in s w l) (end_is s w y ∷ changed name f (ends_in s w l))) r)

  -- ── where it is not
  abbrev Absent : List RawEnd → Type 0
  Absent l = All (λ e. is_named s at e ≡ false) l

  pub absent_lookup : (l : List RawEnd) → Absent l → lookup name (ends_in s w l) ≡ none
  unfolding lookup
  absent_lookup [] a = refl
  absent_lookup (e ∷ l) a = ap (λ t. cond t (some (end_is s w e).1) (lookup name (ends_in s w l))) a.0 ∙ absent_lookup l a.1

  pub absent_without : (l : List RawEnd) → Absent l → ends_in s w l ≡ without name (ends_in s w l)
  unfolding without
  absent_without [] a = refl
  absent_without (e ∷ l) a = ap (◌∷◌ (end_is s w e)) (absent_without l a.1) ∙ sym (ap (λ t. cond t (ends_in s w l) (end_is s w e ∷ without name (ends_in s w l))) a.0)

  pub absent_changed : (f : End → End) (l : List RawEnd) → Absent l → ends_in s w l ≡ changed name f (ends_in s w l)
  unfolding changed
  absent_changed f [] a = refl
  absent_changed f (e ∷ l) a =
      ap (◌∷◌ (end_is s w e)) (absent_changed f l a.1) ∙ sym (ap (λ t. cond t (((end_is s w e).0, f (end_is s w e).1) ∷ ends_in s w l) (end_is s w e ∷ changed name f (ends_in s w l))) a.0)
