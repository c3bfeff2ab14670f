-- A label found in a list of alternatives.
use Rattle.std.specs.Prelude.{ℕ, zero, suc, ◌+◌, ◌-◌, ◌<◌, ◌≤◌, ◌≡◌, refl, List, [], ◌∷◌, Bool, true, false, length, drop, get_or}
use Rattle.std.specs.Prelude.{Option as CodeOption, Some, None}
use Rattle.std.proofs.Common.{sym, ◌∙◌, arith}
use Rattle.std.proofs.Math.Path.{ap, subst}
use Rattle.std.proofs.Math.Bool.{cond}
use Rattle.std.proofs.Math.Option.{some, map}
use Rattle.std.proofs.Math.Seq.{take-nil}
use Rattle.trees.specs.Heads as trees
use Rattle.notation.specs.Bytes.{same}
use Rattle.notation.specs.Token.{name_at, name_end}
use Rattle.notation.specs.Tree.{Name, plains}
use Rattle.calculus.specs.Types.{labelled}
use Rattle.read_tables.specs.declared.access.Labelled.{Labelled}
use Rattle.read_tables.specs.Access.{Holds}
use Rattle.read_tables.specs.Decode.{pair_of, alternative_at}
use Rattle.read_tables.specs.Program.{plain_in}
use Rattle.read_tables.specs.Roots.{TypeIn, AlternativesIn, alternatives_in, first_alternative}
use Rattle.read_tables.specs.Search.{place_of}
use Rattle.check_types.specs.Numbers.{rows_in, number_for}

-- the label at `at`, among the n alternatives before the place e, leads to r
pub record LeadsTo (s w : List ℕ) (at e n : ℕ) (r : CodeOption ℕ) : Type 0 where
  pub is : labelled (name_at s (at + 1)) (plains (alternatives_in s w e n)) ≡ map (plain_in s w) (place_of r)
  pub type : (j : ℕ) → r ≡ Some j → TypeIn s w j
  pub number : trees.labelled same (name_at s (at + 1)) (rows_in s w e n) ≡ map (number_for s w) (place_of r)

-- where r leads, a type stands
abbrev typed : List ℕ → List ℕ → CodeOption ℕ → Type 0
typed s w (Some j) = TypeIn s w j
typed s w None = Unit

-- no name stands past the end
dropped : (s : List ℕ) (i : ℕ) → length s ≤ i → drop i s ≡ []
dropped [] zero h = refl
dropped [] (suc i) h = refl
dropped (x ∷ s) zero h = absurd (omega arith)
dropped (x ∷ s) (suc i) h = dropped s i (omega arith)

beyond : (s : List ℕ) (i : ℕ) → length s ≤ i → name_at s i ≡ []
unfolding name_at
beyond s i h = rw (dropped s i h) (take-nil (name_end s i - i))

pub both_beyond : (s : List ℕ) (i j : ℕ) → length s ≤ i → length s ≤ j → name_at s i ≡ name_at s j
both_beyond s i j h k = beyond s i h ∙ sym (beyond s j k)

-- ── a search over the pairs of a table
-- the pair of the word i from the word `table` on
abbrev pub pair_in : List ℕ → ℕ → ℕ → ℕ × ℕ
pair_in w table i = pair_of (get_or w (table + i) 0)

-- the number of the first of n pairs before the place e whose label has the name
unfoldable pub first_labelled : List ℕ → (ℕ → ℕ × ℕ) → Name → ℕ → ℕ → CodeOption ℕ
first_labelled s pair name e zero = None
first_labelled s pair name e (suc n) = cond (same name (name_at s ((pair (e - 1)).0 + 1))) (Some (pair (e - 1)).1) (first_labelled s pair name (e - 1) n)

module _ (s : List ℕ) (pair : ℕ → ℕ × ℕ) (name : Name) (e n : ℕ) where
  -- as far as the search has come: what is left decides
  pub record Seeking (k : ℕ) : Type 0 where
    pub rest : first_labelled s pair name e n ≡ first_labelled s pair name (e - k) (n - k)

  pub seeking_none : Seeking 0
  seeking_none = record { rest = λ j. first_labelled s pair name (x j) (y j) }
    where
      x : e ≡ e - 0
      x = omega arith

      y : n ≡ n - 0
      y = omega arith

  module _ {k : ℕ} (t : Seeking k) where
    -- a test of the label k
    module _ (l : k < n) {p : Labelled} (h : Holds p (pair (e - k - 1))) {b : Bool} (u : b ≡ same name (name_at s (p.at + 1))) where
      tested : (q : Bool) → b ≡ q → first_labelled s pair name e n ≡ cond q (Some (pair (e - k - 1)).1) (first_labelled s pair name (e - (k + 1)) (n - (k + 1)))
      unfolding first_labelled
      tested q z =
          let x : e - k - 1 ≡ e - (k + 1) = omega arith in
          let y : n - k ≡ suc (n - (k + 1)) = omega arith in
          t.rest ∙ ap (first_labelled s pair name (e - k)) y
          ∙ λ j. cond ((ap (λ i. same name (name_at s (i + 1))) (sym h.at) ∙ sym u ∙ z) j) (Some (pair (e - k - 1)).1) (first_labelled s pair name (x j) (n - (k + 1)))

      pub seeking_found : b ≡ true → Some p.number ≡ first_labelled s pair name e n
      seeking_found z = ap Some h.number ∙ sym (tested true z)

      pub seeking_on : b ≡ false → Seeking (k + 1)
      seeking_on z = record { rest = tested false z }

    pub seeking_end : n ≤ k → None ≡ first_labelled s pair name e n
    unfolding first_labelled
    seeking_end l = let y : n - k ≡ 0 = omega arith in sym (t.rest ∙ ap (first_labelled s pair name (e - k)) y)

-- ── what it finds in a list of alternatives
module _ (s w : List ℕ) where
  pub alternatives_below : (e n : ℕ) → AlternativesIn s w e n → n ≤ e
  alternatives_below e zero a = omega arith
  alternatives_below e (suc n) a = let f = first_alternative s w e n a in omega (arith, f.past, alternatives_below (e - 1) n f.rest)

  module _ (at : ℕ) where
    abbrev name : Name
    name = name_at s (at + 1)

    -- the first of them: found, or passed over
    module _ (e n i : ℕ) (t : TypeIn s w i) {r : CodeOption ℕ} (l : LeadsTo s w at (e - 1) n r) where
      leads_first : (b : Bool) → (cond b (some (plain_in s w i)) (labelled name (plains (alternatives_in s w (e - 1) n))) ≡ map (plain_in s w) (place_of (cond b (Some i) r)))
          × ((j : ℕ) → cond b (Some i) r ≡ Some j → TypeIn s w j)
          × (cond b (some (number_for s w i)) (trees.labelled same name (rows_in s w (e - 1) n)) ≡ map (number_for s w) (place_of (cond b (Some i) r)))
      leads_first true = (refl, λ j q. subst (typed s w) q t, refl)
      leads_first false = (l.is, l.type, l.number)

    pub leads : (e n : ℕ) → AlternativesIn s w e n → LeadsTo s w at e n (first_labelled s (alternative_at w) name e n)
    unfolding labelled plains trees.labelled rows_in first_labelled
    leads e zero a = record { is = refl; type = λ j q. subst (typed s w) q tt; number = refl }
    leads e (suc n) a =
        let p = alternative_at w (e - 1) in
        let f = first_alternative s w e n a in
        let l = leads_first e n p.1 f.type (leads (e - 1) n f.rest) (same name (name_at s (p.0 + 1))) in
        record { is = l.0; type = l.1; number = l.2 }
