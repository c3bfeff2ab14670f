-- Refusal 8 by number.
use Rattle.std.specs.Prelude.{ℕ, ◌<◌, ◌≡◌, refl, List, [], ◌∷◌}
use Rattle.std.proofs.Common.{◌∙◌}
use Rattle.std.proofs.Math.Path.{ap}
use Rattle.notation.specs.Limits.{type_term_limit}
use Rattle.notation.specs.declared.reading.TypeNode.{TypeNode}
use Rattle.calculus.specs.Declarations.{bare_name, own_bare_name, bare_names}
use Rattle.read_tables.specs.declared.access.Labelled.{Labelled}
use Rattle.read_tables.specs.Access.{TypeOf, NodeOf, node_there}
use Rattle.read_tables.specs.Decode.{tally_in, type_in, type_declaration, proc_declaration, exec_declaration, script_in}
use Rattle.read_tables.specs.Roots.{Cases, Handlers, each_kind, type_cases, TypeIn}
use Rattle.read_tables.specs.Whole.{Tables}
use Rattle.check_declarations.specs.Kinds.{◌next◌, Says, says, says_at}
use Rattle.check_declarations.specs.Lowest.{Lowest, Lowered, lowered_as, lowered_none}
use Rattle.check_declarations.specs.Passes.{of_types, types_only}

module _ (s w : List ℕ) (i : ℕ) (n : TypeNode) where
  bare_one : Says s w i n 1 → n.second ∷ [] ≡ bare_name (type_in s w i)
  bare_one c = rw c refl

  abbrev Here : Cases
  Here = type_cases s w n (type_in s w i)

  abbrev NotBare : ℕ → Type 0
  NotBare k = (k ≡ 1 → ⊥) → [] ≡ bare_name (type_in s w i)

  others : Handlers Here NotBare
  others =
      (λ c h. rw c refl)
      next (λ c h. absurd (h refl))
      next (λ (b, d, f, g, c) h. rw c refl)
      next (λ (b, d, f, g, c) h. rw c refl)
      next (λ (b, d, f, g, c) h. rw c refl)
      next (λ (b, d, c) h. rw c refl)
      next (λ (b, d, c) h. rw c refl)
      next tt

  bare_none : Says s w i n n.kind → NotBare n.kind
  bare_none = each_kind Here NotBare others n.kind

module _ (s w : List ℕ) (t : Tables s w) (i : ℕ) (b : i < (tally_in w).types) {r : Labelled} (o : TypeOf w i r) where
  pub definition_there : r.number < type_term_limit
  definition_there = node_there s w t r.number (o.stands s t b)

  module _ {n : TypeNode} (a : NodeOf w r.number n) where
    abbrev there : Tables s w × TypeIn s w r.number
    there = (t, o.stands s t b)

    defined : bare_name (type_in s w r.number) ≡ own_bare_name (type_declaration s w i)
    unfolding type_declaration
    defined = ap (λ m. bare_name (type_in s w m)) o.holds.number

    pub bare_named : {l k : Lowest} → n.kind ≡ 1 → Lowered l (n.second ∷ []) k → Lowered l (own_bare_name (type_declaration s w i)) k
    bare_named e = lowered_as (bare_one s w r.number n (says_at s w r.number n there a 1 e) ∙ defined)

    pub bare_other : {l : Lowest} → (n.kind ≡ 1 → ⊥) → Lowered l (own_bare_name (type_declaration s w i)) l
    bare_other e = lowered_as (bare_none s w r.number n (says s w r.number n there a) e ∙ defined) lowered_none

-- only types have bare names
pub bare_names_lem : (s w : List ℕ) → of_types own_bare_name s w ≡ bare_names (script_in s w)
unfolding bare_names proc_declaration exec_declaration
bare_names_lem s w = types_only s w own_bare_name (λ i. refl) (λ i. refl)
