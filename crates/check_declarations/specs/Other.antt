-- Refusal 9: whether a type has @, -o or &, or a name among those given, by its node.
use Rattle.std.specs.Prelude.{ℕ, ◌-◌, ◌<◌, ◌≡◌, refl, List, Bool, true}
use Rattle.std.proofs.Math.Path.{sym}
use Rattle.std.proofs.Common.{◌∙◌, ap}
use Rattle.std.proofs.Math.Bool.{false, ◌||◌}
use Rattle.notation.specs.Bytes.{same}
use Rattle.notation.specs.Sizes.{type_terms, alternatives_terms}
use Rattle.notation.specs.Token.{name_at}
use Rattle.notation.specs.Tree.{Name, plain, plains}
use Rattle.notation.specs.declared.reading.TypeNode.{TypeNode}
use Rattle.calculus.specs.Declarations.{has_other, have_other}
use Rattle.calculus.specs.Named.{any_of}
use Rattle.read_tables.specs.declared.access.Labelled.{Labelled}
use Rattle.read_tables.specs.Access.{AlternativeOf, NodeOf}
use Rattle.read_tables.specs.Decode.{alternative_at, type_in}
use Rattle.read_tables.specs.Program.{plain_in}
use Rattle.read_tables.specs.Roots.{Cases, Handlers, each_kind, type_cases, FewerType, TypeIn, AlternativesIn, alternatives_in}
use Rattle.read_tables.specs.Whole.{Tables}
use Rattle.check_declarations.specs.Kinds.{◌next◌, Says, says, says_at, Rightward, right_start, right_on}
use Rattle.check_declarations.specs.Listed.{down, by_steps}
use Rattle.check_declarations.specs.Reach.{any_below}

module _ (s w : List ℕ) (bad : List Name) where
  abbrev pub other_in : ℕ → Bool
  other_in i = has_other bad (plain_in s w i)

  -- that of the alternative k before the place e
  abbrev pub alternative_other : ℕ → ℕ → Bool
  alternative_other e k = other_in (alternative_at w (e - k - 1)).1

  pub alternatives_other : (e n : ℕ) → any_below (alternative_other e) n ≡ have_other bad (plains (alternatives_in s w e n))
  unfolding has_other plain any_below
  alternatives_other e n = sym (by_steps down ◌||◌ false (λ x. other_in (alternative_at w (x - 1)).1) (λ x m. have_other bad (plains (alternatives_in s w x m))) (λ x. refl) (λ x m. refl) n e)

  pub alternative_tested : (e k : ℕ) {t : Labelled} {r : Bool} → AlternativeOf w (e - k) t → r ≡ other_in t.number → r ≡ alternative_other e k
  alternative_tested e k o q = q ∙ ap other_in o.holds.number

  module _ (i : ℕ) (n : TypeNode) where
    abbrev Here : Cases
    Here = type_cases s w n (type_in s w i)

    -- of no kind but 1, a name, * and +: it has one of @, -o and &
    abbrev HasOther : ℕ → Type 0
    HasOther k = (k ≡ 0 → ⊥) → (k ≡ 1 → ⊥) → (k ≡ 2 → ⊥) → (k ≡ 5 → ⊥) → true ≡ other_in i

    others : Handlers Here HasOther
    unfolding has_other plain
    others =
        (λ e a b c d. absurd (a refl))
        next (λ e a b c d. absurd (b refl))
        next (λ e a b c d. absurd (c refl))
        next (λ (x, y, f, g, e) a b c d. rw e refl)
        next (λ (x, y, f, g, e) a b c d. rw e refl)
        next (λ e a b c d. absurd (d refl))
        next (λ (x, f, e) a b c d. rw e refl)
        next tt

-- ── as far as the walk along right parts has come: what the type here has is what the whole has
pub record Otherwise (s w : List ℕ) (bad : List Name) (whole at : ℕ) (n : TypeNode) : Type 0 where
  pub right : Rightward s w whole at n
  pub is : other_in s w bad at ≡ other_in s w bad whole

module _ {s w : List ℕ} {bad : List Name} {whole : ℕ} where
  pub other_start : {n : TypeNode} → TypeIn s w whole → NodeOf w whole n → Otherwise s w bad whole whole n
  other_start a o = record { right = right_start a o; is = refl }

  module _ {at : ℕ} {n : TypeNode} (t : Otherwise s w bad whole at n) (u : Tables s w) where
    abbrev said : (k : ℕ) → n.kind ≡ k → Says s w at n k
    said = says_at s w at n (u, t.right.stands) t.right.node

    module _ (e : n.kind ≡ 2) where
      pub pair_parts : FewerType s w (type_in s w at) n.first × FewerType s w (type_in s w at) n.second × TypeIn s w n.first × TypeIn s w n.second
      pair_parts = let (x, y, f, g, q) = said 2 e in (x, y, f, g)

      other_pair : (other_in s w bad n.first || other_in s w bad n.second) ≡ other_in s w bad whole
      unfolding has_other plain
      other_pair = let (x, y, f, g, q) = said 2 e in (rw q refl) ∙ t.is

      -- the left part has it, or the right one decides
      module _ {x : Bool} (f : x ≡ other_in s w bad n.first) where
        abbrev left : {b : Bool} → x ≡ b → (b || other_in s w bad n.second) ≡ other_in s w bad whole
        left z = ap (λ c. c || other_in s w bad n.second) (sym z ∙ f) ∙ other_pair

        pub other_here : x ≡ true → true ≡ other_in s w bad whole
        other_here z = left z

        pub other_on : {m : TypeNode} → x ≡ false → NodeOf w n.second m → Otherwise s w bad whole n.second m
        other_on z o = record { right = right_on t.right pair_parts.3 pair_parts.1 o; is = left z }

    pub other_unit : n.kind ≡ 0 → false ≡ other_in s w bad whole
    unfolding has_other plain
    other_unit e = (rw (said 0 e) refl) ∙ t.is

    pub other_name : {r : Bool} → n.kind ≡ 1 → r ≡ any_of (same (name_at s n.second)) bad → r ≡ other_in s w bad whole
    unfolding has_other plain
    other_name e q = (rw (said 1 e) q) ∙ t.is

    module _ (e : n.kind ≡ 5) where
      pub choice_parts : (alternatives_terms (alternatives_in s w n.first n.second) < type_terms (type_in s w at)) × AlternativesIn s w n.first n.second
      choice_parts = let (x, f, q) = said 5 e in (x, f)

      pub other_choice : {r : Bool} → r ≡ have_other bad (plains (alternatives_in s w n.first n.second)) → r ≡ other_in s w bad whole
      unfolding has_other plain
      other_choice h = let (x, f, q) = said 5 e in (rw q h) ∙ t.is

    pub other_mark : (n.kind ≡ 0 → ⊥) → (n.kind ≡ 1 → ⊥) → (n.kind ≡ 2 → ⊥) → (n.kind ≡ 5 → ⊥) → true ≡ other_in s w bad whole
    other_mark a b c d =
        each_kind (Here s w bad at n) (HasOther s w bad at n) (others s w bad at n) n.kind
        (says s w at n (u, t.right.stands) t.right.node) a b c d
        ∙ t.is
