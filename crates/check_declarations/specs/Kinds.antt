-- What the node of a type says of it, by its kind.
use Rattle.std.specs.Prelude.{ℕ, ◌≤◌, ◌≡◌, List, Bool, false, cond, ltb}
use Rattle.std.proofs.Common.{subst, arith}
use Rattle.notation.specs.Sizes.{type_terms}
use Rattle.notation.specs.declared.reading.TypeNode.{TypeNode}
use Rattle.read_tables.specs.Access.{NodeOf}
use Rattle.read_tables.specs.Decode.{type_in}
use Rattle.read_tables.specs.Roots.{TypeIn, FewerType, type_cases, at_kind}
use Rattle.read_tables.specs.Whole.{Tables}

-- what is shown of one kind, and then of the next ones
infixr 10 ◌next◌
abbrev pub ◌next◌ : {A B : Type 0} → A → B → A × B
a next b = (a, b)

-- tensor, par and lolli: a type with a left and a right part
abbrev pub is_infix : ℕ → Bool
is_infix k = cond (ltb k 2) false (ltb k 5)

module _ (s w : List ℕ) (i : ℕ) (n : TypeNode) where
  abbrev pub Says : ℕ → Type 0
  Says k = at_kind (type_cases s w n (type_in s w i)) k

  module _ (h : Tables s w × TypeIn s w i) (o : NodeOf w i n) where
    pub says : Says n.kind
    says = (o.says s h.0 h.1).says

    pub says_at : (k : ℕ) → n.kind ≡ k → Says k
    says_at k e = subst Says e says

-- the walk along the right parts of the type at `whole` has come to the type `at`, whose node is n
pub record Rightward (s w : List ℕ) (whole at : ℕ) (n : TypeNode) : Type 0 where
  pub stands : TypeIn s w at
  pub node : NodeOf w at n
  pub fewer : type_terms (type_in s w at) ≤ type_terms (type_in s w whole)

module _ {s w : List ℕ} {whole : ℕ} {n : TypeNode} where
  pub right_start : TypeIn s w whole → NodeOf w whole n → Rightward s w whole whole n
  right_start a o = record { stands = a; node = o; fewer = omega arith }

  pub right_on : {at : ℕ} {m : TypeNode} → Rightward s w whole at n → TypeIn s w n.second → FewerType s w (type_in s w at) n.second
      → NodeOf w n.second m → Rightward s w whole n.second m
  right_on t a f o = record { stands = a; node = o; fewer = omega (arith, f, t.fewer) }
