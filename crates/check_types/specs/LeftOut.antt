-- The labels that branches leave out, sought by their numbers.
use Rattle.std.specs.Prelude.{ℕ, ◌+◌, ◌-◌, ◌≤◌, ◌≡◌, refl, List, [], ◌∷◌, ◌++◌, Bool, true, false, cond}
use Rattle.std.specs.Prelude.{Option, Some, None, is_some}
use Rattle.std.proofs.Common.{sym, ◌∙◌, subst, arith}
use Rattle.std.proofs.Math.Path.{ap}
use Rattle.std.proofs.Math.Option.{map}
use Rattle.std.proofs.Math.ListN.{get_elem?}
use Rattle.notation.specs.Limits.{type_term_limit}
use Rattle.notation.specs.Tables.{Area}
use Rattle.notation.specs.Token.{name_at}
use Rattle.notation.specs.Tree.{Name, plains}
use Rattle.calculus.specs.Named as named
use Rattle.calculus.specs.Steps.{branch_of}
use Rattle.calculus.specs.Warnings.{left_out}
use Rattle.read_tables.specs.declared.access.Labelled.{Labelled}
use Rattle.read_tables.specs.Access.{AlternativeOf}
use Rattle.read_tables.specs.Decode.{process_in}
use Rattle.read_tables.specs.Roots.{AlternativesIn, alternatives_in, branches_in}
use Rattle.read_tables.specs.Search.{place_of}
use Rattle.read_tables.specs.Whole.{Tables}
use Rattle.check_types.specs.Alternatives.{Begins, first_there, first_in}
use Rattle.check_types.specs.Branches.{BranchIs}
use Rattle.check_types.specs.Sought.{Reached, there, past, Sought, SoughtOn, sought_none, sought_start, sought_first, sought_on, sought_end}
use Rattle.std.specs.declared.ops.ControlFlow.{ControlFlow}
use Rattle.std.specs.declared.ops.ControlFlow.TheVariants.{Continue, Break}

-- the code's answer
abbrev pub out_in : List ℕ → ControlFlow ℕ ℕ → Reached Name
out_in s (Break x) = there (name_at s (x + 1))
out_in s (Continue j) = past j

-- ── one label, if there is no branch for it
abbrev unless_there : Bool → Name → List Name
unless_there b l = cond b [] (l ∷ [])

-- the label at `at`, with the m branches before the place d
abbrev pub own_left_out : List ℕ → List ℕ → ℕ → ℕ → ℕ → List Name
own_left_out s w at d m = unless_there (named.is_some (branch_of (name_at s (at + 1)) (branches_in s w d m))) (name_at s (at + 1))

module _ {s w : List ℕ} {at d m : ℕ} {r : Option ℕ} (b : BranchIs s w at d m r) where
  there_is : (q : Option ℕ) → named.is_some (map (λ x. process_in s w x) (place_of q)) ≡ is_some q
  there_is (Some x) = refl
  there_is None = refl

  own_sought : {q : Bool} → q ≡ is_some r → {k : ℕ} (o : ControlFlow ℕ ℕ) → Sought (unless_there q (name_at s (at + 1))) k (out_in s o) → Sought (own_left_out s w at d m) k (out_in s o)
  own_sought e {k} o t = subst (λ q. Sought (unless_there q (name_at s (at + 1))) k (out_in s o)) (e ∙ sym (ap named.is_some b.is ∙ there_is r)) t

  pub own_not : true ≡ is_some r → (k : ℕ) → Sought (own_left_out s w at d m) k (out_in s (Continue k))
  own_not e k = own_sought e (Continue k) (sought_none k)

  module _ (e : false ≡ is_some r) (k : ℕ) where
    pub own_here : k ≡ 0 → Sought (own_left_out s w at d m) k (out_in s (Break at))
    own_here z = own_sought e (Break at) (record { is = ap (get_elem? (name_at s (at + 1) ∷ [])) z })

    pub own_past : (k ≡ 0 → ⊥) → Sought (own_left_out s w at d m) k (out_in s (Continue (k - 1)))
    own_past z = own_sought e (Continue (k - 1)) (record { is = omega arith })

-- ── a search that has come to n alternatives before the place e, with k labels to pass over
module _ (s w : List ℕ) (e₀ n₀ d m k₀ : ℕ) where
  abbrev out : ℕ → ℕ → List Name
  out e n = left_out (plains (alternatives_in s w e n)) (branches_in s w d m)

  pub record Leaving (e n k : ℕ) : Type 0 where
    pub alternatives : AlternativesIn s w e n
    pub rest : SoughtOn (out e₀ n₀) k₀ (out e n) k

  pub leave_start : AlternativesIn s w e₀ n₀ → Leaving e₀ n₀ k₀
  leave_start a = record { alternatives = a; rest = sought_start (out e₀ n₀) k₀ }

  module _ (e n k : ℕ) (l : Leaving e n k) (h : n ≡ 0 → ⊥) where
    pub leave_there : Tables s w → Area w × (1 ≤ e) × (e ≤ type_term_limit)
    leave_there = first_there s w e n l.alternatives h

    -- the first label that is left
    module _ (a : Labelled) (o : AlternativeOf w e a) where
      first : Begins s w e n a
      first = first_in s w e n l.alternatives h a o

      in_parts : (b : Bool) (x : Name) (ls : List Name) → cond b ls (x ∷ ls) ≡ unless_there b x ++ ls
      in_parts true x ls = refl
      in_parts false x ls = refl

      begins : out e n ≡ own_left_out s w a.at d m ++ out (e - 1) (n - 1)
      unfolding left_out
      begins = ap (λ x. left_out x (branches_in s w d m)) first.is ∙ in_parts (named.is_some (branch_of (name_at s (a.at + 1)) (branches_in s w d m))) (name_at s (a.at + 1)) (out (e - 1) (n - 1))

      pub leave_found : (x : ℕ) → Sought (own_left_out s w a.at d m) k (out_in s (Break x)) → Sought (out e₀ n₀) k₀ (out_in s (Break x))
      leave_found x t = sought_first l.rest (own_left_out s w a.at d m) (out (e - 1) (n - 1)) begins t refl

      pub leave_on : (j : ℕ) → Sought (own_left_out s w a.at d m) k (out_in s (Continue j)) → Leaving (e - 1) (n - 1) j
      leave_on j t = record { alternatives = first.rest; rest = sought_on l.rest (own_left_out s w a.at d m) (out (e - 1) (n - 1)) begins t refl }

  pub leave_end : (e n k : ℕ) → Leaving e n k → n ≡ 0 → Sought (out e₀ n₀) k₀ (out_in s (Continue k))
  unfolding left_out plains
  leave_end e n k l z = sought_end l.rest (ap (out e) z)
