-- What the rules ask of one term, by the kind of its node.
use Prim.Native.Nat.{ℕ, zero, suc, ◌+◌, ◌<◌, ◌≤◌}
use Rattle.std.specs.Prelude.{◌≡◌, refl, List, [], Bool, true, false, cond, ◌&&◌, eqb}
use Rattle.std.proofs.Common.{sym, ◌∙◌, subst, arith, eqb-true}
use Rattle.std.proofs.Math.Path.{ap}
use Rattle.std.proofs.lemmas.Bool.{eqb-false}
use Rattle.notation.specs.Limits.{text_limit, process_term_limit}
use Rattle.notation.specs.Reader.{name_in}
use Rattle.notation.specs.Sizes.{process_terms, branches_terms}
use Rattle.notation.specs.Token.{name_at}
use Rattle.notation.specs.Tables.{term_node}
use Rattle.notation.specs.Tree.{Proc}
use Rattle.notation.specs.declared.reading.TermNode.{TermNode}
use Rattle.calculus.specs.Named.{names}
use Rattle.calculus.specs.Types.{provided, used}
use Rattle.calculus.specs.Mentions.{spawn_takes, spawn_leaves, try_takes, never_both, exactly_one}
use Rattle.calculus.specs.Program.{slot, Context, Program}
use Rattle.calculus.specs.Typing.{bringing, names_of}
use Rattle.calculus.specs.Checking.{may_bring, check}
use Rattle.calculus.specs.Warnings.{missing}
use Rattle.read_tables.specs.Decode.{arguments_at, process_in}
use Rattle.read_tables.specs.Names.{CallAt}
use Rattle.read_tables.specs.Program.{plain_in, program_in}
use Rattle.read_tables.specs.Roots.{Cases, ◌or◌, at_kind, process_cases, TypeIn, ProcessIn, BranchesIn, branches_in}
use Rattle.check_terms.specs.Findings.{Finding, lacking, found, both, found_both}
use Rattle.check_terms.specs.Next.{Step, go, granted, resume, demand_asks}
use Rattle.check_terms.specs.Rules.{closes, passes, chooses, gives_up, receives, found_send_unit, found_send_channel, found_send_label, found_cancel, found_recv_unit, found_recv_channel}
use Rattle.check_processes.specs.Offers.{offered_by, choosing_with, branches_found, found_recv_label}
use Rattle.check_terms.specs.Endings.{forwards, calls, found_fwd, found_call}

-- the node n of the process at the pointer p
pub record NodeIn (s w : List ℕ) (p : ℕ) (n : TermNode) : Type 0 where
  pub says : at_kind (process_cases s w n (process_in s w p)) n.kind
  pub small : p < process_term_limit
  pub at : n.at < text_limit

-- ── the rule of each kind
unfoldable pub send_step : List ℕ → List ℕ → TermNode → Context → Step
send_step s w n G =
    cond (eqb n.kind 1) (closes (program_in s w) provided (name_at s n.first) G)
    (cond (eqb n.kind 2) (passes (program_in s w) (name_at s n.first) (name_at s n.second) G)
    (chooses (program_in s w) (name_at s n.first) (name_at s (n.second + 1)) G))

unfoldable pub receive_step : List ℕ → List ℕ → TermNode → Context → Step
receive_step s w n G =
    cond (eqb n.kind 6) (closes (program_in s w) used (name_at s n.first) G) (receives (program_in s w) (name_at s n.first) (name_at s n.second) G)

unfoldable pub end_step : List ℕ → List ℕ → TermNode → Context → Step
end_step s w n G =
    cond (eqb n.kind 9) (forwards (program_in s w) (name_at s n.first) (name_at s n.second) G)
    (calls (program_in s w) (name_at s n.first) (names_of (arguments_at s n.second).0) (names_of (arguments_at s n.second).1) G)

-- "None is mentioned in both"; the new name joins both halves
abbrev pub apart? : List ℕ → List ℕ → TermNode → Context → Bool
apart? s w n G = never_both (name_at s n.at) (process_in s w n.second) (process_in s w n.third) (names G)

abbrev pub joins? : List ℕ → List ℕ → TermNode → Context → Bool
joins? s w n G = may_bring (name_at s n.at) G (spawn_takes (name_at s n.at) (process_in s w n.second) G) && may_bring (name_at s n.at) G (spawn_leaves (name_at s n.at) (process_in s w n.second) G)

unfoldable pub spawn_step : List ℕ → List ℕ → TermNode → Context → Step
spawn_step s w n G =
    granted 13 (apart? s w n G) (granted 15 (joins? s w n G) (go G))

abbrev pub half_context : List ℕ → List ℕ → TermNode → Context → Bool → Context
half_context s w n G true = bringing (name_at s n.at) (slot provided (plain_in s w n.first)) (spawn_takes (name_at s n.at) (process_in s w n.second) G)
half_context s w n G false = bringing (name_at s n.at) (slot used (plain_in s w n.first)) (spawn_leaves (name_at s n.at) (process_in s w n.second) G)

-- a number of two neighbours is one of them
either : (Q : ℕ → Type 0) (j k : ℕ) → (k ≡ j → Q j) → (k ≡ suc j → Q (suc j)) → j ≤ k → k ≤ suc j → Q k
either Q j k f g l h = go (eqb k j) refl
  where
    go : (b : Bool) → eqb k j ≡ b → Q k
    go true e = subst Q (sym (eqb-true k j e)) (f (eqb-true k j e))
    go false e = let z = last e in subst Q (sym z) (g z)
      where
        last : eqb k j ≡ false → k ≡ suc j
        last e = omega (arith, l, h, eqb-false k j e)

-- there are no more kinds than cases
abbrev size : Cases → ℕ
size Cases.none = 0
size (C or r) = suc (size r)

within : (cs : Cases) (k : ℕ) → at_kind cs k → k < size cs
within Cases.none k e = absurd e
within (C or r) zero e = omega arith
within (C or r) (suc k) e = omega (arith, within r k e)

-- ── what is found of the process at a node, by the node's kind
module _ (s w : List ℕ) (p : ℕ) (n : TermNode) (t : NodeIn s w p n) where
  abbrev A : Proc
  A = process_in s w p

  abbrev P : Program
  P = program_in s w

  abbrev node : ℕ → TermNode
  node k = term_node k n.at n.first n.second n.third

  abbrev Said : ℕ → Type 0
  Said k = at_kind (process_cases s w n A) k

  -- what the node says, its kind being known
  said : (k : ℕ) → n.kind ≡ k → Said k
  said k z = subst Said z t.says

  abbrev Part : ℕ → Type 0
  Part x = (process_terms (process_in s w x) < process_terms A) × ProcessIn s w x

  -- two halves and the term itself
  abbrev HalvesOf : ℕ → ℕ → Type 0
  HalvesOf x y = suc (process_terms (process_in s w x)) + process_terms (process_in s w y) ≤ process_terms A

  -- the rule's step, then the rest
  abbrev Over : (Context → Step) → Type 0
  Over step = (G : Context) → found P G A ≡ resume n.at (step G) (λ H. found P H (process_in s w n.third))

  abbrev Sends : ℕ → Type 0
  Sends k = Part n.third × Over (send_step s w (node k))

  sends : (k : ℕ) → Said k → 1 ≤ k → k ≤ 3 → Sends k
  unfolding send_step
  sends zero e l h = absurd e
  sends (suc zero) (f, e) l h = (f, λ G. ap (found P G) e ∙ found_send_unit P G n.at _ _)
  sends (suc (suc zero)) (f, e) l h = (f, λ G. ap (found P G) e ∙ found_send_channel P G n.at _ _ _)
  sends (suc (suc (suc zero))) (f, e) l h = (f, λ G. ap (found P G) e ∙ found_send_label P G n.at _ _ _)
  sends (suc (suc (suc (suc k)))) e l h = absurd (omega (arith, h))

  pub send_at : 1 ≤ n.kind → n.kind ≤ 3 → Sends n.kind
  send_at = sends n.kind t.says

  abbrev Cancels : Type 0
  Cancels = Part n.third × Over (gives_up (name_at s n.first))

  cancels : Said 4 → Cancels
  cancels (f, e) = (f, λ G. ap (found P G) e ∙ found_cancel P G n.at _ _)

  pub cancel_at : n.kind ≡ 4 → Cancels
  cancel_at z = cancels (said 4 z)

  abbrev Receives : ℕ → Type 0
  Receives k = Part n.third × (k ≡ 7 → n.second < text_limit) × Over (receive_step s w (node k))

  receives_unit : Said 6 → Receives 6
  unfolding receive_step
  receives_unit (f, e) = (f, λ z. absurd (omega (arith, z)), λ G. ap (found P G) e ∙ found_recv_unit P G n.at _ _)

  receives_channel : Said 7 → Receives 7
  unfolding receive_step
  receives_channel (b, (f, e)) = (f, λ _. b, λ G. ap (found P G) e ∙ found_recv_channel P G n.at _ _ _)

  pub receive_at : 6 ≤ n.kind → n.kind ≤ 7 → Receives n.kind
  receive_at = either Receives 6 n.kind (λ z. receives_unit (said 6 z)) (λ z. receives_channel (said 7 z))

  abbrev Ends : ℕ → Type 0
  Ends k =
      ((k ≡ 9 → ⊥) → CallAt s n.second (arguments_at s n.second).0 (arguments_at s n.second).1)
      × ((G : Context) → found P G A ≡ resume n.at (end_step s w (node k) G) (λ _. lacking []))

  ends_fwd : Said 9 → Ends 9
  unfolding end_step
  ends_fwd e = (λ no. absurd (no refl), λ G. ap (found P G) e ∙ found_fwd P G n.at _ _)

  ends_call : Said 10 → Ends 10
  unfolding end_step
  ends_call (c, e) = (λ _. c, λ G. ap (found P G) e ∙ found_call P G n.at _ _ _ _)

  pub end_at : 9 ≤ n.kind → n.kind ≤ 10 → Ends n.kind
  end_at = either Ends 9 n.kind (λ z. ends_fwd (said 9 z)) (λ z. ends_call (said 10 z))

  abbrev Raises : Type 0
  Raises = Part n.third × ((G : Context) → found P G A ≡ found P G (process_in s w n.third))

  raises : Said 11 → Raises
  unfolding check missing
  raises (f, e) = (f, λ G. ap (found P G) e)

  pub raise_at : n.kind ≡ 11 → Raises
  raise_at z = raises (said 11 z)

  abbrev spawn_rest : Context → Finding
  spawn_rest H = both (found P (half_context s w n H true) (process_in s w n.second)) (found P (half_context s w n H false) (process_in s w n.third))

  abbrev Spawns : Type 0
  Spawns =
      TypeIn s w n.first × Part n.second × Part n.third × HalvesOf n.second n.third
      × ((G : Context) → found P G A ≡ resume n.at (spawn_step s w n G) spawn_rest)

  spawns : Said 5 → Spawns
  unfolding check missing spawn_step process_terms
  spawns (y, f, (g, e)) =
      (y, f, g, omega (arith, ap process_terms e), λ G. ap (found P G) e ∙ demand_asks 13 n.at (apart? s w n G) _ _ (granted 15 (joins? s w n G) (go G)) spawn_rest (demand_asks 15 n.at (joins? s w n G) _ _ (go G) spawn_rest (found_both P (half_context s w n G true) (half_context s w n G false) (process_in s w n.second) (process_in s w n.third))))

  pub spawn_at : n.kind ≡ 5 → Spawns
  spawn_at z = spawns (said 5 z)

  abbrev Chooses : Type 0
  Chooses =
      (branches_terms (branches_in s w n.second n.third) < process_terms A)
      × BranchesIn s w n.second n.third
      × ((G : Context) → found P G A ≡ choosing_with n.at (offered_by s w n G) (branches_found P G n.at (name_in s n.first) (branches_in s w n.second n.third)))

  choosing_one : Said 8 → Chooses
  choosing_one (l, f, e) = (l, f, λ G. ap (found P G) e ∙ found_recv_label P G n.at _ _)

  pub choose_at : n.kind ≡ 8 → Chooses
  choose_at z = choosing_one (said 8 z)

  abbrev try_rest : Context → Finding
  try_rest H = both (found P (try_takes (process_in s w n.second) H) (process_in s w n.second)) (found P (try_takes (process_in s w n.third) H) (process_in s w n.third))

  abbrev Tries : Type 0
  Tries =
      Part n.second × Part n.third × HalvesOf n.second n.third
      × ((G : Context) → found P G A ≡ resume n.at (granted 13 (exactly_one (process_in s w n.second) (process_in s w n.third) (names G)) (go G)) try_rest)

  tries : Said 12 → Tries
  unfolding check missing process_terms
  tries (f, (g, e)) =
      (f, g, omega (arith, ap process_terms e), λ G. ap (found P G) e ∙ demand_asks 13 n.at (exactly_one (process_in s w n.second) (process_in s w n.third) (names G)) _ _ (go G) try_rest (found_both P (try_takes (process_in s w n.second) G) (try_takes (process_in s w n.third) G) (process_in s w n.second) (process_in s w n.third)))

  thirteen_kinds : n.kind < 13
  thirteen_kinds = within (process_cases s w n A) n.kind t.says

  pub try_at : 12 ≤ n.kind → Tries
  try_at l = tries (said 12 (omega (arith, l, thirteen_kinds)))
