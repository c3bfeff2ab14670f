-- The names of a warning stand in the text at their offsets.
use Rattle.std.specs.Prelude.{ℕ, ◌≡◌}
use mathlib.Core.List.{List, [], ◌∷◌, map}
use Rattle.std.proofs.Math.Option.{Option, some, none}
use Rattle.std.proofs.Math.ListN.{get_elem?}
use Rattle.notation.specs.From.{NameFrom, ProcessFrom, BranchesFrom, DeclarationFrom, ScriptFrom}
use Rattle.notation.specs.Tree.{Name, Located, Alternatives, Proc, empty, send_unit, send_channel, send_label, cancel, spawn, recv_unit, recv_channel, recv_label, fwd, call, raise, try, Branches, branch, Declaration, declare_type, declare_proc, declare_exec}
use Rattle.calculus.specs.Program.{Context, Program, program_of}
use Rattle.calculus.specs.Types.{passing, choosing, labelled}
use Rattle.calculus.specs.Typing.{acting}
use Rattle.calculus.specs.Declarations.{gather}
use Rattle.calculus.specs.Warnings.{Missing, left_out, missing_on, on_typed, missing, branches_missing, Warning, warning_in, own_warnings, warnings}
use Rattle.theory_derivations.specs.Booleans.{each_cons}
use Rattle.theory_ends.specs.Lists.{found_in}
use Rattle.theory_preservation.specs.Each.{Each, each_none, each_append}

module _ (s : List ℕ) where
  abbrev Named : Missing → Type 0
  Named m = NameFrom s m.channel

  on_named : (c : Located) (ls : List Name) → NameFrom s c → Each Named (missing_on c ls)
  on_named c [] h = each_none Named
  on_named c (l ∷ ls) h = (each_cons Named (record { channel = c; label = l }) (missing_on c ls)).0 (h, on_named c ls h)

  typed_named : {X : Type 0} (o : Option X) (k : X → List Missing) → ((x : X) → Each Named (k x)) → Each Named (on_typed o k)
  typed_named none k h = each_none Named
  typed_named (some x) k h = h x

  module _ (p : Program) where
    mutual
      unfolding missing ProcessFrom

      missing_named : (P : Proc) (G : Context) → ProcessFrom s P → Each Named (missing p G P)
      missing_named (empty at) G h = each_none Named
      missing_named (send_unit at c P) G h = missing_named P _ h.1
      missing_named (send_channel at c a P) G h = typed_named (acting p c.name G) _ λ x. typed_named (passing x.type) _ λ t. missing_named P _ h.2
      missing_named (send_label at c l P) G h = typed_named (acting p c.name G) _ λ x. typed_named (choosing x.type) _ λ t. typed_named (labelled l.name t.labels) _ λ A. missing_named P _ h.2
      missing_named (cancel at c P) G h = missing_named P _ h.1
      missing_named (spawn x A P Q) G h = each_append Named _ _ (missing_named P _ h.2) (missing_named Q _ h.3)
      missing_named (recv_unit at c P) G h = missing_named P _ h.1
      missing_named (recv_channel at c x P) G h = typed_named (acting p c.name G) _ λ y. typed_named (passing y.type) _ λ t. missing_named P _ h.3
      missing_named (recv_label at c B) G h = typed_named (acting p c.name G) _ λ x. typed_named (choosing x.type) _ λ t. each_append Named _ _ (on_named c (left_out t.labels B) h.0) (branches_named B G c.name t.labels h.1)
      missing_named (fwd at x c) G h = each_none Named
      missing_named (call at q bracket xs ys) G h = each_none Named
      missing_named (raise at P) G h = missing_named P G h
      missing_named (try at P Q) G h = each_append Named _ _ (missing_named P _ h.0) (missing_named Q _ h.1)

      branches_named : (B : Branches) (G : Context) (c : Name) (r : Alternatives Name) → BranchesFrom s B → Each Named (branches_missing p G c r B)
      branches_named Branches.none G c r h = each_none Named
      branches_named (branch l P B) G c r h = each_append Named _ _ (typed_named (labelled l.name r) _ λ A. missing_named P _ h.1) (branches_named B G c r h.2)

    abbrev NamedIn : Warning → Type 0
    NamedIn w = NameFrom s w.process × NameFrom s w.channel

    in_named : (n : Located) (l : List Missing) → NameFrom s n → Each Named l → Each NamedIn (map (warning_in n) l)
    in_named n [] h f = each_none NamedIn
    in_named n (m ∷ l) h f = let g = (each_cons Named m l).1 f in (each_cons NamedIn (warning_in n m) (map (warning_in n) l)).0 ((h, g.0), in_named n l h g.1)

    own_named : (a : Declaration) → DeclarationFrom s a → Each NamedIn (own_warnings p a)
    unfolding DeclarationFrom
    own_named (declare_type n A) h = each_none NamedIn
    own_named (declare_proc n xs ys P) h = in_named n _ h.0 (missing_named P _ h.3)
    own_named (declare_exec n) h = each_none NamedIn

    script_named : (ds : List Declaration) → ScriptFrom s ds → Each NamedIn (gather (own_warnings p) ds)
    unfolding ScriptFrom
    script_named [] h = each_none NamedIn
    script_named (a ∷ r) h = each_append NamedIn _ _ (own_named a h.0) (script_named r h.1)

  pub warning_names : (ds : List Declaration) → ScriptFrom s ds → (k : ℕ) (w : Warning) → get_elem? (warnings ds) k ≡ some w → NameFrom s w.process × NameFrom s w.channel
  unfolding warnings
  warning_names ds h k w e = script_named (program_of ds) ds h w (found_in _ k e)
