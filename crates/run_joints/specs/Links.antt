-- The tests of links, on numbers.
use Rattle.std.specs.Prelude.{ℕ, zero, suc, ◌≡◌, refl, Bool, true, false}
use mathlib.Core.List.{List, [], ◌∷◌, map}
use Rattle.std.proofs.Math.Path.{sym}
use Rattle.std.proofs.Common.{◌∙◌}
use Rattle.std.proofs.Math.Option.{Option, some, none}
use Rattle.std.proofs.Math.ListN.{get_elem?}
use Rattle.notation.specs.Tree.{Name, Ty, Proc}
use Rattle.calculus.specs.Named.{any_of}
use Rattle.calculus.specs.Configuration.{Process}
use Rattle.calculus.specs.WellFormed.{is_waiting}
use Rattle.theory_decision.specs.Lists.{implies, all_from, pairwise}
use Rattle.theory_decision.specs.Links as decision
use Rattle.run_words.specs.Raw.{RawProcess, RawConfig}
use Rattle.run_words.specs.Decode.{decoded_doing, decoded_process, decoded}
use Rattle.run_joints.specs.Answers.{Answers}
use Rattle.run_joints.specs.Tests.{all_map, any_map, all_from_map, pairwise_map, all_from_lem}

-- a kind is a waiting handler's
abbrev pub waits : ℕ → Bool
waits zero = false
waits (suc zero) = false
waits (suc (suc k)) = true

abbrev pub waits_here : Option RawProcess → Bool
waits_here none = false
waits_here (some p) = waits p.kind

-- a link leads to a waiting handler
abbrev pub leads : List RawProcess → Option ℕ → Bool
leads l none = true
leads l (some h) = waits_here (get_elem? l h)

abbrev pub links_to : ℕ → RawProcess → Bool
links_to h p = decision.is_link h p.link

-- if a process of a kind waits at a place, a process links to it
abbrev pub linked_if_waiting : List RawProcess → ℕ → ℕ → Bool
linked_if_waiting l i kind = implies (waits kind) (any_of (links_to i) l)

-- ── what each clause asks of a process, or of two
abbrev pub leading : RawConfig → ℕ → RawProcess → Bool
leading C _ p = leads C.processes p.link

abbrev pub linked : RawConfig → ℕ → RawProcess → Bool
linked C i p = linked_if_waiting C.processes i p.kind

abbrev pub apart : RawProcess → RawProcess → Bool
apart p q = decision.links_apart p.link q.link

-- ── they are those of the configuration that the numbers stand for
module _ (name_of : ℕ → Name) (type_of : ℕ → Ty Name) (term_of : ℕ → Proc) where
  waits_decoded : (kind pointer : ℕ) → is_waiting (decoded_doing name_of type_of term_of kind pointer) ≡ waits kind
  waits_decoded zero pointer = refl
  waits_decoded (suc zero) pointer = refl
  waits_decoded (suc (suc k)) pointer = refl

  here_decoded : (l : List RawProcess) (h : ℕ) → decision.waits (get_elem? (map (decoded_process name_of type_of term_of) l) h) ≡ waits_here (get_elem? l h)
  here_decoded [] h = refl
  here_decoded (p ∷ l) zero = waits_decoded p.kind p.pointer
  here_decoded (p ∷ l) (suc h) = here_decoded l h

  leads_decoded : (C : RawConfig) (o : Option ℕ) → decision.leads (decoded name_of type_of term_of C) o ≡ leads C.processes o
  leads_decoded C none = refl
  leads_decoded C (some h) = here_decoded C.processes h

  linked_decoded : (C : RawConfig) (i : ℕ) (p : RawProcess)
      → implies (is_waiting (decoded_doing name_of type_of term_of p.kind p.pointer)) (any_of (λ (q : Process). decision.is_link i q.link) (map (decoded_process name_of type_of term_of) C.processes)) ≡ linked C i p
  linked_decoded C i p j =
      implies (waits_decoded p.kind p.pointer j) (any_map (decoded_process name_of type_of term_of) (λ q. decision.is_link i q.link) (links_to i) (λ q. refl) C.processes j)

module _ (C : RawConfig) {r : Bool} where
  pub answers_lead : all_from (leading C) 0 C.processes ≡ r → Answers r decision.links_lead C
  unfolding decision.links_lead
  answers_lead e = record {
    is = λ n t m. sym (
        all_map (decoded_process n t m) _ (leading C 0) (λ p. leads_decoded n t m C p.link) C.processes
        ∙ all_from_lem (leading C 0) 0 C.processes ∙ e
        );
  }

  pub answers_linked : all_from (linked C) 0 C.processes ≡ r → Answers r decision.handlers_linked C
  unfolding decision.handlers_linked
  answers_linked e = record { is = λ n t m. sym (all_from_map (decoded_process n t m) _ (linked C) (linked_decoded n t m C) 0 C.processes ∙ e) }

  pub answers_once : pairwise apart [] C.processes ≡ r → Answers r decision.linked_once C
  unfolding decision.linked_once
  answers_once e = record { is = λ n t m. sym (pairwise_map (decoded_process n t m) _ [] C.processes ∙ e) }
