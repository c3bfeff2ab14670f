-- Links: each leads to a waiting handler, and each waiting handler is linked by one process.
use Rattle.std.specs.Prelude.{ℕ, ◌≡◌, refl, ◌↔◌, [], Bool, true, false, not, eqb}
use Rattle.std.proofs.Common.{sym, ◌∙◌, ap, subst, true≢false}
use Rattle.std.proofs.Math.Logic.Iff
use Rattle.std.proofs.Math.Bool.{So}
use Rattle.std.proofs.Math.Option.{Option, some, none, none-ne-some, some-injective}
use Rattle.std.proofs.lemmas.Bool.{not-false}
use Rattle.calculus.specs.Named.{every, any_of, In}
use Rattle.calculus.specs.Configuration.{Process, Config, Stands, at}
use Rattle.calculus.specs.WellFormed.{is_waiting}
use Rattle.theory_derivations.specs.Booleans.{never, itself, eqb_iff, any_iff}
use Rattle.theory_derivations.specs.Equality.{decides_sym, eqb_decides}
use Rattle.theory_ends.specs.Lists.{found_in, in_found}
use Rattle.theory_decision.specs.Lists.{implies, implies_iff, all_law, all_from, all_from_law, pairwise, apart_iff}

-- ── processes by their places
pub stands_iff : (C : Config) (A : Process → Type 0) → ((q : Process) → In q C.processes → A q) ↔ ((i : ℕ) (q : Process) → Stands C i q → A q)
stands_iff C A = (λ h i q s. h q (found_in C.processes i s.there), λ h q m. let r = in_found m in h r.0 q (record { there = r.1 }))

pub places_law : {A : Process → Type 0} (C : Config) (f : Process → Bool) → ((q : Process) → So (f q) ↔ A q)
    → So (every f C.processes) ↔ ((i : ℕ) (q : Process) → Stands C i q → A q)
places_law {A} C f g = Iff.trans (all_law f C.processes g) (stands_iff C A)

-- ── tests of a link
abbrev pub is_link : ℕ → Option ℕ → Bool
is_link h none = false
is_link h (some k) = eqb h k

abbrev pub waits : Option Process → Bool
waits none = false
waits (some r) = is_waiting r.doing

abbrev pub leads : Config → Option ℕ → Bool
leads C none = true
leads C (some h) = waits (at C h)

-- not both the same link
abbrev pub links_apart : Option ℕ → Option ℕ → Bool
links_apart none o = true
links_apart (some h) o = not (is_link h o)

-- ── what they say
is_link_iff : (h : ℕ) (o : Option ℕ) → So (is_link h o) ↔ (o ≡ some h)
is_link_iff h none = (never, λ e. absurd (none-ne-some h e))
is_link_iff h (some k) = (λ e. ap some (sym ((eqb_iff h k).0 e)), λ e. (eqb_iff h k).1 (sym (some-injective k h e)))

abbrev pub Handler : Config → ℕ → Type 0
Handler C h = (r : Process) × Stands C h r × So (is_waiting r.doing)

waits_iff : (o : Option Process) → So (waits o) ↔ ((r : Process) × (o ≡ some r) × So (is_waiting r.doing))
waits_iff none = (never, λ h. absurd (none-ne-some h.0 h.1))
waits_iff (some r) = (λ e. (r, refl, e), λ h. ap (λ (k : Process). is_waiting k.doing) (some-injective r h.0 h.1) ∙ h.2)

handler_iff : (C : Config) (h : ℕ) → So (waits (at C h)) ↔ Handler C h
handler_iff C h = Iff.trans (waits_iff (at C h)) (λ (r, e, w). (r, record { there = e }, w), λ (r, s, w). (r, s.there, w))

leads_iff : (C : Config) (o : Option ℕ) → So (leads C o) ↔ ((h : ℕ) → o ≡ some h → Handler C h)
leads_iff C none = (λ _ h e. absurd (none-ne-some h e), λ _. refl)
leads_iff C (some k) = (λ e h q. subst (Handler C) (some-injective k h q) ((handler_iff C k).0 e), λ f. (handler_iff C k).1 (f k refl))

apart_sym : (o u : Option ℕ) → links_apart o u ≡ links_apart u o
apart_sym none none = refl
apart_sym none (some k) = refl
apart_sym (some h) none = refl
apart_sym (some h) (some k) = ap not (decides_sym eqb_decides h k)

together_iff : (o u : Option ℕ) → (links_apart o u ≡ false) ↔ ((h : ℕ) × (o ≡ some h) × (u ≡ some h))
together_iff none u = (λ e. absurd (true≢false e), λ h. absurd (none-ne-some h.0 h.1))
together_iff (some h) u = (λ e. (h, refl, (is_link_iff h u).0 (not-false (is_link h u) e)), λ (k, e, q). ap not ((is_link_iff h u).1 (q ∙ sym e)))

-- ── the three clauses
unfoldable pub links_lead : Config → Bool
links_lead C = every (λ q. leads C q.link) C.processes

unfoldable pub handlers_linked : Config → Bool
handlers_linked C = all_from (λ h r. implies (is_waiting r.doing) (any_of (λ q. is_link h q.link) C.processes)) 0 C.processes

unfoldable pub linked_once : Config → Bool
linked_once C = pairwise (λ q r. links_apart q.link r.link) [] C.processes

pub links_lead_iff : (C : Config) → So (links_lead C) ↔ ((i : ℕ) (q : Process) → Stands C i q → (h : ℕ) → q.link ≡ some h → Handler C h)
unfolding links_lead
links_lead_iff C = places_law C (λ q. leads C q.link) (λ q. leads_iff C q.link)

abbrev pub Linker : Config → ℕ → Type 0
Linker C h = (i : ℕ) × (q : Process) × Stands C i q × (q.link ≡ some h)

linker_iff : (C : Config) (h : ℕ) → So (any_of (λ q. is_link h q.link) C.processes) ↔ Linker C h
linker_iff C h = Iff.trans (any_iff (λ q. is_link h q.link) C.processes) (
  λ (q, m, e). let r = in_found m in (r.0, q, record { there = r.1 }, (is_link_iff h q.link).0 e),
  λ (i, q, s, e). (q, found_in C.processes i s.there, (is_link_iff h q.link).1 e),
)

pub handlers_linked_iff : (C : Config) → So (handlers_linked C) ↔ ((h : ℕ) (r : Process) → Stands C h r → So (is_waiting r.doing) → Linker C h)
unfolding handlers_linked
handlers_linked_iff C = Iff.trans
    (all_from_law _ C.processes (λ h r. implies_iff (itself (is_waiting r.doing)) (linker_iff C h)))
    (λ f h r s. f h r s.there, λ f h r e. f h r (record { there = e }))

pub linked_once_iff : (C : Config) → So (linked_once C) ↔ ((i j : ℕ) (q r : Process) → Stands C i q → Stands C j r → (h : ℕ) → q.link ≡ some h → r.link ≡ some h → i ≡ j)
unfolding linked_once
linked_once_iff C = Iff.trans
    (apart_iff (λ q r. links_apart q.link r.link) (λ q r. apart_sym q.link r.link) C.processes) (
      λ f i j q r s t h a b. f i j q r s.there t.there ((together_iff q.link r.link).1 (h, a, b)),
      λ f i j q r a b e.
          let k = (together_iff q.link r.link).0 e in
          f i j q r (record { there = a }) (record { there = b }) k.0 k.1 k.2,
    )
