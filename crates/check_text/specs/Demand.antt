-- Demand 2, of the code: "A script is accepted exactly when the typing rules give it a derivation".
use Rattle.std.specs.Prelude.{ℕ, ◌≤◌, ◌≡◌, refl, List, length}
use Rattle.std.proofs.Common.{◌∙◌, ap, subst}
use Rattle.notation.specs.Limits.{scratch_words}
use Rattle.notation.specs.Tree.{Declaration}
use Rattle.grammar.specs.Notation.{Derives}
use Rattle.calculus.specs.Accepted.{Checked, accepted, faulty, checked}
use Rattle.calculus.specs.InOrder.{InOrder}
use Rattle.calculus.specs.Demands.{Derivation, Derivable}
use Rattle.calculus.specs.Verdict.{fine}
use Rattle.calculus.specs.Verdict as calculus
use Rattle.theory_derivations.specs.Accepts.{accepts}
use Rattle.std.specs.Prelude.{Ok}
use Rattle.notation.specs.Refusals.{refuses}
use Rattle.check_text.specs.Texts.{verdict_in, TextChecked}

abbrev IsFine : calculus.Verdict → Type 0
IsFine fine = Unit {0}
IsFine (calculus.refused n i) = ⊥

abbrev IsRefused : calculus.Verdict → Type 0
IsRefused fine = ⊥
IsRefused (calculus.refused n i) = Unit {0}

fine_accepted : (c : Checked) → fine ≡ verdict_in c → (ds : List Declaration) × (c ≡ accepted ds)
fine_accepted (accepted ds) e = (ds, refl)
fine_accepted (faulty n i) e = absurd (subst IsFine e tt)

-- a text that `check` does not refuse has a derivation
pub accepted_derivable : (s w v : List ℕ) → TextChecked s w (Ok tt) v → scratch_words ≤ length w → (ds : List Declaration) × Derivable s ds
accepted_derivable s w v t h =
    let (ds, e) = fine_accepted (checked s) (t.enough h).0 in
    (ds, (accepts s ds).0 e)

-- one that it refuses, though its notation and declarations are in order, has none
pub refused_underivable : (s w v : List ℕ) (n i : ℕ) → TextChecked s w (refuses n i) v → scratch_words ≤ length w
    → (ds : List Declaration) → Derives s ds → InOrder ds → Derivation ds → ⊥
refused_underivable s w v n i t h ds r o D =
    let e = (accepts s ds).1 (record { script = r; declarations = o; derivation = D }) in
    subst IsRefused ((t.enough h).0 ∙ ap verdict_in e) tt
