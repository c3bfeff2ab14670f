-- What is found of a process that is walked over: its refusal; or, where nothing is at fault, the labels that its recvs leave out. The check and the warnings go by the same laws.
use Rattle.std.specs.Prelude.{ℕ, ◌≡◌, refl, List, [], ◌++◌}
use Rattle.std.proofs.Common.{ap}
use Rattle.notation.specs.Tree.{Proc}
use Rattle.calculus.specs.Program.{Context, Program}
use Rattle.calculus.specs.Checking.{check}
use Rattle.calculus.specs.Verdict.{Verdict, fine, refused, and_then}
use Rattle.calculus.specs.Warnings.{Missing, missing}
use Rattle.theory_derivations.specs.Fine.{refuted}

pub data Finding : Type 0 where
  refusal : ℕ → ℕ → Finding
  lacking : List Missing → Finding

abbrev pub finding : Verdict → List Missing → Finding
finding fine m = lacking m
finding (refused n at) m = refusal n at

-- the process P, with G held
abbrev pub found : Program → Context → Proc → Finding
found p G P = finding (check p G P) (missing p G P)

-- two parts in order
abbrev pub both : Finding → Finding → Finding
both (refusal n at) y = refusal n at
both (lacking a) (refusal n at) = refusal n at
both (lacking a) (lacking b) = lacking (a ++ b)

abbrev pub verdict_in : Finding → Verdict
verdict_in (refusal n at) = refused n at
verdict_in (lacking m) = fine

abbrev pub lacked_in : Finding → List Missing
lacked_in (refusal n at) = []
lacked_in (lacking m) = m

-- ── laws
pub found_both : (p : Program) (G H : Context) (P Q : Proc) → finding (and_then (check p G P) (check p H Q)) (missing p G P ++ missing p H Q) ≡ both (found p G P) (found p H Q)
found_both p G H P Q = go (check p G P) (check p H Q)
  where
    go : (u v : Verdict) → finding (and_then u v) (missing p G P ++ missing p H Q) ≡ both (finding u (missing p G P)) (finding v (missing p H Q))
    go fine fine = refl
    go fine (refused n at) = refl
    go (refused n at) v = refl

pub none_both : (x : Finding) → both (lacking []) x ≡ x
none_both (refusal n at) = refl
none_both (lacking m) = refl

pub verdict_found : (v : Verdict) (m : List Missing) → verdict_in (finding v m) ≡ v
verdict_found fine m = refl
verdict_found (refused n at) m = refl

pub verdict_both : (x y : Finding) → verdict_in (both x y) ≡ and_then (verdict_in x) (verdict_in y)
verdict_both (refusal n at) y = refl
verdict_both (lacking a) (refusal n at) = refl
verdict_both (lacking a) (lacking b) = refl

pub lacked_found : {v : Verdict} (m : List Missing) → v ≡ fine → lacked_in (finding v m) ≡ m
lacked_found m e = ap (λ v. lacked_in (finding v m)) e

pub lacked_none : (v : Verdict) → lacked_in (finding v []) ≡ []
lacked_none fine = refl
lacked_none (refused n at) = refl

-- where nothing is at fault in two parts, nothing is in either, and what they lack comes one after the other
pub record BothFine (x y : Finding) : Type 0 where
  pub first : verdict_in x ≡ fine
  pub second : verdict_in y ≡ fine
  pub lacked : lacked_in (both x y) ≡ lacked_in x ++ lacked_in y

pub both_fine : (x y : Finding) → verdict_in (both x y) ≡ fine → BothFine x y
both_fine (refusal n at) y e = refuted e
both_fine (lacking a) (refusal n at) e = refuted e
both_fine (lacking a) (lacking b) e = record { first = refl; second = refl; lacked = refl }
