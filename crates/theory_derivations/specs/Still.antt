-- What was accepted is accepted still: where more types are equal, the rules derive no less.
use Rattle.std.specs.Prelude.{ℕ, ◌≤◌, ◌≡◌, List, length}
use Rattle.std.proofs.Common.{subst}
use Rattle.notation.specs.Limits.{held_limit}
use Rattle.notation.specs.Tree.{Name, Ty, Alternatives, Proc, Branches, Declaration}
use Rattle.grammar.specs.Notation.{Derives}
use Rattle.calculus.specs.Types.{Side}
use Rattle.calculus.specs.Program.{Context, Signature, Program, signature_context, program_of}
use Rattle.calculus.specs.OneType.{OneType}
use Rattle.calculus.specs.InOrder.{InOrder}
use Rattle.calculus.specs.Typing.{ListFits, none_left, one_fits, TypedBy, TypedBranchesBy, sends_unit, recvs_unit, sends_channel, recvs_channel, sends_label, recvs_label, forwards, calls, spawns, tries, raises, cancels, empties, last_branch, one_branch}
use Rattle.calculus.specs.Accepted.{accepted, checked}
use Rattle.calculus.specs.Named.{In}
use Rattle.calculus.specs.Demands.{Derivable}
use Rattle.theory_derivations.specs.OneType.{one_refl}
use Rattle.theory_derivations.specs.Accepts.{accepts}

module _ {few more : Ty Name → Ty Name → Type 0} (wider : (A B : Ty Name) → few A B → more A B) where
  fits_still : {G : Context} {s : Side} {ns : List Name} {es : List (Name × Ty Name)} → ListFits few G s ns es → ListFits more G s ns es
  fits_still none_left = none_left
  fits_still (one_fits A e o f) = one_fits A e (wider _ _ o) (fits_still f)

  module _ {p : Program} where
    mutual
      pub typed_still : {G : Context} {P : Proc} → TypedBy few p G P → TypedBy more p G P
      typed_still (sends_unit e d) = sends_unit e (typed_still d)
      typed_still (recvs_unit e d) = recvs_unit e (typed_still d)
      typed_still (sends_channel T A t n et ec ea o d) = sends_channel T A t n et ec ea (wider _ _ o) (typed_still d)
      typed_still (recvs_channel T t et e b d) = recvs_channel T t et e b (typed_still d)
      typed_still (sends_label T A t et e l d) = sends_label T A t et e l (typed_still d)
      typed_still (recvs_label T t et e d) = recvs_label T t et e (branches_still d)
      typed_still (forwards A B ex ec o n) = forwards A B ex ec (wider _ _ o) n
      typed_still (calls s e f g u n) = calls s e (fits_still f) (fits_still g) u n
      typed_still (spawns H K h k n b c d e) = spawns H K h k n b c (typed_still d) (typed_still e)
      typed_still (tries H K h k n d e) = tries H K h k n (typed_still d) (typed_still e)
      typed_still (raises d) = raises (typed_still d)
      typed_still (cancels e d) = cancels e (typed_still d)
      typed_still (empties e) = empties e

      branches_still : {G : Context} {c : Name} {r : Alternatives Name} {B : Branches} → TypedBranchesBy few p G c r B → TypedBranchesBy more p G c r B
      branches_still last_branch = last_branch
      branches_still (one_branch A e d f) = one_branch A e (typed_still d) (branches_still f)

-- a derivation as it was asked for before ticket 2.5, when a type was compared part by part, down to names: equal to itself alone
pub record DerivableBefore (text : List ℕ) (ds : List Declaration) : Type 0 where
  pub script : Derives text ds
  pub declarations : InOrder ds
  pub room : (n : Name) (s : Signature) → In (n, s) (program_of ds).processes → length (signature_context s) ≤ held_limit
  pub derivation : (n : Name) (s : Signature) → In (n, s) (program_of ds).processes → TypedBy (λ A B. A ≡ B) (program_of ds) (signature_context s) s.body

pub derivable_still : {text : List ℕ} {ds : List Declaration} → DerivableBefore text ds → Derivable text ds
derivable_still {ds = ds} d = record {
  script = d.script;
  declarations = d.declarations;
  derivation = λ n s m. record { room = d.room n s m; body = typed_still (λ A B e. subst (OneType (program_of ds) A) e (one_refl (program_of ds) A)) (d.derivation n s m) };
}

pub accepted_still : {text : List ℕ} {ds : List Declaration} → DerivableBefore text ds → checked text ≡ accepted ds
accepted_still {text} {ds} d = (accepts text ds).1 (derivable_still d)
