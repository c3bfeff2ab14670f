-- Rules that give up an end: cancel, and a process that folds up.
use Rattle.std.specs.Prelude.{◌≡◌, false, ℕ}
use Rattle.std.proofs.Common.{sym, ap, subst}
use mathlib.Core.List.Sublistᴰ
use mathlib.Core.List.{List, ◌∷◌, Sublistᴰ}
use Rattle.notation.specs.Tree.{Name, Located, Proc, cancel}
use Rattle.calculus.specs.Named.{without}
use Rattle.calculus.specs.Program.{Program}
use Rattle.calculus.specs.Typing.{Typed, cancels}
use Rattle.calculus.specs.Configuration.{End, Doing, running, folding, Process, Outside, Config, Stands, with_outside, replaced, let_go, folds_up, goes_on, becoming}
use Rattle.calculus.specs.Reduces.{GivesUp, by_process, by_outside, by_nobody}
use Rattle.calculus.specs.WellFormed.{context_of, is_waiting}
use Rattle.calculus.specs.declared.answers.Seen.{Seen}
use Rattle.theory_ends.specs.Names.{without_sub}
use Rattle.theory_ends.specs.Contexts.{context_without}
use Rattle.theory_preservation.specs.Roster.{TypedDoing, Goes, runs_on, goes_folding}
use Rattle.theory_preservation.specs.Outsides.{let_go_sub}
use Rattle.theory_preservation.specs.Invariant.{Inv, inv_less}

-- an end is given up: the outside lets go of some of its channels, or of none
pub gives_up : (Q : Config → Type 0) {C : Config} {e : End} {D : Config} {seen : Seen} → GivesUp C e seen D → ((ys : List Outside) → Sublistᴰ ys C.outside → Q (with_outside ys C)) → Q D
gives_up Q {C} (by_process _) f = f C.outside (Sublistᴰ.refl C.outside)
gives_up Q {C} {e = e} (by_outside _) f = f (let_go e.channel C.outside) (let_go_sub e.channel C.outside)
gives_up Q {C} (by_nobody _) f = f C.outside (Sublistᴰ.refl C.outside)

module _ {p : Program} {C : Config} (I : Inv p C) {i : ℕ} {q : Process} (here : Stands C i q) where
  -- the process at i does d from now on, and has let go of the end e, and perhaps of others
  pub parts : (d : Doing) → Goes q.doing d → {l : List (Name × End)} → Sublistᴰ l q.held → TypedDoing p (context_of l) d → {e : End} {seen : Seen} {D : Config}
      → GivesUp C e seen D → Inv p (replaced i (becoming d l q) D)
  parts d w {l} s t g = gives_up (λ D. Inv p (replaced i (becoming d l q) D)) g (λ ys k. inv_less I i q here.there d w s t k)

  -- it folds up, and has let go of some ends
  pub folds_up_lem : is_waiting q.doing ≡ false → {l : List (Name × End)} → Sublistᴰ l q.held → Inv p (replaced i (folds_up q l) C)
  folds_up_lem w s = inv_less I i q here.there folding (goes_folding w) s tt (Sublistᴰ.refl C.outside)

  pub cancel_keeps : {o : ℕ} {c : Located} {P : Proc} {e : End} {seen : Seen} {D : Config} → q.doing ≡ running (cancel o c P) → GivesUp C e seen D
      → Typed p (context_of q.held) (cancel o c P) → Inv p (replaced i (goes_on q P (without c.name q.held)) D)
  cancel_keeps {c = c} {P = P} r g (cancels _ t) =
      parts (running P) (runs_on r P) (without_sub c.name q.held) (subst (λ G. Typed p G P) (context_without c.name q.held) t) g

  pub fold_keeps : {n : Name} {e : End} {l : List (Name × End)} {seen : Seen} {D : Config} → q.doing ≡ folding → q.held ≡ (n, e) ∷ l → GivesUp C e seen D → Inv p (replaced i (folds_up q l) D)
  fold_keeps {l = l} r z g = parts folding (goes_folding (ap is_waiting r)) (subst (Sublistᴰ l) (sym z) (Sublistᴰ.cons (Sublistᴰ.refl l))) tt g
