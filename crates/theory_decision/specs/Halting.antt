-- Whether some step would halt the run, as a test.
use Rattle.std.specs.Prelude.{ℕ, ◌≡◌, refl, ◌↔◌, Bool, true, false, not, ◌&&◌}
use Rattle.std.proofs.Common.{sym, subst}
use Rattle.std.proofs.Math.Logic.Iff
use Rattle.std.proofs.Math.Option.{Option, some, none}
use Rattle.std.proofs.Math.Bool.{So}
use Rattle.notation.specs.Bytes.{same}
use Rattle.notation.specs.Tree.{Name, Located, Proc, empty, send_unit, send_channel, send_label, cancel, spawn, recv_unit, recv_channel, recv_label, fwd, call, raise, try, Branches}
use Rattle.calculus.specs.Named.{any_of, is_some, lookup, In}
use Rattle.calculus.specs.Configuration.{End, Doing, running, folding, waiting, Process, Stands, Holder, Far, at_process, at_outside, given_up, far_end, Config}
use Rattle.calculus.specs.Steps.{Wanted, on_close, on_channel, on_label, Turn, sends, receives, alone, turn_of, branch_of}
use Rattle.calculus.specs.Reduces.{its_own, Halts, nobody_catches, nobody_takes_lem}
use Rattle.calculus.specs.WellFormed.{WouldHalt, by_step}
use Rattle.theory_derivations.specs.Booleans.{never, itself, ◌and◌, any_iff, is_none_iff}
use Rattle.theory_derivations.specs.Equality.{same_iff}
use Rattle.theory_ends.specs.Lists.{found_in, in_found}
use Rattle.theory_decision.specs.Lists.{implies, implies_iff}

-- a recv that has no branch of the label l
abbrev pub lacks_branch : Name → Wanted → Bool
lacks_branch l (on_close P) = false
lacks_branch l (on_channel x P) = false
lacks_branch l (on_label B) = not (is_some (branch_of l B))

-- a turn on the channel of name x that leaves out the label l
abbrev pub leaves_out : Name → Name → Turn → Bool
leaves_out l x (sends c m P) = false
leaves_out l x (receives c w) = lacks_branch l w && same c.name x
leaves_out l x alone = false

-- the label l that comes to this far end is left out, and nobody catches that
abbrev pub nobody_takes : Name → Far → Bool
nobody_takes l (at_process h) = leaves_out l h.name (turn_of h.process.doing) && not (is_some h.process.link)
nobody_takes l (at_outside n) = false
nobody_takes l given_up = false

-- the same, by the end that it is sent over, if that is held
abbrev pub nobody_takes_over : Config → Name → Option End → Bool
nobody_takes_over C l none = false
nobody_takes_over C l (some e) = nobody_takes l (far_end C e)

-- the process q halts the run by its term: by a raise that nobody catches, or by a label
abbrev pub halts_by : Config → Process → Proc → Bool
halts_by C q (empty o) = false
halts_by C q (send_unit o c P) = false
halts_by C q (send_channel o c a P) = false
halts_by C q (send_label o c l P) = nobody_takes_over C l.name (lookup c.name q.held)
halts_by C q (cancel o c P) = false
halts_by C q (spawn x A P Q) = false
halts_by C q (recv_unit o c P) = false
halts_by C q (recv_channel o c x P) = false
halts_by C q (recv_label o c B) = false
halts_by C q (fwd o x c) = false
halts_by C q (call o f bracket xs ys) = false
halts_by C q (raise o P) = not (is_some q.link)
halts_by C q (try o P Q) = false

abbrev pub halts_doing : Config → Process → Doing → Bool
halts_doing C q (running P) = halts_by C q P
halts_doing C q folding = false
halts_doing C q (waiting Q) = false

abbrev pub halts_at : Config → Process → Bool
halts_at C q = halts_doing C q q.doing

unfoldable pub halt_fits : Config → Bool
halt_fits C = implies C.halted (any_of (halts_at C) C.processes)

-- ── what they say
-- it runs a recv on the channel of name x that has no branch of the label l
abbrev LeavesOut : Name → Name → Doing → Type 0
LeavesOut l x d = (o : ℕ) × (c : Located) × (B : Branches) × (d ≡ running (recv_label o c B)) × ((branch_of l B ≡ none) × (c.name ≡ x))

left_out : (l x : Name) (d : Doing) → So (leaves_out l x (turn_of d)) → LeavesOut l x d
left_out l x (running (empty o)) s = never s
left_out l x (running (send_unit o c P)) s = never s
left_out l x (running (send_channel o c a P)) s = never s
left_out l x (running (send_label o c m P)) s = never s
left_out l x (running (cancel o c P)) s = never s
left_out l x (running (spawn y A P Q)) s = never s
left_out l x (running (recv_unit o c P)) s = never s
left_out l x (running (recv_channel o c y P)) s = never s
left_out l x (running (recv_label o c B)) s = (o, c, B, refl, (is_none_iff (branch_of l B) and same_iff c.name x).0 s)
left_out l x (running (fwd o y c)) s = never s
left_out l x (running (call o f bracket xs ys)) s = never s
left_out l x (running (raise o P)) s = never s
left_out l x (running (try o P Q)) s = never s
left_out l x folding s = never s
left_out l x (waiting Q) s = never s

left_iff : (l x : Name) (d : Doing) → So (leaves_out l x (turn_of d)) ↔ LeavesOut l x d
left_iff l x d = (left_out l x d, λ (o, c, B, e, r). subst (λ (d : Doing). So (leaves_out l x (turn_of d))) (sym e) ((is_none_iff (branch_of l B) and same_iff c.name x).1 r))

nobody_iff : (l : Name) (h : Holder) → So (nobody_takes l (at_process h)) ↔ (LeavesOut l h.name h.process.doing × (h.process.link ≡ none))
nobody_iff l h = left_iff l h.name h.process.doing and is_none_iff h.process.link

module _ (C : Config) (i : ℕ) (q : Process) (there : Stands C i q) where
  -- a label, by who is at the far end
  label_halts : (o : ℕ) (c l : Located) (P : Proc) → q.doing ≡ running (send_label o c l P) → So (nobody_takes_over C l.name (lookup c.name q.held)) → Halts C i
  label_halts o c l P r s = go (lookup c.name q.held) refl s
    where
      far : (e : End) → lookup c.name q.held ≡ some e → (f : Far) → far_end C e ≡ f → So (nobody_takes l.name f) → Halts C i
      far e g (at_process h) z s =
          let ((o', c', B, d, (b, n)), k) = (nobody_iff l.name h).0 s in
          nobody_takes_lem {c' = c'} its_own (record { stands = there; runs = r }) (record { held = g; far = z }) (record { runs = d; name = n }) b k
      far e g (at_outside n) z s = never s
      far e g given_up z s = never s

      go : (h : Option End) → lookup c.name q.held ≡ h → So (nobody_takes_over C l.name h) → Halts C i
      go none g s = never s
      go (some e) g s = far e g (far_end C e) refl s

  term_halts : (P : Proc) → q.doing ≡ running P → So (halts_by C q P) → Halts C i
  term_halts (empty o) r s = never s
  term_halts (send_unit o c P) r s = never s
  term_halts (send_channel o c a P) r s = never s
  term_halts (send_label o c l P) r s = label_halts o c l P r s
  term_halts (cancel o c P) r s = never s
  term_halts (spawn x A P Q) r s = never s
  term_halts (recv_unit o c P) r s = never s
  term_halts (recv_channel o c x P) r s = never s
  term_halts (recv_label o c B) r s = never s
  term_halts (fwd o x c) r s = never s
  term_halts (call o f bracket xs ys) r s = never s
  term_halts (raise o P) r s = nobody_catches (record { stands = there; runs = r }) ((is_none_iff q.link).0 s)
  term_halts (try o P Q) r s = never s

  at_halts : So (halts_at C q) → Halts C i
  at_halts s = go q.doing refl s
    where
      go : (d : Doing) → q.doing ≡ d → So (halts_doing C q d) → Halts C i
      go (running P) r s = term_halts P r s
      go folding r s = never s
      go (waiting Q) r s = never s

would_iff : (C : Config) → So (any_of (halts_at C) C.processes) ↔ WouldHalt C
would_iff C = Iff.trans (any_iff (halts_at C) C.processes) (to, from)
  where
    to : (q : Process) × In q C.processes × So (halts_at C q) → WouldHalt C
    to (q, m, s) = let (i, e) = in_found m in by_step {i = i} (at_halts C i q (record { there = e }) s)

    from : WouldHalt C → (q : Process) × In q C.processes × So (halts_at C q)
    from (by_step {i} (nobody_catches {q} r l)) = (q, found_in C.processes i r.stands.there, subst (λ d. So (halts_doing C q d)) (sym r.runs) ((is_none_iff q.link).1 l))
    from (by_step (nobody_takes_lem {j} {o} {o'} {q} {c} {l} {c'} {P} {B} {e} {h} n r g a b k)) = (
      q,
      found_in C.processes j r.stands.there,
      subst (λ d. So (halts_doing C q d)) (sym r.runs)
          (subst (λ f. So (nobody_takes_over C l.name f)) (sym g.held)
          (subst (λ f. So (nobody_takes l.name f)) (sym g.far)
          ((nobody_iff l.name h).1 ((o', c', B, a.runs, (b, a.name)), k)))),
    )

pub halt_fits_iff : (C : Config) → So (halt_fits C) ↔ (C.halted ≡ true → WouldHalt C)
unfolding halt_fits
halt_fits_iff C = implies_iff (itself C.halted) (would_iff C)
