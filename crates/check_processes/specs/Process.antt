-- The ways through the check of a process.
use Rattle.std.specs.Prelude.{ℕ, zero, suc, ◌-◌, ◌<◌, ◌≤◌, ◌≡◌, refl, List, [], Bool, true, false, Ok, Err, IsErrAnd}
use Rattle.std.proofs.Common.{sym, ◌∙◌, arith}
use Rattle.std.proofs.Math.Path.{ap}
use Rattle.std.proofs.lemmas.Result.{err_from_is_err_and}
use Rattle.notation.specs.Limits.{process_term_limit}
use Rattle.notation.specs.Refusals.{OrRefusal}
use Rattle.notation.specs.declared.reading.TermNode.{TermNode}
use Rattle.notation.specs.declared.refusal.Refusal.{Refusal}
use Rattle.calculus.specs.Program.{Context}
use Rattle.calculus.specs.Declarations.{is_nil}
use Rattle.calculus.specs.Checking.{check}
use Rattle.calculus.specs.Verdict.{fine, and_then, demand, verdict_of}
use Rattle.calculus.specs.Verdict as calculus
use Rattle.calculus.specs.Warnings.{missing}
use Rattle.run_words.specs.declared.records.Held.{Held}
use Rattle.read_tables.specs.Access.{TermOf}
use Rattle.read_tables.specs.Decode.{process_in}
use Rattle.read_tables.specs.Program.{program_in}
use Rattle.read_tables.specs.Roots.{at_kind, process_cases, ProcessIn, process_root}
use Rattle.read_tables.specs.Whole.{Tables}
use Rattle.check_terms.specs.Findings.{Finding, refusal, lacking, finding, found}
use Rattle.check_terms.specs.Next.{Step, go, granted, resume, context_in}
use Rattle.check_terms.specs.Endings.{answer_of, none_left, some_left}
use Rattle.check_processes.specs.Nodes.{NodeIn, spawn_step, apart?, joins?}

-- ── an empty process
module _ (s w : List ℕ) (h : Held) (p : ℕ) (t : Tables s w) (a : ProcessIn s w p) (b : process_term_limit ≤ p) where
  empty_by : (c : Bool) → is_nil (context_in s w h) ≡ c → found (program_in s w) (context_in s w h) (process_in s w p) ≡ finding (demand 13 (p - process_term_limit) c fine) []
  unfolding check missing
  empty_by c e = ap (found (program_in s w) (context_in s w h)) ((process_root s w t.within p a).none b) ∙ ap (λ d. finding (demand 13 (p - process_term_limit) d fine) []) e

  pub empty_fine : h.count ≡ 0 → lacking [] ≡ found (program_in s w) (context_in s w h) (process_in s w p)
  empty_fine z = sym (empty_by true (none_left s w h z))

  pub empty_left : (h.count ≡ 0 → ⊥) → refusal 13 (p - process_term_limit) ≡ found (program_in s w) (context_in s w h) (process_in s w p)
  empty_left z = sym (empty_by false (some_left s w h z))

pub node_in : (s w : List ℕ) (p : ℕ) (n : TermNode) → Tables s w → ProcessIn s w p → p < process_term_limit → TermOf w p n → NodeIn s w p n
node_in s w p n t a b o = record { says = ((o.says s t a).node b).1; small = b; at = o.at }

-- no node is of kind 0
pub some_kind : (s w : List ℕ) (p : ℕ) (n : TermNode) → NodeIn s w p n → 1 ≤ n.kind
some_kind s w p n t = go n.kind t.says
  where
    go : (k : ℕ) → at_kind (process_cases s w n (process_in s w p)) k → 1 ≤ k
    go zero e = absurd e
    go (suc k) e = omega arith

-- ── two halves: the first that is at fault, which a `?` hands on, else the second
pub then_refused : {u : calculus.Verdict} (v : calculus.Verdict) {e : Refusal} (x : OrRefusal (Unit {0})) → IsErrAnd x (λ d. d ≡ e) → verdict_of (Err e) ≡ u → verdict_of x ≡ and_then u v
then_refused v x h q = let (d, x_is, d_is) = err_from_is_err_and x h in rw (x_is, d_is, ← q) refl

pub then_fine : {u : calculus.Verdict} (v : calculus.Verdict) → fine ≡ u → v ≡ and_then u v
then_fine v q = ap (λ y. and_then y v) q

-- ── a spawn
module _ (s w : List ℕ) (n : TermNode) (G : Context) (at : ℕ) (k : Context → Finding) where
  abbrev by : Bool → Bool → Step
  by a b = granted 13 a (granted 15 b (go G))

  stops_by : (a b : Bool) {r : ℕ} → Err r ≡ answer_of (by a b) → refusal r at ≡ resume at (by a b) k
  stops_by true true e = cc
  stops_by true false e = cc
  stops_by false b e = cc

  goes_by : (a b : Bool) → Ok tt ≡ answer_of (by a b) → resume at (by a b) k ≡ k G
  goes_by true true e = refl
  goes_by true false e = cc
  goes_by false b e = cc

  pub spawn_stops : {r : ℕ} → Err r ≡ answer_of (spawn_step s w n G) → refusal r at ≡ resume at (spawn_step s w n G) k
  unfolding spawn_step
  spawn_stops e = stops_by (apart? s w n G) (joins? s w n G) e

  pub spawn_goes : Ok tt ≡ answer_of (spawn_step s w n G) → resume at (spawn_step s w n G) k ≡ k G
  unfolding spawn_step
  spawn_goes e = goes_by (apart? s w n G) (joins? s w n G) e
