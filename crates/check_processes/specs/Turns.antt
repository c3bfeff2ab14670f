-- What one term of a process comes to: what follows it, or the verdict.
use Rattle.std.specs.Prelude.{ℕ, suc, ◌+◌, ◌*◌, ◌<◌, ◌≤◌, ◌≡◌, refl, List, []}
use Rattle.std.specs.Prelude.{Option, Some, None, Result, Ok, Err, IsErrAnd}
use Rattle.std.proofs.Common.{sym, ◌∙◌, ap, subst, arith}
use Rattle.notation.specs.Refusals.{OrRefusal, refuses}
use Rattle.notation.specs.Sizes.{process_terms}
use Rattle.notation.specs.declared.reading.TermNode.{TermNode}
use Rattle.notation.specs.declared.refusal.Refusal.{Refusal}
use Rattle.calculus.specs.Checking.{check}
use Rattle.calculus.specs.Verdict.{fine, and_then, verdict_of}
use Rattle.calculus.specs.Verdict as calculus
use Rattle.calculus.specs.Warnings.{Missing, missing}
use Rattle.run_words.specs.declared.records.Held.{Held}
use Rattle.read_tables.specs.Decode.{process_in}
use Rattle.read_tables.specs.Program.{program_in}
use Rattle.read_tables.specs.Roots.{ProcessIn}
use Rattle.check_contexts.specs.Held.{HeldIn}
use Rattle.check_terms.specs.Endings.{answer_of}
use Rattle.check_terms.specs.Findings.{Finding, lacking, finding, found, both, verdict_in, lacked_in, none_both, verdict_found, verdict_both, lacked_found}
use Rattle.check_terms.specs.Next.{Step, stop, go, resume, context_in, Goes}
use Rattle.check_processes.specs.declared.turns.Part.{Part}
use Rattle.check_processes.specs.declared.turns.Rest.{Rest}
use Rattle.check_processes.specs.declared.turns.Rest.TheVariants.{On, Choice, Done}
use Rattle.check_processes.specs.declared.turns.Turn.{Turn}
use Rattle.check_processes.specs.Nodes.{NodeIn}
use Rattle.check_processes.specs.Process.{then_refused, then_fine}

-- ── the turns that the code makes
abbrev pub part : Held → ℕ → Part
part h p = record { held = h; pointer = p }

abbrev pub goes_on : Held → ℕ → Turn
goes_on h p = record { half = None; rest = On (part h p) }

abbrev pub done : OrRefusal (Unit {0}) → Turn
done v = record { half = None; rest = Done v }

abbrev pub halved : Held → ℕ → Held → ℕ → Turn
halved a first b second = record { half = Some (part a first); rest = On (part b second) }

-- after a term whose rule answers x, and whose first token stands at an offset: nothing, or the process at `rest`
abbrev pub ended_by : Result (Unit {0}) ℕ → ℕ → Turn
ended_by (Ok x) at = done (Ok tt)
ended_by (Err n) at = done (refuses n at)

abbrev pub followed_by : Result Held ℕ → ℕ → ℕ → Turn
followed_by (Ok h) at rest = goes_on h rest
followed_by (Err n) at rest = done (refuses n at)

-- ── what is found of the process at a pointer, of a first half, and after a turn
abbrev pub found_at : List ℕ → List ℕ → Held → ℕ → Finding
found_at s w h p = found (program_in s w) (context_in s w h) (process_in s w p)

abbrev pub half_found : List ℕ → List ℕ → Option Part → Finding
half_found s w (Some q) = found_at s w q.held q.pointer
half_found s w None = lacking []

abbrev pub rest_found : List ℕ → List ℕ → Rest → Finding
rest_found s w (On q) = found_at s w q.held q.pointer
rest_found s w (Choice q n) = found_at s w q.held q.pointer
rest_found s w (Done v) = finding (verdict_of v) []

abbrev pub found_after : List ℕ → List ℕ → Turn → Finding
found_after s w r = both (half_found s w r.half) (rest_found s w r.rest)

-- the verdict on it, and the labels that it leaves out
abbrev pub verdict_at : List ℕ → List ℕ → Held → ℕ → calculus.Verdict
verdict_at s w h p = check (program_in s w) (context_in s w h) (process_in s w p)

abbrev pub half_verdict : List ℕ → List ℕ → Option Part → calculus.Verdict
half_verdict s w half = verdict_in (half_found s w half)

abbrev pub verdict_after : List ℕ → List ℕ → Turn → calculus.Verdict
verdict_after s w r = verdict_in (found_after s w r)

abbrev pub missing_at : List ℕ → List ℕ → Held → ℕ → List Missing
missing_at s w h p = missing (program_in s w) (context_in s w h) (process_in s w p)

abbrev pub half_missing : List ℕ → List ℕ → Option Part → List Missing
half_missing s w half = lacked_in (half_found s w half)

abbrev pub missing_after : List ℕ → List ℕ → Turn → List Missing
missing_after s w r = lacked_in (found_after s w r)

-- what a turn leaves to be checked stands in the tables
pub record PartIn (s w : List ℕ) (q : Part) : Type 0 where
  pub held : HeldIn s w q.held
  pub process : ProcessIn s w q.pointer

pub record ChoiceIn (s w : List ℕ) (q : Part) (n : TermNode) : Type 0 where
  pub held : HeldIn s w q.held
  pub node : NodeIn s w q.pointer n
  pub kind : n.kind ≡ 8

abbrev pub HalfIn : List ℕ → List ℕ → Option Part → Type 0
HalfIn s w (Some q) = PartIn s w q
HalfIn s w None = Unit {0}

abbrev pub RestIn : List ℕ → List ℕ → Rest → Type 0
RestIn s w (On q) = PartIn s w q
RestIn s w (Choice q n) = ChoiceIn s w q n
RestIn s w (Done v) = Unit {0}

pub record TurnIn (s w : List ℕ) (r : Turn) : Type 0 where
  pub half : HalfIn s w r.half
  pub rest : RestIn s w r.rest

-- how many terms it leaves: a first half counts one more, which is the term itself
abbrev pub half_terms : List ℕ → List ℕ → Option Part → ℕ
half_terms s w (Some q) = suc (process_terms (process_in s w q.pointer))
half_terms s w None = 0

abbrev pub rest_terms : List ℕ → List ℕ → Rest → ℕ
rest_terms s w (On q) = process_terms (process_in s w q.pointer)
rest_terms s w (Choice q n) = process_terms (process_in s w q.pointer)
rest_terms s w (Done v) = 0

abbrev pub turn_terms : List ℕ → List ℕ → Turn → ℕ
turn_terms s w r = half_terms s w r.half + rest_terms s w r.rest

-- what falls with each turn: how many terms the process that follows has, and one
abbrev pub terms_left : List ℕ → List ℕ → Rest → ℕ
terms_left s w (On q) = suc (process_terms (process_in s w q.pointer))
terms_left s w (Choice q n) = 0
terms_left s w (Done v) = 0

-- a turn of the process at p: after it the same is found
pub record Turned (s w : List ℕ) (h : Held) (p : ℕ) (r : Turn) : Type 0 where
  pub is : found_after s w r ≡ found_at s w h p
  pub stands : TurnIn s w r
  pub fewer : turn_terms s w r ≤ process_terms (process_in s w p)
  pub less : terms_left s w r.rest ≤ process_terms (process_in s w p)

pub turned_verdict : {s w : List ℕ} {h : Held} {p : ℕ} {r : Turn} → Turned s w h p r → verdict_after s w r ≡ verdict_at s w h p
turned_verdict {s} {w} {h} {p} t = ap verdict_in t.is ∙ verdict_found (verdict_at s w h p) (missing_at s w h p)

pub turned_missing : {s w : List ℕ} {h : Held} {p : ℕ} {r : Turn} → Turned s w h p r → verdict_at s w h p ≡ fine → missing_after s w r ≡ missing_at s w h p
turned_missing {s} {w} {h} {p} t f = ap lacked_in t.is ∙ lacked_found (missing_at s w h p) f

module _ {s w : List ℕ} {h : Held} {p : ℕ} where
  pub turned_given : (v : OrRefusal (Unit {0})) → finding (verdict_of v) [] ≡ found_at s w h p → Turned s w h p (done v)
  turned_given v q = record { is = none_both (finding (verdict_of v) []) ∙ q; stands = record { half = tt; rest = tt }; fewer = omega arith; less = omega arith }

  pub turned_onward : (k : Held) (rest : ℕ) → found_at s w k rest ≡ found_at s w h p → HeldIn s w k → ProcessIn s w rest
      → process_terms (process_in s w rest) < process_terms (process_in s w p) → Turned s w h p (goes_on k rest)
  turned_onward k rest q f a b = record {
    is = none_both (found_at s w k rest) ∙ q;
    stands = record { half = tt; rest = record { held = f; process = a } };
    fewer = omega arith;
    less = omega arith;
  }

  pub turned_choosing : (n : TermNode) → HeldIn s w h → NodeIn s w p n → n.kind ≡ 8 → Turned s w h p (record { half = None; rest = Choice (part h p) n })
  turned_choosing n f g z = record {
    is = none_both (found_at s w h p);
    stands = record { half = tt; rest = record { held = f; node = g; kind = z } };
    fewer = omega arith;
    less = omega arith;
  }

  pub turned_halves : (a : Held) (first : ℕ) (b : Held) (second : ℕ) → both (found_at s w a first) (found_at s w b second) ≡ found_at s w h p → PartIn s w (part a first) → PartIn s w (part b second)
      → suc (process_terms (process_in s w first)) + process_terms (process_in s w second) ≤ process_terms (process_in s w p) → Turned s w h p (halved a first b second)
  turned_halves a first b second q f g n = record { is = q; stands = record { half = f; rest = g }; fewer = n; less = omega arith }

  -- after a term whose rule's step it is
  pub turned_ended : {x : Result (Unit {0}) ℕ} (at : ℕ) (t : Step) → x ≡ answer_of t → found_at s w h p ≡ resume at t (λ _. lacking []) → Turned s w h p (ended_by x at)
  turned_ended at (stop n) e q = rw e (turned_given (refuses n at) (sym q))
  turned_ended at (go G) e q = rw e (turned_given (Ok tt) (sym q))

  pub turned_after : (x : Result Held ℕ) (at rest : ℕ) {t : Step} → Goes s w x t → found_at s w h p ≡ resume at t (λ H. found (program_in s w) H (process_in s w rest))
      → (process_terms (process_in s w rest) < process_terms (process_in s w p)) × ProcessIn s w rest → Turned s w h p (followed_by x at rest)
  turned_after (Ok k) at rest g q (b, a) = turned_onward k rest (sym (q ∙ ap (λ y. resume at y (λ H. found (program_in s w) H (process_in s w rest))) (sym g.is))) g.fits a b
  turned_after (Err n) at rest g q b = turned_given (refuses n at) (sym (q ∙ ap (λ y. resume at y (λ H. found (program_in s w) H (process_in s w rest))) (sym g.is)))

-- ── as far as the loop over the terms has come: the turn t is to be carried on
pub record Checking (s w : List ℕ) (t₀ t : Turn) : Type 0 where
  pub is : verdict_after s w t ≡ verdict_after s w t₀
  pub stands : TurnIn s w t
  pub fewer : turn_terms s w t ≤ turn_terms s w t₀

pub check_begin : {s w : List ℕ} {t : Turn} → TurnIn s w t → Checking s w t t
check_begin a = record { is = refl; stands = a; fewer = omega arith }

module _ {s w : List ℕ} {t₀ t : Turn} (u : Checking s w t₀ t) where
  -- the first half, then what the turn leaves
  in_parts : and_then (half_verdict s w t.half) (verdict_in (rest_found s w t.rest)) ≡ verdict_after s w t₀
  in_parts = sym (verdict_both (half_found s w t.half) (rest_found s w t.rest)) ∙ u.is

  pub half_refused : {e : Refusal} (x : OrRefusal (Unit {0})) → IsErrAnd x (λ d. d ≡ e) → verdict_of (Err e) ≡ half_verdict s w t.half → verdict_of x ≡ verdict_after s w t₀
  half_refused x h q = then_refused (verdict_in (rest_found s w t.rest)) x h q ∙ in_parts

  pub rest_there : {y : Rest} → t.rest ≡ y → RestIn s w y
  rest_there q = subst (RestIn s w) q u.stands.rest

  module _ (f : fine ≡ half_verdict s w t.half) where
    -- the first half is fine, so what follows decides
    rest_is : {y : Rest} → t.rest ≡ y → verdict_in (rest_found s w y) ≡ verdict_after s w t₀
    rest_is q = ap (λ y. verdict_in (rest_found s w y)) (sym q) ∙ then_fine (verdict_in (rest_found s w t.rest)) f ∙ in_parts

    pub check_done : {v : OrRefusal (Unit {0})} → t.rest ≡ Done v → verdict_of v ≡ verdict_after s w t₀
    check_done {v} q = sym (verdict_found (verdict_of v) []) ∙ rest_is q

    module _ {q : Part} where
      pub choice_is : {n : TermNode} → t.rest ≡ Choice q n → verdict_at s w q.held q.pointer ≡ verdict_after s w t₀
      choice_is e = sym (verdict_found (verdict_at s w q.held q.pointer) (missing_at s w q.held q.pointer)) ∙ rest_is e

      pub check_next : t.rest ≡ On q → {r : Turn} → Turned s w q.held q.pointer r → Checking s w t₀ r
      check_next e v = record {
        is = ap verdict_in v.is ∙ rest_is e;
        stands = v.stands;
        fewer = omega (arith, v.fewer, u.fewer, ap (rest_terms s w) e);
      }

pub check_less : {s w : List ℕ} {x : Rest} {q : Part} → x ≡ On q → {r : Turn} → Turned s w q.held q.pointer r → terms_left s w r.rest < terms_left s w x
check_less {s} {w} e v = omega (arith, v.less, ap (terms_left s w) e)

-- ── what falls
abbrev pub half_measure : List ℕ → List ℕ → Option Part → ℕ
half_measure s w (Some q) = 8 * process_terms (process_in s w q.pointer) + 9
half_measure s w None = 0

half_counts : (s w : List ℕ) (half : Option Part) → half_measure s w half ≤ 8 * half_terms s w half + 1
half_counts s w (Some q) = omega arith
half_counts s w None = omega arith

module _ (s w : List ℕ) (t₀ t : Turn) (l : turn_terms s w t ≤ turn_terms s w t₀) where
  pub half_falls : {n : ℕ} → 8 * turn_terms s w t₀ + 7 ≡ n → half_measure s w t.half < n
  half_falls e = omega (arith, l, e, half_counts s w t.half)

  pub choice_falls : {q : Part} {n : TermNode} → t.rest ≡ Choice q n → process_terms (process_in s w q.pointer) ≤ turn_terms s w t₀
  choice_falls e = omega (arith, l, ap (rest_terms s w) e)

pub half_verdict_is : (s w : List ℕ) {half : Option Part} {q : Part} → half ≡ Some q → half_verdict s w half ≡ verdict_at s w q.held q.pointer
half_verdict_is s w {q = q} e = ap (half_verdict s w) e ∙ verdict_found (verdict_at s w q.held q.pointer) (missing_at s w q.held q.pointer)

pub half_missing_is : (s w : List ℕ) {half : Option Part} {q : Part} → half ≡ Some q → verdict_at s w q.held q.pointer ≡ fine → half_missing s w half ≡ missing_at s w q.held q.pointer
half_missing_is s w {q = q} e f = ap (half_missing s w) e ∙ lacked_found (missing_at s w q.held q.pointer) f
