-- What a term comes to: a refusal's number, or what is held after it.
use Rattle.std.specs.Prelude.{ℕ, ◌≡◌, refl, List, Bool, true, false, Result, Ok, Err, IfOk, IsErrAnd}
use Rattle.std.specs.Prelude.{Option as CodeOption, None}
use Rattle.std.specs.Prelude.{ok_or}
use Rattle.std.proofs.Common.{sym, ap}
use Rattle.std.proofs.lemmas.Result.{err_from_is_err_and}
use Rattle.std.proofs.Math.Option.{Option, some, none}
use Rattle.calculus.specs.Program.{Context}
use Rattle.calculus.specs.Verdict.{Verdict, demand, having}
use Rattle.calculus.specs.Warnings.{Missing, on_typed}
use Rattle.calculus.specs.WellFormed.{context_of}
use Rattle.run_words.specs.declared.records.Held.{Held}
use Rattle.check_contexts.specs.Held.{channels_of, HeldIn}
use Rattle.check_terms.specs.Findings.{Finding, refusal, finding}

pub data Step : Type 0 where
  stop : ℕ → Step
  go : Context → Step

-- a thing that the rest needs; a test that it must pass
abbrev pub asking : {X : Type 0} → ℕ → Option X → (X → Step) → Step
asking n none k = stop n
asking n (some x) k = k x

abbrev pub granted : ℕ → Bool → Step → Step
granted n true t = t
granted n false t = stop n

-- what is found of a term whose first token stands at an offset, with what is found of its rest
abbrev pub resume : ℕ → Step → (Context → Finding) → Finding
resume at (stop n) k = refusal n at
resume at (go G) k = k G

-- ── the code's answers
-- what is held, as typing sees it
abbrev pub context_in : List ℕ → List ℕ → Held → Context
context_in s w h = context_of (channels_of s w h)

abbrev pub step_of : List ℕ → List ℕ → Result Held ℕ → Step
step_of s w (Ok h) = go (context_in s w h)
step_of s w (Err n) = stop n

pub record Goes (s w : List ℕ) (r : Result Held ℕ) (t : Step) : Type 0 where
  pub is : step_of s w r ≡ t
  pub fits : IfOk r (HeldIn s w)

pub stops : {s w : List ℕ} {r : Result Held ℕ} {n : ℕ} {t : Step} → r ≡ Err n → t ≡ stop n → Goes s w r t
stops e q = rw e (record { is = sym q; fits = tt })

pub goes : {s w : List ℕ} (h : Held) {t : Step} → HeldIn s w h → t ≡ go (context_in s w h) → Goes s w (Ok h) t
goes h f q = record { is = sym q; fits = f }

-- where a `?` asks for a thing that is not there, the refusal by its number is handed on
pub handed_on : {A B : Type 0} {o : CodeOption A} {n m : ℕ} (x : Result B ℕ) → IsErrAnd x (λ d. d ≡ m) → o ≡ None → Err m ≡ ok_or o n → x ≡ Err n
handed_on x h z q = let (d, x_is, d_is) = err_from_is_err_and x h in cc

-- ── laws
module _ {X : Type 0} (n : ℕ) {o : Option X} (k : X → Step) where
  pub asking_none : o ≡ none → asking n o k ≡ stop n
  asking_none e = ap (λ p. asking n p k) e

  pub asking_some : {x : X} → o ≡ some x → asking n o k ≡ k x
  asking_some e = ap (λ p. asking n p k) e

pub granted_not : (n : ℕ) {b : Bool} (t : Step) → b ≡ false → granted n b t ≡ stop n
granted_not n t e = ap (λ c. granted n c t) e

pub granted_so : (n : ℕ) {b : Bool} (t : Step) → b ≡ true → granted n b t ≡ t
granted_so n t e = ap (λ c. granted n c t) e

-- what is found in terms of a step: what the rest needs, the labels may need too
module _ {X : Type 0} (n at : ℕ) where
  pub having_asks : (o : Option X) (v : X → Verdict) (m : List Missing) (k : X → Step) (f : Context → Finding) → ((x : X) → finding (v x) m ≡ resume at (k x) f) → finding (having n at o v) m ≡ resume at (asking n o k) f
  having_asks none v m k f h = refl
  having_asks (some x) v m k f h = h x

  pub typed_asks : (o : Option X) (v : X → Verdict) (m : X → List Missing) (k : X → Step) (f : Context → Finding) → ((x : X) → finding (v x) (m x) ≡ resume at (k x) f) → finding (having n at o v) (on_typed o m) ≡ resume at (asking n o k) f
  typed_asks none v m k f h = refl
  typed_asks (some x) v m k f h = h x

pub demand_asks : (n at : ℕ) (b : Bool) (v : Verdict) (m : List Missing) (t : Step) (f : Context → Finding) → finding v m ≡ resume at t f → finding (demand n at b v) m ≡ resume at (granted n b t) f
demand_asks n at true v m t f h = h
demand_asks n at false v m t f h = refl
