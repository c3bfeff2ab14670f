-- "Demand 3's plain machine is fed with the calls alone: script, numbers and slice lengths, never the run slice's words."
use Rattle.std.specs.Prelude.{ℕ, List, [], ◌∷◌, Bool, true, false, cond, length, leb, Ok}
use Rattle.std.proofs.Math.Option.{Option, some, none}
use Rattle.std.proofs.Math.ListN.{get_elem?}
use Rattle.notation.specs.Limits.{scratch_words, run_words}
use Rattle.notation.specs.Refusals.{OrRefusal, refuses}
use Rattle.calculus.specs.Program.{Program, program_of}
use Rattle.calculus.specs.Accepted.{Checked, accepted, faulty, checked}
use Rattle.calculus.specs.Configuration.{Process, Config, config, halt, at}
use Rattle.calculus.specs.Steps.{Outcome, carried, uncaught, not_open, lacking, step}
use Rattle.calculus.specs.Runs.{start_config, exec_of, run_on, report, places}
use Rattle.calculus.specs.declared.answers.Seen.{Seen}
use Rattle.calculus.specs.declared.answers.Stepped.{Stepped}
use Rattle.calculus.specs.declared.answers.Stepped.TheVariants as Steps
use Rattle.calculus.specs.declared.answers.RanOn.{RanOn}

-- a call: the lengths of the slices lent, in words, and its number if it takes one
pub data Call : Type 0 where
  call_start : (scratch run line : ℕ) → Call
  call_step : (scratch run place : ℕ) → Call
  call_run_on : (scratch run budget : ℕ) → Call
  call_report : (scratch run : ℕ) → Call
  call_places : (scratch run : ℕ) → Call
  call_exec_name : (scratch line : ℕ) → Call

-- an answer or its refusal; a report's is a count, with the numbers, a survey's a count, with what each place's step is, an exec name's the part of the text, the refusal's number and its offset
pub data Answer : Type 0 where
  started : OrRefusal (Unit {0}) → Answer
  stepped : OrRefusal Stepped → Answer
  ran_on : OrRefusal RanOn → Answer
  reported : OrRefusal ℕ → List ℕ → Answer
  surveyed : OrRefusal ℕ → List ℕ → Answer
  name_given : List ℕ → ℕ → ℕ → Answer

-- an answer and the configuration afterwards
pub record Reply : Type 0 where
  pub answer : Answer
  pub config : Config

abbrev pub reply : Answer → Config → Reply
reply a C = record { answer = a; config = C }

-- ── "the refusal list, where 18 then never applies": refusal 1, then 2 to 15; then those of each call, in their order
unfoldable pub text_checked : List ℕ → ℕ → Checked
text_checked s scratch = cond (leb scratch_words scratch) (checked s) (faulty 1 0)

abbrev pub on_program : {A : Type 0} → Checked → (ℕ → ℕ → A) → (Program → A) → A
on_program (accepted ds) refuse k = k (program_of ds)
on_program (faulty n i) refuse k = refuse n i

-- 16
abbrev pub on_run : {A : Type 0} → ℕ → (ℕ → ℕ → A) → A → A
on_run run refuse a = cond (leb run_words run) a (refuse 16 0)

-- 17
abbrev pub on_line : {A X : Type 0} → Option X → (ℕ → ℕ → A) → (X → A) → A
on_line none refuse k = refuse 17 0
on_line (some x) refuse k = k x

-- 22
abbrev pub on_going : {A : Type 0} → Bool → (ℕ → ℕ → A) → A → A
on_going true refuse a = refuse 22 0
on_going false refuse a = a

-- 19
abbrev pub on_place : {A : Type 0} → Option Process → (ℕ → ℕ → A) → A → A
on_place none refuse a = refuse 19 0
on_place (some q) refuse a = a

-- 20, 21
abbrev pub on_step : {A : Type 0} → Outcome → (ℕ → ℕ → A) → (Seen → Config → A) → A → A
on_step (carried s D) refuse k halts = k s D
on_step uncaught refuse k halts = halts
on_step not_open refuse k halts = refuse 20 0
on_step lacking refuse k halts = refuse 21 0

-- a refusal, by the call's kind
abbrev pub refusal : Config → Call → ℕ → ℕ → Reply
refusal C (call_start scratch run line) n i = reply (started (refuses n i)) C
refusal C (call_step scratch run place) n i = reply (stepped (refuses n i)) C
refusal C (call_run_on scratch run budget) n i = reply (ran_on (refuses n i)) C
refusal C (call_report scratch run) n i = reply (reported (refuses n i) []) C
refusal C (call_places scratch run) n i = reply (surveyed (refuses n i) []) C
refusal C (call_exec_name scratch line) n i = reply (name_given [] n i) C

abbrev pub respond_by : (ℕ → ℕ → Reply) → List ℕ → Config → Call → Reply
respond_by refuse s C (call_start scratch run line) =
    on_program (text_checked s scratch) refuse λ p.
    on_run run refuse
    (on_line (exec_of p line) refuse λ g. reply (started (Ok tt)) (start_config g))
respond_by refuse s C (call_step scratch run place) =
    on_program (text_checked s scratch) refuse λ p.
    on_run run refuse
    (on_going C.halted refuse
    (on_place (at C place) refuse
    (on_step (step p C place) refuse (λ seen D. reply (stepped (Ok (Steps.Carried seen))) D) (reply (stepped (Ok Steps.Uncaught)) (halt C)))))
respond_by refuse s C (call_run_on scratch run budget) =
    on_program (text_checked s scratch) refuse λ p.
    on_run run refuse
    (reply (ran_on (Ok (run_on p C budget).answer)) (run_on p C budget).config)
respond_by refuse s C (call_report scratch run) =
    on_program (text_checked s scratch) refuse λ p.
    on_run run refuse
    (reply (reported (Ok (length (report C))) (report C)) C)
respond_by refuse s C (call_places scratch run) =
    on_program (text_checked s scratch) refuse λ p.
    on_run run refuse
    (reply (surveyed (Ok (length (places p C))) (places p C)) C)
respond_by refuse s C (call_exec_name scratch line) =
    on_program (text_checked s scratch) refuse λ p.
    on_line (get_elem? p.execs line) refuse λ n. reply (name_given n.name 0 0) C

-- "A start carried out begins the run anew, a step applies its rule, run-on does so step by step; a call is refused by the refusal list .. and changes nothing."
unfoldable pub respond : List ℕ → Config → Call → Reply
respond s C c = respond_by (refusal C c) s C c

-- before the first start there is no process
abbrev pub idle : Config
idle = config [] [] 0

-- a call of a list with the configuration that it meets and the reply to it
pub record Exchange : Type 0 where
  pub before : Config
  pub call : Call
  pub after : Reply

abbrev pub history : List ℕ → Config → List Call → List Exchange
history s C [] = []
history s C (c ∷ cs) = record { before = C; call = c; after = respond s C c } ∷ history s (respond s C c).config cs
