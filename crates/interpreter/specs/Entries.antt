-- What each entry promises: its answer and every word that it was lent, for all texts, slices and numbers. s is the text.
use Rattle.std.specs.Prelude.{ℕ, zero, suc, ◌≤◌, ◌≡◌, ◌⊎◌, List, [], ◌++◌, Bool, true, false, cond, leb, length, get_or, take, drop, Ok, Err, IfOk, IfErr}
use Rattle.std.proofs.Common.{ap}
use Rattle.std.proofs.Math.Option.{Option, some, none}
use Rattle.std.proofs.Math.ListN.{get_elem?}
use Rattle.notation.specs.Limits.{scratch_words, run_words}
use Rattle.notation.specs.Refusals.{OrRefusal}
use Rattle.notation.specs.Tables.{tables}
use Rattle.notation.specs.Token.{name_at}
use Rattle.notation.specs.Tree.{Located, Declaration}
use Rattle.calculus.specs.Accepted.{Checked, accepted, faulty, checked}
use Rattle.calculus.specs.Answers.{Told, refused_as, given_as, started_as, stepped_as, ran_on_as, counted_as}
use Rattle.calculus.specs.Configuration.{Config}
use Rattle.calculus.specs.Demands.{is_refused}
use Rattle.calculus.specs.Machine.{Call, call_start, call_step, call_run_on, call_report, call_places, call_exec_name, Answer, started, stepped, ran_on, reported, surveyed, name_given, Reply, refusal, respond, idle}
use Rattle.calculus.specs.Program.{program_of}
use Rattle.calculus.specs.declared.answers.Stepped.{Stepped}
use Rattle.calculus.specs.declared.answers.RanOn.{RanOn}
use Rattle.calculus.specs.declared.answers.Report.{Report}
use Rattle.calculus.specs.declared.answers.Places.{Places}
use Rattle.run_words.specs.Raw.{raw_in}
use Rattle.run_alone.specs.Run.{config_in}
use Rattle.check_text.specs.Texts.{words_in}
use Rattle.run_wellformed.specs.Formed.{Formed}

-- ── a call of an entry
-- what is asked, with its number
pub data Request : Type 0 where
  to_start : (line : ℕ) → Request
  to_step : (place : ℕ) → Request
  to_run_on : (budget : ℕ) → Request
  to_report : Request
  to_places : Request
  to_name : (line : ℕ) → Request

-- the words of the slices; an entry that is lent no run has none of its words
pub record Slices : Type 0 where
  pub scratch : List ℕ
  pub run : List ℕ

-- what is asked, the words lent, the answer, and those words afterwards
pub record EntryCall : Type 0 where
  pub request : Request
  pub lent : Slices
  pub answer : Answer
  pub left : Slices

abbrev pub called : Request → List ℕ → List ℕ → Answer → List ℕ → List ℕ → EntryCall
called q w ws a v vs = record { request = q; lent = record { scratch = w; run = ws }; answer = a; left = record { scratch = v; run = vs } }

-- what the plain machine is asked, by the lengths of the slices
abbrev pub call_as : Request → ℕ → ℕ → Call
call_as (to_start line) scratch run = call_start scratch run line
call_as (to_step place) scratch run = call_step scratch run place
call_as (to_run_on budget) scratch run = call_run_on scratch run budget
call_as to_report scratch run = call_report scratch run
call_as to_places scratch run = call_places scratch run
call_as (to_name line) scratch run = call_exec_name scratch line

abbrev pub call_of : EntryCall → Call
call_of m = call_as m.request (length m.lent.scratch) (length m.lent.run)

-- what becomes of the run: it is begun anew, what it holds is read, or none is lent
pub data RunUse : Type 0 where
  anew : RunUse
  read : RunUse
  unlent : RunUse

abbrev pub use_of : Request → RunUse
use_of (to_start line) = anew
use_of (to_step place) = read
use_of (to_run_on budget) = read
use_of to_report = read
use_of to_places = read
use_of (to_name line) = unlent

abbrev pub is_read : RunUse → Bool
is_read anew = false
is_read read = true
is_read unlent = false

-- ── the slices
-- "After 1 no lent slice is touched; after 2 to 15 the first 6,144 scratch words are zero; otherwise they hold the checked tables"
abbrev pub scratch_after : List ℕ → List ℕ → List ℕ
scratch_after s w = cond (leb scratch_words (length w)) (words_in s (checked s) ++ drop scratch_words w) w

-- the configuration that a run's words decode to, for an accepted text
abbrev pub config_of : List ℕ → List ℕ → Config
config_of s ws = config_in s (tables s) ws

-- what refusal 18 tests: the words are a well-formed configuration of this text
abbrev pub HoldsRun : List ℕ → List ℕ → Type 0
HoldsRun s ws = Formed s (tables s) (raw_in ws)

-- a run that holds the configuration D; the words past 6,144 are as they were
pub record Leaves (s ws vs : List ℕ) (D : Config) : Type 0 where
  pub holds : HoldsRun s vs
  pub is : config_of s vs ≡ D
  pub past : drop run_words vs ≡ drop run_words ws
  pub long : length vs ≡ length ws

-- "Every refusal leaves the run slice."
abbrev pub keeps_run : RunUse → Answer → Bool
keeps_run anew a = is_refused a
keeps_run read a = is_refused a
keeps_run unlent a = true

abbrev pub left_as : List ℕ → List ℕ → List ℕ → Config → Bool → Type 0
left_as s ws vs D true = vs ≡ ws
left_as s ws vs D false = Leaves s ws vs D

pub record RunAfter (s : List ℕ) (q : Request) (ws vs : List ℕ) (y : Reply) : Type 0 where
  pub is : left_as s ws vs y.config (keeps_run (use_of q) y.answer)

-- ── answers in the scope's numbers and values
abbrev named_as : List ℕ → ℕ → ℕ → Told
named_as part zero at = given_as part
named_as part (suc n) at = refused_as (suc n) at

-- what an entry lists follows its count
abbrev listed_as : Told → List ℕ → Told
listed_as t l = record { refusal = t.refusal; values = t.values ++ l }

abbrev pub answer_as : Answer → Told
answer_as (started a) = started_as a
answer_as (stepped a) = stepped_as a
answer_as (ran_on a) = ran_on_as a
answer_as (reported a l) = listed_as (counted_as a) l
answer_as (surveyed a l) = listed_as (counted_as a) l
answer_as (name_given part n at) = named_as part n at

-- the very answer of a reply, so the same number and values
pub record Gives (a : Answer) (y : Reply) : Type 0 where
  pub is : a ≡ y.answer
  pub told : answer_as a ≡ answer_as y.answer

pub by_answer : {a : Answer} {y : Reply} → a ≡ y.answer → Gives a y
by_answer e = record { is = e; told = ap answer_as e }

-- ── what holds of every call of an entry
-- where refusal 18 is tested: the run is read, and no refusal before it applies, since the text is accepted and both slices have their words
pub record Reached (s : List ℕ) (m : EntryCall) : Type 0 where
  pub reads : is_read (use_of m.request) ≡ true
  pub script : List Declaration
  pub accepts : checked s ≡ accepted script
  pub scratch : scratch_words ≤ length m.lent.scratch
  pub run : run_words ≤ length m.lent.run

-- the plain machine's reply to the call, for the configuration that the run's words decode to. That of a start and of an exec's name is the same for all.
abbrev pub plain_reply : List ℕ → EntryCall → Reply
plain_reply s m = respond s (config_of s m.lent.run) (call_of m)

-- 18 where it is reached and the words are no such configuration; otherwise the plain machine's reply
pub record Answers (s : List ℕ) (m : EntryCall) : Type 0 where
  pub scratch : m.left.scratch ≡ scratch_after s m.lent.scratch
  pub either : (Reached s m × (¬ HoldsRun s m.lent.run)) ⊎ (Reached s m → HoldsRun s m.lent.run)
  pub stranger : Reached s m → ¬ HoldsRun s m.lent.run → Gives m.answer (refusal idle (call_of m) 18 0) × (m.left.run ≡ m.lent.run)
  pub known : (Reached s m → HoldsRun s m.lent.run) → Gives m.answer (plain_reply s m) × RunAfter s m.request m.lent.run m.left.run (plain_reply s m)

-- ── the entries: w and ws are the scratch and run words lent, v and vs what they are afterwards
abbrev pub Starts : List ℕ → List ℕ → List ℕ → ℕ → OrRefusal (Unit {0}) → List ℕ → List ℕ → Type 0
Starts s w ws line r v vs = Answers s (called (to_start line) w ws (started r) v vs)

abbrev pub Steps : List ℕ → List ℕ → List ℕ → ℕ → OrRefusal Stepped → List ℕ → List ℕ → Type 0
Steps s w ws place r v vs = Answers s (called (to_step place) w ws (stepped r) v vs)

abbrev pub RunsOn : List ℕ → List ℕ → List ℕ → ℕ → OrRefusal RanOn → List ℕ → List ℕ → Type 0
RunsOn s w ws budget r v vs = Answers s (called (to_run_on budget) w ws (ran_on r) v vs)

-- an entry that lists, in an array beside a count: the list stands first, then zeros; a refusal has neither; the run is only read
abbrev pub ZerosFrom : ℕ → List ℕ → Type 0
ZerosFrom count words = (k : ℕ) → count ≤ k → get_or words k 0 ≡ 0

pub record Lists (s w ws : List ℕ) (q : Request) (a : Answer) (Rest : Type 0) (v : List ℕ) : Type 0 where
  pub answers : Answers s (called q w ws a v ws)
  pub rest : Rest

abbrev pub report_answer : OrRefusal Report → Answer
report_answer (Ok r) = reported (Ok r.open) (take r.open r.numbers)
report_answer (Err e) = reported (Err e) []

abbrev pub Reports : List ℕ → List ℕ → List ℕ → OrRefusal Report → List ℕ → Type 0
Reports s w ws r v = Lists s w ws to_report (report_answer r) (IfOk r λ l. ZerosFrom l.open l.numbers) v

abbrev pub places_answer : OrRefusal Places → Answer
places_answer (Ok r) = surveyed (Ok r.processes) (take r.processes r.steps)
places_answer (Err e) = surveyed (Err e) []

abbrev pub Surveys : List ℕ → List ℕ → List ℕ → OrRefusal Places → List ℕ → Type 0
Surveys s w ws r v = Lists s w ws to_places (places_answer r) (IfOk r λ l. ZerosFrom l.processes l.steps) v

-- the name of an exec line, "handed back as the part of the lent text that holds it"; the refusal's number and offset "stand in two lent numbers, both 0 otherwise"
abbrev pub Names : List ℕ → List ℕ → ℕ → List ℕ → ℕ → ℕ → List ℕ → Type 0
Names s w line part number at v = Answers s (called (to_name line) w [] (name_given part number at) v [])

-- the exec lines of a text, none of one that is refused, and the offset of one: 0 if there is none
abbrev pub lines_in : Checked → List Located
lines_in (accepted ds) = (program_of ds).execs
lines_in (faulty n i) = []

abbrev pub offset_in : Option Located → ℕ
offset_in none = 0
offset_in (some n) = n.at

unfoldable pub exec_offset : List ℕ → ℕ → ℕ
exec_offset s line = offset_in (get_elem? (lines_in (checked s)) line)

-- the name by its place in the text: that of the line, where it is not refused
abbrev pub name_placed : List ℕ → OrRefusal ℕ → Answer
name_placed s (Ok place) = name_given (name_at s place) 0 0
name_placed s (Err e) = name_given [] e.number e.at

pub record NamesAt (s w : List ℕ) (line : ℕ) (r : OrRefusal ℕ) (v : List ℕ) : Type 0 where
  pub names : Answers s (called (to_name line) w [] (name_placed s r) v [])
  pub stands : IfOk r λ place. place ≡ exec_offset s line
  pub numbered : IfErr r λ e. 1 ≤ e.number
