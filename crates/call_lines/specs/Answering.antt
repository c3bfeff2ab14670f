-- What a line of a log comes to: the entry's own contract, and the words of its answer.
use Rattle.std.specs.Prelude.{ℕ, ◌+◌, ◌≡◌, List, [], length, Option, Some, None}
use Rattle.std.proofs.Common.{sym, subst}
use Rattle.notation.specs.Bytes.{bytes}
use Rattle.calculus.specs.Machine.{Answer}
use Rattle.interpreter.specs.Entries.{Request, to_start, to_step, to_run_on, to_report, to_places, to_name, Answers, called}
use Rattle.print_bytes.specs.Writing.{Appended}
use Rattle.print_answers.specs.Answers.{answer_words}
use Rattle.call_lines.specs.declared.lines.CallLine.{CallLine}
use Rattle.call_lines.specs.declared.lines.CallLine.TheVariants.{Start, Step, Run, Report, Places, Name, Scratch, RunWords}

-- no answer has more bytes than this
abbrev pub answer_room : List ℕ → ℕ
answer_room s = length s + 800

-- the entry was called and answered, and the buffer begins with the words of that answer. w and ws are the scratch and run words lent, v and vs what they are afterwards
pub record Answered (s : List ℕ) (q : Request) (w ws v vs old new : List ℕ) (r : ℕ) : Type 0 where
  pub answer : Answer
  pub answers : Answers s (called q w ws answer v vs)
  pub words : Appended old new 0 r (answer_words s answer)

-- neither slice is touched
pub record Untouched (w ws v vs : List ℕ) : Type 0 where
  pub scratch : v ≡ w
  pub run : vs ≡ ws

pub record Said (said w ws v vs old new : List ℕ) (r : ℕ) : Type 0 where
  pub untouched : Untouched w ws v vs
  pub words : Appended old new 0 r said

-- an exec line's name is asked for with no run
pub record NameAnswered (s : List ℕ) (line : ℕ) (w ws v vs old new : List ℕ) (r : ℕ) : Type 0 where
  pub answered : Answered s (to_name line) w [] v [] old new r
  pub run : vs ≡ ws

-- what a line asks for; one that is no call is not answered
abbrev pub line_answered : Option CallLine → List ℕ → List ℕ → List ℕ → List ℕ → List ℕ → List ℕ → List ℕ → ℕ → Type 0
line_answered (Some (Start n)) s w ws v vs old new r = Answered s (to_start n) w ws v vs old new r
line_answered (Some (Step n)) s w ws v vs old new r = Answered s (to_step n) w ws v vs old new r
line_answered (Some (Run n)) s w ws v vs old new r = Answered s (to_run_on n) w ws v vs old new r
line_answered (Some Report) s w ws v vs old new r = Answered s to_report w ws v vs old new r
line_answered (Some Places) s w ws v vs old new r = Answered s to_places w ws v vs old new r
line_answered (Some (Name n)) s w ws v vs old new r = NameAnswered s n w ws v vs old new r
line_answered (Some (Scratch n)) s w ws v vs old new r = Said (bytes "lent") w ws v vs old new r
line_answered (Some (RunWords n)) s w ws v vs old new r = Said (bytes "lent") w ws v vs old new r
line_answered None s w ws v vs old new r = Said [] w ws v vs old new r

pub record LineAnswered (call : Option CallLine) (s w ws v vs old new : List ℕ) (r : ℕ) : Type 0 where
  pub is : line_answered call s w ws v vs old new r

-- ── laws
module _ {s w ws v vs old new : List ℕ} {r : ℕ} where
  pub answered_by_lem : (a : Answer) {q : Request} → Answers s (called q w ws a v vs) → Appended old new 0 r (answer_words s a) → Answered s q w ws v vs old new r
  answered_by_lem a e p = record { answer = a; answers = e; words = p }

  pub line_answered_lem : {call : CallLine} (x : CallLine) → call ≡ x → line_answered (Some x) s w ws v vs old new r → LineAnswered (Some call) s w ws v vs old new r
  line_answered_lem x e p = record { is = subst (λ c. line_answered (Some c) s w ws v vs old new r) (sym e) p }

  -- the same of an entry whose answer, by `answer` of the value a, is known to be that of x: the buffer has the words of x's
  pub answer_said : {A : Type 0} (answer : A → Answer) {q : Request} {a : A} (x : A) → a ≡ x → Answers s (called q w ws (answer a) v vs) → Appended old new 0 r (answer_words s (answer x)) → Answered s q w ws v vs old new r
  answer_said answer {a = a} x e h p = answered_by_lem (answer a) h (subst (λ y. Appended old new 0 r (answer_words s (answer y))) (sym e) p)
