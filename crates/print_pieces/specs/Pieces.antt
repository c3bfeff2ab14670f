-- What is left to print of a text at a stage, and what a piece of it is.
-- s is the text, w its tables, ws the words of the run.
use Rattle.std.specs.Prelude.{ℕ, suc, ◌+◌, ◌-◌, ◌*◌, ◌≤◌, ◌<◌, ◌≡◌, List, [], ◌∷◌, ◌++◌, Bool, true, false, length, take, drop}
use Rattle.notation.specs.Bytes.{bytes}
use Rattle.notation.specs.Limits.{text_limit}
use Rattle.notation.specs.Token.{name_at}
use Rattle.calculus.specs.Accepted.{Checked, accepted, faulty, checked}
use Rattle.calculus.specs.Configuration.{Config}
use Rattle.calculus.specs.Printed.{step_limit, line, sighting, ending, run_lines, all_execs, warning_lines, printed}
use Rattle.calculus.specs.Program.{Program}
use Rattle.calculus.specs.Warnings as calculus
use Rattle.calculus.specs.Warnings.{warnings}
use Rattle.calculus.specs.WellFormed.{WellFormed}
use Rattle.calculus.specs.declared.answers.RanOn.{RanOn}
use Rattle.calculus.specs.declared.answers.RanOn.TheVariants.{Shown, Done, Full, Stopped, Uncaught}
use Rattle.read_tables.specs.Decode.{script_in}
use Rattle.read_tables.specs.Program.{program_in}
use Rattle.run_alone.specs.Run.{config_in, RunOf}
use Rattle.check_accepted.specs.Texts.{TextIn}
use Rattle.print_pieces.specs.declared.pieces.Stage.{Stage}
use Rattle.print_pieces.specs.declared.pieces.Stage.TheVariants.{Warning, Channel, Label, Exec, Running, Finished}
use Rattle.print_pieces.specs.declared.pieces.Piece.{Piece}

-- bytes of the buffer that a piece is put into: a name may be as long as its text, 8,192 bytes, and fewer than 128 stand beside it
abbrev pub piece_bytes : ℕ
piece_bytes = text_limit + 128

-- a warning's line in parts, each with one name, that stands there
abbrev pub process_part : List ℕ → ℕ → List ℕ
process_part s process = bytes "Warning: process " ++ name_at s process

abbrev pub channel_part : List ℕ → ℕ → List ℕ
channel_part s channel = bytes ", channel " ++ name_at s channel

abbrev pub label_part : List ℕ → ℕ → List ℕ
label_part s label = line (bytes ", missing '" ++ name_at s (label + 1))

-- all from the warning k of ms on
abbrev pub from_warning : List ℕ → List calculus.Warning → Program → ℕ → List ℕ
from_warning s ms p k = warning_lines (drop k ms) ++ all_execs s p p.execs

-- all from a warning on; what is left of a warning's line, and all from the next on; all from an exec line on; what is left of that line, of which so many steps were taken, and all after it; nothing
abbrev pub left : List ℕ → List calculus.Warning → Program → Config → Stage → List ℕ
left s ms p C (Warning k) = from_warning s ms p k
left s ms p C (Channel next channel label) = channel_part s channel ++ (label_part s label ++ from_warning s ms p next)
left s ms p C (Label next label) = label_part s label ++ from_warning s ms p next
left s ms p C (Exec line) = all_execs s p (drop line p.execs)
left s ms p C (Running line taken) = run_lines (suc (step_limit - taken)) s p taken C ++ all_execs s p (drop (line + 1) p.execs)
left s ms p C Finished = []

abbrev pub warnings_in : List ℕ → List ℕ → List calculus.Warning
warnings_in s w = warnings (script_in s w)

abbrev pub left_in : List ℕ → List ℕ → List ℕ → Stage → List ℕ
left_in s w ws = left s (warnings_in s w) (program_in s w) (config_in s w ws)

-- what holds at a stage: the text is accepted, and the run of a line that was begun is well-formed
pub record RunningIn (s w ws : List ℕ) (line taken : ℕ) : Type 0 where
  pub text : TextIn s w
  pub run : RunOf s w ws
  pub formed : WellFormed (program_in s w) (config_in s w ws)
  pub steps : taken ≤ step_limit
  pub exec : line < length (program_in s w).execs

abbrev pub GoingBy : List ℕ → List ℕ → List ℕ → Stage → Type 0
GoingBy s w ws (Warning k) = TextIn s w
GoingBy s w ws (Channel next channel label) = TextIn s w
GoingBy s w ws (Label next label) = TextIn s w
GoingBy s w ws (Exec line) = TextIn s w
GoingBy s w ws (Running line taken) = RunningIn s w ws line taken
GoingBy s w ws Finished = Unit {0}

pub record Going (s w ws : List ℕ) (stage : Stage) : Type 0 where
  pub is : GoingBy s w ws stage

-- a number that falls from piece to piece
abbrev pub turns : List calculus.Warning → Program → Stage → ℕ
turns ms p (Warning k) = 3 * (length ms - k) + 10003 * length p.execs + 2
turns ms p (Channel next channel label) = 3 * (length ms - next) + 10003 * length p.execs + 4
turns ms p (Label next label) = 3 * (length ms - next) + 10003 * length p.execs + 3
turns ms p (Exec line) = 10003 * (length p.execs - line) + 1
turns ms p (Running line taken) = 10003 * (length p.execs - (line + 1)) + (step_limit - taken) + 2
turns ms p Finished = 0

abbrev pub turns_in : List ℕ → List ℕ → Stage → ℕ
turns_in s w = turns (warnings_in s w) (program_in s w)

abbrev pub is_left : Stage → Bool
is_left (Warning k) = true
is_left (Channel next channel label) = true
is_left (Label next label) = true
is_left (Exec line) = true
is_left (Running line taken) = true
is_left Finished = false

-- whether a text is accepted
abbrev pub is_accepted : Checked → Bool
is_accepted (accepted ds) = true
is_accepted (faulty n i) = false

-- the first piece of a text, whatever the words of the run are; more is left exactly where the text is accepted
pub record First (s w out : List ℕ) (r : Piece) : Type 0 where
  pub is : (ws : List ℕ) → printed s ≡ take r.length out ++ left_in s w ws r.stage
  pub within : r.length ≤ length out
  pub going : (ws : List ℕ) → Going s w ws r.stage
  pub more : is_left r.stage ≡ is_accepted (checked s)

-- the piece that comes at a stage
pub record Next (s w ws vs out : List ℕ) (stage : Stage) (r : Piece) : Type 0 where
  pub is : left_in s w ws stage ≡ take r.length out ++ left_in s w vs r.stage
  pub within : r.length ≤ length out
  pub going : Going s w vs r.stage
  pub falls : 0 < turns_in s w stage → turns_in s w r.stage < turns_in s w stage

-- the same where the run is not asked for
pub record Still (s w out : List ℕ) (stage : Stage) (r : Piece) : Type 0 where
  pub is : (ws : List ℕ) → Next s w ws ws out stage r

-- ── a piece by itself: its bytes, and the stage after it
pub record Wrote (out : List ℕ) (r : Piece) (l : List ℕ) (stage : Stage) : Type 0 where
  pub is : take r.length out ≡ l
  pub within : r.length ≤ length out
  pub then : r.stage ≡ stage

-- what a run-on's answer shows, and the stage after it
abbrev pub told_lines : List ℕ → ℕ → RanOn → List ℕ
told_lines s taken (Shown seen steps) = sighting s seen
told_lines s taken (Done steps) = ending (bytes "done") (taken + steps)
told_lines s taken (Full steps) = ending (bytes "full") (taken + steps)
told_lines s taken (Stopped steps) = ending (bytes "stopped") (taken + steps)
told_lines s taken (Uncaught steps) = ending (bytes "uncaught") (taken + steps)

abbrev pub told_stage : ℕ → ℕ → RanOn → Stage
told_stage line taken (Shown seen steps) = Running line (taken + steps)
told_stage line taken (Done steps) = Exec (line + 1)
told_stage line taken (Full steps) = Exec (line + 1)
told_stage line taken (Stopped steps) = Exec (line + 1)
told_stage line taken (Uncaught steps) = Exec (line + 1)

-- ── every list of pieces
-- a call of next_piece: the run's words lent and left, the bytes of the buffer afterwards, and its answer
pub record Turn : Type 0 where
  pub lent : List ℕ
  pub left : List ℕ
  pub out : List ℕ
  pub piece : Piece

-- each is asked for at the stage that the one before came to, with the run that it left, until nothing is left
abbrev pub Linked : List ℕ → List ℕ → List ℕ → Stage → List Turn → Type 0
Linked s w ws stage [] = stage ≡ Finished
Linked s w ws stage (t ∷ ts) = (t.lent ≡ ws) × Next s w ws t.left t.out stage t.piece × Linked s w t.left t.piece.stage ts

-- their bytes, one after another
abbrev pub written : List Turn → List ℕ
written [] = []
written (t ∷ ts) = take t.piece.length t.out ++ written ts

-- what they write is all that is to be printed
pub record PiecesPrinted : Type 0 where
  pub is : (s w ws out : List ℕ) (first : Piece) → First s w out first
      → (ts : List Turn) → Linked s w ws first.stage ts
      → take first.length out ++ written ts ≡ printed s
