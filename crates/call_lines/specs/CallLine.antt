-- A log of calls: a script, a line ---, then a call a line. What follows the first " -> " in a line is not read.
use Rattle.std.specs.Prelude.{ℕ, suc, ◌+◌, ◌-◌, ◌*◌, List, [], ◌∷◌, Bool, true, false, cond, ◌&&◌, ltb, leb, eqb, length, take, drop, Option, Some, None, option_map, option_and_then}
use Rattle.std.specs.Option.{option_or, is_none}
use Rattle.std.specs.Str.{bytes_eq}
use Rattle.notation.specs.Bytes.{bytes, within}
use Rattle.call_lines.specs.declared.lines.CallLine.{CallLine}
use Rattle.call_lines.specs.declared.lines.CallLine.TheVariants as Calls
use Rattle.call_lines.specs.declared.log.Sought.{Sought}
use Rattle.call_lines.specs.declared.log.Sought.TheVariants.{Rule, NoCall}

-- the list begins with the word
unfoldable pub begins : List ℕ → List ℕ → Bool
begins [] l = true
begins (x ∷ w) [] = false
begins (x ∷ w) (y ∷ l) = cond (eqb y x) (begins w l) false

-- how many elements stand before the word's first place
unfoldable pub before : List ℕ → List ℕ → ℕ
before w [] = 0
before w (b ∷ l) = cond (begins w (b ∷ l)) 0 (suc (before w l))

-- ── a number: at most ten digits, below 2^32
abbrev pub numbers : ℕ
numbers = 4294967296

abbrev pub with_digit : ℕ → ℕ → ℕ
with_digit n b = 10 * n + (b - 48)

-- n is the number of the digits before these
unfoldable pub number_from : ℕ → List ℕ → Option ℕ
number_from n [] = Some n
number_from n (b ∷ l) = cond (within 48 57 b) (cond (ltb (with_digit n b) numbers) (number_from (with_digit n b) l) None) None

unfoldable pub number_in : List ℕ → Option ℕ
number_in l = cond (eqb (length l) 0) None (cond (leb (length l) 10) (number_from 0 l) None)

-- ── a call: a word and its number, or a word alone
-- the number after the word
unfoldable pub number_after : List ℕ → List ℕ → Option ℕ
number_after w l = cond (begins w l) (number_in (drop (length w) l)) None

-- what may be lent, in words
abbrev pub most_scratch : ℕ
most_scratch = 16384

abbrev pub most_run : ℕ
most_run = 8192

abbrev pub at_most : ℕ → ℕ → Option ℕ
at_most most n = cond (leb n most) (Some n) None

-- the word is all there is
abbrev pub alone : List ℕ → CallLine → List ℕ → Option CallLine
alone w c l = cond (bytes_eq l w) (Some c) None

unfoldable pub call_in : List ℕ → Option CallLine
call_in l =
    option_or (option_map Calls.Start (number_after (bytes "start ") l))
    (option_or (option_map Calls.Step (number_after (bytes "step ") l))
    (option_or (option_map Calls.Run (number_after (bytes "run ") l))
    (option_or (option_map Calls.Name (number_after (bytes "name ") l))
    (option_or (option_map Calls.Scratch (option_and_then (at_most most_scratch) (number_after (bytes "scratch ") l)))
    (option_or (option_map Calls.RunWords (option_and_then (at_most most_run) (number_after (bytes "run words ") l)))
    (option_or (alone (bytes "report") Calls.Report l) (alone (bytes "places") Calls.Places l)))))))

-- ── a line
abbrev pub asked_length : List ℕ → ℕ
asked_length l = before (bytes " -> ") l

unfoldable pub line_in : List ℕ → Option CallLine
line_in l = call_in (take (asked_length l) l)

-- ── the log
-- how many bytes the first line has, without its line feed
abbrev pub line_length : List ℕ → ℕ
line_length l = before (10 ∷ []) l

-- the first line is the one sought: ---, or one that is no call
unfoldable pub is_sought : Sought → List ℕ → Bool
is_sought Rule l = eqb (line_length l) 3 && begins (bytes "---") l
is_sought NoCall l = is_none (line_in (take (line_length l) l))

abbrev pub is_feed : ℕ → Bool
is_feed b = eqb b 10

-- where the first line that is sought starts, or where the list ends; does a line start here?
unfoldable pub seek : Sought → Bool → List ℕ → ℕ
seek sought starts [] = 0
seek sought starts (b ∷ l) = cond (starts && is_sought sought (b ∷ l)) 0 (suc (seek sought (is_feed b) l))

-- how many line feeds there are
abbrev pub fed : ℕ → ℕ
fed b = cond (is_feed b) 1 0

unfoldable pub feeds : List ℕ → ℕ
feeds [] = 0
feeds (b ∷ l) = fed b + feeds l
