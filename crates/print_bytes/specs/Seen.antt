-- What a step shows, with the words around it.
use Rattle.std.specs.Prelude.{ℕ, ◌+◌, List, [], ◌++◌, Bool, true, false, length}
use Rattle.notation.specs.Bytes.{bytes}
use Rattle.notation.specs.Token.{name_at}
use Rattle.calculus.specs.Printed.{decimal}
use Rattle.calculus.specs.declared.answers.Seen.{Seen}
use Rattle.calculus.specs.declared.answers.Seen.TheVariants.{Nothing, Label, Close, Passed, Cancelled}
use Rattle.print_bytes.specs.declared.seen.Around.{Around}

-- ── by the words before a channel's number, between it and what came over the channel, and after that
module _ (before between after : List ℕ) where
  abbrev pub channel_with : ℕ → List ℕ
  channel_with n = before ++ (decimal n ++ between)

  -- what came over the channel n
  abbrev pub over_with : ℕ → List ℕ → List ℕ
  over_with n what = channel_with n ++ (what ++ after)

  -- a passed channel, and whether it was given up already
  abbrev pub gone_with : ℕ → Bool → List ℕ
  gone_with m true = over_with m (bytes "cancelled")
  gone_with m false = []

  abbrev pub passed_with : ℕ → ℕ → Bool → List ℕ
  passed_with n m gone = over_with n (bytes "#" ++ decimal m) ++ gone_with m gone

  unfoldable pub seen_with : List ℕ → Seen → List ℕ
  seen_with s Nothing = []
  seen_with s (Label n at) = over_with n (bytes "'" ++ name_at s (at + 1))
  seen_with s (Close n) = over_with n (bytes "()")
  seen_with s (Passed n m gone) = passed_with n m gone
  seen_with s (Cancelled n) = over_with n (bytes "cancelled")

-- ── the same, by the words as the code has them
abbrev pub channel_words : Around → ℕ → List ℕ
channel_words w n = channel_with w.before.now w.between.now w.after.now n

abbrev pub over_words : Around → ℕ → List ℕ → List ℕ
over_words w n what = over_with w.before.now w.between.now w.after.now n what

abbrev pub passed_words : Around → ℕ → ℕ → Bool → List ℕ
passed_words w n m gone = passed_with w.before.now w.between.now w.after.now n m gone

abbrev pub seen_words : Around → List ℕ → Seen → List ℕ
seen_words w s seen = seen_with w.before.now w.between.now w.after.now s seen

-- how many bytes the words are
abbrev pub room : Around → ℕ
room w = length w.before.now + length w.between.now + length w.after.now
