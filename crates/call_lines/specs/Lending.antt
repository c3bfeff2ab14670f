-- How much of its slices a caller lends: never more than it has.
use Rattle.std.specs.Prelude.{ℕ, ◌≤◌, ◌≡◌, List, Bool, true, false, cond, leb, take, Option, Some, None, option_map, option_and_then}
use Rattle.std.specs.Option.{option_or}
use Rattle.std.specs.Str.{bytes_eq}
use Rattle.std.proofs.Math.Path.{refl, subst}
use Rattle.std.proofs.Common.{sym, arith, leb-true}
use Rattle.notation.specs.Bytes.{bytes}
use Rattle.notation.specs.Limits.{scratch_words, run_words}
use Rattle.call_lines.specs.CallLine.{number_after, most_scratch, most_run, at_most, call_in, asked_length, line_in}
use Rattle.call_lines.specs.declared.lines.CallLine.{CallLine}
use Rattle.call_lines.specs.declared.lines.CallLine.TheVariants as Calls
use Rattle.call_lines.specs.declared.lending.Lent.{Lent}

abbrev pub lent_at_first : Lent
lent_at_first = record { scratch = scratch_words; run = run_words }

-- a line that is no call lends nothing
unfoldable pub lent_after : Option CallLine → Lent → Lent
lent_after (Some (Calls.Start n)) k = k
lent_after (Some (Calls.Step n)) k = k
lent_after (Some (Calls.Run n)) k = k
lent_after (Some Calls.Report) k = k
lent_after (Some Calls.Places) k = k
lent_after (Some (Calls.Name n)) k = k
lent_after (Some (Calls.Scratch n)) k = record { scratch = n; run = k.run }
lent_after (Some (Calls.RunWords n)) k = record { scratch = k.scratch; run = n }
lent_after None k = k

pub record Lendable (k : Lent) : Type 0 where
  pub scratch : k.scratch ≤ most_scratch
  pub run : k.run ≤ most_run

pub lendable_first : {k : Lent} → k ≡ lent_at_first → Lendable k
lendable_first e = subst Lendable (sym e) (record { scratch = omega arith; run = omega arith })

-- ── what a line lends
record Lends (k : Lent) (r : Option CallLine) : Type 0 where
  pub is : Lendable (lent_after r k)

module _ {k : Lent} (h : Lendable k) where
  lends_none : Lends k None
  unfolding lent_after
  lends_none = record { is = h }

  either_lends : {r q : Option CallLine} → Lends k r → Lends k q → Lends k (option_or r q)
  either_lends {r = Some c} g e = g
  either_lends {r = None} g e = e

  number_lends : (f : ℕ → CallLine) → ((n : ℕ) → Lendable (lent_after (Some (f n)) k)) → (r : Option ℕ) → Lends k (option_map f r)
  number_lends f e (Some n) = record { is = e n }
  number_lends f e None = lends_none

  few_lends : (f : ℕ → CallLine) (most : ℕ) → ((n : ℕ) → n ≤ most → Lendable (lent_after (Some (f n)) k)) → (r : Option ℕ) → Lends k (option_map f (option_and_then (at_most most) r))
  few_lends f most g (Some n) = by (leb n most) refl
    where
      by : (b : Bool) → leb n most ≡ b → Lends k (option_map f (cond b (Some n) None))
      by true e = record { is = g n (leb-true n most e) }
      by false e = lends_none
  few_lends f most g None = lends_none

  word_lends : (c : CallLine) → Lendable (lent_after (Some c) k) → (b : Bool) → Lends k (cond b (Some c) None)
  word_lends c e true = record { is = e }
  word_lends c e false = lends_none

  call_lends : (l : List ℕ) → Lends k (call_in l)
  unfolding call_in lent_after
  call_lends l =
      either_lends (number_lends Calls.Start (λ n. h) (number_after (bytes "start ") l))
      (either_lends (number_lends Calls.Step (λ n. h) (number_after (bytes "step ") l))
      (either_lends (number_lends Calls.Run (λ n. h) (number_after (bytes "run ") l))
      (either_lends (number_lends Calls.Name (λ n. h) (number_after (bytes "name ") l))
      (either_lends (few_lends Calls.Scratch most_scratch (λ n m. record { scratch = m; run = h.run }) (number_after (bytes "scratch ") l))
      (either_lends (few_lends Calls.RunWords most_run (λ n m. record { scratch = h.scratch; run = m }) (number_after (bytes "run words ") l))
      (either_lends (word_lends Calls.Report h (bytes_eq l (bytes "report"))) (word_lends Calls.Places h (bytes_eq l (bytes "places")))))))))

  pub line_lends : (l : List ℕ) {call : Option CallLine} {next : Lent} → call ≡ line_in l → next ≡ lent_after call k → Lendable next
  unfolding line_in
  line_lends l e f = subst Lendable (sym f) (subst (Lends k) (sym e) (call_lends (take (asked_length l) l))).is
