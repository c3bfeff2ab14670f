-- The name of an exec line by its place: what is handed back is the part of the text from the line's own name on, and begins a token.
use Rattle.std.specs.Prelude.{ℕ, zero, suc, ◌+◌, ◌-◌, ◌≤◌, ◌≡◌, refl, List, [], ◌∷◌, length, take, drop}
use Rattle.std.proofs.Common.{arith, sym, ◌∙◌, subst}
use Rattle.std.proofs.Math.Path.{ap}
use mathlib.Core.List.Memᴰ
use Rattle.std.proofs.lemmas.Bool.{false≢true}
use Rattle.std.proofs.Math.Option.{Option, some, none}
use Rattle.std.proofs.Math.ListN.{get_elem?}
use Rattle.notation.specs.From.{NameFrom, DeclarationFrom, ScriptFrom}
use Rattle.notation.specs.Limits.{text_limit}
use Rattle.notation.specs.Token.{name_end, name_at}
use Rattle.notation.specs.Tree.{Located, Declaration, declare_type, declare_proc, declare_exec}
use Rattle.notation.proofs.Names.{name_fits}
use Rattle.notation.proofs.ScriptReadings.{text_read}
use Rattle.calculus.specs.Accepted.{Checked, accepted, faulty, checked}
use Rattle.calculus.specs.Configuration.{Config}
use Rattle.calculus.specs.Named.{In}
use Rattle.calculus.specs.Demands.{Derivable}
use Rattle.calculus.specs.Machine.{name_given, Reply, on_program, on_line, reply, text_checked}
use Rattle.calculus.specs.Program.{program_of}
use Rattle.theory_ends.specs.Lists.{found_in}
use Rattle.theory_derivations.specs.Accepts.{read_as}
use Rattle.theory_reductions.specs.Demand.{demand2}
use Rattle.theory_refusals.specs.Faults.{exec_named}
use Rattle.theory_refusals.specs.Starts.{StartsToken, start_within}
use Rattle.theory_refusals.specs.Tokens.{script_starts}
use Rattle.interpreter.specs.Entries.{to_name, called, use_of, config_of, Answers, lines_in, offset_in, exec_offset}
use Rattle.interpreter.specs.Past.{refuse, on_lent, past_run, reply_by, past_text}
use Rattle.interpreter.specs.Cases.{text_numbered}

-- a part of the text: so many bytes, from an offset on
pub record PartAt (s : List ℕ) (i : ℕ) (part : List ℕ) : Type 0 where
  pub is : part ≡ take (length part) (drop i s)
  pub within : i + length part ≤ length s

take_own : (k : ℕ) (l : List ℕ) → take k l ≡ take (length (take k l)) l
take_own zero l = refl
take_own (suc k) [] = refl
take_own (suc k) (x ∷ l) = ap (λ r. x ∷ r) (take_own k l)

name_part : (s : List ℕ) (i : ℕ) → i ≤ length s → PartAt s i (name_at s i)
unfolding name_at
name_part s i h = record { is = take_own (name_end s i - i) (drop i s); within = omega (arith, name_fits s i, h) }

-- ── the line that is found
exec_from : (s : List ℕ) (ds : List Declaration) → ScriptFrom s ds → (n : Located) → In n (program_of ds).execs → NameFrom s n
unfolding program_of ScriptFrom DeclarationFrom
exec_from s [] f n m = absurd (Memᴰ.not-nil m)
exec_from s (declare_type t A ∷ r) (a, f) n m = exec_from s r f n m
exec_from s (declare_proc t xs ys P ∷ r) (a, f) n m = exec_from s r f n m
exec_from s (declare_exec t ∷ r) (a, f) n (Memᴰ.head e) = subst (NameFrom s) (sym e) a
exec_from s (declare_exec t ∷ r) (a, f) n (Memᴰ.tail m) = exec_from s r f n m

record Found (s : List ℕ) (line : ℕ) (part : List ℕ) : Type 0 where
  script : List Declaration
  accepts : checked s ≡ accepted script
  name : Located
  line_is : get_elem? (program_of script).execs line ≡ some name
  part_is : part ≡ name.name

-- of every call that asks for a name, whatever run is lent beside it; `Names` is one that is lent none
module _ (s w ws v vs part : List ℕ) (line at : ℕ) (A : Answers s (called (to_name line) w ws (name_given part 0 at) v vs)) where
  found : Found s line part
  found = by_text (text_checked s (length w)) refl ((A.known (λ r. absurd (false≢true r.reads))).0.is ∙ ap (λ (y : Reply). y.answer) (reply_by s (to_name line) C (length w) (length ws)))
    where
      C : Config
      C = config_of s ws

      by_line : (ds : List Declaration) → checked s ≡ accepted ds → (o : Option Located) → get_elem? (program_of ds).execs line ≡ o
          → name_given part 0 at ≡ (on_line o (refuse (to_name line) C) (λ n. reply (name_given n.name 0 0) C)).answer → Found s line part
      by_line ds a none e z = absurd (let o : ◌≡◌ {A = ℕ} 0 17 = cc in omega (arith, o))
      by_line ds a (some n) e z = record { script = ds; accepts = a; name = n; line_is = e; part_is = cc }

      by_text : (t : Checked) → text_checked s (length w) ≡ t
          → name_given part 0 at ≡ (on_program t (refuse (to_name line) C) (λ p. on_lent (use_of (to_name line)) (length ws) (refuse (to_name line) C) (past_run p (to_name line) C))).answer → Found s line part
      by_text (accepted ds) a z = by_line ds (past_text s ds (length w) a).0 (get_elem? (program_of ds).execs line) refl z
      by_text (faulty k i) a z = absurd (let o : 0 ≡ k = cc in omega (arith, o, text_numbered s (length w) k i a))

  -- its offset is the one that the line has
  offset_is : exec_offset s line ≡ found.name.at
  unfolding exec_offset
  offset_is = ap (λ k. offset_in (get_elem? (lines_in k) line)) found.accepts ∙ ap offset_in found.line_is

  in_execs : In found.name (program_of found.script).execs
  in_execs = found_in (program_of found.script).execs line found.line_is

  derived : Derivable s found.script
  derived = (demand2.accepts s found.script).0 found.accepts

  starts : StartsToken s found.name.at
  starts = (script_starts s found.script (read_as derived).0 (read_as derived).1).1 found.name.at (exec_named found.script found.name in_execs)

  named_is : part ≡ name_at s found.name.at
  named_is = found.part_is ∙ ap (λ (n : Located). n.name) (sym (exec_from s found.script (text_read s found.script (read_as derived).0 (read_as derived).1).0 found.name in_execs))

  -- "handed back as the part of the lent text that holds it"
  pub name_stands : PartAt s (exec_offset s line) part
  name_stands = subst (λ i. PartAt s i part) (sym offset_is) (subst (PartAt s found.name.at) (sym named_is) (name_part s found.name.at (start_within starts)))

  -- a token of the text starts there
  pub name_starts : StartsToken s (exec_offset s line)
  name_starts = subst (StartsToken s) (sym offset_is) starts

  -- within the limit of a text that is read
  pub name_limit_lem : length s ≤ text_limit
  name_limit_lem = (script_starts s found.script (read_as derived).0 (read_as derived).1).0
