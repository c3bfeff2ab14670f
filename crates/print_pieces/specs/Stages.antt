-- How each piece follows from what was done for it.
use Rattle.std.specs.Prelude.{ℕ, zero, suc, ◌+◌, ◌-◌, ◌≤◌, ◌<◌, ◌≡◌, refl, List, [], ◌∷◌, ◌++◌, Bool, true, false, leb, length, take, drop}
use Rattle.std.proofs.Math.Path.{sym, ap, subst}
use Rattle.std.proofs.Common.{◌∙◌, append_assoc, append-nil, add-one, arith, leb-true, length-take, drop_of_length-le}
use Rattle.std.proofs.lemmas.Bool.{false≢true}
use Rattle.std.proofs.Math.Option.{Option, some, none, none-ne-some}
use Rattle.std.proofs.Math.ListN.{get_elem?}
use Rattle.notation.specs.Bytes.{bytes}
use Rattle.notation.specs.Limits.{text_limit, scratch_words, exec_limit}
use Rattle.notation.specs.Reader.{name_in}
use Rattle.notation.specs.Scripts.{read_text}
use Rattle.notation.specs.Tables.{tables, FitsTables}
use Rattle.notation.specs.Token.{name_at}
use Rattle.notation.specs.Tree.{Declaration}
use Rattle.calculus.specs.Accepted.{Checked, accepted, faulty, checked}
use Rattle.calculus.specs.Configuration.{Config}
use Rattle.calculus.specs.Printed
use Rattle.calculus.specs.Printed.{step_limit, decimal, sighting, showing, run_lines, exec_lines, all_execs, warning_lines, printed_of, printed}
use Rattle.calculus.specs.Program.{Signature, Program}
use Rattle.calculus.specs.Runs.{start_config, line_signature, exec_of, run_on}
use Rattle.calculus.specs.WellFormed.{WellFormed}
use Rattle.calculus.specs.declared.answers.RanOn.{RanOn}
use Rattle.calculus.specs.declared.answers.RanOn.TheVariants.{Shown, Done, Full, Stopped, Uncaught}
use Rattle.theory_preservation.specs.Accepted.{accepted_start}
use Rattle.theory_safety.specs.Safety.{run_keeps}
use Rattle.theory_progress.specs.RunOn.{given}
use Rattle.calculus.specs.Verdict.{verdict_of}
use Rattle.std.specs.Prelude.{Ok, Err}
use Rattle.notation.specs.Refusals.{OrRefusal}
use Rattle.notation.specs.declared.refusal.Refusal.{Refusal}
use Rattle.check_text.specs.Texts.{verdict_in, words_in, TextChecked}
use Rattle.read_tables.specs.Access.{ExecOf, exec_of_lem}
use Rattle.read_tables.specs.Decode.{tally_in, exec_at}
use Rattle.read_tables.specs.Program.{program_in}
use Rattle.run_alone.specs.Run.{config_in, Becomes}
use Rattle.run_steps.specs.Running.{RunsOn}
use Rattle.run_steps.specs.Starting.{BeginsBy, Begins, execs_many, exec_name}
use Rattle.check_accepted.specs.Texts.{TextIn, tables_in, program_in_lem, warnings_in_lem}
use Rattle.check_accepted.specs.Verdicts.{refused_so, fine_so}
use Rattle.print_bytes.specs.Writing.{Appended}
use Rattle.print_pieces.specs.RunLines.{given_within, shown_steps, fuel_enough}
use Rattle.print_pieces.specs.Pieces.{left, warnings_in, left_in, RunningIn, GoingBy, Going, turns_in, is_left, is_accepted, First, Next, Still, Wrote, told_lines, told_stage, Turn, Linked, written, PiecesPrinted}
use Rattle.print_pieces.specs.declared.pieces.Stage.{Stage}
use Rattle.print_pieces.specs.declared.pieces.Stage.TheVariants.{Warning, Channel, Label, Exec, Running, Finished}
use Rattle.print_pieces.specs.declared.pieces.Piece.{Piece}

abbrev piece : ℕ → Stage → Piece
piece n x = record { length = n; stage = x }

-- ── a piece that was put into the buffer, and one of no bytes
put_within : {old new l : List ℕ} {n : ℕ} → Appended old new 0 n l → n ≤ length new
put_within {new = new} {n = n} a = omega (arith, a.ends, ap length a.front, length-take n new)

pub wrote : {old new l : List ℕ} {n : ℕ} (stage : Stage) → Appended old new 0 n l → Wrote new (record { length = n; stage = stage }) l stage
wrote stage a = record { is = a.front; within = put_within a; then = refl }

pub wrote_none : (out : List ℕ) (stage : Stage) → Wrote out (record { length = 0; stage = stage }) [] stage
wrote_none out stage = record { is = refl; within = omega arith; then = refl }

-- by a run-on's answer
pub told_as_lem : (s : List ℕ) (line taken : ℕ) {a b : RanOn} → a ≡ b → {out : List ℕ} {r : Piece} → Wrote out r (told_lines s taken b) (told_stage line taken b) → Wrote out r (told_lines s taken a) (told_stage line taken a)
told_as_lem s line taken e {out} {r} w = subst (λ a. Wrote out r (told_lines s taken a) (told_stage line taken a)) (sym e) w

-- ── an accepted text
module _ (s w : List ℕ) (t : TextIn s w) where
  run_formed : (C : Config) (budget : ℕ) → WellFormed (program_in s w) C → WellFormed (program_in s w) (run_on (program_in s w) C budget).config
  run_formed C budget = subst (λ p. WellFormed p C → WellFormed p (run_on p C budget).config) (sym (program_in_lem t)) (λ v. run_keeps s t.script t.accepts C v budget)

  start_formed : (line : ℕ) (g : Signature) → exec_of (program_in s w) line ≡ some g → WellFormed (program_in s w) (start_config g)
  start_formed line g = subst (λ p. exec_of p line ≡ some g → WellFormed p (start_config g)) (sym (program_in_lem t)) (accepted_start s t.script t.accepts line g)

-- a text that is accepted is within its limit
pub text_short : (s w : List ℕ) → TextIn s w → length s ≤ text_limit
unfolding checked read_text
text_short s w t = go (leb (length s) text_limit) refl
  where
    go : (b : Bool) → leb (length s) text_limit ≡ b → length s ≤ text_limit
    go true e = leb-true (length s) text_limit e
    go false e =
        let h : is_accepted (checked s) ≡ true = ap is_accepted t.accepts in
        let z : false ≡ true = rw e at h in
        absurd (false≢true z)

-- ── the first piece
pub printed_by : (s : List ℕ) (c : Checked) → checked s ≡ c → printed s ≡ printed_of s c
unfolding printed
printed_by s c e = ap (printed_of s) e

module _ (s w x : List ℕ) (v : OrRefusal (Unit {0})) (t : TextChecked s w v x) (long : length w ≡ scratch_words) where
  enough : (verdict_of v ≡ verdict_in (checked s)) × (x ≡ words_in s (checked s) ++ drop scratch_words w) × FitsTables s
  enough = t.enough (omega (arith, long))

  pub first_refused : (e : Refusal) → v ≡ Err e → {old out : List ℕ} {m : ℕ} → Appended old out 0 m (Printed.line (bytes "refused " ++ (decimal e.number ++ (bytes " at " ++ decimal e.at)))) → First s x out (record { length = m; stage = Finished })
  first_refused e q a = record {
    is = λ ws. printed_by s (faulty e.number e.at) (refused_so (checked s) e.number e.at (ap verdict_of (sym q) ∙ enough.0)) ∙ sym (append-nil _) ∙ ap (λ l. l ++ []) (sym a.front);
    within = put_within a;
    going = λ ws. record { is = tt };
    more = sym (ap is_accepted (refused_so (checked s) e.number e.at (ap verdict_of (sym q) ∙ enough.0)));
  }

  module _ (q : v ≡ (Ok tt)) where
    script : (ds : List Declaration) × (checked s ≡ accepted ds)
    script = fine_so (checked s) (ap verdict_of (sym q) ∙ enough.0)

    pub first_text : TextIn s x
    first_text = record {
      script = script.0;
      accepts = script.1;
      words = enough.1 ∙ ap (λ c. words_in s c ++ drop scratch_words w) script.1 ∙ ap (λ l. tables s ++ l) (drop_of_length-le w {i = scratch_words} (omega (arith, long))) ∙ append-nil (tables s);
      fits = enough.2;
    }

    pub first_fine : (out : List ℕ) → First s x out (record { length = 0; stage = Warning 0 })
    first_fine out = record {
      is = λ ws.
          printed_by s (accepted first_text.script) first_text.accepts
          ∙ λ i. warning_lines (sym (warnings_in_lem first_text) i) ++ all_execs s (sym (program_in_lem first_text) i) (sym (program_in_lem first_text) i).execs;
      within = omega arith;
      going = λ ws. record { is = first_text };
      more = sym (ap is_accepted script.1);
    }

-- ── a line is begun
abbrev some_of : {A : Type 0} → A → Option A → A
some_of d none = d
some_of d (some x) = x

pub next_of : {A : Type 0} (l : List A) (k : ℕ) (x : A) → get_elem? l k ≡ some x → drop k l ≡ x ∷ drop (suc k) l
next_of [] k x e = absurd (none-ne-some x e)
next_of (y ∷ l) zero x e = ap (λ z. z ∷ l) (ap (some_of x) e)
next_of (y ∷ l) (suc k) x e = next_of l k x e

module _ (s w : List ℕ) (t : TextIn s w) (line : ℕ) where
  abbrev P : Program
  P = program_in s w

  pub exec_none : (ws out : List ℕ) → (tally_in w).execs ≤ line → Next s w ws ws out (Exec line) (record { length = 0; stage = Finished })
  exec_none ws out h = record {
    is = ap (all_execs s P) (drop_of_length-le P.execs {i = line} (omega (arith, h, execs_many s w)));
    within = omega arith;
    going = record { is = tt };
    falls = λ _. omega arith;
  }

  module _ (at : ℕ) (below : line < (tally_in w).execs) (o : ExecOf w line at) where
    abbrev rest : List ℕ
    rest = all_execs s P (drop (line + 1) P.execs)

    here : all_execs s P (drop line P.execs) ≡ exec_lines s P (name_at s at) (exec_of P line) ++ rest
    unfolding exec_of
    here =
        ap (all_execs s P) (next_of P.execs line (name_in s at) (exec_name s w line at below o))
        ∙ ap (λ x. exec_lines s P (name_at s at) (line_signature P x) ++ all_execs s P (drop (suc line) P.execs)) (sym (exec_name s w line at below o))
        ∙ ap (λ k. exec_lines s P (name_at s at) (exec_of P line) ++ all_execs s P (drop k P.execs)) (sym (add-one line))

    fewer : turns_in s w (Running line 0) < turns_in s w (Exec line)
    fewer = omega (arith, below, execs_many s w)

    module _ {ws vs : List ℕ} {b : Bool} (g : Begins s w ws vs b (exec_of P line)) where
      pub exec_begun : b ≡ true → {old out : List ℕ} {n : ℕ} → Appended old out 0 n (Printed.line (bytes "Executing process " ++ (name_at s at ++ bytes ":"))) → Next s w ws vs out (Exec line) (record { length = n; stage = Running line 0 })
      exec_begun q {out = out} {n = n} a = go (exec_of P line) refl g.is
        where
          go : (x : Option Signature) → exec_of P line ≡ x → BeginsBy s w ws vs b x → Next s w ws vs out (Exec line) (piece n (Running line 0))
          go none e m = absurd (false≢true (sym m.0 ∙ q))
          go (some y) e m =
              let head = Printed.line (bytes "Executing process " ++ (name_at s at ++ bytes ":")) in
              record {
                is =
                    here
                    ∙ ap (λ x. exec_lines s P (name_at s at) x ++ rest) e
                    ∙ append_assoc head (run_lines (suc step_limit) s P 0 (start_config y)) rest
                    ∙ λ i. sym a.front i ++ (run_lines (suc step_limit) s P 0 (sym m.1.is i) ++ rest);
                within = put_within a;
                going = record {
                  is = record {
                    text = t;
                    run = m.1.run;
                    formed = subst (WellFormed P) (sym m.1.is) (start_formed s w t line y e);
                    steps = omega arith;
                    exec = omega (arith, below, execs_many s w);
                  };
                };
                falls = λ _. fewer;
              }

  -- a line with no process
  pub exec_empty : {ws vs : List ℕ} {b : Bool} → line < (tally_in w).execs → Begins s w ws vs b (exec_of P line) → b ≡ false → (out : List ℕ) → Next s w ws vs out (Exec line) (record { length = 0; stage = Exec (line + 1) })
  exec_empty {ws} {vs} {b} below g q out = go (exec_of P line) refl g.is
    where
      at : ℕ
      at = exec_at w line

      go : (x : Option Signature) → exec_of P line ≡ x → BeginsBy s w ws vs b x → Next s w ws vs out (Exec line) (piece 0 (Exec (line + 1)))
      go none e m = record {
        is = here at below (exec_of_lem w line at refl) ∙ ap (λ x. exec_lines s P (name_at s at) x ++ rest at below (exec_of_lem w line at refl)) e;
        within = omega arith;
        going = record { is = t };
        falls = λ _. omega (arith, below, execs_many s w);
      }
      go (some y) e m = absurd (false≢true (sym q ∙ m.0))

-- ── run-on was asked
module _ (s w ws : List ℕ) (line taken : ℕ) (r : RunningIn s w ws line taken) where
  abbrev Q : Program
  Q = program_in s w

  abbrev budget : ℕ
  budget = step_limit - taken

  abbrev A : RanOn
  A = (run_on Q (config_in s w ws) budget).answer

  abbrev D : Config
  D = (run_on Q (config_in s w ws) budget).config

  abbrev after : List ℕ
  after = all_execs s Q (drop (line + 1) Q.execs)

  told_left : (a : RanOn) → A ≡ a → showing s taken a (λ u. run_lines budget s Q u D) ++ after ≡ told_lines s taken a ++ left s (warnings_in s w) Q D (told_stage line taken a)
  told_left (Shown seen n) e =
      let b = shown_steps Q (config_in s w ws) budget seen n e in
      append_assoc (sighting s seen) (run_lines budget s Q (taken + n) D) after
      ∙ ap (λ l. sighting s seen ++ (l ++ after)) (fuel_enough s Q budget (suc (step_limit - (taken + n))) (taken + n) D (omega (arith, b)) (omega arith))
  told_left (Done n) e = refl
  told_left (Full n) e = refl
  told_left (Stopped n) e = refl
  told_left (Uncaught n) e = refl

  module _ (vs : List ℕ) (m : Becomes s w ws vs D) where
    told_going : (a : RanOn) → A ≡ a → Going s w vs (told_stage line taken a)
    told_going (Shown seen n) e =
        let b = shown_steps Q (config_in s w ws) budget seen n e in
        record {
          is = record {
            text = r.text;
            run = m.run;
            formed = subst (WellFormed Q) (sym m.is) (run_formed s w r.text (config_in s w ws) budget r.formed);
            steps = omega (arith, b, r.steps);
            exec = r.exec;
          };
        }
    told_going (Done n) e = record { is = r.text }
    told_going (Full n) e = record { is = r.text }
    told_going (Stopped n) e = record { is = r.text }
    told_going (Uncaught n) e = record { is = r.text }

  told_falls : (a : RanOn) → A ≡ a → turns_in s w (told_stage line taken a) < turns_in s w (Running line taken)
  told_falls (Shown seen n) e = let b = shown_steps Q (config_in s w ws) budget seen n e in omega (arith, b, r.steps)
  told_falls (Done n) e = omega arith
  told_falls (Full n) e = omega arith
  told_falls (Stopped n) e = omega arith
  told_falls (Uncaught n) e = omega arith

  -- no more steps than there are
  pub told_steps : {a : RanOn} {vs : List ℕ} → RunsOn s w ws vs a (run_on Q (config_in s w ws) budget) → taken + given a ≤ step_limit
  told_steps z = omega (arith, ap given z.answer, given_within Q (config_in s w ws) budget, r.steps)

  pub line_small : line < exec_limit
  line_small = omega (arith, r.exec, execs_many s w, (tables_in r.text).within)

  pub running_next : {a : RanOn} {vs out : List ℕ} {x : Piece} → RunsOn s w ws vs a (run_on Q (config_in s w ws) budget) → Wrote out x (told_lines s taken a) (told_stage line taken a) → Next s w ws vs out (Running line taken) x
  unfolding run_lines
  running_next {a} {vs} {out} {x} z u =
      let e = sym z.answer in
      record {
        is =
            ap (λ b. showing s taken b (λ u. run_lines budget s Q u D) ++ after) e
            ∙ told_left a e
            ∙ λ i. sym u.is i ++ left s (warnings_in s w) Q (sym z.becomes.is i) (sym u.then i);
        within = u.within;
        going = subst (Going s w vs) (sym u.then) (told_going vs z.becomes a e);
        falls = λ _. subst (λ y. turns_in s w y < turns_in s w (Running line taken)) (sym u.then) (told_falls a e);
      }

-- ── a stage
pub next_as : {s w ws vs out : List ℕ} {a b : Stage} {r : Piece} → a ≡ b → Next s w ws vs out b r → Next s w ws vs out a r
next_as {s} {w} {ws} {vs} {out} {r = r} e n = subst (λ x. Next s w ws vs out x r) (sym e) n

-- a piece that leaves the run alone, by its bytes and the stage after it
pub wrote_next : {s w out : List ℕ} {r : Piece} {l : List ℕ} {a b : Stage} → Wrote out r l b → ((ws : List ℕ) → left_in s w ws a ≡ l ++ left_in s w ws b) → ((ws : List ℕ) → Going s w ws b) → turns_in s w b < turns_in s w a → Still s w out a r
wrote_next {s} {w} {a = a} u e g f = record {
  is = λ ws. record {
    is = e ws ∙ λ i. sym u.is i ++ left_in s w ws (sym u.then i);
    within = u.within;
    going = subst (Going s w ws) (sym u.then) (g ws);
    falls = λ _. subst (λ y. turns_in s w y < turns_in s w a) (sym u.then) f;
  };
}

pub going_warning : {s w ws : List ℕ} {a : Stage} (k : ℕ) → a ≡ Warning k → Going s w ws a → TextIn s w
going_warning {s} {w} {ws} k e g = subst (GoingBy s w ws) e g.is

pub going_channel : {s w ws : List ℕ} {a : Stage} (next channel label : ℕ) → a ≡ Channel next channel label → Going s w ws a → TextIn s w
going_channel {s} {w} {ws} next channel label e g = subst (GoingBy s w ws) e g.is

pub going_label : {s w ws : List ℕ} {a : Stage} (next label : ℕ) → a ≡ Label next label → Going s w ws a → TextIn s w
going_label {s} {w} {ws} next label e g = subst (GoingBy s w ws) e g.is

pub going_exec : {s w ws : List ℕ} {a : Stage} (line : ℕ) → a ≡ Exec line → Going s w ws a → TextIn s w
going_exec {s} {w} {ws} line e g = subst (GoingBy s w ws) e g.is

pub going_running : {s w ws : List ℕ} {a : Stage} (line taken : ℕ) → a ≡ Running line taken → Going s w ws a → RunningIn s w ws line taken
going_running {s} {w} {ws} line taken e g = subst (GoingBy s w ws) e g.is

pub next_none : (s w ws out : List ℕ) {a : Stage} → a ≡ Finished → Next s w ws ws out a (record { length = 0; stage = Finished })
next_none s w ws out e = next_as e (record { is = refl; within = omega arith; going = record { is = tt }; falls = λ h. h })

-- while something is left, a turn is
left_turns : (s w : List ℕ) (a : Stage) → is_left a ≡ true → 0 < turns_in s w a
left_turns s w (Warning k) e = omega arith
left_turns s w (Channel next channel label) e = omega arith
left_turns s w (Label next label) e = omega arith
left_turns s w (Exec line) e = omega arith
left_turns s w (Running line taken) e = omega arith
left_turns s w Finished e = absurd (false≢true e)

pub next_falls : {s w ws vs out : List ℕ} {a : Stage} {r : Piece} {b : Bool} → Next s w ws vs out a r → b ≡ is_left a → b ≡ true → turns_in s w r.stage < turns_in s w a
next_falls {s} {w} {a = a} n e q = n.falls (left_turns s w a (sym e ∙ q))

-- ── every list of pieces
linked_written : (s w ws : List ℕ) (stage : Stage) (ts : List Turn) → Linked s w ws stage ts → written ts ≡ left_in s w ws stage
linked_written s w ws stage [] e = ap (left_in s w ws) (sym e)
linked_written s w ws stage (t ∷ ts) (e, n, l) = ap (λ m. take t.piece.length t.out ++ m) (linked_written s w t.left t.piece.stage ts l) ∙ sym n.is

pub pieces_printed : PiecesPrinted
pieces_printed = record {
  is = λ s w ws out first f ts l. ap (λ m. take first.length out ++ m) (linked_written s w ws first.stage ts l) ∙ sym (f.is ws);
}
