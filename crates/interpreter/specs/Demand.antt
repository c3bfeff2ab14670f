-- Demand 3 of the code: at each call of a list the entry's answer is the plain machine's, and the run holds its configuration.
use Rattle.std.specs.Prelude.{ℕ, ◌≡◌, refl, ◌⊎◌, Bool, true, false, cond, leb, length, take, Ok}
use Rattle.std.proofs.Common.{sym, ◌∙◌, ap, subst, inl, inr, true≢false, leb-true, leb-false, arith}
use mathlib.Core.List.{List, [], ◌∷◌, ◌++◌, map, cons-ne-nil}
use Rattle.std.proofs.lemmas.Bool.{false≢true}
use Rattle.notation.specs.Limits.{run_words}
use Rattle.notation.specs.Tables.{tables}
use Rattle.notation.specs.Token.{name_at}
use Rattle.notation.specs.Tree.{Declaration}
use Rattle.calculus.specs.Accepted.{accepted, checked}
use Rattle.calculus.specs.Configuration.{Config}
use Rattle.calculus.specs.Demands.{is_refused, SafeExchange}
use Rattle.calculus.specs.Machine.{Call, call_start, started, respond, idle}
use Rattle.calculus.specs.Program.{program_of}
use Rattle.calculus.specs.WellFormed.{WellFormed}
use Rattle.theory_safety.specs.Replies.{unchanged_by, replied}
use Rattle.theory_safety.specs.Safety.{has_begun, refusal_begins_none, is_start, begun_start, reply_keeps, begun_well_formed, exchange_safe, start_safe}
use Rattle.read_tables.specs.Decode.{process_in}
use Rattle.read_tables.specs.Program.{plain_in}
use Rattle.run_words.specs.Raw.{RawConfig, raw_in}
use Rattle.run_words.specs.Decode.{decoded}
use Rattle.run_words.specs.SliceLaws.{raw_taken, raw_of_taken}
use Rattle.run_wellformed.specs.Formed.{Formed}
use Rattle.theory_refusals.specs.Refusals.{refusal_of}
use Rattle.interpreter.specs.Entries.{Request, to_start, to_step, to_run_on, to_report, to_places, to_name, EntryCall, call_as, call_of, use_of, config_of, HoldsRun, keeps_run, left_as, RunAfter, Gives, Reached, plain_reply, Answers}
use Rattle.interpreter.specs.Calls.{Lent, left_by, left_by_all, Linked, replayed, Agrees, Demand3}
use Rattle.interpreter.specs.Unread.{unread, BegunAnew, begun_anew}
use Rattle.interpreter.specs.Numbers.{never_18}

-- the run holds the configuration C
pub record Holding (s : List ℕ) (C : Config) (run : List ℕ) : Type 0 where
  pub formed : HoldsRun s run
  pub is : config_of s run ≡ C

abbrev as_config : List ℕ → RawConfig → Config
as_config s R = decoded (name_at s) (plain_in s (tables s)) (process_in s (tables s)) R

-- words that decode alike hold the same
holding_as : (s : List ℕ) (C : Config) (run ws : List ℕ) → raw_in ws ≡ raw_in run → Holding s C run → Holding s C ws
holding_as s C run ws e h = record { formed = subst (Formed s (tables s)) (sym e) h.formed; is = ap (as_config s) e ∙ h.is }

-- in a longer slice, and in its first 6,144 words
in_slice : (s : List ℕ) (C : Config) (run ws : List ℕ) → take run_words ws ≡ run → Holding s C run → Holding s C ws
in_slice s C run ws e h =
    holding_as s C (take run_words ws) ws (raw_of_taken ws (subst (Formed s (tables s)) (ap raw_in (sym e)) h.formed).bounded) (holding_as s C run (take run_words ws) (ap raw_in e) h)

in_front : (s : List ℕ) (C : Config) (ws : List ℕ) → Holding s C ws → Holding s C (take run_words ws)
in_front s C ws h = holding_as s C ws (take run_words ws) (raw_taken ws h.formed.bounded) h

-- the run after a call, by whether the slice has its words
in_left : {s : List ℕ} {C : Config} (m : EntryCall) (run : List ℕ) {b : Bool} → leb run_words (length m.lent.run) ≡ b
    → Holding s C (cond b (take run_words m.left.run) run) → Holding s C (left_by run m)
in_left {s} {C} m run e h = subst (λ b. Holding s C (cond b (take run_words m.left.run) run)) (sym e) h

module _ (s : List ℕ) (ds : List Declaration) (ok : checked s ≡ accepted ds) where
  -- a call that leaves the run's words leaves the configuration
  kept_config : (q : Request) (C : Config) (n m : ℕ) → keeps_run (use_of q) (respond s C (call_as q n m)).answer ≡ true → (respond s C (call_as q n m)).config ≡ C
  kept_config (to_start line) C n m e = unchanged_by (replied s ds ok C _) e
  kept_config (to_step place) C n m e = unchanged_by (replied s ds ok C _) e
  kept_config (to_run_on budget) C n m e = unchanged_by (replied s ds ok C _) e
  kept_config to_report C n m e = unchanged_by (replied s ds ok C _) e
  kept_config to_places C n m e = unchanged_by (replied s ds ok C _) e
  kept_config (to_name line) C n m e = (unread s (to_name line) n 0 (omega arith) C C).config

  -- what a call comes to, the plain machine being at C: its answer, and what the run then holds
  record Followed (C : Config) (run : List ℕ) (m : EntryCall) : Type 0 where
    answer : m.answer ≡ (respond s C (call_of m)).answer
    after : Holding s (respond s C (call_of m)).config (left_by run m)

  follows : (C : Config) (run : List ℕ) → Holding s C run → (m : EntryCall) → Answers s m → Lent run m.lent.run → Followed C run m
  follows C run h m A l = go (leb run_words (length ws)) refl
    where
      ws : List ℕ
      ws = m.lent.run

      vs : List ℕ
      vs = m.left.run

      settled : RunAfter s m.request ws vs (respond s C (call_of m)) → Holding s C ws → Holding s (respond s C (call_of m)).config (take run_words vs)
      settled f h = side (keeps_run (use_of m.request) (respond s C (call_of m)).answer) refl f.is
        where
          side : (b : Bool) → keeps_run (use_of m.request) (respond s C (call_of m)).answer ≡ b → left_as s ws vs (respond s C (call_of m)).config b
              → Holding s (respond s C (call_of m)).config (take run_words vs)
          side true e z = in_front s _ vs (subst (λ D. Holding s D vs) (sym (kept_config m.request C _ _ e)) (subst (Holding s C) (sym z) h))
          side false e z = in_front s _ vs (record { formed = z.holds; is = z.is })

      go : (b : Bool) → leb run_words (length ws) ≡ b → Followed C run m
      go true e =
          let g = in_slice s C run ws (l.is (leb-true run_words (length ws) e)) h in
          let k = subst (λ D. Gives m.answer (respond s D (call_of m)) × RunAfter s m.request ws vs (respond s D (call_of m))) g.is (A.known (λ _. g.formed)) in
          record { answer = k.0.is; after = in_left m run e (settled k.1 g) }
      go false e =
          let z = leb-false run_words (length ws) e in
          let u = unread s m.request (length m.lent.scratch) (length ws) z in
          record {
            answer = (A.known (λ r. absurd (omega (arith, z, r.run)))).0.is ∙ (u (config_of s ws) C).answer;
            after = in_left m run e (subst (λ D. Holding s D run) (sym (u C C).config) h);
          }

  agrees_with : (C : Config) (run : List ℕ) (m : EntryCall) → Followed C run m
      → SafeExchange (program_of ds) (record { before = C; call = call_of m; after = respond s C (call_of m) }) → Agrees s (program_of ds) C run m
  agrees_with C run m f k =
      record { answer = f.answer; holds = f.after.formed; config = f.after.is; plain = k; never18 = λ z. never_18 s C (call_of m) (ap refusal_of (sym f.answer) ∙ z) }

  -- ── at each of a list
  abbrev AtEach : Config → List ℕ → List EntryCall → Type 0
  AtEach C run ms = (before : List EntryCall) (m : EntryCall) (after : List EntryCall) → ms ≡ before ++ (m ∷ after) → Agrees s (program_of ds) (replayed s C (map call_of before)) (left_by_all run before) m

  abbrev head_or : EntryCall → List EntryCall → EntryCall
  head_or m [] = m
  head_or m (x ∷ l) = x

  abbrev tail_of : List EntryCall → List EntryCall
  tail_of [] = []
  tail_of (x ∷ l) = l

  -- at the first by itself, and at each after it
  at_all : (C : Config) (run : List ℕ) (x : EntryCall) (ms : List EntryCall) → Agrees s (program_of ds) C run x → AtEach (respond s C (call_of x)).config (left_by run x) ms → AtEach C run (x ∷ ms)
  at_all C run x ms a f [] m after e = subst (Agrees s (program_of ds) C run) (ap (head_or x) e) a
  at_all C run x ms a f (b ∷ before) m after e =
      subst (λ y. Agrees s (program_of ds) (replayed s (respond s C (call_of y)).config (map call_of before)) (left_by_all (left_by run y) before) m) (ap (head_or x) e)
      (f before m after (ap tail_of e))

  at_none : (C : Config) (run : List ℕ) → AtEach C run []
  at_none C run [] m after e = absurd (cons-ne-nil _ _ (sym e))
  at_none C run (b ∷ before) m after e = absurd (cons-ne-nil _ _ (sym e))

  at_each : (C : Config) (run : List ℕ) → WellFormed (program_of ds) C → Holding s C run → (ms : List EntryCall) → Linked s run ms → AtEach C run ms
  at_each C run f h [] l = at_none C run
  at_each C run f h (x ∷ ms) (k, d, l) =
      let y = follows C run h x k d in
      at_all C run x ms (agrees_with C run x y (exchange_safe s ds ok C f (call_of x)))
      (at_each (respond s C (call_of x)).config (left_by run x) (reply_keeps s ds ok f (replied s ds ok C (call_of x))) y.after ms l)

  -- ── a list that begins with a start carried out
  -- what holds of the first call, whatever run it was lent
  record BegunBy (run : List ℕ) (m : EntryCall) (c : Call) : Type 0 where
    answer : m.answer ≡ (respond s idle c).answer
    after : Holding s (respond s idle c).config (left_by run m)
    formed : WellFormed (program_of ds) (respond s idle c).config
    plain : SafeExchange (program_of ds) (record { before = idle; call = c; after = respond s idle c })

  start_asked : (q : Request) (n m : ℕ) → is_start (call_as q n m) ≡ true → (line : ℕ) × (q ≡ to_start line)
  start_asked (to_start line) n m e = (line, refl)
  start_asked (to_step place) n m e = absurd (false≢true e)
  start_asked (to_run_on budget) n m e = absurd (false≢true e)
  start_asked to_report n m e = absurd (false≢true e)
  start_asked to_places n m e = absurd (false≢true e)
  start_asked (to_name line) n m e = absurd (false≢true e)

  begins : (run : List ℕ) (m : EntryCall) → Answers s m → m.answer ≡ started (Ok tt) → BegunBy run m (call_of m)
  begins run m A b =
      let q = start_asked m.request n k (begun_start (replied s ds ok C (call_of m)) (ap has_begun (sym known.0.is ∙ b))) in
      subst (λ q. BegunBy run m (call_as q n k)) (sym q.1) (at_line q.0 (subst AtRequest q.1 (known.0.is, known.1)))
    where
      ws : List ℕ
      ws = m.lent.run

      vs : List ℕ
      vs = m.left.run

      n : ℕ
      n = length m.lent.scratch

      k : ℕ
      k = length ws

      C : Config
      C = config_of s ws

      AtRequest : Request → Type 0
      AtRequest q = (m.answer ≡ (respond s C (call_as q n k)).answer) × RunAfter s q ws vs (respond s C (call_as q n k))

      known : Gives m.answer (plain_reply s m) × RunAfter s m.request ws vs (plain_reply s m)
      known = go A.either
        where
          go : (Reached s m × (¬ HoldsRun s ws)) ⊎ (Reached s m → HoldsRun s ws) → Gives m.answer (plain_reply s m) × RunAfter s m.request ws vs (plain_reply s m)
          go (inl (h, d)) = absurd (true≢false (ap has_begun (sym b ∙ (A.stranger h d).0.is) ∙ refusal_begins_none idle (call_of m) 18 0))
          go (inr h) = A.known h

      at_line : (line : ℕ) → AtRequest (to_start line) → BegunBy run m (call_start n k line)
      at_line line (e, f) = record { answer = e ∙ u.answer; after = after; formed = formed; plain = start_safe s ds ok idle n k line formed }
        where
          u : BegunAnew k (respond s C (call_start n k line)) (respond s idle (call_start n k line))
          u = begun_anew s n k line C idle

          done : is_refused (respond s C (call_start n k line)).answer ≡ false
          done = ap is_refused (sym e ∙ b)

          formed : WellFormed (program_of ds) (respond s idle (call_start n k line)).config
          formed = begun_well_formed s ds ok (replied s ds ok idle (call_start n k line)) (ap has_begun (sym u.answer ∙ sym e ∙ b))

          after : Holding s (respond s idle (call_start n k line)).config (left_by run m)
          after =
              let y = subst (left_as s ws vs (respond s C (call_start n k line)).config) done f.is in
              in_left m run (u.wide done) (in_front s _ vs (record { formed = y.holds; is = y.is ∙ u.config done }))

  from_start : (run : List ℕ) (first : EntryCall) (rest : List EntryCall) → first.answer ≡ started (Ok tt) → Linked s run (first ∷ rest) → AtEach idle run (first ∷ rest)
  from_start run first rest b (k, d, l) =
      let y = begins run first k b in
      at_all idle run first rest (agrees_with idle run first (record { answer = y.answer; after = y.after }) y.plain)
      (at_each (respond s idle (call_of first)).config (left_by run first) y.formed y.after rest l)

pub demand3 : Demand3
demand3 = record { agrees = from_start }
