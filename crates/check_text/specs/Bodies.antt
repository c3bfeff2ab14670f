-- The check of each process of a script: what its signature has it hold, and its 17th name.
use Rattle.std.specs.Prelude.{Err, IsErrAnd}
use Rattle.std.proofs.lemmas.Result.{err_from_is_err_and}
use Rattle.notation.specs.Refusals.{OrRefusal}
use Rattle.notation.specs.declared.refusal.Refusal.{Refusal}
use Prim.Native.Nat.{ℕ, zero, suc, ◌+◌, ◌-◌, ◌<◌, ◌≤◌}
use Rattle.std.specs.Prelude.{◌≡◌, List, [], ◌∷◌, ◌++◌, Bool, true, false, ltb}
use Rattle.std.proofs.Math.Path.{refl, ap}
use Rattle.std.proofs.Common.{sym, ◌∙◌, subst, arith, ltb-true, ltb-false, lt-ltb, le-ltb}
use Rattle.std.proofs.Math.Option.{Option, some, none}
use Rattle.std.proofs.Math.ListN.{get_elem?}
use Rattle.notation.specs.Limits.{held_limit, type_term_limit}
use Rattle.notation.specs.Reader.{name_in}
use Rattle.notation.specs.Token.{name_at}
use Rattle.notation.specs.Tree.{Located, Entry, Declaration}
use Rattle.calculus.specs.Types.{Side, provided, used}
use Rattle.calculus.specs.Program.{slot, Context, Program, on_side, entries}
use Rattle.calculus.specs.Declarations.{channels}
use Rattle.calculus.specs.Checking.{check, unless_named, check_declaration, check_declarations, typed}
use Rattle.calculus.specs.Verdict.{verdict_of, fine, refused, and_then}
use Rattle.calculus.specs.Verdict as calculus
use Rattle.calculus.specs.WellFormed.{context_of}
use Rattle.theory_ends.specs.Contexts.{context_append}
use Rattle.run_words.specs.Raw.{RawEnd, side_of}
use Rattle.run_words.specs.declared.records.Held.{Held}
use Rattle.read_tables.specs.Access.{EntryOf, SignatureOf}
use Rattle.read_tables.specs.Decode.{tally_in, entry_at, type_in, process_in, entries_in, proc_declaration, proc_by, type_declaration, exec_declaration, numbered, script_in}
use Rattle.read_tables.specs.Program.{plain_in, program_in}
use Rattle.read_tables.specs.Whole.{SignatureIn, Tables}
use Rattle.read_tables.specs.declared.access.Labelled.{Labelled}
use Rattle.notation.specs.declared.reading.ProcessEntry.{ProcessEntry}
use Rattle.run_words.specs.Lists.{tab, All}
use Rattle.run_words.specs.ListLaws.{all_append, map_join}
use Rattle.run_words.specs.Values.{held_in}
use Rattle.check_contexts.specs.Held.{end_is, ends_in, channels_of, EndIn, HeldIn}
use Rattle.check_contexts.specs.Signatures.{entry_end, entry_ends, WithEntries, entries_fit, ends_in_lem}
use Rattle.check_terms.specs.Next.{context_in}

-- ── entries side by side
entries_more : (s w : List ℕ) (i n m : ℕ) → entries_in s w i (n + m) ≡ entries_in s w i n ++ entries_in s w (i + n) m
unfolding entries_in
entries_more s w i zero m =
    let y : 0 + m ≡ m = omega arith in
    let z : i ≡ i + 0 = omega arith in
    ap (entries_in s w i) y ∙ ap (λ x. entries_in s w x m) z
entries_more s w i (suc n) m =
    let y : suc n + m ≡ suc (n + m) = omega arith in
    let z : i + 1 + n ≡ i + suc n = omega arith in
    ap (entries_in s w i) y ∙ ap (◌∷◌ (record { channel = name_in s (entry_at w i).0; type = type_in s w (entry_at w i).1 })) (entries_more s w (i + 1) n m ∙ ap (λ x. entries_in s w (i + 1) n ++ entries_in s w x m) z)

-- ── the ends of entries, as typing sees them
abbrev entries_on : List ℕ → List ℕ → ℕ → ℕ → Side → Context
entries_on s w first n side = on_side side (entries (entries_in s w first n))

module _ (s w : List ℕ) (side : ℕ) where
  -- whatever their channels
  entries_seen : (i n : ℕ) (place channel : ℕ → ℕ) → ((k : ℕ) → place k ≡ i + k) → context_of (ends_in s w (tab (λ k. entry_end w side (place k) (channel k)) n)) ≡ entries_on s w i n (side_of side)
  unfolding entries_in
  entries_seen i zero place channel h = refl
  entries_seen i (suc n) place channel h =
      let z : place 0 ≡ i = omega (arith, h 0) in
      λ j. (name_at s (entry_at w (z j)).0, slot (side_of side) (plain_in s w (entry_at w (z j)).1)) ∷ entries_seen (i + 1) n (λ k. place (suc k)) (λ k. channel (suc k)) (λ k. omega (arith, h (suc k))) j

  ends_seen : (i n : ℕ) → context_of (ends_in s w (entry_ends w side i n)) ≡ entries_on s w i n (side_of side)
  ends_seen i n = entries_seen i n (λ k. i + k) (λ k. k) (λ k. refl)

-- ── what a signature has its process hold
abbrev context_by : List ℕ → List ℕ → ProcessEntry → Context
context_by s w e = entries_on s w e.first e.provided provided ++ entries_on s w (e.first + e.provided) e.used used

pub record SignatureHeld (s w : List ℕ) (e : ProcessEntry) (r : Held) : Type 0 where
  pub is : context_in s w r ≡ context_by s w e
  pub fits : HeldIn s w r

module _ (s w : List ℕ) (e : ProcessEntry) {o a r : Held} (z : held_in o ≡ []) (f : WithEntries w o 0 e.first e.provided a) (g : WithEntries w a 1 (e.first + e.provided) e.used r) where
  abbrev ends_provided : List RawEnd
  ends_provided = entry_ends w 0 e.first e.provided

  abbrev ends_used : List RawEnd
  ends_used = entry_ends w 1 (e.first + e.provided) e.used

  ends_are : held_in r ≡ ends_provided ++ ends_used
  ends_are = g.is ∙ ap (λ l. l ++ ends_used) (f.is ∙ ap (λ l. l ++ ends_provided) z)

  signature_seen : context_in s w r ≡ context_by s w e
  unfolding channels_of
  signature_seen =
      ap (λ l. context_of (ends_in s w l)) ends_are
      ∙ ap context_of (map_join (end_is s w) ends_provided ends_used)
      ∙ context_append (ends_in s w ends_provided) (ends_in s w ends_used)
      ∙ λ j. ends_seen s w 0 e.first e.provided j ++ ends_seen s w 1 (e.first + e.provided) e.used j

  pub signature_so : o.count ≡ 0 → Tables s w → SignatureIn s w e → e.provided ≤ held_limit → e.used ≤ held_limit - e.provided → SignatureHeld s w e r
  signature_so c t h l m = record {
    is = signature_seen;
    fits = record {
      many = omega (arith, f.count, g.count);
      each = subst (All (EndIn s w)) (sym ends_are) (all_append (EndIn s w) ends_provided ends_used (ends_in_lem w 0 e.first s e.provided t h.provides l) (ends_in_lem w 1 (e.first + e.provided) s e.used t h.uses (omega arith)));
    };
  }

-- ── the 17th name
channels_append : (x y : List Entry) → channels (x ++ y) ≡ channels x ++ channels y
channels_append [] y = refl
channels_append (e ∷ x) y = ap (◌∷◌ e.channel) (channels_append x y)

abbrev names_of : List ℕ → List ℕ → ProcessEntry → List Located
names_of s w e = channels (entries_in s w e.first e.provided) ++ channels (entries_in s w (e.first + e.provided) e.used)

names_in : (s w : List ℕ) (e : ProcessEntry) → names_of s w e ≡ channels (entries_in s w e.first (e.provided + e.used))
names_in s w e = sym (channels_append (entries_in s w e.first e.provided) (entries_in s w (e.first + e.provided) e.used)) ∙ ap channels (sym (entries_more s w e.first e.provided e.used))

channel_at : (s w : List ℕ) (i n k : ℕ) → k < n → (t : Labelled) → EntryOf w (i + k) t → get_elem? (channels (entries_in s w i n)) k ≡ some (name_in s t.at)
unfolding entries_in
channel_at s w i zero k l t g = absurd (omega arith)
channel_at s w i (suc n) zero l t g =
    let z : i + 0 ≡ i = omega arith in
    λ j. some (name_in s ((ap (λ x. (entry_at w x).0) (sym z) ∙ sym g.holds.at) j))
channel_at s w i (suc n) (suc k) l t g =
    let z : i + suc k ≡ i + 1 + k = omega arith in
    channel_at s w (i + 1) n k (omega arith) t (subst (λ x. EntryOf w x t) z g)

none_at : (s w : List ℕ) (i n k : ℕ) → n ≤ k → get_elem? (channels (entries_in s w i n)) k ≡ none
unfolding entries_in
none_at s w i zero k l = refl
none_at s w i (suc n) zero l = absurd (omega arith)
none_at s w i (suc n) (suc k) l = none_at s w (i + 1) n k (omega arith)

-- ── the check of a declaration
module _ (s w : List ℕ) (i : ℕ) (d : ProcessEntry) (g : SignatureOf w i d) where
  abbrev P : Program
  P = program_in s w

  abbrev body_verdict : Option Located → calculus.Verdict
  body_verdict o = unless_named o (check P (context_by s w d) (process_in s w d.body))

  body_by : check_declaration P (proc_declaration s w i) ≡ body_verdict (get_elem? (names_of s w d) held_limit)
  unfolding proc_declaration
  body_by = ap (λ e. check_declaration P (proc_by s w e)) (sym g.holds)

  pub body_named : (t : Labelled) → EntryOf w (d.first + held_limit) t → held_limit < d.provided + d.used → refused 15 t.at ≡ check_declaration P (proc_declaration s w i)
  body_named t o l = sym (body_by ∙ ap (λ ns. body_verdict (get_elem? ns held_limit)) (names_in s w d) ∙ ap body_verdict (channel_at s w d.first (d.provided + d.used) held_limit l t o))

  pub body_checked : (r : Held) → d.provided + d.used ≤ held_limit → SignatureHeld s w d r → {v : calculus.Verdict} → v ≡ check P (context_in s w r) (process_in s w d.body) → v ≡ check_declaration P (proc_declaration s w i)
  body_checked r l h e =
      e
      ∙ ap (λ H. check P H (process_in s w d.body)) h.is
      ∙ sym (body_by ∙ ap (λ ns. body_verdict (get_elem? ns held_limit)) (names_in s w d) ∙ ap body_verdict (none_at s w d.first (d.provided + d.used) held_limit l))

-- ── each process in its turn
module _ (s w : List ℕ) where
  abbrev from : ℕ → ℕ → calculus.Verdict
  from i n = check_declarations (program_in s w) (numbered (proc_declaration s w) i n)

  check_append : (x y : List Declaration) → check_declarations (program_in s w) (x ++ y) ≡ and_then (check_declarations (program_in s w) x) (check_declarations (program_in s w) y)
  check_append [] y = refl
  check_append (a ∷ x) y = ap (and_then (check_declaration (program_in s w) a)) (check_append x y) ∙ sym (then_then (check_declaration (program_in s w) a) (check_declarations (program_in s w) x) (check_declarations (program_in s w) y))
    where
      then_then : (u v x : calculus.Verdict) → and_then (and_then u v) x ≡ and_then u (and_then v x)
      then_then fine v x = refl
      then_then (refused n i) v x = refl

  types_fine : (i n : ℕ) → check_declarations (program_in s w) (numbered (type_declaration s w) i n) ≡ fine
  unfolding type_declaration
  types_fine i zero = refl
  types_fine i (suc n) = types_fine (i + 1) n

  execs_fine : (i n : ℕ) → check_declarations (program_in s w) (numbered (exec_declaration s w) i n) ≡ fine
  unfolding exec_declaration
  execs_fine i zero = refl
  execs_fine i (suc n) = execs_fine (i + 1) n

  then_nothing : (v : calculus.Verdict) → and_then v fine ≡ v
  then_nothing fine = refl
  then_nothing (refused n i) = refl

  processes_only : typed (script_in s w) ≡ from 0 (tally_in w).processes
  unfolding typed program_in script_in
  processes_only =
      let rest = numbered (proc_declaration s w) 0 (tally_in w).processes ++ numbered (exec_declaration s w) 0 (tally_in w).execs in
      check_append (numbered (type_declaration s w) 0 (tally_in w).types) rest
      ∙ ap (λ v. and_then v (check_declarations (program_in s w) rest)) (types_fine 0 (tally_in w).types)
      ∙ check_append (numbered (proc_declaration s w) 0 (tally_in w).processes) (numbered (exec_declaration s w) 0 (tally_in w).execs)
      ∙ ap (and_then (from 0 (tally_in w).processes)) (execs_fine 0 (tally_in w).execs)
      ∙ then_nothing (from 0 (tally_in w).processes)

  pub record Checking (n i : ℕ) : Type 0 where
    pub upto : i ≤ n
    pub rest : typed (script_in s w) ≡ from i (n - i)

  pub checking_start : (n : ℕ) → n ≡ (tally_in w).processes → Checking n 0
  checking_start n e = let y : (tally_in w).processes ≡ n - 0 = omega arith in record { upto = omega arith; rest = processes_only ∙ ap (from 0) y }

  pub checking_here : (n i : ℕ) → Checking n i → i < n → typed (script_in s w) ≡ and_then (check_declaration (program_in s w) (proc_declaration s w i)) (from (i + 1) (n - (i + 1)))
  checking_here n i t l = let y : n - i ≡ suc (n - (i + 1)) = omega arith in t.rest ∙ ap (from i) y

  pub checking_on : (n i : ℕ) → Checking n i → i < n → check_declaration (program_in s w) (proc_declaration s w i) ≡ fine → (j : ℕ) → j ≡ i + 1 → Checking n j
  checking_on n i t l e j z = rw z (record { upto = omega arith; rest = checking_here n i t l ∙ ap (λ v. and_then v (from (i + 1) (n - (i + 1)))) e })

  -- a refusal, which a `?` hands on
  pub checking_stops : (n i : ℕ) → Checking n i → i < n → {e : Refusal} (x : OrRefusal (Unit {0})) → IsErrAnd x (λ d. d ≡ e) → check_declaration (program_in s w) (proc_declaration s w i) ≡ verdict_of (Err e) → verdict_of x ≡ typed (script_in s w)
  checking_stops n i t l x h q =
      let (d, x_is, d_is) = err_from_is_err_and x h in
      rw (x_is, d_is) (sym (checking_here n i t l ∙ ap (λ v. and_then v (from (i + 1) (n - (i + 1)))) q))

  pub checking_end : (n i : ℕ) → Checking n i → n ≤ i → fine ≡ typed (script_in s w)
  checking_end n i t l = let y : n - i ≡ 0 = omega (arith, t.upto) in sym (t.rest ∙ ap (from i) y)

-- ── a count
pub seventeenth : (p u : ℕ) → p ≤ held_limit → ltb (held_limit - p) u ≡ ltb held_limit (p + u)
seventeenth p u l = go (ltb (held_limit - p) u) refl
  where
    go : (b : Bool) → ltb (held_limit - p) u ≡ b → b ≡ ltb held_limit (p + u)
    go true e = sym (lt-ltb held_limit (p + u) (omega (arith, ltb-true (held_limit - p) u e)))
    go false e = sym (le-ltb held_limit (p + u) (omega (arith, ltb-false (held_limit - p) u e)))

-- the 17th entry stands, among those provided or those used
pub seventeenth_entry : (s w : List ℕ) (e : ProcessEntry) → SignatureIn s w e → Tables s w → held_limit < e.provided + e.used → e.first + held_limit < type_term_limit
seventeenth_entry s w e g t l = go (ltb held_limit e.provided) refl
  where
    go : (b : Bool) → ltb held_limit e.provided ≡ b → e.first + held_limit < type_term_limit
    go true q = ((entries_fit s w e.first e.provided t g.provides).each held_limit (ltb-true held_limit e.provided q)).0
    go false q =
        let h : e.provided ≤ held_limit = ltb-false held_limit e.provided q in
        omega (arith, ((entries_fit s w (e.first + e.provided) e.used t g.uses).each (held_limit - e.provided) (omega arith)).0)
