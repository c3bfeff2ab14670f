-- "Start makes one process, the exec process's body with its signature's channels."
use Prim.Native.Nat.{ℕ, zero, suc, ◌+◌, ◌≤◌, ◌<◌}
use Rattle.std.specs.Prelude.{Option as CodeOption, Some, None}
use Rattle.std.specs.Prelude.{◌≡◌, List, [], ◌∷◌, ◌++◌, map, Bool, true, false, length}
use Rattle.std.proofs.Math.Path.{refl, ap}
use Rattle.std.proofs.Common.{sym, ◌∙◌, subst}
use Rattle.std.proofs.Math.Option
use Rattle.std.proofs.Math.Option.{Option, some, none}
use native.Mathlib.Omega.{arith}
use Rattle.std.proofs.Math.ListN.{length-append, get_elem?}
use Rattle.notation.specs.Limits.{held_limit, run_words}
use Rattle.notation.specs.Token.{name_at}
use Rattle.notation.specs.Reader.{name_in}
use Rattle.notation.specs.Tree.{Name}
use Rattle.calculus.specs.Named.{lookup}
use Rattle.calculus.specs.Types.{provided}
use Rattle.calculus.specs.Program.{Signature, entries}
use Rattle.calculus.specs.Configuration.{End, end, running, process, Outside, config}
use Rattle.calculus.specs.Runs.{start_held, start_outside, start_config, line_signature, exec_of}
use Rattle.read_tables.specs.Access.{EntryOf, SignatureOf, ExecOf}
use Rattle.read_tables.specs.Decode.{tally_in, entry_at, entries_in, process_in, numbered}
use Rattle.read_tables.specs.Program.{plain_in, signature_of, program_in, named_process, exec_in, execs_in}
use Rattle.read_tables.specs.Roots.{TypeIn}
use Rattle.read_tables.specs.Search.{place_of, Sought}
use Rattle.read_tables.specs.Whole.{SignatureIn, Tables}
use Rattle.read_tables.specs.declared.access.Labelled.{Labelled}
use Rattle.notation.specs.declared.reading.ProcessEntry.{ProcessEntry}
use Rattle.run_words.specs.Lists.{tab, All}
use Rattle.run_words.specs.ListLaws.{length_tab, tab_same, tab_append, map_tab}
use Rattle.run_words.specs.Raw.{RawEnd, RawProcess, RawOutside, RawConfig, BoundedEnd, Bounded, raw_in, running_kind, raw_process}
use Rattle.run_words.specs.Operations.{single, with_outside, with_given, on_outside}
use Rattle.run_words.specs.Values.{outside_in, held_in, Changed}
use Rattle.run_words.specs.Decode.{decoded_end, decoded_outside, decoded}
use Rattle.run_words.specs.declared.records.Held.{Held}
use Rattle.check_contexts.specs.Halves.{append-nil, append_assoc}
use Rattle.check_contexts.specs.Signatures.{entry_end, entry_ends, EntriesFit, WithEntries, entry_in, all_tab, end_bounded, ends_in_lem}
use Rattle.run_alone.specs.Run.{Fits, Becomes}
use Rattle.run_alone.specs.Calling.{context_in, entries_many, context_many}
use Rattle.run_steps.specs.Dispatch.{SmallSignatures, past_end}

-- ── what start promises, by the line's signature
abbrev pub BeginsBy : List ℕ → List ℕ → List ℕ → List ℕ → Bool → Option Signature → Type 0
BeginsBy s w old new r none = (r ≡ false) × (new ≡ old)
BeginsBy s w old new r (some g) = (r ≡ true) × Becomes s w old new (start_config g)

pub record Begins (s w old new : List ℕ) (r : Bool) (o : Option Signature) : Type 0 where
  pub is : BeginsBy s w old new r o

-- ── in numbers: the channel of the k-th signature entry from the place i on is k
-- what the process provides, and what the outside uses
abbrev pub start_ends : List ℕ → ℕ → ℕ → List RawEnd
start_ends w i n = entry_ends w 0 i n

abbrev pub start_channel : List ℕ → ℕ → ℕ → RawOutside
start_channel w i k = record { number = k; node = (entry_at w (i + k)).1; channel = k }

-- the run of a body with n entries that it provides
abbrev pub start_raw : List ℕ → ℕ → ℕ → ℕ → RawConfig
start_raw w i n body = with_given (with_outside (single (raw_process running_kind body (start_ends w i n) none)) (tab (start_channel w i) n)) n

-- ── the execs by number
module _ {A : Type 0} (f : ℕ → A) where
  numbered_many : (i n : ℕ) → length (numbered f i n) ≡ n
  numbered_many i zero = refl
  numbered_many i (suc n) = ap suc (numbered_many (i + 1) n)

  numbered_at : (i n k : ℕ) → k < n → get_elem? (numbered f i n) k ≡ some (f (i + k))
  numbered_at i zero k h = absurd (omega arith)
  numbered_at i (suc n) zero h = let e : i ≡ i + 0 = omega arith in ap {B = Option A} (λ j. some (f j)) e
  numbered_at i (suc n) (suc k) h = let e : i + 1 + k ≡ i + suc k = omega arith in numbered_at (i + 1) n k (omega arith) ∙ ap {B = Option A} (λ j. some (f j)) e

module _ (s w : List ℕ) where
  pub execs_many : length (program_in s w).execs ≡ (tally_in w).execs
  execs_many = ap length (execs_in s w) ∙ numbered_many (exec_in s w) 0 (tally_in w).execs

  pub exec_name : (line at : ℕ) → line < (tally_in w).execs → ExecOf w line at → get_elem? (program_in s w).execs line ≡ some (name_in s at)
  exec_name line at h o =
      let e : 0 + line ≡ line = omega arith in
      ap (λ l. get_elem? l line) (execs_in s w) ∙ numbered_at (exec_in s w) 0 (tally_in w).execs line h ∙ ap (λ j. some (exec_in s w j)) e ∙ ap some (o.is s)

  exec_line : (line at : ℕ) → line < (tally_in w).execs → ExecOf w line at → exec_of (program_in s w) line ≡ lookup (name_at s at) (program_in s w).processes
  unfolding exec_of
  exec_line line at h o = ap (line_signature (program_in s w)) (exec_name line at h o)

  no_line : (line : ℕ) → (tally_in w).execs ≤ line → exec_of (program_in s w) line ≡ none
  unfolding exec_of
  no_line line h = ap (line_signature (program_in s w)) (past_end (program_in s w).execs line (omega (arith, h, execs_many)))

-- ── what the process holds
pub start_held_lem : {w : List ℕ} {i n : ℕ} {o q : Held} → held_in o ≡ [] → WithEntries w o 0 i n q → held_in q ≡ start_ends w i n
start_held_lem {w} {i} {n} z b = b.is ∙ ap (λ l. l ++ start_ends w i n) z

pub ends_bounded : {w : List ℕ} {i n : ℕ} (q : Held) → held_in q ≡ start_ends w i n → EntriesFit w i n → n ≤ held_limit → (length (held_in q) ≤ held_limit) × All BoundedEnd (held_in q)
ends_bounded {w} {i} {n} q g f m = (omega (arith, ap length g, length_tab (λ k. entry_end w 0 (i + k) k) n), subst (All BoundedEnd) (sym g) (all_tab BoundedEnd (λ k. entry_end w 0 (i + k) k) n (λ k h. end_bounded w 0 i n k f m h)))

-- ── what the outside uses
-- as far as the loop has come: k entries of n
pub record Used (w : List ℕ) (i n : ℕ) (old new : List ℕ) (k : ℕ) : Type 0 where
  pub upto : k ≤ n
  pub is : Changed old new (on_outside (λ l. l ++ tab (start_channel w i) k) (raw_in old))
  pub bounds : Bounded (raw_in new)

module _ {w : List ℕ} {i n : ℕ} {old : List ℕ} where
  pub used_none : Bounded (raw_in old) → Used w i n old old 0
  used_none b = record { upto = omega arith; is = record { is = ap (λ l. on_outside (λ _. l) (raw_in old)) (sym (append-nil (raw_in old).outside)); past = refl; long = refl }; bounds = b }

  module _ {mid : List ℕ} {k : ℕ} (u : Used w i n old mid k) where
    pub used_many : length (raw_in mid).outside ≡ length (raw_in old).outside + k
    used_many = ap (λ (C : RawConfig). length C.outside) u.is.is ∙ length-append (raw_in old).outside (tab (start_channel w i) k) ∙ ap (λ m. length (raw_in old).outside + m) (length_tab (start_channel w i) k)

    pub used_on : {new : List ℕ} {e : Labelled} → k < n → EntryOf w (i + k) e → Changed mid new (on_outside (λ l. l ++ (outside_in (record { number = k; node = e.number; channel = k }) ∷ [])) (raw_in mid)) → Bounded (raw_in new) → Used w i n old new (k + 1)
    used_on {e = e} h o c b =
        let x : RawOutside = outside_in (record { number = k; node = e.number; channel = k }) in
        let z : start_channel w i k ≡ x = λ j. record { number = k; node = sym o.holds.number j; channel = k } in
        let a : ((raw_in old).outside ++ tab (start_channel w i) k) ++ (x ∷ []) ≡ (raw_in old).outside ++ tab (start_channel w i) (k + 1) =
        append_assoc (raw_in old).outside (tab (start_channel w i) k) (x ∷ []) ∙ ap (λ l. (raw_in old).outside ++ l) (sym (tab_append (start_channel w i) (start_channel w i) k (k + 1) x (omega arith) z (λ j l. refl))) in
        record {
          upto = omega arith;
          is = record {
            is = c.is ∙ ap (on_outside (λ l. l ++ (x ∷ []))) u.is.is ∙ ap (λ l. on_outside (λ _. l) (raw_in old)) a;
            past = c.past ∙ u.is.past;
            long = c.long ∙ u.is.long;
          };
          bounds = b;
        }

    pub used_all : n ≤ k → Changed old mid (on_outside (λ l. l ++ tab (start_channel w i) n) (raw_in old))
    used_all h = let e : k ≡ n = omega (arith, u.upto) in subst (λ j. Changed old mid (on_outside (λ l. l ++ tab (start_channel w i) j) (raw_in old))) e u.is

-- ── the whole run, in numbers
module _ (w : List ℕ) (i n body : ℕ) (held : Held) (g : held_in held ≡ start_ends w i n) where
  abbrev start_process : List RawEnd → RawProcess
  start_process l = raw_process running_kind body l none

  pub begun : {old one two new : List ℕ} → Changed old one (single (start_process (held_in held))) → Changed one two (on_outside (λ l. l ++ tab (start_channel w i) n) (raw_in one)) → Changed two new (with_given (raw_in two) n) → Changed old new (start_raw w i n body)
  begun a b c = record {
    is = c.is ∙ ap (λ C. with_given C n) (b.is ∙ ap (on_outside (λ l. l ++ tab (start_channel w i) n)) a.is) ∙ ap (λ l. with_given (with_outside (single (start_process l)) (tab (start_channel w i) n)) n) g;
    past = c.past ∙ b.past ∙ a.past;
    long = c.long ∙ b.long ∙ a.long;
  }

-- ── the whole run, as the calculus has it
module _ (s w : List ℕ) where
  abbrev held_by : ℕ → ℕ → Name × End
  held_by j k = (name_at s (entry_at w j).0, end provided k (plain_in s w (entry_at w j).1))

  abbrev outside_by : ℕ → ℕ → Outside
  outside_by j k = record { number = k; channel = k; type = plain_in s w (entry_at w j).1 }

  -- the elements of two counts that rise together, from i and c on
  both : {A : Type 0} (g : ℕ → ℕ → A) (i c n : ℕ) → tab (λ k. g (i + suc k) (c + suc k)) n ≡ tab (λ k. g (i + 1 + k) (suc c + k)) n
  both g i c n = tab_same _ _ n (λ k h. let e : i + suc k ≡ i + 1 + k = omega arith in let d : c + suc k ≡ suc c + k = omega arith in λ j. g (e j) (d j))

  held_from_lem : (i c n : ℕ) → tab (λ k. held_by (i + k) (c + k)) n ≡ start_held c (entries (entries_in s w i n))
  unfolding entries_in
  held_from_lem i c zero = refl
  held_from_lem i c (suc n) =
      let e : i + 0 ≡ i = omega arith in
      let d : c + 0 ≡ c = omega arith in
      (λ j. held_by (e j) (d j) ∷ (both held_by i c n ∙ held_from_lem (i + 1) (suc c) n) j)

  outside_from : (i c n : ℕ) → tab (λ k. outside_by (i + k) (c + k)) n ≡ start_outside c (entries (entries_in s w i n))
  unfolding entries_in
  outside_from i c zero = refl
  outside_from i c (suc n) =
      let e : i + 0 ≡ i = omega arith in
      let d : c + 0 ≡ c = omega arith in
      (λ j. outside_by (e j) (d j) ∷ (both outside_by i c n ∙ outside_from (i + 1) (suc c) n) j)

  from_zero : {A : Type 0} (g : ℕ → ℕ → A) (i n : ℕ) → tab (λ k. g (i + k) k) n ≡ tab (λ k. g (i + k) (0 + k)) n
  from_zero g i n = tab_same _ _ n (λ k h. let e : k ≡ 0 + k = omega arith in ap (g (i + k)) e)

  started_held : (i n : ℕ) → map (decoded_end (name_at s) (plain_in s w) (process_in s w)) (start_ends w i n) ≡ start_held 0 (entries (entries_in s w i n))
  started_held i n = map_tab (decoded_end (name_at s) (plain_in s w) (process_in s w)) (λ k. entry_end w 0 (i + k) k) n ∙ from_zero held_by i n ∙ held_from_lem i 0 n

  started_outside : (i n : ℕ) → map (decoded_outside (name_at s) (plain_in s w) (process_in s w)) (tab (start_channel w i) n) ≡ start_outside 0 (entries (entries_in s w i n))
  started_outside i n = map_tab (decoded_outside (name_at s) (plain_in s w) (process_in s w)) (start_channel w i) n ∙ from_zero outside_by i n ∙ outside_from i 0 n

module _ (s w : List ℕ) (t : Tables s w) (d : ProcessEntry) (a : SignatureIn s w d) where
  abbrev raw : RawConfig
  raw = start_raw w d.first d.provided d.body

  started_is : decoded (name_at s) (plain_in s w) (process_in s w) raw ≡ start_config (signature_of s w d)
  unfolding start_config signature_of
  started_is = λ j. config (process (running (process_in s w d.body)) (started_held s w d.first d.provided j) none ∷ []) (started_outside s w d.first d.provided j) (sym (entries_many s w d.first d.provided) j)

  pub becomes_start : (old new : List ℕ) → d.provided ≤ held_limit → run_words ≤ length old → Changed old new raw → Bounded (raw_in new) → Becomes s w old new (start_config (signature_of s w d))
  becomes_start old new m l c b = record {
    is = ap (decoded (name_at s) (plain_in s w) (process_in s w)) c.is ∙ started_is;
    run = record {
      tables = t;
      wide = omega (arith, l, c.long);
      bounds = b;
      processes = subst (λ (C : RawConfig). All (Fits s w) C.processes) (sym c.is) (record { term = λ z. a.body; held = ends_in_lem w 0 d.first s d.provided t a.provides m }, tt);
      outside = subst (λ (C : RawConfig). All (λ (o : RawOutside). TypeIn s w o.node) C.outside) (sym c.is) (all_tab (λ (o : RawOutside). TypeIn s w o.node) (start_channel w d.first) d.provided (λ k h. (entry_in s w d.provided d.first k a.provides h).1));
    };
    past = c.past;
    long = c.long;
  }

-- ── the line
pub begins_nowhere : (s w run : List ℕ) (line : ℕ) → (tally_in w).execs ≤ line → Begins s w run run false (exec_of (program_in s w) line)
begins_nowhere s w run line h = subst (Begins s w run run false) (sym (no_line s w line h)) (record { is = (refl, refl) })

module _ (s w old : List ℕ) (line at : ℕ) (h : line < (tally_in w).execs) (o : ExecOf w line at) {f : CodeOption ℕ} (a : Sought (name_at s at) (program_in s w).processes (named_process s w) (tally_in w).processes f) where
  pub begins_nothing : f ≡ None → Begins s w old old false (exec_of (program_in s w) line)
  begins_nothing e = subst (Begins s w old old false) (sym (exec_line s w line at h o ∙ a.is ∙ ap (λ x. Option.map (λ j. (named_process s w j).1) (place_of x)) e)) (record { is = (refl, refl) })

  module _ (k : ℕ) (e : f ≡ Some k) (d : ProcessEntry) (b : SignatureOf w k d) (t : Tables s w) (c : SmallSignatures (program_in s w)) where
    found_is : lookup (name_at s at) (program_in s w).processes ≡ some (signature_of s w d)
    found_is = a.is ∙ ap (λ x. Option.map (λ j. (named_process s w j).1) (place_of x)) e ∙ ap (λ x. some x.1) (b.is s)

    pub start_signature : SignatureIn s w d
    start_signature = b.stands s t (a.below k e)

    pub start_few : d.provided ≤ held_limit
    unfolding signature_of
    start_few =
        let l = c.small _ _ found_is in
        omega (arith, l, length-append (context_in s w 0 d.first d.provided) (context_in s w 1 (d.first + d.provided) d.used), context_many s w 0 d.first d.provided)

    pub begins_on : (new : List ℕ) → run_words ≤ length old → Changed old new (start_raw w d.first d.provided d.body) → Bounded (raw_in new) → Begins s w old new true (exec_of (program_in s w) line)
    begins_on new l g u = subst (Begins s w old new true) (sym (exec_line s w line at h o ∙ found_is)) (record { is = (refl, becomes_start s w t d start_signature old new start_few l g u) })
