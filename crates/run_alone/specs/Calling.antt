-- A call: the channels of its lists under the names of the signature.
use Rattle.std.specs.Prelude.{ℕ, zero, suc, ◌+◌, ◌-◌, ◌≤◌, ◌<◌, ◌≡◌, length}
use Rattle.std.specs.Prelude.{Option as CodeOption, Some, None}
use Rattle.std.proofs.Math.Path.{refl, sym, ap, subst}
use Rattle.std.proofs.Common.{◌∙◌, arith}
use mathlib.Core.List.{List, [], ◌∷◌, ◌++◌}
use Rattle.std.proofs.Math.Option.{Option, some, map}
use Rattle.std.proofs.Math.ListN.{length-append}
use Rattle.notation.specs.Limits.{held_limit, type_term_limit}
use Rattle.notation.specs.Token.{name_at, token_at}
use Rattle.notation.specs.Reader.{name_in}
use Rattle.notation.specs.Tree.{Name, Located}
use Rattle.calculus.specs.Named.{lookup}
use Rattle.calculus.specs.Program.{slot, Context, Signature, on_side, entries, signature_context}
use Rattle.calculus.specs.Typing.{names_of}
use Rattle.calculus.specs.Configuration.{End, end, goes_on, replaced}
use Rattle.calculus.specs.Steps.{Outcome, renamed_end, renamed, entering, calling}
use Rattle.calculus.specs.declared.answers.Seen.TheVariants as Seen
use Rattle.read_tables.specs.Access.{EntryOf, entry_there, SignatureOf}
use Rattle.read_tables.specs.Decode.{tally_in, entries_in, process_in, arguments_at}
use Rattle.read_tables.specs.Names.{argument_from, NamesFrom, CallAt}
use Rattle.read_tables.specs.Program.{plain_in, program_in, signature_of, named_process}
use Rattle.read_tables.specs.Search.{place_of, Sought}
use Rattle.read_tables.specs.Roots.{TypeIn}
use Rattle.read_tables.specs.Whole.{EntriesIn, FirstEntry, SignatureIn, Tables}
use Rattle.read_tables.specs.declared.access.Labelled.{Labelled}
use Rattle.notation.specs.declared.reading.ProcessEntry.{ProcessEntry}
use Rattle.read_tables.specs.declared.arguments.Argument.TheVariants as arguments
use Rattle.run_words.specs.Raw.{side_of}
use Rattle.run_words.specs.declared.records.End.{End as EndWords}
use Rattle.run_words.specs.declared.records.Held.{Held}
use Rattle.run_words.specs.declared.records.Process.{Process as ProcessWords}
use Rattle.run_words.specs.Lists.{All}
use Rattle.run_words.specs.Values.{held_in}
use Rattle.run_words.specs.Values as values
use Rattle.check_contexts.specs.Held.{channels_of, EndIn, HeldIn, end_found, Sees, Brings}
use Rattle.check_contexts.specs.Halves.{append-nil, append_assoc}
use Rattle.check_contexts.specs.Walks.{Ends, Walking, walk_start, walk_on, walk_end}
use Rattle.run_alone.specs.declared.outcome.Outcome.TheVariants.{Carried, NotOpen}
use Rattle.run_alone.specs.Run.{config_in, process_as, Becomes, Carries}
use Rattle.run_alone.specs.Changes.{channels_many}

-- ── one name of a list: the end of h under the name at a comes under the name at `at`
pub record EntersEnd (s w : List ℕ) (h r : Held) (a at side node : ℕ) (q : Held) : Type 0 where
  pub is : channels_of s w q ≡ channels_of s w r ++ renamed_end (name_at s at, slot (side_of side) (plain_in s w node)) (lookup (name_at s a) (channels_of s w h))
  pub fits : HeldIn s w q
  pub few : q.count ≤ r.count + 1

module _ (s w : List ℕ) (h r : Held) (a at side node : ℕ) {f : CodeOption EndWords} (o : Sees s h a f) (u : HeldIn s w r) where
  abbrev joined : Option End → List (Name × End)
  joined d = channels_of s w r ++ renamed_end (name_at s at, slot (side_of side) (plain_in s w node)) d

  pub enters_none : f ≡ None → EntersEnd s w h r a at side node r
  enters_none e = record { is = sym (append-nil (channels_of s w r)) ∙ ap joined (sym (o.is w ∙ ap (end_found s w) e)); fits = u; few = omega arith }

  pub enters_found : (d : EndWords) (q : Held) → f ≡ Some d → TypeIn s w node → Brings r at side node d.channel q → EntersEnd s w h r a at side node q
  enters_found d q e t b =
      let z : channels_of s w q ≡ channels_of s w r ++ ((name_at s at, end (side_of side) d.channel (plain_in s w node)) ∷ []) = b.is s w in
      record {
        is = z ∙ ap joined (sym (o.is w ∙ ap (end_found s w) e));
        fits = b.fits s w t u;
        few = omega (arith, channels_many s w q, channels_many s w r, ap length z, length-append (channels_of s w r) ((name_at s at, end (side_of side) d.channel (plain_in s w node)) ∷ []));
      }

-- ── a list of names, over n signature entries from a place on
abbrev pub context_in : List ℕ → List ℕ → ℕ → ℕ → ℕ → Context
context_in s w side i n = on_side (side_of side) (entries (entries_in s w i n))

pub record EntersList (s w : List ℕ) (h r : Held) (from side i n : ℕ) (q : Held) : Type 0 where
  pub is : (xs : List Located) (rest : ℕ) → NamesFrom s from xs rest → channels_of s w q ≡ channels_of s w r ++ renamed (names_of xs) (context_in s w side i n) (channels_of s w h)
  pub fits : HeldIn s w q
  pub few : q.count ≤ r.count + n

module _ (s w : List ℕ) (h r₀ : Held) (from side i₀ n₀ : ℕ) where
  abbrev whole : List Located → List (Name × End)
  whole xs = channels_of s w r₀ ++ renamed (names_of xs) (context_in s w side i₀ n₀) (channels_of s w h)

  abbrev Left : Held → ℕ → ℕ → List Located → List Located → Type 0
  Left r i n xs ys = whole xs ≡ channels_of s w r ++ renamed (names_of ys) (context_in s w side i n) (channels_of s w h)

  -- as far as the loop has come: n entries from the place i on are left, and the names from `at` on
  pub record Entering (r : Held) (at i n : ℕ) : Type 0 where
    pub there : EntriesIn s w i n
    pub fits : HeldIn s w r
    pub few : r.count + n ≤ r₀.count + n₀
    pub walk : Walking s from at (Left r i n)

  pub entering_start : EntriesIn s w i₀ n₀ → HeldIn s w r₀ → Entering r₀ from i₀ n₀
  entering_start a u = record { there = a; fits = u; few = omega arith; walk = walk_start s from (Left r₀ i₀ n₀) (λ xs. refl) }

  no_context : (ys : List Located) (i : ℕ) (l : List (Name × End)) → renamed (names_of ys) (context_in s w side i 0) l ≡ []
  unfolding entries_in
  no_context [] i l = refl
  no_context (y ∷ ys) i l = refl

  module _ (r : Held) (at i n : ℕ) (t : Entering r at i n) where
    finish : ((xs : List Located) (rest : ℕ) → NamesFrom s from xs rest → whole xs ≡ channels_of s w r) → EntersList s w h r₀ from side i₀ n₀ r
    finish f = record { is = λ xs rest m. sym (f xs rest m); fits = t.fits; few = omega (arith, t.few) }

    pub entering_done : n ≡ 0 → EntersList s w h r₀ from side i₀ n₀ r
    entering_done z = finish (λ xs rest m.
        let (ys, k, e) = t.walk.on xs rest m in
        e ∙ ap (λ j. channels_of s w r ++ renamed (names_of ys) (context_in s w side i j) (channels_of s w h)) z ∙ ap (λ l. channels_of s w r ++ l) (no_context ys i (channels_of s w h)) ∙ append-nil (channels_of s w r))

    pub entering_ended : (p : ℕ) → argument_from s at ≡ arguments.End p → EntersList s w h r₀ from side i₀ n₀ r
    entering_ended p e = finish (λ xs rest m. (walk_end t.walk p e xs rest m).1 ∙ append-nil (channels_of s w r))

    module _ (z : n ≡ 0 → ⊥) where
      more : n ≡ suc (n - 1)
      more = omega (arith, z)

      still : EntriesIn s w i (suc (n - 1))
      still = subst (EntriesIn s w i) more t.there

      pub entering_there : Tables s w → i < type_term_limit
      entering_there g = entry_there s w g i (n - 1) still

      module _ (e : Labelled) (o : EntryOf w i e) where
        first : FirstEntry s w i (n - 1) e.at e.number
        first = o.says s (n - 1) still

        pub entering_type : TypeIn s w e.number
        entering_type = first.type

        context_more : context_in s w side i n ≡ (name_at s e.at, slot (side_of side) (plain_in s w e.number)) ∷ context_in s w side (i + 1) (n - 1)
        context_more = ap (λ k. context_in s w side i k) more ∙ ap (λ l. on_side (side_of side) (entries l)) first.is

        pub entering_on : (a p : ℕ) (q : Held) → argument_from s at ≡ arguments.Name a p → EntersEnd s w h r a e.at side e.number q → Entering q p (i + 1) (n - 1)
        entering_on a p q g b = record {
          there = first.rest;
          fits = b.fits;
          few = omega (arith, t.few, b.few, z);
          walk = walk_on t.walk a p (Left q (i + 1) (n - 1)) g (λ xs ys rest o m.
              m
              ∙ ap (λ G. channels_of s w r ++ renamed (name_at s a ∷ names_of ys) G (channels_of s w h)) context_more
              ∙ sym (append_assoc (channels_of s w r) (renamed_end (name_at s e.at, slot (side_of side) (plain_in s w e.number)) (lookup (name_at s a) (channels_of s w h))) (renamed (names_of ys) (context_in s w side (i + 1) (n - 1)) (channels_of s w h)))
              ∙ ap (λ l. l ++ renamed (names_of ys) (context_in s w side (i + 1) (n - 1)) (channels_of s w h)) (sym b.is));
        }

-- ── the whole of what a call enters with
pub record EntersCall (s w : List ℕ) (h : Held) (bracket : ℕ) (d : ProcessEntry) (q : Held) : Type 0 where
  pub is : (xs ys : List Located) → CallAt s bracket xs ys → length xs ≡ d.provided → channels_of s w q ≡ renamed (names_of xs ++ names_of ys) (signature_context (signature_of s w d)) (channels_of s w h)
  pub fits : HeldIn s w q

renamed_both : (xs : List Name) (ys : List Name) (G H : Context) (l : List (Name × End)) → length xs ≡ length G → renamed (xs ++ ys) (G ++ H) l ≡ renamed xs G l ++ renamed ys H l
renamed_both [] ys [] H l e = refl
renamed_both [] ys (g ∷ G) H l e = absurd (omega arith)
renamed_both (x ∷ xs) ys [] H l e = absurd (omega arith)
renamed_both (x ∷ xs) ys (g ∷ G) H l e =
    ap (λ m. renamed_end g (lookup x l) ++ m) (renamed_both xs ys G H l (omega arith))
    ∙ sym (append_assoc (renamed_end g (lookup x l)) (renamed xs G l) (renamed ys H l))

pub names_many : (xs : List Located) → length (names_of xs) ≡ length xs
names_many [] = refl
names_many (x ∷ xs) = ap suc (names_many xs)

pub entries_many : (s w : List ℕ) (i n : ℕ) → length (entries (entries_in s w i n)) ≡ n
unfolding entries_in
entries_many s w i zero = refl
entries_many s w i (suc n) = ap suc (entries_many s w (i + 1) n)

pub context_many : (s w : List ℕ) (side i n : ℕ) → length (context_in s w side i n) ≡ n
unfolding entries_in
context_many s w side i zero = refl
context_many s w side i (suc n) = ap suc (context_many s w side (i + 1) n)

module _ (s w : List ℕ) (h : Held) (bracket : ℕ) (d : ProcessEntry) (from used middle : ℕ) (none first q : Held) where
  pub enters_call : channels_of s w none ≡ [] → from ≡ (token_at s bracket).end → Ends s from middle → used ≡ (token_at s middle).end
      → EntersList s w h none from 0 d.first d.provided first → EntersList s w h first used 1 (d.first + d.provided) d.used q → EntersCall s w h bracket d q
  unfolding signature_of
  enters_call z f m u a b = record {
    is = λ xs ys c n.
        let o = subst (λ i. NamesFrom s i xs c.middle) (sym f) c.provided in
        let v : used ≡ (token_at s c.middle).end = u ∙ ap (λ i. (token_at s i).end) (m.is xs _ o) in
        let k = subst (λ i. NamesFrom s i ys c.end) (sym v) c.used in
        b.is ys _ k
        ∙ ap (λ l. l ++ renamed (names_of ys) (context_in s w 1 (d.first + d.provided) d.used) (channels_of s w h)) (a.is xs _ o ∙ ap (λ l. l ++ renamed (names_of xs) (context_in s w 0 d.first d.provided) (channels_of s w h)) z)
        ∙ sym (renamed_both (names_of xs) (names_of ys) (context_in s w 0 d.first d.provided) (context_in s w 1 (d.first + d.provided) d.used) (channels_of s w h) (names_many xs ∙ n ∙ sym (context_many s w 0 d.first d.provided)));
    fits = b.fits;
  }

-- ── the rule
abbrev pub calling_by : List ℕ → List ℕ → List ℕ → ℕ → ProcessWords → ℕ → ℕ → Outcome
calling_by s w old i p name bracket = calling (program_in s w) (config_in s w old) i (process_as s w p) (name_in s name) (arguments_at s bracket).0 (arguments_at s bracket).1

-- a call's lists stand in the text; as many names as the process provides, and at most 16 channels
pub record CallIn (s w : List ℕ) (name bracket : ℕ) : Type 0 where
  pub lists : CallAt s bracket (arguments_at s bracket).0 (arguments_at s bracket).1
  pub fitting : (g : Signature) → lookup (name_at s name) (program_in s w).processes ≡ some g → (length (arguments_at s bracket).0 ≡ length g.provides) × (length (signature_context g) ≤ held_limit)

module _ (s w old : List ℕ) (i : ℕ) (p : ProcessWords) (name bracket : ℕ) {f : CodeOption ℕ} (a : Sought (name_at s name) (program_in s w).processes (named_process s w) (tally_in w).processes f) where
  pub calls_nothing : f ≡ None → Carries s w old old NotOpen (calling_by s w old i p name bracket)
  unfolding calling
  calls_nothing e = subst (λ o. Carries s w old old NotOpen (entering (config_in s w old) i (process_as s w p) (names_of (arguments_at s bracket).0 ++ names_of (arguments_at s bracket).1) o)) (sym (a.is ∙ ap (λ x. map (λ j. (named_process s w j).1) (place_of x)) e)) (record { is = (refl, refl) })

  module _ (k : ℕ) (e : f ≡ Some k) (d : ProcessEntry) (b : SignatureOf w k d) (t : Tables s w) (c : CallIn s w name bracket) where
    declared_is : lookup (name_at s name) (program_in s w).processes ≡ some (signature_of s w d)
    declared_is = a.is ∙ ap (λ x. map (λ j. (named_process s w j).1) (place_of x)) e ∙ ap (λ x. some x.1) (b.is s)

    pub signature_in : SignatureIn s w d
    signature_in = b.stands s t (a.below k e)

    pub provided_many : length (arguments_at s bracket).0 ≡ d.provided
    unfolding signature_of
    provided_many = (c.fitting _ declared_is).0 ∙ entries_many s w d.first d.provided

    pub call_few : d.provided + d.used ≤ held_limit
    unfolding signature_of
    call_few =
        let l = (c.fitting _ declared_is).1 in
        omega (arith, l, length-append (context_in s w 0 d.first d.provided) (context_in s w 1 (d.first + d.provided) d.used), context_many s w 0 d.first d.provided, context_many s w 1 (d.first + d.provided) d.used)

    pub calls_on : (new : List ℕ) (q : Held) → EntersCall s w p.held bracket d q → Becomes s w old new (replaced i (process_as s w (values.running_on d.body q p)) (config_in s w old)) → Carries s w old new (Carried Seen.Nothing) (calling_by s w old i p name bracket)
    unfolding calling signature_of
    calls_on new q g u =
        subst (λ o. Carries s w old new (Carried Seen.Nothing) (entering (config_in s w old) i (process_as s w p) (names_of (arguments_at s bracket).0 ++ names_of (arguments_at s bracket).1) o)) (sym declared_is)
        (record { is = (refl, subst (λ l. Becomes s w old new (replaced i (goes_on (process_as s w p) (process_in s w d.body) l) (config_in s w old))) (g.is _ _ c.lists provided_many) u) })

-- the place past a signature's first entries
pub entries_below : (s w : List ℕ) (i n : ℕ) → Tables s w → EntriesIn s w i n → (n ≡ 0 → ⊥) → i < type_term_limit
entries_below s w i n t a z = let e : n ≡ suc (n - 1) = omega (arith, z) in entry_there s w t i (n - 1) (subst (EntriesIn s w i) e a)

-- nothing held
pub held_nothing : (s w : List ℕ) (h : Held) → held_in h ≡ [] → h.count ≡ 0 → HeldIn s w h
held_nothing s w h e z = record { many = omega arith; each = subst (All (EndIn s w)) (sym e) tt }
