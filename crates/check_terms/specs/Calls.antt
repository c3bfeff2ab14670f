-- What the typing rule of a call asks of its two lists together.
use Rattle.std.specs.Prelude.{ℕ, ◌+◌, ◌≡◌, refl, List, [], ◌∷◌, ◌++◌, Bool, true, false, cond, not, ◌&&◌}
use Rattle.std.specs.Prelude.{Option as CodeOption, Some, None, Result, Ok, Err}
use Rattle.std.proofs.Common.{sym, ◌∙◌, subst}
use Rattle.std.proofs.Math.Path.{ap}
use Rattle.std.proofs.Math.Option.{Option, some, none, map}
use Rattle.notation.specs.Bytes.{same}
use Rattle.notation.specs.Token.{name_at, token_at}
use Rattle.notation.specs.Tree.{Name, Located}
use Rattle.calculus.specs.Named.{lookup, without, is_some, every, any_of, distinct}
use Rattle.calculus.specs.Types.{provided, used}
use Rattle.calculus.specs.Mentions.{is_one_of}
use Rattle.calculus.specs.Program.{Context, Signature, Program, entries}
use Rattle.calculus.specs.Declarations.{is_nil}
use Rattle.calculus.specs.Typing.{names_of}
use Rattle.calculus.specs.Checking.{list_fits, without_all}
use Rattle.calculus.specs.Configuration.{End}
use Rattle.calculus.specs.WellFormed.{context_of}
use Rattle.theory_ends.specs.Contexts.{context_without}
use Rattle.run_words.specs.declared.records.Held.{Held}
use Rattle.read_tables.specs.Access.{SignatureOf}
use Rattle.read_tables.specs.Decode.{tally_in, entries_in}
use Rattle.read_tables.specs.Names.{NamesFrom, CallAt}
use Rattle.read_tables.specs.Program.{program_in, named_process, signature_of}
use Rattle.read_tables.specs.Search.{place_of, Sought}
use Rattle.notation.specs.declared.reading.ProcessEntry.{ProcessEntry}
use Rattle.check_contexts.specs.Held.{channels_of}
use Rattle.check_contexts.specs.Walks.{Ends}
use Rattle.check_terms.specs.Next.{Step, go, asking, granted, context_in}
use Rattle.check_terms.specs.Endings.{answer_of, calls, none_left, some_left}
use Rattle.check_terms.specs.Lists.{AllHeld, Fit, Distinct, apart, any_is, Apart, Without}

-- of two lists that go on from a and b, and what their names are
abbrev pub Of : List ℕ → ℕ → ℕ → (List Located → List Located → Type 0) → Type 0
Of s a b P = (xs ys : List Located) (rest rest' : ℕ) → NamesFrom s a xs rest → NamesFrom s b ys rest' → P xs ys

pub record BothDistinct (s : List ℕ) (a b : ℕ) (r : Bool) : Type 0 where
  pub is : Of s a b (λ xs ys. r ≡ distinct (names_of xs ++ names_of ys))

pub record BothHeld (s : List ℕ) (h : Held) (a b : ℕ) (r : Bool) : Type 0 where
  pub is : (w : List ℕ) → Of s a b (λ xs ys. r ≡ every (λ n. is_some (lookup n (context_in s w h))) (names_of xs ++ names_of ys))

pub record BothWithout (s : List ℕ) (h : Held) (a b n : ℕ) : Type 0 where
  pub none : n ≡ 0 → (w : List ℕ) → Of s a b (λ xs ys. is_nil (without_all (names_of xs ++ names_of ys) (context_in s w h)) ≡ true)
  pub some : (n ≡ 0 → ⊥) → (w : List ℕ) → Of s a b (λ xs ys. is_nil (without_all (names_of xs ++ names_of ys) (context_in s w h)) ≡ false)

-- the lists fit the signature, if there is one
abbrev fits_signature : Program → Context → List Name → List Name → Option Signature → Bool
fits_signature p G xs ys none = false
fits_signature p G xs ys (some s) = list_fits p G provided xs s.provides && list_fits p G used ys s.uses

pub record BothFit (s w : List ℕ) (h : Held) (q a b : ℕ) (r : Bool) : Type 0 where
  pub is : Of s a b (λ xs ys. r ≡ fits_signature (program_in s w) (context_in s w h) (names_of xs) (names_of ys) (lookup (name_at s q) (program_in s w).processes))

pub record ListsChecked (s w : List ℕ) (h : Held) (q a b : ℕ) (r : Result (Unit {0}) ℕ) : Type 0 where
  pub is : Of s a b (λ xs ys. r ≡ answer_of (calls (program_in s w) (name_at s q) (names_of xs) (names_of ys) (context_in s w h)))

-- ── laws of lists one after the other
all_append : {A : Type 0} (p : A → Bool) (l m : List A) → every p (l ++ m) ≡ every p l && every p m
all_append p [] m = refl
all_append p (a ∷ l) m = go (p a) (all_append p l m)
  where
    go : (b : Bool) → every p (l ++ m) ≡ every p l && every p m → cond b (every p (l ++ m)) false ≡ cond b (every p l) false && every p m
    go true h = h
    go false h = refl

any_append : {A : Type 0} (p : A → Bool) (l m : List A) → any_of p (l ++ m) ≡ cond (any_of p l) true (any_of p m)
any_append p [] m = refl
any_append p (a ∷ l) m = go (p a) (any_append p l m)
  where
    go : (b : Bool) → any_of p (l ++ m) ≡ cond (any_of p l) true (any_of p m) → cond b true (any_of p (l ++ m)) ≡ cond (cond b true (any_of p l)) true (any_of p m)
    go true h = refl
    go false h = h

distinct_append : (xs ys : List Located) → distinct (names_of xs ++ names_of ys) ≡ distinct (names_of xs) && (apart xs ys && distinct (names_of ys))
unfolding distinct
distinct_append [] ys = refl
distinct_append (x ∷ xs) ys =
    ap (λ b. cond b false (distinct (names_of xs ++ names_of ys))) (any_append (same x.name) (names_of xs) (names_of ys) ∙ ap (cond (any_of (same x.name) (names_of xs)) true) (any_is x.name ys))
    ∙ go (any_of (same x.name) (names_of xs)) (is_one_of x.name ys) (apart xs ys) (distinct_append xs ys)
  where
    go : (a b c : Bool) → distinct (names_of xs ++ names_of ys) ≡ distinct (names_of xs) && (c && distinct (names_of ys))
        → cond (cond a true b) false (distinct (names_of xs ++ names_of ys)) ≡ cond a false (distinct (names_of xs)) && (cond (not b) c false && distinct (names_of ys))
    go true b c h = refl
    go false true c h = sym (never (distinct (names_of xs)))
      where
        never : (d : Bool) → d && false ≡ false
        never true = refl
        never false = refl
    go false false c h = h

without_append : {X : Type 0} (xs ys : List Name) (l : List (Name × X)) → without_all (xs ++ ys) l ≡ without_all ys (without_all xs l)
unfolding without_all
without_append [] ys l = refl
without_append (x ∷ xs) ys l = without_append xs ys (without x l)

context_without_all : (ns : List Name) (l : List (Name × End)) → without_all ns (context_of l) ≡ context_of (without_all ns l)
unfolding without_all
context_without_all [] l = refl
context_without_all (n ∷ ns) l = ap (without_all ns) (context_without n l) ∙ context_without_all ns (without n l)

-- ── the ways through the code
module _ {s : List ℕ} {a b : ℕ} where
  -- the first list is distinct, the two are apart, the second is distinct
  pub not_distinct_first : Distinct s a false → BothDistinct s a b false
  not_distinct_first f = record { is = λ xs ys rest rest' n m. sym (distinct_append xs ys ∙ ap (λ c. c && (apart xs ys && distinct (names_of ys))) (sym (f.is xs rest n))) }

  module _ (f : Distinct s a true) where
    pub not_apart : Apart s a b false → BothDistinct s a b false
    not_apart g = record {
      is = λ xs ys rest rest' n m.
          sym (distinct_append xs ys ∙ λ j. sym (f.is xs rest n) j && (sym (g.is xs ys rest rest' n m) j && distinct (names_of ys)));
    }

    pub distinct_last : Apart s a b true → {r : Bool} → Distinct s b r → BothDistinct s a b r
    distinct_last g k = record {
      is = λ xs ys rest rest' n m.
          sym (distinct_append xs ys ∙ λ j. sym (f.is xs rest n) j && (sym (g.is xs ys rest rest' n m) j && sym (k.is ys rest' m) j));
    }

  module _ {h : Held} where
    pub not_held_first : AllHeld s h a false → BothHeld s h a b false
    not_held_first f = record {
      is = λ w xs ys rest rest' n m. sym (all_append _ (names_of xs) (names_of ys) ∙ ap (λ c. c && every (λ k. is_some (lookup k (context_in s w h))) (names_of ys)) (sym (f.is w xs rest n)));
    }

    pub held_last : AllHeld s h a true → {r : Bool} → AllHeld s h b r → BothHeld s h a b r
    held_last f k = record {
      is = λ w xs ys rest rest' n m.
          k.is w ys rest' m
          ∙ sym (all_append _ (names_of xs) (names_of ys) ∙ ap (λ c. c && every (λ k. is_some (lookup k (context_in s w h))) (names_of ys)) (sym (f.is w xs rest n)));
    }

  pub counts_left : {h l r : Held} → Without s h a l → Without s l b r → BothWithout s h a b r.count
  counts_left {h} {l} {r} f g = record {
    none = λ z w xs ys rest rest' n m. ap is_nil (left w xs ys rest rest' n m) ∙ none_left s w r z;
    some = λ z w xs ys rest rest' n m. ap is_nil (left w xs ys rest rest' n m) ∙ some_left s w r z;
  }
    where
      left : (w : List ℕ) → Of s a b (λ xs ys. without_all (names_of xs ++ names_of ys) (context_in s w h) ≡ context_in s w r)
      left w xs ys rest rest' n m =
          without_append (names_of xs) (names_of ys) (context_in s w h)
          ∙ ap (without_all (names_of ys)) (context_without_all (names_of xs) (channels_of s w h) ∙ ap context_of (sym (f.is w xs rest n)))
          ∙ context_without_all (names_of ys) (channels_of s w l)
          ∙ ap context_of (sym (g.is w ys rest' m))

-- ── the signature
module _ (s w : List ℕ) (h : Held) (q : ℕ) {r : CodeOption ℕ} (f : Sought (name_at s q) (program_in s w).processes (named_process s w) (tally_in w).processes r) where
  pub fits_nothing : {a b : ℕ} → r ≡ None → BothFit s w h q a b false
  fits_nothing e = record { is = λ xs ys rest rest' n m. sym (ap (fits_signature (program_in s w) (context_in s w h) (names_of xs) (names_of ys)) (f.is ∙ ap (λ x. map (λ i. (named_process s w i).1) (place_of x)) e)) }

  module _ {k : ℕ} (e : r ≡ Some k) {d : ProcessEntry} (g : SignatureOf w k d) where
    fits_by : (xs ys : List Located) → fits_signature (program_in s w) (context_in s w h) (names_of xs) (names_of ys) (lookup (name_at s q) (program_in s w).processes)
        ≡ list_fits (program_in s w) (context_in s w h) provided (names_of xs) (entries (entries_in s w d.first d.provided))
        && list_fits (program_in s w) (context_in s w h) used (names_of ys) (entries (entries_in s w (d.first + d.provided) d.used))
    unfolding signature_of
    fits_by xs ys =
        ap (fits_signature (program_in s w) (context_in s w h) (names_of xs) (names_of ys)) (f.is ∙ ap (λ x. map (λ i. (named_process s w i).1) (place_of x)) e ∙ ap (λ (x : Name × Signature). some x.1) (g.is s))

    module _ {a b : ℕ} where
      pub fits_not : Fit s w h a 0 d.first d.provided false → BothFit s w h q a b false
      fits_not u = record {
        is = λ xs ys rest rest' n m.
            sym (fits_by xs ys ∙ ap (λ c. c && list_fits (program_in s w) (context_in s w h) used (names_of ys) (entries (entries_in s w (d.first + d.provided) d.used))) (sym (u.is xs rest n)));
      }

      pub fits_last : Fit s w h a 0 d.first d.provided true → {o : Bool} → Fit s w h b 1 (d.first + d.provided) d.used o → BothFit s w h q a b o
      fits_last u v = record {
        is = λ xs ys rest rest' n m.
            v.is ys rest' m
            ∙ sym (fits_by xs ys ∙ ap (λ c. c && list_fits (program_in s w) (context_in s w h) used (names_of ys) (entries (entries_in s w (d.first + d.provided) d.used))) (sym (u.is xs rest n)));
      }

-- ── the answer
module _ (s w : List ℕ) (h : Held) (q a b : ℕ) where
  abbrev G : Context
  G = context_in s w h

  abbrev by : Bool → Bool → Bool → Bool → Step
  by x y z u = granted 10 x (granted 11 y (granted 11 z (granted 13 u (go G))))

  -- a signature asked for and tested is one test
  one_test : (xs ys : List Name) (o : Option Signature) (t : Step)
      → asking 11 o (λ g. granted 11 (list_fits (program_in s w) G provided xs g.provides && list_fits (program_in s w) G used ys g.uses) t) ≡ granted 11 (fits_signature (program_in s w) G xs ys o) t
  one_test xs ys none t = refl
  one_test xs ys (some g) t = refl

  calls_by : (xs ys : List Name) → calls (program_in s w) (name_at s q) xs ys G ≡ by (every (λ n. is_some (lookup n G)) (xs ++ ys)) (fits_signature (program_in s w) G xs ys (lookup (name_at s q) (program_in s w).processes)) (distinct (xs ++ ys)) (is_nil (without_all (xs ++ ys) G))
  unfolding calls
  calls_by xs ys = ap (granted 10 (every (λ n. is_some (lookup n G)) (xs ++ ys))) (one_test xs ys (lookup (name_at s q) (program_in s w).processes) _)

  abbrev held? : List Located → List Located → Bool
  held? xs ys = every (λ n. is_some (lookup n G)) (names_of xs ++ names_of ys)

  abbrev fit? : List Located → List Located → Bool
  fit? xs ys = fits_signature (program_in s w) G (names_of xs) (names_of ys) (lookup (name_at s q) (program_in s w).processes)

  abbrev distinct? : List Located → List Located → Bool
  distinct? xs ys = distinct (names_of xs ++ names_of ys)

  abbrev nil? : List Located → List Located → Bool
  nil? xs ys = is_nil (without_all (names_of xs ++ names_of ys) G)

  pub checked_held : BothHeld s h a b false → ListsChecked s w h q a b (Err 10)
  checked_held f = record { is = λ xs ys rest rest' n m. sym (ap answer_of (calls_by (names_of xs) (names_of ys) ∙ λ j. by (sym (f.is w xs ys rest rest' n m) j) (fit? xs ys) (distinct? xs ys) (nil? xs ys))) }

  module _ (f : BothHeld s h a b true) where
    pub checked_fit : BothFit s w h q a b false → ListsChecked s w h q a b (Err 11)
    checked_fit g = record { is = λ xs ys rest rest' n m. sym (ap answer_of (calls_by (names_of xs) (names_of ys) ∙ λ j. by (sym (f.is w xs ys rest rest' n m) j) (sym (g.is xs ys rest rest' n m) j) (distinct? xs ys) (nil? xs ys))) }

    module _ (g : BothFit s w h q a b true) where
      checked : {z u : Bool} → BothDistinct s a b z → Of s a b (λ xs ys. is_nil (without_all (names_of xs ++ names_of ys) G) ≡ u) → ListsChecked s w h q a b (answer_of (by true true z u))
      checked k v = record {
        is = λ xs ys rest rest' n m.
            sym (ap answer_of (calls_by (names_of xs) (names_of ys) ∙ λ j. by (sym (f.is w xs ys rest rest' n m) j) (sym (g.is xs ys rest rest' n m) j) (sym (k.is xs ys rest rest' n m) j) (v xs ys rest rest' n m j)));
      }

      pub checked_distinct : BothDistinct s a b false → ListsChecked s w h q a b (Err 11)
      checked_distinct k = record {
        is = λ xs ys rest rest' n m.
            sym (ap answer_of (calls_by (names_of xs) (names_of ys) ∙ λ j. by (sym (f.is w xs ys rest rest' n m) j) (sym (g.is xs ys rest rest' n m) j) (sym (k.is xs ys rest rest' n m) j) (nil? xs ys)));
      }

      module _ (k : BothDistinct s a b true) {i : ℕ} (l : BothWithout s h a b i) where
        pub checked_left : (i ≡ 0 → ⊥) → ListsChecked s w h q a b (Err 13)
        checked_left c = checked k (l.some c w)

        pub checked_fine : i ≡ 0 → ListsChecked s w h q a b (Ok tt)
        checked_fine c = checked k (l.none c w)

-- by the bracket
pub call_checked : (s w : List ℕ) (h : Held) (q bracket a m b : ℕ) (n : Result (Unit {0}) ℕ) (xs ys : List Located) → CallAt s bracket xs ys → a ≡ (token_at s bracket).end → Ends s a m → b ≡ (token_at s m).end → ListsChecked s w h q a b n
    → n ≡ answer_of (calls (program_in s w) (name_at s q) (names_of xs) (names_of ys) (context_in s w h))
call_checked s w h q bracket a m b n xs ys c p e r l =
    let o : NamesFrom s a xs c.middle = subst (λ i. NamesFrom s i xs c.middle) (sym p) c.provided in
    let v : b ≡ (token_at s c.middle).end = r ∙ ap (λ i. (token_at s i).end) (e.is xs _ o) in
    l.is xs ys _ _ o (subst (λ i. NamesFrom s i ys c.end) (sym v) c.used)
