-- What the typing rule of a call asks of its two lists of names, as a walk over each meets them.
use Prim.Native.Nat.{ℕ, zero, suc, ◌+◌, ◌-◌, ◌<◌, ◌≤◌}
use Rattle.std.specs.Prelude.{◌≡◌, refl, List, [], ◌∷◌, Bool, true, not, ◌&&◌, ◌||◌, eqb}
use Rattle.std.proofs.Math.Path.{sym, ap}
use Rattle.std.proofs.Common.{◌∙◌, subst, arith}
use Rattle.std.proofs.Math.Bool.{false, cond}
use Rattle.std.specs.Prelude.{Option as CodeOption, None}
use borrow.Author.Tests.{ne_eqb}
use Rattle.notation.specs.Bytes.{same}
use Rattle.notation.specs.Limits.{held_limit}
use Rattle.notation.specs.Reader.{name_in}
use Rattle.notation.specs.Token.{name_at}
use Rattle.notation.specs.Tree.{Name, Located}
use Rattle.calculus.specs.Named.{lookup, is_some, every, any_of, distinct}
use Rattle.calculus.specs.SameType.{same_type}
use Rattle.calculus.specs.Mentions.{is_one_of}
use Rattle.calculus.specs.Program.{Slot, Context, entries}
use Rattle.calculus.specs.Program as Program
use Rattle.calculus.specs.Typing.{names_of}
use Rattle.calculus.specs.Checking.{entry_fits, list_fits, without_all}
use Rattle.run_words.specs.Raw.{side_of}
use Rattle.run_words.specs.declared.records.End.{End as EndWords}
use Rattle.run_words.specs.declared.records.Held.{Held}
use Rattle.read_tables.specs.Access.{EntryOf}
use Rattle.read_tables.specs.Decode.{entries_in}
use Rattle.read_tables.specs.Names.{argument_from, NamesFrom}
use Rattle.read_tables.specs.Program.{plain_in, program_in}
use Rattle.read_tables.specs.Whole.{EntriesIn, FirstEntry}
use Rattle.read_tables.specs.declared.access.Labelled.{Labelled}
use Rattle.read_tables.specs.declared.arguments.Argument.TheVariants as arguments
use Rattle.check_contexts.specs.Held.{channels_of, HeldIn, Sees, Drops}
use Rattle.check_contexts.specs.Walks.{Walking, walk_start, walk_on, walk_here, walk_end, Among, at_name, at_end}
use Rattle.check_terms.specs.Next.{context_in}
use Rattle.check_terms.specs.Sends.{Seen, sees_not}
use Rattle.check_terms.specs.Acting.{different_sides, equal_sides}

-- ── each name of a list passes a test, which may look at the names after it
abbrev pub every_of : (Name → List Located → Bool) → List Located → Bool
every_of T [] = true
every_of T (x ∷ xs) = cond (T x.name xs) (every_of T xs) false

-- P is what the code's test says of a name that stands at x, where the list goes on from an offset past it: it is the test T
pub record Tests (s : List ℕ) (P : ℕ → ℕ → Bool → Type 0) (T : Name → List Located → Bool) : Type 0 where
  pub is : (x past : ℕ) (b : Bool) (ys : List Located) (rest : ℕ) → P x past b → NamesFrom s past ys rest → b ≡ T (name_at s x) ys

pub record EveryName (s : List ℕ) (from : ℕ) (P : ℕ → ℕ → Bool → Type 0) (r : Bool) : Type 0 where
  pub is : (T : Name → List Located → Bool) → Tests s P T → (xs : List Located) (rest : ℕ) → NamesFrom s from xs rest → r ≡ every_of T xs

module _ {s : List ℕ} {i : ℕ} {P : ℕ → ℕ → Bool → Type 0} where
  pub every_end : {p : ℕ} → argument_from s i ≡ arguments.End p → EveryName s i P true
  every_end {p} e = record { is = λ T t xs rest n. ap (every_of T) (sym (at_end s i p xs rest e n).0) }

  module _ {x past : ℕ} (e : argument_from s i ≡ arguments.Name x past) where
    pub every_not : P x past false → EveryName s i P false
    every_not f = record {
      is = λ T t xs rest n.
          let (zs, q, o) = at_name s i x past xs rest e n in
          rw q (ap (λ b. cond b (every_of T zs) false) (t.is x past false zs rest f o));
    }

    pub every_on : P x past true → {r : Bool} → EveryName s past P r → EveryName s i P r
    every_on f u = record {
      is = λ T t xs rest n.
          let (zs, q, o) = at_name s i x past xs rest e n in
          rw q (u.is T t zs rest o ∙ ap (λ b. cond b (every_of T zs) false) (t.is x past true zs rest f o));
    }

-- ── what the code promises of a list that goes on from an offset
abbrev all_held : Context → List Located → Bool
all_held G xs = every (λ n. is_some (lookup n G)) (names_of xs)

pub record AllHeld (s : List ℕ) (h : Held) (from : ℕ) (r : Bool) : Type 0 where
  pub is : (w : List ℕ) (xs : List Located) (rest : ℕ) → NamesFrom s from xs rest → r ≡ every (λ n. is_some (lookup n (context_in s w h))) (names_of xs)

pub record Fit (s w : List ℕ) (h : Held) (from side first n : ℕ) (r : Bool) : Type 0 where
  pub is : (xs : List Located) (rest : ℕ) → NamesFrom s from xs rest → r ≡ list_fits (program_in s w) (context_in s w h) (side_of side) (names_of xs) (entries (entries_in s w first n))

pub record Distinct (s : List ℕ) (from : ℕ) (r : Bool) : Type 0 where
  pub is : (xs : List Located) (rest : ℕ) → NamesFrom s from xs rest → r ≡ distinct (names_of xs)

-- no name of the one list is in the other
abbrev pub apart : List Located → List Located → Bool
apart xs ys = every (λ n. not (is_one_of n ys)) (names_of xs)

pub record Apart (s : List ℕ) (from other : ℕ) (r : Bool) : Type 0 where
  pub is : (xs ys : List Located) (rest rest' : ℕ) → NamesFrom s from xs rest → NamesFrom s other ys rest' → r ≡ apart xs ys

pub record Without (s : List ℕ) (h : Held) (from : ℕ) (r : Held) : Type 0 where
  pub is : (w : List ℕ) (xs : List Located) (rest : ℕ) → NamesFrom s from xs rest → channels_of s w r ≡ without_all (names_of xs) (channels_of s w h)
  pub fits : (w : List ℕ) → HeldIn s w h → HeldIn s w r
  pub many : r.count ≤ held_limit

-- ── by the code's test of each name
every_held : (G : Context) (xs : List Located) → every_of (λ n ys. is_some (lookup n G)) xs ≡ all_held G xs
every_held G [] = refl
every_held G (x ∷ xs) = ap (λ b. cond (is_some (lookup x.name G)) b false) (every_held G xs)

pub any_is : (n : Name) (xs : List Located) → any_of (same n) (names_of xs) ≡ is_one_of n xs
any_is n [] = refl
any_is n (x ∷ xs) = go (same n x.name) (any_is n xs)
  where
    go : (b : Bool) → any_of (same n) (names_of xs) ≡ is_one_of n xs → cond b true (any_of (same n) (names_of xs)) ≡ b || is_one_of n xs
    go true h = refl
    go false h = h

every_distinct : (xs : List Located) → every_of (λ n ys. not (is_one_of n ys)) xs ≡ distinct (names_of xs)
unfolding distinct
every_distinct [] = refl
every_distinct (x ∷ xs) =
    ap (λ b. cond (not (is_one_of x.name xs)) b false) (every_distinct xs)
    ∙ one (is_one_of x.name xs) (distinct (names_of xs))
    ∙ ap (λ b. cond b false (distinct (names_of xs))) (sym (any_is x.name xs))
  where
    one : (b d : Bool) → cond (not b) d false ≡ cond b false d
    one true d = refl
    one false d = refl

every_apart : (ys xs : List Located) → every_of (λ n zs. not (is_one_of n ys)) xs ≡ apart xs ys
every_apart ys [] = refl
every_apart ys (x ∷ xs) = ap (λ b. cond (not (is_one_of x.name ys)) b false) (every_apart ys xs)

-- a name that is not among others
pub not_among : (s : List ℕ) (past : ℕ) (n : Name) (b c : Bool) (ys : List Located) (rest : ℕ) → NamesFrom s past ys rest → Among s past n c → b ≡ not c → b ≡ not (is_one_of n ys)
not_among s past n b c ys rest o a e = e ∙ ap not (a.is ys rest o)

module _ {s : List ℕ} {from : ℕ} {P : ℕ → ℕ → Bool → Type 0} {r : Bool} (u : EveryName s from P r) where
  pub held_by_name : {h : Held} → ((w : List ℕ) → Tests s P (λ n ys. is_some (lookup n (context_in s w h)))) → AllHeld s h from r
  held_by_name {h} t = record { is = λ w xs rest n. u.is _ (t w) xs rest n ∙ every_held (context_in s w h) xs }

  pub distinct_by_name : Tests s P (λ n ys. not (is_one_of n ys)) → Distinct s from r
  distinct_by_name t = record { is = λ xs rest n. u.is _ t xs rest n ∙ every_distinct xs }

  pub apart_by_name : {other : ℕ} → ((ys : List Located) (rest : ℕ) → NamesFrom s other ys rest → Tests s P (λ n zs. not (is_one_of n ys))) → Apart s from other r
  apart_by_name t = record { is = λ xs ys rest rest' n m. u.is _ (t ys rest' m) xs rest n ∙ every_apart ys xs }

-- ── what is left
module _ (s : List ℕ) (h : Held) where
  abbrev pub LeftSoFar : Held → List Located → List Located → Type 0
  LeftSoFar r xs ys = (w : List ℕ) → without_all (names_of xs) (channels_of s w h) ≡ without_all (names_of ys) (channels_of s w r)

  pub record Dropping (from i : ℕ) (r : Held) : Type 0 where
    pub walk : Walking s from i (LeftSoFar r)
    pub fits : (w : List ℕ) → HeldIn s w h → HeldIn s w r
    pub many : r.count ≤ held_limit

  pub drop_start : (i : ℕ) → h.count ≤ held_limit → Dropping i i h
  drop_start i m = record { walk = walk_start s i (LeftSoFar h) (λ xs w. refl); fits = λ w t. t; many = m }

  pub drop_on : (from i : ℕ) (r : Held) → Dropping from i r → (a p : ℕ) → argument_from s i ≡ arguments.Name a p → (l : Held) → Drops s r a l → l.count ≤ held_limit → Dropping from p l
  unfolding without_all
  drop_on from i r t a p e l d m = record {
    walk = walk_on t.walk a p (LeftSoFar l) e (λ xs ys rest o q w. q w ∙ ap (without_all (names_of ys)) (sym (d.is w)));
    fits = λ w u. d.fits w (t.fits w u);
    many = m;
  }

  pub drop_end : (from i : ℕ) (r : Held) → Dropping from i r → (p : ℕ) → argument_from s i ≡ arguments.End p → Without s h from r
  unfolding without_all
  drop_end from i r t p e = record { is = λ w xs rest n. sym ((walk_end t.walk p e xs rest n).1 w); fits = t.fits; many = t.many }

-- ── in number, side and type
module _ (s w : List ℕ) (h : Held) (from side first n : ℕ) where
  abbrev fits_by : List Located → ℕ → ℕ → Bool
  fits_by xs k m = list_fits (program_in s w) (context_in s w h) (side_of side) (names_of xs) (entries (entries_in s w k m))

  abbrev FitSoFar : ℕ → ℕ → List Located → List Located → Type 0
  FitSoFar k m xs ys = fits_by xs first n ≡ fits_by ys k m

  pub record Fitting (i k m : ℕ) : Type 0 where
    pub walk : Walking s from i (FitSoFar k m)
    pub entries : EntriesIn s w k m

  pub fit_start : EntriesIn s w first n → Fitting from first n
  fit_start u = record { walk = walk_start s from (FitSoFar first n) (λ xs. refl); entries = u }

  -- the names are at an end
  pub fit_end : (i k m : ℕ) → Fitting i k m → (p : ℕ) → argument_from s i ≡ arguments.End p → Fit s w h from side first n (eqb m 0)
  unfolding list_fits entries_in
  fit_end i k zero t p e = record { is = λ xs rest o. sym (walk_end t.walk p e xs rest o).1 }
  fit_end i k (suc m) t p e = record { is = λ xs rest o. ne_eqb (suc m) 0 (λ z. omega arith) ∙ sym (walk_end t.walk p e xs rest o).1 }

  -- there is a name more than entries
  pub fit_short : (i k m : ℕ) → Fitting i k m → (a p : ℕ) → argument_from s i ≡ arguments.Name a p → m ≡ 0 → Fit s w h from side first n false
  unfolding list_fits entries_in
  fit_short i k zero t a p e z = record { is = λ xs rest o. sym (walk_here t.walk a p e xs rest o).2 }
  fit_short i k (suc m) t a p e z = absurd (omega arith)

  some_entry : (k m : ℕ) → (m ≡ 0 → ⊥) → EntriesIn s w k m → EntriesIn s w k (suc (m - 1))
  some_entry k m z u = let q : m ≡ suc (m - 1) = omega (arith, z) in subst (EntriesIn s w k) q u

  module _ (i k m : ℕ) (t : Fitting i k m) (z : m ≡ 0 → ⊥) where
    pub entries_left : EntriesIn s w k (suc (m - 1))
    entries_left = some_entry k m z t.entries

    module _ (l : Labelled) (g : EntryOf w k l) (a p : ℕ) (e : argument_from s i ≡ arguments.Name a p) where
      entry_first : FirstEntry s w k (m - 1) l.at l.number
      entry_first = g.says s (m - 1) entries_left

      abbrev fit? : Bool
      fit? = entry_fits (program_in s w) (side_of side) (plain_in s w l.number) (lookup (name_at s a) (context_in s w h))

      first_fits : (b : Bool) → fit? ≡ b → (ys : List Located) → fits_by (name_in s a ∷ ys) k m ≡ b && fits_by ys (k + 1) (m - 1)
      unfolding list_fits
      first_fits b q ys =
          let y : m ≡ suc (m - 1) = omega (arith, z) in
          ap (λ j. fits_by (name_in s a ∷ ys) k j) y
          ∙ ap (λ es. list_fits (program_in s w) (context_in s w h) (side_of side) (names_of (name_in s a ∷ ys)) (Program.entries es)) entry_first.is
          ∙ ap (λ c. c && fits_by ys (k + 1) (m - 1)) q

      pub fit_on : (k' m' : ℕ) → k' ≡ k + 1 → m' ≡ m - 1 → fit? ≡ true → Fitting p k' m'
      fit_on k' m' u v q = rw (u, v) (record { walk = walk_on t.walk a p (FitSoFar (k + 1) (m - 1)) e (λ xs ys rest o r. r ∙ first_fits true q ys); entries = entry_first.rest })

      pub fit_not : fit? ≡ false → Fit s w h from side first n false
      fit_not q = record { is = λ xs rest o. let (zs, o', r) = walk_here t.walk a p e xs rest o in sym (r ∙ first_fits false q zs) }

-- one entry
module _ {s : List ℕ} (w : List ℕ) {h : Held} {at : ℕ} (side node : ℕ) (b : side < 2) where
  pub entry_absent : {r : CodeOption EndWords} → Sees s h at r → r ≡ None → false ≡ entry_fits (program_in s w) (side_of side) (plain_in s w node) (lookup (name_at s at) (context_in s w h))
  entry_absent f z = sym (ap (entry_fits (program_in s w) (side_of side) (plain_in s w node)) (sees_not w f z))

  module _ {e : EndWords} (f : Seen s w h at e) where
    pub entry_other : (e.side ≡ side → ⊥) → false ≡ entry_fits (program_in s w) (side_of side) (plain_in s w node) (lookup (name_at s at) (context_in s w h))
    entry_other n =
        sym (ap (entry_fits (program_in s w) (side_of side) (plain_in s w node)) f.is ∙ ap (λ x. x && same_type (program_in s w).types (plain_in s w e.node) (plain_in s w node)) (different_sides e.side side f.side b n))

    pub entry_so : {r : Bool} {i : ℕ} → e.side ≡ side → i ≡ e.node → r ≡ same_type (program_in s w).types (plain_in s w i) (plain_in s w node)
        → r ≡ entry_fits (program_in s w) (side_of side) (plain_in s w node) (lookup (name_at s at) (context_in s w h))
    entry_so n z q =
        q
        ∙ ap (λ i. same_type (program_in s w).types (plain_in s w i) (plain_in s w node)) z
        ∙ sym (ap (entry_fits (program_in s w) (side_of side) (plain_in s w node)) f.is ∙ ap (λ x. x && same_type (program_in s w).types (plain_in s w e.node) (plain_in s w node)) (equal_sides e.side side f.side b n))
