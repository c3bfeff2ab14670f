-- Lists of names in the tables, by number, and which of them repeat one before.
use Prim.Native.Nat.{ℕ, zero, suc, ◌+◌, ◌-◌, ◌<◌, ◌≤◌}
use Rattle.std.specs.Prelude.{◌≡◌, ◌⊎◌, ◌≢◌, Bool}
use Rattle.std.proofs.Math.Path.{refl, sym, ap}
use Rattle.std.proofs.Common.{◌∙◌, subst, inl, inr, add-one}
use mathlib.Core.List.{List, [], ◌∷◌, ◌++◌}
use Rattle.std.proofs.Math.Bool.{true, false, cond, So}
use native.Mathlib.Omega.{arith}
use Rattle.notation.specs.Bytes.{same}
use Rattle.notation.specs.Token.{name_at}
use Rattle.notation.specs.Tree.{Name, Located}
use Rattle.notation.specs.Reader.{name_in, label_in}
use Rattle.notation.specs.Tables.{branch_room}
use Rattle.notation.specs.Limits.{process_limit, type_limit, type_term_limit}
use Rattle.calculus.specs.Declarations.{repeats}
use Rattle.calculus.specs.Named.{any_of}
use Rattle.theory_derivations.specs.Equality.{same_cases}
use Rattle.read_tables.specs.Access.{TypeOf, SignatureOf, EntryOf, AlternativeOf, BranchOf}
use Rattle.read_tables.specs.declared.access.Labelled.{Labelled}
use Rattle.notation.specs.declared.reading.ProcessEntry.{ProcessEntry}
use Rattle.read_tables.specs.Decode.{type_at, process_at, entry_at, alternative_at, branch_at, numbered}
use Rattle.check_declarations.specs.declared.names.Names.{Names}
use Rattle.check_declarations.specs.declared.names.Names.TheVariants.{Types, Processes, Entries, Alternatives, Branches}
use Rattle.check_declarations.specs.declared.names.Place.{Place}
use Rattle.check_declarations.specs.Lowest.{Lowest, over, Lowered, lowered_as, lowered_none}

-- the name k of a list
abbrev pub name_of : List ℕ → List ℕ → Names → ℕ → Located
name_of s w Types k = name_in s (type_at w k).0
name_of s w Processes k = name_in s (process_at w k).at
name_of s w (Entries i) k = name_in s (entry_at w (i + k)).0
name_of s w (Alternatives e) k = label_in s (alternative_at w (e - k - 1)).0
name_of s w (Branches e) k = label_in s (branch_at w (e - k - 1)).0

-- the tables have n names in a list
abbrev pub Fits : Names → ℕ → Type 0
Fits Types n = n ≤ type_limit
Fits Processes n = n ≤ process_limit
Fits (Entries i) n = 0 < n → i + n ≤ type_term_limit
Fits (Alternatives e) n = (n ≤ e) × (e ≤ type_term_limit)
Fits (Branches e) n = (n ≤ e) × (e ≤ branch_room)

-- the name k of a list stands at r
pub record StandsAt (w : List ℕ) (names : Names) (k : ℕ) (r : Place) : Type 0 where
  pub is : (s : List ℕ) → name_of s w names k ≡ record { at = r.at; name = name_at s r.letter }

-- two of its names compared
pub compared : (s : List ℕ) {w : List ℕ} {names : Names} {j k : ℕ} {a b : Place} {r : Bool} → StandsAt w names j a → StandsAt w names k b → r ≡ same (name_at s a.letter) (name_at s b.letter) → r ≡ same (name_of s w names j).name (name_of s w names k).name
compared s p q e = e ∙ (λ i. same (sym (p.is s) i).name (sym (q.is s) i).name)

-- ── a name comes among the first k
unfoldable pub seen_below : (ℕ → Located) → Name → ℕ → Bool
seen_below f x zero = false
seen_below f x (suc k) = cond (same x (f k).name) true (seen_below f x k)

-- the offset of the name k where it repeats one before
unfoldable pub repeat_at : (ℕ → Located) → ℕ → List ℕ
repeat_at f k = cond (seen_below f (f k).name k) ((f k).at ∷ []) []

module _ (f : ℕ → Located) where
  -- the names before i are those of the list
  abbrev pub Seen : List Name → ℕ → Type 0
  Seen before i = (x : Name) → any_of (same x) before ≡ seen_below f x i

  seen_more : (i : ℕ) (x : Name) → seen_below f x (i + 1) ≡ cond (same x (f i).name) true (seen_below f x i)
  unfolding seen_below
  seen_more i x = ap (seen_below f x) (add-one i)

  -- a new name joins them; one that they have need not
  seen_new : (before : List Name) (i : ℕ) → Seen before i → Seen ((f i).name ∷ before) (i + 1)
  seen_new before i h x = ap (cond (same x (f i).name) true) (h x) ∙ sym (seen_more i x)

  seen_again : (before : List Name) (i : ℕ) → Seen before i → seen_below f (f i).name i ≡ true → Seen before (i + 1)
  seen_again before i h t x = h x ∙ go (same_cases x (f i).name) ∙ sym (seen_more i x)
    where
      go : (So (same x (f i).name) × (x ≡ (f i).name)) ⊎ ((same x (f i).name ≡ false) × (x ≢ (f i).name)) → seen_below f x i ≡ cond (same x (f i).name) true (seen_below f x i)
      go (inl (a, e)) = ap (λ y. seen_below f y i) e ∙ t ∙ ap (λ b. cond b true (seen_below f x i)) (sym a)
      go (inr (a, e)) = ap (λ b. cond b true (seen_below f x i)) (sym a)

  pub repeats_over : (n i : ℕ) (before : List Name) → Seen before i → over (repeat_at f) i n ≡ repeats before (numbered f i n)
  unfolding repeats repeat_at
  repeats_over zero i before h = refl
  repeats_over (suc n) i before h =
      go (seen_below f (f i).name i) (λ e. repeats_over n (i + 1) before (seen_again before i h e)) (repeats_over n (i + 1) ((f i).name ∷ before) (seen_new before i h)) (h (f i).name)
    where
      go : (b : Bool)
          → (b ≡ true → over (repeat_at f) (i + 1) n ≡ repeats before (numbered f (i + 1) n))
          → over (repeat_at f) (i + 1) n ≡ repeats ((f i).name ∷ before) (numbered f (i + 1) n)
          → any_of (same (f i).name) before ≡ b
          → cond b ((f i).at ∷ []) [] ++ over (repeat_at f) (i + 1) n ≡ repeats before (numbered f i (suc n))
      go true r q e = rw e (ap (◌∷◌ (f i).at) (r refl))
      go false r q e = rw e q

  -- the name j, as it was seen before or not
  module _ (j : ℕ) {b : Bool} (e : b ≡ seen_below f (f j).name j) {l : Lowest} where
    pub repeat_seen : {at : ℕ} {k : Lowest} → b ≡ true → at ≡ (f j).at → Lowered l (at ∷ []) k → Lowered l (repeat_at f j) k
    unfolding repeat_at
    repeat_seen t q = lowered_as (rw (sym e ∙ t) (ap (λ a. a ∷ []) q))

    pub repeat_new : b ≡ false → Lowered l (repeat_at f j) l
    unfolding repeat_at
    repeat_new t = lowered_as (rw (sym e ∙ t) refl) lowered_none

-- ── a search for x among the first j names that has come down to k
pub record Seeking (f : ℕ → Located) (x : Name) (j k : ℕ) : Type 0 where
  pub upto : k ≤ j
  pub rest : seen_below f x j ≡ seen_below f x k

module _ {f : ℕ → Located} {x : Name} {j : ℕ} where
  pub seek_start : Seeking f x j j
  seek_start = record { upto = omega arith; rest = refl }

  pub seek_end : {k : ℕ} → Seeking f x j k → k ≤ 0 → false ≡ seen_below f x j
  unfolding seen_below
  seek_end {k} t h = let z : k ≡ 0 = omega arith in sym (t.rest ∙ ap (seen_below f x) z)

  module _ {k : ℕ} (t : Seeking f x j k) (h : 0 < k) {r : Bool} (e : r ≡ same x (f (k - 1)).name) where
    one_less : {b : Bool} → r ≡ b → seen_below f x j ≡ cond b true (seen_below f x (k - 1))
    unfolding seen_below
    one_less q =
        let z : k ≡ suc (k - 1) = omega arith in
        t.rest ∙ ap (seen_below f x) z ∙ ap (λ y. cond y true (seen_below f x (k - 1))) (sym e ∙ q)

    pub seek_found : r ≡ true → true ≡ seen_below f x j
    seek_found q = sym (one_less q)

    pub seek_on : r ≡ false → Seeking f x j (k - 1)
    seek_on q = let b = t.upto in record { upto = omega arith; rest = one_less q }

-- ── where the names of a list stand
module _ (k : ℕ) {names : Names} (f : Fits names (k + 1)) where
  abbrev fits_as : (m : Names) → names ≡ m → Fits m (k + 1)
  fits_as m e = subst (λ (l : Names). Fits l (k + 1)) e f

  pub fits_types : names ≡ Types → k < type_limit
  fits_types e = let g = fits_as Types e in omega arith

  pub fits_processes : names ≡ Processes → k < process_limit
  fits_processes e = let g = fits_as Processes e in omega arith

  pub fits_entries : {i : ℕ} → names ≡ Entries i → i + k < type_term_limit
  fits_entries {i} e = let g = fits_as (Entries i) e (omega arith) in omega arith

  pub fits_alternatives : {e : ℕ} → names ≡ Alternatives e → (k ≤ e) × (1 ≤ e - k) × (e - k ≤ type_term_limit)
  fits_alternatives {e} q = let (a, b) = fits_as (Alternatives e) q in (omega arith, omega arith, omega arith)

  pub fits_branches : {e : ℕ} → names ≡ Branches e → (k ≤ e) × (1 ≤ e - k) × (e - k ≤ branch_room)
  fits_branches {e} q = let (a, b) = fits_as (Branches e) q in (omega arith, omega arith, omega arith)

-- a list that fits has fewer names too
pub fits_less : (names : Names) (m n : ℕ) → m ≤ n → Fits names n → Fits names m
fits_less Types m n h f = omega arith
fits_less Processes m n h f = omega arith
fits_less (Entries i) m n h f = λ p. let g = f (omega arith) in omega arith
fits_less (Alternatives e) m n h (f, g) = (omega arith, g)
fits_less (Branches e) m n h (f, g) = (omega arith, g)

module _ {w : List ℕ} {names : Names} {k : ℕ} {r : Place} where
  -- a name or a label at o, whose entry says a
  name_stands : {o a : ℕ} → ((s : List ℕ) → name_of s w names k ≡ name_in s o) → a ≡ o → (r.at ≡ a) × (r.letter ≡ a) → StandsAt w names k r
  name_stands q e (x, y) = record { is = λ s. q s ∙ (λ j. record { at = sym (x ∙ e) j; name = name_at s (sym (y ∙ e) j) }) }

  label_stands : {o a : ℕ} → ((s : List ℕ) → name_of s w names k ≡ label_in s o) → a ≡ o → (r.at ≡ a) × (r.letter ≡ a + 1) → StandsAt w names k r
  label_stands q e (x, y) = record { is = λ s. q s ∙ (λ j. record { at = sym (x ∙ e) j; name = name_at s (sym (y ∙ ap (λ m. m + 1) e) j) }) }

  pub type_stands : {t : Labelled} → names ≡ Types → TypeOf w k t → (r.at ≡ t.at) × (r.letter ≡ t.at) → StandsAt w names k r
  type_stands e o = name_stands (λ s. ap (λ (m : Names). name_of s w m k) e) o.holds.at

  pub process_stands : {d : ProcessEntry} → names ≡ Processes → SignatureOf w k d → (r.at ≡ d.at) × (r.letter ≡ d.at) → StandsAt w names k r
  process_stands e o = name_stands (λ s. ap (λ (m : Names). name_of s w m k) e) (λ j. (o.holds j).at)

  pub entry_stands : {i : ℕ} {t : Labelled} → names ≡ Entries i → EntryOf w (i + k) t → (r.at ≡ t.at) × (r.letter ≡ t.at) → StandsAt w names k r
  entry_stands e o = name_stands (λ s. ap (λ (m : Names). name_of s w m k) e) o.holds.at

  pub alternative_stands : {e : ℕ} {t : Labelled} → names ≡ Alternatives e → AlternativeOf w (e - k) t → (r.at ≡ t.at) × (r.letter ≡ t.at + 1) → StandsAt w names k r
  alternative_stands q o = label_stands (λ s. ap (λ (m : Names). name_of s w m k) q) o.holds.at

  pub branch_stands : {e : ℕ} {t : Labelled} → names ≡ Branches e → BranchOf w (e - k) t → (r.at ≡ t.at) × (r.letter ≡ t.at + 1) → StandsAt w names k r
  branch_stands q o = label_stands (λ s. ap (λ (m : Names). name_of s w m k) q) o.holds.at
