-- The ends that signature entries give: what a body holds when it is checked, and what a process holds at start.
use Rattle.std.specs.Prelude.{ℕ, zero, suc, ◌+◌, ◌≤◌, ◌<◌, ◌≡◌, refl, List, [], ◌∷◌, ◌++◌}
use Rattle.std.proofs.Common.{sym, ◌∙◌, ap, subst}
use native.Mathlib.Omega.{arith}
use Rattle.notation.specs.Limits.{held_limit, type_term_limit}
use Rattle.read_tables.specs.Access.{EntryOf}
use Rattle.read_tables.specs.Decode.{tally_in, pair_of, entry_at}
use Rattle.read_tables.specs.Roots.{TypeIn}
use Rattle.read_tables.specs.Whole.{EntriesIn, first_entry, Tables}
use Rattle.read_tables.specs.declared.access.Labelled.{Labelled}
use Rattle.run_words.specs.Lists.{tab, All}
use Rattle.run_words.specs.ListLaws.{tab_append}
use Rattle.run_words.specs.Raw.{RawEnd, BoundedEnd, side_of}
use Rattle.run_words.specs.Values.{end_in, held_in}
use Rattle.run_words.specs.declared.records.Held.{Held}
use Rattle.check_contexts.specs.Held.{EndIn}
use Rattle.check_contexts.specs.Halves.{append-nil, append_assoc}

-- the end of the entry at a place, on a channel
abbrev pub entry_end : List ℕ → ℕ → ℕ → ℕ → RawEnd
entry_end w side i channel = record { name = (entry_at w i).0; side = side_of side; node = (entry_at w i).1; channel = channel }

-- those of n entries from the place i on, on the channels from 0 on
abbrev pub entry_ends : List ℕ → ℕ → ℕ → ℕ → List RawEnd
entry_ends w side i n = tab (λ k. entry_end w side (i + k) k) n

-- n signature entries from the place i on have places in the tables, and so have their types
pub record EntriesFit (w : List ℕ) (i n : ℕ) : Type 0 where
  pub each : (k : ℕ) → k < n → (i + k < type_term_limit) × ((entry_at w (i + k)).1 < type_term_limit)

-- with the ends of n entries more
pub record WithEntries (w : List ℕ) (h : Held) (side i n : ℕ) (r : Held) : Type 0 where
  pub is : held_in r ≡ held_in h ++ entry_ends w side i n
  pub count : r.count ≡ h.count + n

-- ── the entries of a signature
module _ (s w : List ℕ) where
  pub entry_in : (n i k : ℕ) → EntriesIn s w i n → k < n → (i + k < (tally_in w).entries) × TypeIn s w (entry_at w (i + k)).1
  entry_in zero i k a h = absurd (omega arith)
  entry_in (suc n) i zero a h =
      let e : i ≡ i + 0 = omega arith in
      let f = first_entry s w i n a in
      subst (λ j. (j < (tally_in w).entries) × TypeIn s w (entry_at w j).1) e (f.within, f.type)
  entry_in (suc n) i (suc k) a h =
      let e : i + 1 + k ≡ i + suc k = omega arith in
      subst (λ j. (j < (tally_in w).entries) × TypeIn s w (entry_at w j).1) e (entry_in n (i + 1) k (first_entry s w i n a).rest (omega arith))

  pub entries_fit : (i n : ℕ) → Tables s w → EntriesIn s w i n → EntriesFit w i n
  entries_fit i n t a = record { each = λ k h. let (b, u) = entry_in n i k a h in let c = t.within in let d = u.small in (omega arith, omega arith) }

pub entry_node : {w : List ℕ} {i n k : ℕ} {e : Labelled} → EntriesFit w i n → k < n → EntryOf w (i + k) e → e.number < type_term_limit
entry_node {k = k} f h o = omega (arith, o.holds.number, (f.each k h).1)

pub all_tab : {A : Type 0} (P : A → Type 0) (f : ℕ → A) (n : ℕ) → ((k : ℕ) → k < n → P (f k)) → All P (tab f n)
all_tab P f zero h = tt
all_tab P f (suc n) h = (h 0 (omega arith), all_tab P (λ k. f (suc k)) n (λ k l. h (suc k) (omega arith)))

-- ── their ends
module _ (w : List ℕ) (side i : ℕ) where
  pub end_bounded : (n k : ℕ) → EntriesFit w i n → n ≤ held_limit → k < n → BoundedEnd (entry_end w side (i + k) k)
  unfolding entry_at pair_of
  end_bounded n k f m h = record { name = omega arith; node = (f.each k h).1; channel = omega arith }

  -- those of a text and its tables
  pub ends_in_lem : (s : List ℕ) (n : ℕ) → Tables s w → EntriesIn s w i n → n ≤ held_limit → All (EndIn s w) (entry_ends w side i n)
  ends_in_lem s n t a m = all_tab (EndIn s w) (λ k. entry_end w side (i + k) k) n (λ k h. record { bounds = end_bounded n k (entries_fit s w i n t a) m h; type = (entry_in s w n i k a h).1 })

-- ── as far as the loop has come
module _ {w : List ℕ} {h : Held} {side i : ℕ} where
  pub entries_none : WithEntries w h side i 0 h
  entries_none = record { is = sym (append-nil (held_in h)); count = omega arith }

  pub entries_on_lem : {k : ℕ} {q r : Held} {e : Labelled} → WithEntries w h side i k q → EntryOf w (i + k) e → held_in r ≡ held_in q ++ (end_in (record { name = e.at; side = side; node = e.number; channel = k }) ∷ []) → r.count ≡ q.count + 1 → WithEntries w h side i (k + 1) r
  entries_on_lem {k} {e = e} b o g m =
      let f : ℕ → RawEnd = λ j. entry_end w side (i + j) j in
      let x : RawEnd = end_in (record { name = e.at; side = side; node = e.number; channel = k }) in
      let z : f k ≡ x = λ j. record { name = sym o.holds.at j; side = side_of side; node = sym o.holds.number j; channel = k } in
      record {
        is = g ∙ ap (λ l. l ++ (x ∷ [])) b.is ∙ append_assoc (held_in h) (entry_ends w side i k) (x ∷ []) ∙ ap (λ l. held_in h ++ l) (sym (tab_append f f k (k + 1) x (omega arith) z (λ j l. refl)));
        count = omega (arith, m, b.count);
      }

pub entries_all : {w : List ℕ} {h r : Held} {side i n k : ℕ} → WithEntries w h side i k r → k ≤ n → n ≤ k → WithEntries w h side i n r
entries_all {w} {h} {r} {side} {i} {n} {k} b l m = let e : k ≡ n = omega arith in subst (λ j. WithEntries w h side i j r) e b
