-- From the words of a slice to its configuration: words that agree of a run are one configuration.
use Rattle.std.specs.Prelude.{ℕ, ◌+◌, ◌*◌, ◌/◌, ◌%◌, ◌≤◌, ◌<◌, List, ◌≡◌, refl, length, get_or, take}
use Rattle.std.proofs.Common.{sym, ap, ◌∙◌, arith, get_or-take}
use Rattle.std.proofs.Math.Option.{Option, some}
use Rattle.std.proofs.Math.ListN.{get_elem?}
use Rattle.notation.specs.Limits.{held_limit, outside_numbers, run_words}
use Rattle.run_words.specs.Lists.{All}
use Rattle.run_words.specs.ListLaws.{length_tab, at_tab, tab_same, all_at, all_weaken}
use Rattle.run_words.specs.Raw.{RawProcess, RawOutside, outsides_at, outside_words, places_at, place_words, ends_from, end_words, held_words, kind_radix, linked_to, link_of, rows, end_of, process_of, outside_of, raw_in, process_row, held_count, Bounded}
use Rattle.run_words.specs.RowLaws.{Local, end_of_lem, outside_local, rows_same}

abbrev pub word : List ℕ → ℕ → ℕ
word ws k = get_or ws k 0

-- ── a process from its words
pub ends_moved : (a b n : ℕ) (v w : ℕ → ℕ) → n ≤ held_limit → ((k : ℕ) → k < held_words → v (a + k) ≡ w (b + k)) → rows end_of end_words a n v ≡ rows end_of end_words b n w
ends_moved a b n v w h e = tab_same _ _ n (λ k l. end_of_lem (λ t. v (a + 2 * k + t)) (here k 0 (omega arith)) (here k 1 (omega arith)))
  where
    here : (k t : ℕ) → 2 * k + t < held_words → v (a + 2 * k + t) ≡ w (b + 2 * k + t)
    here k t l =
        let x : a + 2 * k + t ≡ a + (2 * k + t) = omega arith in
        let y : b + (2 * k + t) ≡ b + 2 * k + t = omega arith in
        ap v x ∙ e (2 * k + t) l ∙ ap w y

-- words that agree but for the link
pub process_linked : (v w : ℕ → ℕ) (o : Option ℕ) → w 2 ≤ held_limit → ((t : ℕ) → t < place_words → (t ≡ 1 → ⊥) → v t ≡ w t) → link_of (v 1) ≡ o
    → process_of v ≡ linked_to o (process_of w)
process_linked v w o h e q =
    let p = e 0 (omega arith) (λ z. omega arith) in
    let r = e 2 (omega arith) (λ z. omega arith) in
    let held : rows end_of end_words ends_from (v 2) v ≡ rows end_of end_words ends_from (w 2) w = ap (λ m. rows end_of end_words ends_from m v) r ∙ ends_moved 3 3 (w 2) v w h (λ k l. e (3 + k) (omega arith) (λ z. omega arith)) in
    λ i. record { kind = p i % kind_radix; pointer = p i / kind_radix; held = held i; link = q i }

process_local : (w : ℕ → ℕ) → w 2 ≤ held_limit → Local process_of place_words w
process_local w h = record { same = λ v e. process_linked v w (link_of (w 1)) h (λ t l q. e t l) (ap link_of (e 1 (omega arith))) }

-- ── the configuration of a slice
pub counted : (ws : List ℕ) → length (raw_in ws).processes ≡ get_or ws 0 0
unfolding raw_in
counted ws = length_tab _ (get_or ws 0 0)

pub counted_outside : (ws : List ℕ) → length (raw_in ws).outside ≡ get_or ws 2 0
unfolding raw_in
counted_outside ws = length_tab _ (get_or ws 2 0)

pub numbered : (ws : List ℕ) → (raw_in ws).given ≡ get_or ws 1 0
unfolding raw_in
numbered ws = refl

pub halted_word : (ws : List ℕ) → (raw_in ws).halted ≡ get_or ws 3 0
unfolding raw_in
halted_word ws = refl

pub process_at_lem : (ws : List ℕ) (i : ℕ) → i < length (raw_in ws).processes → get_elem? (raw_in ws).processes i ≡ some (process_of (process_row ws i))
unfolding raw_in
process_at_lem ws i h = at_tab _ (get_or ws 0 0) i (omega (arith, counted ws))

-- a process holds as many as its count says
held_count_lem : (ws : List ℕ) (i : ℕ) (n : ℕ) → All (λ p. length p.held ≤ n) (raw_in ws).processes → i < get_or ws 0 0 → process_row ws i 2 ≤ n
held_count_lem ws i n a h =
    let b = all_at _ (raw_in ws).processes i a (process_at_lem ws i (omega (arith, counted ws))) in
    omega (arith, b, length_tab (λ k. end_of (λ t. process_row ws i (3 + 2 * k + t))) (process_row ws i 2))

pub record Sixteen (ws : List ℕ) : Type 0 where
  pub each : All (λ p. length p.held ≤ held_limit) (raw_in ws).processes

pub processes_local : (ws : List ℕ) → Sixteen ws → (j : ℕ) → j < get_or ws 0 0 → Local process_of place_words (process_row ws j)
processes_local ws s j h = process_local (process_row ws j) (held_count_lem ws j held_limit s.each h)

pub sixteen : (ws : List ℕ) → Bounded (raw_in ws) → Sixteen ws
sixteen ws b = record { each = all_weaken _ _ (λ p q. q.many) (raw_in ws).processes b.processes }

pub held_few : (ws : List ℕ) (i : ℕ) → Bounded (raw_in ws) → i < length (raw_in ws).processes → held_count ws i ≤ held_limit
held_few ws i b h = held_count_lem ws i held_limit (sixteen ws b).each (omega (arith, counted ws))

-- ── words that agree of a run
-- of its processes; of the outside's channels; of all
abbrev pub processes_by : List ℕ → List RawProcess
processes_by ws = rows process_of place_words places_at (get_or ws 0 0) (word ws)

abbrev pub outsides_by : List ℕ → List RawOutside
outsides_by ws = rows outside_of outside_words outsides_at (get_or ws 2 0) (word ws)

module _ (old new : List ℕ) where
  pub processes_same : Bounded (raw_in old) → get_or new 0 0 ≡ get_or old 0 0 → ((k : ℕ) → places_at ≤ k → k < run_words → get_or new k 0 ≡ get_or old k 0) → processes_by new ≡ processes_by old
  processes_same b z e =
      ap (λ n. rows process_of place_words places_at n (word new)) z
      ∙ rows_same process_of place_words places_at (word old) (word new) (get_or old 0 0) (processes_local old (sixteen old b)) (λ k x y. e k x (omega (arith, b.places, counted old)))

  pub outsides_same : length (raw_in old).outside ≤ outside_numbers → get_or new 2 0 ≡ get_or old 2 0 → ((k : ℕ) → outsides_at ≤ k → k < places_at → get_or new k 0 ≡ get_or old k 0) → outsides_by new ≡ outsides_by old
  outsides_same c z e =
      ap (λ n. rows outside_of outside_words outsides_at n (word new)) z
      ∙ rows_same outside_of outside_words outsides_at (word old) (word new) (get_or old 2 0) (λ j l. outside_local _) (λ k x y. e k x (omega (arith, counted_outside old)))

pub raw_same : (old new : List ℕ) → Bounded (raw_in old) → ((k : ℕ) → k < run_words → get_or new k 0 ≡ get_or old k 0) → raw_in new ≡ raw_in old
unfolding raw_in
raw_same old new b e =
    let p = processes_same old new b (e 0 (omega arith)) (λ k _ y. e k y) in
    let o = outsides_same old new b.channels (e 2 (omega arith)) (λ k _ y. e k (omega arith)) in
    let g : get_or new 1 0 ≡ get_or old 1 0 = e 1 (omega arith) in
    let h : get_or new 3 0 ≡ get_or old 3 0 = e 3 (omega arith) in
    λ i. record { processes = p i; outside = o i; given = g i; halted = h i }

-- what lies past them is not read
pub raw_taken : (ws : List ℕ) → Bounded (raw_in ws) → raw_in (take run_words ws) ≡ raw_in ws
raw_taken ws b = raw_same ws (take run_words ws) b (λ k h. get_or-take run_words ws k 0 h)

pub raw_of_taken : (ws : List ℕ) → Bounded (raw_in (take run_words ws)) → raw_in ws ≡ raw_in (take run_words ws)
raw_of_taken ws b = raw_same (take run_words ws) ws b (λ k h. sym (get_or-take run_words ws k 0 h))
