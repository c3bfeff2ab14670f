-- Laws of places that move.
use Prim.Native.Nat.{ℕ, suc, ◌+◌, ◌-◌, ◌*◌, ◌%◌, ◌≤◌, ◌<◌}
use mathlib.Core.List.{List, map}
use mathlib.Core.Path.{◌≡◌, sym, ap, subst, ◌∙◌}
use mathlib.Core.Bool.{Bool, cond}
use native.Mathlib.Omega.{arith}
use borrow.Author.Tests.{eq-eqb, ne_eqb}
use lib.Dec.{eqb}
use lib.ListN.{length, get_or, set, length-set, length-map}
use lib.Seq.{get_or-set_same, get_or-set_other}
use Rattle.notation.specs.Limits.{held_limit, process_places, outside_numbers, run_words}
use Rattle.calculus.specs.Configuration.{moved_up, moved_down}
use Rattle.run_words.specs.Lists.{All, insert_at, remove_at}
use Rattle.run_words.specs.ListLaws.{tab_same, map_tab, all_map, all_at}
use Rattle.run_words.specs.Raw.{RawProcess, RawConfig, link_of, rows, process_of, raw_in, Bounded, process_row, places_at, place_words}
use Rattle.run_words.specs.Values.{Changed, Moved, Written}
use Rattle.run_words.specs.Operations.{with_processes, moved, moved_word, relinked, inserted, removed}
use Rattle.run_words.specs.Bounds.{after, link_moved, link_word}
use Rattle.run_words.specs.RowLaws.{rows_insert, rows_remove}
use Rattle.run_words.specs.SliceLaws.{word, counted, process_at_lem, process_linked, Sixteen, sixteen, processes_local, held_few}
use Rattle.run_words.proofs.Slices.{processes_changed}

-- ── links
pub link_few : (ws : List ℕ) (j : ℕ) → Bounded (raw_in ws) → j < length (raw_in ws).processes → process_row ws j 1 ≤ process_places
link_few ws j b h =
    let l = link_word (length (raw_in ws).processes) (process_row ws j 1) (all_at _ (raw_in ws).processes j b.processes (process_at_lem ws j h)).link in
    omega (arith, b.places)

-- ── every link anew
-- the words of which each process' link is moved
abbrev pub relinked_word : Bool → ℕ → List ℕ → ℕ → ℕ
relinked_word up i ws k = cond (eqb ((k - places_at) % place_words) 1) (moved_word up i (get_or ws k 0)) (get_or ws k 0)

pub link_turned : (up : Bool) (i k b : ℕ) (ws : List ℕ) → b ≡ places_at + 1 + place_words * k → moved_word up i (get_or ws b 0) ≡ relinked_word up i ws b
link_turned up i k b ws e = rw (eq-eqb ((b - places_at) % place_words) 1 (omega arith))

pub link_kept : (up : Bool) (i k j : ℕ) (ws : List ℕ) → places_at + place_words * k ≤ j → j < places_at + place_words * (k + 1) → (j ≡ places_at + 1 + place_words * k → ⊥) → get_or ws j 0 ≡ relinked_word up i ws j
link_kept up i k j ws a b e = rw (ne_eqb ((j - places_at) % place_words) 1 (λ q. e (omega arith)))

pub relinked_words : (old new : List ℕ) (up : Bool) (i n : ℕ) → Bounded (raw_in old) → n ≡ get_or old 0 0 → Moved old new places_at (places_at + place_words * n) (relinked_word up i old)
    → Changed old new (with_processes (raw_in old) (map (relinked (moved up i)) (raw_in old).processes))
unfolding raw_in
relinked_words old new up i n b e m =
    let few : n ≤ process_places = omega (arith, b.places, counted old) in
    processes_changed old new m.long _ b.channels (λ k p q. m.below k q) (λ k p. m.above k (omega arith))
    (ap (λ j. rows process_of place_words places_at j (word new)) (m.below 0 (omega arith))
    ∙ tab_same _ _ (get_or old 0 0) (λ j l. here j (omega arith))
    ∙ sym (map_tab (relinked (moved up i)) (λ j. process_of (process_row old j)) (get_or old 0 0)))
  where
    here : (j : ℕ) → j < n → process_of (process_row new j) ≡ relinked (moved up i) (process_of (process_row old j))
    here j l =
        process_linked (process_row new j) (process_row old j) _ (held_few old j b (omega (arith, counted old)))
        (λ t c q. m.inside _ (omega arith) (omega arith) ∙ sym (link_kept up i j (places_at + place_words * j + t) old (omega arith) (omega arith) (λ z. q (omega arith))))
        (ap link_of (m.inside _ (omega arith) (omega arith) ∙ sym (link_turned up i j (places_at + place_words * j + 1) old (omega arith))) ∙ link_moved up i (get_or old (places_at + place_words * j + 1) 0))

-- ── a process more, a process less
module _ (old mid : List ℕ) (f : ℕ → ℕ) (b : Bounded (raw_in old)) (r : Changed old mid (with_processes (raw_in old) (map (relinked f) (raw_in old).processes))) where
  relinked_sixteen : Sixteen mid
  relinked_sixteen = record {
    each =
        subst (λ (C : RawConfig). All (λ p. length p.held ≤ held_limit) C.processes) (sym r.is)
        (all_map (λ p. length p.held ≤ held_limit) (λ p. length p.held ≤ held_limit) (relinked f) (λ p q. q) (raw_in old).processes (sixteen old b).each);
  }

  relinked_count : get_or mid 0 0 ≡ length (raw_in old).processes
  relinked_count = sym (counted mid) ∙ ap (λ (C : RawConfig). length C.processes) r.is ∙ length-map (raw_in old).processes (relinked f)

  relinked_outside : length (raw_in mid).outside ≤ outside_numbers
  relinked_outside = subst (λ (C : RawConfig). length C.outside ≤ outside_numbers) (sym r.is) b.channels

module _ (old mid : List ℕ) (n i : ℕ) (b : Bounded (raw_in old)) (l : run_words ≤ length old) (c : n ≡ length (raw_in old).processes) (h : i < n) where
  pub inserted_words : (top new : List ℕ) (p : RawProcess) → n < process_places → Changed old mid (with_processes (raw_in old) (map (relinked (moved_up i)) (raw_in old).processes))
      → Moved mid top (places_at + place_words + place_words * i + place_words) (places_at + place_words * n + place_words) (λ k. get_or mid (k - place_words) 0) → Written process_of place_words top new (places_at + place_words + place_words * i) p
      → Changed old (set new 0 (n + 1)) (with_processes (raw_in old) (inserted i p (raw_in old).processes))
  unfolding raw_in inserted
  inserted_words top new p few r m w =
      let last = set new 0 (n + 1) in
      let z : get_or mid 0 0 ≡ n = relinked_count old mid (moved_up i) b r ∙ sym c in
      let rest : (k : ℕ) → 1 ≤ k → get_or last k 0 ≡ get_or new k 0 = λ k a. get_or-set_other new 0 k (n + 1) 0 (omega arith) in
      let low : (k : ℕ) → 1 ≤ k → k < places_at + place_words + place_words * i → get_or last k 0 ≡ get_or mid k 0 = λ k a q. rest k a ∙ w.below k q ∙ m.below k (omega arith) in
      let long : length last ≡ length mid = length-set new 0 (n + 1) ∙ w.long ∙ m.long in
      let row : (t : ℕ) → get_or last (places_at + place_words * suc i + t) 0 ≡ get_or new (places_at + place_words + place_words * i + t) 0 =
      λ t. let e : places_at + place_words * suc i + t ≡ places_at + place_words + place_words * i + t = omega arith in rest _ (omega arith) ∙ ap (word new) e in
      after (λ C. with_processes C (insert_at (suc i) p C.processes)) r
      (processes_changed mid last long _ (relinked_outside old mid (moved_up i) b r) (λ k a q. low k a (omega arith)) (λ k a. rest k (omega arith) ∙ w.above k (omega arith) ∙ m.above k (omega arith))
      (ap (λ j. rows process_of place_words places_at j (word last)) (get_or-set_same new 0 (n + 1) 0 (omega (arith, w.long, m.long, r.long)))
      ∙ rows_insert process_of place_words places_at (word mid) (word last) (get_or mid 0 0) (processes_local mid (relinked_sixteen old mid (moved_up i) b r)) (suc i)
      (λ k a q. low k (omega arith) (omega arith)) (n + 1) p (omega arith) (omega arith) (ap process_of (λ j t. row t j) ∙ w.row)
      (λ k a q. rest k (omega arith) ∙ w.above k (omega arith) ∙ m.inside k (omega arith) (omega arith))))

  pub removed_words : (new : List ℕ) → Changed old mid (with_processes (raw_in old) (map (relinked (moved_down i)) (raw_in old).processes))
      → Moved mid new (places_at + place_words + place_words * i - place_words) (places_at + place_words * n - place_words) (λ k. get_or mid (k + place_words) 0)
      → Changed old (set new 0 (n - 1)) (with_processes (raw_in old) (removed i (raw_in old).processes))
  unfolding raw_in removed
  removed_words new r m =
      let last = set new 0 (n - 1) in
      let few : n ≤ process_places = omega (arith, b.places) in
      let z : get_or mid 0 0 ≡ n = relinked_count old mid (moved_down i) b r ∙ sym c in
      let rest : (k : ℕ) → 1 ≤ k → get_or last k 0 ≡ get_or new k 0 = λ k a. get_or-set_other new 0 k (n - 1) 0 (omega arith) in
      let low : (k : ℕ) → 1 ≤ k → k < places_at + place_words * i → get_or last k 0 ≡ get_or mid k 0 = λ k a q. rest k a ∙ m.below k (omega arith) in
      let long : length last ≡ length mid = length-set new 0 (n - 1) ∙ m.long in
      after (λ C. with_processes C (remove_at i C.processes)) r
      (processes_changed mid last long _ (relinked_outside old mid (moved_down i) b r) (λ k a q. low k a (omega arith)) (λ k a. rest k (omega arith) ∙ m.above k (omega arith))
      (ap (λ j. rows process_of place_words places_at j (word last)) (get_or-set_same new 0 (n - 1) 0 (omega (arith, m.long, r.long)))
      ∙ rows_remove process_of place_words places_at (word mid) (word last) (get_or mid 0 0) (processes_local mid (relinked_sixteen old mid (moved_down i) b r)) i
      (λ k a q. low k (omega arith) q) (n - 1) (omega arith) (omega arith) (λ k a q. rest k (omega arith) ∙ m.inside k (omega arith) (omega arith))))
