-- The words of a slice, stored, and its configuration.
use Prim.Native.Nat.{ℕ, ◌+◌, ◌-◌, ◌*◌, ◌/◌, ◌%◌, ◌≤◌, ◌<◌}
use mathlib.Core.List.{List, [], ◌∷◌}
use mathlib.Core.Path.{◌≡◌, refl, sym, ap, ◌∙◌}
use mathlib.Core.Option.{some}
use native.Mathlib.Omega.{arith}
use lib.ListN.{length, get_or, get_elem?, set, drop, length-set}
use lib.Seq.{get_or-set_same, get_or-set_other, get_or-drop}
use Rattle.notation.specs.Limits.{held_limit, process_places, outside_numbers, run_words}
use Rattle.run_words.specs.ListLaws.{all_at}
use Rattle.run_words.specs.Raw.{RawProcess, RawOutside, link_of, rows, end_of, process_of, outside_of, raw_in, BoundedProcess, Bounded, process_row, held_count, outsides_at, outside_words, places_at, place_words, held_words}
use Rattle.run_words.specs.Values.{held_in, process_in, value_of, Changed, Moved, Written}
use Rattle.run_words.specs.Operations.{single, with_processes, with_outside, with_given, with_halted}
use Rattle.run_words.specs.RowLaws.{rows_set}
use Rattle.run_words.specs.SliceLaws.{word, ends_moved, counted, process_at_lem, processes_local, sixteen, processes_by, outsides_by, processes_same, outsides_same}
use Rattle.run_words.proofs.Rows.{drop_same}
use Rattle.run_words.proofs.Ends.{ends}

-- ── a process from its words
pub process_of_lem : (w : ℕ → ℕ) (doing link n : ℕ) (hs : List ℕ) → w 0 ≡ doing → w 1 ≡ link → w 2 ≡ n → n ≤ held_limit → ((k : ℕ) → k < held_words → w (3 + k) ≡ get_or hs k 0)
    → process_of w ≡ record { kind = doing % 4; pointer = doing / 4; held = ends hs n; link = link_of link }
process_of_lem w doing link n hs p q r h e =
    let held : rows end_of 2 3 (w 2) w ≡ ends hs n =
    ap (λ m. rows end_of 2 3 m w) r ∙ ends_moved 3 0 n w (word hs) h (λ k l. e k l ∙ let z : k ≡ 0 + k = omega arith in ap (word hs) z) in
    λ i. record { kind = p i % 4; pointer = p i / 4; held = held i; link = link_of (q i) }

pub value_is : (ws : List ℕ) (i : ℕ) → held_count ws i ≤ held_limit → process_of (process_row ws i) ≡ process_in (value_of ws i)
unfolding held_in
value_is ws i h =
    let b = places_at + place_words * i in
    process_of_lem (process_row ws i) (process_row ws i 0) (process_row ws i 1) (process_row ws i 2) (drop (b + 3) ws) refl refl refl h (λ k l.
    let e : b + (3 + k) ≡ b + 3 + k = omega arith in
    ap (word ws) e ∙ sym (get_or-drop (b + 3) ws k 0))

-- ── the words of a process, stored
pub written : (old : List ℕ) (b kind pointer link n : ℕ) (hs new : List ℕ) → b + place_words ≤ length old → kind < 4 → n ≤ held_limit
    → Moved (set (set (set old b (pointer * 4 + kind)) (b + 1) link) (b + 2) n) new (b + 3) (b + 3 + held_words) (λ k. get_or hs (k - (b + 3)) 0)
    → Written process_of place_words old new b (record { kind = kind; pointer = pointer; held = ends hs n; link = link_of link })
written old b kind pointer link n hs new h d s m =
    let doing = pointer * 4 + kind in
    let o1 = set old b doing in
    let o2 = set o1 (b + 1) link in
    let o3 = set o2 (b + 2) n in
    let l1 : length o1 ≡ length old = length-set old b doing in
    let l2 : length o2 ≡ length o1 = length-set o1 (b + 1) link in
    let l3 : length o3 ≡ length o2 = length-set o2 (b + 2) n in
    let other : (k : ℕ) → (k ≡ b → ⊥) → (k ≡ b + 1 → ⊥) → (k ≡ b + 2 → ⊥) → get_or o3 k 0 ≡ get_or old k 0 =
    λ k x y z. get_or-set_other o2 (b + 2) k n 0 z ∙ get_or-set_other o1 (b + 1) k link 0 y ∙ get_or-set_other old b k doing 0 x in
    let e : b + 0 ≡ b = omega arith in
    let p : doing % 4 ≡ kind = omega arith in
    let q : doing / 4 ≡ pointer = omega arith in
    record {
      long = m.long ∙ l3 ∙ l2 ∙ l1;
      row =
          process_of_lem (λ t. get_or new (b + t) 0) doing link n hs
          (ap (word new) e ∙ m.below b (omega arith) ∙ get_or-set_other o2 (b + 2) b n 0 (omega arith) ∙ get_or-set_other o1 (b + 1) b link 0 (omega arith) ∙ get_or-set_same old b doing 0 (omega arith))
          (m.below (b + 1) (omega arith) ∙ get_or-set_other o2 (b + 2) (b + 1) n 0 (omega arith) ∙ get_or-set_same o1 (b + 1) link 0 (omega arith))
          (m.below (b + 2) (omega arith) ∙ get_or-set_same o2 (b + 2) n 0 (omega arith))
          s
          (λ k l. m.inside (b + (3 + k)) (omega arith) (omega arith) ∙ let z : b + (3 + k) - (b + 3) ≡ k = omega arith in ap (word hs) z)
          ∙ λ i. record { kind = p i; pointer = q i; held = ends hs n; link = link_of link };
      below = λ k a. m.below k (omega arith) ∙ other k (omega arith) (omega arith) (omega arith);
      above = λ k a. m.above k (omega arith) ∙ other k (omega arith) (omega arith) (omega arith);
    }

-- ── one part of the configuration changed
module _ (old new : List ℕ) (long : length new ≡ length old) where
  pub processes_changed : (l : List RawProcess) → length (raw_in old).outside ≤ outside_numbers → ((k : ℕ) → 1 ≤ k → k < places_at → get_or new k 0 ≡ get_or old k 0) → ((k : ℕ) → places_at + place_words * process_places ≤ k → get_or new k 0 ≡ get_or old k 0)
      → processes_by new ≡ l → Changed old new (with_processes (raw_in old) l)
  unfolding raw_in
  processes_changed l c below above e =
      let o = outsides_same old new c (below 2 (omega arith) (omega arith)) (λ k p q. below k (omega arith) q) in
      let g : get_or new 1 0 ≡ get_or old 1 0 = below 1 (omega arith) (omega arith) in
      let h : get_or new 3 0 ≡ get_or old 3 0 = below 3 (omega arith) (omega arith) in
      record { is = λ i. record { processes = e i; outside = o i; given = g i; halted = h i }; past = drop_same run_words new old long (λ k p. above k (omega arith)); long = long }

  pub outside_changed : (l : List RawOutside) (n : ℕ) → Bounded (raw_in old) → ((k : ℕ) → k < outsides_at → (k ≡ 1 → ⊥) → (k ≡ 2 → ⊥) → get_or new k 0 ≡ get_or old k 0) → get_or new 1 0 ≡ n → ((k : ℕ) → places_at ≤ k → get_or new k 0 ≡ get_or old k 0)
      → outsides_by new ≡ l → Changed old new (with_given (with_outside (raw_in old) l) n)
  unfolding raw_in
  outside_changed l n b header first above e =
      let p = processes_same old new b (header 0 (omega arith) (λ z. omega arith) (λ z. omega arith)) (λ k p q. above k p) in
      let h : get_or new 3 0 ≡ get_or old 3 0 = header 3 (omega arith) (λ z. omega arith) (λ z. omega arith) in
      record { is = λ i. record { processes = p i; outside = e i; given = first i; halted = h i }; past = drop_same run_words new old long (λ k q. above k (omega arith)); long = long }

  pub halt_changed : (n : ℕ) → Bounded (raw_in old) → ((k : ℕ) → (k ≡ 3 → ⊥) → get_or new k 0 ≡ get_or old k 0) → get_or new 3 0 ≡ n → Changed old new (with_halted (raw_in old) n)
  unfolding raw_in
  halt_changed n b other third =
      let p = processes_same old new b (other 0 (λ z. omega arith)) (λ k p q. other k (omega arith)) in
      let o = outsides_same old new b.channels (other 2 (λ z. omega arith)) (λ k p q. other k (omega arith)) in
      let g : get_or new 1 0 ≡ get_or old 1 0 = other 1 (λ z. omega arith) in
      record { is = λ i. record { processes = p i; outside = o i; given = g i; halted = third i }; past = drop_same run_words new old long (λ k q. other k (omega arith)); long = long }

pub halt_set : (ws : List ℕ) (n : ℕ) → run_words ≤ length ws → Bounded (raw_in ws) → Changed ws (set ws 3 n) (with_halted (raw_in ws) n)
halt_set ws n l b = halt_changed ws (set ws 3 n) (length-set ws 3 n) n b (λ k p. get_or-set_other ws 3 k n 0 p) (get_or-set_same ws 3 n 0 (omega arith))

pub stored : (old new : List ℕ) (i : ℕ) (p : RawProcess) → run_words ≤ length old → Bounded (raw_in old) → i < length (raw_in old).processes → Written process_of place_words old new (places_at + place_words * i) p
    → Changed old new (with_processes (raw_in old) (set (raw_in old).processes i p))
unfolding raw_in
stored old new i p l b h w =
    let n = counted old in
    processes_changed old new w.long _ b.channels (λ k p q. w.below k (omega arith)) (λ k q. w.above k (omega (arith, b.places)))
    (ap (λ m. rows process_of place_words places_at m (word new)) (w.below 0 (omega arith))
    ∙ rows_set process_of place_words places_at (word old) (word new) (get_or old 0 0) (processes_local old (sixteen old b)) i (λ k a c. w.below k c) p (omega arith) w.row (λ k a c. w.above k a))

pub loaded : (ws : List ℕ) (i : ℕ) (p : RawProcess) → Bounded (raw_in ws) → i < length (raw_in ws).processes → process_of (process_row ws i) ≡ p
    → (get_elem? (raw_in ws).processes i ≡ some p) × BoundedProcess (length (raw_in ws).processes) p
loaded ws i p b h e =
    let at : get_elem? (raw_in ws).processes i ≡ some p = process_at_lem ws i h ∙ ap some e in
    (at, all_at _ (raw_in ws).processes i b.processes at)

pub begun : (old new : List ℕ) (p : RawProcess) → run_words ≤ length old → Written process_of place_words (set (set (set (set old 0 1) 1 0) 2 0) 3 0) new places_at p → Changed old new (single p)
unfolding raw_in
begun old new p l w =
    let o1 = set old 0 1 in
    let o2 = set o1 1 0 in
    let o3 = set o2 2 0 in
    let l1 : length o1 ≡ length old = length-set old 0 1 in
    let l2 : length o2 ≡ length o1 = length-set o1 1 0 in
    let l3 : length o3 ≡ length o2 = length-set o2 2 0 in
    let zeroth : get_or new 0 0 ≡ 1 =
    w.below 0 (omega arith) ∙ get_or-set_other o3 3 0 0 0 (λ z. omega arith) ∙ get_or-set_other o2 2 0 0 0 (λ z. omega arith) ∙ get_or-set_other o1 1 0 0 0 (λ z. omega arith) ∙ get_or-set_same old 0 1 0 (omega arith) in
    let first : get_or new 1 0 ≡ 0 = w.below 1 (omega arith) ∙ get_or-set_other o3 3 1 0 0 (λ z. omega arith) ∙ get_or-set_other o2 2 1 0 0 (λ z. omega arith) ∙ get_or-set_same o1 1 0 0 (omega arith) in
    let second : get_or new 2 0 ≡ 0 = w.below 2 (omega arith) ∙ get_or-set_other o3 3 2 0 0 (λ z. omega arith) ∙ get_or-set_same o2 2 0 0 (omega arith) in
    let third : get_or new 3 0 ≡ 0 = w.below 3 (omega arith) ∙ get_or-set_same o3 3 0 0 (omega arith) in
    let ps : processes_by new ≡ p ∷ [] = ap (λ n. rows process_of place_words places_at n (word new)) zeroth ∙ ap (λ (q : RawProcess). q ∷ []) w.row in
    let os : outsides_by new ≡ [] = ap (λ n. rows outside_of outside_words outsides_at n (word new)) second in
    let long : length new ≡ length old = w.long ∙ length-set o3 3 0 ∙ l3 ∙ l2 ∙ l1 in
    record {
      is = λ i. record { processes = ps i; outside = os i; given = first i; halted = third i };
      past = drop_same run_words new old long (λ k a.
          w.above k (omega arith)
          ∙ get_or-set_other o3 3 k 0 0 (omega arith)
          ∙ get_or-set_other o2 2 k 0 0 (omega arith)
          ∙ get_or-set_other o1 1 k 0 0 (omega arith)
          ∙ get_or-set_other old 0 k 1 0 (omega arith));
      long = long;
    }
