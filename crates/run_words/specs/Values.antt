-- What the code's values mean, and what becomes of the words that it writes.
use Rattle.std.specs.Prelude.{ℕ, ◌+◌, ◌*◌, ◌/◌, ◌%◌, ◌≤◌, ◌<◌, List, ◌≡◌, Bool, true, false, length, get_or, drop}
use Rattle.notation.specs.Limits.{channel_places, run_words}
use Rattle.calculus.specs.Configuration.{among}
use Rattle.run_words.specs.ListLaws.{length_tab}
use Rattle.run_words.specs.Raw.{RawEnd, RawProcess, RawOutside, RawConfig, process_row, held_count, places_at, place_words, ends_from, kind_radix, end_words, running_kind, folding_kind, side_of, link_of, rows, end_of, raw_in}
use Rattle.run_words.specs.declared.records.End.{End}
use Rattle.run_words.specs.declared.records.Held.{Held}
use Rattle.run_words.specs.declared.records.Process.{Process}
use Rattle.run_words.specs.declared.records.Outside.{Outside}

-- ── the code's values, in numbers
abbrev pub end_in : End → RawEnd
end_in e = record { name = e.name; side = side_of e.side; node = e.node; channel = e.channel }

unfoldable pub held_in : Held → List RawEnd
held_in h = rows end_of end_words 0 h.count (λ k. get_or h.words k 0)

abbrev pub process_in : Process → RawProcess
process_in p = record { kind = p.kind; pointer = p.pointer; held = held_in p.held; link = link_of p.link }

-- a process by value that is new; one that goes on, and keeps what is not named
abbrev pub new_process : ℕ → ℕ → ℕ → Held → Process
new_process kind pointer link held = record { kind = kind; pointer = pointer; link = link; held = held }

abbrev pub remade : ℕ → ℕ → ℕ → Held → Process → Process
remade kind pointer link held p = record { kind = kind; pointer = pointer; link = link; held = held }

-- of another kind; with another link; with other ends
abbrev pub of_kind : ℕ → Process → Process
of_kind kind p = remade kind p.pointer p.link p.held p

abbrev pub of_link : ℕ → Process → Process
of_link link p = remade p.kind p.pointer link p.held p

abbrev pub of_held : Held → Process → Process
of_held held p = remade p.kind p.pointer p.link held p

-- it runs the term at a pointer; it folds up
abbrev pub running_on : ℕ → Held → Process → Process
running_on pointer held p = remade running_kind pointer p.link held p

abbrev pub folding_up : Held → Process → Process
folding_up held p = of_held held (of_kind folding_kind p)

abbrev pub outside_in : Outside → RawOutside
outside_in o = record { number = o.number; node = o.node; channel = o.channel }

-- the process at a place, as its words stand: what loading it comes to
abbrev pub value_of : List ℕ → ℕ → Process
value_of ws i = record {
  kind = process_row ws i 0 % kind_radix;
  pointer = process_row ws i 0 / kind_radix;
  link = process_row ws i 1;
  held = record { count = held_count ws i; words = drop (places_at + place_words * i + ends_from) ws };
}

-- a count is a length
pub held_length : (h : Held) → length (held_in h) ≡ h.count
unfolding held_in
held_length h = length_tab _ h.count

-- ── the words
-- what a change of the words comes to: the configuration, and that the words past it and the length stay
pub record Changed (old new : List ℕ) (C : RawConfig) : Type 0 where
  pub is : raw_in new ≡ C
  pub past : drop run_words new ≡ drop run_words old
  pub long : length new ≡ length old

-- the words from `lo` up to `hi` are those of g, and the others stay
pub record Moved (old new : List ℕ) (lo hi : ℕ) (g : ℕ → ℕ) : Type 0 where
  pub long : length new ≡ length old
  pub inside : (k : ℕ) → lo ≤ k → k < hi → get_or new k 0 ≡ g k
  pub below : (k : ℕ) → k < lo → get_or new k 0 ≡ get_or old k 0
  pub above : (k : ℕ) → hi ≤ k → get_or new k 0 ≡ get_or old k 0

-- the row of so many words that begins at `first` reads as x, and the words outside of it stay
pub record Written {A : Type 0} (read : (ℕ → ℕ) → A) (width : ℕ) (old new : List ℕ) (first : ℕ) (x : A) : Type 0 where
  pub long : length new ≡ length old
  pub row : read (λ t. get_or new (first + t) 0) ≡ x
  pub below : (k : ℕ) → k < first → get_or new k 0 ≡ get_or old k 0
  pub above : (k : ℕ) → first + width ≤ k → get_or new k 0 ≡ get_or old k 0

-- a mark for each channel place: whether the channel is in the list
pub record Marked (marks : List Bool) (l : List ℕ) : Type 0 where
  pub long : length marks ≡ channel_places
  pub each : (k : ℕ) → k < channel_places → get_or marks k false ≡ among k l

-- the answer says whether it holds
pub record Decided (answer : Bool) (P : Type 0) : Type 0 where
  pub yes : answer ≡ true → P
  pub no : answer ≡ false → P → ⊥
