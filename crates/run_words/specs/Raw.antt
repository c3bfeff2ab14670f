-- The run slice, in numbers: the names are offsets in the text, the types and terms numbers of the tables.
-- Its words are a header of 16, then the outside's channels, then the processes; what the decode does not read is free.
use Rattle.std.specs.Prelude.{ℕ, zero, suc, ◌+◌, ◌*◌, ◌/◌, ◌%◌, ◌≤◌, ◌<◌, List, length, get_or}
use Rattle.std.proofs.Math.Option.{Option, some, none}
use Rattle.notation.specs.Limits.{text_limit, type_term_limit, held_limit, process_places, channel_places, outside_numbers}
use Rattle.calculus.specs.Types.{Side, provided, used}
use Rattle.run_words.specs.Lists.{tab, All}

-- ── the words, as in the constants of src/records.rt
-- 32 outside channels; 128 processes, of which each has a word for its term with its kind, then its link, how many ends it holds, and the ends
abbrev pub outsides_at : ℕ
outsides_at = 16

abbrev pub outside_words : ℕ
outside_words = 2

abbrev pub places_at : ℕ
places_at = 80

abbrev pub place_words : ℕ
place_words = 40

abbrev pub ends_from : ℕ
ends_from = 3

abbrev pub end_words : ℕ
end_words = 2

abbrev pub held_words : ℕ
held_words = 32

-- by what the numbers of one word are told apart
abbrev pub kind_radix : ℕ
kind_radix = 4

abbrev pub side_radix : ℕ
side_radix = 2

abbrev pub channel_radix : ℕ
channel_radix = 512

-- a process runs, folds up, or waits as a handler
abbrev pub running_kind : ℕ
running_kind = 0

abbrev pub folding_kind : ℕ
folding_kind = 1

abbrev pub waiting_kind : ℕ
waiting_kind = 2

-- a pointer has 14 bits, and so has the offset that a node keeps in a pointer's place
abbrev pub pointer_limit : ℕ
pointer_limit = 16384

-- ── the records
-- an end that a process holds: where its name stands, the node of its type
pub record RawEnd : Type 0 where
  pub name : ℕ
  pub side : Side
  pub node : ℕ
  pub channel : ℕ

-- the pointer is its term's
pub record RawProcess : Type 0 where
  pub kind : ℕ
  pub pointer : ℕ
  pub held : List RawEnd
  pub link : Option ℕ

-- a new process
abbrev pub raw_process : ℕ → ℕ → List RawEnd → Option ℕ → RawProcess
raw_process kind pointer held link = record { kind = kind; pointer = pointer; held = held; link = link }

-- the same process with another link
abbrev pub linked_to : Option ℕ → RawProcess → RawProcess
linked_to o p = record { kind = p.kind; pointer = p.pointer; held = p.held; link = o }

-- a channel that the outside uses
pub record RawOutside : Type 0 where
  pub number : ℕ
  pub node : ℕ
  pub channel : ℕ

pub record RawConfig : Type 0 where
  pub processes : List RawProcess
  pub outside : List RawOutside
  pub given : ℕ
  pub halted : ℕ

-- ── the decode: each from a function that reads its words
-- a side is a bit
abbrev pub side_of : ℕ → Side
side_of zero = provided
side_of (suc n) = used

-- a link is 0 for none, else 1 + place
abbrev pub link_of : ℕ → Option ℕ
link_of zero = none
link_of (suc i) = some i

-- n rows of so many words each, from the word `first` on
abbrev pub rows : {A : Type 0} → ((ℕ → ℕ) → A) → ℕ → ℕ → ℕ → (ℕ → ℕ) → List A
rows read width first n w = tab (λ i. read (λ t. w (first + width * i + t))) n

-- an end: its name with its side; its type with its channel
abbrev pub end_by : ℕ → ℕ → RawEnd
end_by a b = record { name = a / side_radix; side = side_of (a % side_radix); node = b / channel_radix; channel = b % channel_radix }

abbrev pub end_of : (ℕ → ℕ) → RawEnd
end_of w = end_by (w 0) (w 1)

-- a process: its pointer with its kind; its link; how many ends it holds; the ends
abbrev pub process_of : (ℕ → ℕ) → RawProcess
process_of w = record { kind = w 0 % kind_radix; pointer = w 0 / kind_radix; held = rows end_of end_words ends_from (w 2) w; link = link_of (w 1) }

-- an outside channel: its number; its type with its channel
abbrev pub outside_of : (ℕ → ℕ) → RawOutside
outside_of w = record { number = w 0; node = w 1 / channel_radix; channel = w 1 % channel_radix }

-- a run: how many processes; how many outside numbers were given; how many outside channels; whether it has halted
abbrev pub raw_of : (ℕ → ℕ) → RawConfig
raw_of w = record { processes = rows process_of place_words places_at (w 0) w; outside = rows outside_of outside_words outsides_at (w 2) w; given = w 1; halted = w 3 }

-- the words of the process at a place, and of the outside's channel at a position
abbrev pub process_row : List ℕ → ℕ → ℕ → ℕ
process_row ws i t = get_or ws (places_at + place_words * i + t) 0

abbrev pub outside_row : List ℕ → ℕ → ℕ → ℕ
outside_row ws k t = get_or ws (outsides_at + outside_words * k + t) 0

-- how many ends it holds
abbrev pub held_count : List ℕ → ℕ → ℕ
held_count ws i = process_row ws i 2

-- what a slice decodes to
unfoldable pub raw_in : List ℕ → RawConfig
raw_in ws = raw_of (λ k. get_or ws k 0)

-- ── bounds, which every configuration of a text keeps
pub record BoundedEnd (e : RawEnd) : Type 0 where
  pub name : e.name < text_limit
  pub node : e.node < type_term_limit
  pub channel : e.channel < channel_places

-- a link is one of so many places
abbrev pub links_below : ℕ → Option ℕ → Type 0
links_below n none = Unit
links_below n (some i) = i < n

pub record BoundedProcess (places : ℕ) (p : RawProcess) : Type 0 where
  pub kind : p.kind < 3
  pub pointer : p.pointer < pointer_limit
  pub many : length p.held ≤ held_limit
  pub each : All BoundedEnd p.held
  pub link : links_below places p.link

pub record BoundedOutside (o : RawOutside) : Type 0 where
  pub number : o.number < outside_numbers
  pub node : o.node < type_term_limit
  pub channel : o.channel < channel_places

pub record Bounded (C : RawConfig) : Type 0 where
  pub places : length C.processes ≤ process_places
  pub processes : All (BoundedProcess (length C.processes)) C.processes
  pub channels : length C.outside ≤ outside_numbers
  pub outside : All BoundedOutside C.outside
  pub given : C.given ≤ outside_numbers
  pub halted : C.halted ≤ 1
