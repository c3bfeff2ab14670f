-- The calculus' operations, on numbers: each is what the calculus' own is once the numbers are decoded.
use Rattle.std.specs.Prelude.{ℕ, suc, ◌+◌, ◌-◌, List, [], ◌∷◌, map, Bool, true, false, cond, ◌&&◌, eqb, ltb}
use Rattle.std.specs.Prelude.{Option as CodeOption, Some, None}
use Rattle.std.proofs.Math.Option
use Rattle.std.proofs.Math.Option.{Option, some, none}
use Rattle.notation.specs.Limits.{channel_places}
use Rattle.calculus.specs.Types.{Side, provided, used, other, same_side}
use Rattle.calculus.specs.Configuration.{moved_up, moved_down, free_from}
use Rattle.run_words.specs.Lists.{insert_at, remove_at, scan}
use Rattle.run_words.specs.Raw.{RawEnd, RawProcess, RawOutside, RawConfig, linked_to}
use Rattle.run_words.specs.declared.records.Change.{Change}
use Rattle.run_words.specs.declared.records.Change.TheVariants as change
use Rattle.run_words.specs.declared.records.Far.{Far}
use Rattle.run_words.specs.declared.records.Far.TheVariants as far

-- ── one part of a configuration changed
abbrev pub with_processes : RawConfig → List RawProcess → RawConfig
with_processes C l = record { processes = l; outside = C.outside; given = C.given; halted = C.halted }

abbrev pub with_outside : RawConfig → List RawOutside → RawConfig
with_outside C l = record { processes = C.processes; outside = l; given = C.given; halted = C.halted }

abbrev pub with_given : RawConfig → ℕ → RawConfig
with_given C n = record { processes = C.processes; outside = C.outside; given = n; halted = C.halted }

abbrev pub with_halted : RawConfig → ℕ → RawConfig
with_halted C h = record { processes = C.processes; outside = C.outside; given = C.given; halted = h }

abbrev pub on_processes : (List RawProcess → List RawProcess) → RawConfig → RawConfig
on_processes f C = with_processes C (f C.processes)

abbrev pub on_outside : (List RawOutside → List RawOutside) → RawConfig → RawConfig
on_outside f C = with_outside C (f C.outside)

-- ── a process comes or leaves
-- a run of one process, which goes on
abbrev pub single : RawProcess → RawConfig
single p = record { processes = p ∷ []; outside = []; given = 0; halted = 0 }

abbrev pub relinked : (ℕ → ℕ) → RawProcess → RawProcess
relinked f p = linked_to (Option.map f p.link) p

-- a place, and a link's word, once the places after i have moved up or down by one
abbrev pub moved : Bool → ℕ → ℕ → ℕ
moved true i h = moved_up i h
moved false i h = moved_down i h

abbrev pub moved_word : Bool → ℕ → ℕ → ℕ
moved_word up i l = cond (ltb (i + 1) l) (cond up (l + 1) (l - 1)) l

-- the process q comes to stand after place i; the one at place i leaves
unfoldable pub inserted : ℕ → RawProcess → List RawProcess → List RawProcess
inserted i q l = insert_at (suc i) q (map (relinked (moved_up i)) l)

unfoldable pub removed : ℕ → List RawProcess → List RawProcess
removed i l = remove_at i (map (relinked (moved_down i)) l)

-- ── who holds an end
-- the first position whose element passes the test
abbrev pub first_step : {A : Type 0} → (A → Bool) → ℕ → A → CodeOption ℕ → CodeOption ℕ
first_step p i x r = cond (p x) (Some i) r

abbrev pub first : {A : Type 0} → (A → Bool) → List A → CodeOption ℕ
first p l = scan (first_step p) None 0 l

abbrev pub is_end : ℕ → Side → RawEnd → Bool
is_end k s e = eqb k e.channel && same_side s e.side

unfoldable pub held_at : ℕ → Side → List RawEnd → CodeOption ℕ
held_at k s l = first (is_end k s) l

-- who holds an end: the place of a process, and the end's position in what it holds
abbrev pub Holder : Type 0
Holder = CodeOption (ℕ × ℕ)

abbrev pub holder_here : ℕ → CodeOption ℕ → Holder → Holder
holder_here i (Some j) r = Some (i, j)
holder_here i None r = r

abbrev pub holder_step : ℕ → Side → ℕ → RawProcess → Holder → Holder
holder_step k s i p r = holder_here i (held_at k s p.held) r

-- the first process that holds an end
unfoldable pub holder_of : ℕ → Side → List RawProcess → Holder
holder_of k s l = scan (holder_step k s) None 0 l

abbrev pub on_channel : ℕ → RawOutside → Bool
on_channel k o = eqb k o.channel

unfoldable pub outside_at : ℕ → List RawOutside → CodeOption ℕ
outside_at k l = first (on_channel k) l

-- ── the far end
abbrev pub or_outside : Side → CodeOption ℕ → Far
or_outside s None = far.GivenUp
or_outside provided (Some j) = far.Outside j
or_outside used (Some j) = far.GivenUp

abbrev pub far_from : Holder → Far → Far
far_from (Some (i, j)) f = far.Process i j
far_from None f = f

-- the far end of an end, by its channel and side: held by a process, at that place and position; the outside's, at that position; or given up
unfoldable pub far_end : RawConfig → ℕ → Side → Far
far_end C k s = far_from (holder_of k (other s) C.processes) (or_outside s (outside_at k C.outside))

abbrev pub was_given_up : Far → Bool
was_given_up (far.Process i j) = false
was_given_up (far.Outside j) = false
was_given_up far.GivenUp = true

-- ── channel places
abbrev pub held_channels : List RawEnd → List ℕ → List ℕ
held_channels [] r = r
held_channels (e ∷ l) r = e.channel ∷ held_channels l r

abbrev pub process_channels : List RawProcess → List ℕ → List ℕ
process_channels [] r = r
process_channels (p ∷ l) r = held_channels p.held (process_channels l r)

unfoldable pub channels_held : RawConfig → List ℕ
channels_held C = process_channels C.processes (map (λ (o : RawOutside). o.channel) C.outside)

unfoldable pub fresh_channel : RawConfig → Option ℕ
fresh_channel C = free_from (channels_held C) 0 channel_places

-- the same, as the code answers
abbrev pub found_in : Option ℕ → CodeOption ℕ
found_in none = None
found_in (some k) = Some k

-- ── the outside
-- without a channel; with the first of a channel changed
unfoldable pub let_go : ℕ → List RawOutside → List RawOutside
let_go k [] = []
let_go k (o ∷ l) = let r = let_go k l in cond (eqb k o.channel) r (o ∷ r)

unfoldable pub changed_outside : ℕ → (RawOutside → RawOutside) → List RawOutside → List RawOutside
changed_outside k f [] = []
changed_outside k f (o ∷ l) = cond (eqb k o.channel) (f o ∷ l) (o ∷ changed_outside k f l)

-- another type; another channel
abbrev pub retyped : ℕ → RawOutside → RawOutside
retyped node o = record { number = o.number; node = node; channel = o.channel }

abbrev pub rerouted : ℕ → RawOutside → RawOutside
rerouted channel o = record { number = o.number; node = o.node; channel = channel }

abbrev pub changed_by : Change → RawOutside → RawOutside
changed_by (change.Node node) = retyped node
changed_by (change.Channel channel) = rerouted channel
