-- Configurations: "a list of processes", the outside's channels, how many outside numbers were given, and whether the run has halted.
use Rattle.std.specs.Prelude.{ℕ, zero, suc, ◌-◌, ◌≡◌, List, [], ◌∷◌, ◌++◌, map, Bool, true, false, cond, ◌&&◌, take, drop, set, ltb, eqb}
use Rattle.std.proofs.Math.Option
use Rattle.std.proofs.Math.Option.{Option, some, none}
use Rattle.std.proofs.Math.ListN.{get_elem?}
use Rattle.notation.specs.Limits.{channel_places}
use Rattle.notation.specs.Tree.{Name, Ty, Proc}
use Rattle.calculus.specs.Named.{changed}
use Rattle.calculus.specs.Types.{Side, provided, used, other, same_side}

-- an end of a channel that a process holds; a channel is the number of its place
pub record End : Type 0 where
  pub side : Side
  pub channel : ℕ
  pub type : Ty Name

abbrev pub end : Side → ℕ → Ty Name → End
end s k A = record { side = s; channel = k; type = A }

-- the same end of another type; the same end of another channel
abbrev pub of_type : Ty Name → End → End
of_type A e = record { side = e.side; channel = e.channel; type = A }

abbrev pub of_channel : ℕ → End → End
of_channel k e = record { side = e.side; channel = k; type = e.type }

-- what a process does: it runs a term; it folds up (the scope's term: "cancels one held channel a step, oldest first, then is empty"); it waits as a handler
pub data Doing : Type 0 where
  running : Proc → Doing
  folding : Doing
  waiting : Proc → Doing

-- a process: what it does, what it holds, oldest first, and its link: the place of its handler
pub record Process : Type 0 where
  pub doing : Doing
  pub held : List (Name × End)
  pub link : Option ℕ

-- a channel that the outside uses, with its number
pub record Outside : Type 0 where
  pub number : ℕ
  pub channel : ℕ
  pub type : Ty Name

abbrev pub outside_of_type : Ty Name → Outside → Outside
outside_of_type A o = record { number = o.number; channel = o.channel; type = A }

abbrev pub outside_of_channel : ℕ → Outside → Outside
outside_of_channel k o = record { number = o.number; channel = k; type = o.type }

-- the outside's channels stand in rising number; a place (the scope's term) is a position in the list of processes, from 0
pub record Config : Type 0 where
  pub processes : List Process
  pub outside : List Outside
  pub given : ℕ
  pub halted : Bool

-- a new configuration, and a new process
abbrev pub config : List Process → List Outside → ℕ → Config
config l o n = record { processes = l; outside = o; given = n; halted = false }

abbrev pub process : Doing → List (Name × End) → Option ℕ → Process
process d h o = record { doing = d; held = h; link = o }

-- ── one part of a configuration changed, the rest as it was
abbrev pub with_processes : List Process → Config → Config
with_processes l C = record { processes = l; outside = C.outside; given = C.given; halted = C.halted }

abbrev pub with_outside : List Outside → Config → Config
with_outside o C = record { processes = C.processes; outside = o; given = C.given; halted = C.halted }

abbrev pub with_given : ℕ → Config → Config
with_given n C = record { processes = C.processes; outside = C.outside; given = n; halted = C.halted }

-- the run halts, and all else stays as it is
abbrev pub halt : Config → Config
halt C = record { processes = C.processes; outside = C.outside; given = C.given; halted = true }

-- one more outside number is given
abbrev pub one_more_given : Config → Config
one_more_given C = with_given (suc C.given) C

-- the process q stands at place i
abbrev pub replaced : ℕ → Process → Config → Config
replaced i q C = with_processes (set C.processes i q) C

-- ── a process goes on: it does and holds something else; its link is another; the rest as it was
abbrev pub becoming : Doing → List (Name × End) → Process → Process
becoming d l q = record { doing = d; held = l; link = q.link }

abbrev pub linked_by : Option ℕ → Process → Process
linked_by h q = record { doing = q.doing; held = q.held; link = h }

abbrev pub goes_on : Process → Proc → List (Name × End) → Process
goes_on q P l = becoming (running P) l q

abbrev pub folds_up : Process → List (Name × End) → Process
folds_up q l = becoming folding l q

abbrev pub doing_now : Doing → Process → Process
doing_now d q = becoming d q.held q

abbrev pub holding : List (Name × End) → Process → Process
holding l q = becoming q.doing l q

-- the process at a place
abbrev pub at : Config → ℕ → Option Process
at C i = get_elem? C.processes i

-- a process of the configuration, with its place
pub record Stands (C : Config) (i : ℕ) (q : Process) : Type 0 where
  pub there : at C i ≡ some q

-- ── who holds an end
-- the name under which an end is held
unfoldable pub held_as : ℕ → Side → List (Name × End) → Option Name
held_as k s [] = none
held_as k s (e ∷ l) = let r = held_as k s l in cond (eqb k e.1.channel && same_side s e.1.side) (some e.0) r

pub record Holder : Type 0 where
  pub place : ℕ
  pub process : Process
  pub name : Name

abbrev pub holder_here : ℕ → Process → Option Name → Option Holder → Option Holder
holder_here i q none r = r
holder_here i q (some n) r = some (record { place = i; process = q; name = n })

-- the first process, from place i on, that holds an end
unfoldable pub holder_from : ℕ → ℕ → Side → List Process → Option Holder
holder_from i k s [] = none
holder_from i k s (q ∷ l) = let r = holder_from (suc i) k s l in holder_here i q (held_as k s q.held) r

unfoldable pub outside_of : ℕ → List Outside → Option Outside
outside_of k [] = none
outside_of k (o ∷ l) = cond (eqb k o.channel) (some o) (outside_of k l)

-- the far end of an end: at a process, at the outside, or given up, which it is when nobody holds it
pub data Far : Type 0 where
  at_process : Holder → Far
  at_outside : ℕ → Far
  given_up : Far

abbrev pub or_outside : Side → Option Outside → Far
or_outside s none = given_up
or_outside provided (some o) = at_outside o.number
or_outside used (some o) = given_up

abbrev pub far_from : Option Holder → Far → Far
far_from none f = f
far_from (some h) f = at_process h

unfoldable pub far_end : Config → End → Far
far_end C e = far_from (holder_from 0 e.channel (other e.side) C.processes) (or_outside e.side (outside_of e.channel C.outside))

-- ── one end changed, by the name under which it is held
abbrev pub retyped_end : Name → Ty Name → List (Name × End) → List (Name × End)
retyped_end c A l = changed c (of_type A) l

-- ── channel places: "A channel place is free when neither end is held"
abbrev pub held_channels : List (Name × End) → List ℕ → List ℕ
held_channels [] r = r
held_channels (e ∷ l) r = e.1.channel ∷ held_channels l r

abbrev pub process_channels : List Process → List ℕ → List ℕ
process_channels [] r = r
process_channels (q ∷ l) r = held_channels q.held (process_channels l r)

-- the channels of which an end is held, by a process or the outside
unfoldable pub channels_held : Config → List ℕ
channels_held C = process_channels C.processes (map (λ (o : Outside). o.channel) C.outside)

abbrev pub among : ℕ → List ℕ → Bool
among k [] = false
among k (j ∷ js) = let r = among k js in cond (eqb k j) true r

abbrev pub free_from : List ℕ → ℕ → ℕ → Option ℕ
free_from busy k zero = none
free_from busy k (suc n) = let r = free_from busy (suc k) n in cond (among k busy) r (some k)

-- The scope leaves open which free channel place a new channel takes: here the lowest.
unfoldable pub fresh_channel : Config → Option ℕ
fresh_channel C = free_from (channels_held C) 0 channel_places

-- ── places move when a process comes or leaves, and links with them
abbrev pub moved_up : ℕ → ℕ → ℕ
moved_up i h = cond (ltb i h) (suc h) h

abbrev pub moved_down : ℕ → ℕ → ℕ
moved_down i h = cond (ltb i h) (h - 1) h

abbrev pub relinked : (ℕ → ℕ) → Process → Process
relinked f q = linked_by (Option.map f q.link) q

-- "a new one stands directly after its maker": the process q after place i
unfoldable pub inserted : ℕ → Process → List Process → List Process
inserted i q l = let m = map (relinked (moved_up i)) l in take (suc i) m ++ (q ∷ drop (suc i) m)

unfoldable pub removed : ℕ → List Process → List Process
removed i l = let m = map (relinked (moved_down i)) l in take i m ++ drop (suc i) m

-- ── the outside
unfoldable pub let_go : ℕ → List Outside → List Outside
let_go k [] = []
let_go k (o ∷ l) = cond (eqb k o.channel) (let_go k l) (o ∷ let_go k l)

unfoldable pub changed_outside : ℕ → (Outside → Outside) → List Outside → List Outside
changed_outside k f [] = []
changed_outside k f (o ∷ l) = cond (eqb k o.channel) (f o ∷ l) (o ∷ changed_outside k f l)

abbrev pub retyped_outside : ℕ → Ty Name → List Outside → List Outside
retyped_outside k A = changed_outside k (outside_of_type A)

abbrev pub moved_outside : ℕ → ℕ → List Outside → List Outside
moved_outside k m = changed_outside k (outside_of_channel m)
