-- What refusal 18 asks of a configuration, in its words.
use Rattle.std.specs.Prelude.{ℕ, suc, ◌≤◌, ◌<◌, ◌≡◌, List, [], ◌∷◌, ◌++◌, map, Bool, true, false, length}
use Rattle.std.proofs.Math.Option.{some}
use Rattle.notation.specs.Limits.{held_limit, process_places, channel_places, outside_numbers}
use Rattle.notation.specs.Tree.{Name}
use Rattle.calculus.specs.Named.{In, NoneTwice, names}
use Rattle.calculus.specs.Types.{Side, used}
use Rattle.calculus.specs.Program.{slot, Context, Program}
use Rattle.calculus.specs.Outward.{Outward}
use Rattle.calculus.specs.OneType.{OneType}
use Rattle.calculus.specs.Typing.{Typed}
use Rattle.calculus.specs.Configuration.{End, end, Doing, running, folding, waiting, Process, Outside, Config, Stands}
use Rattle.calculus.specs.Forest.{Forest, joints}
use Rattle.calculus.specs.Reduces.{Halts}

-- each number is below the next: no number twice
abbrev pub Rising : ℕ → List ℕ → Type 0
Rising low [] = Unit {0}
Rising low (n ∷ l) = (low ≤ n) × Rising (suc n) l

-- ── the ends of channels
-- what a process holds, as typing sees it
abbrev pub context_of : List (Name × End) → Context
context_of [] = []
context_of (e ∷ l) = (e.0, slot e.1.side e.1.type) ∷ context_of l

abbrev pub held_ends : List (Name × End) → List End
held_ends [] = []
held_ends (e ∷ l) = e.1 ∷ held_ends l

abbrev pub process_ends : List Process → List End
process_ends [] = []
process_ends (q ∷ l) = held_ends q.held ++ process_ends l

-- the outside uses its channels
abbrev pub outside_ends : List Outside → List End
outside_ends [] = []
outside_ends (o ∷ l) = end used o.channel o.type ∷ outside_ends l

abbrev pub ends : Config → List End
ends C = process_ends C.processes ++ outside_ends C.outside

-- an end without its type
abbrev pub key : End → ℕ × Side
key e = (e.channel, e.side)

-- ── the clauses
-- "each process is typed by the rules above (one folding up may hold anything)"
abbrev pub TypedAs : Program → Context → Doing → Type 0
TypedAs p G (running P) = NoneTwice (names G) × Typed p G P
TypedAs p G folding = Unit {0}
TypedAs p G (waiting Q) = NoneTwice (names G) × Typed p G Q

abbrev pub is_waiting : Doing → Bool
is_waiting (running P) = false
is_waiting folding = false
is_waiting (waiting Q) = true

-- "one step would halt it, were it not halted": no rule looks at the halt. What else may halt a run is another case here.
pub data WouldHalt (C : Config) : Type 0 where
  by_step : {i : ℕ} → Halts C i → WouldHalt C

pub record WellFormed (p : Program) (C : Config) : Type 0 where
  -- "each process is typed by the rules above"
  pub typed : (i : ℕ) (q : Process) → Stands C i q → TypedAs p (context_of q.held) q.doing
  -- a channel has two ends, each held at most once, and "both ends of a channel have one type"
  pub once : NoneTwice (map key (ends C))
  pub agree : (e d : End) → In e (ends C) → In d (ends C) → e.channel ≡ d.channel → OneType p e.type d.type
  -- a link leads to a waiting handler, and "each waiting handler is linked by one process"
  pub links : (i : ℕ) (q : Process) → Stands C i q → (h : ℕ) → q.link ≡ some h → (r : Process) × Stands C h r × (is_waiting r.doing ≡ true)
  pub linked : (h : ℕ) (r : Process) → Stands C h r → is_waiting r.doing ≡ true → (i : ℕ) × (q : Process) × Stands C i q × (q.link ≡ some h)
  pub linked_once : (i j : ℕ) (q r : Process) → Stands C i q → Stands C j r → (h : ℕ) → q.link ≡ some h → r.link ≡ some h → i ≡ j
  -- "the joints form a forest"
  pub forest : Forest (joints C)
  -- "the outside's channels keep the exec rule and bear different numbers", which rise, "all of them given already"
  pub outside : (o : Outside) → In o C.outside → Outward p o.type × (o.number < C.given)
  pub numbers : Rising 0 (map (λ (o : Outside). o.number) C.outside)
  -- "and of a halted run one step would halt it, were it not halted"
  pub halt : C.halted ≡ true → WouldHalt C
  -- places and numbers are those of a run
  pub processes : length C.processes ≤ process_places
  pub channels : (e : End) → In e (ends C) → e.channel < channel_places
  pub given : C.given ≤ outside_numbers
  pub held : (i : ℕ) (q : Process) → Stands C i q → length q.held ≤ held_limit
