-- The declarations of a script by their names: what typing and running look things up in.
use Rattle.std.specs.Prelude.{List, [], ◌∷◌, ◌++◌}
use Rattle.notation.specs.Tree.{Name, Located, Ty, Proc, Entry, Declaration, declare_type, declare_proc, declare_exec, plain}
use Rattle.calculus.specs.Named.{In, names}
use Rattle.calculus.specs.Types.{Side, provided, used}

-- a held channel as typing sees it: its side and its type
pub record Slot : Type 0 where
  pub side : Side
  pub type : Ty Name

abbrev pub slot : Side → Ty Name → Slot
slot s A = record { side = s; type = A }

-- "A process holds channels": a context, oldest first
abbrev pub Context : Type 0
Context = List (Name × Slot)

-- a channel of that name is held
abbrev pub Held : Name → Context → Type 0
Held n G = In n (names G)

-- what a process provides and uses, and its body
pub record Signature : Type 0 where
  pub provides : List (Name × Ty Name)
  pub uses : List (Name × Ty Name)
  pub body : Proc

pub record Program : Type 0 where
  pub types : List (Name × Ty Name)
  pub processes : List (Name × Signature)
  pub execs : List Located

abbrev pub on_side : Side → List (Name × Ty Name) → Context
on_side s [] = []
on_side s (e ∷ l) = (e.0, slot s e.1) ∷ on_side s l

-- "A body's channels are aged in signature order, provided ones first"
abbrev pub signature_context : Signature → Context
signature_context p = on_side provided p.provides ++ on_side used p.uses

abbrev pub entries : List Entry → List (Name × Ty Name)
entries [] = []
entries (e ∷ l) = (e.channel.name, plain e.type) ∷ entries l

abbrev pub add_to : Declaration → Program → Program
add_to (declare_type n A) p = record { types = (n.name, plain A) ∷ p.types; processes = p.processes; execs = p.execs }
add_to (declare_proc n xs ys P) p =
    record { types = p.types; processes = (n.name, record { provides = entries xs; uses = entries ys; body = P }) ∷ p.processes; execs = p.execs }
add_to (declare_exec n) p = record { types = p.types; processes = p.processes; execs = n ∷ p.execs }

unfoldable pub program_of : List Declaration → Program
program_of [] = record { types = []; processes = []; execs = [] }
program_of (a ∷ r) = add_to a (program_of r)
