-- Types without offsets: what a name stands for, and what goes over a channel.
use Rattle.std.specs.Prelude.{ℕ, List, Bool, true, false, cond}
use Rattle.std.proofs.Math.Option.{Option, some, none, get_or}
use Rattle.notation.specs.Bytes.{same}
use Rattle.notation.specs.Tree.{Name, Ty, unit, named, tensor, par, lolli, plus, with, Alternatives, alternative}
use Rattle.calculus.specs.Named.{lookup}

-- the side of a channel that a process holds
pub data Side : Type 0 where
  provided used : Side

abbrev pub other : Side → Side
other provided = used
other used = provided

abbrev pub same_side : Side → Side → Bool
same_side provided provided = true
same_side provided used = false
same_side used provided = false
same_side used used = true

-- a type by its mark: one view for what treats the marks alike. The number is the mark's in a node of the tables: 2 for *, 3 for @, 4 for -o, 5 for +, 6 for &.
pub data Shape : Type 0 where
  leaf : Shape
  word : Name → Shape
  pair : ℕ → Ty Name → Ty Name → Shape
  choice : ℕ → Alternatives Name → Shape

abbrev pub shape : Ty Name → Shape
shape unit = leaf
shape (named n) = word n
shape (tensor A B) = pair 2 A B
shape (par A B) = pair 3 A B
shape (lolli A B) = pair 4 A B
shape (plus r) = choice 5 r
shape (with r) = choice 6 r

abbrev pub at_leaf : Shape → Bool
at_leaf leaf = true
at_leaf (word n) = false
at_leaf (pair k A B) = false
at_leaf (choice k r) = false

-- "A name stands for its definition when a send or recv acts on its channel."
abbrev pub unfolded : List (Name × Ty Name) → Ty Name → Ty Name
unfolded types unit = unit
unfolded types (named n) = get_or (lookup n types) (named n)
unfolded types (tensor A B) = tensor A B
unfolded types (par A B) = par A B
unfolded types (lolli A B) = lolli A B
unfolded types (plus r) = plus r
unfolded types (with r) = with r

-- a channel that goes over another: the side of c that sends it, its own side, its type, and the type of c afterwards
pub record Passing : Type 0 where
  pub sender : Side
  pub side : Side
  pub what : Ty Name
  pub after : Ty Name

-- "c : A * B provided, a : A used; or c : A @ B used, a : A provided; or c : A -o B used, a : A used. Afterwards .. c : B."
unfoldable pub passing : Ty Name → Option Passing
passing unit = none
passing (named n) = none
passing (tensor A B) = some (record { sender = provided; side = used; what = A; after = B })
passing (par A B) = some (record { sender = used; side = provided; what = A; after = B })
passing (lolli A B) = some (record { sender = used; side = used; what = A; after = B })
passing (plus r) = none
passing (with r) = none

-- a label that goes over a channel: the side of c that sends it, and the labels
pub record Choosing : Type 0 where
  pub sender : Side
  pub labels : Alternatives Name

-- "+ provided or & used"
unfoldable pub choosing : Ty Name → Option Choosing
choosing unit = none
choosing (named n) = none
choosing (tensor A B) = none
choosing (par A B) = none
choosing (lolli A B) = none
choosing (plus r) = some (record { sender = provided; labels = r })
choosing (with r) = some (record { sender = used; labels = r })

-- the type that a label leads to
unfoldable pub labelled : Name → Alternatives Name → Option (Ty Name)
labelled l Alternatives.none = none
labelled l (alternative m A r) = cond (same l m) (some A) (labelled l r)
