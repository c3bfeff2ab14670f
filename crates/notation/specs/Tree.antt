-- What is read: the trees of types, processes and declarations.
use Rattle.std.specs.Prelude.{ℕ, List}

-- a name, as its bytes
abbrev pub Name : Type 0
Name = List ℕ

-- a name with its offset in the text: of its first byte, which for a label is the apostrophe; the apostrophe is no part of the name
pub record Located : Type 0 where
  pub at : ℕ
  pub name : Name

-- Types, over what stands for names and labels: `Ty Located` as read, `Ty Name` without offsets. Brackets leave no trace.
mutual
  pub data Ty (N : Type 0) : Type 0 where
    unit : Ty N
    named : N → Ty N
    -- A * B, A @ B, A -o B
    tensor par lolli : Ty N → Ty N → Ty N
    -- +{'l : A, ..}, &{'l : A, ..}
    plus with : Alternatives N → Ty N
    deriving Discrete as Ty-discrete

  -- the labels of a choice with their types, in text order
  pub data Alternatives (N : Type 0) : Type 0 where
    none : Alternatives N
    alternative : N → Ty N → Alternatives N → Alternatives N
    deriving Discrete as Alternatives-discrete

-- a type as it is compared and held: without offsets
unfoldable mutual
  pub plain : Ty Located → Ty Name
  plain unit = unit
  plain (named n) = named n.name
  plain (tensor A B) = tensor (plain A) (plain B)
  plain (par A B) = par (plain A) (plain B)
  plain (lolli A B) = lolli (plain A) (plain B)
  plain (plus r) = plus (plains r)
  plain (with r) = with (plains r)

  pub plains : Alternatives Located → Alternatives Name
  plains none = none
  plains (alternative l A r) = alternative l.name (plain A) (plains r)

-- Processes. The first number of each is the offset of its first token; of an empty one, of the token that follows it (the text's length if none).
mutual
  pub data Proc : Type 0 where
    empty : ℕ → Proc
    -- send c ();  send c a;  send c 'l;  cancel c: each with its rest
    send_unit : ℕ → Located → Proc → Proc
    send_channel : ℕ → Located → Located → Proc → Proc
    send_label : ℕ → Located → Located → Proc → Proc
    cancel : ℕ → Located → Proc → Proc
    -- x : A <- (P); Q, where the first token is x
    spawn : Located → Ty Located → Proc → Proc → Proc
    -- recv c (() => P);  recv c (x => P);  recv c ('l => P | ..)
    recv_unit : ℕ → Located → Proc → Proc
    recv_channel : ℕ → Located → Located → Proc → Proc
    recv_label : ℕ → Located → Branches → Proc
    -- fwd x c
    fwd : ℕ → Located → Located → Proc
    -- call p (a, ..) [b, ..], with the offset of the round bracket
    call : ℕ → Located → ℕ → List Located → List Located → Proc
    raise : ℕ → Proc → Proc
    -- try (P) catch (Q)
    try : ℕ → Proc → Proc → Proc

  pub data Branches : Type 0 where
    none : Branches
    branch : Located → Proc → Branches → Branches

-- an entry of a signature: x : A
pub record Entry : Type 0 where
  pub channel : Located
  pub type : Ty Located

pub data Declaration : Type 0 where
  -- type t = A
  declare_type : Located → Ty Located → Declaration
  -- proc p (x : A, ..) [y : B, ..] = P
  declare_proc : Located → List Entry → List Entry → Proc → Declaration
  -- exec p
  declare_exec : Located → Declaration
