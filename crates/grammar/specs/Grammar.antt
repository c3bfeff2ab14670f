-- The grammar of the scope, one rule a constructor, in its words: which terminals are a type, a process, a script, and what tree they are.
use Rattle.std.specs.Prelude.{ℕ, suc, List, [], ◌∷◌, ◌++◌}
use Rattle.notation.specs.Token.{k_send, k_recv, k_fwd, k_call, k_cancel, k_raise, k_try, k_catch, k_lolli, k_from, k_then, k_round_open, k_round_close, k_square_open, k_square_close, k_brace_open, k_brace_close, k_colon, k_comma, k_semicolon, k_equals, k_bar, k_one, k_star, k_at, k_plus, k_with}
use Rattle.notation.specs.Tree.{Located, Ty, Alternatives, Proc, Branches, Entry, Declaration, declare_type, declare_proc, declare_exec}
use Rattle.notation.specs.Tree as tree
use Rattle.grammar.specs.Terminals.{Terminal, declares_type, declares_proc, declares_exec, type_mark, type_name, term_word, brought, opens, closes, listed, sent, name, mark, following}

-- ── lists: `(x : A, ..)`, `[b, ..]`
-- parts of one kind with commas between them, one or more
pub data Commas {X : Type 0} (Item : List Terminal → X → Type 0) : List Terminal → List X → Type 0 where
  last : {p : List Terminal} {x : X} → Item p x → Commas Item p (x ∷ [])
  more : {p q : List Terminal} {x : X} {xs : List X} (b : ℕ) → Item p x → Commas Item q xs → Commas Item (p ++ (mark k_comma b ∷ q)) (x ∷ xs)

-- "either may be empty"
pub data Listing {X : Type 0} (Item : List Terminal → X → Type 0) : List Terminal → List X → Type 0 where
  none : Listing Item [] []
  some : {p : List Terminal} {xs : List X} → Commas Item p xs → Listing Item p xs

-- ── Types: "`1`, a name, `A * B`, `A @ B`, `A -o B`, `+{'l : A, ..}`, `&{'l : A, ..}` with one label or more, round brackets."
mutual
  -- "a type is an atom, or an atom, an infix mark and a type"
  pub data IsType : List Terminal → Ty Located → Type 0 where
    atom : {p : List Terminal} {A : Ty Located} → IsAtom p A → IsType p A
    -- A * B
    tensor : {p q : List Terminal} (a : ℕ) {A B : Ty Located} → IsAtom p A → IsType q B → IsType (p ++ (type_mark k_star a ∷ q)) (tree.tensor A B)
    -- A @ B
    par : {p q : List Terminal} (a : ℕ) {A B : Ty Located} → IsAtom p A → IsType q B → IsType (p ++ (type_mark k_at a ∷ q)) (tree.par A B)
    -- A -o B
    lolli : {p q : List Terminal} (a : ℕ) {A B : Ty Located} → IsAtom p A → IsType q B → IsType (p ++ (type_mark k_lolli a ∷ q)) (tree.lolli A B)

  pub data IsAtom : List Terminal → Ty Located → Type 0 where
    -- 1
    unit : {a : ℕ} → IsAtom (type_mark k_one a ∷ []) tree.unit
    -- a name
    named : {n : Located} → IsAtom (type_name n ∷ []) (tree.named n)
    -- +{'l : A, ..}
    plus : {p : List Terminal} {a b : ℕ} (c : ℕ) {r : Alternatives Located}
        → AreAlternatives 0 p r
        → IsAtom (type_mark k_plus a ∷ opens k_brace_open b ∷ (p ++ (closes k_brace_close c ∷ []))) (tree.plus r)
    -- &{'l : A, ..}
    with : {p : List Terminal} {a b : ℕ} (c : ℕ) {r : Alternatives Located}
        → AreAlternatives 0 p r
        → IsAtom (type_mark k_with a ∷ opens k_brace_open b ∷ (p ++ (closes k_brace_close c ∷ []))) (tree.with r)
    -- (A)
    round : {p : List Terminal} {a : ℕ} (b : ℕ) {A : Ty Located} → IsType p A → IsAtom (opens k_round_open a ∷ (p ++ (closes k_round_close b ∷ []))) A

  -- 'l : A, .. of a list in which so many labels came before
  pub data AreAlternatives : ℕ → List Terminal → Alternatives Located → Type 0 where
    last : {n a : ℕ} {p : List Terminal} {l : Located} {A : Ty Located}
        → IsType p A
        → AreAlternatives n (listed n l ∷ mark k_colon a ∷ p) (tree.alternative l A Alternatives.none)
    more : {n a : ℕ} (b : ℕ) {p q : List Terminal} {l : Located} {A : Ty Located} {r : Alternatives Located}
        → IsType p A
        → AreAlternatives (suc n) q r
        → AreAlternatives n (listed n l ∷ mark k_colon a ∷ (p ++ (mark k_comma b ∷ q))) (tree.alternative l A r)

-- ── Processes
-- a channel's name in a list of a call
pub data IsChannel : List Terminal → Located → Type 0 where
  channel : {n : Located} → IsChannel (name n ∷ []) n

-- `next` is the offset of the token that follows the process: "an empty process counts as a term at the token that follows it (text length if none)"
mutual
  -- "a process is empty or one term"
  pub data IsProcess : (next : ℕ) → List Terminal → Proc → Type 0 where
    empty : {next : ℕ} → IsProcess next [] (tree.empty next)
    -- send c ()
    send_unit : {next a b d : ℕ} {c : Located} {p : List Terminal} {P : Proc}
        → IsRest next p P
        → IsProcess next (term_word k_send a ∷ name c ∷ opens k_round_open b ∷ closes k_round_close d ∷ p) (tree.send_unit a c P)
    -- send c a
    send_channel : {next a : ℕ} {c x : Located} {p : List Terminal} {P : Proc} → IsRest next p P → IsProcess next (term_word k_send a ∷ name c ∷ name x ∷ p) (tree.send_channel a c x P)
    -- send c 'l
    send_label : {next a : ℕ} {c l : Located} {p : List Terminal} {P : Proc} → IsRest next p P → IsProcess next (term_word k_send a ∷ name c ∷ sent l ∷ p) (tree.send_label a c l P)
    -- cancel c
    cancel : {next a : ℕ} {c : Located} {p : List Terminal} {P : Proc} → IsRest next p P → IsProcess next (term_word k_cancel a ∷ name c ∷ p) (tree.cancel a c P)
    -- x : A <- (P)
    spawn : {next a e : ℕ} (b d : ℕ) {x : Located} {p q r : List Terminal} {A : Ty Located} {P Q : Proc}
        → IsType p A
        → IsProcess e q P
        → IsRest next r Q
        → IsProcess next (brought x ∷ mark k_colon a ∷ (p ++ (mark k_from b ∷ opens k_round_open d ∷ (q ++ (closes k_round_close e ∷ r))))) (tree.spawn x A P Q)
    -- recv c (() => P)
    recv_unit : {next a b d e f g : ℕ} {c : Located} {p : List Terminal} {P : Proc}
        → IsProcess g p P
        → IsProcess next (term_word k_recv a ∷ name c ∷ opens k_round_open b ∷ opens k_round_open d ∷ closes k_round_close e ∷ mark k_then f ∷ (p ++ (closes k_round_close g ∷ []))) (tree.recv_unit a c P)
    -- recv c (x => P)
    recv_channel : {next a b d e : ℕ} {c x : Located} {p : List Terminal} {P : Proc}
        → IsProcess e p P
        → IsProcess next (term_word k_recv a ∷ name c ∷ opens k_round_open b ∷ name x ∷ mark k_then d ∷ (p ++ (closes k_round_close e ∷ []))) (tree.recv_channel a c x P)
    -- recv c ('l => P | ..)
    recv_label : {next a b d : ℕ} {c : Located} {p : List Terminal} {B : Branches}
        → AreBranches 0 d p B
        → IsProcess next (term_word k_recv a ∷ name c ∷ opens k_round_open b ∷ (p ++ (closes k_round_close d ∷ []))) (tree.recv_label a c B)
    -- fwd x c
    fwd : {next a : ℕ} {x c : Located} → IsProcess next (term_word k_fwd a ∷ name x ∷ name c ∷ []) (tree.fwd a x c)
    -- call p (a, ..) [b, ..]
    call : {next a b : ℕ} (d e f : ℕ) {n : Located} {p q : List Terminal} {xs ys : List Located}
        → Listing IsChannel p xs
        → Listing IsChannel q ys
        → IsProcess next (term_word k_call a ∷ name n ∷ opens k_round_open b ∷ (p ++ (closes k_round_close d ∷ opens k_square_open e ∷ (q ++ (closes k_square_close f ∷ []))))) (tree.call a n b xs ys)
    -- raise P
    raise : {next a : ℕ} {p : List Terminal} {P : Proc} → IsProcess next p P → IsProcess next (term_word k_raise a ∷ p) (tree.raise a P)
    -- try (P) catch (Q)
    try : {next a b d g : ℕ} (e f : ℕ) {p q : List Terminal} {P Q : Proc}
        → IsProcess d p P
        → IsProcess g q Q
        → IsProcess next (term_word k_try a ∷ opens k_round_open b ∷ (p ++ (closes k_round_close d ∷ mark k_catch e ∷ opens k_round_open f ∷ (q ++ (closes k_round_close g ∷ []))))) (tree.try a P Q)

  -- "each followed by nothing or by `;` and a process"
  pub data IsRest : (next : ℕ) → List Terminal → Proc → Type 0 where
    nothing : {next : ℕ} → IsRest next [] (tree.empty next)
    goes_on : {next a : ℕ} {p : List Terminal} {P : Proc} → IsProcess next p P → IsRest next (mark k_semicolon a ∷ p) P

  -- 'l => P | .. of a list in which so many labels came before
  pub data AreBranches : ℕ → (next : ℕ) → List Terminal → Branches → Type 0 where
    last : {n next a : ℕ} {p : List Terminal} {l : Located} {P : Proc}
        → IsProcess next p P
        → AreBranches n next (listed n l ∷ mark k_then a ∷ p) (tree.branch l P Branches.none)
    more : {n next a b : ℕ} {p q : List Terminal} {l : Located} {P : Proc} {B : Branches}
        → IsProcess b p P
        → AreBranches (suc n) next q B
        → AreBranches n next (listed n l ∷ mark k_then a ∷ (p ++ (mark k_bar b ∷ q))) (tree.branch l P B)

-- ── Declarations
-- x : A in a signature
pub data IsEntry : List Terminal → Entry → Type 0 where
  typed : {x : Located} {a : ℕ} {p : List Terminal} {A : Ty Located} → IsType p A → IsEntry (name x ∷ mark k_colon a ∷ p) (record { channel = x; type = A })

pub data IsDeclaration : (next : ℕ) → List Terminal → Declaration → Type 0 where
  -- type t = A
  type : {next a b : ℕ} {t : Located} {p : List Terminal} {A : Ty Located} → IsType p A → IsDeclaration next (declares_type a ∷ name t ∷ mark k_equals b ∷ p) (declare_type t A)
  -- proc p (x : A, ..) [y : B, ..] = P
  proc : {next a b : ℕ} (d e f g : ℕ) {n : Located} {p q r : List Terminal} {xs ys : List Entry} {P : Proc}
      → Listing IsEntry p xs
      → Listing IsEntry q ys
      → IsProcess next r P
      → IsDeclaration next (declares_proc a ∷ name n ∷ opens k_round_open b ∷ (p ++ (closes k_round_close d ∷ opens k_square_open e ∷ (q ++ (closes k_square_close f ∷ mark k_equals g ∷ r))))) (declare_proc n xs ys P)
  -- exec p
  exec : {next a : ℕ} {n : Located} → IsDeclaration next (declares_exec a ∷ name n ∷ []) (declare_exec n)

-- declarations, "none or more"
pub data IsScript : (next : ℕ) → List Terminal → List Declaration → Type 0 where
  none : {next : ℕ} → IsScript next [] []
  more : {next : ℕ} {p q : List Terminal} {a : Declaration} {ds : List Declaration}
      → IsDeclaration (following q next) p a
      → IsScript next q ds
      → IsScript next (p ++ q) (a ∷ ds)
