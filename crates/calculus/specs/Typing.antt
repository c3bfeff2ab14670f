-- The typing rules of the scope, one constructor for each, in its order and words.
-- `TypedBy equal p G P`: with the channels of G held, oldest first, P is typed in the program p, where `equal` says which types are equal; `Typed p G P`: where they are one. Whether a process has a link does not count: that is found when it runs.
use Rattle.std.specs.Prelude.{ℕ, ◌≤◌, ◌<◌, ◌≡◌, ◌≢◌, ◌⊎◌, List, [], ◌∷◌, ◌++◌, length}
use Rattle.std.proofs.Math.Option.{Option, some, none, map}
use Rattle.notation.specs.Limits.{held_limit}
use Rattle.notation.specs.Tree.{Name, Located, Ty, unit, Alternatives, Proc, empty, send_unit, send_channel, send_label, cancel, spawn, recv_unit, recv_channel, recv_label, fwd, call, raise, try, Branches, branch, plain}
use Rattle.calculus.specs.Named.{NoneTwice, Permuted, lookup, without, changed, names, Kept}
use Rattle.calculus.specs.Types.{Side, provided, used, other, unfolded, Passing, passing, Choosing, choosing, labelled}
use Rattle.calculus.specs.Program.{Slot, slot, Context, Held, Signature, Program, signature_context}
use Rattle.calculus.specs.OneType.{OneType}
use Rattle.calculus.specs.Mentioned.{Mentions, HalfMentions}

-- a held channel as a send or recv acts on it: a name stands for its definition
abbrev pub unfolded_slot : Program → Slot → Slot
unfolded_slot p s = slot s.side (unfolded p.types s.type)

abbrev pub acting : Program → Name → Context → Option Slot
acting p c G = map (unfolded_slot p) (lookup c G)

-- c : A from here on, in its place: "a send or recv on c leaves c's age"
abbrev pub retyped : Name → Ty Name → Context → Context
retyped c A G = changed c (λ s. slot s.side A) G

-- "a name brought in is youngest"
abbrev pub bringing : Name → Slot → Context → Context
bringing x s G = G ++ ((x, s) ∷ [])

-- ── parts of rules
abbrev pub names_of : List Located → List Name
names_of [] = []
names_of (n ∷ ns) = n.name ∷ names_of ns

-- "no other channel held": the names held are those of the list, in whatever order
abbrev pub NoOtherHeld : List Name → Context → Type 0
NoOtherHeld ns G = Permuted (names G) ns

-- "A name brought in differs from those held there", and, by a limit of the notation, no 17th channel is held: G is what is held there, H what the new name joins
pub record Brought (x : Name) (G H : Context) : Type 0 where
  pub new : lookup x G ≡ none
  pub room : length H < held_limit

-- a list of names fits a list of a signature: "in number, side and type"
pub data ListFits (equal : Ty Name → Ty Name → Type 0) (G : Context) (s : Side) : List Name → List (Name × Ty Name) → Type 0 where
  none_left : ListFits equal G s [] []
  one_fits : {a : Name} {ns : List Name} {e : Name × Ty Name} {es : List (Name × Ty Name)} (A : Ty Name)
      → lookup a G ≡ some (slot s A)
      → equal A e.1
      → ListFits equal G s ns es
      → ListFits equal G s (a ∷ ns) (e ∷ es)

mutual
  pub data TypedBy (equal : Ty Name → Ty Name → Type 0) (p : Program) : Context → Proc → Type 0 where
    -- `send c ()`: c : 1 provided, then dropped.
    sends_unit : {G : Context} {at : ℕ} {c : Located} {P : Proc}
        → acting p c.name G ≡ some (slot provided unit)
        → TypedBy equal p (without c.name G) P
        → TypedBy equal p G (send_unit at c P)
    -- `recv c (() => P)`: c : 1 used, then dropped.
    recvs_unit : {G : Context} {at : ℕ} {c : Located} {P : Proc}
        → acting p c.name G ≡ some (slot used unit)
        → TypedBy equal p (without c.name G) P
        → TypedBy equal p G (recv_unit at c P)
    -- `send c a`, a not c: c : A * B provided, a : A used; or c : A @ B used, a : A provided; or c : A -o B used, a : A used. Afterwards a is gone and c : B.
    sends_channel : {G : Context} {at : ℕ} {c a : Located} {P : Proc} (T A : Ty Name) (t : Passing)
        → c.name ≢ a.name
        → passing T ≡ some t
        → acting p c.name G ≡ some (slot t.sender T)
        → lookup a.name G ≡ some (slot t.side A)
        → equal A t.what
        → TypedBy equal p (retyped c.name t.after (without a.name G)) P
        → TypedBy equal p G (send_channel at c a P)
    -- `recv c (x => P)` is the other end. For *, c is used and x is used; for @, both provided; for -o, c is provided and x used.
    recvs_channel : {G : Context} {at : ℕ} {c x : Located} {P : Proc} (T : Ty Name) (t : Passing)
        → passing T ≡ some t
        → acting p c.name G ≡ some (slot (other t.sender) T)
        → Brought x.name G G
        → TypedBy equal p (bringing x.name (slot t.side t.what) (retyped c.name t.after G)) P
        → TypedBy equal p G (recv_channel at c x P)
    -- `send c 'l`: + provided or & used.
    sends_label : {G : Context} {at : ℕ} {c l : Located} {P : Proc} (T A : Ty Name) (t : Choosing)
        → choosing T ≡ some t
        → acting p c.name G ≡ some (slot t.sender T)
        → labelled l.name t.labels ≡ some A
        → TypedBy equal p (retyped c.name A G) P
        → TypedBy equal p G (send_label at c l P)
    -- `recv c` with labels: + used or & provided, each branch's label one of the type's, in whatever order; labels of the type may be left out.
    recvs_label : {G : Context} {at : ℕ} {c : Located} {B : Branches} (T : Ty Name) (t : Choosing)
        → choosing T ≡ some t
        → acting p c.name G ≡ some (slot (other t.sender) T)
        → TypedBranchesBy equal p G c.name t.labels B
        → TypedBy equal p G (recv_label at c B)
    -- `fwd x c`: x provided, c used, equal types, no other channel held; the link may be.
    forwards : {G : Context} {at : ℕ} {x c : Located} (A B : Ty Name)
        → lookup x.name G ≡ some (slot provided A)
        → lookup c.name G ≡ some (slot used B)
        → equal A B
        → NoOtherHeld (x.name ∷ c.name ∷ []) G
        → TypedBy equal p G (fwd at x c)
    -- `call`: lists fit in number, side and type; no name twice; no other channel held; a link stays with the process.
    calls : {G : Context} {at bracket : ℕ} {q : Located} {xs ys : List Located} (s : Signature)
        → lookup q.name p.processes ≡ some s
        → ListFits equal G provided (names_of xs) s.provides
        → ListFits equal G used (names_of ys) s.uses
        → NoneTwice (names_of xs ++ names_of ys)
        → NoOtherHeld (names_of xs ++ names_of ys) G
        → TypedBy equal p G (call at q bracket xs ys)
    -- `x : A <- (P); Q`: P takes the held channels it mentions and provides x, without link; Q takes the rest, the link, and uses x. None is mentioned in both.
    spawns : {G : Context} {x : Located} {A : Ty Located} {P Q : Proc} (H K : Context)
        → Kept (HalfMentions x.name P) G H
        → Kept (λ n. ¬ HalfMentions x.name P n) G K
        → ((n : Name) → Held n G → ¬ (HalfMentions x.name P n × HalfMentions x.name Q n))
        → Brought x.name G H
        → Brought x.name G K
        → TypedBy equal p (bringing x.name (slot provided (plain A)) H) P
        → TypedBy equal p (bringing x.name (slot used (plain A)) K) Q
        → TypedBy equal p G (spawn x A P Q)
    -- `try (P) catch (Q)`: each half takes what it mentions; each held channel is mentioned in exactly one. P gets a new link, Q the old.
    tries : {G : Context} {at : ℕ} {P Q : Proc} (H K : Context)
        → Kept (Mentions P) G H
        → Kept (Mentions Q) G K
        → ((n : Name) → Held n G → (Mentions P n × ¬ Mentions Q n) ⊎ (¬ Mentions P n × Mentions Q n))
        → TypedBy equal p H P
        → TypedBy equal p K Q
        → TypedBy equal p G (try at P Q)
    -- `raise P`: P goes on.
    raises : {G : Context} {at : ℕ} {P : Proc}
        → TypedBy equal p G P
        → TypedBy equal p G (raise at P)
    -- `cancel c` drops c.
    cancels : {G : Context} {at : ℕ} {c : Located} {P : Proc}
        → Held c.name G
        → TypedBy equal p (without c.name G) P
        → TypedBy equal p G (cancel at c P)
    -- An empty process holds no channel; it may hold the link.
    empties : {G : Context} {at : ℕ}
        → G ≡ []
        → TypedBy equal p G (empty at)

  -- each branch's label is one of the type's, and it goes on with the type of its label
  pub data TypedBranchesBy (equal : Ty Name → Ty Name → Type 0) (p : Program) : Context → Name → Alternatives Name → Branches → Type 0 where
    last_branch : {G : Context} {c : Name} {r : Alternatives Name}
        → TypedBranchesBy equal p G c r Branches.none
    one_branch : {G : Context} {c : Name} {r : Alternatives Name} {l : Located} {P : Proc} {B : Branches} (A : Ty Name)
        → labelled l.name r ≡ some A
        → TypedBy equal p (retyped c A G) P
        → TypedBranchesBy equal p G c r B
        → TypedBranchesBy equal p G c r (branch l P B)

-- types are equal where they are one
abbrev pub Typed : Program → Context → Proc → Type 0
Typed p = TypedBy (OneType p) p

abbrev pub TypedBranches : Program → Context → Name → Alternatives Name → Branches → Type 0
TypedBranches p = TypedBranchesBy (OneType p) p

-- "A proc body starts with its lists"
pub record TypedBody (p : Program) (s : Signature) : Type 0 where
  pub room : length (signature_context s) ≤ held_limit
  pub body : Typed p (signature_context s) s.body

-- what an accepted script gives of the processes that it declares
pub record Bodies (p : Program) : Type 0 where
  pub typed : (n : Name) (s : Signature) → lookup n p.processes ≡ some s → TypedBody p s
  pub names : (n : Name) (s : Signature) → lookup n p.processes ≡ some s → NoneTwice (names (signature_context s))
