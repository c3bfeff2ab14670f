-- Refusals 10 to 15: the first term in text order, then the lowest number, at the term's first byte.
use Rattle.std.specs.Prelude.{ℕ, List, [], ◌∷◌, ◌++◌, Bool, true, false, not, ◌&&◌, length, ltb}
use Rattle.std.proofs.Math.Option.{Option, some, none}
use Rattle.std.proofs.Math.ListN.{get_elem?}
use Rattle.notation.specs.Limits.{held_limit}
use Rattle.notation.specs.Bytes.{same}
use Rattle.notation.specs.Tree.{Name, Located, Ty, Alternatives, Proc, empty, send_unit, send_channel, send_label, cancel, spawn, recv_unit, recv_channel, recv_label, fwd, call, raise, try, Branches, branch, Declaration, declare_type, declare_proc, declare_exec, plain}
use Rattle.calculus.specs.Named.{lookup, without, names, is_some, every, distinct}
use Rattle.calculus.specs.Types.{Side, provided, used, other, same_side, shape, at_leaf, passing, choosing, labelled}
use Rattle.calculus.specs.SameType.{same_type}
use Rattle.calculus.specs.Program.{Slot, slot, Context, Program, signature_context, entries, program_of}
use Rattle.calculus.specs.Declarations.{channels, is_nil}
use Rattle.calculus.specs.Mentions.{spawn_takes, spawn_leaves, try_takes, never_both, exactly_one}
use Rattle.calculus.specs.Typing.{acting, retyped, bringing, names_of}
use Rattle.calculus.specs.Verdict.{Verdict, fine, refused, and_then, demand, having}

-- a name may join H where G is held: 15 otherwise
abbrev pub may_bring : Name → Context → Context → Bool
may_bring x G H = not (is_some (lookup x G)) && ltb (length H) held_limit

-- "A branch's label is none of the type's": 12, before what its branches are refused for
unfoldable pub fitting : Alternatives Name → Branches → Bool
fitting r Branches.none = true
fitting r (branch l P B) = is_some (labelled l.name r) && fitting r B

abbrev pub is_unit_on : Side → Slot → Bool
is_unit_on s h = same_side h.side s && at_leaf (shape h.type)

abbrev pub fits_slot : Program → Side → Ty Name → Slot → Bool
fits_slot p s A h = same_side h.side s && same_type p.types h.type A

abbrev pub entry_fits : Program → Side → Ty Name → Option Slot → Bool
entry_fits p s A none = false
entry_fits p s A (some h) = fits_slot p s A h

-- a list of names fits a list of a signature: "in number, side and type"
unfoldable pub list_fits : Program → Context → Side → List Name → List (Name × Ty Name) → Bool
list_fits p G s [] [] = true
list_fits p G s [] (e ∷ es) = false
list_fits p G s (a ∷ ns) [] = false
list_fits p G s (a ∷ ns) (e ∷ es) = entry_fits p s e.1 (lookup a G) && list_fits p G s ns es

-- what is held beside the names of a list
unfoldable pub without_all : {X : Type 0} → List Name → List (Name × X) → List (Name × X)
without_all [] l = l
without_all (n ∷ ns) l = without_all ns (without n l)

unfoldable mutual
  pub check : Program → Context → Proc → Verdict
  check p G (empty at) = demand 13 at (is_nil G) fine
  check p G (send_unit at c P) =
      having 10 at (acting p c.name G) λ h.
      demand 11 at (is_unit_on provided h)
      (check p (without c.name G) P)
  check p G (send_channel at c a P) =
      having 10 at (acting p c.name G) λ h.
      having 10 at (lookup a.name G) λ e.
      demand 11 at (not (same c.name a.name))
      (having 11 at (passing h.type) λ t.
      demand 11 at (same_side h.side t.sender && fits_slot p t.side t.what e)
      (check p (retyped c.name t.after (without a.name G)) P))
  check p G (send_label at c l P) =
      having 10 at (acting p c.name G) λ h.
      having 11 at (choosing h.type) λ t.
      demand 11 at (same_side h.side t.sender)
      (having 11 at (labelled l.name t.labels) λ A.
      check p (retyped c.name A G) P)
  check p G (cancel at c P) =
      having 10 at (lookup c.name G) λ _.
      check p (without c.name G) P
  check p G (spawn x A P Q) =
      demand 13 x.at (never_both x.name P Q (names G))
      (demand 15 x.at (may_bring x.name G (spawn_takes x.name P G) && may_bring x.name G (spawn_leaves x.name P G))
      (and_then (check p (bringing x.name (slot provided (plain A)) (spawn_takes x.name P G)) P)
      (check p (bringing x.name (slot used (plain A)) (spawn_leaves x.name P G)) Q)))
  check p G (recv_unit at c P) =
      having 10 at (acting p c.name G) λ h.
      demand 11 at (is_unit_on used h)
      (check p (without c.name G) P)
  check p G (recv_channel at c x P) =
      having 10 at (acting p c.name G) λ h.
      having 11 at (passing h.type) λ t.
      demand 11 at (same_side h.side (other t.sender))
      (demand 15 at (may_bring x.name G G)
      (check p (bringing x.name (slot t.side t.what) (retyped c.name t.after G)) P))
  check p G (recv_label at c B) =
      having 10 at (acting p c.name G) λ h.
      having 11 at (choosing h.type) λ t.
      demand 11 at (same_side h.side (other t.sender))
      (demand 12 at (fitting t.labels B)
      (check_branches p G at c.name t.labels B))
  check p G (fwd at x c) =
      having 10 at (lookup x.name G) λ h.
      having 10 at (lookup c.name G) λ e.
      demand 11 at (same_side h.side provided && fits_slot p used h.type e)
      (demand 13 at (is_nil (without_all (x.name ∷ c.name ∷ []) G)) fine)
  check p G (call at q bracket xs ys) =
      demand 10 at (every (λ n. is_some (lookup n G)) (names_of xs ++ names_of ys))
      (having 11 at (lookup q.name p.processes) λ s.
      demand 11 at (list_fits p G provided (names_of xs) s.provides && list_fits p G used (names_of ys) s.uses)
      (demand 11 at (distinct (names_of xs ++ names_of ys))
      (demand 13 at (is_nil (without_all (names_of xs ++ names_of ys) G)) fine)))
  check p G (raise at P) = check p G P
  check p G (try at P Q) =
      demand 13 at (exactly_one P Q (names G))
      (and_then (check p (try_takes P G) P) (check p (try_takes Q G) Q))

  -- branches as written; `at` is the recv's offset
  pub check_branches : Program → Context → ℕ → Name → Alternatives Name → Branches → Verdict
  check_branches p G at c r Branches.none = fine
  check_branches p G at c r (branch l P B) =
      having 12 at (labelled l.name r) λ A.
      and_then (check p (retyped c A G) P) (check_branches p G at c r B)

-- "a signature's 17th name is taken before the body"
abbrev pub unless_named : Option Located → Verdict → Verdict
unless_named none v = v
unless_named (some x) v = refused 15 x.at

abbrev pub check_declaration : Program → Declaration → Verdict
check_declaration p (declare_type n A) = fine
check_declaration p (declare_proc n xs ys P) =
    unless_named (get_elem? (channels xs ++ channels ys) held_limit)
    (check p (signature_context (record { provides = entries xs; uses = entries ys; body = P })) P)
check_declaration p (declare_exec n) = fine

-- procs in text order
abbrev pub check_declarations : Program → List Declaration → Verdict
check_declarations p [] = fine
check_declarations p (a ∷ r) = and_then (check_declaration p a) (check_declarations p r)

unfoldable pub typed : List Declaration → Verdict
typed ds = check_declarations (program_of ds) ds
