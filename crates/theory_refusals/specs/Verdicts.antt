-- The refusals that a verdict can give: 6 to 9 of the declarations; 10 to 13 and 15 of the typing; each at an offset of the script.
use Rattle.std.specs.Prelude.{ℕ, ◌≤◌, ◌≡◌, refl, ◌≢◌, ◌⊎◌, Bool, true, false, not, ◌&&◌}
use Rattle.std.proofs.Common.{arith, inl, inr}
use mathlib.Core.List.Memᴰ
use mathlib.Core.List.{List, [], ◌∷◌, ◌++◌}
use Rattle.std.proofs.Math.Option.{Option, some, none}
use Rattle.std.proofs.Math.ListN.{get_elem?}
use Rattle.notation.specs.Limits.{held_limit}
use Rattle.notation.specs.Bytes.{same}
use Rattle.notation.specs.Tree.{Name, Located, Alternatives, Proc, empty, send_unit, send_channel, send_label, cancel, spawn, recv_unit, recv_channel, recv_label, fwd, call, raise, try, Branches, branch, Declaration, declare_type, declare_proc, declare_exec, plain}
use Rattle.calculus.specs.Named.{lookup, without, names, is_some, every, distinct}
use Rattle.calculus.specs.Types.{provided, used, other, same_side, passing, choosing, labelled}
use Rattle.calculus.specs.Program.{slot, Context, Program, signature_context, entries, program_of}
use Rattle.calculus.specs.Declarations.{channels, is_nil, repeated, undefined, bare_names, wrong_execs, declared}
use Rattle.calculus.specs.Mentions.{spawn_takes, spawn_leaves, try_takes, never_both, exactly_one}
use Rattle.calculus.specs.Typing.{acting, retyped, bringing, names_of}
use Rattle.calculus.specs.Verdict.{Verdict, fine, refused, and_then, demand, having, faults}
use Rattle.calculus.specs.Checking.{may_bring, fitting, is_unit_on, fits_slot, list_fits, check, check_branches, unless_named, check_declaration, check_declarations, typed, without_all}
use Rattle.theory_ends.specs.Lists.{found_in}
use Rattle.theory_refusals.specs.Offsets.{ProcessOffset, BranchesOffset, EntriesOffset, DeclarationOffset, OffsetOf}
use Rattle.theory_refusals.specs.Faults.{Each, lowest_each, signature_channels, repeated_each, undefined_each, bare_names_each, wrong_execs_each}

abbrev pub Between : ℕ → ℕ → ℕ → Type 0
Between low high n = (low ≤ n) × (n ≤ high)

abbrev RefusedOf : (ℕ → ℕ → Type 0) → Verdict → Type 0
RefusedOf R fine = Unit {0}
RefusedOf R (refused n i) = R n i

-- if it is a refusal, R holds of its number and offset
pub record Refusing (R : ℕ → ℕ → Type 0) (v : Verdict) : Type 0 where
  pub holds : RefusedOf R v

-- its number is one of N, its offset one of X
pub record Fault (N X : ℕ → Type 0) (n i : ℕ) : Type 0 where
  pub number : N n
  pub offset : X i

pub fault : {N X : ℕ → Type 0} {n i : ℕ} → N n → X i → Fault N X n i
fault a x = record { number = a; offset = x }

-- ── a law for each part that verdicts are made of
module _ {R : ℕ → ℕ → Type 0} where
  is_fine_lem : Refusing R fine
  is_fine_lem = record { holds = tt }

  is_refused : (n i : ℕ) → R n i → Refusing R (refused n i)
  is_refused n i b = record { holds = b }

  pub both : {v w : Verdict} → Refusing R v → Refusing R w → Refusing R (and_then v w)
  both {v = fine} x y = y
  both {v = refused n i} x y = record { holds = x.holds }

  demanding : (n i : ℕ) (b : Bool) {v : Verdict} → R n i → Refusing R v → Refusing R (demand n i b v)
  demanding n i true l x = x
  demanding n i false l x = is_refused n i l

  needing : {X : Type 0} (n i : ℕ) (o : Option X) (k : X → Verdict) → R n i → ((x : X) → Refusing R (k x)) → Refusing R (having n i o k)
  needing n i none k l f = is_refused n i l
  needing n i (some x) k l f = f x

  faulting : (n : ℕ) (is : List ℕ) → Each (R n) is → Refusing R (faults n is)
  unfolding faults
  faulting n [] h = is_fine_lem
  faulting n (i ∷ is) h = is_refused n _ (lowest_each (R n) i is (h.all i (Memᴰ.head refl)) (λ j m. h.all j (Memᴰ.tail m)))

  pub refusing_as : {S : ℕ → ℕ → Type 0} {v : Verdict} → ((n i : ℕ) → R n i → S n i) → Refusing R v → Refusing S v
  refusing_as {v = fine} f h = record { holds = tt }
  refusing_as {v = refused n i} f h = record { holds = f n i h.holds }

-- ── 6 to 9
abbrev pub DeclaredFault : List Declaration → ℕ → ℕ → Type 0
DeclaredFault ds = Fault (Between 6 9) (λ i. OffsetOf i ds)

pub declared_within : (ds : List Declaration) → Refusing (DeclaredFault ds) (declared ds)
unfolding declared
declared_within ds =
    both (faulting 6 (repeated ds) (repeated_each (DeclaredFault ds 6) ds (λ i o. fault (omega arith) o)))
    (both (faulting 7 (undefined ds) (undefined_each (DeclaredFault ds 7) ds (λ i o. fault (omega arith) o)))
    (both (faulting 8 (bare_names ds) (bare_names_each (DeclaredFault ds 8) ds (λ i o. fault (omega arith) o)))
    (faulting 9 (wrong_execs ds) (wrong_execs_each (DeclaredFault ds 9) ds (λ i o. fault (omega arith) o)))))

-- ── 10 to 13, and 15
abbrev pub TypingNumber : ℕ → Type 0
TypingNumber n = Between 10 15 n × (n ≢ 14)

module _ (p : Program) (X : ℕ → Type 0) where
  abbrev InTyping : Verdict → Type 0
  InTyping v = Refusing (Fault TypingNumber X) v

  mutual
    unfolding check ProcessOffset

    check_within : (G : Context) (P : Proc) → ((i : ℕ) → ProcessOffset i P → X i) → InTyping (check p G P)
    check_within G (empty at) f = demanding 13 at (is_nil G) (fault (omega arith) (f at refl)) is_fine_lem
    check_within G (send_unit at c P) f =
        let here = f at (inl refl) in
        needing 10 at (acting p c.name G) _ (fault (omega arith) here) λ h.
        demanding 11 at (is_unit_on provided h) (fault (omega arith) here) (check_within (without c.name G) P (λ i o. f i (inr o)))
    check_within G (send_channel at c a P) f =
        let here = f at (inl refl) in
        needing 10 at (acting p c.name G) _ (fault (omega arith) here) λ h.
        needing 10 at (lookup a.name G) _ (fault (omega arith) here) λ e.
        demanding 11 at (not (same c.name a.name)) (fault (omega arith) here)
        (needing 11 at (passing h.type) _ (fault (omega arith) here) λ t.
        demanding 11 at (same_side h.side t.sender && fits_slot p t.side t.what e) (fault (omega arith) here)
        (check_within (retyped c.name t.after (without a.name G)) P (λ i o. f i (inr o))))
    check_within G (send_label at c l P) f =
        let here = f at (inl refl) in
        needing 10 at (acting p c.name G) _ (fault (omega arith) here) λ h.
        needing 11 at (choosing h.type) _ (fault (omega arith) here) λ t.
        demanding 11 at (same_side h.side t.sender) (fault (omega arith) here)
        (needing 11 at (labelled l.name t.labels) _ (fault (omega arith) here) λ A. check_within (retyped c.name A G) P (λ i o. f i (inr o)))
    check_within G (cancel at c P) f = needing 10 at (lookup c.name G) _ (fault (omega arith) (f at (inl refl))) λ _. check_within (without c.name G) P (λ i o. f i (inr o))
    check_within G (spawn x A P Q) f =
        let here = f x.at (inl refl) in
        demanding 13 x.at (never_both x.name P Q (names G)) (fault (omega arith) here)
        (demanding 15 x.at (may_bring x.name G (spawn_takes x.name P G) && may_bring x.name G (spawn_leaves x.name P G)) (fault (omega arith) here)
        (both (check_within (bringing x.name (slot provided (plain A)) (spawn_takes x.name P G)) P (λ i o. f i (inr (inr (inl o)))))
        (check_within (bringing x.name (slot used (plain A)) (spawn_leaves x.name P G)) Q (λ i o. f i (inr (inr (inr o)))))))
    check_within G (recv_unit at c P) f =
        let here = f at (inl refl) in
        needing 10 at (acting p c.name G) _ (fault (omega arith) here) λ h.
        demanding 11 at (is_unit_on used h) (fault (omega arith) here) (check_within (without c.name G) P (λ i o. f i (inr o)))
    check_within G (recv_channel at c x P) f =
        let here = f at (inl refl) in
        needing 10 at (acting p c.name G) _ (fault (omega arith) here) λ h.
        needing 11 at (passing h.type) _ (fault (omega arith) here) λ t.
        demanding 11 at (same_side h.side (other t.sender)) (fault (omega arith) here)
        (demanding 15 at (may_bring x.name G G) (fault (omega arith) here)
        (check_within (bringing x.name (slot t.side t.what) (retyped c.name t.after G)) P (λ i o. f i (inr o))))
    check_within G (recv_label at c B) f =
        let here = f at (inl refl) in
        needing 10 at (acting p c.name G) _ (fault (omega arith) here) λ h.
        needing 11 at (choosing h.type) _ (fault (omega arith) here) λ t.
        demanding 11 at (same_side h.side (other t.sender)) (fault (omega arith) here)
        (demanding 12 at (fitting t.labels B) (fault (omega arith) here) (branches_within G at c.name t.labels B here (λ i o. f i (inr o))))
    check_within G (fwd at x c) f =
        let here = f at refl in
        needing 10 at (lookup x.name G) _ (fault (omega arith) here) λ h.
        needing 10 at (lookup c.name G) _ (fault (omega arith) here) λ e.
        demanding 11 at (same_side h.side provided && fits_slot p used h.type e) (fault (omega arith) here)
        (demanding 13 at (is_nil (without_all (x.name ∷ c.name ∷ []) G)) (fault (omega arith) here) is_fine_lem)
    check_within G (call at q bracket xs ys) f =
        let here = f at (inl refl) in
        demanding 10 at (every (λ n. is_some (lookup n G)) (names_of xs ++ names_of ys)) (fault (omega arith) here)
        (needing 11 at (lookup q.name p.processes) _ (fault (omega arith) here) λ s.
        demanding 11 at (list_fits p G provided (names_of xs) s.provides && list_fits p G used (names_of ys) s.uses) (fault (omega arith) here)
        (demanding 11 at (distinct (names_of xs ++ names_of ys)) (fault (omega arith) here)
        (demanding 13 at (is_nil (without_all (names_of xs ++ names_of ys) G)) (fault (omega arith) here) is_fine_lem)))
    check_within G (raise at P) f = check_within G P (λ i o. f i (inr o))
    check_within G (try at P Q) f =
        demanding 13 at (exactly_one P Q (names G)) (fault (omega arith) (f at (inl refl))) (both (check_within (try_takes P G) P (λ i o. f i (inr (inl o)))) (check_within (try_takes Q G) Q (λ i o. f i (inr (inr o)))))

    branches_within : (G : Context) (at : ℕ) (c : Name) (r : Alternatives Name) (B : Branches) → X at → ((i : ℕ) → BranchesOffset i B → X i) → InTyping (check_branches p G at c r B)
    branches_within G at c r Branches.none here f = is_fine_lem
    branches_within G at c r (branch l P B) here f =
        needing 12 at (labelled l.name r) _ (fault (omega arith) here) λ A.
        both (check_within (retyped c A G) P (λ i o. f i (inr (inl o)))) (branches_within G at c r B here (λ i o. f i (inr (inr o))))

  named_within : (o : Option Located) (v : Verdict) → ((n : Located) → o ≡ some n → X n.at) → InTyping v → InTyping (unless_named o v)
  named_within none v f h = h
  named_within (some n) v f h = is_refused 15 n.at (fault (omega arith) (f n refl))

  declaration_within : (a : Declaration) → ((i : ℕ) → DeclarationOffset i a → X i) → InTyping (check_declaration p a)
  unfolding DeclarationOffset
  declaration_within (declare_type n A) f = is_fine_lem
  declaration_within (declare_proc n xs ys P) f =
      named_within (get_elem? (channels xs ++ channels ys) held_limit) _ (λ n e. listed n (signature_channels xs ys n (found_in (channels xs ++ channels ys) held_limit e)))
      (check_within (signature_context (record { provides = entries xs; uses = entries ys; body = P })) P (λ i o. f i (inr (inr (inr o)))))
    where
      listed : (n : Located) → EntriesOffset n.at xs ⊎ EntriesOffset n.at ys → X n.at
      listed n (inl o) = f n.at (inr (inl o))
      listed n (inr o) = f n.at (inr (inr (inl o)))
  declaration_within (declare_exec n) f = is_fine_lem

  declarations_within : (ds : List Declaration) → ((i : ℕ) → OffsetOf i ds → X i) → InTyping (check_declarations p ds)
  unfolding OffsetOf
  declarations_within [] f = is_fine_lem
  declarations_within (a ∷ r) f = both (declaration_within a (λ i o. f i (inl o))) (declarations_within r (λ i o. f i (inr o)))

abbrev pub TypingFault : List Declaration → ℕ → ℕ → Type 0
TypingFault ds = Fault TypingNumber (λ i. OffsetOf i ds)

pub typed_within : (ds : List Declaration) → Refusing (TypingFault ds) (typed ds)
unfolding typed
typed_within ds = declarations_within (program_of ds) (λ i. OffsetOf i ds) ds (λ i o. o)
