-- A script has few warnings: a recv leaves out no more labels than its type has terms, and a script has no more recvs than terms.
use Rattle.std.specs.Prelude.{ℕ, ◌+◌, ◌*◌, ◌≤◌, ◌≡◌, refl, Bool, true, false, cond, length}
use Rattle.std.proofs.Common.{ap, subst}
use mathlib.Core.List.{List, [], ◌∷◌}
use Rattle.std.proofs.Math.Option.{Option, some, none, map, get_or, some-injective, none-ne-some}
use native.Mathlib.Omega.{arith}
use Rattle.std.proofs.Math.ListN.{length-append, length-map}
use Rattle.notation.specs.Bytes.{same}
use Rattle.notation.specs.Limits.{type_term_limit, process_term_limit}
use Rattle.notation.specs.Sizes.{type_terms, alternatives_terms, process_terms, branches_terms}
use Rattle.notation.specs.declared.reading.Tally.{Tally}
use Rattle.notation.specs.Tables.{more_terms, more_types, more_entries, more_execs, after_type, after_process, after_branches, after_entries, after_declaration, after_script, nothing, Within}
use Rattle.notation.specs.Tree.{Name, Located, Ty, unit, named, tensor, par, lolli, plus, with, Alternatives, alternative, Proc, empty, send_unit, send_channel, send_label, cancel, spawn, recv_unit, recv_channel, recv_label, fwd, call, raise, try, Branches, branch, Entry, Declaration, declare_type, declare_proc, declare_exec, plain, plains}
use Rattle.calculus.specs.Named.{lookup, changed, without, is_some}
use Rattle.calculus.specs.Types.{Side, provided, used, unfolded, Passing, passing, Choosing, choosing, labelled}
use Rattle.calculus.specs.Program.{Slot, slot, Context, Program, on_side, signature_context, entries, program_of}
use Rattle.calculus.specs.Declarations.{gather}
use Rattle.calculus.specs.Mentions.{spawn_takes, spawn_leaves, try_takes}
use Rattle.calculus.specs.Typing.{unfolded_slot, acting, retyped, bringing}
use Rattle.calculus.specs.Steps.{branch_of}
use Rattle.calculus.specs.Warnings.{Missing, left_out, missing_on, on_typed, missing, branches_missing, warning_in, own_warnings, warnings}
use Rattle.theory_derivations.specs.Booleans.{each_cons}
use Rattle.theory_derivations.specs.Named.{lookup_in}
use Rattle.theory_ends.specs.Names.{without_sub, kept_sub}
use Rattle.theory_preservation.specs.Each.{Each, each_none, each_sub, each_append, each_more}
use Rattle.read_tables.specs.Types.{type_counts}
use Rattle.read_tables.specs.Processes.{process_counts, process_grown, branches_grown}
use Rattle.read_tables.specs.Declarations.{entries_grown, declaration_grown}

-- ── types that have few terms
abbrev Few : Ty Name → Type 0
Few A = type_terms A ≤ type_term_limit

some_term : (A : Ty Name) → 1 ≤ type_terms A
unfolding type_terms
some_term unit = omega arith
some_term (named n) = omega arith
some_term (tensor A B) = omega arith
some_term (par A B) = omega arith
some_term (lolli A B) = omega arith
some_term (plus r) = omega arith
some_term (with r) = omega arith

mutual
  unfolding type_terms plain

  plain_terms : (A : Ty Located) → type_terms (plain A) ≡ type_terms A
  plain_terms unit = refl
  plain_terms (named n) = refl
  plain_terms (tensor A B) = omega (arith, plain_terms A, plain_terms B)
  plain_terms (par A B) = omega (arith, plain_terms A, plain_terms B)
  plain_terms (lolli A B) = omega (arith, plain_terms A, plain_terms B)
  plain_terms (plus r) = omega (arith, plains_terms r)
  plain_terms (with r) = omega (arith, plains_terms r)

  plains_terms : (r : Alternatives Located) → alternatives_terms (plains r) ≡ alternatives_terms r
  plains_terms Alternatives.none = refl
  plains_terms (alternative l A r) = omega (arith, plain_terms A, plains_terms r)

left_few : (r : Alternatives Name) (B : Branches) → length (left_out r B) ≤ alternatives_terms r
unfolding left_out type_terms
left_few Alternatives.none B = omega arith
left_few (alternative l A r) B = go (is_some (branch_of l B)) (left_few r B)
  where
    go : (b : Bool) → length (left_out r B) ≤ alternatives_terms r → length (cond b (left_out r B) (l ∷ left_out r B)) ≤ type_terms A + alternatives_terms r
    go true h = omega arith
    go false h = omega (arith, some_term A)

passing_few : (T : Ty Name) (t : Passing) → passing T ≡ some t → Few T → Few t.what × Few t.after
unfolding passing type_terms
passing_few unit t e h = absurd (none-ne-some t e)
passing_few (named n) t e h = absurd (none-ne-some t e)
passing_few (tensor A B) t e h = subst (λ (u : Passing). Few u.what × Few u.after) (some-injective _ t e) (omega arith, omega arith)
passing_few (par A B) t e h = subst (λ (u : Passing). Few u.what × Few u.after) (some-injective _ t e) (omega arith, omega arith)
passing_few (lolli A B) t e h = subst (λ (u : Passing). Few u.what × Few u.after) (some-injective _ t e) (omega arith, omega arith)
passing_few (plus r) t e h = absurd (none-ne-some t e)
passing_few (with r) t e h = absurd (none-ne-some t e)

choosing_few : (T : Ty Name) (t : Choosing) → choosing T ≡ some t → Few T → alternatives_terms t.labels ≤ type_term_limit
unfolding choosing type_terms
choosing_few unit t e h = absurd (none-ne-some t e)
choosing_few (named n) t e h = absurd (none-ne-some t e)
choosing_few (tensor A B) t e h = absurd (none-ne-some t e)
choosing_few (par A B) t e h = absurd (none-ne-some t e)
choosing_few (lolli A B) t e h = absurd (none-ne-some t e)
choosing_few (plus r) t e h = subst (λ (u : Choosing). alternatives_terms u.labels ≤ type_term_limit) (some-injective _ t e) (omega arith)
choosing_few (with r) t e h = subst (λ (u : Choosing). alternatives_terms u.labels ≤ type_term_limit) (some-injective _ t e) (omega arith)

labelled_few : (l : Name) (r : Alternatives Name) (A : Ty Name) → labelled l r ≡ some A → type_terms A ≤ alternatives_terms r
unfolding labelled type_terms
labelled_few l Alternatives.none A e = absurd (none-ne-some A e)
labelled_few l (alternative m C r) A e = go (same l m) (labelled_few l r A) e
  where
    go : (b : Bool) → (labelled l r ≡ some A → type_terms A ≤ alternatives_terms r) → cond b (some C) (labelled l r) ≡ some A → type_terms A ≤ type_terms C + alternatives_terms r
    go true h q = omega (arith, ap type_terms (some-injective C A q))
    go false h q = omega (arith, h q)

-- ── what is held
abbrev FewHeld : Context → Type 0
FewHeld = Each (λ (e : Name × Slot). Few e.1.type)

abbrev FewTypes : Program → Type 0
FewTypes p = Each (λ (e : Name × Ty Name). Few e.1) p.types

retyped_few : (c : Name) (A : Ty Name) (G : Context) → Few A → FewHeld G → FewHeld (retyped c A G)
unfolding changed
retyped_few c A [] h f = f
retyped_few c A (e ∷ G) h f = let g = (each_cons _ e G).1 f in go (same c e.0) g (retyped_few c A G h g.1)
  where
    go : (b : Bool) → Few e.1.type × FewHeld G → FewHeld (retyped c A G) → FewHeld (cond b ((e.0, slot e.1.side A) ∷ G) (e ∷ retyped c A G))
    go true g k = (each_cons _ (e.0, slot e.1.side A) G).0 (h, g.1)
    go false g k = (each_cons _ e (retyped c A G)).0 (g.0, k)

unfolded_few : (types : List (Name × Ty Name)) → Each (λ (e : Name × Ty Name). Few e.1) types → (A : Ty Name) → Few A → Few (unfolded types A)
unfolded_few types f unit h = h
unfolded_few types f (named n) h = go (lookup n types) refl
  where
    go : (o : Option (Ty Name)) → lookup n types ≡ o → Few (get_or o (named n))
    go none e = h
    go (some A) e = f (n, A) (lookup_in n types e)
unfolded_few types f (tensor A B) h = h
unfolded_few types f (par A B) h = h
unfolded_few types f (lolli A B) h = h
unfolded_few types f (plus r) h = h
unfolded_few types f (with r) h = h

typed_few : {X : Type 0} (o : Option X) (k : X → List Missing) (n : ℕ) → ((x : X) → o ≡ some x → length (k x) ≤ n) → length (on_typed o k) ≤ n
typed_few none k n h = omega arith
typed_few (some x) k n h = h x refl

-- ── a process, which with its types fills the tables from k on
module _ (p : Program) (t : FewTypes p) where
  acting_few : (c : Name) (G : Context) (h : Slot) → FewHeld G → acting p c G ≡ some h → Few h.type
  acting_few c G h f e = go (lookup c G) refl e
    where
      go : (o : Option Slot) → lookup c G ≡ o → map (unfolded_slot p) o ≡ some h → Few h.type
      go none q z = absurd (none-ne-some h z)
      go (some g) q z = subst (λ (x : Slot). Few x.type) (some-injective (unfolded_slot p g) h z) (unfolded_few p.types t g.type (f (c, g) (lookup_in c G q)))

  label_few : (c l : Name) (G : Context) (x : Slot) (u : Choosing) (A : Ty Name) → FewHeld G → acting p c G ≡ some x → choosing x.type ≡ some u → labelled l u.labels ≡ some A → Few A
  label_few c l G x u A f e q z = omega (arith, labelled_few l u.labels A z, choosing_few x.type u q (acting_few c G x f e))

  mutual
    unfolding missing process_terms after_process spawn_takes spawn_leaves try_takes

    missing_few : (P : Proc) (k : Tally) (G : Context) → (after_process P k).nodes ≤ type_term_limit → FewHeld G → length (missing p G P) ≤ type_term_limit * process_terms P
    missing_few (empty at) k G h f = omega arith
    missing_few (send_unit at c P) k G h f = omega (arith, missing_few P (more_terms k) (without c.name G) h (each_sub _ (without_sub c.name G) f))
    missing_few (send_channel at c a P) k G h f =
        typed_few (acting p c.name G) _ _ λ x e.
        typed_few (passing x.type) _ _ λ u q.
        omega (arith, missing_few P (more_terms k) (retyped c.name u.after (without a.name G)) h (retyped_few c.name u.after _ (passing_few x.type u q (acting_few c.name G x f e)).1 (each_sub _ (without_sub a.name G) f)))
    missing_few (send_label at c l P) k G h f =
        typed_few (acting p c.name G) _ _ λ x e.
        typed_few (choosing x.type) _ _ λ u q.
        typed_few (labelled l.name u.labels) _ _ λ A z.
        omega (arith, missing_few P (more_terms k) (retyped c.name A G) h (retyped_few c.name A G (label_few c.name l.name G x u A f e q z) f))
    missing_few (cancel at c P) k G h f = omega (arith, missing_few P (more_terms k) (without c.name G) h (each_sub _ (without_sub c.name G) f))
    missing_few (spawn x A P Q) k G h f =
        let d = after_type A (more_terms k) in
        let e = after_process P d in
        let a : Few (plain A) = omega (arith, h, plain_terms A, (type_counts A (more_terms k)).0, (process_grown P d []).more.4, (process_grown Q e []).more.4) in
        let y = missing_few P d (bringing x.name (slot provided (plain A)) (spawn_takes x.name P G)) (omega (arith, h, (process_grown Q e []).more.4)) (each_more _ _ _ (each_sub _ (kept_sub _ G) f) a) in
        let z = missing_few Q e (bringing x.name (slot used (plain A)) (spawn_leaves x.name P G)) h (each_more _ _ _ (each_sub _ (kept_sub _ G) f) a) in
        omega (arith, y, z, length-append (missing p (bringing x.name (slot provided (plain A)) (spawn_takes x.name P G)) P) (missing p (bringing x.name (slot used (plain A)) (spawn_leaves x.name P G)) Q))
    missing_few (recv_unit at c P) k G h f = omega (arith, missing_few P (more_terms k) (without c.name G) h (each_sub _ (without_sub c.name G) f))
    missing_few (recv_channel at c x P) k G h f =
        typed_few (acting p c.name G) _ _ λ y e.
        typed_few (passing y.type) _ _ λ u q.
        let g = passing_few y.type u q (acting_few c.name G y f e) in
        omega (arith, missing_few P (more_terms k) (bringing x.name (slot u.side u.what) (retyped c.name u.after G)) h (each_more _ _ _ (retyped_few c.name u.after G g.1 f) g.0))
    missing_few (recv_label at c B) k G h f =
        typed_few (acting p c.name G) _ _ λ x e.
        typed_few (choosing x.type) _ _ λ u q.
        let g = choosing_few x.type u q (acting_few c.name G x f e) in
        let ls = left_out u.labels B in
        omega (arith, g, left_few u.labels B, branches_few B (more_terms k) G c.name u.labels h g f, length-map {B = Missing} ls (λ l. record { channel = c; label = l }), length-append (missing_on c ls) (branches_missing p G c.name u.labels B))
    missing_few (fwd at x c) k G h f = omega arith
    missing_few (call at q bracket xs ys) k G h f = omega arith
    missing_few (raise at P) k G h f = omega (arith, missing_few P (more_terms k) G h f)
    missing_few (try at P Q) k G h f =
        let e = after_process P (more_terms k) in
        let y = missing_few P (more_terms k) (try_takes P G) (omega (arith, h, (process_grown Q e []).more.4)) (each_sub _ (kept_sub _ G) f) in
        let z = missing_few Q e (try_takes Q G) h (each_sub _ (kept_sub _ G) f) in
        omega (arith, y, z, length-append (missing p (try_takes P G) P) (missing p (try_takes Q G) Q))

    branches_few : (B : Branches) (k : Tally) (G : Context) (c : Name) (r : Alternatives Name) → (after_branches B k).nodes ≤ type_term_limit → alternatives_terms r ≤ type_term_limit → FewHeld G → length (branches_missing p G c r B) ≤ type_term_limit * branches_terms B
    branches_few Branches.none k G c r h g f = omega arith
    branches_few (branch l P B) k G c r h g f =
        let e = after_process P k in
        let y = typed_few (labelled l.name r) (λ A. missing p (retyped c A G) P) (type_term_limit * process_terms P) λ A z.
        missing_few P k (retyped c A G) (omega (arith, h, (branches_grown B e []).more.4)) (retyped_few c A G (omega (arith, labelled_few l.name r A z, g)) f) in
        omega (arith, y, branches_few B e G c r h g f, length-append (on_typed (labelled l.name r) (λ A. missing p (retyped c A G) P)) (branches_missing p G c r B))

-- ── a script
entries_few : (s : Side) (es : List Entry) (k : Tally) → (after_entries es k).nodes ≤ type_term_limit → FewHeld (on_side s (entries es))
unfolding after_entries
entries_few s [] k h = each_none _
entries_few s (e ∷ es) k h =
    let d = more_entries (after_type e.type k) in
    (each_cons _ (e.channel.name, slot s (plain e.type)) (on_side s (entries es))).0
    (omega (arith, h, plain_terms e.type, (type_counts e.type k).0, (entries_grown es d []).more.4), entries_few s es d h)

script_nodes : (ds : List Declaration) (k : Tally) → k.nodes ≤ (after_script ds k).nodes
unfolding after_script
script_nodes [] k = omega arith
script_nodes (a ∷ r) k = omega (arith, script_nodes r (after_declaration a k), (declaration_grown a k []).more.4)

types_few : (ds : List Declaration) (k : Tally) → (after_script ds k).nodes ≤ type_term_limit → FewTypes (program_of ds)
unfolding after_script after_declaration program_of
types_few [] k h = each_none _
types_few (declare_type n A ∷ r) k h =
    (each_cons _ (n.name, plain A) (program_of r).types).0
    (omega (arith, h, plain_terms A, (type_counts A k).0, script_nodes r (more_types (after_type A k))), types_few r (more_types (after_type A k)) h)
types_few (declare_proc n xs ys P ∷ r) k h = types_few r (after_declaration (declare_proc n xs ys P) k) h
types_few (declare_exec n ∷ r) k h = types_few r (more_execs k) h

-- the declarations of a script of the program p, from the tally k on
module _ (p : Program) (t : FewTypes p) where
  own_few : (a : Declaration) (k : Tally) → (after_declaration a k).nodes ≤ type_term_limit → length (own_warnings p a) + type_term_limit * k.terms ≤ type_term_limit * (after_declaration a k).terms
  unfolding after_declaration
  own_few (declare_type n A) k h = omega (arith, (type_counts A k).1)
  own_few (declare_proc n xs ys P) k h =
      let d = after_entries xs k in
      let e = after_entries ys d in
      let G = signature_context (record { provides = entries xs; uses = entries ys; body = P }) in
      let g : FewHeld G = each_append _ _ _ (entries_few provided xs k (omega (arith, h, (entries_grown ys d []).more.4, (process_grown P e []).more.4))) (entries_few used ys d (omega (arith, h, (process_grown P e []).more.4))) in
      omega (arith, missing_few p t P e G h g, length-map (missing p G P) (warning_in n), (process_counts P e).0, (entries_grown xs k []).more.6, (entries_grown ys d []).more.6)
  own_few (declare_exec n) k h = omega arith

  script_few : (ds : List Declaration) (k : Tally) → (after_script ds k).nodes ≤ type_term_limit → length (gather (own_warnings p) ds) + type_term_limit * k.terms ≤ type_term_limit * (after_script ds k).terms
  unfolding after_script
  script_few [] k h = omega arith
  script_few (a ∷ r) k h = omega (
    arith,
    own_few a k (omega (arith, h, script_nodes r (after_declaration a k))),
    script_few r (after_declaration a k) h,
    length-append (own_warnings p a) (gather (own_warnings p) r),
  )

pub few_warnings : (ds : List Declaration) → Within (after_script ds nothing) → length (warnings ds) ≤ type_term_limit * process_term_limit
unfolding warnings
few_warnings ds h = omega (arith, script_few (program_of ds) (types_few ds nothing h.4) ds nothing h.4, h.6)
