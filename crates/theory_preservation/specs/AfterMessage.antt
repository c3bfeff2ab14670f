-- After a message each end goes on by its own type: what typing says of its holder then, and that the two ends are of one type again.
use Rattle.std.specs.Prelude.{◌≡◌, List, [], ◌∷◌, ◌++◌, cond}
use Rattle.std.proofs.Common.{sym, ◌∙◌, subst}
use Rattle.std.proofs.Math.Path.{ap}
use Rattle.std.proofs.Math.Option.{some, get_or, none-ne-some, some-injective}
use Rattle.notation.specs.Tree.{Name, Located, Ty, Alternatives, Proc, Branches}
use Rattle.calculus.specs.Named.{lookup}
use Rattle.calculus.specs.Types.{Side, used, unfolded, Passing, passing, Choosing, choosing, labelled}
use Rattle.calculus.specs.Program.{slot, Context, Program}
use Rattle.calculus.specs.Outward.{Outward}
use Rattle.calculus.specs.OneType.{OneType}
use Rattle.calculus.specs.Typing.{acting, Typed, TypedBranches, last_branch, one_branch, bringing, retyped}
use Rattle.calculus.specs.Configuration.{End, retyped_end}
use Rattle.calculus.specs.Steps.{passes, chooses, after_passing, after_choosing, after_message, branch_of}
use Rattle.calculus.specs.WellFormed.{context_of}
use Rattle.theory_derivations.specs.OneType.{one_trans, one_passing, one_choosing}
use Rattle.theory_derivations.specs.Named.{by_test}
use Rattle.theory_ends.specs.Contexts.{context_retyped, context_append, acts}
use Rattle.theory_preservation.specs.Outward.{outward_standing, outward_passing, outward_choosing}

-- the branch of a label is typed with what the label leads to
pub branch_typed : {p : Program} {G : Context} {c : Name} {r : Alternatives Name} {B : Branches} → TypedBranches p G c r B → (l : Name) (P : Proc) → branch_of l B ≡ some P
    → (A : Ty Name) × (labelled l r ≡ some A) × Typed p (retyped c A G) P
branch_typed last_branch l P e = absurd (none-ne-some P e)
branch_typed {p} {G} {c} {r} (one_branch {l = m} {P = Q} {B = B} A h d ds) l P e =
    by_test (λ t. cond t (some Q) (branch_of l B) ≡ some P → (A : Ty Name) × (labelled l r ≡ some A) × Typed p (retyped c A G) P) l m.name
    (λ z y. (A, ap (λ l. labelled l r) z ∙ h, subst (Typed p (retyped c A G)) (some-injective _ _ y) d)) (λ _ y. branch_typed ds l P y) e

module _ (p : Program) where
  -- ── one end
  abbrev definition_of : Ty Name → Ty Name
  definition_of A = unfolded p.types A

  pub after_label : (l : Located) (A : Ty Name) {B : Ty Name} {t : Choosing} → choosing (definition_of A) ≡ some t → labelled l.name t.labels ≡ some B → after_message p (chooses l) A ≡ B
  unfolding after_message
  after_label l A e h = ap (after_choosing A l.name) e ∙ ap (λ o. get_or o A) h

  pub after_channel : (a : Located) (A : Ty Name) {t : Passing} → passing (definition_of A) ≡ some t → after_message p (passes a) A ≡ t.after
  unfolding after_message
  after_channel a A e = ap (after_passing A) e

  -- the end e, held under a name, is the one that typing speaks of
  pub record TypedEnd (e : End) (s : Side) (T : Ty Name) : Type 0 where
    pub side : e.side ≡ s
    pub type : definition_of e.type ≡ T

  pub typed_end : (l : List (Name × End)) (c : Name) {s : Side} {T : Ty Name} {e : End} → lookup c l ≡ some e → acting p c (context_of l) ≡ some (slot s T) → TypedEnd e s T
  typed_end l c {e = e} le h =
      let a = acts p c l h in
      let z : a.end ≡ e = some-injective _ _ (sym a.found ∙ le) in
      record { side = ap (λ (e : End). e.side) (sym z) ∙ a.side; type = ap (λ (e : End). definition_of e.type) (sym z) ∙ a.type }

  -- what its holder is typed with then
  pub typed_on : {A B : Ty Name} {P : Proc} (c : Name) (l : List (Name × End)) → B ≡ A → Typed p (retyped c A (context_of l)) P → Typed p (context_of (retyped_end c B l)) P
  typed_on {B = B} {P = P} c l z d = subst (λ G. Typed p G P) (ap (λ A. retyped c A (context_of l)) (sym z) ∙ context_retyped c B l) d

  pub typed_taking : {A B : Ty Name} {P : Proc} (c : Name) (l : List (Name × End)) (x : Name) (d : End) → B ≡ A
      → Typed p (bringing x (slot d.side d.type) (retyped c A (context_of l))) P → Typed p (context_of (retyped_end c B l ++ ((x, d) ∷ []))) P
  typed_taking {B = B} {P = P} c l x d z t =
      subst (λ G. Typed p G P)
      (ap (λ G. bringing x (slot d.side d.type) G) (ap (λ A. retyped c A (context_of l)) (sym z) ∙ context_retyped c B l)
      ∙ sym (context_append (retyped_end c B l) ((x, d) ∷ []))) t

  -- ── two ends of one type: a label leads both to one type
  pub record LabelOver (l : Located) (A B : Ty Name) : Type 0 where
    pub one : OneType p (after_message p (chooses l) A) (after_message p (chooses l) B)
    pub outwards : Outward p B → Outward p (after_message p (chooses l) B)

  pub label_over : (l : Located) {A B D : Ty Name} {t : Choosing} → OneType p A B → choosing (definition_of A) ≡ some t → labelled l.name t.labels ≡ some D → LabelOver l A B
  label_over l {A} {B} one e h =
      let u = one_choosing p one e in
      let v = u.2.leads l.name h in
      let z = after_label l B u.1 v.1 in
      record {
        one = rw (after_label l A e h, z) v.2;
        outwards = λ o. subst (Outward p) (sym z) (outward_choosing p (definition_of B) u.0 l.name v.0 u.1 v.1 (outward_standing p B o));
      }

  -- a channel of the type D goes over: what is left is of one type, and what comes over is of the type that the taker's own end says
  pub record ChannelOver (a : Located) (A B D : Ty Name) (s : Side) : Type 0 where
    pub passing_there : Passing
    pub goes : passing (definition_of B) ≡ some passing_there
    pub one : OneType p (after_message p (passes a) A) (after_message p (passes a) B)
    pub what : OneType p D passing_there.what
    pub side : passing_there.side ≡ s
    pub outside_uses : Outward p B → passing_there.side ≡ used
    pub left : Outward p B → Outward p (after_message p (passes a) B)
    pub passed : Outward p B → Outward p passing_there.what

  pub channel_over : (a : Located) {A B D : Ty Name} {t : Passing} → OneType p A B → passing (definition_of A) ≡ some t → OneType p D t.what → ChannelOver a A B D t.side
  channel_over a {A} {B} one e d =
      let u = one_passing p one e in
      let z = after_channel a B u.1 in
      record {
        passing_there = u.0;
        goes = u.1;
        one = rw (after_channel a A e, z) u.2.after;
        what = one_trans p d u.2.what;
        side = sym u.2.side;
        outside_uses = λ o. (outward_passing p (definition_of B) u.0 u.1 (outward_standing p B o)).1;
        left = λ o. subst (Outward p) (sym z) (outward_passing p (definition_of B) u.0 u.1 (outward_standing p B o)).3;
        passed = λ o. (outward_passing p (definition_of B) u.0 u.1 (outward_standing p B o)).2;
      }
