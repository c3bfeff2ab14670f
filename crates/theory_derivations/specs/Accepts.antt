-- The checking pass accepts exactly what the rules derive: processes, scripts, texts.
use Rattle.std.specs.Prelude.{ℕ, zero, suc, ◌+◌, ◌≤◌, ◌≡◌, refl, ◌↔◌, List, [], ◌∷◌, ◌++◌, length}
use Rattle.std.proofs.Common.{arith, sym, ◌∙◌, ap, subst, length-append}
use Rattle.std.proofs.Math.Logic.Iff
use Rattle.std.proofs.Math.Option.{Option, some, none, none-ne-some, some-injective}
use Rattle.std.proofs.Math.ListN.{get_elem?}
use Rattle.notation.specs.Limits.{held_limit}
use Rattle.notation.specs.Tree.{Name, Located, Proc, Entry, Branches, Alternatives, Declaration, declare_type, declare_proc, declare_exec}
use Rattle.notation.specs.Reader.{Result, got, refused}
use Rattle.notation.specs.Scripts.{read_text}
use Rattle.notation.specs.declared.reading.Cursor.{Cursor}
use Rattle.calculus.specs.Types.{Side, provided, used}
use Rattle.calculus.specs.Program.{Context, Signature, Program, on_side, signature_context, entries, program_of}
use Rattle.calculus.specs.Verdict.{Verdict, fine, and_then}
use Rattle.calculus.specs.Declarations.{channels, declared}
use Rattle.calculus.specs.Typing.{Typed, TypedBranches, TypedBody}
use Rattle.calculus.specs.Checking.{check, check_branches, unless_named, check_declarations, typed}
use Rattle.calculus.specs.Accepted.{Checked, accepted, faulty, judged, checked_read, checked}
use Rattle.calculus.specs.Named.{In}
use Rattle.calculus.specs.Demands.{Derivation, Derivable}
use Rattle.theory_notation.specs.Notated.{derives_iff}
use Rattle.theory_derivations.specs.Booleans.{each_cons}
use Rattle.theory_derivations.specs.Fine.{refuted, then_law}
use Rattle.theory_derivations.specs.InOrder.{declared_iff}
use Rattle.theory_derivations.specs.Rules.{check_iff, branches_iff}

-- ── processes
pub sound : {p : Program} (P : Proc) (G : Context) → check p G P ≡ fine → Typed p G P
sound {p} P G = (check_iff p P G).0

pub complete : {p : Program} {P : Proc} {G : Context} → Typed p G P → check p G P ≡ fine
complete {p} {P} {G} = (check_iff p P G).1

pub branches_sound : {p : Program} (B : Branches) (G : Context) (at : ℕ) (c : Name) (r : Alternatives Name)
    → check_branches p G at c r B ≡ fine → TypedBranches p G c r B
branches_sound {p} B G at c r = (branches_iff p B G at c r).0

pub branches_complete : {p : Program} {B : Branches} {G : Context} (at : ℕ) {c : Name} {r : Alternatives Name}
    → TypedBranches p G c r B → check_branches p G at c r B ≡ fine
branches_complete {p} {B} {G} at {c} {r} = (branches_iff p B G at c r).1

-- ── a process of a script: "a signature's 17th name is taken before the body"
unless_named_law : {A B : Type 0} {o : Option Located} {v : Verdict} → (o ≡ none) ↔ A → (v ≡ fine) ↔ B → (unless_named o v ≡ fine) ↔ (A × B)
unless_named_law {o = none} f g = (λ e. (f.0 refl, g.0 e), λ h. g.1 h.1)
unless_named_law {o = some x} f g = (refuted, λ h. absurd (none-ne-some x (sym (f.1 h.0))))

none_there_iff : {X : Type 0} (l : List X) (n : ℕ) → (get_elem? l n ≡ none) ↔ (length l ≤ n)
none_there_iff [] n = (λ e. omega arith, λ h. refl)
none_there_iff (x ∷ l) zero = (λ e. absurd (none-ne-some x (sym e)), λ h. absurd (omega arith))
none_there_iff (x ∷ l) (suc n) = let r = none_there_iff l n in (λ e. let h = r.0 e in omega arith, λ h. r.1 (omega arith))

length_side : (s : Side) (xs : List Entry) → length (channels xs) ≡ length (on_side s (entries xs))
length_side s [] = refl
length_side s (x ∷ xs) = ap suc (length_side s xs)

abbrev signed : List Entry → List Entry → Proc → Signature
signed xs ys P = record { provides = entries xs; uses = entries ys; body = P }

length_signature : (xs ys : List Entry) (P : Proc) → length (channels xs ++ channels ys) ≡ length (signature_context (signed xs ys P))
length_signature xs ys P =
    length-append (channels xs) (channels ys)
    ∙ (λ i. length_side provided xs i + length_side used ys i)
    ∙ sym (length-append (on_side provided (entries xs)) (on_side used (entries ys)))

body_iff : (p : Program) (xs ys : List Entry) (P : Proc)
    → (unless_named (get_elem? (channels xs ++ channels ys) held_limit) (check p (signature_context (signed xs ys P)) P) ≡ fine) ↔ TypedBody p (signed xs ys P)
body_iff p xs ys P = Iff.trans
    (unless_named_law (none_there_iff (channels xs ++ channels ys) held_limit) (check_iff p P (signature_context (signed xs ys P)))) (
      λ (l, d). record { room = omega (arith, length_signature xs ys P); body = d },
      λ b. (omega (arith, length_signature xs ys P, b.room), b.body),
    )

-- ── scripts
abbrev Each : Program → List (Name × Signature) → Type 0
Each p l = (e : Name × Signature) → In e l → TypedBody p e.1

declarations_iff : (p : Program) (ds : List Declaration) → (check_declarations p ds ≡ fine) ↔ Each p (program_of ds).processes
unfolding program_of
declarations_iff p [] = (λ _ e m. elim m [ ], λ _. refl)
declarations_iff p (declare_type n A ∷ r) = declarations_iff p r
declarations_iff p (declare_proc n xs ys P ∷ r) = Iff.trans
    (then_law (body_iff p xs ys P) (declarations_iff p r))
    (each_cons (λ e. TypedBody p e.1) (n.name, signed xs ys P) (program_of r).processes)
declarations_iff p (declare_exec n ∷ r) = declarations_iff p r

pub typed_iff : (ds : List Declaration) → (typed ds ≡ fine) ↔ Derivation ds
unfolding typed
typed_iff ds = Iff.trans (declarations_iff (program_of ds) ds) (λ f n s. f (n, s), λ f e. f e.0 e.1)

-- ── texts
abbrev declarations_of : Checked → Option (List Declaration)
declarations_of (accepted ds) = some ds
declarations_of (faulty n at) = none

judged_iff : (ds es : List Declaration) (v : Verdict) → (judged ds v ≡ accepted es) ↔ ((ds ≡ es) × (v ≡ fine))
judged_iff ds es fine = (λ e. (some-injective ds es (ap declarations_of e), refl), λ h. ap accepted h.0)
judged_iff ds es (Verdict.refused n at) = (λ e. absurd (none-ne-some es (ap declarations_of e)), λ h. refuted h.1)

read_iff : (r : Result (List Declaration)) (ds : List Declaration)
    → (checked_read r ≡ accepted ds) ↔ ((c : Cursor) × (r ≡ got ds c) × (and_then (declared ds) (typed ds) ≡ fine))
read_iff r ds = (to r, λ (c, e, f). ap checked_read e ∙ (judged_iff ds ds (and_then (declared ds) (typed ds))).1 (refl, f))
  where
    to : (r : Result (List Declaration)) → checked_read r ≡ accepted ds → (c : Cursor) × (r ≡ got ds c) × (and_then (declared ds) (typed ds) ≡ fine)
    to (got es c) e =
        let h = (judged_iff es ds (and_then (declared es) (typed es))).0 e in
        (c, ap (λ fs. got fs c) h.0, subst (λ fs. and_then (declared fs) (typed fs) ≡ fine) h.0 h.1)
    to (refused n at) e = absurd (none-ne-some ds (ap declarations_of e))

-- the reader reads the script that is derived
pub read_as : {text : List ℕ} {ds : List Declaration} → Derivable text ds → (c : Cursor) × (read_text text ≡ got ds c)
read_as {text} {ds} d = (derives_iff text ds).1 d.script

pub accepts : (text : List ℕ) (ds : List Declaration) → (checked text ≡ accepted ds) ↔ Derivable text ds
unfolding checked
accepts text ds =
    let t = then_law (declared_iff ds) (typed_iff ds) in
    Iff.trans (read_iff (read_text text) ds) (
      λ (c, e, f). record { script = (derives_iff text ds).0 (c, e); declarations = (t.0 f).0; derivation = (t.0 f).1 },
      λ d. let (c, e) = read_as d in (c, e, t.1 (d.declarations, d.derivation)),
    )
