-- A walk over the names of a call's list, as far as the code has come.
use Rattle.std.specs.Prelude.{ℕ, ◌<◌, ◌≤◌, ◌≡◌, refl, List, [], ◌∷◌, Bool, true, false, ◌||◌, length}
use Rattle.std.proofs.Common.{sym, ◌∙◌, ap, subst}
use Rattle.notation.specs.Bytes.{same}
use Rattle.notation.specs.Token.{name_at, token_at}
use Rattle.notation.specs.Tree.{Name, Located}
use Rattle.notation.specs.Reader.{name_in}
use Rattle.calculus.specs.Mentions.{is_one_of}
use Rattle.read_tables.specs.Names.{argument_from, Forward, NamesFrom, CallAt}
use Rattle.read_tables.specs.declared.arguments.Argument.{Argument}
use Rattle.read_tables.specs.declared.arguments.Argument.TheVariants as arguments
use Rattle.check_contexts.specs.Marks.{is_name, Marked, marked_then, marked_none}
use Rattle.check_contexts.specs.declared.marks.Marks.{Marks}
use Rattle.check_contexts.specs.declared.names.ListMarks.{ListMarks}

-- where the list ends
pub record Ends (s : List ℕ) (from r : ℕ) : Type 0 where
  pub is : (xs : List Located) (rest : ℕ) → NamesFrom s from xs rest → r ≡ rest

-- whether a name is in the list
pub record Among (s : List ℕ) (from : ℕ) (n : Name) (r : Bool) : Type 0 where
  pub is : (xs : List Located) (rest : ℕ) → NamesFrom s from xs rest → r ≡ is_one_of n xs

-- marks after a list, and after both lists of a call
pub record MarkedList (s ends : List ℕ) (n from : ℕ) (sought m : Marks) (r : ListMarks) : Type 0 where
  pub is : (xs : List Located) (rest : ℕ) → NamesFrom s from xs rest → Marked s ends n sought (λ x. is_one_of x xs) m r.marks × (r.past ≡ rest)

pub record MarkedCall (s ends : List ℕ) (n bracket : ℕ) (sought m r : Marks) : Type 0 where
  pub is : (xs ys : List Located) → CallAt s bracket xs ys → Marked s ends n sought (λ x. is_one_of x xs || is_one_of x ys) m r

-- ── a walk from `from` that has come to i: of a list xs the names ys are left, and R holds of the two
pub record Walking (s : List ℕ) (from i : ℕ) (R : List Located → List Located → Type 0) : Type 0 where
  pub on : (xs : List Located) (rest : ℕ) → NamesFrom s from xs rest → (ys : List Located) × NamesFrom s i ys rest × R xs ys

pub walk_start : (s : List ℕ) (i : ℕ) (R : List Located → List Located → Type 0) → ((xs : List Located) → R xs xs) → Walking s i i R
walk_start s i R h = record { on = λ xs rest n. (xs, n, h xs) }

-- what an argument says
abbrev name_of : Argument → ℕ
name_of (arguments.Name i p) = i
name_of (arguments.End p) = 0

abbrev past_of : Argument → ℕ
past_of (arguments.Name i p) = p
past_of (arguments.End p) = p

abbrev is_argument : Argument → Type 0
is_argument (arguments.Name i p) = Unit {0}
is_argument (arguments.End p) = ⊥

abbrev is_end : Argument → Type 0
is_end (arguments.Name i p) = ⊥
is_end (arguments.End p) = Unit {0}

-- the list that is left where a name stands, and where none does
pub at_name : (s : List ℕ) (i a p : ℕ) (ys : List Located) (rest : ℕ) → argument_from s i ≡ arguments.Name a p → NamesFrom s i ys rest → (zs : List Located) × (ys ≡ name_in s a ∷ zs) × NamesFrom s p zs rest
unfolding NamesFrom
at_name s i a p [] rest e h = absurd (subst is_argument (sym e ∙ h) tt)
at_name s i a p (y ∷ ys) rest e (q, f, g, h) =
    let z : y.at ≡ a = ap name_of (sym f ∙ e) in
    let u : q ≡ p = ap past_of (sym f ∙ e) in
    (ys, ap (λ x. x ∷ ys) (sym g ∙ ap (name_in s) z), subst (λ x. NamesFrom s x ys rest) u h)

pub at_end : (s : List ℕ) (i p : ℕ) (ys : List Located) (rest : ℕ) → argument_from s i ≡ arguments.End p → NamesFrom s i ys rest → (ys ≡ []) × (p ≡ rest)
unfolding NamesFrom
at_end s i p [] rest e h = (refl, ap past_of (sym e ∙ h))
at_end s i p (y ∷ ys) rest e (q, f, g, h) = absurd (subst is_end (sym e ∙ f) tt)

module _ {s : List ℕ} {from i : ℕ} {R : List Located → List Located → Type 0} (t : Walking s from i R) where
  pub walk_on : (a p : ℕ) (Q : List Located → List Located → Type 0) → argument_from s i ≡ arguments.Name a p
      → ((xs ys : List Located) (rest : ℕ) → NamesFrom s p ys rest → R xs (name_in s a ∷ ys) → Q xs ys) → Walking s from p Q
  walk_on a p Q e f = record {
    on = λ xs rest n.
        let (ys, m, r) = t.on xs rest n in
        let (zs, q, o) = at_name s i a p ys rest e m in
        (zs, o, f xs zs rest o (subst (R xs) q r));
  }

  pub walk_here : (a p : ℕ) → argument_from s i ≡ arguments.Name a p → (xs : List Located) (rest : ℕ) → NamesFrom s from xs rest → (zs : List Located) × NamesFrom s p zs rest × R xs (name_in s a ∷ zs)
  walk_here a p e xs rest n =
      let (ys, m, r) = t.on xs rest n in
      let (zs, q, o) = at_name s i a p ys rest e m in
      (zs, o, subst (R xs) q r)

  pub walk_end : (p : ℕ) → argument_from s i ≡ arguments.End p → (xs : List Located) (rest : ℕ) → NamesFrom s from xs rest → (p ≡ rest) × R xs []
  walk_end p e xs rest n =
      let (ys, m, r) = t.on xs rest n in
      let (q, z) = at_end s i p ys rest e m in
      (z, subst (R xs) q r)

-- ── a name that was not met yet
abbrev pub Unmet : Name → List Located → List Located → Type 0
Unmet n xs ys = is_one_of n xs ≡ is_one_of n ys

pub unmet_on : {s : List ℕ} {from i : ℕ} (n : Name) → Walking s from i (Unmet n) → (a p : ℕ) → argument_from s i ≡ arguments.Name a p → same n (name_at s a) ≡ false → Walking s from p (Unmet n)
unmet_on n t a p e f = walk_on t a p (Unmet n) e (λ xs ys rest o r. r ∙ ap (λ b. b || is_one_of n ys) f)

module _ {s : List ℕ} {from i : ℕ} {n : Name} (t : Walking s from i (Unmet n)) where
  pub unmet_met : (a p : ℕ) → argument_from s i ≡ arguments.Name a p → same n (name_at s a) ≡ true → Among s from n true
  unmet_met a p e f = record { is = λ xs rest h. let (zs, o, r) = walk_here t a p e xs rest h in sym (r ∙ ap (λ b. b || is_one_of n zs) f) }

  pub unmet_end : (p : ℕ) → argument_from s i ≡ arguments.End p → Among s from n false
  unmet_end p e = record { is = λ xs rest h. sym (walk_end t p e xs rest h).1 }

-- any walk leads to the end of the list
abbrev pub Whatever : List Located → List Located → Type 0
Whatever xs ys = Unit {0}

pub ends_there : {s : List ℕ} {from i : ℕ} → Walking s from i Whatever → (p : ℕ) → argument_from s i ≡ arguments.End p → Ends s from p
ends_there t p e = record { is = λ xs rest h. (walk_end t p e xs rest h).0 }

pub walked : {s : List ℕ} {from i : ℕ} {R : List Located → List Located → Type 0} → Walking s from i R → Walking s from i Whatever
walked t = record { on = λ xs rest h. let (ys, m, r) = t.on xs rest h in (ys, m, tt) }

pub ends_on : {s : List ℕ} {from i r : ℕ} → Walking s from i Whatever → Ends s i r → Ends s from r
ends_on t e = record { is = λ xs rest h. let (ys, m, u) = t.on xs rest h in e.is ys rest m }

-- ── marks as far as a walk has come: what is left of the list marks the same of them as the whole list did before
pub record Remaining (s ends : List ℕ) (n : ℕ) (sought m r : Marks) (xs ys : List Located) : Type 0 where
  pub at : (v : Marks) → Marked s ends n sought (λ x. is_one_of x ys) r v → Marked s ends n sought (λ x. is_one_of x xs) m v

module _ {s ends : List ℕ} {n from i : ℕ} {sought m r : Marks} (t : Walking s from i (Remaining s ends n sought m r)) where
  pub remaining_on : (a p : ℕ) {v : Marks} → argument_from s i ≡ arguments.Name a p → Marked s ends n sought (is_name s a) r v → Walking s from p (Remaining s ends n sought m v)
  remaining_on a p e f = walk_on t a p _ e (λ xs ys rest o h. record { at = λ v g. h.at v (marked_then f g) })

  pub remaining_end : (p : ℕ) → argument_from s i ≡ arguments.End p → MarkedList s ends n from sought m (record { marks = r; past = p })
  remaining_end p e = record { is = λ xs rest h. let (q, g) = walk_end t p e xs rest h in (g.at r (marked_none (λ x. refl)), q) }

pub remaining_start : (s ends : List ℕ) (n from : ℕ) (sought m : Marks) → Walking s from from (Remaining s ends n sought m m)
remaining_start s ends n from sought m = walk_start s from _ (λ xs. record { at = λ v g. g })

-- ── both lists
pub marked_call : {s ends : List ℕ} {n bracket provided used : ℕ} {sought m : Marks} {f g : ListMarks} → provided ≡ (token_at s bracket).end → MarkedList s ends n provided sought m f
    → used ≡ (token_at s f.past).end → MarkedList s ends n used sought f.marks g → MarkedCall s ends n bracket sought m g.marks
marked_call {s = s} {used = used} {f = f} e h u k = record {
  is = λ xs ys c.
      let (a, z) = h.is xs _ (subst (λ i. NamesFrom s i xs c.middle) (sym e) c.provided) in
      let v : used ≡ (token_at s c.middle).end = u ∙ ap (λ i. (token_at s i).end) z in
      marked_then a (k.is ys _ (subst (λ i. NamesFrom s i ys c.end) (sym v) c.used)).0;
}

-- each name brings the walk forward
pub forward_name : (s : List ℕ) (i a p : ℕ) (r : Argument) → Forward s i r → r ≡ arguments.Name a p → (i < p) × (p ≤ length s)
forward_name s i a p r h e = subst (Forward s i) e h
