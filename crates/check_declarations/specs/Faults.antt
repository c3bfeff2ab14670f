-- Refusals 6 and 7 as one walk: what each pass finds in a type.
use Prim.Native.Nat.{ℕ, suc, ◌-◌, ◌<◌, ◌≤◌}
use Rattle.std.specs.Prelude.{Option, Some, None}
use Rattle.std.specs.Prelude.{◌≡◌, true, false, cond}
use Rattle.std.proofs.Math.Path.{refl, sym}
use Rattle.std.proofs.Common.{◌∙◌, ap, true≢false}
use mathlib.Core.List.{List, [], ◌∷◌, ◌++◌}
use Rattle.std.proofs.lemmas.Bool.{false≢true}
use Rattle.std.proofs.Math.Option.{map}
use Rattle.notation.specs.Tree.{Name, Located, Ty, named, Alternatives}
use Rattle.notation.specs.Sizes.{type_terms, alternatives_terms}
use Rattle.notation.specs.Reader.{name_in}
use Rattle.notation.specs.declared.reading.TypeNode.{TypeNode}
use Rattle.calculus.specs.Program.{Program}
use Rattle.calculus.specs.Declarations.{repeats, unless_defined, choice_labels, type_repeats, alternatives_repeats, type_undefined, alternatives_undefined}
use Rattle.calculus.specs.Named.{is_some}
use Rattle.read_tables.specs.declared.access.Labelled.{Labelled}
use Rattle.read_tables.specs.Access.{AlternativeOf, NodeOf}
use Rattle.read_tables.specs.Decode.{numbered, alternative_at, type_in}
use Rattle.read_tables.specs.Program.{program_in}
use Rattle.read_tables.specs.Roots.{Cases, Handlers, each_kind, type_cases, FewerType, TypeIn, AlternativesIn, alternatives_in}
use Rattle.read_tables.specs.Search.{Sought, place_of}
use Rattle.read_tables.specs.Whole.{Tables}
use Rattle.check_declarations.specs.Kinds.{◌next◌, says, says_at, is_infix, Rightward, right_start, right_on}
use Rattle.check_declarations.specs.Listed.{down, by_steps, choice_labels_lem}
use Rattle.check_declarations.specs.declared.faults.Pass.{Pass}
use Rattle.check_declarations.specs.declared.faults.Pass.TheVariants.{Repeated, Undefined}
use Rattle.check_declarations.specs.declared.names.Names.TheVariants.{Alternatives as AlternativesFrom}
use Rattle.check_declarations.specs.Lowest.{Lowest, Lowered, lowered_as, lowered_none, lowered_then, Walking, walk_end, Left, left_all, left_as, left_after, left_done, over}
use Rattle.check_declarations.specs.Names.{name_of}

-- the labels of one list
abbrev pub label_faults : Pass → List Located → List ℕ
label_faults Repeated l = repeats [] l
label_faults Undefined l = []

abbrev pub type_faults : Pass → Program → Ty Located → List ℕ
type_faults Repeated p A = type_repeats A
type_faults Undefined p A = type_undefined p A

abbrev pub alternatives_faults : Pass → Program → Alternatives Located → List ℕ
alternatives_faults Repeated p r = alternatives_repeats r
alternatives_faults Undefined p r = alternatives_undefined p r

abbrev pub choice_faults : Pass → Program → Alternatives Located → List ℕ
choice_faults q p r = label_faults q (choice_labels r) ++ alternatives_faults q p r

-- what both passes find, each finds
pub by_pass : (f g : Pass → List ℕ) → f Repeated ≡ g Repeated → f Undefined ≡ g Undefined → (q : Pass) → f q ≡ g q
by_pass f g r u Repeated = r
by_pass f g r u Undefined = u

-- ── a name that is looked up
module _ {X : Type 0} {l : List (Name × X)} {f : ℕ → Name × X} {n : ℕ} (s : List ℕ) (at : ℕ) {r : Option ℕ} (t : Sought (name_in s at).name l f n r) {low : Lowest} where
  pub name_defined : {i : ℕ} → r ≡ Some i → Lowered low (unless_defined l (name_in s at)) low
  name_defined e = lowered_as (sym (ap (λ b. cond (is_some b) [] (at ∷ [])) (t.is ∙ ap (λ (q : Option ℕ). map (λ i. (f i).1) (place_of q)) e))) lowered_none

  pub name_undefined : {k : Lowest} → r ≡ None → Lowered low (at ∷ []) k → Lowered low (unless_defined l (name_in s at)) k
  name_undefined e = lowered_as (sym (ap (λ b. cond (is_some b) [] (at ∷ [])) (t.is ∙ ap (λ (q : Option ℕ). map (λ i. (f i).1) (place_of q)) e)))

-- ── a type by its node
module _ (s w : List ℕ) (pass : Pass) where
  abbrev pub faults_in : ℕ → List ℕ
  faults_in i = type_faults pass (program_in s w) (type_in s w i)

  -- those of the alternative k before the place e
  abbrev pub alternative_faults : ℕ → ℕ → List ℕ
  alternative_faults e k = faults_in (alternative_at w (e - k - 1)).1

  alternatives_over : (e n : ℕ) → over (alternative_faults e) 0 n ≡ alternatives_faults pass (program_in s w) (alternatives_in s w e n)
  unfolding type_repeats type_undefined
  alternatives_over e n =
      let made : Pass → ℕ → ℕ → List ℕ = λ q x m. alternatives_faults q (program_in s w) (alternatives_in s w x m) in
      let one : Pass → ℕ → List ℕ = λ q x. type_faults q (program_in s w) (type_in s w (alternative_at w (x - 1)).1) in
      sym
      (by_steps down ◌++◌ [] (one pass) (made pass) (λ x. by_pass (λ q. made q x 0) (λ q. []) refl refl pass)
      (λ x m. by_pass (λ q. made q x (suc m)) (λ q. one q x ++ made q (x - 1) m) refl refl pass) n e)

  pub alternative_walked : (e k : ℕ) {r : Labelled} {l m : Lowest} → AlternativeOf w (e - k) r → Lowered l (faults_in r.number) m → Lowered l (alternative_faults e k) m
  alternative_walked e k o = lowered_as (ap faults_in o.holds.number)

  -- a choice: its labels, then its alternatives one after the other
  pub choice_done : (e n : ℕ) {low l k : Lowest} {i : ℕ} → Lowered low (label_faults pass (numbered (name_of s w (AlternativesFrom e)) 0 n)) l
      → Walking (alternative_faults e) l n i k → n ≤ i → Lowered low (choice_faults pass (program_in s w) (alternatives_in s w e n)) k
  choice_done e n a t h = lowered_as (λ j. label_faults pass (choice_labels_lem s w e n j) ++ alternatives_over e n j) (lowered_then a (walk_end t h))

  module _ (i : ℕ) (n : TypeNode) where
    -- what both passes find in a type A
    adds : (f : Pass → List ℕ) (A : Ty Located) → type_in s w i ≡ A
        → f Repeated ≡ type_repeats A → f Undefined ≡ type_undefined (program_in s w) A → f pass ≡ faults_in i
    adds f A e r u = by_pass f (λ q. type_faults q (program_in s w) A) r u pass ∙ ap (type_faults pass (program_in s w)) (sym e)

    abbrev Here : Cases
    Here = type_cases s w n (type_in s w i)

    -- an infix type: its parts, and what is found in them
    abbrev Pair : Type 0
    Pair =
        FewerType s w (type_in s w i) n.first
        × FewerType s w (type_in s w i) n.second
        × TypeIn s w n.first
        × TypeIn s w n.second
        × (faults_in n.first ++ faults_in n.second ≡ faults_in i)

    abbrev pairly : Pass → List ℕ
    pairly q = type_faults q (program_in s w) (type_in s w n.first) ++ type_faults q (program_in s w) (type_in s w n.second)

    abbrev PairAt : ℕ → Type 0
    PairAt k = is_infix k ≡ true → Pair

    pairs : Handlers Here PairAt
    unfolding type_repeats type_undefined
    pairs =
        (λ e o. absurd (false≢true o))
        next (λ e o. absurd (false≢true o))
        next (λ (x, y, f, g, e) o. (x, y, f, g, adds pairly _ e refl refl))
        next (λ (x, y, f, g, e) o. (x, y, f, g, adds pairly _ e refl refl))
        next (λ (x, y, f, g, e) o. (x, y, f, g, adds pairly _ e refl refl))
        next (λ e o. absurd (false≢true o))
        next (λ e o. absurd (false≢true o))
        next tt

    -- a choice: its alternatives, and what is found in them
    abbrev Choice : Type 0
    Choice =
        (alternatives_terms (alternatives_in s w n.first n.second) < type_terms (type_in s w i))
        × AlternativesIn s w n.first n.second
        × (choice_faults pass (program_in s w) (alternatives_in s w n.first n.second) ≡ faults_in i)

    abbrev choicely : Pass → List ℕ
    choicely q = choice_faults q (program_in s w) (alternatives_in s w n.first n.second)

    abbrev ChoiceAt : ℕ → Type 0
    ChoiceAt k = is_infix k ≡ false → (k ≡ 0 → ⊥) → (k ≡ 1 → ⊥) → Choice

    choices : Handlers Here ChoiceAt
    unfolding type_repeats type_undefined
    choices =
        (λ e o z u. absurd (z refl))
        next (λ e o z u. absurd (u refl))
        next (λ e o. absurd (true≢false o))
        next (λ e o. absurd (true≢false o))
        next (λ e o. absurd (true≢false o))
        next (λ (x, f, e) o z u. (x, f, adds choicely _ e refl refl))
        next (λ (x, f, e) o z u. (x, f, adds choicely _ e refl refl))
        next tt

    -- each way through the walk
    module _ (h : Tables s w × TypeIn s w i) (o : NodeOf w i n) where
      pub at_unit : {l : Lowest} → n.kind ≡ 0 → Lowered l (faults_in i) l
      unfolding type_repeats type_undefined
      at_unit e = lowered_as (adds (λ q. []) _ (says_at s w i n h o 0 e) refl refl) lowered_none

      pub at_name : {l k : Lowest} → n.kind ≡ 1 → Lowered l (type_faults pass (program_in s w) (named (name_in s n.second))) k → Lowered l (faults_in i) k
      at_name e = lowered_as (ap (type_faults pass (program_in s w)) (sym (says_at s w i n h o 1 e)))

      pub pair_there : PairAt n.kind
      pair_there = each_kind Here PairAt pairs n.kind (says s w i n h o)

      pub choice_there : ChoiceAt n.kind
      choice_there = each_kind Here ChoiceAt choices n.kind (says s w i n h o)

-- ── as far as the walk along right parts has come: what is found from here on is what is left of the whole
pub record Typewise (s w : List ℕ) (pass : Pass) (whole : ℕ) (low : Lowest) (at : ℕ) (n : TypeNode) (l : Lowest) : Type 0 where
  pub right : Rightward s w whole at n
  pub left : Left low (faults_in s w pass whole) l (faults_in s w pass at)

module _ {s w : List ℕ} {pass : Pass} {whole : ℕ} where
  pub typewise_start : {n : TypeNode} {low : Lowest} → TypeIn s w whole → NodeOf w whole n → Typewise s w pass whole low whole n low
  typewise_start a o = record { right = right_start a o; left = left_all }

  module _ {low : Lowest} {at : ℕ} {n : TypeNode} {l : Lowest} (t : Typewise s w pass whole low at n l) (u : Tables s w) where
    abbrev there : Tables s w × TypeIn s w at
    there = (u, t.right.stands)

    module _ (o : is_infix n.kind ≡ true) where
      pub typewise_parts : Pair s w pass at n
      typewise_parts = pair_there s w pass at n there t.right.node o

      -- past the left part
      pub typewise_on : {k : Lowest} {m : TypeNode} → Lowered l (faults_in s w pass n.first) k → NodeOf w n.second m → Typewise s w pass whole low n.second m k
      typewise_on f r =
          let (x, y, a, b, e) = typewise_parts in
          record { right = right_on t.right b y r; left = left_after (left_as (sym e) t.left) f }

    -- the last part is 1, a name or a choice
    pub typewise_unit : n.kind ≡ 0 → Lowered low (faults_in s w pass whole) l
    typewise_unit e = left_done t.left (at_unit s w pass at n there t.right.node e)

    pub typewise_name : {k : Lowest} → n.kind ≡ 1 → Lowered l (type_faults pass (program_in s w) (named (name_in s n.second))) k → Lowered low (faults_in s w pass whole) k
    typewise_name e f = left_done t.left (at_name s w pass at n there t.right.node e f)

    module _ (o : is_infix n.kind ≡ false) (a : n.kind ≡ 0 → ⊥) (b : n.kind ≡ 1 → ⊥) where
      pub typewise_choice : Choice s w pass at n
      typewise_choice = choice_there s w pass at n there t.right.node o a b

      pub typewise_last : {k : Lowest} → Lowered l (choice_faults pass (program_in s w) (alternatives_in s w n.first n.second)) k → Lowered low (faults_in s w pass whole) k
      typewise_last f = left_done t.left (lowered_as typewise_choice.2 f)

-- ── by the pass
pub names_repeated : (l : List Located) {pass : Pass} {low k : Lowest} → pass ≡ Repeated → Lowered low (repeats [] l) k → Lowered low (label_faults pass l) k
names_repeated l e = lowered_as (ap (λ (q : Pass). label_faults q l) (sym e))

pub names_passed : (l : List Located) {pass : Pass} {low : Lowest} → pass ≡ Undefined → Lowered low (label_faults pass l) low
names_passed l e = lowered_as (ap (λ (q : Pass). label_faults q l) (sym e)) lowered_none

module _ (p : Program) (n : Located) {pass : Pass} {low : Lowest} where
  pub name_passed : pass ≡ Repeated → Lowered low (type_faults pass p (named n)) low
  unfolding type_repeats
  name_passed e = lowered_as (ap (λ (q : Pass). type_faults q p (named n)) (sym e)) lowered_none

  pub name_sought : {k : Lowest} → pass ≡ Undefined → Lowered low (unless_defined p.types n) k → Lowered low (type_faults pass p (named n)) k
  unfolding type_undefined
  name_sought e = lowered_as (ap (λ (q : Pass). type_faults q p (named n)) (sym e))
