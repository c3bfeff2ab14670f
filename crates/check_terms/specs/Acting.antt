-- What the code that looks at one channel promises.
use Rattle.std.specs.Prelude.{ℕ, zero, suc, ◌+◌, ◌<◌, ◌≡◌, refl, List, Bool, true, false, cond, not, ◌&&◌, eqb}
use Rattle.std.specs.Prelude.{Option as CodeOption, Some, None}
use Rattle.std.proofs.Common.{sym, ◌∙◌, ap, subst, arith, eq-eqb, ne_eqb}
use Rattle.std.proofs.Math.Option.{Option, some, none, map}
use Rattle.notation.specs.Token.{name_at}
use Rattle.notation.specs.Tree.{Name, Ty, plains}
use Rattle.notation.specs.declared.reading.TypeNode.{TypeNode}
use Rattle.calculus.specs.Named.{lookup}
use Rattle.calculus.specs.Types.{Side, provided, used, other, same_side, Shape, shape, at_leaf, unfolded, passing, choosing, labelled}
use Rattle.calculus.specs.Types as calculus
use Rattle.calculus.specs.Program.{Slot, slot}
use Rattle.calculus.specs.Typing.{unfolded_slot, acting}
use Rattle.calculus.specs.SameType.{same_type}
use Rattle.calculus.specs.Configuration.{End}
use Rattle.theory_ends.specs.Contexts.{context_lookup}
use Rattle.run_words.specs.Raw.{side_of}
use Rattle.run_words.proofs.Ends.{same_sides}
use Rattle.run_words.specs.Values.{end_in}
use Rattle.run_words.specs.declared.records.End.{End as EndWords}
use Rattle.run_words.specs.declared.records.Held.{Held}
use Rattle.read_tables.specs.Access.{NodeOf}
use Rattle.read_tables.specs.Program.{plain_in, program_in}
use Rattle.read_tables.specs.Roots.{TypeIn, alternatives_in}
use Rattle.read_tables.specs.Search.{place_of}
use Rattle.read_tables.specs.Whole.{Tables}
use Rattle.check_types.specs.Shapes.{ShapeIn, is_leaf, is_word, is_pair, is_choice_lem, shape_in}
use Rattle.check_types.specs.Acting.{StandsFor, passing_of, passed_in, PassingIn, PassingOf, choosing_of, chosen_in, ChoosingIn, ChoosingOf}
use Rattle.check_types.specs.Labels.{LeadsTo}
use Rattle.check_types.specs.declared.messages.Passing.{Passing}
use Rattle.check_types.specs.declared.messages.Choosing.{Choosing}
use Rattle.check_contexts.specs.Held.{channels_of, EndIn, HeldIn, end_is, end_found, FoundIn, Sees}
use Rattle.check_terms.specs.Next.{context_in}
use Rattle.check_terms.specs.Rules.{passed_by, passes_over, chosen_by, chooses_over, taken_by, takes_from}

abbrev pub slot_of : End → Slot
slot_of e = slot e.side e.type

-- an end in numbers, as typing sees it
abbrev pub slot_in : List ℕ → List ℕ → EndWords → Slot
slot_in s w e = slot (side_of e.side) (plain_in s w e.node)

pub record Acts (s w : List ℕ) (h : Held) (at : ℕ) (r : CodeOption EndWords) : Type 0 where
  pub is : acting (program_in s w) (name_at s at) (context_in s w h) ≡ map slot_of (end_found s w r)
  pub fits : FoundIn s w r

pub record UnitOf (w : List ℕ) (i : ℕ) (r : Bool) : Type 0 where
  pub says : (s : List ℕ) → Tables s w → TypeIn s w i → r ≡ at_leaf (shape (plain_in s w i))

abbrev pub typed_at : List ℕ → List ℕ → CodeOption ℕ → Type 0
typed_at s w (Some j) = TypeIn s w j
typed_at s w None = Unit {0}

pub record PassesOver (s w : List ℕ) (c a : EndWords) (r : CodeOption ℕ) : Type 0 where
  pub is : passes_over (program_in s w) (slot_in s w c) (slot_in s w a) ≡ map (plain_in s w) (place_of r)
  pub type : typed_at s w r

pub record ChoosesOver (s w : List ℕ) (c : EndWords) (at : ℕ) (r : CodeOption ℕ) : Type 0 where
  pub is : chooses_over (slot_in s w c) (name_at s (at + 1)) ≡ map (plain_in s w) (place_of r)
  pub type : typed_at s w r

pub record TakenFrom (s w : List ℕ) (c : EndWords) (r : CodeOption Passing) : Type 0 where
  pub is : takes_from (slot_in s w c) ≡ passing_of s w r
  pub parts : passed_in s w r

pub record TakesFrom (w : List ℕ) (c : EndWords) (r : CodeOption Passing) : Type 0 where
  pub says : (s : List ℕ) → Tables s w → EndIn s w (end_in c) → TakenFrom s w c r

-- ── the channel that is acted on
acts_on_lem : (s w : List ℕ) (h : Held) (at : ℕ) (o : Option End) → lookup (name_at s at) (channels_of s w h) ≡ o
    → acting (program_in s w) (name_at s at) (context_in s w h) ≡ map (unfolded_slot (program_in s w)) (map slot_of o)
acts_on_lem s w h at o e = ap (map (unfolded_slot (program_in s w))) (context_lookup (name_at s at) (channels_of s w h) ∙ ap (map slot_of) e)

module _ {s w : List ℕ} {h : Held} {at : ℕ} where
  pub acts_nothing : Sees s h at None → Acts s w h at None
  acts_nothing f = record { is = acts_on_lem s w h at none (f.is w); fits = omega arith }

  pub acts_found : (e : EndWords) (i j : ℕ) {node : ℕ} → Sees s h at (Some e) → HeldIn s w h → i ≡ e.node → StandsFor s w i j → j < 512 → node ≡ j
      → Acts s w h at (Some (record { name = e.name; side = e.side; node = node; channel = e.channel }))
  acts_found e i j f t z g b q =
      let o : FoundIn s w (Some e) = f.fits w t in
      let y : unfolded (program_in s w).types (plain_in s w e.node) ≡ plain_in s w j = ap (λ k. unfolded (program_in s w).types (plain_in s w k)) (sym z) ∙ sym g.is in
      rw q
      (record {
        is = acts_on_lem s w h at (some (end_is s w (end_in e)).1) (f.is w) ∙ ap (λ A. some (slot (side_of e.side) A)) y;
        fits = (record { bounds = record { name = o.0.bounds.name; node = b; channel = o.0.bounds.channel }; type = g.type }, o.1);
      })

-- ── 1
unit_shape : (s w : List ℕ) (n : TypeNode) (k : ℕ) {t : Shape} → ShapeIn s w n k t → eqb k 0 ≡ at_leaf t
unit_shape s w n k (is_leaf e) = eq-eqb k 0 e
unit_shape s w n k (is_word e) = ne_eqb k 0 (λ z. omega arith)
unit_shape s w n k (is_pair a b c d) = ne_eqb k 0 (λ z. omega arith)
unit_shape s w n k (is_choice_lem a b c) = ne_eqb k 0 (λ z. omega arith)

pub unit_of : (w : List ℕ) (i : ℕ) (n : TypeNode) → NodeOf w i n → UnitOf w i (eqb n.kind 0)
unit_of w i n o = record { says = λ s t a. unit_shape s w n n.kind (shape_in s w i n o t a) }

-- ── sides
pub different_sides : (a b : ℕ) → a < 2 → b < 2 → (a ≡ b → ⊥) → same_side (side_of a) (side_of b) ≡ false
different_sides a b p q n = same_sides a b p q ∙ ne_eqb a b n

pub equal_sides : (a b : ℕ) → a < 2 → b < 2 → a ≡ b → same_side (side_of a) (side_of b) ≡ true
equal_sides a b p q e = same_sides a b p q ∙ eq-eqb a b e

-- what a node says of the end that has it
pub typed_as : (s w : List ℕ) (e : EndWords) (i : ℕ) → i ≡ e.node → EndIn s w (end_in e) → TypeIn s w i
typed_as s w e i z o = subst (TypeIn s w) (sym z) o.type

-- ── a channel passed
module _ {s w : List ℕ} (u : Tables s w) (c a : EndWords) (o : EndIn s w (end_in c)) (i : ℕ) (z : i ≡ c.node) where
  pub passing_there : {r : CodeOption Passing} → PassingOf w i r → PassingIn s w i r
  passing_there f = f.says s u (typed_as s w c i z o)

  passed : (r : CodeOption Passing) → PassingOf w i r → passes_over (program_in s w) (slot_in s w c) (slot_in s w a) ≡ passed_by (program_in s w) (slot_in s w c) (slot_in s w a) (passing_of s w r)
  passed r f =
      ap (λ k. passed_by (program_in s w) (slot_in s w c) (slot_in s w a) (passing (plain_in s w k))) (sym z)
      ∙ ap (passed_by (program_in s w) (slot_in s w c) (slot_in s w a)) (passing_there f).is

  pub passes_nothing : PassingOf w i None → PassesOver s w c a None
  passes_nothing f = record { is = passed None f; type = tt }

  module _ (t : Passing) (f : PassingOf w i (Some t)) (p : c.side < 2) (q : a.side < 2) where
    parts : passed_in s w (Some t)
    parts = (passing_there f).parts

    abbrev same' : Bool
    same' = same_type (program_in s w).types (plain_in s w a.node) (plain_in s w t.what)

    abbrev outcome : Bool → Bool → Bool → Option (Ty Name)
    outcome x y v = cond (x && (y && v)) (some (plain_in s w t.after)) none

    tested : passes_over (program_in s w) (slot_in s w c) (slot_in s w a) ≡ outcome (same_side (side_of c.side) (side_of t.sender)) (same_side (side_of a.side) (side_of t.side)) same'
    tested = passed (Some t) f

    pub passes_other_end : (c.side ≡ t.sender → ⊥) → PassesOver s w c a None
    passes_other_end n = record { is = tested ∙ ap (λ x. outcome x (same_side (side_of a.side) (side_of t.side)) same') (different_sides c.side t.sender p parts.2 n); type = tt }

    pub passes_other_side : c.side ≡ t.sender → (a.side ≡ t.side → ⊥) → PassesOver s w c a None
    passes_other_side m n = record {
      is = tested ∙ λ j. outcome (equal_sides c.side t.sender p parts.2 m j) (different_sides a.side t.side q parts.3 n j) same';
      type = tt;
    }

    abbrev after_if : Bool → CodeOption ℕ
    after_if true = Some t.after
    after_if false = None

    pub passes_by : c.side ≡ t.sender → a.side ≡ t.side → (b : Bool) → same' ≡ b → PassesOver s w c a (after_if b)
    passes_by m n b e = go b (tested ∙ λ j. outcome (equal_sides c.side t.sender p parts.2 m j) (equal_sides a.side t.side q parts.3 n j) (e j))
      where
        go : (b : Bool) → passes_over (program_in s w) (slot_in s w c) (slot_in s w a) ≡ outcome true true b → PassesOver s w c a (after_if b)
        go true y = record { is = y; type = parts.1 }
        go false y = record { is = y; type = tt }

-- ── a label sent
module _ {s w : List ℕ} (u : Tables s w) (c : EndWords) (at : ℕ) (o : EndIn s w (end_in c)) (i : ℕ) (z : i ≡ c.node) where
  choosing_there : {r : CodeOption Choosing} → ChoosingOf w i r → ChoosingIn s w i r
  choosing_there f = f.says s u (typed_as s w c i z o)

  chosen : (r : CodeOption Choosing) → ChoosingOf w i r → chooses_over (slot_in s w c) (name_at s (at + 1)) ≡ chosen_by (slot_in s w c) (name_at s (at + 1)) (choosing_of s w r)
  chosen r f =
      ap (λ k. chosen_by (slot_in s w c) (name_at s (at + 1)) (choosing (plain_in s w k))) (sym z)
      ∙ ap (chosen_by (slot_in s w c) (name_at s (at + 1))) (choosing_there f).is

  pub chooses_nothing : ChoosingOf w i None → ChoosesOver s w c at None
  chooses_nothing f = record { is = chosen None f; type = tt }

  module _ (t : Choosing) (f : ChoosingOf w i (Some t)) (p : c.side < 2) where
    pub listed : chosen_in s w (Some t)
    listed = (choosing_there f).parts

    abbrev led : Bool → Option (Ty Name)
    led b = cond b (labelled (name_at s (at + 1)) (plains (alternatives_in s w t.place t.count))) none

    chosen_by_lem : chooses_over (slot_in s w c) (name_at s (at + 1)) ≡ led (same_side (side_of c.side) (side_of t.sender))
    chosen_by_lem = chosen (Some t) f

    pub chooses_other_end : (c.side ≡ t.sender → ⊥) → ChoosesOver s w c at None
    chooses_other_end m = record { is = chosen_by_lem ∙ ap led (different_sides c.side t.sender p listed.0 m); type = tt }

    pub chooses_by : (g : CodeOption ℕ) → c.side ≡ t.sender → LeadsTo s w at t.place t.count g → ChoosesOver s w c at g
    chooses_by g m l = record { is = chosen_by_lem ∙ ap led (equal_sides c.side t.sender p listed.0 m) ∙ l.is; type = leads g l.type }
      where
        leads : (g : CodeOption ℕ) → ((j : ℕ) → g ≡ Some j → TypeIn s w j) → typed_at s w g
        leads (Some j) h = h j refl
        leads None h = tt

-- ── a channel received
pub other_so : (b : ℕ) (s : Side) → same_side (side_of b) (other s) ≡ not (same_side (side_of b) s)
other_so zero provided = refl
other_so zero used = refl
other_so (suc b) provided = refl
other_so (suc b) used = refl

module _ {w : List ℕ} (c : EndWords) (i : ℕ) (z : i ≡ c.node) where
  taken : (s : List ℕ) (t : Tables s w) (o : EndIn s w (end_in c)) (r : CodeOption Passing) → PassingOf w i r → takes_from (slot_in s w c) ≡ taken_by (slot_in s w c) (passing_of s w r)
  taken s t o r f = ap (λ k. taken_by (slot_in s w c) (passing (plain_in s w k))) (sym z) ∙ ap (taken_by (slot_in s w c)) (passing_there t c c o i z f).is

  pub takes_nothing : PassingOf w i None → TakesFrom w c None
  takes_nothing f = record { says = λ s t o. record { is = taken s t o None f; parts = tt } }

  module _ (t : Passing) (f : PassingOf w i (Some t)) (p : c.side < 2) where
    abbrev given : List ℕ → calculus.Passing
    given s = record { sender = side_of t.sender; side = side_of t.side; what = plain_in s w t.what; after = plain_in s w t.after }

    abbrev ours : List ℕ → Bool → Option calculus.Passing
    ours s b = cond b (some (given s)) none

    taken_by_lem : (s : List ℕ) (u : Tables s w) (o : EndIn s w (end_in c)) → takes_from (slot_in s w c) ≡ ours s (not (same_side (side_of c.side) (side_of t.sender)))
    taken_by_lem s u o = taken s u o (Some t) f ∙ ap (ours s) (other_so c.side (side_of t.sender))

    there : (s : List ℕ) (u : Tables s w) (o : EndIn s w (end_in c)) → passed_in s w (Some t)
    there s u o = (passing_there u c c o i z f).parts

    pub takes_own_end : c.side ≡ t.sender → TakesFrom w c None
    takes_own_end m = record { says = λ s u o. record { is = taken_by_lem s u o ∙ ap (λ b. ours s (not b)) (equal_sides c.side t.sender p (there s u o).2 m); parts = tt } }

    pub takes_by : (c.side ≡ t.sender → ⊥) → TakesFrom w c (Some t)
    takes_by m = record { says = λ s u o. record { is = taken_by_lem s u o ∙ ap (λ b. ours s (not b)) (different_sides c.side t.sender p (there s u o).2 m); parts = there s u o } }
