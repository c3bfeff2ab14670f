-- The ways through the code of a term that goes on.
use Rattle.std.specs.Prelude.{ℕ, suc, ◌+◌, ◌<◌, ◌≤◌, ◌≡◌, refl, List, [], ◌∷◌, Bool, true, false, cond, not, ◌&&◌, ltb, length}
use Rattle.std.specs.Prelude.{Option, Some, None}
use Rattle.std.specs.Prelude.{is_some as found?}
use Rattle.std.proofs.Common.{sym, ◌∙◌, subst, lt-ltb, le-ltb, true≢false}
use Rattle.std.proofs.Math.Path.{ap}
use Rattle.std.proofs.Math.Option.{some, none, map}
use Rattle.std.proofs.Math.Option as Math
use Rattle.std.proofs.Math.ListN.{length-map}
use Rattle.notation.specs.Bytes.{same}
use Rattle.notation.specs.Limits.{held_limit}
use Rattle.notation.specs.Token.{name_at}
use Rattle.notation.specs.Tree.{Name}
use Rattle.calculus.specs.Named.{lookup, without, changed, is_some}
use Rattle.calculus.specs.Types.{same_side, shape, at_leaf}
use Rattle.calculus.specs.Program.{Slot, slot}
use Rattle.calculus.specs.Typing.{acting, retyped, bringing}
use Rattle.calculus.specs.Checking.{may_bring}
use Rattle.calculus.specs.WellFormed.{context_of}
use Rattle.theory_ends.specs.Contexts.{context_lookup, context_without, context_retyped, context_append, context_length}
use Rattle.run_words.specs.Raw.{side_of}
use Rattle.run_words.specs.Values.{end_in, held_in, held_length}
use Rattle.run_words.specs.declared.records.End.{End as EndWords}
use Rattle.run_words.specs.declared.records.Held.{Held}
use Rattle.read_tables.specs.Program.{plain_in, program_in}
use Rattle.read_tables.specs.Roots.{TypeIn}
use Rattle.read_tables.specs.Search.{place_of}
use Rattle.read_tables.specs.Whole.{Tables}
use Rattle.check_types.specs.Acting.{passing_of, passed_in}
use Rattle.check_types.specs.declared.messages.Passing.{Passing}
use Rattle.check_contexts.specs.Held.{channels_of, EndIn, HeldIn, end_found, FoundIn, Sees, Drops, Retypes, Brings}
use Rattle.check_terms.specs.Next.{Step, stop, go, asking, granted, context_in, asking_none, asking_some}
use Rattle.check_terms.specs.Rules.{closes, passes_over, passes, chooses, gives_up, receives}
use Rattle.check_terms.specs.Acting.{slot_of, slot_in, Acts, UnitOf, PassesOver, ChoosesOver, TakenFrom, TakesFrom, typed_as, typed_at, different_sides, equal_sides}

-- ── what is held afterwards
module _ (s w : List ℕ) (h : Held) where
  pub dropped : (c : ℕ) (r : Held) → Drops s h c r → without (name_at s c) (context_in s w h) ≡ context_in s w r
  dropped c r d = context_without (name_at s c) (channels_of s w h) ∙ ap context_of (sym (d.is w))

  pub retyped_so : (c node : ℕ) (r : Held) → Retypes s h c node r → retyped (name_at s c) (plain_in s w node) (context_in s w h) ≡ context_in s w r
  retyped_so c node r d = context_retyped (name_at s c) (plain_in s w node) (channels_of s w h) ∙ ap context_of (sym (d.is w))

  pub brought_so : (x side node channel : ℕ) (r : Held) → Brings h x side node channel r → bringing (name_at s x) (slot (side_of side) (plain_in s w node)) (context_in s w h) ≡ context_in s w r
  brought_so x side node channel r d = sym (ap context_of (d.is s w) ∙ context_append (channels_of s w h) _)

  pub count_so : length (context_in s w h) ≡ h.count
  unfolding channels_of
  count_so = context_length (channels_of s w h) ∙ length-map (held_in h) _ ∙ held_length h

-- ── what was found under a name: the end e, unfolded or as it is held
pub record Acting (s w : List ℕ) (h : Held) (c : ℕ) (e : EndWords) : Type 0 where
  pub is : acting (program_in s w) (name_at s c) (context_in s w h) ≡ some (slot_in s w e)
  pub fits : EndIn s w (end_in e)
  pub side : e.side < 2

pub record Seen (s w : List ℕ) (h : Held) (c : ℕ) (e : EndWords) : Type 0 where
  pub is : lookup (name_at s c) (context_in s w h) ≡ some (slot_in s w e)
  pub fits : EndIn s w (end_in e)
  pub side : e.side < 2

module _ {s w : List ℕ} {h : Held} {c : ℕ} {r : Option EndWords} where
  pub acts_not : Acts s w h c r → r ≡ None → acting (program_in s w) (name_at s c) (context_in s w h) ≡ none
  acts_not a e = a.is ∙ ap (λ x. map slot_of (end_found s w x)) e

  pub acts_so : {e : EndWords} → Acts s w h c r → r ≡ Some e → Acting s w h c e
  acts_so a q =
      let f = subst (FoundIn s w) q a.fits in
      record { is = a.is ∙ ap (λ x. map slot_of (end_found s w x)) q; fits = f.0; side = f.1 }

pub sees_not : {s : List ℕ} {h : Held} {c : ℕ} {r : Option EndWords} (w : List ℕ) → Sees s h c r → r ≡ None → lookup (name_at s c) (context_in s w h) ≡ none
sees_not {s} {h} {c} w a e = context_lookup (name_at s c) (channels_of s w h) ∙ ap (map slot_of) (a.is w ∙ ap (end_found s w) e)

pub sees_some : {s : List ℕ} {h : Held} {c : ℕ} {r : Option EndWords} (w : List ℕ) {e : EndWords} → Sees s h c r → r ≡ Some e → lookup (name_at s c) (context_in s w h) ≡ some (slot_in s w e)
sees_some {s} {h} {c} w a q = context_lookup (name_at s c) (channels_of s w h) ∙ ap (map slot_of) (a.is w ∙ ap (end_found s w) q)

pub sees_so : {s w : List ℕ} {h : Held} {c : ℕ} {r : Option EndWords} {e : EndWords} → HeldIn s w h → Sees s h c r → r ≡ Some e → Seen s w h c e
sees_so {s} {w} t a q =
    let f = subst (FoundIn s w) q (a.fits w t) in
    record { is = sees_some w a q; fits = f.0; side = f.1 }

-- a name is held where an end is found under it, and new where none is
pub found_where : (s w : List ℕ) (h : Held) (x : ℕ) (r : Option EndWords) (b : Bool) → Sees s h x r → b ≡ found? r → b ≡ is_some (lookup (name_at s x) (context_in s w h))
found_where s w h x (Some e) b a q = q ∙ sym (ap is_some (sees_some w {e = e} a refl))
found_where s w h x None b a q = q ∙ sym (ap is_some (sees_not w a refl))

pub new_where : {s : List ℕ} {h : Held} {x : ℕ} (r : Option EndWords) (b : Bool) → Sees s h x r → found? r ≡ not b → (w : List ℕ) → b ≡ not (is_some (lookup (name_at s x) (context_in s w h)))
new_where {s} {h} {x} r b a q w = sym (not_not b) ∙ ap not (sym q ∙ found_where s w h x r (found? r) a refl)
  where
    not_not : (c : Bool) → not (not c) ≡ c
    not_not true = refl
    not_not false = refl

-- ── a close
module _ {s w : List ℕ} {h : Held} {c : ℕ} (side : ℕ) (b : side < 2) where
  pub closes_absent : {r : Option EndWords} → Acts s w h c r → r ≡ None → closes (program_in s w) (side_of side) (name_at s c) (context_in s w h) ≡ stop 10
  unfolding closes
  closes_absent a z = asking_none 10 _ (acts_not a z)

  closes_if : {e : EndWords} → Acting s w h c e → {y : Bool} → same_side (side_of e.side) (side_of side) ≡ y → {x : Bool} → at_leaf (shape (plain_in s w e.node)) ≡ x
      → closes (program_in s w) (side_of side) (name_at s c) (context_in s w h) ≡ granted 11 (y && x) (go (without (name_at s c) (context_in s w h)))
  unfolding closes
  closes_if g m q = asking_some 10 _ g.is ∙ λ j. granted 11 (m j && q j) (go (without (name_at s c) (context_in s w h)))

  pub closes_other_side : {e : EndWords} → Acting s w h c e → (e.side ≡ side → ⊥) → closes (program_in s w) (side_of side) (name_at s c) (context_in s w h) ≡ stop 11
  closes_other_side {e} g n = closes_if g (different_sides e.side side g.side b n) refl

  -- whether the type is 1, by its number
  leaf_by : {e : EndWords} {i : ℕ} {x : Bool} → Tables s w → Acting s w h c e → i ≡ e.node → UnitOf w i x → at_leaf (shape (plain_in s w e.node)) ≡ x
  leaf_by {e} {i} t g z u = ap (λ j. at_leaf (shape (plain_in s w j))) (sym z) ∙ sym (u.says s t (typed_as s w e i z g.fits))

  pub closes_not : {e : EndWords} {i : ℕ} → Tables s w → Acting s w h c e → e.side ≡ side → i ≡ e.node → UnitOf w i false
      → closes (program_in s w) (side_of side) (name_at s c) (context_in s w h) ≡ stop 11
  closes_not {e} t g n z u = closes_if g (equal_sides e.side side g.side b n) (leaf_by t g z u)

  pub closes_so : {e : EndWords} {i : ℕ} → Tables s w → Acting s w h c e → e.side ≡ side → i ≡ e.node → UnitOf w i true → {r : Held} → Drops s h c r
      → closes (program_in s w) (side_of side) (name_at s c) (context_in s w h) ≡ go (context_in s w r)
  closes_so {e} t g n z u {r} d = closes_if g (equal_sides e.side side g.side b n) (leaf_by t g z u) ∙ ap go (dropped s w h c r d)

-- ── a channel given up
module _ (s w : List ℕ) (h : Held) (c : ℕ) where
  giving : Math.Option Slot → Step
  giving o = asking 10 o (λ _. go (without (name_at s c) (context_in s w h)))

  pub gives_not : true ≡ not (is_some (lookup (name_at s c) (context_in s w h))) → gives_up (name_at s c) (context_in s w h) ≡ stop 10
  unfolding gives_up giving
  gives_not e = given (lookup (name_at s c) (context_in s w h)) e
    where
      given : (o : Math.Option Slot) → true ≡ not (is_some o) → giving o ≡ stop 10
      given none e = refl
      given (some x) e = absurd (true≢false e)

  pub gives_so : false ≡ not (is_some (lookup (name_at s c) (context_in s w h))) → {r : Held} → Drops s h c r → gives_up (name_at s c) (context_in s w h) ≡ go (context_in s w r)
  unfolding gives_up giving
  gives_so e {r} d = given (lookup (name_at s c) (context_in s w h)) e ∙ ap go (dropped s w h c r d)
    where
      given : (o : Math.Option Slot) → false ≡ not (is_some o) → giving o ≡ go (without (name_at s c) (context_in s w h))
      given none e = absurd (true≢false (sym e))
      given (some x) e = refl

-- ── a label sent
module _ {s w : List ℕ} {h : Held} {c : ℕ} (l : ℕ) where
  pub chooses_absent : {r : Option EndWords} → Acts s w h c r → r ≡ None → chooses (program_in s w) (name_at s c) (name_at s (l + 1)) (context_in s w h) ≡ stop 10
  unfolding chooses
  chooses_absent a z = asking_none 10 _ (acts_not a z)

  module _ {e : EndWords} (g : Acting s w h c e) {t : Option ℕ} (o : ChoosesOver s w e l t) where
    pub chooses_not : t ≡ None → chooses (program_in s w) (name_at s c) (name_at s (l + 1)) (context_in s w h) ≡ stop 11
    unfolding chooses
    chooses_not q = asking_some 10 _ g.is ∙ asking_none 11 _ (o.is ∙ ap (λ x. map (plain_in s w) (place_of x)) q)

    pub chooses_so : {node : ℕ} → t ≡ Some node → {r : Held} → Retypes s h c node r → chooses (program_in s w) (name_at s c) (name_at s (l + 1)) (context_in s w h) ≡ go (context_in s w r)
    unfolding chooses
    chooses_so {node} q {r} d = asking_some 10 _ g.is ∙ asking_some 11 _ (o.is ∙ ap (λ x. map (plain_in s w) (place_of x)) q) ∙ ap go (retyped_so s w h c node r d)

-- ── a channel passed
module _ {s w : List ℕ} {h : Held} {c : ℕ} (a : ℕ) where
  pub passes_absent : {r : Option EndWords} → Acts s w h c r → r ≡ None → passes (program_in s w) (name_at s c) (name_at s a) (context_in s w h) ≡ stop 10
  unfolding passes
  passes_absent f z = asking_none 10 _ (acts_not f z)

  module _ {e : EndWords} (g : Acting s w h c e) where
    pub passes_nothing : {r : Option EndWords} → Sees s h a r → r ≡ None → passes (program_in s w) (name_at s c) (name_at s a) (context_in s w h) ≡ stop 10
    unfolding passes
    passes_nothing f z = asking_some 10 _ g.is ∙ asking_none 10 _ (sees_not w f z)

    module _ {d : EndWords} (f : Seen s w h a d) where
      both : {b : Bool} → same (name_at s c) (name_at s a) ≡ b → passes (program_in s w) (name_at s c) (name_at s a) (context_in s w h)
          ≡ granted 11 (not b) (asking 11 (passes_over (program_in s w) (slot_in s w e) (slot_in s w d)) λ A. go (retyped (name_at s c) A (without (name_at s a) (context_in s w h))))
      unfolding passes
      both q =
          asking_some 10 _ g.is
          ∙ asking_some 10 _ f.is
          ∙ ap (λ b. granted 11 (not b) (asking 11 (passes_over (program_in s w) (slot_in s w e) (slot_in s w d)) λ A. go (retyped (name_at s c) A (without (name_at s a) (context_in s w h))))) q

      pub passes_itself : true ≡ same (name_at s c) (name_at s a) → passes (program_in s w) (name_at s c) (name_at s a) (context_in s w h) ≡ stop 11
      passes_itself q = both (sym q)

      module _ (q : false ≡ same (name_at s c) (name_at s a)) {t : Option ℕ} (o : PassesOver s w e d t) where
        pub passes_not : t ≡ None → passes (program_in s w) (name_at s c) (name_at s a) (context_in s w h) ≡ stop 11
        passes_not z = both (sym q) ∙ asking_none 11 _ (o.is ∙ ap (λ x. map (plain_in s w) (place_of x)) z)

        pub passes_so : {node : ℕ} → t ≡ Some node → {l r : Held} → Drops s h a l → Retypes s l c node r → passes (program_in s w) (name_at s c) (name_at s a) (context_in s w h) ≡ go (context_in s w r)
        passes_so {node} z {l} {r} d' d'' =
            both (sym q)
            ∙ asking_some 11 _ (o.is ∙ ap (λ x. map (plain_in s w) (place_of x)) z)
            ∙ ap (λ H. go (retyped (name_at s c) (plain_in s w node) H)) (dropped s w h a l d')
            ∙ ap go (retyped_so s w l c node r d'')

-- ── a channel received
module _ {s w : List ℕ} {h : Held} {c : ℕ} (x : ℕ) where
  pub receives_absent : {r : Option EndWords} → Acts s w h c r → r ≡ None → receives (program_in s w) (name_at s c) (name_at s x) (context_in s w h) ≡ stop 10
  unfolding receives
  receives_absent a z = asking_none 10 _ (acts_not a z)

  module _ {e : EndWords} (u : Tables s w) (g : Acting s w h c e) {t : Option Passing} (o : TakesFrom w e t) where
    there : TakenFrom s w e t
    there = o.says s u g.fits

    pub receives_nothing : t ≡ None → receives (program_in s w) (name_at s c) (name_at s x) (context_in s w h) ≡ stop 11
    unfolding receives
    receives_nothing q = asking_some 10 _ g.is ∙ asking_none 11 _ (there.is ∙ ap (passing_of s w) q)

    module _ {m : Passing} (q : t ≡ Some m) where
      -- the types of what comes and of the channel afterwards
      pub received_types : passed_in s w (Some m)
      received_types = subst (passed_in s w) q there.parts

      comes : {b : Bool} → may_bring (name_at s x) (context_in s w h) (context_in s w h) ≡ b → receives (program_in s w) (name_at s c) (name_at s x) (context_in s w h)
          ≡ granted 15 b (go (bringing (name_at s x) (slot (side_of m.side) (plain_in s w m.what)) (retyped (name_at s c) (plain_in s w m.after) (context_in s w h))))
      unfolding receives
      comes z =
          asking_some 10 _ g.is
          ∙ asking_some 11 _ (there.is ∙ ap (passing_of s w) q)
          ∙ ap (λ b. granted 15 b (go (bringing (name_at s x) (slot (side_of m.side) (plain_in s w m.what)) (retyped (name_at s c) (plain_in s w m.after) (context_in s w h))))) z

      pub receives_known : false ≡ not (is_some (lookup (name_at s x) (context_in s w h))) → receives (program_in s w) (name_at s c) (name_at s x) (context_in s w h) ≡ stop 15
      receives_known z = comes (ap (λ b. b && ltb (length (context_in s w h)) held_limit) (sym z))

      room : {b : Bool} → ltb h.count held_limit ≡ b → ltb (length (context_in s w h)) held_limit ≡ b
      room z = ap (λ n. ltb n held_limit) (count_so s w h) ∙ z

      pub receives_full : true ≡ not (is_some (lookup (name_at s x) (context_in s w h))) → held_limit ≤ h.count → receives (program_in s w) (name_at s c) (name_at s x) (context_in s w h) ≡ stop 15
      receives_full z l = comes λ j. sym z j && room (le-ltb h.count held_limit l) j

      pub receives_so : true ≡ not (is_some (lookup (name_at s x) (context_in s w h))) → h.count < held_limit → {l r : Held} → Retypes s h c m.after l → Brings l x m.side m.what 0 r
          → receives (program_in s w) (name_at s c) (name_at s x) (context_in s w h) ≡ go (context_in s w r)
      receives_so z b {l} {r} d d' =
          comes (λ j. sym z j && room (lt-ltb h.count held_limit b) j)
          ∙ ap (λ H. go (bringing (name_at s x) (slot (side_of m.side) (plain_in s w m.what)) H)) (retyped_so s w h c m.after l d)
          ∙ ap go (brought_so s w l x m.side m.what 0 r d')

changed_length : {X : Type 0} (c : Name) (f : X → X) (l : List (Name × X)) → length (changed c f l) ≡ length l
unfolding changed
changed_length c f [] = refl
changed_length {X} c f (e ∷ l) = go (same c e.0) (changed_length c f l)
  where
    go : (b : Bool) → length (changed c f l) ≡ length l → length (cond b ((e.0, f e.1) ∷ l) (e ∷ changed c f l)) ≡ length (e ∷ l)
    go true h = refl
    go false h = ap suc h

pub retyped_count : (s w : List ℕ) (h : Held) (c node : ℕ) (r : Held) → Retypes s h c node r → r.count ≡ h.count
unfolding channels_of
retyped_count s w h c node r d =
    sym (length-map (held_in r) _ ∙ held_length r)
    ∙ ap length (d.is w)
    ∙ changed_length (name_at s c) _ (channels_of s w h)
    ∙ length-map (held_in h) _
    ∙ held_length h

-- a type that was found
pub found_type : {s w : List ℕ} {t : Option ℕ} {j : ℕ} → typed_at s w t → t ≡ Some j → TypeIn s w j
found_type {s} {w} h e = subst (typed_at s w) e h
