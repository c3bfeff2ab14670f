-- The operations on a run's numbers are the calculus' own on the configuration that they stand for.
use Rattle.std.specs.Prelude.{ℕ, suc, ◌+◌, ◌≡◌, Bool, eqb, set}
use Rattle.std.specs.Prelude.{Option as CodeOption, Some, None}
use mathlib.Core.List.{List, [], ◌∷◌, ◌++◌, map, map-map}
use Rattle.std.proofs.Math.Path.{refl, ap, ap₂}
use Rattle.std.proofs.Common.{sym, subst, ◌∙◌}
use Rattle.std.proofs.Math.Bool.{true, false, cond}
use Rattle.std.proofs.Math.Option.{Option, some, none}
use native.Mathlib.Omega.{arith}
use Rattle.std.proofs.Math.ListN.{get_elem?}
use Rattle.notation.specs.Limits.{channel_places}
use Rattle.notation.specs.Tree.{Name, Ty, Proc}
use Rattle.calculus.specs.Types.{Side, provided, used, other}
use Rattle.calculus.specs.Configuration.{End, end, Process, process, Outside, Config, moved_up, moved_down}
use Rattle.calculus.specs.Configuration as calculus
use Rattle.run_words.specs.Lists.{All, insert_at, remove_at}
use Rattle.run_words.specs.ListLaws.{map_at, map_join, map_set, map_insert, map_remove}
use Rattle.run_words.specs.SearchLaws.{First, here, later, first_here, none_from, Holds, held_there_lem, outside_there, holds_of, holds_at, holds_held, holds_here, nobody_from, far_process, far_outside, far_given_up}
use Rattle.run_words.specs.Raw.{RawEnd, RawProcess, RawOutside, RawConfig}
use Rattle.run_words.specs.Operations as raw
use Rattle.run_words.specs.Decode as decode
use Rattle.run_words.specs.declared.records.Far.{Far}
use Rattle.run_words.specs.declared.records.Far.TheVariants as far

module _ (name_of : ℕ → Name) (type_of : ℕ → Ty Name) (term_of : ℕ → Proc) where
  abbrev pub end_of : RawEnd → Name × End
  end_of = decode.decoded_end name_of type_of term_of

  abbrev pub process_of : RawProcess → Process
  process_of = decode.decoded_process name_of type_of term_of

  abbrev pub outside_of : RawOutside → Outside
  outside_of = decode.decoded_outside name_of type_of term_of

  abbrev pub decoded : RawConfig → Config
  decoded = decode.decoded name_of type_of term_of

  -- ── processes
  pub decoded_at : (C : RawConfig) (i : ℕ) {p : RawProcess} → get_elem? C.processes i ≡ some p → calculus.at (decoded C) i ≡ some (process_of p)
  decoded_at C i e = map_at process_of C.processes i e

  pub decoded_set : (C : RawConfig) (i : ℕ) (p : RawProcess) → decoded (raw.with_processes C (set C.processes i p)) ≡ calculus.replaced i (process_of p) (decoded C)
  decoded_set C i p = ap (λ l. calculus.with_processes l (decoded C)) (map_set process_of C.processes i p)

  relinks : (f : ℕ → ℕ) (l : List RawProcess) → map process_of (map (raw.relinked f) l) ≡ map (calculus.relinked f) (map process_of l)
  relinks f [] = refl
  relinks f (p ∷ l) = ap (λ m. calculus.relinked f (process_of p) ∷ m) (relinks f l)

  pub decoded_inserted : (i : ℕ) (p : RawProcess) (l : List RawProcess) → map process_of (raw.inserted i p l) ≡ calculus.inserted i (process_of p) (map process_of l)
  unfolding raw.inserted calculus.inserted
  decoded_inserted i p l = map_insert process_of (suc i) p (map (raw.relinked (moved_up i)) l) ∙ ap (insert_at (suc i) (process_of p)) (relinks (moved_up i) l)

  pub decoded_removed : (i : ℕ) (l : List RawProcess) → map process_of (raw.removed i l) ≡ calculus.removed i (map process_of l)
  unfolding raw.removed calculus.removed
  decoded_removed i l = map_remove process_of i (map (raw.relinked (moved_down i)) l) ∙ ap (remove_at i) (relinks (moved_down i) l)

  -- ── the outside
  pub decoded_append : (l : List RawOutside) (o : RawOutside) → map outside_of (l ++ (o ∷ [])) ≡ map outside_of l ++ (outside_of o ∷ [])
  decoded_append l o = map_join outside_of l (o ∷ [])

  pub decoded_let_go : (k : ℕ) (l : List RawOutside) → map outside_of (raw.let_go k l) ≡ calculus.let_go k (map outside_of l)
  unfolding raw.let_go calculus.let_go
  decoded_let_go k [] = refl
  decoded_let_go k (o ∷ l) = go (eqb k o.channel) (decoded_let_go k l)
    where
      go : (t : Bool) → map outside_of (raw.let_go k l) ≡ calculus.let_go k (map outside_of l)
          → map outside_of (cond t (raw.let_go k l) (o ∷ raw.let_go k l)) ≡ cond t (calculus.let_go k (map outside_of l)) (outside_of o ∷ calculus.let_go k (map outside_of l))
      go true h = h
      go false h = ap (λ m. outside_of o ∷ m) h

  module _ (k : ℕ) (f : RawOutside → RawOutside) (g : Outside → Outside) (e : (o : RawOutside) → outside_of (f o) ≡ g (outside_of o)) where
    pub decoded_changed : (l : List RawOutside) → map outside_of (raw.changed_outside k f l) ≡ calculus.changed_outside k g (map outside_of l)
    unfolding raw.changed_outside calculus.changed_outside
    decoded_changed [] = refl
    decoded_changed (o ∷ l) = go (eqb k o.channel) (decoded_changed l)
      where
        go : (t : Bool) → map outside_of (raw.changed_outside k f l) ≡ calculus.changed_outside k g (map outside_of l)
            → map outside_of (cond t (f o ∷ l) (o ∷ raw.changed_outside k f l)) ≡ cond t (g (outside_of o) ∷ map outside_of l) (outside_of o ∷ calculus.changed_outside k g (map outside_of l))
        go true h = ap (λ x. x ∷ map outside_of l) (e o)
        go false h = ap (λ m. outside_of o ∷ m) h

  pub decoded_retyped : (k node : ℕ) (l : List RawOutside) → map outside_of (raw.changed_outside k (raw.retyped node) l) ≡ calculus.retyped_outside k (type_of node) (map outside_of l)
  decoded_retyped k node l = decoded_changed k (raw.retyped node) _ (λ o. refl) l

  pub decoded_rerouted : (k m : ℕ) (l : List RawOutside) → map outside_of (raw.changed_outside k (raw.rerouted m) l) ≡ calculus.moved_outside k m (map outside_of l)
  decoded_rerouted k m l = decoded_changed k (raw.rerouted m) _ (λ o. refl) l

  -- ── channel places
  held_channels_lem : (l : List RawEnd) (r : List ℕ) → calculus.held_channels (map end_of l) r ≡ raw.held_channels l r
  held_channels_lem [] r = refl
  held_channels_lem (e ∷ l) r = ap (λ (m : List ℕ). e.channel ∷ m) (held_channels_lem l r)

  process_channels_lem : (l : List RawProcess) (r s : List ℕ) → r ≡ s → calculus.process_channels (map process_of l) r ≡ raw.process_channels l s
  process_channels_lem [] r s e = e
  process_channels_lem (p ∷ l) r s e = held_channels_lem p.held _ ∙ ap (raw.held_channels p.held) (process_channels_lem l r s e)

  pub decoded_channels : (C : RawConfig) → calculus.channels_held (decoded C) ≡ raw.channels_held C
  unfolding calculus.channels_held raw.channels_held
  decoded_channels C = process_channels_lem C.processes _ _ (map-map (λ (o : Outside). o.channel) outside_of C.outside)

  pub decoded_fresh : (C : RawConfig) → calculus.fresh_channel (decoded C) ≡ raw.fresh_channel C
  unfolding calculus.fresh_channel raw.fresh_channel
  decoded_fresh C = ap (λ l. calculus.free_from l 0 channel_places) (decoded_channels C)

  -- ── what a process holds, by position
  module _ (l : List RawEnd) (j : ℕ) where
    pub decoded_end_at : {e : RawEnd} → get_elem? l j ≡ some e → get_elem? (map end_of l) j ≡ some (end_of e)
    decoded_end_at e = map_at end_of l j e

    pub decoded_end_set : (e : RawEnd) → map end_of (set l j e) ≡ set (map end_of l) j (end_of e)
    decoded_end_set e = map_set end_of l j e

    pub decoded_end_removed : map end_of (remove_at j l) ≡ remove_at j (map end_of l)
    decoded_end_removed = map_remove end_of j l

  pub decoded_end_append : (l : List RawEnd) (e : RawEnd) → map end_of (l ++ (e ∷ [])) ≡ map end_of l ++ (end_of e ∷ [])
  decoded_end_append l e = map_join end_of l (e ∷ [])

  -- ── who holds an end
  named_first : (k : ℕ) (s : Side) {l : List RawEnd} {j : ℕ} {e : RawEnd} → First (raw.is_end k s) l j e → calculus.held_as k s (map end_of l) ≡ some (name_of e.name)
  unfolding calculus.held_as
  named_first k s (here {x} {l} r) = ap (λ t. cond t (some (name_of x.name)) (calculus.held_as k s (map end_of l))) r
  named_first k s (later {x} {y} {l} r h) = ap (λ t. cond t (some (name_of y.name)) (calculus.held_as k s (map end_of l))) r ∙ named_first k s h

  pub decoded_named : (k : ℕ) (s : Side) (l : List RawEnd) (j : ℕ) {e : RawEnd} → raw.held_at k s l ≡ Some j → get_elem? l j ≡ some e → calculus.held_as k s (map end_of l) ≡ some (name_of e.name)
  unfolding raw.held_at
  decoded_named k s l j e g = named_first k s (first_here (raw.is_end k s) l j e g)

  unnamed : (k : ℕ) (s : Side) (l : List RawEnd) → All (λ e. raw.is_end k s e ≡ false) l → calculus.held_as k s (map end_of l) ≡ none
  unfolding calculus.held_as
  unnamed k s [] a = refl
  unnamed k s (e ∷ l) a = ap (λ t. cond t (some (name_of e.name)) (calculus.held_as k s (map end_of l))) a.0 ∙ unnamed k s l a.1

  pub decoded_unnamed : (k : ℕ) (s : Side) (l : List RawEnd) → raw.held_at k s l ≡ None → calculus.held_as k s (map end_of l) ≡ none
  unfolding raw.held_at
  decoded_unnamed k s l e = unnamed k s l (none_from (raw.is_end k s) l 0 e)

  -- the process at place i holds it as its end e
  abbrev pub holder_as : ℕ → RawProcess → RawEnd → calculus.Holder
  holder_as i p e = record { place = i; process = process_of p; name = name_of e.name }

  module _ (k : ℕ) (s : Side) where
    holder_held : {l : List RawProcess} {i j : ℕ} {p : RawProcess} {e : RawEnd} (n m : ℕ) → Holds k s l i j p → get_elem? p.held j ≡ some e → m ≡ n + i → calculus.holder_from n k s (map process_of l) ≡ some (holder_as m p e)
    unfolding calculus.holder_from
    holder_held {e = e} n m (Holds.here {p} {l} {j} r) g q =
        let z : n ≡ m = omega arith in
        ap (λ o. calculus.holder_here n (process_of p) o (calculus.holder_from (suc n) k s (map process_of l))) (decoded_named k s p.held j r g) ∙ ap (λ i. some (holder_as i p e)) z
    holder_held n m (Holds.later {p} {q} {l} r h) g z =
        ap (λ o. calculus.holder_here n (process_of q) o (calculus.holder_from (suc n) k s (map process_of l))) (decoded_unnamed k s q.held r) ∙ holder_held (suc n) m h g (omega arith)

    pub decoded_holder : (l : List RawProcess) (i j : ℕ) {p : RawProcess} {e : RawEnd} → raw.holder_of k s l ≡ Some (i, j) → get_elem? l i ≡ some p → get_elem? p.held j ≡ some e
        → calculus.holder_from 0 k s (map process_of l) ≡ some (holder_as i p e)
    decoded_holder l i j h g e = holder_held 0 i (holds_here k s l i j h g) e (omega arith)

    unheld : (l : List RawProcess) (n : ℕ) → All (λ p. raw.held_at k s p.held ≡ None) l → calculus.holder_from n k s (map process_of l) ≡ none
    unfolding calculus.holder_from
    unheld [] n a = refl
    unheld (p ∷ l) n a =
        ap (λ o. calculus.holder_here n (process_of p) o (calculus.holder_from (suc n) k s (map process_of l))) (decoded_unnamed k s p.held a.0) ∙ unheld l (suc n) a.1

    pub decoded_nobody : (l : List RawProcess) → raw.holder_of k s l ≡ None → calculus.holder_from 0 k s (map process_of l) ≡ none
    unfolding raw.holder_of
    decoded_nobody l e = unheld l 0 (nobody_from k s l 0 e)

  -- ── the outside's channel
  outside_first : (k : ℕ) {l : List RawOutside} {j : ℕ} {o : RawOutside} → First (raw.on_channel k) l j o → calculus.outside_of k (map outside_of l) ≡ some (outside_of o)
  unfolding calculus.outside_of
  outside_first k (here {x} {l} r) = ap (λ t. cond t (some (outside_of x)) (calculus.outside_of k (map outside_of l))) r
  outside_first k (later {x} {y} {l} r h) = ap (λ t. cond t (some (outside_of y)) (calculus.outside_of k (map outside_of l))) r ∙ outside_first k h

  pub decoded_outside_lem : (k : ℕ) (l : List RawOutside) (j : ℕ) {o : RawOutside} → raw.outside_at k l ≡ Some j → get_elem? l j ≡ some o → calculus.outside_of k (map outside_of l) ≡ some (outside_of o)
  unfolding raw.outside_at
  decoded_outside_lem k l j e g = outside_first k (first_here (raw.on_channel k) l j e g)

  no_outside : (k : ℕ) (l : List RawOutside) → All (λ o. raw.on_channel k o ≡ false) l → calculus.outside_of k (map outside_of l) ≡ none
  unfolding calculus.outside_of
  no_outside k [] a = refl
  no_outside k (o ∷ l) a = ap (λ t. cond t (some (outside_of o)) (calculus.outside_of k (map outside_of l))) a.0 ∙ no_outside k l a.1

  pub decoded_not_outside : (k : ℕ) (l : List RawOutside) → raw.outside_at k l ≡ None → calculus.outside_of k (map outside_of l) ≡ none
  unfolding raw.outside_at
  decoded_not_outside k l e = no_outside k l (none_from (raw.on_channel k) l 0 e)

  -- ── the far end
  module _ (C : RawConfig) (k : ℕ) (s : Side) (A : Ty Name) where
    pub decoded_far_process : (i j : ℕ) {p : RawProcess} {e : RawEnd} → raw.far_end C k s ≡ far.Process i j → get_elem? C.processes i ≡ some p → get_elem? p.held j ≡ some e
        → calculus.far_end (decoded C) (end s k A) ≡ calculus.at_process (holder_as i p e)
    unfolding calculus.far_end
    decoded_far_process i j f g e =
        ap (λ h. calculus.far_from h (calculus.or_outside s (calculus.outside_of k (map outside_of C.outside)))) (decoded_holder k (other s) C.processes i j (far_process C k s i j f) g e)

    pub decoded_far_outside : (j : ℕ) {o : RawOutside} → raw.far_end C k s ≡ far.Outside j → get_elem? C.outside j ≡ some o → calculus.far_end (decoded C) (end s k A) ≡ calculus.at_outside o.number
    unfolding calculus.far_end
    decoded_far_outside j f g =
        let t = far_outside C k s j f in
        ap₂ {C = calculus.Far} (λ h x. calculus.far_from h (calculus.or_outside x (calculus.outside_of k (map outside_of C.outside)))) (decoded_nobody k (other s) C.processes t.0) t.1
        ∙ ap (calculus.or_outside provided) (decoded_outside_lem k C.outside j t.2 g)

    pub decoded_far_given_up : raw.far_end C k s ≡ far.GivenUp → calculus.far_end (decoded C) (end s k A) ≡ calculus.given_up
    unfolding calculus.far_end
    decoded_far_given_up f =
        let t = far_given_up C k s f in
        ap (λ h. calculus.far_from h (calculus.or_outside s (calculus.outside_of k (map outside_of C.outside)))) (decoded_nobody k (other s) C.processes t.0)
        ∙ go s (raw.outside_at k C.outside) refl t.1
      where
        unused : (o : Option Outside) → calculus.or_outside used o ≡ calculus.given_up
        unused none = refl
        unused (some o) = refl

        go : (s : Side) (f : CodeOption ℕ) → raw.outside_at k C.outside ≡ f → raw.or_outside s f ≡ far.GivenUp → calculus.or_outside s (calculus.outside_of k (map outside_of C.outside)) ≡ calculus.given_up
        go used f r e = unused (calculus.outside_of k (map outside_of C.outside))
        go provided None r e = ap (calculus.or_outside provided) (decoded_not_outside k C.outside r)
        go provided (Some j) r e = let z : ◌≡◌ {A = ℕ} 0 1 = cc in absurd (omega arith)

  -- what a far end in numbers stands for
  pub data FarAs (C : RawConfig) : Far → calculus.Far → Type 0 where
    at_process : {i j : ℕ} {p : RawProcess} {e : RawEnd} → get_elem? C.processes i ≡ some p → get_elem? p.held j ≡ some e → FarAs C (far.Process i j) (calculus.at_process (holder_as i p e))
    at_outside : {j : ℕ} {o : RawOutside} → get_elem? C.outside j ≡ some o → FarAs C (far.Outside j) (calculus.at_outside o.number)
    given_up : FarAs C far.GivenUp calculus.given_up

  module _ (C : RawConfig) (k : ℕ) (s : Side) (A : Ty Name) where
    pub decoded_far : FarAs C (raw.far_end C k s) (calculus.far_end (decoded C) (end s k A))
    decoded_far = go (raw.far_end C k s) refl
      where
        go : (f : Far) → raw.far_end C k s ≡ f → FarAs C f (calculus.far_end (decoded C) (end s k A))
        go (far.Process i j) e =
            let h = holds_of k (other s) C.processes i j (far_process C k s i j e) in
            let g = held_there_lem k (other s) h.0.held j (holds_held k (other s) h.1) in
            subst (FarAs C (far.Process i j)) (sym (decoded_far_process C k s A i j e (holds_at k (other s) h.1) g.1)) (at_process (holds_at k (other s) h.1) g.1)
        go (far.Outside j) e =
            let g = outside_there k C.outside j (far_outside C k s j e).2 in
            subst (FarAs C (far.Outside j)) (sym (decoded_far_outside C k s A j e g.1)) (at_outside g.1)
        go far.GivenUp e = subst (FarAs C far.GivenUp) (sym (decoded_far_given_up C k s A e)) given_up
