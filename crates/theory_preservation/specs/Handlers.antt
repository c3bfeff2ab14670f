-- Raise, a lost recv and a label left out, which start the handler, and leaving the list, by which the handler folds up.
use Rattle.std.specs.Prelude.{◌≡◌, refl, ◌≢◌, ◌⊎◌, true, false, ℕ, zero, suc, ◌≤◌, ◌<◌, length, set}
use Rattle.std.proofs.Common.{sym, ◌∙◌, ap, subst, inl, inr, arith, length-set}
use mathlib.Core.List.Sublistᴰ
use mathlib.Core.List.{List, [], ◌∷◌, Sublistᴰ}
use Rattle.std.proofs.Math.Option.{Option, some, none, map, none-ne-some}
use Rattle.std.proofs.Math.ListN.{get_elem?}
use Rattle.notation.specs.Limits.{process_places}
use Rattle.notation.specs.Tree.{Name, Proc, raise}
use Rattle.calculus.specs.Named.{names, without}
use Rattle.calculus.specs.Program.{Context, Program}
use Rattle.calculus.specs.Typing.{Typed, raises}
use Rattle.calculus.specs.Configuration.{End, Doing, running, folding, waiting, Process, Config, Stands, with_processes, replaced, relinked, removed, doing_now, linked_by, goes_on, folds_up, becoming}
use Rattle.calculus.specs.Steps.{changed_at, put_at, started_handler, started_doing, folded_handler, handler_starts}
use Rattle.calculus.specs.Reduces.{Empty, no_term, no_channel}
use Rattle.calculus.specs.WellFormed.{context_of, is_waiting}
use Rattle.theory_ends.specs.Names.{without_sub}
use Rattle.theory_ends.specs.Lists.{length_removed, set_at, set_twice, set_cases, found_below}
use Rattle.theory_preservation.specs.Mates.{put}
use Rattle.theory_preservation.specs.Roster.{TypedDoing, NamesDiffer, names_less, Goes, runs_on, goes_folding, runs_awake}
use Rattle.theory_preservation.specs.LettingGo.{started, left, left_alone}
use Rattle.theory_preservation.specs.Places.{Shows, shows_set, shows_out, id_out}
use Rattle.theory_preservation.specs.Invariant.{Inv, inv_less, at_roster, fine_at, handler, unlinked}

started_waits_not : (d : Doing) → is_waiting (started_doing d) ≡ false
started_waits_not (running P) = refl
started_waits_not folding = refl
started_waits_not (waiting P) = refl

started_typed : (p : Program) (H : Context) (d : Doing) → TypedDoing p H d → TypedDoing p H (started_doing d)
started_typed p H (running P) t = t
started_typed p H folding t = t
started_typed p H (waiting P) t = t

started_names : (ns : List Name) (d : Doing) → NamesDiffer d ns → NamesDiffer (started_doing d) ns
started_names ns (running P) n = n
started_names ns folding n = n
started_names ns (waiting P) n = n

-- what stood at place j before a handler was started does not matter, where another stands there afterwards
put_later : (x : Process) (l : List Process) (k : ℕ) (o : Option Process) → put_at (x ∷ l) (suc k) o ≡ x ∷ put_at l k o
put_later x l k none = refl
put_later x l k (some h) = refl

put_before_lem : (f : Process → Process) (l : List Process) (j k : ℕ) (r y : Process) → set (put_at (set l j r) k (map f (get_elem? (set l j r) k))) j y ≡ set (put_at l k (map f (get_elem? l k))) j y
put_before_lem f [] j k r y = refl
put_before_lem f (x ∷ l) zero zero r y = refl
put_before_lem f (x ∷ l) zero (suc k) r y = rw (put_later, put_later) refl
put_before_lem f (x ∷ l) (suc j) zero r y = ap (λ m. f x ∷ m) (set_twice l j r y)
put_before_lem f (x ∷ l) (suc j) (suc k) r y = rw (put_later, put_later) (ap (λ m. x ∷ m) (put_before_lem f l j k r y))

changed_before : (f : Process → Process) (o : Option ℕ) (l : List Process) (j : ℕ) (r y : Process) → set (changed_at f o (set l j r)) j y ≡ set (changed_at f o l) j y
changed_before f none l j r y = set_twice l j r y
changed_before f (some k) l j r y = put_before_lem f l j k r y

module _ {p : Program} {C : Config} (I : Inv p C) {i : ℕ} {q : Process} (here : Stands C i q) where
  inside : i < length C.processes
  inside = found_below C.processes i here.there

  -- the handler r at h goes on by g
  module _ (w : is_waiting q.doing ≡ false) (h : ℕ) (lk : q.link ≡ some h) (r : Process) (rh : get_elem? C.processes h ≡ some r) (rw : is_waiting r.doing ≡ true) (d : Doing) where
    abbrev l₁ : List Process
    l₁ = set C.processes h (doing_now d r)

    len₁ : length l₁ ≡ length C.processes
    len₁ = length-set C.processes h (doing_now d r)

    s₁ : Shows I.id l₁ (put (I.id h) (some (relinked I.id (doing_now d r))) I.roster)
    s₁ = shows_set I.shows h (found_below C.processes h rh) (doing_now d r) (I.shows.within h r rh)

    link_id : map I.id q.link ≡ some (I.id h)
    link_id = ap (map I.id) lk

    started_inv : is_waiting d ≡ false → NamesDiffer d (names r.held) → TypedDoing p (context_of r.held) d
        → (d' : Doing) → is_waiting d' ≡ false → {l : List (Name × End)} → Sublistᴰ l q.held → NamesDiffer d' (names l) → TypedDoing p (context_of l) d'
        → Inv p (with_processes (set l₁ i (linked_by none (becoming d' l q))) C)
    started_inv wd nd td d' w' {l} a n t = record {
      id = I.id;
      roster = put (I.id i) (some (linked_by none (becoming d' l q))) (put (I.id h) (some (relinked I.id (becoming d r.held r))) I.roster);
      next = I.next;
      shows = shows_set s₁ i (omega (arith, inside, len₁)) (linked_by none (becoming d' l q)) (λ k e. absurd (none-ne-some k e));
      good = started I.good (I.id i) (I.id h) (relinked I.id q) (relinked I.id r) (at_roster I i q here.there) (at_roster I h r rh) w link_id rw d wd nd td d' w' a n t;
      places = subst (λ n. n ≤ process_places) (sym (length-set l₁ i _ ∙ len₁)) I.places;
      numbers = I.numbers;
    }

    left_inv : is_waiting d ≡ false → NamesDiffer d (names r.held) → TypedDoing p (context_of r.held) d
        → Inv p (with_processes (removed i l₁) C)
    left_inv wd nd td = record {
      id = id_out s₁ i;
      roster = put (I.id i) none (put (I.id h) (some (relinked I.id (becoming d r.held r))) I.roster);
      next = I.next;
      shows = shows_out s₁ i (omega (arith, inside, len₁)) alone;
      good = left I.good (I.id i) (I.id h) (relinked I.id q) (relinked I.id r) (at_roster I i q here.there) (at_roster I h r rh) w link_id rw d wd nd td;
      places = let a = I.places in let b = length_removed i l₁ (omega (arith, inside, len₁)) in omega (arith, len₁);
      numbers = I.numbers;
    }
      where
        alone : (j : ℕ) (s : Process) → get_elem? l₁ j ≡ some s → s.link ≢ some i
        alone j s e z = go (set_cases C.processes h (doing_now d r) (found_below C.processes h rh) j s e)
          where
            go : ((j ≡ h) × (doing_now d r ≡ s)) ⊎ ((j ≢ h) × (get_elem? C.processes j ≡ some s)) → ⊥
            go (inl y) = unlinked I i q here.there w h r rh (ap (λ (s : Process). s.link) y.1 ∙ z)
            go (inr y) = unlinked I i q here.there w j s y.1 z

  -- the process does d from now on, holds l and is not linked; its handler, if linked, starts
  pub starts_keep : is_waiting q.doing ≡ false → (d : Doing) → Goes q.doing d → {l : List (Name × End)} → Sublistᴰ l q.held → TypedDoing p (context_of l) d
      → Inv p (handler_starts i (becoming d l q) C)
  starts_keep w d g {l} a t = go q.link refl
    where
      go : (o : Option ℕ) → q.link ≡ o → Inv p (replaced i (linked_by none (becoming d l q)) (with_processes (changed_at started_handler o C.processes) C))
      go none z =
          subst (λ o. Inv p (replaced i (linked_by o (becoming d l q)) C)) z
          (inv_less I i q here.there d g a t (Sublistᴰ.refl C.outside))
      go (some h) z =
          let x = handler I i q here.there h z in
          subst (λ o. Inv p (replaced i (linked_by none (becoming d l q)) (with_processes (put_at C.processes h (map started_handler o)) C))) (sym x.1)
          (started_inv w h z x.0 x.1 x.2 (started_doing x.0.doing) (started_waits_not x.0.doing)
          (started_names _ x.0.doing (fine_at I h x.0 x.1).names)
          (started_typed p _ x.0.doing (fine_at I h x.0 x.1).typed) d (sym g.waits ∙ w) a
          (names_less d a (g.names _ (fine_at I i q here.there).names)) t)

  pub raise_keeps : {o : ℕ} {P : Proc} → q.doing ≡ running (raise o P) → Typed p (context_of q.held) (raise o P)
      → Inv p (handler_starts i (goes_on q P q.held) C)
  raise_keeps {P = P} r (raises t) = starts_keep (runs_awake r) (running P) (runs_on r P) (Sublistᴰ.refl q.held) t

  -- a recv whose far end was given up
  pub lost_keeps : {P : Proc} → q.doing ≡ running P → (c : Name) → Inv p (handler_starts i (folds_up q (without c q.held)) C)
  lost_keeps r c = starts_keep (runs_awake r) folding (goes_folding (runs_awake r)) (without_sub c q.held) tt

  empty_awake : Empty q → is_waiting q.doing ≡ false
  empty_awake (no_term e) = ap is_waiting e
  empty_awake (no_channel e _) = ap is_waiting e

  pub leave_keeps : Empty q → Inv p (with_processes (removed i (changed_at folded_handler q.link C.processes)) C)
  leave_keeps e = go q.link refl
    where
      w : is_waiting q.doing ≡ false
      w = empty_awake e

      go : (o : Option ℕ) → q.link ≡ o → Inv p (with_processes (removed i (changed_at folded_handler o C.processes)) C)
      go none z = record {
        id = id_out I.shows i;
        roster = put (I.id i) none I.roster;
        next = I.next;
        shows = shows_out I.shows i inside (unlinked I i q here.there w);
        good = left_alone I.good (I.id i) (relinked I.id q) (at_roster I i q here.there) w (ap (map I.id) z);
        places = let a = I.places in let b = length_removed i C.processes inside in omega arith;
        numbers = I.numbers;
      }
      go (some h) z =
          let r = handler I i q here.there h z in
          subst (λ o. Inv p (with_processes (removed i (put_at C.processes h (map folded_handler o))) C)) (sym r.1)
          (left_inv w h z r.0 r.1 r.2 folding refl tt tt)

-- a process that folds up from now on, as D has it but for its place: its handler, if linked, starts in the same step
pub folded_starts : {p : Program} (D : Config) (i : ℕ) (q : Process) (l : List (Name × End)) → Inv p (replaced i (folds_up q l) D) → i < length D.processes
    → Inv p (handler_starts i (folds_up q l) D)
folded_starts {p} D i q l I b =
    subst (λ m. Inv p (with_processes m D)) (changed_before started_handler q.link D.processes i (folds_up q l) (linked_by none (folds_up q l)))
    (starts_keep I (record { there = set_at D.processes i (folds_up q l) b }) refl folding (goes_folding refl) (Sublistᴰ.refl l) tt)
