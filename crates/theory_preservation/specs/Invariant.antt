-- The invariant of a configuration: its list shows a good roster. What a step leaves keeps it.
-- Why identities: inserting or removing a process shifts places and links, and under identities nothing of the forest changes then;
-- only the map from places to identities does. So each rule is proved on rosters, and read off the list by one of three laws of Places.
use Rattle.std.specs.Prelude.{◌≡◌, refl, ◌≢◌, Bool, true, false, ℕ, ◌≤◌, length, set}
use Rattle.std.proofs.Common.{sym, ◌∙◌, ap, subst, true≢false, arith, length-set}
use mathlib.Core.List.{List, Sublistᴰ}
use Rattle.std.proofs.Math.Option.{Option, some, map, some-injective}
use Rattle.std.proofs.Math.ListN.{get_elem?}
use Rattle.notation.specs.Limits.{process_places, outside_numbers}
use Rattle.notation.specs.Tree.{Name, Proc}
use Rattle.calculus.specs.Program.{Program}
use Rattle.calculus.specs.Configuration.{End, Doing, running, Process, relinked, Outside, Config, with_processes, with_outside, with_given, becoming}
use Rattle.calculus.specs.Typing.{Typed}
use Rattle.calculus.specs.Reduces.{Runs}
use Rattle.calculus.specs.WellFormed.{context_of, is_waiting}
use Rattle.theory_ends.specs.Lists.{found_below, below_found, found_one}
use Rattle.theory_preservation.specs.Mates.{put}
use Rattle.theory_preservation.specs.Roster.{Roster, TypedDoing, Fine, Continues, profile, Good, Goes, runs_on}
use Rattle.theory_preservation.specs.LettingGo.{lessen}
use Rattle.theory_preservation.specs.Places.{Shows, shows_set}

pub record Inv (p : Program) (C : Config) : Type 0 where
  pub id : ℕ → ℕ
  pub roster : Roster
  pub next : ℕ
  pub shows : Shows id C.processes roster
  pub good : Good p roster C.outside C.given next
  pub places : length C.processes ≤ process_places
  pub numbers : C.given ≤ outside_numbers

module _ {p : Program} {C : Config} (I : Inv p C) where
  -- the process q at place i, as the roster has it
  module _ (i : ℕ) (q : Process) (at : get_elem? C.processes i ≡ some q) where
    pub at_roster : I.roster (I.id i) ≡ some (relinked I.id q)
    at_roster = I.shows.there i q at

    pub fine_at : Fine p (relinked I.id q)
    fine_at = I.good.fine (I.id i) (relinked I.id q) at_roster

    pub typed_at : (d : Doing) → q.doing ≡ d → TypedDoing p (context_of q.held) d
    typed_at d e = subst (TypedDoing p (context_of q.held)) e fine_at.typed

    -- it does d and holds l from now on
    pub inv_set : (d : Doing) (l : List (Name × End)) {o : List Outside} {given : ℕ} → given ≤ outside_numbers
        → Good p (put (I.id i) (some (relinked I.id (becoming d l q))) I.roster) o given I.next → Inv p (with_given given (with_outside o (with_processes (set C.processes i (becoming d l q)) C)))
    inv_set d l le g = record {
      id = I.id;
      roster = put (I.id i) (some (relinked I.id (becoming d l q))) I.roster;
      next = I.next;
      shows = shows_set I.shows i (found_below C.processes i at) (becoming d l q) (I.shows.within i q at);
      good = g;
      places = subst (λ n. n ≤ process_places) (sym (length-set C.processes i (becoming d l q))) I.places;
      numbers = le;
    }

    -- it lets go of some of what it holds, and so does the outside
    pub inv_less : (d : Doing) → Goes q.doing d → {l : List (Name × End)} → Sublistᴰ l q.held → TypedDoing p (context_of l) d
        → {o : List Outside} → Sublistᴰ o C.outside → Inv p (with_outside o (with_processes (set C.processes i (becoming d l q)) C))
    inv_less d w {l} s t k = inv_set d l I.numbers (lessen I.good (record { there = at_roster; goes = w }) s t k)

    -- its handler stands where its link says, and waits
    pub handler : (h : ℕ) → q.link ≡ some h → (r : Process) × (get_elem? C.processes h ≡ some r) × (is_waiting r.doing ≡ true)
    handler h e =
        let x = below_found C.processes h (I.shows.within i q at h e) in
        let m = I.good.mates.up (I.id i) (I.id h) (is_waiting q.doing) (ap profile at_roster ∙ ap (λ o. some (map I.id o, is_waiting q.doing)) e) in
        (x.0, x.1, ap (λ (y : Option ℕ × Bool). y.1) (some-injective _ _ (sym (ap profile (I.shows.there h x.0 x.1)) ∙ m.1)))

  -- a process that runs a term goes on with P
  pub continuing : {i : ℕ} {q : Process} {R : Proc} → Runs C i q R → (P : Proc) → Continues I.roster (I.id i) (relinked I.id q) (running P)
  continuing {i} {q} r P = record { there = at_roster i q r.stands.there; goes = runs_on r.runs P }

  -- the term that a process runs is typed with what it holds
  pub runs_typed : {i : ℕ} {q : Process} {P : Proc} → Runs C i q P → Typed p (context_of q.held) P
  runs_typed {i} {q} {P} r = typed_at i q r.stands.there (running P) r.runs

  -- no link leads to a process that does not wait
  pub unlinked : (i : ℕ) (q : Process) → get_elem? C.processes i ≡ some q → is_waiting q.doing ≡ false → (j : ℕ) (r : Process) → get_elem? C.processes j ≡ some r → r.link ≢ some i
  unlinked i q at w j r e z =
      let h = handler j r e i z in
      true≢false (sym h.2 ∙ ap (λ (q : Process). is_waiting q.doing) (found_one C.processes refl h.1 at) ∙ w)

  -- those at i and j change
  pub inv_two : (i j : ℕ) (q r : Process) → get_elem? C.processes i ≡ some q → get_elem? C.processes j ≡ some r → (d d' : Doing) (l l' : List (Name × End))
      → Good p (put (I.id j) (some (relinked I.id (becoming d' l' r))) (put (I.id i) (some (relinked I.id (becoming d l q))) I.roster))
      C.outside C.given I.next
      → Inv p (with_processes (set (set C.processes i (becoming d l q)) j (becoming d' l' r)) C)
  inv_two i j q r a b d d' l l' g = record {
    id = I.id;
    roster = put (I.id j) (some (relinked I.id (becoming d' l' r))) (put (I.id i) (some (relinked I.id (becoming d l q))) I.roster);
    next = I.next;
    shows = shows_set (shows_set I.shows i (found_below C.processes i a) (becoming d l q) (I.shows.within i q a)) j
        (omega (arith, found_below C.processes j b, len)) (becoming d' l' r) (λ h e. let x = I.shows.within j r b h e in omega (arith, len));
    good = g;
    places = subst (λ n. n ≤ process_places) (sym (length-set (set C.processes i (becoming d l q)) j (becoming d' l' r) ∙ len)) I.places;
    numbers = I.numbers;
  }
    where
      len : length (set C.processes i (becoming d l q)) ≡ length C.processes
      len = length-set C.processes i (becoming d l q)
