-- What a step at another place does to a process that is not its partner: nothing, save that it starts a handler or makes it fold up.
use Rattle.std.specs.Prelude.{ℕ, suc, ◌≡◌, refl, ◌≢◌, List, length, set}
use Rattle.std.proofs.Common.{arith, sym, ◌∙◌, ap, subst, length-set}
use Rattle.std.proofs.Math.Decide.{ℕ_discrete}
use Rattle.std.proofs.Math.Option.{some, none, none-ne-some}
use Rattle.std.proofs.Math.ListN.{get_elem?}
use Rattle.notation.specs.Tree.{Name}
use Rattle.calculus.specs.Types.{other}
use Rattle.calculus.specs.Program.{Program}
use Rattle.calculus.specs.Configuration.{End, Doing, folding, Process, Config, Stands, inserted, removed}
use Rattle.calculus.specs.Steps.{carried, turn_of, started_doing, started_handler, folded_handler, changed_at, moved_end, far_moved, step}
use Rattle.calculus.specs.Named.{In}
use Rattle.calculus.specs.Reduces.{Empty}
use Rattle.calculus.specs.declared.answers.Seen.{Seen}
use Rattle.theory_ends.specs.Lists.{found_below, found_one, set_at, set_off, length_inserted, length_removed}
use Rattle.theory_progress.specs.Starting.{StartsHandler}
use Rattle.theory_progress.specs.Placed.{Property, ProcessAt, Does, DoesAt, same_set, leads?, changed_there, same_beside, length_changed, place_after, same_places, one_more, one_less, same_inserted, same_removed, up_apart}
use Rattle.theory_progress.specs.Shapes.{acts_on, Touched, itself, partner, Shape, one, two, joined, handled, left_out, spawned_one, tried_one, left, step_shape}

-- ── what is so of it after a step at place k: the same; or it was started or folds up, if the process at k, or its partner, was linked to it
abbrev pub Started : Property → Property
Started Q d l = (e : Doing) × Q e l × (d ≡ started_doing e)

-- where it stands in the list l afterwards
abbrev pub Stays : Config → ℕ → ℕ → Property → List Process → Type 0
Stays C k i Q l = ProcessAt Q l (place_after k (length C.processes) (length l) i)

pub data After (C : Config) (k i : ℕ) (Q : Property) (l : List Process) : Type 0 where
  as_before : Stays C k i Q l → After C k i Q l
  started : {q : Process} → StartsHandler C k q → q.link ≡ some i → Stays C k i (Started Q) l → After C k i Q l
  folded : {q : Process} → Stands C k q → Empty q → q.link ≡ some i → Stays C k i (Does folding) l → After C k i Q l

-- the process at place i stands by while the one at place k takes its step: it is not its partner, and Q is still so where a fwd of that one has moved an end
pub record Bystander (C : Config) (k i : ℕ) (Q : Property) : Type 0 where
  pub apart : {j : ℕ} → Touched C k j → i ≢ j
  pub moved : {q : Process} {n : Name} {a : Doing} {l : List (Name × End)} (e d : End) → Stands C k q → In (n, e) q.held → Q a l → Q a (moved_end e.channel (other e.side) d.channel l)

module _ (C : Config) (k i : ℕ) {Q : Property} (b : Bystander C k i Q) (f : ProcessAt Q C.processes i) where
  elsewhere : i ≢ k
  elsewhere = b.apart (itself refl)

  same_joined : {q : Process} {m : Name} {h : ℕ} {r : Process} (x : Process) (e d : End) → Stands C k q → In (m, e) q.held → Stands C h r
      → ProcessAt Q (set (set C.processes k x) h (far_moved e d r)) i
  same_joined {h = h} {r} x e d t m s = go (ℕ_discrete i h)
    where
      go : Dec (i ≡ h) → ProcessAt Q (set (set C.processes k x) h (far_moved e d r)) i
      go (yes z) =
          let same : f.process ≡ r = found_one C.processes z f.there s.there in
          let there : get_elem? (set C.processes k x) h ≡ some r = set_off C.processes k h x (λ w. elsewhere (z ∙ w)) ∙ s.there in
          record {
            process = far_moved e d r;
            there = ap (get_elem? (set (set C.processes k x) h (far_moved e d r))) z ∙ set_at (set C.processes k x) h (far_moved e d r) (found_below (set C.processes k x) h there);
            is = b.moved e d t m (subst (λ (q : Process). Q q.doing q.held) same f.is);
          }
      go (no w) = same_set (far_moved e d r) w (same_set x elsewhere f)

  -- a handler is started in the list l of as many processes, and then the one at another place h changes
  handled_after : (l : List Process) → length l ≡ length C.processes → ProcessAt Q l i → {h : ℕ} → i ≢ h → (x : Process) {q : Process} → StartsHandler C k q
      → After C k i Q (set (changed_at started_handler q.link l) h x)
  handled_after l many g {h} n x {q} s = go (leads? q.link i)
    where
      m : List Process
      m = changed_at started_handler q.link l

      stays : {R : Property} → ProcessAt R m i → Stays C k i R (set m h x)
      stays g = same_places k _ _ i _ (length-set m h x ∙ length_changed started_handler q.link l ∙ many) (same_set x n g)

      go : Dec (q.link ≡ some i) → After C k i Q (set m h x)
      go (yes z) = started s z (stays (changed_there started_handler (λ q e. (q.doing, e, refl)) z g))
      go (no d) = as_before (stays (same_beside started_handler q.link d g))

  left_after : {q : Process} → Stands C k q → Empty q → After C k i Q (removed k (changed_at folded_handler q.link C.processes))
  left_after {q} s t = go (leads? q.link i)
    where
      l : List Process
      l = changed_at folded_handler q.link C.processes

      stays : {R : Property} → ProcessAt R l i → Stays C k i R (removed k l)
      stays g =
          let c = length_changed folded_handler q.link C.processes in
          let b = found_below C.processes k s.there in
          one_less k _ i _ (length_removed k l (omega arith) ∙ c) (same_removed k elsewhere g)

      go : Dec (q.link ≡ some i) → After C k i Q (removed k l)
      go (yes z) = folded s t z (stays (changed_there folded_handler (λ q e. refl) z f))
      go (no m) = as_before (stays (same_beside folded_handler q.link m f))

  shape_after : {seen : Seen} {l : List Process} → Shape C k seen l → After C k i Q l
  shape_after (one j x t) = as_before (same_places k _ _ i _ (length-set C.processes j x) (same_set x (b.apart t) f))
  shape_after (two j h x y t u) =
      as_before
      (same_places k _ _ i _ (length-set (set C.processes j x) h y ∙ length-set C.processes j x) (same_set y (b.apart u) (same_set x (b.apart t) f)))
  shape_after (joined h x e d t m s) =
      as_before (same_places k _ _ i _ (length-set (set C.processes k x) h _ ∙ length-set C.processes k x) (same_joined x e d t m s))
  shape_after (handled x s) = handled_after C.processes refl f elsewhere x s
  shape_after (left_out j h x y t u s) = handled_after (set C.processes j x) (length-set C.processes j x) (same_set x (b.apart t) f) (b.apart u) y s
  shape_after (spawned_one x y) =
      as_before
      (one_more k _ i _ (length_inserted k x (set C.processes k y) ∙ ap suc (length-set C.processes k y)) (same_inserted k x (same_set y elsewhere f)))
  shape_after (tried_one x y) =
      as_before
      (one_more k _ i _ (length-set (inserted k x C.processes) k y ∙ length_inserted k x C.processes) (same_set y (up_apart k i elsewhere) (same_inserted k x f)))
  shape_after (left s t) = left_after s t

  pub step_after : (p : Program) {D : Config} {seen : Seen} → step p C k ≡ carried seen D → After C k i Q D.processes
  step_after p e = shape_after (step_shape p C _ k _ e)

-- ── a process that neither sends nor receives is nobody's partner
pub silent_after : (C : Config) (k i : ℕ) {d : Doing} → acts_on (turn_of d) ≡ none → i ≢ k → DoesAt d C.processes i → (p : Program) {D : Config} {seen : Seen} → step p C k ≡ carried seen D
    → After C k i (Does d) D.processes
silent_after C k i silent n f = step_after C k i (record { apart = apart; moved = λ _ _ _ _ z. z }) f
  where
    apart : {j : ℕ} → Touched C k j → i ≢ j
    apart (itself e) z = n (z ∙ e)
    apart (partner {r = r} s g) z =
        let e : f.process ≡ r = found_one C.processes z f.there s.there in
        none-ne-some g.name (sym silent ∙ ap (λ d. acts_on (turn_of d)) (sym f.is ∙ ap (λ (q : Process). q.doing) e) ∙ g.acts_on_lem)
