-- A process of a list, of which something is so: where it stands, and that it is still so, after the list was changed at other places.
use Rattle.std.specs.Prelude.{ℕ, suc, ◌-◌, ◌≡◌, ◌≢◌, Bool, true, false, cond, length, take, drop, set, ltb}
use Rattle.std.proofs.Common.{suc-le-suc, arith, sym, ◌∙◌, ap, subst, length-set}
use Rattle.std.proofs.Math.Decide.{ℕ_discrete}
use Rattle.std.proofs.Math.Path.{refl}
use mathlib.Core.List.{List, ◌∷◌, ◌++◌, map}
use Rattle.std.proofs.Math.Option
use Rattle.std.proofs.Math.Option.{Option, some, none, some-injective, none-ne-some}
use Rattle.std.proofs.Math.ListN.{get_elem?}
use Rattle.notation.specs.Tree.{Name}
use Rattle.calculus.specs.Configuration.{End, Doing, Process, moved_up, moved_down, relinked, inserted, removed}
use Rattle.calculus.specs.Steps.{put_at, changed_at}
use Rattle.theory_derivations.specs.Booleans.{ltb_iff}
use Rattle.theory_ends.specs.Lists.{not_below, found_below, found_one, set_at, set_off, in_low, in_high, out_low, out_high, found_map}

-- what may be so of a process, by what it does and what it holds
abbrev pub Property : Type 1
Property = Doing → List (Name × End) → Type 0

-- ── a process of which Q is so stands at place i
pub record ProcessAt (Q : Property) (l : List Process) (i : ℕ) : Type 0 where
  pub process : Process
  pub there : get_elem? l i ≡ some process
  pub is : Q process.doing process.held

-- it does d
abbrev pub Does : Doing → Property
Does d e l = e ≡ d

abbrev pub DoesAt : Doing → List Process → ℕ → Type 0
DoesAt d = ProcessAt (Does d)

-- what the process of a place does is one thing
pub does_one : {d e : Doing} {l : List Process} {i : ℕ} → DoesAt d l i → DoesAt e l i → d ≡ e
does_one {l = l} f g = sym f.is ∙ ap (λ (q : Process). q.doing) (found_one l refl f.there g.there) ∙ g.is

-- the same process at a place of another list
same_process : {Q : Property} {l m : List Process} {i j : ℕ} → get_elem? m j ≡ get_elem? l i → ProcessAt Q l i → ProcessAt Q m j
same_process e f = record { process = f.process; there = e ∙ f.there; is = f.is }

pub same_set : {Q : Property} {l : List Process} {i k : ℕ} (x : Process) → i ≢ k → ProcessAt Q l i → ProcessAt Q (set l k x) i
same_set {l = l} {i} {k} x n f = same_process (set_off l k i x n) f

same_relinked : {Q : Property} {l : List Process} {i : ℕ} (g : ℕ → ℕ) → ProcessAt Q l i → ProcessAt Q (map (relinked g) l) i
same_relinked {l = l} {i} g f =
    record { process = relinked g f.process; there = found_map (relinked g) l i ∙ ap (Option.map (relinked g)) f.there; is = f.is }

-- ── the process to which a link leads is changed
pub leads? : (o : Option ℕ) (i : ℕ) → Dec (o ≡ some i)
leads? none i = no (none-ne-some i)
leads? (some j) i = go (ℕ_discrete j i)
  where
    go : Dec (j ≡ i) → Dec (◌≡◌ {A = Option ℕ} (some j) (some i))
    go (yes z) = yes (ap some z)
    go (no n) = no (λ z. n (some-injective _ _ z))

pub changed_there : {Q R : Property} {l : List Process} {i : ℕ} (g : Process → Process) → ((q : Process) → Q q.doing q.held → R (g q).doing (g q).held) → {o : Option ℕ} → o ≡ some i
    → ProcessAt Q l i → ProcessAt R (changed_at g o l) i
changed_there {R = R} {l} {i} g h z f = subst (λ o. ProcessAt R (changed_at g o l) i) (sym z) (record {
  process = g f.process;
  there = ap (λ o. get_elem? (put_at l i (Option.map g o)) i) f.there ∙ set_at l i (g f.process) (found_below l i f.there);
  is = h f.process f.is;
})

pub same_beside : {Q : Property} {l : List Process} {i : ℕ} (g : Process → Process) (o : Option ℕ) → o ≢ some i → ProcessAt Q l i → ProcessAt Q (changed_at g o l) i
same_beside g none n f = f
same_beside {Q} {l} {i} g (some j) n f = go (get_elem? l j)
  where
    go : (o : Option Process) → ProcessAt Q (put_at l j (Option.map g o)) i
    go none = f
    go (some q) = same_set (g q) (λ z. n (ap some (sym z))) f

pub length_changed : (g : Process → Process) (o : Option ℕ) (l : List Process) → length (changed_at g o l) ≡ length l
length_changed g none l = refl
length_changed g (some j) l = go (get_elem? l j)
  where
    go : (o : Option Process) → length (put_at l j (Option.map g o)) ≡ length l
    go none = refl
    go (some q) = length-set l j (g q)

-- ── where a process stands after a step at place k: one place on where a process came before it, one back where one left
abbrev pub place_after : ℕ → ℕ → ℕ → ℕ → ℕ
place_after k before after i = cond (ltb before after) (moved_up k i) (cond (ltb after before) (moved_down k i) i)

module _ {Q : Property} where
  pub same_places : (k n m i : ℕ) (l : List Process) → m ≡ n → ProcessAt Q l i → ProcessAt Q l (place_after k n m i)
  same_places k n m i l e f = subst (ProcessAt Q l) (sym stays) f
    where
      stays : place_after k n m i ≡ i
      stays = rw ((not_below n m).1 (omega arith), (not_below m n).1 (omega arith))

  pub one_more : (k n i : ℕ) (l : List Process) → length l ≡ suc n → ProcessAt Q l (moved_up k i) → ProcessAt Q l (place_after k n (length l) i)
  one_more k n i l e f = subst (ProcessAt Q l) (sym up) f
    where
      up : place_after k n (length l) i ≡ moved_up k i
      up = rw ((ltb_iff n (length l)).1 (omega arith))

  pub one_less : (k n i : ℕ) (l : List Process) → suc (length l) ≡ n → ProcessAt Q l (moved_down k i) → ProcessAt Q l (place_after k n (length l) i)
  one_less k n i l e f = subst (ProcessAt Q l) (sym down) f
    where
      down : place_after k n (length l) i ≡ moved_down k i
      down = rw ((not_below n (length l)).1 (omega arith), (ltb_iff (length l) n).1 (omega arith))

  pub same_inserted : {l : List Process} {i : ℕ} (k : ℕ) (x : Process) → ProcessAt Q l i → ProcessAt Q (inserted k x l) (moved_up k i)
  unfolding inserted
  same_inserted {l} {i} k x f = go (ltb k i) refl (same_relinked (moved_up k) f)
    where
      m : List Process
      m = map (relinked (moved_up k)) l

      go : (b : Bool) → ltb k i ≡ b → ProcessAt Q m i → ProcessAt Q (take (suc k) m ++ (x ∷ drop (suc k) m)) (cond b (suc i) i)
      go true e f = same_process (in_high (suc k) x m i (let h = (ltb_iff k i).0 e in let b = found_below m i f.there in omega arith) ((ltb_iff k i).0 e)) f
      go false e f =
          same_process (in_low (suc k) x m i (found_below m i f.there) (suc-le-suc ((not_below k i).0 e))) f

  pub same_removed : {l : List Process} {i : ℕ} (k : ℕ) → i ≢ k → ProcessAt Q l i → ProcessAt Q (removed k l) (moved_down k i)
  unfolding removed
  same_removed {l} {i} k n f = go (ltb k i) refl (same_relinked (moved_down k) f)
    where
      m : List Process
      m = map (relinked (moved_down k)) l

      go : (b : Bool) → ltb k i ≡ b → ProcessAt Q m i → ProcessAt Q (take k m ++ drop (suc k) m) (cond b (i - 1) i)
      go true e f =
          let h = (ltb_iff k i).0 e in
          let back : suc (i - 1) ≡ i = omega arith in
          same_process (out_high k m (i - 1) (omega arith) ∙ ap (get_elem? m) back) f
      go false e f =
          let h = (not_below k i).0 e in
          same_process (out_low k m i (omega arith)) f

pub up_apart : (k i : ℕ) → i ≢ k → moved_up k i ≢ k
up_apart k i n = go (ltb k i) refl
  where
    go : (b : Bool) → ltb k i ≡ b → cond b (suc i) i ≢ k
    go true e z = let h = (ltb_iff k i).0 e in absurd (omega arith)
    go false e z = n z
