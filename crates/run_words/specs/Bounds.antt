-- Changes of a run, and that they keep the bounds.
use Prim.Native.Nat.{ℕ, zero, suc, ◌+◌, ◌-◌, ◌≤◌, ◌<◌}
use mathlib.Core.List.{List, [], ◌∷◌, ◌++◌, map}
use Rattle.std.specs.Prelude.{◌≡◌, Bool, true, false, cond, ltb, eqb, set}
use Rattle.std.proofs.Common.{sym, subst, ◌∙◌, lt-ltb, le-ltb, length-set, length-append}
use Rattle.std.proofs.Math.Path.{ap}
use Rattle.std.proofs.Math.Option
use Rattle.std.proofs.Math.Option.{Option, some, none}
use native.Mathlib.Omega.{arith}
use Rattle.std.proofs.Math.Decide.{dec_lt}
use Rattle.std.proofs.Math.ListN.{length, length-map}
use Rattle.calculus.specs.Configuration.{moved_up, moved_down}
use Rattle.run_words.specs.Lists.{All, remove_at}
use Rattle.run_words.specs.ListLaws.{all_set, all_append, all_insert, all_remove, all_map, length_insert, length_remove}
use Rattle.run_words.specs.Raw.{raw_in, RawProcess, RawOutside, RawConfig, link_of, links_below, BoundedProcess, BoundedOutside, Bounded}
use Rattle.run_words.specs.Values.{Changed}
use Rattle.run_words.specs.Operations.{moved, moved_word, single, with_processes, with_outside, with_given, with_halted, relinked, inserted, removed, let_go}

-- a change to a bounded configuration
pub keeps : {old new : List ℕ} {C : RawConfig} → Changed old new C → Bounded C → Changed old new C × Bounded (raw_in new)
keeps e b = (e, subst (λ (D : RawConfig). Bounded D) (sym e.is) b)

-- the same change, said otherwise
pub changed_as : {old new : List ℕ} {C D : RawConfig} → C ≡ D → Changed old new C → Changed old new D
changed_as e p = record { is = p.is ∙ e; past = p.past; long = p.long }

-- one change after another
pub after : {old mid new : List ℕ} {C : RawConfig} (f : RawConfig → RawConfig) → Changed old mid C → Changed mid new (f (raw_in mid)) → Changed old new (f C)
after f p q = record { is = q.is ∙ ap f p.is; past = q.past ∙ p.past; long = q.long ∙ p.long }

-- no process has the link
abbrev pub Unlinked : ℕ → List RawProcess → Type 0
Unlinked i l = All (λ p. p.link ≡ some i → ⊥) l

module _ (C : RawConfig) (b : Bounded C) where
  pub bounded_processes : (l : List RawProcess) (n : ℕ) → length l ≡ n → n ≤ 128 → All (BoundedProcess n) l → Bounded (with_processes C l)
  bounded_processes l n e h a = record {
    places = omega arith;
    processes = subst (λ (m : ℕ). All (BoundedProcess m) l) (sym e) a;
    channels = b.channels;
    outside = b.outside;
    given = b.given;
    halted = b.halted;
  }

  pub bounded_outside : (l : List RawOutside) → length l ≤ 32 → All BoundedOutside l → Bounded (with_outside C l)
  bounded_outside l h a = record { places = b.places; processes = b.processes; channels = h; outside = a; given = b.given; halted = b.halted }

  pub bounded_given : (n : ℕ) → n ≤ 32 → Bounded (with_given C n)
  bounded_given n h = record { places = b.places; processes = b.processes; channels = b.channels; outside = b.outside; given = h; halted = b.halted }

  pub bounded_halted : Bounded (with_halted C 1)
  bounded_halted = record { places = b.places; processes = b.processes; channels = b.channels; outside = b.outside; given = b.given; halted = omega arith }

  pub bounded_set : (i : ℕ) (p : RawProcess) → BoundedProcess (length C.processes) p → Bounded (with_processes C (set C.processes i p))
  bounded_set i p h = bounded_processes _ _ (length-set C.processes i p) b.places (all_set _ C.processes i p b.processes h)

pub bounded_single : (p : RawProcess) → BoundedProcess 1 p → Bounded (single p)
bounded_single p b = record { places = omega arith; processes = (b, tt); channels = omega arith; outside = tt; given = omega arith; halted = omega arith }

-- links move with the places
pub link_moved : (up : Bool) (i l : ℕ) → link_of (moved_word up i l) ≡ Option.map (moved up i) (link_of l)
link_moved up i zero = rw (le-ltb (i + 1) 0 (omega arith))
link_moved up i (suc h) = go up (dec_lt i h)
  where
    go : (up : Bool) → Dec (i < h) → link_of (moved_word up i (suc h)) ≡ some (moved up i h)
    go true (yes p) =
        let t : ltb (i + 1) (suc h) ≡ true = lt-ltb (i + 1) (suc h) (omega arith) in
        let e : suc h + 1 ≡ suc (suc h) = omega arith in
        rw (t, lt-ltb i h p) (ap link_of e)
    go false (yes p) =
        let t : ltb (i + 1) (suc h) ≡ true = lt-ltb (i + 1) (suc h) (omega arith) in
        let e : suc h - 1 ≡ suc (h - 1) = omega arith in
        rw (t, lt-ltb i h p) (ap link_of e)
    go true (no p) = rw (le-ltb (i + 1) (suc h) (omega arith), le-ltb i h (omega arith))
    go false (no p) = rw (le-ltb (i + 1) (suc h) (omega arith), le-ltb i h (omega arith))

pub link_word : (n l : ℕ) → links_below n (link_of l) → l ≤ n
link_word n zero h = omega arith
link_word n (suc l) h = h

moved_up_below : (i n h : ℕ) → h < n → moved_up i h < suc n
moved_up_below i n h l = go (dec_lt i h)
  where
    go : Dec (i < h) → moved_up i h < suc n
    go (yes p) = rw (lt-ltb i h p) (omega arith)
    go (no p) = let q : h ≤ i = omega arith in rw (le-ltb i h q) (omega arith)

moved_down_below : (i n h : ℕ) → h < suc n → (h ≡ i → ⊥) → i ≤ n → moved_down i h < n
moved_down_below i n h l e m = go (dec_lt i h)
  where
    go : Dec (i < h) → moved_down i h < n
    go (yes p) = rw (lt-ltb i h p) (omega arith)
    go (no p) = let q : h ≤ i = omega arith in rw (le-ltb i h q) (omega arith)

relinked_bounded : (n m : ℕ) (f : ℕ → ℕ) (p : RawProcess) → BoundedProcess n p → links_below m (Option.map f p.link) → BoundedProcess m (relinked f p)
relinked_bounded n m f p b l = record { kind = b.kind; pointer = b.pointer; many = b.many; each = b.each; link = l }

pub raised : (i n : ℕ) (l : List RawProcess) → All (BoundedProcess n) l → All (BoundedProcess (suc n)) (map (relinked (moved_up i)) l)
raised i n l a = all_map _ _ (relinked (moved_up i)) (λ p b. relinked_bounded n (suc n) (moved_up i) p b (go p.link b.link)) l a
  where
    go : (o : Option ℕ) → links_below n o → links_below (suc n) (Option.map (moved_up i) o)
    go none h = tt
    go (some h) l = moved_up_below i n h l

pub lowered : (i n : ℕ) (l : List RawProcess) → i ≤ n → All (BoundedProcess (suc n)) l → Unlinked i l → All (BoundedProcess n) (map (relinked (moved_down i)) l)
lowered i n [] m a u = tt
lowered i n (p ∷ l) m a u = (relinked_bounded (suc n) n (moved_down i) p a.0 (go p.link a.0.link u.0), lowered i n l m a.1 u.1)
  where
    go : (o : Option ℕ) → links_below (suc n) o → (o ≡ some i → ⊥) → links_below n (Option.map (moved_down i) o)
    go none h v = tt
    go (some h) k v = moved_down_below i n h k (λ e. v (ap some e)) m

module _ (C : RawConfig) (b : Bounded C) where
  pub bounded_insert : (i : ℕ) (p : RawProcess) → length C.processes < 128 → BoundedProcess (suc (length C.processes)) p → Bounded (with_processes C (inserted i p C.processes))
  unfolding inserted
  bounded_insert i p h q =
      bounded_processes C b _ (suc (length C.processes))
      (length_insert (suc i) p (map (relinked (moved_up i)) C.processes) ∙ ap suc (length-map C.processes (relinked (moved_up i)))) (omega arith)
      (all_insert (BoundedProcess (suc (length C.processes))) (suc i) p (map (relinked (moved_up i)) C.processes) (raised i (length C.processes) C.processes b.processes) q)

  pub bounded_remove : (i : ℕ) → i < length C.processes → Unlinked i C.processes → Bounded (with_processes C (removed i C.processes))
  unfolding removed
  bounded_remove i h u =
      let l = map (relinked (moved_down i)) C.processes in
      let m = length C.processes - 1 in
      let e : length C.processes ≡ suc m = omega arith in
      let k : length l ≡ length C.processes = length-map C.processes (relinked (moved_down i)) in
      let r : suc (length (remove_at i l)) ≡ length l = length_remove i l (omega arith) in
      bounded_processes C b (remove_at i l) m (omega arith) (omega (arith, b.places))
      (all_remove (BoundedProcess m) i l (lowered i m C.processes (omega arith) (subst (λ (n : ℕ). All (BoundedProcess n) C.processes) e b.processes) u))

-- the outside
pub let_go_few : (k : ℕ) (l : List RawOutside) → length (let_go k l) ≤ length l
unfolding let_go
let_go_few k [] = omega arith
let_go_few k (o ∷ l) = go (eqb k o.channel) (let_go_few k l)
  where
    go : (t : Bool) → length (let_go k l) ≤ length l → length (cond t (let_go k l) (o ∷ let_go k l)) ≤ suc (length l)
    go true h = omega arith
    go false h = omega arith

pub let_go_all : (P : RawOutside → Type 0) (k : ℕ) (l : List RawOutside) → All P l → All P (let_go k l)
unfolding let_go
let_go_all P k [] a = tt
let_go_all P k (o ∷ l) a = go (eqb k o.channel) (let_go_all P k l a.1)
  where
    go : (t : Bool) → All P (let_go k l) → All P (cond t (let_go k l) (o ∷ let_go k l))
    go true h = h
    go false h = (a.0, h)

module _ (C : RawConfig) (b : Bounded C) where
  pub bounded_let_go : (k : ℕ) → Bounded (with_outside C (let_go k C.outside))
  bounded_let_go k = bounded_outside C b (let_go k C.outside) (omega (arith, let_go_few k C.outside, b.channels)) (let_go_all BoundedOutside k C.outside b.outside)

  pub bounded_append : (o : RawOutside) → length C.outside < 32 → BoundedOutside o → Bounded (with_outside C (C.outside ++ (o ∷ [])))
  bounded_append o h p = bounded_outside C b (C.outside ++ (o ∷ [])) (omega (arith, length-append C.outside (o ∷ []))) (all_append BoundedOutside C.outside (o ∷ []) b.outside (p, tt))

  pub bounded_set_outside : (k : ℕ) (o : RawOutside) → BoundedOutside o → Bounded (with_outside C (set C.outside k o))
  bounded_set_outside k o p = bounded_outside C b (set C.outside k o) (omega (arith, length-set C.outside k o, b.channels)) (all_set BoundedOutside C.outside k o b.outside p)
