-- Laws of the tests of bounds, and of the halt.
use Prim.Native.Nat.{ℕ, zero, suc, ◌+◌, ◌*◌, ◌≤◌, ◌<◌}
use mathlib.Core.List.{List, [], ◌∷◌}
use mathlib.Core.Path.{◌≡◌, refl, sym, ap, subst, ◌∙◌}
use mathlib.Core.Bool.{Bool, true, false}
use mathlib.Core.Option.{some}
use native.Mathlib.Omega.{arith}
use native.Mathlib.Numerals.{add-one}
use borrow.Author.Tests.{lt-ltb}
use lib.Dec.{ltb}
use lib.ListN.{length, get_or, get_elem?, take}
use lib.Seq.{take_all}
use Rattle.notation.specs.Limits.{held_limit, process_places, outside_numbers}
use Rattle.run_words.specs.Lists.{All}
use Rattle.run_words.specs.ListLaws.{all_at, length_tab}
use Rattle.run_words.specs.Raw.{RawConfig, link_of, links_below, end_of, process_of, raw_in, BoundedEnd, BoundedProcess, BoundedOutside, Bounded, pointer_limit}
use Rattle.run_words.specs.Values.{held_in, held_length, process_in, Decided}
use Rattle.run_words.specs.Decode.{is_halted}
use Rattle.run_words.specs.declared.records.Process.{Process}
use Rattle.run_words.specs.SliceLaws.{halted_word}

pub accepted : {P : Type 0} → P → Decided true P
accepted p = record { yes = λ _. p; no = λ e _. let z : ◌≡◌ {A = ℕ} 0 1 = cc in omega arith }

pub refused : {P : Type 0} → (P → ⊥) → Decided false P
refused n = record { yes = λ e. let z : ◌≡◌ {A = ℕ} 0 1 = cc in absurd (omega arith); no = λ _ p. n p }

pub refused_as : {P : Type 0} {t : Bool} → t ≡ false → (P → ⊥) → Decided t P
refused_as {P} e n = subst (λ t. Decided t P) (sym e) (refused n)

pub decided_by : {P Q : Type 0} {t : Bool} → (P → Q) → (Q → P) → Decided t P → Decided t Q
decided_by f g d = record { yes = λ e. f (d.yes e); no = λ e q. d.no e (g q) }

-- ── element by element
module _ {A : Type 0} (P : A → Type 0) (l : List A) (k : ℕ) where
  pub so_far : {x : A} → All P (take k l) → get_elem? l k ≡ some x → P x → All P (take (k + 1) l)
  so_far a e p = subst (λ (m : ℕ). All P (take m l)) (sym (add-one k)) (go k l a e p)
    where
      go : (k : ℕ) (l : List A) {x : A} → All P (take k l) → get_elem? l k ≡ some x → P x → All P (take (suc k) l)
      go k [] a e p = let z : ◌≡◌ {A = ℕ} 0 1 = cc in absurd (omega arith)
      go zero (y ∷ l) {x} a e p = let q : x ≡ y = cc in (subst P q p, tt)
      go (suc k) (y ∷ l) a e p = (a.0, go k l a.1 e p)

  pub whole : length l ≤ k → All P (take k l) → Decided true (All P l)
  whole h a = accepted (subst (All P) (take_all k l h) a)

  pub refused_at_lem : {x : A} → get_elem? l k ≡ some x → (P x → ⊥) → Decided false (All P l)
  refused_at_lem e n = refused (λ a. n (all_at P l k a e))

-- ── a process
pub many_words : (n : ℕ) (w : ℕ → ℕ) → BoundedProcess n (process_of w) → w 2 ≤ held_limit
many_words n w b = omega (arith, b.many, length_tab (λ k. end_of (λ t. w (3 + 2 * k + t))) (w 2))

below_link : (n l : ℕ) → l ≤ n → links_below n (link_of l)
below_link n zero h = tt
below_link n (suc l) h = h

module _ (n : ℕ) (w : ℕ → ℕ) (p : Process) (e : process_of w ≡ process_in p) where
  pub process_decided : {t : Bool} → p.kind < 3 → p.pointer < pointer_limit → p.held.count ≤ held_limit → p.link ≤ n → Decided t (All BoundedEnd (held_in p.held)) → Decided t (BoundedProcess n (process_of w))
  process_decided a b c d =
      decided_by
      (λ h. subst (BoundedProcess n) (sym e) (record { kind = a; pointer = b; many = omega (arith, held_length p.held); each = h; link = below_link n p.link d }))
      (λ q. (subst (BoundedProcess n) e q).each)

-- ── the configuration
pub config_decided : (C : RawConfig) {t : Bool} → length C.processes ≤ process_places → C.given ≤ outside_numbers → length C.outside ≤ outside_numbers → C.halted ≤ 1 → All (BoundedProcess (length C.processes)) C.processes
    → Decided t (All BoundedOutside C.outside) → Decided t (Bounded C)
config_decided C a b c h d = decided_by (λ o. record { places = a; processes = d; channels = c; outside = o; given = b; halted = h }) (λ q. q.outside)

-- the halt, by its word
pub halt_tested : (ws : List ℕ) → ltb 0 (get_or ws 3 0) ≡ is_halted (raw_in ws).halted
halt_tested ws = go (get_or ws 3 0) ∙ ap is_halted (sym (halted_word ws))
  where
    go : (n : ℕ) → ltb 0 n ≡ is_halted n
    go zero = refl
    go (suc n) = lt-ltb 0 (suc n) (omega arith)
