-- A walk over the bytes of a part: what is known at each turn, and its laws.
use Prim.Native.Nat.{ℕ, ◌+◌, ◌≤◌, ◌<◌}
use mathlib.Core.Path.{◌≡◌, sym, subst}
use mathlib.Core.List.{List}
use native.Mathlib.Numerals.{add-one}
use native.Mathlib.Omega.{arith}
use lib.ListN.{length, get_or, drop, drop_of_length-le}
use lib.Seq.{drop-cons}
use Rattle.call_positions.specs.Position.{first, advanced, along}
use Rattle.call_positions.specs.Cases.{advanced_cases}
use Rattle.call_positions.specs.declared.position.Position.{Position}

-- i bytes are gone over, and p is where the next one stands
pub record Walked (part : List ℕ) (p : Position) (i : ℕ) : Type 0 where
  pub left : along (drop i part) p ≡ along part first
  pub line : p.line ≤ i + 1
  pub column : p.column ≤ i + 1

module _ {part : List ℕ} {p : Position} {i : ℕ} where
  pub walked_on : {q : Position} → Walked part p i → i < length part → q ≡ advanced p (get_or part i 0) → Walked part q (i + 1)
  unfolding along
  walked_on v h e =
      let b = get_or part i 0 in
      subst (λ q. Walked part q (i + 1)) (sym e) record {
        left = rw add-one (rw (drop-cons part i 0, along) at v.left);
        line = advanced_cases (λ q. q.line ≤ (i + 1) + 1) p b (omega (arith, v.line)) (omega (arith, v.line));
        column = advanced_cases (λ q. q.column ≤ (i + 1) + 1) p b (omega arith) (omega (arith, v.column));
      }

  pub walked_all : Walked part p i → length part ≤ i → p ≡ along part first
  unfolding along
  walked_all v h = rw (drop_of_length-le part h, along) at v.left
