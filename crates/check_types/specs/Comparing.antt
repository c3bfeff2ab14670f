-- What a turn of a comparison of two types promises, and the comparison as a whole.
use Rattle.std.specs.Prelude.{◌≡◌, refl, ◌↔◌, List, Bool, true, false, ℕ, ◌<◌, length}
use Rattle.std.proofs.Common.{sym, ◌∙◌, ap, subst}
use Rattle.trees.specs.Equal.{Equal, equal_refl}
use Rattle.trees.proofs.Equal.{equal_closed}
use Rattle.trees.specs.Classes.{at, Near, own, waiting, done, sum, joined_on, start, waits_node, turned, ended}
use Rattle.notation.specs.Bytes.{same}
use Rattle.notation.specs.Limits.{type_term_limit}
use Rattle.notation.specs.declared.reading.TypeNode.{TypeNode}
use Rattle.calculus.specs.SameType.{head_of, same_type}
use Rattle.theory_derivations.specs.SameType.{same_tree}
use Rattle.read_tables.specs.Access.{NodeOf}
use Rattle.read_tables.specs.Program.{plain_in, program_in}
use Rattle.read_tables.specs.Roots.{TypeIn}
use Rattle.read_tables.specs.Whole.{Tables}
use Rattle.check_types.specs.Numbers.{node_head, head_in}
use Rattle.check_types.specs.Acting.{StandsFor}
use Rattle.check_types.specs.SameNumbers.{head_inside, parts_in, labels_in, stands_means, same_numbers}
use Rattle.check_types.specs.Classes.{OwnEach, Marked}
use Rattle.check_types.specs.Meeting.{never, Same, Classes, Joins, Match, Result, fine, broken, broken_by, HeadsMet, PartsIn, small_in}

module _ (s w : List ℕ) where
  -- ── what the code promises
  -- a waiting node was compared: less is left to do, or a and b are not equal
  pub data Turn (a b : ℕ) (rep st : List ℕ) (r : Bool) (rep' st' : List ℕ) : Type 0 where
    less : r ≡ true → Classes s w a b rep' st' → ((x y : ℕ) → Near rep x y → Near rep' x y) → sum st' < sum st → Turn a b rep st r rep' st'
    apart : r ≡ false → (Same s w a b → ⊥) → Turn a b rep st r rep' st'

  pub record Turned (i : ℕ) (rep st : List ℕ) (r : Bool) (rep' st' : List ℕ) : Type 0 where
    pub is : (a b : ℕ) → Classes s w a b rep st → at st i ≡ waiting → Turn a b rep st r rep' st'

  -- r tells whether the types at a and b are equal
  pub record Tells (a b : ℕ) (r : Bool) : Type 0 where
    pub is : (r ≡ true) ↔ Same s w a b

  -- ── the comparison, as far as it has come
  pub record Going (a b : ℕ) (rep st : List ℕ) : Type 0 where
    pub good : Classes s w a b rep st
    pub near : Near rep a b

  module _ (t : Tables s w) where
    pub parts_of : {p : ℕ} {n : TypeNode} → NodeOf w p n → TypeIn s w p → PartsIn s w n
    parts_of {p} {n} o a = record { pair = parts_in s w t p n o a; labels = labels_in s w t p n o a }

    -- ── a turn: the waiting node i and its representative j
    module _ {i j : ℕ} {x y : TypeNode} {rep st : List ℕ} (ti : TypeIn s w i) (ej : j ≡ at rep i) (ox : NodeOf w i x) (oy : NodeOf w j y)
        {r : Bool} {rep' st' : List ℕ} (m : HeadsMet s w x y rep st r rep' st') where
      head_here : node_head s w x ≡ head_in s w i
      head_here = ap (node_head s w) ox.holds

      head_there : node_head s w y ≡ head_in s w (at rep i)
      head_there = ap (node_head s w) oy.holds ∙ ap (head_in s w) ej

      result : (a b : ℕ) → Classes s w a b rep st → Result s w a b rep st r rep' st' (Match s w x y (Near rep'))
      result a b g = m.is a b g (λ u. rw (head_here, head_there) (equal_closed same (head_in s w) i (at rep i) (g.forced u i (small_in s w t i ti))))

      pub turn_apart : r ≡ false → Turned i rep st false rep' st'
      turn_apart z = record { is = λ a b g e. apart refl (broken_by s w (result a b g) z) }

      pub turn_less : r ≡ true → (st'' : List ℕ) → Marked i done st' st'' → Turned i rep st true rep' st''
      turn_less z st'' k = record { is = λ a b g e. go g e (result a b g) }
        where
          go : {a b : ℕ} → Classes s w a b rep st → at st i ≡ waiting → Result s w a b rep st r rep' st' (Match s w x y (Near rep')) → Turn a b rep st true rep' st''
          go {a} {b} g e (fine u o f) =
              let c = turned (small_in s w t i ti) g e o (rw (head_here, head_there) at f) in
              rw (k.is o.good.states) (less refl c.0 o.coarser c.1)
          go g e (broken u d) = never z u

    module _ (a b : ℕ) (ta : TypeIn s w a) (tb : TypeIn s w b) where
      pub going_start : (rep₀ st₀ rep st : List ℕ) → OwnEach rep₀ → length st₀ ≡ type_term_limit → ((k : ℕ) → k < type_term_limit → at st₀ k ≡ own) → Joins s w a b rep₀ st₀ rep st → Going a b rep st
      going_start rep₀ st₀ rep st n l e j =
          let g : Classes s w a b rep₀ st₀ = start (small_in s w t) a b n.long l n.is e in
          let (o, c) = joined_on (small_in s w t) g ta tb (λ u. u) (j n.long l) in
          record { good = o.good; near = c }

      pub going_end : (rep st : List ℕ) → Going a b rep st → ((i : ℕ) → i < type_term_limit → at st i ≡ waiting → ⊥) → Tells a b true
      going_end rep st g h = record { is = (λ e. ended (small_in s w t) (head_inside s w t) g.good h ta tb g.near, λ u. refl) }

  -- a node i waits
  module _ (a b : ℕ) (rep st : List ℕ) (i : ℕ) (g : Going a b rep st) (h : (i < type_term_limit) × (at st i ≡ waiting)) where
    -- a turn may look at the node and at its representative
    pub going_there : TypeIn s w i × TypeIn s w (at rep i)
    going_there = let n = (waits_node h.0 g.good h.1).1 in (n, g.good.nodes i n)

    module _ (r : Bool) (rep' st' : List ℕ) (t : Turned i rep st r rep' st') where
      after : Turn a b rep st r rep' st'
      after = t.is a b g.good h.1

      pub going_apart : r ≡ false → Tells a b false
      going_apart z = record { is = (λ e. never e refl, λ u. go after u) }
        where
          go : Turn a b rep st r rep' st' → Same s w a b → false ≡ true
          go (less u o c l) v = never u z
          go (apart u d) v = absurd (d v)

      pub going_on : r ≡ true → Going a b rep' st' × (sum st' < sum st)
      going_on z = go after
        where
          go : Turn a b rep st r rep' st' → Going a b rep' st' × (sum st' < sum st)
          go (less u o c l) = (record { good = o; near = c a b g.near }, l)
          go (apart u d) = never z u

-- ── the types i and j, which stand for the nodes a and b: the answer is the calculus' own
module _ {s w : List ℕ} (t : Tables s w) {i j a b : ℕ} (sa : StandsFor s w i a) (sb : StandsFor s w j b) where
  abbrev Answer : Bool
  Answer = same_type (program_in s w).types (plain_in s w i) (plain_in s w j)

  pub told : {r : Bool} → Tells s w a b r → r ≡ Answer
  told {r} e = go r Answer e.is (same_tree (program_in s w).types (plain_in s w i) (plain_in s w j))
    where
      trees : Same s w a b ↔ Equal same (head_of (program_in s w).types) (plain_in s w i) (plain_in s w j)
      trees = same_numbers s w t (stands_means s w sa) (stands_means s w sb)

      go : (r q : Bool) → (r ≡ true) ↔ Same s w a b → (q ≡ true) ↔ Equal same (head_of (program_in s w).types) (plain_in s w i) (plain_in s w j) → r ≡ q
      go true q f g = sym (g.1 (trees.0 (f.0 refl)))
      go false true f g = f.1 (trees.1 (g.0 refl))
      go false false f g = refl

  -- one node
  pub told_one : a ≡ b → true ≡ Answer
  told_one e = told (record { is = (λ _. subst (Same s w a) e (equal_refl same (head_in s w) a), λ _. refl) })
