-- The tables of a small text, computed.
use Rattle.std.specs.Prelude.{◌≡◌, refl, ℕ, ◌+◌, ◌*◌, List, [], ◌∷◌, take, drop}
use Rattle.notation.specs.Bytes.{bytes}
use Rattle.notation.specs.Computed.{tables_now}
use Rattle.notation.specs.Tables.{tables, types_at, processes_at, execs_at, entries_at, nodes_at, alternatives_at, terms_at}

text : List ℕ
text = bytes "type b = +{'t : 1, 'f : b} proc p (x : b) [] = send x 't; send x () exec p"

words : ℕ → ℕ → List ℕ
unfolding tables_now text
words from count = take count (drop from (tables text))

counts : words 0 9 ≡ (1 ∷ 1 ∷ 1 ∷ 1 ∷ 4 ∷ 2 ∷ 2 ∷ 0 ∷ 0 ∷ [])
unfolding words
counts = refl

-- the type b: its name at 5, its node 0
types : words types_at 3 ≡ (5 ∷ 0 ∷ 0 ∷ [])
unfolding words
types = refl

-- the process p: its name at 32, its entries from 0 on, one provided, its body in node 0
processes : words processes_at 4 ≡ (32 ∷ 0 ∷ 1 ∷ 0 ∷ [])
unfolding words
processes = refl

execs : words execs_at 2 ≡ (73 ∷ 0 ∷ [])
unfolding words
execs = refl

-- x : b, whose node is 3
entries : words entries_at 1 ≡ ((35 + 8192 * 3) ∷ [])
unfolding words
entries = refl

-- the choice with two alternatives up to place 2, its unit, its name b at 24, and the name b at 39
nodes : words nodes_at 4 ≡ ((5 + 8 * 2 + 8192 * 2) ∷ 0 ∷ (1 + 8192 * 24) ∷ (1 + 8192 * 39) ∷ [])
unfolding words
nodes = refl

-- 'f with node 2, then 't with node 1: the first stands last
alternatives : words alternatives_at 2 ≡ ((19 + 8192 * 2) ∷ (11 + 8192 * 1) ∷ [])
unfolding words
alternatives = refl

-- send x 't at 47 with node 1 for its rest; send x () at 58 with the empty rest at 68
terms : words terms_at 4 ≡ ((3 + 16 * 47 + 131072 * 52) ∷ (54 + 16384 * 1) ∷ (1 + 16 * 58 + 131072 * 63) ∷ 16384 * (1024 + 68) ∷ [])
unfolding words
terms = refl
