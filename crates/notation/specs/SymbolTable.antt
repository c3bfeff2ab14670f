-- The symbols as the code has them, and how it searches them.
use Rattle.std.specs.Prelude.{ℕ, zero, suc, List, [], ◌∷◌, ◌++◌, length, get_or, drop, eqb}
use Rattle.notation.specs.Bytes.{position}
use Rattle.notation.specs.Token.{symbols}

-- the table of the code: for each symbol its length and its bytes, in a row of seven
abbrev pub pad : ℕ → List ℕ → List ℕ
pad zero xs = []
pad (suc n) [] = 0 ∷ pad n []
pad (suc n) (x ∷ xs) = x ∷ pad n xs

abbrev pub rows : List (List ℕ) → List ℕ
rows [] = []
rows (w ∷ ws) = length w ∷ pad 6 w ++ rows ws

-- the first symbol from the k-th on that begins with a byte, by which the code searches
unfoldable pub beginning : ℕ → ℕ → ℕ
beginning b k = position (λ v. eqb b (get_or v 0 0)) (drop k symbols) k
