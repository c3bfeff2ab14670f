-- Bytes: their classes, quoted text as bytes, and the one search that the token reader is made of.
use Rattle.std.specs.Prelude.{ℕ, suc, List, [], ◌∷◌, Bool, true, false, ◌&&◌, ◌||◌, leb, eqb}
use Prim.Native.Char.{code}
use Prim.Native.String.{String}

-- the bytes of an ASCII text
abbrev pub bytes : String → List ℕ
bytes String.[] = []
bytes (String.◌∷◌ c t) = code c ∷ bytes t

abbrev pub within : ℕ → ℕ → ℕ → Bool
within low high b = leb low b && leb b high

-- A to Z, a to z
unfoldable pub letter : ℕ → Bool
letter b = within 65 90 b || within 97 122 b

-- a letter, a digit or _
unfoldable pub name_byte : ℕ → Bool
name_byte b = letter b || within 48 57 b || eqb b 95

-- space, tab, LF, CR
unfoldable pub blank : ℕ → Bool
blank b = eqb b 32 || eqb b 9 || eqb b 10 || eqb b 13

-- the place of the first element that passes the test, counted from k; past the last one where none does
unfoldable pub position : {A : Type 0} → (A → Bool) → List A → ℕ → ℕ
position p [] k = k
position p (x ∷ xs) k = elim (p x) [ true ↦ k | false ↦ position p xs (suc k) ]

-- the same bytes
unfoldable pub same : List ℕ → List ℕ → Bool
same [] [] = true
same [] (y ∷ ys) = false
same (x ∷ xs) [] = false
same (x ∷ xs) (y ∷ ys) = elim (eqb x y) [ true ↦ same xs ys | false ↦ false ]
