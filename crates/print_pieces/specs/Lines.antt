-- The lines that the program prints, as their parts are put one after another.
use Rattle.std.specs.Prelude.{ℕ, ◌+◌, ◌≤◌, ◌≡◌, refl, List, [], ◌∷◌, ◌++◌, true, false, length}
use Rattle.std.proofs.Common.{sym, ◌∙◌, ap, append_assoc, append-nil, arith}
use Rattle.notation.specs.Bytes.{bytes}
use Rattle.notation.specs.Token.{name_at}
use Rattle.notation.proofs.Names.{name_fits}
use Rattle.calculus.specs.Printed.{decimal, shows, sighting}
use Rattle.calculus.specs.declared.answers.Seen.{Seen}
use Rattle.calculus.specs.declared.answers.Seen.TheVariants.{Nothing, Label, Close, Passed, Cancelled}
use Rattle.print_bytes.specs.Seen.{over_with, seen_with}

-- ── what was seen, with the words of the program's lines around it
over_is : (n : ℕ) (what : List ℕ) → over_with (bytes "#") (bytes " -> ") (10 ∷ []) n what ≡ shows n what
over_is n what = simp append_assoc

pub sighting_is : (s : List ℕ) (seen : Seen) → seen_with (bytes "#") (bytes " -> ") (10 ∷ []) s seen ≡ sighting s seen
unfolding seen_with sighting
sighting_is s Nothing = refl
sighting_is s (Label n at) = over_is n (bytes "'" ++ name_at s (at + 1))
sighting_is s (Close n) = over_is n (bytes "()")
sighting_is s (Passed n m true) = ap (λ l. over_with (bytes "#") (bytes " -> ") (10 ∷ []) n (bytes "#" ++ decimal m) ++ l) (over_is m (bytes "cancelled")) ∙ ap (λ l. l ++ shows m (bytes "cancelled")) (over_is n (bytes "#" ++ decimal m))
sighting_is s (Passed n m false) = ap (λ l. l ++ []) (over_is n (bytes "#" ++ decimal m))
sighting_is s (Cancelled n) = over_is n (bytes "cancelled")

-- past the end of the text there is the empty name
no_bytes : (l : List ℕ) → length l ≤ 0 → l ≡ []
no_bytes [] h = refl
no_bytes (x ∷ l) h = absurd (omega arith)

pub past_same : (s : List ℕ) (at : ℕ) → length s ≤ at → name_at s at ≡ name_at s (at + 1)
past_same s at h = no_bytes (name_at s at) (omega (arith, h, name_fits s at)) ∙ sym (no_bytes (name_at s (at + 1)) (omega (arith, h, name_fits s (at + 1))))
