-- Computed: a type in as many round brackets as may be open is read, and where there is one more, that one is at fault. Both speak of the limit by its name.
use Rattle.std.specs.Prelude.{ℕ, ◌+◌, ◌*◌, ◌≡◌, refl, List, [], ◌∷◌, ◌++◌, replicate}
use Rattle.notation.specs.Limits.{bracket_limit}
use Rattle.notation.specs.Bytes.{bytes}
use Rattle.notation.specs.Tree.{unit, declare_type}
use Rattle.notation.specs.Reader.{got, refused}
use Rattle.notation.specs.Scripts.{read_text}
use Rattle.notation.specs.Computed.{read_now}

-- a unit in n round brackets (the bytes 40 and 41), the first of which stands at 9
abbrev pub in_brackets : ℕ → List ℕ
in_brackets n = bytes "type a = " ++ (replicate n 40 ++ (bytes "1" ++ replicate n 41))

pub brackets_pass : read_text (in_brackets bracket_limit)
    ≡ got (declare_type (record { at = 5; name = bytes "a" }) unit ∷ []) (record { at = 10 + 2 * bracket_limit; types = 1; terms = 0; depth = 0 })
unfolding read_now
brackets_pass = refl

pub bracket_refused : read_text (in_brackets (bracket_limit + 1)) ≡ refused 5 (9 + bracket_limit)
unfolding read_now
bracket_refused = refl
