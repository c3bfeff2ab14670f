-- The starred cases of the scope, computed from the rules.
use Rattle.std.specs.Prelude.{ℕ, ◌≡◌, refl, List, [], ◌∷◌, ◌++◌, map}
use Rattle.notation.specs.Bytes.{bytes}
use Rattle.calculus.specs.Printed.{printed}

-- "With `proc m (x : 1) [] =` before and `exec m` after"
abbrev pub around : List ℕ → List ℕ
around body = bytes "proc m (x : 1) [] = " ++ (body ++ bytes "\nexec m\n")

-- a text and what the program must print for it
pub record Case : Type 0 where
  pub text : List ℕ
  pub output : List ℕ

abbrev pub starred : List Case
starred =
    record { text = around (bytes "c : 1 <- (send c ()); recv c (() => send x ())"); output = bytes "Executing process m:\n#0 -> ()\ndone after 5 steps\n" }
    ∷ record { text = around (bytes "try (raise send x ()) catch ()"); output = bytes "Executing process m:\n#0 -> ()\ndone after 5 steps\n" }
    ∷ record { text = around (bytes "try (send x ()) catch ()"); output = bytes "Executing process m:\n#0 -> ()\ndone after 4 steps\n" }
    ∷ record { text = around (bytes "c : 1 <- (send c ()); cancel c; send x ()"); output = bytes "Executing process m:\n#0 -> ()\ndone after 6 steps\n" }
    ∷ record { text = around (bytes "c : 1 <- (cancel c); recv c (() => send x ())"); output = bytes "Executing process m:\n#0 -> cancelled\ndone after 6 steps\n" }
    ∷ record { text = around (bytes "raise send x ()"); output = bytes "Executing process m:\nuncaught after 1 steps\n" }
    ∷ record { text = around (bytes "send x (); send x ()"); output = bytes "refused 10 at 31\n" }
    ∷ record { text = around []; output = bytes "refused 13 at 21\n" }
    ∷ record { text = bytes "type a = a"; output = bytes "refused 8 at 9\n" }
    ∷ record { text = []; output = [] }
    ∷ []

-- the program prints for each of them what the scope says
pub starred_cases : map (λ (c : Case). printed c.text) starred ≡ map (λ (c : Case). c.output) starred
unfolding printed
starred_cases = refl
