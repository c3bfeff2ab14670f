-- Scripts derived by hand from the rules, token by token.
use Rattle.std.specs.Prelude.{ℕ, List, [], ◌∷◌}
use Rattle.notation.specs.Token.{k_send, k_equals, k_colon, k_star, k_one, k_round_open, k_round_close, k_square_open, k_square_close}
use Rattle.notation.specs.Tree.{Located, unit, tensor, send_unit, empty, declare_type, declare_proc, declare_exec}
use Rattle.grammar.specs.Terminals.{Terminal, declares_type, declares_proc, declares_exec, type_mark, term_word, opens, closes, name, mark}
use Rattle.grammar.specs.Grammar as rule
use Rattle.grammar.specs.Grammar.{IsScript}

abbrev at : ℕ → ℕ → Located
at i b = record { at = i; name = b ∷ [] }

-- type a = 1 * 1 * 1: infix marks bind to the right
abbrev pub threefold : List Terminal
threefold = declares_type 0 ∷ name (at 5 97) ∷ mark k_equals 7 ∷ type_mark k_one 9 ∷ type_mark k_star 11 ∷ type_mark k_one 13 ∷ type_mark k_star 15 ∷ type_mark k_one 17 ∷ []

pub threefold_derived : IsScript 18 threefold (declare_type (at 5 97) (tensor unit (tensor unit unit)) ∷ [])
threefold_derived = rule.more (rule.type (rule.tensor 11 rule.unit (rule.tensor 15 rule.unit (rule.atom rule.unit)))) rule.none

-- proc m (x : 1) [] = send x () exec m: what follows the send is the empty process, at the token after it
abbrev pub closing : List Terminal
closing =
    declares_proc 0 ∷ name (at 5 109) ∷ opens k_round_open 7 ∷ name (at 8 120) ∷ mark k_colon 10 ∷ type_mark k_one 12 ∷ closes k_round_close 13 ∷ opens k_square_open 15 ∷ closes k_square_close 16 ∷ mark k_equals 18
    ∷ term_word k_send 20 ∷ name (at 25 120) ∷ opens k_round_open 27 ∷ closes k_round_close 28 ∷ declares_exec 30 ∷ name (at 35 109) ∷ []

pub closing_derived : IsScript 36 closing (declare_proc (at 5 109) (record { channel = at 8 120; type = unit } ∷ []) [] (send_unit 20 (at 25 120) (empty 30)) ∷ declare_exec (at 35 109) ∷ [])
closing_derived = rule.more (rule.proc 13 15 16 18 (rule.some (rule.last (rule.typed (rule.atom rule.unit)))) rule.none (rule.send_unit rule.nothing)) (rule.more rule.exec rule.none)
