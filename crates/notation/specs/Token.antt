-- The token at an offset of a text: total over every text and offset.
use Rattle.std.specs.Prelude.{ℕ, ◌+◌, ◌-◌, List, [], ◌∷◌, not, cond, length, get_or, take, drop, leb, ltb, eqb}
use Rattle.notation.specs.Limits.{name_limit}
use Rattle.notation.specs.Bytes.{letter, name_byte, blank, bytes, position, same}
use Rattle.notation.specs.declared.token.Token.{Token}
use Rattle.notation.specs.declared.token.Lexeme.{Lexeme}

-- "The eleven reserved words stand in one table", and the marks after them, those of two bytes first: kinds 0 to 29.
unfoldable pub symbols : List (List ℕ)
symbols =
    bytes "type"
    ∷ bytes "proc"
    ∷ bytes "exec"
    ∷ bytes "send"
    ∷ bytes "recv"
    ∷ bytes "fwd"
    ∷ bytes "call"
    ∷ bytes "cancel"
    ∷ bytes "raise"
    ∷ bytes "try"
    ∷ bytes "catch"
    ∷ bytes "-o"
    ∷ bytes "<-"
    ∷ bytes "=>"
    ∷ bytes "("
    ∷ bytes ")"
    ∷ bytes "["
    ∷ bytes "]"
    ∷ bytes "{"
    ∷ bytes "}"
    ∷ bytes ":"
    ∷ bytes ","
    ∷ bytes ";"
    ∷ bytes "="
    ∷ bytes "|"
    ∷ bytes "1"
    ∷ bytes "*"
    ∷ bytes "@"
    ∷ bytes "+"
    ∷ bytes "&"
    ∷ []

-- the kinds by name: reserved words
abbrev pub k_type : ℕ
k_type = 0

abbrev pub k_proc : ℕ
k_proc = 1

abbrev pub k_exec : ℕ
k_exec = 2

abbrev pub k_send : ℕ
k_send = 3

abbrev pub k_recv : ℕ
k_recv = 4

abbrev pub k_fwd : ℕ
k_fwd = 5

abbrev pub k_call : ℕ
k_call = 6

abbrev pub k_cancel : ℕ
k_cancel = 7

abbrev pub k_raise : ℕ
k_raise = 8

abbrev pub k_try : ℕ
k_try = 9

abbrev pub k_catch : ℕ
k_catch = 10

-- marks
abbrev pub k_lolli : ℕ
k_lolli = 11

abbrev pub k_from : ℕ
k_from = 12

abbrev pub k_then : ℕ
k_then = 13

abbrev pub k_round_open : ℕ
k_round_open = 14

abbrev pub k_round_close : ℕ
k_round_close = 15

abbrev pub k_square_open : ℕ
k_square_open = 16

abbrev pub k_square_close : ℕ
k_square_close = 17

abbrev pub k_brace_open : ℕ
k_brace_open = 18

abbrev pub k_brace_close : ℕ
k_brace_close = 19

abbrev pub k_colon : ℕ
k_colon = 20

abbrev pub k_comma : ℕ
k_comma = 21

abbrev pub k_semicolon : ℕ
k_semicolon = 22

abbrev pub k_equals : ℕ
k_equals = 23

abbrev pub k_bar : ℕ
k_bar = 24

abbrev pub k_one : ℕ
k_one = 25

abbrev pub k_star : ℕ
k_star = 26

abbrev pub k_at : ℕ
k_at = 27

abbrev pub k_plus : ℕ
k_plus = 28

abbrev pub k_with : ℕ
k_with = 29

-- names, labels, bytes that open no token or names that are too long, and the end of the text
abbrev pub k_name : ℕ
k_name = 30

abbrev pub k_label : ℕ
k_label = 31

abbrev pub k_fault : ℕ
k_fault = 32

abbrev pub k_end : ℕ
k_end = 33

-- the kind of a word or mark; that of a name where it is none
unfoldable pub symbol : List ℕ → ℕ
symbol w = position (same w) symbols 0

-- "Space, tab, LF and CR separate tokens": where the next byte stands that is none of them
unfoldable pub skip : List ℕ → ℕ → ℕ
skip s at = position (λ b. not (blank b)) (drop at s) at

-- where the name ends that begins at an offset
unfoldable pub name_end : List ℕ → ℕ → ℕ
name_end s at = position (λ b. not (name_byte b)) (drop at s) at

-- the bytes of the name that begins at an offset
unfoldable pub name_at : List ℕ → ℕ → List ℕ
name_at s at = take (name_end s at - at) (drop at s)

abbrev pub token : ℕ → ℕ → ℕ → Token
token k a e = record { kind = k; start = a; end = e }

-- a token that the code found in any text
abbrev pub as_token : Lexeme → Token
as_token t = token t.kind t.start t.end

-- a token of kind k from a, whose name stands from i to e: at fault where the name is too long
unfoldable pub name_token : ℕ → ℕ → ℕ → ℕ → Token
name_token k a i e = token (cond (leb (e - i) name_limit) k k_fault) a e

-- a letter at i: a reserved word or a name
unfoldable pub word_at : List ℕ → ℕ → Token
word_at s i = name_token (symbol (name_at s i)) i i (name_end s i)

-- an apostrophe at i: "A label is an apostrophe and a name"
unfoldable pub label_at : List ℕ → ℕ → Token
label_at s i = cond (letter (get_or s (i + 1) 0)) (name_token k_label i (i + 1) (name_end s (i + 1))) (token k_fault i (i + 1))

-- "the longest mark wins": a mark of two bytes, else of one, else no token
unfoldable pub mark_at : List ℕ → ℕ → Token
mark_at s i =
    cond (ltb (symbol (take 2 (drop i s))) k_round_open) (token (symbol (take 2 (drop i s))) i (i + 2))
    (cond (ltb (symbol (take 1 (drop i s))) k_name) (token (symbol (take 1 (drop i s))) i (i + 1))
    (token k_fault i (i + 1)))

-- the token whose first byte stands at i
unfoldable pub first_at : List ℕ → ℕ → Token
first_at s i =
    cond (letter (get_or s i 0)) (word_at s i)
    (cond (eqb (get_or s i 0) 39) (label_at s i) (mark_at s i))

-- the next token from an offset on; the end of the text is at its length
unfoldable pub token_at : List ℕ → ℕ → Token
token_at s at =
    let i = skip s at in
    cond (ltb i (length s)) (first_at s i) (token k_end (length s) (length s))

abbrev pub kind_at : List ℕ → ℕ → ℕ
kind_at s at = (token_at s at).kind
