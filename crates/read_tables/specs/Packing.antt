-- What is packed into words is read back from them: one law for each packing, then one for each table.
use Rattle.std.specs.Prelude.{ℕ, ◌+◌, ◌*◌, ◌/◌, ◌%◌, ◌<◌, ◌≡◌, List, set}
use Rattle.std.proofs.Common.{◌∙◌, ap, arith, length-set, get_or-set_same, get_or-set_other}
use Rattle.notation.specs.Tables.{types_at, processes_at, execs_at, entries_at, nodes_at, alternatives_at, terms_at, branches_at, type_node, term_node, type_word, term_word, term_word', pair_word, put_node, put_alternative, put_term, put_branch, put_entry, put_type, put_process, put_exec, process_entry, branch_room, offset_radix, pointer_radix, provided_radix, term_first_unit, term_kind_radix, type_first_radix, type_kind_radix, type_second_unit}
use Rattle.notation.specs.Tables.{Area}
use Rattle.notation.specs.Limits.{process_limit, process_term_limit, type_limit, type_term_limit}
use Rattle.read_tables.specs.Decode.{type_node_of, term_node_of, pair_of, node_at, alternative_at, term_at, branch_at, entry_at, type_at, exec_at, process_entry_of, process_at}

-- ── packings
pub type_word_lem : (kind first second : ℕ) → kind < type_kind_radix → first < type_first_radix → type_node_of (type_word (type_node kind first second)) ≡ type_node kind first second
unfolding type_node_of type_word
type_word_lem kind first second a b =
    let x = kind + type_kind_radix * first + type_second_unit * second in
    let k : x % 8 ≡ kind = omega arith in
    let d : x / type_kind_radix ≡ first + type_first_radix * second = omega arith in
    let f : (first + type_first_radix * second) % type_first_radix ≡ first = omega arith in
    let t : x / type_second_unit ≡ second = omega arith in
    λ j. type_node (k j) ((ap (λ y. y % type_first_radix) d ∙ f) j) (t j)

pub term_word_lem : (kind at first second third : ℕ) → kind < term_kind_radix → at < offset_radix → second < pointer_radix
    → term_node_of (term_word (term_node kind at first second third)) (term_word' (term_node kind at first second third)) ≡ term_node kind at first second third
unfolding term_node_of term_word term_word'
term_word_lem kind at first second third a b c =
    let x = kind + term_kind_radix * at + term_first_unit * first in
    let y = second + 16384 * third in
    let k : x % term_kind_radix ≡ kind = omega arith in
    let d : x / term_kind_radix ≡ at + offset_radix * first = omega arith in
    let o : (at + offset_radix * first) % offset_radix ≡ at = omega arith in
    let f : x / 131072 ≡ first = omega arith in
    let t : y % 16384 ≡ second = omega arith in
    let u : y / 16384 ≡ third = omega arith in
    λ j. term_node (k j) ((ap (λ y. y % offset_radix) d ∙ o) j) (f j) (t j) (u j)

pub pair_word_lem : (at n : ℕ) → at < offset_radix → pair_of (pair_word at n) ≡ (at, n)
unfolding pair_of pair_word
pair_word_lem at n a =
    let x = at + offset_radix * n in
    let p : x % offset_radix ≡ at = omega arith in
    let q : x / offset_radix ≡ n = omega arith in
    λ j. (p j, q j)

pub process_words : (at first provided used body : ℕ) → provided < provided_radix → process_entry_of at first (provided + provided_radix * used) body ≡ process_entry at first provided used body
unfolding process_entry_of
process_words at first provided used body l =
    let p : (provided + provided_radix * used) % provided_radix ≡ provided = omega arith in
    let q : (provided + provided_radix * used) / provided_radix ≡ used = omega arith in
    λ j. process_entry at first (p j) (q j) body

-- ── tables
pub node_put : (w : List ℕ) (i kind first second : ℕ) → Area w → i < type_term_limit → kind < type_kind_radix → first < type_first_radix → node_at (put_node w i (type_node kind first second)) i ≡ type_node kind first second
unfolding node_at put_node
node_put w i kind first second h l a b = ap type_node_of (get_or-set_same w (nodes_at + i) _ 0 (omega arith)) ∙ type_word_lem kind first second a b

pub alternative_put : (w : List ℕ) (i at n : ℕ) → Area w → i < type_term_limit → at < offset_radix → alternative_at (put_alternative w i at n) i ≡ (at, n)
unfolding alternative_at put_alternative
alternative_put w i at n h l a = ap pair_of (get_or-set_same w (alternatives_at + i) _ 0 (omega arith)) ∙ pair_word_lem at n a

pub branch_put : (w : List ℕ) (i at n : ℕ) → Area w → i < branch_room → at < offset_radix → branch_at (put_branch w i at n) i ≡ (at, n)
unfolding branch_at put_branch
branch_put w i at n h l a = ap pair_of (get_or-set_same w (branches_at + i) _ 0 (omega arith)) ∙ pair_word_lem at n a

pub term_put : (w : List ℕ) (i kind at first second third : ℕ) → Area w → i < process_term_limit → kind < term_kind_radix → at < offset_radix → second < pointer_radix
    → term_at (put_term w i (term_node kind at first second third)) i ≡ term_node kind at first second third
unfolding term_at put_term
term_put w i kind at first second third h l a b c =
    let n = term_node kind at first second third in
    let v = set w (terms_at + 2 * i) (term_word n) in
    let p = get_or-set_other v (terms_at + 2 * i + 1) (terms_at + 2 * i) (term_word' n) 0 (omega arith) ∙ get_or-set_same w (terms_at + 2 * i) (term_word n) 0 (omega arith) in
    let q = get_or-set_same v (terms_at + 2 * i + 1) (term_word' n) 0 (omega (arith, length-set w (terms_at + 2 * i) (term_word n))) in
    (λ j. term_node_of (p j) (q j)) ∙ term_word_lem kind at first second third a b c

pub entry_put : (w : List ℕ) (i at n : ℕ) → Area w → i < type_term_limit → at < offset_radix → entry_at (put_entry w i at n) i ≡ (at, n)
unfolding entry_at put_entry
entry_put w i at n h l a = ap pair_of (get_or-set_same w (entries_at + i) _ 0 (omega arith)) ∙ pair_word_lem at n a

pub exec_put : (w : List ℕ) (i at : ℕ) → Area w → i < 16 → exec_at (put_exec w i at) i ≡ at
unfolding exec_at put_exec
exec_put w i at h l = get_or-set_same w (execs_at + i) at 0 (omega arith)

pub type_put : (w : List ℕ) (i at n : ℕ) → Area w → i < type_limit → type_at (put_type w i at n) i ≡ (at, n)
unfolding type_at put_type
type_put w i at n h l =
    let v = set w (types_at + 2 * i) at in
    let p = get_or-set_other v (types_at + 2 * i + 1) (types_at + 2 * i) n 0 (omega arith) ∙ get_or-set_same w (types_at + 2 * i) at 0 (omega arith) in
    let q = get_or-set_same v (types_at + 2 * i + 1) n 0 (omega (arith, length-set w (types_at + 2 * i) at)) in
    λ j. (p j, q j)

pub process_put : (w : List ℕ) (i at first provided used body : ℕ) → Area w → i < process_limit → provided < provided_radix
    → process_at (put_process w i (process_entry at first provided used body)) i ≡ process_entry at first provided used body
unfolding process_at put_process
process_put w i at first provided used body h l a =
    let b = processes_at + 4 * i in
    let c = provided + provided_radix * used in
    let w₀ = set w b at in
    let w₁ = set w₀ (b + 1) first in
    let w₂ = set w₁ (b + 2) c in
    let l₀ = length-set w b at in
    let l₁ = length-set w₀ (b + 1) first in
    let l₂ = length-set w₁ (b + 2) c in
    let p₀ = get_or-set_other w₂ (b + 3) b body 0 (omega arith) ∙ get_or-set_other w₁ (b + 2) b c 0 (omega arith) ∙ get_or-set_other w₀ (b + 1) b first 0 (omega arith) ∙ get_or-set_same w b at 0 (omega arith) in
    let p₁ = get_or-set_other w₂ (b + 3) (b + 1) body 0 (omega arith) ∙ get_or-set_other w₁ (b + 2) (b + 1) c 0 (omega arith) ∙ get_or-set_same w₀ (b + 1) first 0 (omega arith) in
    let p₂ = get_or-set_other w₂ (b + 3) (b + 2) body 0 (omega arith) ∙ get_or-set_same w₁ (b + 2) c 0 (omega arith) in
    let p₃ = get_or-set_same w₂ (b + 3) body 0 (omega arith) in
    (λ j. process_entry_of (p₀ j) (p₁ j) (p₂ j) (p₃ j)) ∙ process_words at first provided used body a
