-- Where the tables lie in scratch: each begins where the one before it ends, and the last ends within the words that are lent.
use Rattle.std.specs.Prelude.{ℕ, ◌+◌, ◌*◌, ◌≤◌, ◌≡◌, refl, length}
use Rattle.std.proofs.Common.{arith}
use Rattle.std.proofs.lemmas.List.{length-replicate}
use Rattle.notation.specs.Limits.{type_limit, process_limit, exec_limit, type_term_limit, process_term_limit, scratch_words}
use Rattle.notation.specs.Tables.{types_at, processes_at, execs_at, entries_at, nodes_at, alternatives_at, terms_at, branches_at, branch_room, table_words, zeros}

pub record Layout : Type 0 where
  -- the eight counts stand before them
  pub counts : 8 ≤ types_at
  pub types : types_at + 2 * type_limit ≡ processes_at
  pub processes : processes_at + 4 * process_limit ≡ execs_at
  pub execs : execs_at + exec_limit ≡ entries_at
  pub entries : entries_at + type_term_limit ≡ nodes_at
  pub nodes : nodes_at + type_term_limit ≡ alternatives_at
  pub alternatives : alternatives_at + type_term_limit ≡ terms_at
  pub terms : terms_at + 2 * process_term_limit ≡ branches_at
  pub branches : branches_at + branch_room ≡ table_words
  pub fits : table_words ≤ scratch_words

pub layout : Layout
layout = record {
  counts = omega arith;
  types = refl;
  processes = refl;
  execs = refl;
  entries = refl;
  nodes = refl;
  alternatives = refl;
  terms = refl;
  branches = refl;
  fits = omega arith;
}

pub zeros_length : length zeros ≡ scratch_words
zeros_length = length-replicate {A = ℕ} scratch_words 0
