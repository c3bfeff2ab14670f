-- How many terms a tree has: what the limits of terms count, and what falls in a walk over its parts.
use Rattle.std.specs.Prelude.{ℕ, suc, ◌+◌}
use Rattle.notation.specs.Tree.{Ty, unit, named, tensor, par, lolli, plus, with, Alternatives, alternative, Proc, empty, send_unit, send_channel, send_label, cancel, spawn, recv_unit, recv_channel, recv_label, fwd, call, raise, try, Branches, branch}

-- each mark and each name is a term; brackets and labels are none
unfoldable mutual
  pub type_terms : {N : Type 0} → Ty N → ℕ
  type_terms unit = 1
  type_terms (named n) = 1
  type_terms (tensor A B) = suc (type_terms A + type_terms B)
  type_terms (par A B) = suc (type_terms A + type_terms B)
  type_terms (lolli A B) = suc (type_terms A + type_terms B)
  type_terms (plus r) = suc (alternatives_terms r)
  type_terms (with r) = suc (alternatives_terms r)

  pub alternatives_terms : {N : Type 0} → Alternatives N → ℕ
  alternatives_terms Alternatives.none = 0
  alternatives_terms (alternative l A r) = type_terms A + alternatives_terms r

-- an empty process has no term
unfoldable mutual
  pub process_terms : Proc → ℕ
  process_terms (empty at) = 0
  process_terms (send_unit at c P) = suc (process_terms P)
  process_terms (send_channel at c a P) = suc (process_terms P)
  process_terms (send_label at c l P) = suc (process_terms P)
  process_terms (cancel at c P) = suc (process_terms P)
  process_terms (spawn x A P Q) = suc (process_terms P + process_terms Q)
  process_terms (recv_unit at c P) = suc (process_terms P)
  process_terms (recv_channel at c x P) = suc (process_terms P)
  process_terms (recv_label at c B) = suc (branches_terms B)
  process_terms (fwd at x c) = 1
  process_terms (call at p bracket xs ys) = 1
  process_terms (raise at P) = suc (process_terms P)
  process_terms (try at P Q) = suc (process_terms P + process_terms Q)

  pub branches_terms : Branches → ℕ
  branches_terms Branches.none = 0
  branches_terms (branch l P B) = process_terms P + branches_terms B
