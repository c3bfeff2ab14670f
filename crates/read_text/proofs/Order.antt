-- A term's node may be put before what is written after it, or later: the words are the same.
use mathlib.Core.Path.{◌≡◌, refl, ap, ◌∙◌}
use mathlib.Core.List.{List}
use Prim.Native.Nat.{ℕ, ◌+◌, ◌*◌, ◌<◌, ◌≤◌}
use native.Mathlib.Omega.{arith}
use lib.ListN.{set}
use lib.Seq.{set_comm}
use Rattle.notation.specs.Limits.{type_term_limit, process_term_limit}
use Rattle.notation.specs.Tree.{Located, Ty, Proc, empty, send_unit, send_channel, send_label, cancel, spawn, recv_unit, recv_channel, recv_label, fwd, call, raise, try, Branches, branch}
use Rattle.notation.specs.Tables.{terms_at, nodes_at, alternatives_at, branches_at, type_word, pair_word, put_node, put_alternative, put_term, put_branch, more_terms, term_word, term_word', term_node, pointer_to, after_type, write_type, after_process, after_branches, write_process, write_branches}
use Rattle.notation.specs.declared.reading.Tally.{Tally}
use Rattle.notation.specs.declared.reading.TypeNode.{TypeNode}
use Rattle.notation.specs.declared.reading.TermNode.{TermNode}
use Rattle.read_types.proofs.Late.{Grown, type_grown, late_type}

-- ── tallies grow
mutual
  unfolding after_process

  pub process_grown : (P : Proc) (k : Tally) → Grown k (after_process P k)
  process_grown (empty at) k = omega arith
  process_grown (send_unit at c P) k = let a = process_grown P (more_terms k) in omega arith
  process_grown (send_channel at c b P) k = let a = process_grown P (more_terms k) in omega arith
  process_grown (send_label at c l P) k = let a = process_grown P (more_terms k) in omega arith
  process_grown (cancel at c P) k = let a = process_grown P (more_terms k) in omega arith
  process_grown (spawn x A P Q) k =
      let d = after_type A (more_terms k) in
      let a = type_grown A (more_terms k) in
      let b = process_grown P d in
      let c = process_grown Q (after_process P d) in
      omega arith
  process_grown (recv_unit at c P) k = let a = process_grown P (more_terms k) in omega arith
  process_grown (recv_channel at c x P) k = let a = process_grown P (more_terms k) in omega arith
  process_grown (recv_label at c B) k = let a = branches_grown B (more_terms k) in omega arith
  process_grown (fwd at x c) k = omega arith
  process_grown (call at p bracket xs ys) k = omega arith
  process_grown (raise at P) k = let a = process_grown P (more_terms k) in omega arith
  process_grown (try at P Q) k = let a = process_grown P (more_terms k) in let b = process_grown Q (after_process P (more_terms k)) in omega arith

  pub branches_grown : (B : Branches) (k : Tally) → Grown k (after_branches B k)
  branches_grown Branches.none k = omega arith
  branches_grown (branch l P B) k = let a = process_grown P k in let b = branches_grown B (after_process P k) in omega arith

-- ── one word, or another term's node, and the node n of the term i
module _ (w : List ℕ) (i : ℕ) (n : TermNode) where
  pub set_put : (j a : ℕ) → ((terms_at + 2 * i ≡ j) → ⊥) → ((terms_at + 2 * i + 1 ≡ j) → ⊥) → set (put_term w i n) j a ≡ put_term (set w j a) i n
  unfolding put_term
  set_put j a p q =
      set_comm (set w (terms_at + 2 * i) (term_word n)) (terms_at + 2 * i + 1) j (term_word' n) a q
      ∙ ap (λ v. set v (terms_at + 2 * i + 1) (term_word' n)) (set_comm w (terms_at + 2 * i) j (term_word n) a p)

  pub node_put : (j : ℕ) (m : TypeNode) → j < type_term_limit → put_node (put_term w i n) j m ≡ put_term (put_node w j m) i n
  unfolding put_node
  node_put j m l = set_put (nodes_at + j) (type_word m) (λ e. absurd (omega arith)) (λ e. absurd (omega arith))

  pub alternative_put : (j at x : ℕ) → j < type_term_limit → put_alternative (put_term w i n) j at x ≡ put_term (put_alternative w j at x) i n
  unfolding put_alternative
  alternative_put j at x l = set_put (alternatives_at + j) (pair_word at x) (λ e. absurd (omega arith)) (λ e. absurd (omega arith))

  pub branch_put : (j at x : ℕ) → i < process_term_limit → put_branch (put_term w i n) j at x ≡ put_term (put_branch w j at x) i n
  unfolding put_branch
  branch_put j at x l = set_put (branches_at + j) (pair_word at x) (λ e. absurd (omega arith)) (λ e. absurd (omega arith))

module _ (w : List ℕ) (i : ℕ) (n : TermNode) (j : ℕ) (m : TermNode) (l : i < j) where
  pub term_put : put_term (put_term w i n) j m ≡ put_term (put_term w j m) i n
  unfolding put_term
  term_put =
      ap (λ v. set v (terms_at + 2 * j + 1) (term_word' m)) (set_put w i n (terms_at + 2 * j) (term_word m) (λ e. absurd (omega arith)) (λ e. absurd (omega arith)))
      ∙ set_put (set w (terms_at + 2 * j) (term_word m)) i n (terms_at + 2 * j + 1) (term_word' m) (λ e. absurd (omega arith)) (λ e. absurd (omega arith))

  -- the node of a later term, and then what commutes
  pub later_put : (f : List ℕ → List ℕ) → ((v : List ℕ) → f (put_term v i n) ≡ put_term (f v) i n)
      → f (put_term (put_term w i n) j m) ≡ put_term (f (put_term w j m)) i n
  later_put f h = ap f term_put ∙ h (put_term w j m)

-- ── types: their tables are apart from the terms
pub type_put : (A : Ty Located) (k : Tally) (w : List ℕ) (i : ℕ) (n : TermNode) → ((after_type A k).nodes ≤ type_term_limit) × ((after_type A k).alternatives ≤ type_term_limit)
    → write_type A k (put_term w i n) ≡ put_term (write_type A k w) i n
type_put A k w i n h = late_type (λ v. put_term v i n) 0 type_term_limit (λ v j m _ b. node_put v i n j m b) (λ v j at x b. alternative_put v i n j at x b) A k w (omega arith) h

-- ── processes: an earlier term's node
abbrev pub Inside : Tally → Type 0
Inside l = (l.nodes ≤ type_term_limit) × (l.alternatives ≤ type_term_limit) × (l.terms ≤ process_term_limit)

mutual
  unfolding after_process write_process

  pub process_put : (P : Proc) (k : Tally) (w : List ℕ) (i : ℕ) (n : TermNode) → i < k.terms → Inside (after_process P k)
      → write_process P k (put_term w i n) ≡ put_term (write_process P k w) i n
  process_put (empty at) k w i n l h = refl
  process_put (send_unit at c P) k w i n l h =
      later_put w i n k.terms (term_node 1 at c.at 0 (pointer_to P (k.terms + 1))) l (write_process P (more_terms k))
      (λ v. process_put P (more_terms k) v i n (omega arith) h)
  process_put (send_channel at c a P) k w i n l h =
      later_put w i n k.terms (term_node 2 at c.at a.at (pointer_to P (k.terms + 1))) l (write_process P (more_terms k))
      (λ v. process_put P (more_terms k) v i n (omega arith) h)
  process_put (send_label at c a P) k w i n l h =
      later_put w i n k.terms (term_node 3 at c.at a.at (pointer_to P (k.terms + 1))) l (write_process P (more_terms k))
      (λ v. process_put P (more_terms k) v i n (omega arith) h)
  process_put (cancel at c P) k w i n l h =
      later_put w i n k.terms (term_node 4 at c.at 0 (pointer_to P (k.terms + 1))) l (write_process P (more_terms k))
      (λ v. process_put P (more_terms k) v i n (omega arith) h)
  process_put (spawn x A P Q) k w i n l h =
      let d = after_type A (more_terms k) in
      let e = after_process P d in
      let a = type_grown A (more_terms k) in
      let b = process_grown P d in
      let c = process_grown Q e in
      later_put w i n k.terms (term_node 5 x.at d.last (pointer_to P d.terms) (pointer_to Q e.terms)) l
      (λ v. write_process Q e (write_process P d (write_type A (more_terms k) v)))
      (λ v. ap (λ u. write_process Q e (write_process P d u)) (type_put A (more_terms k) v i n (omega arith))
      ∙ ap (write_process Q e) (process_put P d (write_type A (more_terms k) v) i n (omega arith) (omega arith))
      ∙ process_put Q e (write_process P d (write_type A (more_terms k) v)) i n (omega arith) h)
  process_put (recv_unit at c P) k w i n l h =
      later_put w i n k.terms (term_node 6 at c.at 0 (pointer_to P (k.terms + 1))) l (write_process P (more_terms k))
      (λ v. process_put P (more_terms k) v i n (omega arith) h)
  process_put (recv_channel at c x P) k w i n l h =
      later_put w i n k.terms (term_node 7 at c.at x.at (pointer_to P (k.terms + 1))) l (write_process P (more_terms k))
      (λ v. process_put P (more_terms k) v i n (omega arith) h)
  process_put (recv_label at c B) k w i n l h =
      let d = after_branches B (more_terms k) in
      later_put w i n k.terms (term_node 8 at c.at d.branches d.last) l (write_branches B (more_terms k))
      (λ v. branches_put B (more_terms k) v i n (omega arith) h)
  process_put (fwd at x c) k w i n l h = term_put w i n k.terms (term_node 9 at x.at c.at 0) l
  process_put (call at p bracket xs ys) k w i n l h = term_put w i n k.terms (term_node 10 at p.at bracket 0) l
  process_put (raise at P) k w i n l h =
      later_put w i n k.terms (term_node 11 at 0 0 (pointer_to P (k.terms + 1))) l (write_process P (more_terms k))
      (λ v. process_put P (more_terms k) v i n (omega arith) h)
  process_put (try at P Q) k w i n l h =
      let e = after_process P (more_terms k) in
      let b = process_grown P (more_terms k) in
      let c = process_grown Q e in
      later_put w i n k.terms (term_node 12 at 0 (pointer_to P (k.terms + 1)) (pointer_to Q e.terms)) l
      (λ v. write_process Q e (write_process P (more_terms k) v))
      (λ v. ap (write_process Q e) (process_put P (more_terms k) v i n (omega arith) (omega arith)) ∙ process_put Q e (write_process P (more_terms k) v) i n
      (omega arith) h)

  pub branches_put : (B : Branches) (k : Tally) (w : List ℕ) (i : ℕ) (n : TermNode) → i < k.terms → Inside (after_branches B k)
      → write_branches B k (put_term w i n) ≡ put_term (write_branches B k w) i n
  branches_put Branches.none k w i n l h = refl
  branches_put (branch a P B) k w i n l h =
      let d = after_process P k in
      let b = process_grown P k in
      let c = branches_grown B d in
      ap (λ v. put_branch (write_branches B d v) (after_branches B d).branches a.at (pointer_to P k.terms)) (process_put P k w i n l (omega arith))
      ∙ ap (λ v. put_branch v (after_branches B d).branches a.at (pointer_to P k.terms))
      (branches_put B d (write_process P k w) i n (omega arith) (omega arith))
      ∙ branch_put (write_branches B d (write_process P k w)) i n (after_branches B d).branches a.at (pointer_to P k.terms) (omega arith)
