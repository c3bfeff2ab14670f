-- Processes in the tables: what is written stands there, stays, and is read back.
use Rattle.std.specs.Prelude.{ℕ, zero, suc, ◌+◌, ◌-◌, ◌<◌, ◌≤◌, ◌≡◌, refl, List}
use Rattle.std.proofs.Common.{◌∙◌, ap, subst, arith, lt-ltb, le-ltb}
use Rattle.notation.specs.Fine.{FineBranches, FineProcess}
use Rattle.notation.specs.Limits.{type_term_limit, process_term_limit}
use Rattle.notation.specs.Sizes.{process_terms, branches_terms}
use Rattle.notation.specs.Tree.{Proc, empty, send_unit, send_channel, send_label, cancel, spawn, recv_unit, recv_channel, recv_label, fwd, call, raise, try, Branches, branch}
use Rattle.notation.specs.Reader.{label_in}
use Rattle.notation.specs.Tables.{term_node, put_term, empty_pointer, pointer_to, put_before, more_terms, after_type, write_type, after_process, after_branches, write_process, write_branches, term_kind_radix, offset_radix, pointer_radix, Within}
use Rattle.notation.specs.declared.reading.Tally.{Tally}
use Rattle.notation.specs.declared.reading.TermNode.{TermNode}
use Rattle.notation.specs.Tables.{Area}
use Rattle.read_tables.specs.Decode.{term_at, branches_by, term_by, process_of, process_in, type_in}
use Rattle.read_tables.specs.Packing.{term_put, branch_put}
use Rattle.read_tables.specs.Growth.{Grown, grown_none, grown_then, grown_lasting, grown_term, grown_branch, term_kept, branch_kept}
use Rattle.notation.specs.From.{ProcessFrom, BranchesFrom}
use Rattle.read_tables.specs.Stands.{count_branches, LeafAt, OverAt, LabelsAt, ProcessAt, BranchesAt}
use Rattle.read_tables.specs.Arguments.{arguments_read}
use Rattle.read_tables.specs.Types.{Steady, type_grown, type_counts, whole_kept, whole_written, type_read}

-- ── a process is appended
-- a node before its parts
grown_before : {k l : Tally} {w x : List ℕ} (n : TermNode) → Grown (more_terms k) l (put_term w k.terms n) x → Grown k l w x
grown_before {k = k} {w = w} n g = grown_then (grown_term k w n) g

mutual
  unfolding after_process write_process

  pub process_grown : (P : Proc) (k : Tally) (w : List ℕ) → Grown k (after_process P k) w (write_process P k w)
  process_grown (empty at) k w = grown_none k w
  process_grown (send_unit at c P) k w = grown_before _ (process_grown P (more_terms k) _)
  process_grown (send_channel at c a P) k w = grown_before _ (process_grown P (more_terms k) _)
  process_grown (send_label at c l P) k w = grown_before _ (process_grown P (more_terms k) _)
  process_grown (cancel at c P) k w = grown_before _ (process_grown P (more_terms k) _)
  process_grown (spawn n A P Q) k w =
      let d = after_type A (more_terms k) in
      grown_before _ (grown_then (type_grown A (more_terms k) _) (grown_then (process_grown P d _) (process_grown Q (after_process P d) _)))
  process_grown (recv_unit at c P) k w = grown_before _ (process_grown P (more_terms k) _)
  process_grown (recv_channel at c a P) k w = grown_before _ (process_grown P (more_terms k) _)
  process_grown (recv_label at c B) k w = grown_before _ (branches_grown B (more_terms k) _)
  process_grown (fwd at x c) k w = grown_term k w _
  process_grown (call at n bracket xs ys) k w = grown_term k w _
  process_grown (raise at P) k w = grown_before _ (process_grown P (more_terms k) _)
  process_grown (try at P Q) k w = grown_before _ (grown_then (process_grown P (more_terms k) _) (process_grown Q (after_process P (more_terms k)) _))

  pub branches_grown : (B : Branches) (k : Tally) (w : List ℕ) → Grown k (after_branches B k) w (write_branches B k w)
  branches_grown Branches.none k w = grown_lasting 0 k w
  branches_grown (branch l P B) k w =
      grown_then (process_grown P k w)
      (grown_then (branches_grown B (after_process P k) (write_process P k w)) (grown_branch (after_branches B (after_process P k)) _ _ _))

-- n process nodes more
abbrev pub TermsMore : ℕ → Tally → Tally → Type 0
TermsMore n k l = (l.terms ≡ k.terms + n) × Steady k l

-- a process has a node for each of its terms
mutual
  unfolding after_process process_terms

  pub process_counts : (P : Proc) (k : Tally) → TermsMore (process_terms P) k (after_process P k)
  process_counts (empty at) k = omega arith
  process_counts (send_unit at c P) k = omega (arith, process_counts P (more_terms k))
  process_counts (send_channel at c a P) k = omega (arith, process_counts P (more_terms k))
  process_counts (send_label at c l P) k = omega (arith, process_counts P (more_terms k))
  process_counts (cancel at c P) k = omega (arith, process_counts P (more_terms k))
  process_counts (spawn n A P Q) k =
      let d = after_type A (more_terms k) in
      omega (arith, type_counts A (more_terms k), process_counts P d, process_counts Q (after_process P d))
  process_counts (recv_unit at c P) k = omega (arith, process_counts P (more_terms k))
  process_counts (recv_channel at c a P) k = omega (arith, process_counts P (more_terms k))
  process_counts (recv_label at c B) k = omega (arith, branches_counts B (more_terms k))
  process_counts (fwd at x c) k = omega arith
  process_counts (call at n bracket xs ys) k = omega arith
  process_counts (raise at P) k = omega (arith, process_counts P (more_terms k))
  process_counts (try at P Q) k = omega (arith, process_counts P (more_terms k), process_counts Q (after_process P (more_terms k)))

  pub branches_counts : (B : Branches) (k : Tally) → TermsMore (branches_terms B) k (after_branches B k)
  branches_counts Branches.none k = omega arith
  branches_counts (branch l P B) k = omega (arith, process_counts P k, branches_counts B (after_process P k))

-- a pointer fits its width
pub pointer_fits : (P : Proc) (n : ℕ) → FineProcess P → n ≤ process_term_limit → pointer_to P n < pointer_radix
unfolding FineProcess
pointer_fits (empty at) n f h = omega arith
pointer_fits (send_unit at c P) n f h = omega arith
pointer_fits (send_channel at c a P) n f h = omega arith
pointer_fits (send_label at c l P) n f h = omega arith
pointer_fits (cancel at c P) n f h = omega arith
pointer_fits (spawn x A P Q) n f h = omega arith
pointer_fits (recv_unit at c P) n f h = omega arith
pointer_fits (recv_channel at c a P) n f h = omega arith
pointer_fits (recv_label at c B) n f h = omega arith
pointer_fits (fwd at x c) n f h = omega arith
pointer_fits (call at p bracket xs ys) n f h = omega arith
pointer_fits (raise at P) n f h = omega arith
pointer_fits (try at P Q) n f h = omega arith

-- a list is as long as it says
pub branches_last : (B : Branches) (k : Tally) → (after_branches B k).last ≡ count_branches B
unfolding after_process
branches_last Branches.none k = refl
branches_last (branch l P B) k = omega (arith, branches_last B (after_process P k))

-- ── what stands stays
module _ {k l : Tally} {w v : List ℕ} (g : Grown k l w v) (h : Within l) where
  leaf_kept : (p kind at first second third : ℕ) → LeafAt w k p kind at first second third → LeafAt v l p kind at first second third
  leaf_kept p kind at first second third (b, e) = let u = g.more in (omega arith, term_kept g h p b ∙ e)

  over_kept : (p kind at first second : ℕ) {P P' : ℕ → Type 0} → ((x : ℕ) → P x → P' x) → OverAt w k p kind at first second P → OverAt v l p kind at first second P'
  over_kept p kind at first second f (x, e, a) = (x, leaf_kept p kind at first second x e, f x a)

  labels_kept : (p at first n : ℕ) {P P' : ℕ → Type 0} → ((e : ℕ) → e ≤ k.branches → P e → P' e) → LabelsAt w k p at first n P → LabelsAt v l p at first n P'
  labels_kept p at first n f (e, a, b, c) = let u = g.more in (e, leaf_kept p 8 at first e n a, omega arith, f e b c)

  mutual
    unfolding ProcessAt

    pub process_kept : (P : Proc) (p : ℕ) → ProcessAt w k p P → ProcessAt v l p P
    process_kept (empty at) p e = e
    process_kept (send_unit at c P) p e = over_kept p 1 at c.at 0 (λ x m. process_kept P x m) e
    process_kept (send_channel at c a P) p e = over_kept p 2 at c.at a.at (λ x m. process_kept P x m) e
    process_kept (send_label at c l P) p e = over_kept p 3 at c.at l.at (λ x m. process_kept P x m) e
    process_kept (cancel at c P) p e = over_kept p 4 at c.at 0 (λ x m. process_kept P x m) e
    process_kept (spawn n A P Q) p (a, x, t, m, e) =
        (a, x, whole_kept g h A a t, process_kept P x m, over_kept p 5 n.at a x (λ y m. process_kept Q y m) e)
    process_kept (recv_unit at c P) p e = over_kept p 6 at c.at 0 (λ x m. process_kept P x m) e
    process_kept (recv_channel at c a P) p e = over_kept p 7 at c.at a.at (λ x m. process_kept P x m) e
    process_kept (recv_label at c B) p e = labels_kept p at c.at (count_branches B) (λ a b m. branches_kept B a b m) e
    process_kept (fwd at x c) p e = leaf_kept p 9 at x.at c.at 0 e
    process_kept (call at n bracket xs ys) p e = leaf_kept p 10 at n.at bracket 0 e
    process_kept (raise at P) p e = over_kept p 11 at 0 0 (λ x m. process_kept P x m) e
    process_kept (try at P Q) p (x, m, e) = (x, process_kept P x m, over_kept p 12 at 0 x (λ y m. process_kept Q y m) e)

    pub branches_kept : (B : Branches) (e : ℕ) → e ≤ k.branches → BranchesAt w k e B → BranchesAt v l e B
    branches_kept Branches.none e b m = m
    branches_kept (branch n P B) e b (x, a, c, m, r) =
        (x, a, branch_kept g h (e - 1) (omega arith) ∙ c, process_kept P x m, branches_kept B (e - 1) (omega arith) r)

-- ── what is written stands
abbrev pub ProcessWritten : Proc → Tally → List ℕ → Type 0
ProcessWritten P k w = ProcessAt (write_process P k w) (after_process P k) (pointer_to P k.terms) P

abbrev pub BranchesWritten : Branches → Tally → List ℕ → Type 0
BranchesWritten B k w = BranchesAt (write_branches B k w) (after_branches B k) (after_branches B k).branches B

-- a node that was put after k, then and after what is appended to it
module _ (k : Tally) (w : List ℕ) (area : Area w) (kind at first second third : ℕ) where
  abbrev node_words : List ℕ
  node_words = put_term w k.terms (term_node kind at first second third)

  node_area : Area node_words
  node_area = omega (arith, (grown_term k w (term_node kind at first second third)).long)

  node_stands : (l : Tally) (v : List ℕ) → Within l → Grown (more_terms k) l node_words v → kind < term_kind_radix → at < offset_radix → second < pointer_radix
      → LeafAt v l k.terms kind at first second third
  node_stands l v h g a b c =
      let u = g.more in
      (omega arith, term_kept g h k.terms (omega arith) ∙ term_put w k.terms kind at first second third area (omega arith) a b c)

  leaf_written : Within (more_terms k) → kind < term_kind_radix → at < offset_radix → second < pointer_radix → LeafAt node_words (more_terms k) k.terms kind at first second third
  leaf_written h = node_stands (more_terms k) node_words h (grown_none (more_terms k) node_words)

-- a node that P follows
module _ (P : Proc) (k : Tally) (w : List ℕ) (area : Area w) (h : Within (after_process P (more_terms k))) where
  abbrev before_tally : Tally
  before_tally = after_process P (more_terms k)

  module _ (kind at first second : ℕ) where
    abbrev before_node : List ℕ
    before_node = put_before kind at first second P k w

    abbrev before_words : List ℕ
    before_words = write_process P (more_terms k) before_node

    before_written : (Area before_node → ProcessWritten P (more_terms k) before_node) → kind < term_kind_radix → at < offset_radix → second < pointer_radix
        → OverAt before_words before_tally k.terms kind at first second (λ x. ProcessAt before_words before_tally x P)
    before_written written a b c =
        let x = pointer_to P (k.terms + 1) in (
          x,
          node_stands k w area kind at first second x before_tally before_words h (process_grown P (more_terms k) before_node) a b c,
          written (node_area k w area kind at first second x),
        )

-- two halves one after the other, from d on
module _ (P Q : Proc) (d : Tally) (w : List ℕ) where
  abbrev first_tally : Tally
  first_tally = after_process P d

  abbrev first_words : List ℕ
  first_words = write_process P d w

  abbrev both_tally : Tally
  both_tally = after_process Q first_tally

  abbrev both_words : List ℕ
  both_words = write_process Q first_tally first_words

  halves_grown : Grown d both_tally w both_words
  halves_grown = grown_then (process_grown P d w) (process_grown Q first_tally first_words)

  halves_written : Area w → Within both_tally → (Within first_tally → ProcessWritten P d w) → (Area first_words → ProcessWritten Q first_tally first_words)
      → ProcessAt both_words both_tally (pointer_to P d.terms) P × ProcessWritten Q first_tally first_words
  halves_written area h first second =
      let g = process_grown Q first_tally first_words in
      let u = g.more in
      (process_kept g h P (pointer_to P d.terms) (first (omega arith)), second (omega (arith, (process_grown P d w).long)))

mutual
  unfolding after_process write_process FineProcess ProcessAt

  pub process_written : (P : Proc) (k : Tally) (w : List ℕ) → FineProcess P → Area w → Within (after_process P k) → ProcessWritten P k w
  process_written (empty at) k w f area h = refl
  process_written (send_unit at c P) k w (f, f', m) area h = before_written P k w area h 1 at c.at 0 (λ a. process_written P _ _ m a h) (omega arith) f (omega arith)
  process_written (send_channel at c x P) k w (f, f', f'', m) area h = before_written P k w area h 2 at c.at x.at (λ a. process_written P _ _ m a h) (omega arith) f (omega arith)
  process_written (send_label at c l P) k w (f, f', f'', m) area h = before_written P k w area h 3 at c.at l.at (λ a. process_written P _ _ m a h) (omega arith) f (omega arith)
  process_written (cancel at c P) k w (f, f', m) area h = before_written P k w area h 4 at c.at 0 (λ a. process_written P _ _ m a h) (omega arith) f (omega arith)
  process_written (spawn n A P Q) k w (f, t, m, m') area h =
      let j = more_terms k in
      let d = after_type A j in
      let x = pointer_to P d.terms in
      let y = pointer_to Q (after_process P d).terms in
      let w₀ = put_term w k.terms (term_node 5 n.at d.last x y) in
      let w₁ = write_type A j w₀ in
      let v = both_words P Q d w₁ in
      let r = both_tally P Q d w₁ in
      let ga = type_grown A j w₀ in
      let g = halves_grown P Q d w₁ in
      let u = g.more in
      let area₀ = node_area k w area 5 n.at d.last x y in
      let area₁ : Area w₁ = omega (arith, ga.long) in
      let (a, b) = halves_written P Q d w₁ area₁ h (λ z. process_written P d w₁ m area₁ z) (λ z. process_written Q _ _ m' z h) in
      let node = node_stands k w area 5 n.at d.last x y r v h (grown_then ga g) (omega arith) f (pointer_fits P d.terms m (omega arith)) in
      (d.last, x, whole_written A j r w₀ v t area₀ h g, a, (y, node, b))
  process_written (recv_unit at c P) k w (f, f', m) area h = before_written P k w area h 6 at c.at 0 (λ a. process_written P _ _ m a h) (omega arith) f (omega arith)
  process_written (recv_channel at c x P) k w (f, f', f'', m) area h = before_written P k w area h 7 at c.at x.at (λ a. process_written P _ _ m a h) (omega arith) f (omega arith)
  process_written (recv_label at c B) k w (f, f', m, some) area h =
      let d = after_branches B (more_terms k) in
      let w₀ = put_term w k.terms (term_node 8 at c.at d.branches d.last) in
      let g = branches_grown B (more_terms k) w₀ in
      let v = write_branches B (more_terms k) w₀ in
      let area₀ = node_area k w area 8 at c.at d.branches d.last in
      let s = node_stands k w area 8 at c.at d.branches d.last d v h g (omega arith) f (omega arith) in (
        d.branches,
        subst (LeafAt v d k.terms 8 at c.at d.branches) (branches_last B (more_terms k)) s,
        omega arith,
        branches_written B (more_terms k) w₀ m area₀ h,
      )
  process_written (fwd at x c) k w (f, f', f'') area h = leaf_written k w area 9 at x.at c.at 0 h (omega arith) f (omega arith)
  process_written (call at n bracket xs ys) k w (f, f', f'') area h = leaf_written k w area 10 at n.at bracket 0 h (omega arith) f (omega arith)
  process_written (raise at P) k w (f, m) area h = before_written P k w area h 11 at 0 0 (λ a. process_written P _ _ m a h) (omega arith) f (omega arith)
  process_written (try at P Q) k w (f, m, m') area h =
      let j = more_terms k in
      let x = pointer_to P j.terms in
      let y = pointer_to Q (after_process P j).terms in
      let w₀ = put_term w k.terms (term_node 12 at 0 x y) in
      let g = halves_grown P Q j w₀ in
      let u = g.more in
      let area₀ = node_area k w area 12 at 0 x y in
      let (a, b) = halves_written P Q j w₀ area₀ h (λ z. process_written P j w₀ m area₀ z) (λ z. process_written Q _ _ m' z h) in
      let node = node_stands k w area 12 at 0 x y (both_tally P Q j w₀) (both_words P Q j w₀) h g (omega arith) f (pointer_fits P j.terms m (omega arith)) in
      (x, a, (y, node, b))

  pub branches_written : (B : Branches) (k : Tally) (w : List ℕ) → FineBranches B → Area w → Within (after_branches B k) → BranchesWritten B k w
  branches_written Branches.none k w f area h = omega arith
  branches_written (branch l P B) k w (f, m, m') area h =
      let d = after_process P k in
      let e = after_branches B d in
      let x = pointer_to P k.terms in
      let w₁ = write_process P k w in
      let w₂ = write_branches B d w₁ in
      let gp = process_grown P k w in
      let gb = branches_grown B d w₁ in
      let gl = grown_branch e w₂ l.at x in
      let ub = gb.more in
      let z : e.branches + 1 - 1 ≡ e.branches = omega arith in
      rw z (
        x,
        omega arith,
        branch_put w₂ e.branches l.at x (omega (arith, gp.long, gb.long)) (omega arith) f,
        process_kept (grown_then gb gl) h P x (process_written P k w m area (omega arith)),
        branches_kept gl h B e.branches (omega arith) (branches_written B d w₁ m' (omega (arith, gp.long)) (omega arith)),
      )

-- ── what stands is read back
empty_read : (f : ℕ) (s w : List ℕ) (p at : ℕ) → p ≡ empty_pointer at → process_of f s w p ≡ empty at
unfolding process_of
empty_read zero s w p at e = ap empty (omega arith)
empty_read (suc f) s w p at e = rw (le-ltb p process_term_limit (omega arith)) (ap empty (omega arith))

node_read : (f : ℕ) (s w : List ℕ) (p : ℕ) (n : TermNode) → p < process_term_limit → 1 ≤ f → term_at w p ≡ n
    → process_of f s w p ≡ term_by (λ x. type_in s w x) (λ x. process_of (f - 1) s w x) s w n
unfolding process_of
node_read zero s w p n b c e = absurd (omega arith)
node_read (suc f) s w p n b c e =
    let z : f ≡ suc f - 1 = omega arith in
    let under : ℕ → Proc = λ g. term_by (λ x. type_in s w x) (λ x. process_of g s w x) s w n in
    rw (lt-ltb p process_term_limit b, e) (ap under z)

module _ (s w : List ℕ) (k : Tally) (h : Within k) where
  mutual
    unfolding ProcessAt ProcessFrom process_terms

    pub process_read : (P : Proc) (p f : ℕ) → ProcessFrom s P → ProcessAt w k p P → process_terms P ≤ f → process_of f s w p ≡ P
    process_read (empty at) p f t e l = empty_read f s w p at e
    process_read (send_unit at c P) p f (t, u) (x, (b, e), q) l =
        let m = process_read P x (f - 1) u q (omega arith) in
        node_read f s w p _ (omega arith) (omega arith) e ∙ λ j. send_unit at (t j) (m j)
    process_read (send_channel at c a P) p f (t, t', u) (x, (b, e), q) l =
        let m = process_read P x (f - 1) u q (omega arith) in
        node_read f s w p _ (omega arith) (omega arith) e ∙ λ j. send_channel at (t j) (t' j) (m j)
    process_read (send_label at c n P) p f (t, t', u) (x, (b, e), q) l =
        let m = process_read P x (f - 1) u q (omega arith) in
        node_read f s w p _ (omega arith) (omega arith) e ∙ λ j. send_label at (t j) (t' j) (m j)
    process_read (cancel at c P) p f (t, u) (x, (b, e), q) l =
        let m = process_read P x (f - 1) u q (omega arith) in
        node_read f s w p _ (omega arith) (omega arith) e ∙ λ j. cancel at (t j) (m j)
    process_read (spawn n A P Q) p f (t, t', u, u') (a, x, (i, i', r), q, (y, (b, e), q')) l =
        let o = type_read A s w k a type_term_limit t' r (omega arith) in
        let m = process_read P x (f - 1) u q (omega arith) in
        let m' = process_read Q y (f - 1) u' q' (omega arith) in
        node_read f s w p _ (omega arith) (omega arith) e ∙ λ j. spawn (t j) (o j) (m j) (m' j)
    process_read (recv_unit at c P) p f (t, u) (x, (b, e), q) l =
        let m = process_read P x (f - 1) u q (omega arith) in
        node_read f s w p _ (omega arith) (omega arith) e ∙ λ j. recv_unit at (t j) (m j)
    process_read (recv_channel at c a P) p f (t, t', n, u) (x, (b, e), q) l =
        let m = process_read P x (f - 1) u q (omega arith) in
        node_read f s w p _ (omega arith) (omega arith) e ∙ λ j. recv_channel at (t j) (t' j) (m j)
    process_read (recv_label at c B) p f (t, u) (a, (b, e), i, q) l =
        let m = branches_read B a (f - 1) u q (omega arith) in
        node_read f s w p _ (omega arith) (omega arith) e ∙ λ j. recv_label at (t j) (m j)
    process_read (fwd at x c) p f (t, t') (b, e) l = node_read f s w p _ (omega arith) l e ∙ λ j. fwd at (t j) (t' j)
    process_read (call at n bracket xs ys) p f (t, u) (b, e) l =
        let t' = arguments_read s bracket xs ys u in
        node_read f s w p _ (omega arith) l e ∙ λ j. call at (t j) bracket (t' j).0 (t' j).1
    process_read (raise at P) p f u (x, (b, e), q) l =
        let m = process_read P x (f - 1) u q (omega arith) in
        node_read f s w p _ (omega arith) (omega arith) e ∙ λ j. raise at (m j)
    process_read (try at P Q) p f (u, u') (x, q, (y, (b, e), q')) l =
        let m = process_read P x (f - 1) u q (omega arith) in
        let m' = process_read Q y (f - 1) u' q' (omega arith) in
        node_read f s w p _ (omega arith) (omega arith) e ∙ λ j. try at (m j) (m' j)

    pub branches_read : (B : Branches) (e f : ℕ) → BranchesFrom s B → BranchesAt w k e B → branches_terms B ≤ f → branches_by (λ x. process_of f s w x) s w e (count_branches B) ≡ B
    branches_read Branches.none e f t q l = refl
    branches_read (branch n P B) e f (t, u, u') (x, a, c, q, r) l =
        let m = process_read P x f u q (omega arith) in
        let m' = branches_read B (e - 1) f u' r (omega arith) in
        (λ j. branch (label_in s (c j).0) (process_of f s w (c j).1) (branches_by (λ x. process_of f s w x) s w (e - 1) (count_branches B))) ∙ λ j. branch (t j) (m j) (m' j)

-- a process that was read and written is read back from its pointer, then and after all that is appended later
pub process_decoded : (P : Proc) (s w v : List ℕ) (k l : Tally) → ProcessFrom s P → FineProcess P → Area w → Within l → Grown (after_process P k) l (write_process P k w) v → process_in s v (pointer_to P k.terms) ≡ P
process_decoded P s w v k l t f area h g =
    let u = g.more in
    process_read s v l h P (pointer_to P k.terms) process_term_limit t (process_kept g h P _ (process_written P k w f area (omega arith))) (omega (arith, process_counts P k))
