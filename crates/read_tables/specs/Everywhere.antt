-- Every number that a table counts has something standing there: a tree is appended node by node, and stands once all of it is appended.
use Rattle.std.specs.Prelude.{ℕ, ◌+◌, ◌<◌, ◌≤◌, ◌≡◌, Bool, true, false, ltb}
use Rattle.std.proofs.Math.Path.{refl}
use Rattle.std.proofs.Common.{sym, subst, ltb-true, ltb-false, arith}
use mathlib.Core.List.{List, [], ◌∷◌}
use Rattle.notation.specs.Fine.{FineAlternatives, FineBranches, FineDeclaration, FineEntries, FineProcess, FineType, FineScript}
use Rattle.notation.specs.Tree.{Located, Ty, unit, named, tensor, par, lolli, plus, with, Alternatives, alternative, Proc, empty, send_unit, send_channel, send_label, cancel, spawn, recv_unit, recv_channel, recv_label, fwd, call, raise, try, Branches, branch, Entry, Declaration, declare_type, declare_proc, declare_exec}
use Rattle.notation.specs.Reader.{got}
use Rattle.notation.specs.Scripts.{read_text}
use Rattle.notation.specs.Tables.{lasting, pointer_to, put_node, put_term, more_nodes, more_terms, after_type, after_alternatives, write_type, write_alternatives, after_process, after_branches, write_process, write_branches, after_entries, write_entries, after_declaration, write_declaration, after_script, write_script, nothing, zeros, tables_of, tables, Within}
use Rattle.notation.specs.declared.reading.Cursor.{Cursor}
use Rattle.notation.specs.declared.reading.Tally.{Tally}
use Rattle.notation.specs.declared.reading.TypeNode.{TypeNode}
use Rattle.notation.specs.declared.reading.TermNode.{TermNode}
use Rattle.notation.specs.Tables.{Area}
use Rattle.notation.proofs.Zeroed.{zeros_area}
use Rattle.notation.proofs.ScriptReadings.{text_read}
use Rattle.read_tables.specs.Decode.{tally_in}
use Rattle.read_tables.specs.Growth.{Grown, grown_none, grown_then, grown_lasting, grown_node, grown_alternative, grown_term, grown_branch, grown_exec}
use Rattle.notation.specs.From.{TypeFrom, AlternativesFrom, ProcessFrom, BranchesFrom, EntriesFrom, DeclarationFrom, ScriptFrom}
use Rattle.read_tables.specs.Types.{whole_written}
use Rattle.read_tables.specs.Processes.{process_counts, process_kept, process_written}
use Rattle.read_tables.specs.Declarations.{entry_after, type_after, process_after}
use Rattle.read_tables.specs.Roots.{TypeIn, type_in_lem, ProcessIn}
use Rattle.read_tables.specs.Whole.{tables_counted, tables_grown}

-- all numbers of type nodes and of process nodes stand
pub record Everywhere (s w : List ℕ) : Type 0 where
  pub nodes : (i : ℕ) → i < (tally_in w).nodes → TypeIn s w i
  pub terms : (p : ℕ) → p < (tally_in w).terms → ProcessIn s w p

-- below m or from m on
either_side : (P : ℕ → Type 0) (lo m hi : ℕ) → ((i : ℕ) → lo ≤ i → i < m → P i) → ((i : ℕ) → m ≤ i → i < hi → P i) → (i : ℕ) → lo ≤ i → i < hi → P i
either_side P lo m hi f g i a b = go (ltb i m) refl
  where
    go : (q : Bool) → ltb i m ≡ q → P i
    go true e = f i a (ltb-true i m e)
    go false e = g i (ltb-false i m e) b

-- the number m alone
alone : (P : ℕ → Type 0) (m : ℕ) → P m → (i : ℕ) → m ≤ i → i < m + 1 → P i
alone P m x i a b = subst P (omega arith) x

-- v are the words at the end, to which all words on the way grow
module _ (s v : List ℕ) (h : Within (tally_in v)) where
  -- at all numbers that d counts and k does not
  record Between (k d : Tally) : Type 0 where
    pub nodes : (i : ℕ) → k.nodes ≤ i → i < d.nodes → TypeIn s v i
    pub terms : (p : ℕ) → k.terms ≤ p → p < d.terms → ProcessIn s v p

  -- words w filled up to k came to be x filled up to d, and all that was appended stands at the end
  record Fill (k d : Tally) (w x : List ℕ) : Type 0 where
    pub grown : Grown k d w x
    pub stands : Area w → Grown d (tally_in v) x v → Between k d

  both : {k d e : Tally} → Between k d → Between d e → Between k e
  both {k = k} {d = d} {e = e} a b =
      record {
        nodes = either_side (TypeIn s v) k.nodes d.nodes e.nodes a.nodes b.nodes;
        terms = either_side (ProcessIn s v) k.terms d.terms e.terms a.terms b.terms;
      }

  fill_then : {k d e : Tally} {w x y : List ℕ} → Fill k d w x → Fill d e x y → Fill k e w y
  fill_then f g = record {
    grown = grown_then f.grown g.grown;
    stands = λ area o. both (f.stands area (grown_then g.grown o)) (g.stands (omega (arith, f.grown.long)) o);
  }

  -- an entry of another table, or none
  fill_other : {k d : Tally} {w x : List ℕ} → Grown k d w x → d.nodes ≡ k.nodes → d.terms ≡ k.terms → Fill k d w x
  fill_other g m n = record { grown = g; stands = λ _ _. record { nodes = λ i a b. absurd (omega arith); terms = λ p a b. absurd (omega arith) } }

  fill_none : (k : Tally) (w : List ℕ) → Fill k k w w
  fill_none k w = fill_other (grown_none k w) refl refl

  -- a node between what is appended before it and after it: the tree of all of them stands once it is appended
  fill_around : {k d e l : Tally} {w x y z : List ℕ} → Fill k d w x → Grown d e x y → Fill e l y z → (Area w → Grown l (tally_in v) z v → Between d e) → Fill k l w z
  fill_around f g b m = record {
    grown = grown_then f.grown (grown_then g b.grown);
    stands = λ area o.
        both (f.stands area (grown_then g (grown_then b.grown o))) (both (m area o) (b.stands (omega (arith, f.grown.long, g.long)) o));
  }

  fill_node : {k d l : Tally} {w x z : List ℕ} (n : TypeNode) → Fill k d w x → Fill (more_nodes d) l (put_node x d.nodes n) z → (Area w → Grown l (tally_in v) z v → TypeIn s v d.nodes) → Fill k l w z
  fill_node {d = d} {x = x} n f b m =
      fill_around f (grown_node d x n) b (λ area o. record { nodes = alone (TypeIn s v) d.nodes (m area o); terms = λ p a b. absurd (omega arith) })

  fill_term : {k l : Tally} {w z : List ℕ} (n : TermNode) → Fill (more_terms k) l (put_term w k.terms n) z → (Area w → Grown l (tally_in v) z v → ProcessIn s v k.terms) → Fill k l w z
  fill_term {k = k} {w = w} n b m =
      fill_around (fill_none k w) (grown_term k w n) b
      (λ area o. record { nodes = λ i a b. absurd (omega arith); terms = alone (ProcessIn s v) k.terms (m area o) })

  -- the number of what was appended is noted
  fill_last : {k l : Tally} {w x : List ℕ} (n : ℕ) → Fill k l w x → Fill k (lasting n l) w x
  fill_last {l = l} {x = x} n f = fill_then f (fill_other (grown_lasting n l x) refl refl)

  -- ── types
  type_there : (A : Ty Located) (k : Tally) (w : List ℕ) → TypeFrom s A → FineType A → Area w → Grown (after_type A k) (tally_in v) (write_type A k w) v → TypeIn s v (after_type A k).last
  type_there A k w t f area g = type_in_lem s v (after_type A k).last A t (whole_written A k (tally_in v) w v f area h g)

  mutual
    unfolding after_type write_type TypeFrom FineType

    type_fill : (A : Ty Located) (k : Tally) (w : List ℕ) → TypeFrom s A → FineType A → Fill k (after_type A k) w (write_type A k w)
    type_fill unit k w t f = fill_node _ (fill_none k w) (fill_none _ _) (type_there unit k w t f)
    type_fill (named n) k w t f = fill_node _ (fill_none k w) (fill_none _ _) (type_there (named n) k w t f)
    type_fill (tensor A B) k w t f = fill_node _ (type_fill A k w t.0 f.0) (fill_last _ (type_fill B _ _ t.1 f.1)) (type_there (tensor A B) k w t f)
    type_fill (par A B) k w t f = fill_node _ (type_fill A k w t.0 f.0) (fill_last _ (type_fill B _ _ t.1 f.1)) (type_there (par A B) k w t f)
    type_fill (lolli A B) k w t f = fill_node _ (type_fill A k w t.0 f.0) (fill_last _ (type_fill B _ _ t.1 f.1)) (type_there (lolli A B) k w t f)
    type_fill (plus r) k w t f = fill_node _ (fill_none k w) (fill_last _ (alternatives_fill r _ _ t f.0)) (type_there (plus r) k w t f)
    type_fill (with r) k w t f = fill_node _ (fill_none k w) (fill_last _ (alternatives_fill r _ _ t f.0)) (type_there (with r) k w t f)

    alternatives_fill : (r : Alternatives Located) (k : Tally) (w : List ℕ) → AlternativesFrom s r → FineAlternatives r → Fill k (after_alternatives r k) w (write_alternatives r k w)
    alternatives_fill Alternatives.none k w t f = fill_last 0 (fill_none k w)
    alternatives_fill (alternative l A r) k w t f =
        fill_then (type_fill A k w t.1 f.1) (fill_then (alternatives_fill r _ _ t.2 f.2) (fill_other (grown_alternative _ _ _ _) refl refl))

  -- ── processes
  process_there_lem : (P : Proc) (k : Tally) (w : List ℕ) → ProcessFrom s P → FineProcess P → Area w → Grown (after_process P k) (tally_in v) (write_process P k w) v → ProcessIn s v (pointer_to P k.terms)
  process_there_lem P k w t f area g =
      let u = g.more in
      record { tree = P; few = omega (arith, process_counts P k); from = t; is = process_kept g h P _ (process_written P k w f area (omega arith)) }

  mutual
    unfolding after_process write_process ProcessFrom FineProcess

    process_fill : (P : Proc) (k : Tally) (w : List ℕ) → ProcessFrom s P → FineProcess P → Fill k (after_process P k) w (write_process P k w)
    process_fill (empty at) k w t f = fill_none k w
    process_fill (send_unit at c P) k w t f = fill_term _ (process_fill P _ _ t.1 f.2) (process_there_lem (send_unit at c P) k w t f)
    process_fill (send_channel at c a P) k w t f = fill_term _ (process_fill P _ _ t.2 f.3) (process_there_lem (send_channel at c a P) k w t f)
    process_fill (send_label at c l P) k w t f = fill_term _ (process_fill P _ _ t.2 f.3) (process_there_lem (send_label at c l P) k w t f)
    process_fill (cancel at c P) k w t f = fill_term _ (process_fill P _ _ t.1 f.2) (process_there_lem (cancel at c P) k w t f)
    process_fill (spawn n A P Q) k w t f =
        fill_term _ (fill_then (type_fill A _ _ t.1 f.1) (fill_then (process_fill P _ _ t.2 f.2) (process_fill Q _ _ t.3 f.3))) (process_there_lem (spawn n A P Q) k w t f)
    process_fill (recv_unit at c P) k w t f = fill_term _ (process_fill P _ _ t.1 f.2) (process_there_lem (recv_unit at c P) k w t f)
    process_fill (recv_channel at c a P) k w t f = fill_term _ (process_fill P _ _ t.3 f.3) (process_there_lem (recv_channel at c a P) k w t f)
    process_fill (recv_label at c B) k w t f = fill_term _ (branches_fill B _ _ t.1 f.2) (process_there_lem (recv_label at c B) k w t f)
    process_fill (fwd at x c) k w t f = fill_term _ (fill_none _ _) (process_there_lem (fwd at x c) k w t f)
    process_fill (call at n bracket xs ys) k w t f = fill_term _ (fill_none _ _) (process_there_lem (call at n bracket xs ys) k w t f)
    process_fill (raise at P) k w t f = fill_term _ (process_fill P _ _ t f.1) (process_there_lem (raise at P) k w t f)
    process_fill (try at P Q) k w t f = fill_term _ (fill_then (process_fill P _ _ t.0 f.1) (process_fill Q _ _ t.1 f.2)) (process_there_lem (try at P Q) k w t f)

    branches_fill : (B : Branches) (k : Tally) (w : List ℕ) → BranchesFrom s B → FineBranches B → Fill k (after_branches B k) w (write_branches B k w)
    branches_fill Branches.none k w t f = fill_last 0 (fill_none k w)
    branches_fill (branch l P B) k w t f =
        fill_then (process_fill P k w t.1 f.1) (fill_then (branches_fill B _ _ t.2 f.2) (fill_other (grown_branch _ _ _ _) refl refl))

  -- ── declarations
  entries_fill : (es : List Entry) (k : Tally) (w : List ℕ) → EntriesFrom s es → FineEntries es → Fill k (after_entries es k) w (write_entries es k w)
  unfolding after_entries write_entries EntriesFrom FineEntries
  entries_fill [] k w t f = fill_none k w
  entries_fill (e ∷ es) k w t f =
      fill_then (type_fill e.type k w t.1 f.1) (fill_then (fill_other (entry_after e k _) refl refl) (entries_fill es _ _ t.2 f.2))

  declaration_fill : (a : Declaration) (k : Tally) (w : List ℕ) → DeclarationFrom s a → FineDeclaration a → Fill k (after_declaration a k) w (write_declaration a k w)
  unfolding after_declaration write_declaration DeclarationFrom FineDeclaration
  declaration_fill (declare_type n A) k w t f = fill_then (type_fill A k w t.1 f.1) (fill_other (type_after n.at A k _) refl refl)
  declaration_fill (declare_proc n xs ys P) k w t f =
      fill_then (entries_fill xs k w t.1 f.1) (fill_then (entries_fill ys _ _ t.2 f.2)
      (fill_then (process_fill P _ _ t.3 f.3) (fill_other (process_after n.at xs ys P k _) refl refl)))
  declaration_fill (declare_exec n) k w t f = fill_other (grown_exec k w n.at) refl refl

  script_fill : (ds : List Declaration) (k : Tally) (w : List ℕ) → ScriptFrom s ds → FineScript ds → Fill k (after_script ds k) w (write_script ds k w)
  unfolding after_script write_script ScriptFrom FineScript
  script_fill [] k w t f = fill_none k w
  script_fill (a ∷ r) k w t f = fill_then (declaration_fill a k w t.0 f.0) (script_fill r _ _ t.1 f.1)

-- in the tables of a script that was read
pub script_everywhere : (ds : List Declaration) (s : List ℕ) → ScriptFrom s ds → FineScript ds → Within (after_script ds nothing) → Everywhere s (tables_of ds)
script_everywhere ds s t f h =
    let c = tables_counted ds in
    let b = (script_fill s (tables_of ds) (subst Within (sym c) h) ds nothing zeros t f).stands zeros_area (tables_grown ds) in
    record {
      nodes = λ i l. b.nodes i (omega arith) (subst (λ (m : Tally). i < m.nodes) c l);
      terms = λ p l. b.terms p (omega arith) (subst (λ (m : Tally). p < m.terms) c l);
    }

-- whatever text is read, where its tables have room for it
pub text_everywhere : (s : List ℕ) (ds : List Declaration) (d : Cursor) → read_text s ≡ got ds d → Within (after_script ds nothing) → Everywhere s (tables s)
unfolding tables
text_everywhere s ds d e h = let (t, f) = text_read s ds d e in rw e (script_everywhere ds s t f h)
