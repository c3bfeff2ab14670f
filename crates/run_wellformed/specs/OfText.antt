-- A run of this text: its types are nodes of the tables w, its processes terms of the tables or empty.
use Rattle.std.specs.Prelude.{ℕ, ◌+◌, ◌-◌, ◌≤◌, ◌<◌, ◌≡◌, List, [], ◌∷◌, ◌⊎◌, length}
use Rattle.std.proofs.Math.Logic.{inl, inr}
use native.Mathlib.Omega.{arith}
use Rattle.notation.specs.From.{ProcessFrom}
use Rattle.notation.specs.Limits.{process_term_limit, text_limit, run_words}
use Rattle.notation.specs.Sizes.{process_terms}
use Rattle.notation.specs.Tree.{Proc, empty, send_unit, send_channel, send_label, cancel, spawn, recv_unit, recv_channel, recv_label, fwd, call, raise, try}
use Rattle.read_tables.specs.Decode.{tally_in}
use Rattle.read_tables.specs.Everywhere.{Everywhere}
use Rattle.read_tables.specs.Roots.{TypeIn, ProcessIn}
use Rattle.read_tables.specs.Stands.{ProcessAt}
use Rattle.read_tables.specs.Whole.{Tables}
use Rattle.run_words.specs.Lists.{All}
use Rattle.run_words.specs.ListLaws.{all_weaken}
use Rattle.run_words.specs.Raw.{RawEnd, RawProcess, RawOutside, RawConfig, BoundedEnd, BoundedProcess, Bounded, raw_in}
use Rattle.run_words.specs.Values.{held_in, process_in}
use Rattle.run_words.specs.declared.records.Process.{Process}
use Rattle.check_contexts.specs.Held.{EndIn, HeldIn}
use Rattle.run_alone.specs.Run.{Fits, RunOf}

module _ (w : List ℕ) where
  abbrev pub Node : ℕ → Type 0
  Node i = i < (tally_in w).nodes

  -- a term's number, or an empty process's: where the text goes on after it
  abbrev pub Pointer : ℕ → Type 0
  Pointer p = (p < (tally_in w).terms) ⊎ ((process_term_limit ≤ p) × (p ≤ process_term_limit + text_limit))

  abbrev pub EndOf : RawEnd → Type 0
  EndOf e = Node e.node

  -- a process that folds up has no term
  abbrev pub TermOf : ℕ → ℕ → Type 0
  TermOf kind pointer = (kind ≡ 1 → ⊥) → Pointer pointer

  pub record ProcessOf (p : RawProcess) : Type 0 where
    pub term : TermOf p.kind p.pointer
    pub held : All EndOf p.held

  abbrev pub OutsideOf : RawOutside → Type 0
  OutsideOf o = Node o.node

  pub record OfText (C : RawConfig) : Type 0 where
    pub processes : All ProcessOf C.processes
    pub outside : All OutsideOf C.outside

-- ── so that all of it stands in the tables
module _ (s w : List ℕ) (t : Everywhere s w) where
  pub pointer_in : {p : ℕ} → Pointer w p → ProcessIn s w p
  unfolding ProcessAt ProcessFrom process_terms
  pointer_in (inl h) = t.terms _ h
  pointer_in {p} (inr (l, h)) = record { tree = empty (p - process_term_limit); few = omega arith; from = omega arith; is = omega arith }

  pub ends_in_lem : (l : List RawEnd) → All BoundedEnd l → All (EndOf w) l → All (EndIn s w) l
  ends_in_lem [] b a = tt
  ends_in_lem (e ∷ l) b a = (record { bounds = b.0; type = t.nodes e.node a.0 }, ends_in_lem l b.1 a.1)

  pub held_in_lem : {n : ℕ} (p : Process) → p.held.count ≤ 16 → BoundedProcess n (process_in p) → ProcessOf w (process_in p) → HeldIn s w p.held
  held_in_lem p m b a = record { many = m; each = ends_in_lem (held_in p.held) b.each a.held }

  processes_fit : (n : ℕ) (l : List RawProcess) → All (BoundedProcess n) l → All (ProcessOf w) l → All (Fits s w) l
  processes_fit n [] b a = tt
  processes_fit n (p ∷ l) b a = (
    record { term = λ d. pointer_in (a.0.term d); held = ends_in_lem p.held b.0.each a.0.held },
    processes_fit n l b.1 a.1,
  )

  pub run_of : (ws : List ℕ) → Tables s w → run_words ≤ length ws → Bounded (raw_in ws) → OfText w (raw_in ws) → RunOf s w ws
  run_of ws u l b o = record {
    tables = u;
    wide = l;
    bounds = b;
    processes = processes_fit _ (raw_in ws).processes b.processes o.processes;
    outside = all_weaken (OutsideOf w) (λ (o : RawOutside). TypeIn s w o.node) (λ o h. t.nodes o.node h) (raw_in ws).outside o.outside;
  }

-- ── and what stands in the tables is of the text
module _ (s w : List ℕ) where
  pub node_of : {i : ℕ} → TypeIn s w i → Node w i
  node_of a = a.small

  pub pointer_of : {p : ℕ} → ProcessIn s w p → Pointer w p
  unfolding ProcessAt ProcessFrom
  pointer_of {p} a = go a.tree a.from a.is
    where
      go : (P : Proc) → ProcessFrom s P → ProcessAt w (tally_in w) p P → Pointer w p
      go (empty at) f e = inr (omega arith, omega arith)
      go (send_unit at c P) f (x, (b, e), q) = inl b
      go (send_channel at c a P) f (x, (b, e), q) = inl b
      go (send_label at c l P) f (x, (b, e), q) = inl b
      go (cancel at c P) f (x, (b, e), q) = inl b
      go (spawn n A P Q) f (i, x, d, q, (y, (b, e), r)) = inl b
      go (recv_unit at c P) f (x, (b, e), q) = inl b
      go (recv_channel at c a P) f (x, (b, e), q) = inl b
      go (recv_label at c B) f (x, (b, e), l, q) = inl b
      go (fwd at x c) f (b, e) = inl b
      go (call at n bracket xs ys) f (b, e) = inl b
      go (raise at P) f (x, (b, e), q) = inl b
      go (try at P Q) f (x, q, (y, (b, e), r)) = inl b

  ends_of : (l : List RawEnd) → All (EndIn s w) l → All (EndOf w) l
  ends_of [] a = tt
  ends_of (e ∷ l) a = (node_of a.0.type, ends_of l a.1)

  pub process_of_lem : {p : RawProcess} → ((p.kind ≡ 1 → ⊥) → ProcessIn s w p.pointer) → All (EndIn s w) p.held → ProcessOf w p
  process_of_lem {p} t h = record { term = λ z. pointer_of (t z); held = ends_of p.held h }

  -- a run, by whatever P says so of its processes
  pub of_text_lem : (P : RawProcess → Type 0) → ((p : RawProcess) → P p → ProcessOf w p) → (C : RawConfig) → All P C.processes → All (λ (o : RawOutside). TypeIn s w o.node) C.outside → OfText w C
  of_text_lem P f C a b = record { processes = all_weaken P (ProcessOf w) f C.processes a; outside = all_weaken (λ (o : RawOutside). TypeIn s w o.node) (OutsideOf w) (λ o h. node_of h) C.outside b }
