-- What the code that takes entries of the tables promises, whatever text the tables are of: what the entry says of the tree that stands there.
use Rattle.std.specs.Prelude.{◌≡◌, List, ℕ, suc, ◌+◌, ◌-◌, ◌<◌, ◌≤◌}
use Rattle.std.proofs.Common.{sym, subst}
use Rattle.std.proofs.Math.Path.{ap}
use native.Mathlib.Omega.{arith}
use Rattle.notation.specs.Limits.{text_limit, type_term_limit}
use Rattle.notation.specs.Token.{name_at}
use Rattle.notation.specs.Reader.{name_in}
use Rattle.notation.specs.Tables.{process_entry, branch_room}
use Rattle.notation.specs.declared.reading.TypeNode.{TypeNode}
use Rattle.notation.specs.declared.reading.TermNode.{TermNode}
use Rattle.notation.specs.declared.reading.ProcessEntry.{ProcessEntry}
use Rattle.read_tables.specs.declared.access.Labelled.{Labelled}
use Rattle.read_tables.specs.Decode.{tally_in, pair_of, node_at, term_at, alternative_at, branch_at, entry_at, type_at, process_at, exec_at, type_in, process_in}
use Rattle.read_tables.specs.Program.{plain_in, signature_of, named_type, named_process, exec_in}
use Rattle.read_tables.specs.Roots.{TypeIn, TypeRoot, type_root, AlternativesIn, FirstAlternative, first_alternative, ProcessIn, ProcessRoot, process_root, BranchesIn, FirstBranch, first_branch}
use Rattle.read_tables.specs.Whole.{EntriesIn, FirstEntry, first_entry, SignatureIn, Tables}

-- an entry by value is the pair that the words hold
pub record Holds (r : Labelled) (p : ℕ × ℕ) : Type 0 where
  pub at : r.at ≡ p.0
  pub number : r.number ≡ p.1

-- the type at i begins as the node n says
pub record NodeOf (w : List ℕ) (i : ℕ) (n : TypeNode) : Type 0 where
  pub says : (s : List ℕ) → Tables s w → TypeIn s w i → TypeRoot s w n (type_in s w i)
  pub holds : n ≡ node_at w i

-- the process at p begins as the node n says
pub record TermOf (w : List ℕ) (p : ℕ) (n : TermNode) : Type 0 where
  pub says : (s : List ℕ) → Tables s w → ProcessIn s w p → ProcessRoot s w p n (process_in s w p)
  pub at : n.at < text_limit

-- the list of alternatives before the place e begins with r
pub record AlternativeOf (w : List ℕ) (e : ℕ) (r : Labelled) : Type 0 where
  pub says : (s : List ℕ) (n : ℕ) → AlternativesIn s w e (suc n) → FirstAlternative s w e n r.at r.number
  pub holds : Holds r (alternative_at w (e - 1))
  pub at : r.at < text_limit

-- the list of branches before the place e begins with r
pub record BranchOf (w : List ℕ) (e : ℕ) (r : Labelled) : Type 0 where
  pub says : (s : List ℕ) (n : ℕ) → BranchesIn s w e (suc n) → FirstBranch s w e n r.at r.number
  pub holds : Holds r (branch_at w (e - 1))
  pub at : r.at < text_limit

-- the signature entries from the place i on begin with r
pub record EntryOf (w : List ℕ) (i : ℕ) (r : Labelled) : Type 0 where
  pub says : (s : List ℕ) (n : ℕ) → EntriesIn s w i (suc n) → FirstEntry s w i n r.at r.number
  pub holds : Holds r (entry_at w i)
  pub at : r.at < text_limit

-- r is the type i of the program
pub record TypeOf (w : List ℕ) (i : ℕ) (r : Labelled) : Type 0 where
  pub is : (s : List ℕ) → named_type s w i ≡ (name_at s r.at, plain_in s w r.number)
  pub stands : (s : List ℕ) → Tables s w → i < (tally_in w).types → TypeIn s w r.number
  pub holds : Holds r (type_at w i)

-- two words add up to less
abbrev pub sum_limit : ℕ
sum_limit = 8589934592

-- r is the process i of the program
pub record SignatureOf (w : List ℕ) (i : ℕ) (r : ProcessEntry) : Type 0 where
  pub is : (s : List ℕ) → named_process s w i ≡ (name_at s r.at, signature_of s w r)
  pub stands : (s : List ℕ) → Tables s w → i < (tally_in w).processes → SignatureIn s w r
  -- its entries have places that can be counted
  pub small : r.first + r.provided < sum_limit
  pub holds : r ≡ process_at w i

-- r is where the name of the exec i stands
pub record ExecOf (w : List ℕ) (i : ℕ) (r : ℕ) : Type 0 where
  pub is : (s : List ℕ) → exec_in s w i ≡ name_in s r

-- ── from the words to what they say
-- a node, and what a relation says of it
module _ {A : Type 0} {x y : A} (e : x ≡ y) where
  back : (P : A → Type 0) → P y → P x
  back P = subst P (sym e)

-- the same of an entry's two numbers
of_pair : (P : ℕ → ℕ → Type 0) (r : Labelled) (p : ℕ × ℕ) → Holds r p → P p.0 p.1 → P r.at r.number
of_pair P r p h x = back h.at (λ a. P a r.number) (back h.number (P p.0) x)

module _ (w : List ℕ) where
  pub node_of : (i : ℕ) (n : TypeNode) → n ≡ node_at w i → NodeOf w i n
  node_of i n e = record { says = λ s t a. back e (λ m. TypeRoot s w m (type_in s w i)) (type_root s w t.within i a); holds = e }

  pub term_of : (p : ℕ) (n : TermNode) → n ≡ term_at w p → n.at < text_limit → TermOf w p n
  term_of p n e b = record { says = λ s t a. back e (λ m. ProcessRoot s w p m (process_in s w p)) (process_root s w t.within p a); at = b }

  pub alternative_of : (e : ℕ) (r : Labelled) → Holds r (alternative_at w (e - 1)) → AlternativeOf w e r
  unfolding alternative_at pair_of
  alternative_of e r h =
      let a = h.at in
      record { says = λ s n a. of_pair (FirstAlternative s w e n) r _ h (first_alternative s w e n a); holds = h; at = omega arith }

  pub branch_of_lem : (e : ℕ) (r : Labelled) → Holds r (branch_at w (e - 1)) → BranchOf w e r
  unfolding branch_at pair_of
  branch_of_lem e r h = let a = h.at in record { says = λ s n a. of_pair (FirstBranch s w e n) r _ h (first_branch s w e n a); holds = h; at = omega arith }

  pub entry_of : (i : ℕ) (r : Labelled) → Holds r (entry_at w i) → EntryOf w i r
  unfolding entry_at pair_of
  entry_of i r h = let a = h.at in record { says = λ s n a. of_pair (FirstEntry s w i n) r _ h (first_entry s w i n a); holds = h; at = omega arith }

  pub type_of : (i : ℕ) (r : Labelled) → Holds r (type_at w i) → TypeOf w i r
  unfolding named_type
  type_of i r h = record { is = λ s j. (name_at s (sym h.at j), plain_in s w (sym h.number j)); stands = λ s t b. back h.number (TypeIn s w) (t.types i b); holds = h }

  pub signature_of_lem : (i : ℕ) (r : ProcessEntry) → r ≡ process_at w i → r.first + r.provided < sum_limit → SignatureOf w i r
  unfolding named_process
  signature_of_lem i r h b = record {
    is = λ s j. (name_at s (sym h j).at, signature_of s w (sym h j));
    stands = λ s t c. back h (SignatureIn s w) (t.processes i c);
    small = b;
    holds = h;
  }

  pub exec_of_lem : (i r : ℕ) → r ≡ exec_at w i → ExecOf w i r
  unfolding exec_in
  exec_of_lem i r h = record { is = λ s. ap (name_in s) (sym h) }

-- ── where there is something to take
module _ (s w : List ℕ) (t : Tables s w) where
  pub node_there : (i : ℕ) → TypeIn s w i → i < type_term_limit
  node_there i a = let b = t.within in let c = a.small in omega arith

  pub alternative_there : (e n : ℕ) → AlternativesIn s w e (suc n) → (1 ≤ e) × (e ≤ type_term_limit)
  alternative_there e n a =
      let b = t.within in
      let c = (first_alternative s w e n a).past in
      let d = a.within in
      (omega arith, omega arith)

  pub branch_there : (e n : ℕ) → BranchesIn s w e (suc n) → (1 ≤ e) × (e ≤ branch_room)
  branch_there e n a =
      let b = t.within in
      let c = (first_branch s w e n a).past in
      let d = a.within in
      (omega arith, omega arith)

  pub entry_there : (i n : ℕ) → EntriesIn s w i (suc n) → i < 512
  entry_there i n a = let b = t.within in let c = (first_entry s w i n a).within in omega arith
