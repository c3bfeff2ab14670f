-- The offsets at which a script can be refused: "The offset is that of the first byte of the token at fault".
-- Those of its names and labels that are declared or looked up, and of the first token of each term; "an empty process counts as a term at the token that follows it".
use Rattle.std.specs.Prelude.{ℕ, ◌≡◌, ◌⊎◌, List, [], ◌∷◌}
use Rattle.notation.specs.Tree.{Located, Ty, unit, named, tensor, par, lolli, plus, with, Alternatives, alternative, Proc, empty, send_unit, send_channel, send_label, cancel, spawn, recv_unit, recv_channel, recv_label, fwd, call, raise, try, Branches, branch, Entry, Declaration, declare_type, declare_proc, declare_exec}

-- ── types: names and labels
unfoldable mutual
  pub TypeOffset : ℕ → Ty Located → Type 0
  TypeOffset i unit = ⊥
  TypeOffset i (named n) = n.at ≡ i
  TypeOffset i (tensor A B) = TypeOffset i A ⊎ TypeOffset i B
  TypeOffset i (par A B) = TypeOffset i A ⊎ TypeOffset i B
  TypeOffset i (lolli A B) = TypeOffset i A ⊎ TypeOffset i B
  TypeOffset i (plus r) = AlternativesOffset i r
  TypeOffset i (with r) = AlternativesOffset i r

  pub AlternativesOffset : ℕ → Alternatives Located → Type 0
  AlternativesOffset i Alternatives.none = ⊥
  AlternativesOffset i (alternative l A r) = (l.at ≡ i) ⊎ (TypeOffset i A ⊎ AlternativesOffset i r)

-- ── processes: the first token of a term, the process that is called, the labels of branches
unfoldable mutual
  pub ProcessOffset : ℕ → Proc → Type 0
  ProcessOffset i (empty at) = at ≡ i
  ProcessOffset i (send_unit at c P) = (at ≡ i) ⊎ ProcessOffset i P
  ProcessOffset i (send_channel at c a P) = (at ≡ i) ⊎ ProcessOffset i P
  ProcessOffset i (send_label at c l P) = (at ≡ i) ⊎ ProcessOffset i P
  ProcessOffset i (cancel at c P) = (at ≡ i) ⊎ ProcessOffset i P
  ProcessOffset i (spawn x A P Q) = (x.at ≡ i) ⊎ (TypeOffset i A ⊎ (ProcessOffset i P ⊎ ProcessOffset i Q))
  ProcessOffset i (recv_unit at c P) = (at ≡ i) ⊎ ProcessOffset i P
  ProcessOffset i (recv_channel at c x P) = (at ≡ i) ⊎ ProcessOffset i P
  ProcessOffset i (recv_label at c B) = (at ≡ i) ⊎ BranchesOffset i B
  ProcessOffset i (fwd at x c) = at ≡ i
  ProcessOffset i (call at p bracket xs ys) = (at ≡ i) ⊎ (p.at ≡ i)
  ProcessOffset i (raise at P) = (at ≡ i) ⊎ ProcessOffset i P
  ProcessOffset i (try at P Q) = (at ≡ i) ⊎ (ProcessOffset i P ⊎ ProcessOffset i Q)

  pub BranchesOffset : ℕ → Branches → Type 0
  BranchesOffset i Branches.none = ⊥
  BranchesOffset i (branch l P B) = (l.at ≡ i) ⊎ (ProcessOffset i P ⊎ BranchesOffset i B)

-- ── declarations: the names that they declare, and that of an exec
unfoldable pub EntriesOffset : ℕ → List Entry → Type 0
EntriesOffset i [] = ⊥
EntriesOffset i (e ∷ l) = (e.channel.at ≡ i) ⊎ (TypeOffset i e.type ⊎ EntriesOffset i l)

unfoldable pub DeclarationOffset : ℕ → Declaration → Type 0
DeclarationOffset i (declare_type n A) = (n.at ≡ i) ⊎ TypeOffset i A
DeclarationOffset i (declare_proc n xs ys P) = (n.at ≡ i) ⊎ (EntriesOffset i xs ⊎ (EntriesOffset i ys ⊎ ProcessOffset i P))
DeclarationOffset i (declare_exec n) = n.at ≡ i

unfoldable pub OffsetOf : ℕ → List Declaration → Type 0
OffsetOf i [] = ⊥
OffsetOf i (a ∷ r) = DeclarationOffset i a ⊎ OffsetOf i r
