-- What trees that were read have, and their words need: offsets below the text's limit, and no empty list of labels.
use Rattle.std.specs.Prelude.{◌<◌, ◌≤◌, List, [], ◌∷◌}
use Rattle.notation.specs.Limits.{text_limit}
use Rattle.notation.specs.Tree.{Located, Ty, unit, named, tensor, par, lolli, plus, with, Alternatives, alternative, Proc, empty, send_unit, send_channel, send_label, cancel, spawn, recv_unit, recv_channel, recv_label, fwd, call, raise, try, Branches, branch, Entry, Declaration, declare_type, declare_proc, declare_exec}

-- ── types: labels and names stand in the text, and a choice has labels
abbrev pub SomeAlternative : Alternatives Located → Type 0
SomeAlternative Alternatives.none = 1 ≤ 0
SomeAlternative (alternative l A r) = 0 ≤ 0

unfoldable mutual
  pub FineType : Ty Located → Type 0
  FineType unit = 0 ≤ 0
  FineType (named n) = n.at < text_limit
  FineType (tensor A B) = FineType A × FineType B
  FineType (par A B) = FineType A × FineType B
  FineType (lolli A B) = FineType A × FineType B
  FineType (plus r) = FineAlternatives r × SomeAlternative r
  FineType (with r) = FineAlternatives r × SomeAlternative r

  pub FineAlternatives : Alternatives Located → Type 0
  FineAlternatives Alternatives.none = 0 ≤ 0
  FineAlternatives (alternative l A r) = (l.at < text_limit) × FineType A × FineAlternatives r

-- ── processes: offsets are those of the text, and a branch list has branches
abbrev pub SomeBranch : Branches → Type 0
SomeBranch Branches.none = 1 ≤ 0
SomeBranch (branch l P B) = 0 ≤ 0

unfoldable mutual
  pub FineProcess : Proc → Type 0
  FineProcess (empty at) = at ≤ text_limit
  FineProcess (send_unit at c P) = (at < text_limit) × (c.at < text_limit) × FineProcess P
  FineProcess (send_channel at c a P) = (at < text_limit) × (c.at < text_limit) × (a.at < text_limit) × FineProcess P
  FineProcess (send_label at c l P) = (at < text_limit) × (c.at < text_limit) × (l.at < text_limit) × FineProcess P
  FineProcess (cancel at c P) = (at < text_limit) × (c.at < text_limit) × FineProcess P
  FineProcess (spawn x A P Q) = (x.at < text_limit) × FineType A × FineProcess P × FineProcess Q
  FineProcess (recv_unit at c P) = (at < text_limit) × (c.at < text_limit) × FineProcess P
  FineProcess (recv_channel at c x P) = (at < text_limit) × (c.at < text_limit) × (x.at < text_limit) × FineProcess P
  FineProcess (recv_label at c B) = (at < text_limit) × (c.at < text_limit) × FineBranches B × SomeBranch B
  FineProcess (fwd at x c) = (at < text_limit) × (x.at < text_limit) × (c.at < text_limit)
  FineProcess (call at p bracket xs ys) = (at < text_limit) × (p.at < text_limit) × (bracket < text_limit)
  FineProcess (raise at P) = (at < text_limit) × FineProcess P
  FineProcess (try at P Q) = (at < text_limit) × FineProcess P × FineProcess Q

  pub FineBranches : Branches → Type 0
  FineBranches Branches.none = 0 ≤ 0
  FineBranches (branch l P B) = (l.at < text_limit) × FineProcess P × FineBranches B

-- ── declarations
unfoldable pub FineEntries : List Entry → Type 0
FineEntries [] = 0 ≤ 0
FineEntries (e ∷ es) = (e.channel.at < text_limit) × FineType e.type × FineEntries es

unfoldable pub FineDeclaration : Declaration → Type 0
FineDeclaration (declare_type n A) = (n.at < text_limit) × FineType A
FineDeclaration (declare_proc n xs ys P) = (n.at < text_limit) × FineEntries xs × FineEntries ys × FineProcess P
FineDeclaration (declare_exec n) = n.at < text_limit

unfoldable pub FineScript : List Declaration → Type 0
FineScript [] = 0 ≤ 0
FineScript (a ∷ r) = FineDeclaration a × FineScript r
