-- What trees that were read have from their text: each name and label is the one that stands there at its offset, and a call's lists are those read at its bracket.
use Rattle.std.specs.Prelude.{ℕ, ◌<◌, ◌≤◌, ◌≡◌, List, [], ◌∷◌}
use Rattle.notation.specs.Limits.{text_limit}
use Rattle.notation.specs.Token.{token_at, k_round_open, k_round_close, k_square_open, k_square_close}
use Rattle.notation.specs.Tree.{Located, Ty, unit, named, tensor, par, lolli, plus, with, Alternatives, alternative, Proc, empty, send_unit, send_channel, send_label, cancel, spawn, recv_unit, recv_channel, recv_label, fwd, call, raise, try, Branches, branch, Entry, Declaration, declare_type, declare_proc, declare_exec}
use Rattle.notation.specs.Reader.{got, name_in, label_in}
use Rattle.notation.specs.Processes.{name_list}
use Rattle.notation.specs.Scripts.{fuel}
use Rattle.notation.specs.declared.reading.Cursor.{Cursor}

-- ── types
abbrev pub NameFrom : List ℕ → Located → Type 0
NameFrom s n = name_in s n.at ≡ n

abbrev pub LabelFrom : List ℕ → Located → Type 0
LabelFrom s n = label_in s n.at ≡ n

unfoldable mutual
  pub TypeFrom : List ℕ → Ty Located → Type 0
  TypeFrom s unit = 0 ≤ 0
  TypeFrom s (named n) = NameFrom s n
  TypeFrom s (tensor A B) = TypeFrom s A × TypeFrom s B
  TypeFrom s (par A B) = TypeFrom s A × TypeFrom s B
  TypeFrom s (lolli A B) = TypeFrom s A × TypeFrom s B
  TypeFrom s (plus r) = AlternativesFrom s r
  TypeFrom s (with r) = AlternativesFrom s r

  pub AlternativesFrom : List ℕ → Alternatives Located → Type 0
  AlternativesFrom s Alternatives.none = 0 ≤ 0
  AlternativesFrom s (alternative l A r) = LabelFrom s l × TypeFrom s A × AlternativesFrom s r

-- ── processes
-- the lists of a call were read at its round bracket, with fuel that is no more than a text's
pub record CallRead (s : List ℕ) (bracket : ℕ) (xs ys : List Located) : Type 0 where
  pub left : ℕ
  pub enough : left ≤ fuel s
  pub before : Cursor
  pub middle : Cursor
  pub after : Cursor
  pub starts : (token_at s before.at).start ≡ bracket
  pub provided : name_list left s k_round_open k_round_close before ≡ got xs middle
  pub used : name_list left s k_square_open k_square_close middle ≡ got ys after

unfoldable mutual
  pub ProcessFrom : List ℕ → Proc → Type 0
  ProcessFrom s (empty at) = at ≤ text_limit
  ProcessFrom s (send_unit at c P) = NameFrom s c × ProcessFrom s P
  ProcessFrom s (send_channel at c a P) = NameFrom s c × NameFrom s a × ProcessFrom s P
  ProcessFrom s (send_label at c l P) = NameFrom s c × LabelFrom s l × ProcessFrom s P
  ProcessFrom s (cancel at c P) = NameFrom s c × ProcessFrom s P
  ProcessFrom s (spawn n A P Q) = NameFrom s n × TypeFrom s A × ProcessFrom s P × ProcessFrom s Q
  ProcessFrom s (recv_unit at c P) = NameFrom s c × ProcessFrom s P
  ProcessFrom s (recv_channel at c a P) = NameFrom s c × NameFrom s a × (a.at < text_limit) × ProcessFrom s P
  ProcessFrom s (recv_label at c B) = NameFrom s c × BranchesFrom s B
  ProcessFrom s (fwd at x c) = NameFrom s x × NameFrom s c
  ProcessFrom s (call at n bracket xs ys) = NameFrom s n × CallRead s bracket xs ys
  ProcessFrom s (raise at P) = ProcessFrom s P
  ProcessFrom s (try at P Q) = ProcessFrom s P × ProcessFrom s Q

  pub BranchesFrom : List ℕ → Branches → Type 0
  BranchesFrom s Branches.none = 0 ≤ 0
  BranchesFrom s (branch l P B) = LabelFrom s l × ProcessFrom s P × BranchesFrom s B

-- ── declarations
unfoldable pub EntriesFrom : List ℕ → List Entry → Type 0
EntriesFrom s [] = 0 ≤ 0
EntriesFrom s (e ∷ es) = NameFrom s e.channel × TypeFrom s e.type × EntriesFrom s es

unfoldable pub DeclarationFrom : List ℕ → Declaration → Type 0
DeclarationFrom s (declare_type n A) = NameFrom s n × TypeFrom s A
DeclarationFrom s (declare_proc n xs ys P) = NameFrom s n × EntriesFrom s xs × EntriesFrom s ys × ProcessFrom s P
DeclarationFrom s (declare_exec n) = NameFrom s n

unfoldable pub ScriptFrom : List ℕ → List Declaration → Type 0
ScriptFrom s [] = 0 ≤ 0
ScriptFrom s (a ∷ r) = DeclarationFrom s a × ScriptFrom s r
