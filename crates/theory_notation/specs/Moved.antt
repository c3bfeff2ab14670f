-- The rules do not depend on where terminals stand, nor on their names: with other offsets and names the same terminals are a script too. And its words and marks are those of the table.
use Rattle.std.specs.Prelude.{ℕ, zero, suc, ◌≤◌, ◌<◌, ◌≡◌, refl, List, [], ◌∷◌, ◌++◌, Bool, true, ltb, length}
use Rattle.std.proofs.Common.{subst, arith, length-append}
use Rattle.notation.specs.Token.{k_name, k_lolli, k_comma, k_star, k_at, k_brace_close, k_round_close}
use Rattle.notation.specs.Tree.{Located, Ty, Alternatives, Proc, Branches, Entry, Declaration}
use Rattle.notation.specs.Tree as tree
use Rattle.grammar.specs.Terminals.{Terminal, token_of, declares_type, declares_proc, declares_exec, type_mark, type_name, term_word, brought, opens, closes, listed, sent, name, mark, following}
use Rattle.grammar.specs.Grammar as rule
use Rattle.grammar.specs.Grammar.{Commas, Listing, IsType, IsAtom, AreAlternatives, IsChannel, IsProcess, IsRest, AreBranches, IsEntry, IsDeclaration, IsScript}

-- ── terminals elsewhere
-- the terminal at another offset, and with another name if it has one
abbrev pub put : Located → Terminal → Terminal
put l (declares_type a) = declares_type l.at
put l (declares_proc a) = declares_proc l.at
put l (declares_exec a) = declares_exec l.at
put l (type_mark k a) = type_mark k l.at
put l (type_name n) = type_name l
put l (term_word k a) = term_word k l.at
put l (brought n) = brought l
put l (opens k a) = opens k l.at
put l (closes k a) = closes k l.at
put l (listed before n) = listed before l
put l (sent n) = sent l
put l (name n) = name l
put l (mark k a) = mark k l.at

abbrev stands : Terminal → Located
stands x = record { at = (token_of x).at; name = (token_of x).name }

put_there : (x : Terminal) → put (stands x) x ≡ x
put_there (declares_type a) = refl
put_there (declares_proc a) = refl
put_there (declares_exec a) = refl
put_there (type_mark k a) = refl
put_there (type_name n) = refl
put_there (term_word k a) = refl
put_there (brought n) = refl
put_there (opens k a) = refl
put_there (closes k a) = refl
put_there (listed before n) = refl
put_there (sent n) = refl
put_there (name n) = refl
put_there (mark k a) = refl

-- `Moved p q`: the terminals q are p, each at an offset and with a name of its own
pub data Moved : List Terminal → List Terminal → Type 0 where
  none : Moved [] []
  more : {x : Terminal} {p q : List Terminal} (l : Located) → Moved p q → Moved (x ∷ p) (put l x ∷ q)

pub not_moved : (p : List Terminal) → Moved p p
not_moved [] = none
not_moved (x ∷ p) = subst (λ y. Moved (x ∷ p) (y ∷ p)) (put_there x) (more (stands x) (not_moved p))

pub moved_append : {p q r t : List Terminal} → Moved p q → Moved r t → Moved (p ++ r) (q ++ t)
moved_append none h = h
moved_append (more l g) h = more l (moved_append g h)

data Split (p r : List Terminal) : List Terminal → Type 0 where
  parts : {q t : List Terminal} → Moved p q → Moved r t → Split p r (q ++ t)

split : (p : List Terminal) {r t : List Terminal} → Moved (p ++ r) t → Split p r t
split [] h = parts none h
split (x ∷ p) (more l h) = go (split p h)
  where
    go : {r t : List Terminal} → Split p r t → Split (x ∷ p) r (put l x ∷ t)
    go (parts f g) = parts (more l f) g

-- ── words and marks of the table
abbrev pub known : Terminal → Bool
known (type_mark k a) = ltb k k_name
known (term_word k a) = ltb k k_name
known (opens k a) = ltb k k_name
known (closes k a) = ltb k k_name
known (mark k a) = ltb k k_name
known (declares_type a) = true
known (declares_proc a) = true
known (declares_exec a) = true
known (type_name n) = true
known (brought n) = true
known (listed before n) = true
known (sent n) = true
known (name n) = true

pub data Known : List Terminal → Type 0 where
  none : Known []
  more : {x : Terminal} {p : List Terminal} → known x ≡ true → Known p → Known (x ∷ p)

known_append : {p q : List Terminal} → Known p → Known q → Known (p ++ q)
known_append none h = h
known_append (more e g) h = more e (known_append g h)

pub known_parts : (p : List Terminal) {q : List Terminal} → Known (p ++ q) → Known p × Known q
known_parts [] h = (none, h)
known_parts (x ∷ p) (more e h) = let (f, g) = known_parts p h in (more e f, g)

-- ── a law for each part of a rule: L holds of the terminals wherever they are put
pub record Anywhere (L : List Terminal → Type 0) (p : List Terminal) : Type 0 where
  pub known : Known p
  pub moved : (q : List Terminal) → Moved p q → L q

nothing : {L : List Terminal → Type 0} → L [] → Anywhere L []
nothing {L} x = record { known = none; moved = go }
  where
    go : (q : List Terminal) → Moved [] q → L q
    go q none = x

one : {L : List Terminal → Type 0} {x : Terminal} {p : List Terminal} → known x ≡ true → ((l : Located) → Anywhere (λ q. L (put l x ∷ q)) p) → Anywhere L (x ∷ p)
one {L} {x} {p} e f = record { known = more e (f (stands x)).known; moved = go }
  where
    go : (q : List Terminal) → Moved (x ∷ p) q → L q
    go q (more {q = t} l h) = (f l).moved t h

seq : {M L : List Terminal → Type 0} {p r : List Terminal} → Anywhere M p → ((q : List Terminal) → M q → Anywhere (λ t. L (q ++ t)) r) → Anywhere L (p ++ r)
seq {M} {L} {p} {r} h f = record { known = known_append h.known (f p (h.moved p (not_moved p))).known; moved = λ q g. go q (split p g) }
  where
    go : (q : List Terminal) → Split p r q → L q
    go q (parts {q = u} {t = t} g k) = (f u (h.moved u g)).moved t k

also : {M L : List Terminal → Type 0} {p : List Terminal} → Anywhere M p → ((q : List Terminal) → M q → L q) → Anywhere L p
also h f = record { known = h.known; moved = λ q g. f q (h.moved q g) }

-- ── types
abbrev SomeType : List Terminal → Type 0
SomeType q = (A : Ty Located) × IsType q A

abbrev SomeAtom : List Terminal → Type 0
SomeAtom q = (A : Ty Located) × IsAtom q A

abbrev SomeAlternatives : ℕ → List Terminal → Type 0
SomeAlternatives n q = (r : Alternatives Located) × AreAlternatives n q r

-- by the number of terminals, since brackets leave no trace in the tree
module _ (n : ℕ) (shorter : (p : List Terminal) (A : Ty Located) → IsType p A → length p < n → Anywhere SomeType p) where
  alternatives_by_lem : {m : ℕ} {p : List Terminal} {r : Alternatives Located} → AreAlternatives m p r → length p ≤ n → Anywhere (SomeAlternatives m) p
  alternatives_by_lem (rule.last d) h = one refl λ l. one refl λ a. also (shorter _ _ d (omega arith)) λ q (A, x). (_, rule.last x)
  alternatives_by_lem (rule.more b {p = p} {q = q} d e) h =
      let k = length-append p (mark k_comma b ∷ q) in
      one refl λ l. one refl λ a. seq (shorter _ _ d (omega arith)) λ p (A, x). one refl λ b. also (alternatives_by_lem e (omega arith)) λ q (r, y). (_, rule.more b.at x y)

  atom_by_lem : {p : List Terminal} {A : Ty Located} → IsAtom p A → length p ≤ n → Anywhere SomeAtom p
  atom_by_lem rule.unit h = one refl λ l. nothing (_, rule.unit)
  atom_by_lem rule.named h = one refl λ l. nothing (_, rule.named)
  atom_by_lem (rule.plus {p = p} c d) h =
      let k = length-append p (closes k_brace_close c ∷ []) in
      one refl λ a. one refl λ b. seq (alternatives_by_lem d (omega arith)) λ q (r, x). one refl λ l. nothing (_, rule.plus l.at x)
  atom_by_lem (rule.with {p = p} c d) h =
      let k = length-append p (closes k_brace_close c ∷ []) in
      one refl λ a. one refl λ b. seq (alternatives_by_lem d (omega arith)) λ q (r, x). one refl λ l. nothing (_, rule.with l.at x)
  atom_by_lem (rule.round {p = p} b d) h =
      let k = length-append p (closes k_round_close b ∷ []) in
      one refl λ a. seq (shorter _ _ d (omega arith)) λ q (A, x). one refl λ l. nothing (_, rule.round l.at x)

  -- an infix mark and the type after it
  infix_by : (x : Terminal) {p q : List Terminal} {A B : Ty Located} (R : Ty Located → Ty Located → Ty Located) → known x ≡ true → IsAtom p A → IsType q B → length (p ++ (x ∷ q)) ≤ n
      → ((l : Located) (p q : List Terminal) (A B : Ty Located) → IsAtom p A → IsType q B → IsType (p ++ (put l x ∷ q)) (R A B)) → Anywhere SomeType (p ++ (x ∷ q))
  infix_by x {p} {q} R k d e h f =
      let m = length-append p (x ∷ q) in
      seq (atom_by_lem d (omega arith)) λ p (A, y). one k λ l. also (shorter _ _ e (omega arith)) λ q (B, z). (R A B, f l p q A B y z)

  type_by : {p : List Terminal} {A : Ty Located} → IsType p A → length p ≤ n → Anywhere SomeType p
  type_by (rule.atom d) h = also (atom_by_lem d h) λ q (A, x). (A, rule.atom x)
  type_by (rule.tensor a d e) h = infix_by (type_mark k_star a) tree.tensor refl d e h λ l p q A B. rule.tensor l.at
  type_by (rule.par a d e) h = infix_by (type_mark k_at a) tree.par refl d e h λ l p q A B. rule.par l.at
  type_by (rule.lolli a d e) h = infix_by (type_mark k_lolli a) tree.lolli refl d e h λ l p q A B. rule.lolli l.at

types_below : (n : ℕ) {p : List Terminal} {A : Ty Located} → IsType p A → length p < n → Anywhere SomeType p
types_below zero d h = absurd (omega arith)
types_below (suc n) d h = type_by n (λ p A e g. types_below n e g) d (omega arith)

type_anywhere : {p : List Terminal} {A : Ty Located} → IsType p A → Anywhere SomeType p
type_anywhere {p} d = types_below (suc (length p)) d (omega arith)

-- ── lists
module _ {X : Type 0} (Item : List Terminal → X → Type 0) (item : (p : List Terminal) (x : X) → Item p x → Anywhere (λ q. (x : X) × Item q x) p) where
  commas_anywhere : {p : List Terminal} {xs : List X} → Commas Item p xs → Anywhere (λ q. (xs : List X) × Commas Item q xs) p
  commas_anywhere (rule.last d) = also (item _ _ d) λ q (x, y). (_, rule.last y)
  commas_anywhere (rule.more b d e) = seq (item _ _ d) λ p (x, y). one refl λ l. also (commas_anywhere e) λ q (xs, z). (_, rule.more l.at y z)

  listing_anywhere : {p : List Terminal} {xs : List X} → Listing Item p xs → Anywhere (λ q. (xs : List X) × Listing Item q xs) p
  listing_anywhere rule.none = nothing (_, rule.none)
  listing_anywhere (rule.some d) = also (commas_anywhere d) λ q (xs, y). (_, rule.some y)

name_anywhere : (p : List Terminal) (x : Located) → IsChannel p x → Anywhere (λ q. (x : Located) × IsChannel q x) p
name_anywhere p x rule.channel = one refl λ l. nothing (_, rule.channel)

-- ── processes, before a token at any offset
abbrev SomeProcess : List Terminal → Type 0
SomeProcess q = (next : ℕ) → (P : Proc) × IsProcess next q P

abbrev SomeRest : List Terminal → Type 0
SomeRest q = (next : ℕ) → (P : Proc) × IsRest next q P

abbrev SomeBranches : ℕ → List Terminal → Type 0
SomeBranches n q = (next : ℕ) → (B : Branches) × AreBranches n next q B

rest_by_lem : {next : ℕ} {p : List Terminal} (P : Proc) → ((q : List Terminal) → IsProcess next q P → Anywhere SomeProcess q) → IsRest next p P → Anywhere SomeRest p
rest_by_lem P f rule.nothing = nothing (λ n. (_, rule.nothing))
rest_by_lem P f (rule.goes_on d) = one refl λ l. also (f _ d) λ q x n. (_, rule.goes_on (x n).1)

mutual
  process_anywhere : (P : Proc) {next : ℕ} {p : List Terminal} → IsProcess next p P → Anywhere SomeProcess p
  process_anywhere (tree.empty a) rule.empty = nothing λ n. (_, rule.empty)
  process_anywhere (tree.send_unit a c P) (rule.send_unit d) = one refl λ a. one refl λ c. one refl λ b. one refl λ d'. also (rest_by_lem P (λ q. process_anywhere P) d) λ q x n. (_, rule.send_unit (x n).1)
  process_anywhere (tree.send_channel a c e P) (rule.send_channel d) = one refl λ a. one refl λ c. one refl λ e. also (rest_by_lem P (λ q. process_anywhere P) d) λ q x n. (_, rule.send_channel (x n).1)
  process_anywhere (tree.send_label a c e P) (rule.send_label d) = one refl λ a. one refl λ c. one refl λ e. also (rest_by_lem P (λ q. process_anywhere P) d) λ q x n. (_, rule.send_label (x n).1)
  process_anywhere (tree.cancel a c P) (rule.cancel d) = one refl λ a. one refl λ c. also (rest_by_lem P (λ q. process_anywhere P) d) λ q x n. (_, rule.cancel (x n).1)
  process_anywhere (tree.spawn c A P Q) (rule.spawn b d t u r) =
      one refl λ c. one refl λ a. seq (type_anywhere t) λ p (A, x). one refl λ b. one refl λ d. seq (process_anywhere P u) λ q y. one refl λ e. also (rest_by_lem Q (λ q. process_anywhere Q) r) λ r z n.
      (_, rule.spawn b.at d.at x (y e.at).1 (z n).1)
  process_anywhere (tree.recv_unit a c P) (rule.recv_unit d) =
      one refl λ a. one refl λ c. one refl λ b. one refl λ d'. one refl λ e. one refl λ f. seq (process_anywhere P d) λ q x. one refl λ g. nothing λ n. (_, rule.recv_unit (x g.at).1)
  process_anywhere (tree.recv_channel a c e P) (rule.recv_channel d) =
      one refl λ a. one refl λ c. one refl λ b. one refl λ e. one refl λ f. seq (process_anywhere P d) λ q x. one refl λ g. nothing λ n. (_, rule.recv_channel (x g.at).1)
  process_anywhere (tree.recv_label a c B) (rule.recv_label d) = one refl λ a. one refl λ c. one refl λ b. seq (branches_anywhere B d) λ q x. one refl λ g. nothing λ n. (_, rule.recv_label (x g.at).1)
  process_anywhere (tree.fwd a c e) rule.fwd = one refl λ a. one refl λ c. one refl λ e. nothing λ n. (_, rule.fwd)
  process_anywhere (tree.call a c b xs ys) (rule.call d e f x y) =
      one refl λ a. one refl λ c. one refl λ b. seq (listing_anywhere IsChannel name_anywhere x) λ p (xs, x). one refl λ d. one refl λ e. seq (listing_anywhere IsChannel name_anywhere y) λ q (ys, y). one refl λ f. nothing λ n.
      (_, rule.call d.at e.at f.at x y)
  process_anywhere (tree.raise a P) (rule.raise d) = one refl λ a. also (process_anywhere P d) λ q x n. (_, rule.raise (x n).1)
  process_anywhere (tree.try a P Q) (rule.try e f d u) =
      one refl λ a. one refl λ b. seq (process_anywhere P d) λ p x. one refl λ d. one refl λ e. one refl λ f. seq (process_anywhere Q u) λ q y. one refl λ g. nothing λ n.
      (_, rule.try e.at f.at (x d.at).1 (y g.at).1)

  branches_anywhere : (B : Branches) {n next : ℕ} {p : List Terminal} → AreBranches n next p B → Anywhere (SomeBranches n) p
  branches_anywhere Branches.none d = elim d [ ]
  branches_anywhere (tree.branch l P B) (rule.last d) = one refl λ l. one refl λ a. also (process_anywhere P d) λ q x n. (_, rule.last (x n).1)
  branches_anywhere (tree.branch l P B) (rule.more d e) =
      one refl λ l. one refl λ a. seq (process_anywhere P d) λ p x. one refl λ b. also (branches_anywhere B e) λ q y n. (_, rule.more (x b.at).1 (y n).1)

-- ── declarations
entry_anywhere : (p : List Terminal) (x : Entry) → IsEntry p x → Anywhere (λ q. (x : Entry) × IsEntry q x) p
entry_anywhere p x (rule.typed d) = one refl λ c. one refl λ a. also (type_anywhere d) λ q (A, y). (_, rule.typed y)

declaration_anywhere : {next : ℕ} {p : List Terminal} {a : Declaration} → IsDeclaration next p a → Anywhere (λ q. (next : ℕ) → (a : Declaration) × IsDeclaration next q a) p
declaration_anywhere (rule.type d) = one refl λ a. one refl λ t. one refl λ b. also (type_anywhere d) λ q (A, x) n. (_, rule.type x)
declaration_anywhere (rule.proc d e f g {P = P} x y z) =
    one refl λ a. one refl λ c. one refl λ b. seq (listing_anywhere IsEntry entry_anywhere x) λ p (xs, x). one refl λ d. one refl λ e.
    seq (listing_anywhere IsEntry entry_anywhere y) λ q (ys, y). one refl λ f. one refl λ g. also (process_anywhere P z) λ r z n.
    (_, rule.proc d.at e.at f.at g.at x y (z n).1)
declaration_anywhere rule.exec = one refl λ a. one refl λ c. nothing λ n. (_, rule.exec)

pub script_anywhere : {next : ℕ} {p : List Terminal} {ds : List Declaration} → IsScript next p ds → Anywhere (λ q. (next : ℕ) → (ds : List Declaration) × IsScript next q ds) p
script_anywhere rule.none = nothing λ n. (_, rule.none)
script_anywhere (rule.more d e) = seq (declaration_anywhere d) λ p x. also (script_anywhere e) λ q y n. (_, rule.more (x (following q n)).1 (y n).1)
