-- The reading of a list in brackets is right about the rules: of a call's names, and of a signature's entries.
use Prim.Native.Nat.{ℕ, zero, suc}
use Rattle.std.specs.Prelude.{◌≡◌, List, [], ◌∷◌, ◌++◌, Bool, true, false, cond, eqb, ◌≢◌, Ok, Err}
use Rattle.std.proofs.Math.Path.{refl, subst}
use Rattle.std.proofs.Common.{sym, ◌∙◌, ap, append_assoc, true≢false, arith, eqb-true, ltb-true}
use Rattle.std.proofs.lemmas.Bool.{false≢true, eqb-false}
use Rattle.notation.specs.Token.{token_at, kind_at, k_name, k_one, k_colon, k_comma}
use Rattle.notation.specs.Tree.{Located, Ty, Entry}
use Rattle.notation.specs.Refusals.{refuses}
use Rattle.notation.specs.Reader.{Result, Taken, got, refused, on_token, part, lastly, choose, past, fault, expect, limited, may_open, deeper, opening, closed}
use Rattle.notation.specs.Types.{is_infix}
use Rattle.notation.specs.Processes.{read_names, name_list}
use Rattle.notation.specs.Scripts.{read_entries, entry_list}
use Rattle.notation.specs.declared.reading.Cursor.{Cursor}
use Rattle.grammar.specs.Terminals.{Tok, Terminal, type_mark, closes, name, mark}
use Rattle.grammar.specs.Grammar as rule
use Rattle.grammar.specs.Grammar.{IsType, IsChannel, IsEntry, Commas, Listing}
use Rattle.grammar.specs.Counting.{Counts}
use Rattle.theory_notation.specs.Standing.{token_in, first_of}
use Rattle.theory_notation.specs.Phrases.{Phrase, rules, one, seq, ret, mapped, lang, Each, Right, leads, joins, ended, becomes}
use Rattle.theory_notation.specs.Laws.{right_narrow, right_part, right_lastly, right_there}
use Rattle.theory_notation.specs.Roles.{Plain, openers, closers, marks, names}
use Rattle.theory_notation.specs.Levels.{Level, Closing, right_plain, right_opening, right_last}
use Rattle.theory_notation.specs.TypeRules.{recast, Any, NotInfix, type_p, type_reads}

-- ── up to the bracket that closes, whose kind is k
module _ {X : Type 0} (Item : List Terminal → X → Type 0) (k : ℕ) where
  data After (x : X) : ℕ → List X → List Terminal → Type 0 where
    last : {next a : ℕ} → After x next (x ∷ []) (closes k a ∷ [])
    more : {next b : ℕ} {p : List Terminal} {xs : List X} (a : ℕ) → Commas Item p xs → After x next (x ∷ xs) (mark k_comma b ∷ (p ++ (closes k a ∷ [])))

  data Closed : ℕ → List X → List Terminal → Type 0 where
    some : {next : ℕ} {p : List Terminal} {xs : List X} (a : ℕ) → Commas Item p xs → Closed next xs (p ++ (closes k a ∷ []))

  pub data AnyClosed : ℕ → List X → List Terminal → Type 0 where
    any : {next : ℕ} {p : List Terminal} {xs : List X} (a : ℕ) → Listing Item p xs → AnyClosed next xs (p ++ (closes k a ∷ []))

-- a part of the list at each offset, which begins with a name
pub record Begun {X : Type 0} (Item : List Terminal → X → Type 0) (o : ℕ) : Type 0 where
  pub rest : List Terminal
  pub value : X
  pub item : Item (name (record { at = o; name = [] }) ∷ rest) value

module _ {s : List ℕ} {X : Type 0} (Item : List Terminal → X → Type 0) (begun : (o : ℕ) → Begun Item o) (k : ℕ) where
  abbrev after_p : X → Phrase s (List X)
  after_p x = rules (After Item k x) (λ o. record { terminals = closes k o ∷ []; next = 0; value = x ∷ []; starts = refl; member = last })

  abbrev closed_p : Phrase s (List X)
  closed_p = rules (Closed Item k) (λ o. let b = begun o in record { terminals = (name (record { at = o; name = [] }) ∷ b.rest) ++ (closes k 0 ∷ []); next = 0; value = b.value ∷ []; starts = refl; member = some 0 (rule.last b.item) })

  abbrev pub any_closed_p : Phrase s (List X)
  any_closed_p = rules (AnyClosed Item k) (λ o. record { terminals = closes k o ∷ []; next = 0; value = []; starts = refl; member = any o rule.none })

named_first : (p r : List Terminal) (t : Tok) → ((u : Tok) → (first_of p u).kind ≡ k_name) → (first_of (p ++ r) t).kind ≡ k_name
named_first [] r t f = let z = f (record { kind = 0; at = 0; name = [] }) in absurd (omega arith)
named_first (x ∷ p) r t f = f t

-- every item begins with a name
abbrev pub Named : {X : Type 0} → (List Terminal → X → Type 0) → Type 0
Named {X} Item = (p : List Terminal) (x : X) → Item p x → (t : Tok) → (first_of p t).kind ≡ k_name

module _ (s : List ℕ) {X : Type 0} (Item : List Terminal → X → Type 0) (begun : (o : ℕ) → Begun Item o) (k : ℕ) (p : Plain k) (away : eqb k k_comma ≡ false) where
  abbrev comma_p : X → Phrase s (List X)
  comma_p x = one (marks s k_comma refl) λ _. mapped (◌∷◌ x) (closed_p Item begun k)

  after_comma : (x : X) (next : ℕ) (xs : List X) (q : List Terminal) → lang (comma_p x) next xs q → After Item k x next xs q
  after_comma x next xs q y = go y.is y.follows.is y.follows.of
    where
      go : {next b : ℕ} {xs ys : List X} {q r : List Terminal} → q ≡ mark k_comma b ∷ r → xs ≡ x ∷ ys → Closed Item k next ys r → After Item k x next xs q
      go {next} e f (some a c) = recast (λ q xs. After Item k x next xs q) (more a c) e f

  abbrev close_p : List X → Phrase s (List X)
  close_p xs = one (closers s k p) λ _. ret xs

  after_right : {base : Counts} {o : ℕ} (x : X) (rest : Cursor → Result (List X)) (d : Cursor) (n : Counts) → Level base (suc o) d n
      → ((e : Cursor) (j : Counts) → Level base (suc o) e j → Right s Any (Closing base o) (closed_p Item begun k) j e (rest e))
      → (b : Bool) → eqb (kind_at s d.at) k_comma ≡ b
      → Right s Any (Closing base o) (after_p Item begun k x) n d (choose b (λ d. on_token (expect s k_comma d) λ _ e. lastly (◌∷◌ x) (rest e)) (λ d. on_token (expect s k d) λ _ e. got (x ∷ []) e) d)
  after_right x rest d n v m true e =
      right_narrow {ψ = comma_p x} _ (after_comma x) out
      (right_plain v (marks s k_comma refl) _ _ tt refl λ f j w. right_lastly (closed_p Item begun k) (◌∷◌ x) _ (m f j w))
    where
      out : Each Any (After Item k x) (λ xs q t ts. first_of q t ≡ token_in s d.at → lang (comma_p x) t.at xs q)
      out xs q t ts last f z = absurd (false≢true (sym away ∙ ap (λ (u : Tok). eqb u.kind k_comma) z ∙ e))
      out xs q t ts (more {b = b} {xs = ys} a c) f z = leads b (becomes ys (some a c))
  after_right x rest d n v m false e =
      right_narrow {ψ = close_p (x ∷ [])} _
      (λ next xs q y. recast (λ q xs. After Item k x next xs q) (last {a = y.value}) (let e = y.is in let f = y.follows.none in cc) y.follows.value)
      out (right_last v k p (x ∷ []))
    where
      out : Each Any (After Item k x) (λ xs q t ts. first_of q t ≡ token_in s d.at → lang (close_p (x ∷ [])) t.at xs q)
      out xs q t ts (last {a = a}) f z = leads a ended
      out xs q t ts (more a c) f z = absurd (true≢false (ap (λ (u : Tok). eqb u.kind k_comma) z ∙ e))

  -- the whole list: some parts, the first of which begins with a name, or none
  list_right : Named Item → k ≢ k_name → {base : Counts} {o : ℕ} (items : Cursor → Result (List X)) (d : Cursor) (n : Counts) → Level base (suc o) d n
      → ((d : Cursor) (n : Counts) → Level base (suc o) d n → Right s Any (Closing base o) (closed_p Item begun k) n d (items d))
      → (b : Bool) → eqb (kind_at s d.at) k_name ≡ b
      → Right s Any (Closing base o) (any_closed_p Item begun k) n d (choose b items (λ d. on_token (expect s k d) λ _ e. got [] e) d)
  list_right named no_name items d n v m true e =
      right_narrow {ψ = closed_p Item begun k} _ into out (m d n v)
    where
      into : (next : ℕ) (xs : List X) (q : List Terminal) → Closed Item k next xs q → AnyClosed Item k next xs q
      into next xs q (some a c) = any a (rule.some c)

      out : Each Any (AnyClosed Item k) (λ xs q t ts. first_of q t ≡ token_in s d.at → Closed Item k t.at xs q)
      out xs q t ts (any a rule.none) f z = absurd (no_name (ap (λ (u : Tok). u.kind) z ∙ eqb-true (kind_at s d.at) k_name e))
      out xs q t ts (any a (rule.some c)) f z = some a c
  list_right named no_name items d n v m false e =
      right_narrow {ψ = close_p []} _
      (λ next xs q y. recast (λ q xs. AnyClosed Item k next xs q) (any y.value rule.none) (let e = y.is in let f = y.follows.none in cc) y.follows.value)
      out (right_last v k p [])
    where
      first_named_lem : {q : List Terminal} {xs : List X} → Commas Item q xs → (t : Tok) (r : List Terminal) → (first_of (q ++ r) t).kind ≡ k_name
      first_named_lem (rule.last {p = q} c) t r = named_first q r t (λ u. named _ _ c u)
      first_named_lem (rule.more {p = q} {q = q'} b c g) t r = named_first (q ++ (mark k_comma b ∷ q')) r t (λ u. named_first q (mark k_comma b ∷ q') u (λ w. named _ _ c w))

      out : Each Any (AnyClosed Item k) (λ xs q t ts. first_of q t ≡ token_in s d.at → lang (close_p []) t.at xs q)
      out xs q t ts (any a rule.none) f z = leads a ended
      out xs q t ts (any a (rule.some c)) f z = absurd (eqb-false (kind_at s d.at) k_name e (sym (ap (λ (u : Tok). u.kind) z) ∙ first_named_lem c t (closes k a ∷ [])))

-- ── parts in a row, however they are put together
abbrev OnlyAt : ℕ → Taken → Type 0
OnlyAt a (Ok (i, d)) = i ≡ a
OnlyAt a (Err e) = Unit {0}

at_start : {A : Type 0} (a : ℕ) (t : Taken) → OnlyAt a t → (g : ℕ → Cursor → Result A) → on_token t g ≡ on_token t (λ _ d. g a d)
at_start a (Ok (i, d)) e g = ap (λ i. g i d) e
at_start a (Err z) e g = refl

only_either : (a : ℕ) (b : Bool) (t u : Taken) → OnlyAt a t → OnlyAt a u → OnlyAt a (cond b t u)
only_either a true t u x y = x
only_either a false t u x y = y

only_limited : (a : ℕ) (t : Taken) (fits : Cursor → Bool) (on : Cursor → Cursor) → OnlyAt a t → OnlyAt a (limited t fits on)
only_limited a (Ok (i, d)) fits on e = only_either a (fits d) (Ok (i, on d)) (refuses 5 i) e tt
only_limited a (Err z) fits on e = tt

opening_at : (s : List ℕ) (k : ℕ) (c : Cursor) → OnlyAt (token_at s c.at).start (opening s k c)
unfolding opening expect
opening_at s k c =
    only_limited (token_at s c.at).start (expect s k c) may_open deeper
    (only_either (token_at s c.at).start (eqb (kind_at s c.at) k) (Ok ((token_at s c.at).start, past c (token_at s c.at))) (refuses (fault (token_at s c.at)) (token_at s c.at).start) refl tt)

part_take : {A B : Type 0} (t : Taken) (g : ℕ → Cursor → Result B) (h : B → Cursor → Result A) → part (on_token t g) h ≡ on_token t (λ i d. part (g i d) h)
part_take (Ok (i, d)) g h = refl
part_take (Err e) g h = refl

part_part : {A B : Type 0} (r : Result B) (up : Cursor → Cursor) (h : B → Cursor → Result A) → part r (λ b e. h b (up e)) ≡ part (part r λ b e. got b (up e)) h
part_part (got b e) up h = refl
part_part (refused n i) up h = refl

-- ── a list in its brackets, and what follows it
module _ (s : List ℕ) {X A : Type 0} (Item : List Terminal → X → Type 0) (begun : (o : ℕ) → Begun Item o) (named : Named Item) (opener k : ℕ) (po : Plain opener) (p : Plain k) (away : eqb k k_comma ≡ false) where
  -- the reading of the list, then a reading that is given the bracket's offset
  abbrev list_then : (Cursor → Result (List X)) → Cursor → (ℕ → List X → Cursor → Result A) → Result A
  list_then items c f =
      on_token (opening s opener c) λ b d.
      part (choose (eqb (kind_at s d.at) k_name) items (λ d. on_token (expect s k d) λ _ e. got [] e) d) λ xs e. f b xs (closed c e)

  list_then_right : {F : ℕ → Type 0} {E : Cursor → Counts → Type 0} {base : Counts} {o : ℕ} {c : Cursor} {m : Counts} (items : Cursor → Result (List X)) → Level base o c m
      → ((d : Cursor) (n : Counts) → Level base (suc o) d n → Right s Any (Closing base o) (closed_p Item begun k) n d (items d))
      → (φ : ℕ → List X → Phrase s A) (f : ℕ → List X → Cursor → Result A)
      → ((xs : List X) (d : Cursor) (n : Counts) → Level base o d n → Right s F E (φ (token_at s c.at).start xs) n d (f (token_at s c.at).start xs d))
      → Right s F E (one (openers s opener po) λ b. seq (any_closed_p Item begun k) λ xs. φ b xs) m c (list_then items c f)
  list_then_right {F} {c = c} items lv r φ f g =
      right_opening lv opener po _ _ λ d n v.
      right_part F (any_closed_p Item begun k) _ (λ xs a q t ts y h. tt) _ _ (list_right s Item begun k p away named not_name items d n v r (eqb (kind_at s d.at) k_name) refl) λ xs e j w.
      right_there (closed c e) e refl _ (g xs (closed c e) j (record { is = w.is; depth = lv.depth }))
    where
      not_name : k ≢ k_name
      not_name e = let h = ltb-true k k_name p in absurd (omega arith)

  -- the same, where the list is read first
  list_first : (items : Cursor → Result (List X)) (c : Cursor) (f : ℕ → List X → Cursor → Result A)
      → list_then items c f ≡ part (on_token (opening s opener c) λ _ d. part (choose (eqb (kind_at s d.at) k_name) items (λ d. on_token (expect s k d) λ _ e. got [] e) d) λ xs e. got xs (closed c e)) (λ xs e. f (token_at s c.at).start xs e)
  list_first items c f =
      at_start (token_at s c.at).start (opening s opener c) (opening_at s opener c) _ ∙ (λ j. on_token (opening s opener c) (λ _ d. inner d j)) ∙ sym (part_take (opening s opener c) _ _)
    where
      read : Cursor → Result (List X)
      read d = choose (eqb (kind_at s d.at) k_name) items (λ d. on_token (expect s k d) λ _ e. got [] e) d

      inner : (d : Cursor) → part (read d) (λ xs e. f (token_at s c.at).start xs (closed c e)) ≡ part (part (read d) λ xs e. got xs (closed c e)) (λ xs e. f (token_at s c.at).start xs e)
      inner d = part_part (read d) (closed c) _

-- ── names
pub names_begun : (o : ℕ) → Begun IsChannel o
names_begun o = record { rest = []; value = _; item = rule.channel }

names_named : Named IsChannel
names_named p x rule.channel t = refl

names_read : (s : List ℕ) (n k : ℕ) (p : Plain k) (away : eqb k k_comma ≡ false) {base : Counts} {o : ℕ} (c : Cursor) (m : Counts) → Level base (suc o) c m → Right s Any (Closing base o) (closed_p IsChannel names_begun k) m c (read_names n s k c)
unfolding read_names
names_read s zero k p away c m v = record { holds = tt }
names_read s (suc n) k p away {base} {o} c m v =
    right_narrow {ψ = one (names s) λ x. after_p IsChannel names_begun k x} _ into out
    (right_plain v (names s) _ _ tt refl λ d j w.
    after_right s IsChannel names_begun k p away _ (λ e. read_names n s k e) d j w (λ e i u. names_read s n k p away e i u) (eqb (kind_at s d.at) k_comma) refl)
  where
    joined : {next : ℕ} {x : Located} {xs : List Located} {q r : List Terminal} → q ≡ name x ∷ r → After IsChannel k x next xs r → Closed IsChannel k next xs q
    joined {next} e (last {a = a}) = recast (λ q xs. Closed IsChannel k next xs q) (some a (rule.last rule.channel)) e refl
    joined {next} e (more {b = b} a c) = recast (λ q xs. Closed IsChannel k next xs q) (some a (rule.more b rule.channel c)) e refl

    into : (next : ℕ) (xs : List Located) (q : List Terminal) → lang (one (names s) λ x. after_p {s = s} IsChannel names_begun k x) next xs q → Closed IsChannel k next xs q
    into next xs q y = joined y.is y.follows

    out : Each Any (Closed IsChannel k) (λ xs q t ts. first_of q t ≡ token_in s c.at → lang (one (names s) λ x. after_p {s = s} IsChannel names_begun k x) t.at xs q)
    out xs q t ts (some a (rule.last (rule.channel {n = x}))) f z = leads x last
    out xs q t ts (some a (rule.more b (rule.channel {n = x}) g)) f z = leads x (more a g)

-- ── entries
pub entries_begun : (o : ℕ) → Begun IsEntry o
entries_begun o = record { rest = mark k_colon 0 ∷ type_mark k_one 0 ∷ []; value = _; item = rule.typed (rule.atom rule.unit) }

entries_named : Named IsEntry
entries_named p x (rule.typed d) t = refl

abbrev entry : Located → Ty Located → Entry
entry x A = record { channel = x; type = A }

module _ (s : List ℕ) (k : ℕ) (p : Plain k) (away : eqb k k_comma ≡ false) (tame : is_infix k ≡ false) where
  abbrev entries_p : Phrase s (List Entry)
  entries_p = one (names s) λ x. one (marks s k_colon refl) λ _. seq type_p λ A. after_p IsEntry entries_begun k (entry x A)

  entries_closed : {next a : ℕ} {x : Located} {A : Ty Located} {xs : List Entry} {q r : List Terminal} → IsType q A → After IsEntry k (entry x A) next xs r → Closed IsEntry k next xs (name x ∷ mark k_colon a ∷ (q ++ r))
  entries_closed d (last {a = a}) = some a (rule.last (rule.typed d))
  entries_closed {next} {a = b} {x} {q = q} d (more {b = b'} {p = r} a c) =
      recast (λ q xs. Closed IsEntry k next xs q) (some a (rule.more b' (rule.typed d) c)) (ap (λ l. name x ∷ mark k_colon b ∷ l) (sym (append_assoc q (mark k_comma b' ∷ r) (closes k a ∷ [])))) refl

  into_closed : (next : ℕ) (xs : List Entry) (q : List Terminal) → lang entries_p next xs q → Closed IsEntry k next xs q
  into_closed next xs q y =
      let x = y.follows in
      let z = x.follows in
      recast (λ q xs. Closed IsEntry k next xs q) (entries_closed {a = x.value} {x = y.value} z.begins z.follows) (let e = y.is in let f = x.is in let g = z.is in cc) refl

  closed_out : {next : ℕ} {xs : List Entry} {q : List Terminal} → Closed IsEntry k next xs q → lang entries_p next xs q
  closed_out (some a (rule.last (rule.typed {x = x} {a = b} {p = q} {A = A} d))) = leads x (leads b (joins A q _ refl d last))
  closed_out (some a (rule.more {q = r} b' (rule.typed {x = x} {a = b} {p = q} {A = A} d) g)) = leads x (leads b (joins A q (mark k_comma b' ∷ (r ++ (closes k a ∷ []))) (append_assoc q (mark k_comma b' ∷ r) (closes k a ∷ [])) d (more a g)))

  after_ahead : (x : Entry) → Each Any (After IsEntry k x) (λ xs q t ts. NotInfix (first_of q t).kind)
  unfolding is_infix
  after_ahead x xs q t ts last f = tame
  after_ahead x xs q t ts (more a c) f = refl

  entries_read : (n : ℕ) {base : Counts} {o : ℕ} (c : Cursor) (m : Counts) → Level base (suc o) c m → Right s Any (Closing base o) (closed_p IsEntry entries_begun k) m c (read_entries n s k c)
  unfolding read_entries
  entries_read zero c m v = record { holds = tt }
  entries_read (suc n) c m v =
      right_narrow {ψ = entries_p} _ into_closed (λ xs q t ts y f z. closed_out y)
      (right_plain v (names s) _ _ tt refl λ d j w.
      right_plain w (marks s k_colon refl) _ _ tt refl λ e i u.
      right_part Any type_p _ (λ A. after_ahead _) _ _ (type_reads s n e i u) λ A f h x.
      after_right s IsEntry entries_begun k p away _ (λ g. read_entries n s k g) f h x (λ g l y. entries_read n g l y) (eqb (kind_at s f.at) k_comma) refl)

-- ── both, in their brackets
module _ {s : List ℕ} {A : Type 0} {F : ℕ → Type 0} {E : Cursor → Counts → Type 0} {base : Counts} {o : ℕ} {c : Cursor} {m : Counts} (lv : Level base o c m) (n opener k : ℕ) (po : Plain opener) (p : Plain k) (away : eqb k k_comma ≡ false) where
  pub name_list_right : (φ : ℕ → List Located → Phrase s A) (f : ℕ → List Located → Cursor → Result A)
      → ((xs : List Located) (d : Cursor) (j : Counts) → Level base o d j → Right s F E (φ (token_at s c.at).start xs) j d (f (token_at s c.at).start xs d))
      → Right s F E (one (openers s opener po) λ b. seq (any_closed_p IsChannel names_begun k) λ xs. φ b xs) m c (part (name_list n s opener k c) (λ xs e. f (token_at s c.at).start xs e))
  unfolding name_list
  name_list_right φ f g =
      subst (Right s F E (one (openers s opener po) λ b. seq (any_closed_p IsChannel names_begun k) λ xs. φ b xs) m c) (list_first s IsChannel names_begun names_named opener k po p away (read_names n s k) c f)
      (list_then_right s IsChannel names_begun names_named opener k po p away (read_names n s k) lv (λ d j v. names_read s n k p away d j v) φ f g)

  pub entry_list_right : is_infix k ≡ false → (φ : ℕ → List Entry → Phrase s A) (f : ℕ → List Entry → Cursor → Result A)
      → ((xs : List Entry) (d : Cursor) (j : Counts) → Level base o d j → Right s F E (φ (token_at s c.at).start xs) j d (f (token_at s c.at).start xs d))
      → Right s F E (one (openers s opener po) λ b. seq (any_closed_p IsEntry entries_begun k) λ xs. φ b xs) m c (part (entry_list n s opener k c) (λ xs e. f (token_at s c.at).start xs e))
  unfolding entry_list
  entry_list_right tame φ f g =
      subst (Right s F E (one (openers s opener po) λ b. seq (any_closed_p IsEntry entries_begun k) λ xs. φ b xs) m c) (list_first s IsEntry entries_begun entries_named opener k po p away (read_entries n s k) c f)
      (list_then_right s IsEntry entries_begun entries_named opener k po p away (read_entries n s k) lv (λ d j v. entries_read s k p away tame n d j v) φ f g)
