-- The table of words and marks: what the kinds spell, and the kind of what is spelled.
use Rattle.std.specs.Prelude.{ℕ, zero, suc, ◌≤◌, ◌<◌, ◌≡◌, refl, Bool, true, false, not, cond, ◌&&◌, ◌||◌, T, ltb, length, get_or}
use Rattle.std.proofs.Common.{◌∙◌, ap, subst, le_refl, arith, ltb→lt, lt-ltb, le-leb, le-ltb}
use mathlib.Core.List.{List, [], ◌∷◌}
use Rattle.std.proofs.Math.Option.{some, none-ne-some, some-injective}
use Rattle.std.proofs.Math.Dec.{leb, eqb, eqb→eq, leb→le}
use Rattle.std.proofs.Math.ListN.{get_elem?}
use Rattle.notation.specs.Bytes.{letter, name_byte, blank, position, same}
use Rattle.notation.specs.Token.{symbols, symbol, k_lolli, k_round_open, k_name}
use Rattle.notation.proofs.ByteTables.{below, below_at, same→eq}
use Rattle.notation.proofs.Names.{negated}
use Rattle.notation.proofs.Tokens.{symbol_all}
use Rattle.grammar.specs.Lexical.{NameBytes, none, more, IsName, letters, Spells, IsWord, IsMark}

module _ {A : Type 0} (d : A) where
  element_is : (xs : List A) (k : ℕ) (x : A) → get_elem? xs k ≡ some x → (k < length xs) × (get_or xs k d ≡ x)
  element_is [] k x e = absurd (none-ne-some x e)
  element_is (y ∷ xs) zero x e = (omega arith, some-injective y x e)
  element_is (y ∷ xs) (suc k) x e = let (h, f) = element_is xs k x e in (omega arith, f)

  pub is_element : (xs : List A) (k : ℕ) → k < length xs → get_elem? xs k ≡ some (get_or xs k d)
  is_element [] k h = absurd (omega arith)
  is_element (x ∷ xs) zero h = refl
  is_element (x ∷ xs) (suc k) h = is_element xs k (omega arith)

-- ── what a kind spells
module _ (k : ℕ) (w : List ℕ) (h : Spells k w) where
  spells_below : k < k_name
  unfolding symbols
  spells_below = (element_is [] symbols k w h).0

  -- what a test says of every kind and what it spells
  spells_all : (p : ℕ → List ℕ → Bool) → T (below (λ k. p k (get_or symbols k [])) k_name) → T (p k w)
  spells_all p t = subst (λ v. T (p k v)) (element_is [] symbols k w h).1 (below_at (λ k. p k (get_or symbols k [])) k_name t k spells_below)

  -- no other kind spells it
  pub spells_kind : symbol w ≡ k
  unfolding symbol symbols position same
  spells_kind = eqb→eq (symbol w) k (spells_all (λ k v. eqb (symbol v) k) tt)

symbol_spells : (w : List ℕ) → symbol w < k_name → Spells (symbol w) w
unfolding symbols same
symbol_spells w l =
    is_element [] symbols (symbol w) l ∙ ap some (same→eq (get_or symbols (symbol w) []) w (symbol_all (λ k v. same (get_or symbols k []) v) k_name (le_refl k_name) tt w l))

-- ── words are names
abbrev all_of : (ℕ → Bool) → List ℕ → Bool
all_of p [] = true
all_of p (b ∷ w) = p b && all_of p w

and_both : (a b : Bool) → T (a && b) → (a ≡ true) × T b
and_both true b t = (refl, t)
and_both false b t = absurd t

all_bytes : (w : List ℕ) → T (all_of name_byte w) → NameBytes w
all_bytes [] t = none
all_bytes (b ∷ w) t = let (e, u) = and_both (name_byte b) (all_of name_byte w) t in more e (all_bytes w u)

abbrev named : List ℕ → Bool
named [] = false
named (b ∷ w) = letter b && all_of name_byte w

is_name : (w : List ℕ) → T (named w) → IsName w
is_name [] t = absurd t
is_name (b ∷ w) t = let (e, u) = and_both (letter b) (all_of name_byte w) t in letters e (all_bytes w u)

module _ (k : ℕ) (w : List ℕ) (h : IsWord k w) where
  word_all : (p : List ℕ → Bool) → T (below (λ k. not (ltb k k_lolli) || p (get_or symbols k [])) k_name) → T (p w)
  word_all p t = rw (lt-ltb k k_lolli h.reserved) at (spells_all k w h.spells (λ k v. not (ltb k k_lolli) || p v) t)

  pub word_name : IsName w
  unfolding symbols letter name_byte
  word_name = is_name w (word_all named tt)

  pub word_short : length w ≤ 6
  unfolding symbols
  word_short = leb→le (length w) 6 (word_all (λ v. leb (length v) 6) tt)

pub name_word : (w : List ℕ) → IsName w → symbol w < k_name → IsWord (symbol w) w
unfolding symbols letter
name_word w (letters {b = b} {w = v} e n) l = record {
  spells = symbol_spells (b ∷ v) l;
  reserved = ltb→lt (symbol (b ∷ v)) k_lolli (rw e at (symbol_all (λ k v. not (letter (get_or v 0 0)) || ltb k k_lolli) k_name (le_refl k_name) tt (b ∷ v) l));
}

-- ── marks have one byte or two, of which the first is no blank, no letter and no apostrophe
pub data Opens : List ℕ → Type 0 where
  opens : {b : ℕ} {w : List ℕ} → blank b ≡ false → letter b ≡ false → eqb b 39 ≡ false → Opens (b ∷ w)

abbrev opening : List ℕ → Bool
opening [] = false
opening (b ∷ w) = not (blank b) && (not (letter b) && (not (eqb b 39) && true))

is_opening : (w : List ℕ) → T (opening w) → Opens w
is_opening [] t = absurd t
is_opening (b ∷ w) t =
    let (e, u) = and_both (not (blank b)) _ t in
    let (f, v) = and_both (not (letter b)) _ u in
    let (g, _) = and_both (not (eqb b 39)) _ v in
    opens (negated _ _ e) (negated _ _ f) (negated _ _ g)

abbrev pub mark_width : ℕ → ℕ
mark_width k = cond (ltb k k_round_open) 2 1

module _ (k : ℕ) (w : List ℕ) (h : IsMark k w) where
  mark_all : (p : ℕ → List ℕ → Bool) → T (below (λ k. ltb k k_lolli || p k (get_or symbols k [])) k_name) → T (p k w)
  mark_all p t = rw (le-ltb k k_lolli h.after) at (spells_all k w h.spells (λ k v. ltb k k_lolli || p k v) t)

  pub mark_opens : Opens w
  unfolding symbols letter blank
  mark_opens = is_opening w (mark_all (λ _ v. opening v) tt)

  pub mark_width_lem : length w ≡ mark_width k
  unfolding symbols
  mark_width_lem = eqb→eq (length w) (mark_width k) (mark_all (λ k v. eqb (length v) (mark_width k)) tt)

pub short_mark : (w : List ℕ) → length w ≤ 2 → symbol w < k_name → IsMark (symbol w) w
unfolding symbols
short_mark w h l = record {
  spells = symbol_spells w l;
  after = leb→le k_lolli (symbol w) (rw (le-leb (length w) 2 h) at (symbol_all (λ k v. not (leb (length v) 2) || leb k_lolli k) k_name (le_refl k_name) tt w l));
  below = l;
}
