-- Which terminals stand in a text, by the token reader; and when a list of tokens begins with others.
use Rattle.std.specs.Prelude.{ℕ, ◌+◌, ◌≡◌, refl, List, [], ◌∷◌, ◌++◌, ◌≢◌, cond, eqb}
use Rattle.std.proofs.Common.{ap}
use Rattle.notation.specs.Token.{token_at, kind_at, name_at, k_name, k_label, k_fault}
use Rattle.notation.specs.Tree.{Name}
use Rattle.grammar.specs.Terminals.{Tok, tok, Terminal, token_of, following}

-- the token that is read from an offset on, as the rules have it: with the name of a name or label
abbrev pub name_of : List ℕ → ℕ → ℕ → Name
name_of s k a = cond (eqb k k_name) (name_at s a) (cond (eqb k k_label) (name_at s (a + 1)) [])

abbrev pub token_in : List ℕ → ℕ → Tok
token_in s i = tok (token_at s i).kind (token_at s i).start (name_of s (token_at s i).kind (token_at s i).start)

-- from the offset i to j the terminals p stand in the text
pub data Stand (s : List ℕ) : ℕ → List Terminal → ℕ → Type 0 where
  none : {i : ℕ} → Stand s i [] i
  more : {i j : ℕ} {x : Terminal} {p : List Terminal} → kind_at s i ≢ k_fault → token_of x ≡ token_in s i → Stand s (token_at s i).end p j → Stand s i (x ∷ p) j

pub stand_append : {s : List ℕ} {i j k : ℕ} {p q : List Terminal} → Stand s i p j → Stand s j q k → Stand s i (p ++ q) k
stand_append none h = h
stand_append (more f e g) h = more f e (stand_append g h)

-- the tokens of terminals, then others
abbrev pub spelled : List Terminal → List Tok → List Tok
spelled [] ts = ts
spelled (x ∷ p) ts = token_of x ∷ spelled p ts

pub spelled_append : (p q : List Terminal) (ts : List Tok) → spelled (p ++ q) ts ≡ spelled p (spelled q ts)
spelled_append [] q ts = refl
spelled_append (x ∷ p) q ts = ap (◌∷◌ (token_of x)) (spelled_append p q ts)

-- the first token of terminals, or the one that follows them
abbrev pub first_of : List Terminal → Tok → Tok
first_of [] t = t
first_of (x ∷ p) t = token_of x

pub first_offset : (p : List Terminal) (t : Tok) → (first_of p t).at ≡ following p t.at
first_offset [] t = refl
first_offset (x ∷ p) t = refl

pub following_append : (p q : List Terminal) (next : ℕ) → following (p ++ q) next ≡ following p (following q next)
following_append [] q next = refl
following_append (x ∷ p) q next = refl

-- the first of what stands is the token there
pub stand_first : {s : List ℕ} {i j : ℕ} {p : List Terminal} → Stand s i p j → first_of p (token_in s j) ≡ token_in s i
stand_first none = refl
stand_first (more f e h) = e

-- ── a list of tokens begins with others
abbrev pub Agree : List Tok → List Tok → Type 0
Agree ts [] = Unit {0}
Agree [] (u ∷ us) = ⊥
Agree (t ∷ ts) (u ∷ us) = (t ≡ u) × Agree ts us

-- .. so it begins with the first of these
pub agree_first : (p q : List Terminal) (t u : Tok) (ts us : List Tok) → Agree (spelled p (t ∷ ts)) (spelled q (u ∷ us)) → first_of p t ≡ first_of q u
agree_first [] [] t u ts us (e, a) = e
agree_first [] (y ∷ q) t u ts us (e, a) = e
agree_first (x ∷ p) [] t u ts us (e, a) = e
agree_first (x ∷ p) (y ∷ q) t u ts us (e, a) = e

-- .. and with fewer of them
pub agree_fewer : (p q : List Terminal) (ts : List Tok) (u : Tok) (us : List Tok) → Agree ts (spelled p (spelled q (u ∷ us))) → Agree ts (spelled p (first_of q u ∷ []))
agree_fewer [] [] [] u us a = absurd a
agree_fewer [] [] (t ∷ ts) u us (e, a) = (e, tt)
agree_fewer [] (y ∷ q) [] u us a = absurd a
agree_fewer [] (y ∷ q) (t ∷ ts) u us (e, a) = (e, tt)
agree_fewer (x ∷ p) q [] u us a = absurd a
agree_fewer (x ∷ p) q (t ∷ ts) u us (e, a) = (e, agree_fewer p q ts u us a)

-- .. and what is left begins with what is left of them
pub agree_past : (p : List Terminal) (ts us : List Tok) → Agree (spelled p ts) (spelled p us) → Agree ts us
agree_past [] ts us a = a
agree_past (x ∷ p) ts us (e, a) = agree_past p ts us a

-- the tokens after the first
abbrev pub rest_of : List Terminal → Tok → List Tok → List Tok
rest_of [] t ts = ts
rest_of (x ∷ p) t ts = spelled p (t ∷ ts)

pub spelled_cons : (p : List Terminal) (t : Tok) (ts : List Tok) → spelled p (t ∷ ts) ≡ first_of p t ∷ rest_of p t ts
spelled_cons [] t ts = refl
spelled_cons (x ∷ p) t ts = refl
