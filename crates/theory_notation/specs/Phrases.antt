-- What a reading comes to, by the rules. A phrase is a language: which terminals are read as which value, given the offset of the token that follows them.
-- A reading is right about its phrase where it gives the one member that stands in the text; or stops where the rules stop it. A law for each part that readings are made of.
use Rattle.std.specs.Prelude.{ℕ, zero, suc, ◌≡◌, refl, ◌≢◌, List, [], ◌∷◌, ◌++◌}
use Rattle.std.proofs.Common.{sym, ◌∙◌, ap, subst}
use Rattle.notation.specs.Token.{token_at, kind_at, k_fault}
use Rattle.notation.specs.Reader.{Result, got, refused}
use Rattle.notation.specs.declared.reading.Cursor.{Cursor}
use Rattle.grammar.specs.Terminals.{Tok, Terminal, token_of, offset, following}
use Rattle.grammar.specs.Counting.{Counts, Fits, Within}
use Rattle.theory_notation.specs.Standing.{token_in, Stand, spelled, following_append, Agree}

-- ── languages
abbrev pub Lang : Type 0 → Type 1
Lang A = ℕ → A → List Terminal → Type 0

-- a member that begins at an offset
pub record Filled {A : Type 0} (L : Lang A) (o : ℕ) : Type 0 where
  pub terminals : List Terminal
  pub next : ℕ
  pub value : A
  pub starts : following terminals next ≡ o
  pub member : L next value terminals

-- a terminal of one part, whose value is made of what stands there; then the rest
pub record One {X A : Type 0} (R : X → Terminal) (L : X → Lang A) (next : ℕ) (a : A) (p : List Terminal) : Type 0 where
  pub value : X
  pub rest : List Terminal
  pub is : p ≡ R value ∷ rest
  pub follows : L value next a rest

-- a phrase, then the rest
pub record Seq {B A : Type 0} (M : Lang B) (L : B → Lang A) (next : ℕ) (a : A) (p : List Terminal) : Type 0 where
  pub value : B
  pub first : List Terminal
  pub rest : List Terminal
  pub is : p ≡ first ++ rest
  pub begins : M (following rest next) value first
  pub follows : L value next a rest

-- no terminal
pub record Ret {A : Type 0} (x : A) (next : ℕ) (a : A) (p : List Terminal) : Type 0 where
  pub value : a ≡ x
  pub none : p ≡ []

-- a phrase, under what its value becomes
pub record Map {B A : Type 0} (f : B → A) (M : Lang B) (next : ℕ) (a : A) (p : List Terminal) : Type 0 where
  pub value : B
  pub is : a ≡ f value
  pub of : M next value p

-- .. and their members
module _ {A : Type 0} {next : ℕ} {a : A} where
  pub leads : {X : Type 0} {R : X → Terminal} {L : X → Lang A} {p : List Terminal} (v : X) → L v next a p → One R L next a (R v ∷ p)
  leads {p = p} v x = record { value = v; rest = p; is = refl; follows = x }

  pub joins : {B : Type 0} {M : Lang B} {L : B → Lang A} {r : List Terminal} (b : B) (p q : List Terminal) → r ≡ p ++ q → M (following q next) b p → L b next a q → Seq M L next a r
  joins b p q e x y = record { value = b; first = p; rest = q; is = e; begins = x; follows = y }

  pub ended : Ret a next a []
  ended = record { value = refl; none = refl }

pub becomes : {B A : Type 0} {next : ℕ} {f : B → A} {M : Lang B} {p : List Terminal} (b : B) → M next b p → Map f M next (f b) p
becomes b x = record { value = b; is = refl; of = x }

-- a part that tokens of one kind play in the text s
pub record Role (s : List ℕ) (k : ℕ) {X : Type 0} (R : X → Terminal) (value : ℕ → X) : Type 0 where
  pub apart : (v w : X) → token_of (R v) ≡ token_of (R w) → v ≡ w
  pub kind : (v : X) → (token_of (R v)).kind ≡ k
  pub is : (i : ℕ) → kind_at s i ≡ k → token_of (R (value (token_at s i).start)) ≡ token_in s i
  pub at : (o : ℕ) → (v : X) × (offset (R v) ≡ o)
  pub token : k ≢ k_fault

-- ── phrases
pub data Phrase (s : List ℕ) : Type 0 → Type 1 where
  -- what rules derive, of which a member begins at each offset
  rules : {A : Type 0} (L : Lang A) → ((o : ℕ) → Filled L o) → Phrase s A
  one : {k : ℕ} {X A : Type 0} {R : X → Terminal} {value : ℕ → X} → Role s k R value → (X → Phrase s A) → Phrase s A
  seq : {B A : Type 0} → Phrase s B → (B → Phrase s A) → Phrase s A
  ret : {A : Type 0} → A → Phrase s A
  mapped : {B A : Type 0} → (B → A) → Phrase s B → Phrase s A

abbrev pub lang : {s : List ℕ} {A : Type 0} → Phrase s A → Lang A
lang (rules L f) = L
lang (one {R = R} ρ φ) = One R (λ v. lang (φ v))
lang (seq μ φ) = Seq (lang μ) (λ b. lang (φ b))
lang (ret x) = Ret x
lang (mapped f μ) = Map f (lang μ)

pub fills : {s : List ℕ} {A : Type 0} (φ : Phrase s A) (o : ℕ) → Filled (lang φ) o
fills (rules L f) o = f o
fills (one {R = R} ρ φ) o =
    let f = fills (φ (ρ.at o).0) 0 in
    record { terminals = R (ρ.at o).0 ∷ f.terminals; next = f.next; value = f.value; starts = (ρ.at o).1; member = record { value = (ρ.at o).0; rest = f.terminals; is = refl; follows = f.member } }
fills (seq μ φ) o =
    let f = fills μ o in
    let g = fills (φ f.value) f.next in
    record {
      terminals = f.terminals ++ g.terminals;
      next = g.next;
      value = g.value;
      starts = following_append f.terminals g.terminals g.next ∙ ap (following f.terminals) g.starts ∙ f.starts;
      member = record { value = f.value; first = f.terminals; rest = g.terminals; is = refl; begins = subst (λ n. lang μ n f.value f.terminals) (sym g.starts) f.member; follows = g.member };
    }
fills (ret x) o = record { terminals = []; next = o; value = x; starts = refl; member = record { value = refl; none = refl } }
fills (mapped f μ) o = let g = fills μ o in record { terminals = g.terminals; next = g.next; value = f g.value; starts = g.starts; member = record { value = g.value; is = refl; of = g.member } }

-- ── what a reading comes to, of the text s, from the counts m and the cursor c on
-- terminals that a member goes on from, the rest of which begins at an offset
pub record Viable {A : Type 0} (L : Lang A) (p : List Terminal) (i : ℕ) : Type 0 where
  pub rest : List Terminal
  pub next : ℕ
  pub value : A
  pub starts : following rest next ≡ i
  pub member : L next value (p ++ rest)

-- terminals begin with others
pub record Starts (q p : List Terminal) : Type 0 where
  pub rest : List Terminal
  pub is : q ≡ p ++ rest

-- F says which kinds of tokens may follow a member
abbrev pub Each : {A : Type 0} → (ℕ → Type 0) → Lang A → (A → List Terminal → Tok → List Tok → Type 0) → Type 0
Each {A} F L P = (b : A) (q : List Terminal) (t : Tok) (ts : List Tok) → L t.at b q → F t.kind → P b q t ts

module _ (s : List ℕ) {A : Type 0} (F : ℕ → Type 0) (E : Cursor → Counts → Type 0) (L : Lang A) (m : Counts) (c : Cursor) where
  -- the member that was read, up to the cursor d; no other agrees with the text up to and with the token at d. E says what the counts have to do with the cursor.
  pub record Read (a : A) (d : Cursor) : Type 0 where
    pub terminals : List Terminal
    pub stands : Stand s c.at terminals d.at
    pub member : L (token_in s d.at).at a terminals
    pub counts : Counts
    pub within : Within m terminals counts
    pub ends : E d counts
    pub only : Each F L (λ b q t ts. Agree (spelled q (t ∷ ts)) (spelled terminals (token_in s d.at ∷ [])) → (q ≡ terminals) × (b ≡ a))

  -- why the reading stops after the terminals p, with the counts k, at the token from the offset j on
  pub data Why (p : List Terminal) (k : Counts) (j : ℕ) : ℕ → Type 0 where
    no_token : kind_at s j ≡ k_fault → Why p k j 3
    no_script : kind_at s j ≢ k_fault → Each F L (λ b q t ts. ¬ Agree (spelled q (t ∷ ts)) (spelled p (token_in s j ∷ []))) → Why p k j 4
    over_limit : (x : Terminal) (o : ℕ)
        → kind_at s j ≢ k_fault
        → token_of x ≡ token_in s j
        → ¬ Fits k x
        → Viable L (p ++ (x ∷ [])) o
        → Each F L (λ b q t ts. Agree (spelled q (t ∷ ts)) (spelled p (token_in s j ∷ [])) → Starts q (p ++ (x ∷ [])))
        → Why p k j 5

  pub record Stopped (n i : ℕ) : Type 0 where
    pub terminals : List Terminal
    pub upto : ℕ
    pub stands : Stand s c.at terminals upto
    pub at : (token_in s upto).at ≡ i
    pub viable : Viable L terminals i
    pub counts : Counts
    pub within : Within m terminals counts
    pub why : Why terminals counts upto n

module _ (s : List ℕ) {A : Type 0} (F : ℕ → Type 0) (E : Cursor → Counts → Type 0) (φ : Phrase s A) (m : Counts) (c : Cursor) where
  -- a reading whose fuel is spent, which none of a text is, is refused by 0
  abbrev RightOf : Result A → Type 0
  RightOf (got a d) = Read s F E (lang φ) m c a d
  RightOf (refused zero i) = Unit {0}
  RightOf (refused (suc n) i) = Stopped s F E (lang φ) m c (suc n) i

  pub record Right (r : Result A) : Type 0 where
    pub holds : RightOf r
