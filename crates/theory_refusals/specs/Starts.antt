-- The tokens of a text, one after the other, and what a reading keeps to them: its cursor stands where a token is read from, and a refusal is at the start of one.
-- A law for each part that readings are made of. Fuel that is spent is refused by 0, which no text is; and no reading is refused by 2.
use Rattle.std.specs.Prelude.{ℕ, ◌≤◌, ◌<◌, ◌≡◌, refl, ◌≢◌, Bool, true, false, List, length, eqb, Ok, Err}
use Rattle.std.proofs.Common.{arith, sym, subst}
use borrow.Author.Tests.{eqb-true}
use Rattle.notation.specs.Token.{token_at, k_round_open, k_round_close, k_label, k_fault}
use Rattle.notation.specs.Reader.{Result, Taken, got, refused, on_token, part, lastly, choose, expect, fault, misfit, limited, opening, type_term, process_term, closed_taken, onward_from, then_token}
use Rattle.notation.specs.Types.{label_term}
use Rattle.notation.specs.Processes.{unit_taken}
use Rattle.notation.specs.declared.token.Token as tokens
use Rattle.notation.specs.declared.reading.Cursor.{Cursor}
use Rattle.notation.proofs.Tokens.{cond_both, token_onward}

-- an offset from which one of the text's tokens is read: the text's first, or past a token that is read from such an offset
pub data ReadFrom (s : List ℕ) : ℕ → Type 0 where
  first : ReadFrom s 0
  next : {at : ℕ} → ReadFrom s at → (token_at s at).kind < k_fault → ReadFrom s (token_at s at).end

-- i is "the first byte of the token" that is read there: a token, the byte that opens none, or the end of the text
pub record StartsToken (s : List ℕ) (i : ℕ) : Type 0 where
  pub from : ℕ
  pub reached : ReadFrom s from
  pub starts : (token_at s from).start ≡ i

-- so it is within the text
pub start_within : {s : List ℕ} {i : ℕ} → StartsToken s i → i ≤ length s
start_within {s} h = let o = (token_onward s h.from).starts in let e = h.starts in omega (arith, o, e)

-- ── what a reading comes to
abbrev TakenOf : List ℕ → Taken → Type 0
TakenOf s (Ok (i, d)) = StartsToken s i × ReadFrom s d.at
TakenOf s (Err e) = (3 ≤ e.number) × StartsToken s e.at

pub record Token (s : List ℕ) (t : Taken) : Type 0 where
  pub holds : TakenOf s t

abbrev KeepsOf : {A : Type 0} → List ℕ → (A → Type 0) → Result A → Type 0
KeepsOf s P (got a d) = ReadFrom s d.at × P a
KeepsOf s P (refused n i) = (n ≢ 2) × (3 ≤ n → StartsToken s i)

pub record Keeps {A : Type 0} (s : List ℕ) (P : A → Type 0) (r : Result A) : Type 0 where
  pub holds : KeepsOf s P r

-- a reading that may begin where any token is read from
abbrev pub Reading : {A : Type 0} → List ℕ → (A → Type 0) → (Cursor → Result A) → Type 0
Reading s P f = (d : Cursor) → ReadFrom s d.at → Keeps s P (f d)

module _ {A : Type 0} {s : List ℕ} {P : A → Type 0} where
  pub keeps_got : {a : A} {d : Cursor} → ReadFrom s d.at → P a → Keeps s P (got a d)
  keeps_got h p = record { holds = (h, p) }

  pub keeps_no : {n i : ℕ} → 3 ≤ n → StartsToken s i → Keeps {A = A} s P (refused n i)
  keeps_no l h = record { holds = (λ e. absurd (omega (arith, l, e)), λ _. h) }

  pub keeps_spent : Keeps {A = A} s P (refused 0 0)
  keeps_spent = record { holds = (λ e. absurd (omega (arith, e)), λ l. absurd (omega (arith, l))) }

  pub keeps_token : {t : Taken} {f : ℕ → Cursor → Result A} → Token s t → ((i : ℕ) (d : Cursor) → StartsToken s i → ReadFrom s d.at → Keeps s P (f i d)) → Keeps s P (on_token t f)
  keeps_token {t = Ok (i, d)} h g = g i d h.holds.0 h.holds.1
  keeps_token {t = Err e} h g = keeps_no h.holds.0 h.holds.1

  pub keeps_part : {B : Type 0} {Q : B → Type 0} {r : Result B} {f : B → Cursor → Result A} → Keeps s Q r → ((b : B) (d : Cursor) → ReadFrom s d.at → Q b → Keeps s P (f b d)) → Keeps s P (part r f)
  keeps_part {r = got b d} h g = g b d h.holds.0 h.holds.1
  keeps_part {r = refused n i} h g = record { holds = h.holds }

  pub keeps_lastly : {B : Type 0} {Q : B → Type 0} {r : Result B} (f : B → A) → Keeps s Q r → ((b : B) → Q b → P (f b)) → Keeps s P (lastly f r)
  keeps_lastly {r = got b d} f h g = keeps_got h.holds.0 (g b h.holds.1)
  keeps_lastly {r = refused n i} f h g = record { holds = h.holds }

  pub keeps_choose : (b : Bool) (f g : Cursor → Result A) (c : Cursor) → (b ≡ true → Keeps s P (f c)) → Keeps s P (g c) → Keeps s P (choose b f g c)
  keeps_choose true f g c x y = x refl
  keeps_choose false f g c x y = y

-- ── the token at a cursor
fault_number : (t : tokens.Token) → 3 ≤ fault t
fault_number t = cond_both (λ n. 3 ≤ n) (eqb t.kind k_fault) 3 4 (λ _. omega arith) (λ _. omega arith)

module _ (s : List ℕ) (c : Cursor) (h : ReadFrom s c.at) where
  pub token_here : StartsToken s (token_at s c.at).start
  token_here = record { from = c.at; reached = h; starts = refl }

  pub keeps_misfit : {A : Type 0} {P : A → Type 0} → Keeps {A = A} s P (misfit s c)
  unfolding misfit
  keeps_misfit = keeps_no (fault_number (token_at s c.at)) token_here

  limited_token : (t : Taken) (fits : Cursor → Bool) (more : Cursor → Cursor) → ((d : Cursor) → (more d).at ≡ d.at) → Token s t → Token s (limited t fits more)
  limited_token (Ok (i, d)) fits more e g =
      cond_both (Token s) (fits d) _ _ (λ _. record { holds = (g.holds.0, subst (ReadFrom s) (sym (e d)) g.holds.1) }) (λ _. record { holds = (omega arith, g.holds.0) })
  limited_token (Err z) fits more e g = record { holds = g.holds }

  module _ (k : ℕ) (l : k < k_fault) where
    pub expect_token : Token s (expect s k c)
    unfolding expect
    expect_token =
        cond_both (Token s) (eqb (token_at s c.at).kind k) _ _
        (λ e. let z = eqb-true (token_at s c.at).kind k e in record { holds = (token_here, next h (omega (arith, z, l))) })
        (λ _. record { holds = (fault_number (token_at s c.at), token_here) })

    -- one within a limit that is tested past it
    pub limit_token : (fits : Cursor → Bool) (more : Cursor → Cursor) → ((d : Cursor) → (more d).at ≡ d.at) → Token s (limited (expect s k c) fits more)
    limit_token fits more e = limited_token (expect s k c) fits more e expect_token

    pub opening_token : Token s (opening s k c)
    unfolding opening
    opening_token = limit_token _ _ (λ _. refl)

    pub type_token : Token s (type_term s k c)
    unfolding type_term
    type_token = limit_token _ _ (λ _. refl)

    pub process_token : Token s (process_term s k c)
    unfolding process_term
    process_token = limit_token _ _ (λ _. refl)

  pub label_token : (n : ℕ) → Token s (label_term s n c)
  unfolding label_term
  label_token n = limit_token k_label (omega arith) _ _ (λ _. refl)

-- two tokens in a row
onward_token : {s : List ℕ} (i : ℕ) (t : Taken) → StartsToken s i → Token s t → Token s (onward_from i t)
onward_token i (Ok (j, e)) h g = record { holds = (h, g.holds.1) }
onward_token i (Err e) h g = record { holds = g.holds }

then_token_lem : {s : List ℕ} (t : Taken) (f : Cursor → Taken) → Token s t → ((d : Cursor) → ReadFrom s d.at → Token s (f d)) → Token s (then_token t f)
then_token_lem (Ok (i, d)) f h g = onward_token i (f d) h.holds.0 (g d h.holds.1)
then_token_lem (Err e) f h g = record { holds = h.holds }

closed_token : {s : List ℕ} (b : Cursor) (t : Taken) → Token s t → Token s (closed_taken b t)
closed_token b (Ok (i, d)) h = record { holds = h.holds }
closed_token b (Err e) h = record { holds = h.holds }

pub unit_token : (s : List ℕ) (c : Cursor) → ReadFrom s c.at → Token s (unit_taken s c)
unfolding unit_taken
unit_token s c h =
    closed_token c _ (then_token_lem (opening s k_round_open c) (expect s k_round_close) (opening_token s c h k_round_open (omega arith)) λ d g. expect_token s d g k_round_close (omega arith))
