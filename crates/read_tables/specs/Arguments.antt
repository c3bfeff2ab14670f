-- A call's names, read again from its bracket, are those that were read: a reading turns on nothing but the token at hand, and with more fuel and fewer brackets open it reads the same.
use Prim.Native.Nat.{ℕ, zero, suc, ◌+◌, ◌-◌, ◌≤◌}
use Rattle.std.specs.Prelude.{◌≡◌, Bool, true, false, not, cond, length, drop, ltb, eqb, Ok, Err}
use Rattle.std.proofs.Math.Path.{refl}
use Rattle.std.proofs.Common.{sym, ◌∙◌, ap, subst, drop-drop, ltb-true, lt-ltb, le-ltb}
use mathlib.Core.List.{List, [], ◌∷◌}
use Rattle.std.proofs.lemmas.Bool.{false≢true}
use native.Mathlib.Omega.{arith}
use Rattle.std.proofs.Math.Seq.{drop-nil}
use Rattle.notation.specs.Bytes.{blank, position}
use Rattle.notation.specs.Limits.{bracket_limit}
use Rattle.notation.specs.Token.{token, skip, first_at, token_at, kind_at, k_name, k_comma, k_round_open, k_round_close, k_square_open, k_square_close, k_end}
use Rattle.notation.specs.Tree.{Located}
use Rattle.notation.specs.Reader.{Result, Taken, got, refused, on_token, part, lastly, choose, past, fault, expect, limited, may_open, deeper, opening, name_in}
use Rattle.notation.specs.Processes.{read_names, name_list}
use Rattle.notation.specs.Refusals.{refuses}
use Rattle.notation.specs.Scripts.{fuel}
use Rattle.notation.specs.From.{CallRead}
use Rattle.notation.proofs.Tokens.{find_case, find_ge, first_start, skip_ge}
use Rattle.notation.specs.declared.token.Token.{Token}
use Rattle.notation.specs.declared.reading.Cursor.{Cursor}
use Rattle.read_tables.specs.Decode.{from_start, read_arguments, arguments_or, arguments_at}
use Rattle.read_tables.specs.Names.{NamesFrom, CallAt, goes_is, list_goes}

-- ── the token at a token's start is that token
module _ {A : Type 0} (p : A → Bool) where
  find_again : (xs : List A) (k : ℕ) → position p (drop (position p xs k - k) xs) (position p xs k) ≡ position p xs k
  unfolding position
  find_again [] k = rw (drop-nil (k - k)) refl
  find_again (x ∷ xs) k =
      find_case p (λ j. position p (drop (j - k) (x ∷ xs)) j ≡ j) x xs k
      (λ e.
      let z : k - k ≡ 0 = omega arith in
      rw z (find_case p (λ j. j ≡ k) x xs k (λ _. refl) (λ d. absurd (false≢true (sym d ∙ e)))))
      (λ e.
      let l : suc k ≤ position p xs (suc k) = find_ge p xs (suc k) in
      let z : position p xs (suc k) - k ≡ suc (position p xs (suc k) - suc k) = omega arith in
      rw z (find_again xs (suc k)))

skip_again : (s : List ℕ) (at : ℕ) → skip s (skip s at) ≡ skip s at
unfolding skip
skip_again s at =
    let q : ℕ → Bool = λ b. not (blank b) in
    let i = position q (drop at s) at in
    let l : at ≤ i = find_ge q (drop at s) at in
    let z : at + (i - at) ≡ i = omega arith in
    let d : drop (i - at) (drop at s) ≡ drop i s = drop-drop (i - at) at s ∙ ap (λ m. drop m s) z in
    ap (λ r. position q r i) (sym d) ∙ find_again q (drop at s) at

within : (s : List ℕ) (i : ℕ) → ltb (skip s i) (length s) ≡ true → token_at s i ≡ first_at s (skip s i)
unfolding token_at
within s i e = rw e refl

past_end : (s : List ℕ) (i : ℕ) → ltb (skip s i) (length s) ≡ false → token_at s i ≡ token k_end (length s) (length s)
unfolding token_at
past_end s i e = rw e refl

pub token_again : (s : List ℕ) (at : ℕ) → token_at s (token_at s at).start ≡ token_at s at
token_again s at = go (ltb (skip s at) (length s)) refl
  where
    go : (b : Bool) → ltb (skip s at) (length s) ≡ b → token_at s (token_at s at).start ≡ token_at s at
    go true e =
        let f = within s at e in
        let g = within s (skip s at) (ap (λ i. ltb i (length s)) (skip_again s at) ∙ e) in
        ap (λ (t : Token). token_at s t.start) f ∙ ap (token_at s) (first_start s (skip s at) (ltb-true _ _ e)) ∙ g ∙ ap (first_at s) (skip_again s at) ∙ sym f
    go false e =
        let f = past_end s at e in
        let g = past_end s (length s) (le-ltb (skip s (length s)) (length s) (skip_ge s (length s))) in
        ap (λ (t : Token). token_at s t.start) f ∙ g ∙ sym f

-- ── cursors at the same token, the second with no more brackets open; what is taken and read from there
pub record Like (s : List ℕ) (c d : Cursor) : Type 0 where
  pub same : token_at s d.at ≡ token_at s c.at
  pub open' : d.depth ≤ c.depth

abbrev TakesLike : List ℕ → Taken → Taken → Type 0
TakesLike s (Ok (i, d)) u = (e : Cursor) × (u ≡ Ok (i, e)) × Like s d e
TakesLike s (Err e) u = 0 ≤ 0

record TakenAgain (s : List ℕ) (t u : Taken) : Type 0 where
  is : TakesLike s t u

abbrev ReadsLike : {A : Type 0} → List ℕ → Result A → Result A → Type 0
ReadsLike s (got a d) u = (e : Cursor) × (u ≡ got a e) × Like s d e
ReadsLike s (refused n i) u = 0 ≤ 0

record Again {A : Type 0} (s : List ℕ) (r u : Result A) : Type 0 where
  is : ReadsLike s r u

module _ {s : List ℕ} {A : Type 0} where
  again_got : (a : A) {c d : Cursor} → Like s c d → Again s (got a c) (got a d)
  again_got a {d = d} l = record { is = (d, refl, l) }

  again_refused : (n i : ℕ) (u : Result A) → Again s (refused n i) u
  again_refused n i u = record { is = omega arith }

  again_take : {t u : Taken} (f g : ℕ → Cursor → Result A) → TakenAgain s t u → ((i : ℕ) (c d : Cursor) → Like s c d → Again s (f i c) (g i d)) → Again s (on_token t f) (on_token u g)
  again_take {t = Ok (i, c)} {u = u} f g h k =
      let (d, e, l) = h.is in rw e (k i c d l)
  again_take {t = Err e} {u = u} f g h k = again_refused e.number e.at (on_token u g)

  again_part : {B : Type 0} {r u : Result B} (f g : B → Cursor → Result A) → Again s r u → ((b : B) (c d : Cursor) → Like s c d → Again s (f b c) (g b d)) → Again s (part r f) (part u g)
  again_part {r = got b c} {u = u} f g h k =
      let (d, e, l) = h.is in rw e (k b c d l)
  again_part {r = refused n i} {u = u} f g h k = again_refused n i (part u g)

  again_lastly : {B : Type 0} {r u : Result B} (f : B → A) → Again s r u → Again s (lastly f r) (lastly f u)
  again_lastly {r = got b c} {u = u} f h =
      let (d, e, l) = h.is in rw e (again_got (f b) l)
  again_lastly {r = refused n i} {u = u} f h = again_refused n i (lastly f u)

  again_choose : (b b' : Bool) (f g f' g' : Cursor → Result A) (c d : Cursor) → b' ≡ b → Again s (f c) (f' d) → Again s (g c) (g' d) → Again s (choose b f g c) (choose b' f' g' d)
  again_choose true b' f g f' g' c d e x y = rw e x
  again_choose false b' f g f' g' c d e x y = rw e y

-- ── tokens
abbrev taken_by : ℕ → Cursor → Token → Taken
taken_by k c t = cond (eqb t.kind k) (Ok (t.start, past c t)) (refuses (fault t) t.start)

by_again : (s : List ℕ) (k : ℕ) (c d : Cursor) (t : Token) → d.depth ≤ c.depth → TakenAgain s (taken_by k c t) (taken_by k d t)
by_again s k c d t l = go (eqb t.kind k)
  where
    go : (b : Bool) → TakenAgain s (cond b (Ok (t.start, past c t)) (refuses (fault t) t.start)) (cond b (Ok (t.start, past d t)) (refuses (fault t) t.start))
    go true = record { is = (past d t, refl, record { same = refl; open' = l }) }
    go false = record { is = omega arith }

expect_again : (s : List ℕ) (k : ℕ) (c d : Cursor) → Like s c d → TakenAgain s (expect s k c) (expect s k d)
unfolding expect
expect_again s k c d l =
    subst (λ t. TakenAgain s (taken_by k c (token_at s c.at)) (taken_by k d t)) (sym l.same) (by_again s k c d (token_at s c.at) l.open')

limited_again : (s : List ℕ) (t u : Taken) → TakenAgain s t u → TakenAgain s (limited t may_open deeper) (limited u may_open deeper)
limited_again s (Ok (i, c)) u h =
    let (d, e, l) = h.is in rw e (go d l (ltb c.depth bracket_limit) refl)
  where
    go : (d : Cursor) → Like s c d → (b : Bool) → ltb c.depth bracket_limit ≡ b → TakenAgain s (cond b (Ok (i, deeper c)) (refuses 5 i)) (limited (Ok (i, d)) may_open deeper)
    go d l true e =
        let m = ltb-true c.depth bracket_limit e in
        let n = l.open' in
        record { is = (deeper d, rw (lt-ltb d.depth bracket_limit (omega arith)) refl, record { same = l.same; open' = omega arith }) }
    go d l false e = record { is = omega arith }
limited_again s (Err z) u h = record { is = omega arith }

opening_again : (s : List ℕ) (k : ℕ) (c d : Cursor) → Like s c d → TakenAgain s (opening s k c) (opening s k d)
unfolding opening
opening_again s k c d l = limited_again s _ _ (expect_again s k c d l)

-- ── lists of names
kind_again : (s : List ℕ) (k : ℕ) (c d : Cursor) → Like s c d → eqb (kind_at s d.at) k ≡ eqb (kind_at s c.at) k
kind_again s k c d l = ap (λ (t : Token). eqb t.kind k) l.same

names_again : (n m : ℕ) (s : List ℕ) (close : ℕ) (c d : Cursor) → n ≤ m → Like s c d → Again s (read_names n s close c) (read_names m s close d)
unfolding read_names
names_again zero m s close c d h l = again_refused 0 0 (read_names m s close d)
names_again (suc n) zero s close c d h l = absurd (omega arith)
names_again (suc n) (suc m) s close c d h l =
    again_take _ _ (expect_again s k_name c d l) λ i c₁ d₁ l₁.
    again_choose (eqb (kind_at s c₁.at) k_comma) (eqb (kind_at s d₁.at) k_comma) _ _ _ _ c₁ d₁ (kind_again s k_comma c₁ d₁ l₁)
    (again_take _ _ (expect_again s k_comma c₁ d₁ l₁) λ _ c₂ d₂ l₂. again_lastly _ (names_again n m s close c₂ d₂ (omega arith) l₂))
    (again_take _ _ (expect_again s close c₁ d₁ l₁) λ _ c₂ d₂ l₂. again_got (name_in s i ∷ []) l₂)

list_again : (n m : ℕ) (s : List ℕ) (open' close : ℕ) (c d : Cursor) → n ≤ m → Like s c d → Again s (name_list n s open' close c) (name_list m s open' close d)
unfolding name_list
list_again n m s open' close c d h l =
    again_take _ _ (opening_again s open' c d l) λ _ c₁ d₁ l₁.
    again_part _ _
    (again_choose (eqb (kind_at s c₁.at) k_name) (eqb (kind_at s d₁.at) k_name) _ _ _ _ c₁ d₁ (kind_again s k_name c₁ d₁ l₁) (names_again n m s close c₁ d₁ h l₁)
    (again_take _ _ (expect_again s close c₁ d₁ l₁) λ _ c₂ d₂ l₂. again_got [] l₂))
    λ xs c₂ d₂ l₂. again_got xs (record { same = l₂.same; open' = l.open' })

arguments_again : (n m : ℕ) (s : List ℕ) (c d : Cursor) → n ≤ m → Like s c d → Again s (read_arguments n s c) (read_arguments m s d)
arguments_again n m s c d h l =
    again_part _ _ (list_again n m s k_round_open k_round_close c d h l) λ xs c₁ d₁ l₁.
    again_part _ _ (list_again n m s k_square_open k_square_close c₁ d₁ h l₁) λ ys c₂ d₂ l₂. again_got (xs, ys) l₂

-- ── the lists of a call that was read
same_arguments : {s : List ℕ} {r u : Result (List Located × List Located)} {a : List Located × List Located} {c : Cursor} → r ≡ got a c → Again s r u → arguments_or u ≡ a
same_arguments {s = s} {u = u} e h = let (d, z, l) = (subst (λ r. Again s r u) e h).is in ap arguments_or z

module _ (s : List ℕ) (bracket : ℕ) (xs ys : List Located) (k : CallRead s bracket xs ys) where
  at_bracket : token_at s bracket ≡ token_at s k.before.at
  at_bracket = ap (token_at s) (sym k.starts) ∙ token_again s k.before.at

  -- they are those from its bracket on
  pub arguments_read : arguments_at s bracket ≡ (xs, ys)
  unfolding arguments_at
  arguments_read =
      let e : read_arguments k.left s k.before ≡ got (xs, ys) k.after = rw (k.provided, k.used) refl in
      same_arguments e (arguments_again k.left (fuel s) s k.before (from_start bracket) k.enough (record { same = at_bracket; open' = omega arith }))

  -- and a walk over them meets them
  pub call_read : CallAt s bracket xs ys
  call_read =
      let c = k.before in
      let d = k.middle in
      record {
        middle = d.at;
        end = k.after.at;
        provided = subst (λ (t : Token). NamesFrom s t.end xs d.at) (sym at_bracket)
            (goes_is k.provided (list_goes s k_round_close refl refl k.left k_round_open c));
        used = goes_is k.used (list_goes s k_square_close refl refl k.left k_square_open d);
      }
