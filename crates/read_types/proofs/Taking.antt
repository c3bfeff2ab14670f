-- A step that is taken, and one that is refused.
use mathlib.Core.Path.{◌≡◌, refl, sym, ap, subst, ◌∙◌}
use mathlib.Core.List.{List}
use mathlib.Core.Bool.{Bool, true, false, cond, ◌||◌}
use Prim.Native.Nat.{ℕ, ◌+◌, ◌*◌, ◌≤◌}
use native.Mathlib.Omega.{arith}
use lib.Dec.{eqb}
use borrow.Author.Tests.{eq-eqb, ne_eqb}
use Rattle.std.specs.Prelude.{Ok, Err}
use Rattle.std.specs.Result.{IsErrAnd}
use Rattle.std.proofs.lemmas.Result.{err_from_is_err_and}
use Rattle.notation.specs.Limits.{type_term_limit, process_term_limit}
use Rattle.notation.specs.Token.{token_at, k_then, k_label}
use Rattle.notation.specs.Onward.{width, Onward}
use Rattle.notation.specs.Refusals.{OrRefusal, refusal, refuses}
use Rattle.notation.specs.Reader.{Taken, expect, limited, past, fault, then_token, closed, closed_taken}
use Rattle.notation.specs.declared.token.Token.{Token}
use Rattle.notation.specs.declared.reading.Cursor.{Cursor}
use Rattle.notation.specs.declared.reading.Tally.{Tally}
use Rattle.notation.specs.declared.refusal.Refusal.{Refusal}
use Rattle.read_types.specs.Filling.{taken, reached, Further, Stepped}

-- every token has a byte
pub width_pos : (k : ℕ) → 1 ≤ width k
width_pos k = go (eqb k k_then || eqb k k_label)
  where
    go : (b : Bool) → 1 ≤ cond b 2 1
    go true = omega arith
    go false = omega arith

-- a refusal goes on nowhere
pub never : {P : Type 0} {y : Refusal} {i : ℕ} {d : Cursor} → ◌≡◌ {A = Taken} (Err y) (Ok (i, d)) → P
never e = absurd cc

-- what goes out by `?` is the refusal that came
pub left : {T : Type 0} {y : Refusal} (r : OrRefusal T) → IsErrAnd r (λ z. z ≡ y) → r ≡ Err y
left r h = let p = err_from_is_err_and r h in p.1 ∙ ap (λ z. Err z) p.2

-- a step's answer, with the cursor that it left; and a reading's
module _ (c : Cursor) {y : Refusal} where
  pub step_no : {r : OrRefusal ℕ} → r ≡ Err y → taken r c ≡ Err y
  step_no e = ap (λ x. taken x c) e

  pub step_left : (r : OrRefusal ℕ) → IsErrAnd r (λ z. z ≡ y) → taken r c ≡ Err y
  step_left r h = step_no (left r h)

  pub read_no : (k : Tally) {r : OrRefusal (Unit {0})} → r ≡ Err y → reached r c k ≡ Err y
  read_no k e = ap (λ x. reached x c k) e

  pub read_left : (k : Tally) (r : OrRefusal (Unit {0})) → IsErrAnd r (λ z. z ≡ y) → reached r c k ≡ Err y
  read_left k r h = read_no k (left r h)

pub step_at : (c : Cursor) {r : OrRefusal ℕ} {i : ℕ} → r ≡ Ok i → taken r c ≡ Ok (i, c)
step_at c e = ap (λ x. taken x c) e

pub read_at : (c : Cursor) (k : Tally) {r : OrRefusal (Unit {0})} {x : Unit {0}} → r ≡ Ok x → reached r c k ≡ Ok (c, k)
read_at c k e = ap (λ x. reached x c k) e

module _ {s : List ℕ} {c : Cursor} {n types terms : ℕ} {want : Taken} where
  pub stepped_no : (y : Refusal) → Err y ≡ want → Stepped s c n types terms want (Err y)
  stepped_no y e = record { is = e; on = λ i d q. never q }

  pub stepped_at : (i : ℕ) (d : Cursor) → ◌≡◌ {A = Taken} (Ok (i, d)) want → Further s c n types terms i d → Stepped s c n types terms want (Ok (i, d))
  stepped_at i d e f = record {
    is = e;
    on = λ j b q. let p : ◌≡◌ {A = ℕ × Cursor} (i, d) (j, b) = cc in subst (λ (x : ℕ × Cursor). Further s c n types terms x.0 x.1) p f;
  }

-- the next token is t
module _ (s : List ℕ) (k : ℕ) (c : Cursor) (t : Token) (e : t ≡ token_at s c.at) (o : Onward s c.at t) where
  pub expect_at : k ≤ 31 → t.kind ≡ k → Stepped s c (width k) 0 0 (expect s k c) (Ok (t.start, past c t))
  unfolding expect
  expect_at l q =
      let g = o.goes (omega arith) in
      stepped_at _ _ (rw (← e, eq-eqb _ _ q)) (subst (λ k. c.at + width k ≤ t.end) q g.0, o.ends, g.1, omega arith, omega arith, omega arith, omega arith)

  pub expect_no : ((t.kind ≡ k) → ⊥) → (y : Refusal) → y ≡ refusal (fault t) t.start → Stepped s c (width k) 0 0 (expect s k c) (Err y)
  unfolding expect
  expect_no d y q = stepped_no y (rw (← e, ne_eqb _ _ d) (ap (λ z. Err z) q))

-- a step with a limit, over the step that it is made of
module _ {s : List ℕ} {c : Cursor} {n : ℕ} {want r : Taken} (u : Stepped s c n 0 0 want r) (types terms : ℕ) (fits : Cursor → Bool) (more : Cursor → Cursor) where
  pub limit_no : {y : Refusal} → r ≡ Err y → Stepped s c n types terms (limited want fits more) r
  limit_no {y} e = rw e (stepped_no y (rw (← u.is, e)))

  pub limit_passed : {i : ℕ} {d : Cursor} → r ≡ Ok (i, d) → fits d ≡ false → Stepped s c n types terms (limited want fits more) (refuses 5 i)
  limit_passed e f = stepped_no _ (rw (← u.is, e, f))

  pub limit_kept : {i : ℕ} {d : Cursor} → r ≡ Ok (i, d) → fits d ≡ true → Further s c n types terms i (more d) → Stepped s c n types terms (limited want fits more) (Ok (i, more d))
  limit_kept e f o = stepped_at _ _ (rw (← u.is, e, f)) o

-- as many brackets are open afterwards as before
module _ {s : List ℕ} {c : Cursor} {n types terms : ℕ} {want r : Taken} (u : Stepped s c n types terms want r) where
  pub closing_no : {y : Refusal} → r ≡ Err y → Stepped s c n types terms (closed_taken c want) r
  closing_no {y} e = rw e (stepped_no y (rw (← u.is, e)))

  pub closing_at : {i : ℕ} {d : Cursor} → r ≡ Ok (i, d) → Stepped s c n types terms (closed_taken c want) (Ok (i, closed c d))
  closing_at {i} {d} e = stepped_at i (closed c d) (rw (← u.is, e)) (u.on i d e)

  -- a wider step is a narrower one
  pub narrower : (n' : ℕ) → n' ≤ n → Stepped s c n' types terms want r
  narrower n' l = record { is = u.is; on = λ i d e. let o = u.on i d e in (omega arith, o.1, o.2, o.3, o.4, o.5, o.6) }

-- a refusal of a step, whatever it would have been
pub refused_step : {s : List ℕ} {c : Cursor} {n types terms : ℕ} {y : Refusal} {r : Taken} → r ≡ Err y → Stepped s c n types terms (Err y) r
refused_step e = rw e (stepped_no _ refl)
