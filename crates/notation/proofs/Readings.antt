-- What a reading comes to: what was read has what it must and ends within the text, or it is refused within the text by a number from 3 to 5.
-- A law for each part that readings are made of.
use Prim.Native.Nat.{ℕ, ◌+◌, ◌≤◌, ◌<◌}
use native.Mathlib.Omega.{arith}
use mathlib.Core.Path.{◌≡◌, refl}
use mathlib.Core.List.{List}
use mathlib.Core.Bool.{Bool, true, false, ◌||◌}
use lib.ListN.{length}
use lib.Dec.{eqb}
use borrow.Author.Tests.{eqb-true}
use Rattle.std.specs.Prelude.{Ok, Err}
use Rattle.notation.specs.Token.{token_at, k_then, k_round_open, k_round_close, k_label, k_fault}
use Rattle.notation.specs.Onward.{width}
use Rattle.notation.specs.Reader.{Result, Taken, got, refused, on_token, part, lastly, choose, fault, expect, misfit, limited, opening, type_term, process_term, closed_taken, onward_from, then_token}
use Rattle.notation.specs.Types.{label_term}
use Rattle.notation.specs.Processes.{unit_taken}
use Rattle.notation.specs.declared.reading.Cursor.{Cursor}
use Rattle.notation.proofs.Tokens.{cond_both, token_onward}

-- the numbers by which a reading is refused, and where
abbrev pub ReadRefusal : List ℕ → ℕ → ℕ → Type 0
ReadRefusal s n i = (3 ≤ n) × (n ≤ 5) × (i ≤ length s)

-- a cursor from an offset on, within the text
abbrev pub Ahead : List ℕ → ℕ → Cursor → Type 0
Ahead s low d = (low ≤ d.at) × (d.at ≤ length s)

-- d is past the token at c, which begins at i
abbrev pub Past : List ℕ → Cursor → ℕ → Cursor → Type 0
Past s c i d = (c.at + 1 ≤ d.at) × (d.at ≤ length s) × (i < length s) × ((token_at s c.at).start ≡ i)

abbrev TakesOf : List ℕ → Cursor → Taken → Type 0
TakesOf s c (Ok (i, d)) = Past s c i d
TakesOf s c (Err e) = ReadRefusal s e.number e.at

pub record Takes (s : List ℕ) (c : Cursor) (t : Taken) : Type 0 where
  pub holds : TakesOf s c t

abbrev ReadsOf : {A : Type 0} → List ℕ → ℕ → (A → Type 0) → Result A → Type 0
ReadsOf s low P (got a d) = Ahead s low d × P a
ReadsOf s low P (refused n i) = ReadRefusal s n i

pub record Reads {A : Type 0} (s : List ℕ) (low : ℕ) (P : A → Type 0) (r : Result A) : Type 0 where
  pub holds : ReadsOf s low P r

-- a reading that may begin wherever a token more was read than at c
abbrev pub Beyond : {A : Type 0} → List ℕ → Cursor → (A → Type 0) → (Cursor → Result A) → Type 0
Beyond s c P f = (d : Cursor) → Ahead s (c.at + 1) d → Reads s d.at P (f d)

-- ── results
module _ {A : Type 0} {s : List ℕ} {low : ℕ} {P : A → Type 0} where
  pub reads_got : (a : A) (d : Cursor) → Ahead s low d → P a → Reads s low P (got a d)
  reads_got a d h p = record { holds = (h, p) }

  pub reads_no : (n i : ℕ) → ReadRefusal s n i → Reads {A = A} s low P (refused n i)
  reads_no n i h = record { holds = h }

  pub reads_take : {c : Cursor} {t : Taken} (f : ℕ → Cursor → Result A) → Takes s c t → ((i : ℕ) (d : Cursor) → Past s c i d → Reads s low P (f i d)) → Reads s low P (on_token t f)
  reads_take {t = Ok (i, d)} f h g = g i d h.holds
  reads_take {t = Err e} f h g = reads_no e.number e.at h.holds

  -- a part, with the equation that it is what was read
  pub reads_part_is : {B : Type 0} {from : ℕ} {Q : B → Type 0} (r : Result B) (f : B → Cursor → Result A) → Reads s from Q r → ((b : B) (d : Cursor) → r ≡ got b d → Ahead s from d → Q b → Reads s low P (f b d)) → Reads s low P (part r f)
  reads_part_is (got b d) f h g = g b d refl h.holds.0 h.holds.1
  reads_part_is (refused n i) f h g = reads_no n i h.holds

  pub reads_part : {B : Type 0} {from : ℕ} {Q : B → Type 0} {r : Result B} (f : B → Cursor → Result A) → Reads s from Q r → ((b : B) (d : Cursor) → Ahead s from d → Q b → Reads s low P (f b d)) → Reads s low P (part r f)
  reads_part {r = r} f h g = reads_part_is r f h (λ b d _. g b d)

  pub reads_lastly : {B : Type 0} {from : ℕ} {Q : B → Type 0} {r : Result B} (f : B → A) → Reads s from Q r → low ≤ from → ((b : B) → Q b → P (f b)) → Reads s low P (lastly f r)
  reads_lastly {r = got b d} f h l g = let (a, q) = h.holds in reads_got (f b) d (omega arith) (g b q)
  reads_lastly {r = refused n i} f h l g = reads_no n i h.holds

  pub reads_later : {from : ℕ} {Q : A → Type 0} {r : Result A} → Reads s from Q r → low ≤ from → ((a : A) → Q a → P a) → Reads s low P r
  reads_later {r = got a d} h l g = let (b, q) = h.holds in reads_got a d (omega arith) (g a q)
  reads_later {r = refused n i} h l g = reads_no n i h.holds

  pub reads_choose : (b : Bool) (f g : Cursor → Result A) (c : Cursor) → (b ≡ true → Reads s low P (f c)) → (b ≡ false → Reads s low P (g c)) → Reads s low P (choose b f g c)
  reads_choose true f g c x y = x refl
  reads_choose false f g c x y = y refl

refused_here : (s : List ℕ) (c : Cursor) → ReadRefusal s (fault (token_at s c.at)) (token_at s c.at).start
refused_here s c =
    let t = token_at s c.at in
    let o = token_onward s c.at in
    cond_both (λ n. ReadRefusal s n t.start) (eqb t.kind k_fault) 3 4 (λ _. omega (arith, o.starts)) (λ _. omega (arith, o.starts))

pub reads_misfit : {A : Type 0} {P : A → Type 0} (s : List ℕ) (low : ℕ) (c : Cursor) → Reads {A = A} s low P (misfit s c)
unfolding misfit
reads_misfit s low c = reads_no _ _ (refused_here s c)

-- ── tokens: each has a byte at least
width_some : (k : ℕ) → 1 ≤ width k
width_some k = cond_both (λ w. 1 ≤ w) (eqb k k_then || eqb k k_label) 2 1 (λ _. omega arith) (λ _. omega arith)

pub takes_limited : {s : List ℕ} {c : Cursor} (t : Taken) (fits : Cursor → Bool) (more : Cursor → Cursor) → ((d : Cursor) → (more d).at ≡ d.at) → Takes s c t → Takes s c (limited t fits more)
takes_limited {s = s} {c} (Ok (i, d)) fits more e h =
    cond_both (Takes s c) (fits d) _ _ (λ _. let g = h.holds in record { holds = omega (arith, e d) }) (λ _. let g = h.holds in record { holds = omega arith })
takes_limited (Err z) fits more e h = record { holds = h.holds }

module _ (s : List ℕ) (k : ℕ) (c : Cursor) (l : k < k_fault) where
  pub takes_expect : Takes s c (expect s k c)
  unfolding expect
  takes_expect =
      cond_both (Takes s c) (eqb (token_at s c.at).kind k) _ _
      (λ e.
      let z = eqb-true (token_at s c.at).kind k e in
      let o = token_onward s c.at in
      let g = o.goes (omega arith) in
      record { holds = omega (arith, o.ends, width_some (token_at s c.at).kind) })
      (λ _. record { holds = refused_here s c })

  pub takes_opening : Takes s c (opening s k c)
  unfolding opening
  takes_opening = takes_limited (expect s k c) _ _ (λ _. refl) takes_expect

  pub takes_type : Takes s c (type_term s k c)
  unfolding type_term
  takes_type = takes_limited (expect s k c) _ _ (λ _. refl) takes_expect

  pub takes_process : Takes s c (process_term s k c)
  unfolding process_term
  takes_process = takes_limited (expect s k c) _ _ (λ _. refl) takes_expect

pub takes_label_lem : (s : List ℕ) (n : ℕ) (c : Cursor) → Takes s c (label_term s n c)
unfolding label_term
takes_label_lem s n c = takes_limited (expect s k_label c) _ _ (λ _. refl) (takes_expect s k_label c (omega arith))

-- two tokens in a row
takes_onward : {s : List ℕ} {c d : Cursor} (i : ℕ) (t : Taken) → Past s c i d → Takes s d t → Takes s c (onward_from i t)
takes_onward i (Ok (j, e)) l h = let g = h.holds in record { holds = omega arith }
takes_onward i (Err e) l h = record { holds = h.holds }

takes_then : {s : List ℕ} {c : Cursor} (t : Taken) (f : Cursor → Taken) → Takes s c t → ((d : Cursor) → Takes s d (f d)) → Takes s c (then_token t f)
takes_then {s = s} {c} (Ok (i, d)) f h g = takes_onward {c = c} {d = d} i (f d) h.holds (g d)
takes_then (Err e) f h g = record { holds = h.holds }

takes_closed : {s : List ℕ} {c : Cursor} (b : Cursor) (t : Taken) → Takes s c t → Takes s c (closed_taken b t)
takes_closed b (Ok (i, d)) h = record { holds = h.holds }
takes_closed b (Err e) h = record { holds = h.holds }

pub takes_unit : (s : List ℕ) (c : Cursor) → Takes s c (unit_taken s c)
unfolding unit_taken
takes_unit s c =
    takes_closed c _
    (takes_then (opening s k_round_open c) (expect s k_round_close) (takes_opening s k_round_open c (omega arith)) λ d. takes_expect s k_round_close d (omega arith))
