-- A filter of names by their first bytes: of what begins with a byte that it excludes, nothing is held.
use Rattle.std.specs.Prelude.{ℕ, ◌+◌, ◌*◌, ◌/◌, ◌%◌, ◌<◌, ◌≤◌, ◌≡◌, refl, ◌⊎◌, List, Bool, true, false, ◌&&◌, cond, length, get_or, set, replicate}
use Rattle.std.proofs.Common.{sym, ◌∙◌, ap, inl, inr, true≢false, arith, eq-or-lt_of_le, get_or-set_same, get_or-set_other}
use Rattle.std.proofs.lemmas.List.{get_or-replicate}
use Rattle.notation.specs.Bytes.{name_byte}
use Rattle.notation.specs.Limits.{held_limit}
use Rattle.notation.proofs.Names.{Matched, matched_differ}
use Rattle.run_words.specs.Raw.{end_words, side_radix}
use Rattle.check_contexts.specs.declared.marks.Marks.{Marks}
use Rattle.check_contexts.specs.Marks.{mark_of, held_name, is_name, MarkPut, and_none}

-- first bytes are told apart by this remainder
abbrev pub initial_radix : ℕ
initial_radix = 64

-- a name that begins with the byte b may be held
abbrev pub may_begin : List Bool → ℕ → Bool
may_begin f b = get_or f (b % initial_radix) false

-- the byte at the offset of the name of the end k
abbrev pub held_byte : List ℕ → List ℕ → ℕ → ℕ
held_byte s ends k = get_or s (get_or ends (end_words * k) 0 / side_radix) 0

-- f excludes a byte where each of the first n names begins with another one, and is not empty
pub record Initials (s ends : List ℕ) (n : ℕ) (f : List Bool) : Type 0 where
  pub few : n ≤ held_limit
  pub apart : (k : ℕ) → k < n → (b : ℕ) → may_begin f b ≡ false → (name_byte (held_byte s ends k) ≡ true) × (held_byte s ends k ≡ b → ⊥)

module _ {s ends : List ℕ} {n : ℕ} {f : List Bool} (t : Initials s ends n f) (at : ℕ) (e : may_begin f (get_or s at 0) ≡ false) where
  not_held : (k : ℕ) → k < n → is_name s at (held_name s ends k) ≡ false
  not_held k l =
      let there = get_or ends (end_words * k) 0 / side_radix in
      let (p, d) = t.apart k l (get_or s at 0) e in
      let m : Matched s there at there at = record { left = refl } in
      sym (matched_differ m p d)

  pub put_excluded : {sought m : Marks} {mark : Bool} → MarkPut s ends n sought at mark m m
  put_excluded {sought} {m} {mark} = record { each = λ k l. sym (ap (λ b. cond (mark_of sought k && b) mark (mark_of m k)) (not_held k l) ∙ ap (λ b. cond b mark (mark_of m k)) (and_none (mark_of sought k))) }

-- ── as far as the loop that gathers them has come
pub initials_none : (s ends : List ℕ) (f : List Bool) → Initials s ends 0 f
initials_none s ends f = record { few = omega arith; apart = λ k l b e. absurd (omega arith) }

-- where every initial is there, no byte is excluded
pub initials_all : (s ends : List ℕ) (n : ℕ) → n ≤ held_limit → Initials s ends n (replicate initial_radix true)
initials_all s ends n h = record {
  few = h;
  apart = λ k l b e. absurd (true≢false (sym (get_or-replicate initial_radix (b % initial_radix) true false (omega arith)) ∙ e));
}

module _ {s ends : List ℕ} {k : ℕ} {f : List Bool} (t : Initials s ends k f) where
  pub initials_next : {c : ℕ} → c ≡ held_byte s ends k → name_byte c ≡ true → length f ≡ initial_radix → k < held_limit → (i j : ℕ) → i ≡ c % initial_radix → j ≡ k + 1 → Initials s ends j (set f i true)
  initials_next {c} e n o h i j y z = record { few = omega arith; apart = λ l m b g. go l b g (other b g) (eq-or-lt_of_le (omega arith)) }
    where
      other : (b : ℕ) → may_begin (set f i true) b ≡ false → b % initial_radix ≡ i → ⊥
      other b g q = true≢false (sym (get_or-set_same f i true false (omega arith)) ∙ ap (λ x. get_or (set f i true) x false) (sym q) ∙ g)

      go : (l b : ℕ) → may_begin (set f i true) b ≡ false → (b % initial_radix ≡ i → ⊥) → (l ≡ k) ⊎ (l < k) → (name_byte (held_byte s ends l) ≡ true) × (held_byte s ends l ≡ b → ⊥)
      go l b g d (inl q) =
          let w : c ≡ held_byte s ends l = e ∙ ap (held_byte s ends) (sym q) in
          (ap name_byte (sym w) ∙ n, λ x. d (sym (ap (λ a. a % initial_radix) (w ∙ x)) ∙ sym y))
      go l b g d (inr q) = t.apart l q b (sym (get_or-set_other f i (b % initial_radix) true false d) ∙ g)

  pub initials_done : (n : ℕ) → n ≤ k → Initials s ends n f
  initials_done n h = let few = t.few in record { few = omega arith; apart = λ l m. t.apart l (omega arith) }
