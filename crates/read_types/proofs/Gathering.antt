-- The alternatives of a choice are a loop: what was read of them is kept, and put at the list's end.
use mathlib.Core.Path.{◌≡◌, refl, ap, sym, ◌∙◌}
use mathlib.Core.List.{List}
use mathlib.Core.Bool.{Bool, true, false}
use Prim.Native.Nat.{ℕ, suc, ◌+◌, ◌*◌, ◌<◌, ◌≤◌}
use native.Mathlib.Omega.{arith}
use lib.Dec.{eqb, ltb}
use lib.ListN.{length, set, length-set}
use borrow.Author.Tests.{ltb-true}
use Rattle.std.specs.Prelude.{Ok, Err}
use Rattle.notation.specs.Fine.{FineType, FineAlternatives, SomeAlternative}
use Rattle.notation.specs.Limits.{label_limit, text_limit}
use Rattle.notation.specs.Token.{kind_at, k_colon, k_comma, k_label}
use Rattle.notation.specs.Tree.{Located, Ty, Alternatives, alternative}
use Rattle.notation.specs.Reader.{Result, Taken, got, on_token, part, lastly, expect, limited, then_token, label_in}
use Rattle.notation.specs.Types.{more_by, alternatives_by, label_term, read_type, read_alternatives}
use Rattle.notation.specs.Tables.{alternatives_at, pair_word, put_alternative, after_type, after_alternatives, write_type, write_alternatives}
use Rattle.notation.specs.declared.refusal.Refusal.{Refusal}
use Rattle.notation.specs.declared.reading.Cursor.{Cursor}
use Rattle.notation.specs.declared.reading.Tally.{Tally}
use Rattle.read_types.specs.Filling.{Out, Kept, Stepped, label_colon, listing, listed, list_put, put_listed, Put, Room, Form, Made, Meets, AheadType, alternatives_form, unread, TypeRead, AlternativesRead}
use Rattle.read_types.proofs.Taking.{never}
use Rattle.read_types.proofs.Filled.{same, ◌upon◌, took, made_got, made_same, made_lastly, gone_on, stopped, at_more, more_no, more_got}
use Rattle.read_types.proofs.Listing.{list_none, list_more}
use Rattle.read_types.proofs.TypePaths.{then_take}

-- a label that was taken is within its list's limit
within_limit : (b : Bool) (x : Taken) (g : Cursor → Taken) (i : ℕ) (d : Cursor) → then_token (limited x (λ _. b) (λ e. e)) g ≡ Ok (i, d) → b ≡ true
within_limit true x g i d z = refl
within_limit false (Ok (j, c)) g i d z = never z
within_limit false (Err y) g i d z = never z

label_few : (s : List ℕ) (n : ℕ) (c : Cursor) {q : Taken} {i : ℕ} {d : Cursor} → Stepped s c 3 0 0 (label_colon s n c) q → q ≡ Ok (i, d) → n < label_limit
unfolding label_colon label_term
label_few s n c {i = i} {d} u e = ltb-true n label_limit (within_limit (ltb n label_limit) (expect s k_label c) (expect s k_colon) i d (took u e))

-- the definition at one more fuel, with its two first tokens as one
alternatives_is : (m : ℕ) (s : List ℕ) (n : ℕ) (c : Cursor) → read_alternatives (suc m) s n c
    ≡ on_token (label_colon s n c) (λ i e. part (read_type m s e) λ A f. lastly (alternative (label_in s i) A) (more_by (λ d. read_alternatives m s (n + 1) d) s f))
unfolding read_type label_colon alternatives_by
alternatives_is m s n c = sym (then_take (label_term s n c) (expect s k_colon) _)

-- ── the rest of a list, after n that were kept
-- the list that was read last has n alternatives more
abbrev longer : ℕ → Tally → Tally
longer n k = listing (k.alternatives + n) (k.last + n) k

-- alternatives, and then the n that were kept before them
abbrev kept_form : List ℕ → ℕ → Form (Alternatives Located)
kept_form entries n = record {
  after = λ r k. longer n (after_alternatives r k);
  write = λ r k w. put_listed entries n (after_alternatives r k) (write_alternatives r k w);
  Fine = λ r. FineAlternatives r × SomeAlternative r;
  Ahead = λ s c k d l. AheadType (n + 1) s c k d l × (l.last ≤ label_limit);
}

abbrev RestListed : List ℕ → ℕ → List ℕ → List ℕ → Cursor → Tally → Out → List ℕ → Type 0
RestListed entries n s w c k = Meets (kept_form entries n) s w c k (3 * unread s c + 1) (λ m. read_alternatives m s n c)

listing_path : (k : Tally) {a b x y : ℕ} → a ≡ b → x ≡ y → listing a x k ≡ listing b y k
listing_path k p q i = listing (p i) (q i) k

-- one more that is kept is one more that is written: the tables, and the words
after_more : (n : ℕ) (x : Located) (A : Ty Located) (r : Alternatives Located) (k : Tally)
    → longer (n + 1) (after_alternatives r (after_type A k)) ≡ longer n (after_alternatives (alternative x A r) k)
unfolding after_type
after_more n x A r k = listing_path (after_alternatives r (after_type A k)) (omega arith) (omega arith)

write_more : (entries : List ℕ) (n : ℕ) (x : Located) (A : Ty Located) (r : Alternatives Located) (k : Tally) (w : List ℕ) → n < length entries
    → (kept_form (set entries n (pair_word x.at (after_type A k).last)) (n + 1)).write r (after_type A k) (write_type A k w)
    ≡ (kept_form entries n).write (alternative x A r) k w
unfolding after_type write_type put_alternative
write_more entries n x A r k w l =
    let d = after_alternatives r (after_type A k) in
    let v = write_alternatives r (after_type A k) (write_type A k w) in
    let at = alternatives_at + d.alternatives in
    let word = pair_word x.at (after_type A k).last in
    let next : at + 1 ≡ alternatives_at + (d.alternatives + 1) = omega arith in
    list_more entries n word at v l ∙ ap (λ y. list_put entries n y (set v at word)) next

-- ── the loop: the answer from here, with those that were kept, is the answer of the whole
pub record Gathered (s w₀ : List ℕ) (c₀ : Cursor) (k₀ : Tally) (entries w : List ℕ) (c : Cursor) (k : Tally) (n : ℕ) : Type 0 where
  pub room : Room s w c k
  pub full : k.alternatives + n ≤ c.types
  pub few : n ≤ label_limit
  pub places : length entries ≡ label_limit
  pub later : c₀.at ≤ c.at
  pub kept : Kept w₀ w
  pub whole : (r : Out) (u : List ℕ) → RestListed entries n s w c k r u → AlternativesRead s w₀ c₀ k₀ r u

pub gathered_start : {s w : List ℕ} {c : Cursor} {k : Tally} (entries : List ℕ) → length entries ≡ label_limit → Room s w c k → Gathered s w c k entries w c k 0
gathered_start {s} {w} {c} {k} entries e room = record {
  room = room;
  full = omega arith;
  few = omega arith;
  places = e;
  later = omega arith;
  kept = same;
  whole = λ r u a. record {
    is = λ m lo. made_same (kept_form entries 0) alternatives_form (read_alternatives m s 0 c)
        (λ B fi. (listing_path (after_alternatives B k) (omega arith) (omega arith), list_none entries 0 _ _ refl, fi)) (a.is m lo);
    kept = a.kept;
    on = λ d l q. let o = a.on d l q in omega arith;
  };
}

module _ {s w₀ entries w : List ℕ} {c₀ c : Cursor} {k₀ k : Tally} {n : ℕ} (h : Gathered s w₀ c₀ k₀ entries w c k n)
    {q : Taken} (u : Stepped s c 3 0 0 (label_colon s n c) q) where
  abbrev read : ℕ → Result (Alternatives Located)
  read m = read_alternatives m s n c

  pub label_no : {r : Out} {y : Refusal} → q ≡ Err y → r ≡ Err y → AlternativesRead s w₀ c₀ k₀ r w
  label_no {r} g e = h.whole r w (more_no (kept_form entries n) s w c k read e same (λ m _. alternatives_is m s n c ∙ rw (took u g)))

  module _ {i : ℕ} {d : Cursor} (e : q ≡ Ok (i, d)) {p : Out} {v : List ℕ} (t : TypeRead s w d k p v) where
    pub typed_no : {r : Out} {y : Refusal} → p ≡ Err y → r ≡ Err y → AlternativesRead s w₀ c₀ k₀ r v
    typed_no {r} g r-is =
        let o = u.on i d e in
        h.whole r v
        (more_no (kept_form entries n) s w c k read r-is t.kept
        (λ m lo. alternatives_is m s n c ∙ rw (took u e, stopped (read_type m s d) (t.is m (omega arith)) g)))

    module _ {f : Cursor} {l : Tally} (g : p ≡ Ok (f, l)) where
      -- the label and the type are within their limits, and leave room
      pub read_one : Room s v f l × (n < label_limit) × (n < length entries) × (l.alternatives + n < f.types) × (i < text_limit) × (l.last < l.nodes)
          × (c.at < f.at)
      read_one =
          let o = u.on i d e in
          let o₂ = t.on f l g in
          let room = h.room in
          let full = h.full in
          omega (arith, h.places, label_few s n c u e, t.kept.long)

      module _ {x : ℕ} (word : x ≡ pair_word i l.last) where
        -- the definition from the list's next token on
        next_is : (m : ℕ) (A : Ty Located) → read_type m s d ≡ got A f
            → read (suc m) ≡ lastly (alternative (label_in s i) A) (more_by (λ d. read_alternatives m s (n + 1) d) s f)
        next_is m A y = alternatives_is m s n c ∙ rw (took u e, y)

        -- this alternative and those after it, as n are kept and as one more is
        more_listed : (A : Ty Located) → l ≡ after_type A k → v ≡ write_type A k w → FineType A → (r : Alternatives Located) → FineAlternatives r
            → ((kept_form (set entries n x) (n + 1)).after r l ≡ (kept_form entries n).after (alternative (label_in s i) A r) k)
            × ((kept_form (set entries n x) (n + 1)).write r l v ≡ (kept_form entries n).write (alternative (label_in s i) A r) k w)
            × (kept_form entries n).Fine (alternative (label_in s i) A r)
        unfolding FineAlternatives
        more_listed A al av fi r fi₂ =
            let one = read_one in (
              ap (λ y. longer (n + 1) (after_alternatives r y)) al ∙ after_more n (label_in s i) A r k,
              ap (λ y. (kept_form (set entries n y) (n + 1)).write r l v) word
                  ∙ (λ j. (kept_form (set entries n (pair_word i (al j).last)) (n + 1)).write r (al j) (av j))
                  ∙ write_more entries n (label_in s i) A r k w read_one.2,
              ((omega arith, fi, fi₂), omega arith),
            )

        module _ (comma : eqb (kind_at s f.at) k_comma ≡ true) {y : Taken} (z : Stepped s f 1 0 0 (expect s k_comma f) y) where
          pub comma_no : {r : Out} {z : Refusal} → y ≡ Err z → r ≡ Err z → AlternativesRead s w₀ c₀ k₀ r v
          comma_no {r} g₂ r-is =
              let o = u.on i d e in
              h.whole r v
              (more_no (kept_form entries n) s w c k read r-is t.kept
              (λ m lo. gone_on (read_type m s d) (t.is m (omega arith)) g λ A a _ _ _. next_is m A a ∙ rw (comma, took z g₂)))

          module _ {j : ℕ} {b : Cursor} (g₂ : y ≡ Ok (j, b)) where
            comma_whole : (r : Out) (v₂ : List ℕ) → RestListed (set entries n x) (n + 1) s v b l r v₂ → RestListed entries n s w c k r v₂
            comma_whole r v₂ a =
                let o = u.on i d e in
                let o₂ = t.on f l g in
                let o₃ = z.on j b g₂ in
                record {
                  is = at_more (λ m. Made (kept_form entries n) w k (read m) r v₂)
                      (λ m lo. gone_on (read_type m s d) (t.is m (omega arith)) g λ A y₂ al av fi.
                      rw (next_is m A y₂, comma, took z g₂)
                      (made_lastly (kept_form (set entries n x) (n + 1)) (kept_form entries n) (alternative (label_in s i) A) (read_alternatives m s (n + 1) b)
                      (λ r₂ fi₂. more_listed A al av fi r₂ fi₂.0) (a.is m (omega arith))));
                  kept = a.kept upon t.kept;
                  on = λ d₂ l₂ q₂. let o₄ = a.on d₂ l₂ q₂ in omega arith;
                }

            pub gathered_on : Gathered s w₀ c₀ k₀ (set entries n x) v b l (n + 1)
            gathered_on =
                let one = read_one in
                let o = z.on j b g₂ in
                let later = h.later in
                record {
                  room = omega arith;
                  full = omega arith;
                  few = omega arith;
                  places = length-set entries n x ∙ h.places;
                  later = omega arith;
                  kept = t.kept upon h.kept;
                  whole = λ r v₂ a. h.whole r v₂ (comma_whole r v₂ a);
                }

        pub gathered_end : eqb (kind_at s f.at) k_comma ≡ false → {l₂ : Tally} {v₂ : List ℕ}
            → Put v (put_listed (set entries n x) (n + 1) l v) (listed (n + 1) l) l₂ v₂ → AlternativesRead s w₀ c₀ k₀ (Ok (f, l₂)) v₂
        unfolding after_alternatives write_alternatives FineAlternatives
        gathered_end other {v₂ = v₂} p =
            let o = u.on i d e in
            let o₂ = t.on f l g in
            let one = read_one in
            rw p.is
            (h.whole (Ok (f, listed (n + 1) l)) v₂
            (more_got (kept_form entries n) s w c k read (omega arith) (p.kept upon t.kept)
            (λ m lo. gone_on (read_type m s d) (t.is m (omega arith)) g λ A a al av fi.
            let whole = more_listed A al av fi Alternatives.none (omega arith) in
            made_got (alternative (label_in s i) A Alternatives.none) (next_is m A a ∙ rw other)
            (ap (λ x. Ok (f, x)) (listing_path l refl (omega arith) ∙ whole.0)) (p.words ∙ whole.1) whole.2)))
