-- Laws of the outside's channels.
use Prim.Native.Nat.{ℕ, zero, suc, ◌+◌, ◌*◌, ◌≤◌, ◌<◌}
use Rattle.std.specs.Prelude.{Some, None}
use mathlib.Core.List.{List, [], ◌∷◌, ◌++◌}
use mathlib.Core.Path.{◌≡◌, refl, sym, ap, subst, ◌∙◌}
use mathlib.Core.Bool.{Bool, true, false, cond}
use mathlib.Core.Option.{some}
use native.Mathlib.Omega.{arith}
use native.Mathlib.Numerals.{add-one}
use lib.Dec.{eqb}
use lib.ListN.{length, get_or, get_elem?, set, take, length-set}
use lib.Seq.{get_or-set_same, get_or-set_other, take_all}
use Rattle.notation.specs.Limits.{outside_numbers, run_words}
use Rattle.run_words.specs.ListLaws.{at_tab, all_at}
use Rattle.run_words.specs.SearchLaws.{First, here, later, first_here, none_from}
use Rattle.run_words.specs.Raw.{RawOutside, RawConfig, rows, outside_of, raw_in, BoundedOutside, Bounded, outsides_at, outside_words, outside_row}
use Rattle.run_words.specs.Values.{Changed, Written}
use Rattle.run_words.specs.Operations.{with_outside, with_given, on_channel, outside_at, let_go, changed_outside}
use Rattle.run_words.specs.Bounds.{changed_as}
use Rattle.run_words.specs.RowLaws.{outside_local, rows_same, rows_set, rows_append}
use Rattle.run_words.specs.SliceLaws.{word, counted_outside, numbered, outsides_same}
use Rattle.run_words.proofs.Slices.{outside_changed}
use Rattle.run_words.specs.Lists.{All}

pub outside_is : (ws : List ℕ) (k : ℕ) (o : RawOutside) → k < length (raw_in ws).outside → o ≡ outside_of (outside_row ws k) → get_elem? (raw_in ws).outside k ≡ some o
unfolding raw_in
outside_is ws k o h e = at_tab _ (get_or ws 2 0) k (omega (arith, counted_outside ws)) ∙ ap some (sym e)

pub outside_here : (ws : List ℕ) (k : ℕ) (o : RawOutside) → Bounded (raw_in ws) → k < length (raw_in ws).outside → o ≡ outside_of (outside_row ws k)
    → (get_elem? (raw_in ws).outside k ≡ some o) × BoundedOutside o
outside_here ws k o b h e = let at = outside_is ws k o h e in (at, all_at BoundedOutside (raw_in ws).outside k b.outside at)

pub given_set : (ws : List ℕ) (n : ℕ) → run_words ≤ length ws → Bounded (raw_in ws) → Changed ws (set ws 1 n) (with_given (raw_in ws) n)
unfolding raw_in
given_set ws n l b =
    let new = set ws 1 n in
    let other : (k : ℕ) → (k ≡ 1 → ⊥) → get_or new k 0 ≡ get_or ws k 0 = λ k p. get_or-set_other ws 1 k n 0 p in
    outside_changed ws new (length-set ws 1 n) _ n b (λ k _ p _. other k p) (get_or-set_same ws 1 n 0 (omega arith)) (λ k p. other k (omega arith))
    (outsides_same ws new b.channels (other 2 (λ z. omega arith)) (λ k p q. other k (omega arith)))

module _ (old new : List ℕ) (k : ℕ) (o : RawOutside) (b : Bounded (raw_in old)) (w : Written outside_of outside_words old new (outsides_at + outside_words * k) o) where
  pub outside_set : k < length (raw_in old).outside → Changed old new (with_outside (raw_in old) (set (raw_in old).outside k o))
  unfolding raw_in
  outside_set h =
      let n = counted_outside old in
      outside_changed old new w.long _ _ b (λ k l _ _. w.below k (omega arith)) (w.below 1 (omega arith)) (λ j p. w.above j (omega (arith, b.channels)))
      (ap (λ m. rows outside_of outside_words outsides_at m (word new)) (w.below 2 (omega arith))
      ∙ rows_set outside_of outside_words outsides_at (word old) (word new) (get_or old 2 0) (λ j h. outside_local _) k (λ j p q. w.below j q) o (omega arith) w.row (λ j p q. w.above j p))

  pub outside_append : run_words ≤ length old → k ≡ length (raw_in old).outside → k < outside_numbers → Changed old (set new 2 (k + 1)) (with_outside (raw_in old) ((raw_in old).outside ++ (o ∷ [])))
  unfolding raw_in
  outside_append l e f =
      let n = counted_outside old in
      let last = set new 2 (k + 1) in
      let other : (j : ℕ) → (j ≡ 2 → ⊥) → get_or last j 0 ≡ get_or new j 0 = λ j p. get_or-set_other new 2 j (k + 1) 0 p in
      let z : k ≡ get_or old 2 0 = omega arith in
      let row : (t : ℕ) → get_or last (outsides_at + outside_words * get_or old 2 0 + t) 0 ≡ get_or new (outsides_at + outside_words * k + t) 0 =
      λ t. let q : outsides_at + outside_words * get_or old 2 0 + t ≡ outsides_at + outside_words * k + t = omega arith in other _ (omega arith) ∙ ap (word new) q in
      outside_changed old last (length-set new 2 (k + 1) ∙ w.long) _ _ b (λ k l _ q. other k q ∙ w.below k (omega arith)) (other 1 (λ z. omega arith) ∙ w.below 1 (omega arith))
      (λ j p. other j (omega arith) ∙ w.above j (omega arith))
      (ap (λ m. rows outside_of outside_words outsides_at m (word last)) (get_or-set_same new 2 (k + 1) 0 (omega (arith, w.long)))
      ∙ rows_append outside_of outside_words outsides_at (word old) (word last) (get_or old 2 0) (λ j h. outside_local _) k (λ j p q. other j (omega arith) ∙ w.below j q) (k + 1) o z (omega arith)
      (ap outside_of (λ i t. row t i) ∙ w.row))

-- ── the channel that is changed, by its position
module _ (c : ℕ) (f : RawOutside → RawOutside) where
  changed_first : {l : List RawOutside} {k : ℕ} {o : RawOutside} → First (on_channel c) l k o → changed_outside c f l ≡ set l k (f o)
  unfolding changed_outside
  changed_first (here {x} {l} r) = ap (λ t. cond t (f x ∷ l) (x ∷ changed_outside c f l)) r
  changed_first (later {x} {y} {l} r h) = ap (λ t. cond t (f y ∷ l) (y ∷ changed_outside c f l)) r ∙ ap (λ (m : List RawOutside). y ∷ m) (changed_first h)

  pub changed_found : (l : List RawOutside) (k : ℕ) {o : RawOutside} → outside_at c l ≡ Some k → get_elem? l k ≡ some o → changed_outside c f l ≡ set l k (f o)
  unfolding outside_at
  changed_found l k e g = changed_first (first_here (on_channel c) l k e g)

  changed_none : (l : List RawOutside) → All (λ o. on_channel c o ≡ false) l → changed_outside c f l ≡ l
  unfolding changed_outside
  changed_none [] a = refl
  changed_none (x ∷ l) a = ap (λ t. cond t (f x ∷ l) (x ∷ changed_outside c f l)) a.0 ∙ ap (λ (m : List RawOutside). x ∷ m) (changed_none l a.1)

  pub changed_nothing : (l : List RawOutside) → outside_at c l ≡ None → changed_outside c f l ≡ l
  unfolding outside_at
  changed_nothing l e = changed_none l (none_from (on_channel c) l 0 e)

-- ── the channels that are kept
let_go_step : (c : ℕ) (l : List RawOutside) (k : ℕ) {o : RawOutside} → get_elem? l k ≡ some o → let_go c (take (suc k) l) ≡ cond (eqb c o.channel) (let_go c (take k l)) (let_go c (take k l) ++ (o ∷ []))
unfolding let_go
let_go_step c [] k e = let z : ◌≡◌ {A = ℕ} 0 1 = cc in absurd (omega arith)
let_go_step c (x ∷ l) zero {o} e = let p : x ≡ o = cc in ap (λ (v : RawOutside). cond (eqb c v.channel) [] (v ∷ [])) p
let_go_step c (x ∷ l) (suc k) {o} e = go (eqb c x.channel) (eqb c o.channel) (let_go_step c l k e)
  where
    go : (t u : Bool) → let_go c (take (suc k) l) ≡ cond u (let_go c (take k l)) (let_go c (take k l) ++ (o ∷ []))
        → cond t (let_go c (take (suc k) l)) (x ∷ let_go c (take (suc k) l))
        ≡ cond u (cond t (let_go c (take k l)) (x ∷ let_go c (take k l))) (cond t (let_go c (take k l)) (x ∷ let_go c (take k l)) ++ (o ∷ []))
    go true true h = h
    go true false h = h
    go false true h = ap (λ (m : List RawOutside). x ∷ m) h
    go false false h = ap (λ (m : List RawOutside). x ∷ m) h

-- the first k channels were looked at, and the j of them that stay moved down
pub record Letting (old new : List ℕ) (c j k : ℕ) : Type 0 where
  pub order : j ≤ k
  pub long : length new ≡ length old
  pub low : (x : ℕ) → x < outsides_at → get_or new x 0 ≡ get_or old x 0
  pub high : (x : ℕ) → outsides_at + outside_words * k ≤ x → get_or new x 0 ≡ get_or old x 0
  pub kept : rows outside_of outside_words outsides_at j (word new) ≡ let_go c (take k (raw_in old).outside)

pub letting_none : (old : List ℕ) (c : ℕ) → Letting old old c 0 0
unfolding let_go
letting_none old c = record { order = omega arith; long = refl; low = λ x _. refl; high = λ x _. refl; kept = refl }

module _ (old new : List ℕ) (c j k : ℕ) (h : Letting old new c j k) (b : Bounded (raw_in old)) (l : k < length (raw_in old).outside) where
  pub letting_row : (o : RawOutside) → o ≡ outside_of (outside_row new k) → (get_elem? (raw_in old).outside k ≡ some o) × BoundedOutside o
  letting_row o e = outside_here old k o b l (e ∙ (outside_local (outside_row old k)).same (outside_row new k) (λ t p. h.high (outsides_at + outside_words * k + t) (omega arith)))

  pub letting_gone : (o : RawOutside) → get_elem? (raw_in old).outside k ≡ some o → eqb c o.channel ≡ true → Letting old new c j (k + 1)
  letting_gone o g t = record {
    order = omega (arith, h.order);
    long = h.long;
    low = h.low;
    high = λ x p. h.high x (omega arith);
    kept = h.kept ∙ sym (ap (λ m. let_go c (take m (raw_in old).outside)) (add-one k) ∙ let_go_step c (raw_in old).outside k g ∙
        ap (λ v. cond v (let_go c (take k (raw_in old).outside)) (let_go c (take k (raw_in old).outside) ++ (o ∷ []))) t);
  }

  pub letting_kept : (next : List ℕ) (o : RawOutside) → get_elem? (raw_in old).outside k ≡ some o → eqb c o.channel ≡ false → Written outside_of outside_words new next (outsides_at + outside_words * j) o → Letting old next c
      (j + 1) (k + 1)
  letting_kept next o g t w = record {
    order = omega (arith, h.order);
    long = w.long ∙ h.long;
    low = λ x p. w.below x (omega arith) ∙ h.low x p;
    high = λ x p. w.above x (omega (arith, h.order)) ∙ h.high x (omega arith);
    kept =
        rows_append outside_of outside_words outsides_at (word new) (word next) j (λ i q. outside_local _) j (λ i p q. w.below i q) (j + 1) o refl (omega arith) w.row
        ∙ ap (λ (m : List RawOutside). m ++ (o ∷ [])) h.kept
        ∙ sym (ap (λ m. let_go c (take m (raw_in old).outside)) (add-one k) ∙ let_go_step c (raw_in old).outside k g ∙
        ap (λ v. cond v (let_go c (take k (raw_in old).outside)) (let_go c (take k (raw_in old).outside) ++ (o ∷ []))) t);
  }

pub letting_done : (old new : List ℕ) (c j k : ℕ) → Letting old new c j k → run_words ≤ length old → Bounded (raw_in old) → k ≡ length (raw_in old).outside → Changed old (set new 2 j)
    (with_outside (raw_in old) (let_go c (raw_in old).outside))
letting_done old new c j k h l b e =
    let last = set new 2 j in
    let other : (x : ℕ) → (x ≡ 2 → ⊥) → get_or last x 0 ≡ get_or new x 0 = λ x p. get_or-set_other new 2 x j 0 p in
    let g : get_or last 1 0 ≡ (raw_in old).given = other 1 (λ z. omega arith) ∙ h.low 1 (omega arith) ∙ sym (numbered old) in
    outside_changed old last (length-set new 2 j ∙ h.long) _ _ b (λ k l _ q. other k q ∙ h.low k l) g
    (λ x p. other x (omega arith) ∙ h.high x (omega (arith, b.channels)))
    (ap (λ m. rows outside_of outside_words outsides_at m (word last)) (get_or-set_same new 2 j 0 (omega (arith, h.long)))
    ∙ rows_same outside_of outside_words outsides_at (word new) (word last) j (λ i q. outside_local _) (λ x p q. other x (omega arith))
    ∙ h.kept ∙ ap (let_go c) (take_all k (raw_in old).outside (omega arith)))

pub letting_at : (old new run : List ℕ) (c j i k : ℕ) → run ≡ new → i ≡ j → Letting old new c j k → Letting old run c i k
letting_at old new run c j i k p q h = subst (λ (r : List ℕ). Letting old r c i k) (sym p) (subst (λ (m : ℕ). Letting old new c m k) (sym q) h)

-- ── nothing changes
pub unchanged : (ws : List ℕ) (C : RawConfig) → raw_in ws ≡ C → Bounded (raw_in ws) → Changed ws ws C × Bounded (raw_in ws)
unchanged ws C e b = (record { is = e; past = refl; long = refl }, b)

pub changed_changes : (ws new : List ℕ) (c k : ℕ) (f : RawOutside → RawOutside) {o p : RawOutside} → outside_at c (raw_in ws).outside ≡ Some k → get_elem? (raw_in ws).outside k ≡ some o → p ≡ f o
    → Changed ws new (with_outside (raw_in ws) (set (raw_in ws).outside k p)) → Changed ws new (with_outside (raw_in ws) (changed_outside c f (raw_in ws).outside))
changed_changes ws new c k f e g q h = changed_as (ap (with_outside (raw_in ws)) (ap (set (raw_in ws).outside k) q ∙ sym (changed_found c f (raw_in ws).outside k e g))) h

pub changed_same : (ws : List ℕ) (c : ℕ) (f : RawOutside → RawOutside) → outside_at c (raw_in ws).outside ≡ None → raw_in ws ≡ with_outside (raw_in ws) (changed_outside c f (raw_in ws).outside)
changed_same ws c f e = ap (with_outside (raw_in ws)) (sym (changed_nothing c f (raw_in ws).outside e))
