-- Ends of channels, taken one after another: each must fit those kept so far, of which a word for each key tells the type.
use Rattle.std.specs.Prelude.{ℕ, zero, suc, ◌+◌, ◌*◌, ◌≤◌, ◌<◌, ◌≡◌, ◌⊎◌, ◌≢◌, Bool, not, ◌&&◌, eqb, length, get_or, set, replicate}
use Rattle.std.proofs.Math.Path.{refl, ap}
use Rattle.std.proofs.Common.{sym, ◌∙◌, subst, inl, inr, arith, eq-eqb, ne_eqb, get_or-set_same, get_or-set_other}
use mathlib.Core.List.{List, [], ◌∷◌, ◌++◌, map, append-nil, append_assoc}
use Rattle.std.proofs.Math.Bool.{true, false, So, cond}
use Rattle.std.proofs.lemmas.List.{length-replicate}
use Rattle.notation.specs.Limits.{channel_places}
use Rattle.notation.specs.Token.{name_at}
use Rattle.calculus.specs.Named.{every}
use Rattle.calculus.specs.Types.{Side, provided, used, other, same_side}
use Rattle.calculus.specs.SameType.{same_type}
use Rattle.calculus.specs.Configuration.{End, end}
use Rattle.calculus.specs.WellFormed.{held_ends, outside_ends, ends}
use Rattle.calculus.specs.WellFormed as calculus
use Rattle.theory_derivations.specs.Equality.{eqb_decides, decides_cases}
use Rattle.theory_decision.specs.Ends.{beside, ends_fit}
use Rattle.theory_decision.specs.Lists.{implies, pairwise}
use Rattle.read_tables.specs.Decode.{tally_in, process_in}
use Rattle.read_tables.specs.Program.{plain_in, program_in}
use Rattle.run_words.specs.Raw.{RawEnd, RawProcess, RawOutside, RawConfig}
use Rattle.run_words.specs.Decode.{decoded_end, decoded_process, decoded_outside, decoded}
use Rattle.run_joints.specs.Tests.{pairwise_map}

-- ── the ends, in the calculus' order
abbrev pub outside_end : RawOutside → RawEnd
outside_end o = record { name = 0; side = used; node = o.node; channel = o.channel }

abbrev pub process_ends : List RawProcess → List RawEnd
process_ends [] = []
process_ends (p ∷ l) = p.held ++ process_ends l

abbrev pub raw_ends : RawConfig → List RawEnd
raw_ends C = process_ends C.processes ++ map outside_end C.outside

module _ (s w : List ℕ) where
  abbrev pub as_end : RawEnd → End
  as_end e = end e.side e.channel (plain_in s w e.node)

  abbrev pub beside_in : RawEnd → RawEnd → Bool
  beside_in e d = beside (program_in s w) (as_end e) (as_end d)

  held_ends_lem : (l m : List RawEnd) {k : List End} → k ≡ map as_end m → held_ends (map (decoded_end (name_at s) (plain_in s w) (process_in s w)) l) ++ k ≡ map as_end (l ++ m)
  held_ends_lem [] m q = q
  held_ends_lem (e ∷ l) m q = ap (λ r. as_end e ∷ r) (held_ends_lem l m q)

  outside_ends_lem : (l : List RawOutside) → outside_ends (map (decoded_outside (name_at s) (plain_in s w) (process_in s w)) l) ≡ map as_end (map outside_end l)
  outside_ends_lem [] = refl
  outside_ends_lem (o ∷ l) = ap (λ r. as_end (outside_end o) ∷ r) (outside_ends_lem l)

  process_ends_lem : (l : List RawProcess) (m : List RawEnd) {k : List End} → k ≡ map as_end m → calculus.process_ends (map (decoded_process (name_at s) (plain_in s w) (process_in s w)) l) ++ k ≡ map as_end (process_ends l ++ m)
  process_ends_lem [] m q = q
  process_ends_lem (p ∷ l) m {k} q =
      append_assoc (held_ends (map (decoded_end (name_at s) (plain_in s w) (process_in s w)) p.held)) (calculus.process_ends (map (decoded_process (name_at s) (plain_in s w) (process_in s w)) l)) k
      ∙ held_ends_lem p.held (process_ends l ++ m) (process_ends_lem l m q) ∙ ap (map as_end) (sym (append_assoc p.held (process_ends l) m))

  pub ends_in_lem : (C : RawConfig) → ends (decoded (name_at s) (plain_in s w) (process_in s w) C) ≡ map as_end (raw_ends C)
  ends_in_lem C = process_ends_lem C.processes (map outside_end C.outside) (outside_ends_lem C.outside)

  pub ends_decoded : (C : RawConfig) → ends_fit (program_in s w) (ends (decoded (name_at s) (plain_in s w) (process_in s w) C)) ≡ pairwise beside_in [] (raw_ends C)
  unfolding ends_fit
  ends_decoded C = ap (pairwise (beside (program_in s w)) []) (ends_in_lem C) ∙ pairwise_map as_end (beside (program_in s w)) [] (raw_ends C)

-- ── a word for each key: 0 for an end that none has, else 1 + the node of its type
abbrev side_word : Side → ℕ
side_word provided = 0
side_word used = 1

abbrev pub keys : ℕ
keys = 1024

abbrev pub place_of : ℕ → Side → ℕ
place_of channel side = 2 * channel + side_word side

pub record Kept (w ws : List ℕ) : Type 0 where
  pub long : length ws ≡ keys
  pub each : (k : ℕ) → get_or ws k 0 ≤ (tally_in w).nodes

module _ (s w : List ℕ) where
  -- the type of a node, beside that of the far end if one is kept
  abbrev pub far_same : ℕ → ℕ → Bool
  far_same node zero = true
  far_same node (suc n) = same_type (program_in s w).types (plain_in s w node) (plain_in s w n)

  -- the key is new, and the far end has the type
  abbrev pub fits : List ℕ → ℕ → Side → ℕ → Bool
  fits ws channel side node = cond (eqb (get_or ws (place_of channel side) 0) 0) (far_same node (get_or ws (place_of channel (other side)) 0)) false

  -- the words keep the ends of l: they tell which ends fit these
  pub record Keeps (ws : List ℕ) (l : List RawEnd) : Type 0 where
    pub tells : (e : RawEnd) → every (beside_in s w e) l ≡ fits ws e.channel e.side e.node

  -- what becomes of the words when ends are kept one after another, up to one that does not fit: whether all do
  pub record Entered (old new : List ℕ) (l : List RawEnd) (r : Bool) : Type 0 where
    pub is : (seen : List RawEnd) → Keeps old seen
        → (after : List RawEnd) × Keeps new after × ((rest : List RawEnd) → pairwise (beside_in s w) seen (l ++ rest) ≡ cond r (pairwise (beside_in s w) after rest) false)

  -- ── one end
  module _ (ws : List ℕ) (e : RawEnd) where
    entering : {t : Bool} → fits ws e.channel e.side e.node ≡ t → (seen : List RawEnd) → Keeps ws seen → (rest : List RawEnd)
        → pairwise (beside_in s w) seen (e ∷ rest) ≡ cond t (pairwise (beside_in s w) (e ∷ seen) rest) false
    unfolding pairwise
    entering q seen k rest = ap (λ b. cond b (pairwise (beside_in s w) (e ∷ seen) rest) false) (k.tells e ∙ q)

    pub misfit : fits ws e.channel e.side e.node ≡ false → Entered ws ws (e ∷ []) false
    misfit q = record { is = λ seen k. (seen, k, entering q seen k) }

    module _ (short : e.channel < channel_places) (long : length ws ≡ keys) (free : get_or ws (place_of e.channel e.side) 0 ≡ 0) where
      abbrev new : List ℕ
      new = set ws (place_of e.channel e.side) (suc e.node)

      abbrev Turn : ℕ → Side → ℕ → Type 0
      Turn c x n = cond (beside (program_in s w) (end x c (plain_in s w n)) (as_end s w e)) (fits ws c x n) false ≡ fits new c x n

      within : (x : Side) → place_of e.channel x < keys
      within provided = omega arith
      within used = omega arith

      here : get_or new (place_of e.channel e.side) 0 ≡ suc e.node
      here = get_or-set_same ws (place_of e.channel e.side) (suc e.node) 0 (omega (arith, within e.side))

      away : (k : ℕ) → (k ≡ place_of e.channel e.side → ⊥) → get_or new k 0 ≡ get_or ws k 0
      away k d = get_or-set_other ws (place_of e.channel e.side) k (suc e.node) 0 d

      -- another channel
      elsewhere : (c : ℕ) (x y : Side) → (c ≡ e.channel → ⊥) → place_of c x ≡ place_of e.channel y → ⊥
      elsewhere c provided provided d q = d (omega arith)
      elsewhere c provided used d q = omega arith
      elsewhere c used provided d q = omega arith
      elsewhere c used used d q = d (omega arith)

      apart : (c : ℕ) (x : Side) (n : ℕ) → (c ≡ e.channel → ⊥) → Turn c x n
      apart c x n d =
          ap (λ b. cond (implies b (not (same_side x e.side) && same_type (program_in s w).types (plain_in s w n) (plain_in s w e.node))) (fits ws c x n) false) (ne_eqb c e.channel d)
          ∙ (λ i. cond (eqb (sym (away _ (elsewhere c x e.side d)) i) 0) (far_same n (sym (away _ (elsewhere c (other x) e.side d)) i)) false)

      -- the same channel
      abbrev Meeting : ℕ → Side → Side → Type 0
      Meeting n x y = cond (beside (program_in s w) (end x e.channel (plain_in s w n)) (end y e.channel (plain_in s w e.node))) (fits ws e.channel x n) false ≡ fits new e.channel x n

      -- what became of the words, if y is the side
      abbrev Put : Side → Type 0
      Put y = (get_or ws (place_of e.channel y) 0 ≡ 0) × (get_or new (place_of e.channel y) 0 ≡ suc e.node) × ((k : ℕ) → (k ≡ place_of e.channel y → ⊥) → get_or new k 0 ≡ get_or ws k 0)

      -- the same end again
      again : (x : Side) (n : ℕ) → same_side x x ≡ true → get_or new (place_of e.channel x) 0 ≡ suc e.node → Meeting n x x
      again x n z h =
          let far = far_same n (get_or new (place_of e.channel (other x)) 0) in
          (λ i. cond (implies (eq-eqb e.channel e.channel refl i) (not (z i) && same_type (program_in s w).types (plain_in s w n) (plain_in s w e.node))) (fits ws e.channel x n) false)
          ∙ sym (ap (λ m. cond (eqb m 0) far false) h ∙ ap (λ b. cond b far false) (ne_eqb (suc e.node) 0 (λ q. omega (arith, q))))

      swap : (a b : Bool) → cond a (cond b true false) false ≡ cond b a false
      swap true true = refl
      swap true false = refl
      swap false true = refl
      swap false false = refl

      -- the far end
      facing : (x y : Side) (n : ℕ) → same_side x y ≡ false → other x ≡ y → (place_of e.channel x ≡ place_of e.channel y → ⊥) → Put y → Meeting n x y
      facing x y n z o d (f, h, a) =
          let one = same_type (program_in s w).types (plain_in s w n) (plain_in s w e.node) in
          let there = eqb (get_or ws (place_of e.channel x) 0) 0 in
          (λ i. cond (implies (eq-eqb e.channel e.channel refl i) (not (z i) && one)) (cond there (far_same n (get_or ws (place_of e.channel (o i)) 0)) false) false)
          ∙ ap (λ m. cond one (cond there (far_same n m) false) false) f ∙ swap one there
          ∙ (λ i. cond (eqb (sym (a (place_of e.channel x) d) i) 0) (far_same n (sym h i)) false)
          ∙ (λ i. cond (eqb (get_or new (place_of e.channel x) 0) 0) (far_same n (get_or new (place_of e.channel (sym o i)) 0)) false)

      together : (n : ℕ) (x y : Side) → Put y → Meeting n x y
      together n provided provided p = again provided n refl p.1
      together n provided used p = facing provided used n refl refl (λ q. omega (arith, q)) p
      together n used provided p = facing used provided n refl refl (λ q. omega (arith, q)) p
      together n used used p = again used n refl p.1

      turn : (d : RawEnd) → Turn d.channel d.side d.node
      turn d = go (decides_cases eqb_decides d.channel e.channel)
        where
          go : (So (eqb d.channel e.channel) × (d.channel ≡ e.channel)) ⊎ ((eqb d.channel e.channel ≡ false) × (d.channel ≢ e.channel)) → Turn d.channel d.side d.node
          go (inl h) = subst (λ k. Turn k d.side d.node) (sym h.1) (together d.node d.side e.side (free, here, away))
          go (inr h) = apart d.channel d.side d.node h.1

      pub added : fits ws e.channel e.side e.node ≡ true → Entered ws new (e ∷ []) true
      added q = record {
        is = λ seen k.
            (e ∷ seen, record { tells = λ d. ap (λ b. cond (beside_in s w d e) b false) (k.tells d) ∙ turn d }, entering q seen k);
      }

  -- ── nothing kept yet
  zeros : (n k : ℕ) → ◌≡◌ {A = ℕ} (get_or (replicate n 0) k 0) 0
  zeros zero k = refl
  zeros (suc n) zero = refl
  zeros (suc n) (suc k) = zeros n k

  pub keeps_none : Keeps (replicate keys 0) []
  keeps_none = record {
    tells = λ e. sym (λ i. cond (eqb (zeros keys (place_of e.channel e.side) i) 0) (far_same e.node (zeros keys (place_of e.channel (other e.side)) i)) false);
  }

  pub kept_none : Kept w (replicate keys 0)
  kept_none = record { long = length-replicate {A = ℕ} keys 0; each = λ k. omega (arith, zeros keys k) }

  -- ── one after another
  pub entered_none : (ws : List ℕ) → Entered ws ws [] true
  entered_none ws = record { is = λ seen k. (seen, k, λ rest. refl) }

  pub entered_as : {old new : List ℕ} {l m : List RawEnd} {r : Bool} → m ≡ l → Entered old new l r → Entered old new m r
  entered_as {old} {new} {r = r} e p = subst (λ k. Entered old new k r) (sym e) p

  pub entered_then : {a b c : List ℕ} {l m : List RawEnd} {t r : Bool} → t ≡ true → Entered a b l t → Entered b c m r → Entered a c (l ++ m) r
  entered_then {a} {b} {l = l} {m} e p q = record {
    is = λ seen k.
        let x = (subst (Entered a b l) e p).is seen k in
        let y = q.is x.0 x.1 in
        (y.0, y.1, λ rest. ap (pairwise (beside_in s w) seen) (append_assoc l m rest) ∙ x.2 (m ++ rest) ∙ y.2 rest);
  }

  pub entered_stop : {a b : List ℕ} {l : List RawEnd} {t : Bool} (m : List RawEnd) → t ≡ false → Entered a b l t → Entered a b (l ++ m) false
  entered_stop {a} {b} {l} m e p = record {
    is = λ seen k.
        let x = (subst (Entered a b l) e p).is seen k in
        (x.0, x.1, λ rest. ap (pairwise (beside_in s w) seen) (append_assoc l m rest) ∙ x.2 (m ++ rest));
  }

  pub entered_all : {new : List ℕ} {l : List RawEnd} {r : Bool} → Entered (replicate keys 0) new l r → pairwise (beside_in s w) [] l ≡ r
  unfolding pairwise
  entered_all {l = l} {r} p =
      let x = p.is [] keeps_none in
      ap (pairwise (beside_in s w) []) (sym (append-nil l)) ∙ x.2 [] ∙ go r x.0
    where
      go : (r : Bool) (after : List RawEnd) → cond r (pairwise (beside_in s w) after []) false ≡ r
      go true after = refl
      go false after = refl

  -- a loop over the ends l has kept some, and m are left
  pub record Left (old now : List ℕ) (l m : List RawEnd) : Type 0 where
    pub rest : (new : List ℕ) (r : Bool) → Entered now new m r → Entered old new l r

  module _ {old now : List ℕ} {l m : List RawEnd} (t : Left old now l m) where
    pub left_next : {next : List ℕ} {b : Bool} (x y : List RawEnd) → m ≡ x ++ y → b ≡ true → Entered now next x b → Left old next l y
    left_next x y e h p = record { rest = λ new r q. t.rest new r (entered_as e (entered_then h p q)) }

    pub left_stop : {next : List ℕ} {b : Bool} (x y : List RawEnd) → m ≡ x ++ y → b ≡ false → Entered now next x b → Entered old next l false
    left_stop {next} x y e h p = t.rest next false (entered_as e (entered_stop y h p))

    pub left_end : m ≡ [] → Entered old now l true
    left_end e = t.rest now true (entered_as e (entered_none now))
