-- Typing of processes: the names that one holds are distinct, and the check finds nothing at fault.
use Rattle.std.specs.Prelude.{ℕ, zero, suc, ◌≤◌, ◌≡◌, refl, List, [], ◌∷◌, Bool, true, false, cond, length}
use Rattle.std.specs.Prelude.{Option as CodeOption, Some, None}
use Rattle.std.specs.Option.{is_some as found}
use Rattle.std.proofs.Common.{sym, ◌∙◌, arith}
use Rattle.std.proofs.Math.Path.{ap}
use Rattle.std.proofs.Math.Option.{Option, some}
use Rattle.std.proofs.Math.ListN.{get_elem?}
use Rattle.notation.specs.Bytes.{same}
use Rattle.notation.specs.Token.{name_at}
use Rattle.notation.specs.Tree.{Name}
use Rattle.calculus.specs.Named.{lookup, names, distinct, is_some, any_of}
use Rattle.calculus.specs.Program.{Program}
use Rattle.calculus.specs.Configuration.{End, Process}
use Rattle.calculus.specs.WellFormed.{context_of}
use Rattle.theory_decision.specs.Decide.{typed?, typed_as?}
use Rattle.read_tables.specs.Decode.{process_in}
use Rattle.read_tables.specs.Program.{plain_in, program_in}
use Rattle.run_words.specs.Lists.{remove_at}
use Rattle.run_words.specs.Raw.{RawEnd, RawProcess}
use Rattle.run_words.specs.Decode.{decoded_doing, decoded_process}
use Rattle.run_words.specs.Values.{held_in, held_length}
use Rattle.run_words.specs.declared.records.End.{End as EndWords}
use Rattle.run_words.specs.declared.records.Held.{Held}
use Rattle.check_contexts.specs.Held.{end_is, ends_in, channels_of, end_found, Sees}
use Rattle.check_terms.specs.Next.{context_in}

-- the test of each process
abbrev pub typed_process : Program → Process → Bool
typed_process p q = typed_as? p (context_of q.held) q.doing

-- by the numbers that stand for it
abbrev pub typed_in : List ℕ → List ℕ → RawProcess → Bool
typed_in s w q = typed_process (program_in s w) (decoded_process (name_at s) (plain_in s w) (process_in s w) q)

-- ── distinct names
-- r says whether no name comes twice
pub record Distinct (s : List ℕ) (h : Held) (r : Bool) : Type 0 where
  pub is : (w : List ℕ) → distinct (names (context_in s w h)) ≡ r

any_looked : (n : Name) (l : List (Name × End)) → any_of (same n) (names (context_of l)) ≡ is_some (lookup n l)
unfolding names lookup
any_looked n [] = refl
any_looked n (e ∷ l) = go (same n e.0) (any_looked n l)
  where
    go : (b : Bool) → any_of (same n) (names (context_of l)) ≡ is_some (lookup n l) → cond b true (any_of (same n) (names (context_of l))) ≡ is_some (cond b (some e.1) (lookup n l))
    go true q = refl
    go false q = q

distinct_cons : (e : Name × End) (l : List (Name × End)) (o : Option End) → lookup e.0 l ≡ o → distinct (names (context_of (e ∷ l))) ≡ cond (is_some o) false (distinct (names (context_of l)))
unfolding names distinct
distinct_cons e l o q = ap (λ b. cond b false (distinct (names (context_of l)))) (any_looked e.0 l ∙ ap is_some q)

-- a list that has a first element is that and the others
headed : {A : Type 0} (l : List A) {x : A} → get_elem? l 0 ≡ some x → l ≡ x ∷ remove_at 0 l
headed [] e = let z : ◌≡◌ {A = ℕ} 0 1 = cc in absurd (omega arith)
headed (y ∷ l) {x} e = let q : y ≡ x = cc in ap (λ z. z ∷ l) q

-- the ends that are left in r decide about those of h
pub record Left (s : List ℕ) (h r : Held) : Type 0 where
  pub few : r.count ≤ 16
  pub is : (w : List ℕ) → distinct (names (context_in s w h)) ≡ distinct (names (context_in s w r))

module _ (s : List ℕ) (h r q : Held) (t : Left s h r) {raw : RawEnd} (g : get_elem? (held_in r) 0 ≡ some raw) (d : held_in q ≡ remove_at 0 (held_in r)) {f : CodeOption EndWords} (v : Sees s q raw.name f) where
  some_found : (w : List ℕ) (x : CodeOption EndWords) → is_some (end_found s w x) ≡ found x
  some_found w (Some x) = refl
  some_found w None = refl

  turn : {b : Bool} → found f ≡ b → (w : List ℕ) → distinct (names (context_in s w h)) ≡ cond b false (distinct (names (context_in s w q)))
  unfolding channels_of
  turn p w =
      t.is w ∙ ap (λ l. distinct (names (context_of (ends_in s w l)))) (headed (held_in r) g ∙ ap (λ l. raw ∷ l) (sym d))
      ∙ distinct_cons (end_is s w raw) (ends_in s w (held_in q)) (end_found s w f) (v.is w)
      ∙ ap (λ b. cond b false (distinct (names (context_in s w q)))) (some_found w f ∙ p)

  pub left_on : found f ≡ false → q.count ≤ 16 → Left s h q
  left_on p b = record { few = b; is = turn p }

  pub left_twice : found f ≡ true → Distinct s h false
  left_twice p = record { is = turn p }

none_held : (l : List RawEnd) → length l ≡ 0 → l ≡ []
none_held [] e = refl
none_held (x ∷ l) e = absurd (omega arith)

pub left_none : (s : List ℕ) (h r : Held) → Left s h r → r.count ≡ 0 → Distinct s h true
unfolding channels_of names distinct
left_none s h r t z = record { is = λ w. t.is w ∙ ap (λ l. distinct (names (context_of (ends_in s w l)))) (none_held (held_in r) (held_length r ∙ z)) }

-- ── a process by its kind
module _ (s w : List ℕ) (q : RawProcess) where
  pub doing_typed : (q.kind ≡ 1 → ⊥) → typed? (program_in s w) (context_of (ends_in s w q.held)) (process_in s w q.pointer) ≡ typed_in s w q
  doing_typed d = go q.kind d
    where
      go : (k : ℕ) → (k ≡ 1 → ⊥)
          → typed? (program_in s w) (context_of (ends_in s w q.held)) (process_in s w q.pointer)
          ≡ typed_as? (program_in s w) (context_of (ends_in s w q.held)) (decoded_doing (name_at s) (plain_in s w) (process_in s w) k q.pointer)
      go zero d = refl
      go (suc zero) d = absurd (d refl)
      go (suc (suc k)) d = refl
