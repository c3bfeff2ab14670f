-- Processes of which typing says the same: it looks at what a process does, and the names, sides and types of what it holds.
use Rattle.std.specs.Prelude.{ℕ, suc, ◌≤◌, ◌<◌, ◌≡◌, refl, List, [], ◌∷◌, length}
use Rattle.std.proofs.Common.{arith}
use Rattle.std.proofs.Math.Option.{some}
use Rattle.std.proofs.Math.ListN.{get_elem?}
use Rattle.notation.specs.Token.{name_at}
use Rattle.calculus.specs.Program.{slot}
use Rattle.calculus.specs.WellFormed.{context_of}
use Rattle.theory_decision.specs.Decide.{typed_as?}
use Rattle.read_tables.specs.Decode.{process_in}
use Rattle.read_tables.specs.Program.{plain_in, program_in}
use Rattle.run_words.specs.ListLaws.{below_length}
use Rattle.run_words.specs.Raw.{RawEnd, RawProcess}
use Rattle.run_words.specs.Decode.{decoded_doing}
use Rattle.check_contexts.specs.Held.{ends_in}
use Rattle.run_wellformed.specs.Typing.{typed_in}

-- the channels may differ
pub record EndsMatch (e f : RawEnd) : Type 0 where
  pub name : e.name ≡ f.name
  pub side : e.side ≡ f.side
  pub node : e.node ≡ f.node

-- as many ends, which match one by one
pub record HeldMatch (l m : List RawEnd) : Type 0 where
  pub many : length l ≡ length m
  pub each : (k : ℕ) (e f : RawEnd) → get_elem? l k ≡ some e → get_elem? m k ≡ some f → EndsMatch e f

pub record TypedAlike (p q : RawProcess) : Type 0 where
  pub is : (s w : List ℕ) → typed_in s w p ≡ typed_in s w q

-- ── what is held, as a context
module _ (s w : List ℕ) where
  context_match : (l m : List RawEnd) → HeldMatch l m → context_of (ends_in s w l) ≡ context_of (ends_in s w m)
  context_match [] [] h = refl
  context_match [] (f ∷ m) h = absurd (omega (arith, h.many))
  context_match (e ∷ l) [] h = absurd (omega (arith, h.many))
  context_match (e ∷ l) (f ∷ m) h =
      let first = h.each 0 e f refl refl in
      let rest : HeldMatch l m = record { many = omega (arith, h.many); each = λ k. h.each (suc k) } in
      λ i. (name_at s (first.name i), slot (first.side i) (plain_in s w (first.node i))) ∷ context_match l m rest i

pub alike_so : (p q : RawProcess) → p.kind ≡ q.kind → p.pointer ≡ q.pointer → HeldMatch p.held q.held → TypedAlike p q
alike_so p q k t h = record {
  is = λ s w i. typed_as? (program_in s w) (context_match s w p.held q.held h i) (decoded_doing (name_at s) (plain_in s w) (process_in s w) (k i) (t i));
}

-- ── the loop over the ends: the first k match
pub record Matching (l m : List RawEnd) (k : ℕ) : Type 0 where
  pub many : length l ≡ length m
  pub each : (j : ℕ) (e f : RawEnd) → j < k → get_elem? l j ≡ some e → get_elem? m j ≡ some f → EndsMatch e f

module _ (l m : List RawEnd) where
  pub matching_none : length l ≡ length m → Matching l m 0
  matching_none h = record { many = h; each = λ j e f b. absurd (omega (arith, b)) }

  pub matching_all : {k : ℕ} → Matching l m k → length l ≤ k → HeldMatch l m
  matching_all {k} a h = record { many = a.many; each = λ j e f p q. a.each j e f (let b = below_length l j p in omega (arith, b, h)) p q }
