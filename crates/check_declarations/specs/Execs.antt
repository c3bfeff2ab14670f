-- Refusal 9 by number: the execs whose processes break the rule.
use Rattle.std.specs.Prelude.{ℕ, zero, suc, ◌+◌, ◌≡◌, List, [], ◌∷◌, ◌++◌, Bool, cond, ◌&&◌}
use Rattle.std.specs.Prelude.{Option as CodeOption, Some, None}
use Rattle.std.proofs.Math.Path.{refl, sym, ap}
use Rattle.std.proofs.Common.{◌∙◌}
use Rattle.std.proofs.Math.Bool.{true, false, not, ◌||◌}
use Rattle.std.proofs.Math.Option.{Option, some, map}
use Rattle.notation.specs.Tree.{Name, Located}
use Rattle.notation.specs.Reader.{name_in}
use Rattle.calculus.specs.Program.{Program, Signature, entries}
use Rattle.calculus.specs.Declarations.{has_other, outward, entry_types, is_nil, keeps_rule, breaking, wrong_execs}
use Rattle.calculus.specs.Named.{lookup, every}
use Rattle.read_tables.specs.declared.access.Labelled.{Labelled}
use Rattle.notation.specs.declared.reading.ProcessEntry.{ProcessEntry}
use Rattle.read_tables.specs.Access.{EntryOf, SignatureOf, ExecOf}
use Rattle.read_tables.specs.Decode.{tally_in, numbered, entry_at, entries_in, script_in}
use Rattle.read_tables.specs.Program.{program_in, signature_of, named_process, exec_in, execs_in}
use Rattle.read_tables.specs.Search.{Sought, place_of}
use Rattle.check_declarations.specs.Listed.{up, by_steps}
use Rattle.check_declarations.specs.Lowest.{Lowest, Lowered, lowered_as, lowered_none, over}
use Rattle.check_declarations.specs.Other.{other_in}
use Rattle.check_declarations.specs.Reach.{marked, any_below, Reaches}

-- ── the types of a list of entries
module _ (s w : List ℕ) (bad : List Name) where
  abbrev pub entry_other : ℕ → ℕ → Bool
  entry_other i k = other_in s w bad (entry_at w (i + k)).1

  pub entry_tested : (i k : ℕ) {t : Labelled} {r : Bool} → EntryOf w (i + k) t → r ≡ other_in s w bad t.number → r ≡ entry_other i k
  entry_tested i k o q = q ∙ ap (other_in s w bad) o.holds.number

  abbrev others : ℕ → ℕ → Bool
  others i n = not (every (λ A. not (has_other bad A)) (entry_types (entries (entries_in s w i n))))

  entries_other : (i n : ℕ) → any_below (entry_other i) n ≡ others i n
  unfolding entries_in any_below
  entries_other i n = sym (by_steps up ◌||◌ false (λ x. other_in s w bad (entry_at w x).1) others (λ x. refl) (λ x m. go (other_in s w bad (entry_at w x).1) (every (λ A. not (has_other bad A)) (entry_types (entries (entries_in s w (x + 1) m))))) n i)
    where
      go : (b r : Bool) → not (cond (not b) r false) ≡ (b || not r)
      go true r = refl
      go false r = refl

-- ── one process
not_not : (b : Bool) → not (not b) ≡ b
not_not true = refl
not_not false = refl

nil_entries : (s w : List ℕ) (i n : ℕ) → n ≡ 0 → true ≡ is_nil (entries (entries_in s w i n))
unfolding entries_in
nil_entries s w i n e = rw e refl

some_entries : (s w : List ℕ) (i n : ℕ) → (n ≡ 0 → ⊥) → false ≡ is_nil (entries (entries_in s w i n))
unfolding entries_in
some_entries s w i zero h = absurd (h refl)
some_entries s w i (suc n) h = refl

module _ (s w : List ℕ) {name : Name} {r : CodeOption ℕ} (t : Sought name (program_in s w).processes (named_process s w) (tally_in w).processes r) where
  abbrev kept : Option Signature → Bool
  kept o = keeps_rule (program_in s w) o

  pub keeps_none : r ≡ None → true ≡ kept (lookup name (program_in s w).processes)
  keeps_none e = sym (ap kept (t.is ∙ ap (λ (q : CodeOption ℕ). map (λ i. (named_process s w i).1) (place_of q)) e))

  module _ {j : ℕ} (e : r ≡ Some j) {d : ProcessEntry} (o : SignatureOf w j d) where
    signed : kept (some (signature_of s w d)) ≡ kept (lookup name (program_in s w).processes)
    signed =
        sym (ap kept (t.is ∙ ap (λ (q : CodeOption ℕ). map (λ i. (named_process s w i).1) (place_of q)) e ∙ ap (λ (q : Name × Signature). some q.1) (o.is s)))

    pub keeps_uses : (d.used ≡ 0 → ⊥) → false ≡ kept (lookup name (program_in s w).processes)
    unfolding signature_of
    keeps_uses h = ap (λ b. b && every (outward (program_in s w)) (entry_types (entries (entries_in s w d.first d.provided)))) (some_entries s w (d.first + d.provided) d.used h) ∙ signed

    pub keeps_provides : {m : List Bool} → Reaches s w m → d.used ≡ 0 → {b : Bool} → b ≡ any_below (entry_other s w (marked s w m) d.first) d.provided → not b ≡ kept (lookup name (program_in s w).processes)
    unfolding signature_of outward
    keeps_provides {m} g h q =
        ap not (q ∙ entries_other s w (marked s w m) d.first d.provided)
        ∙ not_not _
        ∙ ap (λ bad. every (λ A. not (has_other bad A)) (entry_types (entries (entries_in s w d.first d.provided)))) g.is
        ∙ ap (λ b. b && every (outward (program_in s w)) (entry_types (entries (entries_in s w d.first d.provided)))) (nil_entries s w (d.first + d.provided) d.used h)
        ∙ signed

-- ── all execs
abbrev pub breaking_at : Program → (ℕ → Located) → ℕ → List ℕ
breaking_at p f i = cond (keeps_rule p (lookup (f i).name p.processes)) [] ((f i).at ∷ [])

breaking_over : (p : Program) (f : ℕ → Located) (n i : ℕ) → over (breaking_at p f) i n ≡ breaking p (numbered f i n)
breaking_over p f zero i = refl
breaking_over p f (suc n) i = go (keeps_rule p (lookup (f i).name p.processes)) (breaking_over p f n (i + 1))
  where
    go : (b : Bool) → over (breaking_at p f) (i + 1) n ≡ breaking p (numbered f (i + 1) n)
        → cond b [] ((f i).at ∷ []) ++ over (breaking_at p f) (i + 1) n ≡ cond b (breaking p (numbered f (i + 1) n)) ((f i).at ∷ breaking p (numbered f (i + 1) n))
    go true e = e
    go false e = ap (◌∷◌ (f i).at) e

module _ (s w : List ℕ) where
  pub wrong_execs_lem : over (breaking_at (program_in s w) (exec_in s w)) 0 (tally_in w).execs ≡ wrong_execs (script_in s w)
  unfolding wrong_execs program_in
  wrong_execs_lem = breaking_over (program_in s w) (exec_in s w) (tally_in w).execs 0 ∙ ap (breaking (program_in s w)) (sym (execs_in s w))

  module _ {i at : ℕ} (o : ExecOf w i at) {b : Bool} (q : b ≡ keeps_rule (program_in s w) (lookup (name_in s at).name (program_in s w).processes)) where
    breaks : {x : Bool} → b ≡ x → cond x [] (at ∷ []) ≡ breaking_at (program_in s w) (exec_in s w) i
    breaks t =
        ap (λ y. cond y [] (at ∷ [])) (sym t ∙ q)
        ∙ ap (λ (n : Located). cond (keeps_rule (program_in s w) (lookup n.name (program_in s w).processes)) [] (n.at ∷ [])) (sym (o.is s))

    pub exec_keeps : {l : Lowest} → b ≡ true → Lowered l (breaking_at (program_in s w) (exec_in s w) i) l
    exec_keeps t = lowered_as (breaks t) lowered_none

    pub exec_breaks : {l k : Lowest} → b ≡ false → Lowered l (at ∷ []) k → Lowered l (breaking_at (program_in s w) (exec_in s w) i) k
    exec_breaks t = lowered_as (breaks t)
