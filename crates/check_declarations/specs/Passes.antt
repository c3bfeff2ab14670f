-- The passes over the declarations that the tables hold, by number.
use Rattle.std.specs.Prelude.{ℕ, zero, suc, ◌+◌, ◌≡◌, refl}
use Rattle.std.proofs.Math.Path.{sym, ap}
use Rattle.std.proofs.Common.{◌∙◌}
use mathlib.Core.List.{List, [], ◌∷◌, ◌++◌, append_assoc, append-nil}
use Rattle.notation.specs.Tree.{Declaration}
use Rattle.calculus.specs.Declarations.{gather, type_name, process_name}
use Rattle.read_tables.specs.Decode.{tally_in, type_declaration, proc_declaration, exec_declaration, numbered, script_in}
use Rattle.check_declarations.specs.declared.names.Names.TheVariants.{Types, Processes}
use Rattle.check_declarations.specs.Listed.{fold}
use Rattle.check_declarations.specs.Names.{name_of}

-- what is gathered from the script in the tables: from its types, its processes, its execs
module _ {X : Type 0} (f : Declaration → List X) where
  gathered : (d : ℕ → Declaration) (i n : ℕ) (r : List Declaration) → gather f (numbered d i n ++ r) ≡ fold ◌++◌ [] (λ k. f (d k)) i n ++ gather f r
  gathered d i zero r = refl
  gathered d i (suc n) r = ap (◌++◌ (f (d i))) (gathered d (i + 1) n r) ∙ sym (append_assoc (f (d i)) (fold ◌++◌ [] (λ k. f (d k)) (i + 1) n) (gather f r))

  module _ (s w : List ℕ) where
    abbrev pub of_types : List X
    of_types = fold ◌++◌ [] (λ i. f (type_declaration s w i)) 0 (tally_in w).types

    abbrev pub of_processes : List X
    of_processes = fold ◌++◌ [] (λ i. f (proc_declaration s w i)) 0 (tally_in w).processes

    abbrev pub of_execs : List X
    of_execs = fold ◌++◌ [] (λ i. f (exec_declaration s w i)) 0 (tally_in w).execs

    pub gathered_in : of_types ++ (of_processes ++ of_execs) ≡ gather f (script_in s w)
    unfolding script_in
    gathered_in =
        let k = tally_in w in
        let e = exec_declaration s w in
        let z : gather f (numbered e 0 k.execs) ≡ of_execs =
        ap (gather f) (sym (append-nil (numbered e 0 k.execs))) ∙ gathered e 0 k.execs [] ∙ append-nil of_execs in
        sym
        (gathered (type_declaration s w) 0 k.types _ ∙ ap (◌++◌ of_types) (gathered (proc_declaration s w) 0 k.processes _ ∙ ap (◌++◌ of_processes) z))

-- nothing is gathered from what has nothing, and one each from what has one
pub fold_none : {X : Type 0} (g : ℕ → List X) → ((i : ℕ) → g i ≡ []) → (i n : ℕ) → fold ◌++◌ [] g i n ≡ []
fold_none g h i zero = refl
fold_none g h i (suc n) = rw (h i, fold_none g h (i + 1) n) refl

fold_one : {X : Type 0} (g : ℕ → List X) (x : ℕ → X) → ((i : ℕ) → g i ≡ x i ∷ []) → (i n : ℕ) → fold ◌++◌ [] g i n ≡ numbered x i n
fold_one g x h i zero = refl
fold_one g x h i (suc n) = rw (h i, fold_one g x h (i + 1) n) refl

module _ (s w : List ℕ) where
  -- only execs have nothing; only types have something
  pub without_execs : {X : Type 0} (f : Declaration → List X) → ((i : ℕ) → f (exec_declaration s w i) ≡ []) → of_types f s w ++ of_processes f s w ≡ gather f (script_in s w)
  without_execs f h =
      ap (◌++◌ (of_types f s w)) (sym (append-nil (of_processes f s w)) ∙ ap (◌++◌ (of_processes f s w)) (sym (fold_none (λ i. f (exec_declaration s w i)) h 0 (tally_in w).execs)))
      ∙ gathered_in f s w

  pub types_only : {X : Type 0} (f : Declaration → List X) → ((i : ℕ) → f (proc_declaration s w i) ≡ []) → ((i : ℕ) → f (exec_declaration s w i) ≡ []) → of_types f s w ≡ gather f (script_in s w)
  types_only f g h =
      sym (append-nil (of_types f s w))
      ∙ ap (◌++◌ (of_types f s w)) (sym (fold_none (λ i. f (proc_declaration s w i)) g 0 (tally_in w).processes))
      ∙ without_execs f h

  pub type_names_lem : numbered (name_of s w Types) 0 (tally_in w).types ≡ gather type_name (script_in s w)
  unfolding type_declaration proc_declaration exec_declaration
  type_names_lem = sym (fold_one (λ i. type_name (type_declaration s w i)) (name_of s w Types) (λ i. refl) 0 (tally_in w).types) ∙ types_only type_name (λ i. refl) (λ i. refl)

  pub process_names : numbered (name_of s w Processes) 0 (tally_in w).processes ≡ gather process_name (script_in s w)
  unfolding type_declaration proc_declaration exec_declaration
  process_names =
      sym (fold_one (λ i. process_name (proc_declaration s w i)) (name_of s w Processes) (λ i. refl) 0 (tally_in w).processes)
      ∙ ap (λ l. l ++ of_processes process_name s w) (sym (fold_none (λ i. process_name (type_declaration s w i)) (λ i. refl) 0 (tally_in w).types))
      ∙ without_execs process_name (λ i. refl)
