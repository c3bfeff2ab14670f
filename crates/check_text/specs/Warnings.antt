-- The warnings of a script in which nothing is at fault, sought by their numbers: its processes in text order.
use Prim.Native.Nat.{ℕ, zero, suc, ◌+◌, ◌-◌, ◌<◌, ◌≤◌}
use Rattle.std.specs.Prelude.{◌≡◌, Bool, true, false, ltb}
use Rattle.std.proofs.Math.Path.{refl, ap}
use Rattle.std.proofs.Common.{sym, ◌∙◌, subst, arith, ltb-true, ltb-false}
use mathlib.Core.List.{List, [], ◌++◌, map, append-nil}
use Rattle.std.proofs.Math.Logic.Iff
use Rattle.std.proofs.Math.ListN.{get_elem?}
use Rattle.notation.specs.Limits.{held_limit}
use Rattle.notation.specs.Reader.{name_in}
use Rattle.calculus.specs.Checking.{check, check_declaration, typed}
use Rattle.calculus.specs.Declarations.{gather}
use Rattle.calculus.specs.Verdict.{fine}
use Rattle.calculus.specs.Warnings.{Missing, missing, Warning, warning_in, own_warnings, warnings, TellsOf}
use Rattle.std.specs.Prelude.{Some, None}
use Rattle.theory_derivations.specs.Fine.{refuted, then_law}
use Rattle.run_words.specs.declared.records.Held.{Held}
use Rattle.read_tables.specs.Access.{SignatureOf, entry_of}
use Rattle.read_tables.specs.Decode.{tally_in, entry_at, process_in, proc_declaration, proc_by, type_declaration, exec_declaration, numbered, script_in}
use Rattle.read_tables.specs.Program.{program_in}
use Rattle.notation.specs.declared.reading.ProcessEntry.{ProcessEntry}
use Rattle.check_types.specs.Sought.{Sought, SoughtOn, sought_map, mapped, sought_start, sought_first, sought_on, sought_end, sought_past}
use Rattle.check_terms.specs.Next.{context_in}
use Rattle.check_declarations.specs.Sorted.{gather_append}
use Rattle.check_processes.specs.Missing.{missing_in}
use Rattle.std.specs.declared.ops.ControlFlow.{ControlFlow}
use Rattle.std.specs.declared.ops.ControlFlow.TheVariants.{Continue, Break}
use Rattle.check_processes.specs.declared.missing.Unmet.{Unmet}
use Rattle.check_text.specs.Bodies.{SignatureHeld, body_named, body_checked, Checking, checking_start, checking_here, checking_on}

module _ (s w : List ℕ) where
  -- the warnings of n processes from i on
  abbrev warnings_from : ℕ → ℕ → List Warning
  warnings_from i n = gather (own_warnings (program_in s w)) (numbered (proc_declaration s w) i n)

  of_types : (i n : ℕ) → gather (own_warnings (program_in s w)) (numbered (type_declaration s w) i n) ≡ []
  unfolding type_declaration
  of_types i zero = refl
  of_types i (suc n) = of_types (i + 1) n

  of_execs_lem : (i n : ℕ) → gather (own_warnings (program_in s w)) (numbered (exec_declaration s w) i n) ≡ []
  unfolding exec_declaration
  of_execs_lem i zero = refl
  of_execs_lem i (suc n) = of_execs_lem (i + 1) n

  processes_only : warnings (script_in s w) ≡ warnings_from 0 (tally_in w).processes
  unfolding warnings program_in script_in
  processes_only =
      let types = numbered (type_declaration s w) 0 (tally_in w).types in
      let processes = numbered (proc_declaration s w) 0 (tally_in w).processes in
      let execs = numbered (exec_declaration s w) 0 (tally_in w).execs in
      let own = own_warnings (program_in s w) in
      gather_append own types (processes ++ execs)
      ∙ ap (λ l. l ++ gather own (processes ++ execs)) (of_types 0 (tally_in w).types)
      ∙ gather_append own processes execs
      ∙ ap (λ l. gather own processes ++ l) (of_execs_lem 0 (tally_in w).execs)
      ∙ append-nil (gather own processes)

  -- ── as far as the loop over the processes has come, with k warnings to pass over
  pub record Seeking (n k₀ i k : ℕ) : Type 0 where
    pub checks : Checking s w n i
    pub fine : typed (script_in s w) ≡ fine
    pub rest : SoughtOn (warnings (script_in s w)) k₀ (warnings_from i (n - i)) k

  pub seek_start : (n k : ℕ) → n ≡ (tally_in w).processes → typed (script_in s w) ≡ fine → Seeking n k 0 k
  seek_start n k e f =
      let y : (tally_in w).processes ≡ n - 0 = omega arith in
      record {
        checks = checking_start s w n e;
        fine = f;
        rest = subst (λ l. SoughtOn (warnings (script_in s w)) k l k) (processes_only ∙ ap (warnings_from 0) y) (sought_start (warnings (script_in s w)) k);
      }

  pub seek_end : (n k₀ i k : ℕ) → Seeking n k₀ i k → n ≤ i → TellsOf s (get_elem? (warnings (script_in s w)) k₀) None
  seek_end n k₀ i k t l =
      let y : n - i ≡ 0 = omega (arith, t.checks.upto) in
      subst (λ o. TellsOf s o None) (sym (sought_past (sought_end t.rest (ap (warnings_from i) y)))) refl

  -- the process i
  module _ (n k₀ i k : ℕ) (t : Seeking n k₀ i k) (l : i < n) (d : ProcessEntry) (g : SignatureOf w i d) where
    own_fine : check_declaration (program_in s w) (proc_declaration s w i) ≡ fine
    own_fine = ((then_law Iff.rfl Iff.rfl).0 (sym (checking_here s w n i t.checks l) ∙ t.fine)).0

    -- it has no 17th name
    pub seek_room : d.provided + d.used ≤ held_limit
    seek_room = by (ltb held_limit (d.provided + d.used)) refl
      where
        by : (b : Bool) → ltb held_limit (d.provided + d.used) ≡ b → d.provided + d.used ≤ held_limit
        by true e =
            let (a, b) = entry_at w (d.first + held_limit) in
            refuted (body_named s w i d g (record { at = a; number = b }) (entry_of w (d.first + held_limit) _ (record { at = refl; number = refl })) (ltb-true held_limit _ e) ∙ own_fine)
        by false e = ltb-false held_limit _ e

    -- what its signature has it hold
    module _ (h : Held) (f : SignatureHeld s w d h) where
      pub seek_fine : check (program_in s w) (context_in s w h) (process_in s w d.body) ≡ fine
      seek_fine = body_checked s w i d g h seek_room f refl ∙ own_fine

      abbrev lacks : List Missing
      lacks = missing (program_in s w) (context_in s w h) (process_in s w d.body)

      abbrev as_warning : Missing → Warning
      as_warning = warning_in (name_in s d.at)

      own_is : own_warnings (program_in s w) (proc_declaration s w i) ≡ map as_warning lacks
      unfolding proc_declaration
      own_is =
          ap (λ e. own_warnings (program_in s w) (proc_by s w e)) (sym g.holds)
          ∙ ap (λ H. map as_warning (missing (program_in s w) H (process_in s w d.body))) (sym f.is)

      begins : (j : ℕ) → j ≡ i + 1 → warnings_from i (n - i) ≡ map as_warning lacks ++ warnings_from j (n - j)
      begins j z =
          let y : n - i ≡ suc (n - j) = omega arith in
          let x : i + 1 ≡ j = sym z in
          ap (warnings_from i) y ∙ λ q. own_is q ++ warnings_from (x q) (n - j)

      module _ (x : ControlFlow Unmet ℕ) (a : Sought lacks k (missing_in s x)) where
        own : (y : ControlFlow Unmet ℕ) → x ≡ y → Sought (map as_warning lacks) k (mapped as_warning (missing_in s y))
        own y e = sought_map as_warning lacks k (missing_in s y) (subst (λ v. Sought lacks k (missing_in s v)) e a)

        pub seek_found : (u : Unmet) → x ≡ Break u
            → TellsOf s (get_elem? (warnings (script_in s w)) k₀) (Some (record { process = d.at; channel = u.channel; label = u.label }))
        seek_found u e =
            let found = sought_first t.rest (map as_warning lacks) (warnings_from (i + 1) (n - (i + 1))) (begins (i + 1) refl) (own (Break u) e) refl in
            subst (λ o. TellsOf s o (Some (record { process = d.at; channel = u.channel; label = u.label }))) (sym found.is) (u.label, refl, refl)

        pub seek_on : (v : ℕ) → x ≡ Continue v → (j : ℕ) → j ≡ i + 1 → Seeking n k₀ j v
        seek_on v e j z = record {
          checks = checking_on s w n i t.checks l own_fine j z;
          fine = t.fine;
          rest = sought_on t.rest (map as_warning lacks) (warnings_from j (n - j)) (begins j z) (own (Continue v) e) refl;
        }
