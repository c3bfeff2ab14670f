-- The pieces of a warning's line.
use Rattle.std.specs.Prelude.{ℕ, zero, suc, ◌+◌, ◌*◌, ◌<◌, ◌≡◌, refl, List, [], ◌∷◌, ◌++◌, length, drop, Some, None}
use Rattle.std.proofs.Common.{sym, ◌∙◌, ap, subst, append_assoc, add-one, arith}
use Rattle.std.proofs.Math.Option.{Option, some, none, none-ne-some}
use Rattle.std.proofs.Math.ListN.{get_elem?}
use Rattle.notation.specs.Bytes.{bytes}
use Rattle.notation.specs.Limits.{type_term_limit, process_term_limit}
use Rattle.notation.specs.Token.{name_at}
use Rattle.calculus.specs.Printed.{line, warning_line, warning_lines, all_execs}
use Rattle.calculus.specs.Program.{Program}
use Rattle.calculus.specs.Warnings as calculus
use Rattle.calculus.specs.Warnings.{TellsOf}
use Rattle.calculus.specs.declared.answers.Missing.{Missing as MissingAt}
use Rattle.read_tables.specs.Program.{program_in}
use Rattle.check_accepted.specs.Texts.{TextIn}
use Rattle.check_accepted.specs.Warnings.{warnings_few, warning_in_lem}
use Rattle.print_bytes.specs.Writing.{Appended}
use Rattle.print_pieces.specs.Pieces.{process_part, channel_part, label_part, from_warning, warnings_in, Still, Wrote}
use Rattle.print_pieces.specs.Stages.{next_of, wrote, wrote_none, wrote_next}
use Rattle.print_pieces.specs.declared.pieces.Stage.TheVariants.{Warning, Channel, Label, Exec}
use Rattle.print_pieces.specs.declared.pieces.Piece.{Piece}

-- the warning there has its names at these offsets
record Told (s : List ℕ) (o : Option calculus.Warning) (m : MissingAt) : Type 0 where
  pub warning : calculus.Warning
  pub there : o ≡ some warning
  pub process_at_lem : warning.process.at ≡ m.process
  pub channel_at : warning.channel.at ≡ m.channel
  pub named : name_at s (m.label + 1) ≡ warning.label

tells_missing : (s : List ℕ) (o : Option calculus.Warning) (m : MissingAt) → TellsOf s o (Some m) → Told s o m
tells_missing s none m e = absurd (cc)
tells_missing s (some x) m (k, h, n) = let z : m ≡ record { process = x.process.at; channel = x.channel.at; label = k } = cc in record {
  warning = x;
  there = refl;
  process_at_lem = sym (ap (λ m. m.process) z);
  channel_at = sym (ap (λ m. m.channel) z);
  named = ap (λ m. name_at s (m.label + 1)) z ∙ n;
}

tells_none : (s : List ℕ) (o : Option calculus.Warning) → TellsOf s o None → o ≡ none
tells_none s none h = refl
tells_none s (some x) (k, h, n) = absurd (cc)

-- ── the line in parts
line_parts : (P N L : List ℕ) → line (bytes "Warning: process " ++ (P ++ (bytes ", channel " ++ (N ++ (bytes ", missing '" ++ L))))) ≡ (bytes "Warning: process " ++ P) ++ ((bytes ", channel " ++ N) ++ line (bytes ", missing '" ++ L))
line_parts P N L =
    let end = bytes ", missing '" ++ L in
    ap (λ l. bytes "Warning: process " ++ l) (append_assoc P (bytes ", channel " ++ (N ++ end)) (10 ∷ []) ∙ ap (λ l. P ++ (bytes ", channel " ++ l)) (append_assoc N end (10 ∷ [])))

drop_none : {A : Type 0} (l : List A) (k : ℕ) → get_elem? l k ≡ none → drop k l ≡ []
drop_none [] zero e = refl
drop_none [] (suc k) e = refl
drop_none (x ∷ l) zero e = absurd (none-ne-some x (sym e))
drop_none (x ∷ l) (suc k) e = drop_none l k e

below : {A : Type 0} (l : List A) (k : ℕ) (x : A) → get_elem? l k ≡ some x → k < length l
below [] k x e = absurd (none-ne-some x e)
below (y ∷ l) zero x e = omega arith
below (y ∷ l) (suc k) x e = omega (arith, below l k x e)

module _ (s w : List ℕ) (t : TextIn s w) where
  abbrev ms : List calculus.Warning
  ms = warnings_in s w

  abbrev p : Program
  p = program_in s w

  module _ (k : ℕ) where
    -- there is none
    pub warning_none : TellsOf s (get_elem? ms k) None → (out : List ℕ) → Still s w out (Warning k) (record { length = 0; stage = Exec 0 })
    warning_none h out = wrote_next (wrote_none out (Exec 0))
        (λ ws. ap (λ l. warning_lines l ++ all_execs s p p.execs) (drop_none ms k (tells_none s (get_elem? ms k) h))) (λ ws. record { is = t }) (omega arith)

    module _ (m : MissingAt) (h : TellsOf s (get_elem? ms k) (Some m)) where
      told : Told s (get_elem? ms k) m
      told = tells_missing s (get_elem? ms k) m h

      -- it is one of few
      pub number_few : k < type_term_limit * process_term_limit
      number_few = omega (arith, below ms k told.warning told.there, warnings_few t)

      in_parts : warning_line told.warning ≡ process_part s m.process ++ (channel_part s m.channel ++ label_part s m.label)
      in_parts =
          let n = warning_in_lem t k told.warning told.there in
          let a : told.warning.process.name ≡ name_at s m.process = n.0 ∙ ap (name_at s) told.process_at_lem in
          let b : told.warning.channel.name ≡ name_at s m.channel = n.1 ∙ ap (name_at s) told.channel_at in
          line_parts told.warning.process.name told.warning.channel.name told.warning.label
          ∙ λ i. (bytes "Warning: process " ++ a i) ++ ((bytes ", channel " ++ b i) ++ line (bytes ", missing '" ++ sym told.named i))

      from_here : from_warning s ms p k ≡ process_part s m.process ++ (channel_part s m.channel ++ (label_part s m.label ++ from_warning s ms p (k + 1)))
      from_here =
          let rest = all_execs s p p.execs in
          ap (λ l. warning_lines l ++ rest) (next_of ms k told.warning told.there)
          ∙ append_assoc (warning_line told.warning) (warning_lines (drop (suc k) ms)) rest
          ∙ (λ i. in_parts i ++ from_warning s ms p (sym (add-one k) i))
          ∙ append_assoc (process_part s m.process) (channel_part s m.channel ++ label_part s m.label) (from_warning s ms p (k + 1))
          ∙ ap (◌++◌ (process_part s m.process)) (append_assoc (channel_part s m.channel) (label_part s m.label) (from_warning s ms p (k + 1)))

      pub warning_told : {old out : List ℕ} {n : ℕ} → Appended old out 0 n (process_part s m.process) → Still s w out (Warning k) (record { length = n; stage = Channel (k + 1) m.channel m.label })
      warning_told a = wrote_next (wrote (Channel (k + 1) m.channel m.label) a) (λ ws. from_here) (λ ws. record { is = t }) (omega (arith, below ms k told.warning told.there))

  -- ── the rest of its line
  pub channel_told : (next channel label : ℕ) {out : List ℕ} {r : Piece} → Wrote out r (channel_part s channel) (Label next label) → Still s w out (Channel next channel label) r
  channel_told next channel label u = wrote_next u (λ ws. refl) (λ ws. record { is = t }) (omega arith)

  pub label_told : (next label : ℕ) {out : List ℕ} {r : Piece} → Wrote out r (label_part s label) (Warning next) → Still s w out (Label next label) r
  label_told next label u = wrote_next u (λ ws. refl) (λ ws. record { is = t }) (omega arith)
