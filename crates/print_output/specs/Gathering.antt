-- What is handed over to be written: what is due, what waits in the buffer until it is much, what a writer whose bytes are known then holds, and what the program's answer says.
use Rattle.std.specs.Prelude.{ℕ, ◌+◌, ◌≤◌, ◌≡◌, List, [], ◌++◌, Bool, true, false, length, take, Result, Ok, Err}
use Rattle.std.specs.Io.KnownBytes.{Appends}
use Rattle.std.specs.declared.option.Option.{Option}
use Rattle.std.proofs.Common.{refl, sym, ◌∙◌, ap, subst, append_assoc, append-nil, length-take-le}
use Rattle.std.proofs.lemmas.Bool.{false≢true}
use Rattle.std.proofs.KnownBytes.{Appends-nil, Appends-trans}
use Rattle.std.proofs.lemmas.List.{take-append-le}
use Rattle.std.proofs.Math.Seq.{take-append-add}
use Rattle.calculus.specs.Accepted.{checked}
use Rattle.calculus.specs.Printed.{printed}
use Rattle.print_pieces.specs.Pieces.{left_in, is_left, is_accepted, First, Next}
use Rattle.print_pieces.specs.declared.pieces.Stage.{Stage}
use Rattle.print_pieces.specs.declared.pieces.Stage.TheVariants.{Warning, Channel, Label, Exec, Running, Finished}
use Rattle.print_pieces.specs.declared.pieces.Piece.{Piece}
use Rattle.print_output.specs.declared.text.Printed.{Printed}
use Rattle.print_output.specs.declared.text.Printed.TheVariants.{Run, Refused, Unwritten}

-- so many bytes may wait
abbrev pub gathered : ℕ
gathered = 4096

-- ── what is due: the bytes l are those of `printed` that come directly before what is left at a stage
pub record Due (s w ws : List ℕ) (stage : Stage) (l : List ℕ) : Type 0 where
  pub before : List ℕ
  pub is : printed s ≡ before ++ (l ++ left_in s w ws stage)

module _ {s w : List ℕ} where
  -- the first piece is
  pub due_first : {out : List ℕ} {r : Piece} → First s w out r → (ws : List ℕ) → Due s w ws r.stage (take r.length out)
  due_first f ws = record { before = []; is = f.is ws }

  -- nothing is, once it is handed over
  pub due_none : {ws : List ℕ} {stage : Stage} {l : List ℕ} → Due s w ws stage l → Due s w ws stage []
  due_none {ws} {stage} {l} d = record { before = d.before ++ l; is = d.is ∙ sym (append_assoc d.before l (left_in s w ws stage)) }

  -- the next piece, put after the m bytes that wait; whatever lies past it
  put_next : {ws vs part all : List ℕ} {stage : Stage} {r : Piece} (before out rest : List ℕ) (m : ℕ) → m ≤ length out → all ≡ before ++ (take m out ++ left_in s w ws stage)
      → Next s w ws vs part stage r → all ≡ before ++ (take (m + r.length) (take m out ++ (part ++ rest)) ++ left_in s w vs r.stage)
  put_next {ws} {vs} {part} {all} {stage} {r} before out rest m h e n =
      e
      ∙ ap (λ l. before ++ (take m out ++ l)) n.is
      ∙ ap (λ l. before ++ l) (sym (append_assoc (take m out) (take r.length part) (left_in s w vs r.stage)))
      ∙ ap (λ l. before ++ (l ++ left_in s w vs r.stage)) (sym put)
    where
      put : take (m + r.length) (take m out ++ (part ++ rest)) ≡ take m out ++ take r.length part
      put =
          ap (λ k. take (k + r.length) (take m out ++ (part ++ rest))) (sym (length-take-le m out h))
          ∙ take-append-add (take m out) (part ++ rest) r.length
          ∙ ap (λ l. take m out ++ l) (take-append-le r.length part rest n.within)

  pub due_next : {ws vs part : List ℕ} {stage : Stage} {r : Piece} (out rest : List ℕ) (m : ℕ) → m ≤ length out → Due s w ws stage (take m out) → Next s w ws vs part stage r
      → Due s w vs r.stage (take (m + r.length) (take m out ++ (part ++ rest)))
  due_next out rest m h d n = record { before = d.before; is = put_next d.before out rest m h d.is n }

-- ── what waits, where it could be written: few bytes, and they are due
abbrev waits_by : {E : Type 0} → List ℕ → List ℕ → List ℕ → Stage → List ℕ → Result ℕ E → Type 0
waits_by s w ws stage out (Ok n) = (n ≤ gathered) × Due s w ws stage (take n out)
waits_by s w ws stage out (Err e) = Unit {0}

pub record Waits {E : Type 0} (s w ws : List ℕ) (stage : Stage) (out : List ℕ) (r : Result ℕ E) : Type 0 where
  pub is : waits_by s w ws stage out r

-- ── what is answered
abbrev says_by : List ℕ → Printed → Type 0
says_by s Run = is_accepted (checked s) ≡ true
says_by s Refused = is_accepted (checked s) ≡ false
says_by s Unwritten = Unit {0}

-- that its execs' lines were written is said of an accepted text alone, that its refusal was of a refused one
pub record Says (s : List ℕ) (r : Printed) : Type 0 where
  pub is : says_by s r

-- ── what a writer holds: old before, new after, where its bytes are known
-- of the bytes l, those that wait no longer were taken
abbrev gone_by : {E : Type 0} → Option (List ℕ) → Option (List ℕ) → List ℕ → List ℕ → Result ℕ E → Type 0
gone_by old new l out (Ok n) = (gone : List ℕ) × Appends old new gone × (l ≡ gone ++ take n out)
gone_by old new l out (Err e) = Unit {0}

pub record Gone {E : Type 0} (old new : Option (List ℕ)) (l out : List ℕ) (r : Result ℕ E) : Type 0 where
  pub is : gone_by old new l out r

-- of what was left at the stage a, all was taken but the bytes l, which wait, and what is left at the stage b
pub record Taken (old new : Option (List ℕ)) (s w vs : List ℕ) (a : Stage) (ws : List ℕ) (b : Stage) (l : List ℕ) : Type 0 where
  pub before : List ℕ
  pub is : left_in s w vs a ≡ before ++ (l ++ left_in s w ws b)
  pub appends : Appends old new before

-- nothing is left at the last stage
left_none : (s w ws : List ℕ) (b : Stage) → is_left b ≡ false → left_in s w ws b ≡ []
left_none s w ws (Warning k) e = absurd (false≢true (sym e))
left_none s w ws (Channel next channel label) e = absurd (false≢true (sym e))
left_none s w ws (Label next label) e = absurd (false≢true (sym e))
left_none s w ws (Exec line) e = absurd (false≢true (sym e))
left_none s w ws (Running line taken) e = absurd (false≢true (sym e))
left_none s w ws Finished e = refl

module _ {old : Option (List ℕ)} {s w vs : List ℕ} {a : Stage} where
  pub taken_next : {new : Option (List ℕ)} {ws us part : List ℕ} {b : Stage} {r : Piece} (out rest : List ℕ) (m : ℕ) → m ≤ length out → Taken old new s w vs a ws b (take m out)
      → Next s w ws us part b r → Taken old new s w vs a us r.stage (take (m + r.length) (take m out ++ (part ++ rest)))
  taken_next out rest m h t n = record { before = t.before; is = put_next t.before out rest m h t.is n; appends = t.appends }

  pub taken_gone : {E : Type 0} {mid new : Option (List ℕ)} {ws l out : List ℕ} {b : Stage} {n : ℕ} → Taken old mid s w vs a ws b l → Gone {E = E} mid new l out (Ok n) → Taken old new s w vs a ws b (take n out)
  taken_gone {mid = mid} {new = new} {ws = ws} {l = l} {out = out} {b = b} {n = n} t f =
      let (gone, taken, is) = f.is in
      record {
        before = t.before ++ gone;
        is =
            t.is
            ∙ ap (λ k. t.before ++ (k ++ left_in s w ws b)) is
            ∙ ap (λ k. t.before ++ k) (append_assoc gone (take n out) (left_in s w ws b))
            ∙ sym (append_assoc t.before gone (take n out ++ left_in s w ws b));
        appends = Appends-trans old mid new t.before gone t.appends taken;
      }

-- the execs' lines, or the refusal, of a text were taken, to the byte, where it is answered that they were written
abbrev writes_by : Option (List ℕ) → Option (List ℕ) → List ℕ → Printed → Type 0
writes_by old new s Run = Appends old new (printed s)
writes_by old new s Refused = Appends old new (printed s)
writes_by old new s Unwritten = Unit {0}

pub record Writes (old new : Option (List ℕ)) (s : List ℕ) (r : Printed) : Type 0 where
  pub is : writes_by old new s r

-- the first piece, and then all that is left
pub writes_run : {old new : Option (List ℕ)} {s w out : List ℕ} {f : Piece} (mid : Option (List ℕ)) (ws : List ℕ) → First s w out f → Appends old mid (take f.length out)
    → Appends mid new (left_in s w ws f.stage) → Writes old new s Run
writes_run {old} {new} {s} {w} {out} {f} mid ws g h k =
    record { is = subst (Appends old new) (sym (g.is ws)) (Appends-trans old mid new (take f.length out) (left_in s w ws f.stage) h k) }

-- the first piece alone
pub writes_refused : {old new : Option (List ℕ)} {s w out : List ℕ} {f : Piece} → First s w out f → is_left f.stage ≡ false
    → Appends old new (take f.length out) → Writes old new s Refused
writes_refused {old} {new} {s} {w} {out} {f} g n h =
    record { is = subst (Appends old new) (sym (g.is [] ∙ ap (λ l. take f.length out ++ l) (left_none s w [] f.stage n) ∙ append-nil (take f.length out))) h }
