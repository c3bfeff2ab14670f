-- Where a text is refused: within it, by 2 to 5 as the rules of the notation say, by 3 to 15 at the start of a token, by 6 to 15 at one of the script that they derive.
use Rattle.std.specs.Prelude.{ℕ, ◌≤◌, ◌<◌, ◌≡◌, List, length}
use Rattle.std.proofs.Common.{arith, ◌∙◌, subst}
use Rattle.std.proofs.Math.Path.{refl}
use Rattle.notation.specs.Limits.{text_limit}
use Rattle.notation.specs.Tree.{Declaration}
use Rattle.notation.specs.Reader.{Result, got, refused}
use Rattle.notation.specs.Scripts.{read_text}
use Rattle.notation.specs.declared.reading.Cursor.{Cursor}
use Rattle.notation.proofs.ScriptReadings.{read_numbered, read_offset}
use Rattle.grammar.specs.Notation.{Derives, Refused}
use Rattle.calculus.specs.Verdict as verdicts
use Rattle.calculus.specs.Verdict.{Verdict, fine, and_then}
use Rattle.calculus.specs.Declarations.{declared}
use Rattle.calculus.specs.Checking.{typed}
use Rattle.calculus.specs.Accepted.{Checked, faulty, judged, checked_read, checked}
use Rattle.theory_notation.specs.Notated.{derives_iff, refused_iff}
use Rattle.theory_refusals.specs.Offsets.{OffsetOf}
use Rattle.theory_refusals.specs.Verdicts.{Between, Refusing, Fault, fault, both, refusing_as, declared_within, typed_within}
use Rattle.theory_refusals.specs.Starts.{StartsToken, start_within}
use Rattle.theory_refusals.specs.Tokens.{script_starts, refusal_starts}

-- refusal n of a text, at i
pub record RefusedAt (s : List ℕ) (n i : ℕ) : Type 0 where
  -- "text length if it ends early"; "No offset passes 8,192"
  pub within : i ≤ length s
  pub limit : i ≤ text_limit
  -- "The text is over its limit (offset 8,192)."
  pub over : n ≡ 2 → (text_limit < length s) × (i ≡ text_limit)
  -- "The offset is that of the first byte of the token at fault"
  pub token : 3 ≤ n → StartsToken s i
  -- 2 to 5 as the rules of the notation refuse
  pub notation : n ≤ 5 → Refused s n i
  pub script : 6 ≤ n → (ds : List Declaration) × Derives s ds × OffsetOf i ds

module _ (s : List ℕ) where
  abbrev At : Checked → Type 0
  At k = (n i : ℕ) → k ≡ faulty n i → RefusedAt s n i

  judged_at : (ds : List Declaration) (d : Cursor) → read_text s ≡ got ds d → (v : Verdict) → Refusing (Fault (Between 6 15) (λ i. OffsetOf i ds)) v → At (judged ds v)
  judged_at ds d e fine h n i z = absurd (let o : ◌≡◌ {A = ℕ} 0 1 = cc in omega arith)
  judged_at ds d e (verdicts.refused m j) h n i z =
      let o : j ≡ i = cc in
      let r = script_starts s ds d e in
      let t = subst (StartsToken s) o (r.1 j h.holds.offset) in
      let w = start_within t in
      let b = h.holds.number in
      let k : m ≡ n = cc in
      record {
        within = w;
        limit = omega (arith, w, r.0);
        over = λ z. absurd (omega (arith, b, k, z));
        token = λ _. t;
        notation = λ z. absurd (omega (arith, b, k, z));
        script = λ _. (ds, (derives_iff s ds).0 (d, e), subst (λ i. OffsetOf i ds) o h.holds.offset);
      }

  pub checked_at : (n i : ℕ) → checked s ≡ faulty n i → RefusedAt s n i
  unfolding checked
  checked_at = go (read_text s) refl
    where
      go : (r : Result (List Declaration)) → read_text s ≡ r → At (checked_read r)
      go (got ds d) e =
          judged_at ds d e (and_then (declared ds) (typed ds))
          (both (refusing_as (λ n i h. let b = h.number in fault (omega (arith, b)) h.offset) (declared_within ds))
          (refusing_as (λ n i h. let b = h.number in fault (omega (arith, b)) h.offset) (typed_within ds)))
      go (refused m j) e = λ n i z.
          let k : m ≡ n = cc in
          let l : j ≡ i = cc in
          let f = e ∙ λ t. refused (k t) (l t) in
          let o = read_offset s n i f in
          let b = read_numbered s n i f in
          let r = refusal_starts s n i f in
          record { within = o.0; limit = o.1; over = r.0; token = r.1; notation = λ _. (refused_iff s n i).0 f; script = λ h. absurd (omega (arith, b, h)) }
