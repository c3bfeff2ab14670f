-- What the check of a text leaves: the refusal, or the tables of an accepted text.
use Rattle.std.specs.Prelude.{ℕ, ◌≤◌, ◌≡◌, List, ◌++◌, Bool, length, take, drop}
use Rattle.std.proofs.Math.Path.{refl}
use Rattle.std.proofs.Common.{sym, ◌∙◌, ap, subst, leb-true, leb-false, take_at}
use Rattle.std.proofs.Math.Bool.{true, false, cond}
use Rattle.std.proofs.Math.Dec.{leb}
use Rattle.notation.specs.Limits.{scratch_words}
use Rattle.notation.specs.Tables.{tables}
use Rattle.notation.specs.Tree.{Declaration}
use Rattle.calculus.specs.Accepted.{Checked, accepted, faulty, checked}
use Rattle.calculus.specs.Machine.{text_checked}
use Rattle.calculus.specs.Verdict.{fine}
use Rattle.calculus.specs.Verdict as calculus
use Rattle.calculus.specs.Verdict.{verdict_of}
use Rattle.std.specs.Prelude.{Ok}
use Rattle.notation.specs.Refusals.{OrRefusal, refuses}
use Rattle.read_tables.specs.Whole.{tables_length}
use Rattle.check_text.specs.Texts.{verdict_in, words_in, TextChecked}
use Rattle.check_accepted.specs.Texts.{TextIn}

abbrev IsFine : calculus.Verdict → Type 0
IsFine fine = Unit {0}
IsFine (calculus.refused n i) = ⊥

abbrev number_of : calculus.Verdict → ℕ
number_of fine = 0
number_of (calculus.refused n i) = n

abbrev offset_of : calculus.Verdict → ℕ
offset_of fine = 0
offset_of (calculus.refused n i) = i

abbrev IsRefused : calculus.Verdict → Type 0
IsRefused fine = ⊥
IsRefused (calculus.refused n i) = Unit {0}

pub refused_so : (c : Checked) (n i : ℕ) → calculus.refused n i ≡ verdict_in c → c ≡ faulty n i
refused_so (accepted ds) n i e = absurd (subst IsRefused e tt)
refused_so (faulty m j) n i e = λ k. faulty (number_of (sym e k)) (offset_of (sym e k))

pub fine_so : (c : Checked) → fine ≡ verdict_in c → (ds : List Declaration) × (c ≡ accepted ds)
fine_so (accepted ds) e = (ds, refl)
fine_so (faulty n i) e = absurd (subst IsFine e tt)

module _ (s w x : List ℕ) (r : OrRefusal (Unit {0})) (t : TextChecked s w r x) where
  -- refused
  pub text_refused : (n i : ℕ) → r ≡ refuses n i → text_checked s (length w) ≡ faulty n i
  unfolding text_checked
  text_refused n i q = go (leb scratch_words (length w)) refl
    where
      go : (b : Bool) → leb scratch_words (length w) ≡ b → cond b (checked s) (faulty 1 0) ≡ faulty n i
      go true e = refused_so (checked s) n i (ap verdict_of (sym q) ∙ (t.enough (leb-true scratch_words (length w) e)).0)
      go false e = refused_so (faulty 1 0) n i (ap verdict_of (sym q ∙ (t.short (leb-false scratch_words (length w) e)).0))

  -- accepted
  module _ (q : r ≡ (Ok tt)) where
    pub scratch_enough_lem : scratch_words ≤ length w
    scratch_enough_lem = go (leb scratch_words (length w)) refl
      where
        go : (b : Bool) → leb scratch_words (length w) ≡ b → scratch_words ≤ length w
        go true e = leb-true scratch_words (length w) e
        go false e = absurd (subst IsFine (ap verdict_of (sym q ∙ (t.short (leb-false scratch_words (length w) e)).0)) tt)

    pub script_of_lem : (ds : List Declaration) × (checked s ≡ accepted ds)
    script_of_lem = fine_so (checked s) (ap verdict_of (sym q) ∙ (t.enough scratch_enough_lem).0)

    words_are : x ≡ tables s ++ drop scratch_words w
    words_are = (t.enough scratch_enough_lem).1 ∙ ap (λ c. words_in s c ++ drop scratch_words w) script_of_lem.1

    pub text_accepted : TextIn s (take scratch_words x)
    text_accepted = record {
      script = script_of_lem.0;
      accepts = script_of_lem.1;
      words = ap (take scratch_words) words_are ∙ take_at (tables s) (drop scratch_words w) scratch_words (tables_length s);
      fits = (t.enough scratch_enough_lem).2;
    }
