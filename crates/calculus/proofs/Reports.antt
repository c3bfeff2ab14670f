-- `report` is the one list that is a report: it rises, and has the numbers of the channels still open.
use Rattle.std.specs.Prelude.{ℕ, suc, ◌≤◌, ◌≡◌, refl, ◌↔◌, List, [], ◌∷◌, map}
use Rattle.std.proofs.Common.{arith, sym, ◌∙◌, ap, subst}
use Rattle.std.proofs.Math.Logic.Iff
use mathlib.Core.List.Memᴰ
use Rattle.calculus.specs.Program.{Program}
use Rattle.calculus.specs.Configuration.{Outside, Config}
use Rattle.calculus.specs.Runs.{report}
use Rattle.calculus.specs.Named.{In}
use Rattle.calculus.specs.WellFormed.{Rising, WellFormed}
use Rattle.calculus.specs.Reports.{Bears, ReportOf, number_borne}

-- ── a channel's number is among the numbers
number_listed : (l : List Outside) (n : ℕ) (o : Outside) → In o l → o.number ≡ n → In n (map (λ (o : Outside). o.number) l)
number_listed [] n o i e = absurd (Memᴰ.not-nil i)
number_listed (x ∷ l) n o (Memᴰ.head z) e = Memᴰ.head (sym e ∙ ap (λ (o : Outside). o.number) z)
number_listed (x ∷ l) n o (Memᴰ.tail i) e = Memᴰ.tail (number_listed l n o i e)

-- ── lists that rise and have the same numbers are one list
rising_least : {low n : ℕ} (l : List ℕ) → Rising low l → In n l → low ≤ n
rising_least [] r i = absurd (Memᴰ.not-nil i)
rising_least (m ∷ l) (a, r) (Memᴰ.head e) = omega arith
rising_least (m ∷ l) (a, r) (Memᴰ.tail i) = let b = rising_least l r i in omega arith

-- the first of a list that rises is the least, so two such lists with the same numbers begin alike
same_first : (x y : ℕ) (l m : List ℕ) → Rising (suc x) l → Rising (suc y) m → In x (y ∷ m) → In y (x ∷ l) → x ≡ y
same_first x y l m r t (Memᴰ.head e) j = e
same_first x y l m r t (Memᴰ.tail i) (Memᴰ.head e) = sym e
same_first x y l m r t (Memᴰ.tail i) (Memᴰ.tail j) = let a = rising_least m t i in let b = rising_least l r j in absurd (omega arith)

-- .. and what follows it in one follows it in the other
past_first : {x n : ℕ} (l m : List ℕ) → Rising (suc x) l → In n l → In n (x ∷ m) → In n m
past_first l m r i (Memᴰ.head e) = let a = rising_least l r i in absurd (omega arith)
past_first l m r i (Memᴰ.tail j) = j

rising_one : (low : ℕ) (l m : List ℕ) → Rising low l → Rising low m → ((n : ℕ) → In n l ↔ In n m) → l ≡ m
rising_one low [] [] r t f = refl
rising_one low [] (y ∷ m) r t f = absurd (Memᴰ.not-nil ((f y).1 (Memᴰ.head refl)))
rising_one low (x ∷ l) [] r t f = absurd (Memᴰ.not-nil ((f x).0 (Memᴰ.head refl)))
rising_one low (x ∷ l) (y ∷ m) (a, r) (b, t) f =
    let e = same_first x y l m r t ((f x).0 (Memᴰ.head refl)) ((f y).1 (Memᴰ.head refl)) in
    let s = subst (λ z. Rising (suc z) m) (sym e) t in
    λ j. e j ∷ rising_one (suc x) l m r s (λ n. (
      λ i. past_first l m r i (subst (λ z. In n (z ∷ m)) (sym e) ((f n).0 (Memᴰ.tail i))),
      λ i. past_first m l s i ((f n).1 (Memᴰ.tail i)),
    )) j

-- ── the law of `report`
module _ {p : Program} {C : Config} (F : WellFormed p C) where
  pub report_rises : Rising 0 (report C)
  unfolding report
  report_rises = F.numbers

  pub report_exactly : (n : ℕ) → In n (report C) ↔ Bears C.outside n
  unfolding report
  report_exactly n = (number_borne C.outside n, λ b. number_listed C.outside n b.channel b.among b.number)

  -- a list is the report exactly when it rises and has the numbers of the channels still open
  pub report_iff : (l : List ℕ) → (l ≡ report C) ↔ ReportOf C l
  report_iff l = (
    λ e. subst (ReportOf C) (sym e) (record { rises = report_rises; exactly = report_exactly }),
    λ r. rising_one 0 l (report C) r.rises report_rises (λ n. Iff.trans (r.exactly n) (Iff.symm (report_exactly n))),
  )
