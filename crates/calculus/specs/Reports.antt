-- What a report is, apart from how it is made: that `report` is the one list that is it stands in the proofs (`report_iff`).
use Rattle.std.specs.Prelude.{ℕ, ◌≡◌, refl, ◌↔◌, List, [], ◌∷◌, map}
use Rattle.std.proofs.Common.{sym}
use mathlib.Core.List.Memᴰ
use Rattle.calculus.specs.Configuration.{Outside, Config}
use Rattle.calculus.specs.Named.{In}
use Rattle.calculus.specs.WellFormed.{Rising}

-- one of these channels bears the number
pub record Bears (l : List Outside) (n : ℕ) : Type 0 where
  pub channel : Outside
  pub among : In channel l
  pub number : channel.number ≡ n

-- "the numbers of the outside channels still open, rising, each once"
pub record ReportOf (C : Config) (l : List ℕ) : Type 0 where
  -- each is below the next, so none comes twice
  pub rises : Rising 0 l
  pub exactly : (n : ℕ) → In n l ↔ Bears C.outside n

-- ── the numbers of channels are those that one of them bears
bears_later : {o : Outside} {l : List Outside} {n : ℕ} → Bears l n → Bears (o ∷ l) n
bears_later b = record { channel = b.channel; among = Memᴰ.tail b.among; number = b.number }

pub number_borne : (l : List Outside) (n : ℕ) → In n (map (λ (o : Outside). o.number) l) → Bears l n
number_borne [] n i = absurd (Memᴰ.not-nil i)
number_borne (o ∷ l) n (Memᴰ.head e) = record { channel = o; among = Memᴰ.head refl; number = sym e }
number_borne (o ∷ l) n (Memᴰ.tail i) = bears_later (number_borne l n i)
