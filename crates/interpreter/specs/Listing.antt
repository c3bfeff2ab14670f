-- A list laid into an array of words: it stands first, and zeros follow.
use Rattle.std.specs.Prelude.{ℕ, zero, suc, ◌+◌, ◌<◌, ◌≤◌, ◌≡◌, refl, List, [], ◌∷◌, ◌++◌, length, get_or, set, take, replicate}
use Rattle.std.proofs.Common.{sym, ◌∙◌, ap, arith, add-one, length-set, take_all, take-suc, take-suc-set, get_or-set_other}
use Rattle.std.proofs.lemmas.List.{length-replicate}
use Rattle.calculus.specs.Machine.{Answer}
use Rattle.interpreter.specs.Entries.{Request}
use Rattle.interpreter.specs.Inside.{AnswersIn}

pub record Listed (words l : List ℕ) : Type 0 where
  pub begins : take (length l) words ≡ l
  pub rest : (k : ℕ) → length l ≤ k → get_or words k 0 ≡ 0

-- ── the loop that lays it: k of the list stand in an array with room for so many
pub record Listing (room : ℕ) (l words : List ℕ) (k : ℕ) : Type 0 where
  pub long : length words ≡ room
  pub begins : take k words ≡ take k l
  pub rest : (j : ℕ) → k ≤ j → get_or words j 0 ≡ 0

pub none_listed : (n : ℕ) (j : ℕ) → get_or {A = ℕ} (replicate n 0) j 0 ≡ 0
none_listed zero j = refl
none_listed (suc n) zero = refl
none_listed (suc n) (suc j) = none_listed n j

pub listing_start : (room : ℕ) (l : List ℕ) → Listing room l (replicate room 0) 0
listing_start room l = record { long = length-replicate {A = ℕ} room 0; begins = refl; rest = λ j h. none_listed room j }

module _ {room : ℕ} (l words : List ℕ) (k : ℕ) (a : Listing room l words k) where
  pub listing_on : {x : ℕ} → k < length l → length l ≤ room → x ≡ get_or l k 0 → Listing room l (set words k x) (k + 1)
  listing_on {x} h m e = record {
    long = length-set words k x ∙ a.long;
    begins =
        ap (λ j. take j (set words k x)) (add-one k) ∙ take-suc-set words k x (omega (arith, a.long, h, m))
        ∙ (λ j. a.begins j ++ (e j ∷ []))
        ∙ sym (take-suc l k 0 h) ∙ ap (λ j. take j l) (sym (add-one k));
    rest = λ j b. get_or-set_other words k j x 0 (λ z. absurd (omega (arith, b, z))) ∙ a.rest j (omega (arith, b));
  }

  pub listing_end : length l ≤ k → k ≤ length l → Listed words l
  listing_end h m = record {
    begins = ap (λ j. take j words) {x = length l} {y = k} (omega (arith, h, m)) ∙ a.begins ∙ take_all k l h;
    rest = λ j b. a.rest j (omega (arith, b, h, m));
  }

-- ── an entry that lists, of an accepted text
pub record ListsIn (s ws : List ℕ) (q : Request) (a : Answer) (Rest : Type 0) : Type 0 where
  pub answers : AnswersIn s q ws a ws
  pub rest : Rest
