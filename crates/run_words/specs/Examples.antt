-- A run slice, decoded: one process, which holds a channel that the outside uses; the run has halted.
use Rattle.std.specs.Prelude.{ℕ, ◌+◌, ◌*◌, List, [], ◌∷◌, ◌++◌, ◌≡◌, refl, get_or, replicate}
use Rattle.std.proofs.Math.Option.{none}
use Rattle.calculus.specs.Types.{provided}
use Rattle.run_words.specs.Raw.{RawConfig, running_kind, raw_process, raw_of}

words : List ℕ
words =
    (1 ∷ 1 ∷ 1 ∷ 1 ∷ []) ++ (replicate 12 0
    ++ ((0 ∷ (3 * 512 + 7) ∷ []) ++ (replicate 62 0
    ++ ((4 * 5) ∷ 0 ∷ 1 ∷ (12 * 2) ∷ (3 * 512 + 7) ∷ []))))

meant : RawConfig
meant = record {
  processes = raw_process running_kind 5 (record { name = 12; side = provided; node = 3; channel = 7 } ∷ []) none ∷ [];
  outside = record { number = 0; node = 3; channel = 7 } ∷ [];
  given = 1;
  halted = 1;
}

decodes : raw_of (λ k. get_or words k 0) ≡ meant
unfolding words meant
decodes = refl
