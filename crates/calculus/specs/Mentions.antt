-- Which names a process mentions, and so which held channels a half takes: the tests that `check` makes, and by which a step divides what is held.
-- They need not be believed: laws say that they are exact (theory_derivations/specs/Mentioned.antt, Halves.antt).
use Rattle.std.specs.Prelude.{List, [], ◌∷◌, Bool, false, not, ◌&&◌, ◌||◌, cond}
use Rattle.notation.specs.Bytes.{same}
use Rattle.notation.specs.Tree.{Name, Located, Proc, empty, send_unit, send_channel, send_label, cancel, spawn, recv_unit, recv_channel, recv_label, fwd, call, raise, try, Branches, branch}
use Rattle.calculus.specs.Named.{kept, every}

abbrev pub is : Name → Located → Bool
is n c = same n c.name

abbrev pub is_one_of : Name → List Located → Bool
is_one_of n [] = false
is_one_of n (c ∷ cs) = is n c || is_one_of n cs

-- "A name bound anew inside a half is no mention of a held one."
unfoldable mutual
  pub mentions : Proc → Name → Bool
  mentions (empty at) n = false
  mentions (send_unit at c P) n = is n c || mentions P n
  mentions (send_channel at c a P) n = is n c || (is n a || mentions P n)
  mentions (send_label at c l P) n = is n c || mentions P n
  mentions (cancel at c P) n = is n c || mentions P n
  mentions (spawn x A P Q) n = not (is n x) && (mentions P n || mentions Q n)
  mentions (recv_unit at c P) n = is n c || mentions P n
  mentions (recv_channel at c x P) n = is n c || (not (is n x) && mentions P n)
  mentions (recv_label at c B) n = is n c || branches_mention B n
  mentions (fwd at x c) n = is n x || is n c
  mentions (call at p bracket xs ys) n = is_one_of n xs || is_one_of n ys
  mentions (raise at P) n = mentions P n
  mentions (try at P Q) n = mentions P n || mentions Q n

  pub branches_mention : Branches → Name → Bool
  branches_mention Branches.none n = false
  branches_mention (branch l P B) n = mentions P n || branches_mention B n

-- a half of `x : A <- (P); Q` mentions a held name; x in either half is the new one
unfoldable pub half_mentions : Name → Proc → Name → Bool
half_mentions x P n = not (same n x) && mentions P n

module _ {X : Type 0} where
  -- "P takes the held channels it mentions .. Q takes the rest"
  unfoldable pub spawn_takes : Name → Proc → List (Name × X) → List (Name × X)
  spawn_takes x P l = kept (half_mentions x P) l

  unfoldable pub spawn_leaves : Name → Proc → List (Name × X) → List (Name × X)
  spawn_leaves x P l = kept (λ n. not (half_mentions x P n)) l

  -- "each half takes what it mentions"
  unfoldable pub try_takes : Proc → List (Name × X) → List (Name × X)
  try_takes P l = kept (mentions P) l

-- "None is mentioned in both": of a spawn's halves
unfoldable pub never_both : Name → Proc → Proc → List Name → Bool
never_both x P Q held = every (λ n. not (half_mentions x P n && half_mentions x Q n)) held

-- "each held channel is mentioned in exactly one": of a try's halves
unfoldable pub exactly_one : Proc → Proc → List Name → Bool
exactly_one P Q held = every (λ n. cond (mentions P n) (not (mentions Q n)) (mentions Q n)) held
