-- Joints, and what it is that they form a forest.
use Rattle.std.specs.Prelude.{ℕ, suc, ◌≡◌, List, [], ◌∷◌, ◌++◌}
use Rattle.std.proofs.Math.Option.{Option, some, none}
use Rattle.notation.specs.Tree.{Name}
use Rattle.calculus.specs.Types.{Side, provided, used}
use Rattle.calculus.specs.Configuration.{End, Process, Config, Far, at_process, at_outside, given_up, far_end}

-- a joint (the scope's term), by the places of the two processes that it joins
abbrev pub Joint : Type 0
Joint = ℕ × ℕ

-- `Connected J x y`: one can walk from x to y over joints of J, either way
pub data Connected : List Joint → ℕ → ℕ → Type 0 where
  here : {x y : ℕ} → x ≡ y → Connected [] x y
  past : {j : Joint} {J : List Joint} {x y : ℕ} → Connected J x y → Connected (j ∷ J) x y
  over : {j : Joint} {J : List Joint} {x y : ℕ} → Connected J x j.0 → Connected J j.1 y → Connected (j ∷ J) x y
  back : {j : Joint} {J : List Joint} {x y : ℕ} → Connected J x j.1 → Connected J j.0 y → Connected (j ∷ J) x y

-- "in a forest they close no circle, be it of one process or two": each joint is between places that those after it do not connect,
-- so no joint leads from a process to itself, and no two join the same processes
abbrev pub Forest : List Joint → Type 0
Forest [] = Unit {0}
Forest (j ∷ J) = Forest J × ¬ Connected J j.0 j.1

-- ── "A joint is a channel with processes at both ends, or a waiting handler's link"
abbrev pub joint_at : ℕ → Side → Far → List Joint
joint_at i provided (at_process h) = (i, h.place) ∷ []
joint_at i provided (at_outside n) = []
joint_at i provided given_up = []
joint_at i used f = []

-- the joints of the channels of which a process holds the provided end
abbrev pub channel_joints : Config → ℕ → List (Name × End) → List Joint
channel_joints C i [] = []
channel_joints C i (e ∷ l) = joint_at i e.1.side (far_end C e.1) ++ channel_joints C i l

abbrev pub link_joint : ℕ → Option ℕ → List Joint
link_joint i none = []
link_joint i (some h) = (i, h) ∷ []

abbrev pub joints_from : Config → ℕ → List Process → List Joint
joints_from C i [] = []
joints_from C i (q ∷ l) = (channel_joints C i q.held ++ link_joint i q.link) ++ joints_from C (suc i) l

unfoldable pub joints : Config → List Joint
joints C = joints_from C 0 C.processes
