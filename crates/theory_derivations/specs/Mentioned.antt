-- The tests of what a process mentions are exact.
use Rattle.std.specs.Prelude.{◌≡◌, refl, ◌↔◌, ◌≢◌, ◌⊎◌, List, [], ◌∷◌, not}
use Rattle.std.proofs.Common.{◌∙◌, ap, inl, inr, ⊎_elim}
use Rattle.std.proofs.Math.Logic.Iff
use mathlib.Core.List.Memᴰ
use Rattle.std.proofs.Math.Bool.{So}
use Rattle.notation.specs.Bytes.{same}
use Rattle.notation.specs.Tree.{Name, Located, Proc, empty, send_unit, send_channel, send_label, cancel, spawn, recv_unit, recv_channel, recv_label, fwd, call, raise, try, Branches, branch}
use Rattle.calculus.specs.Named.{In, names}
use Rattle.calculus.specs.Program.{Context, Held}
use Rattle.calculus.specs.Mentioned.{Mentions, by_send_unit, after_send_unit, by_recv_unit, after_recv_unit, by_send_channel, as_sent, after_send_channel, by_recv_channel, after_recv_channel, by_send_label, after_send_label, by_recv_label, in_branches, as_provided, as_used, in_provided, in_used, in_spawned, in_rest, in_tried, in_handler, after_raise, by_cancel, after_cancel, BranchesMention, in_this, in_another, HalfMentions}
use Rattle.calculus.specs.Mentions.{is_one_of, mentions, branches_mention, half_mentions, never_both, exactly_one}
use Rattle.theory_derivations.specs.Booleans.{never, ◌and◌, ◌or◌, no_iff, one_of, each_iff}
use Rattle.theory_derivations.specs.Equality.{same_iff}

-- another name
other_iff : (n x : Name) → So (not (same n x)) ↔ (n ≢ x)
other_iff n x = no_iff (same_iff n x)

is_one_of_iff : (n : Name) (xs : List Located) → So (is_one_of n xs) ↔ ((x : Located) × In x xs × (n ≡ x.name))
is_one_of_iff n [] = (never, λ (x, m, e). elim m [ ])
is_one_of_iff n (x ∷ xs) = Iff.trans (same_iff n x.name or is_one_of_iff n xs) (
  ⊎_elim (λ e. (x, Memᴰ.head refl, e)) (λ (y, m, e). (y, Memᴰ.tail m, e)),
  λ (y, m, e). ⊎_elim (λ h. inl (e ∙ ap (λ (z : Located). z.name) h)) (λ k. inr (y, k, e)) (Memᴰ.cases_cons m),
)

mutual
  unfolding mentions branches_mention

  pub mentions_iff : (P : Proc) (n : Name) → So (mentions P n) ↔ Mentions P n
  mentions_iff (empty at) n = (never, λ m. elim m [ ])
  mentions_iff (send_unit at c P) n = Iff.trans (same_iff n c.name or mentions_iff P n)
      (⊎_elim by_send_unit after_send_unit, λ m. elim m [ by_send_unit e ↦ inl e | after_send_unit d ↦ inr d ])
  mentions_iff (send_channel at c a P) n = Iff.trans (same_iff n c.name or (same_iff n a.name or mentions_iff P n))
      (⊎_elim by_send_channel (⊎_elim as_sent after_send_channel), λ m. elim m [ by_send_channel e ↦ inl e | as_sent e ↦ inr (inl e) | after_send_channel d ↦ inr (inr d) ])
  mentions_iff (send_label at c l P) n = Iff.trans (same_iff n c.name or mentions_iff P n)
      (⊎_elim by_send_label after_send_label, λ m. elim m [ by_send_label e ↦ inl e | after_send_label d ↦ inr d ])
  mentions_iff (cancel at c P) n = Iff.trans (same_iff n c.name or mentions_iff P n)
      (⊎_elim by_cancel after_cancel, λ m. elim m [ by_cancel e ↦ inl e | after_cancel d ↦ inr d ])
  mentions_iff (spawn x A P Q) n = Iff.trans (other_iff n x.name and (mentions_iff P n or mentions_iff Q n))
      (λ (h, m). ⊎_elim (in_spawned h) (in_rest h) m, λ m. elim m [ in_spawned h d ↦ (h, inl d) | in_rest h d ↦ (h, inr d) ])
  mentions_iff (recv_unit at c P) n = Iff.trans (same_iff n c.name or mentions_iff P n)
      (⊎_elim by_recv_unit after_recv_unit, λ m. elim m [ by_recv_unit e ↦ inl e | after_recv_unit d ↦ inr d ])
  mentions_iff (recv_channel at c x P) n = Iff.trans (same_iff n c.name or (other_iff n x.name and mentions_iff P n))
      (⊎_elim by_recv_channel (λ (h, d). after_recv_channel h d), λ m. elim m [ by_recv_channel e ↦ inl e | after_recv_channel h d ↦ inr (h, d) ])
  mentions_iff (recv_label at c B) n = Iff.trans (same_iff n c.name or branches_mention_iff B n)
      (⊎_elim by_recv_label in_branches, λ m. elim m [ by_recv_label e ↦ inl e | in_branches d ↦ inr d ])
  mentions_iff (fwd at x c) n = Iff.trans (same_iff n x.name or same_iff n c.name)
      (⊎_elim as_provided as_used, λ m. elim m [ as_provided e ↦ inl e | as_used e ↦ inr e ])
  mentions_iff (call at q bracket xs ys) n = Iff.trans (is_one_of_iff n xs or is_one_of_iff n ys)
      (⊎_elim (λ (x, i, e). in_provided x i e) (λ (y, i, e). in_used y i e), λ m. elim m [ in_provided x i e ↦ inl (x, i, e) | in_used y i e ↦ inr (y, i, e) ])
  mentions_iff (raise at P) n = Iff.trans (mentions_iff P n) (after_raise, λ m. elim m [ after_raise d ↦ d ])
  mentions_iff (try at P Q) n = Iff.trans (mentions_iff P n or mentions_iff Q n)
      (⊎_elim in_tried in_handler, λ m. elim m [ in_tried d ↦ inl d | in_handler d ↦ inr d ])

  branches_mention_iff : (B : Branches) (n : Name) → So (branches_mention B n) ↔ BranchesMention B n
  branches_mention_iff Branches.none n = (never, λ m. elim m [ ])
  branches_mention_iff (branch l P B) n = Iff.trans (mentions_iff P n or branches_mention_iff B n)
      (⊎_elim in_this in_another, λ m. elim m [ in_this d ↦ inl d | in_another d ↦ inr d ])

pub half_mentions_iff : (x : Name) (P : Proc) (n : Name) → So (half_mentions x P n) ↔ HalfMentions x P n
unfolding half_mentions
half_mentions_iff x P n = other_iff n x and mentions_iff P n

-- ── of each held name
pub never_both_iff : (x : Name) (P Q : Proc) (G : Context) → So (never_both x P Q (names G)) ↔ ((n : Name) → Held n G → ¬ (HalfMentions x P n × HalfMentions x Q n))
unfolding never_both
never_both_iff x P Q G = each_iff (λ n. no_iff (half_mentions_iff x P n and half_mentions_iff x Q n)) (names G)

pub exactly_one_iff : (P Q : Proc) (G : Context) → So (exactly_one P Q (names G)) ↔ ((n : Name) → Held n G → (Mentions P n × ¬ Mentions Q n) ⊎ (¬ Mentions P n × Mentions Q n))
unfolding exactly_one
exactly_one_iff P Q G = each_iff (λ n. one_of (mentions_iff P n) (mentions_iff Q n)) (names G)
