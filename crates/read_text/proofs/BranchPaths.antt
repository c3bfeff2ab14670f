-- The loop over the branches of a recv: each one's word is kept until the list ends.
use mathlib.Core.Path.{◌≡◌, refl, ap, sym, ◌∙◌}
use mathlib.Core.List.{List}
use mathlib.Core.Bool.{true, false}
use Prim.Native.Nat.{ℕ, suc, ◌+◌, ◌*◌, ◌<◌, ◌≤◌}
use native.Mathlib.Omega.{arith}
use lib.ListN.{length, set, length-set}
use lib.Dec.{eqb, ltb}
use borrow.Author.Tests.{ltb-true}
use Rattle.std.specs.Prelude.{Ok, Err}
use Rattle.notation.specs.Fine.{FineBranches, SomeBranch}
use Rattle.notation.specs.Limits.{label_limit}
use Rattle.notation.specs.Token.{kind_at, k_bar, k_then, k_label}
use Rattle.notation.specs.Tree.{Proc, Branches, branch}
use Rattle.notation.specs.Reader.{Taken, got, on_token, part, lastly, expect, then_token, label_in}
use Rattle.notation.specs.Types.{label_term}
use Rattle.notation.specs.Processes.{branches_by, more_branches_by, read_process, read_branches}
use Rattle.notation.specs.Tables.{branches_at, pair_word, put_branch, pointer_to, after_process, write_process, after_branches, write_branches}
use Rattle.notation.specs.declared.refusal.Refusal.{Refusal}
use Rattle.notation.specs.declared.reading.Cursor.{Cursor}
use Rattle.notation.specs.declared.reading.Tally.{Tally}
use Rattle.read_types.specs.Filling.{Out, Kept, Stepped, ListPut, list_put, Room, Form, Meets, unread}
use Rattle.read_types.proofs.Listing.{list_none, list_more}
use Rattle.read_types.proofs.TypePaths.{then_take}
use Rattle.read_types.proofs.Filled.{same, ◌upon◌, took, made_got, gone_on, stopped, more_no, more_got, more_made}
use Rattle.read_text.specs.Turns.{peek, AheadProcess, ProcessRead}
use Rattle.read_text.specs.Processes.{label_then, BranchesRead}
use Rattle.read_text.proofs.Turning.{limit_held, made_as, meets_as, lastly_same}
use Rattle.read_text.proofs.Pointers.{pointer_at}

-- so many branches, and the length of their list
abbrev filled : Tally → ℕ → ℕ → Tally
filled k branches last = record {
  types = k.types;
  processes = k.processes;
  execs = k.execs;
  entries = k.entries;
  nodes = k.nodes;
  alternatives = k.alternatives;
  terms = k.terms;
  branches = branches;
  last = last;
}

filled_path : (k : Tally) {a b c d : ℕ} → a ≡ b → c ≡ d → filled k a c ≡ filled k b d
filled_path k p q i = filled k (p i) (q i)

abbrev listed : ℕ → Tally → Tally
listed n k = filled k (k.branches + n) (k.last + n)

-- branches, and then the n that were kept before them
abbrev kept_form : List ℕ → ℕ → Form Branches
kept_form kept n = record {
  after = λ B k. listed n (after_branches B k);
  write = λ B k w. list_put kept n (branches_at + (after_branches B k).branches) (write_branches B k w);
  Fine = λ B. FineBranches B × SomeBranch B;
  Ahead = λ s c k d l. AheadProcess (1 + 5 * n) s c k d l × (l.last ≤ label_limit);
}

-- n branches are kept, and the rest of the list is to be read: its answer, with the kept ones put, is the answer of the whole
pub record Keeping (s w₀ : List ℕ) (c₀ : Cursor) (k₀ : Tally) (kept w : List ℕ) (c : Cursor) (k : Tally) (n : ℕ) : Type 0 where
  pub room : Room s w c k
  pub few : n ≤ label_limit
  pub bytes : 5 * k.branches + 5 * n ≤ c.at
  pub wide : length kept ≡ label_limit
  pub later : c₀.at ≤ c.at
  pub stays : Kept w₀ w
  pub whole : (r : Out) (u : List ℕ) → Meets (kept_form kept n) s w c k (3 * unread s c + 1) (λ m. read_branches m s n c) r u → BranchesRead s w₀ c₀ k₀ r u

pub keeping_start : {s w : List ℕ} {c : Cursor} {k : Tally} (kept : List ℕ) → length kept ≡ label_limit → Room s w c k → Keeping s w c k kept w c k 0
keeping_start {s} {w} {c} {k} kept e h = record {
  room = h;
  few = omega arith;
  bytes = omega arith;
  wide = e;
  later = omega arith;
  stays = same;
  whole = λ r u a. meets_as a (λ B. B) w k (λ m lo. (lastly_same (read_branches m s 0 c), lo)) same
      (λ m B d _ fi _. (
        filled_path (after_branches B k) (omega arith) (omega arith),
        list_none kept 0 (branches_at + (after_branches B k).branches)
            (write_branches B k w) refl,
        fi,
      ))
      (λ d l o. omega arith);
}

-- a branch that is read comes within its list's limit
pub branch_few : (s : List ℕ) (n : ℕ) (c : Cursor) {q : Taken} {i : ℕ} {d : Cursor} → Stepped s c 4 0 0 (label_then s n c) q → q ≡ Ok (i, d) → n < label_limit
unfolding label_then label_term
branch_few s n c u e = ltb-true n label_limit (limit_held (λ x. then_token x (expect s k_then)) (λ y. refl) (expect s k_label c) (ltb n label_limit) (took u e))

module _ {s w₀ : List ℕ} {c₀ : Cursor} {k₀ : Tally} (kept w : List ℕ) (c : Cursor) (k : Tally) (n : ℕ) (h : Keeping s w₀ c₀ k₀ kept w c k n) {q : Taken}
    (u : Stepped s c 4 0 0 (label_then s n c) q) where
  branches_is : (m : ℕ) → read_branches (suc m) s n c
      ≡ on_token (label_then s n c) (λ i e. part (read_process m s e) λ P f. lastly (branch (label_in s i) P) (more_branches_by (λ d. read_branches m s (n + 1) d) s f))
  unfolding label_then branches_by read_process
  branches_is m = sym (then_take (label_term s n c) (expect s k_then) _)

  pub branches_no : {r : Out} {y : Refusal} → q ≡ Err y → r ≡ Err y → BranchesRead s w₀ c₀ k₀ r w
  branches_no g x = h.whole _ w (more_no (kept_form kept n) s w c k (λ m. read_branches m s n c) x same (λ m _. branches_is m ∙ rw (took u g)))

  module _ {i : ℕ} {d : Cursor} (e : q ≡ Ok (i, d)) {p : Out} {v : List ℕ} (t : ProcessRead s w d k p v) where
    pub branches_inner_no : {r : Out} {y : Refusal} → p ≡ Err y → r ≡ Err y → BranchesRead s w₀ c₀ k₀ r v
    branches_inner_no g r-is =
        let o = u.on i d e in
        h.whole _ v (more_no (kept_form kept n) s w c k (λ m. read_branches m s n c) r-is t.kept
        (λ m lo. branches_is m ∙ rw (took u e, stopped (read_process m s d) (t.is m (omega arith)) g)))

    module _ {f : Cursor} {l : Tally} (g : p ≡ Ok (f, l)) {to x : ℕ} (ep : to ≡ peek s d.at k.terms) (ex : x ≡ pair_word i to) where
      -- one more kept is one branch more written
      kept_more : (m : ℕ) (P : Proc) (B : Branches) → read_process m s d ≡ got P f → l ≡ after_process P k → v ≡ write_process P k w
          → (listed (n + 1) (after_branches B l) ≡ listed n (after_branches (branch (label_in s i) P B) k))
          × (list_put (set kept n x) (n + 1) (branches_at + (after_branches B l).branches) (write_branches B l v)
          ≡ list_put kept n (branches_at + (after_branches (branch (label_in s i) P B) k).branches) (write_branches (branch (label_in s i) P B) k w))
      unfolding after_branches write_branches put_branch
      kept_more m P B a al av =
          let few = branch_few s n c u e in
          let wide = h.wide in
          let word : x ≡ pair_word i (pointer_to P k.terms) = ex ∙ ap (pair_word i) (ep ∙ sym (pointer_at m s d f P k.terms a)) in
          let after = after_branches B (after_process P k) in (
            ap (λ j. listed (n + 1) (after_branches B j)) al ∙ filled_path after (omega arith) (omega arith),
            list_more kept n x (branches_at + (after_branches B l).branches) (write_branches B l v) (omega arith)
                ∙ (λ j. list_put kept n (branches_at + (after_branches B (al j)).branches + 1) (set (write_branches B (al j) (av j))
                (branches_at + (after_branches B (al j)).branches) (word j)))
                ∙ ap (λ y. list_put kept n y (set (write_branches B (after_process P k) (write_process P k w)) (branches_at + after.branches)
                (pair_word i (pointer_to P k.terms)))) (omega arith),
          )

      module _ (bar : eqb (kind_at s f.at) k_bar ≡ true) {z : Taken} (y : Stepped s f 1 0 0 (expect s k_bar f) z) where
        pub branches_bar_no : {r : Out} {y : Refusal} → z ≡ Err y → r ≡ Err y → BranchesRead s w₀ c₀ k₀ r v
        branches_bar_no a b =
            let o = u.on i d e in
            h.whole _ v (more_no (kept_form kept n) s w c k (λ m. read_branches m s n c) b t.kept
            (λ m lo. gone_on (read_process m s d) (t.is m (omega arith)) g λ P b₂ _ _ _. branches_is m ∙ rw (took u e, b₂, bar, took y a)))

        module _ {j : ℕ} {b : Cursor} (a : z ≡ Ok (j, b)) where
          branches_whole : (r : Out) (y₂ : List ℕ) → Meets (kept_form (set kept n x) (n + 1)) s v b l (3 * unread s b + 1) (λ m. read_branches m s (n + 1) b) r y₂
              → Meets (kept_form kept n) s w c k (3 * unread s c + 1) (λ m. read_branches m s n c) r y₂
          unfolding FineBranches
          branches_whole r y₂ t₂ =
              let o = u.on i d e in
              let o₂ = t.on f l g in
              let o₃ = y.on j b a in
              let room = h.room in
              record {
                is = more_made (kept_form kept n) w k (λ m. read_branches m s n c)
                    (λ m lo. gone_on (read_process m s d) (t.is m (omega arith)) g λ P b₂ al av fi.
                    made_as t₂ (branch (label_in s i) P) w k m (omega arith) (branches_is m ∙ rw (took u e, b₂, bar, took y a))
                    (λ B _ _ fi₂ _. let more = kept_more m P B b₂ al av in (more.0, more.1, ((omega arith, fi, fi₂.0), omega arith))));
                kept = t₂.kept upon t.kept;
                on = λ b₃ l₃ q. let o₄ = t₂.on b₃ l₃ q in omega arith;
              }

          pub keeping_on : Keeping s w₀ c₀ k₀ (set kept n x) v b l (n + 1)
          keeping_on =
              let o = u.on i d e in
              let o₂ = t.on f l g in
              let o₃ = y.on j b a in
              let few = branch_few s n c u e in
              let room = h.room in
              let bytes = h.bytes in
              let later = h.later in
              record {
                room = omega (arith, t.kept.long);
                few = omega arith;
                bytes = omega arith;
                wide = length-set kept n x ∙ h.wide;
                later = omega arith;
                stays = t.kept upon h.stays;
                whole = λ r y₂ t₂. h.whole r y₂ (branches_whole r y₂ t₂);
              }

      pub branches_end : eqb (kind_at s f.at) k_bar ≡ false → {v₂ : List ℕ} → ListPut v (set kept n x) (n + 1) (branches_at + l.branches) v₂
          → BranchesRead s w₀ c₀ k₀ (Ok (f, filled l (l.branches + (n + 1)) (n + 1))) v₂
      unfolding after_branches write_branches FineBranches
      branches_end bar {v₂} pt =
          let o = u.on i d e in
          let o₂ = t.on f l g in
          let few = branch_few s n c u e in
          let room = h.room in
          let bytes = h.bytes in
          h.whole _ v₂ (more_got (kept_form kept n) s w c k (λ m. read_branches m s n c) (omega arith) (pt.kept upon t.kept)
          (λ m lo. gone_on (read_process m s d) (t.is m (omega arith)) g λ P b₂ al av fi.
          let more = kept_more m P Branches.none b₂ al av in
          made_got (branch (label_in s i) P Branches.none) (branches_is m ∙ rw (took u e, b₂, bar))
          (ap (λ x. Ok (f, x)) (filled_path l refl (omega arith) ∙ more.0)) (pt.words ∙ more.1) ((omega arith, fi, omega arith), omega arith)))
