-- Rules that only let go: of channels, of a link, of a place in the list.
use Rattle.std.specs.Prelude.{◌≡◌, refl, Bool, true, false, ℕ}
use Rattle.std.proofs.Common.{sym, ◌∙◌, ap, subst, true≢false, arith}
use Rattle.std.proofs.Math.Logic.{ite, apply_ite}
use mathlib.Core.List.Sublistᴰ
use mathlib.Core.List.{List, Sublistᴰ}
use Rattle.std.proofs.Math.Option.{Option, some, none, none-ne-some}
use Rattle.std.proofs.Math.Decide.{ℕ_discrete}
use Rattle.notation.specs.Tree.{Name}
use Rattle.calculus.specs.Named.{names, In}
use Rattle.calculus.specs.Program.{Program}
use Rattle.calculus.specs.Configuration.{End, Doing, Process, Outside, doing_now, linked_by, becoming}
use Rattle.calculus.specs.WellFormed.{context_of, is_waiting}
use Rattle.theory_derivations.specs.Lists.{sub_in}
use Rattle.theory_preservation.specs.Witness.{Tip, Recast, recast_same, recasting}
use Rattle.theory_preservation.specs.Outsides.{fair_less}
use Rattle.theory_preservation.specs.Mates.{put, put_elim, put_at, Profile, Mates, mates_same, mates_put, mates_cut, Quiet, quiet_none, quiet_some}
use Rattle.theory_preservation.specs.Roster.{Roster, tip_of, link_tip, outside_tip, Tips, holds, links, waits, Has, outside, inside, TypedDoing, Fine, fine_less, fine_holding, Continues, profile, Good, Afterwards, nobody_after, one_after, good_after, same_after, becomes, one_good, NamesDiffer}

-- what is seen of a roster after a process is put in
pub profile_put : (u : ℕ) (x : Option Process) (S : Roster) (v : ℕ) → profile (put u x S v) ≡ put u (profile x) (λ v. profile (S v)) v
profile_put u x S v = apply_ite profile (ℕ_discrete v u) x (S v)

pub profile_put_two : (u w : ℕ) (x y : Option Process) (S : Roster) (v : ℕ) → profile (put u x (put w y S) v) ≡ put u (profile x) (put w (profile y) (λ v. profile (S v))) v
profile_put_two u w x y S v = profile_put u x (put w y S) v ∙ ap (λ z. ite (ℕ_discrete v u) (profile x) z) (profile_put w y S v)

put_twice : {X : Type 0} (u : ℕ) (x y : X) (F : ℕ → X) (v : ℕ) → put u x (put u y F) v ≡ put u x F v
put_twice u x y F v = go (ℕ_discrete v u)
  where
    go : (d : Dec (v ≡ u)) → ite d x (ite d y (F v)) ≡ ite d x (F v)
    go (yes _) = refl
    go (no _) = refl

module _ {p : Program} {S : Roster} {o : List Outside} {given next : ℕ} (G : Good p S o given next) where
  -- ── the process r of u now does d and holds l: ends that it had, with types that are one with those they had
  pub less : (u : ℕ) (r : Process) → S u ≡ some r → (d : Doing) (l : List (Name × End)) → is_waiting r.doing ≡ is_waiting d → Fine p (becoming d l r)
      → ((x : Name × End) → In x l → Recast p (Has S o) u (tip_of x.1)) → {o' : List Outside} → Sublistᴰ o' o → Good p (put u (some (becoming d l r)) S) o' given next
  less u r su d l w f s k =
      one_good G (recasting G.witness) u (becoming d l r)
      (becomes G (Recast p (Has S o)) u r su d l w f s (λ h s t. recast_same p (Has S o) u (link_tip h s) t))
      (λ v e n z t. recast_same p (Has S o) v e t) (λ y i. recast_same p (Has S o) 0 (outside_tip y) (outside refl y (sub_in k i) refl)) (fair_less G.fair k)

  pub lessen : {u : ℕ} {r : Process} {d : Doing} → Continues S u r d → {l : List (Name × End)} → Sublistᴰ l r.held
      → TypedDoing p (context_of l) d → {o' : List Outside} → Sublistᴰ o' o → Good p (put u (some (becoming d l r)) S) o' given next
  lessen {u} {r} {d} a {l} s t k =
      less u r a.there d l a.goes.waits (fine_less (G.fine u r a.there) d a.goes s t)
      (λ x i. recast_same p (Has S o) u (tip_of x.1) (inside r a.there (holds x (sub_in s i) refl))) k

  -- ── links go too
  abbrev Shrinks : ℕ → Option Process → Type 0
  Shrinks = Afterwards p (Has S o) next

  shrunk_good : {S' : Roster} → ((v : ℕ) → Shrinks v (S' v)) → Mates (λ v. profile (S' v)) → Good p S' o given next
  shrunk_good c m = good_after G.witness c m (λ y i. outside refl y i refl) G.fair

  stays : (v : ℕ) → Shrinks v (S v)
  stays v = same_after G v (omega arith) (λ e _ h. h)

  -- the process r of v does d from now on, which is no waiting, and holds l, with its link or none
  shrinks_to : (v : ℕ) (r : Process) → S v ≡ some r → (d : Doing) {l : List (Name × End)} → Sublistᴰ l r.held → (k : Option ℕ) → is_waiting d ≡ false
      → ((h : ℕ) → k ≡ some h → r.link ≡ some h) → NamesDiffer d (names l) → TypedDoing p (context_of l) d
      → Shrinks v (some (linked_by k (becoming d l r)))
  shrinks_to v r sv d {l} a k w s n t = one_after (linked_by k (becoming d l r)) (G.placed v r sv) (fine_holding (G.fine v r sv) d k a n t) here
    where
      here : (e : Tip) → Tips v (linked_by k (becoming d l r)) e → Has S o v e
      here e (holds x i z) = inside r sv (holds x (sub_in a i) z)
      here e (links h y z) = inside r sv (links h (s h y) z)
      here e (waits y z) = absurd (true≢false (sym y ∙ w))

  profile_at : (v : ℕ) (r : Process) → S v ≡ some r → (b : Bool) → is_waiting r.doing ≡ b → profile (S v) ≡ some (r.link, b)
  profile_at v r sv b w = ap profile sv ∙ ap (λ b. some (r.link, b)) w

  -- the process r of u, linked to the waiting s of h, goes on without its link, and s without waiting
  module _ (u h : ℕ) (r s : Process) (su : S u ≡ some r) (sh : S h ≡ some s) (w : is_waiting r.doing ≡ false) (lk : r.link ≡ some h) (wh : is_waiting s.doing ≡ true)
      (d : Doing) (wd : is_waiting d ≡ false) (nd : NamesDiffer d (names s.held)) (td : TypedDoing p (context_of s.held) d) where
    cut_mates : Mates (put u (some (none, false)) (put h (some (s.link, false)) (λ v. profile (S v))))
    cut_mates = mates_cut G.mates u h s.link (profile_at u r su false w ∙ ap (λ l. some (l, false)) lk) (profile_at h s sh true wh)

    handler : Shrinks h (some (doing_now d s))
    handler = shrinks_to h s sh d (Sublistᴰ.refl s.held) s.link wd (λ _ e. e) nd td

    rest_same : (x : Option Process) (y : Profile) → profile x ≡ y → (v : ℕ)
        → put u y (put h (some (s.link, false)) (λ v. profile (S v))) v ≡ profile (put u x (put h (some (doing_now d s)) S) v)
    rest_same x y e v =
        sym (profile_put_two u h x (some (doing_now d s)) S v
        ∙ (λ i. put u (e i) (put h (some (s.link, wd i)) (λ v. profile (S v))) v))

    pub started : (d' : Doing) → is_waiting d' ≡ false → {l : List (Name × End)} → Sublistᴰ l r.held → NamesDiffer d' (names l) → TypedDoing p (context_of l) d'
        → Good p (put u (some (linked_by none (becoming d' l r))) (put h (some (doing_now d s)) S)) o given next
    started d' w' {l} a n t =
        shrunk_good
        (put_elim Shrinks u _ (put h (some (doing_now d s)) S) (shrinks_to u r su d' a none w' (λ k e. absurd (none-ne-some k e)) n t)
        (λ v _. put_elim Shrinks h _ S handler (λ v _. stays v) v))
        (mates_same (rest_same (some (linked_by none (becoming d' l r))) (some (none, false)) (ap (λ b. some (none, b)) w')) cut_mates)

    pub left : Good p (put u none (put h (some (doing_now d s)) S)) o given next
    left =
        shrunk_good
        (put_elim Shrinks u none (put h (some (doing_now d s)) S) nobody_after (λ v _. put_elim Shrinks h _ S handler (λ v _. stays v) v))
        (mates_same (λ v. put_twice u none (some (none, false)) (put h (some (s.link, false)) (λ v. profile (S v))) v ∙ rest_same none none refl v)
        (mates_put cut_mates u none (subst Quiet (sym (put_at u (some (none, false)) (put h (some (s.link, false)) (λ v. profile (S v))) u refl)) quiet_some) quiet_none))

  -- without a link nothing else changes
  pub left_alone : (u : ℕ) (r : Process) → S u ≡ some r → is_waiting r.doing ≡ false → r.link ≡ none → Good p (put u none S) o given next
  left_alone u r su w lk =
      shrunk_good (put_elim Shrinks u none S nobody_after (λ v _. stays v))
      (mates_same (λ v. sym (profile_put u none S v)) (mates_put G.mates u none (subst Quiet (sym (profile_at u r su false w ∙ ap (λ l. some (l, false)) lk)) quiet_some) quiet_none))
