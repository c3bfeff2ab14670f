-- An end that nobody has: no process holds one of its key, nor does the outside. What is done to what they hold keeps that.
use Rattle.std.specs.Prelude.{ℕ, ◌≡◌, refl, ◌≢◌, List, set}
use Rattle.std.proofs.Common.{sym, ◌∙◌, ap, subst, ⊎_elim}
use mathlib.Core.List.Memᴰ
use Rattle.std.proofs.Math.Option.{Option, some, none}
use Rattle.notation.specs.Tree.{Name, Proc}
use Rattle.calculus.specs.Named.{without, In}
use Rattle.calculus.specs.Types.{Side, used, other}
use Rattle.calculus.specs.Program.{Program}
use Rattle.calculus.specs.Mentions.{spawn_takes, spawn_leaves, try_takes}
use Rattle.calculus.specs.Configuration.{End, Process, Outside, Config, Far, given_up, far_end}
use Rattle.calculus.specs.Steps.{Message, onward, bound, new_outside}
use Rattle.calculus.specs.WellFormed.{key}
use Rattle.theory_ends.specs.Lists.{found_in, in_found}
use Rattle.theory_ends.specs.Names.{without_sub, kept_sub, changed_map}
use Rattle.theory_ends.specs.Ends.{key_at}
use Rattle.theory_ends.specs.FarEnds.{FarIs, at_process_lem, at_outside_lem, at_nobody, far_is, far_nobody, far_key, given_up_unheld, found_key}
use Rattle.theory_preservation.specs.Each.{Each, EachProcess, each_none, each_one, each_sub, each_set}
use Rattle.theory_preservation.specs.Relocating.{Relocated}
use Rattle.theory_preservation.specs.FarEnds.{other_used}

-- no end of what a process holds has the key κ
abbrev pub FreeOf : ℕ × Side → List (Name × End) → Type 0
FreeOf κ l = Each (λ (x : Name × End). key_at x ≢ κ) l

-- nor has one of the outside's, all on the used side
abbrev pub OutsideFreeOf : ℕ × Side → List Outside → Type 0
OutsideFreeOf κ o = Each (λ (y : Outside). (y.channel, used) ≢ κ) o

-- nobody has an end of the key κ
pub record Nobody (κ : ℕ × Side) (l : List Process) (o : List Outside) : Type 0 where
  pub processes : EachProcess (λ _. FreeOf κ) l
  pub outside : OutsideFreeOf κ o

-- ── a far end was given up exactly if nobody has it
module _ (C : Config) (e : End) where
  pub given_up_nobody : far_end C e ≡ given_up → Nobody (far_key e) C.processes C.outside
  given_up_nobody z = record {
    processes = λ q i x m. given_up_unheld e z (record { there = (in_found i).1 }) m;
    outside = λ y i k. (far_nobody C e z).outside (other_used e.side (ap (λ (k : ℕ × Side). k.1) (sym k))) y i (ap (λ (k : ℕ × Side). k.0) k);
  }

  pub nobody_given_up : Nobody (far_key e) C.processes C.outside → far_end C e ≡ given_up
  nobody_given_up n = go (far_is C e)
    where
      go : {f : Far} → FarIs C e f → f ≡ given_up
      go (at_process_lem h f) = absurd (n.processes h.process (found_in C.processes h.place f.stands) (h.name, f.end) f.held (found_key f))
      go (at_outside_lem m y i c s) = absurd (n.outside y i (λ j. (c j, other (sym s j))))
      go (at_nobody a o) = refl

module _ {κ : ℕ × Side} where
  -- ── what a process holds
  pub free_without : (c : Name) (l : List (Name × End)) → FreeOf κ l → FreeOf κ (without c l)
  free_without c l = each_sub _ (without_sub c l)

  -- the halves of a spawn and of a try
  pub free_spawn_takes : (x : Name) (P : Proc) (l : List (Name × End)) → FreeOf κ l → FreeOf κ (spawn_takes x P l)
  unfolding spawn_takes
  free_spawn_takes x P l = each_sub _ (kept_sub _ l)

  pub free_spawn_leaves : (x : Name) (P : Proc) (l : List (Name × End)) → FreeOf κ l → FreeOf κ (spawn_leaves x P l)
  unfolding spawn_leaves
  free_spawn_leaves x P l = each_sub _ (kept_sub _ l)

  pub free_try_takes : (P : Proc) (l : List (Name × End)) → FreeOf κ l → FreeOf κ (try_takes P l)
  unfolding try_takes
  free_try_takes P l = each_sub _ (kept_sub _ l)

  -- a message goes over c: its end keeps its key
  pub free_onward : (p : Program) (m : Message) (c : Name) (l : List (Name × End)) → FreeOf κ l → FreeOf κ (onward p m c l)
  free_onward p m c l f x i z =
      let y = Memᴰ.of_map key_at l (subst (In (key_at x)) (changed_map key c _ (λ e. refl) l) (Memᴰ.map key_at i)) in
      f y.0 y.1 (y.2 ∙ z)

  -- the end that came over a channel keeps its key
  pub free_bound : (p : Program) (x : Name) (e d : Option End) → ((b : End) → d ≡ some b → key b ≢ κ) → FreeOf κ (bound p x e d)
  free_bound p x none d f = each_none _
  free_bound p x (some e) none f = each_none _
  free_bound p x (some e) (some d) f = each_one _ _ (f d refl)

  -- an end is moved to the channel m
  pub free_relocated : {f : End} {m : ℕ} {l l' : List (Name × End)} → Relocated f m l l' → (m, f.side) ≢ κ → FreeOf κ l → FreeOf κ l'
  free_relocated r n u x i = ⊎_elim (λ e z. n (ap key (sym e) ∙ z)) (λ y. u x y.0) (r.entry x i)

  -- ── a channel comes to the outside
  pub free_new : (p : Program) (n : ℕ) (o : Option Outside) (d : End) → (d.channel, used) ≢ κ → OutsideFreeOf κ (new_outside p n o d)
  free_new p n none d f = each_none _
  free_new p n (some o) d f = each_one _ _ f

  -- ── a process is replaced
  pub nobody_set : {l : List Process} {o : List Outside} → Nobody κ l o → (i : ℕ) (q : Process) → FreeOf κ q.held → Nobody κ (set l i q) o
  nobody_set {l} n i q f = record { processes = each_set _ l i q n.processes f; outside = n.outside }
