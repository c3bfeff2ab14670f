-- What is held, as typing sees it: a context commutes with all that is done to what is held.
use Rattle.std.specs.Prelude.{◌≡◌, refl, List, [], ◌∷◌, ◌++◌, Bool, length}
use Rattle.std.proofs.Common.{sym, ◌∙◌, ap}
use Rattle.std.proofs.Math.Option.{some, none, map, map-eq-some_iff, map-eq-none_iff}
use Rattle.std.proofs.lemmas.List.{length-map}
use Rattle.notation.specs.Tree.{Name, Ty}
use Rattle.calculus.specs.Named.{lookup, without, changed, kept, names}
use Rattle.calculus.specs.Types.{Side, unfolded}
use Rattle.calculus.specs.Program.{Slot, slot, Program}
use Rattle.calculus.specs.Typing.{unfolded_slot, acting, retyped}
use Rattle.calculus.specs.Configuration.{End, end}
use Rattle.calculus.specs.Configuration.{retyped_end}
use Rattle.calculus.specs.WellFormed.{context_of}
use Rattle.theory_ends.specs.Names.{seen_as, lookup_seen, without_seen, kept_seen, changed_seen, names_seen}

abbrev slot_of : End → Slot
slot_of e = slot e.side e.type

context_seen : (l : List (Name × End)) → context_of l ≡ seen_as slot_of l
context_seen [] = refl
context_seen (e ∷ l) = ap (λ r. (e.0, slot_of e.1) ∷ r) (context_seen l)

pub context_lookup : (c : Name) (l : List (Name × End)) → lookup c (context_of l) ≡ map slot_of (lookup c l)
context_lookup c l = ap (lookup c) (context_seen l) ∙ lookup_seen slot_of c l

pub context_without : (c : Name) (l : List (Name × End)) → without c (context_of l) ≡ context_of (without c l)
context_without c l = ap (without c) (context_seen l) ∙ without_seen slot_of c l ∙ sym (context_seen (without c l))

pub context_kept : (t : Name → Bool) (l : List (Name × End)) → kept t (context_of l) ≡ context_of (kept t l)
context_kept t l = ap (kept t) (context_seen l) ∙ kept_seen slot_of t l ∙ sym (context_seen (kept t l))

pub context_retyped : (c : Name) (A : Ty Name) (l : List (Name × End)) → retyped c A (context_of l) ≡ context_of (retyped_end c A l)
context_retyped c A l =
    ap (changed c (λ s. slot s.side A)) (context_seen l) ∙ changed_seen slot_of c (λ e. end e.side e.channel A) (λ s. slot s.side A) (λ e. refl) l
    ∙ sym (context_seen (retyped_end c A l))

pub context_append : (l m : List (Name × End)) → context_of (l ++ m) ≡ context_of l ++ context_of m
context_append [] m = refl
context_append (e ∷ l) m = ap (λ r. (e.0, slot_of e.1) ∷ r) (context_append l m)

pub context_names : (l : List (Name × End)) → names (context_of l) ≡ names l
context_names l = ap names (context_seen l) ∙ names_seen slot_of l

pub context_length : (l : List (Name × End)) → length (context_of l) ≡ length l
context_length l = ap length (context_seen l) ∙ length-map l _

pub absent_held : (c : Name) (l : List (Name × End)) → lookup c (context_of l) ≡ none → lookup c l ≡ none
absent_held c l e = (map-eq-none_iff {B = Slot} slot_of (lookup c l)).0 (sym (context_lookup c l) ∙ e)

-- an end held under the name c, of a side and a type
pub record Held (c : Name) (l : List (Name × End)) (s : Side) (A : Ty Name) : Type 0 where
  pub end : End
  pub found : lookup c l ≡ some end
  pub side : end.side ≡ s
  pub type : end.type ≡ A

pub held_plain : (c : Name) (l : List (Name × End)) (s : Side) (A : Ty Name) → lookup c (context_of l) ≡ some (slot s A) → Held c l s A
held_plain c l s A e =
    let r = (map-eq-some_iff {B = Slot} slot_of (lookup c l)).0 (sym (context_lookup c l) ∙ e) in
    record { end = r.0; found = r.1; side = ap (λ (x : Slot). x.side) r.2; type = ap (λ (x : Slot). x.type) r.2 }

-- a channel that a rule acts on: its end, with the side and the type that the rule asks for, where a name stands for its definition
pub record Acts (p : Program) (c : Name) (l : List (Name × End)) (s : Side) (T : Ty Name) : Type 0 where
  pub end : End
  pub found : lookup c l ≡ some end
  pub side : end.side ≡ s
  pub type : unfolded p.types end.type ≡ T

pub acts : (p : Program) (c : Name) (l : List (Name × End)) {s : Side} {T : Ty Name} → acting p c (context_of l) ≡ some (slot s T) → Acts p c l s T
acts p c l e =
    let x = (map-eq-some_iff {B = Slot} (unfolded_slot p) (lookup c (context_of l))).0 e in
    let r = (map-eq-some_iff {B = Slot} slot_of (lookup c l)).0 (sym (context_lookup c l) ∙ x.1) in
    let z = ap (unfolded_slot p) r.2 ∙ x.2 in
    record { end = r.0; found = r.1; side = ap (λ (x : Slot). x.side) z; type = ap (λ (x : Slot). x.type) z }
