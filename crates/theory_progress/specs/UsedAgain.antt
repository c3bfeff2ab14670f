-- Places given up are used again: when a spawn lacks a place, and what makes it lack none.
use Rattle.std.specs.Prelude.{ℕ, suc, ◌≤◌, ◌<◌, ◌≡◌, refl, ◌↔◌, ◌⊎◌, List, [], ◌∷◌, ◌++◌, map, length}
use Rattle.std.proofs.Common.{arith, sym, ◌∙◌, ap, subst, inl, inr, append_assoc}
use mathlib.Core.List.Memᴰ
use Rattle.std.proofs.Math.Option.{Option, some, none}
use Rattle.notation.specs.Limits.{process_places, channel_places}
use Rattle.notation.specs.Tree.{Name, Located, Ty, Proc, spawn}
use Rattle.calculus.specs.Program.{Program}
use Rattle.calculus.specs.Configuration.{End, Doing, running, folding, waiting, Process, Outside, Config, Stands, held_channels, process_channels, channels_held, fresh_channel}
use Rattle.calculus.specs.Steps.{turn, changed_at, folded_handler}
use Rattle.calculus.specs.Reduces.{Runs, Empty, its_own, its_recv, Reduces, spawns, leaves, Lacks, no_number, spawn_no_place, spawn_no_channel, try_no_place}
use Rattle.calculus.specs.Named.{In}
use Rattle.calculus.specs.WellFormed.{held_ends, process_ends, outside_ends, ends, WellFormed}
use Rattle.calculus.specs.declared.answers.Seen.{Seen}
use Rattle.calculus.specs.declared.answers.Seen.TheVariants.{Nothing}
use Rattle.theory_ends.specs.Fresh.{Free, fresh_free, none_fresh}
use Rattle.theory_ends.specs.Lists.{found_below, found_one, length_removed}
use Rattle.theory_reductions.specs.StepIff.{one_reduction}
use Rattle.theory_progress.specs.Placed.{length_changed}

-- ── the channels of which an end is held are those of the ends
abbrev channel_of : End → ℕ
channel_of e = e.channel

held_channels_lem : (l : List (Name × End)) (ks : List ℕ) → held_channels l ks ≡ map channel_of (held_ends l) ++ ks
held_channels_lem [] ks = refl
held_channels_lem (x ∷ l) ks = ap (λ r. x.1.channel ∷ r) (held_channels_lem l ks)

outside_channels : (l : List Outside) → map (λ (o : Outside). o.channel) l ≡ map channel_of (outside_ends l)
outside_channels [] = refl
outside_channels (o ∷ l) = ap (λ r. o.channel ∷ r) (outside_channels l)

-- appended ends: the channels of the first come first
ahead : (l m : List End) (ks : List ℕ) → ks ≡ map channel_of m → map channel_of l ++ ks ≡ map channel_of (l ++ m)
ahead [] m ks e = e
ahead (x ∷ l) m ks e = ap (λ r. x.channel ∷ r) (ahead l m ks e)

process_channels_lem : (l : List Process) (m : List End) (ks : List ℕ) → ks ≡ map channel_of m → process_channels l ks ≡ map channel_of (process_ends l ++ m)
process_channels_lem [] m ks e = e
process_channels_lem (q ∷ l) m ks e =
    held_channels_lem q.held _ ∙ ahead (held_ends q.held) (process_ends l ++ m) _ (process_channels_lem l m ks e) ∙ ap (map channel_of) (sym (append_assoc (held_ends q.held) (process_ends l) m))

-- an end of the channel at place k is held, by a process or the outside
abbrev pub EndHeld : Config → ℕ → Type 0
EndHeld C k = (e : End) × In e (ends C) × (e.channel ≡ k)

pub end_held_iff : (C : Config) (k : ℕ) → In k (channels_held C) ↔ EndHeld C k
unfolding channels_held
end_held_iff C k =
    let z = process_channels_lem C.processes (outside_ends C.outside) _ (outside_channels C.outside) in
    (λ i. of_channel_lem (subst (In k) z i), λ (e, i, c). subst (In k) (sym z) (Memᴰ.cast (sym c) (Memᴰ.map channel_of i)))
  where
    of_channel_lem : In k (map channel_of (ends C)) → EndHeld C k
    of_channel_lem i = let r = Memᴰ.of_map channel_of (ends C) i in (r.0, r.1, r.2)

-- ── a process that stands before a spawn
abbrev term_or : Proc → Doing → Proc
term_or R (running P) = P
term_or R folding = R
term_or R (waiting P) = R

one_term : {C : Config} {i : ℕ} {q q' : Process} {P P' : Proc} → Runs C i q P → Runs C i q' P' → P ≡ P'
one_term {C} {P = P} r r' =
    let e = found_one C.processes refl r.stands.there r'.stands.there in
    ap (term_or P) (sym r.runs ∙ ap (λ (q : Process). q.doing) e ∙ r'.runs)

module _ {C : Config} {i : ℕ} {q : Process} {x : Located} {A : Ty Located} {P Q : Proc} (r : Runs C i q (spawn x A P Q)) where
  -- its step lacks exactly where 128 processes stand, or an end of each of the 512 channels is held
  pub spawn_lacks : Lacks C i ↔ ((process_places ≤ length C.processes) ⊎ ((k : ℕ) → k < channel_places → EndHeld C k))
  spawn_lacks = (lacked, short)
    where
      lacked : Lacks C i → (process_places ≤ length C.processes) ⊎ ((k : ℕ) → k < channel_places → EndHeld C k)
      lacked (no_number its_own s h d z) = absurd (let e = one_term r s in let z : ◌≡◌ {A = ℕ} 0 1 = cc in omega arith)
      lacked (no_number (its_recv s t h a u) s' h' d z) = absurd (let e = ap turn (one_term r s) ∙ t in let z : ◌≡◌ {A = ℕ} 0 1 = cc in omega arith)
      lacked (spawn_no_place s l) = inl l
      lacked (spawn_no_channel s e) = inr λ k h. (end_held_iff C k).0 ((none_fresh C).0 e k h)
      lacked (try_no_place s l) = absurd (let e = one_term r s in let z : ◌≡◌ {A = ℕ} 0 1 = cc in omega arith)

      short : (process_places ≤ length C.processes) ⊎ ((k : ℕ) → k < channel_places → EndHeld C k) → Lacks C i
      short (inl l) = spawn_no_place r l
      short (inr f) = spawn_no_channel r ((none_fresh C).1 λ k h. (end_held_iff C k).1 (f k h))

  -- so it does not, once both ends of some channel are given up and a process place is free
  pub given_up_used_again : (k : ℕ) → k < channel_places → ¬ EndHeld C k → length C.processes < process_places → ¬ Lacks C i
  given_up_used_again k h n l s = go (spawn_lacks.0 s)
    where
      go : (process_places ≤ length C.processes) ⊎ ((k : ℕ) → k < channel_places → EndHeld C k) → ⊥
      go (inl m) = omega (arith, l, m)
      go (inr f) = n (f k h)

  -- and it is carried out; some channel place is free, of which the rule takes the lowest (`fresh_channel`)
  pub spawned_anew : (p : Program) (k : ℕ) → k < channel_places → ¬ EndHeld C k → length C.processes < process_places → (j : ℕ) × Free C j × (D : Config) × Reduces p C i Nothing D
  spawned_anew p k h n l = go (fresh_channel C) refl
    where
      go : (o : Option ℕ) → fresh_channel C ≡ o → (j : ℕ) × Free C j × (D : Config) × Reduces p C i Nothing D
      go none e = absurd (n ((end_held_iff C k).0 ((none_fresh C).0 e k h)))
      go (some j) e = (j, fresh_free C e, _, spawns r l e)

-- ── a process that leaves
module _ {p : Program} {C D : Config} {i : ℕ} {q : Process} {seen : Seen} (s : Stands C i q) (e : Empty q) (r : Reduces p C i seen D) where
  -- its place is free again: one process less stands
  pub leaving_frees : suc (length D.processes) ≡ length C.processes
  leaving_frees =
      let b = found_below C.processes i s.there in
      let c = length_changed folded_handler q.link C.processes in
      let l = length_removed i (changed_at folded_handler q.link C.processes) (omega (arith, b, c)) in
      let d = ap (λ (E : Config). length E.processes) (one_reduction p C i r (leaves s e)).1 in
      omega (arith, c, l, d)

  -- so a spawn or a try of another process lacks no process place
  pub place_used_again : WellFormed p C → length D.processes < process_places
  place_used_again f = let n = f.processes in omega (arith, leaving_frees, n)
