-- An end is given up; a process folds up.
use Rattle.std.specs.Prelude.{ℕ, ◌<◌, ◌≡◌, refl, List, Bool, true, false, length, set}
use Rattle.std.specs.Prelude.{Option as CodeOption, Some, None}
use Rattle.std.proofs.Common.{sym, ◌∙◌, ap, subst, arith}
use Rattle.std.proofs.lemmas.Bool.{false≢true}
use Rattle.std.proofs.Math.Option.{Option, some}
use Rattle.std.proofs.Math.ListN.{get_elem?}
use Rattle.notation.specs.Token.{name_at}
use Rattle.calculus.specs.Named.{lookup}
use Rattle.calculus.specs.Configuration.{End, Outside, Config, with_outside, replaced, far_end}
use Rattle.calculus.specs.Configuration as calculus
use Rattle.calculus.specs.Steps.{Outcome, on_held, seen_at, outside_after, parting}
use Rattle.calculus.specs.declared.answers.Seen.{Seen}
use Rattle.calculus.specs.declared.answers.Seen.TheVariants.{Nothing, Cancelled}
use Rattle.read_tables.specs.Decode.{process_in}
use Rattle.read_tables.specs.Program.{plain_in}
use Rattle.run_words.specs.Raw.{raw_in, side_of, Bounded}
use Rattle.run_words.specs.Values.{Changed, end_in, outside_in}
use Rattle.run_words.specs.Values as values
use Rattle.run_words.specs.Operations as raw
use Rattle.run_words.specs.SearchLaws.{far_outside, outside_below}
use Rattle.run_words.specs.DecodeLaws.{FarAs, at_process, at_outside, given_up, decoded_far, decoded_far_outside}
use Rattle.run_words.specs.declared.records.End.{End as EndWords}
use Rattle.run_words.specs.declared.records.Held.{Held}
use Rattle.run_words.specs.declared.records.Outside.{Outside as OutsideWords}
use Rattle.run_words.specs.declared.records.Process.{Process as ProcessWords}
use Rattle.run_words.specs.declared.records.Far.{Far}
use Rattle.run_words.specs.declared.records.Far.TheVariants as far
use Rattle.check_contexts.specs.Held.{end_is, channels_of, EndIn, HeldIn, end_found, FoundIn, Sees}
use Rattle.run_alone.specs.declared.outcome.Outcome.TheVariants.{Carried, NotOpen}
use Rattle.run_alone.specs.declared.outcome.Outcome.{Outcome as OutcomeWords}
use Rattle.run_alone.specs.Run.{config_in, process_as, RunOf, ProcessOf, Becomes, Carries}
use Rattle.run_alone.specs.Changes.{then, stored, let_go_lem}

-- an end by value
abbrev pub end_as : List ℕ → List ℕ → EndWords → End
end_as s w e = (end_is s w (end_in e)).1

-- the outside lets go of a channel, if the far end of e is the outside's
abbrev pub letting_go : Config → End → Config
letting_go C e = with_outside (outside_after (far_end C e) e.channel C.outside) C

pub record GivesUp (s w old new : List ℕ) (e : EndWords) (r : Seen) : Type 0 where
  pub shows : r ≡ seen_at (far_end (config_in s w old) (end_as s w e))
  pub becomes : Becomes s w old new (letting_go (config_in s w old) (end_as s w e))

-- ── the far end
module _ (s w old : List ℕ) (e : EndWords) where
  abbrev far_of : calculus.Far
  far_of = far_end (config_in s w old) (end_as s w e)

  abbrev Silent : calculus.Far → Type 0
  Silent F = (seen_at F ≡ Nothing) × ((k : ℕ) (l : List Outside) → outside_after F k l ≡ l)

  silent : (f : Far) {F : calculus.Far} → FarAs (name_at s) (plain_in s w) (process_in s w) (raw_in old) f F → ((k : ℕ) → f ≡ far.Outside k → ⊥) → Silent F
  silent (far.Process i j) (at_process g h) z = (refl, λ k l. refl)
  silent (far.Outside j) (at_outside g) z = absurd (z j refl)
  silent far.GivenUp given_up z = (refl, λ k l. refl)

  pub gives_silently : (f : Far) → RunOf s w old → f ≡ raw.far_end (raw_in old) e.channel (side_of e.side) → ((k : ℕ) → f ≡ far.Outside k → ⊥) → GivesUp s w old old e Nothing
  gives_silently f t q z =
      let a : Silent far_of = silent f (subst (λ (x : Far). FarAs (name_at s) (plain_in s w) (process_in s w) (raw_in old) x far_of) (sym q) (decoded_far (name_at s) (plain_in s w) (process_in s w) (raw_in old) e.channel (side_of e.side) (plain_in s w e.node))) z in
      record {
        shows = sym a.0;
        becomes = record { is = sym (ap (λ l. with_outside l (config_in s w old)) (a.1 e.channel (config_in s w old).outside)); run = t; past = refl; long = refl };
      }

  pub outside_there_below : (k : ℕ) → raw.far_end (raw_in old) e.channel (side_of e.side) ≡ far.Outside k → k < length (raw_in old).outside
  outside_there_below k f = outside_below e.channel (raw_in old).outside k (far_outside (raw_in old) e.channel (side_of e.side) k f).2

  pub gives_outside : (new : List ℕ) (k : ℕ) (o : OutsideWords) → RunOf s w old → raw.far_end (raw_in old) e.channel (side_of e.side) ≡ far.Outside k → get_elem? (raw_in old).outside k ≡ some (outside_in o)
      → Changed old new (raw.on_outside (raw.let_go e.channel) (raw_in old)) → Bounded (raw_in new) → GivesUp s w old new e (Cancelled o.number)
  gives_outside new k o t f g c b =
      let q : far_of ≡ calculus.at_outside o.number = decoded_far_outside (name_at s) (plain_in s w) (process_in s w) (raw_in old) e.channel (side_of e.side) (plain_in s w e.node) k f g in
      record {
        shows = sym (ap seen_at q);
        becomes = subst (Becomes s w old new) (sym (ap (λ F. with_outside (outside_after F e.channel (config_in s w old).outside) (config_in s w old)) q)) (let_go_lem s w old new t e.channel c b);
      }

-- ── the rules
module _ (s w old mid new : List ℕ) (i : ℕ) (p : ProcessWords) (e : EndWords) where
  pub parts : (r : Seen) → GivesUp s w old mid e r → ProcessOf s w (length (raw_in mid).processes) p → Changed mid new (raw.on_processes (λ l. set l i (values.process_in p)) (raw_in mid)) → Bounded (raw_in new)
      → Carries s w old new (Carried r) (parting (config_in s w old) i (process_as s w p) (end_as s w e))
  unfolding parting
  parts r g o c b = record { is = (ap Carried g.shows, then (replaced i (process_as s w p)) g.becomes (stored s w mid new g.becomes.run i p o c b)) }

-- a process that folds up
pub folds : (s w : List ℕ) (p : ProcessWords) (h : Held) {n : ℕ} → ProcessOf s w n p → HeldIn s w h → ProcessOf s w n (values.folding_up h p)
folds s w p h t u = record { kind = omega arith; pointer = t.pointer; link = t.link; term = λ z. absurd (z refl); held = u }

-- ── a rule that acts on a channel by its name
module _ {s w old : List ℕ} {h : Held} {at : ℕ} {f : CodeOption EndWords} (t : Sees s h at f) (k : End → Outcome) where
  pub held_none : f ≡ None → Carries s w old old NotOpen (on_held (lookup (name_at s at) (channels_of s w h)) k)
  held_none e = subst (λ (o : Option End). Carries s w old old NotOpen (on_held o k)) (sym (t.is w ∙ ap (end_found s w) e)) (record { is = (refl, refl) })

  pub held_some : {new : List ℕ} {e : EndWords} {r : OutcomeWords} → f ≡ Some e → Carries s w old new r (k (end_as s w e)) → Carries s w old new r (on_held (lookup (name_at s at) (channels_of s w h)) k)
  held_some {new} {r = r} e c = subst (λ (o : Option End). Carries s w old new r (on_held o k)) (sym (t.is w ∙ ap (end_found s w) e)) c

-- what was found is an end of the text
pub end_found_lem : {s w : List ℕ} {h : Held} {at : ℕ} {f : CodeOption EndWords} {e : EndWords} → Sees s h at f → f ≡ Some e → HeldIn s w h → EndIn s w (end_in e) × (e.side < 2)
end_found_lem {s} {w} t e u = subst (FoundIn s w) e (t.fits w u)
