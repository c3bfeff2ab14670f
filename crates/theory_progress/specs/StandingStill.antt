-- A process whose recv lost its partner stands before that recv until it takes its own step: steps at other places leave it there.
use Rattle.std.specs.Prelude.{ℕ, ◌≡◌, refl, ◌≢◌, List, [], ◌∷◌, Bool, true, false, cond}
use Rattle.std.proofs.Common.{sym, ◌∙◌, ap, subst, true≢false}
use Rattle.std.proofs.Math.Option.{some, none-ne-some, some-injective}
use Rattle.notation.specs.Tree.{Name, Located}
use Rattle.calculus.specs.Named.{lookup, names, In, NoneTwice}
use Rattle.calculus.specs.Types.{Side, other}
use Rattle.calculus.specs.Program.{Program}
use Rattle.calculus.specs.Configuration.{End, Doing, running, of_channel, Process, Config, Stands, far_end}
use Rattle.calculus.specs.Steps.{carried, turn_of, moved_end, step}
use Rattle.calculus.specs.WellFormed.{key, context_of, TypedAs, is_waiting, WellFormed}
use Rattle.calculus.specs.declared.answers.Seen.{Seen}
use Rattle.theory_ends.specs.Lists.{found_one}
use Rattle.theory_derivations.specs.Named.{by_test, in_lookup}
use Rattle.theory_ends.specs.Contexts.{context_names}
use Rattle.theory_ends.specs.FarEnds.{is_end, is_end_lem, given_up_unheld, far_back}
use Rattle.theory_progress.specs.Starting.{Forsaken, starter_stands}
use Rattle.theory_progress.specs.Shapes.{acts_on, Engaged, Touched, itself, partner}
use Rattle.theory_progress.specs.Elsewhere.{Stays, After, as_before, started, folded, step_after}

-- where an end is moved to another channel, each other end is found under its name as before
lookup_moved : (k : ℕ) (s : Side) (m : ℕ) (n : Name) (l : List (Name × End)) {e : End} → key e ≢ (k, s) → lookup n l ≡ some e → lookup n (moved_end k s m l) ≡ some e
unfolding lookup moved_end
lookup_moved k s m n [] {e} d z = absurd (none-ne-some e z)
lookup_moved k s m n (x ∷ l) {e} d z = go (is_end k s x.1) refl (lookup_moved k s m n l d)
  where
    go : (b : Bool) → is_end k s x.1 ≡ b → (lookup n l ≡ some e → lookup n (moved_end k s m l) ≡ some e)
        → lookup n (cond b ((x.0, of_channel m x.1) ∷ l) (x ∷ moved_end k s m l)) ≡ some e
    go true t r =
        let y = is_end_lem k s x.1 t in
        by_test (λ b. cond b (some x.1) (lookup n l) ≡ some e → cond b (some (of_channel m x.1)) (lookup n l) ≡ some e) n x.0
        (λ _ w. absurd (d (ap key (sym (some-injective x.1 e w)) ∙ (λ i. (y.0 i, y.1 i))))) (λ _ w. w) z
    go false t r = by_test (λ b. cond b (some x.1) (lookup n l) ≡ some e → cond b (some x.1) (lookup n (moved_end k s m l)) ≡ some e) n x.0 (λ _ w. w) (λ _ w. r w) z

module _ {p : Program} {C : Config} (w : WellFormed p C) {i : ℕ} {q : Process} {c : Located} (f : Forsaken C i q c) where
  -- it is before its recv, and holds the end that it waits on
  pub record BeforeRecv (d : Doing) (l : List (Name × End)) : Type 0 where
    pub runs : d ≡ running f.term
    pub holds : lookup c.name l ≡ some f.held

  -- a process that runs holds each name once
  names_once : NoneTwice (names q.held)
  names_once =
      let t = subst (TypedAs p (context_of q.held)) f.runs.runs (w.typed i q f.runs.stands) in
      subst NoneTwice (context_names q.held) t.0

  -- it is nobody's partner: of the channel that it acts on the far end was given up
  not_engaged : ¬ Engaged C q
  not_engaged g =
      let n : g.name ≡ c.name = some-injective _ _ (sym g.acts_on_lem ∙ ap (λ d. acts_on (turn_of d)) f.runs.runs ∙ ap acts_on f.receives_on) in
      let e : g.end ≡ f.held = some-injective _ _ (sym (in_lookup q.held names_once (g.name, g.end) g.held) ∙ ap (λ n. lookup n q.held) n ∙ f.holds.held) in
      g.answered (ap (far_end C) e ∙ f.holds.far)

  module _ {k : ℕ} (n : i ≢ k) where
    apart : {j : ℕ} → Touched C k j → i ≢ j
    apart (itself e) z = n (z ∙ e)
    apart (partner {r = r} s g) z = not_engaged (subst (Engaged C) (found_one C.processes (sym z) s.there f.runs.stands.there) g)

    -- a fwd moves the far end of one of its own ends, and that of this one is nobody's
    moved : {r : Process} {m : Name} {a : Doing} {l : List (Name × End)} (e d : End) → Stands C k r → In (m, e) r.held → BeforeRecv a l
        → BeforeRecv a (moved_end e.channel (other e.side) d.channel l)
    moved {l = l} e d s h b = record {
      runs = b.runs;
      holds = lookup_moved e.channel (other e.side) d.channel c.name l (λ z. given_up_unheld f.held f.holds.far s h (far_back e f.held z)) b.holds;
    }

    -- no link leads to a process that runs
    unlinked : {j : ℕ} {r : Process} → Stands C j r → r.link ≢ some i
    unlinked {j} {r} s z =
        let l = w.links j r s i z in
        let same : l.0 ≡ q = found_one C.processes refl l.1.there f.runs.stands.there in
        true≢false (sym l.2 ∙ ap (λ (q : Process). is_waiting q.doing) same ∙ ap is_waiting f.runs.runs)

    pub stands_still : {D : Config} {seen : Seen} → step p C k ≡ carried seen D → Stays C k i BeforeRecv D.processes
    stands_still {D} e = go (step_after C k i (record { apart = apart; moved = moved }) (record { process = q; there = f.runs.stands.there; is = record { runs = f.runs.runs; holds = f.holds.held } }) p e)
      where
        go : After C k i BeforeRecv D.processes → Stays C k i BeforeRecv D.processes
        go (as_before g) = g
        go (started s l g) = absurd (unlinked (starter_stands s).1 l)
        go (folded s t l g) = absurd (unlinked s l)
