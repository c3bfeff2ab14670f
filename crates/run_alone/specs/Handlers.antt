-- A process and its handler.
use Rattle.std.specs.Prelude.{ℕ, zero, suc, ◌-◌, ◌<◌, ◌≡◌, refl, List, Bool, true, false, cond, eqb, length, set}
use Rattle.std.proofs.Common.{sym, ◌∙◌, ap, subst, arith, length-set}
use Rattle.std.proofs.Math.Option.{Option, some, none, map}
use Rattle.std.proofs.Math.ListN.{get_elem?}
use Rattle.calculus.specs.Configuration.{Process, Config, with_processes, replaced, doing_now}
use Rattle.calculus.specs.Steps.{started_doing, started_handler, folded_handler, put_at, changed_at, handler_starts}
use Rattle.run_words.specs.Lists.{All}
use Rattle.run_words.specs.ListLaws.{all_set, all_at, all_map, all_of, map_at}
use Rattle.run_words.specs.Raw.{raw_in, link_of, links_below, Bounded}
use Rattle.run_words.specs.Values.{Changed}
use Rattle.run_words.specs.Values as values
use Rattle.run_words.specs.Operations as raw
use Rattle.run_words.specs.Bounds.{Unlinked}
use Rattle.run_words.specs.declared.records.Process.{Process as ProcessWords}
use Rattle.run_alone.specs.Run.{config_in, doing_as, process_as, RunOf, ProcessOf, StandsAt, Becomes}
use Rattle.run_alone.specs.Changes.{then, stored, places_after, places_in}

-- ── what becomes of a handler
abbrev pub handler_kind : Bool → ℕ → ℕ
handler_kind starts k = cond starts (cond (eqb k 2) 0 k) 1

abbrev pub handler_as : Bool → Process → Process
handler_as true q = started_handler q
handler_as false q = folded_handler q

abbrev pub with_handler : Bool → Option ℕ → Config → Config
with_handler starts link C = with_processes (changed_at (handler_as starts) link C.processes) C

module _ (s w : List ℕ) where
  started : (k pointer : ℕ) → k < 3 → doing_as s w (handler_kind true k) pointer ≡ started_doing (doing_as s w k pointer)
  started zero pointer h = refl
  started (suc zero) pointer h = refl
  started (suc (suc zero)) pointer h = refl
  started (suc (suc (suc k))) pointer h = absurd (omega arith)

  handled_as : (starts : Bool) (h : ProcessWords) → h.kind < 3 → process_as s w (values.of_kind (handler_kind starts h.kind) h) ≡ handler_as starts (process_as s w h)
  handled_as true h b = ap (λ d. doing_now d (process_as s w h)) (started h.kind h.pointer b)
  handled_as false h b = refl

  handler_few : (k : ℕ) → k < 3 → handler_kind true k < 3
  handler_few zero b = omega arith
  handler_few (suc zero) b = omega arith
  handler_few (suc (suc zero)) b = omega arith
  handler_few (suc (suc (suc k))) b = absurd (omega arith)

  handled_fine : (starts : Bool) (h : ProcessWords) (n : ℕ) → ProcessOf s w n h → ProcessOf s w n (values.of_kind (handler_kind starts h.kind) h)
  handled_fine true h n t = record { kind = handler_few h.kind t.kind; pointer = t.pointer; link = t.link; term = λ z. t.term (λ y. z (ap (handler_kind true) y)); held = t.held }
  handled_fine false h n t = record { kind = omega arith; pointer = t.pointer; link = t.link; term = λ z. absurd (z refl); held = t.held }

  module _ (old new : List ℕ) (t : RunOf s w old) (starts : Bool) (link : ℕ) where
    pub handler_none : link ≡ 0 → Becomes s w old old (with_handler starts (link_of link) (config_in s w old))
    handler_none e = record { is = ap (λ l. with_handler starts (link_of l) (config_in s w old)) (sym e); run = t; past = refl; long = refl }

    pub handler_place : (j : ℕ) → (link ≡ 0 → ⊥) → j ≡ link - 1 → link_of link ≡ some j
    handler_place j z e = let q : link ≡ suc j = omega (arith, z) in ap link_of q

    pub handler_below : (j n : ℕ) → link_of link ≡ some j → links_below n (link_of link) → j < n
    handler_below j n e l = subst (links_below n) e l

    module _ (j : ℕ) (h : ProcessWords) (u : StandsAt s w old j h) (k : ℕ) (z : k ≡ handler_kind starts h.kind) where
      pub handler_fine : ProcessOf s w (length (raw_in old).processes) (values.of_kind k h)
      handler_fine = subst (λ m. ProcessOf s w (length (raw_in old).processes) (values.of_kind m h)) (sym z) (handled_fine starts h _ u.is)

      pub handler_changed : link_of link ≡ some j → Changed old new (raw.on_processes (λ l. set l j (values.process_in (values.of_kind k h))) (raw_in old)) → Bounded (raw_in new)
          → Becomes s w old new (with_handler starts (link_of link) (config_in s w old))
      handler_changed e c b =
          subst (Becomes s w old new) (ap (λ m. replaced j (process_as s w (values.of_kind m h)) (config_in s w old)) z ∙ ap (λ q. replaced j q (config_in s w old)) (handled_as starts h u.is.kind) ∙ sym there)
          (stored s w old new t j (values.of_kind k h) handler_fine c b)
        where
          there : with_handler starts (link_of link) (config_in s w old) ≡ replaced j (handler_as starts (process_as s w h)) (config_in s w old)
          there =
              ap (λ (l : Option ℕ). with_handler starts l (config_in s w old)) e
              ∙ ap (λ (o : Option Process). with_processes (put_at (config_in s w old).processes j (map (handler_as starts) o)) (config_in s w old)) u.there

  unlinked_as : (ws : List ℕ) (i : ℕ) → Unlinked i (raw_in ws).processes → All (λ (q : Process). q.link ≡ some i → ⊥) (config_in s w ws).processes
  unlinked_as ws i u = all_map (λ p. p.link ≡ some i → ⊥) (λ q. q.link ≡ some i → ⊥) _ (λ p h. h) (raw_in ws).processes u

  unlinked_raw : (ws : List ℕ) (i : ℕ) → All (λ (q : Process). q.link ≡ some i → ⊥) (config_in s w ws).processes → Unlinked i (raw_in ws).processes
  unlinked_raw ws i a = all_of (λ p. p.link ≡ some i → ⊥) (raw_in ws).processes (λ k p g. all_at (λ q. q.link ≡ some i → ⊥) (config_in s w ws).processes k a (map_at _ (raw_in ws).processes k g))

  changed_unlinked : (starts : Bool) (i : ℕ) (link : Option ℕ) (l : List Process) → All (λ (q : Process). q.link ≡ some i → ⊥) l → All (λ (q : Process). q.link ≡ some i → ⊥) (changed_at (handler_as starts) link l)
  changed_unlinked starts i none l a = a
  changed_unlinked starts i (some j) l a = go (get_elem? l j) refl
    where
      same_link : (starts : Bool) (q : Process) → (handler_as starts q).link ≡ q.link
      same_link true q = refl
      same_link false q = refl

      go : (o : Option Process) → get_elem? l j ≡ o → All (λ (q : Process). q.link ≡ some i → ⊥) (put_at l j (map (handler_as starts) o))
      go none e = a
      go (some q) e = all_set (λ q. q.link ≡ some i → ⊥) l j (handler_as starts q) a (λ z. all_at (λ q. q.link ≡ some i → ⊥) l j a e (sym (same_link starts q) ∙ z))

  changed_many : (starts : Bool) (link : Option ℕ) (l : List Process) → length (changed_at (handler_as starts) link l) ≡ length l
  changed_many starts none l = refl
  changed_many starts (some j) l = go (get_elem? l j)
    where
      go : (o : Option Process) → length (put_at l j (map (handler_as starts) o)) ≡ length l
      go none = refl
      go (some q) = length-set l j (handler_as starts q)

  module _ (old mid : List ℕ) (starts : Bool) (link : ℕ) (b : Becomes s w old mid (with_handler starts (link_of link) (config_in s w old))) where
    pub unlinked_still : (i : ℕ) → Unlinked i (raw_in old).processes → Unlinked i (raw_in mid).processes
    unlinked_still i u = unlinked_raw mid i (subst (λ (C : Config). All (λ (q : Process). q.link ≡ some i → ⊥) C.processes) (sym b.is) (changed_unlinked starts i (link_of link) (config_in s w old).processes (unlinked_as old i u)))

    pub as_many : length (raw_in mid).processes ≡ length (raw_in old).processes
    as_many = places_after b ∙ changed_many starts (link_of link) (config_in s w old).processes ∙ places_in s w old

-- ── a process goes on without its link, and its handler starts
pub unlinked_fine : {s w : List ℕ} {n m : ℕ} (p : ProcessWords) → ProcessOf s w n p → ProcessOf s w m (values.of_link 0 p)
unlinked_fine p t = record { kind = t.kind; pointer = t.pointer; link = tt; term = t.term; held = t.held }

module _ (s w old mid new : List ℕ) (i : ℕ) (p : ProcessWords) where
  pub handler_started : {n : ℕ} → ProcessOf s w n p → Becomes s w old mid (with_handler true (link_of p.link) (config_in s w old))
      → Changed mid new (raw.on_processes (λ l. set l i (values.process_in (values.of_link 0 p))) (raw_in mid)) → Bounded (raw_in new)
      → Becomes s w old new (handler_starts i (process_as s w p) (config_in s w old))
  handler_started t b c k = then (replaced i (process_as s w (values.of_link 0 p))) b (stored s w mid new b.run i (values.of_link 0 p) (unlinked_fine p t) c k)
