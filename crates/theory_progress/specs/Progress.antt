-- Progress: while a process is left and the run has not halted, some step is open.
use Rattle.std.specs.Prelude.{ℕ, zero, suc, ◌<◌, ◌≡◌, refl, ◌≢◌, ◌⊎◌, List, [], Bool, true, false, length}
use Rattle.std.proofs.Common.{arith, sym, ◌∙◌, ap, subst, inl, inr, true≢false}
use Rattle.std.proofs.Math.Decide.{ℕ_discrete, dec_lt}
use Rattle.std.proofs.Math.Option.{Option, some, none, none-ne-some}
use Rattle.std.proofs.lemmas.Bool.{false≢true}
use Rattle.notation.specs.Tree.{Located, Proc}
use Rattle.calculus.specs.Types.{unfolded}
use Rattle.calculus.specs.Program.{Program}
use Rattle.calculus.specs.OneType.{OneType}
use Rattle.calculus.specs.Configuration.{End, Process, Config, Stands, at, Holder, at_process}
use Rattle.calculus.specs.Named.{In}
use Rattle.calculus.specs.WellFormed.{is_waiting, WellFormed}
use Rattle.calculus.specs.Reduces.{Runs, Holds, Applies, Open}
use Rattle.theory_graphs.specs.Graph.{pigeonhole, Twins}
use Rattle.theory_ends.specs.Lists.{below_found, past_the_end}
use Rattle.theory_derivations.specs.Named.{lookup_in}
use Rattle.theory_ends.specs.Ends.{entry_in_ends, one_holder}
use Rattle.theory_ends.specs.FarEnds.{far_found}
use Rattle.theory_reductions.specs.CarriedOut.{holder_found}
use Rattle.theory_progress.specs.Places.{places, length_places, places_below, places_once}
use Rattle.theory_progress.specs.Joints.{joints_fewer, JointKey, channel, handler, JointKey-discrete, joint_keys, keys_of_joints, link_joint_lem, channel_joint}
use Rattle.theory_progress.specs.Turns.{Sending, Receiving, one_sending, one_receiving, sending_side, receiving_side, faces, meet}
use Rattle.theory_progress.specs.Waiting.{Waits, waits_handler, waits_send, waits_receive, applies_or_waits}

abbrev number : JointKey → ℕ
number (channel k) = k
number (handler h) = h

abbrev is_channel : JointKey → Bool
is_channel (channel k) = true
is_channel (handler h) = false

-- ── a place where no rule applies: no process stands there, or it waits on a joint
data Shut (p : Program) (C : Config) (i : ℕ) : Type 0 where
  nobody : at C i ≡ none → Shut p C i
  waits_on : {q : Process} (k : JointKey) → Stands C i q → Waits p C i q k → Shut p C i

abbrev key_of : {p : Program} {C : Config} {i : ℕ} → Shut p C i → JointKey
key_of (nobody e) = handler 0
key_of (waits_on k s w) = k

somebody : (C : Config) {i : ℕ} → i < length C.processes → at C i ≢ none
somebody C {i} b e = let q = below_found C.processes i b in none-ne-some q.0 (sym e ∙ q.1)

module _ {p : Program} {C : Config} (v : WellFormed p C) where
  applies_or_shut : (i : ℕ) → Applies p C i ⊎ Shut p C i
  applies_or_shut i = go (at C i) refl
    where
      stands : {q : Process} → Stands C i q → Applies p C i ⊎ ((k : JointKey) × Waits p C i q k) → Applies p C i ⊎ Shut p C i
      stands s (inl o) = inl o
      stands s (inr (k, w)) = inr (waits_on k s w)

      go : (o : Option Process) → at C i ≡ o → Applies p C i ⊎ Shut p C i
      go none e = inr (nobody e)
      go (some q) e = let s : Stands C i q = record { there = e } in stands s (applies_or_waits v s)

  -- the joint that a place waits on is one
  channel_in : {i : ℕ} {q : Process} {c : Located} {e : End} {h : Holder} → Stands C i q → Holds C q c e (at_process h) → In (channel e.channel) (joint_keys C)
  channel_in {q = q} {c} s k = channel_joint v s (lookup_in c.name q.held k.held) k.far (holder_found k)

  joint_in : {i : ℕ} {q : Process} {k : JointKey} → Stands C i q → Waits p C i q k → In k (joint_keys C)
  joint_in {i} {q} s (waits_handler e) = let r = v.linked i q s (ap is_waiting e) in link_joint_lem r.2 r.3
  joint_in s (waits_send e r g k) = channel_in s k
  joint_in s (waits_receive e r g k) = channel_in s k

  key_in : {i : ℕ} → i < length C.processes → (x : Shut p C i) → In (key_of x) (joint_keys C)
  key_in b (nobody e) = absurd (somebody C b e)
  key_in b (waits_on k s w) = joint_in s w

  -- ── two that wait on one joint are its two ends, and these match
  -- the ends that two processes wait on, of one channel
  record Facing (e d : End) : Type 0 where
    one_type : OneType p e.type d.type
    apart : e.side ≢ d.side

  ends_apart : {i j : ℕ} {q r : Process} {c c' : Located} {e d : End} {h g : Holder} → i ≢ j → Stands C i q → Stands C j r
      → Holds C q c e (at_process h) → Holds C r c' d (at_process g) → e.channel ≡ d.channel → Facing e d
  ends_apart {q = q} {r} {c} {c'} {e} {d} n s t x y z =
      let a = lookup_in c.name q.held x.held in
      let b = lookup_in c'.name r.held y.held in
      record { one_type = v.agree e d (entry_in_ends s a) (entry_in_ends t b) z; apart = λ f. n (one_holder v s t a b (λ i. (z i, f i))) }

  -- a send meets a recv
  matched : {i j : ℕ} {q r : Process} {P Q : Proc} {c c' : Located} {e d : End} {h g : Holder} → Runs C i q P → Runs C j r Q
      → Holds C q c e (at_process h) → Holds C r c' d (at_process g) → e.channel ≡ d.channel → OneType p e.type d.type
      → Sending q.held P c e.side (unfolded p.types e.type) → Receiving Q c' d.side (unfolded p.types d.type) → Applies p C i
  matched {r = r} {c' = c'} {e} a b x y z w m m' =
      let u = one_sending p w m in
      let f = far_found v e b.stands (lookup_in c'.name r.held y.held) (λ i. (sym z i, faces u m' i)) in
      meet a (record { held = x.held; far = f }) (record { runs = b.runs; name = refl }) u m'

  both_wait : {i j : ℕ} {q r : Process} {k l : JointKey} → i ≢ j → Stands C i q → Stands C j r → Waits p C i q k → Waits p C j r l → k ≡ l
      → (n : ℕ) × Applies p C n
  both_wait n s t (waits_handler a) (waits_handler b) z = absurd (n (ap number z))
  both_wait n s t (waits_handler a) (waits_send d b m y) z = absurd (false≢true (ap is_channel z))
  both_wait n s t (waits_handler a) (waits_receive d b m y) z = absurd (false≢true (ap is_channel z))
  both_wait n s t (waits_send e a m x) (waits_handler b) z = absurd (true≢false (ap is_channel z))
  both_wait n s t (waits_receive e a m x) (waits_handler b) z = absurd (true≢false (ap is_channel z))
  both_wait n s t (waits_send e a m x) (waits_send d b m' y) z =
      let f = ends_apart n s t x y (ap number z) in
      absurd (f.apart (sending_side (one_sending p f.one_type m) ∙ sym (sending_side m')))
  both_wait n s t (waits_receive e a m x) (waits_receive d b m' y) z =
      let f = ends_apart n s t x y (ap number z) in
      absurd (f.apart (receiving_side (one_receiving p f.one_type m) ∙ sym (receiving_side m')))
  both_wait {i} n s t (waits_send e a m x) (waits_receive d b m' y) z = (i, matched a b x y (ap number z) (ends_apart n s t x y (ap number z)).one_type m m')
  both_wait {j = j} n s t (waits_receive e a m x) (waits_send d b m' y) z =
      let w = sym (ap number z) in
      (j, matched b a y x w (ends_apart (λ f. n (sym f)) t s y x w).one_type m' m)

  both_shut : {i j : ℕ} → i ≢ j → i < length C.processes → j < length C.processes → (x : Shut p C i) (y : Shut p C j) → key_of x ≡ key_of y
      → (n : ℕ) × Applies p C n
  both_shut n a b (nobody e) y z = absurd (somebody C a e)
  both_shut n a b (waits_on k s w) (nobody e) z = absurd (somebody C b e)
  both_shut n a b (waits_on k s w) (waits_on l t u) z = both_wait n s t w u z

  -- joints are fewer than places, so where every place is shut two wait on one joint
  all_shut : C.processes ≢ [] → ((i : ℕ) → Shut p C i) → (n : ℕ) × Applies p C n
  all_shut n f = go (pigeonhole (JointKey-discrete ℕ_discrete) (λ i. key_of (f i)) all_places (joint_keys C) (places_once _) (λ i m. key_in (places_below _ m) (f i)) few)
    where
      all_places : List ℕ
      all_places = places (length C.processes)

      few : length (joint_keys C) < length all_places
      few = rw (length_places, keys_of_joints C) (joints_fewer p C v n)

      go : Twins (λ i. key_of (f i)) all_places → (n : ℕ) × Applies p C n
      go t = both_shut t.differ (places_below _ t.one_in) (places_below _ t.two_in) (f t.one) (f t.two) t.agree

  -- the first n places: at one of them a rule applies, or all are shut
  search_applies : (n : ℕ) → ((i : ℕ) × Applies p C i) ⊎ ((i : ℕ) → i < n → Shut p C i)
  search_applies zero = inr λ i h. absurd (omega arith)
  search_applies (suc n) = go (search_applies n) (applies_or_shut n)
    where
      go : ((i : ℕ) × Applies p C i) ⊎ ((i : ℕ) → i < n → Shut p C i) → Applies p C n ⊎ Shut p C n → ((i : ℕ) × Applies p C i) ⊎ ((i : ℕ) → i < suc n → Shut p C i)
      go (inl r) d = inl r
      go (inr f) (inl o) = inl (n, o)
      go (inr f) (inr o) = inr λ i h. here i h (ℕ_discrete i n)
        where
          here : (i : ℕ) → i < suc n → Dec (i ≡ n) → Shut p C i
          here i h (yes e) = subst (Shut p C) (sym e) o
          here i h (no d) = f i (omega arith)

-- halted or not, a rule applies at some place
some_applies : (p : Program) (C : Config) → WellFormed p C → C.processes ≢ [] → (i : ℕ) × Applies p C i
some_applies p C v n = go (search_applies v (length C.processes))
  where
    go : ((i : ℕ) × Applies p C i) ⊎ ((i : ℕ) → i < length C.processes → Shut p C i) → (i : ℕ) × Applies p C i
    go (inl r) = r
    go (inr f) = all_shut v n λ i. here i (dec_lt i (length C.processes))
      where
        here : (i : ℕ) → Dec (i < length C.processes) → Shut p C i
        here i (yes h) = f i h
        here i (no h) = nobody (past_the_end C.processes i (omega arith))

-- "Nothing waits forever for a partner that can't come"
pub some_open_lem : (p : Program) (C : Config) → WellFormed p C → C.processes ≢ [] → C.halted ≡ false → (i : ℕ) × Open p C i
some_open_lem p C v n g = let o = some_applies p C v n in (o.0, record { going = g; applies = o.1 })
