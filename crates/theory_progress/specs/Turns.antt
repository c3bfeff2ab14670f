-- Typed sends and recvs by what goes over their channel: at the two ends of one type they match.
use Rattle.std.specs.Prelude.{ℕ, ◌≡◌, refl, List, true}
use Rattle.std.proofs.Common.{sym, ◌∙◌, ap, inl, inr}
use Rattle.std.proofs.Math.Option.{Option, some, none, some-injective, none-ne-some}
use Rattle.notation.specs.Tree.{Name, Located, Ty, unit, named, tensor, par, lolli, plus, with, Proc, send_unit, send_channel, send_label, recv_unit, recv_channel, recv_label, Branches}
use Rattle.calculus.specs.Named.{lookup}
use Rattle.calculus.specs.Types.{Side, provided, used, other, unfolded, Passing, passing, Choosing, choosing, labelled}
use Rattle.calculus.specs.Program.{Program}
use Rattle.calculus.specs.OneType.{OneType}
use Rattle.calculus.specs.Configuration.{End, Process, Config, Holder, at_process}
use Rattle.calculus.specs.Steps.{branch_of}
use Rattle.calculus.specs.Reduces.{Runs, Holds, Answers, close_meets, channel_meets, label_meets, label_left_out, its_own, communicates, nobody_takes_lem, Applies}
use Rattle.theory_derivations.specs.OneType.{one_unit, one_passing, one_choosing}
use Rattle.theory_ends.specs.Ends.{side_clash}
use Rattle.theory_progress.specs.Outward.{other_mark}

-- a typed send over c, an end of side s whose type stands for T, by a process that holds l
pub data Sending (l : List (Name × End)) : Proc → Located → Side → Ty Name → Type 0 where
  sends_close : {o : ℕ} {c : Located} {P : Proc} {s : Side} {T : Ty Name} → s ≡ provided → T ≡ unit → Sending l (send_unit o c P) c s T
  sends_passing : {o : ℕ} {c a : Located} {P : Proc} {s : Side} {T : Ty Name} (t : Passing) (d : End) → passing T ≡ some t → s ≡ t.sender
      → lookup a.name l ≡ some d → Sending l (send_channel o c a P) c s T
  sends_choice : {o : ℕ} {c n : Located} {P : Proc} {s : Side} {T : Ty Name} (t : Choosing) (A : Ty Name) → choosing T ≡ some t → s ≡ t.sender
      → labelled n.name t.labels ≡ some A → Sending l (send_label o c n P) c s T

-- a typed recv over it
pub data Receiving : Proc → Located → Side → Ty Name → Type 0 where
  receives_close : {o : ℕ} {c : Located} {P : Proc} {s : Side} {T : Ty Name} → s ≡ used → T ≡ unit → Receiving (recv_unit o c P) c s T
  receives_passing : {o : ℕ} {c x : Located} {P : Proc} {s : Side} {T : Ty Name} (t : Passing) → passing T ≡ some t → s ≡ other t.sender
      → Receiving (recv_channel o c x P) c s T
  receives_choice : {o : ℕ} {c : Located} {B : Branches} {s : Side} {T : Ty Name} (t : Choosing) → choosing T ≡ some t → s ≡ other t.sender
      → Receiving (recv_label o c B) c s T

-- ── what is typed over an end is typed over every end of one type with it
module _ (p : Program) {A B : Ty Name} (h : OneType p A B) where
  pub one_sending : {l : List (Name × End)} {P : Proc} {c : Located} {s : Side} → Sending l P c s (unfolded p.types A)
      → Sending l P c s (unfolded p.types B)
  one_sending (sends_close e z) = sends_close e (one_unit p h z)
  one_sending (sends_passing t d e z k) =
      let u = one_passing p h e in
      sends_passing u.0 d u.1 (z ∙ u.2.sender) k
  one_sending (sends_choice {n = n} t D e z k) =
      let u = one_choosing p h e in
      let w = u.2.leads n.name k in
      sends_choice u.0 w.0 u.1 (z ∙ u.2.sender) w.1

  pub one_receiving : {P : Proc} {c : Located} {s : Side} → Receiving P c s (unfolded p.types A) → Receiving P c s (unfolded p.types B)
  one_receiving (receives_close e z) = receives_close e (one_unit p h z)
  one_receiving (receives_passing t e z) = let u = one_passing p h e in receives_passing u.0 u.1 (z ∙ ap other u.2.sender)
  one_receiving (receives_choice t e z) = let u = one_choosing p h e in receives_choice u.0 u.1 (z ∙ ap other u.2.sender)

-- ── the side that sends is the type's
abbrev pub sender_of : Ty Name → Side
sender_of unit = provided
sender_of (named n) = provided
sender_of (tensor A B) = provided
sender_of (par A B) = used
sender_of (lolli A B) = used
sender_of (plus r) = provided
sender_of (with r) = used

passing_sender : (T : Ty Name) {t : Passing} → passing T ≡ some t → t.sender ≡ sender_of T
unfolding passing
passing_sender unit e = absurd (none-ne-some _ e)
passing_sender (named n) e = absurd (none-ne-some _ e)
passing_sender (tensor A B) e = ap (λ (t : Passing). t.sender) (sym (some-injective _ _ e))
passing_sender (par A B) e = ap (λ (t : Passing). t.sender) (sym (some-injective _ _ e))
passing_sender (lolli A B) e = ap (λ (t : Passing). t.sender) (sym (some-injective _ _ e))
passing_sender (plus r) e = absurd (none-ne-some _ e)
passing_sender (with r) e = absurd (none-ne-some _ e)

choosing_sender : (T : Ty Name) {t : Choosing} → choosing T ≡ some t → t.sender ≡ sender_of T
unfolding choosing
choosing_sender unit e = absurd (none-ne-some _ e)
choosing_sender (named n) e = absurd (none-ne-some _ e)
choosing_sender (tensor A B) e = absurd (none-ne-some _ e)
choosing_sender (par A B) e = absurd (none-ne-some _ e)
choosing_sender (lolli A B) e = absurd (none-ne-some _ e)
choosing_sender (plus r) e = ap (λ (t : Choosing). t.sender) (sym (some-injective _ _ e))
choosing_sender (with r) e = ap (λ (t : Choosing). t.sender) (sym (some-injective _ _ e))

pub sending_side : {l : List (Name × End)} {P : Proc} {c : Located} {s : Side} {T : Ty Name} → Sending l P c s T → s ≡ sender_of T
sending_side (sends_close e z) = e ∙ ap sender_of (sym z)
sending_side (sends_passing {T = T} t d e z h) = z ∙ passing_sender T e
sending_side (sends_choice {T = T} t A e z h) = z ∙ choosing_sender T e

pub receiving_side : {P : Proc} {c : Located} {s : Side} {T : Ty Name} → Receiving P c s T → s ≡ other (sender_of T)
receiving_side (receives_close e z) = e ∙ ap (λ T. other (sender_of T)) (sym z)
receiving_side (receives_passing {T = T} t e z) = z ∙ ap other (passing_sender T e)
receiving_side (receives_choice {T = T} t e z) = z ∙ ap other (choosing_sender T e)

-- a send and a recv of one type are its two sides
pub faces : {l : List (Name × End)} {P Q : Proc} {c d : Located} {s t : Side} {T : Ty Name} → Sending l P c s T → Receiving Q d t T → t ≡ other s
faces m w = receiving_side w ∙ ap other (sym (sending_side m))

-- what is received where it is provided is @, -o or &
sender_mark : (T : Ty Name) → provided ≡ other (sender_of T) → other_mark T ≡ true
sender_mark unit e = absurd (side_clash e)
sender_mark (named n) e = absurd (side_clash e)
sender_mark (tensor A B) e = absurd (side_clash e)
sender_mark (par A B) e = refl
sender_mark (lolli A B) e = refl
sender_mark (plus r) e = absurd (side_clash e)
sender_mark (with r) e = refl

pub received_provided : {P : Proc} {c : Located} {T : Ty Name} → Receiving P c provided T → other_mark T ≡ true
received_provided {T = T} r = sender_mark T (receiving_side r)

-- ── the two ends of one type match: a send meets a recv
one_kind : (T : Ty Name) {t : Passing} {u : Choosing} → passing T ≡ some t → choosing T ≡ some u → ⊥
unfolding passing choosing
one_kind unit e f = none-ne-some _ e
one_kind (named n) e f = none-ne-some _ e
one_kind (tensor A B) e f = none-ne-some _ f
one_kind (par A B) e f = none-ne-some _ f
one_kind (lolli A B) e f = none-ne-some _ f
one_kind (plus r) e f = none-ne-some _ e
one_kind (with r) e f = none-ne-some _ e

pub meet : {p : Program} {C : Config} {i : ℕ} {q : Process} {P Q : Proc} {c d : Located} {e : End} {h : Holder} {s t : Side} {T : Ty Name}
    → Runs C i q P → Holds C q c e (at_process h) → Answers h d Q → Sending q.held P c s T → Receiving Q d t T
    → Applies p C i
unfolding passing choosing
meet r k a (sends_close e z) (receives_close f y) = inl (_, _, communicates its_own (close_meets r k a))
meet r k a (sends_close e z) (receives_passing t f y) = absurd (none-ne-some _ (ap passing (sym z) ∙ f))
meet r k a (sends_close e z) (receives_choice t f y) = absurd (none-ne-some _ (ap choosing (sym z) ∙ f))
meet r k a (sends_passing t u e z h) (receives_close f y) = absurd (none-ne-some _ (ap passing (sym y) ∙ e))
meet r k a (sends_passing t u e z h) (receives_passing v f y) = inl (_, _, communicates its_own (channel_meets r k a))
meet r k a (sends_passing {T = T} t u e z h) (receives_choice v f y) = absurd (one_kind T e f)
meet r k a (sends_choice t A e z h) (receives_close f y) = absurd (none-ne-some _ (ap choosing (sym y) ∙ e))
meet r k a (sends_choice {T = T} t A e z h) (receives_passing v f y) = absurd (one_kind T f e)
meet {p = p} {C} {i} {h = g} r k a (sends_choice {n = n} t A e z h) (receives_choice {B = B} v f y) = by_branch_lem (branch_of n.name B) refl
  where
    -- the handler of who leaves it out starts, or the run halts
    by_link : branch_of n.name B ≡ none → (o : Option ℕ) → g.process.link ≡ o → Applies p C i
    by_link b none l = inr (inl (nobody_takes_lem its_own r k a b l))
    by_link b (some j) l = inl (_, _, communicates its_own (label_left_out r k a b l))

    by_branch_lem : (o : Option Proc) → branch_of n.name B ≡ o → Applies p C i
    by_branch_lem none b = by_link b g.process.link refl
    by_branch_lem (some P) b = inl (_, _, communicates its_own (label_meets r k a b))
