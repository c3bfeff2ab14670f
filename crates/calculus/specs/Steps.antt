-- The step at a place: "Which rule applies is decided by the term's kind". One definition for each rule of the scope.
use Rattle.std.specs.Prelude.{ℕ, suc, List, [], ◌∷◌, ◌++◌, Bool, true, false, cond, ◌&&◌, length, set, ltb, eqb}
use Rattle.std.proofs.Math.Option.{Option, some, none, map, get_or}
use Rattle.std.proofs.Math.ListN.{get_elem?}
use Rattle.notation.specs.Limits.{process_places, outside_numbers}
use Rattle.notation.specs.Bytes.{same}
use Rattle.notation.specs.Tree.{Name, Located, Ty, Proc, empty, send_unit, send_channel, send_label, cancel, spawn, recv_unit, recv_channel, recv_label, fwd, call, raise, try, Branches, branch, plain}
use Rattle.calculus.specs.Named.{lookup, without, changed}
use Rattle.calculus.specs.Types.{Side, provided, used, other, same_side, unfolded, Passing, passing, Choosing, choosing, labelled}
use Rattle.calculus.specs.Program.{Slot, Context, Signature, Program, signature_context}
use Rattle.calculus.specs.Mentions.{spawn_takes, spawn_leaves, try_takes}
use Rattle.calculus.specs.Typing.{names_of}
use Rattle.calculus.specs.Configuration.{End, end, Doing, running, folding, waiting, Process, process, Outside, Config, with_processes, with_outside, one_more_given, replaced, goes_on, folds_up, doing_now, holding, linked_by, at, Holder, Far, at_process, at_outside, given_up, far_end, fresh_channel, moved_up, inserted, removed, let_go, changed_outside, moved_outside, of_type, of_channel, outside_of_type, outside_of}
use Rattle.calculus.specs.declared.answers.Seen.{Seen}
use Rattle.calculus.specs.declared.answers.Seen.TheVariants.{Nothing, Label, Close, Passed, Cancelled}

-- carried out, with what was seen; uncaught, which halts the run and leaves the rest as it was; "A step is open when, lack of places and numbers aside, a rule here applies at its place"
pub data Outcome : Type 0 where
  carried : Seen → Config → Outcome
  uncaught : Outcome
  not_open : Outcome
  lacking : Outcome

abbrev pub on_held : Option End → (End → Outcome) → Outcome
on_held none k = not_open
on_held (some e) k = k e

-- ── what goes over a channel
pub data Message : Type 0 where
  closing : Message
  passes : Located → Message
  chooses : Located → Message

-- what a recv has for each
pub data Wanted : Type 0 where
  on_close : Proc → Wanted
  on_channel : Located → Proc → Wanted
  on_label : Branches → Wanted

-- a term by its kind: a send, a recv, or a term that steps alone
pub data Turn : Type 0 where
  sends : Located → Message → Proc → Turn
  receives : Located → Wanted → Turn
  alone : Turn

abbrev pub turn : Proc → Turn
turn (empty i) = alone
turn (send_unit i c P) = sends c closing P
turn (send_channel i c a P) = sends c (passes a) P
turn (send_label i c l P) = sends c (chooses l) P
turn (cancel i c P) = alone
turn (spawn x A P Q) = alone
turn (recv_unit i c P) = receives c (on_close P)
turn (recv_channel i c x P) = receives c (on_channel x P)
turn (recv_label i c B) = receives c (on_label B)
turn (fwd i x c) = alone
turn (call i q bracket xs ys) = alone
turn (raise i P) = alone
turn (try i P Q) = alone

abbrev pub turn_of : Doing → Turn
turn_of (running P) = turn P
turn_of folding = alone
turn_of (waiting P) = alone

-- "An end's type is what the typing rules make of its signature's or spawn's": each end moves on from its own type.
-- The type of an end once a message has gone over its channel
abbrev pub after_passing : Ty Name → Option Passing → Ty Name
after_passing A none = A
after_passing A (some t) = t.after

abbrev pub after_choosing : Ty Name → Name → Option Choosing → Ty Name
after_choosing A l none = A
after_choosing A l (some t) = get_or (labelled l t.labels) A

unfoldable pub after_message : Program → Message → Ty Name → Ty Name
after_message p closing A = A
after_message p (passes a) A = after_passing A (passing (unfolded p.types A))
after_message p (chooses l) A = after_choosing A l.name (choosing (unfolded p.types A))

-- the channel of name c, once the message m has gone over it: in its place, of the type that is then left; for a process, and for the outside
abbrev pub onward : Program → Message → Name → List (Name × End) → List (Name × End)
onward p m c l = changed c (λ e. of_type (after_message p m e.type) e) l

abbrev pub outside_onward : Program → Message → ℕ → List Outside → List Outside
outside_onward p m k l = changed_outside k (λ o. outside_of_type (after_message p m o.type) o) l

-- the end d has come over a channel: whoever takes it has that channel with the type A, which says the type of d
abbrev pub passed_type : Ty Name → Option Passing → Ty Name
passed_type B none = B
passed_type B (some t) = t.what

abbrev pub comes_over : Program → Ty Name → End → End
comes_over p A d = of_type (passed_type d.type (passing (unfolded p.types A))) d

-- the sender's channels afterwards: a closed channel is dropped, a passed one is gone
unfoldable pub after_send : Program → Name → Message → List (Name × End) → List (Name × End)
after_send p c closing l = without c l
after_send p c (passes a) l = onward p (passes a) c (without a.name l)
after_send p c (chooses m) l = onward p (chooses m) c l

abbrev pub branch_of : Name → Branches → Option Proc
branch_of l Branches.none = none
branch_of l (branch m P B) = cond (same l m.name) (some P) (branch_of l B)

-- what a message makes of its receiver: it goes on; it has left out the label, and folds up as by a raise; or its term wants another message
pub data Received : Type 0 where
  takes : Process → Received
  leaves_out : Process → Received
  unwanted : Received

-- c is the receiver's own name for the channel, d the end that is passed
abbrev pub takes_close : Wanted → Name → Process → Received
takes_close (on_close P) c q = takes (goes_on q P (without c q.held))
takes_close (on_channel x P) c q = unwanted
takes_close (on_label B) c q = unwanted

-- x is the end d that came over the receiver's own end e
abbrev pub bound : Program → Name → Option End → Option End → List (Name × End)
bound p x none d = []
bound p x (some e) none = []
bound p x (some e) (some d) = (x, comes_over p e.type d) ∷ []

abbrev pub takes_channel : Program → Located → Wanted → Name → Option End → Process → Received
takes_channel p a (on_close P) c d q = unwanted
takes_channel p a (on_channel x P) c d q = takes (goes_on q P (onward p (passes a) c q.held ++ bound p x.name (lookup c q.held) d))
takes_channel p a (on_label B) c d q = unwanted

-- either way it has l from now on: its own end is of the type of the label
abbrev pub by_branch : Option Proc → Process → List (Name × End) → Received
by_branch none q l = leaves_out (folds_up q l)
by_branch (some P) q l = takes (goes_on q P l)

abbrev pub takes_label : Program → Located → Wanted → Name → Process → Received
takes_label p l (on_close P) c q = unwanted
takes_label p l (on_channel x P) c q = unwanted
takes_label p l (on_label B) c q = by_branch (branch_of l.name B) q (onward p (chooses l) c q.held)

unfoldable pub after_receive : Program → Message → Wanted → Name → Option End → Process → Received
after_receive p closing w c d q = takes_close w c q
after_receive p (passes a) w c d q = takes_channel p a w c d q
after_receive p (chooses l) w c d q = takes_label p l w c q

abbrev pub passed_end : Message → List (Name × End) → Option End
passed_end closing l = none
passed_end (passes a) l = lookup a.name l
passed_end (chooses m) l = none

-- ── an end is given up: "the outside lets go of a channel that is closed or cancelled"; where the far end is the outside's, the step shows cancelled
abbrev pub seen_at : Far → Seen
seen_at (at_process h) = Nothing
seen_at (at_outside n) = Cancelled n
seen_at given_up = Nothing

abbrev pub outside_after : Far → ℕ → List Outside → List Outside
outside_after (at_process h) k o = o
outside_after (at_outside n) k o = let_go k o
outside_after given_up k o = o

-- the process q stands at place i, and has let go of the end e
unfoldable pub parting : Config → ℕ → Process → End → Outcome
parting C i q e = carried (seen_at (far_end C e)) (with_outside (outside_after (far_end C e) e.channel C.outside) (replaced i q C))

-- ── a handler: it starts by a raise, a lost recv or a label left out of the process that is linked to it, and folds up when that process leaves
abbrev pub started_doing : Doing → Doing
started_doing (running P) = running P
started_doing folding = folding
started_doing (waiting Q) = running Q

abbrev pub started_handler : Process → Process
started_handler h = doing_now (started_doing h.doing) h

abbrev pub folded_handler : Process → Process
folded_handler h = doing_now folding h

abbrev pub put_at : List Process → ℕ → Option Process → List Process
put_at l j none = l
put_at l j (some h) = set l j h

abbrev pub changed_at : (Process → Process) → Option ℕ → List Process → List Process
changed_at f none l = l
changed_at f (some j) l = put_at l j (map f (get_elem? l j))

-- the process q stands at place i, without its link; its handler, if linked, starts
abbrev pub handler_starts : ℕ → Process → Config → Config
handler_starts i q C = replaced i (linked_by none q) (with_processes (changed_at started_handler q.link C.processes) C)

-- the process q at place i acts as by a raise: "the handler starts"; without a link it "halts the run"
abbrev pub caught_by : Option ℕ → Config → ℕ → Process → Outcome
caught_by none C i q = uncaught
caught_by (some h) C i q = carried Nothing (handler_starts i q C)

-- ── "A matching send and recv on one channel step together". "When a label comes that its recv leaves out: the sender goes on, and the receiver acts in that same step as by a raise and folds up"
abbrev pub both_to : Config → ℕ → Process → ℕ → Received → Outcome
both_to C i p' j (takes q') = carried Nothing (replaced j q' (replaced i p' C))
both_to C i p' j (leaves_out q') = caught_by q'.link (replaced i p' C) j q'
both_to C i p' j unwanted = not_open

abbrev pub meeting : Program → Config → ℕ → Process → Process → Message → Holder → Turn → Outcome
meeting p C i q q' m h (sends c' m' P) = not_open
meeting p C i q q' m h (receives c' w) =
    cond (same c'.name h.name) (both_to C i q' h.place (after_receive p m w h.name (passed_end m q.held) h.process)) not_open
meeting p C i q q' m h alone = not_open

-- ── "A send on an outside channel steps with the outside; a channel passed out takes the next outside number"
-- One that was already given up takes its number too, and the outside lets go of it at once.
abbrev pub is_given_up : Far → Bool
is_given_up (at_process h) = false
is_given_up (at_outside n) = false
is_given_up given_up = true

-- the end d, which came over the outside's own channel o, under the next number
abbrev pub new_outside : Program → ℕ → Option Outside → End → List Outside
new_outside p next none d = []
new_outside p next (some o) d = record { number = next; channel = d.channel; type = (comes_over p o.type d).type } ∷ []

abbrev pub passed_out : Program → Config → ℕ → Process → Located → End → ℕ → End → Bool → Outcome
passed_out p C i q' a e n d gone =
    carried (Passed n C.given gone)
    (one_more_given
    (with_outside
    (outside_onward p (passes a) e.channel C.outside ++ cond gone [] (new_outside p C.given (outside_of e.channel C.outside) d))
    (replaced i q' C)))

abbrev pub to_outside : Program → Config → ℕ → Process → Process → Message → End → ℕ → Outcome
to_outside p C i q q' closing e n = carried (Close n) (with_outside (let_go e.channel C.outside) (replaced i q' C))
to_outside p C i q q' (passes a) e n =
    on_held (lookup a.name q.held) λ d.
    cond (ltb C.given outside_numbers) (passed_out p C i q' a e n d (is_given_up (far_end C d))) lacking
to_outside p C i q q' (chooses l) e n = carried (Label n l.at) (with_outside (outside_onward p (chooses l) e.channel C.outside) (replaced i q' C))

-- ── "When the far end was given up: a send goes on, and gives up a channel it would have passed"
abbrev pub unheard : Config → ℕ → Process → Process → Message → Outcome
unheard C i q q' closing = carried Nothing (replaced i q' C)
unheard C i q q' (passes a) = on_held (lookup a.name q.held) λ d. parting C i q' d
unheard C i q q' (chooses l) = carried Nothing (replaced i q' C)

abbrev pub sending : Program → Config → ℕ → Process → Process → Message → End → Far → Outcome
sending p C i q q' m e (at_process h) = meeting p C i q q' m h (turn_of h.process.doing)
sending p C i q q' m e (at_outside n) = to_outside p C i q q' m e n
sending p C i q q' m e given_up = unheard C i q q' m

-- a send of the process q at place i
unfoldable pub send : Program → Config → ℕ → Process → Located → Message → Proc → Outcome
send p C i q c m P =
    on_held (lookup c.name q.held) λ e.
    sending p C i q (goes_on q P (after_send p c.name m q.held)) m e (far_end C e)

-- "either one's place names the step": a recv steps as the send at its far end does
abbrev pub answering : Program → Config → Holder → Turn → Outcome
answering p C h (sends c m P) = cond (same c.name h.name) (send p C h.place h.process c m P) not_open
answering p C h (receives c w) = not_open
answering p C h alone = not_open

-- "a recv drops its channel in that step and folds up; if its process is linked, the handler starts in that step, as by a raise, and the process folds up without the link"
abbrev pub receiving : Program → Config → ℕ → Process → Name → Far → Outcome
receiving p C i q c (at_process h) = answering p C h (turn_of h.process.doing)
receiving p C i q c (at_outside n) = not_open
receiving p C i q c given_up = carried Nothing (handler_starts i (folds_up q (without c q.held)) C)

unfoldable pub receive : Program → Config → ℕ → Process → Located → Outcome
receive p C i q c = on_held (lookup c.name q.held) λ e. receiving p C i q c.name (far_end C e)

-- ── alone: spawn. "A spawn's new process is P"
abbrev pub place_for : Config → Outcome → Outcome
place_for C r = cond (ltb (length C.processes) process_places) r lacking

abbrev pub spawned : Config → ℕ → Process → Name → Ty Name → Proc → Proc → Option ℕ → Outcome
spawned C i q x A P Q none = lacking
spawned C i q x A P Q (some k) =
    carried Nothing
    (with_processes
    (inserted i (process (running P) (spawn_takes x P q.held ++ ((x, end provided k A) ∷ [])) none)
    (set C.processes i (goes_on q Q (spawn_leaves x P q.held ++ ((x, end used k A) ∷ [])))))
    C)

unfoldable pub spawning : Config → ℕ → Process → Located → Ty Located → Proc → Proc → Outcome
spawning C i q x A P Q = place_for C (spawned C i q x.name (plain A) P Q (fresh_channel C))

-- ── alone: try (the handler waits). "a try's is Q"; P gets a new link, Q the old
unfoldable pub trying : Config → ℕ → Process → Proc → Proc → Outcome
trying C i q P Q =
    place_for C
    (carried Nothing
    (with_processes
    (set (inserted i (process (waiting Q) (try_takes Q q.held) (map (moved_up i) q.link)) C.processes) i
    (linked_by (some (suc i)) (goes_on q P (try_takes P q.held))))
    C))

-- ── alone: call. The body with the channels of the lists, in signature order
abbrev pub renamed_end : Name × Slot → Option End → List (Name × End)
renamed_end s none = []
renamed_end s (some e) = (s.0, end s.1.side e.channel s.1.type) ∷ []

abbrev pub renamed : List Name → Context → List (Name × End) → List (Name × End)
renamed [] G l = []
renamed (a ∷ ns) [] l = []
renamed (a ∷ ns) (s ∷ G) l = renamed_end s (lookup a l) ++ renamed ns G l

abbrev pub entering : Config → ℕ → Process → List Name → Option Signature → Outcome
entering C i q ns none = not_open
entering C i q ns (some s) = carried Nothing (replaced i (goes_on q s.body (renamed ns (signature_context s) q.held)) C)

unfoldable pub calling : Program → Config → ℕ → Process → Located → List Located → List Located → Outcome
calling p C i q f xs ys = entering C i q (names_of xs ++ names_of ys) (lookup f.name p.processes)

-- ── alone: cancel
unfoldable pub cancelling : Config → ℕ → Process → Located → Proc → Outcome
cancelling C i q c P = on_held (lookup c.name q.held) λ e. parting C i (goes_on q P (without c.name q.held)) e

-- ── alone: raise. "the handler starts"; "a raise without a link halts the run"
unfoldable pub raising : Config → ℕ → Process → Proc → Outcome
raising C i q P = caught_by q.link C i (goes_on q P q.held)

-- ── alone: fwd. It "makes the two far ends one channel and leaves its process empty; if one was given up, the other finds its far end given up,
-- and if that other is the outside, the step shows cancelled": e is the end of x, d that of c
abbrev pub emptied : Process → Process
emptied q = folds_up q []

-- the end of channel k on side s becomes one of channel m, under whatever name it is held
unfoldable pub moved_end : ℕ → Side → ℕ → List (Name × End) → List (Name × End)
moved_end k s m [] = []
moved_end k s m (e ∷ l) = cond (eqb k e.1.channel && same_side s e.1.side) ((e.0, of_channel m e.1) ∷ l) (e ∷ moved_end k s m l)

-- the process r holds the far end of e, which takes the place of d: so the far ends of e and d are one channel
abbrev pub far_moved : End → End → Process → Process
far_moved e d r = holding (moved_end e.channel (other e.side) d.channel r.held) r

abbrev pub joined_to : Config → ℕ → Process → End → End → Far → Outcome
joined_to C i q e d (at_process h) =
    carried Nothing
    (replaced h.place (far_moved e d h.process) (replaced i (emptied q) C))
joined_to C i q e d (at_outside n) = carried Nothing (with_outside (moved_outside e.channel d.channel C.outside) (replaced i (emptied q) C))
joined_to C i q e d given_up = carried Nothing (replaced i (emptied q) C)

abbrev pub joining : Config → ℕ → Process → End → End → Far → Outcome
joining C i q e d (at_process h) = joined_to C i q e d (far_end C e)
joining C i q e d (at_outside n) = joined_to C i q e d (far_end C e)
joining C i q e d given_up = parting C i (emptied q) e

unfoldable pub forwarding : Config → ℕ → Process → Located → Located → Outcome
forwarding C i q x c =
    on_held (lookup x.name q.held) λ e.
    on_held (lookup c.name q.held) λ d.
    joining C i q e d (far_end C d)

-- ── "An empty process steps by leaving the list. Its handler, if linked, then folds up, keeping its own link."
unfoldable pub leaving : Config → ℕ → Process → Outcome
leaving C i q = carried Nothing (with_processes (removed i (changed_at folded_handler q.link C.processes)) C)

-- "A process that folds up cancels one held channel a step, oldest first, then is empty." With nothing held it is empty at once.
unfoldable pub folding_up : Config → ℕ → Process → List (Name × End) → Outcome
folding_up C i q [] = leaving C i q
folding_up C i q (e ∷ l) = parting C i (folds_up q l) e.1

-- ── the rule of a term's kind
unfoldable pub step_term : Program → Config → ℕ → Process → Proc → Outcome
step_term p C i q (empty o) = leaving C i q
step_term p C i q (send_unit o c P) = send p C i q c closing P
step_term p C i q (send_channel o c a P) = send p C i q c (passes a) P
step_term p C i q (send_label o c l P) = send p C i q c (chooses l) P
step_term p C i q (cancel o c P) = cancelling C i q c P
step_term p C i q (spawn x A P Q) = spawning C i q x A P Q
step_term p C i q (recv_unit o c P) = receive p C i q c
step_term p C i q (recv_channel o c x P) = receive p C i q c
step_term p C i q (recv_label o c B) = receive p C i q c
step_term p C i q (fwd o x c) = forwarding C i q x c
step_term p C i q (call o f bracket xs ys) = calling p C i q f xs ys
step_term p C i q (raise o P) = raising C i q P
step_term p C i q (try o P Q) = trying C i q P Q

-- "a waiting handler has none"
abbrev pub step_doing : Program → Config → ℕ → Process → Doing → Outcome
step_doing p C i q (running P) = step_term p C i q P
step_doing p C i q folding = folding_up C i q q.held
step_doing p C i q (waiting Q) = not_open

abbrev pub step_of : Program → Config → ℕ → Option Process → Outcome
step_of p C i none = not_open
step_of p C i (some q) = step_doing p C i q q.doing

-- the step at a place
unfoldable pub step : Program → Config → ℕ → Outcome
step p C i = step_of p C i (at C i)

abbrev pub is_open_by : Outcome → Bool
is_open_by (carried s D) = true
is_open_by uncaught = true
is_open_by not_open = false
is_open_by lacking = true

abbrev pub lacks_by : Outcome → Bool
lacks_by (carried s D) = false
lacks_by uncaught = false
lacks_by not_open = false
lacks_by lacking = true
