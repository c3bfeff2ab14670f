-- A script's warnings: the labels that its recvs leave out.
use Rattle.std.specs.Prelude.{ℕ, ◌+◌, ◌≡◌, List, [], ◌∷◌, ◌++◌, map, cond, Some, None, Option as CodeOption}
use Rattle.std.proofs.Math.Option.{Option, some, none}
use Rattle.notation.specs.Token.{name_at}
use Rattle.notation.specs.Tree.{Name, Located, Alternatives, alternative, Proc, empty, send_unit, send_channel, send_label, cancel, spawn, recv_unit, recv_channel, recv_label, fwd, call, raise, try, Branches, branch, Declaration, declare_type, declare_proc, declare_exec, plain}
use Rattle.calculus.specs.Named.{without, is_some}
use Rattle.calculus.specs.Types.{provided, used, passing, choosing, labelled}
use Rattle.calculus.specs.Program.{slot, Context, Program, signature_context, entries, program_of}
use Rattle.calculus.specs.Declarations.{gather}
use Rattle.calculus.specs.Mentions.{spawn_takes, spawn_leaves, try_takes}
use Rattle.calculus.specs.Typing.{acting, retyped, bringing}
use Rattle.calculus.specs.Steps.{branch_of}
use Rattle.calculus.specs.declared.answers.Missing.{Missing as MissingAt}

-- a label that a recv leaves out: the recv's channel, as it is named there, and the label
pub record Missing : Type 0 where
  pub channel : Located
  pub label : Name

-- the labels of a type, in its order, for which there is no branch
unfoldable pub left_out : Alternatives Name → Branches → List Name
left_out Alternatives.none B = []
left_out (alternative l A r) B = cond (is_some (branch_of l B)) (left_out r B) (l ∷ left_out r B)

abbrev pub missing_on : Located → List Name → List Missing
missing_on c ls = map (λ l. record { channel = c; label = l }) ls

-- what the typing rules have there; a script that is accepted has it everywhere
abbrev pub on_typed : {X : Type 0} → Option X → (X → List Missing) → List Missing
on_typed none k = []
on_typed (some x) k = k x

unfoldable mutual
  -- "in text order, a recv before those inside it"; G is what the typing rules have held there
  pub missing : Program → Context → Proc → List Missing
  missing p G (empty at) = []
  missing p G (send_unit at c P) = missing p (without c.name G) P
  missing p G (send_channel at c a P) =
      on_typed (acting p c.name G) λ h.
      on_typed (passing h.type) λ t.
      missing p (retyped c.name t.after (without a.name G)) P
  missing p G (send_label at c l P) =
      on_typed (acting p c.name G) λ h.
      on_typed (choosing h.type) λ t.
      on_typed (labelled l.name t.labels) λ A.
      missing p (retyped c.name A G) P
  missing p G (cancel at c P) = missing p (without c.name G) P
  missing p G (spawn x A P Q) =
      missing p (bringing x.name (slot provided (plain A)) (spawn_takes x.name P G)) P
      ++ missing p (bringing x.name (slot used (plain A)) (spawn_leaves x.name P G)) Q
  missing p G (recv_unit at c P) = missing p (without c.name G) P
  missing p G (recv_channel at c x P) =
      on_typed (acting p c.name G) λ h.
      on_typed (passing h.type) λ t.
      missing p (bringing x.name (slot t.side t.what) (retyped c.name t.after G)) P
  missing p G (recv_label at c B) =
      on_typed (acting p c.name G) λ h.
      on_typed (choosing h.type) λ t.
      missing_on c (left_out t.labels B) ++ branches_missing p G c.name t.labels B
  missing p G (fwd at x c) = []
  missing p G (call at q bracket xs ys) = []
  missing p G (raise at P) = missing p G P
  missing p G (try at P Q) = missing p (try_takes P G) P ++ missing p (try_takes Q G) Q

  -- branches as written
  pub branches_missing : Program → Context → Name → Alternatives Name → Branches → List Missing
  branches_missing p G c r Branches.none = []
  branches_missing p G c r (branch l P B) = on_typed (labelled l.name r) (λ A. missing p (retyped c A G) P) ++ branches_missing p G c r B

-- a warning: in which process, by its declaration's name, which recv leaves out which label
pub record Warning : Type 0 where
  pub process : Located
  pub channel : Located
  pub label : Name

abbrev pub warning_in : Located → Missing → Warning
warning_in q m = record { process = q; channel = m.channel; label = m.label }

abbrev pub own_warnings : Program → Declaration → List Warning
own_warnings p (declare_type n A) = []
own_warnings p (declare_proc n xs ys P) = map (warning_in n) (missing p (signature_context (record { provides = entries xs; uses = entries ys; body = P })) P)
own_warnings p (declare_exec n) = []

-- "of every process, executed or not"
unfoldable pub warnings : List Declaration → List Warning
warnings ds = gather (own_warnings (program_of ds)) ds

-- an answer that tells of a warning in the text s: where its process and its channel are named, and where a label of that name stands
abbrev pub TellsOf : List ℕ → Option Warning → CodeOption MissingAt → Type 0
TellsOf s none r = r ≡ None
TellsOf s (some w) r =
    (label : ℕ) × (r ≡ Some (record { process = w.process.at; channel = w.channel.at; label = label })) × (name_at s (label + 1) ≡ w.label)
