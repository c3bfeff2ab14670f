-- The step at a place: "Which rule applies is decided by the term's kind".
use Rattle.std.specs.Prelude.{ℕ, zero, suc, ◌-◌, ◌≤◌, ◌<◌, ◌≡◌, refl, List, [], ◌∷◌, Bool, true, false, cond, not, length}
use Rattle.std.specs.Prelude.{Some}
use Rattle.std.proofs.Common.{sym, ◌∙◌, ap, arith}
use Rattle.std.proofs.Math.Path.{subst}
use Rattle.std.proofs.lemmas.Bool.{false≢true}
use Rattle.std.proofs.Math.Option.{some, none, some-injective}
use Rattle.std.proofs.Math.ListN.{get_elem?}
use Rattle.notation.specs.Limits.{text_limit, held_limit, process_term_limit}
use Rattle.notation.specs.Reader.{name_in, label_in}
use Rattle.notation.specs.Tree.{Name, Located, Ty, Proc, send_label, spawn, call}
use Rattle.notation.specs.Tables.{term_node}
use Rattle.notation.specs.declared.reading.TermNode.{TermNode}
use Rattle.calculus.specs.Named.{lookup, kept}
use Rattle.calculus.specs.Types.{Side}
use Rattle.calculus.specs.Program.{slot, Context, Signature, Program, signature_context}
use Rattle.calculus.specs.Mentions.{spawn_takes, spawn_leaves, half_mentions}
use Rattle.calculus.specs.Typing.{Typed, calls, ListFits, none_left, one_fits}
use Rattle.calculus.specs.Configuration.{End, Process, Config}
use Rattle.calculus.specs.Steps.{Outcome, not_open, send, receive, cancelling, spawning, trying, calling, raising, forwarding, leaving, step_term, step_doing, step_of, step}
use Rattle.calculus.specs.WellFormed.{context_of, TypedAs, WellFormed}
use Rattle.theory_derivations.specs.Halves.{spawn_iff}
use Rattle.read_tables.specs.Access.{TermOf}
use Rattle.read_tables.specs.Decode.{type_in, process_in, arguments_at}
use Rattle.read_tables.specs.Names.{CallAt}
use Rattle.read_tables.specs.Program.{program_in}
use Rattle.read_tables.specs.Roots.{TypeIn, ProcessIn, Handlers, each_kind, process_cases, process_root}
use Rattle.run_words.specs.Raw.{raw_in, pointer_limit, running_kind}
use Rattle.run_words.specs.Values.{value_of}
use Rattle.run_words.specs.declared.records.Process.{Process as ProcessWords}
use Rattle.check_contexts.specs.Held.{channels_of}
use Rattle.calculus.specs.Typing.{Bodies}
use Rattle.run_messages.specs.Kinds.{call_kind, raise_kind, recv_label_kind, recv_unit_kind, send_label_kind, send_unit_kind, spawn_kind}
use Rattle.run_alone.specs.declared.outcome.Outcome.{Outcome as OutcomeWords}
use Rattle.run_alone.specs.declared.outcome.Outcome.TheVariants.{NotOpen}
use Rattle.run_alone.specs.Run.{config_in, doing_as, process_as, RunOf, StandsAt, Carries}
use Rattle.run_alone.specs.Changes.{places_in}
use Rattle.run_alone.specs.Spawning.{SpawnIn}
use Rattle.run_messages.specs.Messages.{message_by, SendNode, RunsTerm, label_small}
use Rattle.run_messages.specs.Sending.{send_by}
use Rattle.run_messages.specs.Waiting.{Awaits, AwaitsRecv, value_stands}
use Rattle.run_alone.specs.Calling.{CallIn, names_many}

-- every process of the program has at most 16 channels, as an accepted text's have
pub record SmallSignatures (p : Program) : Type 0 where
  pub small : (n : Name) (g : Signature) → lookup n p.processes ≡ some g → length (signature_context g) ≤ held_limit

-- ── the rule of a node's kind, and what stands at its numbers
module _ (s w old : List ℕ) (i : ℕ) (q : Process) (n : TermNode) where
  abbrev C : Config
  C = config_in s w old

  abbrev pub rule_by : ℕ → Outcome
  rule_by zero = not_open
  rule_by (suc zero) = send (program_in s w) C i q (name_in s n.first) (message_by s n.second 1) (process_in s w n.third)
  rule_by (suc (suc zero)) = send (program_in s w) C i q (name_in s n.first) (message_by s n.second 2) (process_in s w n.third)
  rule_by (suc (suc (suc zero))) = send (program_in s w) C i q (name_in s n.first) (message_by s n.second 3) (process_in s w n.third)
  rule_by (suc (suc (suc (suc zero)))) = cancelling C i q (name_in s n.first) (process_in s w n.third)
  rule_by (suc (suc (suc (suc (suc zero))))) = spawning C i q (name_in s n.at) (type_in s w n.first) (process_in s w n.second) (process_in s w n.third)
  rule_by (suc (suc (suc (suc (suc (suc zero)))))) = receive (program_in s w) C i q (name_in s n.first)
  rule_by (suc (suc (suc (suc (suc (suc (suc zero))))))) = receive (program_in s w) C i q (name_in s n.first)
  rule_by (suc (suc (suc (suc (suc (suc (suc (suc zero)))))))) = receive (program_in s w) C i q (name_in s n.first)
  rule_by (suc (suc (suc (suc (suc (suc (suc (suc (suc zero))))))))) = forwarding C i q (name_in s n.first) (name_in s n.second)
  rule_by (suc (suc (suc (suc (suc (suc (suc (suc (suc (suc zero)))))))))) = calling (program_in s w) C i q (name_in s n.first) (arguments_at s n.second).0 (arguments_at s n.second).1
  rule_by (suc (suc (suc (suc (suc (suc (suc (suc (suc (suc (suc zero))))))))))) = raising C i q (process_in s w n.third)
  rule_by (suc (suc (suc (suc (suc (suc (suc (suc (suc (suc (suc (suc k)))))))))))) = trying C i q (process_in s w n.second) (process_in s w n.third)

module _ (s w : List ℕ) (G : Context) (n : TermNode) where
  abbrev pub facts_by : ℕ → Type 0
  facts_by zero = ⊥
  facts_by (suc zero) = ProcessIn s w n.third
  facts_by (suc (suc zero)) = ProcessIn s w n.third
  facts_by (suc (suc (suc zero))) = (n.second < pointer_limit) × ProcessIn s w n.third
  facts_by (suc (suc (suc (suc zero)))) = ProcessIn s w n.third
  facts_by (suc (suc (suc (suc (suc zero))))) = TypeIn s w n.first × ProcessIn s w n.second × ProcessIn s w n.third × Typed (program_in s w) G (spawn (name_in s n.at) (type_in s w n.first) (process_in s w n.second) (process_in s w n.third))
  facts_by (suc (suc (suc (suc (suc (suc zero)))))) = Unit {0}
  facts_by (suc (suc (suc (suc (suc (suc (suc zero))))))) = Unit {0}
  facts_by (suc (suc (suc (suc (suc (suc (suc (suc zero)))))))) = Unit {0}
  facts_by (suc (suc (suc (suc (suc (suc (suc (suc (suc zero))))))))) = Unit {0}
  facts_by (suc (suc (suc (suc (suc (suc (suc (suc (suc (suc zero)))))))))) = CallAt s n.second (arguments_at s n.second).0 (arguments_at s n.second).1 × Typed (program_in s w) G (call n.at (name_in s n.first) n.second (arguments_at s n.second).0 (arguments_at s n.second).1)
  facts_by (suc (suc (suc (suc (suc (suc (suc (suc (suc (suc (suc zero))))))))))) = ProcessIn s w n.third
  facts_by (suc (suc (suc (suc (suc (suc (suc (suc (suc (suc (suc (suc k)))))))))))) = ProcessIn s w n.second × ProcessIn s w n.third

module _ (s w old : List ℕ) (i : ℕ) (q : Process) (A : Proc) (G : Context) (d : Typed (program_in s w) G A)
    (small : (o : ℕ) (c : Located) (k : ℕ) (P : Proc) → A ≡ send_label o c (label_in s k) P → k < pointer_limit) (at first second third : ℕ) where
  abbrev node : ℕ → TermNode
  node k = term_node k at first second third

  abbrev Ruled : ℕ → Type 0
  Ruled k = (step_term (program_in s w) (config_in s w old) i q A ≡ rule_by s w old i q (node k) k) × facts_by s w G (node k) k

  abbrev ruled : {B : Proc} → A ≡ B → step_term (program_in s w) (config_in s w old) i q A ≡ step_term (program_in s w) (config_in s w old) i q B
  ruled e = ap (step_term (program_in s w) (config_in s w old) i q) e

  rules : Handlers (process_cases s w (node 0) A) Ruled
  unfolding step_term
  rules = (
    λ e. absurd e,
    (
      λ ((m, f), e). (ruled e, f),
      (
        λ ((m, f), e). (ruled e, f),
        (
          λ ((m, f), e). (ruled e, (small _ _ _ _ e, f)),
          (
            λ ((m, f), e). (ruled e, f),
            (
              λ (t, (l, f), ((m, g), e)). (ruled e, (t, f, g, subst (Typed (program_in s w) G) e d)),
              (
                λ (f, e). (ruled e, tt),
                (
                  λ (l, (f, e)). (ruled e, tt),
                  (
                    λ (l, f, e). (ruled e, tt),
                    (
                      λ e. (ruled e, tt),
                      (
                        λ (c, e). (ruled e, (c, subst (Typed (program_in s w) G) e d)),
                        (λ ((m, f), e). (ruled e, f), (λ ((l, f), ((m, g), e)). (ruled e, (f, g)), tt)),
                      ),
                    ),
                  ),
                ),
              ),
            ),
          ),
        ),
      ),
    ),
  )

-- the rule of the node of a process that runs
module _ (s w old : List ℕ) (t : RunOf s w old) (F : WellFormed (program_in s w) (config_in s w old)) (i : ℕ) (p : ProcessWords) (u : StandsAt s w old i p) (z : p.kind ≡ running_kind) where
  abbrev context : Context
  context = context_of (channels_of s w p.held)

  stands_term : ProcessIn s w p.pointer
  stands_term = u.is.term (λ e. let q : ◌≡◌ {A = ℕ} 0 1 = sym z ∙ e in omega arith)

  typed_term : Typed (program_in s w) context (process_in s w p.pointer)
  typed_term = (subst (λ k. TypedAs (program_in s w) context (doing_as s w k p.pointer)) z (F.typed i (process_as s w p) (record { there = u.there }))).1

  pub node_ruled : (n : TermNode) → p.pointer < process_term_limit → TermOf w p.pointer n
      → (step_term (program_in s w) (config_in s w old) i (process_as s w p) (process_in s w p.pointer) ≡ rule_by s w old i (process_as s w p) n n.kind) × facts_by s w context n n.kind
  node_ruled n b o =
      each_kind (process_cases s w n (process_in s w p.pointer))
      (Ruled s w old i (process_as s w p) (process_in s w p.pointer) context typed_term (label_small s w p.pointer t.tables stands_term) n.at n.first n.second n.third)
      (rules s w old i (process_as s w p) (process_in s w p.pointer) context typed_term (label_small s w p.pointer t.tables stands_term) n.at n.first n.second n.third)
      n.kind ((o.says s t.tables stands_term).node b).1

  pub empty_ruled : process_term_limit ≤ p.pointer → {new : List ℕ} {r : OutcomeWords} → Carries s w old new r (leaving (config_in s w old) i (process_as s w p)) → Carries s w old new r (step_term (program_in s w) (config_in s w old) i (process_as s w p) (process_in s w p.pointer))
  unfolding step_term
  empty_ruled b {new} {r} c = subst (λ P. Carries s w old new r (step_term (program_in s w) (config_in s w old) i (process_as s w p) P)) (sym ((process_root s w t.tables.within p.pointer stands_term).none b)) c

-- ── what typing gives of a spawn's room and a call's lists
kept_many : (t : Name → Bool) (l : List (Name × End)) → length (kept t (context_of l)) ≡ length (kept t l)
unfolding kept
kept_many t [] = refl
kept_many t (e ∷ l) = go (t e.0) (kept_many t l)
  where
    go : (b : Bool) → length (kept t (context_of l)) ≡ length (kept t l) → length (cond b ((e.0, slot e.1.side e.1.type) ∷ kept t (context_of l)) (kept t (context_of l))) ≡ length (cond b (e ∷ kept t l) (kept t l))
    go true h = ap suc h
    go false h = h

pub spawn_room : {p : Program} {x : Located} {A : Ty Located} {P Q : Proc} (l : List (Name × End)) → Typed p (context_of l) (spawn x A P Q) → (length (spawn_takes x.name P l) < held_limit) × (length (spawn_leaves x.name P l) < held_limit)
unfolding spawn_takes spawn_leaves
spawn_room {x = x} {P = P} l d =
    let b = (spawn_iff.1 d).1.0 in
    (omega (arith, b.0.room, kept_many (half_mentions x.name P) l), omega (arith, b.1.room, kept_many (λ n. not (half_mentions x.name P n)) l))

fits_many : {equal : Ty Name → Ty Name → Type 0} {G : Context} {a : Side} {ns : List Name} {es : List (Name × Ty Name)} → ListFits equal G a ns es → length ns ≡ length es
fits_many none_left = refl
fits_many (one_fits A e o f) = ap suc (fits_many f)

pub call_fits : {p : Program} {G : Context} {o bracket : ℕ} {q : Located} {xs ys : List Located} → Typed p G (call o q bracket xs ys) → (g : Signature) → lookup q.name p.processes ≡ some g → length xs ≡ length g.provides
call_fits {G = G} {xs = xs} (calls h e fx fy d w) g z = sym (names_many xs) ∙ fits_many fx ∙ ap (λ (x : Signature). length x.provides) (some-injective _ _ (sym e ∙ z))

-- ── the node n says which rule applies
pub record RuledBy (s w old : List ℕ) (i : ℕ) (p : ProcessWords) (n : TermNode) : Type 0 where
  pub is : step_term (program_in s w) (config_in s w old) i (process_as s w p) (process_in s w p.pointer) ≡ rule_by s w old i (process_as s w p) n n.kind
  pub facts : facts_by s w (context_of (channels_of s w p.held)) n n.kind
  pub at : n.at < text_limit

abbrev pub term_by : List ℕ → List ℕ → List ℕ → ℕ → ProcessWords → Outcome
term_by s w old i p = step_term (program_in s w) (config_in s w old) i (process_as s w p) (process_in s w p.pointer)

module _ (s w old : List ℕ) (i : ℕ) (p : ProcessWords) (n : TermNode) (u : RuledBy s w old i p n) where
  pub facts_at : (k : ℕ) → n.kind ≡ k → facts_by s w (context_of (channels_of s w p.held)) n k
  facts_at k e = subst (facts_by s w (context_of (channels_of s w p.held)) n) e u.facts

  facts_send : (k : ℕ) → 1 ≤ k → k ≤ 3 → facts_by s w (context_of (channels_of s w p.held)) n k → ProcessIn s w n.third
  facts_send zero a b f = absurd f
  facts_send (suc zero) a b f = f
  facts_send (suc (suc zero)) a b f = f
  facts_send (suc (suc (suc zero))) a b (l, f) = f
  facts_send (suc (suc (suc (suc k)))) a b f = absurd (omega arith)

  pub send_node : send_unit_kind ≤ n.kind → n.kind ≤ send_label_kind → SendNode n × ProcessIn s w n.third
  send_node a b = (record { low = a; high = b; label = λ e. (facts_at 3 e).0 }, facts_send n.kind a b u.facts)

  module _ {new : List ℕ} {r : OutcomeWords} where
    pub ruled_as : (k : ℕ) → n.kind ≡ k → Carries s w old new r (rule_by s w old i (process_as s w p) n k) → Carries s w old new r (term_by s w old i p)
    ruled_as k e c = subst (Carries s w old new r) (sym (u.is ∙ ap (rule_by s w old i (process_as s w p) n) e)) c

    pub ruled_send : send_unit_kind ≤ n.kind → n.kind ≤ send_label_kind → Carries s w old new r (send_by s w old i p n) → Carries s w old new r (term_by s w old i p)
    ruled_send a b c = subst (Carries s w old new r) (sym (u.is ∙ sym (go n.kind a b))) c
      where
        go : (k : ℕ) → 1 ≤ k → k ≤ 3 → send (program_in s w) (config_in s w old) i (process_as s w p) (name_in s n.first) (message_by s n.second k) (process_in s w n.third) ≡ rule_by s w old i (process_as s w p) n k
        go zero a b = absurd (omega arith)
        go (suc zero) a b = refl
        go (suc (suc zero)) a b = refl
        go (suc (suc (suc zero))) a b = refl
        go (suc (suc (suc (suc k)))) a b = absurd (omega arith)

    pub ruled_receive : recv_unit_kind ≤ n.kind → n.kind ≤ recv_label_kind → Carries s w old new r (receive (program_in s w) (config_in s w old) i (process_as s w p) (name_in s n.first)) → Carries s w old new r (term_by s w old i p)
    ruled_receive a b c = go n.kind refl a b
      where
        go : (k : ℕ) → n.kind ≡ k → 6 ≤ k → k ≤ 8 → Carries s w old new r (term_by s w old i p)
        go zero e a b = absurd (omega arith)
        go (suc zero) e a b = absurd (omega arith)
        go (suc (suc zero)) e a b = absurd (omega arith)
        go (suc (suc (suc zero))) e a b = absurd (omega arith)
        go (suc (suc (suc (suc zero)))) e a b = absurd (omega arith)
        go (suc (suc (suc (suc (suc zero))))) e a b = absurd (omega arith)
        go (suc (suc (suc (suc (suc (suc zero)))))) e a b = ruled_as 6 e c
        go (suc (suc (suc (suc (suc (suc (suc zero))))))) e a b = ruled_as 7 e c
        go (suc (suc (suc (suc (suc (suc (suc (suc zero)))))))) e a b = ruled_as 8 e c
        go (suc (suc (suc (suc (suc (suc (suc (suc (suc k))))))))) e a b = absurd (omega arith)

  facts_last : (k : ℕ) → 11 < k → n.kind ≡ k → facts_by s w (context_of (channels_of s w p.held)) n k → ProcessIn s w n.second × ProcessIn s w n.third
  facts_last k l e f = let z : k ≡ suc (suc (suc (suc (suc (suc (suc (suc (suc (suc (suc (suc (k - 12)))))))))))) = omega arith in subst (facts_by s w (context_of (channels_of s w p.held)) n) z f

  pub try_parts : raise_kind < n.kind → ProcessIn s w n.second × ProcessIn s w n.third
  try_parts l = facts_last n.kind l refl u.facts

  pub ruled_try : {new : List ℕ} {r : OutcomeWords} → raise_kind < n.kind → Carries s w old new r (trying (config_in s w old) i (process_as s w p) (process_in s w n.second) (process_in s w n.third)) → Carries s w old new r (term_by s w old i p)
  ruled_try l c = let z : n.kind ≡ suc (suc (suc (suc (suc (suc (suc (suc (suc (suc (suc (suc (n.kind - 12)))))))))))) = omega arith in ruled_as _ z c

  pub spawn_in : n.kind ≡ spawn_kind → SpawnIn s w (record { name = n.at; node = n.first; first = n.second; second = n.third }) p.held
  spawn_in e = let (t, f, g, d) = facts_at 5 e in let (a, b) = spawn_room (channels_of s w p.held) d in record { name = u.at; type = t; first = f; second = g; taken = a; left = b }

  pub call_in : SmallSignatures (program_in s w) → n.kind ≡ call_kind → CallIn s w n.first n.second
  call_in m e = let (c, d) = facts_at 10 e in record { lists = c; fitting = λ g z. (call_fits d g z, m.small _ g z) }

-- ── the step at a place
module _ (s w old : List ℕ) (t : RunOf s w old) (F : WellFormed (program_in s w) (config_in s w old)) (i : ℕ) (p : ProcessWords) (u : StandsAt s w old i p) where
  pub node_rules : (n : TermNode) → RunsTerm w p.kind p.pointer (Some n) → RuledBy s w old i p n
  node_rules n (z, b, o) = let (e, f) = node_ruled s w old t F i p u z n b o in record { is = e; facts = f; at = o.at }

  abbrev doing_by : ℕ → Outcome
  doing_by k = step_doing (program_in s w) (config_in s w old) i (process_as s w p) (doing_as s w k p.pointer)

  pub steps_as : {new : List ℕ} {r : OutcomeWords} (k : ℕ) → p.kind ≡ k → Carries s w old new r (doing_by k) → Carries s w old new r (step (program_in s w) (config_in s w old) i)
  unfolding step
  steps_as {new} {r} k e c = subst (λ o. Carries s w old new r (step_of (program_in s w) (config_in s w old) i o)) (sym u.there) (subst (λ m. Carries s w old new r (doing_by m)) (sym e) c)

-- ── a recv or a send that waits, told from the words
-- where the answer is yes, the step is not open
pub record Waits (s w ws : List ℕ) (i : ℕ) (r : Bool) : Type 0 where
  pub is : r ≡ true → Carries s w ws ws NotOpen (step (program_in s w) (config_in s w ws) i)

pub waits_not : {s w ws : List ℕ} {i : ℕ} → Waits s w ws i false
waits_not = record { is = λ z. absurd (false≢true z) }

-- the node of what the process at a place runs
module _ {s w ws : List ℕ} {i : ℕ} (t : RunOf s w ws) (F : WellFormed (program_in s w) (config_in s w ws)) (b : i < length (raw_in ws).processes) (kind pointer : ℕ) (n : TermNode) (k : kind ≡ (value_of ws i).kind) (p : pointer ≡ (value_of ws i).pointer)
    (f : RunsTerm w kind pointer (Some n)) where
  runs_there : (value_of ws i).kind ≡ running_kind
  runs_there = sym k ∙ f.0

  ruled_there : RuledBy s w ws i (value_of ws i) n
  ruled_there = node_rules s w ws t F i (value_of ws i) (value_stands t i b) n (runs_there, omega (arith, f.1, p), subst (λ m. TermOf w m n) p f.2)

  waits_as : {r : Bool} → (r ≡ true → Carries s w ws ws NotOpen (term_by s w ws i (value_of ws i))) → Waits s w ws i r
  waits_as a = record { is = λ y. steps_as s w ws t F i (value_of ws i) (value_stands t i b) 0 runs_there (a y) }

  pub waits_so : {r : Bool} → recv_unit_kind ≤ n.kind → n.kind ≤ recv_label_kind → Awaits s w ws i n.first r → Waits s w ws i r
  waits_so low high a = waits_as (λ y. ruled_receive s w ws i (value_of ws i) n ruled_there low high (a.is y))

  pub send_waits_so : {r : Bool} → send_unit_kind ≤ n.kind → n.kind ≤ send_label_kind → AwaitsRecv s w ws i n r → Waits s w ws i r
  send_waits_so low high a = waits_as (λ y. ruled_send s w ws i (value_of ws i) n ruled_there low high (a.is y))

pub past_end : {A : Type 0} (l : List A) (i : ℕ) → length l ≤ i → get_elem? l i ≡ none
past_end [] i h = refl
past_end (x ∷ l) zero h = absurd (omega arith)
past_end (x ∷ l) (suc i) h = past_end l i (omega arith)

pub steps_nowhere : (s w old : List ℕ) (i : ℕ) → length (raw_in old).processes ≤ i → Carries s w old old NotOpen (step (program_in s w) (config_in s w old) i)
unfolding step
steps_nowhere s w old i h = subst (λ o. Carries s w old old NotOpen (step_of (program_in s w) (config_in s w old) i o)) (sym (past_end (config_in s w old).processes i (omega (arith, h, places_in s w old)))) (record { is = (refl, refl) })

-- what an accepted script gives of the processes that it declares
pub small_signatures : {p : Program} → Bodies p → SmallSignatures p
small_signatures b = record { small = λ n g e. (b.typed n g e).room }
