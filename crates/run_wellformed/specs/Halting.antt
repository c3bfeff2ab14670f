-- What halts a run, by the words of its processes.
use Rattle.std.specs.Prelude.{ℕ, ◌+◌, ◌≡◌, zero, suc, List, Bool, true, false, cond, not, eqb}
use Rattle.std.specs.Prelude.{Option, Some, None}
use Rattle.std.proofs.Math.Path.{refl}
use Rattle.std.proofs.Common.{sym, ◌∙◌, ap, arith, ne_eqb}
use Rattle.notation.specs.Token.{name_at}
use Rattle.notation.specs.Tree.{Name, Proc}
use Rattle.notation.specs.declared.reading.TermNode.{TermNode}
use Rattle.calculus.specs.Configuration as calculus
use Rattle.calculus.specs.Named.{every, any_of, is_some, lookup}
use Rattle.theory_decision.specs.Lists.{implies}
use Rattle.theory_decision.specs.Halting.{nobody_takes, nobody_takes_over, halts_by, halts_doing, halts_at}
use Rattle.read_tables.specs.Decode.{process_in}
use Rattle.read_tables.specs.Program.{plain_in}
use Rattle.read_tables.specs.Roots.{ProcessIn, Handlers, each_kind, process_cases, process_root}
use Rattle.run_words.specs.Raw.{RawProcess, RawConfig, link_of, raw_in}
use Rattle.run_words.specs.Decode.{decoded_process, decoded, is_halted}
use Rattle.run_words.specs.DecodeLaws.{FarAs, at_outside, given_up}
use Rattle.run_words.specs.Values as values
use Rattle.run_words.specs.declared.records.End.{End as EndWords}
use Rattle.run_words.specs.declared.records.Far.TheVariants as far
use Rattle.run_words.specs.declared.records.Held.{Held}
use Rattle.run_words.specs.declared.records.Process.{Process as ProcessWords}
use Rattle.check_contexts.specs.Held.{channels_of, end_found, Sees}
use Rattle.run_joints.specs.Tests.{all_not}
use Rattle.run_alone.specs.Run.{config_in, doing_as, process_as, RunOf, ProcessOf}
use Rattle.run_alone.specs.Forwarding.{far_raw, far_of, far_as}
use Rattle.run_messages.specs.Messages.{RunsTerm}
use Rattle.run_messages.specs.Kinds.{send_label_kind, raise_kind}

abbrev pub halts_in : List ℕ → List ℕ → RawConfig → RawProcess → Bool
halts_in s w C q = halts_at (decoded (name_at s) (plain_in s w) (process_in s w) C) (decoded_process (name_at s) (plain_in s w) (process_in s w) q)

-- "one step would halt it", if it is halted
abbrev pub halt_in : List ℕ → List ℕ → RawConfig → Bool
halt_in s w C = implies (is_halted C.halted) (any_of (halts_in s w C) C.processes)

-- ── a label that comes to a process
-- whatever end has its far end at that place and position
pub record NobodyTakes (s w ws : List ℕ) (j k at : ℕ) (r : Bool) : Type 0 where
  pub is : (e : EndWords) → far_raw s w ws e ≡ far.Process j k → r ≡ nobody_takes (name_at s (at + 1)) (far_of s w ws e)

-- ── a label that is sent over a channel
module _ (s w ws : List ℕ) {h : Held} {c : ℕ} {f : Option EndWords} (a : Sees s h c f) (l : Name) where
  pub over_far : {e : EndWords} {r : Bool} → f ≡ Some e → r ≡ nobody_takes l (far_of s w ws e) → r ≡ nobody_takes_over (config_in s w ws) l (lookup (name_at s c) (channels_of s w h))
  over_far e z = z ∙ sym (ap (nobody_takes_over (config_in s w ws) l) (a.is w ∙ ap (end_found s w) e))

module _ (s w ws : List ℕ) (e : EndWords) (l : Name) where
  out_takes : {k : ℕ} {F : calculus.Far} → FarAs (name_at s) (plain_in s w) (process_in s w) (raw_in ws) (far.Outside k) F → false ≡ nobody_takes l F
  out_takes (at_outside g) = refl

  pub outside_takes : (k : ℕ) → far.Outside k ≡ far_raw s w ws e → false ≡ nobody_takes l (far_of s w ws e)
  outside_takes k f = out_takes (far_as s w ws e (far.Outside k) f)

  gone_takes : {F : calculus.Far} → FarAs (name_at s) (plain_in s w) (process_in s w) (raw_in ws) far.GivenUp F → false ≡ nobody_takes l F
  gone_takes given_up = refl

  pub given_up_takes : far.GivenUp ≡ far_raw s w ws e → false ≡ nobody_takes l (far_of s w ws e)
  given_up_takes f = gone_takes (far_as s w ws e far.GivenUp f)

-- ── a process, by the tests that tell its words apart
module _ (s w ws : List ℕ) (p : ProcessWords) where
  abbrev halts_as : Bool
  halts_as = halts_in s w (raw_in ws) (values.process_in p)

  abbrev doing : ℕ → Bool
  doing k = halts_doing (config_in s w ws) (process_as s w p) (doing_as s w k p.pointer)

  abbrev term : Proc → Bool
  term P = halts_by (config_in s w ws) (process_as s w p) P

  by_doing : halts_as ≡ doing p.kind
  unfolding channels_of
  by_doing = refl

  -- by the node of its term, were it of the kind k
  module _ (n : TermNode) where
    abbrev label : Bool
    label = nobody_takes_over (config_in s w ws) (name_at s (n.second + 1)) (lookup (name_at s n.first) (channels_of s w p.held))

    abbrev node : ℕ → Bool
    node k = cond (eqb k raise_kind) (not (is_some (link_of p.link))) (cond (eqb k send_label_kind) label false)

    by_kind : (A : Proc) → Handlers (process_cases s w n A) (λ k. term A ≡ node k)
    by_kind A = (
      λ e. absurd e,
      (
        λ (f, e). ap term e,
        (
          λ (f, e). ap term e,
          (
            λ (f, e). ap term e,
            (
              λ (f, e). ap term e,
              (
                λ (t, f, (g, e)). ap term e,
                (
                  λ (f, e). ap term e,
                  (
                    λ (l, (f, e)). ap term e,
                    (
                      λ (l, f, e). ap term e,
                      (
                        λ e. ap term e,
                        (
                          λ (c, e). ap term e,
                          (λ (f, e). ap term e, (λ (f, (g, e)). ap term e, tt)),
                        ),
                      ),
                    ),
                  ),
                ),
              ),
            ),
          ),
        ),
      ),
    )

  module _ {m : ℕ} (t : RunOf s w ws) (o : ProcessOf s w m p) where
    pub runs_nothing : RunsTerm w p.kind p.pointer None → false ≡ halts_as
    runs_nothing z = sym (by_doing ∙ go p.kind o.term z)
      where
        go : (k : ℕ) → ((k ≡ 1 → ⊥) → ProcessIn s w p.pointer) → RunsTerm w k p.pointer None → doing k ≡ false
        go zero o z = ap term ((process_root s w t.tables.within p.pointer (o λ e. omega arith)).none (z refl))
        go (suc zero) o z = refl
        go (suc (suc k)) o z = refl

    -- one that runs the term n
    module _ (n : TermNode) (f : RunsTerm w p.kind p.pointer (Some n)) where
      there : ProcessIn s w p.pointer
      there = o.term λ e. let z : ◌≡◌ {A = ℕ} 0 1 = sym f.0 ∙ e in omega arith

      as_node : halts_as ≡ node n n.kind
      as_node =
          by_doing ∙ ap doing f.0
          ∙ each_kind (process_cases s w n (process_in s w p.pointer)) (λ k. term (process_in s w p.pointer) ≡ node n k) (by_kind n (process_in s w p.pointer)) n.kind ((f.2.says s t.tables there).node f.1).1

      pub runs_label : {r : Bool} → n.kind ≡ send_label_kind → r ≡ label n → r ≡ halts_as
      runs_label z e = e ∙ sym (as_node ∙ ap (node n) z)

      pub runs_other : (n.kind ≡ raise_kind → ⊥) → (n.kind ≡ send_label_kind → ⊥) → false ≡ halts_as
      runs_other d z = sym (as_node ∙ λ i. cond (ne_eqb n.kind raise_kind d i) (not (is_some (link_of p.link))) (cond (ne_eqb n.kind send_label_kind z i) (label n) false))

-- ── a loop that looks for one
pub some_found : {X : Type 0} (f : X → Bool) (l : List X) → every (λ x. not (f x)) l ≡ false → true ≡ any_of f l
some_found f l e = go (any_of f l) (sym (all_not f l) ∙ e)
  where
    go : (b : Bool) → not b ≡ false → true ≡ b
    go true z = refl
    go false z = z

pub none_found : {X : Type 0} (f : X → Bool) (l : List X) → every (λ x. not (f x)) l ≡ true → false ≡ any_of f l
none_found f l e = go (any_of f l) (sym (all_not f l) ∙ e)
  where
    go : (b : Bool) → not b ≡ true → false ≡ b
    go true z = z
    go false z = refl
