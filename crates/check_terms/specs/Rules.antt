-- What the typing rules ask of one term that goes on, one definition for each; what is found of such a term is the rule's step, then the rest.
use Rattle.std.specs.Prelude.{ℕ, ◌≡◌, Bool, true, false, cond, not, ◌&&◌}
use Rattle.std.proofs.Math.Path.{refl}
use Rattle.std.proofs.Math.Option.{Option, some, none}
use Rattle.notation.specs.Bytes.{same}
use Rattle.notation.specs.Tree.{Name, Located, Ty, Proc, send_unit, send_channel, send_label, cancel, recv_unit, recv_channel}
use Rattle.calculus.specs.Named.{lookup, without}
use Rattle.calculus.specs.Types.{Side, provided, used, other, same_side, Passing, passing, Choosing, choosing, labelled}
use Rattle.calculus.specs.Program.{Slot, slot, Context, Program}
use Rattle.calculus.specs.Typing.{acting, retyped, bringing}
use Rattle.calculus.specs.Checking.{may_bring, is_unit_on, fits_slot, check}
use Rattle.calculus.specs.Verdict.{demand, having}
use Rattle.calculus.specs.Warnings.{on_typed, missing}
use Rattle.check_terms.specs.Findings.{Finding, finding, found}
use Rattle.check_terms.specs.Next.{Step, go, asking, granted, resume, having_asks, typed_asks, demand_asks}

-- ── a close
unfoldable pub closes : Program → Side → Name → Context → Step
closes p s c G = asking 10 (acting p c G) λ h. granted 11 (is_unit_on s h) (go (without c G))

-- ── a channel passed: the type of c after the channel e has gone over it
abbrev pub passed_by : Program → Slot → Slot → Option Passing → Option (Ty Name)
passed_by p h e none = none
passed_by p h e (some t) = cond (same_side h.side t.sender && fits_slot p t.side t.what e) (some t.after) none

abbrev pub passes_over : Program → Slot → Slot → Option (Ty Name)
passes_over p h e = passed_by p h e (passing h.type)

unfoldable pub passes : Program → Name → Name → Context → Step
passes p c a G =
    asking 10 (acting p c G) λ h.
    asking 10 (lookup a G) λ e.
    granted 11 (not (same c a)) (asking 11 (passes_over p h e) λ A. go (retyped c A (without a G)))

-- ── a label sent: the type of c after it
abbrev pub chosen_by : Slot → Name → Option Choosing → Option (Ty Name)
chosen_by h l none = none
chosen_by h l (some t) = cond (same_side h.side t.sender) (labelled l t.labels) none

abbrev pub chooses_over : Slot → Name → Option (Ty Name)
chooses_over h l = chosen_by h l (choosing h.type)

unfoldable pub chooses : Program → Name → Name → Context → Step
chooses p c l G = asking 10 (acting p c G) λ h. asking 11 (chooses_over h l) λ A. go (retyped c A G)

-- ── a channel given up
unfoldable pub gives_up : Name → Context → Step
gives_up c G = asking 10 (lookup c G) λ _. go (without c G)

-- ── a channel received
abbrev pub taken_by : Slot → Option Passing → Option Passing
taken_by h none = none
taken_by h (some t) = cond (same_side h.side (other t.sender)) (some t) none

abbrev pub takes_from : Slot → Option Passing
takes_from h = taken_by h (passing h.type)

unfoldable pub receives : Program → Name → Name → Context → Step
receives p c x G =
    asking 10 (acting p c G) λ h.
    asking 11 (takes_from h) λ t. granted 15 (may_bring x G G) (go (bringing x (slot t.side t.what) (retyped c t.after G)))

-- ── what is found of a term is the rule's step, then the rest
module _ (p : Program) (G : Context) (at : ℕ) where
  abbrev rest : Proc → Context → Finding
  rest P H = found p H P

  pub found_send_unit : (c : Located) (P : Proc) → found p G (send_unit at c P) ≡ resume at (closes p provided c.name G) (rest P)
  unfolding check missing closes
  found_send_unit c P = having_asks 10 at (acting p c.name G) _ _ _ (rest P) λ h. demand_asks 11 at (is_unit_on provided h) _ _ _ (rest P) refl

  pub found_recv_unit : (c : Located) (P : Proc) → found p G (recv_unit at c P) ≡ resume at (closes p used c.name G) (rest P)
  unfolding check missing closes
  found_recv_unit c P = having_asks 10 at (acting p c.name G) _ _ _ (rest P) λ h. demand_asks 11 at (is_unit_on used h) _ _ _ (rest P) refl

  pub found_cancel : (c : Located) (P : Proc) → found p G (cancel at c P) ≡ resume at (gives_up c.name G) (rest P)
  unfolding check missing gives_up
  found_cancel c P = having_asks 10 at (lookup c.name G) _ _ _ (rest P) λ h. refl

  -- a thing and a test of it are one thing asked for
  pass_so : (c : Name) (h e : Slot) (K : Ty Name → Context) (P : Proc) (o : Option Passing)
      → finding (having 11 at o (λ t. demand 11 at (same_side h.side t.sender && fits_slot p t.side t.what e) (check p (K t.after) P))) (on_typed o λ t. missing p (K t.after) P)
      ≡ resume at (asking 11 (passed_by p h e o) λ A. go (K A)) (rest P)
  pass_so c h e K P none = refl
  pass_so c h e K P (some t) = test (same_side h.side t.sender && fits_slot p t.side t.what e)
    where
      test : (b : Bool) → finding (demand 11 at b (check p (K t.after) P)) (missing p (K t.after) P) ≡ resume at (asking 11 (cond b (some t.after) none) λ A. go (K A)) (rest P)
      test true = refl
      test false = refl

  pub found_send_channel : (c a : Located) (P : Proc) → found p G (send_channel at c a P) ≡ resume at (passes p c.name a.name G) (rest P)
  unfolding check missing passes
  found_send_channel c a P =
      typed_asks 10 at (acting p c.name G) _ _ _ (rest P) λ h.
      having_asks 10 at (lookup a.name G) _ _ _ (rest P) λ e.
      demand_asks 11 at (not (same c.name a.name)) _ _ _ (rest P)
      (pass_so c.name h e (λ A. retyped c.name A (without a.name G)) P (passing h.type))

  choose_so : (c : Name) (h : Slot) (l : Name) (P : Proc) (o : Option Choosing)
      → finding (having 11 at o (λ t. demand 11 at (same_side h.side t.sender) (having 11 at (labelled l t.labels) λ A. check p (retyped c A G) P))) (on_typed o λ t. on_typed (labelled l t.labels) λ A. missing p (retyped c A G) P)
      ≡ resume at (asking 11 (chosen_by h l o) λ A. go (retyped c A G)) (rest P)
  choose_so c h l P none = refl
  choose_so c h l P (some t) = test (same_side h.side t.sender) (labelled l t.labels)
    where
      test : (b : Bool) (o : Option (Ty Name))
          → finding (demand 11 at b (having 11 at o λ A. check p (retyped c A G) P)) (on_typed o λ A. missing p (retyped c A G) P)
          ≡ resume at (asking 11 (cond b o none) λ A. go (retyped c A G)) (rest P)
      test true none = refl
      test true (some A) = refl
      test false o = refl

  pub found_send_label : (c l : Located) (P : Proc) → found p G (send_label at c l P) ≡ resume at (chooses p c.name l.name G) (rest P)
  unfolding check missing chooses
  found_send_label c l P = typed_asks 10 at (acting p c.name G) _ _ _ (rest P) λ h. choose_so c.name h l.name P (choosing h.type)

  abbrev taking : Name → Name → Passing → Context
  taking c x t = bringing x (slot t.side t.what) (retyped c t.after G)

  take_so : (c x : Name) (h : Slot) (P : Proc) (o : Option Passing)
      → finding (having 11 at o (λ t. demand 11 at (same_side h.side (other t.sender)) (demand 15 at (may_bring x G G) (check p (taking c x t) P)))) (on_typed o λ t. missing p (taking c x t) P)
      ≡ resume at (asking 11 (taken_by h o) λ t. granted 15 (may_bring x G G) (go (taking c x t))) (rest P)
  take_so c x h P none = refl
  take_so c x h P (some t) = test (same_side h.side (other t.sender))
    where
      test : (b : Bool)
          → finding (demand 11 at b (demand 15 at (may_bring x G G) (check p (taking c x t) P))) (missing p (taking c x t) P)
          ≡ resume at (asking 11 (cond b (some t) none) λ u. granted 15 (may_bring x G G) (go (taking c x u))) (rest P)
      test true = demand_asks 15 at (may_bring x G G) _ _ _ (rest P) refl
      test false = refl

  pub found_recv_channel : (c x : Located) (P : Proc) → found p G (recv_channel at c x P) ≡ resume at (receives p c.name x.name G) (rest P)
  unfolding check missing receives
  found_recv_channel c x P = typed_asks 10 at (acting p c.name G) _ _ _ (rest P) λ h. take_so c.name x.name h P (passing h.type)
