-- What the typing rule of a recv with labels asks of its channel and its branches.
use Rattle.std.specs.Prelude.{ℕ, ◌≡◌, refl, List, ◌++◌, Bool, true, false, not}
use Rattle.std.specs.Prelude.{Option as CodeOption, Some, None, Result, Ok, Err, IfOk}
use Rattle.std.proofs.Math.Path.{sym, ap}
use Rattle.std.proofs.Common.{◌∙◌, subst}
use Rattle.std.proofs.Math.Option.{Option, some, none}
use Rattle.notation.specs.Token.{name_at}
use Rattle.notation.specs.Tree.{Name, Located, Alternatives, Branches, recv_label, plains}
use Rattle.notation.specs.declared.reading.TermNode.{TermNode}
use Rattle.calculus.specs.Types.{other, same_side, Choosing, choosing}
use Rattle.calculus.specs.Program.{Slot, Context, Program}
use Rattle.calculus.specs.Typing.{acting}
use Rattle.calculus.specs.Checking.{fitting, check, check_branches}
use Rattle.calculus.specs.Verdict.{Verdict, demand, having}
use Rattle.calculus.specs.Warnings.{Missing, left_out, missing_on, on_typed, missing, branches_missing}
use Rattle.run_words.specs.Raw.{side_of}
use Rattle.run_words.specs.declared.records.End.{End as EndWords}
use Rattle.run_words.specs.declared.records.Held.{Held}
use Rattle.read_tables.specs.Program.{plain_in, program_in}
use Rattle.read_tables.specs.Roots.{AlternativesIn, alternatives_in, branches_in}
use Rattle.read_tables.specs.Whole.{Tables}
use Rattle.check_types.specs.Acting.{choosing_of, chosen_in, ChoosingIn, ChoosingOf}
use Rattle.check_types.specs.declared.messages.Choosing.{Choosing as ChoosingWords}
use Rattle.check_terms.specs.Findings.{Finding, refusal, finding, found}
use Rattle.check_terms.specs.Next.{context_in}
use Rattle.check_terms.specs.Acting.{slot_in, Acts, typed_as, different_sides, equal_sides, other_so}
use Rattle.check_terms.specs.Sends.{Acting, acts_not}

-- a refusal's number, or the labels of the channel's type
pub data Offered : Type 0 where
  refuses : ℕ → Offered
  offers : Alternatives Name → Offered

abbrev wanting : {X : Type 0} → ℕ → Option X → (X → Offered) → Offered
wanting n none k = refuses n
wanting n (some x) k = k x

abbrev allowed : ℕ → Bool → Offered → Offered
allowed n true t = t
allowed n false t = refuses n

abbrev pub choosing_with : ℕ → Offered → (Alternatives Name → Finding) → Finding
choosing_with at (refuses n) k = refusal n at
choosing_with at (offers r) k = k r

-- "+ used or & provided, each branch's label one of the type's, in whatever order"
abbrev offered_on : Branches → Slot → Choosing → Offered
offered_on B h t = allowed 11 (same_side h.side (other t.sender)) (allowed 12 (fitting t.labels B) (offers t.labels))

abbrev offered_at : Branches → Slot → Offered
offered_at B h = wanting 11 (choosing h.type) (offered_on B h)

unfoldable pub offered : Program → Name → Branches → Context → Offered
offered p c B G = wanting 10 (acting p c G) (offered_at B)

-- what is found of the branches B for the labels r: what the recv leaves out itself comes before what they do
abbrev pub branches_found : Program → Context → ℕ → Located → Branches → Alternatives Name → Finding
branches_found p G at c B r = finding (check_branches p G at c.name r B) (missing_on c (left_out r B) ++ branches_missing p G c.name r B)

pub found_recv_label : (p : Program) (G : Context) (at : ℕ) (c : Located) (B : Branches) → found p G (recv_label at c B) ≡ choosing_with at (offered p c.name B G) (branches_found p G at c B)
unfolding check missing offered
found_recv_label p G at c B =
    having_so 10 (acting p c.name G) _ _ (offered_at B) λ h.
    having_so 11 (choosing h.type) _ _ (offered_on B h) λ t.
    demand_so 11 (same_side h.side (other t.sender)) _ _ (allowed 12 (fitting t.labels B) (offers t.labels)) (demand_so 12 (fitting t.labels B) _ _ (offers t.labels) refl)
  where
    k : Alternatives Name → Finding
    k = branches_found p G at c B

    having_so : {X : Type 0} (n : ℕ) (o : Option X) (v : X → Verdict) (m : X → List Missing) (t : X → Offered) → ((x : X) → finding (v x) (m x) ≡ choosing_with at (t x) k) → finding (having n at o v) (on_typed o m) ≡ choosing_with at (wanting n o t) k
    having_so n none v m t f = refl
    having_so n (some x) v m t f = f x

    demand_so : (n : ℕ) (b : Bool) (v : Verdict) (m : List Missing) (t : Offered) → finding v m ≡ choosing_with at t k → finding (demand n at b v) m ≡ choosing_with at (allowed n b t) k
    demand_so n true v m t e = e
    demand_so n false v m t e = refl

-- ── the code's answer
abbrev pub offer_of : List ℕ → List ℕ → Result ChoosingWords ℕ → Offered
offer_of s w (Ok t) = offers (plains (alternatives_in s w t.place t.count))
offer_of s w (Err n) = refuses n

abbrev pub offered_by : List ℕ → List ℕ → TermNode → Context → Offered
offered_by s w n G = offered (program_in s w) (name_at s n.first) (branches_in s w n.second n.third) G

pub record Offers (s w : List ℕ) (h : Held) (n : TermNode) (r : Result ChoosingWords ℕ) : Type 0 where
  pub is : offer_of s w r ≡ offered_by s w n (context_in s w h)
  pub labels : IfOk r (λ t. AlternativesIn s w t.place t.count)

-- ── the ways through the code
offers_refused : {s w : List ℕ} {h : Held} {n : TermNode} {x : Result ChoosingWords ℕ} {m : ℕ} → x ≡ Err m → offered_by s w n (context_in s w h) ≡ refuses m → Offers s w h n x
offers_refused v e = rw v (record { is = sym e; labels = tt })

module _ {s w : List ℕ} {h : Held} (n : TermNode) where
  pub offers_absent : {x : Result ChoosingWords ℕ} → x ≡ Err 10 → {r : CodeOption EndWords} → Acts s w h n.first r → r ≡ None → Offers s w h n x
  unfolding offered
  offers_absent v a q = offers_refused v (ap (λ o. wanting 10 o (offered_at (branches_in s w n.second n.third))) (acts_not a q))

  module _ {e : EndWords} (g : Acting s w h n.first e) (u : Tables s w) {i : ℕ} (z : i ≡ e.node) {r : CodeOption ChoosingWords} (f : ChoosingOf w i r) where
    there : ChoosingIn s w i r
    there = f.says s u (typed_as s w e i z g.fits)

    seen : offered_by s w n (context_in s w h) ≡ wanting 11 (choosing_of s w r) (offered_on (branches_in s w n.second n.third) (slot_in s w e))
    unfolding offered
    seen =
        ap (λ o. wanting 10 o (offered_at (branches_in s w n.second n.third))) g.is
        ∙ ap (λ k. wanting 11 (choosing (plain_in s w k)) (offered_on (branches_in s w n.second n.third) (slot_in s w e))) (sym z)
        ∙ ap (λ o. wanting 11 o (offered_on (branches_in s w n.second n.third) (slot_in s w e))) there.is

    pub offers_nothing : {x : Result ChoosingWords ℕ} → x ≡ Err 11 → r ≡ None → Offers s w h n x
    offers_nothing v q = offers_refused v (seen ∙ ap (λ o. wanting 11 (choosing_of s w o) (offered_on (branches_in s w n.second n.third) (slot_in s w e))) q)

    module _ {t : ChoosingWords} (q : r ≡ Some t) where
      parts : chosen_in s w (Some t)
      parts = subst (chosen_in s w) q there.parts

      pub labels_there : AlternativesIn s w t.place t.count
      labels_there = parts.1

      both : {x y : Bool} → not (same_side (side_of e.side) (side_of t.sender)) ≡ x → fitting (plains (alternatives_in s w t.place t.count)) (branches_in s w n.second n.third) ≡ y
          → offered_by s w n (context_in s w h) ≡ allowed 11 x (allowed 12 y (offers (plains (alternatives_in s w t.place t.count))))
      both a b =
          seen
          ∙ ap (λ o. wanting 11 (choosing_of s w o) (offered_on (branches_in s w n.second n.third) (slot_in s w e))) q
          ∙ λ j. allowed 11 ((other_so e.side (side_of t.sender) ∙ a) j) (allowed 12 (b j) (offers (plains (alternatives_in s w t.place t.count))))

      pub offers_own_end : e.side ≡ t.sender → Offers s w h n (Err 11)
      offers_own_end a = offers_refused refl (both (ap not (equal_sides e.side t.sender g.side parts.0 a)) refl)

      module _ (a : e.side ≡ t.sender → ⊥) where
        pub offers_not : false ≡ fitting (plains (alternatives_in s w t.place t.count)) (branches_in s w n.second n.third) → Offers s w h n (Err 12)
        offers_not b = offers_refused refl (both (ap not (different_sides e.side t.sender g.side parts.0 a)) (sym b))

        pub offers_so : true ≡ fitting (plains (alternatives_in s w t.place t.count)) (branches_in s w n.second n.third) → Offers s w h n (Ok t)
        offers_so b = record { is = sym (both (ap not (different_sides e.side t.sender g.side parts.0 a)) (sym b)); labels = labels_there }
