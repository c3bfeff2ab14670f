-- What the parts of a comparison of two types promise, and a law for each way through them.
use Rattle.std.specs.Prelude.{◌≡◌, refl, ◌⊎◌, List, Bool, true, false, ℕ, ◌+◌, ◌-◌, ◌<◌, ◌≤◌, length}
use Rattle.std.specs.Prelude.{Option, Some, None, is_some, not}
use Rattle.std.proofs.Common.{sym, ◌∙◌, ap, subst, inl, inr, true≢false, arith}
use Rattle.std.proofs.Math.Option.{map}
use Rattle.trees.specs.Both.{Both, neither, both, both_map, both_some, here_only, there_only}
use Rattle.trees.specs.Heads.{Head, labelled, Matching, leaves, words, pairs, choices, pair_parts, choice_parts, word_parts}
use Rattle.trees.specs.Equal.{Equal}
use Rattle.trees.specs.Listed.{Listed, in_either}
use Rattle.trees.specs.Asked.{labels_of, whole}
use Rattle.trees.specs.Classes.{Near, Good, On, on_refl, on_trans, Joined, joined_on}
use Rattle.notation.specs.Bytes.{same}
use Rattle.notation.specs.Limits.{type_term_limit}
use Rattle.notation.specs.Tables.{Area}
use Rattle.notation.specs.Token.{name_at}
use Rattle.notation.specs.Tree.{Name}
use Rattle.notation.specs.declared.reading.TypeNode.{TypeNode}
use Rattle.calculus.specs.SameType.{same_sound, same_refl}
use Rattle.read_tables.specs.declared.access.Labelled.{Labelled}
use Rattle.read_tables.specs.Access.{AlternativeOf}
use Rattle.read_tables.specs.Roots.{TypeIn, AlternativesIn}
use Rattle.read_tables.specs.Search.{place_of}
use Rattle.read_tables.specs.Whole.{Tables}
use Rattle.check_types.specs.Numbers.{rows_in, node_head, number_for, head_in, mark_of, first_row, no_rows, by_leaf, by_word, by_pair, by_choice, kind_by}
use Rattle.check_types.specs.Alternatives.{first_there, first_in}
use Rattle.check_types.specs.Acting.{StandsFor}
use Rattle.check_types.specs.Labels.{LeadsTo}
use Rattle.check_types.specs.SameNumbers.{number_means}

-- both ways at once
pub never : {A : Type 0} {r : Bool} → r ≡ true → r ≡ false → A
never p q = absurd (true≢false (sym p ∙ q))

module _ (s w : List ℕ) where
  -- the types at two nodes are equal
  abbrev pub Same : ℕ → ℕ → Type 0
  Same = Equal same (head_in s w)

  -- the classes in a comparison of a with b, and what becomes of them
  abbrev pub Classes : ℕ → ℕ → List ℕ → List ℕ → Type 0
  Classes = Good same type_term_limit (head_in s w) (TypeIn s w)

  abbrev pub Onward : ℕ → ℕ → List ℕ → List ℕ → List ℕ → List ℕ → Type 0
  Onward = On same type_term_limit (head_in s w) (TypeIn s w)

  -- what the code that joins two nodes promises
  abbrev pub Joins : ℕ → ℕ → List ℕ → List ℕ → List ℕ → List ℕ → Type 0
  Joins x y rep st rep' st' = length rep ≡ type_term_limit → length st ≡ type_term_limit → Joined type_term_limit x y rep st rep' st'

  -- the nodes joined that the types i and j stand for
  pub record TypesJoined (i j : ℕ) (rep st rep' st' : List ℕ) : Type 0 where
    pub is : Joins (number_for s w i) (number_for s w j) rep st rep' st'

  -- all goes well and Q holds, or a and b are not equal
  pub data Result (a b : ℕ) (rep st : List ℕ) (r : Bool) (rep' st' : List ℕ) (Q : Type 0) : Type 0 where
    fine : r ≡ true → Onward a b rep st rep' st' → Q → Result a b rep st r rep' st' Q
    broken : r ≡ false → (Same a b → ⊥) → Result a b rep st r rep' st' Q

  pub broken_by : {a b : ℕ} {rep st rep' st' : List ℕ} {r : Bool} {Q : Type 0} → Result a b rep st r rep' st' Q → r ≡ false → Same a b → ⊥
  broken_by (fine u o q) z = never u z
  broken_by (broken u d) z = d

  -- ── what the code promises
  -- the label l leads from x and from y to nodes that R relates, or nowhere
  abbrev pub Leads : TypeNode → TypeNode → (ℕ → ℕ → Type 0) → Name → Type 0
  Leads x y R l = Both R (labelled same l (rows_in s w x.first x.second)) (labelled same l (rows_in s w y.first y.second))

  -- so does every label
  abbrev pub AllLead : TypeNode → TypeNode → (ℕ → ℕ → Type 0) → Type 0
  AllLead x y R = (l : Name) → Leads x y R l

  -- l is a label of the n alternatives before the place e
  abbrev pub LabelOf : ℕ → ℕ → Name → Type 0
  LabelOf e n l = Listed l (labels_of same same_sound (rows_in s w e n))

  -- each label of those alternatives leads from x and from y to nodes that R relates, or nowhere
  abbrev pub EachLeads : ℕ → ℕ → TypeNode → TypeNode → (ℕ → ℕ → Type 0) → Type 0
  EachLeads e n x y R = (l : Name) → LabelOf e n l → Leads x y R l

  -- x and y have one mark, and parts that R relates
  abbrev pub Match : TypeNode → TypeNode → (ℕ → ℕ → Type 0) → Type 0
  Match x y R = Matching same R (node_head s w x) (node_head s w y)

  -- where the label at `at` leads
  pub record LabelMet (at : ℕ) (x y : TypeNode) (rep st : List ℕ) (r : Bool) (rep' st' : List ℕ) : Type 0 where
    pub is : (a b : ℕ) → Classes a b rep st → (Same a b → Leads x y Same (name_at s (at + 1))) → Result a b rep st r rep' st' (Leads x y (Near rep') (name_at s (at + 1)))

  -- where the labels of the n alternatives before the place e lead
  pub record LabelsMet (e n : ℕ) (x y : TypeNode) (rep st : List ℕ) (r : Bool) (rep' st' : List ℕ) : Type 0 where
    pub is : (a b : ℕ) → Classes a b rep st → (Same a b → AllLead x y Same) → Result a b rep st r rep' st' (EachLeads e n x y (Near rep'))

  -- the parts of two nodes
  pub record HeadsMet (x y : TypeNode) (rep st : List ℕ) (r : Bool) (rep' st' : List ℕ) : Type 0 where
    pub is : (a b : ℕ) → Classes a b rep st → (Same a b → Match x y Same) → Result a b rep st r rep' st' (Match x y (Near rep'))

  -- the parts of a node stand, by its kind
  pub record PartsIn (n : TypeNode) : Type 0 where
    pub pair : (n.kind ≡ 0 → ⊥) → (n.kind ≡ 1 → ⊥) → n.kind < 5 → TypeIn s w n.first × TypeIn s w n.second
    pub labels : 5 ≤ n.kind → AlternativesIn s w n.first n.second

  pub small_in : Tables s w → (i : ℕ) → TypeIn s w i → i < type_term_limit
  small_in t i a = omega (arith, a.small, t.within)

  -- the parts of two nodes of one kind
  module _ {x y : TypeNode} (px : PartsIn x) (py : PartsIn y) (e : x.kind ≡ y.kind) where
    pub labels_there : 5 ≤ x.kind → AlternativesIn s w x.first x.second × AlternativesIn s w y.first y.second
    labels_there high = (px.labels high, py.labels (omega arith))

    pub pairs_there : (x.kind ≡ 0 → ⊥) → (x.kind ≡ 1 → ⊥) → x.kind < 5 → (TypeIn s w x.first × TypeIn s w x.second) × (TypeIn s w y.first × TypeIn s w y.second)
    pairs_there n0 n1 low = (px.pair n0 n1 low, py.pair (λ z. n0 (e ∙ z)) (λ z. n1 (e ∙ z)) (omega arith))

  -- ── the nodes joined that two types stand for
  pub types_joined : {i j u v : ℕ} {rep st rep' st' : List ℕ} → StandsFor s w i u → StandsFor s w j v → Joins u v rep st rep' st' → TypesJoined i j rep st rep' st'
  types_joined {j = j} {u = u} {rep = rep} {st = st} {rep' = rep'} {st' = st'} su sv k =
      record { is = subst (λ m. Joins m (number_for s w j) rep st rep' st') su.number (subst (λ m. Joins u m rep st rep' st') sv.number k) }

  joined_types : Tables s w → {a b i j : ℕ} {rep st rep' st' : List ℕ} → Classes a b rep st → TypeIn s w i → TypeIn s w j → (Same a b → Same (number_for s w i) (number_for s w j)) → Joins (number_for s w i) (number_for s w j) rep st rep' st'
      → Onward a b rep st rep' st' × Near rep' (number_for s w i) (number_for s w j)
  joined_types t {i = i} {j = j} g ti tj n k = joined_on (small_in t) g (number_means s w t i ti).0 (number_means s w t j tj).0 n (k g.long g.states)

  -- ── one label
  module _ (t : Tables s w) where
    module _ (at : ℕ) (x y : TypeNode) (rep st : List ℕ) (p q : Option ℕ) (lp : LeadsTo s w at x.first x.second p) (lq : LeadsTo s w at y.first y.second q) where
      abbrev Here : (ℕ → ℕ → Type 0) → Type 0
      Here R = Leads x y R (name_at s (at + 1))

      abbrev BothFound : (ℕ → ℕ → Type 0) → Type 0
      BothFound R = Both R (map (number_for s w) (place_of p)) (map (number_for s w) (place_of q))

      as_found : (R : ℕ → ℕ → Type 0) → BothFound R → Here R
      as_found R b = rw (lp.number, lq.number) b

      from_found : (R : ℕ → ℕ → Type 0) → Here R → BothFound R
      from_found R b = rw (lp.number, lq.number) at b

      pub label_absent : (r : Bool) → p ≡ None → is_some q ≡ not r → LabelMet at x y rep st r rep st
      label_absent r e f = record { is = λ a b g n. go q r refl f g n }
        where
          go : {a b : ℕ} (o : Option ℕ) (r : Bool) → q ≡ o → is_some o ≡ not r → Classes a b rep st → (Same a b → Here Same) → Result a b rep st r rep st (Here (Near rep))
          go (Some j) true z f g n = absurd (true≢false f)
          go (Some j) false z f g n = broken refl (λ u. there_only (rw (e, z) at (from_found Same (n u))))
          go None true z f g n = fine refl (on_refl g) (as_found (Near rep) (rw (e, z) neither))
          go None false z f g n = absurd (true≢false (sym f))

      pub label_lone : (j : ℕ) → p ≡ Some j → q ≡ None → LabelMet at x y rep st false rep st
      label_lone j e f = record { is = λ a b g n. broken refl (λ u. here_only (rw (e, f) at (from_found Same (n u)))) }

      pub label_both : (i j : ℕ) (rep' st' : List ℕ) → p ≡ Some i → q ≡ Some j → Joins (number_for s w i) (number_for s w j) rep st rep' st' → LabelMet at x y rep st true rep' st'
      label_both i j rep' st' e f k =
          record {
            is = λ a b g n.
                (let (o, c) = joined_types t g (lp.type i e) (lq.type j f) (λ u. both_some (rw (e, f) at (from_found Same (n u)))) k in
                fine refl o (as_found (Near rep') (rw (e, f) (both c))));
          }

  -- ── the labels of a list: of the n₀ before e₀, the n before e are left
  pub record Meeting (e₀ n₀ : ℕ) (x y : TypeNode) (rep₀ st₀ rep st : List ℕ) (e n : ℕ) : Type 0 where
    pub there : AlternativesIn s w e n
    pub is : (a b : ℕ) → Classes a b rep₀ st₀ → (Same a b → AllLead x y Same) → Onward a b rep₀ st₀ rep st × ((l : Name) → LabelOf e₀ n₀ l → LabelOf e n l ⊎ Leads x y (Near rep) l)

  pub meet_start : (e n : ℕ) (x y : TypeNode) (rep st : List ℕ) → AlternativesIn s w e n → Meeting e n x y rep st rep st e n
  meet_start e n x y rep st a = record { there = a; is = λ a b g m. (on_refl g, λ l i. inl i) }

  module _ (e₀ n₀ : ℕ) (x y : TypeNode) (rep₀ st₀ rep st : List ℕ) (e n : ℕ) (m : Meeting e₀ n₀ x y rep₀ st₀ rep st e n) where
    module _ (h : n ≡ 0 → ⊥) where
      pub meet_there : Tables s w → Area w × (1 ≤ e) × (e ≤ type_term_limit)
      meet_there = first_there s w e n m.there h

      module _ (a : Labelled) (o : AlternativeOf w e a) (r : Bool) (rep' st' : List ℕ) (t : LabelMet a.at x y rep st r rep' st') where
        abbrev name : Name
        name = name_at s (a.at + 1)

        pub meet_stop : r ≡ false → LabelsMet e₀ n₀ x y rep₀ st₀ false rep' st'
        meet_stop z = record { is = λ a b g k. broken refl (broken_by (t.is a b (m.is a b g k).0.good (λ u. k u name)) z) }

        first_label : (l : Name) → LabelOf e n l → (l ≡ name) ⊎ LabelOf (e - 1) (n - 1) l
        first_label l i = subst (λ r. Listed l (labels_of same same_sound r)) (first_row s w e n h a o) i

        pub meet_on : r ≡ true → Meeting e₀ n₀ x y rep₀ st₀ rep' st' (e - 1) (n - 1)
        meet_on z = record { there = (first_in s w e n m.there h a o).rest; is = λ a b g k. go (m.is a b g k) (t.is a b (m.is a b g k).0.good (λ u. k u name)) }
          where
            next : {a b : ℕ} → Onward a b rep st rep' st' → Leads x y (Near rep') name → (l : Name) → LabelOf e n l ⊎ Leads x y (Near rep) l → LabelOf (e - 1) (n - 1) l ⊎ Leads x y (Near rep') l
            next o q l (inr c) = inr (both_map o.coarser c)
            next o q l (inl i) = elim (first_label l i) [ inl c ↦ inr (subst (Leads x y (Near rep')) (sym c) q) | inr j ↦ inl j ]

            go : {a b : ℕ} → Onward a b rep₀ st₀ rep st × ((l : Name) → LabelOf e₀ n₀ l → LabelOf e n l ⊎ Leads x y (Near rep) l) → Result a b rep st r rep' st' (Leads x y (Near rep') name)
                → Onward a b rep₀ st₀ rep' st' × ((l : Name) → LabelOf e₀ n₀ l → LabelOf (e - 1) (n - 1) l ⊎ Leads x y (Near rep') l)
            go (o, f) (fine u p q) = (on_trans o p, λ l i. next p q l (f l i))
            go (o, f) (broken u d) = never z u

    pub meet_end : n ≡ 0 → LabelsMet e₀ n₀ x y rep₀ st₀ true rep st
    meet_end z = record { is = λ a b g k. fine refl (m.is a b g k).0 (λ l i. go l ((m.is a b g k).1 l i)) }
      where
        go : (l : Name) → LabelOf e n l ⊎ Leads x y (Near rep) l → Leads x y (Near rep) l
        go l (inl i) = absurd (subst (λ r. Listed l (labels_of same same_sound r)) (no_rows s w e n z) i)
        go l (inr b) = b

  -- ── two nodes, by their kinds
  same_mark : {R : ℕ → ℕ → Type 0} {h g : Head Name ℕ} → Matching same R h g → mark_of h ≡ mark_of g
  same_mark leaves = refl
  same_mark words = refl
  same_mark (pairs a b) = refl
  same_mark (choices e) = refl

  module _ (x y : TypeNode) (rep st : List ℕ) where
    pub heads_differ : (x.kind ≡ y.kind → ⊥) → HeadsMet x y rep st false rep st
    heads_differ d = record { is = λ a b g n. broken refl (λ u. d (sym (kind_by s w x) ∙ same_mark (n u) ∙ kind_by s w y)) }

    module _ (e : x.kind ≡ y.kind) where
      pub heads_leaf : x.kind ≡ 0 → HeadsMet x y rep st true rep st
      heads_leaf z = record { is = λ a b g n. fine refl (on_refl g) (rw (by_leaf s w x z, by_leaf s w y (sym e ∙ z)) leaves) }

      pub heads_word : (r : Bool) → x.kind ≡ 1 → r ≡ same (name_at s x.second) (name_at s y.second) → HeadsMet x y rep st r rep st
      heads_word r z t = record { is = λ a b g n. go (same here there) refl g n }
        where
          here : Name
          here = name_at s x.second

          there : Name
          there = name_at s y.second

          go : {a b : ℕ} (q : Bool) → same here there ≡ q → Classes a b rep st → (Same a b → Match x y Same) → Result a b rep st r rep st (Match x y (Near rep))
          go true u g n = fine (t ∙ u) (on_refl g) (rw (by_word s w x z, by_word s w y (sym e ∙ z), same_sound here there u) words)
          go false u g n = broken (t ∙ u) (λ v. never (sym (ap (same here) (word_parts same (rw (by_word s w x z, by_word s w y (sym e ∙ z)) at (n v)))) ∙ same_refl here) u)

      module _ (n0 : x.kind ≡ 0 → ⊥) (n1 : x.kind ≡ 1 → ⊥) (low : x.kind < 5) where
        abbrev Firsts : (ℕ → ℕ → Type 0) → Type 0
        Firsts R = R (number_for s w x.first) (number_for s w y.first)

        abbrev Seconds : (ℕ → ℕ → Type 0) → Type 0
        Seconds R = R (number_for s w x.second) (number_for s w y.second)

        is_pair : (R : ℕ → ℕ → Type 0) → Match x y R → Firsts R × Seconds R
        is_pair R m =
            let p = pair_parts same (rw (by_pair s w x n0 n1 low, by_pair s w y (λ z. n0 (e ∙ z)) (λ z. n1 (e ∙ z)) (omega arith)) at m) in
            (p.1, p.2)

        as_pair : (R : ℕ → ℕ → Type 0) → Firsts R → Seconds R → Match x y R
        as_pair R p q = rw (by_pair s w x n0 n1 low, by_pair s w y (λ z. n0 (e ∙ z)) (λ z. n1 (e ∙ z)) (omega arith), e) (pairs p q)

        pub heads_pair : Tables s w → PartsIn x → PartsIn y → (rep₁ st₁ rep₂ st₂ : List ℕ) → Firsts (λ u v. Joins u v rep st rep₁ st₁) → Seconds (λ u v. Joins u v rep₁ st₁ rep₂ st₂) → HeadsMet x y rep st true rep₂ st₂
        heads_pair t px py rep₁ st₁ rep₂ st₂ j k =
            let (p, q) = pairs_there px py e n0 n1 low in
            record {
              is = λ a b g n.
                  (let (o, c) = joined_types t g p.0 q.0 (λ u. (is_pair Same (n u)).0) j in
                  let (o', c') = joined_types t o.good p.1 q.1 (λ u. (is_pair Same (n u)).1) k in
                  fine refl (on_trans o o') (as_pair (Near rep₂) (o'.coarser (number_for s w x.first) (number_for s w y.first) c) c'));
            }

      module _ (high : 5 ≤ x.kind) where
        is_choice_lem : (R : ℕ → ℕ → Type 0) → Match x y R → AllLead x y R
        is_choice_lem R m = (choice_parts same (rw (by_choice s w x high, by_choice s w y (omega arith)) at m)).1

        as_choice : (R : ℕ → ℕ → Type 0) → AllLead x y R → Match x y R
        as_choice R f = rw (by_choice s w x high, by_choice s w y (omega arith), e) (choices f)

        pub heads_stop : (r : Bool) (rep₁ st₁ : List ℕ) → LabelsMet x.first x.second x y rep st r rep₁ st₁ → r ≡ false → HeadsMet x y rep st false rep₁ st₁
        heads_stop r rep₁ st₁ m z = record { is = λ a b g n. broken refl (broken_by (m.is a b g (λ u. is_choice_lem Same (n u))) z) }

        pub heads_choice : (r t : Bool) (rep₁ st₁ rep₂ st₂ : List ℕ) → LabelsMet x.first x.second x y rep st r rep₁ st₁ → r ≡ true → LabelsMet y.first y.second x y rep₁ st₁ t rep₂ st₂ → HeadsMet x y rep st t rep₂ st₂
        heads_choice r t rep₁ st₁ rep₂ st₂ m z k = record { is = λ a b g n. first (λ u. is_choice_lem Same (n u)) (m.is a b g (λ u. is_choice_lem Same (n u))) }
          where
            every : {a b : ℕ} → Onward a b rep₁ st₁ rep₂ st₂ → EachLeads x.first x.second x y (Near rep₁) → EachLeads y.first y.second x y (Near rep₂) → AllLead x y (Near rep₂)
            every o p q =
                let r = rows_in s w x.first x.second in
                let q' = rows_in s w y.first y.second in
                whole same same_sound r q' (λ l i. elim (in_either l (labels_of same same_sound r) (labels_of same same_sound q') i) [ inl j ↦ both_map o.coarser (p l j) | inr j ↦ q l j ])

            second : {a b : ℕ} → Onward a b rep st rep₁ st₁ → EachLeads x.first x.second x y (Near rep₁) → Result a b rep₁ st₁ t rep₂ st₂ (EachLeads y.first y.second x y (Near rep₂))
                → Result a b rep st t rep₂ st₂ (Match x y (Near rep₂))
            second o p (fine u q f) = fine u (on_trans o q) (as_choice (Near rep₂) (every q p f))
            second o p (broken u d) = broken u d

            first : {a b : ℕ} → (Same a b → AllLead x y Same) → Result a b rep st r rep₁ st₁ (EachLeads x.first x.second x y (Near rep₁))
                → Result a b rep st t rep₂ st₂ (Match x y (Near rep₂))
            first {a} {b} n (fine u o p) = second o p (k.is a b o.good n)
            first n (broken u d) = never z u
