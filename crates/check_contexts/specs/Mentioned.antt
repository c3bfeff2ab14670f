-- What the node of a process says of the names that the process mentions.
use Rattle.std.specs.Prelude.{ℕ, suc, ◌+◌, ◌-◌, ◌≤◌, ◌<◌, ◌≡◌, List, Bool, true, cond, not, ◌||◌, ◌&&◌, eqb, leb}
use Rattle.std.proofs.Math.Path.{refl, ap, subst}
use Rattle.std.proofs.Common.{sym, ◌∙◌, true≢false, arith}
use Rattle.std.proofs.Math.Bool.{false}
use Rattle.std.proofs.lemmas.Bool.{false≢true}
use borrow.Author.Tests.{eq-eqb, ne_eqb}
use Rattle.notation.specs.Limits.{process_term_limit}
use Rattle.notation.specs.Sizes.{process_terms, branches_terms}
use Rattle.notation.specs.Tree.{Name, Proc, empty}
use Rattle.notation.specs.Tables.{term_node}
use Rattle.notation.specs.declared.reading.TermNode.{TermNode}
use Rattle.calculus.specs.Mentions.{is_one_of, mentions, branches_mention}
use Rattle.read_tables.specs.Names.{CallAt}
use Rattle.read_tables.specs.Decode.{arguments_at, process_in}
use Rattle.read_tables.specs.Roots.{at_kind, Handlers, each_kind, process_cases, ProcessIn, process_root, BranchesIn, branches_in}
use Rattle.notation.specs.From.{ProcessFrom}
use Rattle.read_tables.specs.Stands.{ProcessAt}
use Rattle.read_tables.specs.Access.{TermOf, BranchOf}
use Rattle.read_tables.specs.declared.access.Labelled.{Labelled}
use Rattle.read_tables.specs.Whole.{Tables}
use Rattle.check_contexts.specs.Marks.{mark_of, held_name, is_name, Marked, Hidden, marked_as, marked_none, marked_then, hidden_as, hidden_none}
use Rattle.check_contexts.specs.declared.marks.Marks.{Marks}
use Rattle.check_contexts.specs.Walks.{MarkedCall}
use Rattle.check_contexts.specs.Branches.{Left, left_begin, left_whole, left_none, left_is, left_next}

-- a call's lists stand in the text
abbrev pub CallsFine : List ℕ → TermNode → Type 0
CallsFine s n = n.kind ≡ 10 → CallAt s n.second (arguments_at s n.second).0 (arguments_at s n.second).1

-- ── a node by its kind
abbrev pub has_first_name : ℕ → Bool
has_first_name k = cond (eqb k 0) false (cond (eqb k 5) false (leb k 9))

abbrev pub has_second_name : ℕ → Bool
has_second_name k = cond (eqb k 2) true (eqb k 9)

abbrev pub has_halves : ℕ → Bool
has_halves k = cond (eqb k 5) true (eqb k 12)

abbrev pub has_last : ℕ → Bool
has_last k = cond (eqb k 8) false (cond (eqb k 9) false (not (eqb k 10)))

-- the pointer of what follows a node: an empty process, where nothing does
unfoldable pub last_part : TermNode → ℕ
last_part n = cond (has_last n.kind) n.third process_term_limit

-- the names that a node mentions itself
abbrev pub acts_first : List ℕ → TermNode → Name → Bool
acts_first s n x = cond (has_first_name n.kind) (is_name s n.first x) false

abbrev pub acts_second : List ℕ → TermNode → Name → Bool
acts_second s n x = cond (has_second_name n.kind) (is_name s n.second x) false

unfoldable pub acts_on : List ℕ → TermNode → Name → Bool
acts_on s n x =
    cond (eqb n.kind 10) (is_one_of x (arguments_at s n.second).0 || is_one_of x (arguments_at s n.second).1)
    (acts_first s n x || acts_second s n x)

-- the name that it binds anew, in all its parts
unfoldable pub binds_anew : List ℕ → TermNode → Name → Bool
binds_anew s n x = cond (eqb n.kind 5) (is_name s n.at x) (cond (eqb n.kind 7) (is_name s n.second x) false)

-- what it has in brackets: branches or a first half
unfoldable pub inner_mentions : List ℕ → List ℕ → TermNode → Name → Bool
inner_mentions s w n x =
    cond (eqb n.kind 8) (branches_mention (branches_in s w n.second n.third) x)
    (cond (has_halves n.kind) (mentions (process_in s w n.second) x) false)

unfoldable pub inner_terms : List ℕ → List ℕ → TermNode → ℕ
inner_terms s w n =
    cond (eqb n.kind 8) (branches_terms (branches_in s w n.second n.third))
    (cond (has_halves n.kind) (process_terms (process_in s w n.second)) 0)

pub record InnerIn (s w : List ℕ) (n : TermNode) : Type 0 where
  pub branches : n.kind ≡ 8 → BranchesIn s w n.second n.third
  pub first : has_halves n.kind ≡ true → ProcessIn s w n.second

-- ── what a node says of its process
pub record Mentioning (s w : List ℕ) (n : TermNode) (A : Proc) : Type 0 where
  pub is : (x : Name) → mentions A x ≡ acts_on s n x || (not (binds_anew s n x) && (inner_mentions s w n x || mentions (process_in s w (last_part n)) x))
  pub calls : CallsFine s n
  pub inner : InnerIn s w n
  pub last : ProcessIn s w (last_part n)
  pub terms : process_terms A ≡ suc (inner_terms s w n + process_terms (process_in s w (last_part n)))

other_kind : {k m : ℕ} → eqb k m ≡ false → k ≡ m → ⊥
other_kind {k} {m} e q = true≢false (sym (eq-eqb k m q) ∙ e)

-- ── tests of names, by cases
first_then : (a m : Bool) → a || m ≡ (a || false) || m
first_then true m = refl
first_then false m = refl

both_then : (a b m : Bool) → a || (b || m) ≡ (a || b) || m
both_then true b m = refl
both_then false b m = refl

or_nothing : (a : Bool) → a ≡ a || false
or_nothing true = refl
or_nothing false = refl

-- nothing follows at the pointer of no term
nothing_there : (s w : List ℕ) → ProcessIn s w process_term_limit
unfolding ProcessAt ProcessFrom process_terms
nothing_there s w = record { tree = empty 0; few = omega arith; from = omega arith; is = refl }

module _ (s w : List ℕ) (A : Proc) (at first second third : ℕ) (none : process_in s w process_term_limit ≡ empty 0) where
  abbrev node : ℕ → TermNode
  node k = term_node k at first second third

  abbrev At : ℕ → Type 0
  At k = Mentioning s w (node k) A

  -- no part in brackets; a first half
  no_inner : (k : ℕ) → eqb k 8 ≡ false → has_halves k ≡ false → InnerIn s w (node k)
  no_inner k a b = record { branches = λ e. absurd (other_kind a e); first = λ e. absurd (false≢true (sym b ∙ e)) }

  one_inner : (k : ℕ) → eqb k 8 ≡ false → ProcessIn s w second → InnerIn s w (node k)
  one_inner k a f = record { branches = λ e. absurd (other_kind a e); first = λ _. f }

  no_call : (k : ℕ) → eqb k 10 ≡ false → CallsFine s (node k)
  no_call k a e = absurd (other_kind a e)

  abbrev in_part : ℕ → Name → Bool
  in_part i x = mentions (process_in s w i) x

  -- no name is mentioned by what does not follow, which has no term
  unmentioned : (x : Name) → mentions (process_in s w process_term_limit) x ≡ false
  unfolding mentions
  unmentioned x = ap (λ P. mentions P x) none

  termless : process_terms (process_in s w process_term_limit) ≡ 0
  unfolding process_terms
  termless = ap process_terms none

  -- a term that acts on its first name, if any, and goes on; one that has a first half too
  goes_on_lem : (k : ℕ) → eqb k 10 ≡ false → eqb k 8 ≡ false → has_halves k ≡ false → last_part (node k) ≡ third → ProcessIn s w third → process_terms A ≡ suc (process_terms (process_in s w third))
      → ((x : Name) → mentions A x ≡ acts_on s (node k) x || (not (binds_anew s (node k) x) && in_part third x)) → At k
  unfolding inner_mentions inner_terms
  goes_on_lem k a b c e f t m = rw_last
    where
      no_name : (x : Name) → inner_mentions s w (node k) x ≡ false
      no_name x = rw (b, c) refl

      no_term : inner_terms s w (node k) ≡ 0
      no_term = rw (b, c) refl

      rw_last : At k
      rw_last = record {
        is = λ x. m x ∙ λ j. acts_on s (node k) x || (not (binds_anew s (node k) x) && (sym (no_name x) j || in_part (sym e j) x));
        calls = no_call k a;
        inner = no_inner k b c;
        last = subst (ProcessIn s w) (sym e) f;
        terms = omega (arith, t, no_term, ap (λ i. process_terms (process_in s w i)) e);
      }

  divides : (k : ℕ) → eqb k 10 ≡ false → eqb k 8 ≡ false → has_halves k ≡ true → last_part (node k) ≡ third → ProcessIn s w second → ProcessIn s w third
      → process_terms A ≡ suc (process_terms (process_in s w second) + process_terms (process_in s w third))
      → ((x : Name) → mentions A x ≡ acts_on s (node k) x || (not (binds_anew s (node k) x) && (in_part second x || in_part third x))) → At k
  unfolding inner_mentions inner_terms
  divides k a b c e f g t m = record {
    is = λ x. m x ∙ λ j. acts_on s (node k) x || (not (binds_anew s (node k) x) && (sym (half_name x) j || in_part (sym e j) x));
    calls = no_call k a;
    inner = one_inner k b f;
    last = subst (ProcessIn s w) (sym e) g;
    terms = omega (arith, t, half_terms, ap (λ i. process_terms (process_in s w i)) e);
  }
    where
      half_name : (x : Name) → inner_mentions s w (node k) x ≡ in_part second x
      half_name x = rw (b, c) refl

      half_terms : inner_terms s w (node k) ≡ process_terms (process_in s w second)
      half_terms = rw (b, c) refl

  -- a term that nothing follows
  ends : (k : ℕ) → last_part (node k) ≡ process_term_limit → CallsFine s (node k) → InnerIn s w (node k) → process_terms A ≡ suc (inner_terms s w (node k))
      → ((x : Name) → mentions A x ≡ acts_on s (node k) x || (not (binds_anew s (node k) x) && inner_mentions s w (node k) x)) → At k
  ends k e c f t m = record {
    is = λ x. m x ∙ ap (λ b. acts_on s (node k) x || (not (binds_anew s (node k) x) && b)) (or_nothing (inner_mentions s w (node k) x) ∙ λ j. inner_mentions s w (node k) x || sym (nothing x) j);
    calls = c;
    inner = f;
    last = subst (ProcessIn s w) (sym e) (nothing_there s w);
    terms = omega (arith, t, ap (λ i. process_terms (process_in s w i)) e, termless);
  }
    where
      nothing : (x : Name) → in_part (last_part (node k)) x ≡ false
      nothing x = ap (λ i. in_part i x) e ∙ unmentioned x

  abbrev named : ℕ → Name → Bool
  named i x = is_name s i x

  cases : Handlers (process_cases s w (node 0) A) At
  unfolding mentions acts_on binds_anew inner_mentions inner_terms last_part process_terms
  cases = (
    λ e. absurd e,
    (
      λ (f, e). goes_on_lem 1 refl refl refl refl f.1 (ap process_terms e) (λ x. ap (λ P. mentions P x) e ∙ first_then (named first x) (in_part third x)),
      (
        λ (f, e). goes_on_lem 2 refl refl refl refl f.1 (ap process_terms e) (λ x. ap (λ P. mentions P x) e ∙ both_then (named first x) (named second x) (in_part third x)),
        (
          λ (f, e). goes_on_lem 3 refl refl refl refl f.1 (ap process_terms e) (λ x. ap (λ P. mentions P x) e ∙ first_then (named first x) (in_part third x)),
          (
            λ (f, e). goes_on_lem 4 refl refl refl refl f.1 (ap process_terms e) (λ x. ap (λ P. mentions P x) e ∙ first_then (named first x) (in_part third x)),
            (
              λ (t, f, (g, e)). divides 5 refl refl refl refl f.1 g.1 (ap process_terms e) (λ x. ap (λ P. mentions P x) e),
              (
                λ (f, e). goes_on_lem 6 refl refl refl refl f.1 (ap process_terms e) (λ x. ap (λ P. mentions P x) e ∙ first_then (named first x) (in_part third x)),
                (
                  λ (l, (f, e)). goes_on_lem 7 refl refl refl refl f.1 (ap process_terms e) (λ x. ap (λ P. mentions P x) e ∙ first_then (named first x) (not (named second x) && in_part third x)),
                  (
                    λ (l, f, e). ends 8 refl (no_call 8 refl) (record { branches = λ _. f; first = λ d. absurd (false≢true d) }) (ap process_terms e) (λ x. ap (λ P. mentions P x) e ∙ first_then (named first x) (branches_mention (branches_in s w second third) x)),
                    (
                      λ e. ends 9 refl (no_call 9 refl) (no_inner 9 refl refl) (ap process_terms e) (λ x. ap (λ P. mentions P x) e ∙ or_nothing (named first x || named second x)),
                      (
                        λ (c, e). ends 10 refl (λ _. c) (no_inner 10 refl refl) (ap process_terms e) (λ x. ap (λ P. mentions P x) e ∙ or_nothing (is_one_of x (arguments_at s second).0 || is_one_of x (arguments_at s second).1)),
                        (
                          λ (f, e). goes_on_lem 11 refl refl refl refl f.1 (ap process_terms e) (λ x. ap (λ P. mentions P x) e),
                          (
                            λ (f, (g, e)). divides 12 refl refl refl refl f.1 g.1 (ap process_terms e) (λ x. ap (λ P. mentions P x) e),
                            tt,
                          ),
                        ),
                      ),
                    ),
                  ),
                ),
              ),
            ),
          ),
        ),
      ),
    ),
  )

pub mentioning : (s w : List ℕ) (n : TermNode) (A : Proc) → process_in s w process_term_limit ≡ empty 0 → at_kind (process_cases s w n A) n.kind → Mentioning s w n A
mentioning s w n A none h = each_kind (process_cases s w n A) (At s w A n.at n.first n.second n.third none) (cases s w A n.at n.first n.second n.third none) n.kind h

-- the node at a pointer below the limit, and a pointer past it
nothing_said : (s w : List ℕ) → Tables s w → process_in s w process_term_limit ≡ empty 0
nothing_said s w t = (process_root s w t.within process_term_limit (nothing_there s w)).none (omega arith)

pub node_mentions : {s w : List ℕ} {p : ℕ} {n : TermNode} → Tables s w → ProcessIn s w p → p < process_term_limit → TermOf w p n → Mentioning s w n (process_in s w p)
node_mentions {s} {w} {p} {n} t a h o = mentioning s w n (process_in s w p) (nothing_said s w t) ((o.says s t a).node h).1

-- ── what is marked of a node
module _ (node : TermNode) {s ends : List ℕ} {n : ℕ} {sought m : Marks} where
  pub acted_call : {r : Marks} → CallsFine s node → node.kind ≡ 10 → MarkedCall s ends n node.second sought m r → Marked s ends n sought (acts_on s node) m r
  unfolding acts_on
  acted_call c e h = marked_as (λ x. rw (eq-eqb _ _ e) refl) (h.is _ _ (c e))

  pub acted_names : {r v : Marks} → (node.kind ≡ 10 → ⊥) → Marked s ends n sought (acts_first s node) m r → Marked s ends n sought (acts_second s node) r v → Marked s ends n sought (acts_on s node) m v
  unfolding acts_on
  acted_names e f g = marked_as (λ x. rw (ne_eqb _ _ e) refl) (marked_then f g)

  pub first_marked : {r : Marks} → has_first_name node.kind ≡ true → Marked s ends n sought (is_name s node.first) m r → Marked s ends n sought (acts_first s node) m r
  first_marked e h = marked_as (λ x. rw e refl) h

  pub first_none : has_first_name node.kind ≡ false → Marked s ends n sought (acts_first s node) m m
  first_none e = marked_none (λ x. rw e refl)

  pub second_marked : {r : Marks} → has_second_name node.kind ≡ true → Marked s ends n sought (is_name s node.second) m r → Marked s ends n sought (acts_second s node) m r
  second_marked e h = marked_as (λ x. rw e refl) h

  pub second_none : has_second_name node.kind ≡ false → Marked s ends n sought (acts_second s node) m m
  second_none e = marked_none (λ x. rw e refl)

-- ── what a node hides
module _ (node : TermNode) {s ends : List ℕ} {n : ℕ} {m : Marks} where
  pub bound_spawn : {r : Marks} → node.kind ≡ 5 → Hidden s ends n (is_name s node.at) m r → Hidden s ends n (binds_anew s node) m r
  unfolding binds_anew
  bound_spawn e h = hidden_as (λ x. rw (eq-eqb _ _ e) refl) h

  pub bound_receive : {r : Marks} → (node.kind ≡ 5 → ⊥) → node.kind ≡ 7 → Hidden s ends n (is_name s node.second) m r → Hidden s ends n (binds_anew s node) m r
  unfolding binds_anew
  bound_receive d e h = hidden_as (λ x. rw (ne_eqb _ _ d, eq-eqb _ _ e) refl) h

  pub bound_none : (node.kind ≡ 5 → ⊥) → (node.kind ≡ 7 → ⊥) → Hidden s ends n (binds_anew s node) m m
  unfolding binds_anew
  bound_none d e = hidden_none (λ x. rw (ne_eqb _ _ d, ne_eqb _ _ e) refl)

-- ── what is marked of what it has in brackets
module _ (node : TermNode) (w : List ℕ) {s ends : List ℕ} {n : ℕ} {sought m : Marks} where
  pub inner_branches : {r : Marks} → node.kind ≡ 8 → Marked s ends n sought (branches_mention (branches_in s w node.second node.third)) m r → Marked s ends n sought (inner_mentions s w node) m r
  unfolding inner_mentions
  inner_branches e h = marked_as (λ x. rw (eq-eqb _ _ e) refl) h

  pub inner_half : {r : Marks} → (node.kind ≡ 8 → ⊥) → has_halves node.kind ≡ true → Marked s ends n sought (mentions (process_in s w node.second)) m r → Marked s ends n sought (inner_mentions s w node) m r
  unfolding inner_mentions
  inner_half d e h = marked_as (λ x. rw (ne_eqb _ _ d, e) refl) h

  pub inner_none : (node.kind ≡ 8 → ⊥) → has_halves node.kind ≡ false → Marked s ends n sought (inner_mentions s w node) m m
  unfolding inner_mentions
  inner_none d e = marked_none (λ x. rw (ne_eqb _ _ d, e) refl)

-- how many terms stand in its brackets
pub branches_terms_lem : (node : TermNode) (s w : List ℕ) → node.kind ≡ 8 → inner_terms s w node ≡ branches_terms (branches_in s w node.second node.third)
unfolding inner_terms
branches_terms_lem node s w e = rw (eq-eqb _ _ e) refl

pub half_terms : (node : TermNode) (s w : List ℕ) → (node.kind ≡ 8 → ⊥) → has_halves node.kind ≡ true → inner_terms s w node ≡ process_terms (process_in s w node.second)
unfolding inner_terms
half_terms node s w d e = rw (ne_eqb _ _ d, e) refl

-- ── as far as the walk over a process has come: what the process at p would mark of these marks is what the whole would
pub record Walked (s w ends : List ℕ) (n whole : ℕ) (sought m : Marks) (p : ℕ) (left r : Marks) : Type 0 where
  pub stands : ProcessIn s w p
  pub fewer : process_terms (process_in s w p) ≤ process_terms (process_in s w whole)
  pub at : (v : Marks) → Marked s ends n left (mentions (process_in s w p)) r v → Marked s ends n sought (mentions (process_in s w whole)) m v

turned : (r l a b i o : Bool) → ((r || (l && a)) || ((l && not b) && i)) || ((l && not b) && o) ≡ r || (l && (a || (not b && (i || o))))
turned true l a b i o = refl
turned false false a b i o = refl
turned false true true b i o = refl
turned false true false true i o = refl
turned false true false false true o = refl
turned false true false false false o = refl

module _ {s w ends : List ℕ} {n whole : ℕ} {sought m : Marks} {p : ℕ} {left r : Marks} (t : Walked s w ends n whole sought m p left r) where
  module _ {node : TermNode} {r' left' r'' : Marks} (o : Mentioning s w node (process_in s w p)) (f : Marked s ends n left (acts_on s node) r r')
      (g : Hidden s ends n (binds_anew s node) left left') (h : Marked s ends n left' (inner_mentions s w node) r' r'') where
    pub walk_turn : (q : ℕ) → q ≡ last_part node → Walked s w ends n whole sought m q left' r''
    walk_turn q z = record {
      stands = subst (ProcessIn s w) (sym z) o.last;
      fewer = omega (arith, o.terms, t.fewer, ap (λ i. process_terms (process_in s w i)) z);
      at = λ v e. t.at v (record {
        at = λ k b.
            let x = held_name s ends k in
            let y : mentions (process_in s w q) x ≡ mentions (process_in s w (last_part node)) x = ap (λ i. mentions (process_in s w i) x) z in
            e.at k b
            ∙ (λ j. h.at k b j || (g.at k b j && y j))
            ∙ (λ j. (f.at k b j || (g.at k b j && inner_mentions s w node x)) || ((mark_of left k && not (binds_anew s node x)) && mentions (process_in s w (last_part node)) x))
            ∙ turned (mark_of r k) (mark_of left k) (acts_on s node x) (binds_anew s node x) (inner_mentions s w node x) (mentions (process_in s w (last_part node)) x)
            ∙ ap (λ c. mark_of r k || (mark_of left k && c)) (sym (o.is x));
      });
    }

  pub walk_done : Tables s w → process_term_limit ≤ p → Marked s ends n sought (mentions (process_in s w whole)) m r
  unfolding mentions
  walk_done u l = t.at r (marked_none (λ x. ap (λ P. mentions P x) ((process_root s w u.within p t.stands).none l)))

pub walk_begin : {s w : List ℕ} {p : ℕ} (ends : List ℕ) (n : ℕ) (sought m : Marks) → ProcessIn s w p → Walked s w ends n p sought m p sought m
walk_begin ends n sought m a = record { stands = a; fewer = omega arith; at = λ v e. e }

-- ── as far as the walk over branches has come
pub record Branched (s w ends : List ℕ) (n e count : ℕ) (sought m : Marks) (k : ℕ) (r : Marks) : Type 0 where
  pub left : Left s w e count k
  pub at : (v : Marks) → Marked s ends n sought (branches_mention (branches_in s w (e - k) (count - k))) r v → Marked s ends n sought (branches_mention (branches_in s w e count)) m v

module _ {s w ends : List ℕ} {n e count : ℕ} {sought m : Marks} where
  pub branches_begin : BranchesIn s w e count → Branched s w ends n e count sought m 0 m
  branches_begin a = record { left = left_begin a; at = λ v f. marked_as (λ x. ap (λ B. branches_mention B x) (sym (left_whole s w e count))) f }

  module _ {k : ℕ} {r : Marks} (t : Branched s w ends n e count sought m k r) where
    pub branches_done : count ≤ k → Marked s ends n sought (branches_mention (branches_in s w e count)) m r
    unfolding mentions
    branches_done l = t.at r (marked_none (λ x. ap (λ B. branches_mention B x) (left_none s w e l)))

    pub branch_turn : {b : Labelled} {v : Marks} → k < count → BranchOf w (e - k) b → Marked s ends n sought (mentions (process_in s w b.number)) r v → (i : ℕ) → i ≡ k + 1 → Branched s w ends n e count sought m i v
    unfolding mentions
    branch_turn l o f i z = record {
      left = left_next t.left l o i z;
      at = λ v g. t.at v (marked_as (λ x. ap (λ B. branches_mention B x) (sym (left_is t.left l o i z))) (marked_then f g));
    }
