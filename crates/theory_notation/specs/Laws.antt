-- A law for each part that readings are made of: it is right about its phrase where its parts are.
use Rattle.std.specs.Prelude.{ℕ, zero, suc, ◌≡◌, ◌≢◌, List, [], ◌∷◌, ◌++◌, Bool, cond, Ok}
use Rattle.std.proofs.Math.Path.{refl}
use Rattle.std.proofs.Common.{sym, ◌∙◌, ap, subst, append_assoc}
use Rattle.std.proofs.Math.Bool.{true, false}
use Rattle.std.proofs.Math.Dec.{eqb}
use borrow.Author.Tests.{eqb-true, eqb-false}
use Rattle.notation.specs.Token.{token_at, kind_at, k_fault}
use Rattle.notation.specs.Refusals.{refuses}
use Rattle.notation.specs.Reader.{Result, got, refused, on_token, part, lastly, past, fault, expect, misfit, limited}
use Rattle.notation.specs.declared.reading.Cursor.{Cursor}
use Rattle.grammar.specs.Terminals.{Tok, Terminal, token_of, following}
use Rattle.grammar.specs.Counting.{Counts, counted, Fits, Within}
use Rattle.grammar.specs.Counting as counting
use Rattle.theory_notation.specs.Standing.{token_in, Stand, stand_append, spelled, spelled_append, spelled_cons, first_of, rest_of, first_offset, following_append, stand_first, Agree, agree_first, agree_fewer, agree_past}
use Rattle.theory_notation.specs.Standing as standing
use Rattle.theory_notation.specs.Phrases.{Lang, Phrase, One, Role, one, seq, ret, mapped, lang, fills, Viable, Starts, Each, Read, Why, no_token, no_script, over_limit, Stopped, Right}

pub within_append : {k m n : Counts} {p q : List Terminal} → Within k p m → Within m q n → Within k (p ++ q) n
within_append counting.none h = h
within_append (counting.more f g) h = counting.more f (within_append g h)

-- a member begins with the terminals p and goes on with a member of L that begins with the tokens us
record GoesOn {A : Type 0} (L : Lang A) (p : List Terminal) (us : List Tok) (b : A) (q : List Terminal) (t : Tok) (ts : List Tok) : Type 0 where
  rest : List Terminal
  is : q ≡ p ++ rest
  follows : L t.at b rest
  agrees : Agree (spelled rest (t ∷ ts)) us

-- the value of the token at a cursor
abbrev pub here : {X : Type 0} → (ℕ → X) → List ℕ → Cursor → X
here value s c = value (token_at s c.at).start

-- a member that begins as the text does begins with the terminal there
same_first : (s : List ℕ) (c : Cursor) {k : ℕ} {X A : Type 0} {R : X → Terminal} {value : ℕ → X} (ρ : Role s k R value) (φ : X → Phrase s A) {a : A} {q : List Terminal} {next : ℕ} (ts us : List Tok)
    → kind_at s c.at ≡ k → (y : One R (λ v. lang (φ v)) next a q) → Agree (spelled q ts) (token_in s c.at ∷ us) → (y.value ≡ here value s c) × Agree (spelled y.rest ts) us
same_first s c {value = value} ρ φ {q = q} ts us e y z =
    let (f, g) = subst (λ q. Agree (spelled q ts) (token_in s c.at ∷ us)) y.is z in
    (ρ.apart y.value (here value s c) (f ∙ sym (ρ.is c.at e)), g)

begins : {s : List ℕ} {A : Type 0} (φ : Phrase s A) (o : ℕ) → Viable (lang φ) [] o
begins φ o = let f = fills φ o in record { rest = f.terminals; next = f.next; value = f.value; starts = f.starts; member = f.member }

module _ {s : List ℕ} {A : Type 0} {F : ℕ → Type 0} {E : Cursor → Counts → Type 0} {m : Counts} {c : Cursor} where
  -- ── nothing more is read
  pub right_got : (φ : Phrase s A) (a : A) → lang φ (token_in s c.at).at a [] → E c m → Each F (lang φ) (λ b q t ts. first_of q t ≡ token_in s c.at → (q ≡ []) × (b ≡ a)) → Right s F E φ m c (got a c)
  right_got φ a x e f = record {
    holds = record {
      terminals = [];
      stands = standing.none;
      member = x;
      counts = m;
      within = counting.none;
      ends = e;
      only = λ b q t ts y k z. f b q t ts y k (agree_first q [] t (token_in s c.at) ts [] z);
    };
  }

  pub right_ret : (a : A) → E c m → Right s F E (ret a) m c (got a c)
  right_ret a e = right_got (ret a) a (record { value = refl; none = refl }) e (λ b q t ts y k z. (y.none, y.value))

  -- ── the token there begins no member
  pub right_none : (φ : Phrase s A) → Each F (lang φ) (λ b q t ts. first_of q t ≢ token_in s c.at) → Right s F E φ m c (refused (fault (token_at s c.at)) (token_at s c.at).start)
  right_none φ f = go (eqb (kind_at s c.at) k_fault) refl
    where
      stopped : (n : ℕ) → Why s F E (lang φ) m c [] m c.at n → Stopped s F E (lang φ) m c n (token_at s c.at).start
      stopped n w = record { terminals = []; upto = c.at; stands = standing.none; at = refl; viable = begins φ (token_in s c.at).at; counts = m; within = counting.none; why = w }

      go : (b : Bool) → eqb (kind_at s c.at) k_fault ≡ b → Right s F E φ m c (refused (cond b 3 4) (token_at s c.at).start)
      go true e = record { holds = stopped 3 (no_token (eqb-true (kind_at s c.at) k_fault e)) }
      go false e = record { holds = stopped 4 (no_script (eqb-false (kind_at s c.at) k_fault e) (λ b q t ts y k z. f b q t ts y k (agree_first q [] t (token_in s c.at) ts [] z))) }

  pub right_misfit : (φ : Phrase s A) → Each F (lang φ) (λ b q t ts. first_of q t ≢ token_in s c.at) → Right s F E φ m c (misfit s c)
  unfolding misfit
  right_misfit φ f = right_none φ f

  -- ── members that the token there tells apart from others
  pub right_narrow : {φ ψ : Phrase s A} (r : Result A) → ((next : ℕ) (a : A) (p : List Terminal) → lang ψ next a p → lang φ next a p)
      → Each F (lang φ) (λ b q t ts. first_of q t ≡ token_in s c.at → lang ψ t.at b q) → Right s F E ψ m c r → Right s F E φ m c r
  right_narrow (got a d) f g h =
      let k = h.holds in
      record {
        holds = record {
          terminals = k.terminals;
          stands = k.stands;
          member = f _ a k.terminals k.member;
          counts = k.counts;
          within = k.within;
          ends = k.ends;
          only = λ b q t ts y i z. k.only b q t ts (g b q t ts y i (agree_first q k.terminals t (token_in s d.at) ts [] z ∙ stand_first k.stands)) i z;
        };
      }
  right_narrow (refused zero i) f g h = record { holds = tt }
  right_narrow {φ} {ψ} (refused (suc n) i) f g h = record {
    holds = record {
      terminals = k.terminals;
      upto = k.upto;
      stands = k.stands;
      at = k.at;
      viable = wider k.viable;
      counts = k.counts;
      within = k.within;
      why = why k.why;
    };
  }
    where
      k : Stopped s F E (lang ψ) m c (suc n) i
      k = h.holds

      wider : {p : List Terminal} {o : ℕ} → Viable (lang ψ) p o → Viable (lang φ) p o
      wider v = record { rest = v.rest; next = v.next; value = v.value; starts = v.starts; member = f _ _ _ v.member }

      narrower : Each F (lang φ) (λ b q t ts. Agree (spelled q (t ∷ ts)) (spelled k.terminals (token_in s k.upto ∷ [])) → lang ψ t.at b q)
      narrower b q t ts y j z = g b q t ts y j (agree_first q k.terminals t (token_in s k.upto) ts [] z ∙ stand_first k.stands)

      why : {j : ℕ} → Why s F E (lang ψ) m c k.terminals k.counts k.upto j → Why s F E (lang φ) m c k.terminals k.counts k.upto j
      why (no_token e) = no_token e
      why (no_script e w) = no_script e (λ b q t ts y j z. w b q t ts (narrower b q t ts y j z) j z)
      why (over_limit x o e z w v u) = over_limit x o e z w (wider v) (λ b q t ts y j z. u b q t ts (narrower b q t ts y j z) j z)

  -- ── a token
  module _ {k : ℕ} {X : Type 0} {R : X → Terminal} {value : ℕ → X} (ρ : Role s k R value) (φ : X → Phrase s A) where
    pub right_past : (r : Result A) (d : Cursor) → kind_at s c.at ≡ k → d.at ≡ (token_at s c.at).end → Fits m (R (here value s c)) → Right s F E (φ (here value s c)) (counted m (R (here value s c))) d r → Right s F E (one ρ φ) m c r
    right_past (got a e) d k₀ l fit h = record {
      holds = record {
        terminals = R (here value s c) ∷ j.terminals;
        stands = standing.more (λ z. ρ.token (sym k₀ ∙ z)) (ρ.is c.at k₀) (subst (λ i. Stand s i j.terminals e.at) l j.stands);
        member = record { value = here value s c; rest = j.terminals; is = refl; follows = j.member };
        counts = j.counts;
        within = counting.more fit j.within;
        ends = j.ends;
        only = λ b q t ts y f z.
            let z' = subst (λ u. Agree (spelled q (t ∷ ts)) (u ∷ spelled j.terminals (token_in s e.at ∷ []))) (ρ.is c.at k₀) z in
            let (v, g) = same_first s c ρ φ (t ∷ ts) (spelled j.terminals (token_in s e.at ∷ [])) k₀ y z' in
            let (x, w) = j.only b y.rest t ts (subst (λ v. lang (φ v) t.at b y.rest) v y.follows) f g in
            (y.is ∙ ap (λ v. R v ∷ y.rest) v ∙ ap (◌∷◌ (R (here value s c))) x, w);
      };
    }
      where
        j : Read s F E (lang (φ (here value s c))) (counted m (R (here value s c))) d a e
        j = h.holds
    right_past (refused zero i) d k₀ l fit h = record { holds = tt }
    right_past (refused (suc n) i) d k₀ l fit h = record {
      holds = record {
        terminals = R (here value s c) ∷ j.terminals;
        upto = j.upto;
        stands = standing.more (λ z. ρ.token (sym k₀ ∙ z)) (ρ.is c.at k₀) (subst (λ i. Stand s i j.terminals j.upto) l j.stands);
        at = j.at;
        viable = wider j.viable;
        counts = j.counts;
        within = counting.more fit j.within;
        why = why j.why;
      };
    }
      where
        j : Stopped s F E (lang (φ (here value s c))) (counted m (R (here value s c))) d (suc n) i
        j = h.holds

        wider : {p : List Terminal} {o : ℕ} → Viable (lang (φ (here value s c))) p o → Viable (lang (one ρ φ)) (R (here value s c) ∷ p) o
        wider {p} v = record { rest = v.rest; next = v.next; value = v.value; starts = v.starts; member = record { value = here value s c; rest = p ++ v.rest; is = refl; follows = v.member } }

        rest_of_lem : Each F (lang (one ρ φ)) (λ b q t ts. Agree (spelled q (t ∷ ts)) (spelled (R (here value s c) ∷ j.terminals) (token_in s j.upto ∷ [])) → GoesOn (lang (φ (here value s c))) (R (here value s c) ∷ []) (spelled j.terminals (token_in s j.upto ∷ [])) b q t ts)
        rest_of_lem b q t ts y f z =
            let z' = subst (λ u. Agree (spelled q (t ∷ ts)) (u ∷ spelled j.terminals (token_in s j.upto ∷ []))) (ρ.is c.at k₀) z in
            let (v, g) = same_first s c ρ φ (t ∷ ts) (spelled j.terminals (token_in s j.upto ∷ [])) k₀ y z' in
            record { rest = y.rest; is = y.is ∙ ap (λ v. R v ∷ y.rest) v; follows = subst (λ v. lang (φ v) t.at b y.rest) v y.follows; agrees = g }

        why : {o : ℕ} → Why s F E (lang (φ (here value s c))) (counted m (R (here value s c))) d j.terminals j.counts j.upto o → Why s F E (lang (one ρ φ)) m c (R (here value s c) ∷ j.terminals) j.counts j.upto o
        why (no_token e) = no_token e
        why (no_script e w) = no_script e (λ b q t ts y f z. let u = rest_of_lem b q t ts y f z in w b u.rest t ts u.follows f u.agrees)
        why (over_limit x o e z w v u) =
            over_limit x o e z w (wider v) (λ b q t ts y f z.
            let g = rest_of_lem b q t ts y f z in
            let i = u b g.rest t ts g.follows f g.agrees in
            record { rest = i.rest; is = g.is ∙ ap (◌∷◌ (R (here value s c))) i.is })

    unfit : kind_at s c.at ≢ k → Right s F E (one ρ φ) m c (refused (fault (token_at s c.at)) (token_at s c.at).start)
    unfit w = right_none (one ρ φ) (λ b q t ts y f z. w (ap (λ (u : Tok). u.kind) (sym (subst (λ q. first_of q t ≡ token_in s c.at) y.is z)) ∙ ρ.kind y.value))

    right_over : kind_at s c.at ≡ k → ¬ Fits m (R (here value s c)) → Right s F E (one ρ φ) m c (refused 5 (token_at s c.at).start)
    right_over e w = record {
      holds = record {
        terminals = [];
        upto = c.at;
        stands = standing.none;
        at = refl;
        viable = begins (one ρ φ) (token_in s c.at).at;
        counts = m;
        within = counting.none;
        why = over_limit (R (here value s c)) 0 (λ z. ρ.token (sym e ∙ z)) (ρ.is c.at e) w
            (let f = fills (φ (here value s c)) 0 in record { rest = f.terminals; next = f.next; value = f.value; starts = f.starts; member = record { value = here value s c; rest = f.terminals; is = refl; follows = f.member } })
            (λ b q t ts y f z. record { rest = y.rest; is = y.is ∙ ap (λ v. R v ∷ y.rest) (same_first s c ρ φ (t ∷ ts) [] e y z).0 });
      };
    }

    pub right_expect : (f : ℕ → Cursor → Result A) → (kind_at s c.at ≡ k → Fits m (R (here value s c))) → (kind_at s c.at ≡ k → Right s F E (φ (here value s c)) (counted m (R (here value s c))) (past c (token_at s c.at)) (f (token_at s c.at).start (past c (token_at s c.at))))
        → Right s F E (one ρ φ) m c (on_token (expect s k c) f)
    unfolding expect
    right_expect f fit h = go (eqb (kind_at s c.at) k) refl
      where
        go : (b : Bool) → eqb (kind_at s c.at) k ≡ b → Right s F E (one ρ φ) m c (on_token (cond b (Ok ((token_at s c.at).start, past c (token_at s c.at))) (refuses (fault (token_at s c.at)) (token_at s c.at).start)) f)
        go true e = let z = eqb-true (kind_at s c.at) k e in right_past _ _ z refl (fit z) (h z)
        go false e = unfit (eqb-false (kind_at s c.at) k e)

    pub right_limited : (fits : Cursor → Bool) (more : Cursor → Cursor) (f : ℕ → Cursor → Result A) → ((d : Cursor) → (more d).at ≡ d.at)
        → (fits (past c (token_at s c.at)) ≡ true → Fits m (R (here value s c))) → (fits (past c (token_at s c.at)) ≡ false → ¬ Fits m (R (here value s c)))
        → (kind_at s c.at ≡ k → fits (past c (token_at s c.at)) ≡ true → Right s F E (φ (here value s c)) (counted m (R (here value s c))) (more (past c (token_at s c.at))) (f (token_at s c.at).start (more (past c (token_at s c.at)))))
        → Right s F E (one ρ φ) m c (on_token (limited (expect s k c) fits more) f)
    unfolding expect
    right_limited fits more f same yes' no' h = go (eqb (kind_at s c.at) k) refl
      where
        at_limit : kind_at s c.at ≡ k → (b : Bool) → fits (past c (token_at s c.at)) ≡ b → Right s F E (one ρ φ) m c (on_token (cond b (Ok ((token_at s c.at).start, more (past c (token_at s c.at)))) (refuses 5 (token_at s c.at).start)) f)
        at_limit z true e = right_past _ _ z (same _) (yes' e) (h z e)
        at_limit z false e = right_over z (no' e)

        go : (b : Bool) → eqb (kind_at s c.at) k ≡ b → Right s F E (one ρ φ) m c (on_token (limited (cond b (Ok ((token_at s c.at).start, past c (token_at s c.at))) (refuses (fault (token_at s c.at)) (token_at s c.at).start)) fits more) f)
        go true e = at_limit (eqb-true (kind_at s c.at) k e) (fits (past c (token_at s c.at))) refl
        go false e = unfit (eqb-false (kind_at s c.at) k e)

-- ── a phrase, then the rest
module _ {s : List ℕ} {A B : Type 0} (F : ℕ → Type 0) {G : ℕ → Type 0} {D : Cursor → Counts → Type 0} {m : Counts} {c : Cursor} (μ : Phrase s B) (φ : B → Phrase s A)
    -- what may follow a member of the first is what the rest begins with, or what may follow it
    (ahead : (b : B) → Each F (lang (φ b)) (λ a q t ts. G (first_of q t).kind)) where
  -- a member that agrees with the first p tokens and the one after them goes on with a member of the rest
  goes_on_lem : (b : B) (d : Cursor) (h : Read s G D (lang μ) m c b d) (p : List Terminal) (u : Tok) → first_of p u ≡ token_in s d.at
      → Each F (lang (seq μ φ)) (λ a q t ts. Agree (spelled q (t ∷ ts)) (spelled (h.terminals ++ p) (u ∷ [])) → GoesOn (lang (φ b)) h.terminals (spelled p (u ∷ [])) a q t ts)
  goes_on_lem b d h p u first a q t ts y f z = record {
    rest = y.rest;
    is = y.is ∙ ap (λ l. l ++ y.rest) same.0;
    follows = subst (λ b. lang (φ b) t.at a y.rest) same.1 y.follows;
    agrees = agree_past h.terminals _ _ (subst (λ l. Agree (spelled l (spelled y.rest (t ∷ ts))) (spelled h.terminals (spelled p (u ∷ [])))) same.0 split);
  }
    where
      split : Agree (spelled y.first (spelled y.rest (t ∷ ts))) (spelled h.terminals (spelled p (u ∷ [])))
      split =
          subst (λ l. Agree l (spelled h.terminals (spelled p (u ∷ [])))) (spelled_append y.first y.rest (t ∷ ts))
          (subst (Agree (spelled (y.first ++ y.rest) (t ∷ ts))) (spelled_append h.terminals p (u ∷ [])) (subst (λ q. Agree (spelled q (t ∷ ts)) (spelled (h.terminals ++ p) (u ∷ []))) y.is z))

      fewer : Agree (spelled y.first (first_of y.rest t ∷ rest_of y.rest t ts)) (spelled h.terminals (token_in s d.at ∷ []))
      fewer =
          subst (λ l. Agree (spelled y.first l) (spelled h.terminals (token_in s d.at ∷ []))) (spelled_cons y.rest t ts)
          (subst (λ v. Agree (spelled y.first (spelled y.rest (t ∷ ts))) (spelled h.terminals (v ∷ []))) first (agree_fewer h.terminals p _ u [] split))

      same : (y.first ≡ h.terminals) × (y.value ≡ b)
      same =
          h.only y.value y.first (first_of y.rest t) (rest_of y.rest t ts)
          (subst (λ n. lang μ n y.value y.first) (sym (first_offset y.rest t)) y.begins) (ahead y.value a y.rest t ts y.follows f) fewer

  -- the first is a member before what was read after it, and before what it can go on with
  before : (b : B) (d : Cursor) (h : Read s G D (lang μ) m c b d) (p : List Terminal) (u : Tok) → first_of p u ≡ token_in s d.at → (next : ℕ) → next ≡ following p u.at → lang μ next b h.terminals
  before b d h p u e next n = subst (λ n. lang μ n b h.terminals) (ap (λ (v : Tok). v.at) (sym e) ∙ first_offset p u ∙ sym n) h.member

  module _ {E : Cursor → Counts → Type 0} where
    after_first : (b : B) (d : Cursor) (h : Read s G D (lang μ) m c b d) (r : Result A) → Right s F E (φ b) h.counts d r → Right s F E (seq μ φ) m c r
    after_first b d h (got a e) g = record {
      holds = record {
        terminals = h.terminals ++ j.terminals;
        stands = stand_append h.stands j.stands;
        member = record { value = b; first = h.terminals; rest = j.terminals; is = refl; begins = before b d h j.terminals (token_in s e.at) (stand_first j.stands) _ refl; follows = j.member };
        counts = j.counts;
        within = within_append h.within j.within;
        ends = j.ends;
        only = λ b' q t ts y f z.
            let o = goes_on_lem b d h j.terminals (token_in s e.at) (stand_first j.stands) b' q t ts y f z in
            let (x, w) = j.only b' o.rest t ts o.follows f o.agrees in
            (o.is ∙ ap (λ l. h.terminals ++ l) x, w);
      };
    }
      where
        j : Read s F E (lang (φ b)) h.counts d a e
        j = g.holds
    after_first b d h (refused zero i) g = record { holds = tt }
    after_first b d h (refused (suc n) i) g = record {
      holds = record {
        terminals = h.terminals ++ j.terminals;
        upto = j.upto;
        stands = stand_append h.stands j.stands;
        at = j.at;
        viable = wider j.terminals i (token_in s j.upto) (stand_first j.stands) j.at j.viable;
        counts = j.counts;
        within = within_append h.within j.within;
        why = why j.why;
      };
    }
      where
        j : Stopped s F E (lang (φ b)) h.counts d (suc n) i
        j = g.holds

        wider : (p : List Terminal) (o : ℕ) (u : Tok) → first_of p u ≡ token_in s d.at → u.at ≡ o → Viable (lang (φ b)) p o → Viable (lang (seq μ φ)) (h.terminals ++ p) o
        wider p o u e l v = record {
          rest = v.rest;
          next = v.next;
          value = v.value;
          starts = v.starts;
          member = record {
            value = b;
            first = h.terminals;
            rest = p ++ v.rest;
            is = append_assoc h.terminals p v.rest;
            begins = before b d h p u e _ (following_append p v.rest v.next ∙ ap (following p) (v.starts ∙ sym l));
            follows = v.member;
          };
        }

        on : Each F (lang (seq μ φ)) (λ a q t ts. Agree (spelled q (t ∷ ts)) (spelled (h.terminals ++ j.terminals) (token_in s j.upto ∷ [])) → GoesOn (lang (φ b)) h.terminals (spelled j.terminals (token_in s j.upto ∷ [])) a q t ts)
        on = goes_on_lem b d h j.terminals (token_in s j.upto) (stand_first j.stands)

        why : {o : ℕ} → Why s F E (lang (φ b)) h.counts d j.terminals j.counts j.upto o → Why s F E (lang (seq μ φ)) m c (h.terminals ++ j.terminals) j.counts j.upto o
        why (no_token e) = no_token e
        why (no_script e w) = no_script e (λ a q t ts y f z. let u = on a q t ts y f z in w a u.rest t ts u.follows f u.agrees)
        why (over_limit x o e z w v u) =
            over_limit x o e z w (over v) (λ a q t ts y f z.
            let k = on a q t ts y f z in
            let l = u a k.rest t ts k.follows f k.agrees in
            record { rest = l.rest; is = k.is ∙ ap (λ l. h.terminals ++ l) l.is ∙ sym (append_assoc h.terminals (j.terminals ++ (x ∷ [])) l.rest) ∙ ap (λ k. k ++ l.rest) (sym (append_assoc h.terminals j.terminals (x ∷ []))) })
          where
            with_x : (p : List Terminal) → first_of p (token_in s j.upto) ≡ token_in s d.at → token_of x ≡ token_in s j.upto → (w : Tok) → first_of (p ++ (x ∷ [])) w ≡ token_in s d.at
            with_x [] e f w = f ∙ e
            with_x (y ∷ p) e f w = e

            over : Viable (lang (φ b)) (j.terminals ++ (x ∷ [])) o → Viable (lang (seq μ φ)) (h.terminals ++ j.terminals ++ (x ∷ [])) o
            over v =
                subst (λ l. Viable (lang (seq μ φ)) l o) (sym (append_assoc h.terminals j.terminals (x ∷ [])))
                (wider (j.terminals ++ (x ∷ [])) o (record { kind = 0; at = o; name = [] }) (with_x j.terminals (stand_first j.stands) z _) refl v)

    -- the first stops
    first_stops : (n i : ℕ) → Right s G D μ m c (refused n i) → Right s F E (seq μ φ) m c (refused n i)
    first_stops zero i g = record { holds = tt }
    first_stops (suc n) i g = record {
      holds = record {
        terminals = j.terminals;
        upto = j.upto;
        stands = j.stands;
        at = j.at;
        viable = wider j.viable;
        counts = j.counts;
        within = j.within;
        why = why j.why;
      };
    }
      where
        j : Stopped s G D (lang μ) m c (suc n) i
        j = g.holds

        wider : {p : List Terminal} {o : ℕ} → Viable (lang μ) p o → Viable (lang (seq μ φ)) p o
        wider {p} v =
            let f = fills (φ v.value) v.next in
            record {
              rest = v.rest ++ f.terminals;
              next = f.next;
              value = f.value;
              starts = following_append v.rest f.terminals f.next ∙ ap (following v.rest) f.starts ∙ v.starts;
              member = record {
                value = v.value;
                first = p ++ v.rest;
                rest = f.terminals;
                is = sym (append_assoc p v.rest f.terminals);
                begins = subst (λ n. lang μ n v.value (p ++ v.rest)) (sym f.starts) v.member;
                follows = f.member;
              };
            }

        -- as a member of the first
        inside : {P : List Terminal → Type 0} → Each G (lang μ) (λ b q t ts. Agree (spelled q (t ∷ ts)) (spelled j.terminals (token_in s j.upto ∷ [])) → P q)
            → Each F (lang (seq μ φ)) (λ a q t ts. Agree (spelled q (t ∷ ts)) (spelled j.terminals (token_in s j.upto ∷ [])) → (l : List Terminal) × (r : List Terminal) × (q ≡ l ++ r) × P l)
        inside h a q t ts y f z = (
          y.first,
          y.rest,
          y.is,
          h y.value y.first (first_of y.rest t) (rest_of y.rest t ts)
              (subst (λ n. lang μ n y.value y.first) (sym (first_offset y.rest t)) y.begins) (ahead y.value a y.rest t ts y.follows f)
              (subst (λ l. Agree (spelled y.first l) (spelled j.terminals (token_in s j.upto ∷ []))) (spelled_cons y.rest t ts)
              (subst (λ l. Agree l (spelled j.terminals (token_in s j.upto ∷ []))) (spelled_append y.first y.rest (t ∷ ts))
              (subst (λ q. Agree (spelled q (t ∷ ts)) (spelled j.terminals (token_in s j.upto ∷ []))) y.is z))),
        )

        why : {o : ℕ} → Why s G D (lang μ) m c j.terminals j.counts j.upto o → Why s F E (lang (seq μ φ)) m c j.terminals j.counts j.upto o
        why (no_token e) = no_token e
        why (no_script e w) = no_script e (λ a q t ts y f z. (inside {P = λ l. ⊥} w a q t ts y f z).3)
        why (over_limit x o e z w v u) =
            over_limit x o e z w (wider v) (λ a q t ts y f z.
            let (l, r, e, k) = inside {P = λ l. Starts l (j.terminals ++ (x ∷ []))} u a q t ts y f z in
            record { rest = k.rest ++ r; is = e ∙ ap (λ l. l ++ r) k.is ∙ append_assoc (j.terminals ++ (x ∷ [])) k.rest r })

    pub right_part : (r : Result B) (f : B → Cursor → Result A) → Right s G D μ m c r → ((b : B) (d : Cursor) (k : Counts) → D d k → Right s F E (φ b) k d (f b d)) → Right s F E (seq μ φ) m c (part r f)
    right_part (got b d) f h g = after_first b d h.holds (f b d) (g b d h.holds.counts h.holds.ends)
    right_part (refused n i) f h g = first_stops n i h

-- ── a part that is the last, under what it becomes
module _ {s : List ℕ} {A B : Type 0} {F : ℕ → Type 0} {E : Cursor → Counts → Type 0} {m : Counts} {c : Cursor} (μ : Phrase s B) (f : B → A) where
  pub right_lastly : (r : Result B) → Right s F E μ m c r → Right s F E (mapped f μ) m c (lastly f r)
  right_lastly (got b d) h =
      let j = h.holds in
      record {
        holds = record {
          terminals = j.terminals;
          stands = j.stands;
          member = record { value = b; is = refl; of = j.member };
          counts = j.counts;
          within = j.within;
          ends = j.ends;
          only = λ a q t ts y k z. let (x, w) = j.only y.value q t ts y.of k z in (x, y.is ∙ ap f w);
        };
      }
  right_lastly (refused zero i) h = record { holds = tt }
  right_lastly (refused (suc n) i) h = record {
    holds = record {
      terminals = j.terminals;
      upto = j.upto;
      stands = j.stands;
      at = j.at;
      viable = wider j.viable;
      counts = j.counts;
      within = j.within;
      why = why j.why;
    };
  }
    where
      j : Stopped s F E (lang μ) m c (suc n) i
      j = h.holds

      wider : {p : List Terminal} {o : ℕ} → Viable (lang μ) p o → Viable (lang (mapped f μ)) p o
      wider v = record { rest = v.rest; next = v.next; value = f v.value; starts = v.starts; member = record { value = v.value; is = refl; of = v.member } }

      why : {o : ℕ} → Why s F E (lang μ) m c j.terminals j.counts j.upto o → Why s F E (lang (mapped f μ)) m c j.terminals j.counts j.upto o
      why (no_token e) = no_token e
      why (no_script e w) = no_script e (λ a q t ts y k z. w y.value q t ts y.of k z)
      why (over_limit x o e z w v u) = over_limit x o e z w (wider v) (λ a q t ts y k z. u y.value q t ts y.of k z)

-- ── only the cursor's offset counts
pub right_there : {s : List ℕ} {A : Type 0} {F : ℕ → Type 0} {E : Cursor → Counts → Type 0} {φ : Phrase s A} {m : Counts} (c d : Cursor) → c.at ≡ d.at → (r : Result A) → Right s F E φ m c r → Right s F E φ m d r
right_there {s} c d e (got a f) h =
    let j = h.holds in
    record { holds = record { terminals = j.terminals; stands = subst (λ i. Stand s i j.terminals f.at) e j.stands; member = j.member; counts = j.counts; within = j.within; ends = j.ends; only = j.only } }
right_there c d e (refused zero i) h = record { holds = tt }
right_there {s} {F = F} {E} {φ} {m} c d e (refused (suc n) i) h = record {
  holds = record {
    terminals = j.terminals;
    upto = j.upto;
    stands = subst (λ i. Stand s i j.terminals j.upto) e j.stands;
    at = j.at;
    viable = j.viable;
    counts = j.counts;
    within = j.within;
    why = why j.why;
  };
}
  where
    j : Stopped s F E (lang φ) m c (suc n) i
    j = h.holds

    why : {o : ℕ} → Why s F E (lang φ) m c j.terminals j.counts j.upto o → Why s F E (lang φ) m d j.terminals j.counts j.upto o
    why (no_token e) = no_token e
    why (no_script e w) = no_script e w
    why (over_limit x o e z w v u) = over_limit x o e z w v u

-- ── before fewer kinds of tokens it is right too
pub right_before : {s : List ℕ} {A : Type 0} {F G : ℕ → Type 0} {E : Cursor → Counts → Type 0} {φ : Phrase s A} {m : Counts} {c : Cursor} → ((k : ℕ) → G k → F k) → (r : Result A) → Right s F E φ m c r → Right s G E φ m c r
right_before f (got a d) h =
    let j = h.holds in
    record { holds = record { terminals = j.terminals; stands = j.stands; member = j.member; counts = j.counts; within = j.within; ends = j.ends; only = λ b q t ts y g. j.only b q t ts y (f _ g) } }
right_before f (refused zero i) h = record { holds = tt }
right_before {s} {F = F} {G} {E} {φ} {m} {c} f (refused (suc n) i) h = record {
  holds = record {
    terminals = j.terminals;
    upto = j.upto;
    stands = j.stands;
    at = j.at;
    viable = j.viable;
    counts = j.counts;
    within = j.within;
    why = why j.why;
  };
}
  where
    j : Stopped s F E (lang φ) m c (suc n) i
    j = h.holds

    why : {o : ℕ} → Why s F E (lang φ) m c j.terminals j.counts j.upto o → Why s G E (lang φ) m c j.terminals j.counts j.upto o
    why (no_token e) = no_token e
    why (no_script e w) = no_script e (λ b q t ts y g. w b q t ts y (f _ g))
    why (over_limit x o e z w v u) = over_limit x o e z w v (λ b q t ts y g. u b q t ts y (f _ g))
