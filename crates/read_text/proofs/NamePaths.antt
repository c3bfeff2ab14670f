-- What the definition says on each way through the code that reads lists of names.
use mathlib.Core.Path.{◌≡◌, refl, ap, sym, subst, ◌∙◌}
use mathlib.Core.List.{List, [], ◌∷◌}
use mathlib.Core.Bool.{Bool, true, false, cond}
use Prim.Native.Nat.{ℕ, suc, ◌<◌, ◌≤◌}
use native.Mathlib.Omega.{arith}
use lib.Dec.{eqb}
use Rattle.std.specs.Prelude.{Ok, Err}
use Rattle.std.specs.Result.{IsErrAnd}
use Rattle.notation.specs.Fine.{FineProcess}
use Rattle.notation.specs.declared.token.Token.{Token}
use Rattle.notation.specs.Token.{kind_at, token_at, k_name, k_comma, k_call, k_round_open, k_round_close, k_square_open, k_square_close}
use Rattle.notation.specs.Tree.{Located, call}
use Rattle.notation.specs.Refusals.{OrRefusal, refusal, refuses}
use Rattle.notation.specs.Reader.{Result, Taken, got, refused, on_token, part, lastly, choose, expect, opening, limited, may_open, deeper, past, fault, process_term, closed, name_in}
use Rattle.notation.specs.Processes.{process_by, read_names, name_list}
use Rattle.notation.specs.Tables.{more_terms, term_node, put_term, after_process, write_process}
use Rattle.notation.specs.declared.refusal.Refusal.{Refusal}
use Rattle.notation.specs.declared.reading.Cursor.{Cursor}
use Rattle.notation.specs.declared.reading.Tally.{Tally}
use Rattle.notation.specs.declared.reading.TermNode.{TermNode}
use Rattle.notation.specs.declared.token.TermHead.TheVariants.{Call}
use Rattle.read_types.specs.Filling.{Out, Stepped, Room, unread}
use Rattle.read_text.proofs.Turning.{term_kept}
use Rattle.read_text.specs.Names.{passed, AheadNames, NamesTaken, forget_names, list_end, names_or_none}
use Rattle.read_text.specs.Processes.{TermRead}
use Rattle.read_types.proofs.Taking.{never, left}
use Rattle.read_types.proofs.Filled.{at_more, same, took, made_got, meets_no, meets_got}

-- the answer of a list's reading, as a step's
module _ (i : ℕ) (c : Cursor) {y : Refusal} where
  pub passed_no : {r : OrRefusal (Unit {0})} → r ≡ Err y → passed i r c ≡ Err y
  passed_no e = ap (λ x. passed i x c) e

  pub passed_left : (r : OrRefusal (Unit {0})) → IsErrAnd r (λ z. z ≡ y) → passed i r c ≡ Err y
  passed_left r h = passed_no (left r h)

pub passed_at : (i : ℕ) (c : Cursor) {r : OrRefusal (Unit {0})} {x : Unit {0}} → r ≡ Ok x → passed i r c ≡ Ok (i, c)
passed_at i c e = ap (λ x. passed i x c) e

-- a list that was read, and one that was refused
module _ {P : Type 0} {r : Taken} (i : ℕ) (x : Result (List Located)) (is : r ≡ forget_names i x) where
  pub names_read : {j : ℕ} {d : Cursor} → r ≡ Ok (j, d) → ((xs : List Located) → x ≡ got xs d → i ≡ j → P) → P
  names_read = go x is
    where
      go : (x : Result (List Located)) → r ≡ forget_names i x → {j : ℕ} {d : Cursor} → r ≡ Ok (j, d) → ((xs : List Located) → x ≡ got xs d → i ≡ j → P) → P
      go (got xs c) is {j} {d} e f =
          let two : ◌≡◌ {A = Taken} (Ok (i, c)) (Ok (j, d)) = sym is ∙ e in
          let both : ◌≡◌ {A = ℕ × Cursor} (i, c) (j, d) = cc in
          f xs (ap (λ x. got xs x.1) both) (ap (λ x. x.0) both)
      go (refused n k) is e f = never (sym is ∙ e)

pub names_refused : {r : Taken} (i : ℕ) (x : Result (List Located)) → r ≡ forget_names i x → {y : Refusal} → r ≡ Err y → x ≡ refused y.number y.at
names_refused i (got xs c) is e = never (sym e ∙ is)
names_refused i (refused m k) is {y} e =
    let two : ◌≡◌ {A = Taken} (refuses m k) (Err y) = sym is ∙ e in
    let same : refusal m k ≡ y = cc in
    ap (λ z. refused z.number z.at) same

module _ {s : List ℕ} {c : Cursor} {i : ℕ} {f : ℕ → Result (List Located)} where
  taken_no : {r : Taken} {y : Refusal} → r ≡ Err y → ((m : ℕ) → unread s c < m → f m ≡ refused y.number y.at) → NamesTaken s c i f r
  taken_no e h = record { is = λ m lo. e ∙ ap (forget_names i) (sym (h m lo)); on = λ j d g. never (sym e ∙ g) }

  taken_at : (d : Cursor) → AheadNames s c i d → ((m : ℕ) → unread s c < m → ◌≡◌ {A = Taken} (Ok (i, d)) (forget_names i (f m))) → NamesTaken s c i f (Ok (i, d))
  taken_at d o h = record {
    is = h;
    on = λ j b g. let p : ◌≡◌ {A = ℕ × Cursor} (i, d) (j, b) = cc in subst (λ (x : ℕ × Cursor). AheadNames s c x.0 x.1) p o;
  }

-- which names were read is forgotten
forget_last : (i : ℕ) (x : Located) (r : Result (List Located)) → forget_names i (lastly (◌∷◌ x) r) ≡ forget_names i r
forget_last i x (got xs d) = refl
forget_last i x (refused n j) = refl

forget_end : (i : ℕ) (xs ys : List Located) (t : Taken) → forget_names i (on_token t λ _ e. got xs e) ≡ forget_names i (on_token t λ _ e. got ys e)
forget_end i xs ys (Ok (j, d)) = refl
forget_end i xs ys (Err y) = refl

-- ── the bracket that closes
module _ (s : List ℕ) (c : Cursor) (close n : ℕ) (wide : 1 ≤ n) {q : Taken} (u : Stepped s c n 0 0 (expect s close c) q) where
  pub end_no : {r : Taken} {y : Refusal} → q ≡ Err y → r ≡ Err y → NamesTaken s c 0 (λ _. list_end s close c) r
  end_no e is = taken_no is (λ m _. rw (took u e))

  pub end_at : {i : ℕ} {d : Cursor} → q ≡ Ok (i, d) → NamesTaken s c 0 (λ _. list_end s close c) (Ok (0, d))
  end_at {i} {d} e =
      let o = u.on i d e in
      taken_at d (omega arith) (λ m _. rw (took u e))

-- ── names
module _ (s : List ℕ) (c : Cursor) (close : ℕ) {q : Taken} (u : Stepped s c 1 0 0 (expect s k_name c) q) where
  names_suc : (m : ℕ) → read_names (suc m) s close c
      ≡ on_token (expect s k_name c) (λ i d. choose (eqb (kind_at s d.at) k_comma) (λ d. on_token (expect s k_comma d) λ _ e. lastly (◌∷◌ (name_in s i))
      (read_names m s close e))
      (λ d. on_token (expect s close d) λ _ e. got (name_in s i ∷ []) e) d)
  unfolding read_names
  names_suc m = refl

  pub names_no : {r : Taken} {y : Refusal} → q ≡ Err y → r ≡ Err y → NamesTaken s c 0 (λ m. read_names m s close c) r
  names_no {y = y} e is = taken_no is (at_more (λ m. read_names m s close c ≡ refused y.number y.at) (λ m _. names_suc m ∙ rw (took u e)))

  module _ {i : ℕ} {d : Cursor} (e : q ≡ Ok (i, d)) where
    module _ (f : eqb (kind_at s d.at) k_comma ≡ true) {x : Taken} (y : Stepped s d 1 0 0 (expect s k_comma d) x) where
      pub names_comma_no : {r : Taken} {z : Refusal} → x ≡ Err z → r ≡ Err z → NamesTaken s c 0 (λ m. read_names m s close c) r
      names_comma_no {z = z} g is = taken_no is (at_more (λ m. read_names m s close c ≡ refused z.number z.at) (λ m _. names_suc m ∙ rw (took u e, f, took y g)))

      pub names_more : {j : ℕ} {b : Cursor} → x ≡ Ok (j, b) → {r : Taken} → NamesTaken s b 0 (λ m. read_names m s close b) r
          → NamesTaken s c 0 (λ m. read_names m s close c) r
      names_more {j} {b} g {r} v =
          let o = u.on i d e in
          let o₂ = y.on j b g in
          record {
            is = at_more (λ m. r ≡ forget_names 0 (read_names m s close c))
                (λ m lo. let same : read_names (suc m) s close c ≡ lastly (◌∷◌ (name_in s i)) (read_names m s close b) = names_suc m ∙ rw
                (took u e, f, took y g) in
                v.is m (omega arith) ∙ sym (forget_last 0 (name_in s i) (read_names m s close b)) ∙ ap (forget_names 0) (sym same));
            on = λ h a z. let o₃ = v.on h a z in omega arith;
          }

    pub names_end : eqb (kind_at s d.at) k_comma ≡ false → {r : Taken} → NamesTaken s d 0 (λ _. list_end s close d) r
        → NamesTaken s c 0 (λ m. read_names m s close c) r
    names_end f {r} v =
        let o = u.on i d e in
        record {
          is = at_more (λ m. r ≡ forget_names 0 (read_names m s close c))
              (λ m lo. let same : read_names (suc m) s close c ≡ (on_token (expect s close d) λ _ e. got (name_in s i ∷ []) e) = names_suc m ∙ rw (took u e, f) in
              v.is (suc (unread s d)) (omega arith) ∙ forget_end 0 [] (name_in s i ∷ []) (expect s close d) ∙ ap (forget_names 0) (sym same));
          on = λ h a z. let o₂ = v.on h a z in omega arith;
        }

-- ── the loop over the names: the list that is read from c on is the rest of the whole
pub record NamesThrough (s : List ℕ) (close : ℕ) (c₀ c : Cursor) : Type 0 where
  pub later : c₀.at ≤ c.at
  pub whole : (r : Taken) → NamesTaken s c 0 (λ m. read_names m s close c) r → NamesTaken s c₀ 0 (λ m. read_names m s close c₀) r

pub names_start : {s : List ℕ} {close : ℕ} {c : Cursor} → NamesThrough s close c c
names_start = record { later = omega arith; whole = λ r v. v }

module _ {s : List ℕ} {close : ℕ} {c₀ c : Cursor} (h : NamesThrough s close c₀ c) {q : Taken} (u : Stepped s c 1 0 0 (expect s k_name c) q) {i : ℕ}
    {d : Cursor} (e : q ≡ Ok (i, d)) (f : eqb (kind_at s d.at) k_comma ≡ true) {x : Taken}
    (y : Stepped s d 1 0 0 (expect s k_comma d) x) where
  pub names_on : {j : ℕ} {b : Cursor} → x ≡ Ok (j, b) → NamesThrough s close c₀ b
  names_on {j} {b} g =
      let o = u.on i d e in
      let o₂ = y.on j b g in
      let l = h.later in
      record { later = omega arith; whole = λ r v. h.whole r (names_more s c close u e f y g v) }

-- ── names, or none
module _ (s : List ℕ) (c : Cursor) (close : ℕ) {r : Taken} where
  pub some_names : eqb (kind_at s c.at) k_name ≡ true → NamesTaken s c 0 (λ m. read_names m s close c) r → NamesTaken s c 0 (λ m. names_or_none m s close c) r
  some_names f v = record { is = λ m lo. rw f (v.is m lo); on = v.on }

  pub no_names : eqb (kind_at s c.at) k_name ≡ false → NamesTaken s c 0 (λ _. list_end s close c) r → NamesTaken s c 0 (λ m. names_or_none m s close c) r
  no_names f v = record { is = λ m lo. rw f (v.is m lo); on = v.on }

-- a bracket that opens is where its token starts
opening_start : (s : List ℕ) (k : ℕ) (c : Cursor) {i : ℕ} {d : Cursor} → opening s k c ≡ Ok (i, d) → i ≡ (token_at s c.at).start
unfolding opening expect
opening_start s k c {i} {d} = go (eqb (token_at s c.at).kind k) (token_at s c.at)
  where
    deep : (b : Bool) (j : ℕ) (f : Cursor) → cond {A = Taken} b (Ok (j, f)) (refuses 5 j) ≡ Ok (i, d) → i ≡ j
    deep true j f e = let both : ◌≡◌ {A = ℕ × Cursor} (j, f) (i, d) = cc in sym (ap (λ x. x.0) both)
    deep false j f e = never e

    go : (b : Bool) (t : Token) → limited (cond b (Ok (t.start, past c t)) (refuses (fault t) t.start)) may_open deeper ≡ Ok (i, d) → i ≡ t.start
    go true t e = deep (may_open (past c t)) t.start (deeper (past c t)) e
    go false t e = never e

-- ── a list in its brackets
module _ (s : List ℕ) (c : Cursor) (opens closes n : ℕ) (wide : 1 ≤ n) {q : Taken} (u : Stepped s c n 0 0 (opening s opens c) q) where
  abbrev at_open : ℕ
  at_open = (token_at s c.at).start

  list_is : (m : ℕ) → name_list m s opens closes c ≡ on_token (opening s opens c) (λ _ d. part (names_or_none m s closes d) λ names e. got names (closed c e))
  unfolding name_list
  list_is m = refl

  pub list_no : {r : Taken} {y : Refusal} → q ≡ Err y → r ≡ Err y → NamesTaken s c at_open (λ m. name_list m s opens closes c) r
  list_no e is = taken_no is (λ m _. list_is m ∙ rw (took u e))

  module _ {i : ℕ} {d : Cursor} (e : q ≡ Ok (i, d)) {x : Taken} (v : NamesTaken s d 0 (λ m. names_or_none m s closes d) x) where
    pub list_names_no : {r : Taken} {y : Refusal} → x ≡ Err y → r ≡ Err y → NamesTaken s c at_open (λ m. name_list m s opens closes c) r
    list_names_no g r-is =
        let o = u.on i d e in
        taken_no r-is (λ m lo. list_is m ∙ rw (took u e, names_refused 0 (names_or_none m s closes d) (v.is m (omega arith)) g))

    pub list_got : {j : ℕ} {b : Cursor} → x ≡ Ok (j, b) → NamesTaken s c at_open (λ m. name_list m s opens closes c) (Ok (i, closed c b))
    list_got {j} {b} g =
        let o = u.on i d e in
        let o₂ = v.on j b g in
        let start = opening_start s opens c (took u e) in
        rw start
        (taken_at (closed c b) (omega arith)
        (λ m lo. names_read 0 (names_or_none m s closes d) (v.is m (omega arith)) g λ xs a _.
        let same : name_list m s opens closes c ≡ got xs (closed c b) = list_is m ∙ rw (took u e, a) in
        ap (forget_names at_open) (sym same)))

-- ── call
module _ (s w : List ℕ) (c : Cursor) (k : Tally) (room : Room s w c k) {q : Taken} (u : Stepped s c 1 0 1 (process_term s k_call c) q) where
  pub call_no : {r : Out} {y : Refusal} → q ≡ Err y → r ≡ Err y → TermRead Call s w c k r w
  unfolding process_by
  call_no g h = meets_no s w c k h same (λ m _. rw (took u g))

  module _ {at : ℕ} {d : Cursor} (e : q ≡ Ok (at, d)) {x : Taken} (y : Stepped s d 1 0 0 (expect s k_name d) x) where
    pub call_name_no : {r : Out} {y : Refusal} → x ≡ Err y → r ≡ Err y → TermRead Call s w c k r w
    unfolding process_by
    call_name_no g h = meets_no s w c k h same (λ m _. rw (took u e, took y g))

    module _ {i : ℕ} {f : Cursor} (g : x ≡ Ok (i, f)) {z : Taken} (a : NamesTaken s f (token_at s f.at).start
        (λ m. name_list m s k_round_open k_round_close f) z) where
      pub call_provided_no : {r : Out} {y : Refusal} → z ≡ Err y → r ≡ Err y → TermRead Call s w c k r w
      unfolding process_by
      call_provided_no h l =
          let o = u.on at d e in
          let o₂ = y.on i f g in
          meets_no s w c k l same (λ m lo. rw (
            took u e,
            took y g,
            names_refused _ (name_list m s k_round_open k_round_close f)
                (a.is m (omega arith)) h,
          ))

      module _ {bracket : ℕ} {b : Cursor} (h : z ≡ Ok (bracket, b)) {z₂ : Taken} (a₂ : NamesTaken s b (token_at s b.at).start
          (λ m. name_list m s k_square_open k_square_close b) z₂) where
        pub call_used_no : {r : Out} {y : Refusal} → z₂ ≡ Err y → r ≡ Err y → TermRead Call s w c k r w
        unfolding process_by
        call_used_no h₂ l =
            let o = u.on at d e in
            let o₂ = y.on i f g in
            let o₃ = a.on bracket b h in
            meets_no s w c k l same
            (λ m lo. names_read _ (name_list m s k_round_open k_round_close f) (a.is m (omega arith)) h λ xs p _.
            rw (took u e, took y g, p, names_refused _ (name_list m s k_square_open k_square_close b) (a₂.is m (omega arith)) h₂))

        pub call_got : {j : ℕ} {b₂ : Cursor} {v : List ℕ} → z₂ ≡ Ok (j, b₂) → {n : TermNode} → n ≡ term_node 10 at i bracket 0 → v ≡ put_term w k.terms n
            → TermRead Call s w c k (Ok (b₂, more_terms k)) v
        unfolding process_by after_process write_process FineProcess
        call_got {j} {b₂} h₂ ne put =
            let pt = put ∙ ap (put_term w k.terms) ne in
            let o = u.on at d e in
            let o₂ = y.on i f g in
            let o₃ = a.on bracket b h in
            let o₄ = a₂.on j b₂ h₂ in
            meets_got s w c k (omega arith) (term_kept w k.terms (term_node 10 at i bracket 0) (omega arith) pt)
            (λ m lo. names_read _ (name_list m s k_round_open k_round_close f) (a.is m (omega arith)) h λ xs p opened.
            names_read _ (name_list m s k_square_open k_square_close b) (a₂.is m (omega arith)) h₂ λ ys p₂ _.
            made_got (call at (name_in s i) (token_at s f.at).start xs ys) (rw (took u e, took y g, p, p₂)) refl
            (pt ∙ ap (λ x. put_term w k.terms (term_node 10 at i x 0)) (sym opened)) (omega arith))
