-- How answers and words follow the definition over what was read before, one turn, and what a loop keeps.
use mathlib.Core.Path.{◌≡◌, refl, ap, sym, subst, ◌∙◌}
use mathlib.Core.List.{List}
use mathlib.Core.Bool.{Bool, true, false}
use Prim.Native.Nat.{ℕ, ◌+◌, ◌*◌, ◌<◌, ◌≤◌}
use native.Mathlib.Omega.{arith}
use lib.ListN.{length, set, length-set}
use Rattle.std.specs.Prelude.{Ok, Err}
use Rattle.notation.specs.Refusals.{OrRefusal, refusal}
use Rattle.notation.specs.Reader.{Result, Taken, got, refused, lastly, limited}
use Rattle.notation.specs.Limits.{text_limit, process_term_limit}
use Rattle.notation.specs.Token.{token_at, kind_at}
use Rattle.notation.specs.Processes.{term_head, read_process}
use Rattle.notation.specs.declared.token.TermHead.{TermHead}
use Rattle.notation.specs.declared.refusal.Refusal.{Refusal}
use Rattle.notation.specs.declared.reading.Cursor.{Cursor}
use Rattle.notation.specs.Tables.{terms_at, term_word, term_word', put_term}
use Rattle.notation.specs.declared.reading.Tally.{Tally}
use Rattle.notation.specs.declared.reading.TermNode.{TermNode}
use Rattle.read_types.specs.Filling.{Out, Kept, Room, Form, Made, Meets, unread}
use Rattle.read_text.specs.declared.turns.Turn.{Turn}
use Rattle.read_text.specs.declared.turns.Turn.TheVariants.{On, Done}
use Rattle.read_text.specs.Turns.{ProcessRead, Onward, Turned, TurnRead, process_form}
use Rattle.read_types.proofs.Taking.{never}
use Rattle.read_types.proofs.Filled.{same, ◌upon◌, kept_set}

-- ── the node of a term is two words of the tables
module _ (w : List ℕ) (i : ℕ) (n : TermNode) {v : List ℕ} where
  pub term_kept : i < process_term_limit → v ≡ put_term w i n → Kept w v
  unfolding put_term
  term_kept l e = rw e (kept_set (set w (terms_at + 2 * i) (term_word n)) (terms_at + 2 * i + 1) (term_word' n) (omega arith) upon kept_set w (terms_at + 2 * i)
      (term_word n) (omega arith))

  pub term_long : v ≡ put_term w i n → length v ≡ length w
  unfolding put_term
  term_long e = ap length e ∙ length-set (set w (terms_at + 2 * i) (term_word n)) (terms_at + 2 * i + 1) (term_word' n) ∙ length-set w (terms_at + 2 * i)
      (term_word n)

-- ── what a term begins with, as the code has it
pub head_is : (s : List ℕ) (at : ℕ) {kind : ℕ} {h x : TermHead} → kind ≡ kind_at s at → h ≡ term_head kind → h ≡ x → term_head (kind_at s at) ≡ x
head_is s at e q z = ap term_head (sym e) ∙ sym q ∙ z

-- a step that was taken within a limit, whatever followed it
pub limit_held : (after : Taken → Taken) → ((y : Refusal) → after (Err y) ≡ Err y) → (t : Taken) (b : Bool) {i : ℕ} {d : Cursor}
    → after (limited t (λ _. b) (λ d. d)) ≡ Ok (i, d) → b ≡ true
limit_held after h t true e = refl
limit_held after h (Ok (j, f)) false e = never (sym (h (refusal 5 j)) ∙ e)
limit_held after h (Err y) false e = never (sym (h y) ∙ e)

-- ── an answer for a, as one for the tree over it
-- the tree b, from k' and w' on, is counted and written as a is
abbrev pub Over : {A B : Type 0} → Form A → Form B → List ℕ → Tally → List ℕ → Tally → A → B → Type 0
Over F G w k w' k' a b = (F.after a k ≡ G.after b k') × (F.write a k w ≡ G.write b k' w') × G.Fine b

module _ {A B : Type 0} {F : Form A} {G : Form B} {s w : List ℕ} {c : Cursor} {k : Tally} {b : ℕ} {f : ℕ → Result A} {r : Out} {v : List ℕ}
    (t : Meets F s w c k b f r v) (h : A → B) (w' : List ℕ)
    (k' : Tally) where
  pub made_as : (m : ℕ) → b < m → {x : Result B} → x ≡ lastly h (f m) → ((a : A) (d : Cursor) → f m ≡ got a d → F.Fine a → F.Ahead s c k d (F.after a k)
      → Over F G w k w' k' a (h a)) → Made G w' k' x r v
  made_as m lo {x} e words = subst (λ y. Made G w' k' y r v) (sym e) (go (f m) refl (t.is m lo))
    where
      go : (y : Result A) → f m ≡ y → Made F w k y r v → Made G w' k' (lastly h y) r v
      go (got a d) q y =
          let z = words a d q y.said.2 (t.on d (F.after a k) y.said.0) in
          record { said = (y.said.0 ∙ ap (λ x. Ok (d, x)) z.0, y.said.1 ∙ z.1, z.2) }
      go (refused n i) q y = record { said = y.said }

  pub meets_as : {c' : Cursor} {b' : ℕ} {g : ℕ → Result B} → ((m : ℕ) → b' < m → (g m ≡ lastly h (f m)) × (b < m)) → Kept w' w
      → ((m : ℕ) (a : A) (d : Cursor) → f m ≡ got a d → F.Fine a → F.Ahead s c k d (F.after a k) → Over F G w k w' k' a (h a))
      → ((d : Cursor) (l : Tally) → F.Ahead s c k d l → G.Ahead s c' k' d l)
      → Meets G s w' c' k' b' g r v
  meets_as is kept words ahead = record {
    is = λ m lo. made_as m (is m lo).1 (is m lo).0 (words m);
    kept = t.kept upon kept;
    on = λ d l e. ahead d l (t.on d l e);
  }

-- the same answer for the same tree
pub lastly_same : {A : Type 0} (x : Result A) → x ≡ lastly (λ a. a) x
lastly_same (got a d) = refl
lastly_same (refused n i) = refl

-- ── turns
module _ {A : Type 0} {F : Form A} {s w : List ℕ} {c : Cursor} {k : Tally} {b : ℕ} {f : ℕ → Result A} {v : List ℕ} where
  -- a turn that is refused, one that is the answer, and one that a process follows
  pub turn_no : {t : OrRefusal Turn} {d : Cursor} {l : Tally} {y : Refusal} → t ≡ Err y → Meets F s w c k b f (Err y) v → Turned F s w c k b f t d l v
  turn_no e m = rw e (record { said = m; kept = m.kept })

  pub turn_done : {d : Cursor} {l : Tally} → Meets F s w c k b f (Ok (d, l)) v → Turned F s w c k b f (Ok Done) d l v
  turn_done m = record { said = m; kept = m.kept }

  pub turn_on : {d : Cursor} {l : Tally} → Kept w v → Onward F s w c k b f v d l → Turned F s w c k b f (Ok On) d l v
  turn_on g o = record { said = o; kept = g }

  -- a turn under what went before it
  pub turn_under : {B : Type 0} {G : Form B} {w' : List ℕ} {c' : Cursor} {k' : Tally} {b' : ℕ} {g : ℕ → Result B} (t : OrRefusal Turn) {d : Cursor} {l : Tally} → c'.at ≤ c.at → Kept w' w
      → ((r : Out) (u : List ℕ) → Meets F s w c k b f r u → Meets G s w' c' k' b' g r u) → Turned F s w c k b f t d l v → Turned G s w' c' k' b' g t d l v
  turn_under (Ok On) h q go m =
      let o = m.said in
      let y = o.later in
      record { said = record { room = o.room; later = omega arith; whole = λ r u p. go r u (o.whole r u p) }; kept = m.kept upon q }
  turn_under (Ok Done) {d} {l} h q go m = record { said = go (Ok (d, l)) v m.said; kept = m.kept upon q }
  turn_under (Err y) h q go m = record { said = go (Err y) v m.said; kept = m.kept upon q }

-- ── a loop over what follows: the answer from here, with these words, is the answer of the whole
pub record Through (R : List ℕ → Cursor → Tally → Out → List ℕ → Type 0) (s w₀ : List ℕ) (c₀ : Cursor) (k₀ : Tally) (w : List ℕ) (c : Cursor)
    (k : Tally) : Type 0 where
  pub room : Room s w c k
  pub later : c₀.at ≤ c.at
  pub kept : Kept w₀ w
  pub whole : (r : Out) (u : List ℕ) → R w c k r u → R w₀ c₀ k₀ r u

pub through_start : {R : List ℕ → Cursor → Tally → Out → List ℕ → Type 0} {s w : List ℕ} {c : Cursor} {k : Tally} → Room s w c k → Through R s w c k w c k
through_start h = record { room = h; later = omega arith; kept = same; whole = λ r u a. a }

pub through_on : {R : List ℕ → Cursor → Tally → Out → List ℕ → Type 0} {s w₀ w v : List ℕ} {c₀ c d : Cursor} {k₀ k l : Tally} → Through R s w₀ c₀ k₀ w c k
    → Room s v d l → c.at ≤ d.at → Kept w v
    → ((r : Out) (u : List ℕ) → R v d l r u → R w c k r u) → Through R s w₀ c₀ k₀ v d l
through_on h room later g on =
    let y = h.later in
    record { room = room; later = omega arith; kept = g upon h.kept; whole = λ r u a. h.whole r u (on r u a) }

-- ── the loop over the terms of a process
module _ {s w₀ w v : List ℕ} {c₀ c : Cursor} {k₀ k : Tally} {t : OrRefusal Turn} {d : Cursor} {l : Tally} (h : Through (ProcessRead s) s w₀ c₀ k₀ w c k)
    (a : TurnRead s w c k t d l v) where
  onward : t ≡ Ok On → Onward process_form s w c k (3 * unread s c + 1) (λ m. read_process m s c) v d l
  onward e = (subst (λ x. TurnRead s w c k x d l v) e a).said

  pub turns_later : t ≡ Ok On → (c.at < d.at) × (d.at ≤ length s)
  turns_later e = let o = onward e in (o.later, o.room.2)

  pub turns_on : t ≡ Ok On → Through (ProcessRead s) s w₀ c₀ k₀ v d l
  turns_on e =
      let o = onward e in
      let y = o.later in
      through_on h o.room (omega arith) a.kept o.whole

  pub turns_end : t ≡ Ok Done → ProcessRead s w₀ c₀ k₀ (Ok (d, l)) v
  turns_end e = h.whole (Ok (d, l)) v (subst (λ x. TurnRead s w c k x d l v) e a).said

  pub turns_no : {r : Out} {y : Refusal} → t ≡ Err y → r ≡ Err y → ProcessRead s w₀ c₀ k₀ r v
  turns_no {y = y} e q = rw q (h.whole (Err y) v (subst (λ x. TurnRead s w c k x d l v) e a).said)
