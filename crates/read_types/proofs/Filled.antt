-- How answers and words follow the definition's own combinators.
use mathlib.Core.Path.{◌≡◌, refl, ap, sym, subst, ◌∙◌}
use mathlib.Core.List.{List, [], ◌∷◌}
use Prim.Native.Nat.{ℕ, zero, suc, ◌+◌, ◌<◌, ◌≤◌}
use native.Mathlib.Nat.{le_of_suc-le-suc, not-suc-le-zero}
use native.Mathlib.Omega.{arith}
use lib.ListN.{drop, set, length-set}
use Rattle.std.specs.Prelude.{Ok, Err}
use Rattle.notation.specs.Limits.{type_term_limit}
use Rattle.notation.specs.Refusals.{refusal, refuses}
use Rattle.notation.specs.Reader.{Result, Taken, got, refused, lastly}
use Rattle.notation.specs.declared.reading.Cursor.{Cursor}
use Rattle.notation.specs.declared.reading.Tally.{Tally}
use Rattle.notation.specs.declared.reading.TypeNode.{TypeNode}
use Rattle.notation.specs.declared.refusal.Refusal.{Refusal}
use Rattle.notation.specs.Tables.{nodes_at, put_node, table_words, type_word}
use Rattle.read_types.specs.Filling.{Kept, WordPut, Put, past_area, Out, Stepped, Form, Made, Meets}

-- a refusal goes on nowhere
pub never_got : {P : Type 0} {y : Refusal} {d : Cursor} {l : Tally} → ◌≡◌ {A = Out} (Err y) (Ok (d, l)) → P
never_got e = absurd cc

-- a step that was taken, as the definition has it
pub took : {s : List ℕ} {c : Cursor} {n a b : ℕ} {want r x : Taken} → Stepped s c n a b want r → r ≡ x → want ≡ x
took u e = sym u.is ∙ e

-- ── words past the tables' area
pub same : {w : List ℕ} → Kept w w
same = record { long = refl; past = refl }

infixr 30 ◌upon◌
pub ◌upon◌ : {w v u : List ℕ} → Kept v u → Kept w v → Kept w u
◌upon◌ a b = record { long = a.long ∙ b.long; past = a.past ∙ b.past }

pub put_kept : {w x v : List ℕ} {k r : Tally} → Put w x k r v → Kept w x
put_kept {w} p = subst (Kept w) p.words p.kept

drop_set : (n : ℕ) (w : List ℕ) (i a : ℕ) → i < n → drop n (set w i a) ≡ drop n w
drop_set zero w i a l = absurd (not-suc-le-zero l)
drop_set (suc n) [] i a l = refl
drop_set (suc n) (x ∷ w) zero a l = refl
drop_set (suc n) (x ∷ w) (suc i) a l = drop_set n w i a (le_of_suc-le-suc l)

-- a word of the tables is set
pub kept_set : (w : List ℕ) (i a : ℕ) → i < table_words → Kept w (set w i a)
unfolding past_area
kept_set w i a l = record { long = length-set w i a; past = drop_set table_words w i a l }

pub word_put : {w : List ℕ} {i n m : ℕ} → n ≡ m → i < table_words → WordPut w i m (set w i n)
word_put {w} {i} {n} e l = record { words = ap (set w i) e; kept = kept_set w i n l }

-- the words that puts leave, one after another
infixl 30 ◌set_more◌
pub ◌set_more◌ : {v x u : List ℕ} {i n : ℕ} → v ≡ x → WordPut v i n u → u ≡ set x i n
◌set_more◌ {i = i} {n} e p = p.words ∙ ap (λ w. set w i n) e

pub put_one : {w v : List ℕ} {i n : ℕ} {k : Tally} → WordPut w i n v → Put w (set w i n) k k v
put_one p = record { is = refl; words = p.words; kept = p.kept }

infixl 30 ◌put_more◌
pub ◌put_more◌ : {w x v u : List ℕ} {i n : ℕ} {k r : Tally} → Put w x k r v → WordPut v i n u → Put w (set x i n) k r u
◌put_more◌ q p = record { is = q.is; words = q.words set_more p; kept = p.kept upon q.kept }

-- a type node is put
pub node_kept : {w v : List ℕ} (i : ℕ) (n : TypeNode) → v ≡ put_node w i n → i < type_term_limit → Kept w v
unfolding put_node
node_kept {w} i n e l = subst (Kept w) (sym e) (kept_set w (nodes_at + i) (type_word n) (omega arith))

-- ── what an answer says of the definition's answer
module _ {A : Type 0} {F : Form A} {w v : List ℕ} {k : Tally} {r : Out} where
  pub made_no : {y : Refusal} {x : Result A} → x ≡ refused y.number y.at → r ≡ Err y → Made F w k x r v
  made_no e q = rw e (record { said = q })

  pub made_got : (a : A) {d : Cursor} {x : Result A} → x ≡ got a d → r ≡ Ok (d, F.after a k) → v ≡ F.write a k w → F.Fine a → Made F w k x r v
  made_got a e q h f = rw e (record { said = (q, h, f) })

  pub gone_on : {P : Type 0} {l : Tally} {d : Cursor} (x : Result A) → Made F w k x r v → r ≡ Ok (d, l)
      → ((a : A) → x ≡ got a d → l ≡ F.after a k → v ≡ F.write a k w → F.Fine a → P) → P
  gone_on {l = l} {d = d} (got a c) h q go =
      let two : ◌≡◌ {A = Out} (Ok (c, F.after a k)) (Ok (d, l)) = sym h.said.0 ∙ q in
      let both : ◌≡◌ {A = Cursor × Tally} (c, F.after a k) (d, l) = cc in
      go a (ap (λ x. got a x.0) both) (sym (ap (λ x. x.1) both)) h.said.1 h.said.2
  gone_on (refused n i) h q go = never_got (sym h.said ∙ q)

  pub stopped : {y : Refusal} (x : Result A) → Made F w k x r v → r ≡ Err y → x ≡ refused y.number y.at
  stopped (got a c) h q = never_got (sym q ∙ h.said.0)
  stopped {y} (refused m j) h q =
      let two : ◌≡◌ {A = Out} (refuses m j) (Err y) = sym h.said ∙ q in
      let same : refusal m j ≡ y = cc in
      ap (λ z. refused z.number z.at) same

-- the same answer for what a last part becomes, which is written as the part is
pub made_lastly : {A B : Type 0} (F : Form A) (G : Form B) {w u v : List ℕ} {k l : Tally} {r : Out} (g : A → B) (x : Result A)
    → ((a : A) → F.Fine a → (F.after a l ≡ G.after (g a) k) × (F.write a l u ≡ G.write (g a) k w) × G.Fine (g a))
    → Made F u l x r v → Made G w k (lastly g x) r v
made_lastly F G g (got a d) h m = let z = h a m.said.2 in record { said = (m.said.0 ∙ ap (λ x. Ok (d, x)) z.0, m.said.1 ∙ z.1, z.2) }
made_lastly F G g (refused n i) h m = record { said = m.said }

-- the same answer, which is written otherwise
pub made_same : {A : Type 0} (F G : Form A) {w u v : List ℕ} {k l : Tally} {r : Out} (x : Result A)
    → ((a : A) → F.Fine a → (F.after a l ≡ G.after a k) × (F.write a l u ≡ G.write a k w) × G.Fine a) → Made F u l x r v → Made G w k x r v
made_same F G (got a d) h m = let z = h a m.said.2 in record { said = (m.said.0 ∙ ap (λ x. Ok (d, x)) z.0, m.said.1 ∙ z.1, z.2) }
made_same F G (refused n i) h m = record { said = m.said }

-- ── meeting the definition at every fuel above a bound
module _ {A : Type 0} {F : Form A} (s w : List ℕ) (c : Cursor) (k : Tally) {b : ℕ} {f : ℕ → Result A} where
  pub meets_no : {r : Out} {v : List ℕ} {y : Refusal} → r ≡ Err y → Kept w v → ((m : ℕ) → b < m → f m ≡ refused y.number y.at) → Meets F s w c k b f r v
  meets_no q g h = record { is = λ m l. made_no (h m l) q; kept = g; on = λ d l e. never_got (sym q ∙ e) }

  pub meets_got : {d : Cursor} {l : Tally} {v : List ℕ} → F.Ahead s c k d l → Kept w v
      → ((m : ℕ) → b < m → Made F w k (f m) (Ok (d, l)) v) → Meets F s w c k b f (Ok (d, l)) v
  meets_got {d} {l} o g h = record {
    is = h;
    kept = g;
    on = λ e n q. let p : ◌≡◌ {A = Cursor × Tally} (d, l) (e, n) = cc in subst (λ x. F.Ahead s c k x.0 x.1) p o;
  }

-- at every fuel above the bound: at one more than every fuel from the bound on
pub at_more : (P : ℕ → Type 0) {b : ℕ} → ((m : ℕ) → b ≤ m → P (suc m)) → (m : ℕ) → b < m → P m
at_more P h zero l = absurd (not-suc-le-zero l)
at_more P h (suc m) l = h m (le_of_suc-le-suc l)

-- a result that a meeting gives at one more fuel
module _ {A : Type 0} (F : Form A) (s w : List ℕ) (c : Cursor) (k : Tally) {b : ℕ} (f : ℕ → Result A) where
  pub more_no : {r : Out} {v : List ℕ} {y : Refusal} → r ≡ Err y → Kept w v → ((m : ℕ) → b ≤ m → f (suc m) ≡ refused y.number y.at) → Meets F s w c k b f r v
  more_no {y = y} q g h = meets_no s w c k q g (at_more (λ m. f m ≡ refused y.number y.at) h)

  pub more_got : {d : Cursor} {l : Tally} {v : List ℕ} → F.Ahead s c k d l → Kept w v → ((m : ℕ) → b ≤ m → Made F w k (f (suc m)) (Ok (d, l)) v)
      → Meets F s w c k b f (Ok (d, l)) v
  more_got {d} {l} {v} o g h = meets_got s w c k o g (at_more (λ m. Made F w k (f m) (Ok (d, l)) v) h)

-- the words of an answer at every fuel above the bound
pub more_made : {A : Type 0} (F : Form A) (w : List ℕ) (k : Tally) (f : ℕ → Result A) {b : ℕ} {r : Out} {v : List ℕ}
    → ((m : ℕ) → b ≤ m → Made F w k (f (suc m)) r v) → (m : ℕ) → b < m → Made F w k (f m) r v
more_made F w k f {r = r} {v} = at_more (λ m. Made F w k (f m) r v)
