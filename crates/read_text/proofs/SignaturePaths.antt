-- What the definition says on each way through the code that reads signatures.
use mathlib.Core.Path.{◌≡◌, refl, ap, sym, ◌∙◌}
use mathlib.Core.List.{List, [], ◌∷◌}
use mathlib.Core.Bool.{Bool, true, false}
use Prim.Native.Nat.{ℕ, suc, ◌+◌, ◌≤◌}
use native.Mathlib.Omega.{arith}
use lib.Dec.{eqb}
use Rattle.std.specs.Prelude.{Ok, Err}
use Rattle.notation.specs.Fine.{FineEntries}
use Rattle.notation.specs.Token.{kind_at, k_name, k_colon, k_comma}
use Rattle.notation.specs.Tree.{Located, Ty, Entry}
use Rattle.notation.specs.Reader.{Result, Taken, got, on_token, part, lastly, choose, expect, opening, closed, name_in}
use Rattle.notation.specs.Types.{read_type}
use Rattle.notation.specs.Scripts.{read_entries, entry_list}
use Rattle.notation.specs.Tables.{more_entries, put_entry, after_type, write_type, after_entries, write_entries}
use Rattle.notation.specs.declared.refusal.Refusal.{Refusal}
use Rattle.notation.specs.declared.reading.Cursor.{Cursor}
use Rattle.notation.specs.declared.reading.Tally.{Tally}
use Rattle.read_types.specs.Filling.{Out, SameDeclared, TypeRead, Stepped, Put, Room}
use Rattle.read_text.specs.Scripts.{entry_name, entries_form, close_by, more_entries_by, entries_or_none, EntriesRead}
use Rattle.read_types.proofs.TypePaths.{then_take}
use Rattle.read_types.proofs.Filled.{same, ◌upon◌, took, made_got, gone_on, stopped, meets_no, meets_got, more_no, more_made}
use Rattle.read_text.proofs.Turning.{made_as, Through, through_on}

abbrev entry : List ℕ → ℕ → Ty Located → Entry
entry s i A = record { channel = name_in s i; type = A }

-- what is put before a list stands before each of its ways
last_take : {A B : Type 0} (h : A → B) (t : Taken) (f : ℕ → Cursor → Result A) → on_token t (λ i d. lastly h (f i d)) ≡ lastly h (on_token t f)
last_take h (Ok (i, d)) f = refl
last_take h (Err y) f = refl

entries_last : (m : ℕ) (s : List ℕ) (close : ℕ) (x : Entry) (c : Cursor)
    → choose (eqb (kind_at s c.at) k_comma) (λ c. on_token (expect s k_comma c) λ _ d. lastly (◌∷◌ x) (read_entries m s close d)) (λ c. on_token (expect s close c) λ _ d. got (x ∷ []) d) c
    ≡ lastly (◌∷◌ x) (more_entries_by m s close c)
entries_last m s close x c = go (eqb (kind_at s c.at) k_comma)
  where
    go : (b : Bool)
        → choose b (λ c. on_token (expect s k_comma c) λ _ d. lastly (◌∷◌ x) (read_entries m s close d)) (λ c. on_token (expect s close c) λ _ d. got (x ∷ []) d) c
        ≡ lastly (◌∷◌ x) (choose b (λ c. on_token (expect s k_comma c) λ _ d. read_entries m s close d) (λ c. close_by s close c) c)
    go true = last_take (◌∷◌ x) (expect s k_comma c) (λ _ d. read_entries m s close d)
    go false = last_take (◌∷◌ x) (expect s close c) (λ _ d. got [] d)

entries_suc : (m : ℕ) (s : List ℕ) (close : ℕ) (c : Cursor)
    → read_entries (suc m) s close c ≡ on_token (entry_name s c) (λ i e. part (read_type m s e) λ A f. lastly (◌∷◌ (entry s i A)) (more_entries_by m s close f))
unfolding read_entries entry_name
entries_suc m s close c =
    (λ j. on_token (expect s k_name c) λ i d. on_token (expect s k_colon d) λ _ e. part (read_type m s e) λ A f. entries_last m s close (entry s i A) f j)
    ∙ sym (then_take (expect s k_name c) (expect s k_colon) _)

-- an entry more changes nothing else
pub entry_added : (k l : Tally) → l ≡ more_entries k
    → (l.entries ≡ k.entries + 1) × (l.nodes ≡ k.nodes) × (l.alternatives ≡ k.alternatives) × (l.terms ≡ k.terms) × (l.branches ≡ k.branches) × SameDeclared k l
entry_added k l e = (
  ap (λ x. x.entries) e,
  ap (λ x. x.nodes) e,
  ap (λ x. x.alternatives) e,
  ap (λ x. x.terms) e,
  ap (λ x. x.branches) e,
  (ap (λ x. x.types) e, ap (λ x. x.processes) e, ap (λ x. x.execs) e),
)

-- ── the bracket that closes
module _ (s w : List ℕ) (c : Cursor) (k : Tally) (room : Room s w c k) (close n : ℕ) {q : Taken} (u : Stepped s c n 0 0 (expect s close c) q) where
  pub close_no : {r : Out} {y : Refusal} → q ≡ Err y → r ≡ Err y → EntriesRead (λ _. close_by s close c) s w c k r w
  close_no g h = meets_no s w c k h same (λ m _. rw (took u g))

  pub close_got : {i : ℕ} {d : Cursor} → q ≡ Ok (i, d) → EntriesRead (λ _. close_by s close c) s w c k (Ok (d, k)) w
  unfolding after_entries write_entries FineEntries
  close_got {i} {d} e =
      let o = u.on i d e in
      meets_got s w c k (omega arith) same (λ m _. made_got [] (rw (took u e)) refl refl (omega arith))

-- ── a list that may be empty
module _ (s w : List ℕ) (c : Cursor) (k : Tally) (room : Room s w c k) (close : ℕ) where
  pub some_entries : eqb (kind_at s c.at) k_name ≡ true → {r : Out} {v : List ℕ} → EntriesRead (λ m. read_entries m s close c) s w c k r v
      → EntriesRead (λ m. entries_or_none m s close c) s w c k r v
  some_entries f t = record { is = λ m lo. rw f (t.is m lo); kept = t.kept; on = t.on }

  pub no_entries : eqb (kind_at s c.at) k_name ≡ false → {r : Out} {v : List ℕ} → EntriesRead (λ _. close_by s close c) s w c k r v
      → EntriesRead (λ m. entries_or_none m s close c) s w c k r v
  no_entries f t = record { is = λ m lo. rw f (t.is m lo); kept = t.kept; on = t.on }

-- ── entries
abbrev pub Entries : List ℕ → ℕ → List ℕ → Cursor → Tally → Out → List ℕ → Type 0
Entries s close w c k = EntriesRead (λ m. read_entries m s close c) s w c k

module _ (s w : List ℕ) (c : Cursor) (k : Tally) (room : Room s w c k) (close : ℕ) {q : Taken} (u : Stepped s c 2 0 0 (entry_name s c) q) where
  pub entries_no : {r : Out} {y : Refusal} → q ≡ Err y → r ≡ Err y → Entries s close w c k r w
  entries_no g h = more_no entries_form s w c k (λ m. read_entries m s close c) h same (λ m _. entries_suc m s close c ∙ rw (took u g))

  module _ {i : ℕ} {d : Cursor} (e : q ≡ Ok (i, d)) {p : Out} {v : List ℕ} (t : TypeRead s w d k p v) where
    pub entries_type_no : {r : Out} {y : Refusal} → p ≡ Err y → r ≡ Err y → Entries s close w c k r v
    entries_type_no g r-is =
        let o = u.on i d e in
        more_no entries_form s w c k (λ m. read_entries m s close c) r-is t.kept
        (λ m lo. entries_suc m s close c ∙ rw (took u e, stopped (read_type m s d) (t.is m (omega arith)) g))

    module _ {f : Cursor} {l : Tally} (g : p ≡ Ok (f, l)) {l₂ : Tally} {v₂ : List ℕ} (pt : Put v (put_entry v l.entries i l.last)
        (more_entries l) l₂ v₂) where
      entries_more : {x : Out} {v₃ : List ℕ} → EntriesRead (λ m. more_entries_by m s close f) s v₂ f l₂ x v₃ → Entries s close w c k x v₃
      unfolding after_entries write_entries FineEntries
      entries_more y =
          let o = u.on i d e in
          let o₂ = t.on f l g in
          let added = entry_added l l₂ pt.is in
          record {
            is = more_made entries_form w k (λ m. read_entries m s close c)
                (λ m lo. gone_on (read_type m s d) (t.is m (omega arith)) g λ A a al av fi.
                made_as y (◌∷◌ (entry s i A)) w k m (omega arith) (entries_suc m s close c ∙ rw (took u e, a))
                (λ es _ _ fi₂ _.
                let number : l.entries ≡ k.entries = o₂.0.6.1 in
                let tally : l₂ ≡ more_entries (after_type A k) = pt.is ∙ ap more_entries al in
                let words : v₂ ≡ put_entry (write_type A k w) k.entries i (after_type A k).last = pt.words ∙
                (λ j. put_entry (av j) (number j) i (al j).last) in
                (ap (after_entries es) tally, (λ j. write_entries es (tally j) (words j)), (omega arith, fi, fi₂))));
            kept = y.kept upon pt.kept upon t.kept;
            on = λ b l₃ z. let o₃ = y.on b l₃ z in omega arith;
          }

      module _ (comma : eqb (kind_at s f.at) k_comma ≡ true) {x : Taken} (y : Stepped s f 1 0 0 (expect s k_comma f) x) where
        pub entries_comma_no : {r : Out} {y : Refusal} → x ≡ Err y → r ≡ Err y → Entries s close w c k r v₂
        entries_comma_no h z = entries_more (meets_no s v₂ f l₂ z same (λ m _. rw (comma, took y h)))

        pub entries_on_lem : {w₀ : List ℕ} {c₀ : Cursor} {k₀ : Tally} → Through (Entries s close) s w₀ c₀ k₀ w c k → {j : ℕ} {b : Cursor} → x ≡ Ok (j, b)
            → Through (Entries s close) s w₀ c₀ k₀ v₂ b l₂
        entries_on_lem h {j} {b} z =
            let o = u.on i d e in
            let o₂ = t.on f l g in
            let o₃ = y.on j b z in
            let added = entry_added l l₂ pt.is in
            through_on h (omega (arith, pt.kept.long, t.kept.long)) (omega arith) (pt.kept upon t.kept)
            (λ r a x. entries_more
            (record { is = λ m lo. rw (comma, took y z) (x.is m (omega arith)); kept = x.kept; on = λ b l q. let o₄ = x.on b l q in omega arith }))

      entries_end : eqb (kind_at s f.at) k_comma ≡ false → {x : Out} {v₃ : List ℕ} → EntriesRead (λ _. close_by s close f) s v₂ f l₂ x v₃
          → Entries s close w c k x v₃
      entries_end comma y = entries_more (record { is = λ m lo. rw comma (y.is m lo); kept = y.kept; on = y.on })

      module _ (other : eqb (kind_at s f.at) k_comma ≡ false) {n : ℕ} {x : Taken} (y : Stepped s f n 0 0 (expect s close f) x) where
        room₂ : Room s v₂ f l₂
        room₂ =
            let o = u.on i d e in
            let o₂ = t.on f l g in
            let added = entry_added l l₂ pt.is in
            omega (arith, pt.kept.long, t.kept.long)

        pub entries_close_no : {r : Out} {y : Refusal} → x ≡ Err y → r ≡ Err y → Entries s close w c k r v₂
        entries_close_no h z = entries_end other (close_no s v₂ f l₂ room₂ close n y h z)

        pub entries_close_got : {j : ℕ} {b : Cursor} → x ≡ Ok (j, b) → Entries s close w c k (Ok (b, l₂)) v₂
        entries_close_got h = entries_end other (close_got s v₂ f l₂ room₂ close n y h)

-- ── a list in its brackets
module _ (s w : List ℕ) (c : Cursor) (k : Tally) (room : Room s w c k) (opens closes n : ℕ) (wide : 1 ≤ n) {q : Taken}
    (u : Stepped s c n 0 0 (opening s opens c) q) where
  list_is : (m : ℕ) → entry_list m s opens closes c ≡ on_token (opening s opens c) (λ _ d. part (entries_or_none m s closes d) λ entries e. got entries (closed c e))
  unfolding entry_list
  list_is m = refl

  pub list_no : {r : Out} {y : Refusal} → q ≡ Err y → r ≡ Err y → EntriesRead (λ m. entry_list m s opens closes c) s w c k r w
  list_no g h = meets_no s w c k h same (λ m _. list_is m ∙ rw (took u g))

  module _ {i : ℕ} {d : Cursor} (e : q ≡ Ok (i, d)) {p : Out} {v : List ℕ} (t : EntriesRead (λ m. entries_or_none m s closes d) s w d k p v) where
    pub list_inner_no : {r : Out} {y : Refusal} → p ≡ Err y → r ≡ Err y → EntriesRead (λ m. entry_list m s opens closes c) s w c k r v
    list_inner_no g r-is =
        let o = u.on i d e in
        meets_no s w c k r-is t.kept (λ m lo. list_is m ∙ rw (took u e, stopped (entries_or_none m s closes d) (t.is m (omega arith)) g))

    pub list_got : {f : Cursor} {l : Tally} → p ≡ Ok (f, l) → EntriesRead (λ m. entry_list m s opens closes c) s w c k (Ok (closed c f, l)) v
    list_got {f} {l} g =
        let o = u.on i d e in
        let o₂ = t.on f l g in
        meets_got s w c k (omega arith) t.kept
        (λ m lo. gone_on (entries_or_none m s closes d) (t.is m (omega arith)) g λ es a al av fi.
        made_got es (list_is m ∙ rw (took u e, a)) (ap (λ x. Ok (closed c f, x)) al) av fi)
