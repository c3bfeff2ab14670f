-- The names of a call's two lists, one after the other, as the code walks over them in the text.
use Prim.Native.Nat.{ℕ, zero, suc, ◌<◌, ◌≤◌}
use Rattle.std.specs.Prelude.{◌≡◌, Bool, true, false, length, Ok, Err}
use Rattle.std.proofs.Math.Path.{refl, sym, ap}
use Rattle.std.proofs.Common.{◌∙◌, subst, arith, eqb-true, eq-eqb, ne_eqb}
use mathlib.Core.List.{List, [], ◌∷◌}
use Rattle.std.proofs.Math.Bool.{cond}
use Rattle.std.proofs.Math.Dec.{eqb}
use Rattle.notation.specs.Token.{token_at, kind_at, k_name, k_comma}
use Rattle.notation.specs.Onward.{width, Onward}
use Rattle.notation.specs.Tree.{Located}
use Rattle.notation.specs.Reader.{Result, Taken, got, refused, on_token, part, lastly, choose, past, fault, expect, limited, may_open, deeper, opening, name_in}
use Rattle.notation.specs.Processes.{read_names, name_list}
use Rattle.notation.specs.Refusals.{refuses}
use Rattle.notation.specs.declared.token.Token.{Token}
use Rattle.notation.specs.declared.reading.Cursor.{Cursor}
use Rattle.read_tables.specs.declared.arguments.Argument.{Argument}
use Rattle.read_tables.specs.declared.arguments.Argument.TheVariants.{Name, End}

unfoldable pub as_argument : Token → Argument
as_argument t = cond (eqb t.kind k_name) (Name t.start t.end) (End t.end)

-- what a list goes on with, past a comma if there is one
unfoldable pub argument_from : List ℕ → ℕ → Argument
argument_from s at = as_argument (cond (eqb (kind_at s at) k_comma) (token_at s (token_at s at).end) (token_at s at))

-- a name lies past its offset, within the text: by this a walk ends
abbrev pub Forward : List ℕ → ℕ → Argument → Type 0
Forward s at (Name i p) = (at < p) × (p ≤ length s)
Forward s at (End p) = 0 ≤ 0

-- from an offset on the names of a list come, and the bracket that closes it ends before `rest`
unfoldable pub NamesFrom : List ℕ → ℕ → List Located → ℕ → Type 0
NamesFrom s at [] rest = argument_from s at ≡ End rest
NamesFrom s at (x ∷ xs) rest = (p : ℕ) × (argument_from s at ≡ Name x.at p) × (name_in s x.at ≡ x) × NamesFrom s p xs rest

-- the two lists of a call whose round bracket stands at an offset
pub record CallAt (s : List ℕ) (bracket : ℕ) (xs ys : List Located) : Type 0 where
  pub middle : ℕ
  pub end : ℕ
  pub provided : NamesFrom s (token_at s bracket).end xs middle
  pub used : NamesFrom s (token_at s middle).end ys end

-- ── what is read, with the cursor past it
abbrev GoesOf : {A : Type 0} → (A → Cursor → Type 0) → Result A → Type 0
GoesOf P (got a d) = P a d
GoesOf P (refused n i) = 0 ≤ 0

pub record Goes {A : Type 0} (P : A → Cursor → Type 0) (r : Result A) : Type 0 where
  pub holds : GoesOf P r

goes_got : {A : Type 0} {P : A → Cursor → Type 0} (a : A) (d : Cursor) → P a d → Goes P (got a d)
goes_got a d h = record { holds = h }

-- of what is known to be read
pub goes_is : {A : Type 0} {P : A → Cursor → Type 0} {r : Result A} {a : A} {d : Cursor} → r ≡ got a d → Goes P r → P a d
goes_is {P = P} e h = (subst (Goes P) e h).holds

goes_refused : {A : Type 0} {P : A → Cursor → Type 0} (n i : ℕ) → Goes P (refused n i)
goes_refused n i = record { holds = omega arith }

goes_take : {A : Type 0} {P : A → Cursor → Type 0} (t : Taken) (f : ℕ → Cursor → Result A) → ((i : ℕ) (d : Cursor) → t ≡ Ok (i, d) → Goes P (f i d)) → Goes P (on_token t f)
goes_take (Ok (i, d)) f h = h i d refl
goes_take (Err e) f h = goes_refused e.number e.at

goes_part : {A B : Type 0} {Q : B → Cursor → Type 0} {P : A → Cursor → Type 0} {r : Result B} (f : B → Cursor → Result A) → Goes Q r → ((b : B) (d : Cursor) → Q b d → Goes P (f b d)) → Goes P (part r f)
goes_part {r = got b d} f h g = g b d h.holds
goes_part {r = refused n i} f h g = goes_refused n i

goes_lastly : {A B : Type 0} {Q : B → Cursor → Type 0} {P : A → Cursor → Type 0} {r : Result B} (f : B → A) → Goes Q r → ((b : B) (d : Cursor) → Q b d → P (f b) d) → Goes P (lastly f r)
goes_lastly {r = got b d} f h g = record { holds = g b d h.holds }
goes_lastly {r = refused n i} f h g = goes_refused n i

goes_choose : {A : Type 0} {P : A → Cursor → Type 0} (b : Bool) (f g : Cursor → Result A) (c : Cursor) → (b ≡ true → Goes P (f c)) → (b ≡ false → Goes P (g c)) → Goes P (choose b f g c)
goes_choose true f g c x y = x refl
goes_choose false f g c x y = y refl

goes_weak : {A : Type 0} {Q P : A → Cursor → Type 0} {r : Result A} → Goes Q r → ((a : A) (d : Cursor) → Q a d → P a d) → Goes P r
goes_weak {r = got a d} h g = record { holds = g a d h.holds }
goes_weak {r = refused n i} h g = goes_refused n i

-- ── a token that was taken
record Token-of (s : List ℕ) (k : ℕ) (c : Cursor) (i : ℕ) (d : Cursor) : Type 0 where
  kind : kind_at s c.at ≡ k
  start : (token_at s c.at).start ≡ i
  end : (token_at s c.at).end ≡ d.at

abbrev offset_of : Taken → ℕ
offset_of (Ok (i, d)) = i
offset_of (Err e) = e.at

abbrev past_of : Taken → ℕ
past_of (Ok (i, d)) = d.at
past_of (Err e) = 0

abbrev is_at : Taken → Type 0
is_at (Ok p) = 0 ≤ 0
is_at (Err e) = ⊥

at_is : {t : Taken} {i : ℕ} {d : Cursor} → t ≡ Ok (i, d) → is_at t
at_is e = subst is_at (sym e) (omega arith)

expect_at : (s : List ℕ) (k : ℕ) (c : Cursor) (i : ℕ) (d : Cursor) → expect s k c ≡ Ok (i, d) → Token-of s k c i d
unfolding expect
expect_at s k c i d = go (eqb (kind_at s c.at) k) refl
  where
    t : Token
    t = token_at s c.at

    go : (b : Bool) → eqb (kind_at s c.at) k ≡ b → cond {A = Taken} b (Ok (t.start, past c t)) (refuses (fault t) t.start) ≡ Ok (i, d) → Token-of s k c i d
    go true q e = record { kind = eqb-true _ _ q; start = ap offset_of e; end = ap past_of e }
    go false q e = absurd (at_is e)

opening_at : (s : List ℕ) (k : ℕ) (c : Cursor) (i : ℕ) (d : Cursor) → opening s k c ≡ Ok (i, d) → Token-of s k c i d
unfolding opening
opening_at s k c i d = go (expect s k c) refl
  where
    go : (t : Taken) → expect s k c ≡ t → limited t may_open deeper ≡ Ok (i, d) → Token-of s k c i d
    go (Ok (j, e)) q = within (may_open e)
      where
        within : (b : Bool) → cond {A = Taken} b (Ok (j, deeper e)) (refuses 5 j) ≡ Ok (i, d) → Token-of s k c i d
        within true p = let r = expect_at s k c j e q in record { kind = r.kind; start = r.start ∙ ap offset_of p; end = r.end ∙ ap past_of p }
        within false p = absurd (at_is p)
    go (Err e) q = λ p. absurd (at_is p)

-- ── what a token is to a list
module _ (s : List ℕ) (at : ℕ) where
  first_is : (k : ℕ) → kind_at s at ≡ k → eqb k k_comma ≡ false → argument_from s at ≡ as_argument (token_at s at)
  unfolding argument_from
  first_is k e f = ap (λ b. as_argument (cond b (token_at s (token_at s at).end) (token_at s at))) (ap (λ j. eqb j k_comma) e ∙ f)

  name_next : kind_at s at ≡ k_name → argument_from s at ≡ Name (token_at s at).start (token_at s at).end
  unfolding as_argument
  name_next e = first_is k_name e refl ∙ ap (λ b. cond b (Name (token_at s at).start (token_at s at).end) (End (token_at s at).end)) (eq-eqb _ _ e)

  end_next : (k : ℕ) → kind_at s at ≡ k → eqb k k_comma ≡ false → eqb k k_name ≡ false → argument_from s at ≡ End (token_at s at).end
  unfolding as_argument
  end_next k e f g = first_is k e f ∙ ap (λ b. cond b (Name (token_at s at).start (token_at s at).end) (End (token_at s at).end)) (ap (λ j. eqb j k_name) e ∙ g)

  comma_next : (b : ℕ) → kind_at s at ≡ k_comma → (token_at s at).end ≡ b → kind_at s b ≡ k_name → argument_from s at ≡ argument_from s b
  unfolding argument_from
  comma_next b e p q =
      ap (λ c. as_argument (cond c (token_at s (token_at s at).end) (token_at s at))) (eq-eqb _ _ e)
      ∙ ap (λ i. as_argument (token_at s i)) p
      ∙ sym (ap (λ c. as_argument (cond c (token_at s (token_at s b).end) (token_at s b))) (ap (λ j. eqb j k_comma) q))

names_like : (s : List ℕ) (xs : List Located) (a b rest : ℕ) → argument_from s a ≡ argument_from s b → NamesFrom s b xs rest → NamesFrom s a xs rest
unfolding NamesFrom
names_like s [] a b rest e h = e ∙ h
names_like s (x ∷ xs) a b rest e (p, f, g, h) = (p, e ∙ f, g, h)

-- ── the lists that are read are those that the walk meets
abbrev Begins : List ℕ → ℕ → List Located → ℕ → Type 0
Begins s at xs rest = (kind_at s at ≡ k_name) × NamesFrom s at xs rest

module _ (s : List ℕ) (close : ℕ) (no_comma : eqb close k_comma ≡ false) (no_name : eqb close k_name ≡ false) where
  closes : (c : Cursor) {i : ℕ} {d : Cursor} → Token-of s close c i d → NamesFrom s c.at [] d.at
  unfolding NamesFrom
  closes c t = end_next s c.at close t.kind no_comma no_name ∙ ap End t.end

  -- a name, after which the list goes on
  one_more : (c d : Cursor) (i : ℕ) (xs : List Located) (rest : ℕ) → Token-of s k_name c i d → NamesFrom s d.at xs rest → Begins s c.at (name_in s i ∷ xs) rest
  unfolding NamesFrom
  one_more c d i xs rest t h = (t.kind, (d.at, name_next s c.at t.kind ∙ (λ j. Name (t.start j) (t.end j)), refl, h))

  names_goes : (n : ℕ) (c : Cursor) → Goes (λ xs d. Begins s c.at xs d.at) (read_names n s close c)
  unfolding read_names
  names_goes zero c = goes_refused 0 0
  names_goes (suc n) c =
      goes_take (expect s k_name c) _ λ i d p.
      let t = expect_at s k_name c i d p in
      goes_choose (eqb (kind_at s d.at) k_comma) _ _ d
      (λ _.
      goes_take (expect s k_comma d) _ λ j e q.
      let u = expect_at s k_comma d j e q in
      goes_lastly _ (names_goes n e) λ xs f (k, h). one_more c d i xs f.at t (names_like s xs d.at e.at f.at (comma_next s d.at e.at u.kind u.end k) h))
      (λ _.
      goes_take (expect s close d) _ λ j e q. goes_got _ e (one_more c d i [] e.at t (closes d (expect_at s close d j e q))))

  pub list_goes : (n open' : ℕ) (c : Cursor) → Goes (λ xs d. NamesFrom s (token_at s c.at).end xs d.at) (name_list n s open' close c)
  unfolding name_list
  list_goes n open' c =
      goes_take (opening s open' c) _ λ i d p.
      let t = opening_at s open' c i d p in
      goes_part {Q = λ xs e. NamesFrom s d.at xs e.at} _
      (goes_choose (eqb (kind_at s d.at) k_name) _ _ d (λ _. goes_weak (names_goes n d) λ xs e h. h.1) (λ _. goes_take (expect s close d) _ λ j e q. goes_got [] e (closes d (expect_at s close d j e q))))
      λ xs e h. goes_got xs _ (subst (λ a. NamesFrom s a xs e.at) (sym t.end) h)

-- ── a walk goes forward
forward_if : (s : List ℕ) (at : ℕ) (t : Token) (b : Bool) → (b ≡ true → (at < t.end) × (t.end ≤ length s)) → Forward s at (cond b (Name t.start t.end) (End t.end))
forward_if s at t true h = h refl
forward_if s at t false h = omega arith

pub forward_at : (s : List ℕ) (at : ℕ) (t : Token) → Onward s at t → Forward s at (as_argument t)
unfolding as_argument
forward_at s at t h =
    forward_if s at t (eqb t.kind k_name) λ e.
    let k = eqb-true t.kind k_name e in
    let g = h.goes (omega arith) in
    let z : width t.kind ≡ 1 = ap width k in
    (omega arith, omega arith)

pub forward_past : (s : List ℕ) (at b : ℕ) (a : Argument) → at ≤ b → Forward s b a → Forward s at a
forward_past s at b (Name i p) l (x, y) = (omega arith, y)
forward_past s at b (End p) l x = x

-- ── what the code answers for one token, or for two
module _ (s : List ℕ) (at : ℕ) (t : Token) (is : t ≡ token_at s at) (on : Onward s at t) where
  abbrev Answered : Argument → Type 0
  Answered r = (r ≡ argument_from s at) × Forward s at r

  chosen : {u : Token} (b : Bool) → eqb t.kind k_comma ≡ b → cond b (token_at s t.end) t ≡ u → argument_from s at ≡ as_argument u
  unfolding argument_from
  chosen b e p =
      ap (λ (v : Token). as_argument (cond (eqb v.kind k_comma) (token_at s v.end) v)) (sym is)
      ∙ ap (λ c. as_argument (cond c (token_at s t.end) t)) e
      ∙ ap as_argument p

  pub past_comma : (u : Token) (r : Argument) → t.kind ≡ k_comma → u ≡ token_at s t.end → Onward s t.end u → r ≡ as_argument u → Answered r
  past_comma u r k p o q =
      let g = on.goes (omega arith) in
      let f = forward_past s at t.end (as_argument u) (omega arith) (forward_at s t.end u o) in
      (q ∙ sym (chosen true (eq-eqb _ _ k) (sym p)), subst (Forward s at) (sym q) f)

  pub no_comma_lem : (r : Argument) → (t.kind ≡ k_comma → ⊥) → r ≡ as_argument t → Answered r
  no_comma_lem r k q = (q ∙ sym (chosen false (ne_eqb _ _ k) refl), subst (Forward s at) (sym q) (forward_at s at t on))
