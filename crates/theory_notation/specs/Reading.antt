-- The reader and the rules of the notation: it reads the script that they derive, and stops where and why they say.
use Prim.Native.Nat.{ℕ, zero, suc, ◌+◌, ◌-◌, ◌≤◌}
use Rattle.std.proofs.Common.{arith, sym, ◌∙◌, ap, length-drop}
use Rattle.std.specs.Prelude.{◌≡◌, ◌≢◌, Bool, length, drop}
use Rattle.std.proofs.Math.Path.{refl, subst}
use mathlib.Core.List.{List, [], ◌∷◌, ◌++◌, map, append_assoc, cons-ne-nil}
use Rattle.std.proofs.Math.Bool.{true, false, cond}
use Rattle.std.proofs.Math.Dec.{leb}
use borrow.Author.Tests.{leb-false}
use Rattle.notation.specs.Limits.{text_limit}
use Rattle.notation.specs.Token.{token_at, kind_at, k_fault}
use Rattle.notation.specs.Tree.{Declaration}
use Rattle.notation.specs.Reader.{Result, got, refused}
use Rattle.notation.specs.Scripts.{Count, start, fuel, read_script, read_text}
use Rattle.notation.specs.declared.reading.Cursor.{Cursor}
use Rattle.notation.proofs.ScriptReadings.{read_numbered}
use Rattle.grammar.specs.Terminals.{Tok, Terminal, token_of}
use Rattle.grammar.specs.Lexical.{Token, Tokens}
use Rattle.grammar.specs.Lexical as lexical
use Rattle.grammar.specs.Grammar.{IsScript}
use Rattle.grammar.specs.Counting.{Counts, nothing, Fits, Within}
use Rattle.grammar.specs.Counting as counting
use Rattle.grammar.specs.Notation.{end_at, Derives, Begins, SoFar, Refused}
use Rattle.grammar.specs.Notation as notated
use Rattle.theory_notation.specs.Standing.{token_in, Stand, spelled, Agree}
use Rattle.theory_notation.specs.Phrases.{lang, Viable, Read, Stopped, Why, no_token, no_script, over_limit, Right}
use Rattle.theory_notation.specs.Local.{tokens_append}
use Rattle.theory_notation.specs.ScriptRules.{AtEnd, Final, script_p, script_reads}
use Rattle.theory_notation.specs.Streams.{stream, stream_agrees, stand_stream, stand_within, tokens_stream, stand_tokens, end_token}
use Rattle.theory_notation.specs.Lexing.{token_stands, no_token_stands, token_only, token_end}

-- ── lists
pub spelled_map : (p : List Terminal) (ts : List Tok) → spelled p ts ≡ map token_of p ++ ts
spelled_map [] ts = refl
spelled_map (x ∷ p) ts = ap (◌∷◌ (token_of x)) (spelled_map p ts)

agree_append : (us vs : List Tok) → Agree (us ++ vs) us
agree_append [] vs = tt
agree_append (u ∷ us) vs = (refl, agree_append us vs)

-- tokens that begin as those looked at
pub agrees : (p : List Terminal) (u : Tok) (ts us : List Tok) → ts ≡ map token_of p ++ (u ∷ us) → Agree ts (spelled p (u ∷ []))
agrees p u ts us e =
    subst (λ x. Agree x (spelled p (u ∷ []))) (sym e)
    (subst (λ x. Agree (map token_of p ++ (u ∷ us)) x) (sym (spelled_map p (u ∷ [])))
    (subst (λ x. Agree x (map token_of p ++ (u ∷ []))) (append_assoc (map token_of p) (u ∷ []) us) (agree_append (map token_of p ++ (u ∷ [])) us)))

-- ── counts
pub within_unique : {k m n : Counts} {p : List Terminal} → Within k p m → Within k p n → m ≡ n
within_unique counting.none counting.none = refl
within_unique (counting.more f g) (counting.more h i) = within_unique g i

pub record Split (k : Counts) (p : List Terminal) (x : Terminal) : Type 0 where
  pub counts : Counts
  pub before : Within k p counts
  pub fits : Fits counts x

pub within_split : {k m : Counts} (p : List Terminal) (x : Terminal) (q : List Terminal) → Within k (p ++ (x ∷ q)) m → Split k p x
within_split [] x q (counting.more f g) = record { counts = _; before = counting.none; fits = f }
within_split {k = k} (y ∷ p) x q (counting.more f g) = let h = within_split {k = counting.counted k y} p x q g in record { counts = h.counts; before = counting.more f h.before; fits = h.fits }

abbrev pub tail_of : {A : Type 0} → List A → List A
tail_of [] = []
tail_of (x ∷ l) = l

abbrev pub head_or : {A : Type 0} → A → List A → A
head_or x [] = x
head_or x (y ∷ l) = y

mapped_append : (p q : List Terminal) → map token_of (p ++ q) ≡ map token_of p ++ map token_of q
mapped_append [] q = refl
mapped_append (x ∷ p) q = ap (◌∷◌ (token_of x)) (mapped_append p q)

-- terminals of the same tokens, and one more, before others: they are the same
pub first_same : (p q : List Terminal) (x y : Terminal) (r t : List Terminal) → map token_of p ≡ map token_of q → (p ++ (x ∷ [])) ++ r ≡ (q ++ (y ∷ [])) ++ t → (p ≡ q) × (x ≡ y)
first_same [] [] x y r t a e = (refl, let z = e in cc)
first_same [] (v ∷ q) x y r t a e = absurd (cons-ne-nil _ _ (sym a))
first_same (u ∷ p) [] x y r t a e = absurd (cons-ne-nil _ _ a)
first_same (u ∷ p) (v ∷ q) x y r t a e =
    let f = first_same p q x y r t (ap tail_of a) (ap tail_of e) in
    let h : u ≡ v = ap (head_or u) e in
    (λ j. h j ∷ f.0 j, f.1)

pub begun : (p : List Terminal) (y : Terminal) (r : List Terminal) (t : Tok) {us : List Tok} {u : Tok} → map token_of p ≡ us → token_of y ≡ u → spelled ((p ++ (y ∷ [])) ++ r) (t ∷ []) ≡ us ++ (u ∷ (map token_of r ++ (t ∷ [])))
begun p y r t {us} {u} a b =
    spelled_map ((p ++ (y ∷ [])) ++ r) (t ∷ []) ∙ ap (λ l. l ++ (t ∷ [])) (mapped_append (p ++ (y ∷ [])) r ∙ ap (λ l. l ++ map token_of r) (mapped_append p (y ∷ [])))
    ∙ ap (λ l. (l ++ map token_of r) ++ (t ∷ [])) (ap (λ us. us ++ (token_of y ∷ [])) a ∙ ap (λ u. us ++ (u ∷ [])) b)
    ∙ append_assoc (us ++ (u ∷ [])) (map token_of r) (t ∷ []) ∙ append_assoc us (u ∷ []) (map token_of r ++ (t ∷ []))

-- ── tokens that are no faults
abbrev Sound : List Tok → Type 0
Sound [] = Unit {0}
Sound (t ∷ ts) = (t.kind ≢ k_fault) × Sound ts

sound_append : (ts us : List Tok) → Sound ts → Sound us → Sound (ts ++ us)
sound_append [] us a b = b
sound_append (t ∷ ts) us (f, a) b = (f, sound_append ts us a b)

sound_agrees : (p : List Terminal) (ts : List Tok) (u : Tok) → Sound ts → Agree ts (spelled p (u ∷ [])) → u.kind ≢ k_fault
sound_agrees [] [] u a b = absurd b
sound_agrees [] (t ∷ ts) u (f, a) (e, b) = subst (λ (u : Tok). u.kind ≢ k_fault) e f
sound_agrees (x ∷ p) [] u a b = absurd b
sound_agrees (x ∷ p) (t ∷ ts) u (f, a) (e, b) = sound_agrees p ts u a b

module _ (s : List ℕ) where
  tokens_sound : {i j : ℕ} {l r : List ℕ} {ts : List Tok} → i ≤ length s → l ≡ drop i s → Tokens i l ts j r → Sound ts
  tokens_sound b e lexical.none = tt
  tokens_sound {i} b e (lexical.more {j = k} {r = r} {t = t} x h) =
      let y = token_only s i b (subst (λ l. Token i l t k r) e x) in
      (subst (λ (t : Tok). t.kind ≢ k_fault) (sym y.1) y.0, tokens_sound (subst (λ k. k ≤ length s) (sym y.2) (token_end s i b)) y.3 h)

  past_end : drop (length s) s ≡ []
  past_end = nil (drop (length s) s) (length-drop (length s) s)
    where
      nil : (l : List ℕ) → length l ≡ length s - length s → l ≡ []
      nil [] e = refl
      nil (x ∷ l) e = absurd (omega arith)

  -- at the end of the text stands its end, again and again
  at_end : (token_in s (length s) ≡ end_at (length s)) × ((token_at s (length s)).end ≡ length s)
  at_end =
      let y = token_only s (length s) (omega arith) (subst (λ l. Token (length s) l (end_at (length s)) (length s) []) (sym past_end) lexical.end) in
      (sym y.1, sym y.2)

  end_sound : (n : ℕ) → Sound (stream s (length s) n)
  unfolding stream
  end_sound zero = tt
  end_sound (suc n) = (subst (λ (t : Tok). t.kind ≢ k_fault) (sym at_end.0) (λ e. absurd (omega arith)), subst (λ i. Sound (stream s i n)) (sym at_end.1) (end_sound n))

  -- ── what is read is derived
  module _ (short : length s ≤ text_limit) where
    abbrev pub none_yet : Count
    none_yet = record { types = 0; processes = 0; execs = 0 }

    abbrev pub script_of : Result (List Declaration)
    script_of = read_script (fuel s) s none_yet start

    pub right : Right s AtEnd (Final s) script_p nothing start script_of
    right = script_reads s (fuel s) none_yet start nothing (record { is = refl; depth = refl })

    pub read_derives : (ds : List Declaration) (d : Cursor) → Read s AtEnd (Final s) (lang {s = s} script_p) nothing start ds d → Derives s ds
    read_derives ds d h = record {
      short = short;
      terminals = h.terminals;
      tokens = tokens_append (stand_tokens s (omega arith) h.stands) (lexical.more ending lexical.none);
      script = subst (λ n. IsScript n h.terminals ds) (ap (λ (t : Tok). t.at) is_end_lem) h.member;
      counts = h.counts;
      within = h.within;
    }
      where
        inside : d.at ≤ length s
        inside = stand_within s (omega arith) h.stands

        stands : Token d.at (drop d.at s) (token_in s d.at) (token_at s d.at).end (drop (token_at s d.at).end s)
        stands = token_stands s d.at inside (λ z. let e = h.ends in absurd (omega arith))

        whole : d.at + length (drop d.at s) ≡ length s
        whole = let e = length-drop d.at s in omega (arith, inside)

        is_end_lem : token_in s d.at ≡ end_at (length s)
        is_end_lem = (end_token stands h.ends).0 ∙ ap end_at whole

        ending : Token d.at (drop d.at s) (end_at (length s)) (length s) []
        ending =
            let y = end_token stands h.ends in
            subst (λ t. Token d.at (drop d.at s) t (length s) []) is_end_lem
            (subst (λ j. Token d.at (drop d.at s) (token_in s d.at) j []) (y.1 ∙ whole)
            (subst (λ r. Token d.at (drop d.at s) (token_in s d.at) (token_at s d.at).end r) y.2 stands))

    -- ── tokens of the text, however they were found, agree
    looked : (p : List Terminal) (j : ℕ) → Stand s 0 p j → (ts : List Tok) (i : ℕ) (r : List ℕ) → Tokens 0 s ts i r → (n : ℕ) → length p + 1 ≤ length ts + n → Agree (ts ++ stream s i n) (spelled p (token_in s j ∷ []))
    unfolding stream
    looked p j st ts i r tk n l =
        subst (λ x. Agree x (spelled p (token_in s j ∷ []))) (sym ((tokens_stream s (omega arith) refl tk).is n (length ts + n) refl))
        (subst (Agree (stream s 0 (length ts + n))) (sym (stand_stream s 1 (length p + 1) refl st)) (stream_agrees s (length p + 1) (length ts + n) 0 l))

    -- a derivation of the whole text agrees with what the reader looked at
    module _ {ds : List Declaration} (D : Derives s ds) (p : List Terminal) (j : ℕ) (st : Stand s 0 p j) where
      abbrev tokens : List Tok
      tokens = map token_of D.terminals ++ (end_at (length s) ∷ [])

      abbrev more_ends : List Tok
      more_ends = stream s (length s) (suc (length p))

      whole_looked : Agree (spelled D.terminals (end_at (length s) ∷ more_ends)) (spelled p (token_in s j ∷ []))
      whole_looked =
          subst (λ x. Agree x (spelled p (token_in s j ∷ []))) (append_assoc (map token_of D.terminals) (end_at (length s) ∷ []) more_ends ∙ sym (spelled_map D.terminals (end_at (length s) ∷ more_ends)))
          (looked p j st tokens (length s) [] D.tokens (suc (length p)) (omega arith))

      whole_sound : kind_at s j ≢ k_fault
      whole_sound =
          sound_agrees p (tokens ++ more_ends) (token_in s j) (sound_append tokens more_ends (tokens_sound (omega arith) refl D.tokens) (end_sound (suc (length p))))
          (looked p j st tokens (length s) [] D.tokens (suc (length p)) (omega arith))

      -- so it is not where the reader stops
      stops_nowhere : {k : Counts} {n : ℕ} → Within nothing p k → Why s AtEnd (Final s) (lang {s = s} script_p) nothing start p k j n → ⊥
      stops_nowhere w (no_token e) = whole_sound e
      stops_nowhere w (no_script e h) = h ds D.terminals (end_at (length s)) more_ends D.script refl whole_looked
      stops_nowhere w (over_limit x o e z f v u) =
          let y = u ds D.terminals (end_at (length s)) more_ends D.script refl whole_looked in
          let g = within_split p x y.rest (subst (λ l. Within nothing l D.counts) (y.is ∙ append_assoc p (x ∷ []) y.rest) D.within) in
          f (subst (λ k. Fits k x) (within_unique g.before w) g.fits)

    -- ── the script that the rules derive is read, and no other
    pub derived_read : {ds : List Declaration} → Derives s ds → (r : Result (List Declaration)) → script_of ≡ r → read_text s ≡ r → Right s AtEnd (Final s) script_p nothing start r → (d : Cursor) × (r ≡ got ds d)
    derived_read D (got ds d) e f h =
        let k = h.holds in
        (d, ap (λ ds. got ds d) (sym (k.only _ D.terminals (end_at (length s)) (more_ends D k.terminals d.at k.stands) D.script refl (whole_looked D k.terminals d.at k.stands)).1))
    derived_read D (refused zero i) e f h = let b = read_numbered s zero i f in absurd (omega arith)
    derived_read D (refused (suc n) i) e f h = let k = h.holds in absurd (stops_nowhere D k.terminals k.upto k.stands k.within k.why)

    pub short_reads : read_text s ≡ script_of
    unfolding read_text
    short_reads = go (leb (length s) text_limit) refl
      where
        go : (b : Bool) → leb (length s) text_limit ≡ b → cond b script_of (refused 2 text_limit) ≡ script_of
        go true e = refl
        go false e = let h = leb-false (length s) text_limit e in absurd (omega (arith, short))

    -- ── a reading that stops is refused by the rules
    begins_of : {p : List Terminal} {o : ℕ} → Viable (lang {s = s} script_p) p o → Begins p
    begins_of v = record { after = v.rest; next = v.next; script = v.value; derives = v.member }

    pub stopped_refused : (n i : ℕ) → Stopped s AtEnd (Final s) (lang {s = s} script_p) nothing start n i → Refused s n i
    stopped_refused n i h = by h.why
      where
        inside : h.upto ≤ length s
        inside = stand_within s (omega arith) h.stands

        far : SoFar s (map token_of h.terminals) h.upto (drop h.upto s)
        far = record { short = short; tokens = stand_tokens s (omega arith) h.stands; terminals = h.terminals; are = refl; begins = begins_of h.viable; counts = h.counts; within = h.within }

        by : {n : ℕ} → Why s AtEnd (Final s) (lang {s = s} script_p) nothing start h.terminals h.counts h.upto n → Refused s n i
        by (no_token e) = subst (Refused s 3) h.at (notated.no_token far (no_token_stands s h.upto inside e))
        by (no_script e w) =
            subst (Refused s 4) h.at
            (notated.no_script far (token_stands s h.upto inside e) λ c.
            let k = c.whole in
            w k.script k.terminals (end_at k.next) [] k.derives refl
            (agrees h.terminals (token_in s h.upto) (spelled k.terminals (end_at k.next ∷ [])) c.after (spelled_map k.terminals (end_at k.next ∷ []) ∙ sym k.are ∙ append_assoc (map token_of h.terminals) (token_in s h.upto ∷ []) c.after)))
        by (over_limit x o e z f v u) =
            subst (Refused s 5) (ap (λ (t : Tok). t.at) z ∙ h.at)
            (notated.over_limit x far (subst (λ t. Token h.upto (drop h.upto s) t (token_at s h.upto).end (drop (token_at s h.upto).end s)) (sym z) (token_stands s h.upto inside e)) (begins_of v)
            (λ p y k a b g w. passes p y k a (b ∙ z) g w))
          where
            passes : (p : List Terminal) (y : Terminal) (k : Counts) → map token_of p ≡ map token_of h.terminals → token_of y ≡ token_in s h.upto → Begins (p ++ (y ∷ [])) → Within nothing p k → ¬ Fits k y
            passes p y k a b g w fits =
                let q = u g.script ((p ++ (y ∷ [])) ++ g.after) (end_at g.next) [] g.derives refl
                (agrees h.terminals (token_in s h.upto) _ (map token_of g.after ++ (end_at g.next ∷ [])) (begun p y g.after (end_at g.next) a b)) in
                let same = first_same p h.terminals y x g.after q.rest a q.is in
                f (subst (λ y. Fits h.counts y) same.1 (subst (λ k. Fits k y) (within_unique (subst (λ p. Within nothing p k) same.0 w) h.within) fits))
