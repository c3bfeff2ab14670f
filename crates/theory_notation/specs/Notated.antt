-- The reader reads exactly the scripts that the rules of the notation derive, and refuses exactly where they do.
use Rattle.std.specs.Prelude.{ℕ, zero, suc, ◌≤◌, ◌<◌, ◌≡◌, ◌≢◌, ◌↔◌, Bool, length, drop}
use Rattle.std.proofs.Common.{arith, sym, ◌∙◌, ap, subst, true≢false, length-append}
use Rattle.std.proofs.Math.Decide.{dec_lt}
use Rattle.std.proofs.Math.Path.{refl}
use mathlib.Core.List.{List, [], ◌∷◌, ◌++◌, map, append_assoc, append-nil, cons-ne-nil}
use Rattle.std.proofs.Math.Bool.{true, false, cond}
use Rattle.std.proofs.Math.Dec.{leb}
use borrow.Author.Tests.{leb-true}
use Rattle.notation.specs.Limits.{text_limit}
use Rattle.notation.specs.Token.{token_at, kind_at, k_fault}
use Rattle.notation.specs.Tree.{Declaration}
use Rattle.notation.specs.Reader.{Result, got, refused}
use Rattle.notation.specs.Scripts.{start, read_text}
use Rattle.notation.specs.declared.reading.Cursor.{Cursor}
use Rattle.notation.proofs.ScriptReadings.{read_numbered}
use Rattle.grammar.specs.Terminals.{Tok, tok, Terminal, token_of}
use Rattle.grammar.specs.Lexical.{Token, NoToken, Tokens}
use Rattle.grammar.specs.Lexical as lexical
use Rattle.grammar.specs.Grammar.{IsScript}
use Rattle.grammar.specs.Counting.{Counts, nothing, Fits, Within}
use Rattle.grammar.specs.Notation.{end_at, Derives, Continues, Begins, SoFar, PassesLimit, Refused}
use Rattle.grammar.specs.Notation as notated
use Rattle.theory_notation.specs.Standing.{token_in, name_of, Stand, spelled, Agree}
use Rattle.theory_notation.specs.Standing as standing
use Rattle.theory_notation.specs.Phrases.{lang, Read, Stopped, Why, no_token, no_script, over_limit, Right}
use Rattle.theory_notation.specs.ScriptRules.{AtEnd, Final, script_p}
use Rattle.theory_notation.specs.Streams.{tokens_stream}
use Rattle.theory_notation.specs.Lexing.{token_only, no_token_only, token_end}
use Rattle.theory_notation.specs.Reading.{spelled_map, tail_of, head_or, agrees, begun, first_same, within_unique, within_split, script_of, right, read_derives, derived_read, short_reads, stopped_refused}

-- ── what stands in a text, in two parts
module _ (s : List ℕ) where
  -- the tokens so far stand there
  tokens_stand : {i : ℕ} (j : ℕ) {l r : List ℕ} {ts : List Tok} (p : List Terminal) → i ≤ length s → l ≡ drop i s → map token_of p ≡ ts → Tokens i l ts j r → Stand s i p j
  tokens_stand j [] b e a lexical.none = standing.none
  tokens_stand j (x ∷ p) b e a lexical.none = absurd (cons-ne-nil _ _ a)
  tokens_stand j [] b e a (lexical.more y h) = absurd (cons-ne-nil _ _ (sym a))
  tokens_stand {i} n (x ∷ p) b e a (lexical.more {j = k} {r = r} {t = t} {ts = ts} y h) =
      let z = token_only s i b (subst (λ l. Token i l t k r) e y) in
      let g = tokens_stand n p (subst (λ k. k ≤ length s) (sym z.2) (token_end s i b)) z.3 (ap tail_of a) h in
      standing.more z.0 (ap (head_or t) a ∙ z.1) (subst (λ k. Stand s k p n) z.2 g)

  -- one that stands past others
  record Beyond (q : List Terminal) (k : ℕ) (p : List Terminal) : Type 0 where
    front : List Terminal
    next : Terminal
    back : List Terminal
    is : p ≡ front ++ (next ∷ back)
    same : map token_of front ≡ map token_of q
    sound : kind_at s k ≢ k_fault
    token : token_of next ≡ token_in s k

  beyond : {i j k : ℕ} {p q : List Terminal} → Stand s i q k → Stand s i p j → length q < length p → Beyond q k p
  beyond standing.none standing.none l = absurd (omega arith)
  beyond standing.none (standing.more {x = x} {p = p} f e h) l = record { front = []; next = x; back = p; is = refl; same = refl; sound = f; token = e }
  beyond (standing.more f e g) standing.none l = absurd (omega arith)
  beyond (standing.more f e g) (standing.more {x = x} f' e' h) l =
      let y = beyond g h (omega arith) in
      record { front = x ∷ y.front; next = y.next; back = y.back; is = ap (◌∷◌ x) y.is; same = let z = e' ∙ sym e in let w = y.same in (λ j. z j ∷ w j); sound = y.sound; token = y.token }

  -- as many stand to the same offset, and are the same tokens
  level : {i j k : ℕ} {p q : List Terminal} → Stand s i q k → Stand s i p j → length q ≡ length p → (k ≡ j) × (map token_of q ≡ map token_of p)
  level standing.none standing.none l = (refl, refl)
  level standing.none (standing.more f e h) l = absurd (omega arith)
  level (standing.more f e g) standing.none l = absurd (omega arith)
  level (standing.more f e g) (standing.more f' e' h) l = let y = level g h (omega arith) in (y.0, let z = e ∙ sym e' in let w = y.1 in (λ j. z j ∷ w j))

regroup : (p : List Terminal) (x : Terminal) (q r : List Terminal) → (p ++ (x ∷ q)) ++ r ≡ (p ++ (x ∷ [])) ++ (q ++ r)
regroup p x q r = append_assoc p (x ∷ q) r ∙ sym (append_assoc p (x ∷ []) (q ++ r))

-- terminals that begin a script begin it with fewer
shorter : {p : List Terminal} (front : List Terminal) (x : Terminal) (back : List Terminal) → Begins p → p ≡ front ++ (x ∷ back) → Begins (front ++ (x ∷ []))
shorter front x back b e = record {
  after = back ++ b.after;
  next = b.next;
  script = b.script;
  derives = subst (λ l. IsScript b.next l b.script) (ap (λ l. l ++ b.after) e ∙ regroup front x back b.after) b.derives;
}

length_mapped : (p q : List Terminal) → map token_of p ≡ map token_of q → length p ≡ length q
length_mapped [] [] e = refl
length_mapped [] (y ∷ q) e = absurd (cons-ne-nil _ _ (sym e))
length_mapped (x ∷ p) [] e = absurd (cons-ne-nil _ _ e)
length_mapped (x ∷ p) (y ∷ q) e = ap suc (length_mapped p q (ap tail_of e))

-- a script continues what it begins with
continues : (p : List Terminal) (x : Terminal) {ts : List Tok} {t : Tok} → Begins (p ++ (x ∷ [])) → map token_of p ≡ ts → token_of x ≡ t → Continues (ts ++ (t ∷ []))
continues p x {ts} {t} b e f = record {
  after = map token_of b.after ++ (end_at b.next ∷ []);
  whole = record {
    terminals = (p ++ (x ∷ [])) ++ b.after;
    next = b.next;
    script = b.script;
    derives = b.derives;
    are =
        append_assoc ts (t ∷ []) (map token_of b.after ++ (end_at b.next ∷ []))
        ∙ sym (begun p x b.after (end_at b.next) e f) ∙ spelled_map ((p ++ (x ∷ [])) ++ b.after) (end_at b.next ∷ []);
  };
}

-- ── a refusal by the rules, and what the reader comes to
module _ (s : List ℕ) {ts : List Tok} {i : ℕ} {r : List ℕ} (far : SoFar s ts i r) where
  abbrev L : ℕ → List Declaration → List Terminal → Type 0
  L = lang {s = s} script_p

  inside : i ≤ length s
  inside = (tokens_stream s (omega arith) refl far.tokens).within

  left : r ≡ drop i s
  left = (tokens_stream s (omega arith) refl far.tokens).left

  stand : Stand s 0 far.terminals i
  stand = tokens_stand s i far.terminals (omega arith) refl far.are far.tokens

  fault_there : {a : ℕ} → NoToken i r a → (kind_at s i ≡ k_fault) × (a ≡ (token_at s i).start)
  fault_there {a} n = no_token_only s i a inside (subst (λ l. NoToken i l a) left n)

  token_there : {t : Tok} {j : ℕ} {q : List ℕ} → Token i r t j q → (kind_at s i ≢ k_fault) × (t ≡ token_in s i)
  token_there {t} {j} {q} y = let z = token_only s i inside (subst (λ l. Token i l t j q) left y) in (z.0, z.1)

  -- ── why the rules refuse, at the token there
  data Because : ℕ → Type 0 where
    fault : kind_at s i ≡ k_fault → Because 3
    script : kind_at s i ≢ k_fault → ¬ Continues (ts ++ (token_in s i ∷ [])) → Because 4
    limit : (x : Terminal) → kind_at s i ≢ k_fault → token_of x ≡ token_in s i → Begins (far.terminals ++ (x ∷ [])) → PassesLimit ts (token_in s i) → Because 5

  -- more than the tokens so far stand in the text, and begin a script within the limits: the rules do not refuse here
  goes_past : {n j : ℕ} {p : List Terminal} {k : Counts} → Stand s 0 p j → Begins p → Within nothing p k → length far.terminals < length p → ¬ Because n
  goes_past {p = p} {k} st b w l z = by (beyond s stand st l) z
    where
      by : {n : ℕ} → Beyond s far.terminals i p → Because n → ⊥
      by y (fault z) = y.sound z
      by y (script _ c) = c (continues y.front y.next (shorter y.front y.next y.back b y.is) (y.same ∙ far.are) y.token)
      by y (limit _ _ _ _ c) =
          let v = within_split y.front y.next y.back (subst (λ l. Within nothing l k) y.is w) in
          c y.front y.next v.counts (y.same ∙ far.are) y.token (shorter y.front y.next y.back b y.is) v.before v.fits

  -- what begins with the tokens that the reader looked at agrees with them
  begun_agrees : (p : List Terminal) (j : ℕ) (front : List Terminal) (x : Terminal) (after : List Terminal) (next : ℕ) → map token_of front ≡ map token_of p → token_of x ≡ token_in s j → Agree (spelled ((front ++ (x ∷ [])) ++ after) (end_at next ∷ [])) (spelled p (token_in s j ∷ []))
  begun_agrees p j front x after next a b = agrees p (token_in s j) _ _ (begun front x after (end_at next) a b)

  -- the tokens so far go past what the reader read, after which none goes on
  far_past : {p : List Terminal} {j : ℕ} → Stand s 0 p j → length p < length far.terminals → Beyond s p j far.terminals
  far_past st l = beyond s st stand l

  abbrev far_whole : {p : List Terminal} {j : ℕ} → Beyond s p j far.terminals → List Terminal
  far_whole y = (y.front ++ (y.next ∷ [])) ++ (y.back ++ far.begins.after)

  far_derives : {p : List Terminal} {j : ℕ} (y : Beyond s p j far.terminals) → L far.begins.next far.begins.script (far_whole y)
  far_derives y = subst (λ l. IsScript far.begins.next l far.begins.script) (ap (λ l. l ++ far.begins.after) y.is ∙ regroup y.front y.next y.back far.begins.after) far.begins.derives

  -- ── against a reading that stops
  stops_before : {p : List Terminal} {j m : ℕ} {k : Counts} → Stand s 0 p j → Within nothing p k → length p < length far.terminals → Why s AtEnd (Final s) L nothing start p k j m → ⊥
  stops_before {p} {j} {k = k} st w l z = by (far_past st l) z
    where
      by : {m : ℕ} → Beyond s p j far.terminals → Why s AtEnd (Final s) L nothing start p k j m → ⊥
      by y (no_token e) = y.sound e
      by y (no_script e f) = f far.begins.script (far_whole y) (end_at far.begins.next) [] (far_derives y) refl (begun_agrees p j y.front y.next _ _ y.same y.token)
      by y (over_limit x o e z f v u) =
          let a = u far.begins.script (far_whole y) (end_at far.begins.next) [] (far_derives y) refl (begun_agrees p j y.front y.next _ _ y.same y.token) in
          let b = first_same y.front p y.next x (y.back ++ far.begins.after) a.rest y.same a.is in
          let v = within_split y.front y.next y.back (subst (λ l. Within nothing l far.counts) y.is far.within) in
          f (subst (λ x. Fits k x) b.1 (subst (λ k. Fits k y.next) (within_unique (subst (λ l. Within nothing l v.counts) b.0 v.before) w) v.fits))

  -- at the same token the numbers are the same
  same_number : {p : List Terminal} {k : Counts} {n m : ℕ} → map token_of far.terminals ≡ map token_of p → Because n → Why s AtEnd (Final s) L nothing start p k i m → n ≡ m
  same_number a (fault e) (no_token f) = refl
  same_number a (fault e) (no_script f w) = absurd (f e)
  same_number a (fault e) (over_limit x o f z w v u) = absurd (f e)
  same_number a (script e c) (no_token f) = absurd (e f)
  same_number a (script e c) (no_script f w) = refl
  same_number {p} a (script e c) (over_limit x o f z w v u) = absurd (c (continues p x (record { after = v.rest; next = v.next; script = v.value; derives = v.member }) (sym a ∙ far.are) z))
  same_number a (limit x e z b c) (no_token f) = absurd (e f)
  same_number {p} a (limit x e z b c) (no_script f w) = absurd (w b.script ((far.terminals ++ (x ∷ [])) ++ b.after) (end_at b.next) [] b.derives refl (begun_agrees p i far.terminals x b.after b.next a z))
  same_number a (limit x e z b c) (over_limit y o f g w v u) = refl

-- ── the rules and the reader refuse alike
record Refusal (s : List ℕ) (n a : ℕ) : Type 0 where
  tokens : List Tok
  upto : ℕ
  left : List ℕ
  far : SoFar s tokens upto left
  because : Because s far n
  at : a ≡ (token_at s upto).start

module _ (s : List ℕ) (short : length s ≤ text_limit) where
  refusal : {n a : ℕ} → Refused s n a → Refusal s n a
  refusal (notated.too_long l) = absurd (omega (arith, short))
  refusal (notated.no_token {ts} {i} {a} {r} far y) = let z = fault_there s far y in record { tokens = ts; upto = i; left = r; far = far; because = fault z.0; at = z.1 }
  refusal (notated.no_script {ts} {i} {r = r} {t = t} far y c) =
      let z = token_there s far y in
      record { tokens = ts; upto = i; left = r; far = far; because = script z.0 (subst (λ t. ¬ Continues (ts ++ (t ∷ []))) z.1 c); at = ap (λ (t : Tok). t.at) z.1 }
  refusal (notated.over_limit {ts} {i} {r = r} x far y b c) =
      let z = token_there s far y in
      record { tokens = ts; upto = i; left = r; far = far; because = limit x z.0 z.1 b (subst (PassesLimit ts) z.1 c); at = ap (λ (t : Tok). t.at) z.1 }

  -- a script that is read is not refused
  never_read : {n a : ℕ} {ds : List Declaration} {d : Cursor} → Refusal s n a → Read s AtEnd (Final s) (lang {s = s} script_p) nothing start ds d → ⊥
  never_read {ds = ds} {d} R h = go (dec_lt (length R.far.terminals) (length p)) (dec_lt (length p) (length R.far.terminals))
    where
      p : List Terminal
      p = h.terminals

      longer : (front : List Terminal) (x : Terminal) (after : List Terminal) → length front ≡ length p → (front ++ (x ∷ [])) ++ after ≡ p → ⊥
      longer front x after l e =
          let a = ap (length {A = Terminal}) e in
          let b = length-append (front ++ (x ∷ [])) after in
          let c = length-append front (x ∷ []) in
          absurd (omega arith)

      same : length R.far.terminals ≡ length p → {n : ℕ} → Because s R.far n → ⊥
      same l z = at_end z (level s (stand s R.far) h.stands l)
        where
          at_end : {n : ℕ} → Because s R.far n → (R.upto ≡ d.at) × (map token_of R.far.terminals ≡ map token_of p) → ⊥
          at_end (fault e) (f, g) = let k = h.ends in let m = ap (kind_at s) f in absurd (omega arith)
          at_end (script e c) (f, g) = c (record {
            after = [];
            whole = record {
              terminals = p;
              next = (token_in s d.at).at;
              script = ds;
              derives = h.member;
              are = append-nil _ ∙ ap (λ l. l ++ (token_in s R.upto ∷ [])) (sym R.far.are ∙ g) ∙ ap (λ t. map token_of p ++ (t ∷ [])) (ap (token_in s) f ∙ ended);
            };
          })
            where
              ended : token_in s d.at ≡ end_at (token_in s d.at).at
              ended = ap (λ k. tok k (token_at s d.at).start (name_of s k (token_at s d.at).start)) h.ends
          at_end (limit x e z b c) (f, g) =
              longer R.far.terminals x b.after l
              (h.only b.script ((R.far.terminals ++ (x ∷ [])) ++ b.after) (end_at b.next) [] b.derives refl (begun_agrees s R.far p d.at R.far.terminals x b.after b.next g (z ∙ ap (token_in s) f))).0

      go : Dec (length R.far.terminals < length p) → Dec (length p < length R.far.terminals) → ⊥
      go (yes l) e = goes_past s R.far h.stands (record { after = []; next = (token_in s d.at).at; script = ds; derives = subst (λ l. IsScript (token_in s d.at).at l ds) (sym (append-nil p)) h.member }) h.within l R.because
      go (no l) (yes e) =
          let y = far_past s R.far h.stands e in
          longer y.front y.next (y.back ++ R.far.begins.after) (length_mapped y.front p y.same)
          (h.only R.far.begins.script (far_whole s R.far y) (end_at R.far.begins.next) [] (far_derives s R.far y) refl (begun_agrees s R.far p d.at y.front y.next _ _ y.same y.token)).0
      go (no l) (no e) = same (omega arith) R.because

  -- a reading that stops does so where and why the rules refuse
  stops_there : {n a m i : ℕ} → Refusal s n a → Stopped s AtEnd (Final s) (lang {s = s} script_p) nothing start m i → (n ≡ m) × (a ≡ i)
  stops_there {n} {a} {m} {i} R h = go (dec_lt (length R.far.terminals) (length h.terminals)) (dec_lt (length h.terminals) (length R.far.terminals))
    where
      go : Dec (length R.far.terminals < length h.terminals) → Dec (length h.terminals < length R.far.terminals) → (n ≡ m) × (a ≡ i)
      go (yes l) e = absurd (goes_past s R.far h.stands (record { after = h.viable.rest; next = h.viable.next; script = h.viable.value; derives = h.viable.member }) h.within l R.because)
      go (no l) (yes e) = absurd (stops_before s R.far h.stands h.within e h.why)
      go (no l) (no e) =
          let y = level s (stand s R.far) h.stands (omega arith) in (
            same_number s R.far y.1 R.because (subst (λ j. Why s AtEnd (Final s) (lang {s = s} script_p) nothing start h.terminals h.counts j m) (sym y.0) h.why),
            R.at ∙ ap (λ j. (token_at s j).start) y.0 ∙ h.at,
          )

  refused_read : {n a : ℕ} → Refused s n a → (r : Result (List Declaration)) → read_text s ≡ r → Right s AtEnd (Final s) script_p nothing start r → r ≡ refused n a
  refused_read R (got ds d) e h = absurd (never_read (refusal R) h.holds)
  refused_read R (refused zero i) e h = let b = read_numbered s zero i e in absurd (omega arith)
  refused_read R (refused (suc n) i) e h = let y = stops_there (refusal R) h.holds in λ j. refused (sym y.0 j) (sym y.1 j)

-- ── the theorems
abbrev is_got : {A : Type 0} → Result A → Bool
is_got (got a c) = true
is_got (refused n i) = false

abbrev script_or : {A : Type 0} → A → Result A → A
script_or x (got a c) = a
script_or x (refused n i) = x

abbrev numbered : {A : Type 0} → Result A → ℕ × ℕ
numbered (got a c) = (0, 0)
numbered (refused n i) = (n, i)

module _ (s : List ℕ) where
  long_refused : text_limit < length s → read_text s ≡ refused 2 text_limit
  unfolding read_text
  long_refused l = go (leb (length s) text_limit) refl _
    where
      go : (b : Bool) → leb (length s) text_limit ≡ b → (r : Result (List Declaration)) → cond b r (refused 2 text_limit) ≡ refused 2 text_limit
      go true e r = let h = leb-true (length s) text_limit e in absurd (omega arith)
      go false e r = refl

  -- a text is read as the script that the rules derive from it
  pub derives_iff : (ds : List Declaration) → ((c : Cursor) × (read_text s ≡ got ds c)) ↔ Derives s ds
  derives_iff ds = (λ (c, e). by (dec_lt text_limit (length s)) c e, λ D. let r = derived_read s D.short D (script_of s D.short) refl (short_reads s D.short) (right s D.short) in (r.0, short_reads s D.short ∙ r.1))
    where
      by : Dec (text_limit < length s) → (c : Cursor) → read_text s ≡ got ds c → Derives s ds
      by (yes l) c e = absurd (let z : got ds c ≡ refused 2 text_limit = sym e ∙ long_refused l in true≢false (ap is_got z))
      by (no l) c e =
          let short : length s ≤ text_limit = omega arith in
          read_derives s short ds c (subst (Right s AtEnd (Final s) script_p nothing start) (sym (short_reads s short) ∙ e) (right s short)).holds

  -- .. which is the only one
  pub derives_unique : (ds es : List Declaration) → Derives s ds → Derives s es → ds ≡ es
  derives_unique ds es D E =
      let (c, e) = (derives_iff ds).1 D in
      let (d, f) = (derives_iff es).1 E in
      ap (script_or ds) (sym e ∙ f)

  -- it is refused by 2 to 5 where the rules refuse it, by the same number at the same offset
  pub refused_iff : (n i : ℕ) → (read_text s ≡ refused n i) ↔ Refused s n i
  refused_iff n i = (by n (dec_lt text_limit (length s)), from)
    where
      by : (n : ℕ) → Dec (text_limit < length s) → read_text s ≡ refused n i → Refused s n i
      by n (yes l) e = subst (λ (r : ℕ × ℕ). Refused s r.0 r.1) (ap numbered (sym (long_refused l) ∙ e)) (notated.too_long l)
      by zero (no l) e = let b = read_numbered s zero i e in absurd (omega arith)
      by (suc n) (no l) e =
          let short : length s ≤ text_limit = omega arith in
          stopped_refused s short (suc n) i (subst (Right s AtEnd (Final s) script_p nothing start) (sym (short_reads s short) ∙ e) (right s short)).holds

      shortly : {n i : ℕ} → length s ≤ text_limit → Refused s n i → read_text s ≡ refused n i
      shortly short R = short_reads s short ∙ refused_read s short R (script_of s short) (short_reads s short) (right s short)

      from : {n i : ℕ} → Refused s n i → read_text s ≡ refused n i
      from (notated.too_long l) = long_refused l
      from (notated.no_token far y) = shortly far.short (notated.no_token far y)
      from (notated.no_script far y c) = shortly far.short (notated.no_script far y c)
      from (notated.over_limit x far y b c) = shortly far.short (notated.over_limit x far y b c)
