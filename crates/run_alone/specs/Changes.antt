-- Changes of a run, as the calculus has them.
use Rattle.std.specs.Prelude.{ℕ, suc, ◌-◌, ◌≤◌, ◌<◌, ◌≡◌, Bool, true, false, cond, eqb}
use Rattle.std.proofs.Math.Path.{refl, ap}
use Rattle.std.proofs.Common.{sym, ◌∙◌, subst, arith}
use mathlib.Core.List.{List, [], ◌∷◌, ◌++◌, map}
use Rattle.std.proofs.Math.Option.{some}
use Rattle.std.proofs.Math.Decide.{dec_lt}
use Rattle.std.proofs.Math.ListN.{length-map, length, set, get_elem?}
use Rattle.check_contexts.specs.Halves.{held_bounded}
use Rattle.notation.specs.Limits.{held_limit, process_term_limit}
use Rattle.notation.specs.Token.{name_at}
use Rattle.notation.specs.Tree.{empty}
use Rattle.calculus.specs.Configuration.{Process, Outside, Config, replaced, moved_up, moved_down}
use Rattle.calculus.specs.Configuration as calculus
use Rattle.read_tables.specs.Decode.{process_in}
use Rattle.read_tables.specs.Program.{plain_in}
use Rattle.read_tables.specs.Roots.{TypeIn, ProcessIn, process_tree, process_root}
use Rattle.notation.specs.From.{ProcessFrom}
use Rattle.read_tables.specs.Whole.{Tables}
use Rattle.run_words.specs.Lists.{All}
use Rattle.run_words.specs.ListLaws.{all_at, all_set, all_append, below_length, all_map, all_insert, all_remove}
use Rattle.run_words.specs.Raw.{RawEnd, RawProcess, RawOutside, RawConfig, BoundedProcess, link_of, links_below, raw_in, Bounded, pointer_limit, running_kind}
use Rattle.run_words.specs.Values as values
use Rattle.run_words.specs.Values.{Changed, held_in, held_length}
use Rattle.run_words.specs.Operations as raw
use Rattle.run_words.specs.Bounds.{let_go_all}
use Rattle.run_words.specs.DecodeLaws.{decoded_at, decoded_set, decoded_inserted, decoded_removed, decoded_let_go, decoded_retyped, decoded_rerouted, decoded_append}
use Rattle.run_words.specs.Decode.{decoded_outside, decoded_process, decoded}
use Rattle.run_words.specs.declared.records.Held.{Held}
use Rattle.run_words.specs.declared.records.Process.{Process as ProcessWords}
use Rattle.run_words.specs.declared.records.Outside.{Outside as OutsideWords}
use Rattle.check_contexts.specs.Held.{end_is, channels_of, HeldIn}
use Rattle.run_alone.specs.Run.{config_in, process_as, Fits, RunOf, ProcessOf, StandsAt, Becomes}

-- one change after another
pub then : {s w old mid new : List ℕ} {D : Config} (f : Config → Config) → Becomes s w old mid D → Becomes s w mid new (f (config_in s w mid)) → Becomes s w old new (f D)
then f p q = record { is = q.is ∙ ap f p.is; run = q.run; past = q.past ∙ p.past; long = q.long ∙ p.long }

all_changed : (P : RawOutside → Type 0) (f : RawOutside → RawOutside) (k : ℕ) → ((o : RawOutside) → P o → P (f o)) → (l : List RawOutside) → All P l → All P (raw.changed_outside k f l)
unfolding raw.changed_outside
all_changed P f k h [] a = tt
all_changed P f k h (o ∷ l) (a, b) = go (eqb k o.channel) (all_changed P f k h l b)
  where
    go : (t : Bool) → All P (raw.changed_outside k f l) → All P (cond t (f o ∷ l) (o ∷ raw.changed_outside k f l))
    go true r = (h o a, b)
    go false r = (a, r)

-- ── what is held
module _ (s w : List ℕ) (h : Held) where
  pub channels_many : length (channels_of s w h) ≡ h.count
  unfolding channels_of
  channels_many = length-map (held_in h) (end_is s w) ∙ held_length h

  pub none_held : h.count ≡ 0 → channels_of s w h ≡ []
  unfolding channels_of
  none_held z = ap (map (end_is s w)) (go (held_in h) (held_length h ∙ z))
    where
      go : (l : List RawEnd) → length l ≡ 0 → l ≡ []
      go [] e = refl
      go (x ∷ l) e = absurd (omega arith)

-- a pointer fits into its bits
pub pointer_small : (s w : List ℕ) (p : ℕ) → Tables s w → ProcessIn s w p → p < pointer_limit
unfolding ProcessFrom
pointer_small s w p t a = go (dec_lt p process_term_limit)
  where
    go : Dec (p < process_term_limit) → p < pointer_limit
    go (yes l) = omega arith
    go (no l) =
        let e = sym (process_tree s w t.within p a) ∙ (process_root s w t.within p a).none (omega arith) in
        let b : ProcessFrom s (empty (p - process_term_limit)) = subst (ProcessFrom s) e a.from in
        omega (arith, b)

-- a process that runs
pub runs_on : {s w : List ℕ} {n : ℕ} → Tables s w → (p : ProcessWords) → p.kind ≡ running_kind → links_below n (link_of p.link) → ProcessIn s w p.pointer → HeldIn s w p.held → ProcessOf s w n p
runs_on {s} {w} t p k l a h = record { kind = omega arith; pointer = pointer_small s w p.pointer t a; link = l; term = λ z. a; held = h }

module _ (s w : List ℕ) where
  abbrev decodes : RawProcess → Process
  decodes = decoded_process (name_at s) (plain_in s w) (process_in s w)

  decoded_value : (p : ProcessWords) → decodes (values.process_in p) ≡ process_as s w p
  unfolding channels_of
  decoded_value p = refl

  pub bounded_of : {n : ℕ} {p : ProcessWords} → ProcessOf s w n p → BoundedProcess n (values.process_in p)
  bounded_of {n} {p} t = record {
    kind = t.kind;
    pointer = t.pointer;
    many = omega (arith, held_length p.held, t.held.many);
    each = held_bounded t.held;
    link = t.link;
  }

  fits_of : {n : ℕ} {p : ProcessWords} → ProcessOf s w n p → Fits s w (values.process_in p)
  fits_of t = record { term = t.term; held = t.held.each }

  -- ── what is loaded
  pub stands_at : (ws : List ℕ) (i : ℕ) (p : ProcessWords) → RunOf s w ws → get_elem? (raw_in ws).processes i ≡ some (values.process_in p) → BoundedProcess (length (raw_in ws).processes) (values.process_in p) → p.held.count ≤ held_limit → StandsAt s w ws i p
  unfolding channels_of
  stands_at ws i p t g b m =
      let f = all_at (Fits s w) (raw_in ws).processes i t.processes g in
      record {
        there = decoded_at (name_at s) (plain_in s w) (process_in s w) (raw_in ws) i g;
        below = below_length (raw_in ws).processes i g;
        is = record { kind = b.kind; pointer = b.pointer; link = b.link; term = f.term; held = record { many = m; each = f.held } };
      }

  -- as its words were read
  pub loaded : {ws : List ℕ} {i : ℕ} (p : ProcessWords) → RunOf s w ws
      → (get_elem? (raw_in ws).processes i ≡ some (values.process_in p)) × (BoundedProcess (length (raw_in ws).processes) (values.process_in p) × (p.held.count ≤ held_limit)) → StandsAt s w ws i p
  loaded {ws} {i} p t (g, (b, m)) = stands_at ws i p t g b m

  -- ── what is changed
  module _ (old new : List ℕ) (t : RunOf s w old) where
    abbrev TypedOutside : RawOutside → Type 0
    TypedOutside o = TypeIn s w o.node

    -- the words are now those of C, which stands for D
    becomes : (C : RawConfig) (D : Config) → decoded (name_at s) (plain_in s w) (process_in s w) C ≡ D → All (Fits s w) C.processes → All TypedOutside C.outside
        → Changed old new C → Bounded (raw_in new) → Becomes s w old new D
    becomes C D e p o c b = record {
      is = ap (decoded (name_at s) (plain_in s w) (process_in s w)) c.is ∙ e;
      run = record {
        tables = t.tables;
        wide = omega (arith, t.wide, c.long);
        bounds = b;
        processes = subst (λ (C : RawConfig). All (Fits s w) C.processes) (sym c.is) p;
        outside = subst (λ (C : RawConfig). All TypedOutside C.outside) (sym c.is) o;
      };
      past = c.past;
      long = c.long;
    }

    by_processes : (f : List RawProcess → List RawProcess) (l : List Process) → map decodes (f (raw_in old).processes) ≡ l → All (Fits s w) (f (raw_in old).processes)
        → Changed old new (raw.on_processes f (raw_in old)) → Bounded (raw_in new) → Becomes s w old new (calculus.with_processes l (config_in s w old))
    by_processes f l e a = becomes (raw.on_processes f (raw_in old)) _ (ap (λ m. calculus.with_processes m (config_in s w old)) e) a t.outside

    pub stored : (i : ℕ) (p : ProcessWords) → ProcessOf s w (length (raw_in old).processes) p → Changed old new (raw.on_processes (λ l. set l i (values.process_in p)) (raw_in old)) → Bounded (raw_in new)
        → Becomes s w old new (replaced i (process_as s w p) (config_in s w old))
    unfolding channels_of
    stored i p o c b =
        by_processes (λ l. set l i (values.process_in p)) _ (ap (λ (C : Config). C.processes) (decoded_set (name_at s) (plain_in s w) (process_in s w) (raw_in old) i (values.process_in p)))
        (all_set (Fits s w) (raw_in old).processes i (values.process_in p) t.processes (fits_of o)) c b

    relinked_fits : (f : ℕ → ℕ) → All (Fits s w) (map (raw.relinked f) (raw_in old).processes)
    relinked_fits f = all_map (Fits s w) (Fits s w) (raw.relinked f) (λ p h. record { term = h.term; held = h.held }) (raw_in old).processes t.processes

    pub came : (i : ℕ) (p : ProcessWords) {n : ℕ} → ProcessOf s w n p → Changed old new (raw.on_processes (raw.inserted i (values.process_in p)) (raw_in old)) → Bounded (raw_in new)
        → Becomes s w old new (calculus.with_processes (calculus.inserted i (process_as s w p) (config_in s w old).processes) (config_in s w old))
    unfolding channels_of raw.inserted
    came i p o c b =
        by_processes (raw.inserted i (values.process_in p)) _ (decoded_inserted (name_at s) (plain_in s w) (process_in s w) i (values.process_in p) (raw_in old).processes)
        (all_insert (Fits s w) (suc i) (values.process_in p) (map (raw.relinked (moved_up i)) (raw_in old).processes) (relinked_fits (moved_up i)) (fits_of o)) c b

    pub left : (i : ℕ) → Changed old new (raw.on_processes (raw.removed i) (raw_in old)) → Bounded (raw_in new)
        → Becomes s w old new (calculus.with_processes (calculus.removed i (config_in s w old).processes) (config_in s w old))
    unfolding raw.removed
    left i c b =
        by_processes (raw.removed i) _ (decoded_removed (name_at s) (plain_in s w) (process_in s w) i (raw_in old).processes)
        (all_remove (Fits s w) i (map (raw.relinked (moved_down i)) (raw_in old).processes) (relinked_fits (moved_down i))) c b

    -- ── the outside
    abbrev outsides : List RawOutside → List Outside
    outsides l = map (decoded_outside (name_at s) (plain_in s w) (process_in s w)) l

    by_outside : (f : List RawOutside → List RawOutside) (l : List Outside) → outsides (f (raw_in old).outside) ≡ l → All TypedOutside (f (raw_in old).outside)
        → Changed old new (raw.on_outside f (raw_in old)) → Bounded (raw_in new) → Becomes s w old new (calculus.with_outside l (config_in s w old))
    by_outside f l e a = becomes (raw.on_outside f (raw_in old)) _ (ap (λ m. calculus.with_outside m (config_in s w old)) e) t.processes a

    pub let_go_lem : (k : ℕ) → Changed old new (raw.on_outside (raw.let_go k) (raw_in old)) → Bounded (raw_in new) → Becomes s w old new (calculus.with_outside (calculus.let_go k (config_in s w old).outside) (config_in s w old))
    let_go_lem k = by_outside (raw.let_go k) _ (decoded_let_go (name_at s) (plain_in s w) (process_in s w) k (raw_in old).outside) (let_go_all TypedOutside k (raw_in old).outside t.outside)

    pub retyped : (k node : ℕ) → TypeIn s w node → Changed old new (raw.on_outside (raw.changed_outside k (raw.retyped node)) (raw_in old)) → Bounded (raw_in new)
        → Becomes s w old new (calculus.with_outside (calculus.retyped_outside k (plain_in s w node) (config_in s w old).outside) (config_in s w old))
    retyped k node u =
        by_outside (raw.changed_outside k (raw.retyped node)) _ (decoded_retyped (name_at s) (plain_in s w) (process_in s w) k node (raw_in old).outside)
        (all_changed TypedOutside (raw.retyped node) k (λ o h. u) (raw_in old).outside t.outside)

    pub rerouted : (k m : ℕ) → Changed old new (raw.on_outside (raw.changed_outside k (raw.rerouted m)) (raw_in old)) → Bounded (raw_in new)
        → Becomes s w old new (calculus.with_outside (calculus.moved_outside k m (config_in s w old).outside) (config_in s w old))
    rerouted k m =
        by_outside (raw.changed_outside k (raw.rerouted m)) _ (decoded_rerouted (name_at s) (plain_in s w) (process_in s w) k m (raw_in old).outside)
        (all_changed TypedOutside (raw.rerouted m) k (λ o h. h) (raw_in old).outside t.outside)

    pub passed_out_lem : (o : OutsideWords) → TypeIn s w o.node → Changed old new (raw.on_outside (λ l. l ++ (values.outside_in o ∷ [])) (raw_in old)) → Bounded (raw_in new)
        → Becomes s w old new (calculus.with_outside ((config_in s w old).outside ++ (record { number = o.number; channel = o.channel; type = plain_in s w o.node } ∷ [])) (config_in s w old))
    passed_out_lem o u =
        by_outside (λ l. l ++ (values.outside_in o ∷ [])) _ (decoded_append (name_at s) (plain_in s w) (process_in s w) (raw_in old).outside (values.outside_in o))
        (all_append TypedOutside (raw_in old).outside (values.outside_in o ∷ []) t.outside (u, tt))

    pub given : (n : ℕ) → Changed old new (raw.with_given (raw_in old) n) → Bounded (raw_in new) → Becomes s w old new (calculus.with_given n (config_in s w old))
    given n = becomes (raw.with_given (raw_in old) n) _ refl t.processes t.outside

    pub halted : Changed old new (raw.with_halted (raw_in old) 1) → Bounded (raw_in new) → Becomes s w old new (calculus.halt (config_in s w old))
    halted = becomes (raw.with_halted (raw_in old) 1) _ refl t.processes t.outside

-- how many processes there are now
pub places_after : {s w old new : List ℕ} {D : Config} → Becomes s w old new D → length (raw_in new).processes ≡ length D.processes
places_after {new = new} b = sym (length-map (raw_in new).processes _) ∙ ap (λ (C : Config). length C.processes) b.is

pub places_in : (s w ws : List ℕ) → length (config_in s w ws).processes ≡ length (raw_in ws).processes
places_in s w ws = length-map (raw_in ws).processes _
