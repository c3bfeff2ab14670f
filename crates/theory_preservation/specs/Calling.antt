-- A call: the process holds the same ends, under the names, on the sides and with the types of the signature.
use Rattle.std.specs.Prelude.{◌≡◌, refl, ℕ, ◌≤◌, ◌<◌, length}
use Rattle.std.proofs.Common.{sym, ◌∙◌, ap, subst}
use mathlib.Core.List.Memᴰ
use mathlib.Core.List.Sublistᴰ
use mathlib.Core.List.{List, [], ◌∷◌, ◌++◌, map}
use Rattle.std.proofs.Math.Option.{some, some-injective}
use Rattle.std.proofs.Math.ListN.{get_elem?}
use Rattle.notation.specs.Limits.{held_limit, channel_places}
use Rattle.notation.specs.Tree.{Name, Located, Ty, call}
use Rattle.calculus.specs.Named.{lookup, names, In, NoneTwice}
use Rattle.calculus.specs.Types.{Side, provided, used}
use Rattle.calculus.specs.Program.{Slot, Context, Signature, Program, on_side, signature_context}
use Rattle.calculus.specs.OneType.{OneType}
use Rattle.calculus.specs.Typing.{Typed, calls, TypedBody, Bodies, names_of, ListFits, none_left, one_fits}
use Rattle.calculus.specs.Configuration.{End, end, running, Process, relinked, Config, replaced, goes_on, becoming}
use Rattle.calculus.specs.Steps.{renamed_end, renamed}
use Rattle.calculus.specs.Reduces.{Runs}
use Rattle.calculus.specs.WellFormed.{context_of, key}
use Rattle.theory_ends.specs.Lists.{once_by}
use Rattle.theory_derivations.specs.Named.{lookup_in}
use Rattle.theory_ends.specs.Contexts.{context_names, context_length, held_plain}
use Rattle.theory_ends.specs.Ends.{key_at}
use Rattle.theory_preservation.specs.Witness.{of_channels, Recast}
use Rattle.theory_preservation.specs.Roster.{Has, tip_of, Fine, runs_awake}
use Rattle.theory_preservation.specs.LettingGo.{less}
use Rattle.theory_preservation.specs.TwoEnds.{key_of_key, held_tip}
use Rattle.theory_preservation.specs.Invariant.{Inv, at_roster, fine_at, inv_set}

module _ (p : Program) (l : List (Name × End)) where
  -- the end held under the name a is on the slot's side, and of one type with it
  record Given (a : Name) (s : Slot) : Type 0 where
    end : End
    found : lookup a l ≡ some end
    side : end.side ≡ s.side
    one : OneType p end.type s.type

  -- each name is that of an end for its slot
  abbrev Fits : List Name → Context → Type 0
  Fits [] [] = Unit {0}
  Fits [] (s ∷ G) = ⊥
  Fits (a ∷ ns) [] = ⊥
  Fits (a ∷ ns) (s ∷ G) = Given a s.1 × Fits ns G

  list_fits_lem : {s : Side} {ns : List Name} {es : List (Name × Ty Name)} → ListFits (OneType p) (context_of l) s ns es → Fits ns (on_side s es)
  list_fits_lem none_left = tt
  list_fits_lem {s} (one_fits {a = a} A e o f) =
      let k = held_plain a l s A e in
      (record { end = k.end; found = k.found; side = k.side; one = rw k.type o }, list_fits_lem f)

  fits_append : (ns ms : List Name) (G H : Context) → Fits ns G → Fits ms H → Fits (ns ++ ms) (G ++ H)
  fits_append [] ms [] H f g = g
  fits_append [] ms (s ∷ G) H f g = absurd f
  fits_append (a ∷ ns) ms [] H f g = absurd f
  fits_append (a ∷ ns) ms (s ∷ G) H f g = (f.0, fits_append ns ms G H f.1 g)

  -- the names of a call are those of ends for its signature
  call_fits : (xs ys : List Name) (s : Signature) → ListFits (OneType p) (context_of l) provided xs s.provides → ListFits (OneType p) (context_of l) used ys s.uses
      → Fits (xs ++ ys) (signature_context s)
  call_fits xs ys s fx fy = fits_append xs ys _ _ (list_fits_lem fx) (list_fits_lem fy)

  -- what a name that fits is renamed to
  renamed_cons : (a : Name) (ns : List Name) (s : Name × Slot) (G : Context) (h : Given a s.1)
      → renamed (a ∷ ns) (s ∷ G) l ≡ (s.0, end s.1.side h.end.channel s.1.type) ∷ renamed ns G l
  renamed_cons a ns s G h = ap (λ o. renamed_end s o ++ renamed ns G l) h.found

  renamed_context : (ns : List Name) (G : Context) → Fits ns G → context_of (renamed ns G l) ≡ G
  renamed_context [] [] f = refl
  renamed_context [] (s ∷ G) f = absurd f
  renamed_context (a ∷ ns) [] f = absurd f
  renamed_context (a ∷ ns) (s ∷ G) f = ap context_of (renamed_cons a ns s G f.0) ∙ ap (λ r. s ∷ r) (renamed_context ns G f.1)

  -- each end was held under one of the names, with a type that is one with its type now
  pub record Was (ns : List Name) (x : End) : Type 0 where
    pub name : Name
    pub listed : In name ns
    pub end : End
    pub held : In (name, end) l
    pub same : key end ≡ key x
    pub one : OneType p end.type x.type

  given_was : (a : Name) (ns : List Name) (s : Slot) (h : Given a s) → Was (a ∷ ns) (end s.side h.end.channel s.type)
  given_was a ns s h = record { name = a; listed = Memᴰ.head refl; end = h.end; held = lookup_in a l h.found; same = λ i. (h.end.channel, h.side i); one = h.one }

  renamed_was : (ns : List Name) (G : Context) → Fits ns G → (x : Name × End) → In x (renamed ns G l) → Was ns x.1
  renamed_was [] [] f x i = absurd (Memᴰ.not-nil i)
  renamed_was [] (s ∷ G) f x i = absurd f
  renamed_was (a ∷ ns) [] f x i = absurd f
  renamed_was (a ∷ ns) (s ∷ G) f x i = go (renamed_was ns G f.1 x) (subst (In x) (renamed_cons a ns s G f.0) i)
    where
      go : (In x (renamed ns G l) → Was ns x.1) → In x ((s.0, end s.1.side f.0.end.channel s.1.type) ∷ renamed ns G l) → Was (a ∷ ns) x.1
      go r (Memᴰ.head e) = subst (Was (a ∷ ns)) (ap (λ (x : Name × End). x.1) (sym e)) (given_was a ns s.1 f.0)
      go r (Memᴰ.tail j) = let y = r j in record { name = y.name; listed = Memᴰ.tail y.listed; end = y.end; held = y.held; same = y.same; one = y.one }

  -- after a call the body has what its signature says
  pub called_context : {o bracket : ℕ} {f : Located} {xs ys : List Located} {s : Signature} → Typed p (context_of l) (call o f bracket xs ys) → lookup f.name p.processes ≡ some s
      → context_of (renamed (names_of xs ++ names_of ys) (signature_context s) l) ≡ signature_context s
  called_context {xs = xs} {ys = ys} (calls s e' fx fy _ _) e =
      subst (λ s. context_of (renamed (names_of xs ++ names_of ys) (signature_context s) l) ≡ signature_context s) (some-injective _ _ (sym e' ∙ e))
      (renamed_context (names_of xs ++ names_of ys) (signature_context s) (call_fits (names_of xs) (names_of ys) s fx fy))

  -- what a process holds after a call, it held before
  pub called_was : {o bracket : ℕ} {f : Located} {xs ys : List Located} {s : Signature} → Typed p (context_of l) (call o f bracket xs ys) → lookup f.name p.processes ≡ some s
      → (x : Name × End) → In x (renamed (names_of xs ++ names_of ys) (signature_context s) l) → Was (names_of xs ++ names_of ys) x.1
  called_was {xs = xs} {ys = ys} (calls s e' fx fy _ _) e x i =
      renamed_was (names_of xs ++ names_of ys) (signature_context s) (call_fits (names_of xs) (names_of ys) s fx fy) x
      (subst (λ s. In x (renamed (names_of xs ++ names_of ys) (signature_context s) l)) (some-injective _ _ (sym e ∙ e')) i)

  renamed_once : (ns : List Name) (G : Context) → Fits ns G → NoneTwice ns → NoneTwice (map key_at l) → NoneTwice (map key_at (renamed ns G l))
  renamed_once [] [] f u w = tt
  renamed_once [] (s ∷ G) f u w = absurd f
  renamed_once (a ∷ ns) [] f u w = absurd f
  renamed_once (a ∷ ns) (s ∷ G) f u w = subst (λ r. NoneTwice (map key_at r)) (sym (renamed_cons a ns s G f.0)) (fresh, renamed_once ns G f.1 u.1 w)
    where
      fresh : ¬ In (f.0.end.channel, s.1.side) (map key_at (renamed ns G l))
      fresh m =
          let y = Memᴰ.of_map key_at (renamed ns G l) m in
          let z = renamed_was ns G f.1 y.0 y.1 in
          let e = once_by key_at w z.held (lookup_in a l f.0.found) (z.same ∙ y.2 ∙ (λ i. (f.0.end.channel, sym f.0.side i))) in
          u.0 (Memᴰ.cast (ap (λ (x : Name × End). x.0) (sym e)) z.listed)

module _ {p : Program} (B : Bodies p) {C : Config} (I : Inv p C) {i : ℕ} {q : Process} where
  pub call_keeps : {o bracket : ℕ} {f : Located} {xs ys : List Located} {s : Signature} → Runs C i q (call o f bracket xs ys) → lookup f.name p.processes ≡ some s
      → Typed p (context_of q.held) (call o f bracket xs ys)
      → Inv p (replaced i (goes_on q s.body (renamed (names_of xs ++ names_of ys) (signature_context s) q.held)) C)
  call_keeps {f = f} {xs = xs} {ys = ys} {s = s₀} r e (calls s e' fx fy d _) =
      subst (λ s. Inv p (replaced i (goes_on q s.body (renamed ns (signature_context s) q.held)) C)) (some-injective _ _ (sym e' ∙ e))
      (inv_set I i q at (running s.body) l I.numbers
      (less I.good (I.id i) (relinked I.id q) (at_roster I i q at) (running s.body) l (runs_awake r.runs) fine had (Sublistᴰ.refl C.outside)))
    where
      at : get_elem? C.processes i ≡ some q
      at = r.stands.there

      ns : List Name
      ns = names_of xs ++ names_of ys

      G : Context
      G = signature_context s

      l : List (Name × End)
      l = renamed ns G q.held

      g : Fine p (relinked I.id q)
      g = fine_at I i q at

      body : TypedBody p s
      body = B.typed f.name s e'

      fits : Fits p q.held ns G
      fits = call_fits p q.held (names_of xs) (names_of ys) s fx fy

      was : (x : Name × End) → In x l → Was p q.held ns x.1
      was = renamed_was p q.held ns G fits

      had : (x : Name × End) → In x l → Recast p (Has I.roster C.outside) (I.id i) (tip_of x.1)
      had x m =
          let y = was x m in (
            some y.end.type,
            subst (λ k. Has I.roster C.outside (I.id i) (k, some y.end.type)) (key_of_key y.end x.1 y.same)
                (held_tip I.good (I.id i) (relinked I.id q) (at_roster I i q at) (y.name, y.end) y.held),
            of_channels y.one,
          )

      same : context_of l ≡ G
      same = renamed_context p q.held ns G fits

      fine : Fine p (relinked I.id (becoming (running s.body) l q))
      fine = record {
        typed = subst (λ H. Typed p H s.body) (sym same) body.body;
        names = subst NoneTwice (sym (sym (context_names l) ∙ ap names same)) (B.names f.name s e');
        keys = renamed_once p q.held ns G fits d g.keys;
        room = subst (λ n. n ≤ held_limit) (sym (sym (context_length l) ∙ ap length same)) body.room;
        channels = λ x m. let y = was x m in subst (λ (k : ℕ × Side). k.0 < channel_places) y.same (g.channels (y.name, y.end) y.held);
      }
