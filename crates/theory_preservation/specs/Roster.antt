-- The invariant that the rules keep, on identities: a process keeps its identity while places shift, and a link is the handler's identity.
use Rattle.std.specs.Prelude.{◌≡◌, refl, ◌≢◌, ◌⊎◌, true, false, ℕ, suc, ◌+◌, ◌≤◌, ◌<◌, length}
use Rattle.std.proofs.Common.{sym, ◌∙◌, ap, subst, inl, inr, arith}
use mathlib.Core.List.Memᴰ
use mathlib.Core.List.{List, [], map, Sublistᴰ, ◌++◌, ◌∷◌}
use Rattle.std.proofs.Math.Option.{Option, some, none, none-ne-some, some-injective}
use Rattle.notation.specs.Limits.{held_limit, channel_places}
use Rattle.notation.specs.Tree.{Name, Proc}
use Rattle.calculus.specs.Named.{names, In, NoneTwice}
use Rattle.calculus.specs.Types.{Side, provided, used}
use Rattle.calculus.specs.Program.{Context, Program}
use Rattle.calculus.specs.Outward.{Outward}
use Rattle.calculus.specs.Typing.{Typed}
use Rattle.calculus.specs.Configuration.{End, end, Doing, running, folding, waiting, Process, process, Outside, becoming, linked_by}
use Rattle.calculus.specs.WellFormed.{Rising, context_of, key, is_waiting}
use Rattle.theory_derivations.specs.Lists.{sub_in, sub_length}
use Rattle.theory_ends.specs.Lists.{sub_once, once_snoc, length_snoc, map-append}
use Rattle.theory_ends.specs.Names.{names_map, names_append}
use Rattle.theory_ends.specs.Ends.{key_at}
use Rattle.theory_preservation.specs.Witness.{Key, Tip, Rel, Witness, fewer}
use Rattle.theory_preservation.specs.Mates.{put, put_elim, Profile, Mates, mates_same}

-- the process of each identity; 0 is no process's: it is the outside's
abbrev pub Roster : Type 0
Roster = ℕ → Option Process

-- ── ends, by the numbers of their joints: even ones for channels, odd ones for links
abbrev pub channel_key : ℕ → ℕ
channel_key k = k + k

abbrev pub link_key : ℕ → ℕ
link_key v = suc (v + v)

pub channel_key_one : (j k : ℕ) → channel_key j ≡ channel_key k → j ≡ k
channel_key_one j k e = omega arith

pub link_key_one : (j k : ℕ) → link_key j ≡ link_key k → j ≡ k
link_key_one j k e = omega arith

pub channel_no_link : (k v : ℕ) → channel_key k ≢ link_key v
channel_no_link k v e = omega arith

abbrev pub key_of : End → Key
key_of e = (channel_key e.channel, e.side)

abbrev pub tip_of : End → Tip
tip_of e = (key_of e, some e.type)

abbrev pub link_tip : ℕ → Side → Tip
link_tip v s = ((link_key v, s), none)

abbrev pub outside_tip : Outside → Tip
outside_tip y = tip_of (end used y.channel y.type)

-- the ends of a process r of the identity v: of channels, of its link, and, where it waits, the other end of the link to it
pub data Tips (v : ℕ) (r : Process) (e : Tip) : Type 0 where
  holds : (x : Name × End) → In x r.held → e ≡ tip_of x.1 → Tips v r e
  links : (h : ℕ) → r.link ≡ some h → e ≡ link_tip h provided → Tips v r e
  waits : is_waiting r.doing ≡ true → e ≡ link_tip v used → Tips v r e

pub data Has (S : Roster) (o : List Outside) (v : ℕ) (e : Tip) : Type 0 where
  outside : v ≡ 0 → (y : Outside) → In y o → e ≡ outside_tip y → Has S o v e
  inside : (r : Process) → S v ≡ some r → Tips v r e → Has S o v e

-- ── one process
abbrev pub TypedDoing : Program → Context → Doing → Type 0
TypedDoing p G (running P) = Typed p G P
TypedDoing p G folding = Unit {0}
TypedDoing p G (waiting Q) = Typed p G Q

-- the names that a process holds differ, unless it folds up
abbrev pub NamesDiffer : Doing → List Name → Type 0
NamesDiffer (running P) ns = NoneTwice ns
NamesDiffer folding ns = Unit {0}
NamesDiffer (waiting Q) ns = NoneTwice ns

-- a process that does d goes on to do d', under the same names
pub record Goes (d d' : Doing) : Type 0 where
  pub waits : is_waiting d ≡ is_waiting d'
  pub names : (ns : List Name) → NamesDiffer d ns → NamesDiffer d' ns

pub runs_on : {d : Doing} {R : Proc} → d ≡ running R → (P : Proc) → Goes d (running P)
runs_on r P = record { waits = ap is_waiting r; names = λ ns n. subst (λ d. NamesDiffer d ns) r n }

pub goes_folding : {d : Doing} → is_waiting d ≡ false → Goes d folding
goes_folding w = record { waits = w; names = λ ns n. tt }

pub runs_awake : {d : Doing} {R : Proc} → d ≡ running R → is_waiting d ≡ false
runs_awake r = ap is_waiting r

pub names_less : (d : Doing) {l m : List (Name × End)} → Sublistᴰ l m → NamesDiffer d (names m) → NamesDiffer d (names l)
names_less (running P) {l} {m} s n = subst NoneTwice (sym (names_map l)) (sub_once (λ (e : Name × End). e.0) s (subst NoneTwice (names_map m) n))
names_less folding s n = tt
names_less (waiting P) {l} {m} s n = subst NoneTwice (sym (names_map l)) (sub_once (λ (e : Name × End). e.0) s (subst NoneTwice (names_map m) n))

names_snoc : (d : Doing) (ns : List Name) (x : Name) → NamesDiffer d ns → ¬ In x ns → NamesDiffer d (ns ++ (x ∷ []))
names_snoc (running P) ns x n f = once_snoc ns x n f
names_snoc folding ns x n f = tt
names_snoc (waiting P) ns x n f = once_snoc ns x n f

pub record Fine (p : Program) (r : Process) : Type 0 where
  pub typed : TypedDoing p (context_of r.held) r.doing
  pub names : NamesDiffer r.doing (names r.held)
  pub keys : NoneTwice (map key_at r.held)
  pub room : length r.held ≤ held_limit
  pub channels : (x : Name × End) → In x r.held → x.1.channel < channel_places

-- a process that holds l, and x with the end e beside
pub fine_more : {p : Program} (r : Process) (d : Doing) (k : Option ℕ) (l : List (Name × End)) (x : Name) (e : End) → NamesDiffer d (names l) → ¬ In x (names l)
    → NoneTwice (map key_at l) → ¬ In (key e) (map key_at l) → length l < held_limit → ((y : Name × End) → In y l → y.1.channel < channel_places) → e.channel < channel_places
    → TypedDoing p (context_of (l ++ ((x, e) ∷ []))) d → Fine p (linked_by k (becoming d (l ++ ((x, e) ∷ [])) r))
unfolding names
fine_more r d k l x e ns nx ks nk room cs lt t = record {
  typed = t;
  names = subst (NamesDiffer d) (sym (names_append l ((x, e) ∷ []))) (names_snoc d (names l) x ns nx);
  keys = subst NoneTwice (sym (map-append key_at l ((x, e) ∷ []))) (once_snoc (map key_at l) (key e) ks nk);
  room = subst (λ n. n ≤ held_limit) (sym (length_snoc l (x, e))) room;
  channels = λ y i. chan y (Memᴰ.append_cases l i);
}
  where
    chan : (y : Name × End) → In y l ⊎ In y ((x, e) ∷ []) → y.1.channel < channel_places
    chan y (inl i) = cs y i
    chan y (inr i) = subst (λ (y : Name × End). y.1.channel < channel_places) (sym (Memᴰ.eq_of_singleton i)) lt

-- a new process that does, holds and is linked as another
pub fine_new : {p : Program} {r : Process} → Fine p r → Fine p (process r.doing r.held r.link)
fine_new f = record { typed = f.typed; names = f.names; keys = f.keys; room = f.room; channels = f.channels }

-- the process r of u does d from now on, under the same names
pub record Continues (S : Roster) (u : ℕ) (r : Process) (d : Doing) : Type 0 where
  pub there : S u ≡ some r
  pub goes : Goes r.doing d

-- ── the outside's channels
pub record Fair (p : Program) (given : ℕ) (o : List Outside) : Type 0 where
  pub outwards : (y : Outside) → In y o → Outward p y.type
  pub below : (y : Outside) → In y o → y.number < given
  pub rising : Rising 0 (map (λ (y : Outside). y.number) o)
  pub keys : NoneTwice (map (λ (y : Outside). y.channel) o)
  pub channels : (y : Outside) → In y o → y.channel < channel_places

abbrev pub profile : Option Process → Profile
profile none = none
profile (some r) = some (r.link, is_waiting r.doing)

-- ── all together
pub record Good (p : Program) (S : Roster) (o : List Outside) (given next : ℕ) : Type 0 where
  pub witness : Witness p (Has S o) next
  pub fine : (v : ℕ) (r : Process) → S v ≡ some r → Fine p r
  pub placed : (v : ℕ) (r : Process) → S v ≡ some r → (0 < v) × (v < next)
  pub mates : Mates (λ v. profile (S v))
  pub fair : Fair p given o

-- ── what is at v afterwards: R is who then has which ends, and identities are below n
pub record Afterwards (p : Program) (R : Rel) (n v : ℕ) (y : Option Process) : Type 0 where
  pub fine : (r : Process) → y ≡ some r → Fine p r
  pub tips : (r : Process) → y ≡ some r → (e : Tip) → Tips v r e → R v e
  pub placed : (r : Process) → y ≡ some r → (0 < v) × (v < n)

pub nobody_after : {p : Program} {R : Rel} {n v : ℕ} → Afterwards p R n v none
nobody_after = record {
  fine = λ r e. absurd (none-ne-some r e);
  tips = λ r e. absurd (none-ne-some r e);
  placed = λ r e. absurd (none-ne-some r e);
}

pub one_after : {p : Program} {R : Rel} {n v : ℕ} (q : Process) → (0 < v) × (v < n) → Fine p q → ((e : Tip) → Tips v q e → R v e) → Afterwards p R n v (some q)
one_after {p} {R} {v = v} q b f h = record {
  fine = λ _ e. subst (Fine p) (some-injective _ _ e) f;
  tips = λ _ e. subst (λ q. (t : Tip) → Tips v q t → R v t) (some-injective _ _ e) h;
  placed = λ _ _. b;
}

pub good_after : {p : Program} {R : Rel} {S : Roster} {o : List Outside} {given n : ℕ} → Witness p R n → ((v : ℕ) → Afterwards p R n v (S v)) → Mates (λ v. profile (S v))
    → ((y : Outside) → In y o → R 0 (outside_tip y)) → Fair p given o → Good p S o given n
good_after {R = R} {S = S} {o = o} W c m out f = record {
  witness = fewer W (omega arith) have;
  fine = λ v r e. (c v).fine r e;
  placed = λ v r e. (c v).placed r e;
  mates = m;
  fair = f;
}
  where
    have : (v : ℕ) (e : Tip) → Has S o v e → R v e
    have v e (outside z y i h) = rw (z, h) (out y i)
    have v e (inside r s t) = (c v).tips r s e t

-- the same, where links and waiting stay as they are
pub record Change (p : Program) (R : Rel) (n v : ℕ) (x y : Option Process) : Type 0 where
  pub alike : profile y ≡ profile x
  pub after : Afterwards p R n v y

module _ {p : Program} {S : Roster} {o : List Outside} {given next : ℕ} (G : Good p S o given next) where
  pub same_after : {R : Rel} {n : ℕ} (v : ℕ) → next ≤ n → ((e : Tip) → v ≢ 0 → Has S o v e → R v e) → Afterwards p R n v (S v)
  same_after v le h = record {
    fine = λ r e. G.fine v r e;
    tips = λ r s e t. h e (λ z. let b = (G.placed v r s).0 in omega arith) (inside r s t);
    placed = λ r e. let b = G.placed v r e in (b.0, let c = b.1 in omega arith);
  }

  pub unchanged : (R : Rel) (v : ℕ) → ((e : Tip) → v ≢ 0 → Has S o v e → R v e) → Change p R next v (S v) (S v)
  unchanged R v h = record { alike = refl; after = same_after v (omega arith) h }

  changed_good : {R : Rel} {S' : Roster} {o' : List Outside} {given' : ℕ} → Witness p R next → ((v : ℕ) → Change p R next v (S v) (S' v))
      → ((y : Outside) → In y o' → R 0 (outside_tip y)) → Fair p given' o' → Good p S' o' given' next
  changed_good W c out f = good_after W (λ v. (c v).after) (mates_same (λ v. sym (c v).alike) G.mates) out f

  -- the process r of u now does d and holds l; its ends of links are as before
  pub becomes : (R : Rel) (u : ℕ) (r : Process) → S u ≡ some r → (d : Doing) (l : List (Name × End)) → is_waiting r.doing ≡ is_waiting d
      → Fine p (becoming d l r) → ((x : Name × End) → In x l → R u (tip_of x.1)) → ((h : ℕ) (s : Side) → Has S o u (link_tip h s) → R u (link_tip h s))
      → Change p R next u (S u) (some (becoming d l r))
  becomes R u r su d l w f hl hk = record {
    alike = ap (λ b. some (r.link, b)) (sym w) ∙ ap profile (sym su);
    after = one_after (becoming d l r) (G.placed u r su) f here;
  }
    where
      here : (e : Tip) → Tips u (becoming d l r) e → R u e
      here e (holds x i z) = rw z (hl x i)
      here e (links h k z) = rw z (hk h provided (inside r su (links h k refl)))
      here e (waits k z) = rw z (hk u used (inside r su (waits (w ∙ k) refl)))

  -- the process r of u becomes q
  pub one_good : {R : Rel} {o' : List Outside} {given' : ℕ} → Witness p R next → (u : ℕ) (q : Process) → Change p R next u (S u) (some q)
      → ((v : ℕ) (e : Tip) → v ≢ u → v ≢ 0 → Has S o v e → R v e) → ((y : Outside) → In y o' → R 0 (outside_tip y)) → Fair p given' o' → Good p (put u (some q) S) o' given' next
  one_good {R} W u q c rest out f = changed_good W (put_elim (λ v y. Change p R next v (S v) y) u (some q) S c (λ v n. unchanged R v (λ e. rest v e n))) out f

  -- those of u and w become q and q'
  pub two_good : {R : Rel} → Witness p R next → (u w : ℕ) (q q' : Process) → Change p R next u (S u) (some q) → Change p R next w (S w) (some q')
      → ((v : ℕ) (e : Tip) → v ≢ u → v ≢ w → Has S o v e → R v e) → u ≢ 0 → w ≢ 0 → Good p (put w (some q') (put u (some q) S)) o given next
  two_good {R} W u w q q' c c' rest u0 w0 =
      changed_good W
      (put_elim (λ v y. Change p R next v (S v) y) w (some q') (put u (some q) S) c'
      (λ v n. put_elim (λ v y. v ≢ w → Change p R next v (S v) y) u (some q) S (λ _. c) (λ v m n. unchanged R v (λ e _. rest v e m n)) v n))
      (λ y i. rest 0 (outside_tip y) (λ e. u0 (sym e)) (λ e. w0 (sym e)) (outside refl y i refl)) G.fair

-- ── a process that holds less: whatever it does then, and is linked to
pub fine_holding : {p : Program} {r : Process} → Fine p r → (d : Doing) (k : Option ℕ) {l : List (Name × End)} → Sublistᴰ l r.held → NamesDiffer d (names l)
    → TypedDoing p (context_of l) d → Fine p (linked_by k (becoming d l r))
fine_holding f d k s n t = record {
  typed = t;
  names = n;
  keys = sub_once key_at s f.keys;
  room = let a = f.room in let b = sub_length s in omega arith;
  channels = λ x i. f.channels x (sub_in s i);
}

-- with its link
pub fine_less : {p : Program} {r : Process} → Fine p r → (d : Doing) → Goes r.doing d → {l : List (Name × End)} → Sublistᴰ l r.held → TypedDoing p (context_of l) d
    → Fine p (becoming d l r)
fine_less {r = r} f d w s t = fine_holding f d r.link s (names_less d s (w.names (names r.held) f.names)) t
