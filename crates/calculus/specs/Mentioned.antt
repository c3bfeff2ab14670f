-- Which names a process mentions: a constructor for each way to mention one. The tests are in Mentions.antt.
use Rattle.std.specs.Prelude.{ℕ, ◌≡◌, ◌≢◌, List}
use Rattle.notation.specs.Tree.{Name, Located, Ty, Proc, send_unit, send_channel, send_label, cancel, spawn, recv_unit, recv_channel, recv_label, fwd, call, raise, try, Branches, branch}
use Rattle.calculus.specs.Named.{In}

-- a name that a term acts on, passes or gives, or that what follows it mentions: "A name bound anew inside a half is no mention of a held one."
mutual
  pub data Mentions : Proc → Name → Type 0 where
    -- `send c ()`
    by_send_unit : {n : Name} {at : ℕ} {c : Located} {P : Proc} → n ≡ c.name → Mentions (send_unit at c P) n
    after_send_unit : {n : Name} {at : ℕ} {c : Located} {P : Proc} → Mentions P n → Mentions (send_unit at c P) n
    -- `recv c (() => P)`
    by_recv_unit : {n : Name} {at : ℕ} {c : Located} {P : Proc} → n ≡ c.name → Mentions (recv_unit at c P) n
    after_recv_unit : {n : Name} {at : ℕ} {c : Located} {P : Proc} → Mentions P n → Mentions (recv_unit at c P) n
    -- `send c a`
    by_send_channel : {n : Name} {at : ℕ} {c a : Located} {P : Proc} → n ≡ c.name → Mentions (send_channel at c a P) n
    as_sent : {n : Name} {at : ℕ} {c a : Located} {P : Proc} → n ≡ a.name → Mentions (send_channel at c a P) n
    after_send_channel : {n : Name} {at : ℕ} {c a : Located} {P : Proc} → Mentions P n → Mentions (send_channel at c a P) n
    -- `recv c (x => P)`: x is bound anew in P
    by_recv_channel : {n : Name} {at : ℕ} {c x : Located} {P : Proc} → n ≡ c.name → Mentions (recv_channel at c x P) n
    after_recv_channel : {n : Name} {at : ℕ} {c x : Located} {P : Proc} → n ≢ x.name → Mentions P n → Mentions (recv_channel at c x P) n
    -- `send c 'l`
    by_send_label : {n : Name} {at : ℕ} {c l : Located} {P : Proc} → n ≡ c.name → Mentions (send_label at c l P) n
    after_send_label : {n : Name} {at : ℕ} {c l : Located} {P : Proc} → Mentions P n → Mentions (send_label at c l P) n
    -- `recv c` with labels
    by_recv_label : {n : Name} {at : ℕ} {c : Located} {B : Branches} → n ≡ c.name → Mentions (recv_label at c B) n
    in_branches : {n : Name} {at : ℕ} {c : Located} {B : Branches} → BranchesMention B n → Mentions (recv_label at c B) n
    -- `fwd x c`
    as_provided : {n : Name} {at : ℕ} {x c : Located} → n ≡ x.name → Mentions (fwd at x c) n
    as_used : {n : Name} {at : ℕ} {x c : Located} → n ≡ c.name → Mentions (fwd at x c) n
    -- `call`: a name of the first list, or of the second
    in_provided : {n : Name} {at bracket : ℕ} {q : Located} {xs ys : List Located} (x : Located) → In x xs → n ≡ x.name → Mentions (call at q bracket xs ys) n
    in_used : {n : Name} {at bracket : ℕ} {q : Located} {xs ys : List Located} (y : Located) → In y ys → n ≡ y.name → Mentions (call at q bracket xs ys) n
    -- `x : A <- (P); Q`: x is bound anew in both halves
    in_spawned : {n : Name} {x : Located} {A : Ty Located} {P Q : Proc} → n ≢ x.name → Mentions P n → Mentions (spawn x A P Q) n
    in_rest : {n : Name} {x : Located} {A : Ty Located} {P Q : Proc} → n ≢ x.name → Mentions Q n → Mentions (spawn x A P Q) n
    -- `try (P) catch (Q)`
    in_tried : {n : Name} {at : ℕ} {P Q : Proc} → Mentions P n → Mentions (try at P Q) n
    in_handler : {n : Name} {at : ℕ} {P Q : Proc} → Mentions Q n → Mentions (try at P Q) n
    -- `raise P`
    after_raise : {n : Name} {at : ℕ} {P : Proc} → Mentions P n → Mentions (raise at P) n
    -- `cancel c`
    by_cancel : {n : Name} {at : ℕ} {c : Located} {P : Proc} → n ≡ c.name → Mentions (cancel at c P) n
    after_cancel : {n : Name} {at : ℕ} {c : Located} {P : Proc} → Mentions P n → Mentions (cancel at c P) n

  -- one of the branches does
  pub data BranchesMention : Branches → Name → Type 0 where
    in_this : {n : Name} {l : Located} {P : Proc} {B : Branches} → Mentions P n → BranchesMention (branch l P B) n
    in_another : {n : Name} {l : Located} {P : Proc} {B : Branches} → BranchesMention B n → BranchesMention (branch l P B) n

-- a half of `x : A <- (P); Q` mentions a held name; x in either half is the new one
abbrev pub HalfMentions : Name → Proc → Name → Type 0
HalfMentions x P n = (n ≢ x) × Mentions P n
