-- The plain machine's replies, by what is asked: past the refusals of the text, and past 16.
use Rattle.std.specs.Prelude.{ℕ, ◌<◌, ◌≤◌, List, Bool, length, Ok}
use Rattle.std.proofs.Math.Path.{◌≡◌, refl}
use Rattle.std.proofs.Common.{sym, ◌∙◌, ap, arith}
use Rattle.std.proofs.Math.Bool.{true, false, cond}
use Rattle.std.proofs.lemmas.Bool.{false≢true}
use borrow.Author.Tests.{le-leb, lt-leb, leb-true}
use Rattle.std.proofs.Math.Dec.{leb}
use Rattle.std.proofs.Math.ListN.{get_elem?}
use Rattle.notation.specs.Limits.{scratch_words, run_words}
use Rattle.notation.specs.Tree.{Declaration}
use Rattle.calculus.specs.Accepted.{Checked, accepted, faulty, checked}
use Rattle.calculus.specs.Configuration.{Config, halt, at}
use Rattle.calculus.specs.Machine.{Answer, started, stepped, ran_on, reported, surveyed, name_given, Reply, reply, text_checked, on_program, on_run, on_line, on_going, on_place, on_step, refusal, respond, idle}
use Rattle.calculus.specs.Program.{Program, program_of}
use Rattle.calculus.specs.Runs.{start_config, exec_of, run_on, report, places}
use Rattle.calculus.specs.Steps.{step}
use Rattle.calculus.specs.declared.answers.Stepped.TheVariants as steps
use Rattle.theory_safety.specs.Replies.{text_checked_enough, enough_text}
use Rattle.interpreter.specs.Entries.{Request, to_start, to_step, to_run_on, to_report, to_places, to_name, call_as, RunUse, anew, read, unlent, use_of, is_read, RunAfter}

-- a refusal as it answers what is asked
abbrev pub refusal_to : Request → ℕ → ℕ → Answer
refusal_to q k i = (refusal idle (call_as q 0 0) k i).answer

abbrev pub refuse : Request → Config → ℕ → ℕ → Reply
refuse q C k i = reply (refusal_to q k i) C

-- where a run is lent, refusal 16 is tested
abbrev pub is_lent : RunUse → Bool
is_lent anew = true
is_lent read = true
is_lent unlent = false

pub read_lent : (u : RunUse) → is_read u ≡ true → is_lent u ≡ true
read_lent anew e = refl
read_lent read e = refl
read_lent unlent e = e

abbrev pub on_lent : RunUse → ℕ → (ℕ → ℕ → Reply) → Reply → Reply
on_lent anew run f y = on_run run f y
on_lent read run f y = on_run run f y
on_lent unlent run f y = y

-- the reply past 16
abbrev pub past_run : Program → Request → Config → Reply
past_run p (to_start line) C = on_line (exec_of p line) (refuse (to_start line) C) λ g. reply (started (Ok tt)) (start_config g)
past_run p (to_step place) C =
    on_going C.halted (refuse (to_step place) C)
    (on_place (at C place) (refuse (to_step place) C)
    (on_step (step p C place) (refuse (to_step place) C) (λ seen D. reply (stepped (Ok (steps.Carried seen))) D) (reply (stepped (Ok steps.Uncaught)) (halt C))))
past_run p (to_run_on budget) C = reply (ran_on (Ok (run_on p C budget).answer)) (run_on p C budget).config
past_run p to_report C = reply (reported (Ok (length (report C))) (report C)) C
past_run p to_places C = reply (surveyed (Ok (length (places p C))) (places p C)) C
past_run p (to_name line) C = on_line (get_elem? p.execs line) (refuse (to_name line) C) λ n. reply (name_given n.name 0 0) C

pub refusal_is : (C : Config) (q : Request) (n m k i : ℕ) → refusal C (call_as q n m) k i ≡ refuse q C k i
refusal_is C (to_start line) n m k i = refl
refusal_is C (to_step place) n m k i = refl
refusal_is C (to_run_on budget) n m k i = refl
refusal_is C to_report n m k i = refl
refusal_is C to_places n m k i = refl
refusal_is C (to_name line) n m k i = refl

module _ (s : List ℕ) where
  -- past the refusals of the text there are scratch words enough
  pub past_text : (ds : List Declaration) (n : ℕ) → text_checked s n ≡ accepted ds → (checked s ≡ accepted ds) × (scratch_words ≤ n)
  unfolding text_checked
  past_text ds n = go (leb scratch_words n) refl
    where
      go : (b : Bool) → leb scratch_words n ≡ b → cond b (checked s) (faulty 1 0) ≡ accepted ds → (checked s ≡ accepted ds) × (scratch_words ≤ n)
      go true e a = (a, leb-true scratch_words n e)
      go false e a = absurd (let z : ◌≡◌ {A = ℕ} 0 1 = cc in omega arith)

  -- the reply to each request, by the text's own verdict
  pub reply_by : (q : Request) (C : Config) (n m : ℕ) → respond s C (call_as q n m) ≡ on_program (text_checked s n) (refuse q C) (λ p. on_lent (use_of q) m (refuse q C) (past_run p q C))
  unfolding respond
  reply_by (to_start line) C n m = refl
  reply_by (to_step place) C n m = refl
  reply_by (to_run_on budget) C n m = refl
  reply_by to_report C n m = refl
  reply_by to_places C n m = refl
  reply_by (to_name line) C n m = refl

  -- the same, where the verdict is known
  reply_on : (q : Request) (C : Config) (n m : ℕ) {t : Checked} → text_checked s n ≡ t → respond s C (call_as q n m) ≡ on_program t (refuse q C) (λ p. on_lent (use_of q) m (refuse q C) (past_run p q C))
  reply_on q C n m e = reply_by q C n m ∙ ap (λ t. on_program t (refuse q C) (λ p. on_lent (use_of q) m (refuse q C) (past_run p q C))) e

  pub reply_refused : (q : Request) (C : Config) (n m k i : ℕ) → text_checked s n ≡ faulty k i → respond s C (call_as q n m) ≡ refuse q C k i
  reply_refused q C n m k i e = reply_on q C n m e

  pub replies_alike : (q : Request) (C : Config) (n n' m : ℕ) → scratch_words ≤ n → scratch_words ≤ n' → respond s C (call_as q n m) ≡ respond s C (call_as q n' m)
  replies_alike q C n n' m h h' = reply_on q C n m (text_checked_enough s n h) ∙ sym (reply_on q C n' m (text_checked_enough s n' h'))

  module _ (ds : List Declaration) (ok : checked s ≡ accepted ds) where
    pub reply_accepted : (q : Request) (C : Config) (n m : ℕ) → scratch_words ≤ n → respond s C (call_as q n m) ≡ on_lent (use_of q) m (refuse q C) (past_run (program_of ds) q C)
    reply_accepted q C n m h = reply_on q C n m (enough_text s ds ok n h)

-- 16, and past it
pub lent_short : (u : RunUse) (m : ℕ) (f : ℕ → ℕ → Reply) (y : Reply) → is_lent u ≡ true → m < run_words → on_lent u m f y ≡ f 16 0
lent_short anew m f y e l = ap (λ b. cond b y (f 16 0)) (lt-leb run_words m l)
lent_short read m f y e l = ap (λ b. cond b y (f 16 0)) (lt-leb run_words m l)
lent_short unlent m f y e l = absurd (false≢true e)

pub lent_past : (u : RunUse) (m : ℕ) (f : ℕ → ℕ → Reply) (y : Reply) → (is_lent u ≡ true → run_words ≤ m) → on_lent u m f y ≡ y
lent_past anew m f y l = ap (λ b. cond b y (f 16 0)) (le-leb run_words m (l refl))
lent_past read m f y l = ap (λ b. cond b y (f 16 0)) (le-leb run_words m (l refl))
lent_past unlent m f y l = refl

-- a refusal leaves the run
pub untouched : {s ws : List ℕ} (q : Request) (C : Config) (k i : ℕ) → RunAfter s q ws ws (refuse q C k i)
untouched (to_start line) C k i = record { is = refl }
untouched (to_step place) C k i = record { is = refl }
untouched (to_run_on budget) C k i = record { is = refl }
untouched to_report C k i = record { is = refl }
untouched to_places C k i = record { is = refl }
untouched (to_name line) C k i = record { is = refl }
