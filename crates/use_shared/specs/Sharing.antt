-- What a worker does: how many items of each number its parties hand in and out.
use Rattle.std.specs.Prelude.{◌≡◌, ℕ, zero, suc, ◌+◌, ◌<◌, ◌==◌, cond, [], Option, Some, None}
use Rattle.queue_steps.specs.{Shares.SamePart, Shares.IsEntire, Parties.IsView, Effect.after}
use Rattle.concurrent_queue.specs.Shared.{PartyView, IsPartyOf, Parts, Joins}
use Rattle.law_parties.specs.Doings.{done_by, hands_in_such, hands_out_such}
use Rattle.use_shared.specs.declared.tasks.executor.{Executor.Executor, Worker.Worker}

-- how many of each number: none, one of n, one of each below n
abbrev pub none : ℕ → ℕ
none i = 0

abbrev pub one : ℕ → ℕ → ℕ
one n i = cond (n == i) 1 0

abbrev pub below : ℕ → ℕ → ℕ
below zero i = 0
below (suc n) i = below n i + one n i

-- the one that was taken, if there was one
abbrev pub taken : {A : Type 0} → (A → ℕ) → Option A → ℕ → ℕ
taken key (Some x) = one (key x)
taken key None = none

-- how many items of the number i the party has handed in, and out
abbrev pub came : {A : Type 0} → (A → ℕ) → ℕ → PartyView A → ℕ
came key i p = done_by (hands_in_such (λ x. key x == i)) p.view

abbrev pub went : {A : Type 0} → (A → ℕ) → ℕ → PartyView A → ℕ
went key i p = done_by (hands_out_such (λ x. key x == i)) p.view

-- the queue that the party has seen is empty
abbrev pub SawEmpty : {A : Type 0} → PartyView A → Type 0
SawEmpty p = (after p.queue.cap p.view.seen).items ≡ []

-- if the party has all of the share, nothing is left in the queue
abbrev pub SeesNone : {A : Type 0} → PartyView A → Type 0
SeesNone p = IsEntire p.view.share → SawEmpty p

module _ {A B : Type 0} where
  -- the worker's parties are those of these queues
  abbrev pub IsWorkerOf : {H : Type 0} → Worker A B → Executor A B H → Type 0
  IsWorkerOf w e = IsPartyOf w.tasks e.tasks × IsPartyOf w.outputs e.outputs

  -- how many a worker has handed in, and out, at both queues. a and b are the numbers of what is in them
  abbrev pub all_came : (A → ℕ) → (B → ℕ) → ℕ → Worker A B → ℕ
  all_came a b i w = came a i w.tasks + came b i w.outputs

  abbrev pub all_went : (A → ℕ) → (B → ℕ) → ℕ → Worker A B → ℕ
  all_went a b i w = went a i w.tasks + went b i w.outputs

  -- the worker v becomes w, which has put so many more into both queues than it has taken out of them, where those of less were taken
  pub record Moves (a : A → ℕ) (b : B → ℕ) (v w : Worker A B) (more less : ℕ → ℕ) : Type 0 where
    pub queues : (w.tasks.queue ≡ v.tasks.queue) × (w.outputs.queue ≡ v.outputs.queue)
    pub shares : SamePart w.tasks.view.share v.tasks.view.share × SamePart w.outputs.view.share v.outputs.view.share
    pub moved : (i : ℕ) → all_came a b i w + (all_went a b i v + less i) ≡ all_came a b i v + (all_went a b i w + more i)

  -- a worker that has done nothing, and has all of both shares
  abbrev pub IsFresh : Worker A B → Type 0
  IsFresh w = (w.tasks.view.mine ≡ []) × (w.outputs.view.mine ≡ []) × IsEntire w.tasks.view.share × IsEntire w.outputs.view.share

  -- the worker v is parted into two
  pub record AreParts (v x y : Worker A B) : Type 0 where
    pub tasks : Parts v.tasks x.tasks y.tasks
    pub outputs : Parts v.outputs x.outputs y.outputs
    pub views : IsView v.tasks.queue.cap v.tasks.view × IsView v.outputs.queue.cap v.outputs.view

  -- two workers become one
  pub record AreJoined (x y w : Worker A B) : Type 0 where
    pub tasks : Joins x.tasks y.tasks w.tasks
    pub outputs : Joins x.outputs y.outputs w.outputs
    pub tasks_views : IsView x.tasks.queue.cap x.tasks.view × IsView y.tasks.queue.cap y.tasks.view
    pub outputs_views : IsView x.outputs.queue.cap x.outputs.view × IsView y.outputs.queue.cap y.outputs.view

  -- all is done: the worker has all of both shares, the queue of tasks is empty, and of each number below n it has handed in one more than it has handed out
  pub record IsDone (a : A → ℕ) (b : B → ℕ) (n : ℕ) (w : Worker A B) : Type 0 where
    pub whole : IsEntire w.tasks.view.share × IsEntire w.outputs.view.share
    pub empty : SawEmpty w.tasks
    pub each : (i : ℕ) → i < n → all_came a b i w ≡ all_went a b i w + 1
