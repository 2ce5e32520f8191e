-- Which jobs were handed out, and what a worker has done.
use Rattle.std.specs.Prelude.{◌≡◌, ℕ, zero, suc, ◌+◌, ◌<◌, ◌==◌, true, List, [], ◌∷◌, ◌++◌}
use Rattle.std.specs.List.{count_by}
use Rattle.queue_steps.specs.declared.model.Effect.{Effect, Effect as effect}
use Rattle.concurrent_queue.specs.Shared.{PartyView}
use Rattle.law_parties.specs.Doings.{done_by, hands_in, hands_out, SawDrained}
use Rattle.use_shared.specs.declared.work.{Report.Report, Haul.Haul}

-- how often the job is in the list
abbrev pub times : ℕ → List ℕ → ℕ
times job jobs = count_by (λ j. j == job) jobs

-- each job was handed to one worker, once, or is left
abbrev pub EachOnce : ℕ → Report → Type 0
EachOnce jobs report = (job : ℕ) → job < jobs → times job report.handed.items + times job report.left.queue.items ≡ 1

-- none is left where there was a worker
abbrev pub NoneLeft : ℕ → Report → Type 0
NoneLeft workers report = 0 < workers → report.left.queue.items ≡ []

-- the jobs below n are appended, one after another
abbrev pub appended : ℕ → List (Effect ℕ)
appended zero = []
appended (suc n) = appended n ++ effect.Append n ∷ []

-- from v to w the party took these jobs, and appended none
abbrev pub Took : PartyView ℕ → PartyView ℕ → List ℕ → Type 0
Took v w jobs = (job : ℕ) → (done_by (hands_out job) w.view ≡ done_by (hands_out job) v.view + times job jobs) × (done_by (hands_in job) w.view ≡ done_by (hands_in job) v.view)

-- all that the party has done is that it took these jobs
abbrev pub HasTaken : PartyView ℕ → List ℕ → Type 0
HasTaken p jobs = (job : ℕ) → (done_by (hands_out job) p.view ≡ times job jobs) × (done_by (hands_in job) p.view ≡ 0)

-- a worker's haul that is finished: what its party took, which has seen the queue closed and empty
abbrev pub Hauled : ℕ → PartyView ℕ → Haul → Type 0
Hauled number p haul = haul.finished ≡ true → HasTaken p haul.handed.items × SawDrained p

-- the jobs of all workers, worker by worker
abbrev pub all_handed : List Haul → List ℕ
all_handed [] = []
all_handed (h ∷ hs) = h.handed.items ++ all_handed hs
