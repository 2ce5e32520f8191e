-- What C's calls do to its handles, each of which has a party or none.
use Rattle.std.specs.Prelude.{◌≡◌, ℕ, Option, Some, None, Result, Ok, Err}
use Rattle.std.specs.{Result.result_ok, Arc.arc_value}
use Rattle.queue_steps.specs.declared.model.Call.{Call}
use Rattle.queue_c.specs.declared.{answers.Answer.Answer, answers.Answer.Answer as answer, end.End.End, end.Refusal.Refusal, end.Refusal.Refusal as refusal, end.Finished.Finished, end.Finished.Finished as finished}
use Rattle.queue_c.specs.{Answers.number_of, Answers.written, Ends.IsNew, Ends.Takes, Ends.Resumes, Ends.SplitsEnd, Ends.FinishesEnd}
use Rattle.queue_c.specs.Numbers.{DONE, YES, NO_MEMORY, NO_PARTY, TAKEN, TOO_MANY, SHARED, LOST, BUSY}

-- a new queue of this capacity: its first party is in the handle, which had none; or nothing is changed
abbrev pub Opens : Option ℕ → Option End → ℕ → Option End → Type 0
Opens cap (Some e) n after = (n ≡ TAKEN) × (after ≡ Some e)
Opens cap None n (Some f) = (n ≡ DONE) × IsNew cap f
Opens cap None n None = n ≡ NO_MEMORY

-- the call c of a handle
abbrev pub Makes : Call ℕ → Option End → Answer → Option End → Type 0
Makes c None answer.NoParty None = Unit {0}
Makes c (Some e) a (Some f) = (arc_value f.queue ≡ arc_value e.queue) × Takes c e.turn a f.turn
Makes c _ _ _ = ⊥

-- a handle's pending call is taken up again
abbrev pub TakesUp : Option End → Answer → Option End → Type 0
TakesUp None answer.NoParty None = Unit {0}
TakesUp (Some e) a (Some f) = (arc_value f.queue ≡ arc_value e.queue) × Resumes e.turn a f.turn
TakesUp _ _ _ = ⊥

-- the call, as C sees it: C gets the number n
abbrev pub Asks : Call ℕ → Option End → ℕ → Option End → Type 0
Asks c before n after = (a : Answer) × Makes c before a after × (n ≡ number_of a)

-- and where the value goes, what was `was` becomes `is`
abbrev pub Gets : Call ℕ → Option End → ℕ → ℕ → ℕ → Option End → Type 0
Gets c before n was is after = (a : Answer) × Makes c before a after × (n ≡ number_of a) × (is ≡ written a was)

abbrev pub GetsLate : Option End → ℕ → ℕ → ℕ → Option End → Type 0
GetsLate before n was is after = (a : Answer) × TakesUp before a after × (n ≡ number_of a) × (is ≡ written a was)

abbrev pub refusal_number : Refusal → ℕ
refusal_number refusal.Pending = BUSY
refusal_number refusal.TooMany = TOO_MANY
refusal_number refusal.NoMemory = NO_MEMORY

abbrev pub split_number : Result End Refusal → ℕ
split_number (Ok g) = DONE
split_number (Err why) = refusal_number why

-- the handle's party is split, and the other half is in the second handle, which had none; or nothing is changed
abbrev pub Splits : Option End → Option End → ℕ → Option End → Option End → Type 0
Splits party (Some e) n party_after out_after = (n ≡ TAKEN) × (party_after ≡ party) × (out_after ≡ Some e)
Splits None None n party_after out_after = (n ≡ NO_PARTY) × (party_after ≡ None) × (out_after ≡ None)
Splits (Some e) None n (Some f) out_after = (r : Result End Refusal) × SplitsEnd e r f × (n ≡ split_number r) × (out_after ≡ result_ok r)
Splits (Some e) None n None out_after = ⊥

-- the handle's party is dropped, if there is one
abbrev pub Drops : Option End → ℕ → Option End → Type 0
Drops None n after = (n ≡ NO_PARTY) × (after ≡ None)
Drops (Some e) n after = (n ≡ DONE) × (after ≡ None)

abbrev pub ShowsCap : Option ℕ → ℕ → ℕ → ℕ → Type 0
ShowsCap None n was is = (n ≡ DONE) × (is ≡ was)
ShowsCap (Some cap) n was is = (n ≡ YES) × (is ≡ cap)

-- the capacity of the handle's queue, which changes nothing
abbrev pub Shows : Option End → ℕ → ℕ → ℕ → Option End → Type 0
Shows None n was is after = (n ≡ NO_PARTY) × (is ≡ was) × (after ≡ None)
Shows (Some e) n was is after = ShowsCap (arc_value e.queue).cap n was is × (after ≡ Some e)

abbrev pub finish_number : Finished → ℕ
finish_number (finished.Left n) = DONE
finish_number finished.Lost = LOST
finish_number (finished.Shared e) = SHARED
finish_number (finished.Busy e) = BUSY

abbrev pub finish_value : Finished → ℕ → ℕ
finish_value (finished.Left n) was = n
finish_value finished.Lost was = was
finish_value (finished.Shared e) was = was
finish_value (finished.Busy e) was = was

abbrev pub finish_end : Finished → Option End
finish_end (finished.Left n) = None
finish_end finished.Lost = None
finish_end (finished.Shared e) = Some e
finish_end (finished.Busy e) = Some e

-- the queue is ended by its only party, and where the number of items goes, what was `was` becomes `is`
abbrev pub FinishesQueue : Option End → ℕ → ℕ → ℕ → Option End → Type 0
FinishesQueue None n was is after = (n ≡ NO_PARTY) × (is ≡ was) × (after ≡ None)
FinishesQueue (Some e) n was is after = (r : Finished) × FinishesEnd e r × (n ≡ finish_number r) × (is ≡ finish_value r was) × (after ≡ finish_end r)
