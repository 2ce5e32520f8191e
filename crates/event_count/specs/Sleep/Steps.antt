-- What a party does next, and where it is then.
use Rattle.std.specs.Prelude.{ℕ, ◌%◌, ◌^◌, ◌==◌, Bool, if◌then◌else◌}
use Rattle.event_count.specs.declared.wakes.steps.{Phase.Phase, Step.Step, Step.TheVariants.Rest, Step.TheVariants.Load, Step.TheVariants.Add, Step.TheVariants.Take, Step.TheVariants.Clear, Step.TheVariants.Park, Step.TheVariants.Wake, Whom.TheVariants.One, Whom.TheVariants.All, Word.Word as word}
use Rattle.event_count.specs.declared.wakes.steps.Phase.TheVariants.{Idle, Starting, Loaded, Prepared, Missed, Returned, Given, Taking, Clearing, Moving, Waking}

-- what a park compares
abbrev pub low : ℕ → ℕ
low n = n % 2 ^ 32

abbrev pub step_of : Phase → Step
step_of Idle = Rest
step_of Starting = Load word.Events
step_of (Loaded events) = Add word.Sleepers
step_of (Prepared events) = Rest
step_of (Missed events) = Park (low events)
step_of Returned = Rest
step_of Given = Load word.Sleepers
step_of (Taking sleepers) = Take sleepers
step_of Clearing = Clear
step_of (Moving whom) = Add word.Events
step_of (Waking whom) = Wake whom

-- where it is after a step that found a number
abbrev pub after_of : Phase → ℕ → Phase
after_of Idle found = Idle
after_of Starting found = Loaded found
after_of (Loaded events) found = Prepared events
after_of (Prepared events) found = Prepared events
after_of (Missed events) found = Returned
after_of Returned found = Returned
after_of Given found = if found == 0 then Idle else Taking found
after_of (Taking sleepers) found = Moving One
after_of Clearing found = Moving All
after_of (Moving whom) found = Waking whom
after_of (Waking whom) found = Idle

-- where it is after its caller has looked
abbrev pub looked_of : Phase → Bool → Phase
looked_of Idle found = Idle
looked_of Starting found = Starting
looked_of (Loaded events) found = Loaded events
looked_of (Prepared events) found = if found then Idle else Missed events
looked_of (Missed events) found = Missed events
looked_of Returned found = Idle
looked_of Given found = Given
looked_of (Taking sleepers) found = Taking sleepers
looked_of Clearing found = Clearing
looked_of (Moving whom) found = Moving whom
looked_of (Waking whom) found = Waking whom
