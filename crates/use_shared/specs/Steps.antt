-- What a step of a task leaves.
use Rattle.use_shared.specs.declared.tasks.stepped.Step.{Step, Step as step}

-- the first fact holds of a task that has more to do, the second of an output
abbrev pub MatchStep : {T D : Type 0} → Step T D → (T → Type 0) → (D → Type 0) → Type 0
MatchStep (step.More next) M O = M next
MatchStep (step.Done output) M O = O output
