-- How it is printed who waits for whom.
use Rattle.std.specs.Prelude.{ℕ, ◌+◌, Option, Some, None, List, [], ◌∷◌, ◌++◌, codes, length}
use Rattle.std.specs.Fmt.{decimal}
use Rattle.queue_steps.specs.declared.model.Call.{Call}
use Rattle.machine_explore.specs.{declared.waiting.Side.Side, Waiting.Waiting}
use Rattle.app_text.specs.Calls.{call_text}
use Rattle.machine_memory.specs.Places.{label_text}

abbrev pub party_call_text : ℕ → Option (Call ℕ) → List ℕ
party_call_text p (Some c) = decimal p ++ codes ": " ++ call_text c
party_call_text p None = decimal p ++ codes ":"

-- the party, its call, and the step before which that stands
abbrev pub side_text : Side → List ℕ
side_text s = party_call_text s.party s.call ++ codes " at " ++ label_text s.local

-- who waits, and for whom
abbrev pub sides_text : Side → Side → List ℕ
sides_text waiter other = side_text waiter ++ codes " | " ++ side_text other

abbrev pub wait_text : Waiting → List ℕ
wait_text x = sides_text x.waiter x.other

-- the line of this number
abbrev pub wait_line : ℕ → Side → Side → List ℕ
wait_line n waiter other = codes "wait " ++ decimal n ++ codes " | " ++ sides_text waiter other ++ 10 ∷ []

-- a line for each, of which the first has the number n
abbrev pub wait_lines : ℕ → List Waiting → List ℕ
wait_lines n [] = []
wait_lines n (x ∷ xs) = wait_line n x.waiter x.other ++ wait_lines (n + 1) xs

-- all of them, and how many there are
abbrev pub waits_text : List Waiting → List ℕ
waits_text xs = wait_lines 1 xs ++ decimal (length xs) ++ codes " in all" ++ 10 ∷ []
