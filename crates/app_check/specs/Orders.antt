-- The text of an order of the moves of calls.
use Rattle.std.specs.Prelude.{ℕ, ◌+◌, List, [], ◌∷◌, ◌++◌, codes}
use Rattle.std.specs.Fmt.{decimal}
use Rattle.history_check.specs.declared.recorded.Move.{Move, Move as move}

-- how many lines of the history a move takes
abbrev pub lines_in : Move → ℕ
lines_in move.Event = 1
lines_in m = 0

-- a line: after which line of the history, in whose call, and what
abbrev pub line_text : ℕ → ℕ → List ℕ → List ℕ
line_text after p what = decimal after ++ 32 ∷ decimal p ++ what ++ 10 ∷ []

-- the line of a move of a call
abbrev pub move_text : ℕ → Move → List ℕ
move_text after move.Event = []
move_text after (move.See p r) = line_text after p (codes " sees")
move_text after (move.Act p r) = line_text after p (codes " acts")
move_text after (move.Part p r) = line_text after p (codes " takes")
move_text after (move.Arrive p) = line_text after p (codes " arrives")
move_text after (move.Displace p r) = line_text after p (codes " displaces")

-- the lines of moves, the first of which comes after so many lines of the history
abbrev pub moves_text : ℕ → List Move → List ℕ
moves_text after [] = []
moves_text after (m ∷ ms) = move_text after m ++ moves_text (after + lines_in m) ms

-- an order of a legal history
abbrev pub order_text : List Move → List ℕ
order_text moves = codes "legal" ++ 10 ∷ moves_text 0 moves
