-- What is printed of outcomes.
use Rattle.std.specs.Prelude.{◌≡◌, ℕ, zero, suc, ◌+◌, List, [], ◌∷◌, ◌++◌, codes, length}
use Rattle.std.specs.{Fmt.decimal, declared.cmp.Ordering.TheVariants.Less, Ordering.nat_cmp, Cmp.Lexicographic.slice_cmp, List.AllAdjacentBelow}
use Rattle.queue_steps.specs.declared.model.Reply.{Reply}
use Rattle.machine_explore.specs.Positions.{Outcome}
use Rattle.app_text.specs.{Items.items_text, Replies.reply_text}
use Rattle.app_explore.specs.Lists.{listed}

-- what stands before the reply at this place
abbrev pub lead_text : ℕ → List ℕ
lead_text zero = codes " "
lead_text (suc n) = codes "; "

abbrev pub replies_text : List (Reply ℕ) → List ℕ
replies_text replies = listed reply_text replies

-- the replies of the party of this number, and the bar behind them
abbrev pub party_text : ℕ → List (Reply ℕ) → List ℕ
party_text n replies = decimal n ++ codes ":" ++ replies_text replies ++ codes " | "

-- those of each party, of which the first has the number n
abbrev pub parties_text : ℕ → List (List (Reply ℕ)) → List ℕ
parties_text n [] = []
parties_text n (replies ∷ others) = party_text n replies ++ parties_text (n + 1) others

-- the replies of each party, and what is left
abbrev pub outcome_text : List (List (Reply ℕ)) → List ℕ → List ℕ
outcome_text replies left = parties_text 0 replies ++ codes "left" ++ items_text left

abbrev pub text_of : Outcome ℕ → List ℕ
text_of o = outcome_text o.replies o.left

-- each text is below the next one, byte for byte: they are sorted, and no two are the same
abbrev pub AreInOrder : List (List ℕ) → Type 0
AreInOrder texts = AllAdjacentBelow (λ x y. slice_cmp nat_cmp x y ≡ Less) texts (length texts)

-- the line of the outcome of this number
abbrev pub outcome_line : ℕ → List ℕ → List ℕ → List ℕ
outcome_line n outcome tail = codes "outcome " ++ decimal n ++ codes " | " ++ outcome ++ tail ++ 10 ∷ []
