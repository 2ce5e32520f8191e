use Rattle.history_check.proofs.left_out.are_plain.Goals as goal

pub returns-in-Some : goal.returns-in-Some
returns-in-Some c = λ yes. rw c.in-Some.is (c.are_unforced.ensures yes c.in-Some.field-0)
