use Rattle.callers.proofs.parties.+close_by_many.Given as goal

-- each call parts off one party less
abbrev pub decreases-close_by_many : goal.decreases-close_by_many
decreases-close_by_many l = l.count
