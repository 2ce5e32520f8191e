-- What a search finds, and what is decided of a history.
use Rattle.std.specs.Prelude.{ℕ, ◌≤◌, List, length, take}
use Rattle.history_check.specs.declared.{recorded.Event.Event, recorded.Rules.Rules, search.Found.Found, search.Found.Found as found, decide.Verdict.Verdict, decide.Verdict.Verdict as verdict}
use Rattle.history_check.specs.Legal.{IsOrder, IsLegal, IsShortest}

-- where nothing is found, the history is not legal
abbrev pub IsRefuted : {A : Type 0} → Rules → ℕ → List Event → Found A → Type 0
IsRefuted rules parties events (found.Order moves) = Unit {0}
IsRefuted rules parties events (found.Nothing n) = ¬ (IsLegal rules parties events)
IsRefuted rules parties events found.TooMany = Unit {0}

-- and what is found is an order
abbrev pub IsFound : {A : Type 0} → Rules → ℕ → List Event → Found A → Type 0
IsFound rules parties events (found.Order moves) = IsOrder rules parties events moves.items
IsFound rules parties events (found.Nothing n) = ¬ (IsLegal rules parties events)
IsFound rules parties events found.TooMany = Unit {0}

-- the order is one; or this is the shortest beginning that is not legal; or nothing is known
abbrev pub IsVerdict : {A : Type 0} → Rules → ℕ → List Event → Verdict A → Type 0
IsVerdict rules parties events (verdict.Legal moves) = IsOrder rules parties events moves.items
IsVerdict rules parties events (verdict.NotLegal n) = IsShortest rules parties events n
IsVerdict rules parties events verdict.TooMany = Unit {0}

-- the first `legal` events are legal, and the first n, which are no fewer, are not
abbrev pub AreBounds : Rules → ℕ → List Event → ℕ → ℕ → Type 0
AreBounds rules parties events legal n = (legal ≤ n) × (n ≤ length events) × IsLegal rules parties (take legal events) × ¬ (IsLegal rules parties (take n events))
