-- The shortest beginning that is not legal, and how levels refute a history.
use Rattle.std.proofs.Common.{inl, inr, ◌+◌, ◌<◌, ◌≤◌, ℕ, List, [], ◌∷◌, refl, subst, take, length, arith, ◌≡◌, ◌-◌}
use Rattle.std.proofs.lemmas.List.{take-take, take_all}
use Rattle.history_check.specs.{declared.recorded.Event.Event, declared.recorded.Rules.Rules, Legal.Stage, Legal.opening, Legal.IsLegal, Legal.IsShortest, Legal.ShortestIsNext}
use Rattle.history_check.specs.{Levels.Survives, Levels.Dies, Levels.LevelsRefute, Verdicts.AreBounds}
use Rattle.history_check.proofs.{Orders.cut, Spreading.contains_more, Spreading.levels_pass}

module _ (rules : Rules) (parties : ℕ) (events : List Event) where
  -- a beginning is the shortest that is not legal, if the one before it is legal
  pub is_shortest : (legal n : ℕ) → n ≤ legal + 1 → IsLegal rules parties (take legal events) → (IsLegal rules parties (take n events) → ⊥) → IsShortest rules parties events n
  is_shortest legal n le (ms, g) not = (not, λ m h. rw (← take-take m legal events (omega (arith, le, h))) (cut ms (take legal events) (opening rules parties) g m))

  -- no event at all is legal, and all events are not
  pub first_bounds : (IsLegal rules parties events → ⊥) → AreBounds rules parties events 0 (length events)
  first_bounds not = (omega arith, omega arith, ([], refl), λ legal. not (subst (λ (es : List Event). IsLegal rules parties es) (take_all (length events) events (omega arith)) legal))

  pub raised : (legal n middle : ℕ) → AreBounds rules parties events legal n → legal < middle → middle < n → IsLegal rules parties (take middle events) → AreBounds rules parties events middle n × (n - middle < n - legal)
  raised legal n middle (order, within, lower, upper) above below is = ((omega (arith, below), within, is, upper), omega (arith, above, below))

  pub lowered : (legal n middle : ℕ) → AreBounds rules parties events legal n → legal < middle → middle < n → (IsLegal rules parties (take middle events) → ⊥) → AreBounds rules parties events legal middle × (middle - legal < n - legal)
  lowered legal n middle (order, within, lower, upper) above below not = ((omega (arith, above), omega (arith, below, within), lower, not), omega (arith, above, below))

  -- where nothing is between them, the longer one is the shortest that is not
  pub last_bounds : (legal n : ℕ) → AreBounds rules parties events legal n → n - legal ≤ 1 → IsShortest rules parties events n
  last_bounds legal n (order, within, lower, upper) close = is_shortest legal n (omega (arith, close, order)) lower upper

-- the beginning after the longest that is legal is the shortest that is not
pub shortest_is_next : ShortestIsNext
shortest_is_next rules parties events n is not = is_shortest rules parties events n (n + 1) (omega arith) is not

-- nobody survives from an empty level
pub nobody : (level : List Stage) (es : List Event) → level ≡ [] → Survives level es → ⊥
nobody level es is (s, ms, (k, inside, same), g) = let none : k < 0 = subst (λ (l : List Stage). k < length l) is inside in omega arith

dead : (es : List Event) (level : List Stage) → Dies level es → Survives level es → ⊥
dead [] level is v = nobody level [] is v
dead (e ∷ es) level (inl is) v = nobody level (e ∷ es) is v
dead (e ∷ es) level (inr (replies, closed, next, more, expects, handles, dies)) (s, ms, has, g) = dead es next dies (levels_pass closed next e es replies handles expects (s, ms, contains_more level closed s more has, g))

pub levels_refute : LevelsRefute
levels_refute rules parties es level has dies (moves, goes) = dead es level dies (opening rules parties, moves, has, goes)
