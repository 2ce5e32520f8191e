-- Runs of calls one behind the other.
use Rattle.std.proofs.Common.{List, [], ◌∷◌, ◌++◌, refl, subst}
use Rattle.queue_steps.specs.{Sequential.Owned, Sequential.Sequential, Sequential.SequentialRun, declared.model.Call.Call, declared.model.Reply.Reply}

-- a run, and one call behind it
pub run_more : {T : Type 0} (P Q R : Owned T) (cs : List (Call T)) (rs : List (Reply T)) (c : Call T) (r : Reply T) → SequentialRun P cs rs Q → Sequential Q c r R → SequentialRun P (cs ++ c ∷ []) (rs ++ r ∷ []) R
run_more {T} P Q R [] [] c r same next = (R, (subst {A = Owned T} (λ M. Sequential M c r R) same next, refl))
run_more P Q R (d ∷ ds) (s ∷ ss) c r run next = (run.0, (run.1.0, run_more run.0 Q R ds ss c r run.1.1 next))
run_more P Q R [] (s ∷ ss) c r run next = absurd run
run_more P Q R (d ∷ ds) [] c r run next = absurd run

-- a run, and a run behind it
pub run_then : {T : Type 0} (P Q R : Owned T) (cs ds : List (Call T)) (rs ss : List (Reply T)) → SequentialRun P cs rs Q → SequentialRun Q ds ss R → SequentialRun P (cs ++ ds) (rs ++ ss) R
run_then {T} P Q R [] ds [] ss same next = subst {A = Owned T} (λ M. SequentialRun M ds ss R) same next
run_then P Q R (c ∷ cs) ds (r ∷ rs) ss run next = (run.0, (run.1.0, run_then run.0 Q R cs ds rs ss run.1.1 next))
run_then P Q R [] ds (r ∷ rs) ss run next = absurd run
run_then P Q R (c ∷ cs) ds [] ss run next = absurd run
