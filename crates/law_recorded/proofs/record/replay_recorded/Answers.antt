use Rattle.std.proofs.Common.{◌≡◌, ℕ, IfOk, List, Ok, Err, Result, Vec}
use Rattle.machine_replay.specs.Vocabulary.{Event, Kind, Replay}
use Rattle.machine_replay.specs.Conforms.{Conforms, capacity_of}
use Rattle.machine_replay.specs.Played.{IsPlayed}
use Rattle.history_check.specs.declared.recorded.Event.{Event as Recorded}
use Rattle.law_recorded.specs.Recorded.{IsRecordOf, history_of}
use Rattle.law_recorded.proofs.record.replay_recorded.Goals as goal

-- what is recorded of a replay that was made is a record of it
of_replay : {A B E : Type 0} (kind : Kind) (parties : ℕ) (events : List (Event ℕ)) (r : Replay ℕ A) (found : Result (Vec Recorded B) E) → IsPlayed kind parties events r → Conforms (capacity_of kind) parties events r
    → IfOk found (λ h. h.items ≡ history_of events r) → IfOk found (λ h. IsRecordOf A kind parties events h.items)
of_replay kind parties events r (Ok h) played conforms is = record { replay = r; played = played; conforms = conforms; is_record = is }
of_replay kind parties events r (Err e) played conforms is = tt

pub returns-clause-exact : goal.returns-clause-exact
returns-clause-exact g c =
    let same = c.in_ok-from_slice.ensures.items in
    let run = c.in_ok-replayed.ensures in
    of_replay c.args.kind c.args.parties c.args.events.now c.in_ok-replayed.replayed c.record.result (rw same at run.played) (rw same at run.conforms) c.record.ensures.exact
