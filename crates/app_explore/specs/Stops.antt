-- What is written of a stop, and the status that it ends with.
use Rattle.std.specs.Prelude.{ℕ, List, ◌∷◌, ◌++◌, codes}
use Rattle.std.specs.Fmt.{decimal}
use Rattle.app_text.specs.{Faults.fault_text, Faults.fault_status, declared.faults.Fault.Fault as fault}
use Rattle.app_explore.specs.{Faults.line_fault_text, Usage.usage_text, declared.faults.Stop.Stop, declared.faults.Stop.Stop as stop, declared.read_faults.ReadFault.ReadFault, declared.read_faults.ReadFault.ReadFault as read}
use Rattle.machine_explore.specs.declared.search.faults.SearchFault.{SearchFault, SearchFault as sought}

abbrev pub stop_text : Stop → List ℕ
stop_text (stop.Usage why) = codes "usage: queue_explore KIND [refuse] [schedule N | lanes N | waits [N]]" ++ 10 ∷
    codes "reads: [before: CALLS] 0: CALLS 1: CALLS .., a line each; CALLS is CALL; CALL ..; CALL is push N, force N, pop, close, is_closed, is_empty, is_full, len or capacity"
    ++ 10 ∷ usage_text why
stop_text (stop.Fault f) = fault_text f
stop_text (stop.Line n why) = fault_text (fault.Unreadable n) ++ 10 ∷ line_fault_text why
stop_text stop.TooManyStates = codes "too many states"
stop_text (stop.NoOutcome n) = codes "no outcome " ++ decimal n
stop_text (stop.NoWait n) = codes "no wait " ++ decimal n
stop_text stop.NotShown = codes "not shown"

abbrev pub stop_status : Stop → ℕ
stop_status (stop.Usage why) = 2
stop_status (stop.Fault f) = fault_status f
stop_status (stop.Line n why) = 2
stop_status (stop.NoOutcome n) = 2
stop_status (stop.NoWait n) = 2
stop_status _ = 3

-- why the explorer stops where no program was read
abbrev pub read_stop : ReadFault → Stop
read_stop (read.Unreadable n why) = stop.Line n why
read_stop read.NoMemory = stop.Fault fault.NoMemory

-- why the explorer stops where a search gives no answer
abbrev pub search_stop : SearchFault → Stop
search_stop sought.NoMemory = stop.Fault fault.NoMemory
search_stop sought.TooManyStates = stop.TooManyStates
search_stop sought.EndlessCall = stop.NotShown
search_stop sought.NotShown = stop.NotShown
