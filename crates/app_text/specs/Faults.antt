-- What is written of a fault, and the status that it ends with.
use Rattle.std.specs.Prelude.{ℕ, List, ◌++◌, codes}
use Rattle.std.specs.Fmt.{decimal}
use Rattle.app_text.specs.declared.faults.Fault.{Fault, Fault as fault}

abbrev pub fault_text : Fault → List ℕ
fault_text fault.Usage = codes "usage: queue_run script KIND | replay KIND PARTIES | threads KIND PUSHERS POPPERS ITEMS | handshake | channel KIND SENDERS RECEIVERS ITEMS"
fault_text (fault.Unreadable n) = codes "line " ++ decimal n ++ codes ": unreadable"
fault_text fault.NoMemory = codes "no memory"
fault_text fault.InputFailed = codes "input failed"
fault_text fault.OutputFailed = codes "output failed"

abbrev pub fault_status : Fault → ℕ
fault_status fault.Usage = 2
fault_status (fault.Unreadable n) = 2
fault_status _ = 3
