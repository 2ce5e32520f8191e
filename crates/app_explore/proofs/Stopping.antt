-- Why nothing is told of a program: none was read, or a search gave no answer.
use Rattle.std.proofs.Common.{ℕ, Bool, List, refl}
use Rattle.queue_steps.specs.declared.{model.Call.Call, steps.types.Kind.Kind}
use Rattle.machine_explore.specs.declared.search.faults.SearchFault.{SearchFault, SearchFault as sought}
use Rattle.app_text.specs.Lines.{lines_of}
use Rattle.app_explore.specs.{Listings.MayStop, Listings.MayTellNothing, Reads.IsProgramFault, Stops.read_stop, Stops.search_stop, declared.args.Request.Request, declared.args.Wanted.Wanted, declared.read_faults.ReadFault.ReadFault, declared.read_faults.ReadFault.ReadFault as read}

pub searched : (k : Kind) (refuses : Bool) (before : List (Call ℕ)) (calls : List (List (Call ℕ))) (w : Wanted) (fault : SearchFault) → MayTellNothing k refuses before calls w (search_stop fault)
searched k refuses before calls w sought.NoMemory = refl
searched k refuses before calls w sought.TooManyStates = tt
searched k refuses before calls w sought.EndlessCall = tt
searched k refuses before calls w sought.NotShown = tt

pub unread : (r : Request) (input : List ℕ) (why : ReadFault) → IsProgramFault (lines_of input) why → MayStop r input (read_stop why)
unread r input (read.Unreadable n why) wrong = wrong
unread r input read.NoMemory wrong = refl
