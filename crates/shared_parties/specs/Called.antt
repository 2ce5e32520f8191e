-- Which call a seat is at, told by its view and by the step that it is to do.
use Rattle.std.specs.Prelude.{ℕ, [], Option, None}
use Rattle.queue_laws.specs.Common.Vocabulary.{Call, Op, Touch, Local}
use Rattle.queue_steps.specs.{Shares.nothing, Kinds.with_value}
use Rattle.shared_parties.specs.declared.known.{InCall.InCall, Work.Work, CallState.CallState}

-- a call that is none
abbrev pub nothing_called : {T : Type 0} → InCall T
nothing_called = record { call = Call.Pop; local = Local.Begin Call.Pop; touch = Touch.Nothing; op = Op.Ask; carried = None; effects = []; places = []; since = []; before = []; share = nothing; lends = [] }

abbrev pub call_of_work : {T : Type 0} → InCall T → Work T → InCall T
call_of_work c Work.Nothing = c
call_of_work c (Work.Calls d) = d

-- the call that a seat is about to begin, with this step
abbrev pub begun_by : {T : Type 0} → CallState T → Call Unit → Local ℕ → Touch → Op ℕ → Option T → InCall T
begun_by m k l u o x = record { call = with_value k x; local = l; touch = u; op = o; carried = x; effects = []; places = []; since = m.known.seen; before = m.known.mine; share = m.known.share; lends = [] }

-- the call that a seat is at, or is about to begin
abbrev pub called_at : {T : Type 0} → CallState T → Call Unit → Local ℕ → Touch → Op ℕ → Option T → InCall T
called_at m k l u o x = call_of_work (begun_by m k l u o x) m.work
