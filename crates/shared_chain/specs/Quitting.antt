-- A call on a shared chain that is given up, or looked at.
use Rattle.std.specs.Prelude.{◌≡◌, None}
use Rattle.queue_steps.specs.Kinds.{call_value}
use Rattle.queue_laws.specs.Chain.ChainEarly.{IsEarly, IsBound, IsPush}
use Rattle.mem_blocks.specs.Web.{Sitter}
use Rattle.shared_parties.specs.{declared.known.CallState.CallState, declared.known.Work.Work as work, Quitting.its_call, Quitting.Quit}
use Rattle.shared_chain.specs.{ChainCalls.chain_calls, Steps.HoldsBy}

module _ {T : Type 0} where
  -- the seat is at a call that has had no effect
  abbrev pub MayQuit : Sitter T (CallState T) → Type 0
  MayQuit m = let c = its_call m.view in (m.view.work ≡ work.Calls c) × IsEarly c.local × HoldsBy c.local c.op c.lends m

  -- it has given that up, and has nothing in hand; what it carries it carries still. The call carried its own value
  abbrev pub HasLeft : Sitter T (CallState T) → Sitter T (CallState T) → Type 0
  HasLeft m q = let c = its_call m.view in Quit chain_calls c q.view × (q.hand ≡ None) × (q.spare ≡ m.spare) × (c.carried ≡ call_value c.call)

  -- and it carries nothing
  abbrev pub HasQuit : Sitter T (CallState T) → Sitter T (CallState T) → Type 0
  HasQuit m q = let c = its_call m.view in Quit chain_calls c q.view × (q.hand ≡ None) × (q.spare ≡ None) × (c.carried ≡ call_value c.call)

  -- the seat is at a call, which waits for no item if it pushes
  abbrev pub ShowsPlace : Sitter T (CallState T) → Type 0
  ShowsPlace m = let c = its_call m.view in IsPush c.call → ¬ (IsBound c.local)
