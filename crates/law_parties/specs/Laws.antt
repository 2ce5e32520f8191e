-- What is so of what parties did, whatever they call.
use Rattle.std.specs.Prelude.{◌≡◌, ℕ, ◌+◌, ◌==◌, Bool, Option, None, List, [], ◌++◌, Err}
use Rattle.std.specs.List.{count_by}
use mathlib.Core.List.{IsPrefix}
use Rattle.queue_steps.specs.declared.{model.Call.Call, model.Reply.Reply, model.Effect.Effect, model.Call.Call as call, model.Reply.Reply as reply, errors.PopError.PopError as pop}
use Rattle.queue_steps.specs.{Effect.IsHistory, Effect.after, Parties.View, Parties.IsView, Parties.IsWhole, Parties.Split, Parties.Join, Parties.Meet}
use Rattle.queue_laws.specs.History.Histories.{IsDrained}
use Rattle.concurrent_queue.specs.{SawMore.SawMore, Shared.PartyView, Shared.Calls}
use Rattle.law_parties.specs.Doings.{done_by, hands_in_such, hands_out_such, hands_in, hands_out, Did, Acts, SawClosed, SawDrained}

-- a call adds the effects at its places
abbrev pub CallsAct : Type 0 → Type 0
CallsAct T = (v w : PartyView T) (c : Call T) (r : Reply T) → IsView v.queue.cap v.view → (call : Calls v c r w) → Acts v w call.1.effects

-- nothing is done without a call, and what is done adds up
abbrev pub DoingsAddUp : Type 0 → Type 0
DoingsAddUp T = ((v : PartyView T) → Acts v v []) × ((u v w : PartyView T) (es fs : List (Effect T)) → Acts u v es → Acts v w fs → Acts u w (es ++ fs))

-- of the two parts of a party the first did what the party did, and the other nothing
abbrev pub SplitsKeepDoings : Type 0 → Type 0
SplitsKeepDoings T = (cap : Option ℕ) (v a b : View T) → IsView cap v → Split cap v a b → Did v a [] × ((test : Effect T → Bool) → done_by test b ≡ 0)

-- the party that two become did what both did
abbrev pub JoinsAddDoings : Type 0 → Type 0
JoinsAddDoings T = (cap : Option ℕ) (a b w : View T) → IsView cap a → IsView cap b → Join cap a b w → (test : Effect T → Bool) → done_by test w ≡ done_by test a + done_by test b

-- two parties that meet did what they did
abbrev pub MeetsKeepDoings : Type 0 → Type 0
MeetsKeepDoings T = (cap : Option ℕ) (a b c d : View T) → IsView cap a → IsView cap b → Meet cap a b c d → Did a c [] × Did b d []

-- the party to whom every place belongs did all of the history
abbrev pub WholeDidAll : Type 0 → Type 0
WholeDidAll T = (cap : Option ℕ) (v : View T) → IsView cap v → IsWhole v → (test : Effect T → Bool) → done_by test v ≡ count_by test v.seen

-- where nothing is on its way in, as many such items as it handed in, it handed out, or they are left
abbrev pub ItemsAreKept : Type 0 → Type 0
ItemsAreKept T =
    (cap : Option ℕ) (v : View T) (such : T → Bool) → IsView cap v → IsWhole v → (after cap v.seen).coming ≡ None
    → done_by (hands_in_such such) v ≡ done_by (hands_out_such such) v + count_by such (after cap v.seen).items

-- where nothing is on its way in, as often as it handed a number in, it handed it out, or the number is left
abbrev pub NumbersAreKept : Type 0
NumbersAreKept =
    (cap : Option ℕ) (v : View ℕ) (x : ℕ) → IsView cap v → IsWhole v → (after cap v.seen).coming ≡ None
    → done_by (hands_in x) v ≡ done_by (hands_out x) v + count_by (λ y. y == x) (after cap v.seen).items

-- what was seen closed is seen closed from then on
abbrev pub ClosedStaysSeen : Type 0 → Type 0
ClosedStaysSeen T = (v w : PartyView T) → w.queue ≡ v.queue → IsPrefix v.view.seen w.view.seen → IsHistory w.queue.cap w.view.seen → SawClosed v → SawClosed w

-- a pop that is answered Closed has seen the queue closed and empty
abbrev pub PopsSeeDrained : Type 0 → Type 0
PopsSeeDrained T = (v w : PartyView T) → Calls v call.Pop (reply.Pop (Err pop.Closed)) w → SawDrained w

-- what was seen closed and empty is seen so from then on, and is so
abbrev pub DrainedStays : Type 0 → Type 0
DrainedStays T = (v w : PartyView T) → w.queue ≡ v.queue → IsPrefix v.view.seen w.view.seen → IsHistory w.queue.cap w.view.seen → SawDrained v → SawDrained w × IsDrained (after w.queue.cap w.view.seen)

-- a party that saw more and then made a call has made it after what it had seen before
abbrev pub SawMoreThenCalls : Type 0 → Type 0
SawMoreThenCalls T = (v w u : PartyView T) (c : Call T) (r : Reply T) → SawMore v w → Calls w c r u → Calls v c r u
