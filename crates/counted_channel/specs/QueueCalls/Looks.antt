-- Which tickets are left where a call looked in vain.
use Rattle.event_count.specs.{declared.patience.Look.Look, Looks.IsInVain}
use Rattle.counted_channel.specs.declared.calls.waited.{Items.Items, Room.Room, Pushed.Pushed, Pushed.Pushed as pushed, Popped.Popped, Popped.Popped as popped}

-- who found no room, or no item, has a ticket to sleep on exactly if the look was made with one
abbrev pub FullKeepsTicket : {T : Type 0} → Look Room → Pushed T → Type 0
FullKeepsTicket look (pushed.Full v vain) = IsInVain look vain
FullKeepsTicket look other = Unit {0}

abbrev pub EmptyKeepsTicket : {T : Type 0} → Look Items → Popped T → Type 0
EmptyKeepsTicket look (popped.Empty vain) = IsInVain look vain
EmptyKeepsTicket look other = Unit {0}
