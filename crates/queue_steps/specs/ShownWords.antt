-- What the words of a queue show to who only loads them. The tail is loaded before the head, so the head may have passed it. One slot has one word, which stands for its tail.
use Rattle.std.specs.Prelude.{ℕ, ◌-◌, Bool, if◌then◌else◌}
use Rattle.queue_steps.specs.{declared.steps.types.Kind.Kind, declared.steps.types.Kind.Kind as kind, SlotNext.is_marked, SlotNext.is_pushed, Words.position_of, Words.is_shut, ChainWords.items_before}

-- how many items there are between the head and the tail
abbrev pub shown_len : Kind → ℕ → ℕ → ℕ
shown_len kind.Single word head = if is_pushed word then 1 else 0
shown_len (kind.Bounded cap) tail head = position_of tail - head
shown_len kind.Unbounded tail head = items_before (position_of tail) - items_before (position_of head)

-- whether the queue is closed
abbrev pub shows_closed : Kind → ℕ → Bool
shows_closed kind.Single word = is_marked word
shows_closed (kind.Bounded cap) tail = is_shut tail
shows_closed kind.Unbounded tail = is_shut tail
