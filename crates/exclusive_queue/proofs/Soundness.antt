-- Between its calls a queue with one owner is sound, however it keeps its items.
use Rattle.queue_steps.specs.Legal.{IsSoundOwned}
use Rattle.own_cells.specs.{OneRing.Laws.Sound.ring_sound, OneSlot.Laws.Sound.slot_sound, OneChain.Laws.OwnChainSequential.own_chain_sound}
use Rattle.exclusive_queue.specs.{Exclusive.form_owned, Exclusive.IsFormIdle, declared.exclusive.form.Form.Form, declared.exclusive.form.Form.Form as form}

pub sound : {T A : Type 0} (f : Form T A) → IsFormIdle f → IsSoundOwned (form_owned f)
sound (form.Slot s) idle = slot_sound s idle
sound (form.Ring r) idle = ring_sound r idle
sound (form.Chain l) idle = own_chain_sound l idle
