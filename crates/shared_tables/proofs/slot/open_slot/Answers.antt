use Rattle.shared_tables.proofs.SlotFinish.{slot_opens}
use Rattle.shared_tables.proofs.slot.open_slot.Goals as goal

pub vacant-requires : goal.vacant-requires
vacant-requires g c = slot_opens _
