-- A queue with one owner may go to another thread where its items and its allocator may.
use denote.RattleType.{RattleType}
use denote.Param.Send.{IsSend, IsSync, Frees, view_send, view_sync, sendable}
use denote.Param.SendFields.{variants_send, variants_sync, declared_send, declared_sync}
use Rattle.std.specs.declared.alloc.Allocator as Allocator
use Rattle.std.specs.contracts.alloc.Global as global
use Rattle.std.{specs.contracts.impls.GlobalAllocator.TheImpl.ghosts, proofs.Crossing.frees, proofs.Crossing.send, proofs.Crossing.sync}
use Rattle.own_cells.proofs.{OneRing.Sent.ring_send, OneRing.Sent.ring_sync, slot.own_slot.OwnSlot.TheSendSync.the_send as slot_send, slot.own_slot.OwnSlot.TheSendSync.the_sync as slot_sync}
use Rattle.own_cells.proofs.chain.own_chain.OwnChain.TheSendSync.{the_send as blocks_send, the_sync as blocks_sync}
use Rattle.exclusive_queue.specs.contracts.exclusive.{form.Form.the_row as form_row, form.Form.enum as form_enum, Exclusive.the_row as exclusive_row, Exclusive.TheInside.the_type as exclusive_type}

form_send : (T A : RattleType) (g : Allocator.Ghosts A.Denot) → IsSend T → IsSend A → Frees g g.dealloc_token → IsSend (form_row T A g)
form_send T A g s t f = variants_send (form_enum T A g) ((slot_send T s, tt), ((ring_send T A g s t f, tt), (((blocks_send T A g s t f, tt), tt))))

pub exclusive_send_over : (T A : RattleType) (g : Allocator.Ghosts A.Denot) → IsSend T → IsSend A → Frees g g.dealloc_token → IsSend (exclusive_row T A g)
exclusive_send_over T A g s t f = view_send _ _ _ _ _ (declared_send (exclusive_type T A g) (form_send T A g s t f, tt))

form_sync : (T A : RattleType) (g : Allocator.Ghosts A.Denot) → IsSend T → IsSync T → IsSend A → IsSync A → Frees g g.dealloc_token → IsSync (form_row T A g)
form_sync T A g s ys t yt f = variants_sync (form_enum T A g) ((slot_sync T ys, tt), ((ring_sync T A g ys yt f, tt), (((blocks_sync T A g s t ys yt f, tt), tt))))

pub exclusive_sync_over : (T A : RattleType) (g : Allocator.Ghosts A.Denot) → IsSend T → IsSync T → IsSend A → IsSync A → Frees g g.dealloc_token → IsSync (exclusive_row T A g)
exclusive_sync_over T A g s ys t yt f = view_sync _ _ _ _ _ (declared_sync (exclusive_type T A g) (form_sync T A g s ys t yt f, tt))

-- over the program's own allocator, since `search` finds no allocator's ghost members in a row
pub exclusive_send : (T : RattleType) → IsSend T → IsSend (exclusive_row T global.the_row ghosts)
exclusive_send T s = exclusive_send_over T global.the_row ghosts s send frees

pub exclusive_sync : (T : RattleType) → IsSend T → IsSync T → IsSync (exclusive_row T global.the_row ghosts)
exclusive_sync T s y = exclusive_sync_over T global.the_row ghosts s y send sync frees

pub ruleset crosses = (sendable, exclusive_send, exclusive_sync)
