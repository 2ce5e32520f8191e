-- The ends of a channel in futures may go to another thread.
use denote.Builtin.{u64}
use denote.Param.Send.{IsSend, sendable}
use denote.Param.SendFields.{declared_send}
use Rattle.std.proofs.Crossing.{crosses}
use Rattle.waker_list.proofs.{WakerList.TheSendSync.the_send as list_send, WakerList.TheSendSync.the_sync as list_sync, sitting.Sitting.TheSendSync.the_send as sitting_send}
use Rattle.counted_channel.proofs.{ends.Channel.TheSendSync.the_send as channel_send, ends.Channel.TheSendSync.the_sync as channel_sync, polling.PollingReceiver.TheSendSync.the_send as receiver_send, sides.SideEnd.TheSendSync.the_send as end_send}
use Rattle.channel_futures.proofs.owed.Owed.TheSendSync.{the_send as owed_send}
use Rattle.channel_futures.specs.contracts.{incoming.Incoming.the_row as incoming_row, incoming.Incoming.the_type as incoming_type, outgoing.Outgoing.the_row as outgoing_row, outgoing.Outgoing.the_type as outgoing_type}

ruleset parts = (list_send, list_sync, sitting_send, channel_send, channel_sync, receiver_send, end_send, owed_send, crosses, sendable)

pub incoming_send : IsSend (incoming_row u64)
incoming_send = declared_send (incoming_type u64) (search parts depth 20, (search parts depth 20, (search parts depth 20, (search parts depth 20, tt))))

pub outgoing_send : IsSend (outgoing_row u64)
outgoing_send = declared_send (outgoing_type u64) (search parts depth 20, (search parts depth 20, (search parts depth 20, (search parts depth 20, (search parts depth 20, tt)))))
