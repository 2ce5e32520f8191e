use Rattle.exclusive_queue.proofs.Sent.{crosses}
use Rattle.test_one_thread.proofs.owner.stories.may_be_sent.Goals as goal

pub is_sent-requires-send-T : goal.is_sent-requires-send-T
is_sent-requires-send-T c κs = search crosses

pub is_shared-requires-sync-T : goal.is_shared-requires-sync-T
is_shared-requires-sync-T c κs = search crosses
