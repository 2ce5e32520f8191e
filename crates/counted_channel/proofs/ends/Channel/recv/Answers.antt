use Rattle.counted_channel.proofs.{Polls.end_calls, Trying.after_empty}
use Rattle.counted_channel.proofs.ends.Channel.recv.Goals as goal

pub returns-in-Empty : goal.returns-in-Empty
returns-in-Empty g c =
    let d = c.args.receiver.now in let v = c.receiver.inside.party in let w = c.wait_to_recv.new.party in
    let called = after_empty v c.pop.new.party w _ c.in-Empty.ensures.called c.wait_to_recv.ensures in
    end_calls 1 d v w c.receiver.inside.place.table_id c.receiver.inside.place.me.0 _ _ c.receiver.view_is called
