use Rattle.counted_channel.proofs.{Polls.end_calls, Trying.after_full}
use Rattle.counted_channel.proofs.ends.Channel.send.Goals as goal

pub returns-in-Full : goal.returns-in-Full
returns-in-Full g c =
    let d = c.args.sender.now in let v = c.sender.inside.party in let w = c.wait_to_send.new.party in
    let called = after_full v c.push.new.party w _ _ _ c.in-Full.ensures.called c.wait_to_send.ensures in
    end_calls 0 d v w c.sender.inside.place.table_id c.sender.inside.place.me.0 _ _ c.sender.view_is called
