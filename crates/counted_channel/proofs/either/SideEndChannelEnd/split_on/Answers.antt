use Rattle.std.proofs.Common.{ap}
use Rattle.counted_channel.{specs.Channel.end_at, specs.Counting.stake_at, proofs.EndViews.half_is_end, proofs.EndViews.parted, proofs.EndViews.given_back, proofs.Parting.rejoined}
use Rattle.counted_channel.proofs.either.SideEndChannelEnd.split_on.Goals as goal

pub of-requires-in-Some : goal.of-requires-in-Some
of-requires-in-Some g c =
    let halves = rw c.WORD.ensures at c.in-Some.ensures.parted in
    half_is_end g.S.ChannelSide.WORD c.self.inside.place.me c.part.new.place.me halves.1

pub of-requires-in-Some-2 : goal.of-requires-in-Some-2
of-requires-in-Some-2 g c =
    let halves = rw c.WORD.ensures at c.in-Some.ensures.parted in
    half_is_end g.S.ChannelSide.WORD c.self.inside.place.me c.in-Some.other.me halves.2

pub returns-in-Some : goal.returns-in-Some
returns-in-Some g c =
    let halves = rw c.WORD.ensures at c.in-Some.ensures.parted in
    let old = c.self.inside.place in let new = c.part.new.place in let other = c.in-Some.other in
    parted c.args.self c.of-in-Some.result c.of-in-Some-2.result g.S.ChannelSide.WORD c.self.inside.party c.in-Ok.first c.in-Ok.second old.table_id new.table_id other.table_id old.me new.me other.me
    c.self.view_is c.of-in-Some.ensures c.of-in-Some-2.ensures c.in-Ok.ensures c.part.ensures.same halves.0 halves.1 halves.2

pub returns-in-None : goal.returns-in-None
returns-in-None g c =
    let same = ap (λ m. stake_at g.S.ChannelSide.WORD m.0) c.in-None.ensures.parted in
    let place = c.part.new.place in let back = end_at g.S.ChannelSide.WORD c.join-party.result place.table_id place.me.0 in
    given_back _ _ back _ c.self.view_is c.of-in-None.ensures (rejoined _ _ c.in-Ok.first c.in-Ok.second c.part.ensures.same same c.in-Ok.ensures c.join-party.ensures)
