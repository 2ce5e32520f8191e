use Rattle.std.proofs.Common.{rules, ap, inr, ◌∙◌}
use Rattle.queue_steps.specs.Shares.{plus}
use Rattle.counted_channel.{specs.Counting.stake_at, proofs.Counts.joins, proofs.Counts.two_ends, proofs.Counts.withdraws}
use Rattle.counted_channel.proofs.counting.unite.Goals as goal

pub join_seat-requires : goal.join_seat-requires
join_seat-requires c = (search rules, search rules, search rules, search rules, joins _ c.args.place.now.me.0 _ c.args.other.me.0)

pub fetch_sub-requires : goal.fetch_sub-requires
fetch_sub-requires c =
    let s = stake_at c.args.word c.args.place.now.me.0 in let t = stake_at c.args.word c.args.other.me.0 in
    let two = two_ends c.args.word c.args.place.now.me.0 c.args.other.me.0 s t (ap (λ z. z.0) c.requires.ends.0) (ap (λ z. z.0) c.requires.ends.1) in
    (search rules, search rules, withdraws _ _ c.join_seat.new.seat.me c.args.word (plus s t) c.requires.table.3 (inr (ap (λ z. z.0) c.join_seat.ensures.2 ∙ two)))
