use Rattle.std.proofs.Common.{rules, ap}
use Rattle.counted_channel.{specs.Counting.stake_at, proofs.Counts.splits}
use Rattle.counted_channel.proofs.counting.part.Goals as goal

pub split_seat-requires : goal.split_seat-requires
split_seat-requires c = (search rules, search rules, splits _ c.enter.new.place.me.0 c.args.word (stake_at c.args.word c.args.place.now.me.0) c.requires.table.2 (ap (λ z. z.0) c.if-not-enter.ensures.counted))
