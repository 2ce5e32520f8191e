use Rattle.std.proofs.Common.{sym, ap, ◌∙◌}
use Rattle.counted_channel.specs.Counting.{stake_at}
use Rattle.counted_channel.proofs.opening.open_over.Goals as goal

pub returns-in-Ok-split-clause-opens : goal.returns-in-Ok-split-clause-opens
returns-in-Ok-split-clause-opens g c =
    let parts = c.in-Ok-split.ensures in let opened = c.in-Ok.ensures in
    let same = c.new.ensures.0 in let of = c.requires.is_party ∙ sym same in
    rw c.of-sender.ensures (rw c.of-receiver.ensures (same, parts, (parts.0 ∙ of, opened.table.1), (parts.1 ∙ of, opened.table.2), ap (λ m. stake_at 0 m.0) opened.seats.0, ap (λ m. stake_at 1 m.0) opened.seats.1))
