use Rattle.std.proofs.Common.{ℕ, ap, rules}
use Rattle.queue_steps.specs.Parties.{View}
use Rattle.callers.proofs.Halves.{all_again, all_of}
use Rattle.callers.proofs.parties.hand_to_many.Goals as goal

pub unreachable-requires : goal.unreachable-requires
unreachable-requires g c = c.in_default.ensures.1 (all_of c.in_ok-queue.party.view.share (ap (λ (v : View ℕ). v.share) c.in_ok-queue.ensures.first.2))

pub unreachable-requires-in-Err : goal.unreachable-requires-in-Err
unreachable-requires-in-Err g c =
    let parted = c.in-Ok.ensures.2.share in let one = c.join-first.result.0 in let other = c.join-first.result.1.0 in
    let second = c.join-first.ensures.second in
    c.in-Err.ensures.2
    (all_again c.in_ok-queue.party.view.share one.view.share other.view.share c.in-Ok.first.view.share c.in-Ok.second.view.share c.join-party.result.view.share
    (ap (λ (v : View ℕ). v.share) c.in_ok-queue.ensures.first.2) parted.0 parted.1 (search rules) second.1 c.join-party.ensures.1.share)
