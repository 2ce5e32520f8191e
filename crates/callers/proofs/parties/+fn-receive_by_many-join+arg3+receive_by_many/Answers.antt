use Rattle.std.proofs.Common.{◌∙◌, rules}
use Rattle.callers.proofs.Halves.{whole_again}
use Rattle.callers.proofs.parties.+fn-receive_by_many-join+arg3+receive_by_many.Goals as goal

pub returns-in-Ok : goal.returns-in-Ok
returns-in-Ok g t c =
    let parted = c.in-Ok.ensures.2.share in let one = c.join-first.result.0.0 in let other = c.join-first.result.1.0 in
    let second = c.join-first.ensures.second in (
      c.join.ensures.0 ∙ search rules,
      whole_again c.args.party.view.share one.view.share other.view.share c.in-Ok.first.view.share c.in-Ok.second.view.share c.join.result.view.share parted.0 parted.1 (search rules) second.1 c.join.ensures.1.share,
    )
