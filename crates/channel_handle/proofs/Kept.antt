-- An end that stays as it was is given back.
use Rattle.std.proofs.Common.{[], refl, append-nil}
use Rattle.queue_steps.specs.Parties.{IsView}
use Rattle.counted_channel.specs.Channel.{End, GivenBack}

pub kept : {T : Type 0} (e : End T) → IsView e.party.queue.cap e.party.view → GivenBack e e
kept e v = record { queue = refl; counts = refl; stake = refl; begins = ([], append-nil e.party.view.seen); legal = v.legal; mine = refl; share = refl }
