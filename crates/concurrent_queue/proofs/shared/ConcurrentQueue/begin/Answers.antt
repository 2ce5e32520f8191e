use Rattle.concurrent_queue.proofs.shared.ConcurrentQueue.begin.Goals as goal

pub outcome_of-requires : goal.outcome_of-requires
outcome_of-requires g c = record { comes = (record { party = c.args.party; call = c.args.call }, c.begin_into-ended.ensures) }

pub returns : goal.returns
returns g c = c.outcome_of.ensures (record { party = c.args.party; call = c.args.call }) c.begin_into-ended.ensures
