use Rattle.std.proofs.Common.{subst}
use Rattle.shared_parties.specs.PartyCount.{MayAct}
use Rattle.concurrent_queue.specs.Shared.{known_at, number_at}
use Rattle.concurrent_queue.proofs.shared.count.FormPartyCountSeatPlace.act.Goals as goal

pub act-requires-clause-may : goal.act-requires-clause-may
act-requires-clause-may g c = subst (λ p. MayAct g.M.CountAct.changes g.M.CountAct.tells (number_at p) (known_at p)) c.in-Slot-Table.is-1 c.requires.may

pub act-requires-in-Ring-Table-clause-may : goal.act-requires-in-Ring-Table-clause-may
act-requires-in-Ring-Table-clause-may g c = subst (λ p. MayAct g.M.CountAct.changes g.M.CountAct.tells (number_at p) (known_at p)) c.in-Ring-Table.is-1 c.requires.may

pub act-requires-in-Chain-Web-clause-may : goal.act-requires-in-Chain-Web-clause-may
act-requires-in-Chain-Web-clause-may g c = subst (λ p. MayAct g.M.CountAct.changes g.M.CountAct.tells (number_at p) (known_at p)) c.in-Chain-Web.is-1 c.requires.may
