use Rattle.std.proofs.Common.{rules, ◌≡◌, ap, sym, subst}
use Rattle.shared_parties.{specs.CallStates.IsResting, proofs.Crowds.joins_up}
use Rattle.shared_chain.proofs.Crowds.{merges}
use Rattle.shared_chain.proofs.parties.ChainWebPartyCountRestedCallState.pair.Goals as goal

pub join-requires-clause-merges : goal.join-requires-clause-merges
join-requires-clause-merges g c =
    let w = c.args.self.now in let r = c.requires in let s = c.wakes-both.result in let o = c.wakes-other.result in
    let tail : w.tail.ptr ≡ w.web.key.tail.ptr = search rules in
    let a = subst IsResting (sym (ap (λ m. m.view) c.wakes-both.ensures.3)) r.2 in let b = subst IsResting (sym (ap (λ m. m.view) c.wakes-other.ensures.3)) r.3 in
    merges w.web.key.tail.ptr w.web.key.head.ptr w.tail.ptr s.id s.sitter.view o.id o.sitter.view _ _ tail (λ n vs q at ne at'. joins_up q s.id o.id s.sitter.view o.sitter.view at ne at' a b)
