use Rattle.std.proofs.Common.{rules, ◌≡◌, ap, sym, subst}
use Rattle.shared_parties.{specs.Parting.IsTwo, proofs.Crowds.splits_apart}
use Rattle.shared_chain.proofs.Crowds.{forks}
use Rattle.shared_chain.proofs.parties.ChainWebPartyCountRestedCallState.part.Goals as goal

pub split-second-requires-clause-forks : goal.split-second-requires-clause-forks
split-second-requires-clause-forks g c =
    let w = c.args.self.now in let s = c.wakes-first.result in let d = s.sitter.view in
    let tail : w.tail.ptr ≡ w.web.key.tail.ptr = search rules in
    let two = subst IsTwo (sym (ap (λ m. m.view) c.wakes-first.ensures.3)) c.requires.1 in
    forks w.web.key.tail.ptr w.web.key.head.ptr w.tail.ptr s.id d _ _ tail (λ n vs q at. splits_apart q s.id d at two.0 two.1 two.2)
