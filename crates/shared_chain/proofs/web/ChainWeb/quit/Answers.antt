use Rattle.shared_chain.proofs.Steps.Quits.{gives_up}
use Rattle.shared_chain.proofs.web.ChainWeb.quit.Goals as goal

pub load-requires-clause-allows : goal.load-requires-clause-allows
load-requires-clause-allows g c =
    let w = c.args.self.now in let m = c.args.seat.now in
    gives_up w.web.key.tail.ptr w.web.key.head.ptr m.id m.sitter c.requires.may w.tail.ptr w.ends.0
