use Rattle.std.proofs.Common.{Some, ap, ◌∙◌}
use Rattle.shared_chain.proofs.Steps.Turns.{carried_block}
use Rattle.shared_chain.proofs.web.ChainWeb.give_up.Goals as goal

pub release-requires : goal.release-requires
release-requires g c = let h = c.requires.carries in let y = h.0 in ((y.at, y.next, y.words, y.homes), h.1 ∙ ap (λ b. Some b) (carried_block y h.3))
