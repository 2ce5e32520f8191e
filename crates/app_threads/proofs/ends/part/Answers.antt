use Rattle.std.proofs.Common.{ℕ, ◌+◌, refl, ap}
use Rattle.law_parties.specs.Doings.{takes}
use Rattle.app_threads.{specs.declared.ends.Role.Role as role, proofs.EndWorks.parts_sender, proofs.EndWorks.parts_receiver, proofs.EndWorks.given_back}
use Rattle.app_threads.proofs.ends.part.Goals as goal

pub returns-in-Ok-clause-parts : goal.returns-in-Ok-clause-parts
returns-in-Ok-clause-parts g c = parts_sender c.args.sender c.args.receiver c.in-Ok.kept c.in-Ok.given c.show_view.ensures c.in-Ok.ensures (role.Send c.in-Ok.given) refl

pub returns-in-Err-clause-parts : goal.returns-in-Err-clause-parts
returns-in-Err-clause-parts g c x = ap (λ (n : ℕ). n + takes x c.args.receiver.party.view) (given_back c.args.sender c.in-Err.sender c.show_view.ensures c.in-Err.ensures x)

pub returns-in-Ok-split_receiver-clause-parts : goal.returns-in-Ok-split_receiver-clause-parts
returns-in-Ok-split_receiver-clause-parts g c =
    let kept = c.in-Ok-split_receiver.kept in let given = c.in-Ok-split_receiver.given in
    parts_receiver c.args.sender c.args.receiver kept given c.show_view-2.ensures c.in-Ok-split_receiver.ensures (role.Receive given) refl

pub returns-in-Err-split_receiver-clause-parts : goal.returns-in-Err-split_receiver-clause-parts
returns-in-Err-split_receiver-clause-parts g c x =
    ap (λ (n : ℕ). takes x c.args.sender.party.view + n) (given_back c.args.receiver c.in-Err-split_receiver.receiver c.show_view-2.ensures c.in-Err-split_receiver.ensures x)
