use Rattle.std.proofs.Common.{ap, sym, subst, ◌∙◌}
use Rattle.channel_account.{specs.Told.Told, specs.Told.told, specs.Told.JoinsTold, proofs.Own.joins}
use Rattle.channel_account.proofs.account.Account.join.Goals as goal

pub returns : goal.returns
returns g c =
    let ours = c.self.inside.ended in let theirs = c.other.inside.ended in let all = told c.join.result in
    let same = ap (λ (d : Told g.row.T.Denot). d.party.queue) c.other.view_is ∙ (c.requires ∙ sym (ap (λ (d : Told g.row.T.Denot). d.party.queue) c.self.view_is)) in
    subst {A = Told g.row.T.Denot} (λ d. JoinsTold d c.args.other all) c.self.view_is
    (subst {A = Told g.row.T.Denot} (λ d. JoinsTold (told ours) d all) c.other.view_is
    (joins ours theirs c.join.result same c.show_view.ensures c.show_view-2.ensures c.join.ensures))
