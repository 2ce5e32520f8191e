use Rattle.std.proofs.Common.{subst}
use Rattle.channel_account.{specs.Told.Told, specs.Told.told, specs.Told.PartsTold, proofs.Own.parts}
use Rattle.channel_account.proofs.ends.Sender.split.Goals as goal

pub returns : goal.returns
returns g c =
    subst {A = Told g.row.T.Denot} (λ d. PartsTold d (told c.split.new.self.party) (told c.in_ok-split.field-0.party)) c.self.view_is
    (parts c.self.inside.end c.split.new.self c.in_ok-split.field-0 c.show_view.ensures c.in_ok-split.ensures)
