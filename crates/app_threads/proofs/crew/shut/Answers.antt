use Rattle.law_parties.proofs.Doings.{acts_none}
use Rattle.app_threads.proofs.Works.{close_quits}
use Rattle.app_threads.proofs.crew.shut.Goals as goal

pub returns : goal.returns
returns g c = close_quits c.args.party.now c.args.party.now c.close.new.party c.close.result c.show_view.ensures (acts_none c.args.party.now) c.close.ensures
