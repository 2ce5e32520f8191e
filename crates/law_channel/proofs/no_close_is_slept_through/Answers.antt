use Rattle.law_channel.proofs.Runs.{no_close_is_slept_through}
use Rattle.law_channel.proofs.no_close_is_slept_through.Goals as goal

pub returns : goal.returns
returns g c = no_close_is_slept_through
