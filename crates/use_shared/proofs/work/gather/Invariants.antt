use Rattle.std.proofs.Common.{◌≡◌, true}
use Rattle.std.specs.List.{All}
use Rattle.use_shared.specs.Work.{all_handed}
use Rattle.use_shared.proofs.work.gather.Given as goal

-- the hauls so far are finished, and their jobs are there
abbrev pub invariant-loop-haul : goal.invariant-loop-haul
invariant-loop-haul l = record {
  finished : All (λ haul. haul.finished ≡ true) l.yielded;
  all : l.all.items ≡ all_handed l.yielded;
}
