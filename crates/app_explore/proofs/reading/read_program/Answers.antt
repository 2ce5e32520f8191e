use Rattle.std.proofs.Common.{refl}
use Rattle.app_explore.proofs.Programs.{wrong_before}
use Rattle.app_explore.proofs.reading.read_program.Goals as goal

pub returns-in-Err : goal.returns-in-Err
returns-in-Err g c =
    let none = rw c.in-Err.is at c.in_ok-before.ensures in
    wrong_before _ _ c.in-Some.spelled.now _ c.in-Some.ensures refl none.0
