use Rattle.std.proofs.Common.{true≢false, sym, ◌∙◌}
use Rattle.test_shared.proofs.calls.RefHeapMemory.TheImpl.Goals as goal

-- it answers no
pub is_one-tells : goal.is_one-tells
is_one-tells g x c = λ yes. absurd (true≢false (sym yes ∙ c.ensures))
