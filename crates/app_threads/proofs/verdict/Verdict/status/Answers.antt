use Rattle.std.proofs.Common.{rules}
use Rattle.app_threads.proofs.verdict.Verdict.status.Goals as goal

pub returns-in-Wrong : goal.returns-in-Wrong
returns-in-Wrong c = search rules
