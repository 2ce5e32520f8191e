use Rattle.std.proofs.lemmas.Result.{on_ok_weaker}
use Rattle.history_check.proofs.Spreading.{is_between, half_done, is_answered}
use Rattle.history_check.proofs.level.Level.spread.Goals as goal

pub returns-in_default-clause-has : goal.returns-in_default-clause-has
returns-in_default-clause-has g c = λ es known. is_between c.args.self.now es c.args.stage.now c.args.party c.args.reply (rw c.in_default.is at c.way.ensures.none)

pub spread_waiting-requires : goal.spread_waiting-requires
spread_waiting-requires g c = record { waits = (c.in-Waiting.field-1, rw c.in-Waiting.is at c.in-Some.ensures.some) }

pub returns-in-Halfway-clause-has : goal.returns-in-Halfway-clause-has
returns-in-Halfway-clause-has g c =
    let half = rw c.in-Halfway.is at c.in-Some.ensures.some in
    on_ok_weaker c.follow.result (λ has es known. half_done c.follow.new.self es c.args.stage.now c.args.party c.in-Halfway.field-0 c.args.reply half (has es known)) c.follow.ensures.has

pub returns-in-Answered-clause-has : goal.returns-in-Answered-clause-has
returns-in-Answered-clause-has g c = λ es known. is_answered c.args.self.now es c.args.stage.now c.args.party c.in-Answered.field-0 c.args.reply (rw c.in-Answered.is at c.in-Some.ensures.some)
