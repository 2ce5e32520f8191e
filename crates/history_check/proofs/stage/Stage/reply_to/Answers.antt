use Rattle.history_check.proofs.stage.Stage.reply_to.Goals as goal

pub returns-in-None-clause-acts : goal.returns-in-None-clause-acts
returns-in-None-clause-acts g c = λ r expected acts. c.acting_reply.ensures r (rw (← c.self.view_is) at acts)
