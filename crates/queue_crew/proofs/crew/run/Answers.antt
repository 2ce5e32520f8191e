use Rattle.queue_crew.proofs.crew.run.Goals as goal

pub returns : goal.returns
returns g c = let came = c.scoped.ensures.1 in record { came = came.0; made = came.1.0; started = came.1.1.0; some = came.1.1.1 }
