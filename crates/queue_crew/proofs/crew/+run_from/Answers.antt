use Rattle.std.proofs.Common.{◌+◌, false, subst, sym}
use Rattle.queue_crew.proofs.Counts.{not_last, none_counted, one_counted, more_counted, more_fit, next_within, not_before, some_made}
use Rattle.queue_crew.proofs.crew.+run_from.Goals as goal

pub returns-then-number-threads-clause-made : goal.returns-then-number-threads-clause-made
returns-then-number-threads-clause-made g t c = none_counted c.args.number c.args.threads c.requires.so_far.0

pub returns-then-number-threads-clause-some : goal.returns-then-number-threads-clause-some
returns-then-number-threads-clause-some g t c = λ none lt. absurd (not_before c.args.number c.args.threads c.if-number-threads.true lt)

pub returns-in-Err : goal.returns-in-Err
returns-in-Err g t c =
    let so_far = c.requires.so_far in record {
      came = c.in-Err.ensures.0;
      made = none_counted c.args.number c.args.threads so_far.0;
      started = (so_far.1, not_last c.args.number c.args.threads so_far.0 c.if-number-threads.false);
      some = λ none lt. c.in-Err.ensures.1;
    }

pub returns-in-Err-started : goal.returns-in-Err-started
returns-in-Err-started g t c =
    let so_far = c.requires.so_far in let lt = not_last c.args.number c.args.threads so_far.0 c.if-number-threads.false in record {
      came = subst {A = g.row.C-Kept.Denot} (λ kept. g.C.Crew.came c.args.crew.now c.args.number false 1 kept c.join.result) c.of-whole.ensures c.join.ensures;
      made = one_counted c.args.number c.args.threads lt;
      started = (so_far.1, lt);
      some = λ none lt. absurd {A = g.C.Crew.is_least c.args.crew.now c.args.kept} (some_made 0 none);
    }

pub run_from-rest-requires-clause-so_far : goal.run_from-rest-requires-clause-so_far
run_from-rest-requires-clause-so_far g t c =
    λ κs lives.
    (next_within c.args.number c.args.threads (not_last c.args.number c.args.threads c.requires.so_far.0 c.if-number-threads.false), next_within c.args.number c.args.limit.0 c.in-Ok-started.ensures.within)

pub join-requires-in-Ok-started-clause-came : goal.join-requires-in-Ok-started-clause-came
join-requires-in-Ok-started-clause-came g t c =
    let rest = c.run_from-rest.result in
    subst {A = g.row.C-Kept.Denot} (λ kept. g.C.Crew.came c.args.crew.now (c.args.number + 1) rest.all_started rest.made kept rest.all) (sym c.of.ensures) c.run_from-rest.ensures.came

pub join-requires-in-Ok-started-clause-fits : goal.join-requires-in-Ok-started-clause-fits
join-requires-in-Ok-started-clause-fits g t c = let made = c.run_from-rest.result.made in c.requires.fits (made + 1) (more_fit c.args.number made c.args.threads c.run_from-rest.ensures.made.0)

pub returns-in-Ok-started : goal.returns-in-Ok-started
returns-in-Ok-started g t c =
    let rest = c.run_from-rest.result in record {
      came = subst {A = g.row.C-Kept.Denot} (λ kept. g.C.Crew.came c.args.crew.now c.args.number rest.all_started (rest.made + 1) kept c.join-in-Ok-started.result) c.of-whole.ensures c.join-in-Ok-started.ensures;
      made = more_counted c.args.number rest.made rest.started c.args.threads c.run_from-rest.ensures.made;
      started = c.run_from-rest.ensures.started;
      some = λ none lt. absurd {A = g.C.Crew.is_least c.args.crew.now c.args.kept} (some_made rest.made none);
    }
