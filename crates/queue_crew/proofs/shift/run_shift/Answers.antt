use Rattle.queue_crew.proofs.{Counts.as_many, Counts.posts_counted, Counts.some_posts, Pieces.has_worked}
use Rattle.queue_crew.proofs.shift.run_shift.Goals as goal

pub run-ran-requires-clause-fits : goal.run-ran-requires-clause-fits
run-ran-requires-clause-fits g c = λ κs lives k le. le

pub returns-clause-worked : goal.returns-clause-worked
returns-clause-worked g c =
    let ran = c.run-ran.result in
    has_worked (g.S.Shift.reports c.args.shift.now) c.args.queue.now c.args.roster.on_refusal ran.all_started ran.made c.args.party ran.all.party ran.all.posts.items c.reverse.new.self.items
    c.run-ran.ensures.came.0 c.reverse.ensures.items

pub returns-clause-started : goal.returns-clause-started
returns-clause-started g c = c.run-ran.ensures.started

pub returns-clause-made : goal.returns-clause-made
returns-clause-made g c =
    let ran = c.run-ran in
    posts_counted _ ran.result.made ran.result.started c.args.roster.threads (as_many ran.result.all.posts.items c.reverse.new.self.items ran.result.made c.reverse.ensures.items ran.ensures.came.0.made_are) ran.ensures.made

pub returns-clause-some : goal.returns-clause-some
returns-clause-some g c =
    λ all some.
    let ran = c.run-ran in
    some_posts _ ran.result.made (as_many ran.result.all.posts.items c.reverse.new.self.items ran.result.made c.reverse.ensures.items ran.ensures.came.0.made_are) (λ none. ran.ensures.some none some all)
