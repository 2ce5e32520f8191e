use Rattle.std.proofs.Common.{◌-◌, ◌∙◌, sym, subst}
use Rattle.queue_laws.specs.Common.Vocabulary.{STEPS_ALONE}
use Rattle.call_driver.proofs.Going.{replies, again}
use Rattle.shared_calls.{specs.Pausing.IsStep, proofs.Filling.is_filled, proofs.Filling.filled_as}
use Rattle.shared_calls.proofs.pausing.pause.Goals as goal

pub next-todo-requires-clause-of : goal.next-todo-requires-clause-of
next-todo-requires-clause-of g c = c.requires.kind

pub next-todo-requires-clause-can : goal.next-todo-requires-clause-can
next-todo-requires-clause-can g c =
    let h = c.requires.stood in
    (again g.M.Site g.met.M.Site.goes_on g.met.M.Site.more (STEPS_ALONE - 1) c.args.kind c.args.call c.args.site.now h.1 h.0 c.args.progress c.args.carried c.args.seat.now h.2).1.0

pub give_back-requires : goal.give_back-requires
give_back-requires g c =
    let h = c.requires.stood in let n = STEPS_ALONE - 1 in
    record {
      may = (replies g.M.Site n c.args.kind c.args.call c.args.site.now h.1 h.0 c.args.progress.local c.args.progress.answer c.in-Reply.reply c.in-Reply.spare c.args.seat.now c.args.carried c.next-todo.ensures c.in-Reply.is
          (again g.M.Site g.met.M.Site.goes_on g.met.M.Site.more n c.args.kind c.args.call c.args.site.now h.1 h.0 c.args.progress c.args.carried c.args.seat.now h.2)).0;
    }

pub fill-requires : goal.fill-requires
fill-requires g c =
    let h = c.requires.stood in let n = STEPS_ALONE - 1 in
    let told = (replies g.M.Site n c.args.kind c.args.call c.args.site.now h.1 h.0 c.args.progress.local c.args.progress.answer c.in-Reply.reply c.in-Reply.spare c.args.seat.now c.args.carried c.next-todo.ensures c.in-Reply.is
    (again g.M.Site g.met.M.Site.goes_on g.met.M.Site.more n c.args.kind c.args.call c.args.site.now h.1 h.0 c.args.progress c.args.carried c.args.seat.now h.2)).1 c.give_back.new.seat c.give_back.ensures in
    record { fits = is_filled c.in-Reply.reply c.args.carried told.0 told.1 }

pub returns-in-Reply : goal.returns-in-Reply
returns-in-Reply g c = λ call first stood.
    let n = STEPS_ALONE - 1 in
    let told = (replies g.M.Site n c.args.kind c.args.call c.args.site.now first call c.args.progress.local c.args.progress.answer c.in-Reply.reply c.in-Reply.spare c.args.seat.now c.args.carried c.next-todo.ensures c.in-Reply.is
    (again g.M.Site g.met.M.Site.goes_on g.met.M.Site.more n c.args.kind c.args.call c.args.site.now first call c.args.progress c.args.carried c.args.seat.now stood)).1 c.give_back.new.seat c.give_back.ensures in
    let same = filled_as c.in-Reply.reply c.args.carried told.0 told.1 c.fill.result c.fill.ensures in
    rw same at told.2

pub returns-in-Step : goal.returns-in-Step
returns-in-Step g c = λ call first stood. (stood, subst IsStep (sym (sym c.next-todo.ensures ∙ c.in-Step.is)) tt)
