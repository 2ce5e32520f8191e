use Rattle.std.proofs.Common.{◌≡◌, ◌-◌, ◌∙◌, false, sym, ap, subst, arith}
use Rattle.queue_laws.specs.Common.Vocabulary.{Next, STEPS_ALONE}
use Rattle.call_driver.proofs.Going.{replies, again, step}
use Rattle.shared_calls.specs.{Early.is_early, Settling.left_at, Settling.MayWait, Halts.next_at}
use Rattle.shared_calls.proofs.{Filling.is_filled, Filling.filled_as, Settling.nearer, Settling.left_late, Settling.left_early}
use Rattle.shared_calls.proofs.pausing.settle_step.Goals as goal

pub next-todo-requires-clause-of : goal.next-todo-requires-clause-of
next-todo-requires-clause-of g c = c.requires.kind

pub next-todo-requires-clause-can : goal.next-todo-requires-clause-can
next-todo-requires-clause-can g c =
    let h = c.requires.stood in let l = c.args.left in
    (again g.M.Site g.met.M.Site.goes_on g.met.M.Site.more (STEPS_ALONE - 1) l.kind l.call c.args.site.now h.1 h.0 l.progress l.carried c.args.seat.now h.2).1.0

pub give_back-requires : goal.give_back-requires
give_back-requires g c =
    let h = c.requires.stood in let n = STEPS_ALONE - 1 in let l = c.args.left in
    record {
      may = (replies g.M.Site n l.kind l.call c.args.site.now h.1 h.0 l.progress.local l.progress.answer c.in-Reply.reply c.in-Reply.spare c.args.seat.now l.carried c.next-todo.ensures c.in-Reply.is
          (again g.M.Site g.met.M.Site.goes_on g.met.M.Site.more n l.kind l.call c.args.site.now h.1 h.0 l.progress l.carried c.args.seat.now h.2)).0;
    }

pub fill-requires : goal.fill-requires
fill-requires g c =
    let h = c.requires.stood in let n = STEPS_ALONE - 1 in let l = c.args.left in
    let told = (replies g.M.Site n l.kind l.call c.args.site.now h.1 h.0 l.progress.local l.progress.answer c.in-Reply.reply c.in-Reply.spare c.args.seat.now l.carried c.next-todo.ensures c.in-Reply.is
    (again g.M.Site g.met.M.Site.goes_on g.met.M.Site.more n l.kind l.call c.args.site.now h.1 h.0 l.progress l.carried c.args.seat.now h.2)).1 c.give_back.new.seat c.give_back.ensures in
    record { fits = is_filled c.in-Reply.reply l.carried told.0 told.1 }

pub returns-in-Reply-clause-stood : goal.returns-in-Reply-clause-stood
returns-in-Reply-clause-stood g c = λ call first stood.
    let n = STEPS_ALONE - 1 in let l = c.args.left in
    let told = (replies g.M.Site n l.kind l.call c.args.site.now first call l.progress.local l.progress.answer c.in-Reply.reply c.in-Reply.spare c.args.seat.now l.carried c.next-todo.ensures c.in-Reply.is
    (again g.M.Site g.met.M.Site.goes_on g.met.M.Site.more n l.kind l.call c.args.site.now first call l.progress l.carried c.args.seat.now stood)).1 c.give_back.new.seat c.give_back.ensures in
    let same = filled_as c.in-Reply.reply l.carried told.0 told.1 c.fill.result c.fill.ensures in
    rw same at told.2

pub returns-in-Reply-clause-nearer : goal.returns-in-Reply-clause-nearer
returns-in-Reply-clause-nearer g c = λ stays. tt

pub returns-then-is_early-clause-stood : goal.returns-then-is_early-clause-stood
returns-then-is_early-clause-stood g c = λ call first stood. stood

pub take_step-answer-requires : goal.take_step-answer-requires
take_step-answer-requires g c =
    let h = c.requires.stood in let n = STEPS_ALONE - 1 in let l = c.args.left in
    record {
      may = (step g.M.Site n l.kind l.call c.args.site.now h.1 h.0 l.progress.local l.progress.answer c.in-Step.local c.in-Step.touch c.in-Step.op c.args.seat.now l.carried c.next-todo.ensures c.in-Step.is
          (again g.M.Site g.met.M.Site.goes_on g.met.M.Site.more n l.kind l.call c.args.site.now h.1 h.0 l.progress l.carried c.args.seat.now h.2)).0;
    }

pub returns-else-is_early-clause-stood : goal.returns-else-is_early-clause-stood
returns-else-is_early-clause-stood g c = λ call first stood.
    let n = STEPS_ALONE - 1 in let l = c.args.left in
    (step g.M.Site n l.kind l.call c.args.site.now first call l.progress.local l.progress.answer c.in-Step.local c.in-Step.touch c.in-Step.op c.args.seat.now l.carried c.next-todo.ensures c.in-Step.is
    (again g.M.Site g.met.M.Site.goes_on g.met.M.Site.more n l.kind l.call c.args.site.now first call l.progress l.carried c.args.seat.now stood)).1
    c.take_step-answer.result c.take_step-answer.new.seat c.take_step-answer.new.carried c.take_step-answer.ensures

pub returns-then-is_early-clause-nearer : goal.returns-then-is_early-clause-nearer
returns-then-is_early-clause-nearer g c = λ stays.
    let none = ap left_at (sym c.next-todo.ensures ∙ c.in-Step.is) ∙ left_early c.in-Step.local c.in-Step.touch c.in-Step.op (sym c.is_early.ensures ∙ c.if-is_early.true) in
    (stays, omega (arith, none), omega (arith, none))

pub returns-else-is_early-clause-nearer : goal.returns-else-is_early-clause-nearer
returns-else-is_early-clause-nearer g c = λ stays.
    let h = c.requires.stood in let n = STEPS_ALONE - 1 in let l = c.args.left in
    let stood = (step g.M.Site n l.kind l.call c.args.site.now h.1 h.0 l.progress.local l.progress.answer c.in-Step.local c.in-Step.touch c.in-Step.op c.args.seat.now l.carried c.next-todo.ensures c.in-Step.is
    (again g.M.Site g.met.M.Site.goes_on g.met.M.Site.more n l.kind l.call c.args.site.now h.1 h.0 l.progress l.carried c.args.seat.now h.2)).1
    c.take_step-answer.result c.take_step-answer.new.seat c.take_step-answer.new.carried c.take_step-answer.ensures in
    let can = (again g.M.Site g.met.M.Site.goes_on g.met.M.Site.more n l.kind l.call c.args.site.now h.1 h.0 (record { local = c.in-Step.local; answer = c.take_step-answer.result }) c.take_step-answer.new.carried c.take_step-answer.new.seat stood).1.0 in
    let is : next_at l ≡ Next.Step c.in-Step.local c.in-Step.touch c.in-Step.op = sym c.next-todo.ensures ∙ c.in-Step.is in
    let late : is_early c.in-Step.local ≡ false = sym c.is_early.ensures ∙ c.if-is_early.false in
    let near = nearer l.kind c.in-Step.local c.in-Step.touch c.in-Step.op c.take_step-answer.result late can (subst (λ z. ¬ (MayWait l.kind z)) is stays) in
    let more = ap left_at is ∙ left_late c.in-Step.local c.in-Step.touch c.in-Step.op late in
    (near.0, near.1, omega (arith, near.2, more))
