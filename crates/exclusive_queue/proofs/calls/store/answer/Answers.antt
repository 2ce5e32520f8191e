use Rattle.call_driver.proofs.Apart.{call-parts, apart-fits, apart-filled}
use Rattle.exclusive_queue.proofs.calls.store.answer.Goals as goal

pub settle-reply-requires-clause-whole : goal.settle-reply-requires-clause-whole
settle-reply-requires-clause-whole g c = (c.args.call, call-parts c.split-call.result c.args.call c.split-call.ensures)

pub fill-requires : goal.fill-requires
fill-requires g c =
    let owned = g.S.Sealed.owned in
    let outcome = c.settle-reply.ensures.sequential c.args.call (call-parts c.split-call.result c.args.call c.split-call.ensures) in
    record { fits = apart-fits (owned c.args.store.now) (owned c.settle-reply.new.self) c.args.call c.settle-reply.result c.settle-reply.new.carried outcome }

pub returns-clause-sequential : goal.returns-clause-sequential
returns-clause-sequential g c =
    let owned = g.S.Sealed.owned in
    let outcome = c.settle-reply.ensures.sequential c.args.call (call-parts c.split-call.result c.args.call c.split-call.ensures) in
    apart-filled (owned c.args.store.now) (owned c.settle-reply.new.self) c.args.call c.settle-reply.result c.settle-reply.new.carried c.fill.result c.fill.ensures outcome
