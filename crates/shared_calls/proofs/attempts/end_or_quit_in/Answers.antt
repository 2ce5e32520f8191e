use Rattle.std.proofs.Common.{◌≡◌, ◌∙◌, true, false}
use Rattle.shared_calls.proofs.GivesUp.{halts_in, at_call, looked, no_wait, gave_up_in}
use Rattle.shared_calls.proofs.attempts.end_or_quit_in.Goals as goal

pub carry_on-requires-clause-left : goal.carry_on-requires-clause-left
carry_on-requires-clause-left g c = let (call, push, first, at) = c.requires.left in (call, first, at)

pub returns-in-Break : goal.returns-in-Break
returns-in-Break g c = λ call first at. c.in-Break.ensures call first at

pub look-requires-clause-sits : goal.look-requires-clause-sits
look-requires-clause-sits g c = let (call, push, first, at) = c.requires.left in (c.in-Continue.ensures call first at).0.1.0

pub look-requires-clause-calls : goal.look-requires-clause-calls
look-requires-clause-calls g c =
    let w = c.args.queue.now.chain in let (call, push, first, at) = c.requires.left in
    let paused = c.in-Continue.ensures call first at in
    at_call w first c.carry_on.new.seat call c.in-Continue.left paused.0.0.0 paused.0.1 paused.1

pub settle-requires-clause-kind : goal.settle-requires-clause-kind
settle-requires-clause-kind g c = let (call, push, first, at) = c.requires.left in (c.in-Continue.ensures call first at).0.0.0

pub settle-requires-clause-stood : goal.settle-requires-clause-stood
settle-requires-clause-stood g c =
    let w = c.args.queue.now.chain in let (call, push, first, at) = c.requires.left in
    let paused = c.in-Continue.ensures call first at in let from = c.in-Continue.left in let seen = c.look.ensures.same in
    let stands = looked w first c.carry_on.new.seat call from paused.0.0.0 paused.0.1 c.look.new.seat seen.0 seen.1 in
    (call, first, (paused.0.0, stands))

pub returns-in-Break-settle : goal.returns-in-Break-settle
returns-in-Break-settle g c = λ call first at.
    let w = c.args.queue.now.chain in
    let paused = c.in-Continue.ensures call first at in let from = c.in-Continue.left in let seen = c.look.ensures.same in
    let stands = looked w first c.carry_on.new.seat call from paused.0.0.0 paused.0.1 c.look.new.seat seen.0 seen.1 in
    c.in-Break-settle.ensures.stood call first (paused.0.0, stands)

pub quit_in-requires-clause-sits : goal.quit_in-requires-clause-sits
quit_in-requires-clause-sits g c =
    let w = c.args.queue.now.chain in let (call, push, first, at) = c.requires.left in
    let paused = c.in-Continue.ensures call first at in let from = c.in-Continue.left in let seen = c.look.ensures.same in
    let stands = looked w first c.carry_on.new.seat call from paused.0.0.0 paused.0.1 c.look.new.seat seen.0 seen.1 in
    (c.in-Continue-settle.ensures.stood call first (paused.0.0, stands)).1.0

pub quit_in-requires-clause-halts : goal.quit_in-requires-clause-halts
quit_in-requires-clause-halts g c =
    let w = c.args.queue.now.chain in let (call, push, first, at) = c.requires.left in
    let paused = c.in-Continue.ensures call first at in let from = c.in-Continue.left in let seen = c.look.ensures.same in
    let stands = looked w first c.carry_on.new.seat call from paused.0.0.0 paused.0.1 c.look.new.seat seen.0 seen.1 in
    let stood = c.in-Continue-settle.ensures.stood call first (paused.0.0, stands) in
    halts_in w first c.settle.new.seat call c.in-Continue-settle.left stood.0.0 stood.1

pub unreachable-requires : goal.unreachable-requires
unreachable-requires g c =
    let w = c.args.queue.now.chain in let (call, push, first, at) = c.requires.left in
    let paused = c.in-Continue.ensures call first at in let from = c.in-Continue.left in
    let early = c.in-Continue-settle.ensures.early (no_wait w first c.carry_on.new.seat call from paused.0.0.0 paused.0.1 push c.look.ensures.shows) in
    absurd (let no : false ≡ true = c.in-Err.ensures.early early in cc)

pub returns : goal.returns
returns g c = λ call first at.
    let w = c.args.queue.now.chain in let (some, push, its, there) = c.requires.left in
    let paused = c.in-Continue.ensures call first at in let from = c.in-Continue.left in let seen = c.look.ensures.same in
    let stands = looked w first c.carry_on.new.seat call from paused.0.0.0 paused.0.1 c.look.new.seat seen.0 seen.1 in
    let left = c.in-Continue-settle.left in let stood = c.in-Continue-settle.ensures.stood call first (paused.0.0, stands) in
    let one = c.in-Continue.ensures some its there in
    let early = c.in-Continue-settle.ensures.early (no_wait w its c.carry_on.new.seat some from one.0.0.0 one.0.1 push c.look.ensures.shows) in
    let e = c.in-Ok.ensures.quits in
    let h = gave_up_in w first c.settle.new.seat call left stood.0.0 stood.1 c.quit_in.new.asking early e.0 e.1 in
    (h.0, e.2 ∙ h.1)
