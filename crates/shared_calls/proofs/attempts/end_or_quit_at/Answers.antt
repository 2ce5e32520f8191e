use Rattle.std.proofs.Common.{◌≡◌, ◌-◌, ◌∙◌, true, false, subst, sym}
use Rattle.queue_laws.specs.Common.Vocabulary.{STEPS_ALONE}
use Rattle.shared_calls.{specs.Settling.MayWait, specs.Halts.next_at, proofs.GivesUp.halts, proofs.GivesUp.gave_up}
use Rattle.shared_calls.proofs.attempts.end_or_quit_at.Goals as goal

pub carry_on-requires-clause-left : goal.carry_on-requires-clause-left
carry_on-requires-clause-left g c = let (call, is, first, at) = c.requires.left in (call, first, at)

pub returns-in-Break : goal.returns-in-Break
returns-in-Break g c = λ call first at. c.in-Break.ensures call first at

pub settle-requires-clause-kind : goal.settle-requires-clause-kind
settle-requires-clause-kind g c =
    let t = c.args.table.now.table.shared.table_id in let (call, is, first, at) = c.requires.left in
    subst (λ k. g.K.Steps.KindSteps.has_kind k) (sym (c.in-Continue.ensures call first at).0.0.0) (g.met.K.TableSteps.steps_fit t.slots)

pub settle-requires-clause-stood : goal.settle-requires-clause-stood
settle-requires-clause-stood g c = let (call, is, first, at) = c.requires.left in (call, first, (c.in-Continue.ensures call first at).0)

pub returns-in-Break-settle : goal.returns-in-Break-settle
returns-in-Break-settle g c = λ call first at. c.in-Break-settle.ensures.stood call first (c.in-Continue.ensures call first at).0

pub quit_at-requires-clause-table : goal.quit_at-requires-clause-table
quit_at-requires-clause-table g c =
    let (call, is, first, at) = c.requires.left in
    (c.in-Continue-settle.ensures.stood call first (c.in-Continue.ensures call first at).0).1.0

pub quit_at-requires-clause-halts : goal.quit_at-requires-clause-halts
quit_at-requires-clause-halts g c =
    let t = c.args.table.now.table.shared.table_id in let K = g.K.TableKind.layout in let (call, is, first, at) = c.requires.left in
    let stood = c.in-Continue-settle.ensures.stood call first (c.in-Continue.ensures call first at).0 in
    halts K t (STEPS_ALONE - 1) (first.table_id, first.me) call c.settle.new.seat c.in-Continue-settle.left stood.0.0 stood.1

pub unreachable-requires : goal.unreachable-requires
unreachable-requires g c =
    let (call, is, first, at) = c.requires.left in
    let paused = c.in-Continue.ensures call first at in let from = c.in-Continue.left in
    let early = c.in-Continue-settle.ensures.early (λ waits. c.requires.ends (next_at from) (subst (λ k. MayWait k (next_at from)) paused.0.0.0 waits)) in
    absurd (let no : false ≡ true = c.in-Err.ensures.early early in cc)

pub returns : goal.returns
returns g c = λ call first at.
    let t = c.args.table.now.table.shared.table_id in let K = g.K.TableKind.layout in
    let paused = c.in-Continue.ensures call first at in let from = c.in-Continue.left in
    let left = c.in-Continue-settle.left in let stood = c.in-Continue-settle.ensures.stood call first paused.0 in
    let early = c.in-Continue-settle.ensures.early (λ waits. c.requires.ends (next_at from) (subst (λ k. MayWait k (next_at from)) paused.0.0.0 waits)) in
    let e = c.in-Ok.ensures.quits in
    let h = gave_up K t (STEPS_ALONE - 1) (first.table_id, first.me) call c.settle.new.seat left stood.0.0 stood.1 c.quit_at.new.seat early e.0 e.1 in
    (h.0, e.2 ∙ h.1)
