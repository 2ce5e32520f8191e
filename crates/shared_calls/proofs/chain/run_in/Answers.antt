use Rattle.std.proofs.Common.{sym, ◌∙◌}
use Rattle.shared_calls.proofs.Wakes.{wakes_free, rests_ended}
use Rattle.shared_calls.proofs.chain.run_in.Goals as goal

pub run-reply-requires-clause-rests : goal.run-reply-requires-clause-rests
run-reply-requires-clause-rests g c = let s = c.wake-asking.ensures.seat in (s.0, wakes_free _ c.args.party.now c.wake-asking.result.seat.sitter c.requires.rests s.1)

pub returns : goal.returns
returns g c =
    let s = c.wake-asking.ensures.seat in let d = c.run-reply.ensures in let out = c.rests.ensures in
    rests_ended c.args.party.now c.rests.result c.wake-asking.result.seat.sitter c.run-reply.new.seat.seat.sitter _ c.run-reply.result s.1 d.0.1 d.1 out.0 (out.1 ∙ (d.0.0.0 ∙ sym c.requires.rests.1)) out.2
