use Rattle.std.proofs.Common.{sym, subst, ◌∙◌}
use Rattle.shared_chain.specs.Turning.{ChainEnded}
use Rattle.shared_calls.proofs.{Wakes.wakes_free, Wakes.rests_ended, chain.answer.Goals.in-Break, chain.answer.Goals.in-Continue}
use Rattle.shared_calls.proofs.chain.answer.Goals as goal

pub run-begun-requires : goal.run-begun-requires
run-begun-requires g c = let s = c.wake-asking.ensures.seat in record { rests = (s.0, wakes_free _ c.args.party.now c.wake-asking.result.seat.sitter c.requires.rests s.1) }

pub returns : goal.returns
returns g c =
    let s = c.wake-asking.ensures.seat in let out = c.rests.ensures in let m = c.match-begun in let k = c.args.call in let q = c.args.queue.now.chain in let p = c.wake-asking.result in
    let d : ChainEnded q p.seat k m.reply m.asking.seat = elim m.branch [
      | in-Break w ↦ subst (λ r. ChainEnded q p.seat k r m.asking.seat) (sym w.reply-is) (subst (λ a. ChainEnded q p.seat k w.in-Break.reply a.seat) (sym w.asking-is) w.in-Break.ensures)
      | in-Continue w ↦ let r' = w.wait_out-reply in subst (λ r. ChainEnded q p.seat k r m.asking.seat) (sym w.reply-is) (subst (λ a. ChainEnded q p.seat k r'.result a.seat) (sym w.asking-is) (r'.ensures k p w.in-Continue.ensures))
    ] in
    rests_ended c.args.party.now c.rests.result p.seat.sitter m.asking.seat.sitter k m.reply s.1 d.0.1 d.1 out.0 (out.1 ∙ (d.0.0.0 ∙ sym c.requires.rests.1)) out.2
