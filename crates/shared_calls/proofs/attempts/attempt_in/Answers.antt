use Rattle.std.proofs.Common.{◌≡◌, ◌∙◌, Break, None, sym, subst}
use Rattle.queue_laws.specs.Common.Vocabulary.{Call, Reply}
use Rattle.queue_steps.specs.Kinds.{call_value}
use Rattle.shared_chain.specs.Turning.{ChainEnded}
use Rattle.shared_calls.specs.InWeb.{EndedAt}
use Rattle.shared_calls.proofs.{GivesUp.matched, GivesUp.ToldIn, GivesUp.told_free, Wakes.wakes_free, Wakes.rests_ended, attempts.attempt_in.Goals.in-Break, attempts.attempt_in.Goals.in-Continue}
use Rattle.shared_calls.proofs.attempts.attempt_in.Goals as goal

pub run-begun-requires : goal.run-begun-requires
run-begun-requires g c = let s = c.wake-asking.ensures.seat in record { rests = (s.0, wakes_free _ c.args.party.now c.wake-asking.result.seat.sitter c.requires.rests s.1) }

pub end_or_quit_in-requires : goal.end_or_quit_in-requires
end_or_quit_in-requires g c = record { left = rw c.apart.ensures (c.args.call, c.requires.push, c.wake-asking.result, c.in-Continue.ensures) }

pub rests-requires : goal.rests-requires
rests-requires g c =
    let m = c.match-begun in let k = c.args.call in let w = c.args.queue.now.chain in let p = c.wake-asking.result in
    let d : ToldIn w p k m.told m.asking = elim m.branch [
      | in-Break b ↦ subst (λ x. ToldIn w p k x m.asking) (sym b.told-is) (subst (λ a. ToldIn w p k (Break b.in-Break.answer) a) (sym b.asking-is) b.in-Break.ensures)
      | in-Continue b ↦ let e = b.end_or_quit_in in subst (λ x. ToldIn w p k x m.asking) (sym (b.told-is ∙ b.retold-told.ensures)) (subst (λ a. ToldIn w p k e.result a) (sym b.asking-is) (e.ensures k p (rw b.apart.ensures b.in-Continue.ensures)))
    ] in
    let free = told_free w p k m.told m.asking d in record { free = (free.0, free.1) }

pub returns : goal.returns
returns g c =
    let m = c.match-begun in let k = c.args.call in let w = c.args.queue.now.chain in let p = c.wake-asking.result in let r = c.args.party.now in let q = c.rests.result in
    let s = c.wake-asking.ensures.seat in let out = c.rests.ensures in
    let d : ToldIn w p k m.told m.asking = elim m.branch [
      | in-Break b ↦ subst (λ x. ToldIn w p k x m.asking) (sym b.told-is) (subst (λ a. ToldIn w p k (Break b.in-Break.answer) a) (sym b.asking-is) b.in-Break.ensures)
      | in-Continue b ↦ let e = b.end_or_quit_in in subst (λ x. ToldIn w p k x m.asking) (sym (b.told-is ∙ b.retold-told.ensures)) (subst (λ a. ToldIn w p k e.result a) (sym b.asking-is) (e.ensures k p (rw b.apart.ensures b.in-Continue.ensures)))
    ] in
    let ended : (l : _) (y : _) → ChainEnded w p.seat l y m.asking.seat → EndedAt r l y q = λ l y e. rests_ended r q p.seat.sitter m.asking.seat.sitter l y s.1 e.0.1 e.1 out.0 (out.1 ∙ (e.0.0.0 ∙ sym c.requires.rests.1)) out.2 in
    matched (λ value. ChainEnded w p.seat Call.Capacity (Reply.Capacity None) m.asking.seat × (value ≡ call_value k)) (λ value. EndedAt r Call.Capacity (Reply.Capacity None) q × (value ≡ call_value k))
    (λ y. ChainEnded w p.seat k y m.asking.seat) (λ y. EndedAt r k y q) m.told (λ v h. (ended Call.Capacity (Reply.Capacity None) h.0, h.1)) (λ y h. ended k y h) d
