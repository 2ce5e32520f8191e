use Rattle.std.proofs.Common.{◌≡◌, ◌∙◌, sym, ap, subst}
use Rattle.mem_blocks.specs.declared.block.BlockPtr.{BlockPtr as Link}
use Rattle.shared_chain.specs.declared.web.ChainWeb.{ChainWeb}
use Rattle.shared_calls.specs.declared.{chain.Asking.Asking, left.Left.Left}
use Rattle.queue_steps.specs.Kinds.{call_value}
use Rattle.shared_parties.specs.Quitting.{its_call}
use Rattle.concurrent_queue.{specs.Begun.Begun, specs.Pending.StopsInside, specs.SawMore.SawMore, proofs.Quits.given_back_in}
use Rattle.concurrent_queue.proofs.shared.standing.quit_inside.Goals as goal

pub quit_in-requires : goal.quit_in-requires
quit_in-requires g c =
    let (v, h) = c.requires.stands in
    record { sits = h.0; halts = (h.1.kind, its_call c.args.asking.seat.sitter.view, h.1.local, h.1.answer, h.1.local_is, h.1.answer_is, h.1.can, h.1.after) }

pub rests-requires : goal.rests-requires
rests-requires g c = let e = c.in-Ok.ensures.quits in record { free = (e.1.1, e.1.2) }

pub at-requires : goal.at-requires
at-requires g c =
    let (v, h) = c.requires.stands in let e = c.in-Ok.ensures.quits in let out = c.rests.ensures in
    (given_back_in c.args.queue.now.chain c.args.asking c.quit_in.new.asking c.args.left v c.rests.result h e.0 e.1 out.0 out.1 out.2).0

pub returns-in-Ok : goal.returns-in-Ok
returns-in-Ok g c = λ v h.
    let e = c.in-Ok.ensures.quits in let out = c.rests.ensures in (
      subst (λ p. SawMore v.party p) (sym c.at.ensures) (given_back_in c.args.queue.now.chain c.args.asking c.quit_in.new.asking c.args.left v c.rests.result h e.0 e.1 out.0 out.1 out.2).1,
      e.2 ∙ ap (λ (z : Begun _). call_value z.call) h.2,
    )

same_stop : {T A Q : Type 0} (w : ChainWeb T A) (s q : Asking T A Q) (l m : Left T (Link T)) (v : Begun T) → (m ≡ l) × (q ≡ s) → StopsInside w s l v → StopsInside w q m v
same_stop {T} {A} {Q} w s q l m v e h = subst (λ (z : Asking T A Q × Left T (Link T)). StopsInside w z.0 z.1 v) (λ i. (sym e.1 i, sym e.0 i)) h

pub at-requires-in-Err : goal.at-requires-in-Err
at-requires-in-Err g c = let (v, h) = c.requires.stands in (same_stop c.args.queue.now.chain c.args.asking c.quit_in.new.asking c.args.left c.in-Err.left v c.in-Err.ensures.quits h).1

pub returns-in-Err : goal.returns-in-Err
returns-in-Err g c = λ v h. c.at-in-Err.ensures ∙ (same_stop c.args.queue.now.chain c.args.asking c.quit_in.new.asking c.args.left c.in-Err.left v c.in-Err.ensures.quits h).2
