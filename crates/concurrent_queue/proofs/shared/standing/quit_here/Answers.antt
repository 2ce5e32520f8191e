use Rattle.std.proofs.Common.{◌≡◌, ◌∙◌, ℕ, Option, sym, ap, subst}
use Rattle.atomic_table.specs.declared.shared.Seat.{Seat}
use Rattle.shared_parties.specs.{declared.known.CallState.CallState, Quitting.its_call}
use Rattle.shared_calls.specs.declared.left.Left.{Left}
use Rattle.queue_steps.specs.Kinds.{call_value}
use Rattle.concurrent_queue.{specs.Begun.Begun, specs.Pending.StopsHere, specs.SawMore.SawMore, proofs.Quits.given_back}
use Rattle.concurrent_queue.proofs.shared.standing.quit_here.Goals as goal

pub quit_at-requires : goal.quit_at-requires
quit_at-requires g c = let (v, h) = c.requires.stands in record { table = h.0; halts = (h.1.kind, its_call c.args.seat.me.0, h.1.can, h.1.after) }

pub at-requires : goal.at-requires
at-requires g c =
    let (v, h) = c.requires.stands in let e = c.in-Ok.ensures.quits in
    (given_back g.K.TableKind.layout c.args.table.now.table.shared.table_id c.args.seat c.quit_at.new.seat c.args.left v h e.0 e.1).0

pub returns-in-Ok : goal.returns-in-Ok
returns-in-Ok g c = λ v h.
    let e = c.in-Ok.ensures.quits in
    (subst (λ p. SawMore v.party p) (sym c.at.ensures) (given_back g.K.TableKind.layout c.args.table.now.table.shared.table_id c.args.seat c.quit_at.new.seat c.args.left v h e.0 e.1).1, e.2 ∙ ap (λ (z : Begun _). call_value z.call) h.2)

same_stop : {T : Type 0} (K : _) (t : _) (s q : Seat (Option T) (CallState T)) (l m : Left T ℕ) (v : Begun T) → (m ≡ l) × (q ≡ s) → StopsHere K t s l v → StopsHere K t q m v
same_stop K t s q l m v e h = subst (λ (z : Seat (Option _) (CallState _) × Left _ ℕ). StopsHere K t z.0 z.1 v) (λ i. (sym e.1 i, sym e.0 i)) h

pub stopped-requires : goal.stopped-requires
stopped-requires g c =
    let (v, h) = c.requires.stands in let t = c.args.table.now.table.shared.table_id in
    record { stands = (t, c.args.table.now.sized.2, (v, same_stop g.K.TableKind.layout t c.args.seat c.quit_at.new.seat c.args.left c.in-Err.left v c.in-Err.ensures.quits h)) }

pub returns-in-Err : goal.returns-in-Err
returns-in-Err g c = λ v h.
    let t = c.args.table.now.table.shared.table_id in
    c.stopped.ensures t v (same_stop g.K.TableKind.layout t c.args.seat c.quit_at.new.seat c.args.left c.in-Err.left v c.in-Err.ensures.quits h)
