use Rattle.std.proofs.Common.{Break, refl, subst}
use Rattle.shared_parties.specs.Calling.{cap_of}
use Rattle.concurrent_queue.{specs.declared.party.SeatPlace.SeatPlace as place, specs.Shared.party_view_of, specs.Tries.Tries, proofs.TableCalls.begins_here, proofs.Told.told_here, proofs.Told.tells}
use Rattle.concurrent_queue.proofs.shared.trying.attempt_at.Goals as goal

pub run-requires : goal.run-requires
run-requires g c =
    let s = c.args.seat.now in let t = c.args.table.now.table.shared.table_id in
    record { rests = begins_here (place.Table s) s (cap_of (g.K.TableKind.layout t.slots).calls) t (party_view_of (place.Table s)) refl c.requires.held.0 refl c.requires.held.1 }

pub end_or_quit-requires-clause-left : goal.end_or_quit-requires-clause-left
end_or_quit-requires-clause-left g c = (c.ask-call.result, tt, c.args.seat.now, c.in-Continue.ensures)

pub end_or_quit-requires-clause-ends : goal.end_or_quit-requires-clause-ends
end_or_quit-requires-clause-ends g c = c.requires.ends

pub tell-requires : goal.tell-requires
tell-requires g c =
    let s = c.args.seat.now in let q = c.run.new.seat in let t = c.args.table.now.table.shared.table_id in let v = party_view_of (place.Table s) in
    let h = told_here (place.Table s) s (cap_of (g.K.TableKind.layout t.slots).calls) t v refl c.requires.held.0 refl c.requires.held.1 q (place.Table q) c.ask-call.result (Break c.in-Break.reply) refl c.in-Break.ensures in
    record { told = (v, _, c.args.given, subst (λ z. Tries v z (Break c.in-Break.reply) (party_view_of (place.Table q))) c.ask-call.ensures h.1) }

pub tell-requires-in-Continue : goal.tell-requires-in-Continue
tell-requires-in-Continue g c =
    let s = c.args.seat.now in let q = c.end_or_quit.new.seat in let t = c.args.table.now.table.shared.table_id in let v = party_view_of (place.Table s) in let k = c.ask-call.result in
    let h = told_here (place.Table s) s (cap_of (g.K.TableKind.layout t.slots).calls) t v refl c.requires.held.0 refl c.requires.held.1 q (place.Table q) k c.end_or_quit.result refl (c.end_or_quit.ensures k s c.in-Continue.ensures) in
    record { told = (v, _, c.args.given, subst (λ z. Tries v z c.end_or_quit.result (party_view_of (place.Table q))) c.ask-call.ensures h.1) }

pub returns-in-Break : goal.returns-in-Break
returns-in-Break g c =
    let s = c.args.seat.now in let q = c.run.new.seat in let t = c.args.table.now.table.shared.table_id in let v = party_view_of (place.Table s) in let k = c.ask-call.result in
    let h = told_here (place.Table s) s (cap_of (g.K.TableKind.layout t.slots).calls) t v refl c.requires.held.0 refl c.requires.held.1 q (place.Table q) k (Break c.in-Break.reply) refl c.in-Break.ensures in
    tells g.W.Attempt.asks g.W.Attempt.tells v (place.Table q) c.args.given k (Break c.in-Break.reply) _ _ h c.ask-call.ensures c.tell.ensures refl

pub returns-in-Continue : goal.returns-in-Continue
returns-in-Continue g c =
    let s = c.args.seat.now in let q = c.end_or_quit.new.seat in let t = c.args.table.now.table.shared.table_id in let v = party_view_of (place.Table s) in let k = c.ask-call.result in
    let h = told_here (place.Table s) s (cap_of (g.K.TableKind.layout t.slots).calls) t v refl c.requires.held.0 refl c.requires.held.1 q (place.Table q) k c.end_or_quit.result refl (c.end_or_quit.ensures k s c.in-Continue.ensures) in
    tells g.W.Attempt.asks g.W.Attempt.tells v (place.Table q) c.args.given k c.end_or_quit.result _ _ h c.ask-call.ensures c.tell-in-Continue.ensures refl
