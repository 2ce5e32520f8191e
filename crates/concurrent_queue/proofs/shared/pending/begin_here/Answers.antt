use Rattle.std.proofs.Common.{refl, sym, subst}
use Rattle.shared_parties.specs.Calling.{cap_of}
use Rattle.concurrent_queue.{specs.declared.party.SeatPlace.SeatPlace as place, specs.Shared.Calls, specs.Shared.party_view_of, proofs.TableCalls.begins_here, proofs.TableCalls.ends_here}
use Rattle.concurrent_queue.proofs.shared.pending.begin_here.Goals as goal

pub run-requires : goal.run-requires
run-requires g c =
    let s = c.args.seat in let t = c.args.table.now.table.shared.table_id in
    record { rests = begins_here (place.Table s) s (cap_of (g.K.TableKind.layout t.slots).calls) t (party_view_of (place.Table s)) refl c.requires.held.0 refl c.requires.held.1 }

pub at-requires : goal.at-requires
at-requires g c =
    let s = c.args.seat in let q = c.run.new.seat in let t = c.args.table.now.table.shared.table_id in
    (ends_here (place.Table s) s (cap_of (g.K.TableKind.layout t.slots).calls) t (party_view_of (place.Table s)) refl c.requires.held.0 refl c.requires.held.1 q (place.Table q) c.args.call _ c.in-Break.reply refl refl c.in-Break.ensures).0

pub returns-in-Break : goal.returns-in-Break
returns-in-Break g c =
    let s = c.args.seat in let q = c.run.new.seat in let t = c.args.table.now.table.shared.table_id in let v = party_view_of (place.Table s) in (
      subst (λ p. Calls v c.args.call c.in-Break.reply p) (sym c.at.ensures)
          (ends_here (place.Table s) s (cap_of (g.K.TableKind.layout t.slots).calls) t v refl c.requires.held.0 refl c.requires.held.1 q (place.Table q) c.args.call _ c.in-Break.reply refl refl c.in-Break.ensures).1,
      c.requires.none,
    )

pub go_on_here_apart-requires-clause-left : goal.go_on_here_apart-requires-clause-left
go_on_here_apart-requires-clause-left g c = (record { party = party_view_of (place.Table c.args.seat); call = c.args.call }, (c.args.seat, c.requires.held, refl, c.in-Continue.ensures))

pub returns-in-Continue : goal.returns-in-Continue
returns-in-Continue g c = c.go_on_here_apart.ensures (record { party = party_view_of (place.Table c.args.seat); call = c.args.call }) (c.args.seat, c.requires.held, refl, c.in-Continue.ensures)
