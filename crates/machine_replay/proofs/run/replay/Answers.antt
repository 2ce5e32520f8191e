use Rattle.std.proofs.Common.{arith, refl, ◌≡◌, ◌∙◌, ◌+◌, ◌<◌, ◌^◌, length, ap, subst, sym}
use Rattle.std.proofs.lemmas.{List.length_push, List.map-id, Iterator.Adapters.YieldsList-from_vec, Iterator.Consumers.YieldsList-end}
use Rattle.machine_replay.specs.{Vocabulary.Replay, Conforms.Conforms, Conforms.capacity_of}
use Rattle.machine_memory.specs.Room.{HasRoom}
use Rattle.machine_replay.proofs.Replays.{Noting.notes-first, Noting.notes-on, Noting.notes-next, Noting.notes-end, Noting.notes-played, OneOwnerRun.one_owner}
use Rattle.machine_replay.proofs.run.replay.Goals as goal

pub handle-told-requires-clause-comes : goal.handle-told-requires-clause-comes
handle-told-requires-clause-comes g c = notes-on c.args.kind c.args.parties c.loop-event.yielded c.loop-event.lists c.loop-event.run c.loop-event.invariant.notes

pub handle-told-requires-clause-room : goal.handle-told-requires-clause-room
handle-told-requires-clause-room g c =
    let more = ap length c.in-Some.ensures.steps.0 in
    let few : c.loop-event.run.handled + 1 < 2 ^ 64 = omega (arith, more, c.loop-event.invariant.handled_is, c.loop-event.invariant.to_come, c.len-count.type_inv) in
    let room : HasRoom c.loop-event.run.machine.memory = omega (arith, more, c.loop-event.invariant.blocks) in
    (room, few)

pub loop-event-init : goal.loop-event-init
loop-event-init g c =
    record {
      can = tt;
      finite = tt;
      notes = notes-first c.args.kind c.args.parties c.in_ok-lists.lists c.in_ok-run.run' c.in_ok-run.ensures.opens c.in_ok-lists.ensures.empty.0 c.in_ok-lists.ensures.empty.1 c.in_ok-lists.ensures.empty.2;
      handled_is = c.in_ok-run.ensures.room.1;
      number_is = refl;
      room = c.in_ok-lists.ensures.room;
      blocks = let all = ap length c.into_iter-event-iterator.ensures.into_iter_gives.0 in omega (arith, all, c.in_ok-run.ensures.room.0, c.len-count.ensures, c.args.events.ok.0);
      to_come = let all = ap length c.into_iter-event-iterator.ensures.into_iter_gives.0 in omega (arith, all, c.len-count.ensures, c.args.events.ok.0);
      count_is = c.len-count.ensures ∙ c.args.events.ok.0;
    }

pub loop-event-preserved : goal.loop-event-preserved
loop-event-preserved g c =
    record {
      can = tt;
      finite = tt;
      notes = notes-next c.args.kind c.args.parties c.loop-event.yielded c.loop-event.lists c.note.new.self c.loop-event.run c.handle-told.new.self c.in-Some.event c.handle-told.result c.loop-event.number c.party-party.result
          c.loop-event.invariant.notes c.loop-event.invariant.number_is c.party-party.ensures c.handle-told.ensures.goes_on c.note.ensures.replies c.note.ensures.effects c.note.ensures.skipped;
      handled_is = omega (arith, c.handle-told.ensures.handled, c.loop-event.invariant.handled_is);
      number_is = omega (arith, length_push c.loop-event.yielded c.in-Some.event, c.loop-event.invariant.number_is);
      room = c.note.ensures.room;
      blocks = let more = ap length c.in-Some.ensures.steps.0 in omega (arith, more, c.loop-event.invariant.blocks, c.handle-told.ensures.room.0, c.handle-told.ensures.room.1);
      to_come = let more = ap length c.in-Some.ensures.steps.0 in omega (arith, more, c.loop-event.invariant.to_come);
      count_is = c.loop-event.invariant.count_is;
    }

pub end_in-left-requires-clause-comes : goal.end_in-left-requires-clause-comes
end_in-left-requires-clause-comes g c = notes-on c.args.kind c.args.parties c.loop-event.yielded c.loop-event.lists c.loop-event.run c.loop-event.invariant.notes

pub end_in-left-requires-clause-room : goal.end_in-left-requires-clause-room
end_in-left-requires-clause-room g c = omega (arith, c.loop-event.invariant.handled_is, c.loop-event.invariant.to_come, c.in_ok-room.ensures.exact)

pub returns-clause-conforms : goal.returns-clause-conforms
returns-clause-conforms g c =
    let it = c.into_iter-event-iterator.ensures.into_iter_gives in
    let t = YieldsList-end (YieldsList-from_vec c.args.events.items it.0 (it.1 ∙ c.args.events.ok.0)) c.loop-event.yielded c.loop-event.event-iterator c.loop-event.yielded_by c.next.result c.next.new.self c.in-None.is c.next.ensures.steps in
    let all : c.loop-event.yielded ≡ c.args.events.items = sym (map-id c.loop-event.yielded) ∙ t.0 in
    rw (← all) (notes-end c.args.kind c.args.parties c.loop-event.yielded c.loop-event.lists c.loop-event.run c.end_in-left.result c.loop-event.invariant.notes c.end_in-left.ensures.leaves)

pub returns-clause-played : goal.returns-clause-played
returns-clause-played g c =
    let it = c.into_iter-event-iterator.ensures.into_iter_gives in
    let t = YieldsList-end (YieldsList-from_vec c.args.events.items it.0 (it.1 ∙ c.args.events.ok.0)) c.loop-event.yielded c.loop-event.event-iterator c.loop-event.yielded_by c.next.result c.next.new.self c.in-None.is c.next.ensures.steps in
    let all : c.loop-event.yielded ≡ c.args.events.items = sym (map-id c.loop-event.yielded) ∙ t.0 in
    let told : Replay g.row.T.Denot g.row.A.Denot = record { replies = c.loop-event.lists.replies; effects = c.loop-event.lists.effects; skipped = c.loop-event.lists.skipped; left = c.end_in-left.result.left; peak = c.end_in-left.result.peak } in
    let notes = c.loop-event.invariant.notes in
    let peak = (c.end_in-left.ensures.leaves c.args.kind c.args.parties c.loop-event.yielded notes.told notes.on).peak_is in
    rw (← all) (notes-played c.args.kind c.args.parties c.loop-event.yielded c.loop-event.lists c.loop-event.run told notes refl refl refl c.end_in-left.ensures.left peak)

pub returns-clause-alone : goal.returns-clause-alone
returns-clause-alone g c =
    λ one.
    let told : Replay g.row.T.Denot g.row.A.Denot = record { replies = c.loop-event.lists.replies; effects = c.loop-event.lists.effects; skipped = c.loop-event.lists.skipped; left = c.end_in-left.result.left; peak = c.end_in-left.result.peak } in
    one_owner (capacity_of c.args.kind) c.args.events.items told (subst (λ n. Conforms (capacity_of c.args.kind) n c.args.events.items told) one (returns-clause-conforms g c))

pub returns-clause-blocks : goal.returns-clause-blocks
returns-clause-blocks g c = (c.end_in-left.ensures.leaves c.args.kind c.args.parties c.loop-event.yielded c.loop-event.invariant.notes.told c.loop-event.invariant.notes.on).no_blocks

pub overflow_add-number : goal.overflow_add-number
overflow_add-number g c =
    let more = ap length c.in-Some.ensures.steps.0 in omega (arith, more, c.loop-event.invariant.to_come, c.len-count.type_inv)
