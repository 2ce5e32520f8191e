use Rattle.std.proofs.Common.{◌≡◌, ◌∙◌, arith, ap, sym, subst, length, rules, tests}
use Rattle.std.proofs.lemmas.{List.map-id, Iterator.Adapters.YieldsList-from_vec, Iterator.Consumers.YieldsList-end}
use Rattle.machine_steps.specs.{Left.opening_world, Machine.world_of, Machine.PassesAll}
use Rattle.machine_replay.proofs.Engine.AllKinds.{in_order-first, in_order-can, in_order-next, has_machine}
use Rattle.machine_replay.proofs.words.machine_after.Goals as goal

pub pass-requires-clause-room : goal.pass-requires-clause-room
pass-requires-clause-room g c =
    let more = ap length c.in-Some.ensures.steps.0 in omega (arith, more, c.loop-event.invariant.blocks)

pub pass-requires-clause-can : goal.pass-requires-clause-can
pass-requires-clause-can g c =
    rw c.loop-event.invariant.kind_is (in_order-can c.args.kind c.args.parties c.loop-event.yielded (world_of c.loop-event.machine) c.loop-event.invariant.in_order c.in-Some.event)

pub loop-event-init : goal.loop-event-init
loop-event-init g c =
    record {
      can = tt;
      finite = tt;
      in_order = rw c.in_ok-machine.ensures.world (in_order-first c.args.kind c.args.parties (has_machine c.args.kind c.requires (sym c.too_large.ensures ∙ c.if-too_large.false)));
      kind_is = c.in_ok-machine.ensures.kind;
      blocks = let all = ap length c.into_iter-event-iterator.ensures.into_iter_gives.0 in omega (arith, all, c.in_ok-machine.ensures.room, c.len.ensures, c.args.events.ok.0);
      counted = c.in_ok-machine.ensures.counted;
    }

pub loop-event-preserved : goal.loop-event-preserved
loop-event-preserved g c =
    record {
      can = tt;
      finite = tt;
      in_order = in_order-next c.args.kind c.args.parties c.loop-event.yielded (world_of c.loop-event.machine) (world_of c.pass.new.machine) c.in-Some.event c.loop-event.invariant.in_order (rw c.loop-event.invariant.kind_is at c.pass.ensures.world);
      kind_is = c.pass.ensures.kind ∙ c.loop-event.invariant.kind_is;
      blocks = let more = ap length c.in-Some.ensures.steps.0 in omega (arith, more, c.loop-event.invariant.blocks, c.pass.ensures.room.0, c.pass.ensures.room.1);
      counted = c.pass.ensures.counted;
    }

pub returns-clause-plays : goal.returns-clause-plays
returns-clause-plays g c =
    let it = c.into_iter-event-iterator.ensures.into_iter_gives in
    let t = YieldsList-end (YieldsList-from_vec c.args.events.items it.0 (it.1 ∙ c.args.events.ok.0)) c.loop-event.yielded c.loop-event.event-iterator c.loop-event.yielded_by c.next.result c.next.new.self c.in-None.is c.next.ensures.steps in
    let all : c.loop-event.yielded ≡ c.args.events.items = sym (map-id c.loop-event.yielded) ∙ t.0 in
    subst (λ es. PassesAll c.args.kind (opening_world c.args.kind c.args.parties) es (world_of c.loop-event.machine)) all c.loop-event.invariant.in_order.plays

pub returns-clause-limited : goal.returns-clause-limited
returns-clause-limited g c = search (rules, tests)
