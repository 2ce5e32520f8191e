use Rattle.std.proofs.Common.{◌≡◌, ◌∙◌, arith, ap, sym, length}
use Rattle.std.proofs.lemmas.{List.map-id, Iterator.Adapters.YieldsList-from_vec, Iterator.Consumers.YieldsList-end}
use Rattle.machine_replay.proofs.Chain.Gathering.{blocks-append, blocks-append_none, front-append, front-append_none, settled-left}
use Rattle.machine_replay.proofs.chain_left.left.Goals as goal

pub loop-call-preserved-in-Some-call : goal.loop-call-preserved-in-Some-call
loop-call-preserved-in-Some-call g c =
    record {
      can = tt;
      finite = tt;
      blocks = rw (c.in-Some-call.is, blocks-append c.loop-call.yielded c.in-Some-call.running c.args.blocks.items, ← c.loop-call.invariant.blocks) c.settle_one.ensures;
      front = rw (c.in-Some-call.is, front-append c.loop-call.yielded c.in-Some-call.running c.args.first, ← c.loop-call.invariant.front) c.front-first.ensures;
    }

pub loop-call-preserved : goal.loop-call-preserved
loop-call-preserved g c =
    record {
      can = tt;
      finite = tt;
      blocks = rw (c.in_default.is, blocks-append_none c.loop-call.yielded c.args.blocks.items) c.loop-call.invariant.blocks;
      front = rw (c.in_default.is, front-append_none c.loop-call.yielded c.args.first) c.loop-call.invariant.front;
    }

pub gather_blocks-requires-clause-room : goal.gather_blocks-requires-clause-room
gather_blocks-requires-clause-room g c =
    let it = c.into_iter-call-iterator.ensures.into_iter_gives in
    let t = YieldsList-end (YieldsList-from_vec c.args.calls.items it.0 (it.1 ∙ c.args.calls.ok.0)) c.loop-call.yielded c.loop-call.call-iterator c.loop-call.yielded_by c.next.result c.next.new.self c.in-None.is c.next.ensures.steps in
    let all : c.loop-call.yielded ≡ c.args.calls.items = sym (map-id c.loop-call.yielded) ∙ t.0 in
    let same = ap length (settled-left c.loop-call.yielded c.args.calls.items c.args.first c.loop-call.first c.args.blocks.items c.loop-call.blocks.items all c.loop-call.invariant.blocks c.loop-call.invariant.front) in
    omega (arith, same, c.requires.room)

pub returns : goal.returns
returns g c =
    let it = c.into_iter-call-iterator.ensures.into_iter_gives in
    let t = YieldsList-end (YieldsList-from_vec c.args.calls.items it.0 (it.1 ∙ c.args.calls.ok.0)) c.loop-call.yielded c.loop-call.call-iterator c.loop-call.yielded_by c.next.result c.next.new.self c.in-None.is c.next.ensures.steps in
    let all : c.loop-call.yielded ≡ c.args.calls.items = sym (map-id c.loop-call.yielded) ∙ t.0 in
    c.gather_blocks.ensures ∙ settled-left c.loop-call.yielded c.args.calls.items c.args.first c.loop-call.first c.args.blocks.items c.loop-call.blocks.items all c.loop-call.invariant.blocks c.loop-call.invariant.front
