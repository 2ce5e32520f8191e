use Rattle.std.proofs.Common.{◌∙◌, ◌++◌, arith, ap, refl, sym, length-append}
use Rattle.machine_steps.specs.ChainLeft.{unread, unread_in}
use Rattle.machine_replay.proofs.Chain.Gathering.{first-fits, first-taken, places-next, places-end}
use Rattle.machine_replay.proofs.chain_left.gather_places.Goals as goal

pub loop-place-init : goal.loop-place-init
loop-place-init g c =
    record {
      can = tt;
      finite = tt;
      items = ap (λ l. c.args.left.now.items ++ unread l) c.into_iter-place-iterator.ensures.into_iter_gives.0;
      room = refl;
    }

pub gather_place-requires : goal.gather_place-requires
gather_place-requires g c =
    let all = c.args.left.now.items ++ unread c.args.places.items in
    let next = places-next c.loop-place.left.items c.loop-place.place-iterator.rest.items c.in-Some.place c.next.new.self.rest.items all c.in-Some.ensures.steps.0 c.loop-place.invariant.items in
    let fits = first-fits c.loop-place.left.items (unread_in c.in-Some.place) (unread c.next.new.self.rest.items) all next in
    omega (arith, fits, c.requires, c.loop-place.invariant.room, c.loop-place.left.ok.0, c.args.left.now.ok.0, length-append c.args.left.now.items (unread c.args.places.items))

pub loop-place-preserved : goal.loop-place-preserved
loop-place-preserved g c =
    let all = c.args.left.now.items ++ unread c.args.places.items in
    let next = places-next c.loop-place.left.items c.loop-place.place-iterator.rest.items c.in-Some.place c.next.new.self.rest.items all c.in-Some.ensures.steps.0 c.loop-place.invariant.items in
    record {
      can = tt;
      finite = tt;
      items = ap (λ l. l ++ unread c.next.new.self.rest.items) c.gather_place.ensures.left ∙ first-taken c.loop-place.left.items (unread_in c.in-Some.place) (unread c.next.new.self.rest.items) all next;
      room = c.gather_place.ensures.room ∙ c.loop-place.invariant.room;
    }

pub returns-clause-left : goal.returns-clause-left
returns-clause-left g c =
    let rest = c.loop-place.place-iterator.rest in
    places-end c.loop-place.left.items rest.items (c.args.left.now.items ++ unread c.args.places.items) (sym rest.ok.0 ∙ c.in-None.ensures.steps.0) c.loop-place.invariant.items

pub returns-clause-room : goal.returns-clause-room
returns-clause-room g c = c.loop-place.invariant.room
