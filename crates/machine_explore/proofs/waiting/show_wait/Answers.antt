use Rattle.std.proofs.Common.{◌≡◌, ◌∙◌, ◌<◌, ap, arith, length, sym}
use Rattle.machine_replay.specs.Progress.{Between}
use Rattle.machine_explore.{specs.Waiting.is_half_done, specs.Waiting.stands_seen, proofs.Waits.half_at}
use Rattle.machine_explore.proofs.waiting.show_wait.Goals as goal

pub returns : goal.returns
returns g c =
    let calls = c.args.program.now.parties.items in
    let way = c.in-Some.way in
    let h = rw c.in-Some.is at c.in_ok-way.ensures in
    let alone = c.is_alone_half_done.ensures in
    let yes = c.if-not-is_alone_half_done.false in
    let count : c.len.result ≡ length calls = c.len.ensures ∙ c.args.program.now.parties.ok.0 in
    record {
      at = way.position;
      opening = way.opening.items;
      way = h;
      p = c.args.waiter;
      q = c.args.other;
      round = c.in_ok-goes_round.ensures c.if-not-branch.false;
      back = c.in_ok-is_sent_back.ensures c.if-not-branch-2.false;
      there = let there = alone.there yes in omega (arith, there, count);
      apart = alone.apart yes;
      half = λ r below ne.
          let within : r < c.len.result = omega (arith, below, count) in
          half_at c.args.kind c.args.program.now.before (length calls) r h.start h.on.rest way.entries.items c.requires h.starts h.on.seen_are
          ∙ ap (λ l. is_half_done (stands_seen r Between l)) (sym c.as_slice-entries.ensures.value) ∙ alone.half yes r within ne;
      waiter = c.side_of.ensures;
      other = c.side_of-2.ensures;
    }
