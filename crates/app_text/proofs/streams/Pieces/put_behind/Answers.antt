use Rattle.std.proofs.Common.{rules, tests}
use Rattle.app_text.proofs.Writing.{put-failed, put-long}
use Rattle.app_text.proofs.streams.Pieces.put_behind.Goals as goal

pub returns-in_err-write_text : goal.returns-in_err-write_text
returns-in_err-write_text g c =
    let begun = rw (c.deref.ensures.value, c.self.view_is) at c.in_err-write_text.ensures.begun in
    search (rules, put-failed _ _ _ c.args.text.now begun)

pub returns-then-text-capacity : goal.returns-then-text-capacity
returns-then-text-capacity g c =
    let wrote = rw (c.deref.ensures.value, c.self.view_is) at c.in_ok-write_text.ensures.written in
    put-long _ _ _ _ _ _ _ wrote c.clear.ensures.items c.write_text-then-text-capacity.ensures.written c.write_text-then-text-capacity.ensures.begun

pub returns : goal.returns
returns g c = search (rules, tests)
