use Rattle.std.proofs.Common.{◌≤◌, false, length, refl, ap, ◌∙◌, arith, length-set}
use Rattle.std.proofs.lemmas.List.Elements.{All-weaker}
use Rattle.app_threads.proofs.Works.{none_taken, none_few, taken_more, few_more, quit_work}
use Rattle.app_threads.proofs.crew.pop_all.Goals as goal

pub returns-in_default : goal.returns-in_default
returns-in_default g c =
    let items = c.args.plan.items in let most = c.args.plan.share in let given = c.give_up.ensures in let none = given.same.0 ∙ c.new.ensures.items in
    quit_work c.args.queue.now items most c.args.party c.args.party c.give_up.result c.requires refl
    (none_taken items 0 c.args.party c.args.party c.give_up.result.counts.items none (λ x. refl)) (none_few most 0 c.give_up.result.counts.items none) given.quits given.same.1

pub returns-in-None : goal.returns-in-None
returns-in-None g c =
    let items = c.args.plan.items in let most = c.args.plan.share in let before = c.loop.invariant in
    quit_work c.args.queue.now items most c.args.party c.loop.party (record { party = c.pop_one.new.party; counts = c.loop.counts; done = false }) c.requires before.queue before.taken
    (All-weaker (λ count. count ≤ c.loop.counter) (λ count. count ≤ most) (λ count le. omega (arith, le, c.loop-test.true)) c.loop.counts.items before.few) c.in-None.ensures refl

pub loop-preserved : goal.loop-preserved
loop-preserved g c =
    let before = c.loop.invariant in let acts = c.in-Some.ensures in let counted = c.count.ensures in record {
      queue = acts.queue ∙ before.queue;
      share = acts.share ∙ before.share;
      complete = ap length counted ∙ (length-set c.loop.counts.items _ _ ∙ before.complete);
      taken = taken_more c.args.plan.items c.in-Some.value c.args.party c.loop.party c.pop_one.new.party c.loop.counts.items c.count.new.counts.items before.complete counted acts before.taken;
      few = few_more c.loop.counter c.in-Some.value c.loop.counts.items c.count.new.counts.items counted before.few;
    }
