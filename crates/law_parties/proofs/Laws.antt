-- The laws of what parties did.
use Rattle.std.proofs.Common.{◌≡◌, ℕ, true, Option, List, [], refl, ap, sym, subst, ◌∙◌, add-zero}
use Rattle.queue_steps.specs.{declared.model.Effect.Effect, Effect.after, Parties.View, Parties.IsView}
use mathlib.Core.List.{IsPrefix}
use Rattle.std.specs.List.{count_by}
use lib.ListN.{get_elem?}
use Rattle.concurrent_queue.specs.Shared.{QueueId}
use Rattle.law_parties.specs.Doings.{passes, done_by, Did}
use Rattle.law_parties.specs.Laws.{CallsAct, ClosedStaysSeen, DoingsAddUp, DrainedStays, ItemsAreKept, JoinsAddDoings, MeetsKeepDoings, NumbersAreKept, PopsSeeDrained, SplitsKeepDoings, WholeDidAll}
use Rattle.law_parties.proofs.{Doings.acts, Doings.acts_none, Doings.acts_on, Doings.did_both, Doings.still_closed, Doings.unchanged, Whole.all_kept, Whole.all_there, Whole.done_by_whole, Drained.saw_drained, Drained.still_drained, Drained.is_drained}

pub calls_act : {T : Type 0} → CallsAct T
calls_act v w c r is call = acts v w c r call.1.effects is call refl

pub doings_add_up : {T : Type 0} → DoingsAddUp T
doings_add_up = (acts_none, acts_on)

did_nothing : {T : Type 0} (cap : Option ℕ) (v w : View T) → IsView cap v → IsPrefix v.seen w.seen → w.mine ≡ v.mine → Did v w []
did_nothing cap v w is begins mine test = unchanged cap v w is begins mine test ∙ sym (add-zero (done_by test v))

pub splits_keep_doings : {T : Type 0} → SplitsKeepDoings T
splits_keep_doings cap v a b is split =
    (did_nothing cap v a is split.begins split.mine.0, λ test. ap (λ (ps : List ℕ). count_by (λ p. passes test (get_elem? b.seen p)) ps) split.mine.1)

pub joins_add_doings : {T : Type 0} → JoinsAddDoings T
joins_add_doings = did_both

pub meets_keep_doings : {T : Type 0} → MeetsKeepDoings T
meets_keep_doings {T} cap a b c d is_a is_b meet =
    let begins : IsPrefix b.seen d.seen = subst (λ (s : List (Effect T)). IsPrefix b.seen s) (sym meet.same) meet.begins.1 in
    (did_nothing cap a c is_a meet.begins.0 meet.mine.0, did_nothing cap b d is_b begins meet.mine.1)

pub whole_did_all : {T : Type 0} → WholeDidAll T
whole_did_all cap v is whole test = done_by_whole test cap v is whole

pub items_are_kept : {T : Type 0} → ItemsAreKept T
items_are_kept = all_kept

pub numbers_are_kept : NumbersAreKept
numbers_are_kept = all_there

pub closed_stays_seen : {T : Type 0} → ClosedStaysSeen T
closed_stays_seen {T} v w queue begins legal closed =
    let before : (after w.queue.cap v.view.seen).closed ≡ true = subst (λ (q : QueueId). (after q.cap v.view.seen).closed ≡ true) (sym queue) closed in
    still_closed w.queue.cap v.view.seen w.view.seen begins legal before

pub pops_see_drained : {T : Type 0} → PopsSeeDrained T
pops_see_drained = saw_drained

pub drained_stays : {T : Type 0} → DrainedStays T
drained_stays v w queue begins legal drained = let now = still_drained v w queue begins drained in (now, is_drained w legal now)
