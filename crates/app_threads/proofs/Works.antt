-- What calls of a crew's threads come to, and two works that are joined.
use Rattle.std.proofs.Common.{◌≡◌, ⊎_elim, ℕ, zero, suc, ◌+◌, ◌*◌, ◌<◌, ◌≤◌, ◌^◌, ◌&&◌, Bool, true, false, cond, inl, inr, Option, List, [], ◌∷◌, length, get_or, set, replicate, Err, refl, ap, sym, subst, ◌∙◌, arith, add-zero}
use Rattle.std.{proofs.Math.Nat.add-mul, specs.List.All, specs.List.count_by}
use Rattle.std.proofs.lemmas.{Bool.true≢false, Bool.false≢true, Bool.Decides.eqb_tells, List.get_or-set_other, Grind.get_or-set_at, List.Elements.All-head, List.Elements.All-tail, List.Elements.All-replicate, List.Elements.All-set, List.Elements.All-weaker, List.Elements.All-from_get_or}
use mathlib.Core.Option.{some, some-injective, some-ne-none}
use lib.ListN.{get_elem?}
use Rattle.queue_steps.specs.declared.{model.Call.Call as call, model.Reply.Reply as reply, model.Call.Call, model.Reply.Reply, model.Effect.Effect, model.Effect.Effect as effect, errors.PopError.PopError as pop, errors.PushError.PushError as push}
use Rattle.queue_steps.specs.{State.State, State.start, Replies.Allows, Parties.IsView, Parties.StandAt, Parties.Between, Effect.Runs, Effect.IsHistory, Effect.made, Effect.after_from, Effect.after, Shares.Share, Shares.entire, Shares.half, Shares.plus, Shares.SamePart, Shares.IsEntire}
use Rattle.queue_steps.proofs.{ShareLaws.same_refl, ShareLaws.same_trans, ShareLaws.plus_same, ShareLaws.halves_joined, Keeping.stays_closed}
use Rattle.concurrent_queue.specs.Shared.{QueueId, PartyView, Calls, Parts, Joins}
use Rattle.app_threads.specs.{Counts.counted, Counts.EachSumFits, Counts.AreSums, Works.Quits, Works.IsWork, Works.IsWorkOf, declared.handshake.Hands.Hands, declared.handshake.Shaken.Shaken, declared.crew.WorkResult.WorkResult}
use Rattle.app_threads.specs.Meetings.{AreHandsOf, AreThreeParts, Unites, IsShaken, IsMeeting}
use Rattle.law_parties.specs.Doings.{passes, is_take, takes, Acts, SawClosed}
use Rattle.law_parties.proofs.Doings.{acts, acts_on, single, unchanged, did_both, still_closed}

-- a party that has done nothing makes a call
pub first_acts : {T : Type 0} (u v w : PartyView T) (c : Call T) (r : Reply T) (es : List (Effect T)) → IsView v.queue.cap v.view → Acts u v [] → (call : Calls v c r w) → call.1.effects ≡ es → Acts u w es
first_acts u v w c r es is before call are = acts_on u v w [] es before (acts v w c r es is call are)

module _ {T : Type 0} where
  abbrev first_or : Effect T → List (Effect T) → Effect T
  first_or d [] = d
  first_or d (x ∷ xs) = x

  -- the effect closes the queue
  abbrev closes : Effect T → Bool
  closes effect.Close = true
  closes effect.SelfClose = true
  closes e = false

  head_of : (x : Effect T) (xs : List (Effect T)) (y : Effect T) (ys : List (Effect T)) → x ∷ xs ≡ y ∷ ys → x ≡ y
  head_of x xs y ys same = ap (first_or x) same

  closed_by : (Q : State T) (e : Effect T) → closes e ≡ true → (made e Q).closed ≡ true
  closed_by Q effect.Close is = refl
  closed_by Q effect.SelfClose is = refl
  closed_by Q (effect.Append v) is = absurd (false≢true is)
  closed_by Q (effect.Take v) is = absurd (false≢true is)
  closed_by Q (effect.Replace old v) is = absurd (false≢true is)
  closed_by Q (effect.Front old v) is = absurd (false≢true is)
  closed_by Q effect.Arrive is = absurd (false≢true is)

  -- a history in which such an effect stands ends closed
  closed_after : (Q : State T) (t : List (Effect T)) (p : ℕ) (e : Effect T) → Runs Q t → get_elem? t p ≡ some e → closes e ≡ true → (after_from Q t).closed ≡ true
  closed_after Q [] p e runs at is = absurd (some-ne-none e (sym at))
  closed_after Q (x ∷ t) zero e runs at is = stays_closed (made x Q) t runs.1 (closed_by Q x (ap closes (some-injective x e at) ∙ is))
  closed_after Q (x ∷ t) (suc p) e runs at is = closed_after (made x Q) t p e runs.1 at is

  closed_here : (cap : Option ℕ) (t : List (Effect T)) (n : ℕ) (ps : List ℕ) (es : List (Effect T)) (e : Effect T) → IsHistory cap t → StandAt t n ps es → es ≡ e ∷ [] → closes e ≡ true → (after cap t).closed ≡ true
  closed_here cap t n [] [] e legal stand is closing = absurd (omega (arith, ap length is))
  closed_here cap t n (p ∷ ps) (x ∷ es) e legal stand is closing = closed_after (start cap 0) t p x legal stand.1 (ap closes (head_of x es e [] is) ∙ closing)
  closed_here cap t n [] (x ∷ es) e legal stand is closing = absurd stand
  closed_here cap t n (p ∷ ps) [] e legal stand is closing = absurd stand

  closed_between : (cap : Option ℕ) (s t : List (Effect T)) (fact : State T → Type 0) → IsHistory cap t → ((Q : State T) → fact Q → Q.closed ≡ true) → Between cap s t fact → (after cap t).closed ≡ true
  closed_between cap s t fact legal closed b = still_closed cap b.0 t b.2 legal (closed (after cap b.0) b.3)

-- a call that shows the queue closed, and has no effect
found_closed : (u v w : PartyView ℕ) (c : Call ℕ) (r : Reply ℕ) → IsView v.queue.cap v.view → Acts u v [] → (made : Calls v c r w) → made.1.effects ≡ [] → ((Q : State ℕ) → Allows c r Q → Q.closed ≡ true) → Quits u w
found_closed u v w c r is before made none shows =
    let acts = first_acts u v w c r [] is before made none in record {
      queue = acts.queue;
      taken = λ x. acts.did (is_take x) ∙ add-zero _;
      closed = subst {A = Option ℕ} (λ cap. (after cap w.view.seen).closed ≡ true) (sym (ap (λ (q : QueueId). q.cap) made.0))
          (closed_between v.queue.cap v.view.seen w.view.seen (Allows c r) made.1.legal shows (made.1.right none));
    }

-- a call with an effect that closes the queue
made_closed : (u v w : PartyView ℕ) (c : Call ℕ) (r : Reply ℕ) (e : Effect ℕ) → IsView v.queue.cap v.view → Acts u v [] → (made : Calls v c r w) → made.1.effects ≡ e ∷ [] → closes e ≡ true → ((x : ℕ) → is_take x e ≡ false) → Quits u w
made_closed u v w c r e is before made one shuts none =
    let acts = first_acts u v w c r (e ∷ []) is before made one in record {
      queue = acts.queue;
      taken = λ x. let more = acts.did (is_take x) in more ∙ (rw (none x) (add-zero _));
      closed = subst {A = Option ℕ} (λ cap. (after cap w.view.seen).closed ≡ true) (sym (ap (λ (q : QueueId). q.cap) made.0))
          (closed_here v.queue.cap w.view.seen (length v.view.seen) made.1.places made.1.effects e made.1.legal made.1.stand one shuts);
    }

pub close_quits : (u v w : PartyView ℕ) (b : Bool) → IsView v.queue.cap v.view → Acts u v [] → Calls v call.Close (reply.Close b) w → Quits u w
close_quits u v w true is before made = made_closed u v w call.Close (reply.Close true) effect.Close is before made made.1.tells refl (λ x. refl)
close_quits u v w false is before made = found_closed u v w call.Close (reply.Close false) is before made made.1.tells (λ Q. ⊎_elim (λ closed. closed) (λ lacks. absurd lacks))

-- a party that had done nothing before it quit
pub then_quits : (u v w : PartyView ℕ) → Acts u v [] → Quits v w → Quits u w
then_quits u v w before quits = record {
  queue = quits.queue ∙ before.queue;
  taken = λ x. quits.taken x ∙ (before.did (is_take x) ∙ add-zero _);
  closed = quits.closed;
}

pub pop_quits : (u v w : PartyView ℕ) → IsView v.queue.cap v.view → Acts u v [] → Calls v call.Pop (reply.Pop (Err pop.Closed)) w → Quits u w
pop_quits u v w is before made = found_closed u v w call.Pop (reply.Pop (Err pop.Closed)) is before made made.1.tells (λ Q. ⊎_elim (λ right. right.2) (λ lacks. absurd lacks))

pub push_quits : (u v w : PartyView ℕ) (x y : ℕ) → IsView v.queue.cap v.view → Acts u v [] → Calls v (call.Push x) (reply.Push (Err (push.Closed y))) w → Quits u w
push_quits u v w x y is before made =
    let c = call.Push x in let r = reply.Push (Err (push.Closed y)) in
    ⊎_elim (λ one. made_closed u v w c r effect.SelfClose is before made one refl (λ z. refl))
    (λ none. found_closed u v w c r is before made none (λ Q. ⊎_elim (λ right. right.1) (λ lacks. absurd lacks)))
    made.1.tells.1

-- where nothing is counted
pub none_at : (n x : ℕ) → get_or {A = ℕ} (replicate n 0) x 0 ≡ 0
none_at zero x = refl
none_at (suc n) zero = refl
none_at (suc n) (suc x) = none_at n x

pub none_few : (most n : ℕ) (counts : List ℕ) → counts ≡ replicate n 0 → All (λ count. count ≤ most) counts
none_few most n counts are = subst (All (λ count. count ≤ most)) (sym are) (All-replicate (λ count. count ≤ most) n 0 (omega arith))

pub none_taken : (items n : ℕ) (v u : PartyView ℕ) (counts : List ℕ) → counts ≡ replicate n 0 → ((x : ℕ) → takes x u.view ≡ takes x v.view) → (x : ℕ) → x < items → takes x u.view ≡ takes x v.view + get_or counts x 0
none_taken items n v u counts are same x lt =
    let zero_there : get_or counts x 0 ≡ 0 = ap (λ (l : List ℕ). get_or l x 0) are ∙ none_at n x in omega (arith, same x, zero_there)

-- a value that was taken is counted
pub taken_more : (items value : ℕ) (v u w : PartyView ℕ) (old new : List ℕ) → length old ≡ items → new ≡ counted value old → Acts u w (effect.Take value ∷ [])
    → ((x : ℕ) → x < items → takes x u.view ≡ takes x v.view + get_or old x 0) → (x : ℕ) → x < items → takes x w.view ≡ takes x v.view + get_or new x 0
taken_more items value v u w old new complete is acts before x lt =
    let more = acts.did (is_take x) in let so_far = before x lt in let counts = single (is_take x) (effect.Take value) in
    elim (eqb_tells value x) [
      | inl h ↦
          let old_one : get_or old value 0 ≡ get_or old x 0 = ap (λ (n : ℕ). get_or old n 0) h.1 in
          let here : get_or (set old value (get_or old value 0 + 1)) x 0 ≡ get_or old value 0 + 1 = get_or-set_at old value x (get_or old value 0 + 1) 0 (sym h.1) (omega (arith, h.1, lt, complete)) in
          let now : get_or new x 0 ≡ get_or old x 0 + 1 = ap (λ (l : List ℕ). get_or l x 0) is ∙ (here ∙ ap (λ (n : ℕ). n + 1) old_one) in
          let one : count_by (is_take x) (effect.Take value ∷ []) ≡ 1 = counts ∙ ap (λ (b : Bool). cond {A = ℕ} b 1 0) h.0 in omega (arith, more, so_far, now, one)
      | inr h ↦
          let now : get_or new x 0 ≡ get_or old x 0 = ap (λ (l : List ℕ). get_or l x 0) is ∙ get_or-set_other old value x (get_or old value 0 + 1) 0 (λ same. h.1 (sym same)) in
          let none : count_by (is_take x) (effect.Take value ∷ []) ≡ 0 = counts ∙ ap (λ (b : Bool). cond {A = ℕ} b 1 0) h.0 in omega (arith, more, so_far, now, none)
    ]

pub low_at : (most : ℕ) (counts : List ℕ) (x : ℕ) → All (λ count. count ≤ most) counts → get_or counts x 0 ≤ most
low_at most [] x few = omega arith
low_at most (y ∷ ys) zero few = All-head (λ count. count ≤ most) y ys few
low_at most (y ∷ ys) (suc x) few = low_at most ys x (All-tail (λ count. count ≤ most) y ys few)

pub few_more : (most value : ℕ) (old new : List ℕ) → new ≡ counted value old → All (λ count. count ≤ most) old → All (λ count. count ≤ most + 1) new
few_more most value old new is few =
    subst (All (λ count. count ≤ most + 1)) (sym is)
    (All-set (λ count. count ≤ most + 1) old value (get_or old value 0 + 1) (omega (arith, low_at most old value few)) (All-weaker (λ count. count ≤ most) (λ count. count ≤ most + 1) (λ x le. omega (arith, le)) old few))

pub quit_work : (q : QueueId) (items most : ℕ) (v u : PartyView ℕ) (work : WorkResult) → v.queue ≡ q → u.queue ≡ v.queue → ((x : ℕ) → x < items → takes x u.view ≡ takes x v.view + get_or work.counts.items x 0)
    → All (λ count. count ≤ most) work.counts.items → Quits u work.party → work.done ≡ false → IsWork q items most v work
quit_work q items most v u work of same taken few quits not_done = record {
  counted = record {
    queue = quits.queue ∙ (same ∙ of);
    taken = λ x lt. quits.taken x ∙ taken x lt;
    few = few;
    share = λ done. absurd (true≢false (sym done ∙ not_done));
  };
  closed = λ _. quits.closed;
}

pub done_work : (q : QueueId) (items most : ℕ) (v : PartyView ℕ) (work : WorkResult) → v.queue ≡ q → work.party.queue ≡ v.queue → ((x : ℕ) → x < items → takes x work.party.view ≡ takes x v.view + get_or work.counts.items x 0)
    → All (λ count. count ≤ most) work.counts.items → work.party.view.share ≡ v.view.share → work.done ≡ true → IsWork q items most v work
done_work q items most v work of same taken few share done = record {
  counted = record {
    queue = same ∙ of;
    taken = taken;
    few = few;
    share = λ _. subst {A = Share} (SamePart work.party.view.share) share (same_refl work.party.view.share);
  };
  closed = λ not_done. absurd (true≢false (sym done ∙ not_done));
}

-- the sum of two counts is within the sum of their bounds
pub sums_fit : (low high : ℕ) (counts more : List ℕ) → low + high < 2 ^ 64 → All (λ count. count ≤ low) counts → All (λ count. count ≤ high) more → EachSumFits counts more
sums_fit low high counts more fits few few_more x lt = omega (arith, low_at low counts x few, low_at high more x few_more)

both_true : (a b : Bool) → (a && b) ≡ true → (a ≡ true) × (b ≡ true)
both_true true true is = (refl, refl)
both_true true false is = absurd (false≢true is)
both_true false b is = absurd (false≢true is)

either_false : {P : Type 0} (a b : Bool) → (a ≡ false → P) → (b ≡ false → P) → (a && b) ≡ false → P
either_false true true first second is = absurd (true≢false is)
either_false true false first second is = second refl
either_false false b first second is = first refl

-- one piece of work more
pub one_more : (made share : ℕ) → made * share + share ≡ (made + 1) * share
one_more made share = let itself : 1 * share ≡ share = omega arith in sym (add-mul made 1 share ∙ ap (λ (n : ℕ). made * share + n) itself)

-- one party of two took what they took
pub takes_both : (q : QueueId) (a b w : PartyView ℕ) → a.queue ≡ q → b.queue ≡ q → IsView a.queue.cap a.view → IsView b.queue.cap b.view → Joins a b w → (x : ℕ) → takes x w.view ≡ takes x a.view + takes x b.view
takes_both q a b w of_a of_b is_a is_b joins x =
    did_both a.queue.cap a.view b.view w.view is_a (subst {A = QueueId} (λ z. IsView z.cap b.view) (of_b ∙ sym of_a) is_b) joins.1 (is_take x)

-- a party without a place of its own has taken nothing
pub none_own : (p : PartyView ℕ) → p.view.mine ≡ [] → (x : ℕ) → takes x p.view ≡ 0
none_own p none x = ap (λ (ps : List ℕ). count_by (λ i. passes (is_take x) (get_elem? p.view.seen i)) ps) none

-- nor has one that was parted off
pub none_parted : (v a b : PartyView ℕ) → Parts v a b → (x : ℕ) → takes x b.view ≡ 0
none_parted v a b parts = none_own b parts.2.mine.1

-- the other has taken what the party had
pub all_parted : (v a b : PartyView ℕ) → IsView v.queue.cap v.view → Parts v a b → (x : ℕ) → takes x a.view ≡ takes x v.view
all_parted v a b is parts x = unchanged v.queue.cap v.view a.view is parts.2.begins parts.2.mine.0 (is_take x)

-- a work is that of parties that had taken as much, and had the same share
pub work_of_same : (q : QueueId) (items most : ℕ) (t t' : ℕ → ℕ) (s s' : Share) (work : WorkResult) → ((x : ℕ) → t x ≡ t' x) → SamePart s s' → IsWorkOf q items most t s work → IsWorkOf q items most t' s' work
work_of_same q items most t t' s s' work took share is = record {
  queue = is.queue;
  taken = λ x lt. is.taken x lt ∙ ap (λ (n : ℕ). n + get_or work.counts.items x 0) (took x);
  few = is.few;
  share = λ done. same_trans work.party.view.share s s' (is.share done) share;
}

-- two works, joined
pub joined_works : (q : QueueId) (items low high most : ℕ) (t t' : ℕ → ℕ) (s s' : Share) (ours theirs work : WorkResult)
    → IsWorkOf q items low t s ours → IsWorkOf q items high t' s' theirs → IsView ours.party.queue.cap ours.party.view → IsView theirs.party.queue.cap theirs.party.view
    → Joins ours.party theirs.party work.party → length ours.counts.items ≡ items → AreSums ours.counts.items theirs.counts.items work.counts.items → work.done ≡ (ours.done && theirs.done)
    → low + high ≤ most → IsWorkOf q items most (λ x. t x + t' x) (plus s s') work
joined_works q items low high most t t' s s' ours theirs work our their is_ours is_theirs joins complete sums done fits = record {
  queue = joins.0 ∙ our.queue;
  taken = λ x lt.
      let both = takes_both q ours.party theirs.party work.party our.queue their.queue is_ours is_theirs joins x in
      let first = our.taken x lt in let second = their.taken x lt in let sum = sums.1 x (omega (arith, lt, complete)) in
      omega (arith, both, first, second, sum);
  few = All-from_get_or (λ count. count ≤ most) work.counts.items 0 (λ x lt.
      omega (arith, sums.1 x (omega (arith, lt, sums.0)), low_at low ours.counts.items x our.few, low_at high theirs.counts.items x their.few, fits));
  share = λ all.
      let one = our.share (both_true ours.done theirs.done (sym done ∙ all)).0 in let other = their.share (both_true ours.done theirs.done (sym done ∙ all)).1 in
      subst {A = Share} (λ z. SamePart z (plus s s')) (sym joins.1.share) (plus_same ours.party.view.share s theirs.party.view.share s' one other);
}

-- the works of two halves of a party, joined
pub joined_work : (q : QueueId) (items low high most : ℕ) (v a b : PartyView ℕ) (ours theirs work : WorkResult) → IsView v.queue.cap v.view → Parts v a b
    → IsWork q items low a ours → IsWork q items high b theirs → IsView ours.party.queue.cap ours.party.view → IsView theirs.party.queue.cap theirs.party.view
    → Joins ours.party theirs.party work.party → length ours.counts.items ≡ items → AreSums ours.counts.items theirs.counts.items work.counts.items → work.done ≡ (ours.done && theirs.done)
    → low + high ≤ most → IsWork q items most v work
joined_work q items low high most v a b ours theirs work is parts our their is_ours is_theirs joins complete sums done fits = record {
  counted = work_of_same q items most (λ x. takes x a.view + takes x b.view) (λ x. takes x v.view) (plus a.view.share b.view.share) v.view.share work
      (λ x. let kept = all_parted v a b is parts x in let fresh = none_parted v a b parts x in omega (arith, kept, fresh))
      (halves_joined v.view.share a.view.share b.view.share (same_half parts.2.share.0) (same_half parts.2.share.1))
      (joined_works q items low high most (λ x. takes x a.view) (λ x. takes x b.view) a.view.share b.view.share ours theirs work our.counted their.counted is_ours is_theirs joins complete sums done fits);
  closed = λ some.
      let capped : ours.party.queue.cap ≡ work.party.queue.cap = sym (ap (λ (z : QueueId). z.cap) joins.0) in
      either_false ours.done theirs.done
      (λ none. subst {A = Option ℕ} (λ cap. (after cap work.party.view.seen).closed ≡ true) capped
      (still_closed ours.party.queue.cap ours.party.view.seen work.party.view.seen joins.1.begins.0 joins.1.legal (our.closed none)))
      (λ none. subst {A = Option ℕ} (λ cap. (after cap work.party.view.seen).closed ≡ true) capped
      (still_closed ours.party.queue.cap theirs.party.view.seen work.party.view.seen joins.1.begins.1 joins.1.legal (same_closed (their.closed none))))
      (sym done ∙ some);
}
  where
    same_closed : SawClosed theirs.party → (after ours.party.queue.cap theirs.party.view.seen).closed ≡ true
    same_closed = subst {A = QueueId} (λ z. (after z.cap theirs.party.view.seen).closed ≡ true) (their.counted.queue ∙ sym our.counted.queue)

    same_half : {x : Share} → x ≡ half v.view.share → SamePart x (half v.view.share)
    same_half {x} is_half = subst {A = Share} (SamePart x) is_half (same_refl x)

-- the parties of a handshake, joined
pub meeting : (there back : QueueId) (kept first second : Hands) (offered replied all : Shaken) → AreThreeParts kept first second → IsShaken there back 2 first offered
    → IsShaken back there 1 (record { sends = second.takes; takes = second.sends }) replied → AreHandsOf all.hands there back → all.came ≡ (offered.came && replied.came)
    → Unites kept.sends offered.hands.sends replied.hands.takes all.hands.sends → Unites kept.takes offered.hands.takes replied.hands.sends all.hands.takes → IsMeeting there back all
meeting there back kept first second offered replied all parts one two hands came sends takes_them = record {
  hands = hands;
  whole = (
    three_parts _ _ _ all.hands.sends.view.share sends.0 parts.0.0 (one.share.0 ∙ parts.1.0) (two.share.1 ∙ parts.2.0),
    three_parts _ _ _ all.hands.takes.view.share takes_them.0 parts.0.1 (one.share.1 ∙ parts.1.1) (two.share.0 ∙ parts.2.1),
  );
  came = λ both. let got = both_true offered.came replied.came (sym came ∙ both) in
      (let sum = sends.1 1 in let some = two.came got.1 in omega (arith, sum, some), let sum = takes_them.1 2 in let some = one.came got.0 in omega (arith, sum, some));
}
  where
    three_parts : (k f s all : Share) → all ≡ plus (plus k f) s → k ≡ half (half entire) → f ≡ half entire → s ≡ half (half entire) → IsEntire all
    three_parts k f s all is a b c = subst {A = Share} IsEntire (sym (is ∙ (λ i. plus (plus (a i) (b i)) (c i)))) refl
