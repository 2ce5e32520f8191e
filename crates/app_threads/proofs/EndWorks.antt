-- What ends of a channel have taken, and the works of a crew that is given them.
use Rattle.std.proofs.Common.{◌≡◌, ℕ, ◌+◌, ◌≤◌, ◌&&◌, Bool, true, false, Option, Result, Ok, Err, List, [], ◌∷◌, length, get_or, replicate, refl, ap, sym, subst, ◌∙◌, ⊎_elim, arith, add-zero, append-nil, ◌++◌}
use Rattle.std.{specs.List.All, specs.List.count_by, specs.Option.IfSome, proofs.lemmas.List.Elements.All-weaker}
use Rattle.queue_steps.specs.declared.{model.Effect.Effect, model.Call.Call as call, model.Effect.Effect as effect, model.Reply.Reply as reply, sizes.TheConstants.MAX_CAPACITY}
use Rattle.queue_steps.specs.{Effect.after, Parties.IsView, Shares.Share, Shares.entire, Shares.half, Shares.plus, Shares.IsEntire, Shares.SamePart}
use Rattle.counted_channel.specs.{declared.calls.errors.SendError.SendError, declared.calls.errors.SendError.SendError as send, declared.calls.errors.Disconnected.Disconnected, Channel.End, Channel.EndParts, Channel.Ends, Channel.GivenBack, Channel.sent, Channel.received}
use Rattle.queue_steps.proofs.ShareLaws.{same_refl, same_sym, same_trans, entire_same, plus_comm, plus_assoc, plus_same, halves_same}
use Rattle.concurrent_queue.specs.Shared.{QueueId, PartyView, Calls, Parts, Joins}
use Rattle.law_parties.specs.Doings.{is_take, takes, Acts, SawClosed}
use Rattle.law_parties.proofs.Doings.{acts, acts_none, still_closed, unchanged}
use Rattle.app_text.specs.{KindNames.capacity_of, declared.load.Load.Load}
use Rattle.app_threads.specs.{Counts.counted, Counts.AreSums, Counts.IsTally, Sharing.IsEnded, Sharing.SeesLeft, declared.sharing.EndedChannel.EndedChannel, declared.crew.WorkResult.WorkResult, declared.ends.Role.Role}
use Rattle.app_threads.specs.Works.{IsWorkOf, PartsRole, TookNothing, ends_share, ends_taken, role_party}
use Rattle.app_threads.proofs.Works.{none_at, none_few, none_own, taken_more, few_more, close_quits, none_parted, all_parted, work_of_same, joined_works}

-- a party that is given back by its end has taken nothing
pub ended : (v w : PartyView ℕ) (last : Bool) → IsView v.queue.cap v.view → Ends v w last → TookNothing v w
ended v w true is ends =
    let quits = close_quits v v w ends.0.0 is (acts_none v) ends.0.1 in record {
      queue = quits.queue;
      share = ends.0.1.1.share;
      taken = quits.taken;
    }
ended v w false is same = record {
  queue = ap (λ (p : PartyView ℕ). p.queue) same;
  share = ap (λ (p : PartyView ℕ). p.view.share) same;
  taken = λ x. ap (λ (p : PartyView ℕ). takes x p.view) same;
}

-- a party that has taken nothing takes nothing more
pub took_nothing : (u v w : PartyView ℕ) → TookNothing u v → TookNothing v w → TookNothing u w
took_nothing u v w first then = record {
  queue = then.queue ∙ first.queue;
  share = then.share ∙ first.share;
  taken = λ x. then.taken x ∙ first.taken x;
}

-- effects that take nothing
took_by : (v w : PartyView ℕ) (es : List (Effect ℕ)) → Acts v w es → ((x : ℕ) → count_by (is_take x) es ≡ 0) → TookNothing v w
took_by v w es acts none = record {
  queue = acts.queue;
  share = acts.share;
  taken = λ x. acts.did (is_take x) ∙ (ap (λ (n : ℕ). takes x v.view + n) (none x) ∙ add-zero _);
}

-- who sends takes nothing, whatever the answer
pub sent_nothing : (v w : PartyView ℕ) (value : ℕ) (answer : Result (Unit {0}) (SendError ℕ)) → IsView v.queue.cap v.view → Calls v (call.Push value) (sent answer) w → TookNothing v w
sent_nothing v w value (Ok done) is made = took_by v w (effect.Append value ∷ []) (acts v w (call.Push value) (sent (Ok done)) (effect.Append value ∷ []) is made made.1.tells) (λ x. refl)
sent_nothing v w value (Err (send.Closed back)) is made =
    ⊎_elim (λ closed. took_by v w (effect.SelfClose ∷ []) (acts v w (call.Push value) (sent (Err (send.Closed back))) (effect.SelfClose ∷ []) is made closed) (λ x. refl))
    (λ none. took_by v w [] (acts v w (call.Push value) (sent (Err (send.Closed back))) [] is made none) (λ x. refl))
    made.1.tells.1
sent_nothing v w value (Err (send.NoMemory back)) is made = took_by v w [] (acts v w (call.Push value) (sent (Err (send.NoMemory back))) [] is made made.1.tells.1) (λ x. refl)

-- a receiver that nothing came to took nothing
pub received_nothing : (v w : PartyView ℕ) (why : Disconnected) → IsView v.queue.cap v.view → Calls v call.Pop (received (Err why)) w → TookNothing v w
received_nothing v w why is made = took_by v w [] (acts v w call.Pop (received (Err why)) [] is made made.1.tells) (λ x. refl)

-- what came was taken
pub received_one : (v w : PartyView ℕ) (value : ℕ) → IsView v.queue.cap v.view → Calls v call.Pop (received (Ok value)) w → Acts v w (effect.Take value ∷ [])
received_one v w value is made = acts v w call.Pop (received (Ok value)) (effect.Take value ∷ []) is made made.1.tells

-- a work in which nothing is counted
pub none_work : (q : QueueId) (items most n : ℕ) (t : ℕ → ℕ) (s : Share) (work : WorkResult) → work.party.queue ≡ q → ((x : ℕ) → takes x work.party.view ≡ t x)
    → (work.done ≡ true → work.party.view.share ≡ s) → work.counts.items ≡ replicate n 0 → IsWorkOf q items most t s work
none_work q items most n t s work of took share none = record {
  queue = of;
  taken = λ x lt.
      let zero_there : get_or work.counts.items x 0 ≡ 0 = ap (λ (l : List ℕ). get_or l x 0) none ∙ none_at n x in omega (arith, took x, zero_there);
  few = none_few most n work.counts.items none;
  share = λ done. subst {A = Share} (SamePart work.party.view.share) (share done) (same_refl work.party.view.share);
}

-- that of an end that has taken nothing
pub idle_work : (q : QueueId) (items most n : ℕ) (v : PartyView ℕ) (work : WorkResult) → v.queue ≡ q → TookNothing v work.party → work.counts.items ≡ replicate n 0
    → IsWorkOf q items most (λ x. takes x v.view) v.view.share work
idle_work q items most n v work of nothing none = none_work q items most n (λ x. takes x v.view) v.view.share work (nothing.queue ∙ of) nothing.taken (λ _. nothing.share) none

-- a work, once its party has taken nothing more
pub ended_work : (q : QueueId) (items low most : ℕ) (t : ℕ → ℕ) (s : Share) (old new : WorkResult) → low ≤ most → IsWorkOf q items low t s old → TookNothing old.party new.party
    → new.counts.items ≡ old.counts.items → old.done ≡ true → IsWorkOf q items most t s new
ended_work q items low most t s old new le is nothing same done = record {
  queue = nothing.queue ∙ is.queue;
  taken = λ x lt. nothing.taken x ∙ (is.taken x lt ∙ ap (λ (l : List ℕ). t x + get_or l x 0) (sym same));
  few = subst {A = List ℕ} (All (λ count. count ≤ most)) (sym same) (All-weaker (λ count. count ≤ low) (λ count. count ≤ most) (λ count few. omega (arith, few, le)) old.counts.items is.few);
  share = λ _. subst {A = Share} (λ z. SamePart z s) (sym nothing.share) (is.share done);
}

-- a value that was taken is counted
pub more_work : (q : QueueId) (items most value : ℕ) (v : PartyView ℕ) (old new : WorkResult) → length old.counts.items ≡ items → new.counts.items ≡ counted value old.counts.items
    → Acts old.party new.party (effect.Take value ∷ []) → old.done ≡ true → IsWorkOf q items most (λ x. takes x v.view) v.view.share old
    → IsWorkOf q items (most + 1) (λ x. takes x v.view) v.view.share new
more_work q items most value v old new complete is_counted acts done is = record {
  queue = acts.queue ∙ is.queue;
  taken = taken_more items value v old.party new.party old.counts.items new.counts.items complete is_counted acts is.taken;
  few = few_more most value old.counts.items new.counts.items is_counted is.few;
  share = λ _. subst {A = Share} (λ z. SamePart z v.view.share) (sym acts.share) (is.share done);
}

-- half of a sender's share beside that of a receiver, and the other half
pub sender_parted : (s r : Share) → SamePart (plus (plus (half s) r) (half s)) (plus s r)
sender_parted s r =
    let moved : plus (plus (half s) r) (half s) ≡ plus (plus (half s) (half s)) r =
    plus_assoc (half s) r (half s) ∙ (ap (λ (z : Share). plus (half s) z) (plus_comm r (half s)) ∙ sym (plus_assoc (half s) (half s) r)) in
    subst {A = Share} (λ z. SamePart z (plus s r)) (sym moved) (plus_same (plus (half s) (half s)) s r r (halves_same s) (same_refl r))

pub receiver_parted : (s r : Share) → SamePart (plus (plus s (half r)) (half r)) (plus s r)
receiver_parted s r = subst {A = Share} (λ z. SamePart z (plus s r)) (sym (plus_assoc s (half r) (half r))) (plus_same s s (plus (half r) (half r)) r (same_refl s) (halves_same r))

pub parts_sender : (s r a b : End ℕ) → IsView s.party.queue.cap s.party.view → EndParts s a b → (t : Role) → role_party t ≡ b.party → PartsRole s r a r t
parts_sender s r a b is parts t of = record {
  taken = λ x. ap (λ (n : ℕ). n + takes x r.party.view) (all_parted s.party a.party b.party is parts.0 x);
  fresh = λ x. ap (λ (p : PartyView ℕ). takes x p.view) of ∙ none_parted s.party a.party b.party parts.0 x;
  share = subst {A = Share} (λ z. SamePart (plus (plus a.party.view.share r.party.view.share) z) (ends_share s r)) (sym (ap (λ (p : PartyView ℕ). p.view.share) of ∙ parts.0.2.share.1))
      (subst {A = Share} (λ z. SamePart (plus (plus z r.party.view.share) (half s.party.view.share)) (ends_share s r)) (sym parts.0.2.share.0) (sender_parted s.party.view.share r.party.view.share));
}

pub parts_receiver : (s r a b : End ℕ) → IsView r.party.queue.cap r.party.view → EndParts r a b → (t : Role) → role_party t ≡ b.party → PartsRole s r s a t
parts_receiver s r a b is parts t of = record {
  taken = λ x. ap (λ (n : ℕ). takes x s.party.view + n) (all_parted r.party a.party b.party is parts.0 x);
  fresh = λ x. ap (λ (p : PartyView ℕ). takes x p.view) of ∙ none_parted r.party a.party b.party parts.0 x;
  share = subst {A = Share} (λ z. SamePart (plus (plus s.party.view.share a.party.view.share) z) (ends_share s r)) (sym (ap (λ (p : PartyView ℕ). p.view.share) of ∙ parts.0.2.share.1))
      (subst {A = Share} (λ z. SamePart (plus (plus s.party.view.share z) (half r.party.view.share)) (ends_share s r)) (sym parts.0.2.share.0) (receiver_parted s.party.view.share r.party.view.share));
}

-- an end that is given back has taken what it had
pub given_back : (d e : End ℕ) → IsView d.party.queue.cap d.party.view → GivenBack d e → (x : ℕ) → takes x e.party.view ≡ takes x d.party.view
given_back d e is back x = unchanged d.party.queue.cap d.party.view e.party.view is back.begins back.mine (is_take x)

-- the work of a thread, and that of the ends that are left
pub parted_work : (q : QueueId) (items low high most : ℕ) (s r a b : End ℕ) (t : Role) (ours theirs work : WorkResult) → PartsRole s r a b t
    → IsWorkOf q items low (ends_taken a b) (ends_share a b) ours → IsWorkOf q items high (λ x. takes x (role_party t).view) (role_party t).view.share theirs
    → IsView ours.party.queue.cap ours.party.view → IsView theirs.party.queue.cap theirs.party.view
    → Joins ours.party theirs.party work.party → length ours.counts.items ≡ items → AreSums ours.counts.items theirs.counts.items work.counts.items → work.done ≡ (ours.done && theirs.done)
    → low + high ≤ most → IsWorkOf q items most (ends_taken s r) (ends_share s r) work
parted_work q items low high most s r a b t ours theirs work parts our their is_ours is_theirs joins complete sums done fits =
    work_of_same q items most (λ x. ends_taken a b x + takes x (role_party t).view) (ends_taken s r) (plus (ends_share a b) (role_party t).view.share) (ends_share s r) work
    (λ x. ap (λ (n : ℕ). ends_taken a b x + n) (parts.fresh x) ∙ (add-zero _ ∙ parts.taken x)) parts.share
    (joined_works q items low high most (ends_taken a b) (λ x. takes x (role_party t).view) (ends_share a b) (role_party t).view.share ours theirs work our their is_ours is_theirs joins complete sums done fits)

-- what the ends of a channel that has just begun were parted into, and gave back, is a tally of the load
pub tallied : (l : Load) (q : QueueId) (items most : ℕ) (v : PartyView ℕ) (s r : End ℕ) (work : WorkResult) (last : PartyView ℕ) → IfSome (capacity_of l.kind) (λ size. size ≤ MAX_CAPACITY)
    → items ≡ l.items → Parts v s.party r.party → v.view.mine ≡ [] → IsWorkOf q items most (ends_taken s r) (ends_share s r) work → length work.counts.items ≡ items → last ≡ work.party
    → IsTally l last.view work.counts.items
tallied l q items most v s r work last within same parts none is complete now = record {
  within = within;
  complete = complete ∙ same;
  taken = λ x lt.
      let all = is.taken x (omega (arith, lt, same)) in
      let sent_none = none_own s.party (parts.2.mine.0 ∙ none) x in let came_none = none_parted v s.party r.party parts x in
      let here : takes x last.view ≡ takes x work.party.view = ap (λ (p : PartyView ℕ). takes x p.view) now in
      omega (arith, all, sent_none, came_none, here);
}

-- halves of a whole share that are together again are whole
pub whole_again : (v s r : PartyView ℕ) (t : Share) → Parts v s r → v.view.share ≡ entire → SamePart t (plus s.view.share r.view.share) → IsEntire t
whole_again v s r t parts all same =
    let one : s.view.share ≡ half entire = parts.2.share.0 ∙ ap half all in
    let two : r.view.share ≡ half entire = parts.2.share.1 ∙ ap half all in
    let sum : plus s.view.share r.view.share ≡ plus (half entire) (half entire) = λ i. plus (one i) (two i) in
    let back : SamePart t entire = same_trans t (plus (half entire) (half entire)) entire (subst {A = Share} (λ z. SamePart t z) sum same) (halves_same entire) in
    entire_same entire t (same_sym t entire back) refl

-- the last party finds the queue closed, and sees what is left
pub sees_left : (u v w : PartyView ℕ) (left : ℕ) → IsView u.queue.cap u.view → IsView v.queue.cap v.view → IsView w.queue.cap w.view → IsEntire u.view.share
    → Calls u call.IsClosed (reply.IsClosed true) v → Calls v call.Len (reply.Len left) w → SeesLeft u w left
sees_left u v w left is_u is_v is_w whole first second =
    let one = took_by u v [] (acts u v call.IsClosed (reply.IsClosed true) [] is_u first first.1.tells) (λ x. refl) in
    let two = took_by v w [] (acts v w call.Len (reply.Len left) [] is_v second second.1.tells) (λ x. refl) in
    let both = took_nothing u v w one two in
    let shut : (after u.queue.cap u.view.seen).closed ≡ true =
    ⊎_elim (λ table. let said : reply.IsClosed true ≡ reply.IsClosed (after u.queue.cap u.view.seen).closed = table.0 in cc) (λ lacks. absurd lacks.1) (first.2 whole).table in
    let shut_v : SawClosed v =
    subst {A = QueueId} (λ q. (after q.cap v.view.seen).closed ≡ true) (sym first.0) (still_closed u.queue.cap u.view.seen v.view.seen first.1.begins first.1.legal shut) in
    let shut_w : SawClosed w =
    subst {A = QueueId} (λ q. (after q.cap w.view.seen).closed ≡ true) (sym second.0) (still_closed v.queue.cap v.view.seen w.view.seen second.1.begins second.1.legal shut_v) in
    let whole_v : IsEntire v.view.share = subst {A = Share} (λ z. IsEntire z) (sym one.share) whole in
    let s = second.2 whole_v in
    let counted_v : left ≡ length (after v.queue.cap v.view.seen).items =
    ⊎_elim (λ table. let said : reply.Len left ≡ reply.Len (length (after v.queue.cap v.view.seen).items) = table.0 in cc) (λ lacks. absurd lacks.1) s.table in
    let same : w.view.seen ≡ v.view.seen = s.seen ∙ (ap (λ (es : List (Effect ℕ)). v.view.seen ++ es) s.tells ∙ append-nil v.view.seen) in
    record {
      queue = both.queue;
      share = both.share;
      taken = both.taken;
      seen = is_w;
      closed = shut_w;
      counts = counted_v ∙ sym (λ i. length (after (second.0 i).cap (same i)).items);
    }

-- a channel that has ended, with the party that all of its ends' have become
pub ended_channel : (cap : Option ℕ) (q : QueueId) (p : PartyView ℕ) (left : ℕ) (c : EndedChannel) → p.queue ≡ c.channel.queue → c.channel.queue ≡ q → q.cap ≡ cap → IsEntire p.view.share → SeesLeft p c.party left
    → IsEnded cap c
ended_channel cap q p left c of is capped whole sees =
    let now : c.party.queue ≡ c.channel.queue = sees.queue ∙ of in
    let room : c.channel.queue.cap ≡ cap = ap (λ (z : QueueId). z.cap) is ∙ capped in record {
      of = now;
      capped = room;
      seen = subst {A = Option ℕ} (λ k. IsView k c.party.view) (ap (λ (z : QueueId). z.cap) now ∙ room) sees.seen;
      whole = subst {A = Share} (λ z. IsEntire z) (sym sees.share) whole;
      closed = sees.closed;
    }

-- a tally stays one while nothing is taken
pub tallied_on : (l : Load) (v w : PartyView ℕ) (counts : List ℕ) → IsTally l v.view counts → ((x : ℕ) → takes x w.view ≡ takes x v.view) → IsTally l w.view counts
tallied_on l v w counts tally same = record { within = tally.within; complete = tally.complete; taken = λ x lt. tally.taken x lt ∙ sym (same x) }
