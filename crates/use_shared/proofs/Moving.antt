-- What the calls of a worker move.
use Rattle.std.proofs.Common.{◌≡◌, ℕ, ◌+◌, ◌==◌, Bool, false, cond, List, [], ◌∷◌, Ok, Err, refl, ap, sym, subst, ◌∙◌, ⊎_elim, add-one, arith}
use Rattle.std.specs.List.{count_by}
use Rattle.queue_steps.specs.declared.{model.Call.Call, model.Reply.Reply, model.Effect.Effect, model.Call.Call as call, model.Reply.Reply as reply, model.Effect.Effect as effect, errors.PopError.PopError, errors.PushError.PushError, errors.PushError.PushError as push}
use Rattle.queue_steps.specs.{Errors.push_error_value, Sequential.pop_result, Parties.IsView, Effect.after, Effect.rest, Shares.Share, Shares.SamePart, Shares.IsEntire}
use Rattle.queue_steps.proofs.ShareLaws.{same_refl, same_trans}
use Rattle.concurrent_queue.specs.Shared.{QueueId, PartyView, Calls}
use Rattle.law_parties.{specs.Doings.hands_in_such, specs.Doings.hands_out_such, specs.Doings.Acts, proofs.Doings.single, proofs.Doings.acts}
use Rattle.use_shared.specs.{Sharing.none, Sharing.one, Sharing.below, Sharing.came, Sharing.went, Sharing.Moves, Sharing.SeesNone, declared.tasks.executor.Worker.Worker}

-- a call of the party v, which is then p: so many of each number were handed in, and out
pub record Turns {T : Type 0} (key : T → ℕ) (v p : PartyView T) (more less : ℕ → ℕ) : Type 0 where
  pub queue : p.queue ≡ v.queue
  pub share : p.view.share ≡ v.view.share
  pub ins : (i : ℕ) → came key i p ≡ came key i v + more i
  pub outs : (i : ℕ) → went key i p ≡ went key i v + less i

-- the one owner's pop is refused where there is no item
no_items : {T : Type 0} (closed : Bool) (items : List T) (why : PopError) → reply.Pop (Err why) ≡ reply.Pop (pop_result closed items) → rest items ≡ []
no_items closed [] why is = refl
no_items closed (x ∷ xs) why is = cc

-- a pop of a party that has all of the share found none: nothing is left
pub found_none : {T : Type 0} (v p : PartyView T) (why : PopError) → Calls v call.Pop (reply.Pop (Err why)) p → SeesNone p
found_none {T} v p why made entire =
    let alone = made.2 (subst {A = Share} IsEntire made.1.share entire) in
    let left : (after v.queue.cap p.view.seen).items ≡ [] =
    ⊎_elim (λ table. sym table.1.items ∙ no_items (after v.queue.cap v.view.seen).closed (after v.queue.cap v.view.seen).items why table.0) (λ lacks. absurd lacks.1) alone.table in
    subst {A = QueueId} (λ q. (after q.cap p.view.seen).items ≡ []) (sym made.0) left

module _ {T : Type 0} (key : T → ℕ) where
  turned : (v p : PartyView T) (es : List (Effect T)) (more less : ℕ → ℕ) → Acts v p es → ((i : ℕ) → count_by (hands_in_such (λ x. key x == i)) es ≡ more i) → ((i : ℕ) → count_by (hands_out_such (λ x. key x == i)) es ≡ less i)
      → Turns key v p more less
  turned v p es more less did into out = record {
    queue = did.queue;
    share = did.share;
    ins = λ i. did.did (hands_in_such (λ x. key x == i)) ∙ ap (λ n. came key i v + n) (into i);
    outs = λ i. did.did (hands_out_such (λ x. key x == i)) ∙ ap (λ n. went key i v + n) (out i);
  }

  -- a call without an effect
  looked : (v p : PartyView T) (c : Call T) (r : Reply T) → IsView v.queue.cap v.view → (made : Calls v c r p) → made.1.effects ≡ [] → Turns key v p none none
  looked v p c r is made are = turned v p [] none none (acts v p c r [] is made are) (λ i. refl) (λ i. refl)

  -- a call that closes the queue
  shut : (v p : PartyView T) (c : Call T) (r : Reply T) (e : Effect T) → IsView v.queue.cap v.view → (made : Calls v c r p) → made.1.effects ≡ e ∷ []
      → ((such : T → Bool) → (hands_in_such such e ≡ false) × (hands_out_such such e ≡ false)) → Turns key v p none none
  shut v p c r e is made are calm = turned v p (e ∷ []) none none (acts v p c r (e ∷ []) is made are)
      (λ i. single (hands_in_such (λ x. key x == i)) e ∙ ap (λ b. cond {A = ℕ} b 1 0) (calm (λ x. key x == i)).0)
      (λ i. single (hands_out_such (λ x. key x == i)) e ∙ ap (λ b. cond {A = ℕ} b 1 0) (calm (λ x. key x == i)).1)

  pub pushed : (v p : PartyView T) (x : T) (done : Unit {0}) → IsView v.queue.cap v.view → Calls v (call.Push x) (reply.Push (Ok done)) p → Turns key v p (one (key x)) none
  pushed v p x done is made = turned v p (effect.Append x ∷ []) (one (key x)) none (acts v p (call.Push x) (reply.Push (Ok done)) (effect.Append x ∷ []) is made made.1.tells)
      (λ i. single (hands_in_such (λ y. key y == i)) (effect.Append x)) (λ i. single (hands_out_such (λ y. key y == i)) (effect.Append x))

  pub refused : (v p : PartyView T) (x : T) (why : PushError T) → IsView v.queue.cap v.view → Calls v (call.Push x) (reply.Push (Err why)) p → Turns key v p none none × (push_error_value why ≡ x)
  refused v p x (push.Full y) is made = (looked v p (call.Push x) (reply.Push (Err (push.Full y))) is made made.1.tells.1, made.1.tells.0)
  refused v p x (push.NoMemory y) is made = (looked v p (call.Push x) (reply.Push (Err (push.NoMemory y))) is made made.1.tells.1, made.1.tells.0)
  refused v p x (push.Closed y) is made =
      let c = call.Push x in let r : Reply T = reply.Push (Err (push.Closed y)) in
      (⊎_elim (λ itself. shut v p c r effect.SelfClose is made itself (λ such. (refl, refl))) (λ nothing. looked v p c r is made nothing) made.1.tells.1, made.1.tells.0)

  pub popped : (v p : PartyView T) (x : T) → IsView v.queue.cap v.view → Calls v call.Pop (reply.Pop (Ok x)) p → Turns key v p none (one (key x))
  popped v p x is made = turned v p (effect.Take x ∷ []) none (one (key x)) (acts v p call.Pop (reply.Pop (Ok x)) (effect.Take x ∷ []) is made made.1.tells)
      (λ i. single (hands_in_such (λ y. key y == i)) (effect.Take x)) (λ i. single (hands_out_such (λ y. key y == i)) (effect.Take x))

  pub not_popped : (v p : PartyView T) (why : PopError) → IsView v.queue.cap v.view → Calls v call.Pop (reply.Pop (Err why)) p → Turns key v p none none
  not_popped v p why is made = looked v p call.Pop (reply.Pop (Err why)) is made made.1.tells

  pub saw_empty : (v p : PartyView T) (b : Bool) → IsView v.queue.cap v.view → Calls v call.IsEmpty (reply.IsEmpty b) p → Turns key v p none none
  saw_empty v p b is made = looked v p call.IsEmpty (reply.IsEmpty b) is made made.1.tells

-- the same part, where the shares are one
pub part : {T : Type 0} (v p : PartyView T) → p.view.share ≡ v.view.share → SamePart p.view.share v.view.share
part v p is = subst {A = Share} (λ s. SamePart s v.view.share) (sym is) (same_refl v.view.share)

module _ {A B : Type 0} (a : A → ℕ) (b : B → ℕ) where
  -- a call of one of the worker's parties
  pub at_tasks : (v : Worker A B) (p : PartyView A) (more less : ℕ → ℕ) → Turns a v.tasks p more less → Moves a b v (record v { tasks = p }) more less
  at_tasks v p more less turn = record {
    queues = (turn.queue, refl);
    shares = (part v.tasks p turn.share, same_refl v.outputs.view.share);
    moved = λ i. let into = turn.ins i in let out = turn.outs i in omega (arith, into, out);
  }

  pub at_outputs : (v : Worker A B) (p : PartyView B) (more less : ℕ → ℕ) → Turns b v.outputs p more less → Moves a b v (record v { outputs = p }) more less
  at_outputs v p more less turn = record {
    queues = (refl, turn.queue);
    shares = (same_refl v.tasks.view.share, part v.outputs p turn.share);
    moved = λ i. let into = turn.ins i in let out = turn.outs i in omega (arith, into, out);
  }

  pub stays : (v : Worker A B) → Moves a b v v none none
  stays v = record {
    queues = (refl, refl);
    shares = (same_refl v.tasks.view.share, same_refl v.outputs.view.share);
    moved = λ i. refl;
  }

  -- two moves, one after the other, are one
  pub moves : (u v w : Worker A B) (m l m' l' more less : ℕ → ℕ) → Moves a b u v m l → Moves a b v w m' l' → ((i : ℕ) → m i + m' i + less i ≡ l i + l' i + more i) → Moves a b u w more less
  moves u v w m l m' l' more less first second sums = record {
    queues = (second.queues.0 ∙ first.queues.0, second.queues.1 ∙ first.queues.1);
    shares = (same_trans w.tasks.view.share v.tasks.view.share u.tasks.view.share second.shares.0 first.shares.0, same_trans w.outputs.view.share v.outputs.view.share u.outputs.view.share second.shares.1 first.shares.1);
    moved = λ i. let one = first.moved i in let two = second.moved i in let sum = sums i in omega (arith, one, two, sum);
  }

  -- after a move that comes to nothing
  pub then : (u v w : Worker A B) (more less : ℕ → ℕ) → Moves a b u v none none → Moves a b v w more less → Moves a b u w more less
  then u v w more less first second = moves u v w none none more less more less first second (λ i. let m = more i in let l = less i in omega arith)

  -- a task is taken, stepped, and put back or handed in
  pub stepped : (u v w x : Worker A B) (n k : ℕ) → Moves a b u v none none → Moves a b v w none (one n) → k ≡ n → Moves a b w x (one k) none → Moves a b u x none none
  stepped u v w x n k before taken same put =
      then u v x none none before (moves v w x none (one n) (one k) none none none taken put (λ i. let here = ap (λ m. one m i) same in omega (arith, here)))

  -- a task is put in, or refused
  pub put_in : (u v : Worker A B) (p : PartyView A) (n : ℕ) (x : A) (done : Unit {0}) → Moves a b u v none none × (a x ≡ n) → IsView v.tasks.queue.cap v.tasks.view → Calls v.tasks (call.Push x) (reply.Push (Ok done)) p → Moves a b u (record v { tasks = p }) (one n) none
  put_in u v p n x done (before, same) is made =
      subst {A = ℕ} (λ k. Moves a b u (record v { tasks = p }) (one k) none) same (then u v (record v { tasks = p }) (one (a x)) none before (at_tasks v p (one (a x)) none (pushed a v.tasks p x done is made)))

  pub not_put_in : (u v : Worker A B) (p : PartyView A) (n : ℕ) (x y : A) (why : PushError A) → Moves a b u v none none × (a x ≡ n) → IsView v.tasks.queue.cap v.tasks.view → Calls v.tasks (call.Push x) (reply.Push (Err why)) p → y ≡ push_error_value why
      → Moves a b u (record v { tasks = p }) none none × (a y ≡ n)
  not_put_in u v p n x y why (before, same) is made back =
      let turn = refused a v.tasks p x why is made in (then u v (record v { tasks = p }) none none before (at_tasks v p none none turn.0), ap a back ∙ (ap a turn.1 ∙ same))

  -- an output is handed in, or refused
  pub handed_in : (u v : Worker A B) (p : PartyView B) (n : ℕ) (x : B) (done : Unit {0}) → Moves a b u v none none × (b x ≡ n) → IsView v.outputs.queue.cap v.outputs.view → Calls v.outputs (call.Push x) (reply.Push (Ok done)) p → Moves a b u (record v { outputs = p }) (one n) none
  handed_in u v p n x done (before, same) is made =
      subst {A = ℕ} (λ k. Moves a b u (record v { outputs = p }) (one k) none) same (then u v (record v { outputs = p }) (one (b x)) none before (at_outputs v p (one (b x)) none (pushed b v.outputs p x done is made)))

  pub not_handed_in : (u v : Worker A B) (p : PartyView B) (n : ℕ) (x y : B) (why : PushError B) → Moves a b u v none none × (b x ≡ n) → IsView v.outputs.queue.cap v.outputs.view → Calls v.outputs (call.Push x) (reply.Push (Err why)) p → y ≡ push_error_value why
      → Moves a b u (record v { outputs = p }) none none × (b y ≡ n)
  not_handed_in u v p n x y why (before, same) is made back =
      let turn = refused b v.outputs p x why is made in (then u v (record v { outputs = p }) none none before (at_outputs v p none none turn.0), ap b back ∙ (ap b turn.1 ∙ same))

  -- one task more is in the queue
  pub one_more : (u v w : Worker A B) (n k : ℕ) → Moves a b u v (below n) none → k ≡ n → Moves a b v w (one k) none → Moves a b u w (below (n + 1)) none
  one_more u v w n k first same second =
      moves u v w (below n) none (one k) none (below (n + 1)) none first second
      (λ i. let more : below (n + 1) i ≡ below n i + one n i = ap (λ m. below m i) (add-one n) in let here = ap (λ m. one m i) same in omega (arith, more, here))
