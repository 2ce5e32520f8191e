-- One slot: each atomic step of a call is a step of the queue.
use Rattle.std.proofs.Common.{◌≡◌, ℕ, ◌+◌, Bool, true, false, Option, Some, None, Err, List, [], ◌∷◌, length, bit_or, if◌then◌else◌, refl, inl, inr, sym}
use Rattle.queue_steps.specs.{State.State, Replies.IsRightAt, Replies.Tells, SlotNext.is_marked, SlotNext.is_pushed, Looks.call_of_look, Looks.reply_of_look, Next.next_of, declared.steps.types.Word.TheVariants.Lock}
use Rattle.queue_steps.specs.declared.steps.slot.SlotLocal.TheVariants.{Pushing, Forcing, Popping, Closing, Looking}
use Rattle.queue_steps.proofs.LookLaws.{reply_filled, reply_tells, reply_right}
use Rattle.queue_laws.specs.Common.Vocabulary.{Call, Reply, Effect, Kind, Answer, PopError, PushError, ForcePushError, Op, Look, Local, PushKind, LOCKED, PUSHED, CLOSED}
use Rattle.queue_laws.specs.{Common.Stand.Stand, Common.Stand.empty_handed, Common.Stand.brings, Slot.SlotHolder.SlotHolder, Slot.SlotHolder.Nobody, Common.Moments.SeenIn, Common.Effects.Leads, Common.Effects.with_effect}
use Rattle.queue_laws.specs.Slot.SlotShared.{one_slot, answered, operated, touched, handed}
use Rattle.queue_laws.specs.Slot.SlotRows.{Codes, free_empty, free_full, filling, swapping, taking, code, At, push_try, push_put, force_try_empty, force_try_full, force_put_empty, force_put_full, pop_try, pop_take, close_try, look_at, Share, idle, fills, swaps, takes, Passes, stays, changes, single}
use Rattle.queue_laws.specs.Slot.SlotRows.{IsEffect, NextOk, StepOk}

-- a reply without effect that is right now
pub right_now : {T : Type 0} (Q : State T) (ms : List (State T)) (k : Call T) (y : Reply T) → Tells k y [] → IsRightAt Q k y
    → (◌≡◌ {A = SlotHolder T} Nobody Nobody) × (◌≡◌ {A = Option ℕ} None None) × ((z : Reply T) × (Some y ≡ Some z) × Tells k z [] × (◌≡◌ {A = List (Effect T)} [] [] → SeenIn (Q ∷ ms) (λ m. IsRightAt m k z)))
right_now Q ms k y told now = (refl, refl, (y, refl, told, λ e. inl now))

-- what is not in the row of a step: how many items were accepted, and the call's moments
abbrev Row : {T : Type 0} → ℕ → Option T → SlotHolder T → SlotHolder T → List T → Bool → Stand T → Type 0
Row {T} word slot own h items c x = (n : ℕ) (ms : List (State T)) → StepOk word slot own h items c n x ms

-- what the step of a call makes of the word and the slot, what it is answered, and how the call goes on
module _ {T : Type 0} (word : ℕ) (slot : Option T) (x : Stand T) where
  abbrev Leaves : ℕ → Option T → Type 0
  Leaves word' slot' = operated (touched (one_slot word slot) x.touch x.carried) x.op ≡ one_slot word' slot'

  abbrev found : Answer ℕ
  found = answered (touched (one_slot word slot) x.touch x.carried) x.op

  abbrev HasEffect : Option (Effect T) → Type 0
  HasEffect e = IsEffect x.local found e

  abbrev Lands : SlotHolder T → Option (Effect T) → List (State T) → Type 0
  Lands own e ms = NextOk (next_of Kind.Single x.local found) (handed (one_slot word slot) x.touch x.carried) own x.call (with_effect x.effects e) ms

-- a step, by what it leaves, its effect, how the call goes on, and who has the lock then
makes_step : {T : Type 0} {word word' : ℕ} {slot slot' : Option T} {own own' h h' : SlotHolder T} {items items' : List T} {c c' : Bool} {n : ℕ} {x : Stand T} (ms : List (State T)) (n' : ℕ) (e : Option (Effect T))
    → Codes word' slot' h' items' c' → Leaves word slot x word' slot' → HasEffect word slot x e → Leads (single items c n) e (single items' c' n') → Lands word slot x own' e (single items' c' n' ∷ ms) → Passes own h own' h'
    → StepOk word slot own h items c n x ms
makes_step {word' = word'} {slot' = slot'} {own' = own'} {h' = h'} {items' = items'} {c' = c'} ms n' e stands leaves told makes lands passes = record {
  word' = word';
  slot' = slot';
  items' = items';
  c' = c';
  n' = n';
  e = e;
  own' = own';
  h' = h';
  leaves = leaves;
  stands = stands;
  told = told;
  makes = makes;
  lands = lands;
  passes = passes;
}

-- a step without effect, which leaves the word and the slot
silent : {T : Type 0} {word : ℕ} {slot : Option T} {h : SlotHolder T} {items : List T} {c : Bool} {x : Stand T} (n : ℕ) (ms : List (State T))
    → Codes word slot h items c → Leaves word slot x word slot → HasEffect word slot x None → Lands word slot x Nobody None (single items c n ∷ ms)
    → StepOk word slot Nobody h items c n x ms
silent {h = h} n ms st leaves told lands = makes_step ms n None st leaves told refl lands (stays Nobody h)

-- one with an effect, by which the party gets the lock
locks : {T : Type 0} {word word' : ℕ} {slot slot' : Option T} {h : SlotHolder T} {items items' : List T} {c : Bool} {n : ℕ} {x : Stand T} (ms : List (State T)) (n' : ℕ) (e : Effect T)
    → Codes word' slot' h items' c → Leaves word slot x word' slot' → HasEffect word slot x (Some e)
    → Leads (single items c n) (Some e) (single items' c n') → Lands word slot x h (Some e) (single items' c n' ∷ ms)
    → StepOk word slot Nobody Nobody items c n x ms
locks {h = h} ms n' e st leaves told makes lands = makes_step ms n' (Some e) st leaves told makes lands (changes Nobody h)

-- one without effect, by which the party gives the lock back
frees : {T : Type 0} {word word' : ℕ} {slot slot' : Option T} {h : SlotHolder T} {items : List T} {c : Bool} {x : Stand T} (n : ℕ) (ms : List (State T))
    → Codes word' slot' Nobody items c → Leaves word slot x word' slot' → HasEffect word slot x None
    → Lands word slot x Nobody None (single items c n ∷ ms)
    → StepOk word slot h h items c n x ms
frees {h = h} n ms st leaves told lands = makes_step ms n None st leaves told refl lands (changes h Nobody)

-- the close
closes : {T : Type 0} {word word' : ℕ} {slot : Option T} {h : SlotHolder T} {items : List T} {x : Stand T} (n : ℕ) (ms : List (State T))
    → Codes word' slot h items true → Leaves word slot x word' slot → HasEffect word slot x (Some Effect.Close)
    → Lands word slot x Nobody (Some Effect.Close) (single items true n ∷ ms)
    → StepOk word slot Nobody h items false n x ms
closes {h = h} n ms st leaves told lands = makes_step ms n (Some Effect.Close) st leaves told (refl, refl) lands (stays Nobody h)

push_step : {T : Type 0} {word : ℕ} {slot : Option T} {h : SlotHolder T} {items : List T} {c : Bool} (v : T) → Codes word slot h items c
    → Row word slot Nobody h items c (brings (Local.Slot Pushing) (Op.Exchange Lock 0 (bit_or LOCKED PUSHED)) PushKind.Push v)
push_step v (free_empty true) n ms = silent n ms (free_empty true) refl refl (right_now (single [] true n) ms (Call.Push v) (Reply.Push (Err (PushError.Closed v))) (refl, inr refl) (refl, refl))
push_step v (free_empty false) n ms = locks ms (n + 1) (Effect.Append v) (filling false v) refl (v, refl) ((refl, refl, refl, inl refl), refl) (push_put v)
push_step v (free_full true x) n ms = silent n ms (free_full true x) refl refl (right_now (single (x ∷ []) true n) ms (Call.Push v) (Reply.Push (Err (PushError.Closed v))) (refl, inr refl) (refl, refl))
push_step v (free_full false x) n ms = silent n ms (free_full false x) refl refl (right_now (single (x ∷ []) false n) ms (Call.Push v) (Reply.Push (Err (PushError.Full v))) (refl, refl) (refl, refl, refl, inl refl))
push_step v (filling true y) n ms = silent n ms (filling true y) refl refl (right_now (single (y ∷ []) true n) ms (Call.Push v) (Reply.Push (Err (PushError.Closed v))) (refl, inr refl) (refl, refl))
push_step v (filling false y) n ms = silent n ms (filling false y) refl refl (right_now (single (y ∷ []) false n) ms (Call.Push v) (Reply.Push (Err (PushError.Full v))) (refl, refl) (refl, refl, refl, inl refl))
push_step v (swapping true old y) n ms = silent n ms (swapping true old y) refl refl (right_now (single (y ∷ []) true n) ms (Call.Push v) (Reply.Push (Err (PushError.Closed v))) (refl, inr refl) (refl, refl))
push_step v (swapping false old y) n ms = silent n ms (swapping false old y) refl refl (right_now (single (y ∷ []) false n) ms (Call.Push v) (Reply.Push (Err (PushError.Full v))) (refl, refl) (refl, refl, refl, inl refl))
push_step v (taking true x) n ms = silent n ms (taking true x) refl refl (right_now (single [] true n) ms (Call.Push v) (Reply.Push (Err (PushError.Closed v))) (refl, inr refl) (refl, refl))
push_step v (taking false x) n ms = silent n ms (taking false x) refl refl (push_try v)

force_empty_step : {T : Type 0} {word : ℕ} {slot : Option T} {h : SlotHolder T} {items : List T} {c : Bool} (v : T) → Codes word slot h items c
    → Row word slot Nobody h items c (brings (Local.Slot (Forcing 0)) (Op.Exchange Lock 0 (bit_or LOCKED PUSHED)) PushKind.Force v)
force_empty_step v (free_empty true) n ms = silent n ms (free_empty true) refl refl (right_now (single [] true n) ms (Call.ForcePush v) (Reply.ForcePush (Err (ForcePushError.Closed v))) (refl, inr refl) (refl, refl))
force_empty_step v (free_empty false) n ms = locks ms (n + 1) (Effect.Append v) (filling false v) refl (v, refl) ((refl, refl, refl, inl refl), refl) (force_put_empty v)
force_empty_step v (free_full true x) n ms = silent n ms (free_full true x) refl refl (right_now (single (x ∷ []) true n) ms (Call.ForcePush v) (Reply.ForcePush (Err (ForcePushError.Closed v))) (refl, inr refl) (refl, refl))
force_empty_step v (free_full false x) n ms = silent n ms (free_full false x) refl refl (force_try_full v)
force_empty_step v (filling true y) n ms = silent n ms (filling true y) refl refl (right_now (single (y ∷ []) true n) ms (Call.ForcePush v) (Reply.ForcePush (Err (ForcePushError.Closed v))) (refl, inr refl) (refl, refl))
force_empty_step v (filling false y) n ms = silent n ms (filling false y) refl refl (force_try_full v)
force_empty_step v (swapping true old y) n ms = silent n ms (swapping true old y) refl refl (right_now (single (y ∷ []) true n) ms (Call.ForcePush v) (Reply.ForcePush (Err (ForcePushError.Closed v))) (refl, inr refl) (refl, refl))
force_empty_step v (swapping false old y) n ms = silent n ms (swapping false old y) refl refl (force_try_full v)
force_empty_step v (taking true x) n ms = silent n ms (taking true x) refl refl (right_now (single [] true n) ms (Call.ForcePush v) (Reply.ForcePush (Err (ForcePushError.Closed v))) (refl, inr refl) (refl, refl))
force_empty_step v (taking false x) n ms = silent n ms (taking false x) refl refl (force_try_empty v)

force_full_step : {T : Type 0} {word : ℕ} {slot : Option T} {h : SlotHolder T} {items : List T} {c : Bool} (v : T) → Codes word slot h items c
    → Row word slot Nobody h items c (brings (Local.Slot (Forcing 2)) (Op.Exchange Lock 2 (bit_or LOCKED PUSHED)) PushKind.Force v)
force_full_step v (free_empty true) n ms = silent n ms (free_empty true) refl refl (right_now (single [] true n) ms (Call.ForcePush v) (Reply.ForcePush (Err (ForcePushError.Closed v))) (refl, inr refl) (refl, refl))
force_full_step v (free_empty false) n ms = silent n ms (free_empty false) refl refl (force_try_empty v)
force_full_step v (free_full true x) n ms = silent n ms (free_full true x) refl refl (right_now (single (x ∷ []) true n) ms (Call.ForcePush v) (Reply.ForcePush (Err (ForcePushError.Closed v))) (refl, inr refl) (refl, refl))
force_full_step v (free_full false x) n ms = locks ms (n + 1) (Effect.Replace x v) (swapping false x v) refl ((x, v), refl) ((refl, refl, refl), refl) (force_put_full x v)
force_full_step v (filling true y) n ms = silent n ms (filling true y) refl refl (right_now (single (y ∷ []) true n) ms (Call.ForcePush v) (Reply.ForcePush (Err (ForcePushError.Closed v))) (refl, inr refl) (refl, refl))
force_full_step v (filling false y) n ms = silent n ms (filling false y) refl refl (force_try_full v)
force_full_step v (swapping true old y) n ms = silent n ms (swapping true old y) refl refl (right_now (single (y ∷ []) true n) ms (Call.ForcePush v) (Reply.ForcePush (Err (ForcePushError.Closed v))) (refl, inr refl) (refl, refl))
force_full_step v (swapping false old y) n ms = silent n ms (swapping false old y) refl refl (force_try_full v)
force_full_step v (taking true x) n ms = silent n ms (taking true x) refl refl (right_now (single [] true n) ms (Call.ForcePush v) (Reply.ForcePush (Err (ForcePushError.Closed v))) (refl, inr refl) (refl, refl))
force_full_step v (taking false x) n ms = silent n ms (taking false x) refl refl (force_try_empty v)

pop_step : {T : Type 0} {word : ℕ} {slot : Option T} {h : SlotHolder T} {items : List T} {c : Bool} (d : Bool) → Codes word slot h items c
    → Row word slot Nobody h items c (empty_handed (Local.Slot (Popping (code false true d))) (Op.Exchange Lock (code false true d) (code true false d)) Call.Pop)
pop_step true (free_empty true) n ms = silent n ms (free_empty true) refl refl (right_now (single [] true n) ms Call.Pop (Reply.Pop (Err PopError.Closed)) refl (refl, refl, refl))
pop_step true (free_empty false) n ms = silent n ms (free_empty false) refl refl (right_now (single [] false n) ms Call.Pop (Reply.Pop (Err PopError.Empty)) refl (refl, refl, refl))
pop_step true (free_full true x) n ms = locks ms n (Effect.Take x) (taking true x) refl (x, refl) (([], refl), refl) (pop_take x)
pop_step true (free_full false x) n ms = silent n ms (free_full false x) refl refl (pop_try false)
pop_step true (filling true y) n ms = silent n ms (filling true y) refl refl (pop_try true)
pop_step true (filling false y) n ms = silent n ms (filling false y) refl refl (pop_try false)
pop_step true (swapping true old y) n ms = silent n ms (swapping true old y) refl refl (pop_try true)
pop_step true (swapping false old y) n ms = silent n ms (swapping false old y) refl refl (pop_try false)
pop_step true (taking true x) n ms = silent n ms (taking true x) refl refl (right_now (single [] true n) ms Call.Pop (Reply.Pop (Err PopError.Closed)) refl (refl, refl, refl))
pop_step true (taking false x) n ms = silent n ms (taking false x) refl refl (right_now (single [] false n) ms Call.Pop (Reply.Pop (Err PopError.Empty)) refl (refl, refl, refl))
pop_step false (free_empty true) n ms = silent n ms (free_empty true) refl refl (right_now (single [] true n) ms Call.Pop (Reply.Pop (Err PopError.Closed)) refl (refl, refl, refl))
pop_step false (free_empty false) n ms = silent n ms (free_empty false) refl refl (right_now (single [] false n) ms Call.Pop (Reply.Pop (Err PopError.Empty)) refl (refl, refl, refl))
pop_step false (free_full true x) n ms = silent n ms (free_full true x) refl refl (pop_try true)
pop_step false (free_full false x) n ms = locks ms n (Effect.Take x) (taking false x) refl (x, refl) (([], refl), refl) (pop_take x)
pop_step false (filling true y) n ms = silent n ms (filling true y) refl refl (pop_try true)
pop_step false (filling false y) n ms = silent n ms (filling false y) refl refl (pop_try false)
pop_step false (swapping true old y) n ms = silent n ms (swapping true old y) refl refl (pop_try true)
pop_step false (swapping false old y) n ms = silent n ms (swapping false old y) refl refl (pop_try false)
pop_step false (taking true x) n ms = silent n ms (taking true x) refl refl (right_now (single [] true n) ms Call.Pop (Reply.Pop (Err PopError.Closed)) refl (refl, refl, refl))
pop_step false (taking false x) n ms = silent n ms (taking false x) refl refl (right_now (single [] false n) ms Call.Pop (Reply.Pop (Err PopError.Empty)) refl (refl, refl, refl))

close_step : {T : Type 0} {word : ℕ} {slot : Option T} {h : SlotHolder T} {items : List T} {c : Bool} → Codes word slot h items c
    → Row word slot Nobody h items c (empty_handed (Local.Slot Closing) (Op.Or Lock CLOSED) Call.Close)
close_step (free_empty true) n ms = silent n ms (free_empty true) refl refl (right_now (single [] true n) ms Call.Close (Reply.Close false) refl refl)
close_step (free_empty false) n ms = closes n ms (free_empty true) refl refl (refl, refl, (_, refl, refl, λ e. cc))
close_step (free_full true x) n ms = silent n ms (free_full true x) refl refl (right_now (single (x ∷ []) true n) ms Call.Close (Reply.Close false) refl refl)
close_step (free_full false x) n ms = closes n ms (free_full true x) refl refl (refl, refl, (_, refl, refl, λ e. cc))
close_step (filling true y) n ms = silent n ms (filling true y) refl refl (right_now (single (y ∷ []) true n) ms Call.Close (Reply.Close false) refl refl)
close_step (filling false y) n ms = closes n ms (filling true y) refl refl (refl, refl, (_, refl, refl, λ e. cc))
close_step (swapping true old y) n ms = silent n ms (swapping true old y) refl refl (right_now (single (y ∷ []) true n) ms Call.Close (Reply.Close false) refl refl)
close_step (swapping false old y) n ms = closes n ms (swapping true old y) refl refl (refl, refl, (_, refl, refl, λ e. cc))
close_step (taking true x) n ms = silent n ms (taking true x) refl refl (right_now (single [] true n) ms Call.Close (Reply.Close false) refl refl)
close_step (taking false x) n ms = closes n ms (taking true x) refl refl (refl, refl, (_, refl, refl, λ e. cc))

-- what the word tells of the flag and of how many items there are
reads : {T : Type 0} {word : ℕ} {slot : Option T} {h : SlotHolder T} {items : List T} {c : Bool} → Codes word slot h items c
    → (is_marked word ≡ c) × (length items ≡ (if is_pushed word then 1 else 0))
reads (free_empty true) = (refl, refl)
reads (free_full true x) = (refl, refl)
reads (filling true y) = (refl, refl)
reads (swapping true old y) = (refl, refl)
reads (taking true x) = (refl, refl)
reads x = (refl, refl)

look_step : {T : Type 0} {word : ℕ} {slot : Option T} {h : SlotHolder T} {items : List T} {c : Bool} (l : Look) → Codes word slot h items c
    → Row word slot Nobody h items c (empty_handed (Local.Slot (Looking l)) (Op.Load Lock) (call_of_look l))
look_step {T} {word = word} {slot = slot} {h = h} {items = items} {c = c} l st n ms =
    let many : ℕ = if is_pushed word then 1 else 0 in
    let right = reply_right (single items c n) (Some 1) many (is_marked word) l refl (reads st).1 (λ e. sym (reads st).0) in
    let reply = reply_of_look (Some 1) many (is_marked word) l in
    silent n ms st refl refl (refl, refl, (reply, reply_filled T (Some 1) many (is_marked word) l, reply_tells T (Some 1) many (is_marked word) l, λ e. inl right))

-- each step of a call, wherever it stands, is a step of the queue
pub step_good : {T : Type 0} {x : Stand T} {word : ℕ} {slot : Option T} {own h : SlotHolder T} {items : List T} {c : Bool}
    → At x own → Share own h → Codes word slot h items c → Row word slot own h items c x
step_good (push_try v) (idle h) st n ms = push_step v st n ms
step_good (force_try_empty v) (idle h) st n ms = force_empty_step v st n ms
step_good (force_try_full v) (idle h) st n ms = force_full_step v st n ms
step_good (pop_try d) (idle h) st n ms = pop_step d st n ms
step_good close_try (idle h) st n ms = close_step st n ms
step_good (look_at l) (idle h) st n ms = look_step l st n ms
step_good (push_put v) (fills _) (filling true _) n ms = frees n ms (free_full true v) refl refl (refl, refl, (_, refl, refl, λ e. cc))
step_good (force_put_empty v) (fills _) (filling true _) n ms = frees n ms (free_full true v) refl refl (refl, refl, (_, refl, refl, λ e. cc))
step_good (force_put_full old v) (swaps _ _) (swapping true _ _) n ms = frees n ms (free_full true v) refl refl (refl, refl, (_, refl, inl refl, λ e. cc))
step_good (pop_take x) (takes _) (taking true _) n ms = frees n ms (free_empty true) refl refl (refl, refl, (_, refl, refl, λ e. cc))
step_good (push_put v) (fills _) (filling false _) n ms = frees n ms (free_full false v) refl refl (refl, refl, (_, refl, refl, λ e. cc))
step_good (force_put_empty v) (fills _) (filling false _) n ms = frees n ms (free_full false v) refl refl (refl, refl, (_, refl, refl, λ e. cc))
step_good (force_put_full old v) (swaps _ _) (swapping false _ _) n ms = frees n ms (free_full false v) refl refl (refl, refl, (_, refl, inl refl, λ e. cc))
step_good (pop_take x) (takes _) (taking false _) n ms = frees n ms (free_empty false) refl refl (refl, refl, (_, refl, refl, λ e. cc))
