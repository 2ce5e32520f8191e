-- What a call that may change the queue answers and leaves, in std's words.
use Rattle.std.proofs.Common.{◌≡◌, ◌⊎◌, ℕ, Bool, true, false, not, ◌&&◌, ◌==◌, List, [], ◌∷◌, ◌++◌, length, Option, Some, None, Result, Ok, Err, refl, ap, sym, subst, inl, inr, arith}
use Rattle.std.specs.{Prelude.OnOk, Prelude.IfOk, Prelude.IfErr, Prelude.IfSome, Option.option_to_list}
use Rattle.queue_steps.specs.{declared.sizes.TheConstants.LIMIT, declared.model.Call.Call as call, declared.model.Reply.Reply, declared.model.Reply.Reply as reply, State.is_full, State.fills, State.is_slot_cap, Effect.rest, Errors.push_error_value, Errors.force_push_error_value}
use Rattle.queue_steps.specs.declared.errors.{PopError.PopError, PushError.PushError, ForcePushError.ForcePushError, PopError.PopError as pop, PushError.PushError as push, ForcePushError.ForcePushError as force}
use Rattle.queue_steps.specs.Sequential.{Owned, Sequential, is_spent, shut, displaced, counted, front, moved, pop_result}
use Rattle.queue_steps.proofs.TableCases.{table_cases}

fills_tells : (cap : Option ℕ) (n : ℕ) → fills cap n ≡ true → cap ≡ Some n
fills_tells None n e = cc
fills_tells (Some c) n e = let same : c ≡ n = grind arith in ap Some same

spent_tells : (single : Bool) (n : ℕ) → (not single && (n == LIMIT)) ≡ true → n ≡ LIMIT
spent_tells true n e = cc
spent_tells false n e = grind arith

module _ {T : Type 0} where
  -- what is accepted goes to the end
  abbrev pub Accepts : Owned T → T → Option T → Owned T → Type 0
  Accepts P v gone R = (option_to_list gone ++ R.queue.items ≡ P.queue.items ++ v ∷ []) × (R.queue.accepted ≡ counted P.queue) × (R.queue.closed ≡ false)

  abbrev pub FindsFull : Owned T → Owned T → Type 0
  FindsFull P R = (P.queue.cap ≡ Some (length P.queue.items)) × (R.queue ≡ P.queue)

  abbrev pub FindsClosed : Owned T → Owned T → Type 0
  FindsClosed P R = ((P.queue.closed ≡ true) ⊎ (P.queue.accepted ≡ LIMIT)) × (R.queue ≡ shut P.queue)

  abbrev pub FindsNoMemory : Owned T → Owned T → Type 0
  FindsNoMemory P R = (P.queue.cap ≡ None) × (R ≡ P)

  abbrev PushOutcome : Owned T → T → Reply T → Owned T → Type 0
  PushOutcome P v (reply.Push (Ok u)) R = Accepts P v None R
  PushOutcome P v (reply.Push (Err (push.Full w))) R = (w ≡ v) × FindsFull P R
  PushOutcome P v (reply.Push (Err (push.Closed w))) R = (w ≡ v) × FindsClosed P R
  PushOutcome P v (reply.Push (Err (push.NoMemory w))) R = (w ≡ v) × FindsNoMemory P R
  PushOutcome P v (reply.ForcePush (Ok None)) R = Accepts P v None R
  PushOutcome P v (reply.ForcePush (Ok (Some gone))) R = Accepts P v (Some gone) R × (P.queue.cap ≡ Some (length P.queue.items))
  PushOutcome P v (reply.ForcePush (Err (force.Closed w))) R = (w ≡ v) × FindsClosed P R
  PushOutcome P v (reply.ForcePush (Err (force.NoMemory w))) R = (w ≡ v) × FindsNoMemory P R
  PushOutcome P v _ R = ⊥

  full_tells : (P : Owned T) → is_full P.queue ≡ true → P.queue.cap ≡ Some (length P.queue.items)
  full_tells P e = fills_tells P.queue.cap (length P.queue.items) e

  shut_already : (P : Owned T) → P.queue.closed ≡ true → FindsClosed P (moved P P.queue)
  shut_already P e = (inl e, λ i. record P.queue { closed = e i })

  spent_now : (P : Owned T) → is_spent P.queue ≡ true → FindsClosed P (moved P (shut P.queue))
  spent_now P e = (inr (spent_tells (is_slot_cap P.queue.cap) P.queue.accepted e), refl)

  pub push_outcome : (P R : Owned T) (v : T) (r : Reply T) → Sequential P (call.Push v) r R → PushOutcome P v r R × (R.queue.cap ≡ P.queue.cap)
  push_outcome P R v (reply.Push (Err (push.NoMemory w))) (inr lacks) = rw lacks.2 ((lacks.0.0, (lacks.0.1.0, refl)), refl)
  push_outcome P R v r (inr lacks) = absurd lacks.0
  push_outcome P R v r (inl s) =
      rw (s.0, s.1) (table_cases (λ l. PushOutcome P v l.0 (moved P l.1) × (l.1.cap ≡ P.queue.cap)) P.queue _ _ _ _
      (λ e1. ((refl, shut_already P e1), refl))
      (λ e1 e2. ((refl, spent_now P e2), refl))
      (λ e1 e2 e3. ((refl, (full_tells P e3, refl)), refl))
      (λ e1 e2 e3. ((refl, refl, e1), refl)))

  displaces : (P : Owned T) (v : T) (gone : Option T) → front P.queue.items ≡ gone → P.queue.closed ≡ false → is_full P.queue ≡ true → PushOutcome P v (reply.ForcePush (Ok gone)) (moved P (displaced P.queue v))
  displaces P v gone is before full = goes P.queue.items gone refl is
    where
      goes : (xs : List T) (gone : Option T) → P.queue.items ≡ xs → front P.queue.items ≡ gone → PushOutcome P v (reply.ForcePush (Ok gone)) (moved P (displaced P.queue v))
      goes [] None are is = let items : rest P.queue.items ++ v ∷ [] ≡ P.queue.items ++ v ∷ [] = rw are refl in (items, refl, before)
      goes [] (Some x) are is = absurd (let none = ap front are in cc)
      goes (x ∷ xs) None are is = absurd (let some = ap front are in cc)
      goes (x ∷ xs) (Some y) are is =
          let same : x ≡ y = (let some = ap front are in cc) in
          let items : option_to_list (Some y) ++ (rest P.queue.items ++ v ∷ []) ≡ P.queue.items ++ v ∷ [] = rw (are, same) refl in
          ((items, refl, before), full_tells P full)

  pub force_outcome : (P R : Owned T) (v : T) (r : Reply T) → Sequential P (call.ForcePush v) r R → PushOutcome P v r R × (R.queue.cap ≡ P.queue.cap)
  force_outcome P R v (reply.ForcePush (Err (force.NoMemory w))) (inr lacks) = rw lacks.2 ((lacks.0.0, (lacks.0.1.0, refl)), refl)
  force_outcome P R v r (inr lacks) = absurd lacks.0
  force_outcome P R v r (inl s) =
      rw (s.0, s.1) (table_cases (λ l. PushOutcome P v l.0 (moved P l.1) × (l.1.cap ≡ P.queue.cap)) P.queue _ _ _ _
      (λ e1. ((refl, shut_already P e1), refl))
      (λ e1 e2. ((refl, spent_now P e2), refl))
      (λ e1 e2 e3. (displaces P v (front P.queue.items) refl e1 e3, refl))
      (λ e1 e2 e3. ((refl, refl, e1), refl)))

  abbrev PopOutcome : Owned T → Reply T → Owned T → Type 0
  PopOutcome P (reply.Pop (Ok item)) R = P.queue ≡ record R.queue { items = item ∷ R.queue.items }
  PopOutcome P (reply.Pop (Err pop.Empty)) R = (P.queue.items ≡ []) × (P.queue.closed ≡ false) × (R.queue ≡ P.queue)
  PopOutcome P (reply.Pop (Err pop.Closed)) R = (P.queue.items ≡ []) × (P.queue.closed ≡ true) × (R.queue ≡ P.queue)
  PopOutcome P _ R = ⊥

  pub pop_outcome : (P R : Owned T) (r : Reply T) → Sequential P call.Pop r R → PopOutcome P r R
  pop_outcome P R r (inr lacks) = absurd lacks.0
  pop_outcome P R r (inl s) = rw (s.0, s.1) (takes P.queue.items P.queue.closed refl refl)
    where
      takes : (xs : List T) (b : Bool) → P.queue.items ≡ xs → P.queue.closed ≡ b → PopOutcome P (reply.Pop (pop_result b xs)) (moved P (record P.queue { items = rest xs }))
      takes [] true are is = (are, is, λ i. record P.queue { items = sym are i })
      takes [] false are is = (are, is, λ i. record P.queue { items = sym are i })
      takes (x ∷ xs) b are is = λ i. record P.queue { items = are i }

  module _ (P R : Owned T) (v : T) where
    abbrev Pushed : Result (Unit {0}) (PushError T) → Type 0
    Pushed result = Sequential P (call.Push v) (reply.Push result) R

    pushed : (result : Result (Unit {0}) (PushError T)) → Pushed result → PushOutcome P v (reply.Push result) R
    pushed result s = (push_outcome P R v (reply.Push result) s).0

    pub push_ok : (result : Result (Unit {0}) (PushError T)) → Pushed result → OnOk result ((R.queue.items ≡ P.queue.items ++ v ∷ []) × (R.queue.accepted ≡ counted P.queue) × (R.queue.closed ≡ false))
    push_ok (Ok u) s = pushed (Ok u) s
    push_ok (Err e) s = tt

    pub push_full : (result : Result (Unit {0}) (PushError T)) → Pushed result → result ≡ Err (push.Full v) → FindsFull P R
    push_full result s is = (pushed (Err (push.Full v)) (subst Pushed is s)).1

    pub push_closed : (result : Result (Unit {0}) (PushError T)) → Pushed result → result ≡ Err (push.Closed v) → FindsClosed P R
    push_closed result s is = (pushed (Err (push.Closed v)) (subst Pushed is s)).1

    pub push_memory : (result : Result (Unit {0}) (PushError T)) → Pushed result → result ≡ Err (push.NoMemory v) → FindsNoMemory P R
    push_memory result s is = (pushed (Err (push.NoMemory v)) (subst Pushed is s)).1

    pub push_back : (result : Result (Unit {0}) (PushError T)) → Pushed result → IfErr result (λ why. push_error_value why ≡ v)
    push_back (Ok u) s = tt
    push_back (Err (push.Full w)) s = (pushed (Err (push.Full w)) s).0
    push_back (Err (push.Closed w)) s = (pushed (Err (push.Closed w)) s).0
    push_back (Err (push.NoMemory w)) s = (pushed (Err (push.NoMemory w)) s).0

    pub push_capacity : (result : Result (Unit {0}) (PushError T)) → Pushed result → R.queue.cap ≡ P.queue.cap
    push_capacity result s = (push_outcome P R v (reply.Push result) s).1

    abbrev Forced : Result (Option T) (ForcePushError T) → Type 0
    Forced result = Sequential P (call.ForcePush v) (reply.ForcePush result) R

    forced : (result : Result (Option T) (ForcePushError T)) → Forced result → PushOutcome P v (reply.ForcePush result) R
    forced result s = (force_outcome P R v (reply.ForcePush result) s).0

    pub force_ok : (result : Result (Option T) (ForcePushError T)) → Forced result → IfOk result (λ gone. Accepts P v gone R)
    force_ok (Ok None) s = forced (Ok None) s
    force_ok (Ok (Some gone)) s = (forced (Ok (Some gone)) s).0
    force_ok (Err e) s = tt

    pub force_full : (result : Result (Option T) (ForcePushError T)) → Forced result → IfOk result (λ gone. IfSome gone (λ front. P.queue.cap ≡ Some (length P.queue.items)))
    force_full (Ok None) s = tt
    force_full (Ok (Some gone)) s = (forced (Ok (Some gone)) s).1
    force_full (Err e) s = tt

    pub force_closed : (result : Result (Option T) (ForcePushError T)) → Forced result → result ≡ Err (force.Closed v) → FindsClosed P R
    force_closed result s is = (forced (Err (force.Closed v)) (subst Forced is s)).1

    pub force_memory : (result : Result (Option T) (ForcePushError T)) → Forced result → result ≡ Err (force.NoMemory v) → FindsNoMemory P R
    force_memory result s is = (forced (Err (force.NoMemory v)) (subst Forced is s)).1

    pub force_back : (result : Result (Option T) (ForcePushError T)) → Forced result → IfErr result (λ why. force_push_error_value why ≡ v)
    force_back (Ok _) s = tt
    force_back (Err (force.Closed w)) s = (forced (Err (force.Closed w)) s).0
    force_back (Err (force.NoMemory w)) s = (forced (Err (force.NoMemory w)) s).0

    pub force_capacity : (result : Result (Option T) (ForcePushError T)) → Forced result → R.queue.cap ≡ P.queue.cap
    force_capacity result s = (force_outcome P R v (reply.ForcePush result) s).1

  module _ (P R : Owned T) where
    abbrev Popped : Result T PopError → Type 0
    Popped result = Sequential P call.Pop (reply.Pop result) R

    pub pop_ok : (result : Result T PopError) → Popped result → IfOk result (λ item. P.queue ≡ record R.queue { items = item ∷ R.queue.items })
    pop_ok (Ok item) s = pop_outcome P R (reply.Pop (Ok item)) s
    pop_ok (Err e) s = tt

    pub pop_empty : (result : Result T PopError) → Popped result → result ≡ Err pop.Empty → (P.queue.items ≡ []) × (P.queue.closed ≡ false) × (R.queue ≡ P.queue)
    pop_empty result s is = pop_outcome P R (reply.Pop (Err pop.Empty)) (subst Popped is s)

    pub pop_closed : (result : Result T PopError) → Popped result → result ≡ Err pop.Closed → (P.queue.items ≡ []) × (P.queue.closed ≡ true) × (R.queue ≡ P.queue)
    pop_closed result s is = pop_outcome P R (reply.Pop (Err pop.Closed)) (subst Popped is s)
