-- What an effect, or a reply without one, comes to in a queue that has some of the values alone, and no capacity.
use Rattle.std.proofs.Common.{append-nil, ◌≡◌, ◌∙◌, ◌⊎◌, inl, inr, ℕ, Bool, true, false, not, Option, Some, None, Ok, Err, List, [], ◌∷◌, ◌+◌, ◌<◌, ◌≤◌, refl, sym, arith}
use Rattle.std.proofs.lemmas.List.Elements.{filter-append}
use Rattle.std.specs.Prelude.{filter}
use Rattle.queue_steps.specs.{State.State, State.is_full, Effect.Fits, Effect.made, Replies.is_empty, Replies.Allows, Replies.Tells, declared.sizes.TheConstants.LIMIT}
use Rattle.queue_steps.specs.declared.{model.Call.Call, model.Call.Call as call, model.Reply.Reply, model.Reply.Reply as reply, model.Effect.Effect, model.Effect.Effect as effect}
use Rattle.queue_steps.specs.declared.{errors.PopError.PopError as pop, errors.PushError.PushError as push, errors.ForcePushError.ForcePushError as force}
use Rattle.history_check.specs.Levels.{IsExpected}
use Rattle.history_check.specs.LeftOut.{is_left_out, IsPlain}

pub accepted_made : (e : Effect ℕ) (Q : State ℕ) → (made e Q).accepted ≤ Q.accepted + 1
accepted_made (effect.Append v) Q = omega arith
accepted_made (effect.Take v) Q = omega arith
accepted_made (effect.Replace old v) Q = omega arith
accepted_made (effect.Front old v) Q = omega arith
accepted_made effect.Arrive Q = omega arith
accepted_made effect.Close Q = omega arith
accepted_made effect.SelfClose Q = omega arith

-- R is Q, of this capacity, with the kept values alone and without the capacity
pub record Thin (keeps : ℕ → Bool) (cap : Option ℕ) (Q R : State ℕ) : Type 0 where
  pub items : R.items ≡ filter keeps Q.items
  pub closed : R.closed ≡ Q.closed
  pub its_cap : Q.cap ≡ cap
  pub cap_too : R.cap ≡ None
  pub coming : Q.coming ≡ None
  pub coming_too : R.coming ≡ None
  pub few : R.accepted ≤ Q.accepted

not_both : (b : Bool) → not b ≡ true → b ≡ false
not_both true e = sym e
not_both false e = refl

not_neither : (b : Bool) → not b ≡ false → b ≡ true
not_neither true e = refl
not_neither false e = sym e

nothing_in : (xs : List ℕ) → is_empty xs ≡ true → xs ≡ []
nothing_in [] is = refl
nothing_in (x ∷ xs) is = absurd (cc)

never_full : (Q : State ℕ) → Q.cap ≡ None → is_full Q ≡ false
never_full Q cap = rw cap refl

-- a plain call displaces nothing
replaced_nothing : (cap : Option ℕ) (w : ℕ) → IsPlain cap (call.ForcePush w) → cap ≡ Some 1 → ⊥
replaced_nothing None w plain is = absurd (cc)
replaced_nothing (Some n) w plain is = plain

pub displaced_nothing : (cap : Option ℕ) (c : Call ℕ) (r : Reply ℕ) (x y : ℕ) (Q : State ℕ) → IsPlain cap c → Tells c r (effect.Front x y ∷ effect.Arrive ∷ []) → Q.cap ≡ cap → is_full Q ≡ true → ⊥
displaced_nothing None c r x y Q plain tells is full = absurd (cc (never_full Q is, full))
displaced_nothing (Some n) (call.ForcePush w) r x y Q plain tells is full = plain
displaced_nothing (Some n) (call.Push w) (reply.Push (Ok done)) x y Q plain tells is full = absurd (cc)
displaced_nothing (Some n) (call.Push w) (reply.Push (Err (push.Full u))) x y Q plain tells is full = absurd (let never = tells.1 in cc)
displaced_nothing (Some n) (call.Push w) (reply.Push (Err (push.Closed u))) x y Q plain tells is full = absurd (elim tells.1 [ inl never ↦ cc | inr never ↦ cc ])
displaced_nothing (Some n) (call.Push w) (reply.Push (Err (push.NoMemory u))) x y Q plain tells is full = absurd (let never = tells.1 in cc)
displaced_nothing (Some n) (call.Push w) r x y Q plain tells is full = absurd tells
displaced_nothing (Some n) call.Pop (reply.Pop (Ok z)) x y Q plain tells is full = absurd (cc)
displaced_nothing (Some n) call.Pop (reply.Pop (Err why)) x y Q plain tells is full = absurd (cc)
displaced_nothing (Some n) call.Pop r x y Q plain tells is full = absurd tells
displaced_nothing (Some n) call.Close (reply.Close true) x y Q plain tells is full = absurd (cc)
displaced_nothing (Some n) call.Close (reply.Close false) x y Q plain tells is full = absurd (cc)
displaced_nothing (Some n) call.Close r x y Q plain tells is full = absurd tells
displaced_nothing (Some n) call.IsClosed (reply.IsClosed z) x y Q plain tells is full = absurd (cc)
displaced_nothing (Some n) call.IsClosed r x y Q plain tells is full = absurd tells
displaced_nothing (Some n) call.IsEmpty (reply.IsEmpty z) x y Q plain tells is full = absurd (cc)
displaced_nothing (Some n) call.IsEmpty r x y Q plain tells is full = absurd tells
displaced_nothing (Some n) call.IsFull (reply.IsFull z) x y Q plain tells is full = absurd (cc)
displaced_nothing (Some n) call.IsFull r x y Q plain tells is full = absurd tells
displaced_nothing (Some n) call.Len (reply.Len z) x y Q plain tells is full = absurd (cc)
displaced_nothing (Some n) call.Len r x y Q plain tells is full = absurd tells
displaced_nothing (Some n) call.Capacity (reply.Capacity z) x y Q plain tells is full = absurd (cc)
displaced_nothing (Some n) call.Capacity r x y Q plain tells is full = absurd tells

module _ (keeps : ℕ → Bool) (looks : Bool) (cap : Option ℕ) where
  -- an effect on a value that is not kept changes nothing, and one on a value that is kept may stand
  append_out : (v : ℕ) (Q R : State ℕ) → keeps v ≡ false → Thin keeps cap Q R → Thin keeps cap (made (effect.Append v) Q) R
  append_out v Q R out h = record { items = h.items ∙ sym (filter-append keeps Q.items (v ∷ []) ∙ rw out (append-nil (filter keeps Q.items))); closed = h.closed; its_cap = h.its_cap; cap_too = h.cap_too; coming = h.coming; coming_too = h.coming_too; few = let few = h.few in omega arith }

  append_in : (v : ℕ) (Q R : State ℕ) → keeps v ≡ true → Q.accepted < LIMIT → Fits (effect.Append v) Q → Thin keeps cap Q R → Fits (effect.Append v) R × Thin keeps cap (made (effect.Append v) Q) (made (effect.Append v) R)
  append_in v Q R kept below fits h = (
    (h.closed ∙ fits.0, h.coming_too, never_full R h.cap_too, inr (let few = h.few in omega arith)),
    record { items = rw (h.items, filter-append keeps Q.items (v ∷ []), kept) refl; closed = h.closed; its_cap = h.its_cap; cap_too = h.cap_too; coming = h.coming; coming_too = h.coming_too; few = let few = h.few in omega arith },
  )

  take_out : (x : ℕ) (Q R : State ℕ) → keeps x ≡ false → Fits (effect.Take x) Q → Thin keeps cap Q R → Thin keeps cap (made (effect.Take x) Q) R
  take_out x Q R out (others, is) h = record { items = h.items ∙ rw (is, out) refl; closed = h.closed; its_cap = h.its_cap; cap_too = h.cap_too; coming = h.coming; coming_too = h.coming_too; few = h.few }

  take_in : (x : ℕ) (Q R : State ℕ) → keeps x ≡ true → Fits (effect.Take x) Q → Thin keeps cap Q R → Fits (effect.Take x) R × Thin keeps cap (made (effect.Take x) Q) (made (effect.Take x) R)
  take_in x Q R kept (others, is) h =
      let items : R.items ≡ x ∷ filter keeps others = h.items ∙ rw (is, kept) refl in
      ((filter keeps others, items), record { items = rw (items, is) refl; closed = h.closed; its_cap = h.its_cap; cap_too = h.cap_too; coming = h.coming; coming_too = h.coming_too; few = h.few })

  close_in : (Q R : State ℕ) → Fits effect.Close Q → Thin keeps cap Q R → Fits effect.Close R × Thin keeps cap (made effect.Close Q) (made effect.Close R)
  close_in Q R fits h = (h.closed ∙ fits, record { items = h.items; closed = refl; its_cap = h.its_cap; cap_too = h.cap_too; coming = h.coming; coming_too = h.coming_too; few = h.few })

  -- what an effect of a call comes to in what remains: nothing where the call is left out; else the same, or nothing where the call has no end
  abbrev pub Comes : Effect ℕ → Option (Reply ℕ) → Bool → State ℕ → State ℕ → Type 0
  Comes e o true Q R = Thin keeps cap (made e Q) R
  Comes e o false Q R = (Fits e R × Thin keeps cap (made e Q) (made e R)) ⊎ ((o ≡ None) × Thin keeps cap (made e Q) R)

  of_push : (v : ℕ) (o : Option (Reply ℕ)) (Q R : State ℕ) (b : Bool) → b ≡ not (keeps v) → Q.accepted < LIMIT → Fits (effect.Append v) Q → Thin keeps cap Q R → Comes (effect.Append v) o b Q R
  of_push v o Q R true is below fits h = append_out v Q R (not_both (keeps v) (sym is)) h
  of_push v o Q R false is below fits h = inl (append_in v Q R (not_neither (keeps v) (sym is)) below fits h)

  of_pop : (x : ℕ) (r : Reply ℕ) (Q R : State ℕ) (b : Bool) → b ≡ not (keeps x) → Fits (effect.Take x) Q → Thin keeps cap Q R → Comes (effect.Take x) (Some r) b Q R
  of_pop x r Q R true is fits h = take_out x Q R (not_both (keeps x) (sym is)) fits h
  of_pop x r Q R false is fits h = inl (take_in x Q R (not_neither (keeps x) (sym is)) fits h)

  of_endless : (x : ℕ) (Q R : State ℕ) (b : Bool) → keeps x ≡ b → Fits (effect.Take x) Q → Thin keeps cap Q R → Comes (effect.Take x) None false Q R
  of_endless x Q R true is fits h = inl (take_in x Q R is fits h)
  of_endless x Q R false is fits h = inr (refl, take_out x Q R is fits h)

  pub comes : (c : Call ℕ) (r : Reply ℕ) (e : Effect ℕ) (o : Option (Reply ℕ)) (Q R : State ℕ) → IsExpected o r → Tells c r (e ∷ []) → Q.accepted < LIMIT → Fits e Q → IsPlain cap c → Thin keeps cap Q R → Comes e o (is_left_out keeps looks c o) Q R
  comes c r effect.SelfClose o Q R x tells below fits plain h = absurd (let at = fits.2 in omega arith)
  comes (call.Push w) (reply.Push (Ok done)) (effect.Append v) None Q R x tells below fits plain h = let same : w ≡ v = cc in of_push v None Q R (not (keeps w)) (rw same refl) below fits h
  comes (call.Push w) (reply.Push (Ok done)) (effect.Append v) (Some y) Q R x tells below fits plain h = let same : w ≡ v = cc in rw x (of_push v (Some (reply.Push (Ok done))) Q R (not (keeps w)) (rw same refl) below fits h)
  comes (call.ForcePush w) (reply.ForcePush (Ok None)) (effect.Append v) None Q R x tells below fits plain h = let same : w ≡ v = cc in of_push v None Q R (not (keeps w)) (rw same refl) below fits h
  comes (call.ForcePush w) (reply.ForcePush (Ok None)) (effect.Append v) (Some y) Q R x tells below fits plain h = let same : w ≡ v = cc in rw x (of_push v (Some (reply.ForcePush (Ok None))) Q R (not (keeps w)) (rw same refl) below fits h)
  comes call.Pop (reply.Pop (Ok y)) (effect.Take v) None Q R x tells below fits plain h = of_endless v Q R (keeps v) refl fits h
  comes call.Pop (reply.Pop (Ok y)) (effect.Take v) (Some z) Q R x tells below fits plain h = let same : y ≡ v = cc in rw x (of_pop v (reply.Pop (Ok y)) Q R (not (keeps y)) (rw same refl) fits h)
  comes call.Close (reply.Close true) effect.Close None Q R x tells below fits plain h = inl (close_in Q R fits h)
  comes call.Close (reply.Close true) effect.Close (Some y) Q R x tells below fits plain h = rw x (inl (close_in Q R fits h))
  comes (call.Push w) (reply.Push (Err (push.Full u))) e o Q R x tells below fits plain h = absurd (let never = tells.1 in cc)
  comes (call.Push w) (reply.Push (Err (push.Closed u))) e o Q R x tells below fits plain h = absurd (elim tells.1 [ inl never ↦ cc | inr never ↦ cc ])
  comes (call.Push w) (reply.Push (Err (push.NoMemory u))) e o Q R x tells below fits plain h = absurd (let never = tells.1 in cc)
  comes (call.ForcePush w) (reply.ForcePush (Err (force.Closed u))) e o Q R x tells below fits plain h = absurd (elim tells.1 [ inl never ↦ cc | inr never ↦ cc ])
  comes (call.ForcePush w) (reply.ForcePush (Err (force.NoMemory u))) e o Q R x tells below fits plain h = absurd (let never = tells.1 in cc)
  comes (call.Push w) (reply.Push (Ok done)) e o Q R x tells below fits plain h = absurd (cc)
  comes (call.Push w) r e o Q R x tells below fits plain h = absurd tells
  comes (call.ForcePush w) (reply.ForcePush (Ok None)) e o Q R x tells below fits plain h = absurd (cc)
  comes (call.ForcePush w) (reply.ForcePush (Ok (Some old))) (effect.Replace y v) o Q R x tells below fits plain h = absurd (replaced_nothing cap w plain (sym h.its_cap ∙ fits.0))
  comes (call.ForcePush w) (reply.ForcePush (Ok (Some old))) e o Q R x tells below fits plain h = absurd (elim tells [ inl never ↦ cc | inr never ↦ cc ])
  comes (call.ForcePush w) r e o Q R x tells below fits plain h = absurd tells
  comes call.Pop (reply.Pop (Ok y)) e o Q R x tells below fits plain h = absurd (cc)
  comes call.Pop (reply.Pop (Err y)) e o Q R x tells below fits plain h = absurd (cc)
  comes call.Pop r e o Q R x tells below fits plain h = absurd tells
  comes call.Close (reply.Close true) e o Q R x tells below fits plain h = absurd (cc)
  comes call.Close (reply.Close false) e o Q R x tells below fits plain h = absurd (cc)
  comes call.Close r e o Q R x tells below fits plain h = absurd tells
  comes call.IsClosed (reply.IsClosed y) e o Q R x tells below fits plain h = absurd (cc)
  comes call.IsClosed r e o Q R x tells below fits plain h = absurd tells
  comes call.IsEmpty (reply.IsEmpty y) e o Q R x tells below fits plain h = absurd (cc)
  comes call.IsEmpty r e o Q R x tells below fits plain h = absurd tells
  comes call.IsFull (reply.IsFull y) e o Q R x tells below fits plain h = absurd (cc)
  comes call.IsFull r e o Q R x tells below fits plain h = absurd tells
  comes call.Len (reply.Len y) e o Q R x tells below fits plain h = absurd (cc)
  comes call.Len r e o Q R x tells below fits plain h = absurd tells
  comes call.Capacity (reply.Capacity y) e o Q R x tells below fits plain h = absurd (cc)
  comes call.Capacity r e o Q R x tells below fits plain h = absurd tells

  -- a reply without an effect is right in what remains, or the call has no end, or is left out
  pub sees : (c : Call ℕ) (r : Reply ℕ) (o : Option (Reply ℕ)) (Q R : State ℕ) → IsExpected o r → Allows c r Q → is_left_out keeps looks c o ≡ false → Thin keeps cap Q R → Allows c r R ⊎ (o ≡ None)
  sees c r None Q R x allows kept h = inr refl
  sees (call.Push v) (reply.Push (Err (push.Full w))) (Some y) Q R x allows kept h = absurd (let never = rw x at kept in cc)
  sees (call.Push v) (reply.Push (Err (push.Closed w))) (Some y) Q R x (inl right) kept h = inl (inl (right.0, h.closed ∙ right.1))
  sees (call.Push v) (reply.Push (Err (push.NoMemory w))) (Some y) Q R x allows kept h = absurd (let never = rw x at kept in cc)
  sees (call.ForcePush v) (reply.ForcePush (Err (force.Closed w))) (Some y) Q R x (inl right) kept h = inl (inl (right.0, h.closed ∙ right.1))
  sees (call.ForcePush v) (reply.ForcePush (Err (force.NoMemory w))) (Some y) Q R x allows kept h = absurd (let never = rw x at kept in cc)
  sees call.Pop (reply.Pop (Err pop.Empty)) (Some y) Q R x (inl right) kept h = inl (inl (h.items ∙ rw right.0 refl, h.coming_too, h.closed ∙ right.2))
  sees call.Pop (reply.Pop (Err pop.Closed)) (Some y) Q R x (inl right) kept h = inl (inl (h.items ∙ rw right.0 refl, h.coming_too, h.closed ∙ right.2))
  sees call.Close (reply.Close false) (Some y) Q R x (inl right) kept h = inl (inl (h.closed ∙ right))
  sees call.IsClosed (reply.IsClosed b) (Some y) Q R x (inl right) kept h = inl (inl (right ∙ sym h.closed))
  sees call.IsEmpty (reply.IsEmpty true) (Some y) Q R x (inl right) kept h = inl (inl (let none = nothing_in Q.items (sym right) in rw (h.items, none) refl))
  sees call.IsEmpty (reply.IsEmpty false) (Some y) Q R x allows kept h = absurd (let never = rw x at kept in cc)
  sees call.IsFull r o Q R x allows kept h = absurd (cc)
  sees call.Len r o Q R x allows kept h = absurd (cc)
  sees call.Capacity r o Q R x allows kept h = absurd (cc)
  sees c r o Q R x (inl never) kept h = absurd never
  sees c r o Q R x (inr never) kept h = absurd never
