-- A party whose call closed the queue, or found it closed, has seen it closed.
use Rattle.std.proofs.Common.{◌≡◌, ◌⊎◌, inl, inr, ℕ, zero, suc, Bool, true, false, Option, Err, List, [], ◌∷◌, ◌++◌, length, refl, sym, subst, ⊎_elim}
use mathlib.Core.{Option.some, Option.some-injective, Option.some-ne-none, List.IsPrefix}
use lib.ListN.{get_elem?}
use Rattle.queue_steps.specs.declared.{model.Call.Call, model.Call.Call as call, model.Reply.Reply, model.Reply.Reply as reply, model.Effect.Effect, model.Effect.Effect as effect, errors.PushError.PushError as push, errors.ForcePushError.ForcePushError as force}
use Rattle.queue_steps.specs.{State.State, State.start, Replies.Tells, Replies.Allows, Parties.View, Parties.StandAt, Parties.SharedCall, Effect.Runs, Effect.IsHistory, Effect.made, Effect.after_from, Effect.after}
use Rattle.queue_steps.proofs.Keeping.{stays_closed}
use Rattle.concurrent_queue.specs.Shared.{QueueId, PartyView, Calls}
use Rattle.counted_channel.specs.QueueCalls.Calls.{Ends, HasSeenClosed}

module _ {T : Type 0} where
  -- a queue that was seen closed stays so
  closed_on : (Q : State T) (s d : List (Effect T)) → Runs Q (s ++ d) → (after_from Q s).closed ≡ true → (after_from Q (s ++ d)).closed ≡ true
  closed_on Q [] d runs closed = stays_closed Q d runs closed
  closed_on Q (e ∷ s) d runs closed = closed_on (made e Q) s d runs.1 closed

  still_closed : (cap : Option ℕ) (s t : List (Effect T)) → IsPrefix s t → IsHistory cap t → (after cap s).closed ≡ true → (after cap t).closed ≡ true
  still_closed cap s t (d, is) legal closed =
      subst (λ (h : List (Effect T)). (after cap h).closed ≡ true) is (closed_on (start cap 0) s d (subst (IsHistory cap) (sym is) legal) closed)

  abbrev Closes : Effect T → Type 0
  Closes f = (Q : State T) → (made f Q).closed ≡ true

  -- where such an effect stands, the queue is closed then
  closing_stands : (f : Effect T) → Closes f → (Q : State T) (t : List (Effect T)) (p : ℕ) → Runs Q t → get_elem? t p ≡ some f → (after_from Q t).closed ≡ true
  closing_stands f closes Q [] p runs at = absurd (some-ne-none f (sym at))
  closing_stands f closes Q (e ∷ es) zero runs at =
      stays_closed (made e Q) es runs.1 (subst (λ (g : Effect T). (made g Q).closed ≡ true) (sym (some-injective e f at)) (closes Q))
  closing_stands f closes Q (e ∷ es) (suc p) runs at = closing_stands f closes (made e Q) es p runs.1 at

  closing_at : (f : Effect T) → Closes f → (cap : Option ℕ) (n : ℕ) (t : List (Effect T)) (ps : List ℕ) (es : List (Effect T)) → es ≡ f ∷ [] → IsHistory cap t → StandAt t n ps es → (after cap t).closed ≡ true
  closing_at f closes cap n t [] es is legal s = absurd (subst (StandAt t n []) is s)
  closing_at f closes cap n t (p ∷ ps) es is legal s = let s' = subst (StandAt t n (p ∷ ps)) is s in closing_stands f closes (start cap 0) t p legal s'.1

  -- the call closes the queue by this effect, or finds it closed
  record FindsClosed (f : Effect T) (c : Call T) (r : Reply T) : Type 0 where
    closes : Closes f
    tells : (es : List (Effect T)) → Tells c r es → (es ≡ f ∷ []) ⊎ (es ≡ [])
    allows : (Q : State T) → Allows c r Q → Q.closed ≡ true

  finds_closed_at : (f : Effect T) (cap : Option ℕ) (v w : View T) (c : Call T) (r : Reply T) → FindsClosed f c r → SharedCall cap v w c r → (after cap w.seen).closed ≡ true
  finds_closed_at f cap v w c r finds called =
      ⊎_elim
      (λ is. closing_at f finds.closes cap (length v.seen) w.seen called.places called.effects is called.legal called.stand)
      (λ none. let right = called.right none in still_closed cap right.0 w.seen right.2 called.legal (finds.allows (after cap right.0) right.3))
      (finds.tells called.effects called.tells)

  finds_closed : (f : Effect T) (v w : PartyView T) (c : Call T) (r : Reply T) → FindsClosed f c r → Calls v c r w → HasSeenClosed w
  finds_closed f v w c r finds called = subst (λ (q : QueueId). (after q.cap w.view.seen).closed ≡ true) (sym called.0) (finds_closed_at f v.queue.cap v.view w.view c r finds called.1)

  close_finds : (closed : Bool) → FindsClosed effect.Close call.Close (reply.Close closed)
  close_finds true = record { closes = λ Q. refl; tells = λ es is. inl is; allows = λ Q at. ⊎_elim (λ none. absurd none) (λ none. absurd none) at }
  close_finds false = record { closes = λ Q. refl; tells = λ es none. inr none; allows = λ Q at. ⊎_elim (λ closed. closed) (λ none. absurd none) at }

  pub close_sees : (v w : PartyView T) (closed : Bool) → Calls v call.Close (reply.Close closed) w → HasSeenClosed w
  close_sees v w closed called = finds_closed effect.Close v w call.Close (reply.Close closed) (close_finds closed) called

  pub push_sees : (v w : PartyView T) (x y : T) → Calls v (call.Push x) (reply.Push (Err (push.Closed y))) w → HasSeenClosed w
  push_sees v w x y called =
      finds_closed effect.SelfClose v w (call.Push x) (reply.Push (Err (push.Closed y)))
      (record { closes = λ Q. refl; tells = λ es tells. tells.1; allows = λ Q at. ⊎_elim (λ right. right.1) (λ none. absurd none) at })
      called

  pub force_push_sees : (v w : PartyView T) (x y : T) → Calls v (call.ForcePush x) (reply.ForcePush (Err (force.Closed y))) w → HasSeenClosed w
  force_push_sees v w x y called =
      finds_closed effect.SelfClose v w (call.ForcePush x) (reply.ForcePush (Err (force.Closed y)))
      (record { closes = λ Q. refl; tells = λ es tells. tells.1; allows = λ Q at. ⊎_elim (λ right. right.1) (λ none. absurd none) at })
      called

  -- the last end of a side has closed the queue
  pub ended_last : (v w : PartyView T) (last : Bool) → last ≡ true → (closed : Bool) → Calls v call.Close (reply.Close closed) w → Ends v w last
  ended_last v w true is closed called = ((closed, called), close_sees v w closed called)
  ended_last v w false is closed called = cc

  -- another has done nothing
  pub ended_other : (v w : PartyView T) (last : Bool) → last ≡ false → w ≡ v → Ends v w last
  ended_other v w true is same = cc
  ended_other v w false is same = same
