-- A call whose effects stand one after another, with nothing of another call between them, is a call of the one-owner table.
use Rattle.std.proofs.Common.{◌≡◌, ◌⊎◌, ℕ, ◌+◌, ◌==◌, ◌&&◌, true, false, not, if◌then◌else◌, Some, None, Ok, Err, List, [], ◌∷◌, refl, sym, ap, subst, ⊎_elim, arith, inl, inr}
use Rattle.queue_steps.specs.declared.{sizes.TheConstants.LIMIT, errors.PopError.PopError as pop, errors.PushError.PushError as push, errors.ForcePushError.ForcePushError as force}
use Rattle.queue_steps.specs.declared.model.{Call.Call, Call.Call as call, Reply.Reply, Reply.Reply as reply, Effect.Effect, Effect.Effect as effect}
use Rattle.queue_steps.specs.{State.State, State.is_full, State.is_slot_cap, State.IsBelow, Effect.Runs, Effect.after_from, Legal.IsShown, Sequential.owner_table, Sequential.is_spent, Sequential.counted, Replies.IsRightAt, Replies.LacksMemory, Replies.Allows, Replies.Tells}
use Rattle.queue_steps.proofs.{TableCases.at_shut, TableCases.at_spent, TableCases.at_full, TableCases.at_room, LookLaws.look_tells, LookLaws.look_right}

-- the count agrees, but for a queue of one slot
abbrev pub Same : {T : Type 0} → State T → ℕ → Type 0
Same Q a = (is_slot_cap Q.cap ≡ true) ⊎ (a ≡ Q.accepted)

-- the state with this count
abbrev pub with_count : {T : Type 0} → State T → ℕ → State T
with_count Q a = record Q { accepted = a }

-- a call that displaces left an open queue
abbrev pub WasOpen : {T : Type 0} → State T → List (Effect T) → Type 0
WasOpen {T} Q es = (old v : T) → es ≡ effect.Front old v ∷ effect.Arrive ∷ [] → Q.closed ≡ false

not_spent : {T : Type 0} (Q : State T) (a : ℕ) → Same Q a → IsBelow Q → is_spent (with_count Q a) ≡ false
not_spent Q a same (inl single) = rw single refl
not_spent Q a (inl single) (inr below) = rw single refl
not_spent Q a (inr e) (inr below) =
    let no : (Q.accepted == LIMIT) ≡ false = grind arith in
    rw (e, no) (elim (is_slot_cap Q.cap) as (λ b. (not b && false) ≡ false) [ true ↦ refl | false ↦ refl ])

spent : {T : Type 0} (Q : State T) (a : ℕ) → Same Q a → is_slot_cap Q.cap ≡ false → Q.accepted ≡ LIMIT → is_spent (with_count Q a) ≡ true
spent Q a (inl single) many at = let b = single in let c = many in cc
spent Q a (inr e) many at = rw (many, e, at) refl

one_more : {T : Type 0} (Q : State T) (a : ℕ) → Same Q a → (is_slot_cap Q.cap ≡ true) ⊎ (counted (with_count Q a) ≡ Q.accepted + 1)
one_more Q a (inl single) = inl single
one_more Q a (inr e) = elim (is_slot_cap Q.cap) as (λ b. (b ≡ true) ⊎ ((if b then a else a + 1) ≡ Q.accepted + 1)) [ true ↦ inl refl | false ↦ inr (ap (λ n. n + 1) e) ]

module _ {T : Type 0} (Q : State T) (a : ℕ) (same : Same Q a) where
  -- the reply is that of the line, and the effects lead to its state
  abbrev Shows : Reply T → List (Effect T) → Reply T × State T → Type 0
  Shows r es l = (r ≡ l.0) × IsShown l.1 (after_from Q es)

  abbrev pub Does : Call T → Reply T → List (Effect T) → Type 0
  Does c r es = Shows r es (owner_table (with_count Q a) c)

  -- nothing changes
  still : IsShown (with_count Q a) Q
  still = record { items = refl; cap = refl; closed = refl; coming = refl; accepted = same }

  row : (c : Call T) (r : Reply T) (es : List (Effect T)) → Tells c r es → Runs Q es → (es ≡ [] → IsRightAt Q c r) → WasOpen Q es → Does c r es
  row (call.Push v) (reply.Push (Ok done)) es tells runs right opened =
      let fits = (subst (Runs Q) tells runs).0 in
      rw tells (at_room (Shows (reply.Push (Ok done)) (effect.Append v ∷ [])) (with_count Q a) _ _ _ _ fits.0 (not_spent Q a same fits.3) fits.2
      (refl, record { items = refl; cap = refl; closed = refl; coming = refl; accepted = one_more Q a same }))
  row (call.Push v) (reply.Push (Err (push.Full w))) es tells runs right opened =
      let at = right tells.1 in
      rw (tells.1, at.0) (at_full (Shows (reply.Push (Err (push.Full v))) []) (with_count Q a) _ _ _ _ at.1 (not_spent Q a same at.3) at.2 (refl, still))
  row (call.Push v) (reply.Push (Err (push.Closed w))) es (e, inl tells) runs right opened =
      let fits = (subst (Runs Q) tells runs).0 in
      rw (tells, e) (at_spent (Shows (reply.Push (Err (push.Closed v))) (effect.SelfClose ∷ [])) (with_count Q a) _ _ _ _ fits.0 (spent Q a same fits.1 fits.2)
      (refl, record { items = refl; cap = refl; closed = refl; coming = refl; accepted = same }))
  row (call.Push v) (reply.Push (Err (push.Closed w))) es (e, inr tells) runs right opened =
      rw (tells, e) (at_shut (Shows (reply.Push (Err (push.Closed v))) []) (with_count Q a) _ _ _ _ (right tells).1 (refl, still))
  row (call.Push v) (reply.Push (Err (push.NoMemory w))) es tells runs right opened = absurd (right tells.1)
  row (call.ForcePush v) (reply.ForcePush (Ok None)) es tells runs right opened =
      let fits = (subst (Runs Q) tells runs).0 in
      rw tells (at_room (Shows (reply.ForcePush (Ok None)) (effect.Append v ∷ [])) (with_count Q a) _ _ _ _ fits.0 (not_spent Q a same fits.3) fits.2
      (refl, record { items = refl; cap = refl; closed = refl; coming = refl; accepted = one_more Q a same }))
  row (call.ForcePush v) (reply.ForcePush (Ok (Some old))) es (inl tells) runs right opened =
      let fits = (subst (Runs Q) tells runs).0 in
      let single : is_slot_cap Q.cap ≡ true = rw fits.0 refl in
      let full : is_full Q ≡ true = rw (fits.0, fits.2) refl in
      rw tells (at_full (Shows (reply.ForcePush (Ok (Some old))) (effect.Replace old v ∷ [])) (with_count Q a) _ _ _ _ fits.1 (not_spent Q a same (inl single)) full
      (rw fits.2 refl, record { items = rw fits.2 refl; cap = refl; closed = refl; coming = refl; accepted = inl single }))
  row (call.ForcePush v) (reply.ForcePush (Ok (Some old))) es (inr tells) runs right opened =
      let fits = (subst (Runs Q) tells runs).0 in
      rw tells (at_full (Shows (reply.ForcePush (Ok (Some old))) (effect.Front old v ∷ effect.Arrive ∷ [])) (with_count Q a) _ _ _ _ (opened old v tells) (not_spent Q a same fits.3) fits.1
      (rw fits.4.1 refl, record { items = refl; cap = refl; closed = refl; coming = fits.2; accepted = one_more Q a same }))
  row (call.ForcePush v) (reply.ForcePush (Err (force.Closed w))) es (e, inl tells) runs right opened =
      let fits = (subst (Runs Q) tells runs).0 in
      rw (tells, e) (at_spent (Shows (reply.ForcePush (Err (force.Closed v))) (effect.SelfClose ∷ [])) (with_count Q a) _ _ _ _ fits.0 (spent Q a same fits.1 fits.2)
      (refl, record { items = refl; cap = refl; closed = refl; coming = refl; accepted = same }))
  row (call.ForcePush v) (reply.ForcePush (Err (force.Closed w))) es (e, inr tells) runs right opened =
      rw (tells, e) (at_shut (Shows (reply.ForcePush (Err (force.Closed v))) []) (with_count Q a) _ _ _ _ (right tells).1 (refl, still))
  row (call.ForcePush v) (reply.ForcePush (Err (force.NoMemory w))) es tells runs right opened = absurd (right tells.1)
  row call.Pop (reply.Pop (Ok x)) es tells runs right opened =
      let fits = (subst (Runs Q) tells runs).0 in rw tells (rw fits.1 refl, record { items = refl; cap = refl; closed = refl; coming = refl; accepted = same })
  row call.Pop (reply.Pop (Err pop.Empty)) es tells runs right opened =
      let at = right tells in rw tells (rw (at.0, at.2) refl, record { items = rw at.0 refl; cap = refl; closed = refl; coming = refl; accepted = same })
  row call.Pop (reply.Pop (Err pop.Closed)) es tells runs right opened =
      let at = right tells in rw tells (rw (at.0, at.2) refl, record { items = rw at.0 refl; cap = refl; closed = refl; coming = refl; accepted = same })
  row call.Close (reply.Close true) es tells runs right opened =
      let fits = (subst (Runs Q) tells runs).0 in rw tells (rw fits refl, record { items = refl; cap = refl; closed = refl; coming = refl; accepted = same })
  row call.Close (reply.Close false) es tells runs right opened =
      let at : Q.closed ≡ true = right tells in rw tells (rw at refl, record { items = refl; cap = refl; closed = sym at; coming = refl; accepted = same })
  row (call.Push v) _ es tells runs right opened = absurd tells
  row (call.ForcePush v) _ es tells runs right opened = absurd tells
  row call.Pop _ es tells runs right opened = absurd tells
  row call.Close _ es tells runs right opened = absurd tells
  row look r es tells runs right opened = let none = look_tells look r es tt tells in rw none (look_right Q look r tt (right none), still)

  -- a line of the table, or want of memory
  pub does_row : (c : Call T) (r : Reply T) (es : List (Effect T)) → Tells c r es → Runs Q es → (es ≡ [] → Allows c r Q) → WasOpen Q es → Does c r es ⊎ (LacksMemory Q c r × (es ≡ []))
  does_row (call.Push v) (reply.Push (Err (push.NoMemory w))) es tells runs allows opened =
      ⊎_elim (λ (right : ⊥). absurd right) (λ (none : LacksMemory Q (call.Push v) (reply.Push (Err (push.NoMemory w)))). inr (none, tells.1)) (allows tells.1)
  does_row (call.ForcePush v) (reply.ForcePush (Err (force.NoMemory w))) es tells runs allows opened =
      ⊎_elim (λ (right : ⊥). absurd right) (λ (none : LacksMemory Q (call.ForcePush v) (reply.ForcePush (Err (force.NoMemory w)))). inr (none, tells.1)) (allows tells.1)
  does_row c (reply.Push (Err (push.NoMemory w))) es tells runs allows opened = absurd tells
  does_row c (reply.ForcePush (Err (force.NoMemory w))) es tells runs allows opened = absurd tells
  does_row c r es tells runs allows opened = inl (row c r es tells runs (λ none. elim (allows none) [ inl right ↦ right | inr lacks ↦ absurd lacks ]) opened)
