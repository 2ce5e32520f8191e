-- What a call may be answered without effect it may be answered in the settled history.
use Rattle.std.proofs.Common.{◌≡◌, false, List, [], ◌∷◌, ◌++◌, length, None, Err, refl, ap, sym, ◌∙◌, subst, inl, inr, arith, append-nil}
use mathlib.Core.List.{IsPrefix}
use Rattle.queue_steps.specs.{State.State, State.start, Effect.made, Effect.Runs, Effect.after, Replies.IsRightAt, Replies.LacksMemory, Replies.Allows}
use Rattle.queue_laws.specs.Common.Vocabulary.{Call, Reply, Effect, PopError, PushError, ForcePushError}
use Rattle.queue_laws.specs.Moment.Moments.{RunsAtOnce, AtOnceIsLegal, IsGlance, settled, DisplacesAtOnce}
use Rattle.queue_steps.proofs.LookLaws.{look_there}
use Rattle.queue_laws.proofs.Moment.{Closed.many, Closed.Agrees, Closed.arrived_none, Settling.Sound, Settling.many_none, Settling.full_none, Settling.sound_start, Settling.sound_after, Settling.open_settles, Settling.goes_on}

module _ {T : Type 0} where
  no_items : (xs : List T) → length xs ≡ 0 → xs ≡ []
  no_items [] is = refl
  no_items (x ∷ xs) is = absurd (omega arith)

  -- the same state where the queue is open and nothing is on its way in
  itself : (next : List (Effect T)) (Q S : State T) → Agrees next Q S → Q.closed ≡ false → Q.coming ≡ None → Q ≡ S
  itself next Q S a free none = sym (a.same (inr free) ∙ arrived_none Q none)

  as_many : (next : List (Effect T)) (Q S : State T) → Agrees next Q S → Q.coming ≡ None → length S.items ≡ length Q.items
  as_many next Q S a none = let count = a.count in let zero : many Q.coming ≡ 0 = ap many none in omega (arith, count, zero)

  right_there : (next : List (Effect T)) (Q S : State T) → Sound Q → Agrees next Q S → (c : Call T) (r : Reply T) → IsRightAt Q c r → (IsGlance c → Q.coming ≡ None) → IsRightAt S c r
  right_there next Q S s a (Call.Push v) (Reply.Push (Err (PushError.Full w))) h calm =
      subst (λ (R : State T). IsRightAt R (Call.Push v) (Reply.Push (Err (PushError.Full w)))) (itself next Q S a h.1 (many_none Q.coming (full_none Q.cap (length Q.items) (many Q.coming) h.2 s.room))) h
  right_there next Q S s a (Call.Push v) (Reply.Push (Err (PushError.Closed w))) h calm = (h.0, a.closed ∙ h.1)
  right_there next Q S s a (Call.ForcePush v) (Reply.ForcePush (Err (ForcePushError.Closed w))) h calm = (h.0, a.closed ∙ h.1)
  right_there next Q S s a Call.Pop (Reply.Pop (Err PopError.Empty)) h calm =
      subst (λ (R : State T). IsRightAt R Call.Pop (Reply.Pop (Err PopError.Empty))) (itself next Q S a h.2 h.1) h
  right_there next Q S s a Call.Pop (Reply.Pop (Err PopError.Closed)) h calm = (no_items S.items (as_many next Q S a h.1 ∙ ap length h.0), a.coming, a.closed ∙ h.2)
  right_there next Q S s a Call.Close (Reply.Close false) h calm = a.closed ∙ h
  right_there next Q S s a (Call.Push v) _ h calm = absurd h
  right_there next Q S s a (Call.ForcePush v) _ h calm = absurd h
  right_there next Q S s a Call.Pop _ h calm = absurd h
  right_there next Q S s a Call.Close _ h calm = absurd h
  right_there next Q S s a look r h calm = look_there Q S look r tt (sym a.cap) (sym a.closed) (λ glance. sym (as_many next Q S a (calm glance))) h

  lacks_there : (next : List (Effect T)) (Q S : State T) → Sound Q → Agrees next Q S → (c : Call T) (r : Reply T) → LacksMemory Q c r → LacksMemory S c r
  lacks_there next Q S s a (Call.Push v) (Reply.Push (Err (PushError.NoMemory w))) h =
      subst (λ (R : State T). LacksMemory R (Call.Push v) (Reply.Push (Err (PushError.NoMemory w)))) (itself next Q S a h.1.1 (s.uncapped h.1.0)) h
  lacks_there next Q S s a (Call.ForcePush v) (Reply.ForcePush (Err (ForcePushError.NoMemory w))) h =
      subst (λ (R : State T). LacksMemory R (Call.ForcePush v) (Reply.ForcePush (Err (ForcePushError.NoMemory w)))) (itself next Q S a h.1.1 (s.uncapped h.1.0)) h
  lacks_there next Q S s a _ _ h = absurd h

  pub allowed_there : (next : List (Effect T)) (Q S : State T) → Sound Q → Agrees next Q S → (c : Call T) (r : Reply T) → Allows c r Q → (IsGlance c → Q.coming ≡ None) → Allows c r S
  allowed_there next Q S s a c r (inl h) calm = inl (right_there next Q S s a c r h calm)
  allowed_there next Q S s a c r (inr h) calm = inr (lacks_there next Q S s a c r h)

pub displaces_at_once : {T : Type 0} → DisplacesAtOnce T
displaces_at_once {T} cap es next r =
    let Q : State T = after cap es in
    let all = open_settles (start cap 0) es next refl (sound_start cap) r in
    let s = sound_after (start cap 0) es next r (sound_start cap) in
    let agrees : Agrees next Q (after cap (settled es next)) = all.1 in
    record {
      legal = all.0;
      calm = agrees.coming;
      begins = subst (λ (l : List (Effect T)). IsPrefix (settled es l) (settled (es ++ next) [])) (append-nil next) (goes_on es next []);
      same = agrees.same;
      right = allowed_there next Q (after cap (settled es next)) s agrees;
    }

at_once_runs : {T : Type 0} (Q : State T) (es : List (Effect T)) → RunsAtOnce Q es → Runs Q es
at_once_runs Q [] r = tt
at_once_runs Q (Effect.Append v ∷ es) r = (r.0, at_once_runs (made (Effect.Append v) Q) es r.1)
at_once_runs Q (Effect.Take v ∷ es) r = (r.0, at_once_runs (made (Effect.Take v) Q) es r.1)
at_once_runs Q (Effect.Replace old v ∷ es) r = (r.0, at_once_runs (made (Effect.Replace old v) Q) es r.1)
at_once_runs Q (Effect.Front old v ∷ Effect.Arrive ∷ es) r = (r.1, ((v, refl), at_once_runs (made Effect.Arrive (made (Effect.Front old v) Q)) es r.2))
at_once_runs Q (Effect.Close ∷ es) r = (r.0, at_once_runs (made Effect.Close Q) es r.1)
at_once_runs Q (Effect.SelfClose ∷ es) r = (r.0, at_once_runs (made Effect.SelfClose Q) es r.1)
at_once_runs Q (x ∷ es) r = absurd r

pub at_once_is_legal : {T : Type 0} → AtOnceIsLegal T
at_once_is_legal limit es r = at_once_runs (start limit 0) es r
