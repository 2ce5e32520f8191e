-- The ways in which a reply stands for effects: with none, one, or a front and its arrive.
use Rattle.std.proofs.Common.{◌≡◌, inl, inr, true, false, List, [], ◌∷◌, Some, None, Ok, Err, refl, sym, subst}
use Rattle.queue_steps.specs.Replies.{Tells}
use Rattle.queue_steps.proofs.LookLaws.{look_tells}
use Rattle.queue_laws.specs.Common.Vocabulary.{Call, Reply, Effect, PushError, ForcePushError}

-- the effects of the call c that is answered r
pub data TellsAs {T : Type 0} (c : Call T) (r : Reply T) : List (Effect T) → Type 0 where
  nothing : TellsAs c r []
  append : (v : T) → TellsAs c r (Effect.Append v ∷ [])
  take : (x : T) → c ≡ Call.Pop → r ≡ Reply.Pop (Ok x) → TellsAs c r (Effect.Take x ∷ [])
  replace : (old v : T) → c ≡ Call.ForcePush v → r ≡ Reply.ForcePush (Ok (Some old)) → TellsAs c r (Effect.Replace old v ∷ [])
  displace : (old v : T) → c ≡ Call.ForcePush v → r ≡ Reply.ForcePush (Ok (Some old)) → TellsAs c r (Effect.Front old v ∷ Effect.Arrive ∷ [])
  close : c ≡ Call.Close → r ≡ Reply.Close true → TellsAs c r (Effect.Close ∷ [])
  self_close : TellsAs c r (Effect.SelfClose ∷ [])

module _ {T : Type 0} where
  is_nothing : (c : Call T) (r : Reply T) (es : List (Effect T)) → es ≡ [] → TellsAs c r es
  is_nothing c r es e = subst (TellsAs c r) (sym e) nothing

  pub tells_as : (c : Call T) (r : Reply T) (es : List (Effect T)) → Tells c r es → TellsAs c r es
  tells_as (Call.Push v) (Reply.Push (Ok done)) es t = subst (TellsAs (Call.Push v) (Reply.Push (Ok done))) (sym t) (append v)
  tells_as (Call.Push v) (Reply.Push (Err (PushError.Full w))) es t = is_nothing _ _ es t.1
  tells_as (Call.Push v) (Reply.Push (Err (PushError.Closed w))) es (e, way) =
      elim way [ inl e ↦ subst (TellsAs (Call.Push v) (Reply.Push (Err (PushError.Closed w)))) (sym e) self_close | inr e ↦ is_nothing _ _ es e ]
  tells_as (Call.Push v) (Reply.Push (Err (PushError.NoMemory w))) es t = is_nothing _ _ es t.1
  tells_as (Call.ForcePush v) (Reply.ForcePush (Ok None)) es t = subst (TellsAs (Call.ForcePush v) (Reply.ForcePush (Ok None))) (sym t) (append v)
  tells_as (Call.ForcePush v) (Reply.ForcePush (Ok (Some old))) es t =
      elim t [
        | inl e ↦ subst (TellsAs (Call.ForcePush v) (Reply.ForcePush (Ok (Some old)))) (sym e) (replace old v refl refl)
        | inr e ↦ subst (TellsAs (Call.ForcePush v) (Reply.ForcePush (Ok (Some old)))) (sym e) (displace old v refl refl)
      ]
  tells_as (Call.ForcePush v) (Reply.ForcePush (Err (ForcePushError.Closed w))) es (e, way) =
      elim way [ inl e ↦ subst (TellsAs (Call.ForcePush v) (Reply.ForcePush (Err (ForcePushError.Closed w)))) (sym e) self_close | inr e ↦ is_nothing _ _ es e ]
  tells_as (Call.ForcePush v) (Reply.ForcePush (Err (ForcePushError.NoMemory w))) es t = is_nothing _ _ es t.1
  tells_as Call.Pop (Reply.Pop (Ok x)) es t = subst (TellsAs Call.Pop (Reply.Pop (Ok x))) (sym t) (take x refl refl)
  tells_as Call.Pop (Reply.Pop (Err why)) es t = is_nothing _ _ es t
  tells_as Call.Close (Reply.Close true) es t = subst (TellsAs Call.Close (Reply.Close true)) (sym t) (close refl refl)
  tells_as Call.Close (Reply.Close false) es t = is_nothing _ _ es t
  tells_as (Call.Push v) _ es t = absurd t
  tells_as (Call.ForcePush v) _ es t = absurd t
  tells_as Call.Pop _ es t = absurd t
  tells_as Call.Close _ es t = absurd t
  tells_as look r es t = is_nothing _ _ es (look_tells look r es tt t)
