-- A shared call of the only party is a call of one owner.
use Rattle.std.specs.Prelude.{◌≡◌, ℕ, ◌<◌, ◌≤◌, false, List, [], ◌∷◌, ◌++◌, length, Option, None, Err}
use Rattle.std.proofs.Common.{refl, sym, inl, inr, ap, ◌∙◌, subst, ⊎_elim, length-append, arith}
use Rattle.std.specs.List.{Contains}
use Rattle.std.proofs.lemmas.List.{append-nil, Elements.All-contains, Elements.Contains-append_cases}
use mathlib.Core.List.{IsPrefix}
use Rattle.queue_steps.specs.declared.{model.Effect.Effect, model.Effect.Effect as effect, model.Call.Call, model.Call.Call as call, model.Reply.Reply, model.Reply.Reply as reply, errors.PushError.PushError as push, errors.ForcePushError.ForcePushError as force}
use Rattle.queue_steps.specs.{State.State, State.start, Sequential.sequential_state, SequentialCalls.WholeCalls, Legal.IsShown, Shares.IsEntire, Replies.LacksMemory, Replies.Allows, Effect.made, Effect.Runs, Effect.after_from, Effect.after, Effect.IsHistory}
use Rattle.queue_steps.specs.Parties.{View, IsView, StandAt, Displaces, SharedCall}
use Rattle.queue_steps.proofs.{Places.Fills, Places.first_place, Places.only_these, Rows.Does, Rows.does_row}

module _ {T : Type 0} where
  runs_rest : (q : State T) (s d : List (Effect T)) → Runs q (s ++ d) → Runs (after_from q s) d
  runs_rest q [] d r = r
  runs_rest q (e ∷ s) d r = runs_rest (made e q) s d r.1

  after_rest : (q : State T) (s d : List (Effect T)) → after_from q (s ++ d) ≡ after_from (after_from q s) d
  after_rest q [] d = refl
  after_rest q (e ∷ s) d = after_rest (made e q) s d

  cap_made : (e : Effect T) (Q : State T) → (made e Q).cap ≡ Q.cap
  cap_made (effect.Append v) Q = refl
  cap_made (effect.Take v) Q = refl
  cap_made (effect.Replace old v) Q = refl
  cap_made (effect.Front old v) Q = refl
  cap_made effect.Arrive Q = refl
  cap_made effect.Close Q = refl
  cap_made effect.SelfClose Q = refl

  cap_after_from : (Q : State T) (es : List (Effect T)) → (after_from Q es).cap ≡ Q.cap
  cap_after_from Q [] = refl
  cap_after_from Q (e ∷ es) = cap_after_from (made e Q) es ∙ cap_made e Q

  -- a request was refused on a queue without a capacity alone
  lacks_none : (Q : State T) (c : Call T) (r : Reply T) → LacksMemory Q c r → Q.cap ≡ None
  lacks_none Q (call.Push v) (reply.Push (Err (push.NoMemory w))) h = h.1.0
  lacks_none Q (call.ForcePush v) (reply.ForcePush (Err (force.NoMemory w))) h = h.1.0
  lacks_none Q _ _ h = absurd h

  -- what lies between a history and itself is that history
  between_one : (s h t : List (Effect T)) → IsPrefix s h → length h ≤ length s → h ≡ s
  between_one s h t ([], is) le = sym is ∙ append-nil s
  between_one s h t (x ∷ d, is) le = absurd (omega (arith, sym (ap length is) ∙ length-append s (x ∷ d)))

  prefix_long : (s h : List (Effect T)) → IsPrefix s h → length s ≤ length h
  prefix_long s h p = omega (arith, sym (ap length p.1) ∙ length-append s p.0)

  -- a displacing call had read the queue open at Q, where no other has an effect
  was_open : (cap : Option ℕ) (s t : List (Effect T)) (ps : List ℕ) (es : List (Effect T)) → StandAt t (length s) ps es → Fills t (length s) ps → Displaces cap s t ps
      → (e1 e2 : Effect T) → es ≡ e1 ∷ e2 ∷ [] → (after cap s).closed ≡ false
  was_open cap s t ps es stand all shown e1 e2 is = go ps (subst (StandAt t (length s) ps) is stand) all shown
    where
      go : (ps : List ℕ) → StandAt t (length s) ps (e1 ∷ e2 ∷ []) → Fills t (length s) ps → Displaces cap s t ps → (after cap s).closed ≡ false
      go [] st fl sh = absurd st
      go (p ∷ []) st fl sh = absurd st.2
      go (p ∷ q ∷ ps) st fl sh =
          let first : p ≡ length s = first_place t (length s) p (q ∷ ps) e1 (e2 ∷ []) st fl in
          let h = sh.0 in
          subst (λ (l : List (Effect T)). (after cap l).closed ≡ false) (between_one s h.0 t h.1 (omega (arith, h.3, first))) h.4

  -- the places of a call of the only party are all that are new
  all_new : (cap : Option ℕ) (v w : View T) (c : Call T) (r : Reply T) → IsView cap v → IsView cap w → (s : SharedCall cap v w c r) → IsEntire v.share → Fills w.seen (length v.seen) s.places
  all_new cap v w c r at_v at_w s entire q le inside =
      let mine : Contains (v.mine ++ s.places) q = subst (λ (l : List ℕ). Contains l q) s.mine (at_w.whole (subst IsEntire (sym s.share) entire) q inside) in
      ⊎_elim (λ (old : Contains v.mine q). absurd (omega (arith, le, All-contains (λ p. p < length v.seen) v.mine q at_v.inside old))) (λ (new : Contains s.places q). new) (Contains-append_cases v.mine s.places q mine)

pub whole_calls : {T : Type 0} → WholeCalls T
whole_calls {T} cap v w c r at_v at_w s entire =
    let all = all_new cap v w c r at_v at_w s entire in
    let Q : State T = after cap v.seen in
    let seen : w.seen ≡ v.seen ++ s.effects = only_these w.seen v.seen s.places s.effects s.begins s.stand all in
    let runs : Runs Q s.effects = runs_rest (start cap 0) v.seen s.effects (subst (IsHistory cap) seen s.legal) in
    let last : after_from Q s.effects ≡ after cap w.seen = sym (after_rest (start cap 0) v.seen s.effects) ∙ ap (after cap) (sym seen) in
    let right : s.effects ≡ [] → Allows c r Q = λ none. (
    let b = s.right none in
    let still : w.seen ≡ v.seen = seen ∙ (ap (λ (l : List (Effect T)). v.seen ++ l) none ∙ append-nil v.seen) in
    let here : b.0 ≡ v.seen = between_one v.seen b.0 w.seen b.1 (omega (arith, prefix_long b.0 w.seen b.2, ap length still)) in
    subst (λ (l : List (Effect T)). Allows c r (after cap l)) here b.3
    ) in
    let told = does_row Q Q.accepted (inr refl) c r s.effects s.tells runs right (λ old v'. was_open cap v.seen w.seen s.places s.effects s.stand all s.displaces (effect.Front old v') effect.Arrive) in
    record {
      effects = s.effects;
      tells = s.tells;
      seen = seen;
      table = ⊎_elim (λ (l : Does Q Q.accepted (inr refl) c r s.effects). inl (l.0, subst (IsShown (sequential_state Q c)) last l.1))
          (λ (l : LacksMemory Q c r × (s.effects ≡ [])). inr (sym (cap_after_from (start cap 0) v.seen) ∙ lacks_none Q c r l.0, l.0, l.1)) told;
    }
