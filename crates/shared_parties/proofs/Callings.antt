-- What is so of a call in progress stays so at the steps of others, as the history grows.
use Rattle.std.proofs.Common.{◌≡◌, ◌≢◌, ℕ, zero, suc, ◌+◌, ◌<◌, ◌≤◌, Bool, List, [], ◌∷◌, ◌++◌, length, Option, Some, None, ap, sym, ◌∙◌, ⊎_elim, arith, length-append}
use mathlib.Core.{Option.some, List.IsPrefix}
use lib.ListN.{get_elem?}
use Rattle.atomic_table.proofs.Lists.{at_longer, at_snoc}
use Rattle.queue_laws.specs.Common.{Vocabulary.Effect, Moments.seen_by, Effects.IsBetween}
use Rattle.queue_steps.{specs.State.State, specs.Effect.after, specs.Parties.StandAt, proofs.Places.below_at}
use Rattle.shared_parties.specs.declared.known.{Known.Known, InCall.InCall}
use Rattle.shared_parties.proofs.Histories.{prefix_self, prefix_trans, prefix_more}
use Rattle.shared_parties.specs.Calling.{CallsOf, CallLaws, cap_of, IsMoment, AreMoments, WasOpen, Opened, Waits, stand_of, Standing}

-- the history with what a step adds to it
abbrev pub grown : {T : Type 0} → List (Effect T) → Option (Effect T) → List (Effect T)
grown h None = h
grown h (Some e) = h ++ e ∷ []

module _ {T : Type 0} where
  pub grown_more : (u h : List (Effect T)) (e : Option (Effect T)) → IsPrefix u h → IsPrefix u (grown h e)
  grown_more u h None p = p
  grown_more u h (Some e) p = prefix_more u h (e ∷ []) p

  pub grown_long : (h : List (Effect T)) (e : Option (Effect T)) → length h ≤ length (grown h e)
  grown_long h None = omega arith
  grown_long h (Some e) = omega (arith, length-append h (e ∷ []))

  pub moments_later : (cap : Option ℕ) (s h g : List (Effect T)) (ms : List (State T)) → IsPrefix h g → AreMoments cap s h ms → AreMoments cap s g ms
  moments_later cap s h g [] p all = tt
  moments_later cap s h g (m ∷ ms) p all = let a = all.0 in ((a.0, a.1, prefix_trans a.0 h g a.2 p, a.3), moments_later cap s h g ms p all.1)

  pub moment_now : (cap : Option ℕ) (s h : List (Effect T)) (q : State T) → IsPrefix s h → q ≡ after cap h → IsMoment cap s h q
  moment_now cap s h q p e = (h, p, prefix_self h, e)

  pub moments_seen : (cap : Option ℕ) (s h : List (Effect T)) (q : State T) (ms : List (State T)) → IsPrefix s h → q ≡ after cap h → AreMoments cap s h ms → AreMoments cap s h (seen_by q ms)
  moments_seen cap s h q [] p e all = tt
  moments_seen cap s h q (m ∷ ms) p e all = (moment_now cap s h q p e, all)

  -- a place that lies in the shorter history
  pub shorter : (h : List (Effect T)) (e x : Effect T) (k : ℕ) → k < length h → get_elem? (h ++ e ∷ []) k ≡ some x → get_elem? h k ≡ some x
  shorter [] e x k lt is = absurd (omega arith)
  shorter (y ∷ h) e x zero lt is = is
  shorter (y ∷ h) e x (suc k) lt is = shorter h e x k (omega arith) is

  pub stand_later : (h : List (Effect T)) (e : Option (Effect T)) (n : ℕ) (ps : List ℕ) (es : List (Effect T)) → StandAt h n ps es → StandAt (grown h e) n ps es
  stand_later h None n ps es s = s
  stand_later h (Some e) n [] [] s = tt
  stand_later h (Some e) n (p ∷ ps) (x ∷ es) s = (s.0, at_longer h (e ∷ []) p x s.1, stand_later h (Some e) (p + 1) ps es s.2)
  stand_later h (Some e) n ps es s = absurd s

  pub open_later : (cap : Option ℕ) (s h : List (Effect T)) (e : Option (Effect T)) (m n : ℕ) → m ≤ n → WasOpen cap s h m → WasOpen cap s (grown h e) n
  open_later cap s h e m n le w = (w.0, w.1, grown_more w.0 h e w.2, (let a = w.3 in omega arith), w.4)

  pub opened_later : (cap : Option ℕ) (s h : List (Effect T)) (e : Option (Effect T)) (was : Bool) (es : List (Effect T)) (ps : List ℕ) → Opened cap s h was es ps → Opened cap s (grown h e) was es ps
  opened_later cap s h e was [] ps o = λ w. open_later cap s h e (length h) (length (grown h e)) (grown_long h e) (o w)
  opened_later cap s h e was (Effect.Front old v ∷ es) (p ∷ ps) o = open_later cap s h e p p (omega arith) o
  opened_later cap s h e was (x ∷ es) ps o = tt

  pub waits_later : (h : List (Effect T)) (e : Option (Effect T)) (n : ℕ) (es : List (Effect T)) (ps : List ℕ) → (IsBetween es → ¬ (e ≡ Some Effect.Arrive)) → StandAt h n ps es → Waits h es ps → Waits (grown h e) es ps
  waits_later h None n es ps other stand w = w
  waits_later h (Some e) n (Effect.Front old v ∷ []) (p ∷ []) other stand w =
      λ k lt is. ⊎_elim (λ (t : get_elem? h k ≡ some Effect.Arrive). w k lt t) (λ (t : e ≡ Effect.Arrive). other tt (ap Some t)) (at_snoc h e Effect.Arrive k is)
  waits_later h (Some e) n (Effect.Front old v ∷ x ∷ es) (p ∷ q ∷ ps) other stand w =
      λ k lt low is. w k lt low (shorter h e Effect.Arrive k (let b = below_at h q x stand.2.1 in omega arith) is)
  waits_later h (Some e) n (Effect.Front old v ∷ es) [] other stand w = absurd stand
  waits_later h (Some e) n (Effect.Front old v ∷ es) (p ∷ x) other stand w = absurd stand.2
  waits_later h (Some e) n es ps other stand w = tt

-- the call of another party stands where it stood, by the laws of its kind
pub others_stay : {T : Type 0} (K : CallsOf T) (laws : CallLaws K) (g s : K.Cells) (h : List (Effect T)) (e : Option (Effect T)) (who j : ℕ) (k : Known T) (c : InCall T)
    → K.Ok g → K.Ok s → j ≢ who → K.Passes who g s → K.queue_of s ≡ after (cap_of K) (grown h e) → (e ≡ Some Effect.Arrive → (K.queue_of s).coming ≡ None)
    → IsPrefix k.seen h → Standing K g h j k c → Standing K s (grown h e) j k c
others_stay {T} K laws g s h e who j k c ok ok' ne pass state gone seen st = record {
  ms = seen_by (K.queue_of s) st.ms;
  was = st.was;
  here = now;
  lent = laws.lent_stays g s who j c.lends ne pass st.lent;
  moments = moments_seen (cap_of K) c.since (grown h e) (K.queue_of s) st.ms (grown_more c.since h e from) state (moments_later (cap_of K) c.since h (grown h e) st.ms (grown_more h h e (prefix_self h)) st.moments);
  opened = opened_later (cap_of K) c.since h e st.was c.effects c.places st.opened;
  waits = waits_later h e (length c.since) c.effects c.places
      (λ b is. let x = laws.coming s j (seen_by (K.queue_of s) st.ms) st.was (stand_of c) ok' now b in (let f : None ≡ Some x.0 = sym (gone is) ∙ x.1 in cc)) st.stand st.waits;
  stand = stand_later h e (length c.since) c.places c.effects st.stand;
  since = st.since;
  knows = st.knows;
}
  where
    now : K.At s j (seen_by (K.queue_of s) st.ms) st.was (stand_of c)
    now = laws.at_stays g s who j st.ms st.was (stand_of c) ok ok' ne pass st.here

    from : IsPrefix c.since h
    from = prefix_trans c.since k.seen h st.since seen
