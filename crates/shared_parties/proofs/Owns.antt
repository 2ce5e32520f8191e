-- A call after a step of its own: where it stands then, or that it ends as a shared call.
use Rattle.std.proofs.Common.{◌≡◌, ℕ, ◌+◌, ◌≤◌, ◌||◌, not, inl, inr, Bool, true, List, [], ◌∷◌, ◌++◌, length, Option, Some, None, refl, ap, sym, ◌∙◌, subst, ⊎_elim, arith, length-append, append_assoc}
use mathlib.Core.List.{IsPrefix}
use Rattle.atomic_table.proofs.Lists.{at_longer, at_last}
use Rattle.queue_laws.specs.Common.{Vocabulary.Call, Vocabulary.Reply, Vocabulary.Effect, Vocabulary.Op, Vocabulary.Touch, Vocabulary.Local, Moments.SeenIn, Effects.with_effect, Effects.MayFront, Stand.stand}
use Rattle.queue_steps.specs.{State.State, Effect.IsHistory, Effect.after, Replies.Allows, Replies.Tells, Shares.Share, Parties.View, Parties.StandAt, Parties.Between, Parties.Displaces, Parties.SharedCall}
use Rattle.queue_laws.proofs.Common.{Tests.or_true, Tests.not_true, TellsAs.TellsAs, TellsAs.displace, TellsAs.tells_as}
use Rattle.shared_parties.specs.{declared.known.Known.Known, declared.known.InCall.InCall, Known.party, Known.looked, Known.gained, Known.view_of, Calling.CallsOf, Calling.cap_of, Calling.AreMoments, Calling.Opened, Calling.Waits, Calling.Standing}
use Rattle.queue_steps.proofs.Places.{below_at}
use Rattle.shared_parties.proofs.{Histories.prefix_self, Histories.prefix_trans, Histories.prefix_length, Callings.grown, Callings.grown_more, Callings.moments_later, Callings.moment_now, Callings.open_later, Callings.shorter}

-- what a party knows after a step of its own at the history h
abbrev pub known_after : {T : Type 0} → List (Effect T) → Option (Effect T) → Known T → Known T
known_after h None k = looked h k
known_after h (Some e) k = gained h e k

abbrev pub with_place : {T : Type 0} → List ℕ → Option (Effect T) → ℕ → List ℕ
with_place ps None n = ps
with_place ps (Some e) n = ps ++ n ∷ []

-- the call waits for this step, and carries v
abbrev pub call_after : {T : Type 0} → InCall T → List (Effect T) → Option (Effect T) → Local ℕ → Touch → Op ℕ → Option T → List (ℕ × Option T) → InCall T
call_after c h e l t o v lends = record {
  call = c.call;
  local = l;
  touch = t;
  op = o;
  carried = v;
  effects = with_effect c.effects e;
  places = with_place c.places e (length h);
  since = c.since;
  before = c.before;
  share = c.share;
  lends = lends;
}

-- what the party of a call had seen and done when it began
abbrev pub view_before : {T : Type 0} → InCall T → View T
view_before c = record { seen = c.since; mine = c.before; share = c.share }

module _ {T : Type 0} where
  pub knows_after : (cap : Option ℕ) (h : List (Effect T)) (e : Option (Effect T)) (k : Known T) (before ps : List ℕ) (share : Share) → k ≡ party cap k.seen (before ++ ps) share
      → known_after h e k ≡ party cap (grown h e) (before ++ with_place ps e (length h)) share
  knows_after cap h None k before ps share is = ap (looked h) is
  knows_after cap h (Some e) k before ps share is = ap (gained h e) is ∙ ap (λ (z : List ℕ). party cap (h ++ e ∷ []) z share) (append_assoc before ps (length h ∷ []))

  stand_snoc : (h : List (Effect T)) (e : Effect T) (n : ℕ) (ps : List ℕ) (es : List (Effect T)) → n ≤ length h → StandAt h n ps es → StandAt (h ++ e ∷ []) n (ps ++ length h ∷ []) (es ++ e ∷ [])
  stand_snoc h e n [] [] le s = (le, at_last h e (length h) refl, tt)
  stand_snoc h e n (p ∷ ps) (x ∷ es) le s = (s.0, at_longer h (e ∷ []) p x s.1, stand_snoc h e (p + 1) ps es (let b = below_at h p x s.1 in omega arith) s.2)
  stand_snoc h e n ps es le s = absurd s

  pub stand_after : (h : List (Effect T)) (e : Option (Effect T)) (n : ℕ) (ps : List ℕ) (es : List (Effect T)) → n ≤ length h → StandAt h n ps es → StandAt (grown h e) n (with_place ps e (length h)) (with_effect es e)
  stand_after h None n ps es le s = s
  stand_after h (Some e) n ps es le s = stand_snoc h e n ps es le s

  pub opened_after : (cap : Option ℕ) (s h : List (Effect T)) (e : Option (Effect T)) (was closed : Bool) (n : ℕ) (es : List (Effect T)) (ps : List ℕ) → IsPrefix s h → (after cap (grown h e)).closed ≡ closed → MayFront e was
      → StandAt h n ps es → Opened cap s h was es ps → Opened cap s (grown h e) (was || not closed) (with_effect es e) (with_place ps e (length h))
  opened_after cap s h None was closed n [] ps from is may stand o =
      λ now. ⊎_elim (λ (w : was ≡ true). o w) (λ (w : not closed ≡ true). (h, from, prefix_self h, omega arith, is ∙ not_true closed w)) (or_true was (not closed) now)
  opened_after cap s h (Some (Effect.Front old v)) was closed n [] [] from is may stand o = open_later cap s h (Some (Effect.Front old v)) (length h) (length h) (omega arith) (o may)
  opened_after cap s h (Some (Effect.Front old v)) was closed n [] (p ∷ ps) from is may stand o = absurd stand
  opened_after cap s h None was closed n (Effect.Front old v ∷ es) (p ∷ ps) from is may stand o = o
  opened_after cap s h (Some e) was closed n (Effect.Front old v ∷ es) (p ∷ ps) from is may stand o = open_later cap s h (Some e) p p (omega arith) o
  opened_after cap s h e was closed n (Effect.Front old v ∷ es) [] from is may stand o = absurd stand
  opened_after cap s h e was closed n es ps from is may stand o = tt

  pub waits_after : (h : List (Effect T)) (e : Option (Effect T)) (n : ℕ) (es : List (Effect T)) (ps : List ℕ) → StandAt h n ps es → Waits h es ps → Waits (grown h e) (with_effect es e) (with_place ps e (length h))
  waits_after h None n es ps stand w = w
  waits_after h (Some (Effect.Front old v)) n [] [] stand w =
      λ k lt is. let b = below_at (h ++ Effect.Front old v ∷ []) k Effect.Arrive is in let l = length-append h (Effect.Front old v ∷ []) in absurd (omega arith)
  waits_after h (Some e) n [] (p ∷ ps) stand w = absurd stand
  waits_after h (Some e) n (x ∷ es) [] stand w = absurd stand
  waits_after h (Some e) n (Effect.Front old v ∷ []) (p ∷ []) stand w = λ k lt low is. w k lt (shorter h e Effect.Arrive k low is)
  waits_after h (Some e) n (Effect.Front old v ∷ x ∷ es) (p ∷ q ∷ ps) stand w =
      λ k lt low is. w k lt low (shorter h e Effect.Arrive k (let b = below_at h q x stand.2.1 in omega arith) is)
  waits_after h (Some e) n (Effect.Front old v ∷ []) (p ∷ q ∷ ps) stand w = absurd stand.2
  waits_after h (Some e) n (Effect.Front old v ∷ x ∷ es) (p ∷ []) stand w = absurd stand.2
  waits_after h (Some e) n es ps stand w = tt

  -- what was right at some moment was right between
  pub between : (cap : Option ℕ) (s h : List (Effect T)) (ms : List (State T)) (c : Call T) (r : Reply T) → AreMoments cap s h ms → SeenIn ms (Allows c r)
      → Between cap s h (Allows c r)
  between cap s h [] c r all seen = absurd seen
  between cap s h (m ∷ ms) c r all (inl right) = let a = all.0 in (a.0, a.1, a.2, subst (Allows c r) a.3 right)
  between cap s h (m ∷ ms) c r all (inr seen) = between cap s h ms c r all.1 seen

  abbrev pub IsFront : Effect T → Type 0
  IsFront (Effect.Front old v) = Unit {0}
  IsFront _ = ⊥

  -- of two effects of a call the first is a front
  two_effects : {c : Call T} {r : Reply T} {a b : Effect T} {es : List (Effect T)} → TellsAs c r (a ∷ b ∷ es) → IsFront a
  two_effects (displace old v asked told) = tt

  pub displaces : (cap : Option ℕ) (s t : List (Effect T)) (was : Bool) (n : ℕ) (c : Call T) (r : Reply T) (es : List (Effect T)) (ps : List ℕ) → Tells c r es → StandAt t n ps es → Opened cap s t was es ps → Waits t es ps → Displaces cap s t ps
  displaces cap s t was n c r (Effect.Front old v ∷ x ∷ es) (p ∷ q ∷ ps) tells stand o w = (o, w)
  displaces cap s t was n c r (e ∷ x ∷ es) (p ∷ q ∷ ps) tells stand o w = absurd (two_effects (tells_as c r (e ∷ x ∷ es) tells))
  displaces cap s t was n c r (x ∷ []) (p ∷ q ∷ ps) tells stand o w = absurd stand.2
  displaces cap s t was n c r [] (p ∷ q ∷ ps) tells stand o w = absurd stand
  displaces cap s t was n c r es ps tells stand o w = tt

-- a step of its own of the call c, with the effect e, leads from the cells r to the cells s
module _ {T : Type 0} (K : CallsOf T) (r s : K.Cells) (h : List (Effect T)) (e : Option (Effect T)) (who : ℕ) (k : Known T) (c : InCall T) (seen : IsPrefix k.seen h) (state : K.queue_of s ≡ after (cap_of K) (grown h e)) (st : Standing K r h who k c) (may : MayFront e st.was) where
  from : IsPrefix c.since h
  from = prefix_trans c.since k.seen h st.since seen

  knows : known_after h e k ≡ party (cap_of K) (grown h e) (c.before ++ with_place c.places e (length h)) c.share
  knows = knows_after (cap_of K) h e k c.before c.places c.share st.knows

  -- a call that goes on stands then where the laws of its kind have it
  pub own_stands : (l : Local ℕ) (t : Touch) (o : Op ℕ) (v : Option T) (lends : List (ℕ × Option T))
      → K.Lent s who lends → K.At s who (K.queue_of s ∷ st.ms) (st.was || not (K.queue_of s).closed) (stand l t o v c.call (with_effect c.effects e))
      → Standing K s (grown h e) who (known_after h e k) (call_after c h e l t o v lends)
  own_stands l t o v lends lent goes = record {
    ms = K.queue_of s ∷ st.ms;
    was = st.was || not (K.queue_of s).closed;
    here = goes;
    lent = lent;
    moments = (moment_now (cap_of K) c.since (grown h e) (K.queue_of s) (grown_more c.since h e from) state, moments_later (cap_of K) c.since h (grown h e) st.ms (grown_more h h e (prefix_self h)) st.moments);
    opened = opened_after (cap_of K) c.since h e st.was (K.queue_of s).closed (length c.since) c.effects c.places from (ap (λ q. q.closed) (sym state)) may st.stand st.opened;
    waits = waits_after h e (length c.since) c.effects c.places st.stand st.waits;
    stand = stand_after h e (length c.since) c.places c.effects (prefix_length c.since h from) st.stand;
    since = subst (IsPrefix c.since) (sym (ap (λ z. z.seen) knows)) (grown_more c.since h e from);
    knows = knows ∙ ap (λ (g : List (Effect T)). party (cap_of K) g (c.before ++ with_place c.places e (length h)) c.share) (sym (ap (λ z. z.seen) knows));
  }

  -- and one that ends is a shared call
  pub own_ends : (y : Reply T) → IsHistory (cap_of K) (grown h e) → Tells c.call y (with_effect c.effects e) → (with_effect c.effects e ≡ [] → SeenIn (K.queue_of s ∷ st.ms) (Allows c.call y))
      → SharedCall (cap_of K) (view_before c) (view_of (known_after h e k)) c.call y
  own_ends y legal tells right = subst (λ (z : Known T). SharedCall (cap_of K) (view_before c) (view_of z) c.call y) (sym knows) made
    where
      stand : StandAt (grown h e) (length c.since) (with_place c.places e (length h)) (with_effect c.effects e)
      stand = stand_after h e (length c.since) c.places c.effects (prefix_length c.since h from) st.stand

      made : SharedCall (cap_of K) (view_before c) (view_of (party (cap_of K) (grown h e) (c.before ++ with_place c.places e (length h)) c.share)) c.call y
      made = record {
        begins = grown_more c.since h e from;
        legal = legal;
        effects = with_effect c.effects e;
        places = with_place c.places e (length h);
        tells = tells;
        stand = stand;
        mine = refl;
        share = refl;
        right = λ none. between (cap_of K) c.since (grown h e) (K.queue_of s ∷ st.ms) c.call y
            (moment_now (cap_of K) c.since (grown h e) (K.queue_of s) (grown_more c.since h e from) state, moments_later (cap_of K) c.since h (grown h e) st.ms (grown_more h h e (prefix_self h)) st.moments) (right none);
        displaces = displaces (cap_of K) c.since (grown h e) (st.was || not (K.queue_of s).closed) (length c.since) c.call y (with_effect c.effects e) (with_place c.places e (length h)) tells stand
            (opened_after (cap_of K) c.since h e st.was (K.queue_of s).closed (length c.since) c.effects c.places from (ap (λ q. q.closed) (sym state)) may st.stand st.opened)
            (waits_after h e (length c.since) c.effects c.places st.stand st.waits);
      }
