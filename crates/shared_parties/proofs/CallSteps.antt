-- A step of a call keeps what is so of all calls, and tells its seat where the call stands then or how it ended: the laws of its kind say so, wherever it stands.
use Rattle.std.proofs.Common.{◌≡◌, ◌≢◌, ℕ, zero, suc, ◌<◌, ◌||◌, not, inl, inr, true, false, List, [], ◌∷◌, ◌++◌, map, length, set, Option, Some, None, refl, ap, sym, ◌∙◌, subst, ⊎_elim, arith}
use Rattle.std.proofs.lemmas.List.{append-nil}
use mathlib.Core.{Option.some, Option.some-injective, Option.some-ne-none, List.IsPrefix, Logic.dite}
use lib.{ListN.get_elem?, Seq.map-set}
use native.Mathlib.Decide.{ℕ_discrete}
use Rattle.atomic_table.proofs.Lists.{at_set, at_map, set_else}
use Rattle.queue_laws.specs.Common.{Vocabulary.Call, Vocabulary.Effect, Vocabulary.Op, Vocabulary.Touch, Vocabulary.Local, Vocabulary.Next, Effects.Leads, Effects.with_effect, Effects.MayFront, Stand.stand}
use Rattle.queue_steps.specs.{State.State, State.start, Effect.Fits, Effect.IsHistory, Effect.made, Effect.after, Kinds.call_value, Shares.Share, Shares.IsEntire, Parties.IsWhole}
use Rattle.queue_laws.proofs.Common.Runs.{after_snoc, runs_snoc}
use Rattle.shared_parties.specs.{declared.known.Known.Known, declared.known.InCall.InCall, declared.known.Work.Work, declared.known.CallState.CallState, Calling.CallsOf, Calling.CallLaws, Calling.cap_of, Calling.Standing, Calling.NextOk, Calling.first_of, Calling.Opens}
use Rattle.shared_parties.specs.{Known.party, Known.view_of, Known.Kept, CallsAt.CallsAt, CallsAt.IsFirst, CallsAt.Ready, CallsAt.Told, CallStates.is_busy, CallStates.idle, CallStates.known_by, CallStates.IsResting}
use Rattle.shared_parties.proofs.{Histories.prefix_self, Keeping.looks, Keeping.gains, Alone.alone, Callings.grown, Callings.others_stay, Owns.known_after, Owns.call_after, Owns.with_place, Owns.knows_after, Owns.own_stands, Owns.own_ends}

pub set_at : {A : Type 0} (l : List A) (i : ℕ) (a b : A) → get_elem? l i ≡ some a → get_elem? (set l i b) i ≡ some b
set_at [] i a b e = absurd (some-ne-none a (sym e))
set_at (x ∷ xs) zero a b e = refl
set_at (x ∷ xs) (suc i) a b e = set_at xs i a b e

module _ {T : Type 0} where
  abbrev FitsAt : Option (Effect T) → State T → Type 0
  FitsAt None Q = Unit {0}
  FitsAt (Some e) Q = Fits e Q

  -- the step's effect is the history's next
  makes_history : (cap : Option ℕ) (q r : State T) (h : List (Effect T)) (e : Option (Effect T)) → q ≡ after cap h → Leads q e r
      → (r ≡ after cap (grown h e)) × FitsAt e (after cap h) × (e ≡ Some Effect.Arrive → r.coming ≡ None)
  makes_history cap q r h None state same = (same ∙ state, tt, λ e. absurd (let f : None ≡ Some Effect.Arrive = e in cc))
  makes_history cap q r h (Some x) state m = (
    m.1 ∙ (ap (made x) state ∙ sym (after_snoc (start cap 0) h x)),
    subst (Fits x) state m.0,
    λ e. let is : x ≡ Effect.Arrive = cc in ap (λ z. z.coming) m.1 ∙ ap (λ z. (made z q).coming) is,
  )

  legal_after : (cap : Option ℕ) (h : List (Effect T)) (e : Option (Effect T)) → IsHistory cap h → FitsAt e (after cap h) → IsHistory cap (grown h e)
  legal_after cap h None legal can = legal
  legal_after cap h (Some e) legal can = runs_snoc (start cap 0) h e legal can

  kept_after : (cap : Option ℕ) (h : List (Effect T)) (e : Option (Effect T)) (n : ℕ) (ks : List (Known T)) (id : ℕ) (k : Known T) → Kept cap h n ks → get_elem? ks id ≡ some k → 0 < k.parties
      → FitsAt e (after cap h) → Kept cap (grown h e) n (set ks id (known_after h e k))
  kept_after cap h None n ks id k kept at counts can = (looks T cap h n ks id k kept at counts).0
  kept_after cap h (Some e) n ks id k kept at counts can = (gains T cap h n ks id k e kept at counts can).0

  call_in : InCall T → Work T → InCall T
  call_in c Work.Nothing = c
  call_in c (Work.Calls d) = d

  rests_as : (cap : Option ℕ) (seen : List (Effect T)) (mine : List ℕ) (share : Share) (d : CallState T) → d ≡ idle (party cap seen mine share) → IsResting d
  rests_as cap seen mine share d is = is ∙ sym (ap (λ (z : CallState T). idle (party z.known.cap z.known.seen z.known.mine z.known.share)) is)

module _ {T : Type 0} (K : CallsOf T) (laws : CallLaws K) where
  abbrev cap : Option ℕ
  cap = cap_of K

  -- what a step leaves of its own seat
  record OwnAfter (g : K.Cells) (h : List (Effect T)) (who : ℕ) (k : Known T) (c : InCall T) (v : Option T) (n : Next ℕ) (xs : List (ℕ × Option T)) : Type 0 where
    pub does : Work T
    pub calls : (d : InCall T) → does ≡ Work.Calls d → Standing K g h who k d
    pub free : is_busy does ≡ false → K.Idle g who
    pub tells : Told K c v xs n (record { known = k; work = does })

  own_after : (r s : K.Cells) (h : List (Effect T)) (e : Option (Effect T)) (who : ℕ) (k : Known T) (c : InCall T) (n : Next ℕ) (v : Option T) (xs : List (ℕ × Option T))
      → IsPrefix k.seen h → (IsEntire (known_after h e k).share → IsWhole (view_of (known_after h e k))) → IsHistory cap (grown h e) → K.queue_of s ≡ after cap (grown h e)
      → (st : Standing K r h who k c) → MayFront e st.was → K.Lent s who xs
      → NextOk K s who (K.queue_of s ∷ st.ms) (st.was || not (K.queue_of s).closed) n v c.call (with_effect c.effects e) → OwnAfter s (grown h e) who (known_after h e k) c v n xs
  unfolding call_in
  own_after r s h e who k c (Next.Step l t o) v xs seen owns legal state st may lent goes =
      let d = call_after c h e l t o v xs in
      let stands = own_stands K r s h e who k c seen state st may l t o v xs lent goes in record {
        does = Work.Calls d;
        calls = λ d' is. subst (Standing K s (grown h e) who (known_after h e k)) (ap (call_in d) is) stands;
        free = λ no. absurd (let f : true ≡ false = no in cc);
        tells = (d, refl, refl, refl, refl, refl, refl, refl, refl);
      }
  own_after r s h e who k c (Next.Reply x spare) v xs seen owns legal state st may lent goes =
      let y = goes.2 in
      let knows = knows_after cap h e k c.before c.places c.share st.knows in record {
        does = Work.Nothing;
        calls = λ d is. absurd (let f : Work.Nothing ≡ Work.Calls d = is in cc);
        free = λ no. goes.0;
        tells = (
          goes.1,
          laws.idle_none s who xs goes.0 lent,
          (
            y.0,
            y.1,
            rests_as cap (grown h e) (c.before ++ with_place c.places e (length h)) c.share (idle (known_after h e k)) (ap idle knows),
            ap (λ (z : Known T). z.cap) knows,
            owns,
            own_ends K r s h e who k c seen state st may y.0 legal y.2 y.3,
          ),
        );
      }

  -- the first step of a call stands too
  first_here : (May : Op ℕ → Type 0) (g : K.Cells) (j : ℕ) (c : Call T) (n : Next ℕ) (l : Local ℕ) (t : Touch) (o : Op ℕ) → K.Idle g j → Opens K May c n → n ≡ Next.Step l t o
      → K.At g j [] false (stand l t o (call_value c) c [])
  first_here May g j c n l t o none opens step = (subst (Opens K May c) step opens).2 g j none

  first_stands : (May : Op ℕ → Type 0) (g : K.Cells) (h : List (Effect T)) (id : ℕ) (d : CallState T) (c : InCall T) → Opens K May c.call (first_of K.kind c.call) → K.Idle g id → IsFirst K d c → Standing K g h id d.known c
  first_stands May g h id d c opens none first = subst (Standing K g h id d.known) (sym same) (record {
    ms = [];
    was = false;
    here = first_here May g id c.call (first_of K.kind c.call) c.local c.touch c.op none opens first.step;
    lent = laws.idle_lent g id none;
    moments = tt;
    opened = λ e. absurd (let f : false ≡ true = e in cc);
    waits = tt;
    stand = tt;
    since = prefix_self d.known.seen;
    knows = ap (λ z. z.known) first.rests ∙ ap (λ (z : List ℕ). party cap d.known.seen z d.known.share) (sym (append-nil d.known.mine));
  })
    where
      same : c ≡ record { call = c.call; local = c.local; touch = c.touch; op = c.op; carried = call_value c.call; effects = []; places = []; since = d.known.seen; before = d.known.mine; share = d.known.share; lends = [] }
      same = λ i. record { call = c.call; local = c.local; touch = c.touch; op = c.op; carried = first.carried i; effects = first.effects i; places = first.places i; since = first.since i; before = first.before i; share = first.share i; lends = first.lends i }

  -- wherever a seat is ready, its call stands
  pub stands_at : (May : Op ℕ → Type 0) (g : K.Cells) (h : List (Effect T)) (n : ℕ) (views : List (CallState T)) (all : CallsAt K g h n views) (id : ℕ) (d : CallState T) (c : InCall T) → Opens K May c.call (first_of K.kind c.call)
      → get_elem? views id ≡ some d → Ready K d c → Standing K g h id d.known c
  stands_at May g h n views all id d c opens at (inl is) = all.calls id d c at is
  stands_at May g h n views all id d c opens at (inr first) =
      first_stands May g h id d c opens (all.free id (λ u there. ap (λ (z : CallState T). is_busy z.work) (some-injective u d (sym there ∙ at) ∙ first.rests))) first

  -- what a step leaves: the seat's new view, and all calls at the cells after it
  pub record Stepping (s : K.Cells) (h : List (Effect T)) (n : ℕ) (views : List (CallState T)) (id : ℕ) (c : InCall T) (v : Option T) (xs : List (ℕ × Option T)) (todo : Next ℕ) : Type 0 where
    pub view : CallState T
    pub all : CallsAt K s h n (set views id view)
    pub tells : Told K c v xs todo view

  module _ (g s : K.Cells) (h : List (Effect T)) (n : ℕ) (views : List (CallState T)) (id : ℕ) (u : CallState T) (c : InCall T) (e : Option (Effect T)) where
    -- the step of the seat id, whose call c stands, from the cells g to the cells s, with the effect e: it is then at `todo`, carries v and has the slots xs
    pub call_step : (v : Option T) (xs : List (ℕ × Option T)) (todo : Next ℕ)
        → CallsAt K g h n views → get_elem? views id ≡ some u → (st : Standing K g h id u.known c) → K.Ok s → Leads (K.queue_of g) e (K.queue_of s) → K.Passes id g s → MayFront e st.was → K.Lent s id xs
        → NextOk K s id (K.queue_of s ∷ st.ms) (st.was || not (K.queue_of s).closed) todo v c.call (with_effect c.effects e) → Stepping s (grown h e) n views id c v xs todo
    call_step v xs todo all at st ok leads passes front lent goes = record {
      view = w;
      all = record {
        ok = ok;
        state = made_is.0;
        calls = calls;
        free = free;
        kept = subst (Kept cap (grown h e) n) (sym (map-set known_by views id w)) kept;
      };
      tells = own.tells;
    }
      where
        made_is : (K.queue_of s ≡ after cap (grown h e)) × FitsAt e (after cap h) × (e ≡ Some Effect.Arrive → (K.queue_of s).coming ≡ None)
        made_is = makes_history cap (K.queue_of g) (K.queue_of s) h e all.state leads

        seen : IsPrefix u.known.seen h
        seen = (all.kept.true_of id u.known (at_map known_by views id u at)).begins

        counts : 0 < u.known.parties
        counts = let one : u.known.parties ≡ 1 = ap (λ (k : Known T). k.parties) st.knows in omega arith

        kept : Kept cap (grown h e) n (set (map known_by views) id (known_after h e u.known))
        kept = kept_after cap h e n (map known_by views) id u.known all.kept (at_map known_by views id u at) counts made_is.1

        owns : IsEntire (known_after h e u.known).share → IsWhole (view_of (known_after h e u.known))
        owns entire = (alone cap cap (grown h e) (grown h e) n (set (map known_by views) id (known_after h e u.known)) id (known_after h e u.known) (c.before ++ with_place c.places e (length h)) c.share kept
            (set_at (map known_by views) id u.known (known_after h e u.known) (at_map known_by views id u at)) (knows_after cap h e u.known c.before c.places c.share st.knows) entire).whole

        own : OwnAfter s (grown h e) id (known_after h e u.known) c v todo xs
        own = own_after g s h e id u.known c todo v xs seen owns (legal_after cap h e all.kept.legal made_is.1) made_is.0 st front lent goes

        w : CallState T
        w = record { known = known_after h e u.known; work = own.does }

        other : (j : ℕ) (d : CallState T) → j ≢ id → get_elem? views j ≡ some d → IsPrefix d.known.seen h
        other j d ne there = (all.kept.true_of j d.known (at_map known_by views j d there)).begins

        calls : (j : ℕ) (d : CallState T) (b : InCall T) → get_elem? (set views id w) j ≡ some d → d.work ≡ Work.Calls b → Standing K s (grown h e) j d.known b
        calls j d b there is = ⊎_elim
            (λ (t : (j ≡ id) × (w ≡ d)). subst (λ (z : ℕ × Known T). Standing K s (grown h e) z.0 z.1 b) (λ k. (sym t.0 k, (t.1 k).known)) (own.calls b (ap (λ (z : CallState T). z.work) t.1 ∙ is)))
            (λ (t : (j ≢ id) × (get_elem? views j ≡ some d)).
            others_stay K laws g s h e id j d.known b all.ok ok t.0 passes made_is.0 made_is.2 (other j d t.0 t.1) (all.calls j d b t.1 is))
            (at_set views id j w d there)

        free : (j : ℕ) → ((d : CallState T) → get_elem? (set views id w) j ≡ some d → is_busy d.work ≡ false) → K.Idle s j
        free j none = dite (ℕ_discrete j id)
            (λ same. subst (λ k. K.Idle s k) (sym same) (own.free (none w (ap (get_elem? (set views id w)) same ∙ set_at views id u w at))))
            (λ ne. laws.idle_stays g s id j ne passes (all.free j (λ d there. none d (set_else views id j w ne ∙ there))))
