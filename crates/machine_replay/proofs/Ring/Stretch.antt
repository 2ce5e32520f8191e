-- A ring: a call that nobody hinders replies by its sixth step.
use Rattle.std.proofs.Common.{ℕ, ◌+◌, ◌%◌, ◌<◌, ◌≤◌, ◌≡◌, ◌≢◌, ◌==◌, ◌||◌, ◌⊎◌, inl, inr, if◌then◌else◌, min, not, ◌∙◌, Bool, true, false, Option, Some, None, List, [], ◌∷◌, length, refl, sym, ap, subst, arith}
use Rattle.std.proofs.{Math.Nat.min-eq_left, Math.Nat.min-eq_right, lemmas.Bool.ne_eqb, lemmas.Bool.Decides.eqb_tells, lemmas.Option.none-some}
use Rattle.queue_steps.specs.{State.State, RingNext.lap_found, RingNext.loads, RingNext.push_stamp_found, Words.IsRing, Words.position_of, Words.is_shut, Words.slot_at, Words.stamp_filled, Words.stamp_free, Words.tail_of, Next.next_of}
use Rattle.machine_replay.specs.Vocabulary.{Call, Effect, Kind, Word, Op, Touch, Local, Next, PushKind, RingLocal, TAIL_STEP, Running}
use Rattle.queue_laws.specs.{Common.Effects.with_effect, Common.Stand.Stand, Ring.RingWords.Codes, Ring.RingWords.stamp_in}
use Rattle.queue_laws.proofs.{Common.Ranks.either_small, Common.Tails.position_tail, Common.Tails.shut_tail, Ring.RingStart.holds_none, Ring.RingStepOk.NextOk, Ring.RingStepOk.IsQuiet, Ring.RingRanks.rank, Ring.RingRanks.rank_some, Ring.RingSlots.nobody, Ring.RingTransitions.in_ring}
use Rattle.queue_laws.proofs.Ring.RingStep.{step_good}
use Rattle.machine_replay.proofs.{Engine.StandOf.running_of, Engine.Plain.plain-step, Ring.Coded.part, Ring.Coded.same_step, Ring.Laws.RingHolds, Ring.Laws.RingIdle, Ring.Laws.RingFits, Progress.Appended.HasAppend}
use Rattle.machine_replay.proofs.Ring.Kind.{ring_rules}
use Rattle.machine_replay.proofs.Progress.{Appended.appends_reply-next, Taken.HasTake, Taken.takes_reply-next, Stretch.Paces, Stretch.unhindered, Stretch.never_waits, Stretch.waits_take_none}
use Rattle.queue_laws.specs.Ring.RingShared as ring
use Rattle.queue_laws.specs.Ring.RingCells.{Cell, Free, Written, Read, Coming, Swapped, Ring, RingOk, CellOk, owner, queue_of}
use Rattle.queue_laws.specs.Ring.RingAt.{At, push_stamp, claiming, filling, push_head, displacing, arriving, swapping, pop_stamp, taking, emptying, pop_tail, count_head, count_again}
use Rattle.machine_replay.specs.{Book.Open, Progress.AppendsReplyWithin, Progress.TakesReplyWithin, Progress.HalfDoneTakesNone, Progress.UnhinderedWithin, Progress.NeverWaits}
use Rattle.machine_memory.specs.SharedMemory.{MemoryState, word_at}
use Rattle.machine_steps.specs.Steps.{step_of, running_after, carried_then, after_operation}

-- a ring with these words
ring_by : (A : Type 0) → ℕ → ℕ → Bool → Ring A
ring_by A head tail closed = record { head = head; tail = tail; closed = closed; items = []; coming = None; cells = λ i. Free i }

-- how many steps a call has before it hangs on the words alone
by_words : {A : Type 0} (cap : ℕ) (r : Ring A) (l : Local ℕ) → rank cap r l ≡ rank cap (ring_by A r.head r.tail r.closed) l
unfolding ring_by
by_words cap r (Local.Ring (RingLocal.PushTail d)) = refl
by_words cap r l = refl

-- by the machine's words
far : {A : Type 0} → ℕ → MemoryState A → Local ℕ → ℕ
far {A} cap s l = rank cap (ring_by A s.head (position_of s.tail) (is_shut s.tail)) l

far_same : {A : Type 0} (cap : ℕ) (s s' : MemoryState A) (l : Local ℕ) → s'.head ≡ s.head → s'.tail ≡ s.tail → far cap s' l ≡ far cap s l
unfolding far
far_same {A} cap s s' l head tail = ap (λ h. rank cap (ring_by A h (position_of s'.tail) (is_shut s'.tail)) l) head ∙ ap (λ t. rank cap (ring_by A s.head (position_of t) (is_shut t)) l) tail

far_is : {A : Type 0} (cap : ℕ) (g : Ring A) (s : MemoryState A) (l : Local ℕ) → Codes cap g (part s) → far cap s l ≡ rank cap g l
unfolding far
far_is {A} cap g s l codes =
    ap (λ h. rank cap (ring_by A h (position_of s.tail) (is_shut s.tail)) l) codes.head
    ∙ (ap (λ t. rank cap (ring_by A g.head (position_of t) (is_shut t)) l) codes.tail
    ∙ (ap (λ t. rank cap (ring_by A g.head t (is_shut (tail_of g.tail g.closed))) l) (position_tail g.tail g.closed)
    ∙ (ap (λ c. rank cap (ring_by A g.head g.tail c) l) (shut_tail g.tail g.closed) ∙ sym (by_words cap g l))))

-- Where nobody has the slot of a position that the tail has passed, its stamp is not that of the lap before.
not_lapped : {A : Type 0} (cap head tail p i : ℕ) (items : List A) (coming : Option A) (c : Cell A) → 0 < cap → tail ≤ head + cap → p < tail → CellOk cap head tail items coming i c → ((who : ℕ) → owner c ≢ Some who) → stamp_in c + cap ≢ p + 1
not_lapped cap head tail p i items coming (Written q who v) some room past ok free e = absurd (free who refl)
not_lapped cap head tail p i items coming (Read q who x) some room past ok free e = absurd (free who refl)
not_lapped cap head tail p i items coming (Coming q who old v) some room past ok free e = absurd (free who refl)
not_lapped cap head tail p i items coming (Swapped q who old v) some room past ok free e = absurd (free who refl)
not_lapped cap head tail p i items coming c some room past ok free e = let low = ok.1 in omega arith

far_some : {A : Type 0} (cap : ℕ) (s : MemoryState A) (l : Local ℕ) → 0 < far cap s l
unfolding far
far_some {A} cap s l = rank_some cap (ring_by A s.head (position_of s.tail) (is_shut s.tail)) l

before_tail : (p tail : ℕ) → p ≤ tail → p ≢ tail → p < tail
before_tail p tail le ne = grind (arith, ne, le)

-- So a push that has read such a stamp claims the position, or begins again: it has five steps before it at most.
after_stamp : {A : Type 0} (cap : ℕ) (s : MemoryState A) (d : PushKind) (t stamp : ℕ) (v : Option A) (x : Running A) → (stamp + cap == stamp_filled (position_of t)) ≡ false
    → running_after (push_stamp_found cap d t stamp) v ≡ Some x → far cap s x.local ≤ 5
unfolding far ring_by
after_stamp {A} cap s d t stamp v x lapped goes =
    elim (stamp == stamp_free (position_of t)) as (λ b. running_after (if b then claims else (if stamp + cap == stamp_filled (position_of t) then lap_found cap d t else loads (RingLocal.PushTail d) Word.Tail)) v ≡ Some x → far cap s x.local ≤ 5) [
      | true ↦ λ e. let same : record { local = Local.Ring (RingLocal.Claiming d t); touch = Touch.Nothing; op = Op.Exchange Word.Tail t (t + TAIL_STEP); carried = v } ≡ x = cc in
          subst (λ y. far cap s y.local ≤ 5) same (either_small (position_of t == position_of s.tail) 2 5 5 (omega arith) (omega arith))
      | false ↦ λ e.
          let at_tail : running_after (loads (RingLocal.PushTail d) Word.Tail) v ≡ Some x = rw lapped at e in
          let same : record { local = Local.Ring (RingLocal.PushTail d); touch = Touch.Nothing; op = Op.Load Word.Tail; carried = v } ≡ x = cc in
          subst (λ y. far cap s y.local ≤ 5) same (omega arith)
    ] goes
  where
    claims : Next ℕ
    claims = Next.Step (Local.Ring (RingLocal.Claiming d t)) Touch.Nothing (Op.Exchange Word.Tail t (t + TAIL_STEP))

-- how many steps a call has before it, but for a stamp that is never found
abbrev near : ℕ → ℕ
near n = min n 6

near_falls : (m n : ℕ) → m < n → n ≤ 6 → near m < near n
near_falls m n lt le = let a : min m 6 ≡ m = min-eq_left (omega arith) in let b : min n 6 ≡ n = min-eq_left le in omega (arith, lt, a, b)

stale_falls : (m n : ℕ) → m ≤ 5 → 6 ≤ n → near m < near n
stale_falls m n le high = let a : min m 6 ≡ m = min-eq_left (omega arith) in let b : min n 6 ≡ 6 = min-eq_right high in omega (arith, le, a, b)

module _ {A : Type 0} (cap : ℕ) (r s : Ring A) (who : ℕ) (ms : List (State A)) (was : Bool) where
  -- a call that goes on has fewer steps before it
  goes_on : (n : Next ℕ) (v : Option A) (k : Call A) (es : List (Effect A)) (m : ℕ) (x : Running A)
      → running_after n v ≡ Some x → NextOk cap r s who ms was n v k es m → IsQuiet r who → rank cap s x.local < m
  goes_on (Next.Step l t o) v k es m x e goes quiet = let same : record { local = l; touch = t; op = o; carried = v } ≡ x = cc in subst (λ y. rank cap s y.local < m) same (goes.1 (λ _. quiet))
  goes_on (Next.Reply y spare) v k es m x e goes quiet = cc

near_within : (n : ℕ) → 0 < n → (0 < near n) × (near n ≤ 6)
near_within n some = go (sides n)
  where
    sides : (n : ℕ) → (n ≤ 6) ⊎ (6 ≤ n)
    sides n = grind arith

    go : (n ≤ 6) ⊎ (6 ≤ n) → (0 < near n) × (near n ≤ 6)
    go (inl low) = let e : min n 6 ≡ n = min-eq_left low in (omega (arith, e, some), omega (arith, e, low))
    go (inr high) = let e : min n 6 ≡ 6 = min-eq_right high in (omega (arith, e), omega (arith, e))

falls_at : {A : Type 0} {cap : ℕ} {r : Ring A} {who : ℕ} {ms : List (State A)} {was : Bool} {c : Stand A} (ok : Bool) (s : MemoryState A) (x : Running A) → At cap r who ms was c
    → RingOk cap r → Codes cap r (part s) → IsQuiet r who → (step_of (Kind.Bounded cap) ok s (running_of c)).call ≡ Some x
    → far cap (step_of (Kind.Bounded cap) ok s (running_of c)).shared x.local < far cap s c.local
    → near (far cap (step_of (Kind.Bounded cap) ok s (running_of c)).shared x.local) < near (far cap s c.local)
unfolding far ring_by
falls_at {cap = cap} {r = r} {who = who} ok s x (push_stamp d v t none saw) fine codes quiet goes less =
    elim (eqb_tells (position_of t) (position_of s.tail)) [
      | inl same ↦ near_falls _ _ less (rw same.0 (omega arith))
      | inr other ↦
          let i = position_of t % cap in
          let lt = in_ring cap (position_of t) fine.ring in
          let tail : position_of s.tail ≡ r.tail = ap position_of codes.tail ∙ position_tail r.tail r.closed in
          let past : position_of t < r.tail = before_tail (position_of t) r.tail saw.behind (λ e. other.1 (e ∙ sym tail)) in
          let wide : 0 < cap = (let w = fine.ring.0 in omega arith) in
          let ne = not_lapped cap r.head r.tail (position_of t) i r.items r.coming (r.cells i) wide fine.room past (fine.cell i lt) (λ w e. nobody r who none quiet w i e) in
          let late = ne_eqb (word_at s (Word.Stamp i) + cap) (position_of t + 1) (λ e. ne (ap (λ n. n + cap) (sym (codes.stamp i lt)) ∙ e)) in
          stale_falls _ _
          (after_stamp cap
          (step_of (Kind.Bounded cap) ok s (record { local = Local.Ring (RingLocal.PushStamp d t); touch = Touch.Nothing; op = Op.Load (Word.Stamp (slot_at cap (position_of t))); carried = Some v })).shared d t (word_at s (Word.Stamp i)) (Some v) x late goes) (rw other.0 (omega arith))
    ]
falls_at {cap = cap} ok s x (claiming d v t none saw free) fine codes quiet goes less = near_falls _ _ less (either_small (position_of t == position_of s.tail) 2 5 6 (omega arith) (omega arith))
falls_at {cap = cap} ok s x (push_head v t none saw) fine codes quiet goes less = near_falls _ _ less (either_small (s.head + cap == position_of t) 1 6 6 (omega arith) (omega arith))
falls_at {cap = cap} ok s x (displacing v t h none saw back full) fine codes quiet goes less = near_falls _ _ less (either_small (s.head + cap == position_of t) 3 6 6 (omega arith) (omega arith))
falls_at ok s x (pop_stamp h none low) fine codes quiet goes less = near_falls _ _ less (either_small (h == s.head) 3 6 6 (omega arith) (omega arith))
falls_at ok s x (taking h none low full) fine codes quiet goes less = near_falls _ _ less (either_small (h == s.head) 2 4 6 (omega arith) (omega arith))
falls_at ok s x (pop_tail h none low free) fine codes quiet goes less = near_falls _ _ less (either_small (position_of s.tail == h) 1 5 6 (omega arith) (omega arith))
falls_at ok s x (count_head l t count none low) fine codes quiet goes less = near_falls _ _ less (either_small _ 2 5 6 (omega arith) (omega arith))
falls_at ok s x (count_again l t h count none seen) fine codes quiet goes less = near_falls _ _ less (either_small _ 1 4 6 (omega arith) (omega arith))
falls_at ok s x _ fine codes quiet goes less = near_falls _ _ less (omega arith)

module _ {A : Type 0} (cap : ℕ) where
  own_granted : (busy : ℕ) (s : MemoryState A) (Q : State A) (g : Ring A) (p : ℕ) (x x' : Running A) (o : Open A) → RingHolds cap s Q g → RingFits cap busy s Q g p x o → ((j : ℕ) → j ≢ p → RingIdle g j)
      → (step_of (Kind.Bounded cap) true s x).call ≡ Some x' → far cap (step_of (Kind.Bounded cap) true s x).shared x'.local < far cap s x.local
  own_granted busy s Q g p x x' o holds f quiet goes =
      let good = step_good holds.ok holds.codes f.here in
      let same = same_step s x good.touches good.operates in
      let after = good.after in
      let codes : Codes cap after (part (after_operation true s x)) = subst (λ c. Codes cap after c) (sym same.leaves) good.codes in
      let went = ap (λ a. next_of (Kind.Bounded cap) x.local a) same.answers in
      let falls = goes_on cap g after p (queue_of cap after ∷ o.moments) (o.was_open || not after.closed)
      (next_of (Kind.Bounded cap) x.local (ring.answered (ring.touched (part s) x.touch x.carried) x.op)) (ring.handed (part s) x.touch x.carried) o.call (with_effect o.effects good.e) (rank cap g x.local) x'
      (subst (λ v. running_after (next_of (Kind.Bounded cap) x.local (ring.answered (ring.touched (part s) x.touch x.carried) x.op)) v ≡ Some x') same.carries (subst (λ n. running_after n (carried_then s x) ≡ Some x') went goes)) good.goes quiet in
      let there = far_is cap after (step_of (Kind.Bounded cap) true s x).shared x'.local (far_codes codes) in
      let here = far_is cap g s x.local holds.codes in
      omega (arith, falls, there, here)
    where
      far_codes : {after : Ring A} → Codes cap after (part (after_operation true s x)) → Codes cap after (part (step_of (Kind.Bounded cap) true s x).shared)
      far_codes codes = codes

  own_falls : (busy : ℕ) (ok : Bool) (s : MemoryState A) (Q : State A) (g : Ring A) (p : ℕ) (x x' : Running A) (o : Open A) → RingHolds cap s Q g → RingFits cap busy s Q g p x o → ((j : ℕ) → j ≢ p → RingIdle g j)
      → (step_of (Kind.Bounded cap) ok s x).call ≡ Some x' → far cap (step_of (Kind.Bounded cap) ok s x).shared x'.local < far cap s x.local
  own_falls busy ok s Q g p x x' o holds f quiet goes =
      let good = step_good holds.ok holds.codes f.here in
      let same = same_step s x good.touches good.operates in
      let plain = plain-step (Kind.Bounded cap) ok s x.local x.touch x.op x.carried same.is_plain in
      subst (λ t. t.call ≡ Some x' → far cap t.shared x'.local < far cap s x.local) (sym plain) (own_granted busy s Q g p x x' o holds f quiet) goes

  -- the words tell the queue, and the queue the words
  head_is : (s : MemoryState A) (Q : State A) (g : Ring A) → RingHolds cap s Q g → s.head + length Q.items ≡ Q.accepted
  head_is s Q g holds =
      let head = holds.codes.head in
      let count = holds.ok.count in
      let items : length Q.items ≡ length g.items = ap (λ q. length q.items) holds.queue_is in
      let accepted : Q.accepted ≡ g.tail = ap (λ q. q.accepted) holds.queue_is in
      omega (arith, head, count, items, accepted)

  tail_is : (s : MemoryState A) (Q : State A) (g : Ring A) → RingHolds cap s Q g → s.tail ≡ tail_of Q.accepted Q.closed
  tail_is s Q g holds = holds.codes.tail ∙ ap (λ q. tail_of q.accepted q.closed) (sym holds.queue_is)

  ring_paces : (ring : IsRing cap) → Paces A (Kind.Bounded cap) (ring_rules cap ring)
  ring_paces ring = record {
    rank = λ s r. near (far cap s r.local);
    most = 6;
    Free = RingIdle;
    Ready = λ s r. Unit {0};
    within = λ busy s Q g p r o h holds f. near_within (far cap s r.local) (far_some cap s r.local);
    rests = λ g p h. h;
    undone = λ busy s Q g p r o holds f e. holds_none f.here e;
    falls = λ busy ok s Q g p r r' o h holds f quiet goes. (tt, falls_at ok s r' f.here holds.ok holds.codes quiet goes (own_falls busy ok s Q g p r r' o holds f quiet goes));
    keeps = λ busy busy' s s' Q g g' p r o o' h holds holds' f f' others others' turn.
        let now = head_is s' Q g' holds' in
        let before = head_is s Q g holds in
        let heads : s'.head ≡ s.head = omega (arith, now, before) in
        (tt, ap near (far_same cap s s' r.local heads (tail_is s' Q g' holds' ∙ sym (tail_is s Q g holds))));
  }

  pub ring_unhindered : IsRing cap → UnhinderedWithin A (Kind.Bounded cap) 6
  unfolding ring_paces
  ring_unhindered ring = unhindered A (Kind.Bounded cap) (ring_rules cap ring) (ring_paces ring) (λ parties w st h p r is nobody. tt)

-- a call that holds a slot ends at its next step, but for the arrival of its item
half_ends : {A : Type 0} {cap : ℕ} {r : Ring A} {who : ℕ} {ms : List (State A)} {was : Bool} {c : Stand A} (ok : Bool) (s : MemoryState A) (r' : Running A) → At cap r who ms was c → c.effects ≢ []
    → (step_of (Kind.Bounded cap) ok s (running_of c)).call ≡ Some r' → (step_of (Kind.Bounded cap) ok s (running_of c)).effect ≡ None → ⊥
half_ends ok s r' (filling d v q one) some goes quiet = none-some r' goes
half_ends ok s r' (arriving old v t h below back one) some goes quiet = none-some _ (sym quiet)
half_ends ok s r' (swapping old v h one) some goes quiet = none-some r' goes
half_ends ok s r' (emptying x h one) some goes quiet = none-some r' goes
half_ends ok s r' x some goes quiet = absurd (some refl)

pub ring_never_waits : (A : Type 0) (cap : ℕ) → IsRing cap → NeverWaits A (Kind.Bounded cap)
ring_never_waits A cap ring = never_waits A (Kind.Bounded cap) (ring_rules cap ring) (λ busy ok s Q g p r r' o f some goes quiet. half_ends ok s r' f.here some goes quiet)

pub ring_takes_none : (A : Type 0) (cap : ℕ) → IsRing cap → HalfDoneTakesNone A (Kind.Bounded cap)
ring_takes_none A cap ring = waits_take_none A (Kind.Bounded cap) (ring_rules cap ring) (λ busy ok s Q g p r r' o f some goes quiet. half_ends ok s r' f.here some goes quiet)

-- a call that has appended ends at its next step
append_ends : {A : Type 0} {cap : ℕ} {r : Ring A} {who : ℕ} {ms : List (State A)} {was : Bool} {c : Stand A} (ok : Bool) (s : MemoryState A) (r' : Running A) → At cap r who ms was c → HasAppend c.effects
    → (step_of (Kind.Bounded cap) ok s (running_of c)).call ≡ Some r' → ⊥
append_ends ok s r' (filling d v q one) had goes = none-some r' goes
append_ends ok s r' x had goes = absurd had

pub ring_appends : (A : Type 0) (cap : ℕ) → IsRing cap → AppendsReplyWithin A (Kind.Bounded cap) 1
ring_appends A cap ring = appends_reply-next A (Kind.Bounded cap) (ring_rules cap ring) (λ busy ok s Q g p r r' o f had goes. append_ends ok s r' f.here had goes)

-- a call that has taken ends at its next step
take_ends : {A : Type 0} {cap : ℕ} {r : Ring A} {who : ℕ} {ms : List (State A)} {was : Bool} {c : Stand A} (ok : Bool) (s : MemoryState A) (r' : Running A) → At cap r who ms was c → HasTake c.effects
    → (step_of (Kind.Bounded cap) ok s (running_of c)).call ≡ Some r' → ⊥
take_ends ok s r' (emptying x h one) had goes = none-some r' goes
take_ends ok s r' x had goes = absurd had

pub ring_takes : (A : Type 0) (cap : ℕ) → IsRing cap → TakesReplyWithin A (Kind.Bounded cap) 1
ring_takes A cap ring = takes_reply-next A (Kind.Bounded cap) (ring_rules cap ring) (λ busy ok s Q g p r r' o f had goes. take_ends ok s r' f.here had goes)
