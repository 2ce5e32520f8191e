-- The laws of `Site` for a queue in a table: where a call stands after a step is what the step told.
use Rattle.std.proofs.Common.{◌≡◌, ℕ, suc, [], Option, Some, None, refl, ap, sym, ◌∙◌, subst, inl, inr}
use Rattle.atomic_table.specs.Seated.{TableId}
use Rattle.queue_laws.specs.Common.{Vocabulary.Call, Vocabulary.Op, Vocabulary.Touch, Vocabulary.Answer, Vocabulary.Local, Vocabulary.Next, Vocabulary.STEPS_ALONE, Effects.Touches, Operations.answer_for}
use Rattle.queue_steps.specs.{Effect.after, Kinds.call_kind, Kinds.call_value, Kinds.with_value, Next.CanNext, Next.next_of, Next.first_local, Parties.View, Parties.SharedCall}
use Rattle.queue_laws.proofs.Common.Runs.{cap_after}
use Rattle.shared_parties.specs.{declared.known.CallState.CallState, declared.known.InCall.InCall, declared.known.Work.Work as work, Known.party, CallStates.idle, Calling.cap_of, Calling.handed_by, Calling.first_of, Calling.Opens, CallsAt.begun_at, Called.call_of_work}
use Rattle.shared_tables.specs.{Seats.view_at, AtTable.TableSeat, AtTable.IsAt, TableRule.TableOf, TableRule.TableLaws, TableRule.InTable}
use Rattle.shared_tables.specs.TableTurns.{After, Follows, call_at, CanDo, NoBlock, NoGift, TableCan, TableDoes, TableStands, TableEnded}
use Rattle.shared_parties.proofs.{Called.whole, Histories.prefix_self, SharedCalls.quiet}
use Rattle.call_driver.{specs.Leads.Leads, specs.Leads.GoesOn, proofs.LeadsThrough.leads-through}

module _ (T : Type 0) (K : ℕ → TableOf T) (t : TableId) (left : ℕ) where
  abbrev TableLeads : TableSeat T → Call T → Next ℕ → TableSeat T → Option T → Type 0
  TableLeads p c n q y = Leads (TableCan K) (TableDoes K) NoBlock NoGift (TableStands K) (TableEnded K) left t p c n q y

  -- what a step told leads on
  told_leads : (p : TableSeat T) (c : Call T) (q : TableSeat T) (y : Option T) (b : InCall T) (n : Next ℕ) → q.0 ≡ t → b.call ≡ c → begun_at b ≡ view_at p.1 → After (K t.slots) b y n q.1 → TableLeads p c n q y
  told_leads p c q y b (Next.Step l u o) same is begun (d, at, local_is, touch_is, op_is, carried_is, call_is, begun_is, lends, touched, word) = (
    (
      same,
      subst (CanDo (K t.slots) q.1 l u o y) (sym call_same) (record {
        local = local_is;
        touch = touch_is;
        op = op_is;
        carried = carried_is;
        ready = inl at;
        lends = lends;
        touched = touched;
        word = word;
      }),
    ),
    λ a q' z did.
        let follows : Follows (K t.slots) d did.1.0 q'.1 = subst (λ (e : InCall T). Follows (K t.slots) e did.1.0 q'.1) call_same did.1.3 in (
          did.0 ∙ same,
          (
            d,
            call_is ∙ is,
            begun_is ∙ begun,
            subst (λ (e : Local ℕ × Answer ℕ). CanNext (K t.slots).calls.kind e.0 e.1) (λ i. (local_is i, here did.1.0 a did.1.1 i)) follows.0,
            subst (λ (e : Option T × Local ℕ × Answer ℕ). After (K t.slots) d e.0 (next_of (K t.slots).calls.kind e.1 e.2) q'.1)
                (λ i. (handed z did.1.2 i, local_is i, here did.1.0 a did.1.1 i)) follows.1,
          ),
        ),
  )
    where
      call_same : call_at q.1 (call_kind c) l u o y ≡ d
      call_same = ap (call_of_work (record { call = with_value (call_kind c) y; local = l; touch = u; op = o; carried = y; effects = []; places = []; since = q.1.0.known.seen; before = q.1.0.known.mine; share = q.1.0.known.share; lends = [] })) at

      here : (n : ℕ) (a : Answer ℕ) → a ≡ answer_for o n → answer_for d.op n ≡ a
      here n a e = ap (λ x. answer_for x n) op_is ∙ sym e

      handed : (z : Option T) → z ≡ handed_by u y (call_at q.1 (call_kind c) l u o y).lends → handed_by d.touch d.carried d.lends ≡ z
      handed z e = (λ i. handed_by (touch_is i) (carried_is i) d.lends) ∙ sym (e ∙ ap (λ (x : InCall T). handed_by u y x.lends) call_same)
  told_leads p c q y b (Next.Reply r (Some block)) same is begun (none, told) = absurd (let f : Some block ≡ None = none in cc)
  told_leads p c q y b (Next.Reply r None) same is begun (none, (x, fill, rests, cap_is, owns, calls)) = (
    tt,
    λ after still. (
      x,
      fill,
      subst (TableEnded K t p c x) (sym still) (
        (same, rests, cap_is, calls.legal, owns),
        subst (λ (e : View T × Call T). SharedCall (cap_of (K t.slots).calls) e.0 (view_at q.1) e.1 x) (λ i. (begun i, is i)) calls,
      ),
    ),
  )

  table_goes_on : (p : TableSeat T) (c : Call T) (l : Local ℕ) (a : Answer ℕ) (q : TableSeat T) (y : Option T) → TableStands K left t p c l a q y
      → GoesOn (TableCan K) (TableDoes K) NoBlock NoGift (TableStands K) (TableEnded K) left (K t.slots).calls.kind t p c l a q y
  table_goes_on p c l a q y st = (st.1.3, told_leads p c q y st.1.0 (next_of (K t.slots).calls.kind l a) st.0 st.1.1 st.1.2 st.1.4)

  -- a party at rest is at nothing, and has no slot
  rests_nothing : (p : TableSeat T) → IsAt (cap_of (K t.slots).calls) t p → (p.1.0.work ≡ work.Nothing) × (p.1.1 ≡ [])
  rests_nothing p at = (ap (λ (d : CallState T). d.work) at.1.0, at.1.1)

  -- the first step of a call that takes steps
  begins_step : (p : TableSeat T) (c : Call T) (l : Local ℕ) (u : Touch) (o : Op ℕ) → IsAt (cap_of (K t.slots).calls) t p → u ≡ Touch.Nothing → InTable (K t.slots) o
      → first_of (K t.slots).calls.kind c ≡ Next.Step l u o → TableLeads p c (Next.Step l u o) p (call_value c)
  begins_step p c l u o at quiet word step = (
    (
      at.0,
      subst (CanDo (K t.slots) p.1 l u o (call_value c)) (sym same) (record {
        local = refl;
        touch = refl;
        op = refl;
        carried = refl;
        ready = inr (record {
          rests = rests;
          since = refl;
          before = refl;
          share = refl;
          effects = refl;
          places = refl;
          lends = refl;
          carried = ap call_value (sym (whole c));
          step = ap (λ (z : Call T). first_of (K t.slots).calls.kind z) (whole c) ∙ step;
        });
        lends = (rests_nothing p at).1;
        touched = λ i e. absurd (subst (λ z. Touches z i) quiet e);
        word = word;
      }),
    ),
    λ a q' z did.
        let follows : Follows (K t.slots) d did.1.0 q'.1 = subst (λ (e : InCall T). Follows (K t.slots) e did.1.0 q'.1) same did.1.3 in (
          did.0 ∙ at.0,
          (
            d,
            whole c,
            refl,
            subst (λ (e : Answer ℕ). CanNext (K t.slots).calls.kind l e) (sym did.1.1) follows.0,
            subst (λ (e : Option T × Answer ℕ). After (K t.slots) d e.0 (next_of (K t.slots).calls.kind l e.1) q'.1)
                (λ i. (handed z did.1.2 i, sym did.1.1 i)) follows.1,
          ),
        ),
  )
    where
      d : InCall T
      d = record { call = with_value (call_kind c) (call_value c); local = l; touch = u; op = o; carried = call_value c; effects = []; places = []; since = p.1.0.known.seen; before = p.1.0.known.mine; share = p.1.0.known.share; lends = [] }

      same : call_at p.1 (call_kind c) l u o (call_value c) ≡ d
      same = ap (call_of_work d) (rests_nothing p at).0

      rests : p.1.0 ≡ idle (party (cap_of (K t.slots).calls) p.1.0.known.seen p.1.0.known.mine p.1.0.known.share)
      rests = at.1.0 ∙ ap (λ (k : Option ℕ). idle (party k p.1.0.known.seen p.1.0.known.mine p.1.0.known.share)) at.2

      handed : (z : Option T) → z ≡ handed_by u (call_value c) (call_at p.1 (call_kind c) l u o (call_value c)).lends → handed_by u (call_value c) [] ≡ z
      handed z e = sym (e ∙ ap (λ (x : InCall T). handed_by u (call_value c) x.lends) same)

  -- what a call does first leads on
  opens_leads : (p : TableSeat T) (c : Call T) (n : Next ℕ) → IsAt (cap_of (K t.slots).calls) t p → first_of (K t.slots).calls.kind c ≡ n → Opens (K t.slots).calls (InTable (K t.slots)) c n → TableLeads p c n p (call_value c)
  opens_leads p c (Next.Step l u o) at step opens = begins_step p c l u o at opens.0 opens.1 step
  opens_leads p c (Next.Reply x (Some block)) at step (none, right) = absurd (let f : Some block ≡ None = none in cc)
  opens_leads p c (Next.Reply x None) at step (none, (y, fill, tells, right)) =
      let cap : Option ℕ = cap_of (K t.slots).calls in let h = p.1.0.known.seen in
      (tt, λ last still. (y, fill, subst (TableEnded K t p c y) (sym still) (at, quiet cap (view_at p.1) (view_at p.1) h c y (prefix_self h) (prefix_self h) at.3 refl refl tells (right (after cap h) (cap_after cap h)))))

  table_begins : (words : ℕ) → TableLaws (K t.slots) words → (p : TableSeat T) (c : Call T) → IsAt (cap_of (K t.slots).calls) t p
      → GoesOn (TableCan K) (TableDoes K) NoBlock NoGift (TableStands K) (TableEnded K) left (K t.slots).calls.kind t p c (first_local (call_kind c)) Answer.Start p (call_value c)
  table_begins words laws p c at = let o = laws.opens c in (o.0, opens_leads p c (first_of (K t.slots).calls.kind c) at refl o.1)

-- the same for what does the calls: it shows a table, and what is at its seat
module _ {T M S : Type 0} (K : ℕ → TableOf T) (table : M → TableId) (seat : S → TableSeat T) where
  abbrev SiteGoesOn : ℕ → M → S → Call T → Local ℕ → Answer ℕ → S → Option T → Type 0
  SiteGoesOn n m = GoesOn {M = M} {S = S} (λ m s. TableCan K (table m) (seat s)) (λ m s k l u o x a q. TableDoes K (table m) (seat s) k l u o x a (seat q)) (λ m s. NoBlock (table m) (seat s)) (λ m s b q. NoGift (table m) (seat s) b (seat q))
      (λ n m s c l a q. TableStands K n (table m) (seat s) c l a (seat q)) (λ m s c r q. TableEnded K (table m) (seat s) c r (seat q)) n (K (table m).slots).calls.kind m

  through : (n : ℕ) (m : M) (first s : S) (c : Call T) (l : Local ℕ) (a : Answer ℕ) (x : Option T)
      → GoesOn (TableCan K) (TableDoes K) NoBlock NoGift (TableStands K) (TableEnded K) n (K (table m).slots).calls.kind (table m) (seat first) c l a (seat s) x → SiteGoesOn n m first c l a s x
  through n m first s c l a x g = (g.0, leads-through (TableCan K) (TableDoes K) NoBlock NoGift (TableStands K) (TableEnded K) table seat n m first s c (next_of (K (table m).slots).calls.kind l a) x g.1)

  pub site_goes_on : (n : ℕ) (m : M) (first : S) (c : Call T) (l : Local ℕ) (a : Answer ℕ) (s : S) (x : Option T) → TableStands K (suc n) (table m) (seat first) c l a (seat s) x → SiteGoesOn n m first c l a s x
  site_goes_on n m first c l a s x h = through n m first s c l a x (table_goes_on T K (table m) n (seat first) c l a (seat s) x h)

  pub site_begins : (words : M → ℕ) → ((m : M) → TableLaws (K (table m).slots) (words m)) → (m : M) (s : S) (c : Call T) → IsAt (cap_of (K (table m).slots).calls) (table m) (seat s)
      → (n : ℕ) → suc n ≡ STEPS_ALONE → SiteGoesOn n m s c (first_local (call_kind c)) Answer.Start s (call_value c)
  site_begins words laws m s c rests n all = through n m s s c (first_local (call_kind c)) Answer.Start (call_value c) (table_begins T K (table m) n (words m) (laws m) (seat s) c rests)
