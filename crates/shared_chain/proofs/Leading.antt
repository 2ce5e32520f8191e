-- The laws of a party's driver on a shared chain: what a step told leads on, and so does what a call does first.
use Rattle.std.proofs.Common.{ℕ, ◌≡◌, ◌∙◌, Option, Some, None, List, [], refl, sym, ap, subst, inl, inr}
use Rattle.queue_laws.specs.Common.Vocabulary.{Call, Reply, Kind, Op, Touch, Word, Answer, Local, Next}
use Rattle.queue_steps.specs.{Effect.after, Kinds.call_kind, Kinds.call_value, Kinds.filled, Next.CanNext, Next.next_of, Next.first_local, Parties.View, Parties.SharedCall, ChainNext.chain_begin, Replies.Tells, Replies.IsRightAt, State.State}
use Rattle.queue_laws.{proofs.Common.Runs.cap_after, proofs.Chain.ChainStart.Begins, proofs.Chain.ChainStart.OnPosition, proofs.Chain.ChainStart.at_begun, specs.Chain.ChainPasses.spare_in}
use Rattle.mem_blocks.specs.{Web.Sitter, Web.sitter, Seats.Sits, declared.block.BlockPtr.BlockPtr as Place, declared.web.Seat.Seat}
use Rattle.shared_parties.specs.{declared.known.CallState.CallState, declared.known.InCall.InCall, Known.party, Known.view_of, CallStates.idle, Calling.handed_by, Calling.first_of, CallsAt.begun_at, Called.call_of_work, Called.begun_by}
use Rattle.shared_parties.proofs.{Called.whole, Histories.prefix_self, SharedCalls.quiet}
use Rattle.shared_chain.specs.{declared.web.ChainWeb.ChainWeb, Names.link_of, Names.name_map, Names.local_map, Names.op_map, Names.next_map, Steps.HoldsBy, Steps.HoldsFor, Steps.MayDo, Steps.MayStep, Steps.After, Steps.carried_by}
use Rattle.shared_chain.specs.Turning.{unnamed, call_at, CanDo, Operated, Carries, IsFree, ChainStands, ChainRests, ChainEnded, GaveUp, ChainLeads}
use Rattle.shared_chain.proofs.{Steps.Turns.sits_still, Frames.Renamed.can_next_map, Frames.Renamed.next_of_map, Frames.Renamed.chain_begin_map}

module _ {T A : Type 0} (w : ChainWeb T A) where
  -- a block that a reply gives up is carried by its place too
  carries_map : (spare : Option ℕ) (r : Reply Unit) (xs : List (ℕ × Option T)) (m : Sitter T (CallState T)) → HoldsFor xs (Next.Reply r spare) m → (m.hand ≡ None) × Carries (name_map link_of spare) m
  carries_map None r xs m holds = holds
  carries_map (Some f) r xs m holds = (holds.0, holds.1)

  -- what a step did is told of the call d, which is that of the seat
  leads_to : (p s : Seat T (CallState T) A) (c : Call T) (x : Option T) (d : InCall T) (l : Local (Place T)) (u : Touch) (o : Op (Place T)) → Sits s w.web → d.call ≡ c → begun_at d ≡ view_of p.sitter.view.known
      → call_at s.sitter (call_kind c) l u o x ≡ d → CanDo s.sitter l u o x d → ChainLeads w p c (Next.Step l u o) s x
  leads_to p s c x d l u o sits is begun same can = (
    (sits, subst (CanDo s.sitter l u o x) (sym same) can),
    λ a q y did.
        let told : Operated d a q.sitter = subst (λ (e : InCall T). Operated e a q.sitter) same did.2 in
        let handed : handed_by d.touch d.carried d.lends ≡ y = (λ i. handed_by (can.touch i) (can.carried i) d.lends) ∙ sym (did.1 ∙ ap (λ (e : InCall T). handed_by u x e.lends) same) in (
          sits_still w.web s q did.0 sits,
          (d, is, begun, (d.local, told.0, can.local, told.1, told.2.0, subst (λ v. After d v (next_of Kind.Unbounded d.local told.0) q.sitter) handed told.2.1)),
        ),
  )

  -- what a step told leads on
  told_leads : (p s : Seat T (CallState T) A) (c : Call T) (x : Option T) (b : InCall T) (n : Next ℕ) → Sits s w.web → b.call ≡ c → begun_at b ≡ view_of p.sitter.view.known → After b x n s.sitter → ChainLeads w p c (next_map link_of n) s x
  told_leads p s c x b (Next.Step l u o) sits is begun (xs, (d, at, local_is, touch_is, op_is, carried_is, call_is, begun_is, lends_is), holds, may) =
      leads_to p s c x d (local_map link_of l) u (op_map link_of o) sits (call_is ∙ is) (begun_is ∙ begun)
      (ap (call_of_work (begun_by s.sitter.view (call_kind c) (local_map unnamed (local_map (link_of {T = T}) l)) u (op_map unnamed (op_map (link_of {T = T}) o)) x)) at) (record {
        local = ap (local_map link_of) local_is;
        touch = touch_is;
        op = ap (op_map link_of) op_is;
        carried = carried_is;
        ready = inl at;
        may = subst (λ (z : Local ℕ × Touch × Op ℕ × Option T × List (ℕ × Option T)). MayStep z.0 z.1 z.2 z.3 z.4) (λ i. (sym local_is i, sym touch_is i, sym op_is i, sym carried_is i, sym lends_is i)) may;
        holds = subst (λ (z : Local ℕ × Op ℕ × List (ℕ × Option T)). HoldsBy z.0 z.1 z.2 s.sitter) (λ i. (sym local_is i, sym op_is i, sym lends_is i)) holds;
      })
  told_leads p s c x b (Next.Reply r spare) sits is begun (xs, (gives, none, (y, fill, rests, cap, owns, calls)), holds, may) =
      let h = carries_map spare r xs s.sitter holds in (
        h.1,
        (
          y,
          fill,
          λ q gave.
              let done : IsFree (sitter s.sitter.view s.sitter.hand None) × SharedCall None (view_of p.sitter.view.known) (view_of s.sitter.view.known) c y =
              ((h.0, refl, rests, cap, calls.legal, owns), subst (λ (e : View T × Call T). SharedCall None e.0 (view_of s.sitter.view.known) e.1 y) (λ i. (begun i, is i)) calls) in
              let at = subst (λ (m : Sitter T (CallState T)). IsFree m × SharedCall None (view_of p.sitter.view.known) (view_of m.view.known) c y) (sym gave.1) done in
              ((sits_still w.web s q gave.0 sits, at.0), at.1),
        ),
      )

  -- wherever a call stands, it leads on
  pub chain_goes_on : (p : Seat T (CallState T) A) (c : Call T) (l : Local (Place T)) (a : Answer (Place T)) (s : Seat T (CallState T) A) (x : Option T) → ChainStands w p c l a s x
      → CanNext Kind.Unbounded l a × ChainLeads w p c (next_of Kind.Unbounded l a) s x
  chain_goes_on p c l a s x (sits, (d, is, begun, (i, b, local_is, answer_is, can, more))) = (
    subst (λ (z : Local (Place T) × Answer (Place T)). CanNext Kind.Unbounded z.0 z.1) (λ j. (local_is j, sym answer_is j)) (can_next_map link_of i b can),
    subst (λ n. ChainLeads w p c n s x) (sym (next_of_map link_of i b can) ∙ (λ j. next_of Kind.Unbounded (local_is j) (sym answer_is j))) (told_leads p s c x d (next_of Kind.Unbounded i b) sits is begun more),
  )

  -- the first step of a call that takes steps: it names no block
  begins_step : (p : Seat T (CallState T) A) (c : Call T) (l : Local ℕ) (o : Op ℕ) → ChainRests w p → local_map unnamed (local_map (link_of {T = T}) l) ≡ l → op_map unnamed (op_map (link_of {T = T}) o) ≡ o → spare_in l ≡ None
      → MayDo {T = T} l o [] → next_of Kind.Unbounded (first_local (call_kind c)) Answer.Start ≡ Next.Step l Touch.Nothing o → ChainLeads w p c (next_map link_of (Next.Step l Touch.Nothing o)) p (call_value c)
  begins_step p c l o rests l_same o_same light may step =
      let d = begun_by p.sitter.view (call_kind c) (local_map unnamed (local_map (link_of {T = T}) l)) Touch.Nothing (op_map unnamed (op_map (link_of {T = T}) o)) (call_value c) in
      leads_to p p c (call_value c) d (local_map link_of l) Touch.Nothing (op_map link_of o) rests.0 (whole c) refl (ap (call_of_work d) (ap (λ (z : CallState T). z.work) rests.1.2)) (record {
        local = ap (local_map link_of) l_same;
        touch = refl;
        op = ap (op_map link_of) o_same;
        carried = refl;
        ready = inr (record {
          rests = rests.1.2 ∙ ap (λ (k : Option ℕ). idle (party k p.sitter.view.known.seen p.sitter.view.known.mine p.sitter.view.known.share)) rests.1.3;
          since = refl;
          before = refl;
          share = refl;
          effects = refl;
          places = refl;
          lends = refl;
          carried = ap call_value (sym (whole c));
          step = ap (λ (z : Call T). first_of Kind.Unbounded z) (whole c) ∙ (step ∙ (λ i. Next.Step (sym l_same i) Touch.Nothing (sym o_same i)));
        });
        may = (subst (λ (z : Local ℕ × Op ℕ). MayDo {T = T} z.0 z.1 []) (λ i. (sym l_same i, sym o_same i)) may, tt);
        holds = (rests.1.0, rests.1.1 ∙ ap carried_by (sym light ∙ ap spare_in (sym l_same)));
      })

  -- a call that replies at once
  begins_reply : (p : Seat T (CallState T) A) (c : Call T) (y : Reply T) → ChainRests w p → Tells c y [] → ((m : State T) → m.cap ≡ None → IsRightAt m c y) → (q : Seat T (CallState T) A) → GaveUp p q → ChainEnded w p c y q
  begins_reply p c y rests tells right q gave =
      let k = p.sitter.view.known in
      let done : IsFree (sitter p.sitter.view p.sitter.hand None) × SharedCall None (view_of k) (view_of k) c y =
      ((rests.1.0, refl, rests.1.2, rests.1.3, rests.1.4, rests.1.5), quiet None (view_of k) (view_of k) k.seen c y (prefix_self k.seen) (prefix_self k.seen) rests.1.4 refl refl tells (right (after None k.seen) (cap_after None k.seen))) in
      let at = subst (λ (m : Sitter T (CallState T)). IsFree m × SharedCall None (view_of k) (view_of m.view.known) c y) (sym gave.1) done in
      ((sits_still w.web p q gave.0 rests.0, at.0), at.1)

  may_do : (l : Local ℕ) (o : Op ℕ) → OnPosition o → MayDo {T = T} l o []
  may_do l (Op.Load Word.Head) on = tt
  may_do l (Op.Load Word.Tail) on = tt
  may_do l (Op.Or Word.Tail x) on = tt
  may_do l o on = absurd on

  -- a first step is one at a position, and names no block
  begins_at : (p : Seat T (CallState T) A) (c : Call T) (l : Local ℕ) (t : Touch) (o : Op ℕ) → ChainRests w p → t ≡ Touch.Nothing → spare_in l ≡ None → OnPosition o
      → next_map unnamed (next_map (link_of {T = T}) (Next.Step l t o)) ≡ Next.Step l t o → first_of Kind.Unbounded c ≡ Next.Step l t o → ChainLeads w p c (next_map link_of (Next.Step l t o)) p (call_value c)
  begins_at p c l t o rests touch light on same first =
      let l_same : local_map unnamed (local_map (link_of {T = T}) l) ≡ l = cc in
      let o_same : op_map unnamed (op_map (link_of {T = T}) o) ≡ o = cc in
      subst (λ u. ChainLeads w p c (next_map link_of (Next.Step l u o)) p (call_value c)) (sym touch) (begins_step p c l o rests l_same o_same light (may_do l o on) (first ∙ ap (λ u. Next.Step l u o) touch))

  -- a call that replies at once gives no block up
  begins_with : (p : Seat T (CallState T) A) (c : Call T) (x : Reply Unit) (spare : Option ℕ) (y : Reply T) → ChainRests w p → spare ≡ None → filled x (call_value c) ≡ Some y → Tells c y [] → ((m : State T) → m.cap ≡ None → IsRightAt m c y)
      → ChainLeads w p c (next_map link_of (Next.Reply x spare)) p (call_value c)
  begins_with p c x None y rests none fill tells right = (rests.1.1, (y, fill, begins_reply p c y rests tells right))
  begins_with p c x (Some f) y rests none fill tells right = let no : ⊥ = cc in absurd no

  -- whatever a call begins with, which is the same with any names, leads on
  begins_so : (p : Seat T (CallState T) A) (c : Call T) (n : Next ℕ) → ChainRests w p → Begins c n → next_map unnamed (next_map (link_of {T = T}) n) ≡ n → first_of Kind.Unbounded c ≡ n → ChainLeads w p c (next_map link_of n) p (call_value c)
  begins_so p c (Next.Step l t o) rests b same first = begins_at p c l t o rests b.1 b.2 b.3 same first
  begins_so p c (Next.Reply x spare) rests b same first = let y = b.2 in begins_with p c x spare y.0 rests b.1 y.1 y.2 y.3

  -- a call that begins leads on
  pub chain_begins : (p : Seat T (CallState T) A) (c : Call T) → ChainRests w p
      → CanNext Kind.Unbounded (first_local {B = Place T} (call_kind c)) Answer.Start × ChainLeads w p c (next_of Kind.Unbounded (first_local (call_kind c)) Answer.Start) p (call_value c)
  chain_begins p c rests =
      let named : chain_begin (call_kind c) ≡ next_map (link_of {T = T}) (chain_begin (call_kind c)) = chain_begin_map link_of (call_kind c) in
      let same = sym (chain_begin_map unnamed (call_kind c) ∙ ap (next_map unnamed) named) in
      (tt, subst (λ n. ChainLeads w p c n p (call_value c)) (sym named) (begins_so p c (chain_begin (call_kind c)) rests (at_begun c) same refl))
