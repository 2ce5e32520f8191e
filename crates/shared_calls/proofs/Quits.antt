-- What giving a call up asks of its seat.
use Rattle.std.proofs.Common.{◌≡◌, ℕ, true, List, Option, refl, sym, ap, subst, ◌∙◌}
use Rattle.atomic_table.specs.declared.shared.Seat.{Seat}
use Rattle.mem_blocks.specs.declared.block.BlockPtr.{BlockPtr as Link}
use Rattle.queue_laws.specs.{Common.Vocabulary.Kind, Common.Vocabulary.Op, Common.Vocabulary.Touch, Common.Vocabulary.Local, Common.Vocabulary.Next, Common.Vocabulary.ChainLocal, Chain.ChainPasses.spare_in, Chain.ChainPasses.spare_of as named_spare}
use Rattle.queue_steps.specs.Next.{next_of}
use Rattle.queue_laws.specs.Chain.ChainEarly as chain
use Rattle.shared_parties.specs.{declared.known.CallState.CallState, declared.known.InCall.InCall, declared.known.Work.Work as work, Called.call_of_work, Called.nothing_called, Quitting.its_call}
use Rattle.shared_tables.specs.{Early.IsEarly, Quitting.MayQuit, TableRule.TableOf, TableTurns.After}
use Rattle.shared_chain.specs.{Names.link_of, Names.name_map, Names.chain_map, Names.local_map, Names.op_map, Names.next_map, Quitting.MayQuit as MayQuitIn, Steps.HoldsBy, Steps.After as AfterIn}
use Rattle.shared_chain.proofs.Frames.Renamed.{next_of_map}
use Rattle.shared_calls.specs.{declared.chain.Asking.Asking, declared.left.Left.Left, Early.is_early, Early.spare_of, Early.spare_at, Halts.Halts, Halts.HaltsIn, Halts.next_at}

-- what is early on any queue is so on the one that the place is on
early_at : (l : Local ℕ) → is_early l ≡ true → IsEarly l
early_at (Local.Slot l) is = (is, tt)
early_at (Local.Ring l) is = (tt, is)
early_at l is = (tt, tt)

early_in : (l : Local ℕ) → is_early l ≡ true → chain.IsEarly l
early_in (Local.Chain l) is = is
early_in l is = tt

module _ {B : Type 0} where
  -- whatever the blocks are named by
  chain_named : (f : ℕ → B) (l : ChainLocal ℕ) → (chain.is_early (chain_map f l) ≡ chain.is_early l) × (spare_of (chain_map f l) ≡ name_map f (named_spare l)) × (chain.is_bound (chain_map f l) ≡ chain.is_bound l)
  chain_named f (ChainLocal.PushTail d s) = (refl, refl, refl)
  chain_named f l = (refl, refl, refl)

  named : (f : ℕ → B) (l : Local ℕ) → (is_early (local_map f l) ≡ is_early l) × (spare_at (local_map f l) ≡ name_map f (spare_in l))
  named f (Local.Chain l) = let h = chain_named f l in (h.0, h.1)
  named f l = (refl, refl)

  pub bound_named : (f : ℕ → B) (l : Local ℕ) → chain.IsBound (local_map f l) → chain.IsBound l
  bound_named f (Local.Chain l) h = sym (chain_named f l).2 ∙ h
  bound_named f l h = h

module _ {T : Type 0} where
  -- the seat of a call that is to do a step from an early place may give it up
  pub may_quit : (K : TableOf T) (s : Seat (Option T) (CallState T)) (l : Left T ℕ) (x : Local ℕ) (t : Touch) (o : Op ℕ) → Halts K s l → next_at l ≡ Next.Step x t o → is_early x ≡ true → MayQuit s.me × (l.carried ≡ (its_call s.me.0).carried)
  may_quit K s l x t o (kind, b, can, after) is early =
      from (subst (λ (n : Next ℕ). After K b l.carried n s.me) (subst (λ (k : Kind). next_of k l.progress.local l.progress.answer ≡ Next.Step x t o) kind is) after)
    where
      from : After K b l.carried (Next.Step x t o) s.me → MayQuit s.me × (l.carried ≡ (its_call s.me.0).carried)
      from (d, at, local_is, touch_is, op_is, carried_is, call_is, begun_is, lends_is, touched, word) =
          let same : d ≡ its_call s.me.0 = sym (ap (call_of_work nothing_called) at) in (
            (at ∙ ap work.Calls same, lends_is ∙ ap (λ (z : InCall T). z.lends) same, subst IsEarly (sym local_is ∙ ap (λ (z : InCall T). z.local) same) (early_at x early)),
            sym carried_is ∙ ap (λ (z : InCall T). z.carried) same,
          )

  -- the same in a web
  pub may_quit_in : {A Q : Type 0} (s : Asking T A Q) (l : Left T (Link T)) (x : Local (Link T)) (t : Touch) (o : Op (Link T)) → HaltsIn s l → next_at l ≡ Next.Step x t o → is_early x ≡ true
      → MayQuitIn s.seat.sitter × (spare_at x ≡ name_map link_of (spare_in (its_call s.seat.sitter.view).local)) × (l.carried ≡ (its_call s.seat.sitter.view).carried)
  may_quit_in s l x t o (kind, b, i, a, i_is, a_is, can, after) is early =
      from (next_of Kind.Unbounded i a)
      (sym (next_of_map link_of i a can) ∙ ((λ j. next_of Kind.Unbounded (i_is j) (sym a_is j)) ∙ subst (λ (k : Kind). next_of k l.progress.local l.progress.answer ≡ Next.Step x t o) kind is)) after
    where
      from : (n : Next ℕ) → next_map link_of n ≡ Next.Step x t o → AfterIn b l.carried n s.seat.sitter
          → MayQuitIn s.seat.sitter × (spare_at x ≡ name_map link_of (spare_in (its_call s.seat.sitter.view).local)) × (l.carried ≡ (its_call s.seat.sitter.view).carried)
      from (Next.Reply r spare) e told = absurd (let f : Next.Reply r (name_map link_of spare) ≡ Next.Step x t o = e in cc)
      from (Next.Step y u q) e (xs, (d, at, local_is, touch_is, op_is, carried_is, call_is, begun_is, lends_is), holds, may) =
          let f : Next.Step (local_map link_of y) u (op_map link_of q) ≡ Next.Step x t o = e in
          let is_x : local_map link_of y ≡ x = cc in
          let same : d ≡ its_call s.seat.sitter.view = sym (ap (call_of_work nothing_called) at) in
          let there : y ≡ (its_call s.seat.sitter.view).local = sym local_is ∙ ap (λ (z : InCall T). z.local) same in (
            (
              at ∙ ap work.Calls same,
              subst chain.IsEarly there (early_in y (sym (named link_of y).0 ∙ (ap is_early is_x ∙ early))),
              subst (λ (z : Local ℕ × Op ℕ × List (ℕ × Option T)). HoldsBy z.0 z.1 z.2 s.seat.sitter) (λ j. (there j, (sym op_is ∙ ap (λ (z : InCall T). z.op) same) j, (sym lends_is ∙ ap (λ (z : InCall T). z.lends) same) j)) holds,
            ),
            ap spare_at (sym is_x) ∙ ((named link_of y).1 ∙ ap (λ (z : Local ℕ). name_map link_of (spare_in z)) there),
            sym carried_is ∙ ap (λ (z : InCall T). z.carried) same,
          )
