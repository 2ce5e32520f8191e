-- A run of one owner that ends is a call that leads on at every step.
use Rattle.std.specs.Prelude.{◌≡◌, ℕ, zero, suc, Option, Some, None}
use Rattle.std.proofs.Common.{sym, subst}
use Rattle.queue_steps.specs.declared.{model.Call.Call, model.Reply.Reply, steps.types.Kind.Kind, steps.types.Answer.Answer, steps.types.Answer.Answer as answer, steps.types.Next.Next, steps.types.Next.Next as next, steps.types.Op.Op, steps.types.Touch.Touch, steps.types.Local.Local}
use Rattle.queue_steps.specs.{Next.next_of, Next.first_local, Sequential.Owned, Kinds.call_kind, Kinds.call_value, Kinds.filled}
use Rattle.call_driver.specs.{EndsIn.EndsIn, EndsIn.EndsRight, EndsIn.Answered, Leads.Leads, Leads.GoesOn, Leads.Begins, Own.MayTake, Own.Took, Own.EndsRightFrom, Own.Ended}

module _ {T B C : Type 0} (can_touch : C → Touch → Op B → Type 0) (touches : C → Touch → Op B → Option T → C → Option T → Type 0)
    (can_perform : C → Op B → Type 0) (performs : C → Op B → Answer B → C → Type 0) where
  -- a run that ends before n steps ends before one more
  ends_more : (n : ℕ) (k : Kind) (todo : Next B) (cells : C) (x : Option T) (P : Reply Unit → Option B → Option T → C → Type 0)
      → EndsIn can_touch touches can_perform performs n k todo cells x P → EndsIn can_touch touches can_perform performs (suc n) k todo cells x P
  ends_more zero k todo cells x P h = absurd h
  ends_more (suc n) k (next.Reply r spare) cells x P h = h
  ends_more (suc n) k (next.Step l t o) cells x P h = (
    h.0,
    λ touched left is.
        let after = h.1 touched left is in
        (after.0, λ a done was. let on = after.1 a done was in (on.0, ends_more n k (next_of k l a) done left P on.1)),
  )

module _ {T B C O : Type 0} (can_touch : C → Touch → Op B → Type 0) (touches : C → Touch → Op B → Option T → C → Option T → Type 0)
    (can_perform : C → Op B → Type 0) (performs : C → Op B → Answer B → C → Type 0)
    (can_release : C → B → Type 0) (releases : C → B → C → Type 0) (idle : C → Type 0) (owned : C → Owned T) (kind_of : C → Kind) where
  abbrev pub Can : O → C → Call Unit → Local B → Touch → Op B → Option T → Type 0
  Can site cells call l t o x = MayTake can_touch touches can_perform performs cells t o x

  abbrev pub Does : O → C → Call Unit → Local B → Touch → Op B → Option T → Answer B → C → Option T → Type 0
  Does site cells call l t o x a after left = Took can_touch touches can_perform performs cells t o x a after left

  abbrev pub StandsAt : ℕ → O → C → Call T → Local B → Answer B → C → Option T → Type 0
  StandsAt n site first c l a cells x = EndsRightFrom can_touch touches can_perform performs can_release releases idle owned kind_of n first c l a cells x

  abbrev pub OwnLeads : ℕ → O → C → Call T → Next B → C → Option T → Type 0
  OwnLeads = Leads Can Does (λ site. can_release) (λ site. releases) StandsAt (λ site. Ended idle owned)

  -- what ends right before one step more than n may be done, and then ends before n
  leads : (n : ℕ) (site : O) (first : C) (c : Call T) (todo : Next B) (cells : C) (x : Option T)
      → EndsIn can_touch touches can_perform performs (suc n) (kind_of first) todo cells x (Answered can_release releases idle owned c first) → OwnLeads n site first c todo cells x
  leads n site first c (next.Reply r None) cells x h = (tt, λ after same. subst (λ (z : C). (reply : Reply T) × (filled r x ≡ Some reply) × Ended idle owned first c reply z) (sym same) (h.1.0, h.1.1, (h.0, h.1.2)))
  leads n site first c (next.Reply r (Some block)) cells x h = (h.0, λ after gave. let it = h.1 after gave in (it.1.0, it.1.1, (it.0, it.1.2)))
  leads n site first c (next.Step l t o) cells x h = (
    (h.0, λ touched left is. (h.1 touched left is).0),
    λ a after left did. (h.1 did.0 left did.1).1 a after did.2,
  )

  pub own_begins : (site : O) (cells : C) (c : Call T) → EndsRight can_touch touches can_perform performs can_release releases idle owned (kind_of cells) c cells
      → Begins Can Does (λ site. can_release) (λ site. releases) StandsAt (λ site. Ended idle owned) (kind_of cells) site cells c
  own_begins site cells c h n all =
      let k = kind_of cells in let P = Answered can_release releases idle owned c cells in (
        h.0,
        leads n site cells c (next_of k (first_local (call_kind c)) answer.Start) cells (call_value c)
            (subst (λ i. EndsIn can_touch touches can_perform performs i k (next_of k (first_local (call_kind c)) answer.Start) cells (call_value c) P) (sym all) h.1),
      )

  pub own_goes_on : (n : ℕ) (site : O) (first : C) (c : Call T) (l : Local B) (a : Answer B) (cells : C) (x : Option T) → StandsAt (suc n) site first c l a cells x
      → GoesOn Can Does (λ site. can_release) (λ site. releases) StandsAt (λ site. Ended idle owned) n (kind_of first) site first c l a cells x
  own_goes_on n site first c l a cells x h = (h.0, leads n site first c (next_of (kind_of first) l a) cells x h.1)

  pub own_more : (n : ℕ) (site : O) (first : C) (c : Call T) (l : Local B) (a : Answer B) (cells : C) (x : Option T) → StandsAt n site first c l a cells x → StandsAt (suc n) site first c l a cells x
  own_more n site first c l a cells x h = (h.0, ends_more can_touch touches can_perform performs n (kind_of first) (next_of (kind_of first) l a) cells x (Answered can_release releases idle owned c first) h.1)
