-- How a call that is on its way goes on.
use Rattle.std.proofs.Common.{◌≡◌, ℕ, zero, suc, ◌+◌, ◌-◌, ◌<◌, Option, Some, refl, arith, sym, ap, subst, ◌∙◌}
use Rattle.queue_steps.specs.declared.{sizes.TheConstants.STEPS_ALONE, sizes.TheConstants.WAIT_FREE_STEPS, model.Call.Call, model.Reply.Reply}
use Rattle.queue_steps.specs.declared.steps.types.{Kind.Kind, Answer.Answer, Answer.Answer as answer, Next.Next, Next.Next as next, Op.Op, Touch.Touch, Local.Local}
use Rattle.queue_steps.specs.{Next.CanNext, Next.next_of, Next.first_local, WaitFree.EndsBefore, WaitFree.EndsWaitFree, Kinds.call_kind, Kinds.call_value, Kinds.filled}
use Rattle.call_driver.specs.{Leads.MayGive, Leads.Gave, Leads.Leads, Leads.GoesOn, Leads.Begins, OnWay.OnWay, OnWay.Before, OnWay.Stood, declared.site.Site.Ghosts, declared.progress.Progress.Progress}

module _ {O M T B S K : Type 0} (m : Ghosts O M T B S K) where
  -- wherever a call stands, it leads on
  abbrev pub GoesOnFrom : Type 0
  GoesOnFrom = (n : ℕ) (site : M) (first : S) (c : Call T) (l : Local B) (a : Answer B) (s : S) (x : Option T) → m.stands (suc n) site first c l a s x
      → GoesOn m.can m.does m.spares m.gives m.stands m.ended n (m.kind_of site first) site first c l a s x

  -- a call that has taken a step is on its way
  pub ahead : GoesOnFrom → (n : ℕ) (k : Kind) (call : Call Unit) (site : M) (first : S) (c : Call T) (p : Progress B) (x : Option T) (seat : S)
      → Stood m (suc n) k call site first c p x seat → OnWay m n k call site first c p x seat
  ahead goes n k call site first c p x seat h =
      let OfKind : Kind → Type 0 = λ z. GoesOn m.can m.does m.spares m.gives m.stands m.ended n z site first c p.local p.answer seat x in
      (h.0, subst OfKind (sym h.0.0) (goes n site first c p.local p.answer seat x h.1))

  -- a call that has taken a step is on its way, and ends no later than it did
  pub again : GoesOnFrom → ((n : ℕ) (site : M) (first : S) (c : Call T) (l : Local B) (a : Answer B) (s : S) (x : Option T) → m.stands n site first c l a s x → m.stands (suc n) site first c l a s x)
      → (n : ℕ) (k : Kind) (call : Call Unit) (site : M) (first : S) (c : Call T) (p : Progress B) (x : Option T) (seat : S)
      → Stood m n k call site first c p x seat → OnWay m n k call site first c p x seat
  again goes more n k call site first c p x seat h = ahead goes n k call site first c p x seat (h.0, more n site first c p.local p.answer seat x h.1)

  -- it ends before n steps more, if no call ends before none
  pub before : GoesOnFrom → ((site : M) (first : S) (c : Call T) (l : Local B) (a : Answer B) (s : S) (x : Option T) → m.stands zero site first c l a s x → ⊥)
      → (n : ℕ) (k : Kind) (call : Call Unit) (site : M) (first : S) (c : Call T) (p : Progress B) (x : Option T) (seat : S)
      → Stood m n k call site first c p x seat → Before m n k call site first c p x seat
  before goes none zero k call site first c p x seat h = none site first c p.local p.answer seat x h.1
  before goes none (suc n) k call site first c p x seat h = ahead goes n k call site first c p x seat h

  -- a call that begins
  pub first-step : (k : Kind) (call : Call Unit) (site : M) (seat : S) (c : Call T) (local : Local B) (n : ℕ)
      → k ≡ m.kind_of site seat → local ≡ first_local call → call ≡ call_kind c → suc n ≡ STEPS_ALONE
      → Begins m.can m.does m.spares m.gives m.stands m.ended (m.kind_of site seat) site seat c
      → OnWay m n k call site seat c (record { local = local; answer = answer.Start }) (call_value c) seat
  first-step k call site seat c local n is_kind is_local is_call all h =
      let On : Kind → Local B → Type 0 = λ z l. GoesOn m.can m.does m.spares m.gives m.stands m.ended n z site seat c l answer.Start seat (call_value c) in
      let same : local ≡ first_local (call_kind c) = is_local ∙ ap first_local is_call in
      ((is_kind, is_call), subst (λ l. On k l) (sym same) (subst (λ z. On z (first_local (call_kind c))) (sym is_kind) (h n all)))

  -- what a call that is on its way does next
  module _ (n : ℕ) (k : Kind) (call : Call Unit) (site : M) (first : S) (c : Call T) (from : Local B) (found : Answer B) {made : Next B} where
    -- a step of a call that is on its way
    pub step : (l : Local B) (t : Touch) (o : Op B) (s : S) (x : Option T)
        → made ≡ next_of k from found → made ≡ next.Step l t o → OnWay m n k call site first c (record { local = from; answer = found }) x s
        → m.can site s call l t o x × ((a : Answer B) (after : S) (left : Option T) → m.does site s call l t o x a after left → Stood m n k call site first c (record { local = l; answer = a }) left after)
    step l t o s x made is h =
        let on = subst (λ (z : Next B). Leads m.can m.does m.spares m.gives m.stands m.ended n site first c z s x) (sym made ∙ is) h.1.1 in (
          subst (λ (z : Call Unit). m.can site s z l t o x) (sym h.0.1) on.0,
          λ a after left did. (h.0, on.1 a after left (subst (λ (z : Call Unit). m.does site s z l t o x a after left) h.0.1 did)),
        )

    -- the reply of a call that is on its way
    pub replies : (r : Reply Unit) (spare : Option B) (s : S) (x : Option T)
        → made ≡ next_of k from found → made ≡ next.Reply r spare → OnWay m n k call site first c (record { local = from; answer = found }) x s
        → MayGive m.spares site s spare × ((after : S) → Gave m.gives site s spare after → (reply : Reply T) × (filled r x ≡ Some reply) × m.ended site first c reply after)
    replies r spare s x made is h = subst (λ (z : Next B). Leads m.can m.does m.spares m.gives m.stands m.ended n site first c z s x) (sym made ∙ is) h.1.1

-- a wait-free call has a step less to go
pub ends-step : {B : Type 0} (n : ℕ) (k : Kind) (from : Local B) (found : Answer B) {made : Next B} (l : Local B) (t : Touch) (o : Op B) (a : Answer B) → n < WAIT_FREE_STEPS + 1 → made ≡ next_of k from found → made ≡ next.Step l t o
    → EndsBefore (WAIT_FREE_STEPS + 1 - n) k (next_of k from found) → CanNext k l a → EndsBefore (WAIT_FREE_STEPS + 1 - (n + 1)) k (next_of k l a)
ends-step n k from found l t o a below made is h can =
    let e : WAIT_FREE_STEPS + 1 - n ≡ suc (WAIT_FREE_STEPS + 1 - (n + 1)) = omega arith in
    let h' : EndsBefore (suc (WAIT_FREE_STEPS + 1 - (n + 1))) k (next.Step l t o) = rw (sym made ∙ is, e) at h in
    h' a can

pub ends-first : {B : Type 0} (k kind : Kind) (c : Call Unit) (local : Local B) (part : Call Unit)
    → k ≡ kind → part ≡ c → local ≡ first_local part → EndsWaitFree B kind c → EndsBefore (WAIT_FREE_STEPS + 1) k (next_of k local answer.Start)
ends-first {B} k kind c local part is_kind is_part is_local h =
    let same : local ≡ first_local c = rw (is_local, is_part) refl in
    let OfLocal : Local B → Type 0 = λ z. EndsBefore (WAIT_FREE_STEPS + 1) k (next_of k z answer.Start) in
    let OfKind : Kind → Type 0 = λ z. EndsWaitFree B z c in
    subst OfLocal (sym same) (subst OfKind (sym is_kind) h)
