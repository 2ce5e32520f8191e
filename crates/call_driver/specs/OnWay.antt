-- A call within the driver: what is so of one that is on its way, and what steps leave of it.
use Rattle.std.specs.Prelude.{◌≡◌, ℕ, zero, suc, Option, Some}
use Rattle.std.specs.{ControlFlow.MatchControlFlow, declared.ops.ControlFlow.ControlFlow}
use Rattle.queue_steps.specs.{declared.model.Call.Call, declared.model.Reply.Reply, declared.steps.types.Kind.Kind, Kinds.call_kind, Kinds.filled}
use Rattle.call_driver.specs.{Leads.GoesOn, declared.site.Site.Ghosts, declared.progress.Progress.Progress}

module _ {O M T B S K : Type 0} (m : Ghosts O M T B S K) where
  -- the kind and the call are those of the call c that the seat `first` began
  abbrev pub IsOf : Kind → Call Unit → M → S → Call T → Type 0
  IsOf k call site first c = (k ≡ m.kind_of site first) × (call ≡ call_kind c)

  -- the call c, begun by the seat `first`, may take its next step, and ends before n more; it now carries x
  abbrev pub OnWay : ℕ → Kind → Call Unit → M → S → Call T → Progress B → Option T → S → Type 0
  OnWay n k call site first c p x seat =
      IsOf k call site first c × GoesOn m.can m.does m.spares m.gives m.stands m.ended n k site first c p.local p.answer seat x

  -- it ends before n steps more, its next one with them
  abbrev pub Before : ℕ → Kind → Call Unit → M → S → Call T → Progress B → Option T → S → Type 0
  Before zero k call site first c p x seat = ⊥
  Before (suc n) k call site first c p x seat = OnWay n k call site first c p x seat

  -- it has taken a step, and ends before n more
  abbrev pub Stood : ℕ → Kind → Call Unit → M → S → Call T → Progress B → Option T → S → Type 0
  Stood n k call site first c p x seat = IsOf k call site first c × m.stands n site first c p.local p.answer seat x

  -- some call is on its way that ends before n more steps
  abbrev pub IsUnderWay : ℕ → Kind → Call Unit → M → Progress B → Option T → S → Type 0
  IsUnderWay n k call site p x seat = (c : Call T) × (first : S) × OnWay n k call site first c p x seat

  -- the call c has ended with a reply of this kind, and the value y in it
  abbrev pub EndsWith : M → S → Call T → Option T → S → Reply Unit → Type 0
  EndsWith site first c y after reply = (whole : Reply T) × (filled reply y ≡ Some whole) × m.ended site first c whole after

  -- whichever call was on its way, it has taken a step, and now carries y, or it has ended
  abbrev pub TakesStep : Kind → Call Unit → M → Progress B → Option T → S → Option T → S → ControlFlow (Reply Unit) (Progress B) → Type 0
  TakesStep k call site p x before y after told =
      (n : ℕ) (c : Call T) (first : S) → OnWay n k call site first c p x before
      → MatchControlFlow told (λ left. Stood n k call site first c left y after) (EndsWith site first c y after)

  -- whichever call was on its way, it is on its way at `left`, and now carries y, or it has ended
  abbrev pub StaysOnWay : Kind → Call Unit → M → Progress B → Option T → S → Progress B → Option T → S → ControlFlow (Reply Unit) Unit → Type 0
  StaysOnWay k call site p x before left y after told =
      (n : ℕ) (c : Call T) (first : S) → OnWay n k call site first c p x before
      → MatchControlFlow told (λ more. OnWay n k call site first c left y after) (EndsWith site first c y after)
