-- A call that has left its fast steps.
use Rattle.std.specs.Prelude.{◌-◌}
use Rattle.queue_laws.specs.Common.Vocabulary.{Call, STEPS_ALONE}
use Rattle.call_driver.specs.{OnWay.OnWay, declared.site.Site.Ghosts}
use Rattle.shared_calls.specs.declared.left.Left.{Left}

-- the call c, begun by the seat `first`, stands there, and ends within the steps that a call takes at most which runs alone
abbrev pub IsLeft : {O M T B S K : Type 0} → Ghosts O M T B S K → M → S → Call T → Left T B → S → Type 0
IsLeft m site first c left seat = OnWay m (STEPS_ALONE - 1) left.kind left.call site first c left.progress left.carried seat
