-- Where a call on a chain stands that has had no effect yet, and where one does that may have to wait for its item.
use Rattle.std.specs.Prelude.{◌≡◌, ℕ, Bool, true, false}
use Rattle.queue_laws.specs.Common.Vocabulary.{Call, Local, ChainLocal}
use Rattle.queue_steps.specs.declared.steps.chain.ChainLocal.{ChainLocal as chain}

-- before its effect, and not where it is to show the first block
abbrev pub is_early : {B : Type 0} → ChainLocal B → Bool
is_early (chain.Showing d tail block) = false
is_early (chain.Laying d tail block spare) = false
is_early (chain.Opening d tail block spare) = false
is_early (chain.Chaining d tail block spare) = false
is_early (chain.Writing d spare) = false
is_early (chain.Following head block) = false
is_early (chain.Peeking head block after) = false
is_early (chain.Passing head block more) = false
is_early (chain.Entering head block) = false
is_early (chain.Awaiting head block) = false
is_early (chain.Reading block slot) = false
is_early (chain.Walking block slot) = false
is_early (chain.Destroying block slot) = false
is_early _ = true

abbrev pub IsEarly : Local ℕ → Type 0
IsEarly (Local.Chain l) = is_early l ≡ true
IsEarly _ = Unit {0}

-- a pop that has taken its item, and may have to wait for it
abbrev pub is_bound : {B : Type 0} → ChainLocal B → Bool
is_bound (chain.Following head block) = true
is_bound (chain.Peeking head block after) = true
is_bound (chain.Passing head block more) = true
is_bound (chain.Entering head block) = true
is_bound (chain.Awaiting head block) = true
is_bound (chain.Reading block slot) = true
is_bound (chain.Walking block slot) = true
is_bound (chain.Destroying block slot) = true
is_bound _ = false

abbrev pub IsBound : {B : Type 0} → Local B → Type 0
IsBound (Local.Chain l) = is_bound l ≡ true
IsBound _ = ⊥

-- the call pushes
abbrev pub IsPush : {A : Type 0} → Call A → Type 0
IsPush (Call.Push v) = Unit {0}
IsPush (Call.ForcePush v) = Unit {0}
IsPush _ = ⊥
