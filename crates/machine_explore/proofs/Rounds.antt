-- A party that goes round is in a call, and each of its steps is silent.
use Rattle.std.proofs.Common.{◌≡◌, ◌≢◌, ◌∙◌, ℕ, zero, suc, ◌+◌, ◌<◌, ◌≤◌, ◌⊎◌, false, true, Option, None, List, ◌∷◌, length, sym, ap, subst, inl, inr, arith}
use Rattle.std.specs.Prelude.{replicate}
use Rattle.queue_steps.specs.declared.{sizes.TheConstants.STEPS_ALONE, steps.types.Kind.Kind, steps.types.Local.Local}
use Rattle.machine_memory.specs.{declared.calls.Running.Running, declared.types.Event.Event, declared.types.Event.TheVariants.Step, declared.types.Told.Told, declared.types.Told.TheVariants.Ran, declared.types.Told.TheVariants.Skipped, SharedMemory.MemoryState}
use Rattle.machine_steps.specs.{Machine.event_of, Steps.start_of, Steps.step_of, World.World, World.call_at}
use Rattle.machine_replay.specs.Played.{local_in, told_of, world_after}
use Rattle.machine_explore.{specs.Moves.led, specs.Positions.Standing, specs.Waiting.GoesRound, specs.Waiting.IsSentBack, specs.Waiting.is_first, proofs.Waits.IsOn, proofs.Walks.went_on}

silent_parts : (k : Kind) (w : World (MemoryState ℕ) (Running ℕ)) (p n : ℕ) → told_of k w (replicate (suc n) (Step p true)) ≡ replicate (suc n) (Ran None None)
    → ((event_of k true w (Step p true)).1 ≡ Ran None None) × (told_of k (event_of k true w (Step p true)).0 (replicate n (Step p true)) ≡ replicate n (Ran None None))
silent_parts k w p n silent =
    let first : Told ℕ = (event_of k true w (Step p true)).1 in
    let rest : List (Told ℕ) = told_of k (event_of k true w (Step p true)).0 (replicate n (Step p true)) in
    let none : Told ℕ = Ran None None in
    let same : first ∷ rest ≡ none ∷ replicate n none = silent in
    (cc, cc)

-- what is told of each step of a silent round
pub quiet_at : (k : Kind) (w : World (MemoryState ℕ) (Running ℕ)) (p c n : ℕ) → c < n → told_of k w (replicate n (Step p true)) ≡ replicate n (Ran None None) → (event_of k true (world_after k w (replicate c (Step p true))) (Step p true)).1 ≡ Ran None None
quiet_at k w p c zero h silent = let no : ⊥ = omega (arith, h) in absurd no
quiet_at k w p zero (suc n) h silent = (silent_parts k w p n silent).0
quiet_at k w p (suc c) (suc n) h silent = quiet_at k (event_of k true w (Step p true)).0 p c n (omega (arith, h)) (silent_parts k w p n silent).1

pub in_call : (k : Kind) (w : World (MemoryState ℕ) (Running ℕ)) (p : ℕ) → GoesRound k w p → p < length w.calls
in_call k w p r = elim (went_on (step_of k) (start_of k) w (Step p true)) [
  | inl skips ↦
      let told : (event_of k true w (Step p true)).1 ≡ Skipped = ap (λ m. m.1) skips in
      let quiet = quiet_at k w p 0 r.steps r.some r.silent in
      let no : Skipped ≡ Ran None None = sym told ∙ quiet in
      cc
  | inr went ↦ went.inside
]

-- none of so many steps has brought the call back to where it stands now
abbrev pub IsAway : Kind → World (MemoryState ℕ) (Running ℕ) → ℕ → ℕ → Type 0
IsAway k w p n = (m : ℕ) → 0 < m → m ≤ n → local_in (call_at w p) ≢ local_in (call_at (world_after k w (replicate m (Step p true))) p)

pub away_first : (k : Kind) (w : World (MemoryState ℕ) (Running ℕ)) (p : ℕ) → IsAway k w p 0
away_first k w p m some few = let no : ⊥ = omega (arith, some, few) in absurd no

pub away_more : (k : Kind) (w : World (MemoryState ℕ) (Running ℕ)) (p n : ℕ) → IsAway k w p n → local_in (call_at w p) ≢ local_in (call_at (world_after k w (replicate (n + 1) (Step p true))) p) → IsAway k w p (n + 1)
away_more k w p n away last m some few same = elim (sides m n) [
  | inl low ↦ away m some low same
  | inr at ↦ (let e : m ≡ n + 1 = omega (arith, at, few) in last (subst (λ j. local_in (call_at w p) ≡ local_in (call_at (world_after k w (replicate j (Step p true))) p)) e same))
]
  where
    sides : (m n : ℕ) → (m ≤ n) ⊎ (n < m)
    sides m n = grind arith

-- one step more, where the call stands elsewhere then
pub away_by : (k : Kind) (w : World (MemoryState ℕ) (Running ℕ)) (p n : ℕ) (later : Standing) (here there : Option (Local ℕ)) → IsOn k w p (n + 1) later → here ≡ local_in (call_at w p) → there ≡ local_in (call_at later.world p) → here ≢ there → IsAway k w p n → IsAway k w p (n + 1)
away_by k w p n later here there on here_is there_is apart away =
    away_more k w p n away (λ same. apart (here_is ∙ same ∙ sym (there_is ∙ ap (λ (x : World (MemoryState ℕ) (Running ℕ)). local_in (call_at x p)) on.world)))

-- so it has made no round
not_back : (k : Kind) (w : World (MemoryState ℕ) (Running ℕ)) (p n : ℕ) → IsAway k w p n → (r : GoesRound k w p) → r.steps ≤ n → ⊥
not_back k w p n away r few = away r.steps r.some few (ap (λ x. local_in (call_at x p)) (sym r.back))

pub never_back : (k : Kind) (w : World (MemoryState ℕ) (Running ℕ)) (p n : ℕ) → IsAway k w p n → STEPS_ALONE ≤ n → GoesRound k w p → ⊥
never_back k w p n away all r = let few = r.few in not_back k w p n away r (omega (arith, few, all))

-- nor does it go on with one where its next step is not silent
pub not_quiet : (k : Kind) (w : World (MemoryState ℕ) (Running ℕ)) (p n : ℕ) (s : Standing) (t : Told ℕ) → IsOn k w p n s → IsAway k w p n → t ≡ (event_of s.kind true s.world (Step p true)).1 → t ≢ Ran None None → GoesRound k w p → ⊥
not_quiet k w p n s t on away told loud r = elim (sides r.steps n) [
  | inl low ↦ not_back k w p n away r low
  | inr far ↦ loud (told ∙ ap (λ x. (event_of x true s.world (Step p true)).1) on.kind ∙ ap (λ x. (event_of k true x (Step p true)).1) on.world ∙ quiet_at k w p n r.steps far r.silent)
]
  where
    sides : (m n : ℕ) → (m ≤ n) ⊎ (n < m)
    sides m n = grind arith

-- where the call stands neither where it stood nor at its first step, it was not sent back
pub not_sent_back : (s old later : Standing) (p : ℕ) (here there : Option (Local ℕ)) → old ≡ s → later ≡ led old.kind old (Step p true) → here ≡ local_in (call_at s.world p) → there ≡ local_in (call_at later.world p)
    → here ≢ there → is_first there ≡ false → IsSentBack s.kind s.world p → ⊥
not_sent_back s old later p here there from leads here_is there_is apart first back =
    let e : Event ℕ = Step p true in
    let made : later.world ≡ (event_of s.kind true s.world e).0 = ap (λ (x : Standing). x.world) leads ∙ ap (λ (x : Standing). (event_of x.kind true x.world e).0) from in
    let at : there ≡ local_in (call_at (event_of s.kind true s.world e).0 p) = there_is ∙ ap (λ (x : World (MemoryState ℕ) (Running ℕ)). local_in (call_at x p)) made in
    elim back [
      | inl same ↦ apart (here_is ∙ sym (at ∙ ap (λ (x : World (MemoryState ℕ) (Running ℕ)). local_in (call_at x p)) same))
      | inr one ↦ (let no : false ≡ true = sym first ∙ ap is_first at ∙ one in cc)
    ]
