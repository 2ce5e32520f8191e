-- A table has where a party leads, as the code finds it.
use Rattle.std.proofs.Common.{◌≡◌, Bool, true, false, ℕ, List, Option, Some, None, Result, Ok, Err, sym, ap, subst}
use Rattle.std.specs.{Prelude.option_map, Prelude.slice_get, Prelude.slice_set, Prelude.Contains, Prelude.IfOk, Prelude.MatchOption, Prelude.⊤, declared.alloc.AllocError.AllocError}
use Rattle.queue_steps.specs.declared.model.Call.{Call}
use Rattle.machine_steps.specs.{Machine.event_of, World.World, World.call_at}
use Rattle.machine_memory.specs.{declared.types.Event.TheVariants.Step, declared.types.Told.Told, declared.calls.Running.Running, SharedMemory.MemoryState}
use Rattle.machine_explore.specs.{Moves.advanced, Moves.event_for, Moves.led, Positions.Standing, Positions.calls_of, Positions.progress_of, Tables.Stays, Tables.StaysOnce}

-- where the event leads, if there is one, is what the table has
pub stays_if : {X : Type 0} (o : Option X) (f : X → Standing) (r : Option Standing) (table : List Standing) → r ≡ option_map f o → MatchOption r ⊤ (Contains table) → MatchOption o ⊤ (λ e. Contains table (f e))
stays_if None f r table is has = tt
stays_if (Some e) f r table is has = rw is at has

-- with and without a refusal
pub stays_both : (calls : List (List (Call ℕ))) (table : List Standing) (s : Standing) (p : ℕ) (refuses : Bool) (r : Result Bool AllocError)
    → StaysOnce (led s.kind) calls table s p true → IfOk r (λ yes. yes ≡ true → StaysOnce (led s.kind) calls table s p false) → IfOk r (λ yes. yes ≡ true → Stays (led s.kind) refuses calls table s p)
stays_both calls table s p refuses (Ok said) granted refused = λ is. by_grant is
  where
    by_grant : said ≡ true → (g : Bool) → (refuses ≡ false → g ≡ true) → StaysOnce (led s.kind) calls table s p g
    by_grant is true may = granted
    by_grant is false may = refused is
stays_both calls table s p refuses (Err e) granted refused = tt

pub stays_granted : (calls : List (List (Call ℕ))) (table : List Standing) (s : Standing) (p : ℕ) (refuses : Bool) → refuses ≡ false → StaysOnce (led s.kind) calls table s p true → Stays (led s.kind) refuses calls table s p
stays_granted calls table s p refuses never granted g may = let P : Bool → Type 0 = λ x. StaysOnce (led s.kind) calls table s p x in subst P (sym (may never)) granted

-- a step that asks for no block leads to the same, granted or refused
pub stays_unasked : (calls : List (List (Call ℕ))) (table : List Standing) (s : Standing) (p : ℕ) (refuses : Bool)
    → ((g : Bool) → event_of s.kind true s.world (Step p g) ≡ event_of s.kind true s.world (Step p true)) → StaysOnce (led s.kind) calls table s p true → Stays (led s.kind) refuses calls table s p
stays_unasked calls table s p refuses same granted g may = by_call (call_at s.world p) (slice_get (calls_of calls p) (progress_of s p).begun) granted
  where
    make : World (MemoryState ℕ) (Running ℕ) × Told ℕ → Standing
    make m = record { kind = s.kind; world = m.0; parties = slice_set s.parties p (advanced (progress_of s p) (Step p true) m.1) }

    by_call : (o : Option (Running ℕ)) (next : Option (Call ℕ)) → MatchOption (event_for p true o next) ⊤ (λ e. Contains table (led s.kind s e)) → MatchOption (event_for p g o next) ⊤ (λ e. Contains table (led s.kind s e))
    by_call (Some r) next has =
        let P : Standing → Type 0 = λ x. Contains table x in
        let one : led s.kind s (Step p g) ≡ led s.kind s (Step p true) = ap (λ m. make m) (same g) in
        subst P (sym one) has
    by_call None (Some c) has = has
    by_call None None has = tt
