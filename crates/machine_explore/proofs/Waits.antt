-- When a party waits for another, from what is seen of a schedule.
use Rattle.std.proofs.Common.{◌≡◌, ◌∙◌, ℕ, ◌+◌, ◌<◌, Bool, true, None, List, [], ◌∷◌, ◌++◌, length, take, refl, sym, ap, arith}
use Rattle.std.{specs.Prelude.replicate, specs.Prelude.slice_index_or, proofs.lemmas.List.replicate_more, proofs.lemmas.List.take_more}
use Rattle.queue_steps.specs.declared.{model.Call.Call, sizes.TheConstants.STEPS_ALONE, steps.types.Kind.Kind}
use Rattle.machine_memory.specs.{declared.calls.Running.Running, declared.types.Event.Event, declared.types.Event.TheVariants.Step, declared.types.Told.Told, declared.types.Told.TheVariants.Ran, SharedMemory.MemoryState}
use Rattle.machine_steps.specs.{Machine.event_of, Steps.start_of, Steps.step_of, World.World}
use Rattle.machine_replay.specs.{Played.told_of, Played.world_after, Progress.Standing as CallStanding, Progress.Between, Progress.standing, Progress.stands_by, Progress.stands_then, Replays.CanReplay}
use Rattle.machine_explore.specs.{Moves.led, Positions.Standing, Starts.IsStart, Traces.Seen, Traces.trace_of, Waiting.GoesRound, Waiting.is_half_done, Waiting.stands_seen}
use Rattle.machine_explore.proofs.{Resting.standing_since, Showing.told_by-snoc, Showing.world_by-snoc}

stands_seen-snoc : (xs : List Seen) (p : ℕ) (x : CallStanding) (s : Seen) → stands_seen p x (xs ++ s ∷ []) ≡ stands_then p (stands_seen p x xs) s.event s.told
stands_seen-snoc [] p x s = refl
stands_seen-snoc (y ∷ ys) p x s = stands_seen-snoc ys p (stands_then p x y.event y.told) s

-- what is seen tells where a party stands
stands_seen-trace : (es : List (Event ℕ)) (k : Kind) (w : World (MemoryState ℕ) (Running ℕ)) (p : ℕ) (x : CallStanding) → stands_seen p x (trace_of k w es) ≡ stands_by p x es (told_of k w es)
stands_seen-trace [] k w p x = refl
stands_seen-trace (e ∷ es) k w p x = stands_seen-trace es k (event_of k true w e).0 p (stands_then p x e (event_of k true w e).1)

-- one event more is seen
pub half_more : (p : ℕ) (xs : List Seen) (i : ℕ) (s : Seen) (old new : Bool) → i < length xs → s ≡ slice_index_or xs i s → old ≡ is_half_done (stands_seen p Between (take i xs))
    → ((x : CallStanding) → is_half_done x ≡ old → is_half_done (stands_then p x s.event s.told) ≡ new) → new ≡ is_half_done (stands_seen p Between (take (i + 1) xs))
half_more p xs i s old new inside is so_far after =
    let more : take (i + 1) xs ≡ take i xs ++ s ∷ [] = take_more xs i s inside ∙ ap (λ y. take i xs ++ y ∷ []) (sym is) in
    let x = stands_seen p Between (take i xs) in
    sym (ap (λ l. is_half_done (stands_seen p Between l)) more ∙ ap is_half_done (stands_seen-snoc (take i xs) p Between s) ∙ after x (sym so_far))

-- who is half done, as it is seen
pub half_at : (k : Kind) (before : List (Call ℕ)) (parties q : ℕ) (s : Standing) (rest : List (Event ℕ)) (seen : List Seen) → CanReplay k → (start : IsStart k before parties s) → seen ≡ trace_of k s.world rest
    → is_half_done (standing k parties q (start.prepared.0 ++ rest)) ≡ is_half_done (stands_seen q Between seen)
half_at k before parties q s rest seen can start is =
    ap is_half_done (standing_since k before parties q s rest can start ∙ sym (stands_seen-trace rest k s.world q Between) ∙ ap (λ l. stands_seen q Between l) (sym is))

-- so many steps of the party alone lead there, without an effect and without a reply
pub record IsOn (k : Kind) (w : World (MemoryState ℕ) (Running ℕ)) (p n : ℕ) (s : Standing) : Type 0 where
  pub kind : s.kind ≡ k
  pub world : s.world ≡ world_after k w (replicate n (Step p true))
  pub silent : told_of k w (replicate n (Step p true)) ≡ replicate n (Ran None None)

pub on_first : (s later : Standing) (p : ℕ) → later ≡ s → IsOn s.kind s.world p 0 later
on_first s later p same = record { kind = ap (λ (x : Standing). x.kind) same; world = ap (λ (x : Standing). x.world) same; silent = refl }

pub on_more : (k : Kind) (w : World (MemoryState ℕ) (Running ℕ)) (p n : ℕ) (s later : Standing) (t : Told ℕ) → IsOn k w p n s → t ≡ (event_of s.kind true s.world (Step p true)).1 → t ≡ Ran None None → later ≡ led s.kind s (Step p true) → IsOn k w p (n + 1) later
on_more k w p n s later t on told quiet leads =
    let e : Event ℕ = Step p true in
    let past = replicate n e in
    let none : Told ℕ = Ran None None in
    let more : past ++ e ∷ [] ≡ replicate (n + 1) e = replicate_more n e in
    let there : event_of s.kind true s.world e ≡ event_of k true (world_after k w past) e = ap (λ x. event_of x true s.world e) on.kind ∙ ap (λ x. event_of k true x e) on.world in
    let made : (event_of k true (world_after k w past) e).1 ≡ none = sym (told ∙ ap (λ m. m.1) there) ∙ quiet in
    record {
      kind = ap (λ (x : Standing). x.kind) leads ∙ on.kind;
      world = ap (λ (x : Standing). x.world) leads ∙ ap (λ m. m.0) there ∙ sym (world_by-snoc (step_of k) (start_of k) past w e) ∙ ap (λ es. world_after k w es) more;
      silent = ap (λ es. told_of k w es) (sym more) ∙ told_by-snoc (step_of k) (start_of k) past w e ∙ ap (λ l. l ++ (event_of k true (world_after k w past) e).1 ∷ []) on.silent
          ∙ ap (λ x. replicate n none ++ x ∷ []) made ∙ replicate_more n none;
    }

-- and back
pub round : (s later : Standing) (p n : ℕ) → n < STEPS_ALONE → IsOn s.kind s.world p (n + 1) later → later ≡ s → GoesRound s.kind s.world p
round s later p n few on same = record { steps = n + 1; some = omega arith; few = omega (arith, few); silent = on.silent; back = sym on.world ∙ ap (λ (x : Standing). x.world) same }
