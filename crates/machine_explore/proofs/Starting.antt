-- The calls that come first, made one after another, lead to where runs start.
use Rattle.std.proofs.Common.{◌≡◌, ◌∙◌, ◌==◌, ◌++◌, ◌∷◌, [], ℕ, Bool, true, if◌then◌else◌, List, Option, None, length, refl, subst, sym, ap, append_assoc, append-nil}
use Rattle.std.specs.List.{All}
use Rattle.std.proofs.lemmas.List.Elements.{All-append, All-cons, All-nil, All-push}
use Rattle.queue_steps.specs.declared.{model.Call.Call, model.Reply.Reply, steps.types.Kind.Kind}
use Rattle.machine_replay.specs.{Conforms.party_of, Played.told_by, Played.told_of, Played.world_after, Played.world_by}
use Rattle.machine_steps.specs.{Left.opening_world, Machine.event_of, Steps.start_of, Steps.step_of, World.Begun, World.StepOutcome, World.World, World.call_at, World.world_event}
use Rattle.machine_memory.specs.{SharedMemory.MemoryState, declared.calls.Running.Running, declared.types.EffectKind.EffectKind, declared.types.Event.Event, declared.types.Event.TheVariants.Begin, declared.types.Event.TheVariants.Step, declared.types.Told.Told, declared.types.Told.TheVariants.Ran}
use Rattle.machine_memory.proofs.Busy.{nobody_calls}
use Rattle.machine_explore.specs.{Explored.IsPreparing, Explored.Prepares, Explored.begun_by, Moves.call_in, Starts.IsPrepared}
use Rattle.machine_explore.proofs.Showing.{begun_by-snoc, told_by-length, told_by-snoc, world_by-snoc}

module _ {S R T : Type 0} (step : Bool → S → R → StepOutcome S R T) (start : Call T → Begun R T) where
  pub world_by-append : (xs ys : List (Event T)) (w : World S R) → world_by step start w (xs ++ ys) ≡ world_by step start (world_by step start w xs) ys
  world_by-append [] ys w = refl
  world_by-append (x ∷ xs) ys w = world_by-append xs ys (world_event step start w true x).0

  pub told_by-append : (xs ys : List (Event T)) (w : World S R) → told_by step start w (xs ++ ys) ≡ told_by step start w xs ++ told_by step start (world_by step start w xs) ys
  told_by-append [] ys w = refl
  told_by-append (x ∷ xs) ys w = ap (λ l. (world_event step start w true x).1 ∷ l) (told_by-append xs ys (world_event step start w true x).0)

begun_by-append : {T : Type 0} (p : ℕ) (xs ys : List (Event T)) (ts us : List (Told T)) → length ts ≡ length xs → begun_by p (xs ++ ys) (ts ++ us) ≡ begun_by p xs ts ++ begun_by p ys us
begun_by-append p [] ys [] us same = refl
begun_by-append p (x ∷ xs) ys (t ∷ ts) us same =
    ap (λ l. (if party_of x == p then call_in x t else []) ++ l) (begun_by-append p xs ys ts us (cc)) ∙ sym (append_assoc (if party_of x == p then call_in x t else []) (begun_by p xs ts) (begun_by p ys us))
begun_by-append p [] ys (t ∷ ts) us same = cc
begun_by-append p (x ∷ xs) ys [] us same = cc

-- before the first call
pub prepared-first : (k : Kind) (parties : ℕ) (w : World (MemoryState ℕ) (Running ℕ)) → w ≡ opening_world k parties → IsPrepared k (opening_world k parties) [] w
prepared-first k parties w is = ([], record { alone = All-nil IsPreparing; begins = refl; rests = nobody_calls {X = Running ℕ} parties 0 }, is)

-- one call more
pub prepared-more : (k : Kind) (w v u : World (MemoryState ℕ) (Running ℕ)) (calls : List (Call ℕ)) (c : Call ℕ) → IsPrepared k w calls v → IsPrepared k v (c ∷ []) u → IsPrepared k w (calls ++ c ∷ []) u
prepared-more k w v u calls c one two =
    let xs = one.0 in
    let ys = two.0 in
    let there : v ≡ world_after k w xs = one.2 in
    let P : World (MemoryState ℕ) (Running ℕ) → Type 0 = λ x. Prepares k x (c ∷ []) ys in
    let from : Prepares k (world_after k w xs) (c ∷ []) ys = subst P there two.1 in (
      xs ++ ys,
      record {
        alone = All-append IsPreparing xs ys one.1.alone two.1.alone;
        begins = ap (λ l. begun_by 0 (xs ++ ys) l) (told_by-append (step_of k) (start_of k) xs ys w)
            ∙ begun_by-append 0 xs ys (told_of k w xs) (told_of k (world_after k w xs) ys) (told_by-length (step_of k) (start_of k) xs w)
            ∙ ap (λ l. l ++ begun_by 0 ys (told_of k (world_after k w xs) ys)) one.1.begins ∙ ap (λ l. calls ++ l) from.begins;
        rests = ap (λ x. call_at x 0) (world_by-append (step_of k) (start_of k) xs ys w) ∙ from.rests;
      },
      two.2 ∙ ap (λ x. world_after k x ys) there ∙ sym (world_by-append (step_of k) (start_of k) xs ys w),
    )

-- party 0, alone, is in this call, or has ended it, since w
pub record IsMaking (k : Kind) (w : World (MemoryState ℕ) (Running ℕ)) (c : Call ℕ) (v : World (MemoryState ℕ) (Running ℕ)) : Type 0 where
  pub events : List (Event ℕ)
  pub alone : All IsPreparing events
  pub begins : begun_by 0 events (told_of k w events) ≡ c ∷ []
  pub world : v ≡ world_after k w events

pub making-first : (k : Kind) (w : World (MemoryState ℕ) (Running ℕ)) (c : Call ℕ) (v : World (MemoryState ℕ) (Running ℕ)) (t : Told ℕ) (effect : Option EffectKind) (reply : Option (Reply ℕ))
    → v ≡ (event_of k true w (Begin 0 c)).0 → t ≡ (event_of k true w (Begin 0 c)).1 → t ≡ Ran effect reply → IsMaking k w c v
making-first k w c v t effect reply world told ran = record {
  events = Begin 0 c ∷ [];
  alone = All-cons IsPreparing (Begin 0 c) [] (refl, tt) (All-nil IsPreparing);
  begins = ap (λ x. call_in (Begin 0 c) x ++ []) (sym told ∙ ran);
  world = world;
}

pub making-next : (k : Kind) (w : World (MemoryState ℕ) (Running ℕ)) (c : Call ℕ) (v u : World (MemoryState ℕ) (Running ℕ)) → IsMaking k w c v → u ≡ (event_of k true v (Step 0 true)).0 → IsMaking k w c u
making-next k w c v u on world = record {
  events = on.events ++ Step 0 true ∷ [];
  alone = All-push IsPreparing on.events (Step 0 true) on.alone (refl, refl);
  begins = ap (λ l. begun_by 0 (on.events ++ Step 0 true ∷ []) l) (told_by-snoc (step_of k) (start_of k) on.events w (Step 0 true))
      ∙ begun_by-snoc 0 on.events (told_of k w on.events) (Step 0 true) (world_event (step_of k) (start_of k) (world_after k w on.events) true (Step 0 true)).1 (told_by-length (step_of k) (start_of k) on.events w)
      ∙ append-nil (begun_by 0 on.events (told_of k w on.events)) ∙ on.begins;
  world = world ∙ ap (λ x. (event_of k true x (Step 0 true)).0) on.world ∙ sym (world_by-snoc (step_of k) (start_of k) on.events w (Step 0 true));
}

pub making-done : (k : Kind) (w : World (MemoryState ℕ) (Running ℕ)) (c : Call ℕ) (v : World (MemoryState ℕ) (Running ℕ)) → IsMaking k w c v → call_at v 0 ≡ None → IsPrepared k w (c ∷ []) v
making-done k w c v on rests = (on.events, record { alone = on.alone; begins = on.begins; rests = ap (λ x. call_at x 0) (sym on.world) ∙ rests }, on.world)
