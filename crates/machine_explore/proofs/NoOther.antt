-- A program has no outcome but those that a checked table has.
use Rattle.std.proofs.Common.{◌≡◌, ◌∙◌, ◌<◌, ◌++◌, ℕ, Bool, true, false, List, [], Ok, Err, Result, length, map, subst, sym, ap, append-nil, arith, drop, zero-add}
use Rattle.std.specs.{Prelude.slice_index_or, Prelude.Contains, Prelude.IfOk, List.All, List.range_with_len}
use Rattle.std.proofs.lemmas.List.{get_or-map, get_or-replicate, length-map, same_lists, Elements.All-contains, Elements.All-weaker, FromFn.get_or-map-range_with_len, FromFn.length-map-range_with_len}
use Rattle.queue_steps.specs.declared.{model.Call.Call, model.Reply.Reply, steps.types.Kind.Kind}
use Rattle.machine_steps.specs.{Left.left_of, Left.opening_world, Steps.start_of, Steps.step_of, World.World}
use Rattle.machine_memory.specs.{SharedMemory.MemoryState, declared.calls.Running.Running, declared.types.Event.Event}
use Rattle.machine_explore.specs.{Explored.HasNoOther, Explored.IsGranted, Explored.Prepares, Explored.begun_by, Explored.outcome_of, Explored.replies_by, Moves.led, Starts.IsStart, Tables.EndsAmong, Tables.IsClosed, Tables.IsInside, Tables.StaysForAll}
use Rattle.machine_explore.specs.Positions.{IsFinal, Outcome, Progress, Standing, calls_of, no_progress, outcome_at, progress_of}
use Rattle.machine_replay.specs.Played.{told_of, world_after}
use Rattle.machine_explore.proofs.{Preparing.PreparesBy, Preparing.prepared_once, Reaching.Arrives, Reaching.Begins, Reaching.reaches}

pub as_prepared : (k : Kind) (w : World (MemoryState ℕ) (Running ℕ)) (before : List (Call ℕ)) (events : List (Event ℕ)) → Prepares k w before events → PreparesBy (step_of k) (start_of k) w before events
as_prepared k w before events all = record { alone = all.alone; begins = all.begins; rests = all.rests }

-- a run starts where the check starts
pub starts_there : (k : Kind) (before : List (Call ℕ)) (parties : ℕ) (s : Standing) (first : List (Event ℕ)) → IsStart k before parties s → Prepares k (opening_world k parties) before first
    → s.world ≡ world_after k (opening_world k parties) first
starts_there k before parties s first start all =
    start.prepared.2 ∙ prepared_once (step_of k) (start_of k) start.prepared.0 first (opening_world k parties) before
    (as_prepared k (opening_world k parties) before start.prepared.0 start.prepared.1) (as_prepared k (opening_world k parties) before first all)

pub none_begun : (k : Kind) (before : List (Call ℕ)) (parties p : ℕ) (s : Standing) → IsStart k before parties s → p < parties → progress_of s p ≡ no_progress
none_begun k before parties p s start h = ap (λ l. slice_index_or l p no_progress) start.none_begun ∙ get_or-replicate parties p no_progress no_progress h

-- what a standing ends with, known by the events that led there
pub ends_with : (k : Kind) (calls : List (List (Call ℕ))) (w : World (MemoryState ℕ) (Running ℕ)) (rest : List (Event ℕ)) (end : Standing) → end.kind ≡ k → end.world ≡ world_after k w rest → length end.parties ≡ length calls
    → ((p : ℕ) → p < length calls → (progress_of end p).replies ≡ replies_by p rest (told_of k w rest)) → outcome_at end ≡ outcome_of k (length calls) w rest
ends_with k calls w rest end kind world parties replies =
    let told : ℕ → List (Reply ℕ) = λ p. replies_by p rest (told_of k w rest) in
    let shown : List (List (Reply ℕ)) = map (λ (g : Progress ℕ). g.replies) end.parties in
    let count : length shown ≡ length calls = length-map end.parties (λ (g : Progress ℕ). g.replies) ∙ parties in
    let lists : shown ≡ map told (range_with_len 0 (length calls)) = same_lists shown (map told (range_with_len 0 (length calls)))
    (count ∙ sym (length-map-range_with_len told 0 (length calls)))
    (λ p d h.
    let inside : p < length calls = omega (arith, h, count) in
    let there : p < length end.parties = omega (arith, inside, parties) in
    get_or-map (λ (g : Progress ℕ). g.replies) end.parties p no_progress d there ∙ replies p inside ∙ sym (get_or-map-range_with_len told 0 (length calls) p p d inside (zero-add p))) in
    let left : left_of end.kind end.world ≡ left_of k (world_after k w rest) = ap (λ x. left_of x end.world) kind ∙ ap (λ x. left_of k x) world in
    ap (λ l. record { replies = l; left = left_of end.kind end.world }) lists ∙ ap (λ l. record { replies = map told (range_with_len 0 (length calls)); left = l }) left

-- wherever the events of a run lead, begun where the table says, the table has it
pub arrives : (k : Kind) (refuses : Bool) (before : List (Call ℕ)) (calls : List (List (Call ℕ))) (table : List Standing) (left : ℕ → List (Call ℕ)) (c : IsClosed k refuses before calls table) (w : World (MemoryState ℕ) (Running ℕ)) (rest : List (Event ℕ))
    → c.start.world ≡ w → (refuses ≡ false → All IsGranted rest) → ((p : ℕ) → p < length calls → begun_by p rest (told_of k w rest) ++ left p ≡ calls_of calls p)
    → (end : Standing) × Contains table end × Arrives (step_of k) (start_of k) calls c.start rest end
arrives k refuses before calls table left c w rest same grants all =
    let here = All-contains (IsInside k refuses calls table) table c.start c.inside c.within in
    let closed = All-weaker (IsInside k refuses calls table) (StaysForAll (led k) refuses calls table)
    (λ (s : Standing) (x : IsInside k refuses calls table s). let P : Kind → Type 0 = λ y. StaysForAll (led y) refuses calls table s in subst P x.kind x.stays) table c.inside in
    let begins : Begins (step_of k) (start_of k) calls left c.start rest = λ p h.
    ap (λ x. begun_by p rest (told_of k x rest) ++ left p) same ∙ all p h ∙ ap (λ (g : Progress ℕ). drop g.begun (calls_of calls p)) (sym (none_begun k before (length calls) p c.start c.starts h)) in
    reaches (step_of k) (start_of k) calls left refuses table closed rest c.start c.within (record { parties = here.parties; calls_are = here.calls_are }) grants begins

pub no_other : (k : Kind) (refuses : Bool) (before : List (Call ℕ)) (calls : List (List (Call ℕ))) (table : List Standing) (outcomes : List (Outcome ℕ))
    → IsClosed k refuses before calls table → All (EndsAmong calls outcomes) table → HasNoOther k refuses before calls outcomes
no_other k refuses before calls table outcomes c ends first rest run =
    let start = c.start in
    let starts = c.starts in
    let w = world_after k (opening_world k (length calls)) first in
    let same = starts_there k before (length calls) start first starts run.prepares in
    let none : ℕ → List (Call ℕ) = λ p. [] in
    let r = arrives k refuses before calls table none c w rest same run.plays.grants (λ p h. append-nil (begun_by p rest (told_of k w rest)) ∙ run.plays.begins p h) in
    let world : r.0.world ≡ world_after k w rest = r.2.world ∙ ap (λ x. world_after k x rest) same in
    let replies : (p : ℕ) → p < length calls → (progress_of r.0 p).replies ≡ replies_by p rest (told_of k w rest) = λ p h.
    r.2.replies p h ∙ ap (λ (g : Progress ℕ). g.replies ++ replies_by p rest (told_of k start.world rest)) (none_begun k before (length calls) p start starts h) ∙ ap (λ x. replies_by p rest (told_of k x rest)) same in
    let final : IsFinal calls r.0 = λ p h. ap length (replies p h) ∙ run.plays.replies p h in
    let there = All-contains (EndsAmong calls outcomes) table r.0 ends r.1 final in
    subst (λ o. Contains outcomes o) (ends_with k calls w rest r.0 (r.2.kind ∙ starts.kind) world r.2.parties replies) there

-- where the check goes on to this, it says this
pub answered : {E : Type 0} (P Q : Type 0) (r : Result Bool E) → (P → Q) → IfOk r (λ yes. yes ≡ true → P) → IfOk r (λ yes. yes ≡ true → Q)
answered P Q (Ok b) f h = λ is. f (h is)
answered P Q (Err e) f h = tt

-- what is made of an item of a list is among what is made of all
pub contains_as : {X Y : Type 0} (f : X → Y) (xs : List X) (i : ℕ) (x : X) (y : Y) → i < length xs → x ≡ slice_index_or xs i x → y ≡ f x → Contains (map f xs) y
contains_as f xs i x y inside is same =
    let count = length-map xs f in
    (i, omega (arith, inside, count), get_or-map f xs i x y inside ∙ ap f (sym is) ∙ sym same)
