-- A program has no wait but those that each standing of a closed table shows.
use Rattle.std.proofs.Common.{◌≡◌, ◌∙◌, ℕ, ◌+◌, ◌<◌, ◌++◌, Bool, List, length, map, subst, sym, ap, arith, drop, take-append-drop, zero-add}
use Rattle.std.specs.{Prelude.Contains, Prelude.slice_index_or, List.All}
use Rattle.std.proofs.lemmas.List.{get_or-map, get_or_default, length-map, same_lists, Elements.All-contains}
use Rattle.queue_steps.specs.declared.{model.Call.Call, steps.types.Kind.Kind}
use Rattle.machine_steps.specs.{Left.opening_world, Steps.start_of, Steps.step_of, World.call_at}
use Rattle.machine_replay.specs.{Played.local_in, Played.told_of, Played.world_after, Replays.CanReplay}
use Rattle.machine_explore.specs.{Explored.begun_by, Explored.replies_by, Tables.IsClosed, Traces.IsWayOf, Traces.Seen, declared.schedule.Move.Move, declared.waiting.Side.Side, WaitTables.HasWaitsAt, WaitTables.WaitsThere, WaitTables.is_half_done_at, WaitTables.key_there}
use Rattle.machine_explore.specs.{Positions.Progress, Positions.Standing, Positions.calls_of, Positions.no_progress, Positions.progress_of, Waiting.HasNoOtherWait, Waiting.IsWaitOf, Waiting.Waiting, Waiting.side_at, Waiting.side_key, Waiting.wait_key}
use Rattle.machine_explore.proofs.{Halves.half_told, NoOther.arrives, NoOther.none_begun, NoOther.starts_there, Rounds.in_call, Starting.world_by-append}

same_progress : (g h : Progress ℕ) → g.begun ≡ h.begun → g.replies ≡ h.replies → g ≡ h
same_progress g h begun replies = ap (λ n. record { begun = n; replies = g.replies }) begun ∙ ap (λ l. record { begun = h.begun; replies = l }) replies

same_standing : (s t : Standing) → s.kind ≡ t.kind → s.world ≡ t.world → s.parties ≡ t.parties → s ≡ t
same_standing s t kind world parties =
    ap (λ k. record { kind = k; world = s.world; parties = s.parties }) kind ∙ ap (λ w. record { kind = t.kind; world = w; parties = s.parties }) world ∙ ap (λ l. record { kind = t.kind; world = t.world; parties = l }) parties

-- a closed table has each moment of a run
pub has_moment : (k : Kind) (refuses : Bool) (before : List (Call ℕ)) (calls : List (List (Call ℕ))) (table : List Standing) (schedule : List Move) (opening : List ℕ) (seen : List Seen) (at : Standing)
    → IsClosed k refuses before calls table → IsWayOf k refuses before calls schedule opening seen at → Contains table at
has_moment k refuses before calls table schedule opening seen at c way =
    let on = way.on in
    let w = way.start.world in
    let same : c.start.world ≡ w = starts_there k before (length calls) c.start way.starts.prepared.0 c.starts way.starts.prepared.1 ∙ sym way.starts.prepared.2 in
    let left : ℕ → List (Call ℕ) = λ p. drop (progress_of at p).begun (calls_of calls p) in
    let r = arrives k refuses before calls table left c w on.rest same on.grants (λ p h. ap (λ l. l ++ left p) (on.begins p h) ∙ take-append-drop (progress_of at p).begun (calls_of calls p)) in
    let world : r.0.world ≡ at.world = r.2.world ∙ ap (λ x. world_after k x on.rest) same ∙ sym on.world in
    let kind : r.0.kind ≡ at.kind = r.2.kind ∙ c.starts.kind ∙ sym on.kind in
    let begun : (p : ℕ) → p < length calls → (progress_of r.0 p).begun ≡ (progress_of at p).begun = λ p h.
    r.2.begun p h ∙ ap (λ (g : Progress ℕ). g.begun + length (begun_by p on.rest (told_of k c.start.world on.rest))) (none_begun k before (length calls) p c.start c.starts h) ∙ zero-add (length (begun_by p on.rest (told_of k c.start.world on.rest)))
    ∙ ap (λ x. length (begun_by p on.rest (told_of k x on.rest))) same ∙ on.counts p h in
    let replies : (p : ℕ) → p < length calls → (progress_of r.0 p).replies ≡ (progress_of at p).replies = λ p h.
    r.2.replies p h ∙ ap (λ (g : Progress ℕ). g.replies ++ replies_by p on.rest (told_of k c.start.world on.rest)) (none_begun k before (length calls) p c.start c.starts h) ∙ ap (λ x. replies_by p on.rest (told_of k x on.rest)) same ∙ on.replies p h in
    let count : length r.0.parties ≡ length at.parties = r.2.parties ∙ sym on.parties in
    let parties : r.0.parties ≡ at.parties = same_lists r.0.parties at.parties count
    (λ p d h.
    let inside : p < length calls = (let size = r.2.parties in omega (arith, h, size)) in
    let there : p < length at.parties = omega (arith, h, count) in
    get_or_default r.0.parties p d no_progress h ∙ same_progress (progress_of r.0 p) (progress_of at p) (begun p inside) (replies p inside) ∙ get_or_default at.parties p no_progress d there) in
    subst (λ x. Contains table x) (same_standing r.0 at kind world parties) r.1

-- as it was shown, so where the calls stand
waits_there : (k : Kind) (refuses : Bool) (before : List (Call ℕ)) (calls : List (List (Call ℕ))) (schedule : List Move) (x : Waiting) → CanReplay k → (h : IsWaitOf k refuses before calls schedule x) → WaitsThere calls h.at h.p h.q
waits_there k refuses before calls schedule x can h =
    let on = h.way.on in
    let first = h.way.starts.prepared.0 in
    let opening = opening_world k (length calls) in
    let world : world_after k opening (first ++ on.rest) ≡ h.at.world = world_by-append (step_of k) (start_of k) first on.rest opening ∙ ap (λ y. world_after k y on.rest) (sym h.way.starts.prepared.2) ∙ sym on.world in
    record {
      round = h.round;
      back = h.back;
      there = h.there;
      apart = h.apart;
      half = λ r below ne. ap (λ y. is_half_done_at (local_in (call_at y r))) (sym world) ∙ sym (half_told k (length calls) r (first ++ on.rest) can h.way.starts.small) ∙ h.half r below ne;
    }

pub no_other_wait : (k : Kind) (refuses : Bool) (before : List (Call ℕ)) (calls : List (List (Call ℕ))) (table : List Standing) (waits : List Waiting) → CanReplay k
    → IsClosed k refuses before calls table → All (HasWaitsAt calls (map wait_key waits)) table → HasNoOtherWait k refuses before calls waits
no_other_wait k refuses before calls table waits can c all schedule x h =
    let keys = map wait_key waits in
    let within = has_moment k refuses before calls table schedule h.opening x.seen h.at c h.way in
    let party : h.p < length calls = (let busy = in_call h.at.kind h.at.world h.p h.round in let size = h.way.on.calls_are in omega (arith, busy, size)) in
    let has = All-contains (HasWaitsAt calls keys) table h.at all within h.p party h.q (waits_there k refuses before calls schedule x can h) in
    let same : key_there calls h.at h.p h.q ≡ wait_key x = ap (λ (s : Side). (side_key s, side_key (side_at calls h.at h.q))) (sym h.waiter) ∙ ap (λ (s : Side). (side_key x.waiter, side_key s)) (sym h.other) in
    subst (λ y. Contains keys y) same has

-- what is made of an item is on the list of what is made of each
pub contains_made : {X Y Z : Type 0} (f : X → Y) (h : Y → Z) (xs : List X) (i : ℕ) (x : X) (z : Z) → i < length xs → x ≡ slice_index_or xs i x → h (f x) ≡ z → Contains (map h (map f xs)) z
contains_made f h xs i x z inside is same =
    let count = length-map xs f in
    let counts = length-map (map f xs) h in
    let first : i < length (map f xs) = omega (arith, inside, count) in
    let both : i < length (map h (map f xs)) = omega (arith, first, counts) in
    (i, both, get_or-map h (map f xs) i (f x) z first ∙ ap h (get_or-map f xs i x (f x) inside) ∙ ap (λ y. h (f y)) (sym is) ∙ same)
