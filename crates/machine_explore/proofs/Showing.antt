-- A schedule that goes on move by move is a run of the program.
use Rattle.std.proofs.Common.{◌≡◌, ◌≢◌, ◌∙◌, ◌+◌, ◌<◌, ◌==◌, ◌++◌, ◌∷◌, [], ℕ, zero, suc, Bool, true, false, if◌then◌else◌, ◌⊎◌, List, Option, Some, None, length, length-append, refl, subst, sym, ap, inl, inr, arith, append_assoc, append-nil, take}
use Rattle.std.specs.{Prelude.slice_get, Prelude.slice_index_or, List.All}
use Rattle.std.proofs.lemmas.{Bool.Decides.eqb_tells, List.length-replicate, List.length-set, List.take_more, List.take_all, List.Elements.All-nil, List.Elements.All-push, Slice.Zip.all_zipped_more}
use Rattle.queue_steps.specs.declared.{model.Call.Call, steps.types.Kind.Kind}
use Rattle.machine_replay.specs.{Conforms.party_of, Played.told_by, Played.told_of, Played.world_after, Played.world_by}
use Rattle.machine_steps.specs.{Left.left_of, Left.opening_world, Steps.start_of, Steps.step_of, World.Begun, World.StepOutcome, World.World, World.call_at, World.world_event}
use Rattle.machine_memory.specs.SharedMemory.{MemoryState}
use Rattle.machine_memory.specs.declared.{calls.Running.Running, types.Event.Event, types.Event.TheVariants.Begin, types.Event.TheVariants.Step, types.Told.Told, types.Told.TheVariants.Skipped, types.Told.TheVariants.Ran}
use Rattle.machine_explore.specs.{Certified.IsMove, Certified.IsTaken, Starts.IsStart, declared.schedule.Move.Move, Explored.IsGranted, Explored.begun_by, Explored.replies_by, Moves.advanced, Moves.call_in, Moves.event_at, Moves.event_for, Moves.led, Moves.reply_in}
use Rattle.machine_explore.specs.{Positions.IsFinal, Positions.Progress, Positions.Standing, Positions.calls_of, Positions.no_progress, Positions.outcome_at, Positions.progress_of, Traces.IsSeen, Traces.IsTraceOf, Traces.IsUnderWay, Traces.Seen, Traces.seen_at, Traces.trace_of}
use Rattle.machine_explore.proofs.{NoOther.ends_with, NoOther.none_begun, Taking.count_first, Taking.event_taken, Taking.same_count, Reaching.if-true, Reaching.if-false, Reaching.progress-other, Reaching.progress-own, Reaching.same_party}

-- one event more
module _ {S R T : Type 0} (step : Bool → S → R → StepOutcome S R T) (start : Call T → Begun R T) where
  pub world_by-snoc : (es : List (Event T)) (w : World S R) (e : Event T) → world_by step start w (es ++ e ∷ []) ≡ (world_event step start (world_by step start w es) true e).0
  world_by-snoc [] w e = refl
  world_by-snoc (x ∷ es) w e = world_by-snoc es (world_event step start w true x).0 e

  pub told_by-snoc : (es : List (Event T)) (w : World S R) (e : Event T) → told_by step start w (es ++ e ∷ []) ≡ told_by step start w es ++ (world_event step start (world_by step start w es) true e).1 ∷ []
  told_by-snoc [] w e = refl
  told_by-snoc (x ∷ es) w e = ap (λ l. (world_event step start w true x).1 ∷ l) (told_by-snoc es (world_event step start w true x).0 e)

  pub told_by-length : (es : List (Event T)) (w : World S R) → length (told_by step start w es) ≡ length es
  told_by-length [] w = refl
  told_by-length (x ∷ es) w = ap suc (told_by-length es (world_event step start w true x).0)

trace_of-snoc : (k : Kind) (es : List (Event ℕ)) (w : World (MemoryState ℕ) (Running ℕ)) (e : Event ℕ) → trace_of k w (es ++ e ∷ []) ≡ trace_of k w es ++ seen_at k (world_after k w es) e ∷ []
trace_of-snoc k [] w e = refl
trace_of-snoc k (x ∷ es) w e = ap (λ l. seen_at k w x ∷ l) (trace_of-snoc k es (world_event (step_of k) (start_of k) w true x).0 e)

pub begun_by-snoc : {T : Type 0} (p : ℕ) (es : List (Event T)) (ts : List (Told T)) (e : Event T) (t : Told T) → length ts ≡ length es
    → begun_by p (es ++ e ∷ []) (ts ++ t ∷ []) ≡ begun_by p es ts ++ (if party_of e == p then call_in e t else [])
begun_by-snoc p [] [] e t same = append-nil (if party_of e == p then call_in e t else [])
begun_by-snoc p (x ∷ es) (y ∷ ts) e t same =
    ap (λ l. (if party_of x == p then call_in x y else []) ++ l) (begun_by-snoc p es ts e t (cc))
    ∙ sym (append_assoc (if party_of x == p then call_in x y else []) (begun_by p es ts) (if party_of e == p then call_in e t else []))
begun_by-snoc p [] (y ∷ ts) e t same = cc
begun_by-snoc p (x ∷ es) [] e t same = cc

pub replies_by-snoc : {T : Type 0} (p : ℕ) (es : List (Event T)) (ts : List (Told T)) (e : Event T) (t : Told T) → length ts ≡ length es
    → replies_by p (es ++ e ∷ []) (ts ++ t ∷ []) ≡ replies_by p es ts ++ (if party_of e == p then reply_in t else [])
replies_by-snoc p [] [] e t same = append-nil (if party_of e == p then reply_in t else [])
replies_by-snoc p (x ∷ es) (y ∷ ts) e t same =
    ap (λ l. (if party_of x == p then reply_in y else []) ++ l) (replies_by-snoc p es ts e t (cc))
    ∙ sym (append_assoc (if party_of x == p then reply_in y else []) (replies_by p es ts) (if party_of e == p then reply_in t else []))
replies_by-snoc p [] (y ∷ ts) e t same = cc
replies_by-snoc p (x ∷ es) [] e t same = cc

there_is : {X : Type 0} (xs : List X) (i : ℕ) (x d : X) → slice_get xs i ≡ Some x → (i < length xs) × (slice_index_or xs i d ≡ x)
there_is [] i x d e = cc
there_is (y ∷ ys) zero x d e = (omega arith, cc)
there_is (y ∷ ys) (suc i) x d e = let h = there_is ys i x d e in (omega (arith, h.0), h.1)

take_next : {X : Type 0} (xs : List X) (i : ℕ) (x : X) → slice_get xs i ≡ Some x → take i xs ++ x ∷ [] ≡ take (i + 1) xs
take_next xs i x e = let h = there_is xs i x x e in sym (take_more xs i x h.0 ∙ ap (λ y. take i xs ++ y ∷ []) h.1)

-- what is so of the event by which a party goes on
record IsWay {T : Type 0} (p : ℕ) (granted : Bool) (next : Option (Call T)) (e : Event T) : Type 0 where
  party : party_of e ≡ p
  grants : granted ≡ true → IsGranted e
  begins : (t : Told T) → (call_in e t ≡ []) ⊎ ((c : Call T) × (call_in e t ≡ c ∷ []) × (next ≡ Some c))

is_way : {R T : Type 0} (p : ℕ) (granted : Bool) (o : Option R) (next : Option (Call T)) (e : Event T) → event_for p granted o next ≡ Some e → IsWay p granted next e
is_way {R} {T} p granted (Some r) next e is =
    let same : Step p granted ≡ e = cc in
    let P : Event T → Type 0 = λ x. IsWay p granted next x in
    subst P same (record { party = refl; grants = λ g. g; begins = λ t. inl refl })
is_way {R} {T} p granted None (Some c) e is =
    let same : Begin p c ≡ e = cc in
    let P : Event T → Type 0 = λ x. IsWay p granted (Some c) x in
    subst P same (record { party = refl; grants = λ g. tt; begins = λ t. by_told t })
  where
    by_told : (t : Told T) → (call_in (Begin p c) t ≡ []) ⊎ ((d : Call T) × (call_in (Begin p c) t ≡ d ∷ []) × (Some c ≡ Some d))
    by_told Skipped = inl refl
    by_told (Ran k r) = inr (c, refl, refl)
is_way p granted None None e is = cc

pub is_move : {R : Type 0} (m : Move) (o : Option R) (next : Option (Call ℕ)) (e : Event ℕ) → event_for m.party m.granted o next ≡ Some e → IsMove m e
is_move m (Some r) next e is = let same : Step m.party m.granted ≡ e = cc in let P : Event ℕ → Type 0 = λ x. IsMove m x in subst P same (refl, refl)
is_move m None (Some c) e is = let same : Begin m.party c ≡ e = cc in let P : Event ℕ → Type 0 = λ x. IsMove m x in subst P same refl
is_move m None None e is = cc

-- the calls begun, with those of one event more
begun_more : {T : Type 0} (calls : List (Call T)) (begun : ℕ) (more : List (Call T)) → (more ≡ []) ⊎ ((c : Call T) × (more ≡ c ∷ []) × (slice_get calls begun ≡ Some c)) → take begun calls ++ more ≡ take (begun + length more) calls
begun_more calls begun more (inl none) =
    let count : begun ≡ begun + length more = let empty = ap length none in omega (arith, empty) in
    ap (λ l. take begun calls ++ l) none ∙ append-nil (take begun calls) ∙ ap (λ n. take n calls) count
begun_more calls begun more (inr one) = ap (λ l. take begun calls ++ l) one.1 ∙ take_next calls begun one.0 one.2 ∙ ap (λ l. take (begun + length l) calls) (sym one.1)

-- before the first move
pub under_way-first : (k : Kind) (refuses : Bool) (before : List (Call ℕ)) (calls : List (List (Call ℕ))) (s : Standing) → IsStart k before (length calls) s → IsUnderWay k refuses calls s.world [] [] s
under_way-first k refuses before calls s start = record {
  rest = [];
  moves = tt;
  grants = λ h. All-nil IsGranted;
  taken = All-nil IsTaken;
  calls_are = count_first k before (length calls) s start;
  seen_are = refl;
  kind = start.kind;
  world = refl;
  parties = ap length start.none_begun ∙ length-replicate (length calls) no_progress;
  begins = λ p h. ap (λ (g : Progress ℕ). take g.begun (calls_of calls p)) (sym (none_begun k before (length calls) p s start h));
  counts = λ p h. ap (λ (g : Progress ℕ). g.begun) (sym (none_begun k before (length calls) p s start h));
  replies = λ p h. ap (λ (g : Progress ℕ). g.replies) (sym (none_begun k before (length calls) p s start h));
}

-- after one move more
pub under_way-next : (k : Kind) (refuses : Bool) (calls : List (List (Call ℕ))) (w : World (MemoryState ℕ) (Running ℕ)) (schedule : List Move) (seen : List Seen) (s : Standing) (m : Move) (e : Event ℕ)
    → IsUnderWay k refuses calls w schedule seen s → (refuses ≡ false → m.granted ≡ true) → event_at calls s m.party m.granted ≡ Some e → IsUnderWay k refuses calls w (schedule ++ m ∷ []) (seen ++ seen_at s.kind s.world e ∷ []) (led s.kind s e)
under_way-next k refuses calls w schedule seen s m e on may is = record {
  rest = on.rest ++ e ∷ [];
  moves = all_zipped_more IsMove schedule on.rest m e on.moves (is_move m (call_at s.world m.party) (slice_get (calls_of calls m.party) (progress_of s m.party).begun) e is);
  grants = λ h. All-push IsGranted on.rest e (on.grants h) (way.grants (may h));
  taken = subst (λ l. All IsTaken l) (sym told_more) (All-push IsTaken (told_of k w on.rest) t on.taken (event_taken (step_of s.kind) (start_of s.kind) calls s m.party m.granted e on.calls_are is));
  calls_are = same_count (step_of s.kind) (start_of s.kind) s.world e ∙ on.calls_are;
  seen_are = ap (λ l. l ++ seen_at s.kind s.world e ∷ []) on.seen_are ∙ ap (λ x. trace_of k w on.rest ++ x ∷ []) same_seen ∙ sym (trace_of-snoc k on.rest w e);
  kind = on.kind;
  world = ap (λ x. (world_event (step_of x) (start_of x) s.world true e).0) on.kind ∙ ap (λ x. (world_event (step_of k) (start_of k) x true e).0) on.world ∙ sym (world_by-snoc (step_of k) (start_of k) on.rest w e);
  parties = length-set s.parties (party_of e) _ ∙ on.parties;
  begins = λ p h. begun p h;
  counts = λ p h. counts_more p h;
  replies = λ p h. replied p h;
}
  where
    way : IsWay m.party m.granted (slice_get (calls_of calls m.party) (progress_of s m.party).begun) e
    way = is_way m.party m.granted (call_at s.world m.party) (slice_get (calls_of calls m.party) (progress_of s m.party).begun) e is

    t : Told ℕ
    t = (world_event (step_of s.kind) (start_of s.kind) s.world true e).1

    same_told : t ≡ (world_event (step_of k) (start_of k) (world_after k w on.rest) true e).1
    same_told = ap (λ x. (world_event (step_of x) (start_of x) s.world true e).1) on.kind ∙ ap (λ x. (world_event (step_of k) (start_of k) x true e).1) on.world

    same_seen : seen_at s.kind s.world e ≡ seen_at k (world_after k w on.rest) e
    same_seen = ap (λ x. seen_at x s.world e) on.kind ∙ ap (λ x. seen_at k x e) on.world

    told_more : told_of k w (on.rest ++ e ∷ []) ≡ told_of k w on.rest ++ t ∷ []
    told_more = told_by-snoc (step_of k) (start_of k) on.rest w e ∙ ap (λ x. told_of k w on.rest ++ x ∷ []) (sym same_told)

    counted : length (told_of k w on.rest) ≡ length on.rest
    counted = told_by-length (step_of k) (start_of k) on.rest w

    all_begun : (p : ℕ) → p < length calls → begun_by p (on.rest ++ e ∷ []) (told_of k w (on.rest ++ e ∷ [])) ≡ take (progress_of s p).begun (calls_of calls p) ++ (if party_of e == p then call_in e t else [])
    all_begun p h = ap (λ x. begun_by p (on.rest ++ e ∷ []) x) told_more ∙ begun_by-snoc p on.rest (told_of k w on.rest) e t counted ∙ ap (λ l. l ++ (if party_of e == p then call_in e t else [])) (on.begins p h)

    all_replied : (p : ℕ) → p < length calls → replies_by p (on.rest ++ e ∷ []) (told_of k w (on.rest ++ e ∷ [])) ≡ (progress_of s p).replies ++ (if party_of e == p then reply_in t else [])
    all_replied p h = ap (λ x. replies_by p (on.rest ++ e ∷ []) x) told_more ∙ replies_by-snoc p on.rest (told_of k w on.rest) e t counted ∙ ap (λ l. l ++ (if party_of e == p then reply_in t else [])) (on.replies p h)

    own_progress : party_of e < length calls → progress_of (led s.kind s e) (party_of e) ≡ advanced (progress_of s (party_of e)) e t
    own_progress h = let inside : party_of e < length s.parties = omega (arith, h, on.parties) in progress-own (step_of s.kind) (start_of s.kind) s e inside

    NextIs : Call ℕ → ℕ → Type 0
    NextIs c q = slice_get (calls_of calls q) (progress_of s q).begun ≡ Some c

    WayIs : ℕ → Type 0
    WayIs q = (call_in e t ≡ []) ⊎ ((c : Call ℕ) × (call_in e t ≡ c ∷ []) × NextIs c q)

    begins_own : WayIs (party_of e)
    begins_own = subst WayIs (sym way.party) (way.begins t)

    BegunGoal : ℕ → Type 0
    BegunGoal z = begun_by z (on.rest ++ e ∷ []) (told_of k w (on.rest ++ e ∷ [])) ≡ take (progress_of (led s.kind s e) z).begun (calls_of calls z)

    begun-own_party : party_of e < length calls → BegunGoal (party_of e)
    begun-own_party h =
        all_begun (party_of e) h
        ∙ ap (λ l. take (progress_of s (party_of e)).begun (calls_of calls (party_of e)) ++ l) (if-true (party_of e == party_of e) (call_in e t) [] (same_party (party_of e)))
        ∙ begun_more (calls_of calls (party_of e)) (progress_of s (party_of e)).begun (call_in e t) begins_own
        ∙ ap (λ (g : Progress ℕ). take g.begun (calls_of calls (party_of e))) (sym (own_progress h))

    begun-other_party : (q : ℕ) → q < length calls → (party_of e == q) ≡ false → party_of e ≢ q → BegunGoal q
    begun-other_party q h unequal other =
        all_begun q h
        ∙ ap (λ l. take (progress_of s q).begun (calls_of calls q) ++ l) (if-false (party_of e == q) (call_in e t) [] unequal)
        ∙ append-nil (take (progress_of s q).begun (calls_of calls q))
        ∙ ap (λ (g : Progress ℕ). take g.begun (calls_of calls q)) (sym (progress-other (step_of s.kind) (start_of s.kind) s e q other))

    all_counted : (p : ℕ) → p < length calls → length (begun_by p (on.rest ++ e ∷ []) (told_of k w (on.rest ++ e ∷ []))) ≡ (progress_of s p).begun + length (if party_of e == p then call_in e t else [])
    all_counted p h =
        ap (λ x. length (begun_by p (on.rest ++ e ∷ []) x)) told_more ∙ ap (λ l. length l) (begun_by-snoc p on.rest (told_of k w on.rest) e t counted)
        ∙ length-append (begun_by p on.rest (told_of k w on.rest)) (if party_of e == p then call_in e t else []) ∙ ap (λ n. n + length (if party_of e == p then call_in e t else [])) (on.counts p h)

    CountGoal : ℕ → Type 0
    CountGoal z = length (begun_by z (on.rest ++ e ∷ []) (told_of k w (on.rest ++ e ∷ []))) ≡ (progress_of (led s.kind s e) z).begun

    counts-own_party : party_of e < length calls → CountGoal (party_of e)
    counts-own_party h =
        all_counted (party_of e) h
        ∙ ap (λ l. (progress_of s (party_of e)).begun + length l) (if-true (party_of e == party_of e) (call_in e t) [] (same_party (party_of e)))
        ∙ ap (λ (g : Progress ℕ). g.begun) (sym (own_progress h))

    counts-other_party : (q : ℕ) → q < length calls → (party_of e == q) ≡ false → party_of e ≢ q → CountGoal q
    counts-other_party q h unequal other =
        let none : List (Call ℕ) = [] in
        let same : (progress_of s q).begun + length none ≡ (progress_of s q).begun = omega arith in
        all_counted q h
        ∙ ap (λ l. (progress_of s q).begun + length l) (if-false (party_of e == q) (call_in e t) [] unequal)
        ∙ same
        ∙ ap (λ (g : Progress ℕ). g.begun) (sym (progress-other (step_of s.kind) (start_of s.kind) s e q other))

    counts_more : (p : ℕ) → p < length calls → CountGoal p
    counts_more p h = elim (eqb_tells (party_of e) p) [ inl same ↦ subst CountGoal same.1 (counts-own_party (rw same.1 h)) | inr other ↦ counts-other_party p h other.0 other.1 ]

    RepliedGoal : ℕ → Type 0
    RepliedGoal z = replies_by z (on.rest ++ e ∷ []) (told_of k w (on.rest ++ e ∷ [])) ≡ (progress_of (led s.kind s e) z).replies

    replied-own_party : party_of e < length calls → RepliedGoal (party_of e)
    replied-own_party h =
        all_replied (party_of e) h
        ∙ ap (λ l. (progress_of s (party_of e)).replies ++ l) (if-true (party_of e == party_of e) (reply_in t) [] (same_party (party_of e)))
        ∙ ap (λ (g : Progress ℕ). g.replies) (sym (own_progress h))

    replied-other_party : (q : ℕ) → q < length calls → (party_of e == q) ≡ false → party_of e ≢ q → RepliedGoal q
    replied-other_party q h unequal other =
        all_replied q h
        ∙ ap (λ l. (progress_of s q).replies ++ l) (if-false (party_of e == q) (reply_in t) [] unequal)
        ∙ append-nil (progress_of s q).replies
        ∙ ap (λ (g : Progress ℕ). g.replies) (sym (progress-other (step_of s.kind) (start_of s.kind) s e q other))

    begun : (p : ℕ) → p < length calls → begun_by p (on.rest ++ e ∷ []) (told_of k w (on.rest ++ e ∷ [])) ≡ take (progress_of (led s.kind s e) p).begun (calls_of calls p)
    begun p h = elim (eqb_tells (party_of e) p) [ inl same ↦ subst BegunGoal same.1 (begun-own_party (rw same.1 h)) | inr other ↦ begun-other_party p h other.0 other.1 ]

    replied : (p : ℕ) → p < length calls → replies_by p (on.rest ++ e ∷ []) (told_of k w (on.rest ++ e ∷ [])) ≡ (progress_of (led s.kind s e) p).replies
    replied p h = elim (eqb_tells (party_of e) p) [ inl same ↦ subst RepliedGoal same.1 (replied-own_party (rw same.1 h)) | inr other ↦ replied-other_party p h other.0 other.1 ]

-- after one move more, of which this is seen
pub under_way-seen : (k : Kind) (refuses : Bool) (calls : List (List (Call ℕ))) (w : World (MemoryState ℕ) (Running ℕ)) (schedule : List Move) (seen : List Seen) (s later : Standing) (m : Move) (x : Seen)
    → IsUnderWay k refuses calls w schedule seen s → (refuses ≡ false → m.granted ≡ true) → IsSeen calls s m x later → IsUnderWay k refuses calls w (schedule ++ m ∷ []) (seen ++ x ∷ []) later
under_way-seen k refuses calls w schedule seen s later m x on may is =
    let P : Seen → Standing → Type 0 = λ y z. IsUnderWay k refuses calls w (schedule ++ m ∷ []) (seen ++ y ∷ []) z in
    let next : P (seen_at s.kind s.world x.event) (led s.kind s x.event) = under_way-next k refuses calls w schedule seen s m x.event on may is.event in
    subst (λ z. P x z) (sym is.leads) (subst (λ y. P y (led s.kind s x.event)) (sym is.seen) next)

-- the whole schedule shows its outcome
pub shows : (k : Kind) (refuses : Bool) (before : List (Call ℕ)) (calls : List (List (Call ℕ))) (schedule : List Move) (seen : List Seen) (start end : Standing) → IsStart k before (length calls) start → IsUnderWay k refuses calls start.world schedule seen end
    → ((p : ℕ) → p < length calls → (progress_of end p).begun ≡ length (calls_of calls p)) → IsFinal calls end → IsTraceOf k refuses before calls schedule (record { opening = left_of k start.world; seen = seen; outcome = outcome_at end })
shows k refuses before calls schedule seen start end starts on begun final =
    let first = starts.prepared.0 in
    let w = world_after k (opening_world k (length calls)) first in
    let same : start.world ≡ w = starts.prepared.2 in
    let P : World (MemoryState ℕ) (Running ℕ) → Type 0 = λ x. IsUnderWay k refuses calls x schedule seen end in
    let from : IsUnderWay k refuses calls w schedule seen end = subst P same on in
    record {
      of = record {
        first = first;
        rest = from.rest;
        run = record {
          prepares = starts.prepared.1;
          plays = record {
            grants = from.grants;
            begins = λ p h. from.begins p h ∙ ap (λ n. take n (calls_of calls p)) (begun p h) ∙ take_all (length (calls_of calls p)) (calls_of calls p) (omega arith);
            replies = λ p h. ap length (from.replies p h) ∙ final p h;
          };
        };
        moves = from.moves;
        taken = from.taken;
        outcome = ends_with k calls w from.rest end from.kind from.world from.parties (λ p h. sym (from.replies p h));
      };
      opening = ap (λ x. left_of k x) same;
      seen = from.seen_are;
    }

-- whose event it is
pub event_party : (calls : List (List (Call ℕ))) (s : Standing) (p : ℕ) (granted : Bool) (e : Event ℕ) → event_at calls s p granted ≡ Some e → party_of e ≡ p
event_party calls s p granted e is = (is_way p granted (call_at s.world p) (slice_get (calls_of calls p) (progress_of s p).begun) e is).party
