-- What a replay of a run ends with is the outcome of that run.
use Rattle.std.proofs.Common.{◌≡◌, ◌∙◌, ◌+◌, ◌<◌, ◌≤◌, ◌==◌, ◌&&◌, ◌++◌, ◌∷◌, [], ℕ, nat_lt, not, if◌then◌else◌, List, Some, None, length, map, refl, subst, sym, ap, arith, append_assoc, append-nil}
use Rattle.std.{specs.Prelude.Contains, specs.List.range_with_len, proofs.lemmas.Bool.le-ltb, proofs.lemmas.Bool.lt-ltb}
use Rattle.queue_steps.specs.declared.model.Reply.{Reply}
use Rattle.machine_steps.specs.{Left.left_of, Left.opening_world, Steps.start_of, Steps.step_of, World.World}
use Rattle.machine_memory.specs.{SharedMemory.MemoryState, declared.calls.Running.Running, declared.types.Event.Event, declared.types.Told.Told, declared.types.Told.TheVariants.Skipped, declared.types.Told.TheVariants.Ran}
use Rattle.machine_replay.{specs.Conforms.entries_from, specs.Conforms.party_of, specs.Conforms.reply_entry, specs.Played.told_of, specs.Played.world_after, proofs.Replays.Serving.served_is_exact}
use Rattle.machine_explore.specs.{Explored.outcome_of_run, Explored.replies_by, Listed.ReplaysAreListed, Listed.outcome_from, Listed.replies_from, Moves.reply_in, Positions.Outcome}
use Rattle.machine_explore.proofs.{Reaching.if-nothing, Showing.told_by-length, Starting.told_by-append, Starting.world_by-append}

entries-append : {T E : Type 0} (entry : ℕ → ℕ → Told T → List E) (n m : ℕ) (xs ys : List (Event T)) (ts us : List (Told T)) → length ts ≡ length xs → m ≡ n + length xs
    → entries_from entry n (xs ++ ys) (ts ++ us) ≡ entries_from entry n xs ts ++ entries_from entry m ys us
entries-append entry n m [] ys [] us same is = let at : n ≡ m = omega arith in rw at refl
entries-append entry n m (x ∷ xs) ys (t ∷ ts) us same is =
    ap (λ l. entry n (party_of x) t ++ l) (entries-append entry (n + 1) m xs ys ts us (cc) (omega arith)) ∙ sym (append_assoc (entry n (party_of x) t) (entries_from entry (n + 1) xs ts) (entries_from entry m ys us))
entries-append entry n m [] ys (t ∷ ts) us same is = cc
entries-append entry n m (x ∷ xs) ys [] us same is = cc

from-append : {T : Type 0} (n p : ℕ) (xs ys : List (ℕ × ℕ × Reply T)) → replies_from n p (xs ++ ys) ≡ replies_from n p xs ++ replies_from n p ys
from-append n p [] ys = refl
from-append {T} n p (x ∷ xs) ys =
    let own : List (Reply T) = if not (nat_lt x.0 n) && (x.1 == p) then x.2 ∷ [] else [] in
    ap (λ l. own ++ l) (from-append n p xs ys) ∙ sym (append_assoc own (replies_from n p xs) (replies_from n p ys))

-- an event before n adds nothing, and a later one adds its reply
one_early : {T : Type 0} (m n p q : ℕ) (t : Told T) → m < n → replies_from n p (reply_entry m q t) ≡ []
one_early m n p q Skipped early = refl
one_early m n p q (Ran k None) early = refl
one_early m n p q (Ran k (Some r)) early = rw (lt-ltb m n early) refl

one_late : {T : Type 0} (m n p q : ℕ) (t : Told T) → n ≤ m → replies_from n p (reply_entry m q t) ≡ (if q == p then reply_in t else [])
one_late m n p q Skipped late = sym (if-nothing (q == p))
one_late m n p q (Ran k None) late = sym (if-nothing (q == p))
one_late m n p q (Ran k (Some r)) late = rw (le-ltb m n late) (append-nil (if q == p then r ∷ [] else []))

early : {T : Type 0} (m n p : ℕ) (es : List (Event T)) (ts : List (Told T)) → m + length es ≤ n → replies_from n p (entries_from reply_entry m es ts) ≡ []
early m n p [] ts past = refl
early m n p (e ∷ es) [] past = refl
early m n p (e ∷ es) (t ∷ ts) past =
    from-append n p (reply_entry m (party_of e) t) (entries_from reply_entry (m + 1) es ts)
    ∙ ap (λ l. l ++ replies_from n p (entries_from reply_entry (m + 1) es ts)) (one_early m n p (party_of e) t (omega arith))
    ∙ early (m + 1) n p es ts (omega arith)

late : {T : Type 0} (m n p : ℕ) (es : List (Event T)) (ts : List (Told T)) → n ≤ m → replies_from n p (entries_from reply_entry m es ts) ≡ replies_by p es ts
late m n p [] ts past = refl
late m n p (e ∷ es) [] past = refl
late m n p (e ∷ es) (t ∷ ts) past =
    from-append n p (reply_entry m (party_of e) t) (entries_from reply_entry (m + 1) es ts)
    ∙ ap (λ l. l ++ replies_from n p (entries_from reply_entry (m + 1) es ts)) (one_late m n p (party_of e) t past)
    ∙ ap (λ l. (if party_of e == p then reply_in t else []) ++ l) (late (m + 1) n p es ts (omega arith))

map_alike : {X Y : Type 0} (f g : X → Y) (xs : List X) → ((x : X) → f x ≡ g x) → map f xs ≡ map g xs
map_alike f g [] alike = refl
map_alike f g (x ∷ xs) alike = ap (λ y. y ∷ map f xs) (alike x) ∙ ap (λ l. g x ∷ l) (map_alike f g xs alike)

pub replays_are_listed : {A : Type 0} → ReplaysAreListed A
replays_are_listed {A} k refuses before calls outcomes first rest r no_other run played served = subst (λ o. Contains outcomes o) (sym same) (no_other first rest run)
  where
    start : World (MemoryState ℕ) (Running ℕ)
    start = opening_world k (length calls)

    w : World (MemoryState ℕ) (Running ℕ)
    w = world_after k start first

    entries : r.replies.items ≡ entries_from reply_entry 0 first (told_of k start first) ++ entries_from reply_entry (length first) rest (told_of k w rest)
    entries =
        let counted = told_by-length (step_of k) (start_of k) first start in
        (served_is_exact k (length calls) (first ++ rest) r played served).replies
        ∙ ap (λ ts. entries_from reply_entry 0 (first ++ rest) ts) (told_by-append (step_of k) (start_of k) first rest start)
        ∙ entries-append reply_entry 0 (length first) first rest (told_of k start first) (told_of k w rest) counted (omega arith)

    replies : (p : ℕ) → replies_from (length first) p r.replies.items ≡ replies_by p rest (told_of k w rest)
    replies p =
        ap (λ l. replies_from (length first) p l) entries
        ∙ from-append (length first) p (entries_from reply_entry 0 first (told_of k start first)) (entries_from reply_entry (length first) rest (told_of k w rest))
        ∙ ap (λ l. l ++ replies_from (length first) p (entries_from reply_entry (length first) rest (told_of k w rest))) (early 0 (length first) p first (told_of k start first) (omega arith))
        ∙ late (length first) (length first) p rest (told_of k w rest) (omega arith)

    left : r.left.items ≡ left_of k (world_after k w rest)
    left = (served_is_exact k (length calls) (first ++ rest) r played served).left ∙ ap (λ x. left_of k x) (world_by-append (step_of k) (start_of k) first rest start)

    make : List (List (Reply ℕ)) → List ℕ → Outcome ℕ
    make replies left = record { replies = replies; left = left }

    same : outcome_from (length first) (length calls) r ≡ outcome_of_run k (length calls) first rest
    same =
        ap (λ l. make l r.left.items) (map_alike (λ p. replies_from (length first) p r.replies.items) (λ p. replies_by p rest (told_of k w rest)) (range_with_len 0 (length calls)) replies)
        ∙ ap (λ l. make (map (λ p. replies_by p rest (told_of k w rest)) (range_with_len 0 (length calls))) l) left
