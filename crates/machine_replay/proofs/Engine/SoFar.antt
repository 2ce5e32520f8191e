-- A run of the machine so far, and what is told of it. Whatever kind of queue it is, it keeps its laws.
use Rattle.std.proofs.Common.{ℕ, ◌+◌, ◌/◌, ◌<◌, ◌≤◌, ◌≡◌, ◌∙◌, Bool, Option, Some, None, is_none, List, [], ◌∷◌, ◌++◌, length, refl, sym, ap, subst, arith, append_assoc, append-nil}
use Rattle.std.proofs.lemmas.List.{length-replicate}
use Rattle.machine_replay.specs.{Vocabulary.Kind, Vocabulary.BLOCK_SLOTS, Vocabulary.Event, Vocabulary.Told, Vocabulary.Peak, Vocabulary.Running, Book.Book, Book.Run, Book.Happens, Book.opening, Conforms.capacity_of, Conforms.party_of, Conforms.entries_from, Conforms.IsPeak, Conforms.HasNoBlocks}
use Rattle.machine_replay.specs.{Conforms.share, Peaks.bound_of, Peaks.opening_peak, Peaks.peaked}
use Rattle.machine_memory.{specs.SharedMemory.MemoryState, specs.Present.present, proofs.Busy.nobody_calls, proofs.Busy.none_are_busy}
use Rattle.machine_steps.specs.{Steps.CanStep, Steps.step_of, Steps.start_of, Left.left_of, Left.opening_world, Machine.event_of, World.World, World.call_at}
use Rattle.machine_replay.proofs.Engine.Events as engine
use Rattle.machine_replay.proofs.{Engine.KindLaws.KindLaws, Engine.KindLaws.SimulatesBy, Replays.Growing.run-grows, Replays.Growing.run-cap, Replays.Growing.happens-grows, Replays.Peaking.Run-length, Replays.Peaking.peak-first, Replays.Peaking.peak-more, Replays.Peaking.peaked-covers}

-- a run goes on by one event
Run-more : {T : Type 0} (cap : Option ℕ) (parties : ℕ) (b : Book T) (es : List (Event T)) (ts : List (Told T)) (mid : Book T) (e : Event T) (t : Told T) (c : Book T)
    → Run cap parties b es ts mid → Happens cap parties mid e t c → Run cap parties b (es ++ e ∷ []) (ts ++ t ∷ []) c
Run-more cap parties b [] [] mid e t c run here = (c, subst (λ m. Happens cap parties m e t c) run here, refl)
Run-more cap parties b (x ∷ es) (y ∷ ts) mid e t c run here = (run.0, run.1, Run-more cap parties run.0 es ts mid e t c run.2 here)
Run-more cap parties b es ts mid e t c run here = absurd run

-- the entries of one event more
pub entries-more : {T E : Type 0} (entry : ℕ → ℕ → Told T → List E) (n k : ℕ) (es : List (Event T)) (ts : List (Told T)) (e : Event T) (t : Told T)
    → length es ≡ length ts → k ≡ n + length es → entries_from entry n (es ++ e ∷ []) (ts ++ t ∷ []) ≡ entries_from entry n es ts ++ entry k (party_of e) t
entries-more entry n k [] [] e t same is =
    let at : n ≡ k = omega arith in rw at (append-nil (entry k (party_of e) t))
entries-more entry n k (x ∷ es) (y ∷ ts) e t same is =
    ap (λ l. entry n (party_of x) y ++ l) (entries-more entry (n + 1) k es ts e t (cc) (omega arith)) ∙ sym (append_assoc (entry n (party_of x) y) (entries_from entry (n + 1) es ts) (entry k (party_of e) t))
entries-more entry n k es ts e t same is = cc

-- the entries of one event more, as a list of them has them
pub noted : {T E : Type 0} (entry : ℕ → ℕ → Told T → List E) (n p : ℕ) (past : List (Event T)) (told : List (Told T)) (e : Event T) (t : Told T) (xs ys : List E)
    → length past ≡ length told → n ≡ length past → p ≡ party_of e → xs ≡ entries_from entry 0 past told → ys ≡ xs ++ entry n p t → ys ≡ entries_from entry 0 (past ++ e ∷ []) (told ++ t ∷ [])
noted entry n p past told e t xs ys same number party before after =
    after ∙ ap (λ q. xs ++ entry n q t) party ∙ ap (λ l. l ++ entry n (party_of e) t) before ∙ sym (entries-more entry 0 n past told e t same (omega arith))

-- what is known after these events
pub record SoFar {T : Type 0} {k : Kind} (laws : KindLaws T k) (parties : ℕ) (past : List (Event T)) (told : List (Told T)) (w : World (MemoryState T) (Running T)) (peak : Peak) : Type 0 where
  pub book : Book T
  pub run : Run (capacity_of k) parties (opening (capacity_of k)) past told book
  pub simulates : SimulatesBy laws.rules parties w book
  pub highest : IsPeak (capacity_of k) parties past told peak
  pub no_blocks : HasNoBlocks (capacity_of k) peak
  pub covers : present w.shared.blocks ≤ peak.blocks

-- before the first event
pub so_far-first : {T : Type 0} {k : Kind} (laws : KindLaws T k) (parties : ℕ) → SoFar laws parties [] [] (opening_world k parties) opening_peak
so_far-first {T} {k} laws parties = record {
  book = opening (capacity_of k);
  run = refl;
  simulates = record {
    g = laws.rules.first;
    parties_are = length-replicate parties None;
    busy_is = sym (none_are_busy (Running T) parties);
    holds = laws.rules.opens;
    each = λ p. rw (nobody_calls {X = Running T} parties p) (laws.rules.all_idle p);
  };
  highest = peak-first (capacity_of k) parties;
  no_blocks = none-first (capacity_of k);
  covers = omega arith;
}
  where
    none-first : (cap : Option ℕ) → HasNoBlocks cap opening_peak
    none-first None = tt
    none-first (Some n) = (refl, refl)

-- the blocks of the machine, and the bound on them, are those of the book
bound-share : {T : Type 0} {k : Kind} (laws : KindLaws T k) (parties : ℕ) (w : World (MemoryState T) (Running T)) (b : Book T) → SimulatesBy laws.rules parties w b → 0 < present w.shared.blocks → bound_of w ≡ share b
bound-share laws parties w b sim some =
    let items = (laws.counts parties w b sim).held_is some in
    ap (λ n. n / BLOCK_SLOTS + 2 + present w.calls) items ∙ ap (λ n. length b.queue.items / BLOCK_SLOTS + 2 + n) (sym sim.busy_is)

-- with a capacity there is still no block
none-more : {T : Type 0} (cap : Option ℕ) (w : World (MemoryState T) (Running T)) (p : Peak) → ((n : ℕ) → cap ≡ Some n → present w.shared.blocks ≡ 0) → HasNoBlocks cap p → HasNoBlocks cap (peaked w p)
none-more None w p none h = tt
none-more (Some n) w p none h = rw (none n refl, h.0) (refl, h.1)

-- after one event more
pub so_far-more : {T : Type 0} {k : Kind} (laws : KindLaws T k) (parties : ℕ) (past : List (Event T)) (told : List (Told T)) (w : World (MemoryState T) (Running T)) (peak : Peak) (ok : Bool) (e : Event T)
    → SoFar laws parties past told w peak
    → SoFar laws parties (past ++ e ∷ []) (told ++ (event_of k ok w e).1 ∷ []) (event_of k ok w e).0 (peaked (event_of k ok w e).0 peak)
so_far-more {T} {k} laws parties past told w peak ok e s =
    let t = (event_of k ok w e).1 in
    let after = (event_of k ok w e).0 in
    let next = engine.simulates_event T (MemoryState T) (Running T) laws.rules.G (capacity_of k) (step_of k) (start_of k) (CanStep k) laws.rules.Holds laws.rules.Idle laws.rules.Fits laws.rules.laws parties w s.book s.simulates ok e in
    let same = Run-length (capacity_of k) parties (opening (capacity_of k)) past told s.book s.run in
    let run = Run-more (capacity_of k) parties (opening (capacity_of k)) past told s.book e t next.0 s.run next.1 in
    let counts = laws.counts parties after next.0 next.2 in
    record {
      book = next.0;
      run = run;
      simulates = next.2;
      highest = peak-more (capacity_of k) parties past told e t after next.0 peak same run s.highest counts.within (bound-share laws parties after next.0 next.2) counts.spans;
      no_blocks = none-more (capacity_of k) after peak (λ n capped. counts.none n (run-cap (capacity_of k) parties (opening (capacity_of k)) (past ++ e ∷ []) (told ++ t ∷ []) next.0 run ∙ capped)) s.no_blocks;
      covers = peaked-covers after peak;
    }

-- the next step of a call in progress can be taken
pub so_far-can : {T : Type 0} {k : Kind} (laws : KindLaws T k) (parties : ℕ) (past : List (Event T)) (told : List (Told T)) (w : World (MemoryState T) (Running T)) (peak : Peak)
    → SoFar laws parties past told w peak → (ok : Bool) (p : ℕ) (r : Running T) → call_at w p ≡ Some r → CanStep k ok w.shared r
so_far-can {T} {k} laws parties past told w peak s ok p r in_call =
    engine.can_take T (MemoryState T) (Running T) laws.rules.G (capacity_of k) (step_of k) (start_of k) (CanStep k) laws.rules.Holds laws.rules.Idle laws.rules.Fits laws.rules.laws parties w s.book s.simulates ok p r in_call

-- what is left is no more than the events
pub so_far-room : {T : Type 0} {k : Kind} (laws : KindLaws T k) (parties : ℕ) (past : List (Event T)) (told : List (Told T)) (w : World (MemoryState T) (Running T)) (peak : Peak)
    → SoFar laws parties past told w peak → length (left_of k w) ≤ length past
so_far-room {T} {k} laws parties past told w peak s =
    let left = ap (λ l. length l) (laws.leaves parties w s.book s.simulates) in
    omega (arith, left, run-grows (capacity_of k) parties (opening (capacity_of k)) past told s.book s.run)

-- and an event leaves one more at most
pub so_far-grows : {T : Type 0} {k : Kind} (laws : KindLaws T k) (parties : ℕ) (past : List (Event T)) (told : List (Told T)) (w : World (MemoryState T) (Running T)) (peak : Peak) (ok : Bool) (e : Event T)
    → SoFar laws parties past told w peak → length (left_of k (event_of k ok w e).0) ≤ length (left_of k w) + 1
so_far-grows {T} {k} laws parties past told w peak ok e s =
    let next = engine.simulates_event T (MemoryState T) (Running T) laws.rules.G (capacity_of k) (step_of k) (start_of k) (CanStep k) laws.rules.Holds laws.rules.Idle laws.rules.Fits laws.rules.laws parties w s.book s.simulates ok e in
    let before = ap (λ l. length l) (laws.leaves parties w s.book s.simulates) in
    let after = ap (λ l. length l) (laws.leaves parties (event_of k ok w e).0 next.0 next.2) in
    omega (arith, before, after, happens-grows (capacity_of k) parties s.book e (event_of k ok w e).1 next.0 next.1)

-- what is left is the list of the last book
pub so_far-left : {T : Type 0} {k : Kind} (laws : KindLaws T k) (parties : ℕ) (past : List (Event T)) (told : List (Told T)) (w : World (MemoryState T) (Running T)) (peak : Peak)
    → (s : SoFar laws parties past told w peak) → left_of k w ≡ s.book.queue.items
so_far-left laws parties past told w peak s = laws.leaves parties w s.book s.simulates

-- a party is in a call of the book just where it is in one of the machine
pub so_far-none : {T : Type 0} {k : Kind} (laws : KindLaws T k) (parties : ℕ) (past : List (Event T)) (told : List (Told T)) (w : World (MemoryState T) (Running T)) (peak : Peak)
    → (s : SoFar laws parties past told w peak) → (p : ℕ) → is_none (s.book.open_call p) ≡ is_none (call_at w p)
so_far-none {T} {k} laws parties past told w peak s p =
    engine.party_none T (MemoryState T) (Running T) laws.rules.G (capacity_of k) (step_of k) (start_of k) (CanStep k) laws.rules.Holds laws.rules.Idle laws.rules.Fits s.book.busy w.shared s.book.queue s.simulates.g p (call_at w p) (s.book.open_call p) (s.simulates.each p)
