-- The eventcounts of a channel count what its queue has, in every run.
use Rattle.std.proofs.Common.{◌≡◌, ◌⊎◌, inl, inr, ℕ, zero, suc, ◌+◌, ◌≤◌, Bool, true, false, Option, Some, None, List, [], ◌∷◌, length, refl, sym, ap, ◌∙◌, subst, arith, eqb-true, length-append}
use Rattle.std.proofs.lemmas.Bool.{eqb-false}
use Rattle.queue_steps.specs.{State.State, State.fills, State.is_full, Effect.Fits, Effect.made, Effect.rest, Effect.with_coming}
use Rattle.queue_laws.specs.Common.Vocabulary.{Effect}
use Rattle.event_count.specs.Sleep.World.{World, run}
use Rattle.event_count.specs.Sleep.World as wakes
use Rattle.law_channel.specs.Machine.{Items, Room, Channel, places, open_channel, Event, Steps, Rises, Prepares, Leaves, Fails, FindsClosed, Acts, TellsAgain, IsAt, is_free, MayAct, takes_place, MayHappen, happens, Runs, after_from}
use Rattle.law_channel.{specs.Laws.on_way, specs.Laws.taken, proofs.Marks.Marked, proofs.Marks.start_marked, proofs.Marks.marked_on, proofs.Sides.Became}
use Rattle.law_channel.proofs.Sides as sides

-- all are notified for the first time by whoever closes the queue
abbrev pub Timed : Bool → ℕ → Type 0
Timed true times = 1 ≤ times
Timed false times = times ≡ 0

-- what is not taken is free, while the queue is open
abbrev pub Roomy : Bool → Option ℕ → ℕ → ℕ → Type 0
Roomy false (Some capacity) taken free = free + taken ≡ capacity
Roomy closed cap taken free = Unit {0}

-- who waits for items looked while the queue was open
abbrev pub Early : ℕ → Type 0
Early mark = mark ≡ 0

-- who waits for room looked while the queue was open, and it has a capacity
abbrev pub EarlyIn : Option ℕ → ℕ → Type 0
EarlyIn cap mark = (mark ≡ 0) × (capacity : ℕ) × (cap ≡ Some capacity)

pub record Linked {T : Type 0} (c : Channel T) : Type 0 where
  pub items : c.items.items ≡ length c.queue.items
  pub room : Roomy c.queue.closed c.queue.cap (taken c.queue) c.room.items
  pub items_times : Timed c.queue.closed c.items.times
  pub room_times : Timed c.queue.closed c.room.times
  pub items_marked : Marked Early (c.queue.closed ≡ true) c.items.parties
  pub room_marked : Marked (EarlyIn c.queue.cap) (c.queue.closed ≡ true) c.room.parties

timed_on : (closed : Bool) (n m : ℕ) → m ≡ n → Timed closed n → Timed closed m
timed_on true n m same t = omega (arith, same, t)
timed_on false n m same t = omega (arith, same, t)

roomy_on : (closed : Bool) (cap : Option ℕ) (n r n' r' : ℕ) → r' + n' ≡ r + n → Roomy closed cap n r → Roomy closed cap n' r'
roomy_on true cap n r n' r' same h = tt
roomy_on false None n r n' r' same h = tt
roomy_on false (Some capacity) n r n' r' same h = omega (arith, same, h)

roomy_closed : (closed : Bool) (cap : Option ℕ) (n r : ℕ) → closed ≡ true → Roomy closed cap n r
roomy_closed true cap n r is = tt
roomy_closed false cap n r is = absurd (cc)

-- without a capacity nothing is said of room
unlimited : (closed : Bool) (cap : Option ℕ) (n r : ℕ) → cap ≡ None → Roomy closed cap n r
unlimited true cap n r is = tt
unlimited false None n r is = tt
unlimited false (Some capacity) n r is = absurd (cc)

nat_zero_or : (n : ℕ) → (n ≡ 0) ⊎ (1 ≤ n)
nat_zero_or zero = inl refl
nat_zero_or (suc n) = inr (omega arith)

roomy_start : (cap : Option ℕ) → Roomy false cap 0 (places cap)
roomy_start None = tt
roomy_start (Some capacity) = omega arith

module _ {T : Type 0} where
  front_counts : (xs others : List T) (v : T) → xs ≡ v ∷ others → length xs ≡ length (rest xs) + 1
  front_counts xs others v is = rw is (omega arith)

  coming_counts : (xs : List T) (v : T) (o : Option T) → o ≡ Some v → length (with_coming xs o) ≡ length xs + 1
  coming_counts xs v o is = ap (λ (p : Option T). length (with_coming xs p)) is ∙ length-append xs (v ∷ [])

  on_way_none : (o : Option T) → o ≡ None → on_way o ≡ 0
  on_way_none o is = ap on_way is

  on_way_some : (o : Option T) (v : T) → o ≡ Some v → on_way o ≡ 1
  on_way_some o v is = ap on_way is

  -- an append finds room
  has_room : (closed : Bool) (cap : Option ℕ) (n r : ℕ) (coming : Option T) (capacity : ℕ) → closed ≡ false → cap ≡ Some capacity → coming ≡ None → fills cap n ≡ false → Roomy closed cap (n + on_way coming) r → 1 ≤ r
  has_room true cap n r coming capacity opened is none more h = absurd (cc)
  has_room false None n r coming capacity opened is none more h = absurd (cc)
  has_room false (Some c) n r coming capacity opened is none more h =
      let on = on_way_none coming none in let ne = eqb-false n c more in
      elim (nat_zero_or r) [ inl none_free ↦ absurd (ne (omega (arith, h, on, none_free))) | inr some ↦ some ]

  -- a full queue has none
  no_room : (closed : Bool) (cap : Option ℕ) (n r : ℕ) (coming : Option T) → closed ≡ false → fills cap n ≡ true → Roomy closed cap (n + on_way coming) r → (r ≡ 0) × (capacity : ℕ) × (cap ≡ Some capacity)
  no_room true cap n r coming opened is h = absurd (cc)
  no_room false None n r coming opened is h = absurd (cc)
  no_room false (Some c) n r coming opened is h = (let same = eqb-true n c is in omega (arith, h, same), c, refl)

  module _ (c : Channel T) (h : Linked c) where
    -- only the eventcount of receivers changes, and counts the same
    on_items : (u : World) → Became Early (c.queue.closed ≡ true) c.items u 0 0 0 → Linked (record { queue = c.queue; items = u; room = c.room })
    on_items u b = record {
      items = (let a = b.items in let was = h.items in omega (arith, a, was));
      room = h.room;
      items_times = timed_on c.queue.closed c.items.times u.times (let a = b.times in omega (arith, a)) h.items_times;
      room_times = h.room_times;
      items_marked = b.marked;
      room_marked = h.room_marked;
    }

    -- only that of senders
    on_room : (v : World) → Became (EarlyIn c.queue.cap) (c.queue.closed ≡ true) c.room v 0 0 0 → Linked (record { queue = c.queue; items = c.items; room = v })
    on_room v b = record {
      items = h.items;
      room = roomy_on c.queue.closed c.queue.cap (taken c.queue) c.room.items (taken c.queue) v.items (let a = b.items in omega (arith, a)) h.room;
      items_times = h.items_times;
      room_times = timed_on c.queue.closed c.room.times v.times (let a = b.times in omega (arith, a)) h.room_times;
      items_marked = h.items_marked;
      room_marked = b.marked;
    }

    fails_items : (k : ℕ) → c.queue.items ≡ [] → c.queue.closed ≡ false → Linked (happens c (Fails Items k))
    fails_items k none opened =
        let was = h.items in let no : length c.queue.items ≡ 0 = ap (λ (xs : List T). length xs) none in
        on_items (wakes.happens c.items (wakes.Looks k)) (sides.fails Early (c.queue.closed ≡ true) c.items k h.items_marked (omega (arith, was, no)) (subst (λ b. Timed b c.items.times) opened h.items_times))

    fails_room : (k : ℕ) → is_full c.queue ≡ true → c.queue.closed ≡ false → Linked (happens c (Fails Room k))
    fails_room k full opened =
        let no = no_room c.queue.closed c.queue.cap (length c.queue.items) c.room.items c.queue.coming opened full h.room in
        on_room (wakes.happens c.room (wakes.Looks k)) (sides.fails (EarlyIn c.queue.cap) (c.queue.closed ≡ true) c.room k h.room_marked no.0 (subst (λ b. Timed b c.room.times) opened h.room_times, no.1, no.2))

    ends_items : (k : ℕ) → c.queue.items ≡ [] → Linked (happens c (FindsClosed Items k))
    ends_items k none =
        let was = h.items in let no : length c.queue.items ≡ 0 = ap (λ (xs : List T). length xs) none in
        on_items (run (wakes.Leaves k ∷ wakes.Looks k ∷ []) c.items) (sides.ends_it Early (c.queue.closed ≡ true) c.items k h.items_marked (omega (arith, was, no)))

    ends_room : (k : ℕ) → c.queue.closed ≡ true → Linked (happens c (FindsClosed Room k))
    ends_room k closed =
        let v = run (wakes.Leaves k ∷ wakes.Looks k ∷ []) c.room in
        record {
          items = h.items;
          room = roomy_closed c.queue.closed c.queue.cap (taken c.queue) v.items closed;
          items_times = h.items_times;
          room_times = timed_on c.queue.closed c.room.times v.times (sides.ends_times (EarlyIn c.queue.cap) (c.queue.closed ≡ true) c.room k h.room_marked) h.room_times;
          items_marked = h.items_marked;
          room_marked = sides.ends_marked (EarlyIn c.queue.cap) (c.queue.closed ≡ true) c.room k h.room_marked;
        }

    -- the queue is Q, of the same capacity, and as closed as before
    becomes : (Q : State T) (u v : World) (more less more' less' : ℕ) → Became Early (c.queue.closed ≡ true) c.items u more less 0 → Became (EarlyIn c.queue.cap) (c.queue.closed ≡ true) c.room v more' less' 0
        → Q.cap ≡ c.queue.cap → Q.closed ≡ c.queue.closed → length Q.items + less ≡ length c.queue.items + more
        → Roomy c.queue.closed c.queue.cap (taken Q) v.items → Linked (record { queue = Q; items = u; room = v })
    becomes Q u v more less more' less' a b cap closed counts room = record {
      items = (let was = h.items in let is = a.items in omega (arith, was, is, counts));
      room = subst (λ o. Roomy Q.closed o (taken Q) v.items) (sym cap) (subst (λ o. Roomy o c.queue.cap (taken Q) v.items) (sym closed) room);
      items_times = subst (λ o. Timed o u.times) (sym closed) (timed_on c.queue.closed c.items.times u.times (let is = a.times in omega (arith, is)) h.items_times);
      room_times = subst (λ o. Timed o v.times) (sym closed) (timed_on c.queue.closed c.room.times v.times (let is = b.times in omega (arith, is)) h.room_times);
      items_marked = subst (λ o. Marked Early (o ≡ true) u.parties) (sym closed) a.marked;
      room_marked = subst (λ o. Marked (EarlyIn o) (Q.closed ≡ true) v.parties) (sym cap) (subst (λ o. Marked (EarlyIn c.queue.cap) (o ≡ true) v.parties) (sym closed) b.marked);
    }

    -- all are notified of a queue that is closed
    told : (Q : State T) (u v : World) → Became Early (Q.closed ≡ true) c.items u 0 0 1 → Became (EarlyIn c.queue.cap) (Q.closed ≡ true) c.room v 0 0 1
        → Q.cap ≡ c.queue.cap → Q.closed ≡ true → Q.items ≡ c.queue.items → Linked (record { queue = Q; items = u; room = v })
    told Q u v a b cap closed same = record {
      items = (let was = h.items in let is = a.items in let counts : length Q.items ≡ length c.queue.items = ap (λ (xs : List T). length xs) same in omega (arith, was, is, counts));
      room = roomy_closed Q.closed Q.cap (taken Q) v.items closed;
      items_times = subst (λ o. Timed o u.times) (sym closed) (let is = a.times in omega (arith, is));
      room_times = subst (λ o. Timed o v.times) (sym closed) (let is = b.times in omega (arith, is));
      items_marked = a.marked;
      room_marked = subst (λ o. Marked (EarlyIn o) (Q.closed ≡ true) v.parties) (sym cap) b.marked;
    }

    closes : (k : ℕ) (Q : State T) → Q.cap ≡ c.queue.cap → Q.closed ≡ true → Q.items ≡ c.queue.items → IsAt is_free c.items k → IsAt is_free c.room k
        → Linked (record { queue = Q; items = run (wakes.Leaves k ∷ wakes.Tells k ∷ []) c.items; room = run (wakes.Leaves k ∷ wakes.Tells k ∷ []) c.room })
    closes k Q cap closed same receiver sender =
        let E = Q.closed ≡ true in
        let receivers = marked_on Early (c.queue.closed ≡ true) E (λ was. closed) c.items.parties h.items_marked in
        let senders = marked_on (EarlyIn c.queue.cap) (c.queue.closed ≡ true) E (λ was. closed) c.room.parties h.room_marked in
        told Q (run (wakes.Leaves k ∷ wakes.Tells k ∷ []) c.items) (run (wakes.Leaves k ∷ wakes.Tells k ∷ []) c.room)
        (sides.free_tells Early E c.items k receivers closed receiver) (sides.free_tells (EarlyIn c.queue.cap) E c.room k senders closed sender) cap closed same

    some_item : (v : T) (others : List T) → c.queue.items ≡ v ∷ others → 1 ≤ c.items.items
    some_item v others is = let was = h.items in let one = front_counts c.queue.items others v is in omega (arith, was, one)

    append_in : (k : ℕ) (v : T) (o : Option ℕ) → c.queue.cap ≡ o → Fits (Effect.Append v) c.queue → MayAct c k (Effect.Append v)
        → Linked (record { queue = made (Effect.Append v) c.queue; items = run (wakes.Leaves k ∷ wakes.Gives k ∷ []) c.items; room = run (takes_place o k) c.room })
    append_in k v None is f may =
        let Q = made (Effect.Append v) c.queue in let u = run (wakes.Leaves k ∷ wakes.Gives k ∷ []) c.items in let r = wakes.happens c.room (wakes.Leaves k) in
        let b = sides.leaves_it (EarlyIn c.queue.cap) (c.queue.closed ≡ true) c.room k h.room_marked in
        becomes Q u r 1 0 0 0 (sides.free_gives Early (c.queue.closed ≡ true) c.items k h.items_marked may.0) b refl refl (let more = length-append c.queue.items (v ∷ []) in omega (arith, more))
        (unlimited c.queue.closed c.queue.cap (taken Q) r.items is)
    append_in k v (Some capacity) is f may =
        let Q = made (Effect.Append v) c.queue in let u = run (wakes.Leaves k ∷ wakes.Gives k ∷ []) c.items in let r = wakes.happens c.room (wakes.Looks k) in
        let some = has_room c.queue.closed c.queue.cap (length c.queue.items) c.room.items c.queue.coming capacity f.0 is f.1 f.2 h.room in
        let b = sides.tries_it (EarlyIn c.queue.cap) (c.queue.closed ≡ true) c.room k h.room_marked some may.1 in
        let more = length-append c.queue.items (v ∷ []) in
        becomes Q u r 1 0 0 1 (sides.free_gives Early (c.queue.closed ≡ true) c.items k h.items_marked may.0) b refl refl (omega (arith, more))
        (roomy_on c.queue.closed c.queue.cap (taken c.queue) c.room.items (taken Q) r.items (let less = b.items in omega (arith, less, more)) h.room)

    acts_link : (k : ℕ) (e : Effect T) → Fits e c.queue → MayAct c k e → Linked (happens c (Acts k e))
    acts_link k (Effect.Append v) f may = append_in k v c.queue.cap refl f may
    acts_link k (Effect.Take v) f may =
        let Q = made (Effect.Take v) c.queue in let u = wakes.happens c.items (wakes.Looks k) in let r = run (wakes.Leaves k ∷ wakes.Gives k ∷ []) c.room in
        let b = sides.free_gives (EarlyIn c.queue.cap) (c.queue.closed ≡ true) c.room k h.room_marked may.1 in
        let one = front_counts c.queue.items f.0 v f.1 in
        becomes Q u r 0 1 1 0 (sides.tries_it Early (c.queue.closed ≡ true) c.items k h.items_marked (some_item v f.0 f.1) may.0) b refl refl (omega (arith, one))
        (roomy_on c.queue.closed c.queue.cap (taken c.queue) c.room.items (taken Q) r.items (let more = b.items in omega (arith, more, one)) h.room)
    acts_link k (Effect.Replace old v) f may =
        let Q = made (Effect.Replace old v) c.queue in let u = run (wakes.Looks k ∷ wakes.Gives k ∷ []) c.items in let r = wakes.happens c.room (wakes.Leaves k) in
        let b = sides.leaves_it (EarlyIn c.queue.cap) (c.queue.closed ≡ true) c.room k h.room_marked in
        let one : length c.queue.items ≡ 1 = ap (λ (xs : List T). length xs) f.2 in
        becomes Q u r 0 0 0 0 (sides.tries_and_gives Early (c.queue.closed ≡ true) c.items k h.items_marked (some_item old [] f.2) may.0) b refl refl (omega (arith, one))
        (roomy_on c.queue.closed c.queue.cap (taken c.queue) c.room.items (taken Q) r.items (let same = b.items in omega (arith, same, one)) h.room)
    acts_link k (Effect.Front old v) f may =
        let Q = made (Effect.Front old v) c.queue in let u = wakes.happens c.items (wakes.Looks k) in let r = wakes.happens c.room (wakes.Leaves k) in
        let b = sides.leaves_it (EarlyIn c.queue.cap) (c.queue.closed ≡ true) c.room k h.room_marked in
        let one = front_counts c.queue.items f.4.0 old f.4.1 in let none = on_way_none c.queue.coming f.2 in
        becomes Q u r 0 1 0 0 (sides.tries_it Early (c.queue.closed ≡ true) c.items k h.items_marked (some_item old f.4.0 f.4.1) may.0) b refl refl (omega (arith, one))
        (roomy_on c.queue.closed c.queue.cap (taken c.queue) c.room.items (taken Q) r.items (let same = b.items in omega (arith, same, one, none)) h.room)
    acts_link k Effect.Arrive f may =
        let Q = made Effect.Arrive c.queue in let u = run (wakes.Leaves k ∷ wakes.Gives k ∷ []) c.items in let r = wakes.happens c.room (wakes.Leaves k) in
        let b = sides.leaves_it (EarlyIn c.queue.cap) (c.queue.closed ≡ true) c.room k h.room_marked in
        let one = coming_counts c.queue.items f.0 c.queue.coming f.1 in let some = on_way_some c.queue.coming f.0 f.1 in
        becomes Q u r 1 0 0 0 (sides.free_gives Early (c.queue.closed ≡ true) c.items k h.items_marked may.0) b refl refl (omega (arith, one))
        (roomy_on c.queue.closed c.queue.cap (taken c.queue) c.room.items (taken Q) r.items (let same = b.items in omega (arith, same, one, some)) h.room)
    acts_link k Effect.Close f may = closes k (made Effect.Close c.queue) refl refl refl may.0 may.1
    acts_link k Effect.SelfClose f may = closes k (made Effect.SelfClose c.queue) refl refl refl may.0 may.1

    pub link_on : (e : Event T) → MayHappen c e → Linked (happens c e)
    link_on (Steps Items k j) may = on_items (wakes.happens c.items (wakes.Steps k j)) (sides.steps Early (c.queue.closed ≡ true) c.items k h.items_marked j)
    link_on (Steps Room k j) may = on_room (wakes.happens c.room (wakes.Steps k j)) (sides.steps (EarlyIn c.queue.cap) (c.queue.closed ≡ true) c.room k h.room_marked j)
    link_on (Rises Items k) may = on_items (wakes.happens c.items (wakes.Rises k)) (sides.rises_up Early (c.queue.closed ≡ true) c.items k h.items_marked)
    link_on (Rises Room k) may = on_room (wakes.happens c.room (wakes.Rises k)) (sides.rises_up (EarlyIn c.queue.cap) (c.queue.closed ≡ true) c.room k h.room_marked)
    link_on (Prepares Items k) may = on_items (wakes.happens c.items (wakes.Prepares k)) (sides.prepares_it Early (c.queue.closed ≡ true) c.items k h.items_marked)
    link_on (Prepares Room k) may = on_room (wakes.happens c.room (wakes.Prepares k)) (sides.prepares_it (EarlyIn c.queue.cap) (c.queue.closed ≡ true) c.room k h.room_marked)
    link_on (Leaves Items k) may = on_items (wakes.happens c.items (wakes.Leaves k)) (sides.leaves_it Early (c.queue.closed ≡ true) c.items k h.items_marked)
    link_on (Leaves Room k) may = on_room (wakes.happens c.room (wakes.Leaves k)) (sides.leaves_it (EarlyIn c.queue.cap) (c.queue.closed ≡ true) c.room k h.room_marked)
    link_on (Fails Items k) may = fails_items k may.0 may.2
    link_on (Fails Room k) may = fails_room k may.1.2 may.1.1
    link_on (FindsClosed Items k) may = ends_items k may.0
    link_on (FindsClosed Room k) may = ends_room k may.1.1
    link_on (Acts k e) may = acts_link k e may.0 may.1
    link_on (TellsAgain k) may = closes k c.queue refl may.0 refl may.1 may.2

  pub link_after : (c : Channel T) (es : List (Event T)) → Runs c es → Linked c → Linked (after_from c es)
  link_after c [] runs h = h
  link_after c (e ∷ es) runs h = link_after (happens c e) es runs.1 (link_on c h e runs.0)

  pub link_start : (cap : Option ℕ) (parties : ℕ) → Linked (open_channel {T = T} cap parties)
  link_start cap parties = record {
    items = refl;
    room = roomy_start cap;
    items_times = refl;
    room_times = refl;
    items_marked = start_marked Early (false ≡ true) parties;
    room_marked = start_marked (EarlyIn cap) (false ≡ true) parties;
  }
