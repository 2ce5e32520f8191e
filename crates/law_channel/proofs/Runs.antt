-- The laws of every run of a channel, from those of its two eventcounts.
use Rattle.std.proofs.Common.{◌≡◌, ◌⊎◌, inl, inr, ℕ, ◌-◌, Bool, true, false, Option, Some, None, List, [], ◌∷◌, ◌++◌, refl, sym, ap, ◌∙◌, subst, arith}
use Rattle.queue_steps.specs.Effect as history
use Rattle.event_count.specs.Sleep.{World.Party, World.Awake, World.Asleep, World.World, World.run, Laws.is_rousing, Laws.Sleeps, Laws.AreHeeded, Laws.AreRoused, Laws.IsTelling, Laws.HasMissedNothing}
use Rattle.event_count.specs.declared.wakes.steps.{Phase.TheVariants.Moving, Phase.TheVariants.Waking, Whom.TheVariants.All}
use Rattle.event_count.specs.Sleep.World as wakes
use Rattle.event_count.proofs.Sleep.Counts.{some_counted}
use Rattle.event_count.proofs.Sleep.Runs as waking
use Rattle.law_channel.specs.Machine.{Side, Items, Room, Channel, at_side, places, open_channel, Event, Steps, Rises, Prepares, Leaves, Fails, FindsClosed, Acts, TellsAgain, seen_at, happens, Runs, after_from}
use Rattle.law_channel.specs.Laws.{IsReached, effects_of, IsOneHistory, taken, NoItemWaits, NoRoomWaits, NoCloseIsSleptThrough}
use Rattle.law_channel.proofs.{Marks.Waits, Marks.Marked, Linked.Timed, Linked.Roomy, Linked.Early, Linked.EarlyIn, Linked.Linked, Linked.link_start, Linked.link_after}

run_append : (xs ys : List wakes.Event) (w : World) → run (xs ++ ys) w ≡ run ys (run xs w)
run_append [] ys w = refl
run_append (x ∷ xs) ys w = run_append xs ys (wakes.happens w x)

heeded : (w : World) (parties items : ℕ) (ws : List wakes.Event) → w ≡ run ws (wakes.start parties items) → w.late ≡ 0 → (k mark : ℕ) → Sleeps w k mark → AreHeeded w.items w ⊎ AreRoused w
heeded w parties items ws is = subst (λ v. v.late ≡ 0 → (k mark : ℕ) → Sleeps v k mark → AreHeeded v.items v ⊎ AreRoused v) (sym is) (waking.no_item_is_left parties items ws)

missed : (w : World) (parties items : ℕ) (ws : List wakes.Event) → w ≡ run ws (wakes.start parties items) → (k mark : ℕ) → Sleeps w k mark → HasMissedNothing w mark
missed w parties items ws is = subst (λ v. (k mark : ℕ) → Sleeps v k mark → HasMissedNothing v mark) (sym is) (waking.nobody_sleeps_through parties items ws)

free_of : (closed : Bool) (cap : Option ℕ) (n r capacity : ℕ) → closed ≡ false → cap ≡ Some capacity → Roomy closed cap n r → r ≡ capacity - n
free_of true cap n r capacity opened is h = absurd (cc)
free_of false None n r capacity opened is h = absurd (cc)
free_of false (Some c) n r capacity opened is h = let same : c ≡ capacity = (cc) in omega (arith, h, same)

told : (w : World) (mark : ℕ) → Timed true w.times → mark ≡ 0 → HasMissedNothing w mark → IsTelling w 1
told w mark some is h = h.1 1 (omega (arith, is)) some

rousing : (P : ℕ → Type 0) (E : Type 0) (p : Party) → is_rousing p ≡ true → Waits P E p → E
rousing P E (Awake (Moving All) m) is f = f
rousing P E (Awake (Waking All) m) is f = f
rousing P E other is f = absurd (cc)

-- who notifies all found the queue closed
roused : (P : ℕ → Type 0) (E : Type 0) (w : World) → Marked P E w.parties → AreRoused w → E
roused P E w h some = let it = some_counted is_rousing w.parties some in rousing P E it.1 it.3 (h it.0 it.1 it.2)

module _ {T : Type 0} where
  -- a run of a channel is a run of each of its eventcounts
  run_of : (at : Side) (c : Channel T) (es : List (Event T)) → (ws : List wakes.Event) × (at_side at (after_from c es) ≡ run ws (at_side at c))
  run_of at c [] = ([], refl)
  run_of Items c (e ∷ es) = let r = run_of Items (happens c e) es in (seen_at Items c.queue.cap e ++ r.0, r.1 ∙ sym (run_append (seen_at Items c.queue.cap e) r.0 c.items))
  run_of Room c (e ∷ es) = let r = run_of Room (happens c e) es in (seen_at Room c.queue.cap e ++ r.0, r.1 ∙ sym (run_append (seen_at Room c.queue.cap e) r.0 c.room))

  linked : (c : Channel T) → IsReached c → Linked c
  linked c r = subst Linked (sym r.leads) (link_after (open_channel r.cap r.parties) r.events r.runs (link_start r.cap r.parties))

  -- the eventcount of a side is that of a run of its own
  side_run : (at : Side) (c : Channel T) (r : IsReached c) → (ws : List wakes.Event) × (at_side at c ≡ run ws (at_side at (open_channel {T = T} r.cap r.parties)))
  side_run at c r = let s = run_of at (open_channel r.cap r.parties) r.events in (s.0, ap (at_side at) r.leads ∙ s.1)

  pub no_item_waits : NoItemWaits T
  no_item_waits c r early k mark s =
      let h = linked c r in let ws = side_run Items c r in
      elim (heeded c.items r.parties 0 ws.0 ws.1 early k mark s) [
        | inl heed ↦ inl (subst (λ n. AreHeeded n c.items) h.items heed)
        | inr rouse ↦ inr (roused Early (c.queue.closed ≡ true) c.items h.items_marked rouse, rouse)
      ]

  pub no_room_waits : NoRoomWaits T
  no_room_waits c r early opened k mark s =
      let h = linked c r in let ws = side_run Room c r in
      let has = h.room_marked k (Asleep s.ticket s.parked mark) s.at in
      let free = free_of c.queue.closed c.queue.cap (taken c.queue) c.room.items has.1 opened has.2 h.room in
      elim (heeded c.room r.parties (places r.cap) ws.0 ws.1 early k mark s) [
        | inl heed ↦ (has.1, has.2, subst (λ n. AreHeeded n c.room) free heed)
        | inr rouse ↦ (let closed = roused (EarlyIn c.queue.cap) (c.queue.closed ≡ true) c.room h.room_marked rouse in absurd (cc))
      ]

  pub no_close_is_slept_through : NoCloseIsSleptThrough T
  no_close_is_slept_through c r closed Items k mark s =
      let h = linked c r in let ws = side_run Items c r in
      told c.items mark (subst (λ b. Timed b c.items.times) closed h.items_times) (h.items_marked k (Asleep s.ticket s.parked mark) s.at) (missed c.items r.parties 0 ws.0 ws.1 k mark s)
  no_close_is_slept_through c r closed Room k mark s =
      let h = linked c r in let ws = side_run Room c r in
      let has = h.room_marked k (Asleep s.ticket s.parked mark) s.at in
      told c.room mark (subst (λ b. Timed b c.room.times) closed h.room_times) has.0 (missed c.room r.parties (places r.cap) ws.0 ws.1 k mark s)

  one_history : (c : Channel T) (es : List (Event T)) → Runs c es → history.Runs c.queue (effects_of es) × ((after_from c es).queue ≡ history.after_from c.queue (effects_of es))
  one_history c [] runs = (tt, refl)
  one_history c (Acts k e ∷ es) runs = let r = one_history (happens c (Acts k e)) es runs.1 in ((runs.0.0, r.0), r.1)
  one_history c (Steps side k j ∷ es) runs = one_history (happens c (Steps side k j)) es runs.1
  one_history c (Rises side k ∷ es) runs = one_history (happens c (Rises side k)) es runs.1
  one_history c (Prepares side k ∷ es) runs = one_history (happens c (Prepares side k)) es runs.1
  one_history c (Leaves side k ∷ es) runs = one_history (happens c (Leaves side k)) es runs.1
  one_history c (Fails side k ∷ es) runs = one_history (happens c (Fails side k)) es runs.1
  one_history c (FindsClosed side k ∷ es) runs = one_history (happens c (FindsClosed side k)) es runs.1
  one_history c (TellsAgain k ∷ es) runs = one_history (happens c (TellsAgain k)) es runs.1

  pub queue_has_one_history : IsOneHistory T
  queue_has_one_history cap parties es runs = one_history (open_channel cap parties) es runs
