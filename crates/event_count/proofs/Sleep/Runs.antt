-- The laws of every run.
use Rattle.std.proofs.Common.{◌≡◌, ◌⊎◌, inl, inr, ℕ, ◌+◌, ◌≤◌, ◌∙◌, Bool, List, [], ◌∷◌, count_by, refl, sym, ap, subst, arith, le_refl}
use Rattle.event_count.specs.declared.wakes.steps.{Phase.TheVariants.Idle, Phase.TheVariants.Given, Phase.TheVariants.Taking, Phase.TheVariants.Moving, Phase.TheVariants.Waking, Whom.TheVariants.One, Whom.TheVariants.All}
use Rattle.event_count.specs.Sleep.{Laws.is_giving, Laws.is_telling, Laws.HasMissedNothing, Laws.NobodySleepsThrough, Laws.AreHeeded, Laws.AreRoused, Laws.NoItemIsLeft, Examples.Examples}
use Rattle.event_count.specs.Sleep.World.{Party, Awake, Asleep, World, Event, is_asleep, start, happens, run}
use Rattle.event_count.proofs.Sleep.Counts.{one, count_at, count_le, count_none, some_counted, replicate_get, count_cons}
use Rattle.event_count.proofs.Sleep.{Relying.MaySleep, Relying.Relies, Relying.AllRely, HeedSteps.Heeded, Heed.is_near, Heed.is_parking, Heed.is_unmoved, Heed.is_moving, Heed.is_waking, Heed.tally_of, Heed.Heeds}
use Rattle.event_count.proofs.Sleep.Telling as telling
use Rattle.event_count.proofs.Sleep.Heeding as heeding

rely_start : (n items : ℕ) → AllRely (start n items)
rely_start n items = λ k p at. subst (Relies (start n items)) (sym (replicate_get n k (Awake Idle 0) p at)) tt

no_such : (n items : ℕ) (f : Party → Bool) → one f (Awake Idle 0) ≡ 0 → count_by f (start n items).parties ≡ 0
no_such n items f none = count_none f (start n items).parties (λ k p at. ap (one f) (replicate_get n k (Awake Idle 0) p at) ∙ none)

heeded_start : (n items : ℕ) → Heeded (start n items)
heeded_start n items = λ early.
    let asleep = no_such n items is_asleep refl in
    let near = no_such n items (is_near 0) refl in
    let parking = no_such n items (is_parking 0) refl in
    record {
      reached = inr (omega (arith, asleep, near));
      reached_near = inr (omega (arith, near));
      for_parking = λ some. absurd (omega (arith, parking, some));
      for_asleep = λ some. absurd (omega (arith, asleep, some));
    }

rely_run : (w : World) (es : List Event) → AllRely w → AllRely (run es w)
rely_run w [] rely = rely
rely_run w (e ∷ es) rely = rely_run (happens w e) es (telling.happens_keeps w e rely)

heeded_run : (w : World) (es : List Event) → AllRely w → Heeded w → Heeded (run es w)
heeded_run w [] rely h = h
heeded_run w (e ∷ es) rely h = heeded_run (happens w e) es (telling.happens_keeps w e rely) (heeding.happens_keeps w e rely h)

missed_nothing : (w : World) (mark : ℕ) → MaySleep w mark → HasMissedNothing w mark
missed_nothing w mark may = (may.0, λ n since come. some_counted (is_telling n) w.parties (may.1 n since come))

pub nobody_sleeps_through : NobodySleepsThrough
nobody_sleeps_through n items es k mark s =
    let w = run es (start n items) in missed_nothing w mark (rely_run (start n items) es (rely_start n items) k (Asleep s.ticket s.parked mark) s.at s.near)

giving : (p : Party) → one is_giving p ≡ one is_unmoved p + one is_waking p
giving (Awake Given m) = refl
giving (Awake (Taking n) m) = refl
giving (Awake (Moving One) m) = refl
giving (Awake (Moving All) m) = refl
giving (Awake (Waking One) m) = refl
giving (Awake (Waking All) m) = refl
giving other = refl

moving : (p : Party) → one is_moving p ≤ one is_unmoved p
moving (Awake (Moving One) m) = le_refl _
moving other = omega arith

-- those that give are those that have not moved `EVENTS`, and those that wake
gives : (ps : List Party) → count_by is_giving ps ≡ count_by is_unmoved ps + count_by is_waking ps
gives [] = refl
gives (p ∷ ps) =
    let rest = gives ps in let here = giving p in
    let a = count_cons is_giving p ps in let b = count_cons is_unmoved p ps in let c = count_cons is_waking p ps in omega (arith, rest, here, a, b, c)

heeds : (w : World) → Heeds w.sleepers w.items (tally_of w.events w.parties) → 1 ≤ count_by is_asleep w.parties → AreHeeded w.items w ⊎ AreRoused w
heeds w h some =
    let all = gives w.parties in
    let fewer = count_le is_moving is_unmoved moving w.parties in
    elim (h.for_asleep some) [ inl left ↦ inl (inl (omega (arith, all, left))) | inr c ↦ elim c.all [ inl rouse ↦ inr rouse | inr few ↦ inl (inr (omega (arith, all, fewer, few))) ] ]

pub no_item_is_left : NoItemIsLeft
no_item_is_left n items es early k mark s =
    let w = run es (start n items) in
    let some : 1 ≤ count_by is_asleep w.parties = count_at is_asleep w.parties k (Asleep s.ticket s.parked mark) s.at in heeds w (heeded_run (start n items) es (rely_start n items) (heeded_start n items) early) some

pub examples : Examples
examples = record { sleeps = refl; still_asleep = refl; all_still_asleep = refl; taken = refl; one_woken = refl; all_woken = refl; none_counted = refl; ends_at_its_load = refl; counted_still = refl; counted_awake = refl; does_not_sleep = refl }
