-- The laws of one slot in a table: what each step of a call does to the word and the slot, and where calls begin.
use Rattle.std.proofs.Common.{◌≡◌, ℕ, ◌==◌, ◌||◌, not, Bool, true, false, List, [], ◌∷◌, get_or, set, Option, Some, refl, ap, sym, ◌∙◌, subst, inl, arith}
use mathlib.Core.Option.{some}
use mathlib.Core.Option as maybe
use Rattle.atomic_table.specs.Table.{Act, keeps, takes, gives, Valid, carried_after, homes_after}
use Rattle.queue_laws.specs.Common.Vocabulary.{Call, Reply, Effect, Kind, Op, Touch, Answer, Local, Next, SlotLocal}
use Rattle.queue_steps.specs.declared.steps.slot.SlotLocal.TheVariants.{Pushing, Closing, Looking}
use Rattle.queue_steps.specs.{State.State, Kinds.call_kind, SlotNext.slot_begin, Looks.call_of_look, Next.CanNext, Next.next_of, WaitFree.is_wait_free, WaitFree.EndsBefore, WaitFree.EndsWaitFree}
use Rattle.queue_laws.specs.Common.{Effects.Leads, Effects.with_effect, Effects.MayFront, Stand.Stand, Stand.stand, Operations.op_makes, Operations.answer_for}
use Rattle.queue_laws.specs.Slot.SlotShared.{Shared, one_slot, answered, operated, touched, handed}
use Rattle.queue_laws.specs.Slot.{SlotHolder.SlotHolder, SlotHolder.Nobody, SlotCells.Slot, SlotCells.queue_of, SlotCells.own_in, SlotCells.lent_by, SlotCells.Lent, SlotCells.IsHeld}
use Rattle.queue_laws.specs.Slot.SlotRows.{Codes, filling, swapping, taking, At, push_try, push_put, force_try_empty, force_try_full, force_put_empty, force_put_full, pop_try, pop_take}
use Rattle.queue_laws.specs.Slot.SlotRows.{close_try, look_at, Share, fills, swaps, takes as takes_share, Passes, stays, changes, single, NextOk as SlotNextOk, StepOk}
use Rattle.queue_laws.proofs.{Slot.SlotEarly.early, Slot.SlotSteps.step_good, Slot.SlotRanks.can_operate, Slot.SlotHolder.share_of, Slot.SlotHolder.next_who, Slot.SlotHolder.own_self, Slot.SlotHolder.own_other, Common.Moments.seen_map}
use Rattle.queue_laws.proofs.Slot.SlotCells.{nobody_if, held_lent, at_stays, lent_stays, at_whole, at_lock, on_lock, at_touches}
use Rattle.shared_parties.specs.Calling.{touched_list, lies_in, handed_by, NextOk, CallLaws}
use Rattle.shared_tables.specs.{TableRule.TakesOff, TableRule.TableStepOk, TableRule.OpensIn, TableRule.TableLaws, SlotTable.home_under, SlotTable.SlotCoded, SlotTable.slot_calls, SlotTable.slot_table}

-- the wait-free calls take one step
ends_next : (l : SlotLocal) → ((n : ℕ) → EndsBefore {B = ℕ} 2 Kind.Single (next_of Kind.Single (Local.Slot l) (Answer.Found n))) → (a : Answer ℕ) → CanNext Kind.Single (Local.Slot l) a → EndsBefore {B = ℕ} 2 Kind.Single (next_of Kind.Single (Local.Slot l) a)
ends_next l ends (Answer.Found n) can = ends n
ends_next l ends a can = absurd can

-- where those calls begin; a look that is not wait-free takes one step here too
abbrev is_quick : SlotLocal → Bool
is_quick Closing = true
is_quick (Looking look) = is_wait_free (call_of_look {T = Unit} look)
is_quick _ = false

quick_ends : (l : SlotLocal) → is_quick l ≡ true → (a : Answer ℕ) → CanNext Kind.Single (Local.Slot l) a → EndsBefore {B = ℕ} 2 Kind.Single (next_of Kind.Single (Local.Slot l) a)
quick_ends Closing h = λ a can. ends_next Closing (λ n. tt) a can
quick_ends (Looking look) h = λ a can. ends_next (Looking look) (λ n. tt) a can
quick_ends l h = cc

-- the place that a call begins at
abbrev place_of : Next ℕ → SlotLocal
place_of (Next.Step (Local.Slot l) t o) = l
place_of _ = Pushing

slot_wait_free : {T : Type 0} (c : Call T) → is_wait_free c ≡ true → EndsWaitFree ℕ Kind.Single (call_kind c)
slot_wait_free Call.Capacity h = tt
slot_wait_free c h = quick_ends (place_of (slot_begin (call_kind c))) h

module _ {T : Type 0} where
  -- a touch leaves the word
  lock_touched : (word : ℕ) (slot : Option T) (t : Touch) (v : Option T) → (touched (one_slot word slot) t v).lock ≡ word
  lock_touched word slot Touch.Nothing v = refl
  lock_touched word slot t v = refl

  -- What the table does at a step that leads from the lock's holder h and this slot to h' and slot', for a party that had the slots ys and has own' of the lock then
  record Moved (h : SlotHolder T) (slot : Option T) (h' : SlotHolder T) (slot' : Option T) (own' : SlotHolder T) (ys : List (ℕ × Option T)) : Type 0 where
    pub act : Act (Option T)
    pub valid : Valid (home_under h slot ∷ []) ys act
    pub homes : homes_after (home_under h slot ∷ []) ys act ≡ home_under h' slot' ∷ []
    pub lent : carried_after ys act ≡ lent_by own'

  out_of : (h : SlotHolder T) (x : Option T) → IsHeld h → home_under h x ≡ maybe.none
  out_of Nobody x held = absurd held
  out_of h x held = refl

  -- a party that has nothing of the lock leaves it so, or takes it with the slot
  takes_slot : {word' : ℕ} {items' : List T} {c' : Bool} (slot slot' : Option T) (own h own' h' : SlotHolder T) → Passes own h own' h' → own ≡ Nobody → slot' ≡ slot → Codes word' slot' h' items' c' → Moved h slot h' slot' own' []
  takes_slot slot slot' _ _ _ _ (stays own h) is same st = record { act = keeps; valid = tt; homes = ap (λ x. home_under h x ∷ []) (sym same); lent = ap lent_by (sym is) }
  takes_slot slot slot' _ _ _ _ (changes h g) is same st = by g st
    where
      taken : {w : ℕ} {ys : List T} {d : Bool} (f : SlotHolder T) → IsHeld f → Codes w slot' f ys d → Moved h slot f slot' f []
      taken f held st = record {
        act = takes 0 slot;
        valid = ap (λ x. some (home_under x slot)) is;
        homes = ap (λ x. x ∷ []) (sym (out_of f slot' held));
        lent = ap (λ x. (0, x) ∷ []) (sym same) ∙ sym (held_lent st held);
      }

      by : {w : ℕ} {ys : List T} {d : Bool} (f : SlotHolder T) → Codes w slot' f ys d → Moved h slot f slot' f []
      by Nobody st = record { act = keeps; valid = tt; homes = (λ i. home_under (is i) (sym same i) ∷ []); lent = refl }
      by f st = taken f tt st

  -- one that gives the lock back gives back the slot, with what it put there
  gives_slot : (slot slot' v : Option T) (own h own' h' : SlotHolder T) → Passes own h own' h' → IsHeld own → own' ≡ Nobody → slot' ≡ v → Moved h slot h' slot' own' ((0, v) ∷ [])
  gives_slot slot slot' v _ _ _ _ (stays own h) held is same = absurd (subst IsHeld is held)
  gives_slot slot slot' v _ _ _ _ (changes h g) held is same = record { act = gives; valid = tt; homes = (λ i. home_under (sym is i) (sym same i) ∷ []); lent = ap lent_by (sym is) }

  -- both, and what is carried then
  record Shifts (word : ℕ) (slot : Option T) (own h own' h' : SlotHolder T) (slot' : Option T) (t : Touch) (v : Option T) : Type 0 where
    pub moved : Moved h slot h' slot' own' (touched_list t v (lent_by own))
    pub handed_is : handed (one_slot word slot) t v ≡ handed_by t v (lent_by own)

  left_there : (s : Shared T) (o : Op ℕ) (w : ℕ) (x : Option T) → operated s o ≡ one_slot w x → x ≡ s.slot
  left_there s o w x is = sym (ap (λ z. z.slot) is)

  module _ {word : ℕ} {slot : Option T} {h : SlotHolder T} {items : List T} {c : Bool} {n : ℕ} {ms : List (State T)} where
    from_free : {l : Local ℕ} {o : Op ℕ} {v : Option T} {k : Call T} {es : List (Effect T)} → (good : StepOk word slot Nobody h items c n (stand l Touch.Nothing o v k es) ms)
        → Shifts word slot Nobody h good.own' good.h' good.slot' Touch.Nothing v
    from_free {o = o} good = record {
      moved = takes_slot slot good.slot' Nobody h good.own' good.h' good.passes refl (left_there (one_slot word slot) o good.word' good.slot' good.leaves) good.stands;
      handed_is = refl;
    }

  from_held : {x : Stand T} {word : ℕ} {slot : Option T} {own : SlotHolder T} {items : List T} {c : Bool} {n : ℕ} {ms : List (State T)}
      → (good : StepOk word slot own own items c n x ms) → Codes word slot own items c → IsHeld own → good.own' ≡ Nobody
      → touched_list x.touch x.carried (lent_by own) ≡ (0, x.carried) ∷ [] → handed_by x.touch x.carried (lent_by own) ≡ lies_in (lent_by own) → (touched (one_slot word slot) x.touch x.carried).slot ≡ x.carried → handed (one_slot word slot) x.touch x.carried ≡ slot
      → Shifts word slot own own good.own' good.h' good.slot' x.touch x.carried
  from_held {x = x} {word = word} {slot = slot} {own = own} good st held gone list lies put took = record {
    moved = subst (Moved own slot good.h' good.slot' good.own') (sym list)
        (gives_slot slot good.slot' x.carried own own good.own' good.h' good.passes held gone (left_there (touched (one_slot word slot) x.touch x.carried) x.op good.word' good.slot' good.leaves ∙ put));
    handed_is = took ∙ (sym (ap lies_in (held_lent st held)) ∙ sym lies);
  }

  shifts : {x : Stand T} {word : ℕ} {slot : Option T} {own h : SlotHolder T} {items : List T} {c : Bool} {n : ℕ} {ms : List (State T)}
      → At x own → Share own h → Codes word slot h items c → (good : StepOk word slot own h items c n x ms) → Shifts word slot own h good.own' good.h' good.slot' x.touch x.carried
  shifts (push_put v) (fills _) st good = from_held good st tt good.lands.0 refl refl refl refl
  shifts (force_put_empty v) (fills _) st good = from_held good st tt good.lands.0 refl refl refl refl
  shifts (force_put_full old v) (swaps _ _) st good = from_held good st tt good.lands.0 refl refl refl refl
  shifts (pop_take x) (takes_share _) st good = from_held good st tt good.lands.0 refl refl refl refl
  shifts x share st good = from_free good

  -- one slot has no fronts
  no_front : (items : List T) (c was : Bool) (n : ℕ) (e : Option (Effect T)) (R : State T) → Leads (single items c n) e R → MayFront e was
  no_front items c was n (Some (Effect.Front old v)) R m = absurd (let f : true ≡ false = m.0.0 in cc)
  no_front items c was n e R m = tt

  -- where the call stands after its step, or that it ends right
  goes_well : (g : Slot T) (who : ℕ) (own : SlotHolder T) (ms : List (State T)) (was : Bool) (x : Next ℕ) (v : Option T) (k : Call T) (es : List (Effect T)) → own ≡ own_in g who → SlotNextOk x v own k es ms → NextOk slot_calls g who ms was x v k es
  goes_well g who own ms was (Next.Step l t o) v k es is lands = subst (At (stand l t o v k es)) is lands
  goes_well g who own ms was (Next.Reply x spare) v k es is lands = let y = lands.2 in (ap lent_by (sym lands.0 ∙ is), lands.1, (y.0, y.1, y.2, λ none. seen_map ms (λ q p. inl p) (y.3 none)))

  module _ (g : Slot T) (who n : ℕ) (ws : List ℕ) (hs : List (maybe.Option (Option T))) where
    -- each step of a call does what the table is owed
    slot_steps : (ms : List (State T)) (was : Bool) (x : Stand T) (xs : List (ℕ × Option T))
        → SlotCoded g ws hs → At x (own_in g who) → Lent g who xs → TableStepOk slot_table g who n ws hs ms was x xs
    slot_steps ms was x xs (word, slot, stands, words, homes) here lent = record {
      after = after;
      words = good.word' ∷ [];
      effect = good.e;
      act = moved.act;
      can_next = subst (λ (a : Answer ℕ). CanNext Kind.Single x.local a) found_is (can_operate word slot here).2;
      ok = tt;
      written = ap (λ (y : List ℕ). set (n ∷ y) 1 (op_makes x.op (get_or (n ∷ y) 1 0))) words ∙ ap (λ w. n ∷ w ∷ []) made_is;
      valid = subst (λ (z : List (maybe.Option (Option T)) × List (ℕ × Option T)). Valid z.0 (touched_list x.touch x.carried z.1) moved.act) back moved.valid;
      coded = (
        good.word',
        good.slot',
        good.stands,
        refl,
        ap (λ (z : List (maybe.Option (Option T)) × List (ℕ × Option T)). homes_after z.0 (touched_list x.touch x.carried z.1) moved.act) (sym back) ∙ moved.homes,
      );
      lent = ap (λ (z : List (ℕ × Option T)). carried_after (touched_list x.touch x.carried z) moved.act) lent ∙ (moved.lent ∙ ap lent_by own_is);
      front = no_front g.items g.closed was g.accepted good.e (queue_of after) good.makes;
      makes = good.makes;
      passes = λ j ne. own_other good.passes g.keeps.who who j refl ne;
      goes = subst (λ (z : Answer ℕ × Option T). NextOk slot_calls after who (queue_of after ∷ ms) (was || not after.closed) (next_of Kind.Single x.local z.0) z.1 x.call (with_effect x.effects good.e)) (λ i. (found_is i, handed_is i))
          (goes_well after who good.own' (queue_of after ∷ ms) (was || not after.closed) (next_of Kind.Single x.local (answered touching x.op)) (handed (one_slot word slot) x.touch x.carried) x.call (with_effect x.effects good.e) own_is good.lands);
    }
      where
        touching : Shared T
        touching = touched (one_slot word slot) x.touch x.carried

        share : Share (own_in g who) g.keeps.hold
        share = share_of (who == g.keeps.who) g.keeps.hold

        good : StepOk word slot (own_in g who) g.keeps.hold g.items g.closed g.accepted x ms
        good = step_good here share stands g.accepted ms

        after : Slot T
        after = record { keeps = record { who = next_who good.passes g.keeps.who who; hold = good.h' }; items = good.items'; closed = good.c'; accepted = good.n' }

        shifted : Shifts word slot (own_in g who) g.keeps.hold good.own' good.h' good.slot' x.touch x.carried
        shifted = shifts here share stands good

        moved : Moved g.keeps.hold slot good.h' good.slot' good.own' (touched_list x.touch x.carried (lent_by (own_in g who)))
        moved = shifted.moved

        own_is : good.own' ≡ own_in after who
        own_is = own_self good.passes g.keeps.who who refl

        back : ◌≡◌ {A = List (maybe.Option (Option T)) × List (ℕ × Option T)} (home_under g.keeps.hold slot ∷ [], lent_by (own_in g who)) (hs, xs)
        back = λ i. (sym homes i, sym lent i)

        lock_is : touching.lock ≡ word
        lock_is = lock_touched word slot x.touch x.carried

        found_is : answered touching x.op ≡ answer_for x.op (get_or (n ∷ ws) 1 0)
        found_is = ap (answer_for x.op) lock_is ∙ ap (λ (y : List ℕ). answer_for x.op (get_or (n ∷ y) 1 0)) (sym words)

        made_is : op_makes x.op word ≡ good.word'
        made_is = ap (op_makes x.op) (sym lock_is) ∙ ap (λ z. z.lock) good.leaves

        handed_is : handed (one_slot word slot) x.touch x.carried ≡ handed_by x.touch x.carried xs
        handed_is = shifted.handed_is ∙ ap (handed_by x.touch x.carried) (sym lent)

  -- a call that unlocks the slot has the lock, whose bit is then in the word
  unlocks : {x : Stand T} {word : ℕ} {slot : Option T} {own h : SlotHolder T} {items : List T} {c : Bool}
      → At x own → Share own h → Codes word slot h items c → TakesOff x.op word
  unlocks (push_put v) (fills _) (filling true _) = refl
  unlocks (force_put_empty v) (fills _) (filling true _) = refl
  unlocks (force_put_full old v) (swaps _ _) (swapping true _ _) = refl
  unlocks (pop_take x) (takes_share _) (taking true _) = refl
  unlocks (push_try v) share st = tt
  unlocks (force_try_empty v) share st = tt
  unlocks (force_try_full v) share st = tt
  unlocks (pop_try d) share st = tt
  unlocks close_try share st = tt
  unlocks (look_at l) share st = tt
  unlocks x share st = refl

  slot_takes_off : (g : Slot T) (who n : ℕ) (ws : List ℕ) (hs : List (maybe.Option (Option T))) (x : Stand T)
      → SlotCoded g ws hs → At x (own_in g who) → TakesOff x.op (get_or (n ∷ ws) 1 0)
  slot_takes_off g who n ws hs x (word, slot, stands, words, homes) here =
      subst (λ (y : List ℕ). TakesOff x.op (get_or (n ∷ y) 1 0)) (sym words) (unlocks here (share_of (who == g.keeps.who) g.keeps.hold) stands)

  -- the first step of a party that has nothing of the lock
  first_at : (g : Slot T) (j : ℕ) {x : Stand T} → Lent g j [] → At x Nobody → At x (own_in g j)
  first_at g j {x = x} none here = subst (At x) (sym (nobody_if (own_in g j) none)) here

  slot_opens_in : (c : Call T) → OpensIn slot_table c
  slot_opens_in (Call.Push v) = (tt, (refl, tt, λ g j none. first_at g j none (push_try v)))
  slot_opens_in (Call.ForcePush v) = (tt, (refl, tt, λ g j none. first_at g j none (force_try_empty v)))
  slot_opens_in Call.Pop = (tt, (refl, tt, λ g j none. first_at g j none (pop_try false)))
  slot_opens_in Call.Close = (tt, (refl, tt, λ g j none. first_at g j none close_try))
  slot_opens_in Call.Capacity = (tt, (refl, (Reply.Capacity (Some 1), refl, refl, λ m is. sym is)))
  slot_opens_in look = (tt, (refl, tt, λ g j none. first_at g j none (look_at _)))

  slot_call_laws : CallLaws {T = T} slot_calls
  slot_call_laws = record {
    at_stays = λ g s who j ms was c ok ok' ne pass here. at_stays g s who j ne pass here;
    lent_stays = λ g s who j xs ne pass lent. lent_stays g s who j xs ne pass lent;
    idle_stays = λ g s who j ne pass idle. lent_stays g s who j [] ne pass idle;
    idle_none = λ g j xs idle lent. lent ∙ sym idle;
    idle_lent = λ g j idle. idle;
    coming = λ g j ms was c ok here b. absurd (at_whole here b);
    touches = λ g j ms was c xs here lent i e. let h = at_touches i here e in (h.0, lent ∙ h.1);
  }

  pub slot_table_laws : TableLaws {T = T} slot_table 2
  slot_table_laws = record {
    calls = slot_call_laws;
    below = λ w has. omega arith;
    at_word = λ g j ms was c ok here. on_lock c.op (at_lock here);
    steps = λ g who n ws hs ms was c xs ok coded here lent. slot_steps g who n ws hs ms was c xs coded here lent;
    takes_off = λ g who n ws hs ms was c ok coded here. slot_takes_off g who n ws hs c coded here;
    gives = λ spare none. none;
    opens = slot_opens_in;
    wait_free = slot_wait_free;
    early = λ g j ms was c is here. let h = early is.0 here in (h.0, sym (ap lent_by h.1), h.2);
  }
