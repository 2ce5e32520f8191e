-- What a level has of the moves of each party's call, and who survives an event.
use Rattle.std.proofs.Common.{◌≡◌, ◌∙◌, ◌<◌, ◌⊎◌, inl, inr, refl, [], ◌∷◌, ℕ, suc, zero, ◌+◌, ◌≤◌, Bool, true, Option, Some, None, List, ◌++◌, length, arith, sym, subst, ap, append_assoc}
use Rattle.std.specs.Prelude.{Contains, slice_get}
use Rattle.std.proofs.lemmas.{Option.slice_get_cases, Option.slice_get_read, Option.slice_get_within, List.Elements.Contains-append_left}
use Rattle.queue_steps.specs.declared.model.{Call.Call, Reply.Reply}
use Rattle.history_check.specs.declared.recorded.{Event.Event, Move.Move, Way.Way, Way.TheVariants.Waiting, Way.TheVariants.Halfway, Way.TheVariants.Answered}
use Rattle.history_check.specs.Legal.{Stage, IsAt, MayRecord, recorded, Makes, Goes}
use Rattle.history_check.proofs.{Moves.at_front, Moves.step_of, Moves.is_there, Orders.along, Orders.moves_may_wait, Orders.need_not_see, Orders.gets_expected}
use Rattle.history_check.specs.Levels.{next_reply, Expects, IsExpected, Acts, IsAsGood, Keeps, Has, HasAll, HasEach, Handles, Extends, Survives, Passes, LevelsPass}

-- a longer level has as much
pub contains_more : (xs ys : List Stage) (s : Stage) → Extends xs ys → Contains xs s → Contains ys s
contains_more xs ys s (more, is) has = subst (λ (l : List Stage). Contains l s) (sym is) (Contains-append_left xs more s has)

pub keeps_more : (xs ys : List Stage) (es : List Event) (s : Stage) → Extends xs ys → Keeps xs es s → Keeps ys es s
keeps_more xs ys es s e keeps = λ ms g. let h = keeps ms g in (h.0, h.1, contains_more xs ys h.0 e h.2, h.3, h.4)

pub has_more : (xs ys : List Stage) (es : List Event) (s : Stage) (m : Move) → Extends xs ys → Has xs es s m → Has ys es s m
has_more xs ys es s m e has = λ t made. keeps_more xs ys es t e (has t made)

pub all_more : (xs ys : List Stage) (es : List Event) (s : Stage) (p : ℕ) (o : Option (Reply ℕ)) → Extends xs ys → HasAll xs es s p o → HasAll ys es s p o
all_more xs ys es s p o e all = record {
  see = λ r is. has_more xs ys es s (Move.See p r) e (all.see r is);
  act = λ r is. has_more xs ys es s (Move.Act p r) e (all.act r is);
  part = λ r is. has_more xs ys es s (Move.Part p r) e (all.part r is);
  arrive = has_more xs ys es s (Move.Arrive p) e all.arrive;
  displace = λ r is. has_more xs ys es s (Move.Displace p r) e (all.displace r is);
}

-- a level keeps a stage that it has
pub keeps_it : (level : List Stage) (es : List Event) (s : Stage) → Contains level s → Keeps level es s
keeps_it level es s has = λ ms g. (s, ms, has, g, omega arith)

pub as_good_twice : (es : List Event) (s t u : Stage) → IsAsGood es s t → IsAsGood es t u → IsAsGood es s u
as_good_twice es s t u one two = λ ms g. let h = one ms g in let k = two h.0 h.1 in (k.0, k.1, let le = h.2 in let then = k.2 in omega (arith, le, then))

pub extends_twice : (xs ys zs : List Stage) → Extends xs ys → Extends ys zs → Extends xs zs
extends_twice xs ys zs (a, is) (b, are) = (a ++ b, are ∙ subst (λ (l : List Stage). l ++ b ≡ xs ++ (a ++ b)) (sym is) (append_assoc xs a b))

pub handles_more : (xs ys ns ms : List Stage) (e : Event) (es : List Event) (replies : List (Option (Reply ℕ))) (s : Stage) → Extends xs ys → Extends ns ms → Handles xs ns e es replies s → Handles ys ms e es replies s
handles_more xs ys ns ms e es replies s more then (t, good, inl (may, has)) = (t, good, inl (may, keeps_more ns ms es (recorded t e) then has))
handles_more xs ys ns ms e es replies s more then (t, good, inr (not, (few, each))) = (t, good, inr (not, (few, λ p o at. all_more xs ys (e ∷ es) t p o more (each p o at))))

-- a call that does not wait can only arrive
not_waiting : (level : List Stage) (es : List Event) (s : Stage) (p : ℕ) (o : Option (Reply ℕ)) → ((c : Call ℕ) (b : Bool) → IsAt s p (Waiting c b) → ⊥) → Has level es s (Move.Arrive p) → HasAll level es s p o
not_waiting level es s p o never arrive = record {
  see = λ r is t m. absurd (never m.0 m.1 m.2);
  act = λ r is t m. absurd (never m.0 m.1 m.3);
  part = λ r is t m. absurd (never m.0 true m.3);
  arrive = arrive;
  displace = λ r is t m. absurd (never m.0 m.1 m.4);
}

pub half_done : (level : List Stage) (es : List Event) (s : Stage) (p : ℕ) (r : Reply ℕ) (o : Option (Reply ℕ)) → IsAt s p (Halfway r) → Has level es s (Move.Arrive p) → HasAll level es s p o
half_done level es s p r o at arrive = not_waiting level es s p o (λ c b there. cc (at, there)) arrive

pub is_answered : (level : List Stage) (es : List Event) (s : Stage) (p : ℕ) (r : Reply ℕ) (o : Option (Reply ℕ)) → IsAt s p (Answered r) → HasAll level es s p o
is_answered level es s p r o at = not_waiting level es s p o (λ c b there. cc (at, there)) (λ t m. absurd (let there = m.1 in cc))

-- the party is in no call
pub is_between : (level : List Stage) (es : List Event) (s : Stage) (p : ℕ) (o : Option (Reply ℕ)) → ((w : Way) → IsAt s p w → ⊥) → HasAll level es s p o
is_between level es s p o none = not_waiting level es s p o (λ c b. none (Waiting c b)) (λ t m. absurd (none (Halfway m.0) m.1))

-- a call that waits can get one reply, and what that leads to is there
module _ (level : List Stage) (es : List Event) (s : Stage) (p : ℕ) (c : Call ℕ) (b : Bool) (at : IsAt s p (Waiting c b)) where
  its_act : (d : Call ℕ) (a : Bool) (r : Reply ℕ) → IsAt s p (Waiting d a) → Acts d r s.queue → Acts c r s.queue
  its_act d a r there acts = let same : d ≡ c = cc (at, there) in subst (λ (x : Call ℕ). Acts x r s.queue) same acts

  pub waits :
      (o got : Option (Reply ℕ))
      → ((r : Reply ℕ) → o ≡ Some r → got ≡ Some r)
      → ((r : Reply ℕ) → IsExpected o r → Acts c r s.queue → got ≡ Some r)
      → ((r : Reply ℕ) → got ≡ Some r → Has level es s (Move.See p r) × Has level es s (Move.Act p r) × Has level es s (Move.Part p r) × Has level es s (Move.Displace p r))
      → HasAll level es s p o
  waits o got sees acts has = record {
    see = λ r is. (has r (sees r is)).0;
    act = λ r is t m. (has r (acts r is (its_act m.0 m.1 r m.3 (inl (m.2, m.4, m.5))))).1 t m;
    part = λ r is t m. (has r (acts r is (its_act m.0 true r m.3 (inr (m.1, m.2, m.4, m.5))))).2 t m;
    arrive = λ t m. absurd (let there = m.1 in cc);
    displace = λ r is t m. (has r (acts r is (its_act m.0 m.1 r m.4 (inr (m.2, m.3, m.5, m.6))))).3 t m;
  }

-- a level keeps what each party's call leads to, if the replies are those of the parties' next ends
each_party : (level : List Stage) (s : Stage) (replies : List (Option (Reply ℕ))) (es : List Event) → Expects replies es → HasEach level es s replies → (p : ℕ) → HasAll level es s p (next_reply p es)
each_party level s replies es expects (few, each) p = elim (slice_get_cases replies p).1 [
  | inl h ↦ subst (λ (o : Option (Reply ℕ)). HasAll level es s p o) (expects p h.0 h.2) (each p h.0 h.2)
  | inr h ↦ is_between level es s p (next_reply p es) (λ w at. let inside = slice_get_within s.calls p (Some w) at in omega (arith, inside, few, h.0))
]

-- whoever goes on from a stage that a move leads to goes on from the level, or the move need not be made
abbrev Onward : List Stage → Stage → List Event → List Move → Type 0
Onward level s es ms = ((t : Stage) × (ns : List Move) × Contains level t × Goes t es ns × (length ns ≤ length ms)) ⊎ Goes s es ms

onward : (level : List Stage) (s t : Stage) (m : Move) (es : List Event) (ms : List Move) → ((p : ℕ) → HasAll level es s p (next_reply p es)) → Makes s m t → Goes t es ms → Onward level s es ms
unfolding step_of
onward level s t Move.Event es ms all makes g = absurd makes
onward level s t (Move.See p r) es ms all makes g = seen (next_reply p es) refl
  where
    seen : (o : Option (Reply ℕ)) → next_reply p es ≡ o → Onward level s es ms
    seen None none = inr (need_not_see s t p r es ms makes none g)
    seen (Some x) is =
        let same : x ≡ r = subst (λ (o : Option (Reply ℕ)). IsExpected o r) is (gets_expected p r ms es t g (Answered r, is_there (step_of s t (Move.See p r) makes), refl)) in
        inl ((all p).see r (is ∙ ap (λ (y : Reply ℕ). Some y) same) t makes ms g)
onward level s t (Move.Act p r) es ms all makes g = inl ((all p).act r (gets_expected p r ms es t g (Answered r, is_there (step_of s t (Move.Act p r) makes), refl)) t makes ms g)
onward level s t (Move.Part p r) es ms all makes g = inl ((all p).part r (gets_expected p r ms es t g (Halfway r, is_there (step_of s t (Move.Part p r) makes), refl)) t makes ms g)
onward level s t (Move.Arrive p) es ms all makes g = inl ((all p).arrive t makes ms g)
onward level s t (Move.Displace p r) es ms all makes g = inl ((all p).displace r (gets_expected p r ms es t g (Answered r, is_there (step_of s t (Move.Displace p r) makes), refl)) t makes ms g)

-- where the next event cannot be recorded, a move leads on to the level, and leaves fewer
module _ (level : List Stage) where
  abbrev LeadsOn : Stage → List Event → List Move → Type 0
  LeadsOn s [] ms = Unit {0}
  LeadsOn s (e ∷ es) ms = (MayRecord s e → ⊥) → ((p : ℕ) → HasAll level (e ∷ es) s p (next_reply p (e ∷ es))) → (t : Stage) × (ns : List Move) × Contains level t × Goes t (e ∷ es) ns × (length ns + 1 ≤ length ms)

  on_by_move : (s t : Stage) (m : Move) (es : List Event) (ms : List Move) → Makes s m t → Goes t es ms → ((u : Stage) → Goes u es ms → LeadsOn u es ms) → LeadsOn s es (m ∷ ms)
  on_by_move s t m [] ms makes g again = tt
  on_by_move s t m (e ∷ es) ms makes g again = λ not all. elim (onward level s t m (e ∷ es) ms all makes g) [
    | inl there ↦ (there.0, there.1, there.2, there.3, let le = there.4 in omega (arith, le))
    | inr here ↦ let h = again s here not all in (h.0, h.1, h.2, h.3, let le = h.4 in omega (arith, le))
  ]

  leads_on : (ms : List Move) (es : List Event) (s : Stage) → Goes s es ms → LeadsOn s es ms
  leads_on = along LeadsOn (λ s. tt) (λ s e es ms may g later not all. absurd (not may)) on_by_move

-- whoever goes on from a stage of the level gets past the event, however many moves that takes
module _ (level next : List Stage) (e : Event) (es : List Event) (replies : List (Option (Reply ℕ))) (handles : (u : Stage) → Contains level u → Handles level next e es replies u) (expects : Expects replies (e ∷ es)) where
  abbrev GetsPast : ℕ → Type 0
  GetsPast n = (s : Stage) (ms : List Move) → length ms ≤ n → Contains level s → Goes s (e ∷ es) ms → Survives next es

  past_from : (n : ℕ) → ((s : Stage) (ms : List Move) → length ms + 1 ≤ n → Contains level s → Goes s (e ∷ es) ms → Survives next es) → GetsPast n
  past_from n again s ms few has g =
      let h = handles s has in
      let t = h.0 in
      let k = h.1 ms g in
      elim h.2 [
        | inl x ↦ let after = moves_may_wait t e es k.0 x.0 k.1 in let kept = x.1 after.0 after.1 in (kept.0, kept.1, kept.2, kept.3)
        | inr x ↦ let on = leads_on level k.0 (e ∷ es) t k.1 x.0 (each_party level t replies (e ∷ es) expects x.1) in again on.0 on.1 (let less = on.4 in let le = k.2 in omega (arith, less, le, few)) on.2 on.3
      ]

  past : (n : ℕ) → GetsPast n
  past zero = past_from zero (λ s ms few. absurd (omega (arith, few)))
  past (suc n) = past_from (suc n) (λ s ms few has g. past n s ms (omega (arith, few)) has g)

pub levels_pass : LevelsPass
levels_pass level next e es replies handles expects (s, ms, has, g) = past level next e es replies handles expects (length ms) s ms (omega arith) has g

-- a level whose every stage is handled passes the event
pub passes : (old level next : List Stage) (e : Event) (es : List Event) (replies : List (Option (Reply ℕ))) (n : ℕ) → Extends old level → slice_get level n ≡ None → ((k : ℕ) → k < n → (s : Stage) → slice_get level k ≡ Some s → Handles level next e es replies s) → Passes old e es replies next
passes old level next e es replies n more none each expects (s, ms, has, g) = levels_pass level next e es replies handled expects (s, ms, contains_more old level s more has, g)
  where
    handled : (u : Stage) → Contains level u → Handles level next e es replies u
    handled u (k, inside, is) = elim (slice_get_cases level n).1 [
      | inl h ↦ absurd (let some = h.2 in cc)
      | inr h ↦ each k (omega (arith, inside, h.0)) u (slice_get_read level (length level) k u refl inside (sym is))
    ]

-- what is in a list keeps its place when the list grows
pub stays_there : (xs ys : List Stage) (k : ℕ) (s : Stage) → Extends xs ys → k < length xs → slice_get ys k ≡ Some s → slice_get xs k ≡ Some s
stays_there xs ys k s (more, is) h there = at_front xs more k s h (rw is at there)
