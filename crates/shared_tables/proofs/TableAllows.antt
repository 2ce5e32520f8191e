-- Each step of a call on a shared table keeps the rule: the laws of its kind say so, wherever the call stands.
use Rattle.std.proofs.Common.{◌≡◌, ℕ, List, ◌∷◌, get_or, set, Option, None, ap, sym, ◌∙◌, subst}
use mathlib.Core.Option.{some}
use lib.ListN.{get_elem?}
use Rattle.atomic_table.specs.Table.{Act, Valid, carried_after, homes_after, stepped, Allows}
use Rattle.queue_laws.specs.Common.{Vocabulary.Effect, Vocabulary.Answer, Vocabulary.Next, Operations.op_word, Operations.op_makes, Operations.answer_for}
use Rattle.queue_steps.specs.Next.{CanNext, next_of}
use Rattle.shared_parties.specs.{declared.known.InCall.InCall, declared.known.Work.Work as work, declared.known.CallState.CallState, Calling.CallsOf, Calling.stand_of, Calling.Standing, Calling.touched_list, Calling.handed_by, Calling.HasTouched, CallsAt.Ready, CallsAt.CallsAt, CallsAt.Told}
use Rattle.shared_tables.specs.{Seats.Table, Seats.Seated, Seats.count_of, TableRule.TableOf, TableRule.Rule, TableRule.found_by, TableRule.InTable, TableRule.TakesOff, TableRule.TableStepOk, TableRule.TableLaws, TableTurns.After, TableTurns.Follows}
use Rattle.shared_parties.proofs.{Callings.grown, CallSteps.set_at, CallSteps.stands_at, CallSteps.Stepping, CallSteps.call_step}

module _ {T : Type 0} (K : TableOf T) (words : ℕ) (laws : TableLaws K words) where
  abbrev C : CallsOf T
  C = K.calls

  -- what the step told, of the seat with its slots
  after_told : (g : K.calls.Cells) (h : List (Effect T)) (who : ℕ) (c : InCall T) (v : Option T) (xs : List (ℕ × Option T)) (n : Next ℕ) (w : CallState T) → K.calls.Ok g → ((d : InCall T) → w.work ≡ work.Calls d → Standing C g h who w.known d)
      → ((spare : Option ℕ) → C.Gives spare → spare ≡ None) → Told C c v xs n w → After K c v n (w, xs)
  after_told g h who c v xs (Next.Step l t o) w ok stands none (d, at, local_is, touch_is, op_is, carried_is, call_is, begun_is, lends) =
      let st = stands d at in
      let touches : HasTouched d.touch d.lends = laws.calls.touches g who st.ms st.was (stand_of d) d.lends st.here st.lent in
      let word : InTable K d.op = laws.at_word g who st.ms st.was (stand_of d) ok st.here in
      (d, at, local_is, touch_is, op_is, carried_is, call_is, begun_is, sym lends, subst (λ z. HasTouched z d.lends) touch_is touches, subst (InTable K) op_is word)
  after_told g h who c v xs (Next.Reply x spare) w ok stands none (gives, empty, (y, fill, rests, cap_is, owns, calls)) =
      (none spare gives, (y, fill, (rests, empty), cap_is, owns, calls))

  -- where the call stands that a seat is ready for
  stands : (s : Table T) (id : ℕ) (m : Seated T) (c : InCall T) (rule : Rule K s) → get_elem? s.views id ≡ some m.0 → Ready C m.0 c → Standing C rule.cells rule.history id m.0.known c
  stands s id m c rule at ready = stands_at C laws.calls (InTable K) rule.cells rule.history (count_of s) s.views rule.all id m.0 c (laws.opens c.call).1 at ready

  -- what the call's operation takes off is in the word that it finds
  pub takes_off : (s : Table T) (id : ℕ) (m : Seated T) (c : InCall T) → Rule K s → get_elem? s.views id ≡ some m.0 → Ready C m.0 c → TakesOff c.op (found_by K c.op s.words)
  takes_off s id m c rule at ready =
      let st = stands s id m c rule at ready in
      subst (λ (ws : List ℕ). TakesOff c.op (found_by K c.op ws)) (sym rule.counted)
      (laws.takes_off rule.cells id (count_of s) rule.words s.homes st.ms st.was (stand_of c) rule.all.ok rule.coded st.here)

  -- what `Allows` asks at one table
  abbrev AllowsAt : Table T → ℕ → Seated T → InCall T → Type 0
  AllowsAt s id m c = (w : CallState T) × (a : Act (Option T)) × Valid s.homes m.1 a
      × Rule K (stepped s (K.place (op_word c.op)) (op_makes c.op (found_by K c.op s.words)) id m.1 w a)
      × Follows K c (found_by K c.op s.words) (w, carried_after m.1 a)

  table_step : (s : Table T) (id : ℕ) (m : Seated T) (c : InCall T) → Rule K s → get_elem? s.views id ≡ some m.0 → Ready C m.0 c → m.1 ≡ touched_list c.touch c.carried c.lends → AllowsAt s id m c
  table_step s id m c rule at ready has = (
    stepping.view,
    g.act,
    moved.0,
    record {
      cells = g.after;
      words = g.words;
      history = grown h g.effect;
      counted = written ∙ ap (λ k. k ∷ g.words) (sym count);
      coded = moved.1;
      all = subst (λ (z : ℕ). CallsAt C g.after (grown h g.effect) z (set s.views id stepping.view)) (sym count) stepping.all;
    },
    subst (λ (z : Answer ℕ). CanNext K.calls.kind c.local z × After K c (handed_by c.touch c.carried c.lends) (next_of K.calls.kind c.local z) (stepping.view, carried_after m.1 g.act))
        (ap (answer_for c.op) (sym found_is)) (g.can_next, told),
  )
    where
      h : List (Effect T)
      h = rule.history

      n : ℕ
      n = count_of s

      all : List ℕ
      all = n ∷ rule.words

      st : Standing C rule.cells h id m.0.known c
      st = stands s id m c rule at ready

      g : TableStepOk K rule.cells id n rule.words s.homes st.ms st.was (stand_of c) c.lends
      g = laws.steps rule.cells id n rule.words s.homes st.ms st.was (stand_of c) c.lends rule.all.ok rule.coded st.here st.lent

      found_is : found_by K c.op s.words ≡ found_by K c.op all
      found_is = ap (found_by K c.op) rule.counted

      moved : Valid s.homes m.1 g.act × K.Coded g.after g.words (homes_after s.homes m.1 g.act) × K.calls.Lent g.after id (carried_after m.1 g.act)
      moved = subst (λ (ys : List (ℕ × Option T)). Valid s.homes ys g.act × K.Coded g.after g.words (homes_after s.homes ys g.act) × K.calls.Lent g.after id (carried_after ys g.act)) (sym has) (g.valid, g.coded, g.lent)

      todo : Next ℕ
      todo = next_of K.calls.kind c.local (answer_for c.op (found_by K c.op all))

      stepping : Stepping C laws.calls g.after (grown h g.effect) n s.views id c (handed_by c.touch c.carried c.lends) (carried_after m.1 g.act) todo
      stepping = call_step C laws.calls rule.cells g.after h n s.views id m.0 c g.effect (handed_by c.touch c.carried c.lends) (carried_after m.1 g.act) todo rule.all at st g.ok g.makes g.passes g.front moved.2 g.goes

      told : After K c (handed_by c.touch c.carried c.lends) todo (stepping.view, carried_after m.1 g.act)
      told = after_told g.after (grown h g.effect) id c (handed_by c.touch c.carried c.lends) (carried_after m.1 g.act) todo stepping.view g.ok
          (λ d is. stepping.all.calls id stepping.view d (set_at s.views id m.0 stepping.view at) is) laws.gives stepping.tells

      written : set s.words (K.place (op_word c.op)) (op_makes c.op (found_by K c.op s.words)) ≡ n ∷ g.words
      written = ap (λ l. set l (K.place (op_word c.op)) (op_makes c.op (found_by K c.op l))) rule.counted ∙ g.written

      -- the count of parties is no word of a call's
      count : get_or (set s.words (K.place (op_word c.op)) (op_makes c.op (found_by K c.op s.words))) 0 0 ≡ n
      count = ap (λ l. get_or l 0 0) written

  -- whatever the table is, the step of a call that its seat is at may be done, keeps the rule, and tells where the call goes on or how it ends
  pub table_allows : (slots id : ℕ) (m : Seated T) (c : InCall T) → Ready C m.0 c → m.1 ≡ touched_list c.touch c.carried c.lends
      → Allows (Rule K) slots id m (K.place (op_word c.op)) (op_makes c.op) (λ n m'. Follows K c n m')
  table_allows slots id m c ready has s rule wide at small = table_step s id m c rule at ready has
