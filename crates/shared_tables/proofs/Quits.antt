-- A call at a table that has had no effect is given up by a load of the count: the rule stays, and the seat is at nothing.
use Rattle.std.proofs.Common.{ℕ, List, set, refl, sym, ◌∙◌, subst}
use Rattle.std.proofs.lemmas.List.{set-get_or}
use Rattle.atomic_table.specs.Table.{keeps, Allows}
use Rattle.shared_parties.{specs.CallStates.idle, specs.Calling.stand_of, specs.Quitting.its_call, proofs.Quits.quit, proofs.Quits.quits}
use Rattle.shared_tables.specs.{Seats.Seated, Seats.count_of, TableRule.TableOf, TableRule.TableLaws, TableRule.Rule, Quitting.MayQuit, Quitting.HasQuit}

module _ {T : Type 0} (K : TableOf T) (words : ℕ) (laws : TableLaws K words) where
  -- the party has then only seen more, has no slot, and the call still carried its own value
  pub gives_up : (slots id : ℕ) (m : Seated T) → MayQuit m → Allows (Rule K) slots id m 0 (λ n. n) (λ n q. HasQuit K.calls m q)
  gives_up slots id m (busy, lends, is) s r wide at fits =
      let c = its_call m.0 in
      let st = r.all.calls id m.0 c at busy in
      let e = laws.early r.cells id st.ms st.was (stand_of c) is st.here in
      let rule : Rule K record { words = s.words; homes = s.homes; views = set s.views id (idle m.0.known) } = record {
        cells = r.cells;
        words = r.words;
        history = r.history;
        counted = r.counted;
        coded = r.coded;
        all = quits K.calls r.cells r.history (count_of s) s.views id m.0 r.all at r.cells r.all.ok refl (λ j k b ne seen stands. stands) (λ j ne free. free) e.1;
      } in (
        idle m.0.known,
        keeps,
        tt,
        subst (λ (ns : List ℕ). Rule K record { words = ns; homes = s.homes; views = set s.views id (idle m.0.known) }) (sym (set-get_or s.words 0 0)) rule,
        (quit K.calls r.cells r.history (count_of s) s.views id m.0 r.all at c busy e.0, lends ∙ laws.calls.idle_none r.cells id c.lends e.1 st.lent, e.2),
      )
