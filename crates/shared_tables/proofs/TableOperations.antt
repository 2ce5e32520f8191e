-- The operation of a ready call's step may be done on the table.
use Rattle.std.proofs.Common.{◌≡◌, ℕ, ◌+◌, ◌-◌, ◌%◌, ◌^◌, ◌<◌, w64, bit_and, get_or, ap, sym, ◌∙◌, subst, arith}
use Rattle.std.specs.Int.{bit_not}
use mathlib.Core.Option.{some}
use lib.ListN.{get_elem?}
use Rattle.atomic_table.specs.Table.{Allows, stepped, carried_after}
use Rattle.queue_laws.specs.Common.{Vocabulary.Word, Vocabulary.Op, Vocabulary.Answer, Operations.op_word, Operations.op_makes, Operations.answer_for}
use Rattle.queue_steps.specs.Next.{CanNext, next_of}
use Rattle.shared_parties.specs.{declared.known.InCall.InCall, Calling.touched_list, Calling.handed_by, CallsAt.Ready}
use Rattle.shared_tables.specs.{Seats.Table, Seats.Seated, TableRule.TableOf, TableRule.Rule, TableRule.TableLaws, TableRule.InTable, TableRule.TakesOff, TableRule.found_by, TableTurns.After, TableTurns.Follows}
use Rattle.queue_laws.proofs.Common.Operations.{has_word}
use Rattle.shared_tables.proofs.TableAllows.{table_allows, takes_off}

module _ {T : Type 0} (kinds : ℕ → TableOf T) (key slots words wide id : ℕ) (m : Seated T) (c : InCall T) (laws : TableLaws (kinds slots) words) (same : key ≡ slots) (size : wide ≡ words)
    (ready : Ready (kinds slots).calls m.0 c × (m.1 ≡ touched_list c.touch c.carried c.lends)) where
  abbrev K : TableOf T
  K = kinds slots

  -- the word k is one of the table's, where the operation may be done that makes this of it and tells that
  abbrev May : ℕ → (ℕ → ℕ) → (ℕ → Seated T → Type 0) → Type 0
  May k makes tells = (k < wide) × Allows (Rule (kinds key)) slots id m k makes tells

  below : (o : Op ℕ) → InTable K o → K.place (op_word o) < wide
  below o can = subst (λ w. K.place (op_word o) < w) (sym size) (laws.below (op_word o) (has_word K.HasWord o can))

  allowed : (o : Op ℕ) → c.op ≡ o → Allows (Rule (kinds key)) slots id m (K.place (op_word o)) (op_makes o) (λ n q. Follows K c n q)
  allowed o is =
      subst (λ k. Allows (Rule (kinds k)) slots id m (K.place (op_word o)) (op_makes o) (λ n q. Follows K c n q)) (sym same)
      (subst (λ (z : Op ℕ). Allows (Rule K) slots id m (K.place (op_word z)) (op_makes z) (λ n q. Follows K c n q)) is (table_allows K words laws slots id m c ready.0 ready.1))

  pub may_do : (o : Op ℕ) (k : ℕ) → c.op ≡ o → InTable K o → k ≡ K.place (op_word o) → May k (op_makes o) (λ n q. Follows K c n q)
  may_do o k is can at = subst (λ i. May i (op_makes o) (λ n q. Follows K c n q)) (sym at) (below o can, allowed o is)

  -- an operation may be done where another may that makes the same of each word which the rule allows there
  in_place : (k : ℕ) (f h : ℕ → ℕ) (tells : ℕ → Seated T → Type 0)
      → ((s : Table T) → Rule (kinds key) s → get_elem? s.views id ≡ some m.0 → get_or s.words k 0 < 2 ^ 64 → f (get_or s.words k 0) ≡ h (get_or s.words k 0))
      → Allows (Rule (kinds key)) slots id m k f tells → Allows (Rule (kinds key)) slots id m k h tells
  in_place k f h tells alike may s rule wide at small =
      let d = may s rule wide at small in
      (d.0, d.1, d.2, subst (λ x. Rule (kinds key) (stepped s k x id m.1 d.0 d.1)) (alike s rule at small) d.3, d.4)

  -- to take bits off is to subtract them
  subtracted : (w : Word ℕ) (bits by : ℕ) → c.op ≡ Op.And w bits → by ≡ bit_not w64 bits
      → Allows (Rule (kinds key)) slots id m (K.place w) (λ n. (n + (2 ^ 64 - by)) % 2 ^ 64) (λ n q. Follows K c n q)
  subtracted w bits by is gone = in_place (K.place w) (λ n. bit_and n bits) (λ n. (n + (2 ^ 64 - by)) % 2 ^ 64) (λ n q. Follows K c n q) alike (allowed (Op.And w bits) is)
    where
      alike : (s : Table T) → Rule (kinds key) s → get_elem? s.views id ≡ some m.0 → get_or s.words (K.place w) 0 < 2 ^ 64 → bit_and (get_or s.words (K.place w) 0) bits ≡ (get_or s.words (K.place w) 0 + (2 ^ 64 - by)) % 2 ^ 64
      alike s rule at small =
          let there : bit_and (get_or s.words (K.place w) 0) bits + bit_not w64 bits ≡ get_or s.words (K.place w) 0 =
          subst (λ (o : Op ℕ). TakesOff o (found_by K o s.words)) is (takes_off K words laws s id m c (subst (λ i. Rule (kinds i) s) same rule) at ready.0) in
          omega arith

  pub may_take_off : (w : Word ℕ) (bits k : ℕ) → c.op ≡ Op.And w bits → K.HasWord w → k ≡ K.place w
      → (k < wide) × ((by : ℕ) → by ≡ bit_not w64 bits → Allows (Rule (kinds key)) slots id m k (λ n. (n + (2 ^ 64 - by)) % 2 ^ 64) (λ n q. Follows K c n q))
  may_take_off w bits k is can at =
      subst (λ i. (i < wide) × ((by : ℕ) → by ≡ bit_not w64 bits → Allows (Rule (kinds key)) slots id m i (λ n. (n + (2 ^ 64 - by)) % 2 ^ 64) (λ n q. Follows K c n q))) (sym at)
      (below (Op.And w bits) can, λ by gone. subtracted w bits by is gone)

  -- a store tells the same, whatever it found
  stored : (w : Word ℕ) (x : ℕ) → c.op ≡ Op.Store w x → Allows (Rule (kinds key)) slots id m (K.place w) (λ n. x) (λ n q. Follows K c x q)
  stored w x is s rule wide at small =
      let d = allowed (Op.Store w x) is s rule wide at small in
      let answers : (n : ℕ) → answer_for c.op n ≡ answer_for c.op x = λ n. ap (λ z. answer_for z n) is ∙ sym (ap (λ z. answer_for z x) is) in (
        d.0,
        d.1,
        d.2,
        d.3,
        subst (λ (a : Answer ℕ). CanNext K.calls.kind c.local a × After K c (handed_by c.touch c.carried c.lends) (next_of K.calls.kind c.local a) (d.0, carried_after m.1 d.1))
            (answers (found_by K (Op.Store w x) s.words)) d.4,
      )

  pub may_store : (w : Word ℕ) (x k : ℕ) → c.op ≡ Op.Store w x → K.HasWord w → k ≡ K.place w → May k (λ n. x) (λ n q. Follows K c x q)
  may_store w x k is can at = subst (λ i. May i (λ n. x) (λ n q. Follows K c x q)) (sym at) (below (Op.Store w x) can, stored w x is)
