-- The laws of a ring in a table: what each step of a call does to the words and slots, and where calls begin.
use Rattle.std.proofs.Common.{◌≡◌, ◌≢◌, ℕ, zero, suc, ◌-◌, ◌<◌, ◌||◌, not, length, Bool, List, [], ◌∷◌, get_or, set, Option, Some, None, refl, ap, sym, ◌∙◌, subst, inl, arith, length-set}
use Rattle.std.proofs.lemmas.List.{set-get_or, get_or-set_same, get_or-set_other}
use mathlib.Core.Option.{some}
use mathlib.Core.Option as maybe
use lib.ListN.{get_elem?}
use Rattle.atomic_table.specs.Table.{Act, keeps, takes, gives, Valid, carried_after, homes_after, rest}
use Rattle.atomic_table.proofs.Lists.{set_here, set_else}
use Rattle.queue_laws.specs.Common.Vocabulary.{Call, Reply, Effect, Kind, Word, Op, Touch, Answer, Next}
use Rattle.queue_steps.specs.{State.State, Words.IsRing, Next.CanNext, Next.next_of}
use Rattle.queue_laws.specs.Common.{Puts.put, Effects.Touches, Effects.with_effect, Stand.Stand, Operations.op_word, Operations.op_makes, Operations.answer_for}
use Rattle.queue_laws.specs.Ring.{RingCells.Cell, RingCells.Ring, RingCells.queue_of, RingCells.RingOk, RingCells.owner, RingCells.HoldsNone, RingWords.Codes, RingWords.item_in, RingAt.At, RingAt.closing, RingPasses.Lent}
use Rattle.queue_laws.proofs.{Common.Puts.put_ok, Common.Puts.put_same, Common.Moments.seen_map, Ring.RingHands.lent_stays, Ring.RingHands.Shift, Ring.RingHands.Rests, Ring.RingHands.Claims, Ring.RingHands.GoesOn, Ring.RingHands.Returns}
use Rattle.queue_laws.proofs.Ring.{RingAt.at_stays, RingRanks.rank, RingFronts.may_front, RingEarly.early, RingStep.step_good, RingStepOk.NextOk as RingNextOk, RingStepOk.StepOk, RingStepOk.operates_on, RingStart.at_first, RingStart.at_touches, RingStart.at_coming, RingStart.at_word}
use Rattle.queue_laws.specs.Ring.RingShared.{Shared, HasPlace, HasWord, word_at, put_word, CanOperate, CanTouch, answered, operated, touched, handed}
use Rattle.own_cells.{specs.OneRing.RingWords.words_of, specs.OneRing.RingWords.stamp_word, specs.declared.ring.ring_words.TheConstants.TAIL, specs.declared.ring.ring_words.TheConstants.HEAD}
use Rattle.own_cells.proofs.OneRing.RingWrites.{word_in, word_after, stamps_long, stamp_of, stamps_stay, stamps_set}
use Rattle.shared_parties.specs.Calling.{touched_list, lies_in, handed_by, HasTouched, NextOk, CallLaws}
use Rattle.shared_tables.specs.{TableRule.found_by, TableRule.TableStepOk, TableRule.TakesOff, TableRule.OpensIn, TableRule.TableLaws, Laws.RingWaitFree.ring_wait_free}
use Rattle.shared_tables.specs.RingTable.{home_when, home_of, Homes, LiesIn, word_index, RingCoded, ring_calls, ring_table}

-- the table has the word
place_below : (cap : ℕ) (w : Word ℕ) → HasPlace cap w → word_index w < words_of cap
place_below cap Word.Lock has = absurd has
place_below cap (Word.State b i) has = absurd has
place_below cap w has = omega arith

-- the count stays where another word is written
after_count : (n k x : ℕ) (ws : List ℕ) → 0 < k → set (n ∷ ws) k x ≡ n ∷ set ws (k - 1) x
after_count n zero x ws more = absurd (omega arith)
after_count n (suc k) x ws more = let back : suc k - 1 ≡ k = omega arith in ap (λ i. n ∷ set ws i x) (sym back)

index_after : (cap : ℕ) (w : Word ℕ) → HasPlace cap w → 0 < word_index w
index_after cap Word.Lock has = absurd has
index_after cap (Word.State b i) has = absurd has
index_after cap w has = omega arith

-- no operation on a ring takes bits off a word
takes_none : {T : Type 0} {cap : ℕ} {r : Ring T} {who : ℕ} {ms : List (State T)} {was : Bool} {c : Stand T} → At cap r who ms was c → (n : ℕ) → TakesOff c.op n
takes_none (closing none) n = tt
takes_none _ n = tt

module _ {T : Type 0} where
  -- the first word may count other parties
  pub recounted : (cap : ℕ) (s : Shared T) (n m : ℕ) (ws : List ℕ) → LiesIn cap s (n ∷ ws) → LiesIn cap s (m ∷ ws)
  recounted cap s n m ws l = record { long = l.long; tail = l.tail; head = l.head; stamps = stamps_stay cap (n ∷ ws) 0 m (λ k lt. word_after k 0 (omega arith)) ∙ l.stamps }

  stamp_low : (cap : ℕ) (s : Shared T) (ws : List ℕ) (i : ℕ) → LiesIn cap s ws → i < length s.stamps → i < cap
  stamp_low cap s ws i l has = let long = ap length l.stamps in let count = stamps_long cap ws in omega (arith, long, count, has)

  -- the table has the words of the ring
  word_found : (cap : ℕ) (s : Shared T) (ws : List ℕ) (w : Word ℕ) → LiesIn cap s ws → HasWord s w → get_or ws (word_index w) 0 ≡ word_at s w
  word_found cap s ws (Word.Stamp i) l has = sym (stamp_of cap ws i (stamp_low cap s ws i l has)) ∙ ap (λ xs. get_or xs i 0) l.stamps
  word_found cap s ws Word.Tail l has = l.tail
  word_found cap s ws Word.Head l has = l.head
  word_found cap s ws Word.Lock l has = absurd has
  word_found cap s ws (Word.State b i) l has = absurd has

  word_put : (cap : ℕ) (s : Shared T) (ws : List ℕ) (w : Word ℕ) (x : ℕ) → LiesIn cap s ws → HasWord s w → LiesIn cap (put_word s w x) (set ws (word_index w) x)
  word_put cap s ws (Word.Stamp i) x l has =
      let lt = stamp_low cap s ws i l has in let below = word_in cap i lt in let long = l.long in
      record {
        long = length-set ws (stamp_word i) x ∙ l.long;
        tail = get_or-set_other ws (stamp_word i) TAIL x 0 (λ e. word_after i TAIL (omega arith) (sym e)) ∙ l.tail;
        head = get_or-set_other ws (stamp_word i) HEAD x 0 (λ e. word_after i HEAD (omega arith) (sym e)) ∙ l.head;
        stamps = stamps_set cap ws i x lt (omega (arith, below, long)) ∙ ap (λ xs. set xs i x) l.stamps;
      }
  word_put cap s ws Word.Tail x l has =
      let long = l.long in
      record {
        long = length-set ws TAIL x ∙ l.long;
        tail = get_or-set_same ws TAIL x 0 (omega (arith, long));
        head = get_or-set_other ws TAIL HEAD x 0 (λ e. omega arith) ∙ l.head;
        stamps = stamps_stay cap ws TAIL x (λ k lt. word_after k TAIL (omega arith)) ∙ l.stamps;
      }
  word_put cap s ws Word.Head x l has =
      let long = l.long in
      record {
        long = length-set ws HEAD x ∙ l.long;
        tail = get_or-set_other ws HEAD TAIL x 0 (λ e. omega arith) ∙ l.tail;
        head = get_or-set_same ws HEAD x 0 (omega (arith, long));
        stamps = stamps_stay cap ws HEAD x (λ k lt. word_after k HEAD (omega arith)) ∙ l.stamps;
      }
  word_put cap s ws Word.Lock x l has = absurd has
  word_put cap s ws (Word.State b i) x l has = absurd has

  -- what the operation finds is what the ring's operation answers
  pub answers_found : (cap : ℕ) (s : Shared T) (ws : List ℕ) (o : Op ℕ) → LiesIn cap s ws → CanOperate s o → answered s o ≡ answer_for o (get_or ws (word_index (op_word o)) 0)
  answers_found cap s ws o l can = ap (answer_for o) (sym (word_found cap s ws (op_word o) l (operates_on s o can)))

  -- and the words after it are those of the ring's operation
  pub words_step : (cap : ℕ) (s : Shared T) (ws : List ℕ) (o : Op ℕ) → LiesIn cap s ws → CanOperate s o → LiesIn cap (operated s o) (set ws (word_index (op_word o)) (op_makes o (get_or ws (word_index (op_word o)) 0)))
  words_step cap s ws (Op.Load w) l can = subst (LiesIn cap s) (sym (set-get_or ws (word_index w) 0)) l
  words_step cap s ws o l can =
      let has = operates_on s o can in
      subst (λ y. LiesIn cap (put_word s (op_word o) (op_makes o (word_at s (op_word o)))) (set ws (word_index (op_word o)) (op_makes o y))) (sym (word_found cap s ws (op_word o) l has))
      (word_put cap s ws (op_word o) (op_makes o (word_at s (op_word o))) l has)

  home_none : (c : Cell T) → owner c ≡ None → home_of c ≡ some (item_in c)
  home_none c e = ap (λ o. home_when o (item_in c)) e

  home_some : (c : Cell T) (who : ℕ) → owner c ≡ Some who → home_of c ≡ maybe.none
  home_some c who e = ap (λ o. home_when o (item_in c)) e

  homes_put : (cap : ℕ) (r s : Ring T) (hs : List (maybe.Option (Option T))) (i : ℕ) (c : Cell T) (y : maybe.Option (Option T)) → i < cap → s.cells ≡ put r.cells i c → home_of c ≡ y → Homes cap r hs → Homes cap s (set hs i y)
  homes_put cap r s hs i c y lt cells is h = (
    length-set hs i y ∙ h.0,
    λ j l. subst (λ f. get_elem? (set hs i y) j ≡ some (home_of (f j))) (sym cells)
        (put_ok r.cells i j c (λ k d. j ≡ k → get_elem? (set hs i y) j ≡ some (home_of d))
        (λ e. ap (get_elem? (set hs i y)) e ∙ (set_here hs i y (let a = h.0 in omega arith) ∙ ap some (sym is)))
        (λ ne e. set_else hs i j y ne ∙ h.1 j l) refl),
  )

  -- the slots at home are as before where the cells' homes are
  homes_same : (cap : ℕ) (r s : Ring T) (hs : List (maybe.Option (Option T))) → ((k : ℕ) → home_of (s.cells k) ≡ home_of (r.cells k)) → Homes cap r hs → Homes cap s hs
  homes_same cap r s hs same h = (h.0, λ i lt. h.1 i lt ∙ ap some (sym (same i)))

  -- what the table does at a step that shifts the slots so, for a seat that has these
  pub record Shifted (cap who : ℕ) (s : Ring T) (hs : List (maybe.Option (Option T))) (xs : List (ℕ × Option T)) : Type 0 where
    pub act : Act (Option T)
    pub valid : Valid hs xs act
    pub homes : Homes cap s (homes_after hs xs act)
    pub lent : Lent s who (carried_after xs act)

  pub shifts : (cap who : ℕ) (r s : Ring T) (t : Touch) (v : Option T) (hs : List (maybe.Option (Option T))) (xs : List (ℕ × Option T))
      → Homes cap r hs → Lent r who xs → Shift cap who r s t v → Shifted cap who s hs (touched_list t v xs)
  shifts cap who r s t v hs xs h lent (Rests quiet cells) =
      subst (λ u. Shifted cap who s hs (touched_list u v xs)) (sym quiet) (record {
        act = keeps;
        valid = tt;
        homes = homes_same cap r s hs (λ k. ap (λ f. home_of (f k)) cells) h;
        lent = stays xs lent;
      })
    where
      stays : (ys : List (ℕ × Option T)) → Lent r who ys → Lent s who ys
      stays [] l = λ k e. l k (ap (λ f. owner (f k)) (sym cells) ∙ e)
      stays (y ∷ []) l = (ap (λ f. owner (f y.0)) cells ∙ l.0, ap (λ f. item_in (f y.0)) cells ∙ l.1, λ k e. l.2 k (ap (λ f. owner (f k)) (sym cells) ∙ e))
      stays (y ∷ z ∷ zs) l = absurd l
  shifts cap who r s t v hs xs h lent (Claims i c lt quiet none free mine item cells) =
      subst (λ u. Shifted cap who s hs (touched_list u v xs)) (sym quiet) (from xs lent)
    where
      here : s.cells i ≡ c
      here = ap (λ f. f i) cells ∙ put_same r.cells i c

      only : (k : ℕ) → owner (s.cells k) ≡ Some who → k ≡ i
      only k e = put_ok r.cells i k c (λ j d. owner d ≡ Some who → j ≡ i) (λ e. refl) (λ ne e. absurd (none k e)) (ap (λ f. owner (f k)) (sym cells) ∙ e)

      from : (ys : List (ℕ × Option T)) → Lent r who ys → Shifted cap who s hs ys
      from [] l = record {
        act = takes i (item_in c);
        valid = h.1 i lt ∙ ap some (home_none (r.cells i) free ∙ ap some (sym item));
        homes = homes_put cap r s hs i c maybe.none lt cells (home_some c who mine) h;
        lent = (ap owner here ∙ mine, ap item_in here, only);
      }
      from (y ∷ []) l = absurd (none y.0 l.0)
      from (y ∷ z ∷ zs) l = absurd l
  shifts cap who r s t v hs xs h lent (GoesOn i c quiet own mine item cells) =
      subst (λ u. Shifted cap who s hs (touched_list u v xs)) (sym quiet) (record { act = keeps; valid = tt; homes = homes_same cap r s hs same h; lent = stays xs lent })
    where
      there : (k : ℕ) (P : Cell T → Type 0) → (k ≡ i → P c) → (k ≢ i → P (r.cells k)) → P (s.cells k)
      there k P hit miss = subst (λ f. P (f k)) (sym cells) (put_ok r.cells i k c (λ j d. j ≡ k → P d) (λ e. hit (sym e)) (λ ne e. miss ne) refl)

      same : (k : ℕ) → home_of (s.cells k) ≡ home_of (r.cells k)
      same k = there k (λ d. home_of d ≡ home_of (r.cells k)) (λ e. home_some c who mine ∙ sym (home_some (r.cells k) who (ap (λ n. owner (r.cells n)) e ∙ own))) (λ ne. refl)

      owned : (k : ℕ) → owner (s.cells k) ≡ owner (r.cells k)
      owned k = there k (λ d. owner d ≡ owner (r.cells k)) (λ e. mine ∙ sym (ap (λ n. owner (r.cells n)) e ∙ own)) (λ ne. refl)

      items : (k : ℕ) → item_in (s.cells k) ≡ item_in (r.cells k)
      items k = there k (λ d. item_in d ≡ item_in (r.cells k)) (λ e. item ∙ ap (λ n. item_in (r.cells n)) (sym e)) (λ ne. refl)

      stays : (ys : List (ℕ × Option T)) → Lent r who ys → Lent s who ys
      stays [] l = λ k e. l k (sym (owned k) ∙ e)
      stays (y ∷ []) l = (owned y.0 ∙ l.0, items y.0 ∙ l.1, λ k e. l.2 k (sym (owned k) ∙ e))
      stays (y ∷ z ∷ zs) l = absurd l
  shifts cap who r s t v hs xs h lent (Returns i c lt mine own free item cells) = from xs lent
    where
      back : (ys : List (ℕ × Option T)) → touched_list t v ys ≡ (i, v) ∷ rest ys
      back ys = at t mine
        where
          at : (u : Touch) → Touches u i → touched_list u v ys ≡ (i, v) ∷ rest ys
          at Touch.Nothing e = absurd e
          at u e = ap (λ n. (n, v) ∷ rest ys) e

      from : (ys : List (ℕ × Option T)) → Lent r who ys → Shifted cap who s hs (touched_list t v ys)
      from [] l = absurd (l i own)
      from (y ∷ []) l = subst (Shifted cap who s hs) (sym (back (y ∷ []))) (record {
        act = gives;
        valid = tt;
        homes = homes_put cap r s hs i c (some v) lt cells (home_none c free ∙ ap some item) h;
        lent = λ k e. put_ok r.cells i k c (λ j d. owner d ≡ Some who → ⊥) (λ e. let f : None ≡ Some who = sym free ∙ e in cc) (λ ne e. ne (l.2 k e ∙ sym (l.2 i own))) (ap (λ f. owner (f k)) (sym cells) ∙ e);
      })
      from (y ∷ z ∷ zs) l = absurd l

  has_touched : (cap : ℕ) (s : Ring T) (who : ℕ) (ms : List (State T)) (was : Bool) (c : Stand T) (xs : List (ℕ × Option T)) → At cap s who ms was c → Lent s who xs → HasTouched c.touch xs
  has_touched cap s who ms was c [] here lent = λ i e. absurd (lent i (at_touches i here e))
  has_touched cap s who ms was c (x ∷ []) here lent = λ i e. (x.1, ap (λ n. (n, x.1) ∷ []) (sym (lent.2 i (at_touches i here e))))
  has_touched cap s who ms was c (x ∷ y ∷ zs) here lent = absurd lent

  lies_touched : (cap : ℕ) (s : Shared T) (ws : List ℕ) (t : Touch) (v : Option T) → LiesIn cap s ws → LiesIn cap (touched s t v) ws
  lies_touched cap s ws Touch.Nothing v l = l
  lies_touched cap s ws t v l = record { long = l.long; tail = l.tail; head = l.head; stamps = l.stamps }

  -- what the touch hands over is what lies in the seat's slot
  hands_over : (cap : ℕ) (r : Ring T) (s : Shared T) (who : ℕ) (t : Touch) (v : Option T) (xs : List (ℕ × Option T)) → Codes cap r s → CanTouch s t → ((i : ℕ) → Touches t i → owner (r.cells i) ≡ Some who) → Lent r who xs
      → handed s t v ≡ handed_by t v xs
  hands_over cap r s who t v xs codes can owned lent = by t can owned
    where
      lies : (i : ℕ) → i < length s.slots → owner (r.cells i) ≡ Some who → (ys : List (ℕ × Option T)) → Lent r who ys → get_or s.slots i None ≡ lies_in ys
      lies i lt own [] l = absurd (l i own)
      lies i lt own (y ∷ []) l = codes.slot i (let a = codes.slotted in omega arith) ∙ (ap (λ k. item_in (r.cells k)) (l.2 i own) ∙ l.1)
      lies i lt own (y ∷ z ∷ zs) l = absurd l

      by : (u : Touch) → CanTouch s u → ((i : ℕ) → Touches u i → owner (r.cells i) ≡ Some who) → handed s u v ≡ handed_by u v xs
      by Touch.Nothing c o = refl
      by (Touch.Put i) c o = lies i c (o i refl) xs lent
      by (Touch.Swap i) c o = lies i c (o i refl) xs lent
      by (Touch.Take i) c o = lies i c (o i refl) xs lent

  lent_none : (s : Ring T) (who : ℕ) (xs : List (ℕ × Option T)) → Lent s who xs → HoldsNone s.cells who → xs ≡ []
  lent_none s who [] lent none = refl
  lent_none s who (x ∷ []) lent none = absurd (none x.0 lent.0)
  lent_none s who (x ∷ y ∷ zs) lent none = absurd lent

  module _ (cap : ℕ) (r s : Ring T) (who : ℕ) (ms : List (State T)) (was : Bool) where
    -- where the call stands after its step, or that it ends right
    goes_well : (n : Next ℕ) (v : Option T) (k : Call T) (es : List (Effect T)) (m : ℕ) → RingNextOk cap r s who ms was n v k es m → NextOk (ring_calls cap) s who ms was n v k es
    goes_well (Next.Step l t o) v k es m goes = goes.0
    goes_well (Next.Reply x spare) v k es m goes = let y = goes.2 in (goes.0, goes.1, (y.0, y.1, y.2, λ none. seen_map ms (λ q p. inl p) (y.3 none)))

  module _ (cap : ℕ) (g : Ring T) (who n : ℕ) (ws : List ℕ) (hs : List (maybe.Option (Option T))) where
    -- each step of a call does what the table is owed
    ring_steps : (ms : List (State T)) (was : Bool) (c : Stand T) (xs : List (ℕ × Option T))
        → RingOk cap g → RingCoded cap g ws hs → At cap g who ms was c → Lent g who xs → TableStepOk (ring_table cap) g who n ws hs ms was c xs
    ring_steps ms was c xs ok (s, codes, lies, homes) here lent = record {
      after = good.after;
      words = set ws (index - 1) made;
      effect = good.e;
      act = moved.act;
      can_next = subst (λ (a : Answer ℕ). CanNext (Kind.Bounded cap) c.local a) found_is good.goes_on;
      ok = good.ok;
      written = written;
      valid = moved.valid;
      coded = (operated touching c.op, good.codes, recounted cap (operated touching c.op) n 0 (set ws (index - 1) made) (subst (LiesIn cap (operated touching c.op)) written (words_step cap touching (n ∷ ws) c.op table good.operates)), moved.homes);
      lent = moved.lent;
      front = may_front cap was c.local (answered touching c.op) good.e good.told;
      makes = good.makes;
      passes = good.passes;
      goes = subst (λ (z : Answer ℕ × Option T). NextOk (ring_calls cap) good.after who (queue_of cap good.after ∷ ms) (was || not good.after.closed) (next_of (Kind.Bounded cap) c.local z.0) z.1 c.call (with_effect c.effects good.e))
          (λ i. (found_is i, handed_is i))
          (goes_well cap g good.after who (queue_of cap good.after ∷ ms) (was || not good.after.closed) (next_of (Kind.Bounded cap) c.local (answered touching c.op)) (handed s c.touch c.carried) c.call (with_effect c.effects good.e) (rank cap g c.local) good.goes);
    }
      where
        touching : Shared T
        touching = touched s c.touch c.carried

        good : StepOk cap g who s ms was c
        good = step_good ok codes here

        moved : Shifted cap who good.after hs (touched_list c.touch c.carried xs)
        moved = shifts cap who g good.after c.touch c.carried hs xs homes lent good.shift

        table : LiesIn cap touching (n ∷ ws)
        table = lies_touched cap s (n ∷ ws) c.touch c.carried (recounted cap s 0 n ws lies)

        index : ℕ
        index = word_index (op_word c.op)

        made : ℕ
        made = op_makes c.op (get_or (n ∷ ws) index 0)

        written : set (n ∷ ws) index made ≡ n ∷ set ws (index - 1) made
        written = after_count n index made ws (index_after (length touching.stamps) (op_word c.op) (operates_on touching c.op good.operates))

        found_is : answered touching c.op ≡ answer_for c.op (found_by {T = T} (ring_table cap) c.op (n ∷ ws))
        found_is = answers_found cap touching (n ∷ ws) c.op table good.operates

        handed_is : handed s c.touch c.carried ≡ handed_by c.touch c.carried xs
        handed_is = hands_over cap g s who c.touch c.carried xs codes good.touches (λ i e. at_touches i here e) lent

  ring_opens_in : (cap : ℕ) → IsRing cap → (c : Call T) → OpensIn (ring_table cap) c
  ring_opens_in cap ring Call.Capacity = (ring, (refl, (Reply.Capacity (Some cap), refl, refl, λ m is. sym is)))
  ring_opens_in cap ring c = (ring, (refl, tt, λ g j none. at_first cap g j c none))

  pub ring_call_laws : (cap : ℕ) → CallLaws {T = T} (ring_calls cap)
  ring_call_laws cap = record {
    at_stays = λ g s who j ms was c ok ok' ne pass here. at_stays ok ok' ne pass here;
    lent_stays = λ g s who j xs ne pass lent. lent_stays who j xs ne pass lent;
    idle_stays = λ g s who j ne pass idle. lent_stays who j [] ne pass idle;
    idle_none = λ g j xs idle lent. lent_none g j xs lent idle;
    idle_lent = λ g j idle. idle;
    coming = λ g j ms was c ok here b. at_coming ok here b;
    touches = λ g j ms was c xs here lent. has_touched cap g j ms was c xs here lent;
  }

  pub ring_table_laws : (cap : ℕ) → IsRing cap → TableLaws {T = T} (ring_table cap) (words_of cap)
  ring_table_laws cap ring = record {
    calls = ring_call_laws cap;
    below = place_below cap;
    at_word = λ g j ms was c ok here. at_word ok here;
    steps = λ g who n ws hs ms was c xs ok coded here lent. ring_steps cap g who n ws hs ms was c xs ok coded here lent;
    takes_off = λ g who n ws hs ms was c ok coded here. takes_none here (found_by {T = T} (ring_table cap) c.op (n ∷ ws));
    gives = λ spare none. none;
    opens = ring_opens_in cap ring;
    wait_free = ring_wait_free cap;
    early = λ g j ms was c is here. early is.1 here;
  }
