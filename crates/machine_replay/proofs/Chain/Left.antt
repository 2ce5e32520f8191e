-- The list that a chain of blocks holds, once every call in progress has done what it has claimed, is that of the queue.
use Rattle.std.proofs.Common.{ℕ, suc, zero, ◌+◌, ◌-◌, ◌*◌, ◌<◌, ◌≤◌, ◌≡◌, ◌≢◌, nat_lt, ◌∙◌, ◌⊎◌, inl, inr, true, false, Option, Some, None, List, [], ◌∷◌, ◌++◌, length, refl, sym, ap, subst, get_or, set, get_or-set_other, drop, arith}
use Rattle.std.proofs.lemmas.{Bool.ltb-true, Bool.ltb-false, Bool.Decides.eqb_tells, List.drop_all}
use Rattle.queue_steps.specs.State.{State}
use Rattle.machine_replay.specs.{Vocabulary.Kind, Vocabulary.BLOCK_SLOTS, Vocabulary.Running, Book.Book}
use Rattle.queue_laws.specs.Chain.ChainCells.{Reading, Done, Passer, Stands, Passing, Entering, Shown, Hidden, Showing, Seen, GivenUp, Before, Unused, Spare, Chained, Chain, ChainOk, FrontOk, ShownOk, item_at, LAST, Head, passer_of}
use Rattle.queue_laws.proofs.Chain.{ChainStates.unwalked, ChainTransitions.no_block, ChainSlots.next_items, ChainCount.number_of, ChainSpan.not_done, Count.count_all, Count.count_into}
use Rattle.machine_memory.specs.{Blocks.BlockState, Blocks.fresh_block, Blocks.places_in, Blocks.behind_in, Blocks.without, SharedMemory.MemoryState}
use Rattle.machine_steps.specs.{ChainLeft.unread, ChainLeft.chained, ChainLeft.settled_blocks, Left.left_of, World.World, World.call_at}
use Rattle.machine_replay.proofs.Chain.{Codes.BlockIs, Names.NameIs, Names.name_of, Names.alive_of, Holding.ChainHolds, Counted.StandsAt, Done.all_done, Done.settled_block, Shows.AllStand, Shows.deed_at, Shows.in_call, Shows.block_shows}
use Rattle.machine_replay.proofs.Chain.Links.{next_is, last_next, spare_empty, front_then, front_is}

-- from no block on there is nothing
chained_none : {A : Type 0} (n : ℕ) (bs : List (Option (BlockState A))) → chained n bs None ≡ []
chained_none zero bs = refl
chained_none (suc n) bs = chained_none n bs

-- from a block on that shows nothing and is the last, there is nothing
chained_empty : {A : Type 0} (n : ℕ) (bs : List (Option (BlockState A))) (f : ℕ) (x : BlockState A) → get_or bs f None ≡ Some x → unread x.places ≡ [] → x.next ≡ None → chained n bs (Some f) ≡ []
chained_empty zero bs f x e none last = refl
chained_empty (suc n) bs f x e none last =
    ap (λ y. unread (places_in y) ++ chained n (without (Some f) bs) (behind_in y)) e ∙ (ap (λ ps. ps ++ chained n (without (Some f) bs) x.next) none ∙ (ap (λ y. chained n (without (Some f) bs) y) last ∙ chained_none n (without (Some f) bs)))

-- these blocks are those, but for the chain's before the block b
abbrev Agrees : {A : Type 0} → Chain A → ℕ → List (Option (BlockState A)) → List (Option (BlockState A)) → Type 0
Agrees g b bs all = (f : ℕ) → ((j : ℕ) → j < b → f ≢ g.names j) → get_or bs f None ≡ get_or all f None

agrees_next : {A : Type 0} (g : Chain A) (b : ℕ) (bs all : List (Option (BlockState A))) → Agrees g b bs all → Agrees g (b + 1) (set bs (g.names b) None) all
agrees_next g b bs all agrees f apart = get_or-set_other bs (g.names b) f None None (apart b (omega arith)) ∙ agrees f (λ j lt. apart j (omega arith))

-- the names of the chain's blocks differ, and are no spare's
names_apart : {A : Type 0} (g : Chain A) (b j : ℕ) → ChainOk g → b < g.blocks → j < b → g.names b ≢ g.names j
names_apart g b j ok lt less e = let twice : Chained b ≡ Chained j = sym (ok.name b lt) ∙ (ap g.uses e ∙ ok.name j (omega arith)) in let same : b ≡ j = cc in absurd (omega arith)

spare_name : {A : Type 0} (g : Chain A) (f p j : ℕ) → ChainOk g → g.uses f ≡ Spare p → j < g.blocks → f ≢ g.names j
spare_name g f p j ok spare lt e = let twice : Spare p ≡ Chained j = sym spare ∙ (ap g.uses e ∙ ok.name j lt) in cc

-- what is so of the walk along the chain's links from the block F on: the blocks are there
record Walks {A : Type 0} (g : Chain A) (calls : List (Option (Running A))) (blocks : List (Option (BlockState A))) (start : ℕ) : Type 0 where
  pub ok : ChainOk g
  pub each : AllStand g calls
  pub block : (b : ℕ) → start ≤ b → b < g.blocks → (x : BlockState A) × (get_or blocks (g.names b) None ≡ Some x) × BlockIs g b x.places x.next
  pub spare : (f p : ℕ) → g.uses f ≡ Spare p → get_or blocks f None ≡ Some fresh_block

-- from a block of the chain on, the list from its first item on is gathered
walk : {A : Type 0} (g : Chain A) (calls : List (Option (Running A))) (blocks bs : List (Option (BlockState A))) (start k fuel b : ℕ) → Walks g calls blocks start → start ≤ b → b + suc k ≡ g.blocks → suc k ≤ fuel
    → Agrees g b bs (settled_blocks calls blocks) → chained fuel bs (Some (g.names b)) ≡ drop (b * BLOCK_SLOTS - g.head) g.items
walk g calls blocks bs start k zero b w low left enough agrees = absurd (omega arith)
walk {A} g calls blocks bs start k (suc fuel) b w low left enough agrees =
    ap (λ y. unread (places_in y) ++ chained fuel (set bs (g.names b) None) (behind_in y)) there
    ∙ (ap (λ ys. unread (all_done calls (g.names b) x).places ++ ys) (rest k left enough (λ j low2 left2 enough2 agrees2. walk g calls blocks (set bs (g.names b) None) start j fuel (b + 1) w low2 left2 enough2 agrees2)) ∙ block_shows g calls b x w.ok w.each lt here.2)
  where
    lt : b < g.blocks
    lt = omega arith

    here : (x : BlockState A) × (get_or blocks (g.names b) None ≡ Some x) × BlockIs g b x.places x.next
    here = w.block b low lt

    x : BlockState A
    x = here.0

    there : get_or bs (g.names b) None ≡ Some (all_done calls (g.names b) here.0)
    there = agrees (g.names b) (λ j less. names_apart g b j w.ok lt less) ∙ settled_block calls blocks (g.names b) here.0 here.1

    over : g.blocks ≡ b + 1 → drop ((b + 1) * BLOCK_SLOTS - g.head) g.items ≡ []
    over last = let high = next_items g.tail g.blocks g.mover w.ok.laid in let count_is = w.ok.count in drop_all ((b + 1) * BLOCK_SLOTS - g.head) g.items (omega arith)

    last : g.blocks ≡ b + 1 → chained fuel (set bs (g.names b) None) (all_done calls (g.names b) here.0).next ≡ []
    last at = go (last_next g calls b here.0 w.ok w.each (sym at) here.2)
      where
        go : ((all_done calls (g.names b) here.0).next ≡ None) ⊎ ((f : ℕ) × (p : ℕ) × ((all_done calls (g.names b) here.0).next ≡ Some f) × (g.uses f ≡ Spare p)) → chained fuel (set bs (g.names b) None) (all_done calls (g.names b) here.0).next ≡ []
        go (inl e) = ap (λ y. chained fuel (set bs (g.names b) None) y) e ∙ chained_none fuel (set bs (g.names b) None)
        go (inr (f, p, e, spare)) =
            let empty = spare_empty g calls f p w.ok w.each spare in
            let found : get_or (set bs (g.names b) None) f None ≡ Some (all_done calls f (fresh_block {T = A})) =
            agrees_next g b bs (settled_blocks calls blocks) agrees f (λ j less. spare_name g f p j w.ok spare (omega arith)) ∙ settled_block calls blocks f fresh_block (w.spare f p spare) in
            ap (λ y. chained fuel (set bs (g.names b) None) y) e ∙ chained_empty fuel (set bs (g.names b) None) f (all_done calls f fresh_block) found empty.0 empty.1

    rest : (k : ℕ) → b + suc k ≡ g.blocks → suc k ≤ suc fuel
        → ((j : ℕ) → start ≤ b + 1 → b + 1 + suc j ≡ g.blocks → suc j ≤ fuel → Agrees g (b + 1) (set bs (g.names b) None) (settled_blocks calls blocks) → chained fuel (set bs (g.names b) None) (Some (g.names (b + 1))) ≡ drop ((b + 1) * BLOCK_SLOTS - g.head) g.items)
        → chained fuel (set bs (g.names b) None) (all_done calls (g.names b) here.0).next ≡ drop ((b + 1) * BLOCK_SLOTS - g.head) g.items
    rest zero left enough again = let at : g.blocks ≡ b + 1 = omega arith in last at ∙ sym (over at)
    rest (suc k) left enough again =
        ap (λ y. chained fuel (set bs (g.names b) None) y) (next_is g calls b here.0 w.ok w.each (omega arith) here.2)
        ∙ again k (omega arith) (omega arith) (omega arith) (agrees_next g b bs (settled_blocks calls blocks) agrees)

-- the blocks from that which the poppers see on are there
front_low : (head front : ℕ) (p : Passer) → FrontOk head front p → front * BLOCK_SLOTS ≤ head
front_low head front (Entering who) h = let at = h.0 in omega arith
front_low head front p h = omega arith

-- a block from there on is not given up: its last item is in the list, or who passes it is to read that
not_over : {A : Type 0} (g : Chain A) (calls : List (Option (Running A))) (b : ℕ) → ChainOk g → AllStand g calls → g.front ≤ b → g.walks b ≢ GivenUp
not_over {A} g calls b ok each low over = let before = unwalked g b ok (unread g.passer refl ok.fronted) in let z : Before ≡ GivenUp = sym before ∙ over in cc
  where
    inside : g.head ≤ item_at b LAST → g.readers (item_at b LAST) ≢ Done
    inside le = not_done g.head g.tail g.items (item_at b LAST) (g.writers (item_at b LAST)) (g.readers (item_at b LAST)) (ok.item (item_at b LAST)) le

    unread : (p : Passer) → g.passer ≡ p → FrontOk g.head g.front p → g.readers (item_at b LAST) ≢ Done
    unread Stands e h = inside (omega arith)
    unread (Entering who) e h = let at = h.0 in inside (omega arith)
    unread (Passing who) e h = elim (eqb_tells b g.front) [
      | inl t ↦
          let c = in_call g calls each who Head (ap passer_of e) in
          let mine = (deed_at g calls ok each who c.0 c.1).passes e in
          let at : item_at b LAST ≡ g.head - 1 = (let same = t.1 in omega arith) in
          λ read. let z : Reading who ≡ Done = sym mine ∙ (ap g.readers (sym at) ∙ read) in cc
      | inr t ↦ inside (let ne = t.1 in omega arith)
    ]

walks_from : {A : Type 0} (s : MemoryState A) (Q : State A) (g : Chain A) (calls : List (Option (Running A))) → ChainHolds s Q g → AllStand g calls → Walks g calls s.blocks g.front
walks_from s Q g calls holds each = record {
  ok = holds.ok;
  each = each;
  block = λ b low lt.
      let here = name_of g b (g.names b) (get_or s.blocks (g.names b) None) (holds.ok.name b lt) (holds.codes.name (g.names b)) in
      alive_of g b (get_or s.blocks (g.names b) None) (not_over g calls b holds.ok each low) here.1;
  spare = λ f p spare. subst (λ u. NameIs g f u (get_or s.blocks f None)) spare (holds.codes.name f);
}

-- there are no more blocks in the chain than in the machine
blocks_few : {A : Type 0} (s : MemoryState A) (Q : State A) (g : Chain A) → ChainHolds s Q g → g.blocks ≤ length s.blocks
blocks_few s Q g holds =
    let few = count_into (λ j. true) (λ j. true) g.blocks (length s.blocks) g.names (λ f. number_of (g.uses f)) (λ b lt is. (within b lt, refl, ap number_of (holds.ok.name b lt))) in
    let all = count_all g.blocks in
    let most = count_all (length s.blocks) in
    omega (arith, few, all, most)
  where
    within : (b : ℕ) → b < g.blocks → g.names b < length s.blocks
    within b lt =
        elim (nat_lt (g.names b) (length s.blocks)) as (λ t. nat_lt (g.names b) (length s.blocks) ≡ t → g.names b < length s.blocks) [
          | true ↦ λ is. ltb-true (g.names b) (length s.blocks) is
          | false ↦ λ is.
              let past = holds.codes.unused (g.names b) (ltb-false (g.names b) (length s.blocks) is) in
              let z : Chained b ≡ Unused = sym (holds.ok.name b lt) ∙ past in
              cc
        ] refl

-- the walk from the poppers' block on
walk_from : {A : Type 0} (s : MemoryState A) (Q : State A) (g : Chain A) (calls : List (Option (Running A))) → ChainHolds s Q g → AllStand g calls → g.front < g.blocks → chained (length s.blocks) (settled_blocks calls s.blocks) (Some (g.names g.front)) ≡ g.items
walk_from s Q g calls holds each lt =
    let few = blocks_few s Q g holds in
    let low = front_low g.head g.front g.passer holds.ok.fronted in
    walk g calls s.blocks (settled_blocks calls s.blocks) g.front (g.blocks - g.front - 1) (length s.blocks) g.front (walks_from s Q g calls holds each) (omega arith) (omega arith) (omega arith) (λ f apart. refl)
    ∙ ap (λ k. drop k g.items) (let e : g.front * BLOCK_SLOTS - g.head ≡ 0 = omega arith in e)

-- the list that is left is the queue's
pub chain_left : {A : Type 0} (w : World (MemoryState A) (Running A)) (b : Book A) (g : Chain A) → ChainHolds w.shared b.queue g → ((p : ℕ) → StandsAt g p (call_at w p)) → left_of Kind.Unbounded w ≡ b.queue.items
chain_left {A} w b g holds each =
    ap (λ y. chained (length w.shared.blocks) (settled_blocks w.calls w.shared.blocks) y) (front_is g w.calls w.shared.head_block holds.ok each (ap (λ e. e.front) holds.codes.ends))
    ∙ (go g.shown refl holds.ok.seen ∙ sym (ap (λ q. q.items) holds.queue_is))
  where
    none_left : (xs : List A) → length xs ≡ 0 → xs ≡ []
    none_left [] e = refl
    none_left (x ∷ xs) e = absurd (omega arith)

    go : (s : Shown) → g.shown ≡ s → ShownOk g.blocks g.head g.front g.known g.passer s → chained (length w.shared.blocks) (settled_blocks w.calls w.shared.blocks) (front_then s g.names g.front) ≡ g.items
    go Hidden e h =
        let empty = (no_block g holds.ok h.0).1 in
        let count_is = holds.ok.count in
        chained_none (length w.shared.blocks) (settled_blocks w.calls w.shared.blocks) ∙ sym (none_left g.items (omega arith))
    go (Showing p) e h =
        let some = h.0 in
        let at_zero = h.2 in
        ap (λ k. chained (length w.shared.blocks) (settled_blocks w.calls w.shared.blocks) (Some (g.names k))) (sym at_zero) ∙ walk_from w.shared b.queue g w.calls holds each (omega arith)
    go Seen e h = walk_from w.shared b.queue g w.calls holds each h
