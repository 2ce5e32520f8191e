-- A block of a chain, once every call in progress has done what it has claimed, shows its part of the list.
use Rattle.std.proofs.Common.{ℕ, suc, zero, ◌+◌, ◌-◌, ◌*◌, ◌/◌, ◌%◌, ◌<◌, ◌≤◌, ◌≡◌, ◌==◌, not, ◌∙◌, Bool, true, false, if◌then◌else◌, Option, Some, None, List, [], ◌∷◌, ◌++◌, length, refl, sym, ap, subst, get_or, slice_get, drop, bit_and, arith}
use Rattle.std.{proofs.lemmas.List.append_assoc, proofs.lemmas.List.drop_all, specs.Option.option_to_list}
use Rattle.machine_replay.specs.Vocabulary.{BLOCK_SLOTS, READ, Running}
use Rattle.queue_laws.specs.Chain.ChainCells.{Writer, Free, Writing, Wrote, Reader, Unread, Reading, Done, Chained, Chain, ChainOk, ItemOk, item_at, Part, Write, Read, owner, writer_of, reader_of}
use Rattle.queue_laws.{specs.Chain.ChainAnswers.is_done, proofs.Chain.ChainSlots.lies}
use Rattle.machine_memory.specs.{declared.blocks.BlockPlace.BlockPlace, Blocks.BlockState, Blocks.blank}
use Rattle.machine_steps.specs.ChainLeft.{unread_in, unread, front_at}
use Rattle.machine_replay.proofs.Chain.{Codes.BlockIs, Counted.InCall, Counted.StandsAt, DeedsAt.at_deed}
use Rattle.machine_replay.proofs.Chain.Deeds.{Deed, Puts, Lays, Reads, deed_of, PutsAt, IsSlotOf, IsClaimed, DeedIs}
use Rattle.machine_replay.proofs.Chain.Done.{all_done, done_to, keeps_all, makes_all, IsWide, wide_done, HasItem, item_kept, item_made, SaysUnread, unread_kept, read_made}

-- every party stands on the chain, in a call or not
abbrev pub AllStand : {A : Type 0} → Chain A → List (Option (Running A)) → Type 0
AllStand g calls = (p : ℕ) → StandsAt g p (get_or calls p None)

-- what a call in progress is still to do
abbrev pub deed_in : {A : Type 0} → Running A → Deed A
deed_in r = deed_of r.local r.touch r.op r.carried

pub deed_at : {A : Type 0} (g : Chain A) (calls : List (Option (Running A))) → ChainOk g → AllStand g calls → (p : ℕ) (r : Running A) → get_or calls p None ≡ Some r → DeedIs g p (deed_in r) (front_at r.local)
deed_at g calls ok each p r e = let h : InCall g p r = subst (λ x. StandsAt g p x) e (each p) in at_deed ok h.here

-- who holds a part is in a call
pub in_call : {A : Type 0} (g : Chain A) (calls : List (Option (Running A))) → AllStand g calls → (p : ℕ) (x : Part) → owner g x ≡ Some p → (r : Running A) × (get_or calls p None ≡ Some r)
in_call {A} g calls each p x own = go (get_or calls p None) (each p)
  where
    go : (y : Option (Running A)) → StandsAt g p y → (r : Running A) × (y ≡ Some r)
    go None h = absurd (h.0 x own)
    go (Some r) h = (r, refl)

-- a slot of the chain's block b is that of one item
one_item : {A : Type 0} (g : Chain A) (n b i f j : ℕ) → ChainOk g → b < g.blocks → IsSlotOf g n f j → f ≡ g.names b → j ≡ i → n ≡ item_at b i
one_item g n b i f j ok lt slot same at =
    let twice : Chained (n / BLOCK_SLOTS) ≡ Chained b = sym (ok.name (n / BLOCK_SLOTS) slot.0.0) ∙ (ap g.uses (sym slot.0.1 ∙ same) ∙ ok.name b lt) in
    let block : n / BLOCK_SLOTS ≡ b = cc in
    let place = slot.1 in
    omega (arith, block, place, at)

-- who puts something into a slot has claimed its item; who reads it reads its item
puts_claimed : {A : Type 0} (g : Chain A) (q b i : ℕ) (d : Deed A) (y : Option A) → ChainOk g → b < g.blocks → IsClaimed g q d → PutsAt d (g.names b) i y → (v : A) × (g.writers (item_at b i) ≡ Writing q v) × (y ≡ Some v)
puts_claimed g q b i (Puts f j x) y ok lt (n, v, mine, slot, is) puts = (v, ap g.writers (sym (one_item g n b i f j ok lt slot puts.0 puts.1)) ∙ mine, sym puts.2 ∙ is)
puts_claimed g q b i (Lays f j x fresh) y ok lt (n, v, mine, slot, is, laid) puts = (v, ap g.writers (sym (one_item g n b i f j ok lt slot puts.0 puts.1)) ∙ mine, sym puts.2 ∙ is)
puts_claimed g q b i d y ok lt claimed puts = absurd puts

reads_claimed : {A : Type 0} (g : Chain A) (q b i : ℕ) (d : Deed A) → ChainOk g → b < g.blocks → IsClaimed g q d → d ≡ Reads (g.names b) i → g.readers (item_at b i) ≡ Reading q
reads_claimed g q b i d ok lt claimed is =
    let h : IsClaimed g q (Reads (g.names b) i) = subst (λ e. IsClaimed g q e) is claimed in
    ap g.readers (sym (one_item g h.0 b i (g.names b) i ok lt h.2 refl refl)) ∙ h.1

-- what a place shows of the list
pub unread_none : {A : Type 0} (p : BlockPlace A) → p.item ≡ None → unread_in p ≡ []
unread_none {A} p e = go (bit_and p.state READ == 0) (option_to_list p.item) (ap option_to_list e)
  where
    go : (t : Bool) (xs : List A) → xs ≡ [] → (if t then xs else []) ≡ []
    go true xs none = none
    go false xs none = refl

drop_one : {X : Type 0} (xs : List X) (i : ℕ) (v : X) → slice_get xs i ≡ Some v → v ∷ drop (suc i) xs ≡ drop i xs
drop_one [] i v e = cc
drop_one (x ∷ xs) zero v e = ap (λ y. y ∷ xs) (let z : v ≡ x = cc in z)
drop_one (x ∷ xs) (suc i) v e = drop_one xs i v e

-- this place shows the item n, if that is in the list
abbrev Shows : {A : Type 0} → Chain A → ℕ → BlockPlace A → Type 0
Shows g n p = unread_in p ++ drop (n + 1 - g.head) g.items ≡ drop (n - g.head) g.items

shows_gone : {A : Type 0} (g : Chain A) (n : ℕ) (p : BlockPlace A) → unread_in p ≡ [] → n < g.head → Shows g n p
shows_gone g n p none lt = rw none (ap (λ k. drop k g.items) (let e : n + 1 - g.head ≡ n - g.head = omega arith in e))

shows_none : {A : Type 0} (g : Chain A) (n : ℕ) (p : BlockPlace A) → ChainOk g → p.item ≡ None → g.tail ≤ n → Shows g n p
shows_none g n p ok none high = let count_is = ok.count in rw (unread_none p none) (drop_all (n + 1 - g.head) g.items (omega arith) ∙ sym (drop_all (n - g.head) g.items (omega arith)))

shows_item : {A : Type 0} (g : Chain A) (n : ℕ) (v : A) (p : BlockPlace A) → p.item ≡ Some v → (bit_and p.state READ == 0) ≡ true → g.head ≤ n → slice_get g.items (n - g.head) ≡ Some v → Shows g n p
shows_item g n v p item unread low at =
    rw (unread, item) (ap (λ k. v ∷ drop k g.items) (let e : n + 1 - g.head ≡ suc (n - g.head) = omega arith in e) ∙ drop_one g.items (n - g.head) v at)

-- each place of a block of the chain shows its item
slot_shows : {A : Type 0} (g : Chain A) (calls : List (Option (Running A))) (b i : ℕ) (x : BlockState A) → ChainOk g → AllStand g calls → b < g.blocks → i < BLOCK_SLOTS → BlockIs g b x.places x.next
    → Shows g (item_at b i) (get_or (all_done calls (g.names b) x).places i blank)
slot_shows {A} g calls b i x ok each lt low is = go (g.writers n) (g.readers n) refl refl (ok.item n)
  where
    n : ℕ
    n = item_at b i

    after : BlockState A
    after = all_done calls (g.names b) x

    wide : (p : ℕ) (r : Running A) → get_or calls p None ≡ Some r → (y : BlockState A) → IsWide y → IsWide (done_to (deed_in r) (g.names b) y)
    wide p r e y w = wide_done (deed_in r) (g.names b) y w

    -- nobody puts anything else there, nobody reads it
    item_stays : (v : Option A) → ((q : ℕ) (u : A) → g.writers (item_at b i) ≡ Writing q u → Some u ≡ v) → (p : ℕ) (r : Running A) → get_or calls p None ≡ Some r → (y : BlockState A) → IsWide y × HasItem i v y
        → IsWide (done_to (deed_in r) (g.names b) y) × HasItem i v (done_to (deed_in r) (g.names b) y)
    item_stays v same p r e y h = (
      wide p r e y h.0,
      item_kept (deed_in r) (g.names b) i v y low h.0 (λ z puts. let c = puts_claimed g p b i (deed_in r) z ok lt (deed_at g calls ok each p r e).claimed puts in c.2 ∙ same p c.0 c.1) h.1,
    )

    unread_stays : (t : Bool) → ((q : ℕ) → g.readers (item_at b i) ≡ Reading q → t ≡ false) → (p : ℕ) (r : Running A) → get_or calls p None ≡ Some r → (y : BlockState A) → IsWide y × SaysUnread i t y
        → IsWide (done_to (deed_in r) (g.names b) y) × SaysUnread i t (done_to (deed_in r) (g.names b) y)
    unread_stays t never p r e y h = (
      wide p r e y h.0,
      unread_kept (deed_in r) (g.names b) i t y low h.0 (λ reads. never p (reads_claimed g p b i (deed_in r) ok lt (deed_at g calls ok each p r e).claimed reads)) h.1,
    )

    keeps_item : (v : Option A) → ((q : ℕ) (u : A) → g.writers (item_at b i) ≡ Writing q u → Some u ≡ v) → HasItem i v x → HasItem i v (all_done calls (g.names b) x)
    keeps_item v same here = (keeps_all calls (g.names b) (λ y. IsWide y × HasItem i v y) (item_stays v same) x (is.wide, here)).1

    made_item : (q : ℕ) (v : A) → g.writers (item_at b i) ≡ Writing q v → HasItem i (Some v) (all_done calls (g.names b) x)
    made_item q v mine =
        let c = in_call g calls each q (Write (item_at b i)) (ap writer_of mine) in
        let deed = deed_at g calls ok each q c.0 c.1 in
        let block : item_at b i / BLOCK_SLOTS ≡ b = omega (arith, low) in
        let slot : item_at b i % BLOCK_SLOTS ≡ i = omega (arith, low) in
        let puts : PutsAt (deed_in c.0) (g.names b) i (Some v) = subst (λ j. PutsAt (deed_in c.0) (g.names b) j (Some v)) slot (subst (λ k. PutsAt (deed_in c.0) (g.names k) (item_at b i % BLOCK_SLOTS) (Some v)) block (deed.puts (item_at b i) v mine)) in
        makes_all calls (g.names b) IsWide (HasItem i (Some v)) wide
        (item_stays (Some v) (λ p u e. let twice : Writing p u ≡ Writing q v = sym e ∙ mine in ap (λ y. Some y) (let z : u ≡ v = cc in z)))
        q c.0 c.1 (λ y w. item_made (deed_in c.0) (g.names b) i (Some v) y low w puts) x is.wide

    keeps_unread : g.readers (item_at b i) ≡ Unread → SaysUnread i true (all_done calls (g.names b) x)
    keeps_unread free =
        let state = is.state i low (λ last e. let z : Unread ≡ Done = sym free ∙ e in cc) in
        (keeps_all calls (g.names b) (λ y. IsWide y × SaysUnread i true y) (unread_stays true (λ q e. absurd (let z : Unread ≡ Reading q = sym free ∙ e in cc))) x (is.wide, state.read ∙ ap (λ r. not (is_done r)) free)).1

    made_read : (q : ℕ) → g.readers (item_at b i) ≡ Reading q → SaysUnread i false (all_done calls (g.names b) x)
    made_read q mine =
        let c = in_call g calls each q (Read (item_at b i)) (ap reader_of mine) in
        let deed = deed_at g calls ok each q c.0 c.1 in
        let block : item_at b i / BLOCK_SLOTS ≡ b = omega (arith, low) in
        let slot : item_at b i % BLOCK_SLOTS ≡ i = omega (arith, low) in
        let reads = deed.reads (item_at b i) mine ∙ ap (λ k. Reads (g.names k) (item_at b i % BLOCK_SLOTS)) block ∙ ap (λ j. Reads (g.names b) j) slot in
        makes_all calls (g.names b) IsWide (SaysUnread i false) wide (unread_stays false (λ p e. refl)) q c.0 c.1 (λ y w. read_made (deed_in c.0) (g.names b) i y low w reads) x is.wide

    lies_none : lies (g.writers (item_at b i)) (g.readers (item_at b i)) ≡ None → (get_or x.places i blank).item ≡ None
    lies_none e = is.slot i low ∙ e

    read_gone : (q : ℕ) → g.readers (item_at b i) ≡ Reading q → unread_in (get_or (all_done calls (g.names b) x).places i blank) ≡ []
    read_gone q mine = rw (made_read q mine) refl

    go : (w : Writer A) (r : Reader) → g.writers (item_at b i) ≡ w → g.readers (item_at b i) ≡ r → ItemOk g.head g.tail g.items (item_at b i) w r → Shows g (item_at b i) (get_or (all_done calls (g.names b) x).places i blank)
    go Free Unread e f h =
        shows_none g (item_at b i) (get_or (all_done calls (g.names b) x).places i blank) ok
        (keeps_item None (λ q u z. let y : Free ≡ Writing q u = sym e ∙ z in cc) (lies_none (rw (e, f) refl))) h
    go (Writing q v) Unread e f h = shows_item g (item_at b i) v (get_or (all_done calls (g.names b) x).places i blank) (made_item q v e) (keeps_unread f) h.0 h.2
    go (Wrote v) Unread e f h =
        shows_item g (item_at b i) v (get_or (all_done calls (g.names b) x).places i blank)
        (keeps_item (Some v) (λ q u z. let y : Wrote v ≡ Writing q u = sym e ∙ z in cc) (is.slot i low ∙ rw (e, f) refl)) (keeps_unread f) h.0 h.2
    go (Writing p v) (Reading q) e f h = shows_gone g (item_at b i) (get_or (all_done calls (g.names b) x).places i blank) (read_gone q f) h
    go (Wrote v) (Reading q) e f h = shows_gone g (item_at b i) (get_or (all_done calls (g.names b) x).places i blank) (read_gone q f) h
    go (Wrote v) Done e f h =
        shows_gone g (item_at b i) (get_or (all_done calls (g.names b) x).places i blank)
        (unread_none (get_or (all_done calls (g.names b) x).places i blank) (keeps_item None (λ q u z. let y : Wrote v ≡ Writing q u = sym e ∙ z in cc) (lies_none (rw (e, f) refl)))) h
    go w r e f h = absurd h

-- places that show their items one after another show them all
places_show : {A : Type 0} (g : Chain A) (ps : List (BlockPlace A)) (m : ℕ) → ((i : ℕ) → i < length ps → Shows g (m + i) (get_or ps i blank)) → unread ps ++ drop (m + length ps - g.head) g.items ≡ drop (m - g.head) g.items
places_show g [] m all = ap (λ k. drop k g.items) (let e : m + 0 - g.head ≡ m - g.head = omega arith in e)
places_show g (p ∷ ps) m all =
    let others = places_show g ps (m + 1) (λ i lt. subst (λ k. Shows g k (get_or ps i blank)) (let e : m + suc i ≡ m + 1 + i = omega arith in e) (all (suc i) (omega arith))) in
    let here : Shows g m p = subst (λ k. Shows g k p) (let e : m + 0 ≡ m = omega arith in e) (all 0 (omega arith)) in
    append_assoc (unread_in p) (unread ps) (drop (m + length (p ∷ ps) - g.head) g.items)
    ∙ (ap (λ k. unread_in p ++ (unread ps ++ drop k g.items)) (let e : m + length (p ∷ ps) - g.head ≡ m + 1 + length ps - g.head = omega arith in e) ∙ (ap (λ ys. unread_in p ++ ys) others ∙ here))

-- the list from a block's first item on is what it shows, and the list from the next one's
pub block_shows : {A : Type 0} (g : Chain A) (calls : List (Option (Running A))) (b : ℕ) (x : BlockState A) → ChainOk g → AllStand g calls → b < g.blocks → BlockIs g b x.places x.next
    → unread (all_done calls (g.names b) x).places ++ drop ((b + 1) * BLOCK_SLOTS - g.head) g.items ≡ drop (b * BLOCK_SLOTS - g.head) g.items
block_shows {A} g calls b x ok each lt is =
    let wide : IsWide (all_done calls (g.names b) x) = keeps_all calls (g.names b) IsWide (λ p r e y w. wide_done (deed_in r) (g.names b) y w) x is.wide in
    let all = places_show g (all_done calls (g.names b) x).places (b * BLOCK_SLOTS) (λ i low. slot_shows g calls b i x ok each lt (omega (arith, low, wide)) is) in
    subst (λ k. unread (all_done calls (g.names b) x).places ++ drop (k - g.head) g.items ≡ drop (b * BLOCK_SLOTS - g.head) g.items) (let e : b * BLOCK_SLOTS + length (all_done calls (g.names b) x).places ≡ (b + 1) * BLOCK_SLOTS = omega (arith, wide) in e) all
