-- The steps of pops that change a chain: each keeps the chain right, and its effect fits.
use Rattle.std.proofs.Common.{ℕ, ◌+◌, ◌-◌, ◌*◌, ◌/◌, ◌%◌, ◌<◌, ◌≤◌, ◌≡◌, ◌≢◌, ◌∙◌, inl, inr, Bool, true, Some, List, refl, sym, ap, subst, arith, slice_get}
use Rattle.std.proofs.lemmas.Bool.Decides.{eqb_tells}
use Rattle.queue_laws.specs.{Common.Vocabulary.Effect, Common.Vocabulary.BLOCK_SLOTS, Common.Puts.put, Chain.ChainTransitions.taken, Chain.ChainTransitions.passed, Chain.ChainTransitions.entered, Chain.ChainTransitions.reads, Chain.ChainTransitions.walk_after, Chain.ChainTransitions.walked}
use Rattle.queue_steps.specs.Effect.{Fits, rest}
use Rattle.queue_laws.proofs.{Common.Puts.put_ok, Common.Lists.behind, Common.Lists.first, Common.Lists.length-rest, Chain.ChainTransitions.items_ok}
use Rattle.queue_laws.specs.Chain.ChainCells.{Writer, Free, Writing, Wrote, Reader, Unread, Reading, Done, Passer, Stands, Passing, Entering, Opening, Linking, Linked, Shown, Seen, Walk, Before, Walker, Waits, GivenUp, Chain, queue_of, value, ItemOk, LinkOk, FrontOk, ShownOk, WalkOk, IsWalked}
use Rattle.queue_laws.specs.Chain.ChainCells.{item_at, LAST, ChainOk}

-- an item that is in the list: nobody reads it, and it is the one at its place
pub in_list : {A : Type 0} (head tail : ℕ) (items : List A) (n : ℕ) (w : Writer A) (r : Reader) → head ≤ n → n < tail → ItemOk head tail items n w r
    → (r ≡ Unread) × ((x : A) × (value w ≡ Some x) × (slice_get items (n - head) ≡ Some x))
in_list head tail items n (Writing who v) Unread low lt ok = (refl, (v, refl, ok.2))
in_list head tail items n (Wrote v) Unread low lt ok = (refl, (v, refl, ok.2))
in_list head tail items n Free (Reading p) low lt ok = absurd ok
in_list head tail items n Free Done low lt ok = absurd ok
in_list head tail items n (Writing who v) Done low lt ok = absurd ok
in_list head tail items n w r low lt ok = absurd (omega arith)

-- the front, where the queue is not empty
pub front_is : {A : Type 0} (c : Chain A) → ChainOk c → c.head < c.tail → (c.readers c.head ≡ Unread) × ((x : A) × (value (c.writers c.head) ≡ Some x) × (slice_get c.items 0 ≡ Some x))
front_is c ok lt =
    let f = in_list c.head c.tail c.items c.head (c.writers c.head) (c.readers c.head) (omega arith) lt (ok.item c.head) in
    let z : c.head - c.head ≡ 0 = omega arith in
    (f.0, (f.1.0, f.1.1, rw z at f.1.2))

-- taking the front leaves what is so of the other items
item_take : {A : Type 0} (head tail : ℕ) (items : List A) (n : ℕ) (w : Writer A) (r : Reader) → n ≢ head → ItemOk head tail items n w r → ItemOk (head + 1) tail (rest items) n w r
item_take head tail items n Free Unread ne ok = ok
item_take head tail items n (Writing who v) Unread ne ok = let low = ok.0 in (omega arith, ok.1, behind items n head v (omega arith) ok.2)
item_take head tail items n (Wrote v) Unread ne ok = let low = ok.0 in (omega arith, ok.1, behind items n head v (omega arith) ok.2)
item_take head tail items n Free (Reading p) ne ok = absurd ok
item_take head tail items n Free Done ne ok = absurd ok
item_take head tail items n (Writing who v) Done ne ok = absurd ok
item_take head tail items n w r ne ok = omega arith

item_claim : {A : Type 0} (head tail : ℕ) (items : List A) (n who : ℕ) (w : Writer A) (x : A) → n < head → value w ≡ Some x → ItemOk head tail items n w (Reading who)
item_claim head tail items n who Free x lt e = cc
item_claim head tail items n who w x lt e = lt

-- a change of the readers that leaves what is read
pub walked_same : (f g : ℕ → Reader) (b slot : ℕ) → ((n : ℕ) → f n ≡ Done → g n ≡ Done) → IsWalked f b slot → IsWalked g b slot
walked_same f g b slot keeps h = (keeps (item_at b LAST) h.0, λ j lt. keeps (item_at b j) (h.1 j lt))

pub walk_same : (f g : ℕ → Reader) (b : ℕ) (w : Walk) → ((n : ℕ) → f n ≡ Done → g n ≡ Done) → ((n : ℕ) → g n ≡ Done → f n ≡ Done) → WalkOk f b w → WalkOk g b w
walk_same f g b Before keeps back h = λ e. h (back (item_at b LAST) e)
walk_same f g b (Walker who slot) keeps back h = (h.0, walked_same f g b slot keeps h.1)
walk_same f g b (Waits slot) keeps back h = (h.0, walked_same f g b slot keeps h.1, λ e. h.2 (back (item_at b slot) e))
walk_same f g b GivenUp keeps back h = walked_same f g b LAST keeps h

pub take_ok : {A : Type 0} (c : Chain A) (who : ℕ) (p : Passer) (more : Bool) (x : A) → ChainOk c → c.head < c.tail → value (c.writers c.head) ≡ Some x → c.shown ≡ Seen
    → FrontOk (c.head + 1) c.front p → (more ≡ true → p ≡ Stands → (c.head + 1) / BLOCK_SLOTS * BLOCK_SLOTS + BLOCK_SLOTS ≤ c.tail)
    → Fits (Effect.Take x) (queue_of c) × ChainOk (taken c who p more)
take_ok {A} c who p more x ok lt is shown fronted knows =
    let f = front_is c ok lt in
    let same : f.1.0 ≡ x = let e : Some f.1.0 ≡ Some x = sym f.1.1 ∙ is in cc in
    let at_front : slice_get c.items 0 ≡ Some x = f.1.2 ∙ ap (λ y. Some y) same in
    let back : (n : ℕ) → put c.readers c.head (Reading who) n ≡ Done → c.readers n ≡ Done = λ n. put_ok c.readers c.head n (Reading who) (λ j r. r ≡ Done → c.readers j ≡ Done) (λ e. cc) (λ ne e. e) in
    let keeps : (n : ℕ) → c.readers n ≡ Done → put c.readers c.head (Reading who) n ≡ Done = λ n. put_ok c.readers c.head n (Reading who) (λ j r. c.readers j ≡ Done → r ≡ Done) (λ e. let z : Unread ≡ Done = sym f.0 ∙ e in cc) (λ ne e. e) in (
      first c.items x at_front,
      record {
        count = omega (arith, ok.count, length-rest c.items x at_front);
        most = ok.most;
        item = λ n. put_ok c.readers c.head n (Reading who) (λ j r. ItemOk (c.head + 1) c.tail (rest c.items) j (c.writers j) r)
            (item_claim (c.head + 1) c.tail (rest c.items) c.head who (c.writers c.head) x (omega arith) is)
            (λ ne. item_take c.head c.tail c.items n (c.writers n) (c.readers n) ne (ok.item n));
        laid = ok.laid;
        link = ok.link;
        name = ok.name;
        named = ok.named;
        fronted = fronted;
        opens = ok.opens;
        reaches = ok.reaches;
        seen = rw shown (let h : ShownOk c.blocks c.head c.front c.known c.passer Seen = rw shown at ok.seen in h);
        knows = knows;
        walk = λ b. walk_same c.readers (put c.readers c.head (Reading who)) b (c.walks b) keeps back (ok.walk b);
      },
    )

-- a step that changes the block that the poppers see, or who moves them on
front_ok : {A : Type 0} (c : Chain A) (front : ℕ) (known : Bool) (passer : Passer) → ChainOk c → FrontOk c.head front passer → ((who : ℕ) → c.mover ≡ Opening who → front + 1 < c.blocks)
    → ShownOk c.blocks c.head front known passer c.shown → (known ≡ true → passer ≡ Stands → c.head / BLOCK_SLOTS * BLOCK_SLOTS + BLOCK_SLOTS ≤ c.tail)
    → ChainOk (record c { front = front; known = known; passer = passer })
front_ok c front known passer ok fronted reaches seen knows = record {
  count = ok.count;
  most = ok.most;
  item = ok.item;
  laid = ok.laid;
  link = ok.link;
  name = ok.name;
  named = ok.named;
  fronted = fronted;
  opens = ok.opens;
  reaches = reaches;
  seen = seen;
  knows = knows;
  walk = ok.walk;
}

-- a popper who moves the head on sees the blocks
pub passer_sees : {A : Type 0} (c : Chain A) → ChainOk c → c.passer ≢ Stands → c.shown ≡ Seen
passer_sees {A} c ok moving = go c.shown refl ok.seen
  where
    go : (s : Shown) → c.shown ≡ s → ShownOk c.blocks c.head c.front c.known c.passer s → c.shown ≡ Seen
    go Seen is h = is
    go s is h = absurd (moving h.4)

pub pass_ok : {A : Type 0} (c : Chain A) (who : ℕ) → ChainOk c → c.passer ≡ Passing who → c.links c.front ≡ Linked → ChainOk (passed c who)
pass_ok c who ok is linked =
    let front : FrontOk c.head c.front (Passing who) = rw is at ok.fronted in
    let link : LinkOk c.blocks c.front Linked = rw linked at (ok.link c.front) in
    let shown = passer_sees c ok (λ e. let z : Passing who ≡ Stands = sym is ∙ e in cc) in
    front_ok c (c.front + 1) c.known (Entering who) ok (omega arith, omega arith) reaches (rw shown link) (λ k s. cc)
  where
    reaches : (p : ℕ) → c.mover ≡ Opening p → c.front + 1 + 1 < c.blocks
    reaches p e =
        let at = ok.reaches p e in
        let ne : c.front + 2 ≢ c.blocks = λ z. let clash : Linked ≡ Linking p = sym linked ∙ (ap c.links (let y : c.front ≡ c.blocks - 2 = omega arith in y) ∙ ok.opens p e) in cc in
        omega arith

pub enter_ok : {A : Type 0} (c : Chain A) (who : ℕ) (more : Bool) → ChainOk c → c.passer ≡ Entering who → (more ≡ true → c.head + BLOCK_SLOTS ≤ c.tail) → ChainOk (entered c more)
enter_ok c who more ok is knows =
    let front : FrontOk c.head c.front (Entering who) = rw is at ok.fronted in
    let at = front.0 in
    let shown = passer_sees c ok (λ e. let z : Entering who ≡ Stands = sym is ∙ e in cc) in
    front_ok c c.front more Stands ok (omega arith) ok.reaches (rw shown (let h : ShownOk c.blocks c.head c.front c.known c.passer Seen = rw shown at ok.seen in h)) (λ k s. let room = knows k in omega arith)

-- a walk that neither waits for this item nor begins with it goes on as it was
pub walk_read : (f : ℕ → Reader) (n b : ℕ) (w : Walk) → (w ≡ Before → item_at b LAST ≢ n) → ((slot : ℕ) → w ≡ Waits slot → item_at b slot ≢ n) → WalkOk f b w → WalkOk (put f n Done) b w
walk_read f n b w unbegun unwaited h = go w unbegun unwaited h
  where
    keeps : (j : ℕ) → f j ≡ Done → put f n Done j ≡ Done
    keeps j = put_ok f n j Done (λ j r. f j ≡ Done → r ≡ Done) (λ e. refl) (λ ne e. e)

    back : (j : ℕ) → j ≢ n → put f n Done j ≡ Done → f j ≡ Done
    back j ne = put_ok f n j Done (λ i r. i ≡ j → r ≡ Done → f j ≡ Done) (λ e d. absurd (ne (sym e))) (λ no e d. d) refl

    go : (w : Walk) → (w ≡ Before → item_at b LAST ≢ n) → ((slot : ℕ) → w ≡ Waits slot → item_at b slot ≢ n) → WalkOk f b w → WalkOk (put f n Done) b w
    go Before unbegun unwaited h = λ e. h (back (item_at b LAST) (unbegun refl) e)
    go (Walker who slot) unbegun unwaited h = (h.0, walked_same f (put f n Done) b slot keeps h.1)
    go (Waits slot) unbegun unwaited h = (h.0, walked_same f (put f n Done) b slot keeps h.1, λ e. h.2 (back (item_at b slot) (unwaited slot refl) e))
    go GivenUp unbegun unwaited h = walked_same f (put f n Done) b LAST keeps h

-- an item's own block and slot
pub own_block : (b slot n : ℕ) → slot < BLOCK_SLOTS → item_at b slot ≡ n → b ≡ n / BLOCK_SLOTS
own_block b slot n lt e = omega arith

pub own_item : (n : ℕ) → item_at (n / BLOCK_SLOTS) (n % BLOCK_SLOTS) ≡ n
own_item n = omega arith

-- V10, W1: the item is read, and the walk over its block is this then
pub read_ok : {A : Type 0} (c : Chain A) (who n : ℕ) (v : A) (w : Walk) → ChainOk c → c.readers n ≡ Reading who → c.writers n ≡ Wrote v
    → WalkOk (put c.readers n Done) (n / BLOCK_SLOTS) w → ChainOk (reads c n w)
read_ok {A} c who n v w ok reading wrote walk =
    let here : ItemOk c.head c.tail c.items n (Wrote v) (Reading who) = rw (reading, wrote) at (ok.item n) in
    items_ok c c.closed c.writers (put c.readers n Done) (put c.walks (n / BLOCK_SLOTS) w) ok
    (λ j. put_ok c.readers n j Done (λ j r. ItemOk c.head c.tail c.items j (c.writers j) r) (rw wrote here) (λ ne. ok.item j))
    (λ b. put_ok c.walks (n / BLOCK_SLOTS) b w (λ j x. WalkOk (put c.readers n Done) j x) walk
    (λ ne. walk_read c.readers n b (c.walks b) (λ e same. ne (own_block b LAST n (omega arith) same)) (λ slot e same. ne (own_block b slot n (waits_below c.readers b slot (c.walks b) e (ok.walk b)) same)) (ok.walk b)))
  where
    waits_below : (f : ℕ → Reader) (b slot : ℕ) (w : Walk) → w ≡ Waits slot → WalkOk f b w → slot < BLOCK_SLOTS
    waits_below f b slot w e h = let g : WalkOk f b (Waits slot) = rw e at h in let lt = g.0 in omega arith

pub walk_after_ok : (f : ℕ → Reader) (b who slot : ℕ) → slot < LAST → IsWalked f b slot → f (item_at b slot) ≡ Done → WalkOk f b (walk_after who slot)
walk_after_ok f b who slot lt h read = elim (eqb_tells (slot + 1) LAST) [ inl t ↦ rw t.0 (subst (λ n. IsWalked f b n) t.1 more) | inr n ↦ rw n.0 ((let ne = n.1 in omega arith), more) ]
  where
    more : IsWalked f b (slot + 1)
    more = (h.0, λ j less. elim (eqb_tells j slot) [ inl t ↦ rw t.1 read | inr n ↦ let ne = n.1 in h.1 j (omega arith) ])

pub walk_ok : {A : Type 0} (c : Chain A) (b : ℕ) (w : Walk) → ChainOk c → WalkOk c.readers b w → ChainOk (walked c b w)
walk_ok c b w ok walk = items_ok c c.closed c.writers c.readers (put c.walks b w) ok ok.item (λ j. put_ok c.walks b j w (λ j x. WalkOk c.readers j x) walk (λ ne. ok.walk j))

-- a block with a slot that is not read is not given up
pub not_given_up : {A : Type 0} (c : Chain A) (n : ℕ) → ChainOk c → c.readers n ≢ Done → c.walks (n / BLOCK_SLOTS) ≢ GivenUp
not_given_up {A} c n ok unread e = unread (elim (eqb_tells (n % BLOCK_SLOTS) LAST) [
  | inl t ↦ (let last = t.1 in let is : n ≡ item_at (n / BLOCK_SLOTS) LAST = omega arith in ap c.readers is ∙ walked.0)
  | inr t ↦ (let ne = t.1 in let is : n ≡ item_at (n / BLOCK_SLOTS) (n % BLOCK_SLOTS) = omega arith in ap c.readers is ∙ walked.1 (n % BLOCK_SLOTS) (omega arith))
])
  where
    walked : IsWalked c.readers (n / BLOCK_SLOTS) LAST
    walked = subst (λ w. WalkOk c.readers (n / BLOCK_SLOTS) w) e (ok.walk (n / BLOCK_SLOTS))
