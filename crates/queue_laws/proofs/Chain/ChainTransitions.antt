-- The steps of pushes and of closes that change a chain: each keeps the chain right, and its effect fits.
use Rattle.std.proofs.Common.{ℕ, ◌+◌, ◌-◌, ◌*◌, ◌/◌, ◌%◌, ◌<◌, ◌≤◌, ◌≡◌, ◌≢◌, ◌∙◌, inl, inr, Bool, true, false, List, [], ◌∷◌, ◌++◌, length, refl, sym, ap, subst, arith}
use Rattle.std.proofs.lemmas.List.{length-append}
use Rattle.queue_laws.specs.Common.{Vocabulary.Effect, Vocabulary.LIMIT, Vocabulary.BLOCK_SLOTS, Puts.put}
use Rattle.queue_steps.specs.Effect.{Fits}
use Rattle.queue_laws.proofs.Common.{Puts.put_ok, Puts.put_same, Puts.put_other, Lists.front_stays, Lists.last_is}
use Rattle.queue_laws.specs.Chain.ChainCells.{Writer, Free, Writing, Wrote, Reader, Unread, Reading, Done, Mover, Rests, Laying, Opening, Passer, Stands, LinkState, Unlinked, Linking, Linked, Shown, Hidden, Showing, Seen, Walk, Use, Spare, Chained, Chain, queue_of, ItemOk, BlocksOk, LinkOk, FrontOk}
use Rattle.queue_laws.specs.Chain.ChainCells.{ShownOk, WalkOk, ChainOk}
use Rattle.queue_laws.specs.Chain.ChainTransitions.{appended, installed, displayed, laid_out, opened, chained, written, marked, renamed}

-- the places of items beyond the tail are free
fresh_item : {A : Type 0} (head tail : ℕ) (items : List A) (n : ℕ) (w : Writer A) (r : Reader) → head ≤ tail → tail ≤ n → ItemOk head tail items n w r → (w ≡ Free) × (r ≡ Unread)
fresh_item head tail items n Free Unread low high ok = (refl, refl)
fresh_item head tail items n (Writing who v) Unread low high ok = absurd (let lt = ok.1 in omega arith)
fresh_item head tail items n (Wrote v) Unread low high ok = absurd (let lt = ok.1 in omega arith)
fresh_item head tail items n Free (Reading p) low high ok = absurd ok
fresh_item head tail items n Free Done low high ok = absurd ok
fresh_item head tail items n (Writing who v) Done low high ok = absurd ok
fresh_item head tail items n w r low high ok = absurd (omega arith)

pub item_free : {A : Type 0} (c : Chain A) (n : ℕ) → ChainOk c → c.tail ≤ n → (c.writers n ≡ Free) × (c.readers n ≡ Unread)
item_free c n ok high = fresh_item c.head c.tail c.items n (c.writers n) (c.readers n) (let e = ok.count in omega arith) high (ok.item n)

-- the place of the next item is free
pub next_free : {A : Type 0} (c : Chain A) → ChainOk c → (c.writers c.tail ≡ Free) × (c.readers c.tail ≡ Unread)
next_free c ok = item_free c c.tail ok (omega arith)

-- an append leaves what is so of the other items
item_append : {A : Type 0} (head tail : ℕ) (items : List A) (v : A) (n : ℕ) (w : Writer A) (r : Reader) → n ≢ tail → ItemOk head tail items n w r → ItemOk head (tail + 1) (items ++ v ∷ []) n w r
item_append head tail items v n Free Unread ne ok = omega arith
item_append head tail items v n (Writing who x) Unread ne ok = (ok.0, (let lt = ok.1 in omega arith), front_stays items v (n - head) x ok.2)
item_append head tail items v n (Wrote x) Unread ne ok = (ok.0, (let lt = ok.1 in omega arith), front_stays items v (n - head) x ok.2)
item_append head tail items v n Free (Reading p) ne ok = absurd ok
item_append head tail items v n Free Done ne ok = absurd ok
item_append head tail items v n (Writing who x) Done ne ok = absurd ok
item_append head tail items v n w r ne ok = ok

pub append_ok : {A : Type 0} (c : Chain A) (who : ℕ) (v : A) (m : Mover) → ChainOk c → c.closed ≡ false → c.tail < LIMIT → BlocksOk (c.tail + 1) c.blocks m → ((p : ℕ) → m ≢ Opening p)
    → Fits (Effect.Append v) (queue_of c) × ChainOk (appended c who v m)
append_ok {A} c who v m ok opened below blocks other =
    let count = ok.count in (
      (opened, refl, refl, inr below),
      record {
        count = omega (arith, length-append c.items (v ∷ []));
        most = omega arith;
        item = λ n. put_ok c.writers c.tail n (Writing who v) (λ j w. ItemOk c.head (c.tail + 1) (c.items ++ v ∷ []) j w (c.readers j))
            (rw ((next_free c ok).1) (omega arith, omega arith, last_is c.items v (c.tail - c.head) (omega arith)))
            (λ ne. item_append c.head c.tail c.items v n (c.writers n) (c.readers n) ne (ok.item n));
        laid = blocks;
        link = ok.link;
        name = ok.name;
        named = ok.named;
        fronted = ok.fronted;
        opens = λ p e. absurd (other p e);
        reaches = λ p e. absurd (other p e);
        seen = ok.seen;
        knows = λ k s. let low = ok.knows k s in omega arith;
        walk = ok.walk;
      },
    )

-- how many blocks there are after an append, within a block and at its end
pub append_within : (tail blocks : ℕ) → 0 < blocks → BlocksOk tail blocks Rests → tail % BLOCK_SLOTS + 1 ≢ BLOCK_SLOTS → BlocksOk (tail + 1) blocks Rests
append_within tail blocks some (inl none) ne = absurd (let e = none.1 in omega arith)
append_within tail blocks some (inr e) ne = inr (omega arith)

pub append_last : (tail blocks who : ℕ) → 0 < blocks → BlocksOk tail blocks Rests → tail % BLOCK_SLOTS + 1 ≡ BLOCK_SLOTS → BlocksOk (tail + 1) blocks (Laying who)
append_last tail blocks who some (inl none) e = absurd (let z = none.1 in omega arith)
append_last tail blocks who some (inr is) e = (some, omega arith)

-- nothing is accepted where there is no block yet
none_yet : (tail : ℕ) (m : Mover) → BlocksOk tail 0 m → (m ≡ Rests) × (tail ≡ 0)
none_yet tail Rests (inl h) = (refl, h.0)
none_yet tail Rests (inr e) = absurd (omega arith)
none_yet tail m h = absurd (let lt = h.0 in omega arith)

pub no_block : {A : Type 0} (c : Chain A) → ChainOk c → c.blocks ≡ 0 → (c.mover ≡ Rests) × (c.tail ≡ 0)
no_block c ok none = none_yet c.tail c.mover (subst (λ n. BlocksOk c.tail n c.mover) none ok.laid)

hidden_then : (blocks head front : ℕ) (known : Bool) (passer : Passer) (s : Shown) → blocks ≡ 0 → ShownOk blocks head front known passer s
    → (s ≡ Hidden) × (head ≡ 0) × (front ≡ 0) × (known ≡ false) × (passer ≡ Stands)
hidden_then blocks head front known passer Hidden none h = (refl, h.1, h.2, h.3, h.4)
hidden_then blocks head front known passer (Showing who) none h = absurd (let lt = h.0 in omega arith)
hidden_then blocks head front known passer Seen none h = absurd (omega arith)

-- before the first block the poppers stand at the first position
pub no_front : {A : Type 0} (c : Chain A) → ChainOk c → c.blocks ≡ 0 → (c.shown ≡ Hidden) × (c.head ≡ 0) × (c.front ≡ 0) × (c.known ≡ false) × (c.passer ≡ Stands)
no_front c ok none = hidden_then c.blocks c.head c.front c.known c.passer c.shown none ok.seen

-- what is so of the blocks of a chain, and of who sees them
pub record BlocksRight {A : Type 0} (c : Chain A) : Type 0 where
  pub laid : BlocksOk c.tail c.blocks c.mover
  pub link : (b : ℕ) → LinkOk c.blocks b (c.links b)
  pub name : (b : ℕ) → b < c.blocks → c.uses (c.names b) ≡ Chained b
  pub named : (f b : ℕ) → c.uses f ≡ Chained b → (b < c.blocks) × (c.names b ≡ f)
  pub opens : (who : ℕ) → c.mover ≡ Opening who → c.links (c.blocks - 2) ≡ Linking who
  pub reaches : (who : ℕ) → c.mover ≡ Opening who → c.front + 1 < c.blocks
  pub seen : ShownOk c.blocks c.head c.front c.known c.passer c.shown

-- what is beside the blocks
abbrev pub beside : {A : Type 0} → Chain A → ℕ × ℕ × List A × (ℕ → Writer A) × (ℕ → Reader) × (ℕ × Bool × Passer) × (ℕ → Walk)
beside c = (c.head, c.tail, c.items, c.writers, c.readers, (c.front, c.known, c.passer), c.walks)

-- a step that changes the blocks alone
pub blocks_ok : {A : Type 0} {c s : Chain A} → ChainOk c → beside s ≡ beside c → BlocksRight s → ChainOk s
blocks_ok ok same right = record {
  count = subst (λ p. p.0 + length p.2 ≡ p.1) (sym same) ok.count;
  most = subst (λ p. p.1 ≤ LIMIT) (sym same) ok.most;
  item = λ n. subst (λ p. ItemOk p.0 p.1 p.2 n (p.3 n) (p.4 n)) (sym same) (ok.item n);
  laid = right.laid;
  link = right.link;
  name = right.name;
  named = right.named;
  fronted = subst (λ p. FrontOk p.0 p.5.0 p.5.2) (sym same) ok.fronted;
  opens = right.opens;
  reaches = right.reaches;
  seen = right.seen;
  knows = subst (λ p. p.5.1 ≡ true → p.5.2 ≡ Stands → p.0 / BLOCK_SLOTS * BLOCK_SLOTS + BLOCK_SLOTS ≤ p.1) (sym same) ok.knows;
  walk = λ b. subst (λ p. WalkOk p.4 b (p.6 b)) (sym same) (ok.walk b);
}

-- a step that changes no number and no block: what became of the places of items, of their readings and of the walks
pub items_ok : {A : Type 0} (c : Chain A) (closed : Bool) (writers : ℕ → Writer A) (readers : ℕ → Reader) (walks : ℕ → Walk) → ChainOk c
    → ((n : ℕ) → ItemOk c.head c.tail c.items n (writers n) (readers n)) → ((b : ℕ) → WalkOk readers b (walks b))
    → ChainOk (record c { closed = closed; writers = writers; readers = readers; walks = walks })
items_ok c closed writers readers walks ok item walk = record {
  count = ok.count;
  most = ok.most;
  item = item;
  laid = ok.laid;
  link = ok.link;
  name = ok.name;
  named = ok.named;
  fronted = ok.fronted;
  opens = ok.opens;
  reaches = ok.reaches;
  seen = ok.seen;
  knows = ok.knows;
  walk = walk;
}

-- a block more, and its names apart
name_more : {A : Type 0} (c : Chain A) (who f : ℕ) → ChainOk c → c.uses f ≡ Spare who → (b : ℕ) → b < c.blocks + 1 → put c.uses f (Chained c.blocks) (put c.names c.blocks f b) ≡ Chained b
name_more {A} c who f ok spare b lt =
    put_ok c.names c.blocks b f (λ j x. j ≡ b → put c.uses f (Chained c.blocks) x ≡ Chained j)
    (λ e. put_ok c.uses f f (Chained c.blocks) (λ j u. j ≡ f → u ≡ Chained c.blocks) (λ _. refl) (λ ne e2. absurd (ne e2)) refl)
    (λ ne e. let named = ok.name b (omega arith) in put_ok c.uses f (c.names b) (Chained c.blocks) (λ j u. j ≡ c.names b → u ≡ Chained b)
    (λ e2. let clash : Spare who ≡ Chained b = sym spare ∙ (ap c.uses e2 ∙ named) in cc)
    (λ other e2. named) refl)
    refl

named_more : {A : Type 0} (c : Chain A) (f : ℕ) → ChainOk c → (g b : ℕ) → put c.uses f (Chained c.blocks) g ≡ Chained b → (b < c.blocks + 1) × (put c.names c.blocks f b ≡ g)
named_more c f ok g b =
    put_ok c.uses f g (Chained c.blocks) (λ j u. u ≡ Chained b → (b < c.blocks + 1) × (put c.names c.blocks f b ≡ j))
    (λ e. let at : b ≡ c.blocks = cc in (omega arith, rw at (put_same c.names c.blocks f)))
    (λ ne e. let h = ok.named g b e in let low = h.0 in (omega arith, put_other c.names c.blocks b f (λ z. omega arith) ∙ h.1))

link_more : (blocks b : ℕ) (l : LinkState) → b + 1 ≢ blocks → LinkOk blocks b l → LinkOk (blocks + 1) b l
link_more blocks b Unlinked ne h = omega arith
link_more blocks b l ne h = omega arith

pub install_ok : {A : Type 0} (c : Chain A) (who f : ℕ) → ChainOk c → c.blocks ≡ 0 → c.uses f ≡ Spare who → ChainOk (installed c who f)
install_ok c who f ok none spare =
    let empty = no_block c ok none in
    let front = no_front c ok none in
    let zero_is = empty.1 in
    blocks_ok ok refl (record {
      laid = rw (empty.0) (inr (omega arith));
      link = λ b. link_more c.blocks b (c.links b) (λ e. omega arith) (ok.link b);
      name = name_more c who f ok spare;
      named = named_more c f ok;
      opens = λ p e. absurd (let z : Rests ≡ Opening p = sym empty.0 ∙ e in cc);
      reaches = λ p e. absurd (let z : Rests ≡ Opening p = sym empty.0 ∙ e in cc);
      seen = (omega arith, front.1, front.2, front.3, front.4);
    })

show_some : (blocks head front : ℕ) (known : Bool) (passer : Passer) (who : ℕ) → ShownOk blocks head front known passer (Showing who) → front < blocks
show_some blocks head front known passer who h = let some = h.0 in let at_zero = h.2 in omega arith

pub display_ok : {A : Type 0} (c : Chain A) (who : ℕ) → ChainOk c → c.shown ≡ Showing who → ChainOk (displayed c)
display_ok c who ok is = blocks_ok ok refl (record {
  laid = ok.laid;
  link = ok.link;
  name = ok.name;
  named = ok.named;
  opens = ok.opens;
  reaches = ok.reaches;
  seen = show_some c.blocks c.head c.front c.known c.passer who (rw is at ok.seen);
})

pub seen_more : (blocks head front : ℕ) (known : Bool) (passer : Passer) (s : Shown) → 0 < blocks → ShownOk blocks head front known passer s → ShownOk (blocks + 1) head front known passer s
seen_more blocks head front known passer Hidden some h = absurd (let e = h.0 in omega arith)
seen_more blocks head front known passer (Showing who) some h = (omega arith, h.1, h.2, h.3, h.4)
seen_more blocks head front known passer Seen some h = omega arith

front_low : (blocks head front : ℕ) (known : Bool) (passer : Passer) (s : Shown) → 0 < blocks → ShownOk blocks head front known passer s → front < blocks
front_low blocks head front known passer Hidden some h = absurd (let e = h.0 in omega arith)
front_low blocks head front known passer (Showing who) some h = let e = h.2 in omega arith
front_low blocks head front known passer Seen some h = h

pub lay_ok : {A : Type 0} (c : Chain A) (who f : ℕ) → ChainOk c → c.mover ≡ Laying who → c.uses f ≡ Spare who → ChainOk (laid_out c who f)
lay_ok c who f ok is spare =
    let blocks : BlocksOk c.tail c.blocks (Laying who) = rw is at ok.laid in
    let some = blocks.0 in
    let at_end = blocks.1 in
    blocks_ok ok refl (record {
      laid = (omega arith, omega arith);
      link = λ b. put_ok c.links (c.blocks - 1) b (Linking who) (λ j l. LinkOk (c.blocks + 1) j l) (omega arith) (λ ne. link_more c.blocks b (c.links b) (λ e. ne (omega arith)) (ok.link b));
      name = name_more c who f ok spare;
      named = named_more c f ok;
      opens = λ p e. put_ok c.links (c.blocks - 1) (c.blocks + 1 - 2) (Linking who) (λ j l. l ≡ Linking p) (ap (λ q. Linking q) (let z : who ≡ p = cc in z)) (λ ne. absurd (ne (omega arith)));
      reaches = λ p e. let low = front_low c.blocks c.head c.front c.known c.passer c.shown some ok.seen in omega arith;
      seen = seen_more c.blocks c.head c.front c.known c.passer c.shown some ok.seen;
    })

pub open_ok : {A : Type 0} (c : Chain A) (who : ℕ) → ChainOk c → c.mover ≡ Opening who → ChainOk (opened c)
open_ok c who ok is =
    let blocks : BlocksOk c.tail c.blocks (Opening who) = rw is at ok.laid in
    let at_end = blocks.1 in
    blocks_ok ok refl (record {
      laid = inr (omega arith);
      link = ok.link;
      name = ok.name;
      named = ok.named;
      opens = λ p e. cc;
      reaches = λ p e. cc;
      seen = ok.seen;
    })

pub chain_ok : {A : Type 0} (c : Chain A) (who b : ℕ) → ChainOk c → c.links b ≡ Linking who → c.mover ≢ Opening who → ChainOk (chained c b)
chain_ok c who b ok is other = blocks_ok ok refl (record {
  laid = ok.laid;
  link = λ j. put_ok c.links b j Linked (λ j l. LinkOk c.blocks j l) (let h : LinkOk c.blocks b (Linking who) = rw is at (ok.link b) in h) (λ ne. ok.link j);
  name = ok.name;
  named = ok.named;
  opens = λ p e. put_ok c.links b (c.blocks - 2) Linked (λ j l. j ≡ c.blocks - 2 → l ≡ Linking p) (λ at. absurd (other (let z : Linking p ≡ Linking who = sym (ok.opens p e) ∙ (ap c.links (sym at) ∙ is) in let w : p ≡ who = cc in e ∙ ap (λ q. Opening q) w))) (λ ne at. ok.opens p e) refl;
  reaches = ok.reaches;
  seen = ok.seen;
})

item_write : {A : Type 0} (head tail : ℕ) (items : List A) (n who : ℕ) (v : A) (r : Reader) → ItemOk head tail items n (Writing who v) r → ItemOk head tail items n (Wrote v) r
item_write head tail items n who v Done h = absurd h
item_write head tail items n who v r h = h

pub write_ok : {A : Type 0} (c : Chain A) (who n : ℕ) (v : A) → ChainOk c → c.writers n ≡ Writing who v → ChainOk (written c n v)
write_ok {A} c who n v ok is = items_ok c c.closed (put c.writers n (Wrote v)) c.readers c.walks ok wrote_ok ok.walk
  where
    wrote_ok : (j : ℕ) → ItemOk c.head c.tail c.items j (put c.writers n (Wrote v) j) (c.readers j)
    wrote_ok j = put_ok c.writers n j (Wrote v) (λ j w. ItemOk c.head c.tail c.items j w (c.readers j))
        (item_write c.head c.tail c.items n who v (c.readers n) (subst (λ w. ItemOk c.head c.tail c.items n w (c.readers n)) is (ok.item n))) (λ ne. ok.item j)

pub mark_ok : {A : Type 0} (c : Chain A) → ChainOk c → ChainOk (marked c)
mark_ok c ok = items_ok c true c.writers c.readers c.walks ok ok.item ok.walk

pub rename_ok : {A : Type 0} (c : Chain A) (f : ℕ) (u : Use) → ChainOk c → ((b : ℕ) → c.uses f ≡ Chained b → u ≡ Chained b) → ((b : ℕ) → u ≡ Chained b → c.uses f ≡ Chained b) → ChainOk (renamed c f u)
rename_ok c f u ok keeps back = blocks_ok ok refl (record {
  laid = ok.laid;
  link = ok.link;
  name = λ b lt. put_ok c.uses f (c.names b) u (λ j x. j ≡ c.names b → x ≡ Chained b) (λ e. keeps b (ap c.uses e ∙ ok.name b lt)) (λ other e. ok.name b lt) refl;
  named = λ g b. put_ok c.uses f g u (λ j x. x ≡ Chained b → (b < c.blocks) × (c.names b ≡ j)) (λ e. ok.named f b (back b e)) (λ other e. ok.named g b e);
  opens = ok.opens;
  reaches = ok.reaches;
  seen = ok.seen;
})
