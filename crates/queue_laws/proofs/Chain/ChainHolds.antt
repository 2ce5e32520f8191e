-- What a party holds of a chain after each of its own steps.
use Rattle.std.proofs.Common.{ℕ, ◌-◌, ◌/◌, ◌≡◌, ◌≢◌, ◌⊎◌, inl, inr, Bool, Some, None, refl, ap}
use Rattle.queue_laws.specs.{Common.Vocabulary.BLOCK_SLOTS, Chain.ChainAt.Only, Chain.ChainAt.Either}
use Rattle.queue_laws.proofs.Common.Puts.{put_ok}
use Rattle.queue_laws.specs.Chain.ChainCells.{Writing, Wrote, Reading, Done, Rests, Laying, Stands, Passing, Linking, Linked, Walk, Chain, Part, Write, Read, Tail, Head, Next, First, Passed, writer_of, reader_of, linker_of, walker_of, HoldsOnly, Nothing}
use Rattle.queue_laws.specs.Chain.ChainTransitions.{appended, installed, displayed, laid_out, opened, chained, written, taken, passed, entered, reads, walked}

-- U4: the first block is installed
pub after_install : {A : Type 0} (c : Chain A) (who : ℕ) (f : ℕ) → HoldsOnly c who Nothing → HoldsOnly (installed c who f) who (Only First)
after_install c who f none First e = refl
after_install c who f none x e = absurd (none x e)

-- U4b: the first block is shown to the poppers
pub after_display : {A : Type 0} (c : Chain A) (who : ℕ) → HoldsOnly c who (Only First) → HoldsOnly (displayed c) who Nothing
after_display c who none First e = absurd (let z : None ≡ Some who = e in cc)
after_display c who none x e = absurd (let z = none x e in cc)

-- U5: the tail is exchanged within a block
pub after_append : {A : Type 0} (c : Chain A) (who : ℕ) (v : A) → HoldsOnly c who Nothing → HoldsOnly (appended c who v Rests) who (Only (Write c.tail))
after_append c who v none (Write n) e = put_ok c.writers c.tail n (Writing who v) (λ j w. writer_of w ≡ Some who → Write j ≡ Write c.tail) (λ z. refl) (λ ne z. absurd (none (Write n) z)) e
after_append c who v none Tail e = absurd (let z : None ≡ Some who = e in cc)
after_append c who v none x e = absurd (none x e)

-- U5: the tail is exchanged for the last slot of a block
pub after_append_last : {A : Type 0} (c : Chain A) (who : ℕ) (v : A) → HoldsOnly c who Nothing → HoldsOnly (appended c who v (Laying who)) who (Either (Write c.tail) Tail)
after_append_last c who v none (Write n) e = put_ok c.writers c.tail n (Writing who v) (λ j w. writer_of w ≡ Some who → Either (Write c.tail) Tail (Write j)) (λ z. inl refl) (λ ne z. absurd (none (Write n) z)) e
after_append_last c who v none Tail e = inr refl
after_append_last c who v none x e = absurd (none x e)

-- U6: the spare becomes the pushers' block
pub after_lay : {A : Type 0} (c : Chain A) (who f m : ℕ) (b : ℕ) → c.blocks - 1 ≡ b → HoldsOnly c who (Either (Write m) Tail) → HoldsOnly (laid_out c who f) who (λ x. (x ≡ Write m) ⊎ (x ≡ Tail) ⊎ (x ≡ Next b))
after_lay c who f m b at none (Write n) e = elim (none (Write n) e) [ inl z ↦ inl z | inr z ↦ absurd (cc) ]
after_lay c who f m b at none Tail e = inr (inl refl)
after_lay c who f m b at none (Next i) e =
    put_ok c.links (c.blocks - 1) i (Linking who) (λ j l. linker_of l ≡ Some who → (Next j ≡ Write m) ⊎ (Next j ≡ Tail) ⊎ (Next j ≡ Next b)) (λ z. inr (inr (ap (λ n. Next n) at)))
    (λ ne z. absurd (elim (none (Next i) z) [ inl y ↦ absurd (cc) | inr y ↦ absurd (cc) ])) e
after_lay c who f m b at none x e = absurd (elim (none x e) [ inl z ↦ absurd (cc) | inr z ↦ absurd (cc) ])

-- three parts less one
two_left : {x p q : Part} → x ≢ Tail → (x ≡ p) ⊎ (x ≡ Tail) ⊎ (x ≡ q) → Either p q x
two_left ne (inl z) = inl z
two_left ne (inr (inl z)) = absurd (ne z)
two_left ne (inr (inr z)) = inr z

-- U7: the tail moves on to the next block
pub after_open : {A : Type 0} (c : Chain A) (who m b : ℕ) → HoldsOnly c who (λ x. (x ≡ Write m) ⊎ (x ≡ Tail) ⊎ (x ≡ Next b)) → HoldsOnly (opened c) who (Either (Write m) (Next b))
after_open c who m b none Tail e = absurd (let z : None ≡ Some who = e in cc)
after_open c who m b none x e = two_left (λ z. cc) (none x e)

-- U8: the block is linked to the next one
pub after_chain : {A : Type 0} (c : Chain A) (who m b : ℕ) → HoldsOnly c who (Either (Write m) (Next b)) → HoldsOnly (chained c b) who (Only (Write m))
after_chain c who m b none (Next i) e =
    put_ok c.links b i Linked (λ j l. linker_of l ≡ Some who → i ≡ j → Next i ≡ Write m) (λ z s. absurd (let y : None ≡ Some who = z in cc))
    (λ ne z s. elim (none (Next i) z) [ inl y ↦ y | inr y ↦ absurd (ne (let w : i ≡ b = cc in w)) ]) e refl
after_chain c who m b none x e = elim (none x e) [ inl z ↦ z | inr z ↦ absurd (cc) ]

-- U9: the item is written into its slot
pub after_write : {A : Type 0} (c : Chain A) (who : ℕ) (m : ℕ) (v : A) → HoldsOnly c who (Only (Write m)) → HoldsOnly (written c m v) who Nothing
after_write c who m v none (Write n) e = put_ok c.writers m n (Wrote v) (λ j w. writer_of w ≡ Some who → ⊥) (λ z. let y : None ≡ Some who = z in cc) (λ ne z. ne (let w = none (Write n) z in let y : n ≡ m = cc in y)) e
after_write c who m v none x e = absurd (let z = none x e in cc)

-- V4: the head is exchanged within a block
pub after_take : {A : Type 0} (c : Chain A) (who : ℕ) (more : Bool) → HoldsOnly c who Nothing → HoldsOnly (taken c who Stands more) who (Only (Read c.head))
after_take c who more none (Read n) e = put_ok c.readers c.head n (Reading who) (λ j w. reader_of w ≡ Some who → Read j ≡ Read c.head) (λ z. refl) (λ ne z. absurd (none (Read n) z)) e
after_take c who more none Head e = absurd (let z : None ≡ Some who = e in cc)
after_take c who more none x e = absurd (none x e)

-- V4: the head is exchanged for the last slot of a block
pub after_take_last : {A : Type 0} (c : Chain A) (who : ℕ) (more : Bool) → HoldsOnly c who Nothing → HoldsOnly (taken c who (Passing who) more) who (Either (Read c.head) Head)
after_take_last c who more none (Read n) e = put_ok c.readers c.head n (Reading who) (λ j w. reader_of w ≡ Some who → Either (Read c.head) Head (Read j)) (λ z. inl refl) (λ ne z. absurd (none (Read n) z)) e
after_take_last c who more none Head e = inr refl
after_take_last c who more none x e = absurd (none x e)

-- V7: the next block is shown to the poppers
pub after_pass : {A : Type 0} (c : Chain A) (who : ℕ) (m : ℕ) → HoldsOnly c who (Either (Read m) Head) → HoldsOnly (passed c who) who (Either (Read m) Head)
after_pass c who m none Head e = inr refl
after_pass c who m none x e = none x e

-- V8: the head moves on to the next block
pub after_enter : {A : Type 0} (c : Chain A) (who : ℕ) (m : ℕ) (more : Bool) → HoldsOnly c who (Either (Read m) Head) → HoldsOnly (entered c more) who (Only (Read m))
after_enter c who m more none Head e = absurd (let z : None ≡ Some who = e in cc)
after_enter c who m more none x e = elim (none x e) [ inl z ↦ z | inr z ↦ absurd (cc) ]

-- V10, W1: the item is read, and no walk is the party's then
pub after_read : {A : Type 0} (c : Chain A) (who : ℕ) (m : ℕ) (w : Walk) (free : walker_of w ≡ Some who → ⊥) → HoldsOnly c who (Only (Read m)) → HoldsOnly (reads c m w) who Nothing
after_read c who m w free none (Read n) e = put_ok c.readers m n Done (λ j w. reader_of w ≡ Some who → ⊥) (λ z. absurd (let y : None ≡ Some who = z in cc)) (λ ne z. absurd (ne (let w = none (Read n) z in let y : n ≡ m = cc in y))) e
after_read c who m w free none (Passed b) e = put_ok c.walks (m / BLOCK_SLOTS) b w (λ j x. walker_of x ≡ Some who → ⊥) (λ z. free z) (λ ne z. absurd (let y = none (Passed b) z in cc)) e
after_read c who m w free none x e = absurd (let z = none x e in cc)

-- V10, W1: the item is read, and the walk is the party's then
pub after_read_on : {A : Type 0} (c : Chain A) (who : ℕ) (m : ℕ) (w : Walk) → HoldsOnly c who (Only (Read m)) → HoldsOnly (reads c m w) who (Only (Passed (m / BLOCK_SLOTS)))
after_read_on c who m w none (Read n) e = put_ok c.readers m n Done (λ j w. reader_of w ≡ Some who → Read j ≡ Passed (m / BLOCK_SLOTS)) (λ z. absurd (let y : None ≡ Some who = z in cc)) (λ ne z. absurd (ne (let w = none (Read n) z in let y : n ≡ m = cc in y))) e
after_read_on c who m w none (Passed b) e = put_ok c.walks (m / BLOCK_SLOTS) b w (λ j x. walker_of x ≡ Some who → Passed j ≡ Passed (m / BLOCK_SLOTS)) (λ z. refl) (λ ne z. absurd (let y = none (Passed b) z in cc)) e
after_read_on c who m w none x e = absurd (let z = none x e in cc)

-- W1, W2: the walk ends for the party
pub after_walk : {A : Type 0} (c : Chain A) (who : ℕ) (k : ℕ) (w : Walk) (free : walker_of w ≡ Some who → ⊥) → HoldsOnly c who (Only (Passed k)) → HoldsOnly (walked c k w) who Nothing
after_walk c who k w free none (Passed b) e = put_ok c.walks k b w (λ j x. walker_of x ≡ Some who → ⊥) (λ z. free z) (λ ne z. ne (let y = none (Passed b) z in let q : b ≡ k = cc in q)) e
after_walk c who k w free none x e = absurd (let z = none x e in cc)

-- W1, W2: the walk goes on
pub after_walk_on : {A : Type 0} (c : Chain A) (who : ℕ) (k : ℕ) (w : Walk) → HoldsOnly c who (Only (Passed k)) → HoldsOnly (walked c k w) who (Only (Passed k))
after_walk_on c who k w none (Passed b) e = put_ok c.walks k b w (λ j x. walker_of x ≡ Some who → Passed j ≡ Passed k) (λ z. refl) (λ ne z. none (Passed b) z) e
after_walk_on c who k w none x e = none x e
