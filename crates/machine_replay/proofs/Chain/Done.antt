-- A block of the machine once every call in progress has done what it has claimed.
use Rattle.std.proofs.Common.{ℕ, suc, zero, ◌<◌, ◌≡◌, ◌≢◌, ◌==◌, ◌∙◌, inl, inr, Bool, true, false, if◌then◌else◌, Option, Some, None, List, [], ◌∷◌, length, refl, sym, ap, subst, set, get_or, get_or-set_same, get_or-set_other, bit_and, arith}
use Rattle.std.proofs.lemmas.{List.length-set, Bool.Decides.eqb_tells}
use Rattle.machine_replay.specs.Vocabulary.{BLOCK_SLOTS, READ, Running}
use Rattle.machine_memory.specs.{declared.blocks.BlockPlace.BlockPlace, Blocks.BlockState, Blocks.blank, Blocks.places_in, Blocks.with_place, Blocks.with_next, Blocks.put_item}
use Rattle.machine_steps.specs.ChainLeft.{settled_by, settled_blocks}
use Rattle.machine_replay.proofs.Chain.{Deeds.Deed, Deeds.Rest, Deeds.Puts, Deeds.Lays, Deeds.Reads, Deeds.deed_of, Deeds.done, Deeds.deed_done, Deeds.PutsAt, Deeds.LinksTo, Counted.within_list}

-- the block with this item in a place
abbrev with_item : {A : Type 0} → ℕ → Option A → BlockState A → BlockState A
with_item i v x = record x { places = set x.places i (record (get_or x.places i blank) { item = v }) }

-- the block with a place read
abbrev with_read : {A : Type 0} → ℕ → BlockState A → BlockState A
with_read i x = record x { places = set x.places i (record (get_or x.places i blank) { state = READ }) }

-- the block of this name once the deed is done
abbrev pub done_to : {A : Type 0} → Deed A → ℕ → BlockState A → BlockState A
done_to Rest f x = x
done_to (Puts b i v) f x = if b == f then with_item i v x else x
done_to (Lays b i v fresh) f x = if b == f then record (with_item i v x) { next = Some fresh } else x
done_to (Reads b i) f x = if b == f then with_read i x else x

-- the block that is changed at the name b, seen at the name f
set_block : {A : Type 0} (bs : List (Option (BlockState A))) (b f : ℕ) (F : Option (BlockState A) → Option (BlockState A)) (x y : BlockState A) → get_or bs f None ≡ Some x → F (Some x) ≡ Some y
    → get_or (set bs b (F (get_or bs b None))) f None ≡ Some (if b == f then y else x)
set_block bs b f F x y e made = elim (eqb_tells b f) [
  | inl t ↦ rw t.0 (ap (λ c. get_or (set bs c (F (get_or bs c None))) f None) t.1 ∙ get_or-set_same bs f (F (get_or bs f None)) None (within_list bs f (rw e refl)) ∙ ap F e ∙ made)
  | inr t ↦ rw t.0 (get_or-set_other bs b f (F (get_or bs b None)) None (λ z. t.1 (sym z)) ∙ e)
]

done_block : {A : Type 0} (d : Deed A) (bs : List (Option (BlockState A))) (f : ℕ) (x : BlockState A) → get_or bs f None ≡ Some x → get_or (done d bs) f None ≡ Some (done_to d f x)
done_block Rest bs f x e = e
done_block (Puts b i v) bs f x e = set_block bs b f (λ y. with_place i (record (get_or (places_in y) i blank) { item = v }) y) x (with_item i v x) e refl
done_block (Reads b i) bs f x e = set_block bs b f (λ y. with_place i (record (get_or (places_in y) i blank) { state = READ }) y) x (with_read i x) e refl
done_block {A} (Lays b i v fresh) bs f x e =
    let put = set_block bs b f (λ y. with_place i (record (get_or (places_in y) i blank) { item = v }) y) x (with_item i v x) e refl in
    let linked = set_block (put_item bs b i v) b f (λ y. with_next (Some fresh) y) (if b == f then with_item i v x else x) (record (if b == f then with_item i v x else x) { next = Some fresh }) put refl in
    linked ∙ ap (λ y. Some y) (twice (b == f))
  where
    twice : (t : Bool) → (if t then record (if t then with_item i v x else x) { next = Some fresh } else (if t then with_item i v x else x)) ≡ (if t then record (with_item i v x) { next = Some fresh } else x)
    twice true = refl
    twice false = refl

-- the same of all calls in progress
abbrev pub all_done : {A : Type 0} → List (Option (Running A)) → ℕ → BlockState A → BlockState A
all_done [] f x = x
all_done (None ∷ calls) f x = all_done calls f x
all_done (Some r ∷ calls) f x = all_done calls f (done_to (deed_of r.local r.touch r.op r.carried) f x)

pub settled_block : {A : Type 0} (calls : List (Option (Running A))) (bs : List (Option (BlockState A))) (f : ℕ) (x : BlockState A) → get_or bs f None ≡ Some x → get_or (settled_blocks calls bs) f None ≡ Some (all_done calls f x)
settled_block [] bs f x e = e
settled_block (None ∷ calls) bs f x e = settled_block calls bs f x e
settled_block (Some r ∷ calls) bs f x e =
    let d = deed_of r.local r.touch r.op r.carried in
    settled_block calls (settled_by r.local r.touch r.op r.carried bs) f (done_to d f x) (ap (λ y. get_or y f None) (deed_done r.local r.touch r.op r.carried bs) ∙ done_block d bs f x e)

-- what each call in progress keeps is so in the end
pub keeps_all : {A : Type 0} (calls : List (Option (Running A))) (f : ℕ) (Q : BlockState A → Type 0)
    → ((p : ℕ) (r : Running A) → get_or calls p None ≡ Some r → (x : BlockState A) → Q x → Q (done_to (deed_of r.local r.touch r.op r.carried) f x)) → (x : BlockState A) → Q x → Q (all_done calls f x)
keeps_all [] f Q keeps x q = q
keeps_all (None ∷ calls) f Q keeps x q = keeps_all calls f Q (λ p r e. keeps (suc p) r e) x q
keeps_all (Some r ∷ calls) f Q keeps x q = keeps_all calls f Q (λ p r e. keeps (suc p) r e) (done_to (deed_of r.local r.touch r.op r.carried) f x) (keeps 0 r refl x q)

-- what one of them makes, and the others keep, is so in the end; W is so all the time
pub makes_all : {A : Type 0} (calls : List (Option (Running A))) (f : ℕ) (W Q : BlockState A → Type 0)
    → ((p : ℕ) (r : Running A) → get_or calls p None ≡ Some r → (x : BlockState A) → W x → W (done_to (deed_of r.local r.touch r.op r.carried) f x))
    → ((p : ℕ) (r : Running A) → get_or calls p None ≡ Some r → (x : BlockState A) → W x × Q x → W (done_to (deed_of r.local r.touch r.op r.carried) f x) × Q (done_to (deed_of r.local r.touch r.op r.carried) f x))
    → (p : ℕ) (r : Running A) → get_or calls p None ≡ Some r → ((x : BlockState A) → W x → Q (done_to (deed_of r.local r.touch r.op r.carried) f x)) → (x : BlockState A) → W x → Q (all_done calls f x)
makes_all [] f W Q still keeps p r e made x w = cc
makes_all (None ∷ calls) f W Q still keeps zero r e made x w = cc
makes_all (None ∷ calls) f W Q still keeps (suc p) r e made x w = makes_all calls f W Q (λ j s h. still (suc j) s h) (λ j s h. keeps (suc j) s h) p r e made x w
makes_all {A} (Some y ∷ calls) f W Q still keeps zero r e made x w =
    let same : y ≡ r = cc in
    let here : Q (done_to (deed_of y.local y.touch y.op y.carried) f x) = subst (λ s. Q (done_to (deed_of s.local s.touch s.op s.carried) f x)) (sym same) (made x w) in
    (keeps_all calls f (λ z. W z × Q z) (λ j s h. keeps (suc j) s h) (done_to (deed_of y.local y.touch y.op y.carried) f x) (still 0 y refl x w, here)).1
makes_all (Some y ∷ calls) f W Q still keeps (suc p) r e made x w =
    makes_all calls f W Q (λ j s h. still (suc j) s h) (λ j s h. keeps (suc j) s h) p r e made (done_to (deed_of y.local y.touch y.op y.carried) f x) (still 0 y refl x w)

-- the block of this name alone is changed, and of it one place
if_at : {A : Type 0} (b f : ℕ) (P : BlockState A → Type 0) (x y : BlockState A) → (b ≡ f → P y) → (b ≢ f → P x) → P (if b == f then y else x)
if_at b f P x y here there = elim (eqb_tells b f) [ inl t ↦ rw t.0 (here t.1) | inr t ↦ rw t.0 (there t.1) ]

put_at : {A : Type 0} (ps : List (BlockPlace A)) (j i : ℕ) (x : BlockPlace A) (P : BlockPlace A → Type 0) → i < length ps → (j ≡ i → P x) → (j ≢ i → P (get_or ps i blank)) → P (get_or (set ps j x) i blank)
put_at ps j i x P lt here there = elim (eqb_tells j i) [
  | inl t ↦ subst P (sym (ap (λ k. get_or (set ps k x) i blank) t.1 ∙ get_or-set_same ps i x blank lt)) (here t.1)
  | inr t ↦ subst P (sym (get_or-set_other ps j i x blank (λ z. t.1 (sym z)))) (there t.1)
]

-- a block has its slots
abbrev pub IsWide : {A : Type 0} → BlockState A → Type 0
IsWide x = length x.places ≡ BLOCK_SLOTS

pub wide_done : {A : Type 0} (d : Deed A) (f : ℕ) (x : BlockState A) → IsWide x → IsWide (done_to d f x)
wide_done Rest f x w = w
wide_done (Puts b i v) f x w = if_at b f IsWide x (with_item i v x) (λ e. length-set x.places i (record (get_or x.places i blank) { item = v }) ∙ w) (λ ne. w)
wide_done (Lays b i v fresh) f x w = if_at b f IsWide x (record (with_item i v x) { next = Some fresh }) (λ e. length-set x.places i (record (get_or x.places i blank) { item = v }) ∙ w) (λ ne. w)
wide_done (Reads b i) f x w = if_at b f IsWide x (with_read i x) (λ e. length-set x.places i (record (get_or x.places i blank) { state = READ }) ∙ w) (λ ne. w)

-- this lies in the slot
abbrev pub HasItem : {A : Type 0} → ℕ → Option A → BlockState A → Type 0
HasItem i v x = (get_or x.places i blank).item ≡ v

pub item_kept : {A : Type 0} (d : Deed A) (f i : ℕ) (v : Option A) (x : BlockState A) → i < BLOCK_SLOTS → IsWide x → ((y : Option A) → PutsAt d f i y → y ≡ v) → HasItem i v x → HasItem i v (done_to d f x)
item_kept Rest f i v x lt w only q = q
item_kept (Puts b j y) f i v x lt w only q = if_at b f (HasItem i v) x (with_item j y x) (λ e. put_at x.places j i (record (get_or x.places j blank) { item = y }) (λ p. p.item ≡ v) (omega arith) (λ s. only y (e, s, refl)) (λ ne. q)) (λ ne. q)
item_kept (Lays b j y fresh) f i v x lt w only q =
    if_at b f (HasItem i v) x (record (with_item j y x) { next = Some fresh }) (λ e. put_at x.places j i (record (get_or x.places j blank) { item = y }) (λ p. p.item ≡ v) (omega arith) (λ s. only y (e, s, refl)) (λ ne. q)) (λ ne. q)
item_kept (Reads b j) f i v x lt w only q =
    if_at b f (HasItem i v) x (with_read j x) (λ e. put_at x.places j i (record (get_or x.places j blank) { state = READ }) (λ p. p.item ≡ v) (omega arith) (λ s. subst (λ k. (get_or x.places k blank).item ≡ v) (sym s) q) (λ ne. q)) (λ ne. q)

pub item_made : {A : Type 0} (d : Deed A) (f i : ℕ) (v : Option A) (x : BlockState A) → i < BLOCK_SLOTS → IsWide x → PutsAt d f i v → HasItem i v (done_to d f x)
item_made (Puts b j y) f i v x lt w puts =
    if_at b f (HasItem i v) x (with_item j y x) (λ e. put_at x.places j i (record (get_or x.places j blank) { item = y }) (λ p. p.item ≡ v) (omega arith) (λ s. puts.2) (λ ne. absurd (ne puts.1))) (λ ne. absurd (ne puts.0))
item_made (Lays b j y fresh) f i v x lt w puts =
    if_at b f (HasItem i v) x (record (with_item j y x) { next = Some fresh }) (λ e. put_at x.places j i (record (get_or x.places j blank) { item = y }) (λ p. p.item ≡ v) (omega arith) (λ s. puts.2) (λ ne. absurd (ne puts.1))) (λ ne. absurd (ne puts.0))
item_made d f i v x lt w puts = absurd puts

-- the slot's word says whether it is not read
abbrev pub SaysUnread : {A : Type 0} → ℕ → Bool → BlockState A → Type 0
SaysUnread i t x = (bit_and (get_or x.places i blank).state READ == 0) ≡ t

pub unread_kept : {A : Type 0} (d : Deed A) (f i : ℕ) (t : Bool) (x : BlockState A) → i < BLOCK_SLOTS → IsWide x → (d ≡ Reads f i → t ≡ false) → SaysUnread i t x → SaysUnread i t (done_to d f x)
unread_kept Rest f i t x lt w only q = q
unread_kept (Puts b j y) f i t x lt w only q =
    if_at b f (SaysUnread i t) x (with_item j y x) (λ e. put_at x.places j i (record (get_or x.places j blank) { item = y }) (λ p. (bit_and p.state READ == 0) ≡ t) (omega arith) (λ s. subst (λ k. (bit_and (get_or x.places k blank).state READ == 0) ≡ t) (sym s) q) (λ ne. q)) (λ ne. q)
unread_kept (Lays b j y fresh) f i t x lt w only q =
    if_at b f (SaysUnread i t) x (record (with_item j y x) { next = Some fresh })
    (λ e. put_at x.places j i (record (get_or x.places j blank) { item = y }) (λ p. (bit_and p.state READ == 0) ≡ t) (omega arith) (λ s. subst (λ k. (bit_and (get_or x.places k blank).state READ == 0) ≡ t) (sym s) q) (λ ne. q)) (λ ne. q)
unread_kept {A} (Reads b j) f i t x lt w only q =
    if_at b f (SaysUnread i t) x (with_read j x) (λ e. put_at x.places j i (record (get_or x.places j blank) { state = READ }) (λ p. (bit_and p.state READ == 0) ≡ t) (omega arith) (λ s. sym (only (ap (λ g. Reads g j) e ∙ ap (λ k. Reads f k) s))) (λ ne. q)) (λ ne. q)

pub read_made : {A : Type 0} (d : Deed A) (f i : ℕ) (x : BlockState A) → i < BLOCK_SLOTS → IsWide x → d ≡ Reads f i → SaysUnread i false (done_to d f x)
read_made d f i x lt w is =
    subst (λ e. SaysUnread i false (done_to e f x)) (sym is)
    (if_at f f (SaysUnread i false) x (with_read i x) (λ e. put_at x.places i i (record (get_or x.places i blank) { state = READ }) (λ p. (bit_and p.state READ == 0) ≡ false) (omega arith) (λ s. refl) (λ ne. absurd (ne refl))) (λ ne. absurd (ne refl)))

-- this is the block behind
abbrev pub HasNext : {A : Type 0} → Option ℕ → BlockState A → Type 0
HasNext n x = x.next ≡ n

pub next_kept : {A : Type 0} (d : Deed A) (f : ℕ) (n : Option ℕ) (x : BlockState A) → ((h : ℕ) → LinksTo d f h → Some h ≡ n) → HasNext n x → HasNext n (done_to d f x)
next_kept Rest f n x only q = q
next_kept (Puts b j y) f n x only q = if_at b f (HasNext n) x (with_item j y x) (λ e. q) (λ ne. q)
next_kept (Lays b j y fresh) f n x only q = if_at b f (HasNext n) x (record (with_item j y x) { next = Some fresh }) (λ e. only fresh (e, refl)) (λ ne. q)
next_kept (Reads b j) f n x only q = if_at b f (HasNext n) x (with_read j x) (λ e. q) (λ ne. q)

pub next_made : {A : Type 0} (d : Deed A) (f h : ℕ) (x : BlockState A) → LinksTo d f h → HasNext (Some h) (done_to d f x)
next_made (Lays b j y fresh) f h x links = if_at b f (HasNext (Some h)) x (record (with_item j y x) { next = Some fresh }) (λ e. ap (λ k. Some k) links.1) (λ ne. absurd (ne links.0))
next_made d f h x links = absurd links
