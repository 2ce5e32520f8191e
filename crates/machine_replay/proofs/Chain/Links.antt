-- How the blocks are linked once every call in progress has done what it has claimed, and which block is the first.
use Rattle.std.proofs.Common.{ℕ, suc, zero, ◌+◌, ◌-◌, ◌/◌, ◌<◌, ◌≡◌, ◌≢◌, ◌∙◌, ◌⊎◌, inl, inr, Option, Some, None, List, [], ◌∷◌, length, refl, sym, ap, subst, get_or, arith}
use Rattle.std.proofs.lemmas.List.{get_or-replicate, length-replicate}
use Rattle.machine_replay.specs.Vocabulary.{BLOCK_SLOTS, Running}
use Rattle.queue_laws.specs.Chain.ChainCells.{Mover, Rests, Laying, Opening, LinkState, Unlinked, Linking, Linked, Shown, Hidden, Showing, Seen, Spare, Chained, Chain, ChainOk, LinkOk, Next, First, Tail, mover_of, linker_of, shower_of}
use Rattle.queue_laws.specs.Chain.{ChainAnswers.linked_of, ChainAnswers.shown_of, ChainPasses.spare_in, ChainPasses.Spares}
use Rattle.machine_memory.specs.{declared.blocks.BlockPlace.BlockPlace, Blocks.BlockState, Blocks.blank, Blocks.fresh_block}
use Rattle.machine_steps.specs.ChainLeft.{unread, settled_front, front_at}
use Rattle.machine_replay.proofs.Chain.{Codes.BlockIs, Counted.InCall, Counted.StandsAt, Shows.AllStand, Shows.deed_in, Shows.deed_at, Shows.in_call, Shows.unread_none}
use Rattle.machine_replay.proofs.Chain.Deeds.{Deed, Rest, Puts, Lays, Reads, PutsAt, LinksTo, IsClaimed, IsLaid}
use Rattle.machine_replay.proofs.Chain.Done.{all_done, done_to, keeps_all, makes_all, IsWide, wide_done, HasItem, item_kept, HasNext, next_kept, next_made}

-- the numbers of two blocks of one name are one
one_number : {A : Type 0} (g : Chain A) (m b f : ℕ) → ChainOk g → m < g.blocks → f ≡ g.names m → b < g.blocks → f ≡ g.names b → m ≡ b
one_number g m b f ok low is lt same = let twice : Chained m ≡ Chained b = sym (ok.name m low) ∙ (ap g.uses (sym is ∙ same) ∙ ok.name b lt) in cc

-- who links the block b to another has laid that, or is to lay its spare
links_claimed : {A : Type 0} (g : Chain A) (q b h : ℕ) (d : Deed A) → ChainOk g → b < g.blocks → IsClaimed g q d → LinksTo d (g.names b) h
    → ((g.links b ≡ Linking q) × (h ≡ g.names (b + 1))) ⊎ ((g.mover ≡ Laying q) × (g.uses h ≡ Spare q) × (b + 1 ≡ g.blocks))
links_claimed g q b h Rest ok lt claimed links = absurd links
links_claimed g q b h (Reads f j) ok lt claimed links = absurd links
links_claimed g q b h (Puts f j x) ok lt claimed links = absurd links
links_claimed {A} g q b h (Lays f j x fresh) ok lt (n, v, mine, slot, is, laid) links = go laid
  where
    block : n / BLOCK_SLOTS ≡ b
    block = one_number g (n / BLOCK_SLOTS) b f ok slot.0.0 slot.0.1 lt links.0

    go : IsLaid g q n fresh → ((g.links b ≡ Linking q) × (h ≡ g.names (b + 1))) ⊎ ((g.mover ≡ Laying q) × (g.uses h ≡ Spare q) × (b + 1 ≡ g.blocks))
    go (inl x) = inl (ap g.links (sym block) ∙ x.0, sym links.1 ∙ (x.1 ∙ ap (λ k. g.names (k + 1)) block))
    go (inr x) = inr (x.0, ap g.uses (sym links.1) ∙ x.1, ap (λ k. k + 1) (sym block) ∙ x.2)

-- what all calls keep of a block's link
keeps_next : {A : Type 0} (g : Chain A) (calls : List (Option (Running A))) (b : ℕ) (n : Option ℕ) (x : BlockState A) → ChainOk g → AllStand g calls → b < g.blocks
    → ((q h : ℕ) → ((g.links b ≡ Linking q) × (h ≡ g.names (b + 1))) ⊎ ((g.mover ≡ Laying q) × (g.uses h ≡ Spare q) × (b + 1 ≡ g.blocks)) → Some h ≡ n)
    → (p : ℕ) (r : Running A) → get_or calls p None ≡ Some r → (y : BlockState A) → HasNext n y → HasNext n (done_to (deed_in r) (g.names b) y)
keeps_next g calls b n x ok each lt only p r e y q = next_kept (deed_in r) (g.names b) n y (λ h links. only p h (links_claimed g p b h (deed_in r) ok lt (deed_at g calls ok each p r e).claimed links)) q

-- a block that is not the last one is linked to the next one
pub next_is : {A : Type 0} (g : Chain A) (calls : List (Option (Running A))) (b : ℕ) (x : BlockState A) → ChainOk g → AllStand g calls → b + 1 < g.blocks → BlockIs g b x.places x.next → (all_done calls (g.names b) x).next ≡ Some (g.names (b + 1))
next_is {A} g calls b x ok each lt is = go (g.links b) refl (ok.link b)
  where
    only : (q h : ℕ) → ((g.links b ≡ Linking q) × (h ≡ g.names (b + 1))) ⊎ ((g.mover ≡ Laying q) × (g.uses h ≡ Spare q) × (b + 1 ≡ g.blocks)) → Some h ≡ Some (g.names (b + 1))
    only q h (inl z) = ap (λ k. Some k) z.1
    only q h (inr z) = absurd (let last = z.2 in omega arith)

    stays : (p : ℕ) (r : Running A) → get_or calls p None ≡ Some r → (y : BlockState A) → HasNext (Some (g.names (b + 1))) y → HasNext (Some (g.names (b + 1))) (done_to (deed_in r) (g.names b) y)
    stays = keeps_next g calls b (Some (g.names (b + 1))) x ok each (omega arith) only

    go : (l : LinkState) → g.links b ≡ l → LinkOk g.blocks b l → (all_done calls (g.names b) x).next ≡ Some (g.names (b + 1))
    go Unlinked e h = absurd (omega arith)
    go Linked e h = keeps_all calls (g.names b) (HasNext (Some (g.names (b + 1)))) stays x (is.linked ∙ ap (λ l. linked_of l (g.names (b + 1))) e)
    go (Linking q) e h =
        let c = in_call g calls each q (Next b) (ap linker_of e) in
        let links = (deed_at g calls ok each q c.0 c.1).links b e in
        makes_all calls (g.names b) IsWide (HasNext (Some (g.names (b + 1)))) (λ p r e2 y w. wide_done (deed_in r) (g.names b) y w) (λ p r e2 y z. (wide_done (deed_in r) (g.names b) y z.0, stays p r e2 y z.1)) q c.0 c.1 (λ y w. next_made (deed_in c.0) (g.names b) (g.names (b + 1)) y links) x is.wide

-- the last block is linked to none, or to a spare
pub last_next : {A : Type 0} (g : Chain A) (calls : List (Option (Running A))) (b : ℕ) (x : BlockState A) → ChainOk g → AllStand g calls → b + 1 ≡ g.blocks → BlockIs g b x.places x.next
    → ((all_done calls (g.names b) x).next ≡ None) ⊎ ((f : ℕ) × (p : ℕ) × ((all_done calls (g.names b) x).next ≡ Some f) × (g.uses f ≡ Spare p))
last_next {A} g calls b x ok each last is = go g.mover refl
  where
    unlinked : (l : LinkState) → LinkOk g.blocks b l → (linked_of l (g.names (b + 1)) ≡ None) × ((q : ℕ) → l ≢ Linking q)
    unlinked Unlinked h = (refl, λ q e. cc)
    unlinked l h = absurd (omega arith)

    none : x.next ≡ None
    none = is.linked ∙ (unlinked (g.links b) (ok.link b)).0

    resting : ((q : ℕ) → g.mover ≢ Laying q) → (all_done calls (g.names b) x).next ≡ None
    resting rests = keeps_all calls (g.names b) (HasNext None) (keeps_next g calls b None x ok each (omega arith) only) x none
      where
        only : (q h : ℕ) → ((g.links b ≡ Linking q) × (h ≡ g.names (b + 1))) ⊎ ((g.mover ≡ Laying q) × (g.uses h ≡ Spare q) × (b + 1 ≡ g.blocks)) → Some h ≡ None
        only q h (inl z) = absurd ((unlinked (g.links b) (ok.link b)).1 q z.0)
        only q h (inr z) = absurd (rests q z.0)

    go : (m : Mover) → g.mover ≡ m → ((all_done calls (g.names b) x).next ≡ None) ⊎ ((f : ℕ) × (p : ℕ) × ((all_done calls (g.names b) x).next ≡ Some f) × (g.uses f ≡ Spare p))
    go Rests e = inl (resting (λ q z. let y : Rests ≡ Laying q = sym e ∙ z in cc))
    go (Opening p) e = inl (resting (λ q z. let y : Opening p ≡ Laying q = sym e ∙ z in cc))
    go (Laying p) e =
        let c = in_call g calls each p Tail (ap mover_of e) in
        let lays = (deed_at g calls ok each p c.0 c.1).lays e in
        let here : LinksTo (deed_in c.0) (g.names b) lays.0 = subst (λ k. LinksTo (deed_in c.0) (g.names k) lays.0) (let z : g.blocks - 1 ≡ b = omega arith in z) lays.2 in
        let stands : InCall g p c.0 = subst (λ y. StandsAt g p y) c.1 (each p) in
        let stays = keeps_next g calls b (Some lays.0) x ok each (omega arith) (only p e lays.0 lays.1 c.0 stands.spares) in
        inr (
          lays.0,
          p,
          makes_all calls (g.names b) IsWide (HasNext (Some lays.0)) (λ j r e2 y w. wide_done (deed_in r) (g.names b) y w) (λ j r e2 y z. (wide_done (deed_in r) (g.names b) y z.0, stays j r e2 y z.1)) p c.0 c.1 (λ y w. next_made (deed_in c.0) (g.names b) lays.0 y here) x is.wide,
          lays.1,
        )
      where
        only : (p : ℕ) → g.mover ≡ Laying p → (f : ℕ) → g.uses f ≡ Spare p → (r : Running A) → Spares g p (spare_in r.local) → (q h : ℕ) → ((g.links b ≡ Linking q) × (h ≡ g.names (b + 1))) ⊎ ((g.mover ≡ Laying q) × (g.uses h ≡ Spare q) × (b + 1 ≡ g.blocks)) → Some h ≡ Some f
        only p e f mine r spares q h (inl z) = absurd ((unlinked (g.links b) (ok.link b)).1 q z.0)
        only p e f mine r spares q h (inr z) =
            let mover : Laying p ≡ Laying q = sym e ∙ z.0 in
            let who : q ≡ p = cc in
            sym (spares h (z.1 ∙ ap (λ k. Spare k) who)) ∙ spares f mine

-- nothing is done to a spare
spare_apart : {A : Type 0} (g : Chain A) (q f p : ℕ) (d : Deed A) (X : Type 0) → ChainOk g → g.uses f ≡ Spare p → IsClaimed g q d → ((i : ℕ) (y : Option A) → PutsAt d f i y → X) × ((h : ℕ) → LinksTo d f h → X)
spare_apart g q f p (Puts b j x) X ok spare (n, v, mine, slot, is) =
    (λ i y z. let twice : Chained (n / BLOCK_SLOTS) ≡ Spare p = sym (ok.name (n / BLOCK_SLOTS) slot.0.0) ∙ (ap g.uses (sym slot.0.1 ∙ z.0) ∙ spare) in cc, λ h z. absurd z)
spare_apart g q f p (Lays b j x fresh) X ok spare (n, v, mine, slot, is, laid) = (
  λ i y z. let twice : Chained (n / BLOCK_SLOTS) ≡ Spare p = sym (ok.name (n / BLOCK_SLOTS) slot.0.0) ∙ (ap g.uses (sym slot.0.1 ∙ z.0) ∙ spare) in cc,
  λ h z. let twice : Chained (n / BLOCK_SLOTS) ≡ Spare p = sym (ok.name (n / BLOCK_SLOTS) slot.0.0) ∙ (ap g.uses (sym slot.0.1 ∙ z.0) ∙ spare) in cc,
)
spare_apart g q f p d X ok spare claimed = (λ i y z. absurd z, λ h z. absurd z)

-- a spare is empty, and the last
pub spare_empty : {A : Type 0} (g : Chain A) (calls : List (Option (Running A))) (f p : ℕ) → ChainOk g → AllStand g calls → g.uses f ≡ Spare p → (unread (all_done calls f (fresh_block {T = A})).places ≡ []) × ((all_done calls f (fresh_block {T = A})).next ≡ None)
spare_empty {A} g calls f p ok each spare = (nothing (all_done calls f fresh_block).places (λ i lt. (items i lt)), keeps_all calls f (HasNext None) (λ q r e y n. next_kept (deed_in r) f None y (λ h z. (apart (Some h ≡ None) q r e).1 h z) n) fresh_block refl)
  where
    apart : (X : Type 0) (q : ℕ) (r : Running A) → get_or calls q None ≡ Some r → ((i : ℕ) (y : Option A) → PutsAt (deed_in r) f i y → X) × ((h : ℕ) → LinksTo (deed_in r) f h → X)
    apart X q r e = spare_apart g q f p (deed_in r) X ok spare (deed_at g calls ok each q r e).claimed

    wide : IsWide (fresh_block {T = A})
    wide = length-replicate BLOCK_SLOTS (blank {T = A})

    keeps : (i : ℕ) → i < BLOCK_SLOTS → IsWide (all_done calls f (fresh_block {T = A})) × HasItem i None (all_done calls f (fresh_block {T = A}))
    keeps i low = keeps_all calls f (λ y. IsWide y × HasItem i None y)
        (λ q r e y h. (wide_done (deed_in r) f y h.0, item_kept (deed_in r) f i None y low h.0 (λ z puts. (apart (z ≡ None) q r e).0 i z puts) h.1)) fresh_block (wide, ap (λ s. s.item) (get_or-replicate BLOCK_SLOTS i (blank {T = A}) (blank {T = A}) low))

    items : (i : ℕ) → i < length (all_done calls f (fresh_block {T = A})).places → (get_or (all_done calls f (fresh_block {T = A})).places i blank).item ≡ None
    items i lt = let w = (keeps 0 (omega arith)).0 in (keeps i (omega (arith, lt, w))).1

    nothing : (ps : List (BlockPlace A)) → ((i : ℕ) → i < length ps → (get_or ps i blank).item ≡ None) → unread ps ≡ []
    nothing [] all = refl
    nothing (q ∷ ps) all = rw (unread_none q (all 0 (omega arith))) (nothing ps (λ i lt. all (suc i) (omega arith)))

-- the first block that the poppers see, or that is shown to them
front_kept : {A : Type 0} (calls : List (Option (Running A))) (Q : Option ℕ → Type 0) → ((p : ℕ) (r : Running A) → get_or calls p None ≡ Some r → (x : Option ℕ) → Q x → Q (front_at r.local x)) → (x : Option ℕ) → Q x → Q (settled_front calls x)
front_kept [] Q keeps x q = q
front_kept (None ∷ calls) Q keeps x q = front_kept calls Q (λ p r e. keeps (suc p) r e) x q
front_kept (Some r ∷ calls) Q keeps x q = front_kept calls Q (λ p s e. keeps (suc p) s e) (front_at r.local x) (keeps 0 r refl x q)

front_made : {A : Type 0} (calls : List (Option (Running A))) (Q : Option ℕ → Type 0)
    → ((p : ℕ) (r : Running A) → get_or calls p None ≡ Some r → (x : Option ℕ) → Q x → Q (front_at r.local x))
    → (p : ℕ) (r : Running A) → get_or calls p None ≡ Some r → ((x : Option ℕ) → Q (front_at r.local x)) → (x : Option ℕ) → Q (settled_front calls x)
front_made (None ∷ calls) Q keeps (suc p) r e made x = front_made calls Q (λ j s h. keeps (suc j) s h) p r e made x
front_made (Some y ∷ calls) Q keeps zero r e made x = let same : y ≡ r = cc in front_kept calls Q (λ j s h. keeps (suc j) s h) (front_at y.local x) (subst (λ s. Q (front_at s.local x)) (sym same) (made x))
front_made (Some y ∷ calls) Q keeps (suc p) r e made x = front_made calls Q (λ j s h. keeps (suc j) s h) p r e made (front_at y.local x)
front_made calls Q keeps p r e made x = cc

-- the block that the poppers see once it is shown
abbrev pub front_then : Shown → (ℕ → ℕ) → ℕ → Option ℕ
front_then Hidden names front = None
front_then (Showing p) names front = Some (names 0)
front_then Seen names front = Some (names front)

pub front_is : {A : Type 0} (g : Chain A) (calls : List (Option (Running A))) (x : Option ℕ) → ChainOk g → AllStand g calls → x ≡ shown_of g.shown (g.names g.front) → settled_front calls x ≡ front_then g.shown g.names g.front
front_is {A} g calls x ok each is = go g.shown refl
  where
    kept : (n : Option ℕ) → ((q : ℕ) → g.shown ≡ Showing q → Some (g.names 0) ≡ n) → (p : ℕ) (r : Running A) → get_or calls p None ≡ Some r → (y : Option ℕ) → y ≡ n → front_at r.local y ≡ n
    kept n only p r e y h = elim ((deed_at g calls ok each p r e).fronts y) [ inl z ↦ z ∙ h | inr z ↦ z.1 ∙ only p z.0 ]

    go : (s : Shown) → g.shown ≡ s → settled_front calls x ≡ front_then s g.names g.front
    go Hidden e = front_kept calls (λ y. y ≡ None) (kept None (λ q z. let w : Hidden ≡ Showing q = sym e ∙ z in cc)) x (is ∙ ap (λ s. shown_of s (g.names g.front)) e)
    go Seen e = front_kept calls (λ y. y ≡ Some (g.names g.front)) (kept (Some (g.names g.front)) (λ q z. let w : Seen ≡ Showing q = sym e ∙ z in cc)) x (is ∙ ap (λ s. shown_of s (g.names g.front)) e)
    go (Showing p) e =
        let c = in_call g calls each p First (ap shower_of e) in
        front_made calls (λ y. y ≡ Some (g.names 0)) (kept (Some (g.names 0)) (λ q z. refl)) p c.0 c.1 (λ y. (deed_at g calls ok each p c.0 c.1).shows e y) x
