-- What the machine's changes of a block do to the list of its blocks.
use Rattle.std.proofs.Common.{ℕ, ◌<◌, ◌≡◌, ◌∙◌, inl, inr, Option, Some, None, List, length, refl, sym, ap, subst, get_or, set, get_or-set_same, get_or-set_other}
use Rattle.std.proofs.lemmas.{List.get_or_past, List.length-set, List.set-set, Bool.cases_lt}
use Rattle.machine_memory.specs.declared.blocks.BlockPlace.{BlockPlace}
use Rattle.machine_memory.specs.Blocks.{BlockState, blank, places_in, with_place, with_next, state_of, put_state, put_item, put_next}
use Rattle.machine_replay.proofs.Chain.Names.{Changed}

-- a block that is there has a number among those
pub there : {A : Type 0} (bs : List (Option (BlockState A))) (f : ℕ) (x : BlockState A) → get_or bs f None ≡ Some x → f < length bs
there bs f x is = elim (cases_lt f (length bs)) [ inl lt ↦ lt | inr ge ↦ (let z : None ≡ Some x = sym (get_or_past bs f None ge) ∙ is in cc) ]

pub changed_set : {A : Type 0} (bs : List (Option (BlockState A))) (f : ℕ) (y : Option (BlockState A)) → f < length bs → Changed bs (set bs f y) f y
changed_set bs f y lt = record { size = length-set bs f y; here = get_or-set_same bs f y None lt; others = λ g ne. get_or-set_other bs f g y None ne }

pub changed_twice : {A : Type 0} {bs cs ds : List (Option (BlockState A))} {f : ℕ} {y z : Option (BlockState A)} → Changed bs cs f y → Changed cs ds f z → Changed bs ds f z
changed_twice a b = record { size = b.size ∙ a.size; here = b.here; others = λ g ne. b.others g ne ∙ a.others g ne }

pub changed_none : {A : Type 0} {bs : List (Option (BlockState A))} {f : ℕ} {y z : Option (BlockState A)} → get_or bs f None ≡ y → y ≡ z → Changed bs bs f z
changed_none is same = record { size = refl; here = is ∙ same; others = λ g ne. refl }

-- the block with another place i
abbrev pub placed : {A : Type 0} → BlockState A → ℕ → BlockPlace A → BlockState A
placed x i p = record x { places = set x.places i p }

-- a place of a block
abbrev pub place_in : {A : Type 0} → BlockState A → ℕ → BlockPlace A
place_in x i = get_or x.places i blank

pub item_put : {A : Type 0} (bs : List (Option (BlockState A))) (f i : ℕ) (v : Option A) (x : BlockState A) → get_or bs f None ≡ Some x → Changed bs (put_item bs f i v) f (Some (placed x i (record (place_in x i) { item = v })))
item_put bs f i v x is =
    subst (λ y. Changed bs (set bs f (with_place i (record (get_or (places_in y) i blank) { item = v }) y)) f (Some (placed x i (record (place_in x i) { item = v })))) (sym is)
    (changed_set bs f (Some (placed x i (record (place_in x i) { item = v }))) (there bs f x is))

pub state_put : {A : Type 0} (bs : List (Option (BlockState A))) (f i n : ℕ) (x : BlockState A) → get_or bs f None ≡ Some x → Changed bs (put_state bs f i n) f (Some (placed x i (record (place_in x i) { state = n })))
state_put bs f i n x is =
    subst (λ y. Changed bs (set bs f (with_place i (record (get_or (places_in y) i blank) { state = n }) y)) f (Some (placed x i (record (place_in x i) { state = n })))) (sym is)
    (changed_set bs f (Some (placed x i (record (place_in x i) { state = n }))) (there bs f x is))

pub next_put : {A : Type 0} (bs : List (Option (BlockState A))) (f : ℕ) (n : Option ℕ) (x : BlockState A) → get_or bs f None ≡ Some x → Changed bs (put_next bs f n) f (Some (record x { next = n }))
next_put bs f n x is =
    subst (λ y. Changed bs (set bs f (with_next n y)) f (Some (record x { next = n }))) (sym is)
    (changed_set bs f (Some (record x { next = n })) (there bs f x is))

-- the state of a place
pub state_is : {A : Type 0} (bs : List (Option (BlockState A))) (f i : ℕ) (x : BlockState A) → get_or bs f None ≡ Some x → state_of bs f i ≡ (place_in x i).state
state_is bs f i x is = ap (λ y. (get_or (places_in y) i blank).state) is

-- a place whose item was changed has the state that it had
pub state_left : {A : Type 0} (bs : List (Option (BlockState A))) (f i : ℕ) (v : Option A) (x : BlockState A) → get_or bs f None ≡ Some x → i < length x.places → state_of (put_item bs f i v) f i ≡ (place_in x i).state
state_left bs f i v x is low =
    state_is (put_item bs f i v) f i (placed x i (record (place_in x i) { item = v })) (item_put bs f i v x is).here
    ∙ ap (λ p. p.state) (get_or-set_same x.places i (record (place_in x i) { item = v }) blank low)

-- an item and then a state of one place
pub both_put : {A : Type 0} (bs : List (Option (BlockState A))) (f i n : ℕ) (v : Option A) (x : BlockState A) → get_or bs f None ≡ Some x → i < length x.places
    → Changed bs (put_state (put_item bs f i v) f i n) f (Some (placed x i (record { state = n; item = v })))
both_put {A} bs f i n v x is low =
    let first = item_put bs f i v x is in
    let y = placed x i (record (place_in x i) { item = v }) in
    subst (λ z. Changed bs (put_state (put_item bs f i v) f i n) f (Some z)) same (changed_twice first (state_put (put_item bs f i v) f i n y first.here))
  where
    same : placed (placed x i (record (place_in x i) { item = v })) i (record (place_in (placed x i (record (place_in x i) { item = v })) i) { state = n }) ≡ placed x i (record { state = n; item = v })
    same =
        ap (λ p. placed (placed x i (record (place_in x i) { item = v })) i (record p { state = n })) (get_or-set_same x.places i (record (place_in x i) { item = v }) blank low)
        ∙ ap (λ ps. record x { places = ps }) (set-set x.places i (record (place_in x i) { item = v }) (record { state = n; item = v }))
