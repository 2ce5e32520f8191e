-- Blocks that are shared, as plain data: what they are, what a seat has of them, and what a step may do.
-- Blocks are numbered in the order in which they joined. One that left keeps its number and its place.
use Rattle.std.specs.Prelude.{◌≡◌, ℕ, ◌<◌, Bool, true, false, List, [], ◌∷◌, ◌++◌, length, Option, Some, None, slice_index_or, slice_set}
use Rattle.std.specs.Coded.{coded_option}
use mathlib.Core.Option.{some}
use lib.ListN.{get_elem?}
use base.Stored.{Coded, coded×, coded_ℕ, coded_bool, coded_list, coded_via}
use denote.RawPtr.{Ptr, block_ptr, null_ptr, coded_ptr, Testable}

-- What a slot holds: nothing, or a value.
abbrev pub Content : Type 0 → Type 0
Content S = Option S

-- A slot is away with a seat, or at home with its content.
abbrev pub Home : Type 0 → Type 0
Home S = Option (Content S)

-- A block that joined. An end of the hub is a block without slots.
pub record Block (S : Type 0) : Type 0 where
  pub at : Ptr
  pub alive : Bool
  pub next : Ptr
  pub words : List ℕ
  pub homes : List (Home S)

-- All that a rule speaks of: the blocks, and the view of each seat.
pub record State (S V : Type 0) : Type 0 where
  pub blocks : List (Block S)
  pub views : List V

-- A slot that is out with a seat: the place of its block, its number and its content.
abbrev pub Hand : Type 0 → Type 0
Hand S = Ptr × ℕ × Content S

-- A seat: its view, the slot that it has in hand, and the block that it carries.
pub record Sitter (S V : Type 0) : Type 0 where
  pub view : V
  pub hand : Option (Hand S)
  pub spare : Option (Block S)

-- A step on a word: the block's place, the word, and the operands.
pub record Step : Type 0 where
  pub at : Ptr
  pub word : ℕ
  pub first : ℕ
  pub second : ℕ

abbrev pub step : Ptr → ℕ → ℕ → ℕ → Step
step p i a b = record { at = p; word = i; first = a; second = b }

-- What a seat does to the blocks beside the step itself.
pub data Act (S : Type 0) : Type 0 where
  takes : ℕ → ℕ → Content S → Act S
  gives : ℕ → ℕ → Content S → Act S
  lays : Block S → Act S
  lifts : ℕ → Act S

abbrev pub content_coded : {S : Type 0} → Coded S → Coded (Content S)
content_coded c = coded_option c

abbrev pub home_coded : {S : Type 0} → Coded S → Coded (Home S)
home_coded c = coded_option (coded_option c)

abbrev pub block_coded : {S : Type 0} → Coded S → Coded (Block S)
block_coded {S} c = coded_via (coded× coded_ptr (coded× coded_bool (coded× coded_ptr (coded× (coded_list coded_ℕ) (coded_list (home_coded c))))))
    (λ (x : Block S). (x.at, (x.alive, (x.next, (x.words, x.homes)))))
    (λ x y e i. record { at = (e i).0; alive = (e i).1.0; next = (e i).1.1.0; words = (e i).1.1.1.0; homes = (e i).1.1.1.1 })

abbrev pub hand_coded : {S : Type 0} → Coded S → Coded (Hand S)
hand_coded {S} c = coded_via (coded× coded_ptr (coded× coded_ℕ (content_coded c))) (λ (h : Hand S). (h.0, (h.1, h.2))) (λ x y e i. ((e i).0, (e i).1.0, (e i).1.1))

abbrev pub sitter_coded : {S V : Type 0} → Coded S → Coded V → Coded (Sitter S V)
sitter_coded {S} {V} c v = coded_via (coded× v (coded× (coded_option (hand_coded c)) (coded_option (block_coded c))))
    (λ (m : Sitter S V). (m.view, (m.hand, m.spare))) (λ x y e i. record { view = (e i).0; hand = (e i).1.0; spare = (e i).1.1 })

abbrev pub sitter : {S V : Type 0} → V → Option (Hand S) → Option (Block S) → Sitter S V
sitter v h x = record { view = v; hand = h; spare = x }

-- What a link becomes where only an unset one is set.
abbrev pub if_unset : Ptr → Ptr → Ptr
if_unset new null_ptr = new
if_unset new (block_ptr b o) = block_ptr b o

module _ {S : Type 0} where
  -- A home that its slot has left, an empty slot at home, and a full one.
  abbrev pub away : Home S
  away = None

  abbrev pub vacant : Home S
  vacant = Some None

  abbrev pub full : S → Home S
  full x = Some (Some x)

  abbrev pub alive_at : Ptr → Ptr → List ℕ → List (Home S) → Block S
  alive_at p q ns hs = record { at = p; alive = true; next = q; words = ns; homes = hs }

  -- The block k, or a dead one where there are not so many.
  abbrev pub block : List (Block S) → ℕ → Block S
  block bs k = slice_index_or bs k record { at = null_ptr; alive = false; next = null_ptr; words = []; homes = [] }

  -- The block k is in the web, at the place p.
  abbrev pub Lives : List (Block S) → ℕ → Ptr → Type 0
  Lives bs k p = ((block bs k).alive ≡ true) × ((block bs k).at ≡ p)

  -- It is, and has the word i.
  abbrev pub HoldsWord : List (Block S) → ℕ → Ptr → ℕ → Type 0
  HoldsWord bs k p i = Lives bs k p × (i < length (block bs k).words)

  abbrev pub word_of : List (Block S) → ℕ → ℕ → ℕ
  word_of bs k i = slice_index_or (block bs k).words i 0

  -- The slot j of the block k is at home with the content c.
  abbrev pub Rests : List (Block S) → ℕ → ℕ → Content S → Type 0
  Rests bs k j c = get_elem? (block bs k).homes j ≡ some (Some c)

  -- No block of a row is in the web any more.
  abbrev pub AllGone : List (Block S) → Type 0
  AllGone [] = Unit {0}
  AllGone (x ∷ xs) = (x.alive ≡ false) × AllGone xs

  -- No slot of a row of homes is away or full.
  abbrev pub AllVacant : List (Home S) → Type 0
  AllVacant [] = Unit {0}
  AllVacant (h ∷ hs) = (h ≡ vacant) × AllVacant hs

  abbrev pub worded : Block S → ℕ → ℕ → Block S
  worded x i n = record { at = x.at; alive = x.alive; next = x.next; words = slice_set x.words i n; homes = x.homes }

  abbrev pub linked : Block S → Ptr → Block S
  linked x q = record { at = x.at; alive = x.alive; next = q; words = x.words; homes = x.homes }

  abbrev pub homed : Block S → ℕ → Home S → Block S
  homed x j h = record { at = x.at; alive = x.alive; next = x.next; words = x.words; homes = slice_set x.homes j h }

  abbrev pub gone : Block S → Block S
  gone x = record { at = x.at; alive = false; next = x.next; words = x.words; homes = x.homes }

  abbrev pub with_word : List (Block S) → ℕ → ℕ → ℕ → List (Block S)
  with_word bs k i n = slice_set bs k (worded (block bs k) i n)

  abbrev pub with_next : List (Block S) → ℕ → Ptr → List (Block S)
  with_next bs k q = slice_set bs k (linked (block bs k) q)

  abbrev pub with_home : List (Block S) → ℕ → ℕ → Home S → List (Block S)
  with_home bs k j h = slice_set bs k (homed (block bs k) j h)

  abbrev pub without : List (Block S) → ℕ → List (Block S)
  without bs k = slice_set bs k (gone (block bs k))

  -- The blocks after one act.
  abbrev pub acted : List (Block S) → Act S → List (Block S)
  acted bs (takes k j c) = with_home bs k j away
  acted bs (gives k j c) = with_home bs k j (Some c)
  acted bs (lays x) = bs ++ x ∷ []
  acted bs (lifts k) = without bs k

  -- The blocks after several acts, one after another.
  abbrev pub blocks_after : List (Block S) → List (Act S) → List (Block S)
  blocks_after bs [] = bs
  blocks_after bs (a ∷ more) = blocks_after (acted bs a) more

module _ {S V : Type 0} where
  abbrev pub viewed : V → Sitter S V → Sitter S V
  viewed w m = sitter w m.hand m.spare

  -- The seat after one act.
  abbrev pub sitter_acted : List (Block S) → Sitter S V → Act S → Sitter S V
  sitter_acted bs m (takes k j c) = sitter m.view (Some ((block bs k).at, j, c)) m.spare
  sitter_acted bs m (gives k j c) = sitter m.view None m.spare
  sitter_acted bs m (lays x) = sitter m.view m.hand None
  sitter_acted bs m (lifts k) = sitter m.view m.hand (Some (block bs k))

  abbrev pub sitter_after : List (Block S) → Sitter S V → List (Act S) → Sitter S V
  sitter_after bs m [] = m
  sitter_after bs m (a ∷ more) = sitter_after (acted bs a) (sitter_acted bs m a) more

  -- When a seat may do an act: what it takes is at home, what it gives is in its hand, what it lays it carries, what it lifts is in the web.
  abbrev pub May : List (Block S) → Sitter S V → Act S → Type 0
  May bs m (takes k j c) = ((block bs k).alive ≡ true) × Rests bs k j c
  May bs m (gives k j c) = ((block bs k).alive ≡ true) × (j < length (block bs k).homes) × (m.hand ≡ Some ((block bs k).at, j, c))
  May bs m (lays x) = m.spare ≡ Some x
  May bs m (lifts k) = (block bs k).alive ≡ true

  abbrev pub Mays : List (Block S) → Sitter S V → List (Act S) → Type 0
  Mays bs m [] = Unit {0}
  Mays bs m (a ∷ more) = May bs m a × Mays (acted bs a) (sitter_acted bs m a) more

  module _ (holds : State S V → Type 0) where
    -- With the blocks at bs, the seat has acts and a new view that keep the rule, and `then` holds of the seat after.
    abbrev pub KeepsRule : State S V → List (Block S) → ℕ → Sitter S V → (Sitter S V → Type 0) → Type 0
    KeepsRule s bs id m then = (w : V) × (acts : List (Act S)) × Mays bs m acts × holds record { blocks = blocks_after bs acts; views = slice_set s.views id w } × then (viewed w (sitter_after bs m acts))

    -- Whatever the web is, some block of it lies at p.
    abbrev pub StaysIn : Ptr → Type 0
    StaysIn p = (s : State S V) → holds s → (k : ℕ) × Lives s.blocks k p

    -- Whatever the web is where the seat id has the seat's view, some block of it lies at p and has the word i, which the step may turn into f of what it was.
    abbrev pub Allows : ℕ → Sitter S V → Ptr → ℕ → (ℕ → ℕ) → (ℕ → Sitter S V → Type 0) → Type 0
    Allows id m p i f then = (s : State S V) → holds s → get_elem? s.views id ≡ some m.view
        → (k : ℕ) × HoldsWord s.blocks k p i × (let n : ℕ = word_of s.blocks k i in n < 18446744073709551616 → KeepsRule s (with_word s.blocks k i (f n)) id m (then n))

    -- The same of the block's link, which can be compared with null.
    abbrev pub AllowsLink : ℕ → Sitter S V → Ptr → (Ptr → Ptr) → (Ptr → Sitter S V → Type 0) → Type 0
    AllowsLink id m p f then = (s : State S V) → holds s → get_elem? s.views id ≡ some m.view
        → (k : ℕ) × Lives s.blocks k p × (let q : Ptr = (block s.blocks k).next in Testable q × KeepsRule s (with_next s.blocks k (f q)) id m (then q))

    -- Some block of the web lies at p, and a seat's view may be cut in two, of which a new seat has the second.
    abbrev pub CanFork : Ptr → ℕ → V → V → V → Type 0
    CanFork p id v left right = (s : State S V) → holds s → get_elem? s.views id ≡ some v
        → (k : ℕ) × Lives s.blocks k p × holds record { blocks = s.blocks; views = slice_set s.views id left ++ right ∷ [] }

    -- Some block of the web lies at p, and a seat may take in another's view, which is spent.
    abbrev pub CanMerge : Ptr → ℕ → V → ℕ → V → V → V → Type 0
    CanMerge p id v other w both spent = (s : State S V) → holds s → (k : ℕ) × Lives s.blocks k p × (get_elem? s.views id ≡ some v → ¬ (other ≡ id) → get_elem? (slice_set s.views id both) other ≡ some w
        → holds record { blocks = s.blocks; views = slice_set (slice_set s.views id both) other spent })

    -- The blocks of some state that keeps the rule.
    abbrev pub LastBlocks : List (Block S) → Type 0
    LastBlocks bs = (vs : List V) × holds record { blocks = bs; views = vs }

    -- The same, where the seat id has the view v.
    abbrev pub LastBlocksBy : ℕ → V → List (Block S) → Type 0
    LastBlocksBy id v bs = (vs : List V) × holds record { blocks = bs; views = vs } × (get_elem? vs id ≡ some v)
