-- The rule of a queue of which only the closing is modelled. A history is a list of effects, each the number of the party that did it.
use Rattle.std.specs.Prelude.{◌≡◌, ◌≢◌, ℕ, ◌<◌, List, [], ◌∷◌, ◌++◌, length}
use mathlib.Core.Option.{some}
use lib.ListN.{get_elem?}
use Rattle.mem_blocks.specs.Web.{State, Sitter, block, Lives, word_of}
use Rattle.test_support.specs.declared.closing_rule.{View.View, QueueEnds.QueueEnds}

-- 1 once the history has an effect.
abbrev pub mark : List ℕ → ℕ
mark [] = 0
mark (x ∷ xs) = 1

abbrev pub Begins : List ℕ → List ℕ → Type 0
Begins xs ys = (rest : List ℕ) × (xs ++ rest ≡ ys)

abbrev pub view : List ℕ → List ℕ → View
view xs ps = record { seen = xs; mine = ps }

abbrev pub nothing : View
nothing = view [] []

-- The view of a party that is cut off from one with the view d.
abbrev pub newcomer : View → View
newcomer d = view d.seen []

-- The view d of the party j: it has seen a beginning of the history, and each of its places is an effect of its own.
abbrev pub IsViewOf : List ℕ → ℕ → View → Type 0
IsViewOf log j d = Begins d.seen log × ((i p : ℕ) → get_elem? d.mine i ≡ some p → get_elem? log p ≡ some j)

pub record ClosingHolds {S : Type 0} (key : QueueEnds S) (s : State S View) : Type 0 where
  pub log : List ℕ
  pub tail : Lives s.blocks 0 key.tail.ptr
  pub head : Lives s.blocks 1 key.head.ptr
  pub long : 0 < length (block s.blocks 0).words
  pub word : word_of s.blocks 0 0 ≡ mark log
  pub views : (j : ℕ) (d : View) → get_elem? s.views j ≡ some d → IsViewOf log j d

-- A call that closed: at a moment h that the party had not seen before, the queue was open, and the call added the one place.
abbrev pub Closed : View → View → Type 0
Closed d k = (h : List ℕ) × (who : ℕ) × Begins d.seen h × (mark h ≡ 0) × (k.seen ≡ h ++ who ∷ []) × (k.mine ≡ d.mine ++ length h ∷ [])

-- A call that added nothing, and found the mark n.
abbrev pub Saw : ℕ → View → View → Type 0
Saw n d k = Begins d.seen k.seen × (mark k.seen ≡ n) × (k.mine ≡ d.mine)

-- What the seat keeps in hand and carries stays.
abbrev pub KeepsHand : {S : Type 0} → Sitter S View → Sitter S View → Type 0
KeepsHand m k = (k.hand ≡ m.hand) × (k.spare ≡ m.spare)

abbrev pub closes : {S : Type 0} → Sitter S View → ℕ → Sitter S View → Type 0
closes m n k = KeepsHand m k × (n ≡ 0 → Closed m.view k.view) × (n ≢ 0 → Saw 1 m.view k.view)

abbrev pub looks : {S : Type 0} → Sitter S View → ℕ → Sitter S View → Type 0
looks m n k = KeepsHand m k × (n ≡ 0 → Saw 0 m.view k.view) × (n ≢ 0 → Saw 1 m.view k.view)
