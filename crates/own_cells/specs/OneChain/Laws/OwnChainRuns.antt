-- One step of a call on a chain of blocks, from what it finds to what it leaves.
use Rattle.std.specs.Prelude.{slice_set, bit_or}
use Rattle.std.proofs.Common.{◌≡◌, ℕ, suc, ◌+◌, ◌<◌, List, length, Option, Some, None, refl, arith, sym, ap, ◌∙◌, subst}
use Rattle.std.proofs.lemmas.List.{get_or-set_same, set-set, length-set}
use Rattle.queue_steps.specs.{declared.sizes.TheConstants.BLOCK_SLOTS, declared.model.Reply.Reply, ChainNext.at, ChainNext.FitsChain, ChainNext.chain_next}
use Rattle.queue_steps.specs.declared.steps.{types.Kind.Kind as kind, types.Answer.Answer, types.Answer.Answer as answer, types.Next.Next, types.Op.Op, types.Op.Op as op, types.Word.Word as word, types.Touch.Touch, types.Touch.Touch as touch, chain.ChainLocal.ChainLocal}
use Rattle.own_cells.specs.declared.chain.own_chain.Name.{Name}
use Rattle.call_driver.specs.EndsIn.{EndsIn}
use Rattle.own_cells.specs.OneChain.OwnChainCells.{Piece, OwnChain, piece_at, state_in, item_in, place_of, piece_of, with_piece, exchanged, Named, own_chain_can_touch, own_chain_touched, own_chain_touches, own_chain_can_perform, own_chain_performed, own_chain_performs}

-- what a call has to end with
abbrev pub Ending : Type 0 → Type 1
Ending T = Reply Unit → Option (Name T) → Option T → OwnChain T → Type 0

-- a call on a chain ends before so many steps
abbrev pub OwnChainEnds : {T : Type 0} → ℕ → Next (Name T) → OwnChain T → Option T → Ending T → Type 0
OwnChainEnds steps todo r carried P = EndsIn own_chain_can_touch own_chain_touches own_chain_can_perform own_chain_performs steps kind.Unbounded todo r carried P

-- the operation answers and leaves one thing alone
abbrev pub IsSettled : {T : Type 0} → OwnChain T → Op (Name T) → Type 0
IsSettled {T} r q = (x : Answer (Name T)) (y : OwnChain T) → own_chain_performs r q x y → (x, y) ≡ own_chain_performed r q

-- one step, from what it finds
pub own_chain_step : {T : Type 0} (steps : ℕ) (l : ChainLocal (Name T)) (t : Touch) (q : Op (Name T)) (r mid done : OwnChain T) (carried left : Option T) (a : Answer (Name T)) (todo : Next (Name T)) (P : Ending T)
    → own_chain_can_touch r t q → own_chain_touched r t q carried ≡ (mid, left) → own_chain_can_perform mid q → IsSettled mid q → own_chain_performed mid q ≡ (a, done)
    → FitsChain l a → chain_next l a ≡ todo → OwnChainEnds steps todo done left P → OwnChainEnds (suc steps) (at l t q) r carried P
own_chain_step {T} steps l t q r mid done carried left a todo P can_touch touched can_perform settled performed fits next_is more = (
  can_touch,
  λ after rest is.
      let here : After (after, rest) = subst After (sym (is ∙ touched)) (can_perform, λ x y p. subst Done (sym (settled x y p ∙ performed)) (fits, subst Todo (sym next_is) more)) in
      here,
)
  where
    Todo : Next (Name T) → Type 0
    Todo x = OwnChainEnds steps x done left P

    Done : Answer (Name T) × OwnChain T → Type 0
    Done x = FitsChain l x.0 × OwnChainEnds steps (chain_next l x.0) x.1 left P

    After : OwnChain T × Option T → Type 0
    After u = own_chain_can_perform u.0 q × ((x : Answer (Name T)) (y : OwnChain T) → own_chain_performs u.0 q x y → FitsChain l x × OwnChainEnds steps (chain_next l x) y u.1 P)

-- a step that touches no slot
pub bare_step : {T : Type 0} (steps : ℕ) (l : ChainLocal (Name T)) (q : Op (Name T)) (r done : OwnChain T) (carried : Option T) (a : Answer (Name T)) (todo : Next (Name T)) (P : Ending T)
    → own_chain_can_perform r q → IsSettled r q → own_chain_performed r q ≡ (a, done)
    → FitsChain l a → chain_next l a ≡ todo → OwnChainEnds steps todo done carried P → OwnChainEnds (suc steps) (at l touch.Nothing q) r carried P
bare_step steps l q r done carried a todo P can_perform settled performed fits next_is more = own_chain_step steps l touch.Nothing q r r done carried carried a todo P tt refl can_perform settled performed fits next_is more

-- a request, which may be refused
pub ask_step : {T : Type 0} (steps : ℕ) (l : ChainLocal (Name T)) (r : OwnChain T) (carried : Option T) (P : Ending T)
    → r.spare ≡ None → FitsChain {B = Name T} l answer.Refused → OwnChainEnds steps (chain_next l answer.Refused) r carried P
    → ((b : Name T) → b.number ≡ r.first + length r.pieces → FitsChain l (answer.Granted b) × OwnChainEnds steps (chain_next l (answer.Granted b)) (record r { spare = Some b }) carried P)
    → OwnChainEnds (suc steps) (at l touch.Nothing op.Ask) r carried P
ask_step {T} steps l r carried P free can_refuse refused granted = (
  tt,
  λ after rest is.
      let After : OwnChain T × Option T → Type 0 = λ u. own_chain_can_perform u.0 op.Ask × ((x : Answer (Name T)) (y : OwnChain T) → own_chain_performs u.0 op.Ask x y → FitsChain l x × OwnChainEnds steps (chain_next l x) y u.1 P) in
      let here : After (after, rest) = subst After (sym is) (free, answers) in
      here,
)
  where
    answers : (x : Answer (Name T)) (y : OwnChain T) → own_chain_performs r op.Ask x y → FitsChain l x × OwnChainEnds steps (chain_next l x) y carried P
    answers answer.Refused y e = let Left : OwnChain T → Type 0 = λ z. FitsChain {B = Name T} l answer.Refused × OwnChainEnds steps (chain_next l answer.Refused) z carried P in subst Left (sym e) (can_refuse, refused)
    answers (answer.Granted b) y e = let Left : OwnChain T → Type 0 = λ z. FitsChain l (answer.Granted b) × OwnChainEnds steps (chain_next l (answer.Granted b)) z carried P in subst Left (sym e.1) (granted b e.0)
    answers _ y e = absurd e

-- the state and the content of a slot of the block at this place change
abbrev pub set_cell : {T : Type 0} → List (Piece T) → ℕ → ℕ → ℕ → Option T → List (Piece T)
set_cell pieces i slot state item = slice_set pieces i (record (piece_at pieces i) { states = slice_set (piece_at pieces i).states slot state; slots = slice_set (piece_at pieces i).slots slot item })

pub place_below : {T : Type 0} (r : OwnChain T) (b : Name T) → Named r b → place_of r b < length r.pieces
place_below r b named = let low = named.0 in let high = named.1 in omega arith

-- a block that changes and keeps its name is still named
pub Named-with : {T : Type 0} (r : OwnChain T) (b : Name T) (p : Piece T) → Named r b → p.name ≡ b → Named (with_piece r b p) b
Named-with {T} r b p named is =
    let long : length (with_piece r b p).pieces ≡ length r.pieces = length-set r.pieces (place_of r b) p in
    let high = named.1 in
    let got : piece_of (with_piece r b p) b ≡ p = get_or-set_same r.pieces (place_of r b) p _ (place_below r b named) in
    let Name_of : Piece T → Name T = λ x. x.name in
    (named.0, omega arith, ap Name_of got ∙ is)

-- the call's own place and a slot change their content, and the slot's state gets bits
pub slot_step : {T : Type 0} (steps : ℕ) (l : ChainLocal (Name T)) (t : Touch) (b : Name T) (slot bits : ℕ) (r : OwnChain T) (carried : Option T) (todo : Next (Name T)) (P : Ending T)
    → Named r b → slot < BLOCK_SLOTS → own_chain_can_touch r t (op.Or (word.State b slot) bits) → own_chain_touched r t (op.Or (word.State b slot) bits) carried ≡ exchanged r (Some b) slot carried
    → FitsChain {B = Name T} l (answer.Found (state_in (piece_of r b) slot)) → chain_next l (answer.Found (state_in (piece_of r b) slot)) ≡ todo
    → OwnChainEnds steps todo (record r { pieces = set_cell r.pieces (place_of r b) slot (bit_or (state_in (piece_of r b) slot) bits) carried }) (item_in (piece_of r b) slot) P
    → OwnChainEnds (suc steps) (at l t (op.Or (word.State b slot) bits)) r carried P
slot_step {T} steps l t b slot bits r carried todo P named inside can_touch touched fits next_is more =
    let i : ℕ = place_of r b in
    let was : Piece T = piece_of r b in
    let p : Piece T = record was { slots = slice_set was.slots slot carried } in
    let Last : Piece T → Piece T = λ x. record x { states = slice_set x.states slot (bit_or (state_in x slot) bits) } in
    let got : piece_at (slice_set r.pieces i p) i ≡ p = get_or-set_same r.pieces i p _ (place_below r b named) in
    let After : Piece T → Answer (Name T) × OwnChain T = λ x. (answer.Found (state_in x slot), record r { pieces = slice_set (slice_set r.pieces i p) i (Last x) }) in
    let Done : List (Piece T) → Answer (Name T) × OwnChain T = λ ps. (answer.Found (state_in was slot), record r { pieces = ps }) in
    own_chain_step steps l t (op.Or (word.State b slot) bits) r (with_piece r b p) (record r { pieces = set_cell r.pieces i slot (bit_or (state_in was slot) bits) carried }) carried (item_in was slot) (answer.Found (state_in was slot)) todo P
    can_touch touched (Named-with r b p named named.2, inside) (λ x y e. e) (ap After got ∙ ap Done (set-set r.pieces i p (Last p))) fits next_is more
