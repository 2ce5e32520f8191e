-- The rule of a queue that parties share over a table, whatever its kind: the first word counts the parties, the other words and the slots are the kind's.
use Rattle.std.specs.Prelude.{None, ◌≡◌, ℕ, ◌+◌, ◌<◌, ◌||◌, not, Bool, true, List, [], ◌∷◌, Option, slice_index_or, slice_set, bit_and}
use Rattle.std.specs.Int.{w64, bit_not}
use mathlib.Core.Option as maybe
use Rattle.atomic_table.specs.Table.{Act, Valid, carried_after, homes_after}
use Rattle.queue_laws.specs.Common.{Vocabulary.Call, Vocabulary.Effect, Vocabulary.Word, Vocabulary.Op, Vocabulary.Answer, Effects.Leads, Effects.with_effect, Effects.MayFront, Stand.Stand, Operations.OnWord, Operations.op_word, Operations.op_makes, Operations.answer_for}
use Rattle.queue_steps.specs.{Kinds.call_kind, Kinds.call_value, Next.CanNext, Next.first_local, Next.next_of, WaitFree.is_wait_free, WaitFree.EndsWaitFree, State.State}
use Rattle.shared_tables.specs.{Early.IsEarly, Seats.Table, Seats.count_of}
use Rattle.shared_parties.specs.{CallsAt.CallsAt, Calling.CallsOf, Calling.CallLaws, Calling.touched_list, Calling.handed_by, Calling.NextOk, Calling.first_of, Calling.Opens}

-- A kind of queue in a table: which of the steps' words it has and where, and how the words behind the count and the slots at home stand for its cells
pub record TableOf (T : Type 0) : Type 1 where
  pub calls : CallsOf T
  pub HasWord : Word ℕ → Type 0
  pub place : Word ℕ → ℕ
  pub Coded : calls.Cells → List ℕ → List (maybe.Option (Option T)) → Type 0

-- There are cells, in the state after the one history, for which the words and the slots stand, and at which all calls stand
pub record Rule {T : Type 0} (K : TableOf T) (s : Table T) : Type 0 where
  pub cells : K.calls.Cells
  pub words : List ℕ
  pub history : List (Effect T)
  pub counted : s.words ≡ count_of s ∷ words
  pub coded : K.Coded cells words s.homes
  pub all : CallsAt K.calls cells history (count_of s) s.views

-- the operation is one on a word that the table has
abbrev pub InTable : {T : Type 0} → TableOf T → Op ℕ → Type 0
InTable K o = OnWord K.HasWord o

-- what the operation o finds in these words
abbrev pub found_by : {T : Type 0} → TableOf T → Op ℕ → List ℕ → ℕ
found_by K o ws = slice_index_or ws (K.place (op_word o)) 0

-- the bits that the operation takes off the word n are all in it: they and what is left make it up
abbrev pub TakesOff : Op ℕ → ℕ → Type 0
TakesOff (Op.And w bits) n = bit_and n bits + bit_not w64 bits ≡ n
TakesOff _ n = Unit {0}

-- the party who at these cells, for which the words ws, of them n counts the parties, and the homes hs stand
module _ {T : Type 0} (K : TableOf T) (g : K.calls.Cells) (who n : ℕ) (ws : List ℕ) (hs : List (maybe.Option (Option T))) where
  -- What the next step of its call does: an effect at most, an act on the slots, of which the party has xs, and cells that are right again, at which the call goes on or ends
  pub record TableStepOk (ms : List (State T)) (was : Bool) (c : Stand T) (xs : List (ℕ × Option T)) : Type 0 where
    pub after : K.calls.Cells
    pub words : List ℕ
    pub effect : Option (Effect T)
    pub act : Act (Option T)
    pub can_next : CanNext K.calls.kind c.local (answer_for c.op (found_by K c.op (n ∷ ws)))
    pub ok : K.calls.Ok after
    pub written : slice_set (n ∷ ws) (K.place (op_word c.op)) (op_makes c.op (found_by K c.op (n ∷ ws))) ≡ n ∷ words
    pub valid : Valid hs (touched_list c.touch c.carried xs) act
    pub coded : K.Coded after words (homes_after hs (touched_list c.touch c.carried xs) act)
    pub lent : K.calls.Lent after who (carried_after (touched_list c.touch c.carried xs) act)
    pub front : MayFront effect was
    pub makes : Leads (K.calls.queue_of g) effect (K.calls.queue_of after)
    pub passes : K.calls.Passes who g after
    pub goes : NextOk K.calls after who (K.calls.queue_of after ∷ ms) (was || not (K.calls.queue_of after).closed)
        (next_of K.calls.kind c.local (answer_for c.op (found_by K c.op (n ∷ ws)))) (handed_by c.touch c.carried xs) c.call (with_effect c.effects effect)

-- the first step of a call is on a word of the table
abbrev pub OpensIn : {T : Type 0} → TableOf T → Call T → Type 0
OpensIn K c = CanNext K.calls.kind (first_local {B = ℕ} (call_kind c)) Answer.Start × Opens K.calls (InTable K) c (first_of K.calls.kind c)

-- what a kind owes of its table of so many words
pub record TableLaws {T : Type 0} (K : TableOf T) (words : ℕ) : Type 0 where
  pub calls : CallLaws K.calls
  pub below : (w : Word ℕ) → K.HasWord w → K.place w < words
  pub at_word : (g : K.calls.Cells) (j : ℕ) (ms : List (State T)) (was : Bool) (c : Stand T)
      → K.calls.Ok g → K.calls.At g j ms was c → InTable K c.op
  pub steps : (g : K.calls.Cells) (who n : ℕ) (ws : List ℕ) (hs : List (maybe.Option (Option T))) (ms : List (State T)) (was : Bool) (c : Stand T) (xs : List (ℕ × Option T))
      → K.calls.Ok g → K.Coded g ws hs → K.calls.At g who ms was c → K.calls.Lent g who xs → TableStepOk K g who n ws hs ms was c xs
  pub takes_off : (g : K.calls.Cells) (who n : ℕ) (ws : List ℕ) (hs : List (maybe.Option (Option T))) (ms : List (State T)) (was : Bool) (c : Stand T)
      → K.calls.Ok g → K.Coded g ws hs → K.calls.At g who ms was c → TakesOff c.op (found_by K c.op (n ∷ ws))
  pub gives : (spare : Option ℕ) → K.calls.Gives spare → spare ≡ None
  pub opens : (c : Call T) → OpensIn K c
  pub wait_free : (c : Call T) → is_wait_free c ≡ true → EndsWaitFree ℕ K.calls.kind (call_kind c)
  pub early : (g : K.calls.Cells) (j : ℕ) (ms : List (State T)) (was : Bool) (c : Stand T)
      → IsEarly c.local → K.calls.At g j ms was c → (c.effects ≡ []) × K.calls.Idle g j × (c.carried ≡ call_value c.call)
