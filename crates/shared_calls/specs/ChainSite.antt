-- A shared chain as a site: the block that a reply hands out, and where a call stands.
use Rattle.std.specs.Prelude.{ℕ, Option, Some}
use Rattle.queue_laws.specs.Common.Vocabulary.{Call, Answer, Local}
use Rattle.mem_blocks.specs.declared.{block.BlockPtr.BlockPtr as Place, web.Seat.Seat}
use Rattle.shared_parties.specs.declared.known.CallState.{CallState}
use Rattle.shared_chain.specs.{declared.web.ChainWeb.ChainWeb, Turning.Carries, Turning.SitsAt, Turning.ChainStands, Turning.GaveUp}

module _ {T A : Type 0} where
  -- the seat carries the block that a reply hands out
  abbrev pub ChainSpares : ChainWeb T A → Seat T (CallState T) A → Place T → Type 0
  ChainSpares w s b = SitsAt w s × Carries (Some b) s.sitter

  -- and gives it up
  abbrev pub ChainGives : ChainWeb T A → Seat T (CallState T) A → Place T → Seat T (CallState T) A → Type 0
  ChainGives w s b q = GaveUp s q

  -- where a call stands. The steps that are left are not counted, since other calls can hold this one up
  abbrev pub ChainOnWay : ℕ → ChainWeb T A → Seat T (CallState T) A → Call T → Local (Place T) → Answer (Place T) → Seat T (CallState T) A → Option T → Type 0
  ChainOnWay left = ChainStands
