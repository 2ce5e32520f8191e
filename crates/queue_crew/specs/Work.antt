-- What the threads of a crew did, each with a party of its own, and what the caller's party has become.
use Rattle.std.specs.Prelude.{◌≡◌, ℕ, ◌+◌, Bool, true, false, List, [], ◌∷◌, map}
use Rattle.std.specs.List.{All, sum_by}
use mathlib.Core.List.{IsPrefix}
use Rattle.queue_steps.specs.{declared.model.Effect.Effect, declared.model.Call.Call as call, declared.model.Reply.Reply as reply, Shares.SamePart}
use Rattle.concurrent_queue.specs.Shared.{QueueId, PartyView, IsPartyOf, Calls, Joins}
use Rattle.law_parties.specs.Doings.{done_by, Did}
use Rattle.queue_crew.specs.declared.refusal.OnRefusal.{OnRefusal, OnRefusal as refusal}

-- one piece of work: its party, once the work was done, and what it brought
pub record Piece (T Post : Type 0) : Type 0 where
  pub party : PartyView T
  pub post : Post

-- each post, from that of the thread of this number on, reports what its party did
abbrev pub EachReports : {T Post : Type 0} → (ℕ → PartyView T → Post → Type 0) → ℕ → List (Piece T Post) → Type 0
EachReports reports n [] = Unit {0}
EachReports reports n (p ∷ ps) = reports n p.party p.post × EachReports reports (n + 1) ps

-- at how many places of these pieces' parties an effect stands that passes the test
abbrev pub done_by_all : {T Post : Type 0} → (Effect T → Bool) → List (Piece T Post) → ℕ
done_by_all test pieces = sum_by (λ p. done_by test p.party.view) pieces

-- the party `first`, joined with those of the pieces, the last one's first, is `all`
abbrev pub AreJoined : {T Post : Type 0} → PartyView T → List (Piece T Post) → PartyView T → Type 0
AreJoined first [] all = all ≡ first
AreJoined {T} first (p ∷ ps) all = (rest : PartyView T) × AreJoined first ps rest × Joins rest p.party all

-- the party p of the queue q has seen no more than `all` has
abbrev pub IsPartOf : {T : Type 0} → QueueId → PartyView T → PartyView T → Type 0
IsPartOf q p all = IsPartyOf p q × IsPrefix p.view.seen all.view.seen

-- the party v, off which others may have been parted, is w: it has done nothing
pub record IsParted {T : Type 0} (v w : PartyView T) : Type 0 where
  pub queue : w.queue ≡ v.queue
  pub begins : IsPrefix v.view.seen w.view.seen
  pub mine : w.view.mine ≡ v.view.mine
  pub did : Did v.view w.view []

-- what the calling thread has kept of its party v: it closed the queue where it was to, and did nothing else
abbrev pub IsKept : {T : Type 0} → OnRefusal → Bool → PartyView T → PartyView T → Type 0
IsKept {T} refusal.CloseQueue false v w = (u : PartyView T) × IsParted v u × ((closed : Bool) × Calls u call.Close (reply.Close closed) w)
IsKept refusal.CloseQueue true v w = IsParted v w
IsKept refusal.GoOn started v w = IsParted v w

-- The caller's party v of the queue q has become `all`, with the posts of the pieces of work that were done. It has the share that it had.
-- Beside what v had done, and a close where one was to be made, it has done what the parties of the pieces did, each of which had done nothing else, and whose posts report it
pub record HasWorked {T Post : Type 0} (reports : ℕ → PartyView T → Post → Type 0) (q : QueueId) (on_refusal : OnRefusal) (all_started : Bool) (v all : PartyView T) (posts : List Post) : Type 0 where
  pub queue : IsPartyOf all q
  pub share : SamePart all.view.share v.view.share
  pub kept : PartyView T
  pub is_kept : IsKept on_refusal all_started v kept
  pub pieces : List (Piece T Post)
  pub posts_are : posts ≡ map (λ p. p.post) pieces
  pub reported : EachReports reports 0 pieces
  pub did : (test : Effect T → Bool) → done_by test all.view ≡ done_by test kept.view + done_by_all test pieces
  pub joined : AreJoined kept pieces all
  pub within : All (λ p. IsPartOf q p.party all) pieces
