-- What comes of the threads of a crew from one on, as the recursion joins it.
use Rattle.std.specs.Prelude.{◌≡◌, ℕ, ◌+◌, Bool, List, length, map, reverse}
use Rattle.std.specs.List.{All}
use Rattle.queue_steps.specs.{declared.model.Effect.Effect, Shares.SamePart}
use Rattle.concurrent_queue.specs.Shared.{QueueId, PartyView, IsPartyOf}
use Rattle.law_parties.specs.Doings.{done_by}
use Rattle.queue_crew.specs.{Work.Piece, Work.EachReports, Work.IsPartOf, Work.done_by_all, Work.AreJoined, Work.IsKept, declared.refusal.OnRefusal.OnRefusal}

-- as `HasWorked`, of the threads from this number on, and the posts the last one first
pub record Came {T Post : Type 0} (reports : ℕ → PartyView T → Post → Type 0) (q : QueueId) (on_refusal : OnRefusal) (all_started : Bool) (n made : ℕ) (v all : PartyView T) (posts : List Post) : Type 0 where
  pub queue : IsPartyOf all q
  pub share : SamePart all.view.share v.view.share
  pub kept : PartyView T
  pub is_kept : IsKept on_refusal all_started v kept
  pub pieces : List (Piece T Post)
  pub made_are : length posts ≡ made
  pub posts_are : reverse posts ≡ map (λ p. p.post) pieces
  pub reported : EachReports reports n pieces
  pub did : (test : Effect T → Bool) → done_by test all.view ≡ done_by test kept.view + done_by_all test pieces
  pub joined : AreJoined kept pieces all
  pub within : All (λ p. IsPartOf q p.party all) pieces
