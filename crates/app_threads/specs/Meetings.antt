-- A handshake: what each of its threads has taken, and what is written of it.
use Rattle.std.specs.Prelude.{◌≡◌, ℕ, ◌+◌, ◌<◌, Bool, true, false, List, codes, Option, Some}
use Rattle.std.specs.Io.KnownBytes.{Appends}
use Rattle.queue_steps.specs.Shares.{entire, half, plus, IsEntire}
use Rattle.concurrent_queue.specs.Shared.{QueueId, PartyView, IsPartyOf}
use Rattle.law_parties.specs.Doings.{takes}
use Rattle.app_threads.specs.{declared.handshake.Hands.Hands, declared.handshake.Shaken.Shaken, Sharing.HasWholeParty, declared.sharing.Sharing.Sharing, declared.sharing.Sharing.Sharing as sharing, declared.verdict.Verdict.Verdict, declared.verdict.Verdict.Verdict as verdict}

abbrev pub AreHandsOf : Hands → QueueId → QueueId → Type 0
AreHandsOf h out back = IsPartyOf h.sends out × IsPartyOf h.takes back

-- half of the shares of both parties
abbrev pub AreHalves : Hands → Hands → Type 0
AreHalves whole part = (part.sends.view.share ≡ half whole.sends.view.share) × (part.takes.view.share ≡ half whole.takes.view.share)

abbrev pub AreQuarter : Hands → Type 0
AreQuarter h = (h.sends.view.share ≡ half (half entire)) × (h.takes.view.share ≡ half (half entire))

-- a quarter, a half and a quarter of the shares of both queues
abbrev pub AreThreeParts : Hands → Hands → Hands → Type 0
AreThreeParts kept first second = AreQuarter kept × ((first.sends.view.share ≡ half entire) × (first.takes.view.share ≡ half entire)) × AreQuarter second

-- the party has the shares of these three, and took what they took
abbrev pub Unites : PartyView ℕ → PartyView ℕ → PartyView ℕ → PartyView ℕ → Type 0
Unites a b c w = (w.view.share ≡ plus (plus a.view.share b.view.share) c.view.share) × ((x : ℕ) → takes x w.view ≡ takes x a.view + takes x b.view + takes x c.view)

-- A thread with the parties v gives them back with their shares. If its item came, a take of it stands at a place of the one that takes
pub record IsShaken (out back : QueueId) (item : ℕ) (v : Hands) (s : Shaken) : Type 0 where
  pub hands : AreHandsOf s.hands out back
  pub share : (s.hands.sends.view.share ≡ v.sends.view.share) × (s.hands.takes.view.share ≡ v.takes.view.share)
  pub came : s.came ≡ true → 0 < takes item s.hands.takes.view

-- All parties of both queues are joined, with all of the share. If both items came, 1 was taken from the one queue, and 2 from the other
pub record IsMeeting (there back : QueueId) (s : Shaken) : Type 0 where
  pub hands : AreHandsOf s.hands there back
  pub whole : IsEntire s.hands.sends.view.share × IsEntire s.hands.takes.view.share
  pub came : s.came ≡ true → (0 < takes 1 s.hands.sends.view) × (0 < takes 2 s.hands.takes.view)

-- all parties of two queues, of one slot each, are joined
abbrev pub HandsJoined : Sharing → Type 0
HandsJoined (sharing.Met there back) = HasWholeParty (Some 1) there × HasWholeParty (Some 1) back
HandsJoined _ = ⊥

-- 1 was taken from the one queue, and 2 from the other
abbrev pub HandsMet : Sharing → Type 0
HandsMet (sharing.Met there back) = (0 < takes 1 there.party.view) × (0 < takes 2 back.party.view)
HandsMet _ = ⊥

-- what it shows whether both items came
abbrev pub met_verdict : Bool → Verdict
met_verdict true = verdict.Right
met_verdict false = verdict.Wrong

-- whether both threads of a handshake got the other's item was written
abbrev pub handshake_text : Verdict → List ℕ
handshake_text verdict.Right = codes "both\n"
handshake_text verdict.Wrong = codes "alone\n"

-- what is written of a handshake through the queues that its threads shared; that both met is written only where they did
abbrev pub IsHandshakeText : Sharing → List ℕ → Type 0
IsHandshakeText shared text = HandsJoined shared × ((v : Verdict) × (text ≡ handshake_text v) × (v ≡ verdict.Right → HandsMet shared))

-- what was written; that both met through the queues that were shared is written only where they did
pub record Handshake (shared : Sharing) (old new : Option (List ℕ)) (v : Verdict) : Type 0 where
  pub joined : HandsJoined shared
  pub written : Appends old new (handshake_text v)
  pub met : v ≡ verdict.Right → HandsMet shared
