-- What comes of the work of a crew: its counts are those of what was taken at its party's own places.
use Rattle.std.specs.Prelude.{◌≡◌, ℕ, ◌+◌, ◌<◌, ◌≤◌, true, false, get_or}
use Rattle.std.specs.List.{All}
use Rattle.queue_steps.specs.Shares.{Share, plus, SamePart}
use Rattle.concurrent_queue.specs.Shared.{QueueId, PartyView, IsPartyOf}
use Rattle.law_parties.specs.Doings.{takes, SawClosed}
use Rattle.counted_channel.specs.Channel.{ChannelId, End, IsEndOf}
use Rattle.app_threads.specs.declared.{crew.WorkResult.WorkResult, ends.Role.Role, ends.Role.Role as role}

-- the party took nothing, and has seen the queue closed
pub record Quits (v w : PartyView ℕ) : Type 0 where
  pub queue : w.queue ≡ v.queue
  pub taken : (x : ℕ) → takes x w.view ≡ takes x v.view
  pub closed : SawClosed w

-- The work of parties of the queue q that had taken so much, and had this share: of the values below `items` each is counted as often as the work's party took it
-- besides, and none more often than `most`. If all was done, the party has the whole share again.
pub record IsWorkOf (q : QueueId) (items most : ℕ) (taken_before : ℕ → ℕ) (share_before : Share) (work : WorkResult) : Type 0 where
  pub queue : IsPartyOf work.party q
  pub taken : (x : ℕ) → x < items → takes x work.party.view ≡ taken_before x + get_or work.counts.items x 0
  pub few : All (λ count. count ≤ most) work.counts.items
  pub share : work.done ≡ true → SamePart work.party.view.share share_before

-- the work of the party v. If not all was done, its party has seen the queue closed
pub record IsWork (q : QueueId) (items most : ℕ) (v : PartyView ℕ) (work : WorkResult) : Type 0 where
  pub counted : IsWorkOf q items most (λ x. takes x v.view) v.view.share work
  pub closed : work.done ≡ false → SawClosed work.party

-- the party of the end that a thread has
abbrev pub role_party : Role → PartyView ℕ
role_party (role.Send s) = s.party
role_party (role.Receive r) = r.party

abbrev pub IsRoleOf : Role → ChannelId → Type 0
IsRoleOf (role.Send s) c = IsEndOf s c
IsRoleOf (role.Receive r) c = IsEndOf r c

-- the thread has given back the party of its role's end
abbrev pub IsRoleDone : ChannelId → ℕ → ℕ → Role → WorkResult → Type 0
IsRoleDone c items most t work = IsWorkOf c.queue items most (λ x. takes x (role_party t).view) (role_party t).view.share work

-- the party has its share, and took nothing
pub record TookNothing (v w : PartyView ℕ) : Type 0 where
  pub queue : w.queue ≡ v.queue
  pub share : w.view.share ≡ v.view.share
  pub taken : (x : ℕ) → takes x w.view ≡ takes x v.view

-- what a sender and a receiver have taken, and the shares of both
abbrev pub ends_taken : End ℕ → End ℕ → ℕ → ℕ
ends_taken s r x = takes x s.party.view + takes x r.party.view

abbrev pub ends_share : End ℕ → End ℕ → Share
ends_share s r = plus s.party.view.share r.party.view.share

-- nothing is taken where the ends s and r become s' and r'
abbrev pub TakesNothing : End ℕ → End ℕ → End ℕ → End ℕ → Type 0
TakesNothing s r s' r' = (x : ℕ) → ends_taken s' r' x ≡ ends_taken s r x

-- the ends s and r are parted into s' and r' and that of a thread, which has taken nothing
pub record PartsRole (s r s' r' : End ℕ) (t : Role) : Type 0 where
  pub taken : TakesNothing s r s' r'
  pub fresh : (x : ℕ) → takes x (role_party t).view ≡ 0
  pub share : SamePart (plus (ends_share s' r') (role_party t).view.share) (ends_share s r)
