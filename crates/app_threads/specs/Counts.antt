-- What counts of values show, and what is written of it.
use Rattle.std.specs.Prelude.{◌≡◌, ℕ, ◌+◌, ◌<◌, ◌≤◌, ◌^◌, ◌==◌, set, get_or, not, List, [], ◌∷◌, ◌++◌, codes, length, slice_index, position, Option, Some, None}
use Rattle.std.specs.{Fmt.decimal, Io.KnownBytes.Appends, Option.IfSome}
use Rattle.queue_steps.specs.{declared.sizes.TheConstants.MAX_CAPACITY, Parties.View}
use Rattle.app_text.specs.{KindNames.capacity_of, declared.load.Load.Load}
use Rattle.law_parties.specs.Doings.{takes}
use Rattle.app_threads.specs.Sharing.{HasWholeParty, IsEnded, left_in}
use Rattle.app_threads.specs.declared.{counts.Finding.Finding, counts.Finding.Finding as finding, sharing.Sharing.Sharing, sharing.Sharing.Sharing as sharing, verdict.Verdict.Verdict, verdict.Verdict.Verdict as verdict}

-- the value has come once more
abbrev pub counted : ℕ → List ℕ → List ℕ
counted value counts = set counts value (get_or counts value 0 + 1)

-- no sum of two counts is past the greatest word
abbrev pub EachSumFits : List ℕ → List ℕ → Type 0
EachSumFits counts more = (x : ℕ) → x < length counts → get_or counts x 0 + get_or more x 0 < 2 ^ 64

abbrev pub AreSums : List ℕ → List ℕ → List ℕ → Type 0
AreSums counts more sums = (length sums ≡ length counts) × ((x : ℕ) → x < length counts → get_or sums x 0 ≡ get_or counts x 0 + get_or more x 0)

-- the first value that did not come as often as there are pushers
abbrev pub first_wrong : ℕ → List ℕ → Option ℕ
first_wrong pushers counts = position (λ c. not (c == pushers)) counts

abbrev pub judged_by : ℕ → List ℕ → Option ℕ → Finding
judged_by pushers counts None = finding.Right (length counts) pushers
judged_by pushers counts (Some v) = finding.Wrong v (slice_index counts v)

-- what it shows that the values, from 0 on, came so often
abbrev pub judged : ℕ → List ℕ → Finding
judged pushers counts = judged_by pushers counts (first_wrong pushers counts)

abbrev pub finding_text : Finding → List ℕ
finding_text (finding.Right values times) = decimal values ++ codes " values, each counted " ++ decimal times ++ codes " times"
finding_text (finding.Wrong value times) = codes "value " ++ decimal value ++ codes " counted " ++ decimal times ++ codes " times"

abbrev pub finding_verdict : Finding → Verdict
finding_verdict (finding.Right values times) = verdict.Right
finding_verdict (finding.Wrong value times) = verdict.Wrong

-- each value that the load has is counted as often as it was taken at the places of this view of a queue of the load's capacity
pub record IsTally (l : Load) (v : View ℕ) (counts : List ℕ) : Type 0 where
  pub within : IfSome (capacity_of l.kind) (λ size. size ≤ MAX_CAPACITY)
  pub complete : length counts ≡ l.items
  pub taken : (x : ℕ) → x < l.items → get_or counts x 0 ≡ takes x v

-- a line of what the counts show
abbrev pub counts_line : Load → List ℕ → List ℕ
counts_line l counts = finding_text (judged l.pushers counts) ++ 10 ∷ []

-- that line, and one of how many items are left
abbrev pub received_text : Load → List ℕ → ℕ → List ℕ
received_text l counts left = finding_text (judged l.pushers counts) ++ (codes "\nleft " ++ (decimal left ++ 10 ∷ []))

-- a line of what the counts of the load show on the queue that its threads shared
abbrev pub IsCountsLine : Load → Sharing → List ℕ → Type 0
IsCountsLine l (sharing.Counted s) text = HasWholeParty (capacity_of l.kind) s × ((counts : List ℕ) × IsTally l s.party.view counts × (text ≡ counts_line l counts))
IsCountsLine l _ text = ⊥

-- what came of the load out of the queue that its threads shared was counted, and what the counts show was written as a line
abbrev pub IsCounted : Load → Sharing → Option (List ℕ) → Option (List ℕ) → Verdict → Type 0
IsCounted l (sharing.Counted s) old new v =
    HasWholeParty (capacity_of l.kind) s × ((counts : List ℕ) × IsTally l s.party.view counts × Appends old new (counts_line l counts) × (v ≡ finding_verdict (judged l.pushers counts)))
IsCounted l _ old new v = ⊥

-- that line for the load's channel, which its threads shared, and how many items its ends left in the queue
abbrev pub IsReceivedText : Load → Sharing → List ℕ → Type 0
IsReceivedText l (sharing.Ended c) text =
    IsEnded (capacity_of l.kind) c × ((counts : List ℕ) × IsTally l c.party.view counts × (text ≡ received_text l counts (length (left_in c))))
IsReceivedText l _ text = ⊥

-- what was received of the load through the channel that its threads shared was counted, and what the counts show was written, and how many items were left
abbrev pub IsReceived : Load → Sharing → Option (List ℕ) → Option (List ℕ) → Verdict → Type 0
IsReceived l (sharing.Ended c) old new v =
    IsEnded (capacity_of l.kind) c × ((counts : List ℕ) × IsTally l c.party.view counts
    × Appends old new (received_text l counts (length (left_in c))) × (v ≡ finding_verdict (judged l.pushers counts)))
IsReceived l _ old new v = ⊥
