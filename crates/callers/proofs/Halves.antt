-- A party that was parted and joined again has its share.
use Rattle.std.proofs.Common.{◌≡◌, refl, sym, subst}
use Rattle.queue_steps.specs.Shares.{Share, SamePart, IsEntire, entire, half, plus}
use Rattle.queue_steps.proofs.ShareLaws.{halves_joined, same_refl, same_sym, entire_same}

-- one half is as it was, the other was parted and joined again itself
pub whole_again : (share one other first second both : Share) → first ≡ half share → second ≡ half share → one ≡ first → SamePart other second → both ≡ plus one other → SamePart both share
whole_again share one other first second both e f kept again is =
    let a : SamePart one (half share) = subst (SamePart one) e (subst (λ (z : Share). SamePart z first) (sym kept) (same_refl first)) in
    let b : SamePart other (half share) = subst (SamePart other) f again in
    subst (λ (z : Share). SamePart z share) (sym is) (halves_joined share one other a b)

-- the same of the only party
pub all_again : (share one other first second both : Share) → share ≡ entire → first ≡ half share → second ≡ half share → one ≡ first → SamePart other second → both ≡ plus one other → IsEntire both
all_again share one other first second both all e f kept again is =
    entire_same share both (same_sym both share (whole_again share one other first second both e f kept again is)) (subst IsEntire (sym all) refl)

-- the only party has all of the share
pub all_of : (share : Share) → share ≡ entire → IsEntire share
all_of share all = subst IsEntire (sym all) refl
