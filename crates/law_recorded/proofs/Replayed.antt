-- What the lists of a replay show of its calls is what was told of them.
use Rattle.std.proofs.Common.{◌≡◌, ◌∙◌, ℕ, ◌+◌, ◌<◌, ◌==◌, Bool, true, false, if◌then◌else◌, Option, Some, None, List, [], ◌∷◌, ◌++◌, refl, sym, ap, subst, arith, eq-eqb}
use Rattle.std.proofs.lemmas.Bool.{ne_eqb}
use Rattle.machine_replay.specs.Vocabulary.{Reply, EffectKind, Event, Told, Begin, Step, Skipped, Ran}
use Rattle.machine_replay.specs.Book.{Book, Run, opening}
use Rattle.machine_replay.specs.Conforms.{party_of, entries_from, reply_entry, skipped_entry}
use Rattle.history_check.specs.Legal.{in_steps, IsLegal}
use Rattle.law_recorded.specs.Recorded.{entry, recorded, first_reply, later_replies, is_skipped, later_skipped, told_at, history_from, ReplaysAreLegal}
use Rattle.law_recorded.proofs.Runs.{runs_are_legal}

-- a list of replies, or of skipped events, has none of the event n first
abbrev NoReply : ℕ → List (ℕ × ℕ × Reply ℕ) → Type 0
NoReply n replies = (first_reply n replies ≡ None) × (later_replies n replies ≡ replies)

abbrev NotSkipped : ℕ → List ℕ → Type 0
NotSkipped n skipped = (is_skipped n skipped ≡ false) × (later_skipped n skipped ≡ skipped)

-- so it is of what is told of later events
no_reply : (n m : ℕ) (es : List (Event ℕ)) (ts : List (Told ℕ)) → n < m → NoReply n (entries_from reply_entry m es ts)
no_reply n m [] ts lt = (refl, refl)
no_reply n m (e ∷ es) [] lt = (refl, refl)
no_reply n m (e ∷ es) (Skipped ∷ ts) lt = no_reply n (m + 1) es ts (omega arith)
no_reply n m (e ∷ es) (Ran k None ∷ ts) lt = no_reply n (m + 1) es ts (omega arith)
no_reply n m (e ∷ es) (Ran k (Some r) ∷ ts) lt =
    let other : (m == n) ≡ false = ne_eqb m n (λ same. omega arith) in
    let R : List (ℕ × ℕ × Reply ℕ) = entries_from reply_entry (m + 1) es ts in
    (ap (λ (b : Bool). if b then Some r else None) other, ap (λ (b : Bool). if b then R else (m, party_of e, r) ∷ R) other)

not_skipped : (n m : ℕ) (es : List (Event ℕ)) (ts : List (Told ℕ)) → n < m → NotSkipped n (entries_from skipped_entry m es ts)
not_skipped n m [] ts lt = (refl, refl)
not_skipped n m (e ∷ es) [] lt = (refl, refl)
not_skipped n m (e ∷ es) (Ran k r ∷ ts) lt = not_skipped n (m + 1) es ts (omega arith)
not_skipped n m (e ∷ es) (Skipped ∷ ts) lt =
    let other : (m == n) ≡ false = ne_eqb m n (λ same. omega arith) in
    let S : List ℕ = entries_from skipped_entry (m + 1) es ts in
    (other, ap (λ (b : Bool). if b then S else m ∷ S) other)

-- the lists tell of the event n what was told of it, and then of those behind it
record Tells (n : ℕ) (e : Event ℕ) (t : Told ℕ) (replies later : List (ℕ × ℕ × Reply ℕ)) (skipped passed : List ℕ) : Type 0 where
  same : entry e (told_at n replies skipped) ≡ entry e t
  rest_replies : later_replies n replies ≡ later
  rest_skipped : later_skipped n skipped ≡ passed

first_is : (n p : ℕ) (r : Reply ℕ) (R : List (ℕ × ℕ × Reply ℕ)) → (first_reply n ((n, p, r) ∷ R) ≡ Some r) × (later_replies n ((n, p, r) ∷ R) ≡ R)
first_is n p r R =
    let same : (n == n) ≡ true = eq-eqb n n refl in
    (ap (λ (b : Bool). if b then Some r else None) same, ap (λ (b : Bool). if b then R else (n, p, r) ∷ R) same)

skipped_is : (n : ℕ) (S : List ℕ) → (is_skipped n (n ∷ S) ≡ true) × (later_skipped n (n ∷ S) ≡ S)
skipped_is n S = let same : (n == n) ≡ true = eq-eqb n n refl in (same, ap (λ (b : Bool). if b then S else n ∷ S) same)

no_kind : (e : Event ℕ) (k : Option EffectKind) (r : Option (Reply ℕ)) → entry e (Ran None r) ≡ entry e (Ran k r)
no_kind (Begin p c) k None = refl
no_kind (Begin p c) k (Some r) = refl
no_kind (Step p granted) k None = refl
no_kind (Step p granted) k (Some r) = refl

told_is : (n : ℕ) (R : List (ℕ × ℕ × Reply ℕ)) (S : List ℕ) (b : Bool) (r : Option (Reply ℕ)) → is_skipped n S ≡ b → first_reply n R ≡ r → told_at n R S ≡ (if b then Skipped else Ran None r)
told_is n R S b r skips replies = ap (λ (x : Bool). if x then Skipped else Ran None (first_reply n R)) skips ∙ ap (λ (x : Option (Reply ℕ)). if b then Skipped else Ran None x) replies

tells : (n : ℕ) (e : Event ℕ) (t : Told ℕ) (es : List (Event ℕ)) (ts : List (Told ℕ))
    → Tells n e t (entries_from reply_entry n (e ∷ es) (t ∷ ts)) (entries_from reply_entry (n + 1) es ts) (entries_from skipped_entry n (e ∷ es) (t ∷ ts)) (entries_from skipped_entry (n + 1) es ts)
tells n e Skipped es ts =
    let R : List (ℕ × ℕ × Reply ℕ) = entries_from reply_entry (n + 1) es ts in
    let S : List ℕ = entries_from skipped_entry (n + 1) es ts in
    let none = no_reply n (n + 1) es ts (omega arith) in
    let skips = skipped_is n S in
    record { same = ap (entry e) (told_is n R (n ∷ S) true None skips.0 none.0); rest_replies = none.1; rest_skipped = skips.1 }
tells n e (Ran k None) es ts =
    let R : List (ℕ × ℕ × Reply ℕ) = entries_from reply_entry (n + 1) es ts in
    let S : List ℕ = entries_from skipped_entry (n + 1) es ts in
    let none = no_reply n (n + 1) es ts (omega arith) in
    let ran = not_skipped n (n + 1) es ts (omega arith) in
    record { same = ap (entry e) (told_is n R S false None ran.0 none.0) ∙ no_kind e k None; rest_replies = none.1; rest_skipped = ran.1 }
tells n e (Ran k (Some r)) es ts =
    let R : List (ℕ × ℕ × Reply ℕ) = entries_from reply_entry (n + 1) es ts in
    let S : List ℕ = entries_from skipped_entry (n + 1) es ts in
    let some = first_is n (party_of e) r R in
    let ran = not_skipped n (n + 1) es ts (omega arith) in
    record { same = ap (entry e) (told_is n ((n, party_of e, r) ∷ R) S false (Some r) ran.0 some.0) ∙ no_kind e k (Some r); rest_replies = some.1; rest_skipped = ran.1 }

-- the lists of a run show what was told of its calls
shows : (cap : Option ℕ) (parties n : ℕ) (es : List (Event ℕ)) (ts : List (Told ℕ)) (b last : Book ℕ) → Run cap parties b es ts last
    → history_from n es (entries_from reply_entry n es ts) (entries_from skipped_entry n es ts) ≡ recorded es ts
shows cap parties n [] [] b last run = refl
shows cap parties n [] (t ∷ ts) b last run = absurd run
shows cap parties n (e ∷ es) [] b last run = absurd run
shows cap parties n (e ∷ es) (t ∷ ts) b last (mid, happens, run) =
    let one = tells n e t es ts in
    let others = shows cap parties (n + 1) es ts mid last run in
    let R : List (ℕ × ℕ × Reply ℕ) = entries_from reply_entry n (e ∷ es) (t ∷ ts) in
    let S : List ℕ = entries_from skipped_entry n (e ∷ es) (t ∷ ts) in
    let behind : history_from (n + 1) es (later_replies n R) (later_skipped n S) ≡ recorded es ts =
    ap (λ l. history_from (n + 1) es l (later_skipped n S)) one.rest_replies ∙ (ap (λ l. history_from (n + 1) es (entries_from reply_entry (n + 1) es ts) l) one.rest_skipped ∙ others) in
    ap (λ l. l ++ history_from (n + 1) es (later_replies n R) (later_skipped n S)) one.same ∙ ap (λ l. entry e t ++ l) behind

pub replays_are_legal : {A : Type 0} → ReplaysAreLegal A
replays_are_legal cap parties events r c =
    let same = ap (λ l. history_from 0 events l r.skipped.items) c.replies ∙ (ap (λ l. history_from 0 events (entries_from reply_entry 0 events c.told) l) c.skipped ∙ shows cap parties 0 events c.told (opening cap) c.last c.run) in
    subst (IsLegal (in_steps cap) parties) (sym same) (runs_are_legal cap parties events c.told c.last c.run)
