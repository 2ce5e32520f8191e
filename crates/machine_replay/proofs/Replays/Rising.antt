-- The lists of a replay stand in the order of the events, with one entry an event at most.
use Rattle.std.proofs.Common.{◌≡◌, ℕ, ◌+◌, ◌<◌, ◌≤◌, Some, List, [], ◌∷◌, ◌++◌, length, refl, arith}
use Rattle.std.{specs.List.AllByRecursion, specs.List.AllPairs, proofs.lemmas.List.Elements.All-from_recursion, proofs.lemmas.List.Kept.AllPairs-cons}
use Rattle.machine_replay.specs.{Vocabulary.Reply, Vocabulary.Event, Vocabulary.Told, Vocabulary.EffectKind, Vocabulary.Skipped, Vocabulary.Ran, Conforms.entries_from, Conforms.effect_entry, Conforms.party_of, Conforms.reply_entry, Conforms.skipped_entry}
use Rattle.machine_replay.proofs.Engine.Entries.{each-all}

-- no entry, or one of the event n
abbrev IsOneOf : {E : Type 0} → (E → ℕ) → ℕ → List E → Type 0
IsOneOf number n [] = Unit {0}
IsOneOf number n (x ∷ []) = number x ≡ n
IsOneOf number n _ = ⊥

module _ {T E : Type 0} (entry : ℕ → ℕ → Told T → List E) (number : E → ℕ) (one : (n p : ℕ) (t : Told T) → IsOneOf number n (entry n p t)) where
  late-then : (n : ℕ) (xs ys : List E) → IsOneOf number n xs → AllByRecursion (λ x. n + 1 ≤ number x) ys → AllByRecursion (λ x. n ≤ number x) (xs ++ ys)
  late-then n [] ys is late = each-all _ _ ys (λ x le. omega arith) late
  late-then n (x ∷ []) ys is late = (omega arith, each-all _ _ ys (λ x le. omega arith) late)
  late-then n (x ∷ y ∷ xs) ys is late = absurd is

  -- the entries of the events from n on are of no earlier one
  pub entries-late : (n : ℕ) (es : List (Event T)) (ts : List (Told T)) → AllByRecursion (λ x. n ≤ number x) (entries_from entry n es ts)
  entries-late n (e ∷ es) (t ∷ ts) = late-then n (entry n (party_of e) t) (entries_from entry (n + 1) es ts) (one n (party_of e) t) (entries-late (n + 1) es ts)
  entries-late n es ts = tt

  early-then : (n k : ℕ) (xs ys : List E) → IsOneOf number n xs → n < k → AllByRecursion (λ x. number x < k) ys → AllByRecursion (λ x. number x < k) (xs ++ ys)
  early-then n k [] ys is lt early = early
  early-then n k (x ∷ []) ys is lt early = (omega arith, early)
  early-then n k (x ∷ y ∷ xs) ys is lt early = absurd is

  -- and of none behind the last
  pub entries-early : (n k : ℕ) (es : List (Event T)) (ts : List (Told T)) → n + length es ≤ k → AllByRecursion (λ x. number x < k) (entries_from entry n es ts)
  entries-early n k (e ∷ es) (t ∷ ts) le = early-then n k (entry n (party_of e) t) (entries_from entry (n + 1) es ts) (one n (party_of e) t) (omega arith) (entries-early (n + 1) k es ts (omega arith))
  entries-early n k es ts le = tt

  rise-then : (n : ℕ) (xs ys : List E) → IsOneOf number n xs → AllByRecursion (λ x. n + 1 ≤ number x) ys → AllPairs (λ x y. number x < number y) ys → AllPairs (λ x y. number x < number y) (xs ++ ys)
  rise-then n [] ys is late rise = rise
  rise-then n (x ∷ []) ys is late rise =
      AllPairs-cons (λ x y. number x < number y) x ys (All-from_recursion (λ y. number x < number y) ys (each-all _ _ ys (λ y le. omega arith) late)) rise
  rise-then n (x ∷ y ∷ xs) ys is late rise = absurd is

  -- they rise
  pub entries-rise : (n : ℕ) (es : List (Event T)) (ts : List (Told T)) → AllPairs (λ x y. number x < number y) (entries_from entry n es ts)
  entries-rise n (e ∷ es) (t ∷ ts) =
      rise-then n (entry n (party_of e) t) (entries_from entry (n + 1) es ts) (one n (party_of e) t) (entries-late (n + 1) es ts) (entries-rise (n + 1) es ts)
  entries-rise n es ts = λ i j d lt within. absurd (omega arith)

abbrev number_in : {T : Type 0} → ℕ × ℕ × Reply T → ℕ
number_in y = y.0

abbrev kind_number : ℕ × ℕ × EffectKind → ℕ
kind_number y = y.0

reply-one : {T : Type 0} (n p : ℕ) (t : Told T) → IsOneOf number_in n (reply_entry n p t)
reply-one n p (Ran k (Some r)) = refl
reply-one n p t = tt

skipped-one : {T : Type 0} (n p : ℕ) (t : Told T) → IsOneOf (λ (m : ℕ). m) n (skipped_entry n p t)
skipped-one n p Skipped = refl
skipped-one n p (Ran k r) = tt

pub replies-rise : {T : Type 0} (es : List (Event T)) (ts : List (Told T)) → AllPairs (λ y z. y.0 < z.0) (entries_from reply_entry 0 es ts)
replies-rise es ts = entries-rise reply_entry number_in reply-one 0 es ts

pub skipped-rise : {T : Type 0} (es : List (Event T)) (ts : List (Told T)) → AllPairs (λ m n. m < n) (entries_from skipped_entry 0 es ts)
skipped-rise es ts = entries-rise skipped_entry (λ (m : ℕ). m) skipped-one 0 es ts

effect-one : {T : Type 0} (n p : ℕ) (t : Told T) → IsOneOf kind_number n (effect_entry n p t)
effect-one n p (Ran (Some k) r) = refl
effect-one n p t = tt

-- the entries of the events from n on are no earlier ones, and those of the events before k no later ones
pub replies-late : {T : Type 0} (n : ℕ) (es : List (Event T)) (ts : List (Told T)) → AllByRecursion (λ y. n ≤ y.0) (entries_from reply_entry n es ts)
replies-late n es ts = entries-late reply_entry number_in reply-one n es ts

pub replies-early : {T : Type 0} (n k : ℕ) (es : List (Event T)) (ts : List (Told T)) → n + length es ≤ k → AllByRecursion (λ y. y.0 < k) (entries_from reply_entry n es ts)
replies-early n k es ts le = entries-early reply_entry number_in reply-one n k es ts le

pub effects-late : {T : Type 0} (n : ℕ) (es : List (Event T)) (ts : List (Told T)) → AllByRecursion (λ y. n ≤ y.0) (entries_from effect_entry n es ts)
effects-late n es ts = entries-late effect_entry kind_number effect-one n es ts

pub effects-early : {T : Type 0} (n k : ℕ) (es : List (Event T)) (ts : List (Told T)) → n + length es ≤ k → AllByRecursion (λ y. y.0 < k) (entries_from effect_entry n es ts)
effects-early n k es ts le = entries-early effect_entry kind_number effect-one n k es ts le

pub skipped-late : {T : Type 0} (n : ℕ) (es : List (Event T)) (ts : List (Told T)) → AllByRecursion (λ m. n ≤ m) (entries_from skipped_entry n es ts)
skipped-late n es ts = entries-late skipped_entry (λ (m : ℕ). m) skipped-one n es ts
