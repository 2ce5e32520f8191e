-- A list in the order of its texts has what it was made of.
use Rattle.std.proofs.Common.{◌≡◌, ◌∙◌, ℕ, Bool, List, [], ◌∷◌, ◌++◌, length, map, refl, sym, ap, subst, arith, append-nil}
use Rattle.std.specs.{Prelude.Contains, Prelude.IsPermutation, List.All, List.AllByRecursion, List.AllZip}
use Rattle.std.proofs.lemmas.List.{Elements.recursion_from_All, Sorted.All-permutation, Sorted.Contains-permutation, Sorted.IsPermutation-map}
use Rattle.queue_steps.specs.declared.{model.Call.Call, steps.types.Kind.Kind}
use Rattle.machine_explore.specs.{declared.shown.ShownOutcome.ShownOutcome, declared.waiting.Wait.Wait, Certified.IsOutcomeOf, Explored.outcome_of_run, Waiting.Waiting, Waiting.wait_key, Waiting.wait_of}
use Rattle.machine_explore.specs.Reports.{AreAllOutcomes, AreAllWaits, IsShownOutcome, IsShownWait, outcome_in}
use Rattle.app_explore.specs.{Listed.AreListed, Listed.HasText, Listed.bytes_of, Listed.item_of, Listed.listed_outcome, Listed.listed_schedule, Listed.listed_wait, Listings.AreOutcomes, Outcomes.AreInOrder, Outcomes.text_of, WaitLines.wait_text, Waits.AreWaits, declared.listed.Listed.Listed}
use Rattle.app_explore.proofs.Mapped.{mapped_twice}

-- where none of a list is left, all of it came
pub all_came : {X : Type 0} (came rest all : List X) (len : ℕ) → came ++ rest ≡ all → len ≡ length rest → len ≡ 0 → came ≡ all
all_came came [] all len is left none = sym (append-nil came) ∙ is
all_came came (x ∷ xs) all len is left none = absurd (omega (arith, left, none))

zipped : {L X Y : Type 0} (R : X → Y → Type 0) (f : L → X) (h : L → Y) (ls : List L) → AllByRecursion (λ l. R (f l) (h l)) ls → AllZip R (map f ls) (map h ls)
zipped R f h [] all = tt
zipped R f h (l ∷ ls) all = (all.0, zipped R f h ls all.1)

unmapped : {L X : Type 0} (P : X → Type 0) (f : L → X) (ls : List L) → AllByRecursion P (map f ls) → AllByRecursion (λ l. P (f l)) ls
unmapped P f [] all = tt
unmapped P f (l ∷ ls) all = (all.0, unmapped P f ls all.1)

alike : {L Z : Type 0} (f h : L → Z) (ls : List L) → AllByRecursion (λ l. f l ≡ h l) ls → map f ls ≡ map h ls
alike f h [] all = refl
alike f h (l ∷ ls) all = ap (λ z. z ∷ map f ls) all.0 ∙ ap (λ zs. h l ∷ zs) (alike f h ls all.1)

-- the texts of listed outcomes, and of listed waits
pub outcome_texts : {A : Type 0} (ls : List (Listed (ShownOutcome A) A)) → All (HasText (λ x. text_of x.outcome)) ls → map bytes_of ls ≡ map text_of (map listed_outcome ls)
outcome_texts ls texts = alike bytes_of (λ l. text_of (listed_outcome l)) ls (recursion_from_All (HasText (λ x. text_of x.outcome)) ls texts) ∙ mapped_twice listed_outcome text_of ls

wait_texts : {A : Type 0} (ls : List (Listed (Wait A) A)) → All (HasText (λ x. wait_text (wait_of x))) ls → map bytes_of ls ≡ map wait_text (map listed_wait ls)
wait_texts ls texts = alike bytes_of (λ l. wait_text (listed_wait l)) ls (recursion_from_All (HasText (λ x. wait_text (wait_of x))) ls texts) ∙ mapped_twice listed_wait wait_text ls

module _ (k : Kind) (refuses : Bool) (before : List (Call ℕ)) (calls : List (List (Call ℕ))) {A : Type 0} where
  pub are_outcomes : (xs : List (ShownOutcome A)) (ls : List (Listed (ShownOutcome A) A)) → AreAllOutcomes k refuses before calls xs → AreListed (λ x. text_of x.outcome) xs ls → AreOutcomes k refuses before calls (map listed_schedule ls) (map listed_outcome ls)
  are_outcomes xs ls all is =
      let P : ShownOutcome A → Type 0 = IsShownOutcome k refuses before calls in
      let shown : AllByRecursion P (map item_of ls) = recursion_from_All P (map item_of ls) (All-permutation P xs (map item_of ls) is.same all.shown) in
      record {
        no_other = λ first rest run.
            let outcome = outcome_of_run k (length calls) first rest in
            subst (λ l. Contains l outcome) (sym (mapped_twice item_of outcome_in ls)) (Contains-permutation (map outcome_in xs) (map outcome_in (map item_of ls)) outcome (IsPermutation-map outcome_in xs (map item_of ls) is.same) (all.no_other first rest run));
        shown = zipped (IsOutcomeOf k refuses before calls) listed_schedule listed_outcome ls (unmapped P item_of ls shown);
        in_order = subst AreInOrder (outcome_texts ls is.texts) is.in_order;
      }

  pub are_waits : (xs : List (Wait A)) (ls : List (Listed (Wait A) A)) → AreAllWaits k refuses before calls (map wait_of xs) → AreListed (λ x. wait_text (wait_of x)) xs ls → AreWaits k refuses before calls (map listed_wait ls)
  are_waits xs ls all is =
      let P : Waiting → Type 0 = IsShownWait k refuses before calls in
      let waits = map wait_of xs in
      let moved : IsPermutation waits (map listed_wait ls) = subst (λ l. IsPermutation waits l) (sym (mapped_twice item_of wait_of ls)) (IsPermutation-map wait_of xs (map item_of ls) is.same) in
      record {
        no_other = λ schedule x shows. Contains-permutation (map wait_key waits) (map wait_key (map listed_wait ls)) (wait_key x) (IsPermutation-map wait_key waits (map listed_wait ls) moved) (all.no_other schedule x shows);
        shown = All-permutation P waits (map listed_wait ls) moved all.shown;
        in_order = subst AreInOrder (wait_texts ls is.texts) is.in_order;
      }
