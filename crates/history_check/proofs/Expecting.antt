-- What is noted of the replies of the parties' next ends, event by event.
use Rattle.std.proofs.Common.{◌≡◌, ◌∙◌, ◌≤◌, inl, inr, [], ◌∷◌, ℕ, Option, List, ◌++◌, length, arith, sym, ap}
use Rattle.std.specs.Prelude.{slice_set}
use Rattle.std.proofs.lemmas.{Bool.cases_eq, Bool.cases_lt, List.length_push, List.get_or_push, Option.slice_get_within, Option.get_or_from_slice_get}
use Rattle.queue_steps.specs.declared.model.Reply.{Reply}
use Rattle.history_check.specs.{declared.recorded.Event.Event, declared.recorded.Event.TheVariants.End, Levels.next_reply, Levels.Expects}
use Rattle.history_check.proofs.{Moves.set_other, Moves.set_same, Moves.at_front, Orders.next_other}

-- one party more is noted
pub one_more : (xs : List (Option (Reply ℕ))) (es : List Event) (n : ℕ) (y : Option (Reply ℕ)) → length xs ≡ n → y ≡ next_reply n es → Expects xs es → Expects (xs ++ y ∷ []) es
one_more xs es n y count is expects p o there = elim (cases_lt p (length xs)) [
  | inl inside ↦ expects p o (at_front xs (y ∷ []) p o inside there)
  | inr beyond ↦
      let within = slice_get_within (xs ++ y ∷ []) p o there in
      let last : p ≡ length xs = let longer = length_push xs y in omega (arith, within, beyond, longer) in
      sym (get_or_from_slice_get (xs ++ y ∷ []) p o o there) ∙ get_or_push xs y o p (sym last) ∙ is ∙ ap (λ (k : ℕ). next_reply k es) (sym count ∙ sym last)
]

-- past an end, the party's next one is noted
pub past_end : (xs : List (Option (Reply ℕ))) (q : ℕ) (r : Reply ℕ) (es : List Event) → Expects xs (End q r ∷ es) → Expects (slice_set xs q (next_reply q es)) es
past_end xs q r es expects p o there = elim (cases_eq p q) [
  | inl same ↦ set_same xs q (next_reply q es) o (rw same at there) ∙ ap (λ (k : ℕ). next_reply k es) (sym same)
  | inr ne ↦ expects p o (sym (set_other xs q p (next_reply q es) ne) ∙ there) ∙ next_other p q r es ne
]

-- a party of which nothing is noted
pub past_beyond : (xs : List (Option (Reply ℕ))) (q : ℕ) (r : Reply ℕ) (es : List Event) → length xs ≤ q → Expects xs (End q r ∷ es) → Expects xs es
past_beyond xs q r es far expects p o there = expects p o there ∙ next_other p q r es (λ same. let within = slice_get_within xs p o there in omega (arith, within, far, same))
