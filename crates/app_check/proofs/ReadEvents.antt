-- Events are read back from their lines, and histories event by event.
use Rattle.std.proofs.Common.{◌≡◌, ◌≢◌, ◌∙◌, ℕ, ◌<◌, ◌≤◌, List, [], ◌∷◌, ◌++◌, length, map, Option, Some, None, Result, Ok, Err, inl, inr, slice_get, replicate, arith, ap, refl, sym, subst}
use Rattle.std.specs.{Fmt.decimal, List.AllByRecursion}
use Rattle.std.proofs.lemmas.{Fmt.decimal_injective, Fmt.digits_decimal, List.length-replicate, List.length-set, Option.same_Some, Option.slice_get_cases, Option.slice_get_within}
use Rattle.{queue_steps.specs.declared.model.Call.Call, history_check.specs.declared.recorded.Event.Event}
use Rattle.app_text.{specs.Reading.IsWord, specs.Spaces.parted, proofs.Parting.digits_parted, proofs.Parting.parts_joined, proofs.ReadNumber.model}
use Rattle.app_check.specs.Histories.{party_of, said, event_text, MayCome, HasNoNumber, IsEventRead, IsNextRead, call_behind, calls_behind, idle, Lead}
use Rattle.app_check.specs.LineFaults.{IsLineFault, IsNextFault}
use Rattle.app_check.specs.declared.line_faults.LineFault.{LineFault, LineFault as wrong}
use Rattle.app_check.specs.declared.reading.TheConstants.{MOST_PARTIES}

-- a line that begins with a number and a space is parted there
numbered : (line : List ℕ) (p : ℕ) (rest : List ℕ) → IsWord p → line ≡ decimal p ++ 32 ∷ rest → parted line ≡ Some (decimal p, rest)
numbered line p rest word is = rw is (digits_parted (decimal p) rest (digits_decimal model p word))

-- a line that is not parted, or whose first part is no number, begins with none
pub no_number_whole : (line : List ℕ) → parted line ≡ None → HasNoNumber line
no_number_whole line none p rest word is = let some = numbered line p rest word is in cc

pub no_number_first : (line before after : List ℕ) → parted line ≡ Some (before, after) → ((n : ℕ) → IsWord n → decimal n ≢ before) → HasNoNumber line
no_number_first line before after parts none p rest word is =
    let one : ◌≡◌ {A = List ℕ × List ℕ} (decimal p, rest) (before, after) = same_Some _ _ (sym (numbered line p rest word is) ∙ parts) in
    none p word (ap (λ (q : List ℕ × List ℕ). q.0) one)

-- and one whose first part is a number begins with it
pub number_first : (line before after : List ℕ) (n : ℕ) → parted line ≡ Some (before, after) → decimal n ≡ before → line ≡ decimal n ++ 32 ∷ after
number_first line before after n parts is = rw is (parts_joined line before after parts)

module _ (line : List ℕ) (calls : List (Option (Call ℕ))) (table : length calls ≡ MOST_PARTIES) where
  -- the line of an event that may come is parted behind its party's number, which is a word
  event_parted : (e : Event) → MayCome calls e → event_text e ≡ line → IsWord (party_of e) × (parted line ≡ Some (decimal (party_of e), said e))
  event_parted e (now, there, next) same =
      let within = slice_get_within calls (party_of e) now there in
      let word : IsWord (party_of e) = omega (arith, within, table) in
      (word, rw (← same) (digits_parted (decimal (party_of e)) (said e) (digits_decimal model (party_of e) word)))

  -- where the line begins with a number and a space, an event of the line is that party's, and says the rest
  module _ (p : ℕ) (rest : List ℕ) (word : IsWord p) (is : line ≡ decimal p ++ 32 ∷ rest) where
    its_parts : (e : Event) → MayCome calls e → event_text e ≡ line → (party_of e ≡ p) × (said e ≡ rest)
    its_parts e may same =
        let its = event_parted e may same in
        let one : ◌≡◌ {A = List ℕ × List ℕ} (decimal (party_of e), said e) (decimal p, rest) = same_Some _ _ (sym its.1 ∙ numbered line p rest word is) in
        (decimal_injective (party_of e) p its.0 word (ap (λ (q : List ℕ × List ℕ). q.0) one), ap (λ (q : List ℕ × List ℕ). q.1) one)

    -- so the line is none if there is no such party
    pub no_event_there : slice_get calls p ≡ None → IsEventRead calls line (Err wrong.Party)
    no_event_there none = (λ e may same. let its = (its_parts e may same).0 in let there = may.1 in cc, λ q text few same. absurd (nobody q few (same_number q text few same)))
      where
        same_number : (q : ℕ) (text : List ℕ) → q < MOST_PARTIES → line ≡ decimal q ++ 32 ∷ text → q ≡ p
        same_number q text few same =
            let small : IsWord q = omega (arith, few) in
            let one : ◌≡◌ {A = List ℕ × List ℕ} (decimal q, text) (decimal p, rest) = same_Some _ _ (sym (numbered line q text small same) ∙ numbered line p rest word is) in
            decimal_injective q p small word (ap (λ (x : List ℕ × List ℕ). x.0) one)

        nobody : (q : ℕ) → q < MOST_PARTIES → q ≡ p → ⊥
        nobody q few same = elim (slice_get_cases calls q).1 [
          | inl h ↦ let some = h.2 in cc
          | inr h ↦ omega (arith, h.0, few, table)
        ]

    -- and if there is one, the line is what is read of the rest
    pub event_read : (now : Option (Call ℕ)) (found : Result Event LineFault) → slice_get calls p ≡ Some now → IsNextRead p now rest found → IsEventRead calls line found
    event_read now (Ok e) here ((its, next), same) = ((now, rw its here, next), rw is (cc (its, same)))
    event_read now (Err why) here (none, fault) = (λ e may same. others e may same, line_fault now why here fault)
      where
        others : (e : Event) → MayCome calls e → event_text e ≢ line
        others e may same =
            let its = its_parts e may same in
            let there : slice_get calls (party_of e) ≡ Some may.0 = may.1 in
            let one : may.0 ≡ now = cc (its.0, there, here) in
            none e (its.0, rw one at may.2) its.1

        line_fault : (x : Option (Call ℕ)) (y : LineFault) → slice_get calls p ≡ Some x → IsNextFault x rest y → IsLineFault calls line y
        line_fault None wrong.Call at why = (p, rest, None, is, at, why)
        line_fault None wrong.NoCall at why = (p, rest, None, is, at, why)
        line_fault (Some c) wrong.InCall at why = (p, rest, Some c, is, at, why)
        line_fault (Some c) (wrong.Reply d) at why = (p, rest, Some c, is, at, why)
        line_fault x y at why = absurd why

-- no party is in a call at first
pub idle_is : idle ≡ replicate MOST_PARTIES None
unfolding idle
idle_is = refl

-- events keep how many parties there are
length_led : (calls after : List (Option (Call ℕ))) (es : List Event) → Lead calls es after → length after ≡ length calls
length_led calls after [] is = ap (λ (l : List (Option (Call ℕ))). length l) is
length_led calls after (e ∷ es) (may, rest) = length_led (calls_behind calls e) after es rest ∙ length-set calls (party_of e) (call_behind e)

pub is_table : (calls : List (Option (Call ℕ))) (es : List Event) → Lead idle es calls → length calls ≡ MOST_PARTIES
is_table calls es led = let none : Option (Call ℕ) = None in length_led idle calls es led ∙ rw idle_is (length-replicate MOST_PARTIES none)

-- one event more may come
pub lead_on : (calls after : List (Option (Call ℕ))) (es : List Event) (e : Event) → Lead calls es after → MayCome after e → Lead calls (es ++ e ∷ []) (calls_behind after e)
lead_on calls after [] e is may = (subst (λ (l : List (Option (Call ℕ))). MayCome l e) is may, ap (λ (l : List (Option (Call ℕ))). calls_behind l e) is)
lead_on calls after (x ∷ es) e (first, rest) may = (first, lead_on (calls_behind calls x) after es e rest may)

-- the lines so far are those of the events with one more
pub line_on : (es : List Event) (e : Event) (line : List ℕ) (after : List (List ℕ)) → event_text e ≡ line → map event_text es ++ line ∷ after ≡ map event_text (es ++ e ∷ []) ++ after
line_on [] e line after is = ap (λ (l : List ℕ). l ∷ after) (sym is)
line_on (x ∷ es) e line after is = ap (λ (l : List (List ℕ)). event_text x ∷ l) (line_on es e line after is)

-- more parties are enough too, and for one event more
pub enough_on : (n m : ℕ) (es : List Event) (e : Event) → n ≤ m → party_of e < m → AllByRecursion (λ x. party_of x < n) es → AllByRecursion (λ x. party_of x < m) (es ++ e ∷ [])
enough_on n m [] e le lt all = (lt, tt)
enough_on n m (x ∷ es) e le lt (first, rest) = (omega (arith, first, le), enough_on n m es e le lt rest)
