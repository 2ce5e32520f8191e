-- Where a text is parted at its first space.
use Rattle.std.proofs.Common.{◌≡◌, ◌≢◌, ℕ, ◌+◌, ◌-◌, ◌<◌, ◌≤◌, List, [], ◌∷◌, ◌++◌, length, take, drop, Bool, true, false, cond, ◌==◌, nat_lt, Option, Some, None, refl, sym, ap, subst, arith, add-one, one-add}
use Rattle.std.proofs.lemmas.{Option.cond_some, Bool.ltb-true, Bool.ltb-false, Bool.ne_eqb, Bool.eqb-true, Fmt.digits_decimal, Str.Parse.digit_at}
use Rattle.std.specs.{Fmt.decimal, List.position, List.position_or_len, Str.Parse.AllDigits}
use Rattle.app_text.specs.{Reading.IsWord, Spaces.parted, Spaces.with_first, Actions.action_text, Actions.IsAction, Actions.replay_line_text, Actions.IsReplayLine, declared.actions.Action.Action, declared.actions.ReplayLine.ReplayLine}
use Rattle.app_text.proofs.{ReadNumber.model, FirstLine.all_left}

abbrev pub first_space : List ℕ → ℕ
first_space bs = position_or_len (λ b. b == 32) bs

part_later : (b k : ℕ) (bs : List ℕ) → parted bs ≡ Some (take k bs, drop (k + 1) bs) → with_first b (parted bs) ≡ Some (take (1 + k) (b ∷ bs), drop (1 + k + 1) (b ∷ bs))
part_later b k bs h = rw h (simp (one-add, add-one) refl)

-- a text with a space is parted there
pub parted_there : (bs : List ℕ) → first_space bs < length bs → parted bs ≡ Some (take (first_space bs) bs, drop (first_space bs + 1) bs)
parted_there [] h = absurd (omega arith)
parted_there (b ∷ bs) h = by_byte (b == 32) refl h (parted_there bs)
  where
    by_byte : (t : Bool) → (b == 32) ≡ t → first_space (b ∷ bs) < length (b ∷ bs) → (first_space bs < length bs → parted bs ≡ Some (take (first_space bs) bs, drop (first_space bs + 1) bs)) → parted (b ∷ bs) ≡ Some (take (first_space (b ∷ bs)) (b ∷ bs), drop (first_space (b ∷ bs) + 1) (b ∷ bs))
    by_byte true e h before = rw e refl
    by_byte false e h before =
        let below : 1 + first_space bs < length (b ∷ bs) = rw e at h in
        rw e (part_later b (first_space bs) bs (before (omega arith)))

-- a text without a space is not parted
pub not_parted : (bs : List ℕ) → length bs ≤ first_space bs → parted bs ≡ None
not_parted [] h = refl
not_parted (b ∷ bs) h = by_byte (b == 32) refl h (not_parted bs)
  where
    by_byte : (t : Bool) → (b == 32) ≡ t → length (b ∷ bs) ≤ first_space (b ∷ bs) → (length bs ≤ first_space bs → parted bs ≡ None) → parted (b ∷ bs) ≡ None
    by_byte true e h before = let none : length (b ∷ bs) ≤ 0 = rw e at h in absurd (omega arith)
    by_byte false e h before =
        let all : length (b ∷ bs) ≤ 1 + first_space bs = rw e at h in
        let none : parted bs ≡ None = before (omega arith) in
        rw e (rw none refl)

-- where a space was found, the text is parted there
pub parted_at : (bs : List ℕ) (end : ℕ) → Some end ≡ position (λ b. b == 32) bs → parted bs ≡ Some (take end bs, take (length bs - (end + 1)) (drop (end + 1) bs))
parted_at bs end found =
    let p = cond_some (nat_lt (first_space bs) (length bs)) (first_space bs) end (sym found) in
    let below : first_space bs < length bs = ltb-true _ _ p.0 in
    let rest : take (length bs - (end + 1)) (drop (end + 1) bs) ≡ drop (end + 1) bs = all_left bs (end + 1) in
    let here : parted bs ≡ Some (take end bs, drop (end + 1) bs) = subst {A = ℕ} (λ k. parted bs ≡ Some (take k bs, drop (k + 1) bs)) p.1 (parted_there bs below) in
    rw rest here

-- where no space was found, it is not parted
pub parted_nowhere : (bs : List ℕ) → None ≡ position (λ b. b == 32) bs → parted bs ≡ None
parted_nowhere bs found = by_test (nat_lt (first_space bs) (length bs)) refl found
  where
    by_test : (t : Bool) → nat_lt (first_space bs) (length bs) ≡ t → None ≡ cond t (Some (first_space bs)) None → parted bs ≡ None
    by_test true e found = cc
    by_test false e found = not_parted bs (ltb-false _ _ e)

-- the parts and the space between them are the text
pub parts_joined : (bs before after : List ℕ) → parted bs ≡ Some (before, after) → bs ≡ before ++ 32 ∷ after
parts_joined [] before after h = cc
parts_joined (b ∷ bs) before after h = by_byte (b == 32) refl h (parts_joined bs)
  where
    by_rest : (found : Option (List ℕ × List ℕ)) → parted bs ≡ found → with_first b found ≡ Some (before, after) → ((x y : List ℕ) → parted bs ≡ Some (x, y) → bs ≡ x ++ 32 ∷ y) → b ∷ bs ≡ before ++ 32 ∷ after
    by_rest None e h joined = cc
    by_rest (Some p) e h joined =
        let rest : bs ≡ p.0 ++ 32 ∷ p.1 = joined p.0 p.1 e in
        let one : ◌≡◌ {A = List ℕ × List ℕ} (b ∷ p.0, p.1) (before, after) = cc in
        subst {A = List ℕ × List ℕ} (λ q. b ∷ bs ≡ q.0 ++ 32 ∷ q.1) one (ap (λ cs. b ∷ cs) rest)

    by_byte : (t : Bool) → (b == 32) ≡ t → parted (b ∷ bs) ≡ Some (before, after) → ((x y : List ℕ) → parted bs ≡ Some (x, y) → bs ≡ x ++ 32 ∷ y) → b ∷ bs ≡ before ++ 32 ∷ after
    by_byte true e h joined =
        let here : ◌≡◌ {A = Option (List ℕ × List ℕ)} (Some ([], bs)) (Some (before, after)) = rw e at h in
        let is_space : b ≡ 32 = eqb-true b 32 e in
        let one : ◌≡◌ {A = List ℕ × List ℕ} ([], bs) (before, after) = cc in
        subst {A = List ℕ × List ℕ} (λ q. b ∷ bs ≡ q.0 ++ 32 ∷ q.1) one (rw is_space refl)
    by_byte false e h joined = let there : with_first b (parted bs) ≡ Some (before, after) = rw e at h in by_rest (parted bs) refl there joined

-- digits and a space are parted there
pub digits_parted : (ds after : List ℕ) → AllDigits 10 ds → parted (ds ++ 32 ∷ after) ≡ Some (ds, after)
digits_parted [] after h = refl
digits_parted (d ∷ ds) after h =
    let digit = digit_at (d ∷ ds) 0 h (omega arith) in
    let other : (d == 32) ≡ false = ne_eqb d 32 (λ e. omega arith) in
    let rest : parted (ds ++ 32 ∷ after) ≡ Some (ds, after) = digits_parted ds after h.1 in
    rw other (rw rest refl)

-- the line of a party is parted behind the party's number
pub line_parted : (v : ReplayLine) → IsReplayLine v → parted (replay_line_text v) ≡ Some (decimal v.party, action_text v.action)
line_parted v is = digits_parted (decimal v.party) (action_text v.action) (digits_decimal model v.party is.0)

-- a text that is not parted is no such line
pub no_line_whole : (line : List ℕ) → parted line ≡ None → (v : ReplayLine) → IsReplayLine v → replay_line_text v ≢ line
no_line_whole line h v is same = let there : parted line ≡ Some (decimal v.party, action_text v.action) = subst {A = List ℕ} (λ t. parted t ≡ Some (decimal v.party, action_text v.action)) same (line_parted v is) in cc

the_parts : (line before after : List ℕ) → parted line ≡ Some (before, after) → (v : ReplayLine) → IsReplayLine v → replay_line_text v ≡ line → (decimal v.party ≡ before) × (action_text v.action ≡ after)
the_parts line before after h v is same =
    let there : parted line ≡ Some (decimal v.party, action_text v.action) = subst {A = List ℕ} (λ t. parted t ≡ Some (decimal v.party, action_text v.action)) same (line_parted v is) in
    let one : ◌≡◌ {A = List ℕ × List ℕ} (decimal v.party, action_text v.action) (before, after) = cc in
    (ap (λ (q : List ℕ × List ℕ). q.0) one, ap (λ (q : List ℕ × List ℕ). q.1) one)

-- nor is one whose first part is no number
pub no_line_numbered : (line before after : List ℕ) → parted line ≡ Some (before, after) → ((n : ℕ) → IsWord n → decimal n ≢ before) → (v : ReplayLine) → IsReplayLine v → replay_line_text v ≢ line
no_line_numbered line before after h none v is same = none v.party is.0 (the_parts line before after h v is same).0

-- nor is one whose second part says nothing that a party does
pub no_line_acting : (line before after : List ℕ) → parted line ≡ Some (before, after) → ((a : Action) → IsAction a → action_text a ≢ after) → (v : ReplayLine) → IsReplayLine v → replay_line_text v ≢ line
no_line_acting line before after h none v is same = none v.action is.1 (the_parts line before after h v is same).1

-- and one whose parts are both read is the line
pub line_read : (line before after : List ℕ) (v : ReplayLine) → parted line ≡ Some (before, after) → decimal v.party ≡ before → action_text v.action ≡ after → replay_line_text v ≡ line
line_read line before after v h number act = let whole : line ≡ before ++ 32 ∷ after = parts_joined line before after h in cc
