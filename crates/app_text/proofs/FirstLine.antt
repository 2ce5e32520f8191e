-- Where the first line of a text ends.
use Rattle.std.proofs.Common.{◌≡◌, ℕ, ◌+◌, ◌-◌, ◌<◌, ◌≤◌, List, [], ◌∷◌, length, take, drop, length-drop, Bool, true, false, cond, ◌==◌, nat_lt, Some, None, refl, sym, subst, arith, add-one, one-add}
use Rattle.std.{proofs.Math.Seq.take-length, proofs.lemmas.Option.cond_some, proofs.lemmas.Bool.ltb-true, proofs.lemmas.Bool.ltb-false, specs.List.position, specs.List.position_or_len}
use Rattle.app_text.specs.Lines.{lines_of, with_byte}

pub all_left : (bs : List ℕ) (k : ℕ) → take (length bs - k) (drop k bs) ≡ drop k bs
all_left bs k = subst {A = ℕ} (λ n. take n (drop k bs) ≡ drop k bs) (length-drop k bs) (take-length (drop k bs))

abbrev pub first_feed : List ℕ → ℕ
first_feed bs = position_or_len (λ b. b == 10) bs

abbrev IsCut : List ℕ → Type 0
IsCut bs = lines_of bs ≡ take (first_feed bs) bs ∷ lines_of (drop (first_feed bs + 1) bs)

cut_later : (b k : ℕ) (bs : List ℕ) → lines_of bs ≡ take k bs ∷ lines_of (drop (k + 1) bs) → with_byte b (lines_of bs) ≡ take (1 + k) (b ∷ bs) ∷ lines_of (drop (1 + k + 1) (b ∷ bs))
cut_later b k bs h = rw h (simp (one-add, add-one) refl)

-- the first line goes up to the first line feed, and the other lines are behind it
pub line_ended : (bs : List ℕ) → first_feed bs < length bs → IsCut bs
line_ended [] h = absurd (omega arith)
line_ended (b ∷ bs) h = by_byte (b == 10) refl h (line_ended bs)
  where
    by_byte : (t : Bool) → (b == 10) ≡ t → first_feed (b ∷ bs) < length (b ∷ bs) → (first_feed bs < length bs → IsCut bs) → IsCut (b ∷ bs)
    by_byte true e h before = rw e refl
    by_byte false e h before =
        let below : 1 + first_feed bs < length (b ∷ bs) = rw e at h in
        rw e (cut_later b (first_feed bs) bs (before (omega arith)))

-- a text without a line feed is one line
pub line_unended : (bs : List ℕ) → 0 < length bs → length bs ≤ first_feed bs → lines_of bs ≡ bs ∷ []
line_unended [] some h = absurd (omega arith)
line_unended (b ∷ bs) some h = by_byte (b == 10) refl h (line_unended bs)
  where
    by_rest : (bs : List ℕ) → (0 < length bs → lines_of bs ≡ bs ∷ []) → with_byte b (lines_of bs) ≡ (b ∷ bs) ∷ []
    by_rest [] before = refl
    by_rest (c ∷ cs) before = let one : lines_of (c ∷ cs) ≡ (c ∷ cs) ∷ [] = before (omega arith) in rw one refl

    by_byte : (t : Bool) → (b == 10) ≡ t → length (b ∷ bs) ≤ first_feed (b ∷ bs) → (0 < length bs → length bs ≤ first_feed bs → lines_of bs ≡ bs ∷ []) → lines_of (b ∷ bs) ≡ (b ∷ bs) ∷ []
    by_byte true e h before = let none : length (b ∷ bs) ≤ 0 = rw e at h in absurd (omega arith)
    by_byte false e h before =
        let all : length (b ∷ bs) ≤ 1 + first_feed bs = rw e at h in
        rw e (by_rest bs (λ more. before more (omega arith)))

-- where a line feed was found, the line ends there
pub cut_at : (bs : List ℕ) (end : ℕ) → Some end ≡ position (λ b. b == 10) bs → (lines_of bs ≡ take end bs ∷ lines_of (take (length bs - (end + 1)) (drop (end + 1) bs))) × (length (take (length bs - (end + 1)) (drop (end + 1) bs)) < length bs)
cut_at bs end found =
    let p = cond_some (nat_lt (first_feed bs) (length bs)) (first_feed bs) end (sym found) in
    let below : first_feed bs < length bs = ltb-true _ _ p.0 in
    let within : end < length bs = subst {A = ℕ} (λ k. k < length bs) p.1 below in
    let rest : take (length bs - (end + 1)) (drop (end + 1) bs) ≡ drop (end + 1) bs = all_left bs (end + 1) in
    let cut : lines_of bs ≡ take end bs ∷ lines_of (drop (end + 1) bs) = subst {A = ℕ} (λ k. lines_of bs ≡ take k bs ∷ lines_of (drop (k + 1) bs)) p.1 (line_ended bs below) in
    rw rest (cut, simp length-drop (omega arith))

-- where no line feed was found, the text is a line
pub uncut : (bs : List ℕ) → None ≡ position (λ b. b == 10) bs → 0 < length bs → lines_of bs ≡ bs ∷ []
uncut bs found some = by_test (nat_lt (first_feed bs) (length bs)) refl found
  where
    by_test : (t : Bool) → nat_lt (first_feed bs) (length bs) ≡ t → None ≡ cond t (Some (first_feed bs)) None → lines_of bs ≡ bs ∷ []
    by_test true e found = cc
    by_test false e found = line_unended bs some (ltb-false _ _ e)
