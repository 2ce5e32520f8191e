-- Texts cut at semicolons.
use Rattle.std.proofs.Common.{◌≡◌, ◌≢◌, ℕ, ◌+◌, ◌-◌, ◌<◌, ◌≤◌, List, [], ◌∷◌, ◌++◌, length, map, take, drop, Bool, true, false, cond, if◌then◌else◌, ◌==◌, nat_lt, Some, None, refl, sym, ◌∙◌, ap, subst, arith, append_assoc, length-append, Option, MatchOption, Bor}
use Rattle.std.proofs.lemmas.List.{take_rest, map-append, length-map, append-nil, Splits.slice_split_first, Splits.join_with_byte-slice_split, Splits.length-slice_split}
use Rattle.std.proofs.lemmas.{Option.cond_some, Fmt.digits_decimal, Str.Parse.digit_at, Bool.ltb-true, Bool.ltb-false, Bool.ne_eqb}
use Rattle.std.specs.{Fmt.decimal, List.AllByRecursion, List.position, List.position_or_len, List.join_with_byte, Str.Parse.AllDigits}
use Rattle.queue_steps.specs.declared.model.Call.{Call, Call as call}
use Rattle.app_text.{specs.Calls.IsCallOfWord, proofs.ReadNumber.model}
use Rattle.app_explore.specs.{Programs.spaced_call, Programs.calls_text, Programs.parts_of, Programs.IsCalls, Faults.HasNoCall}

abbrev first_semicolon : List ℕ → ℕ
first_semicolon bs = position_or_len (λ b. b == 59) bs

-- no byte is a semicolon
abbrev AllOther : List ℕ → Type 0
AllOther bs = AllByRecursion (λ b. (b == 59) ≡ false) bs

-- where a semicolon was found, the first part ends
pub part_ends : (bs : List ℕ) (end : ℕ) → Some end ≡ position (λ b. b == 59) bs → parts_of bs ≡ take end bs ∷ parts_of (take (length bs - (end + 1)) (drop (end + 1) bs))
part_ends bs end found =
    let p = cond_some (nat_lt (first_semicolon bs) (length bs)) (first_semicolon bs) end (sym found) in
    let below : first_semicolon bs < length bs = ltb-true _ _ p.0 in
    let cut : parts_of bs ≡ take end bs ∷ parts_of (drop (end + 1) bs) = subst {A = ℕ} (λ k. parts_of bs ≡ take k bs ∷ parts_of (drop (k + 1) bs)) p.1 (slice_split_first (λ b. b == 59) bs 0 below) in
    rw (take_rest bs (end + 1)) cut

one_part : (bs : List ℕ) → length bs ≤ first_semicolon bs → parts_of bs ≡ bs ∷ []
one_part [] h = refl
one_part (b ∷ bs) h = by_byte (b == 59) refl h (one_part bs)
  where
    by_byte : (t : Bool) → (b == 59) ≡ t → length (b ∷ bs) ≤ first_semicolon (b ∷ bs) → (length bs ≤ first_semicolon bs → parts_of bs ≡ bs ∷ []) → parts_of (b ∷ bs) ≡ (b ∷ bs) ∷ []
    by_byte true e h before = let none : length (b ∷ bs) ≤ 0 = rw e at h in absurd (omega arith)
    by_byte false e h before =
        let all : length (b ∷ bs) ≤ 1 + first_semicolon bs = rw e at h in
        let rest : parts_of bs ≡ bs ∷ [] = before (omega arith) in
        rw e (rw rest refl)

-- where none was found, there is one part
pub part_whole : (bs : List ℕ) → None ≡ position (λ b. b == 59) bs → parts_of bs ≡ bs ∷ []
part_whole bs found = by_test (nat_lt (first_semicolon bs) (length bs)) refl found
  where
    by_test : (t : Bool) → nat_lt (first_semicolon bs) (length bs) ≡ t → None ≡ cond t (Some (first_semicolon bs)) None → parts_of bs ≡ bs ∷ []
    by_test true e found = cc
    by_test false e found = one_part bs (ltb-false _ _ e)

cut : (xs ys : List ℕ) → AllOther xs → parts_of (xs ++ 59 ∷ ys) ≡ xs ∷ parts_of ys
cut [] ys h = refl
cut (x ∷ xs) ys h = let other : (x == 59) ≡ false = h.0 in rw other (rw (cut xs ys h.1) refl)

uncut : (xs : List ℕ) → AllOther xs → parts_of xs ≡ xs ∷ []
uncut [] h = refl
uncut (x ∷ xs) h = let other : (x == 59) ≡ false = h.0 in rw other (rw (uncut xs h.1) refl)

digits_other : (ds : List ℕ) → AllDigits 10 ds → AllOther ds
digits_other [] h = tt
digits_other (d ∷ ds) h = let digit = digit_at (d ∷ ds) 0 h (omega arith) in (ne_eqb d 59 (λ e. omega arith), digits_other ds h.1)

abbrev has_none : List ℕ → Bool
has_none [] = true
has_none (b ∷ bs) = if b == 59 then false else has_none bs

all_other : (bs : List ℕ) → has_none bs ≡ true → AllOther bs
all_other [] h = tt
all_other (b ∷ bs) h = by_byte (b == 59) refl h (all_other bs)
  where
    by_byte : (t : Bool) → (b == 59) ≡ t → (if t then false else has_none bs) ≡ true → (has_none bs ≡ true → AllOther bs) → AllOther (b ∷ bs)
    by_byte true e h rest = cc
    by_byte false e h rest = (e, rest h)

-- no call has a semicolon
call_other : (c : Call ℕ) → IsCallOfWord c → AllOther (spaced_call c)
call_other (call.Push n) is = (refl, (refl, (refl, (refl, (refl, (refl, digits_other (decimal n) (digits_decimal model n is)))))))
call_other (call.ForcePush n) is = (refl, (refl, (refl, (refl, (refl, (refl, (refl, digits_other (decimal n) (digits_decimal model n is))))))))
call_other c is = all_other (spaced_call c) refl

-- the parts of the text of calls are the calls
calls_cut : (c : Call ℕ) (cs : List (Call ℕ)) → IsCallOfWord c → AllByRecursion IsCallOfWord cs → parts_of (calls_text (c ∷ cs)) ≡ map spaced_call (c ∷ cs)
calls_cut c [] is each = uncut (spaced_call c) (call_other c is)
calls_cut c (d ∷ ds) is each = cut (spaced_call c) (calls_text (d ∷ ds)) (call_other c is) ∙ ap (λ ps. spaced_call c ∷ ps) (calls_cut d ds each.0 each.1)

all_cut : (most : ℕ) (cs : List (Call ℕ)) → IsCalls most cs → parts_of (calls_text cs) ≡ map spaced_call cs
all_cut most [] is = absurd (omega (arith, is.0))
all_cut most (c ∷ cs) is = calls_cut c cs is.2.0 is.2.1

-- the parts of a text that were read as calls, and what is left of it
pub record IsCut (text rest : List ℕ) (calls : List (Call ℕ)) : Type 0 where
  pub each : AllByRecursion IsCallOfWord calls
  pub parts : parts_of text ≡ map spaced_call calls ++ parts_of rest

each_more : (cs : List (Call ℕ)) (c : Call ℕ) → AllByRecursion IsCallOfWord cs → IsCallOfWord c → AllByRecursion IsCallOfWord (cs ++ c ∷ [])
each_more [] c each is = (is, tt)
each_more (d ∷ ds) c each is = (each.0, each_more ds c each.1 is)

parts_more : (text part : List ℕ) (cs : List (Call ℕ)) (c : Call ℕ) (more : List (List ℕ)) → parts_of text ≡ map spaced_call cs ++ part ∷ more → spaced_call c ≡ part → parts_of text ≡ map spaced_call (cs ++ c ∷ []) ++ more
parts_more text part cs c more parts same =
    parts ∙ ap (λ p. map spaced_call cs ++ p ∷ more) (sym same) ∙ sym (append_assoc (map spaced_call cs) (spaced_call c ∷ []) more) ∙ ap (λ ps. ps ++ more) (sym (map-append spaced_call cs (c ∷ [])))

-- the last part is read
pub cut_all : (text rest part : List ℕ) (most : ℕ) (calls : List (Call ℕ)) (c : Call ℕ) → IsCut text rest calls → parts_of rest ≡ part ∷ [] → IsCallOfWord c × (spaced_call c ≡ part) → length calls < most → IsCalls most (calls ++ c ∷ []) × (calls_text (calls ++ c ∷ []) ≡ text)
cut_all text rest part most calls c so_far last read below =
    let parts : parts_of text ≡ map spaced_call (calls ++ c ∷ []) ++ [] = parts_more text part calls c [] (so_far.parts ∙ ap (λ ps. map spaced_call calls ++ ps) last) read.1 in
    let count = length-append calls (c ∷ []) in
    let whole : join_with_byte 59 (parts_of text) ≡ text = join_with_byte-slice_split 59 text in
    ((omega (arith, count), omega (arith, count), each_more calls c so_far.each read.0), ap (join_with_byte 59) (sym (parts ∙ append-nil (map spaced_call (calls ++ c ∷ [])))) ∙ whole)

-- a part that is the text of no call stands in no text of calls
stops : (cs calls : List (Call ℕ)) (part : List ℕ) (more : List (List ℕ)) → AllByRecursion IsCallOfWord cs → map spaced_call cs ≡ map spaced_call calls ++ part ∷ more → ((c : Call ℕ) → IsCallOfWord c → spaced_call c ≢ part) → ⊥
stops [] [] part more each same none = cc
stops [] (d ∷ ds) part more each same none = cc
stops (c ∷ cs) [] part more each same none = let here : spaced_call c ≡ part = cc in none c each.0 here
stops (c ∷ cs) (d ∷ ds) part more each same none = let behind : map spaced_call cs ≡ map spaced_call ds ++ part ∷ more = cc in stops cs ds part more each.1 behind none

pub cut_stops : (text rest part : List ℕ) (more : List (List ℕ)) (most : ℕ) (calls : List (Call ℕ)) → IsCut text rest calls → parts_of rest ≡ part ∷ more → ((c : Call ℕ) → IsCallOfWord c → spaced_call c ≢ part) → (cs : List (Call ℕ)) → IsCalls most cs → calls_text cs ≢ text
cut_stops text rest part more most calls so_far first none cs is same =
    stops cs calls part more is.2 (sym (all_cut most cs is) ∙ ap parts_of same ∙ so_far.parts ∙ ap (λ ps. map spaced_call calls ++ ps) first) none

-- it is a part of the whole text, too
pub no_call_there : (text rest part : List ℕ) (more : List (List ℕ)) (calls : List (Call ℕ)) → IsCut text rest calls → parts_of rest ≡ part ∷ more → ((c : Call ℕ) → IsCallOfWord c → spaced_call c ≢ part) → HasNoCall text
no_call_there text rest part more calls so_far first none = record {
  before = map spaced_call calls;
  part = part;
  after = more;
  parts = so_far.parts ∙ ap (λ ps. map spaced_call calls ++ ps) first;
  no_call = none;
}

some_part : (bs : List ℕ) → 0 < length (parts_of bs)
some_part bs = let count = length-slice_split (λ b. b == 59) bs in omega (arith, count)

-- where as many calls as may be are read, and a part is left, they are too many
pub cut_long : (text rest : List ℕ) (most : ℕ) (calls : List (Call ℕ)) → IsCut text rest calls → most ≤ length calls → (cs : List (Call ℕ)) → IsCalls most cs → calls_text cs ≢ text
cut_long text rest most calls so_far full cs is same =
    let parts : map spaced_call cs ≡ map spaced_call calls ++ parts_of rest = sym (all_cut most cs is) ∙ ap parts_of same ∙ so_far.parts in
    let counts : length (map spaced_call cs) ≡ length (map spaced_call calls ++ parts_of rest) = ap (λ (ps : List (List ℕ)). length ps) parts in
    let left = some_part rest in
    let few : length cs ≤ most = is.1 in
    omega (arith, counts, length-map cs spaced_call, length-map calls spaced_call, length-append (map spaced_call calls) (parts_of rest), left)

-- there are more parts then
pub too_long : (text rest : List ℕ) (most : ℕ) (calls : List (Call ℕ)) → IsCut text rest calls → most ≤ length calls → most < length (parts_of text)
too_long text rest most calls so_far full =
    let counts : length (parts_of text) ≡ length (map spaced_call calls ++ parts_of rest) = ap (λ (ps : List (List ℕ)). length ps) so_far.parts in
    let left = some_part rest in
    omega (arith, counts, full, length-map calls spaced_call, length-append (map spaced_call calls) (parts_of rest), left)

-- the first part, and the others
pub first_and_more : (part : List ℕ) (rest : List ℕ) (after : Option (Bor (List ℕ))) → MatchOption after (parts_of rest ≡ part ∷ []) (λ r. parts_of rest ≡ part ∷ parts_of r.now) → (more : List (List ℕ)) × (parts_of rest ≡ part ∷ more)
first_and_more part rest None is = ([], is)
first_and_more part rest (Some r) is = (parts_of r.now, is)
