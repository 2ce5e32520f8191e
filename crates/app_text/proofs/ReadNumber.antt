-- The digits of a number, read back.
use Rattle.std.proofs.Common.{◌≡◌, ◌≢◌, ℕ, zero, suc, ◌+◌, ◌*◌, ◌^◌, ◌<◌, ◌≤◌, ◌⊎◌, List, [], ◌∷◌, length, get_or, take, Some, refl, subst, arith, inl, inr}
use Rattle.std.specs.{Char.digit_value, Fmt.decimal, Str.Parse.AllDigits, Str.Parse.digits_value}
use Rattle.std.proofs.lemmas.Str.Parse.{IsNumeralModel, numerals_by_value, tells_digits, digits_value-take-le}
use Rattle.std.proofs.lemmas.{Int.Digits.digits_value_more, Int.Digits.digits_more, Fmt.decimal_digit, Fmt.first_decimal, Fmt.decimal_nonempty, Fmt.decimal_is_IsNumeral, Fmt.decimal-digits_value}
use Rattle.app_text.specs.Reading.{IsReading, IsWord}

pub model : IsNumeralModel (AllDigits 10) (digits_value 10)
model = numerals_by_value _ tells_digits

-- digits begin with 0 only where they are that alone
lead_decimal : (n : ℕ) → IsWord n → get_or (decimal n) 0 0 ≡ 48 → length (decimal n) ≡ 1
lead_decimal zero small = let one : decimal 0 ≡ 48 ∷ [] = decimal_digit 0 (omega arith) in rw one (λ h. refl)
lead_decimal (suc n) small = let above : 48 < get_or (decimal (suc n)) 0 0 = first_decimal (suc n) (omega arith) small in
    λ h. absurd (omega arith)

-- digits do not begin so
pub extra_front : (bs : List ℕ) → (length bs ≡ 0) ⊎ ((get_or bs 0 0 ≡ 48) × (1 < length bs)) → (n : ℕ) → IsWord n → decimal n ≢ bs
extra_front bs front n small same = rejected front
  where
    lead : get_or bs 0 0 ≡ 48 → length bs ≡ 1
    lead = subst {A = List ℕ} (λ ds. get_or ds 0 0 ≡ 48 → length ds ≡ 1) same (lead_decimal n small)

    some : 0 < length bs
    some = subst {A = List ℕ} (λ ds. 0 < length ds) same (decimal_nonempty n small)

    rejected : (length bs ≡ 0) ⊎ ((get_or bs 0 0 ≡ 48) × (1 < length bs)) → ⊥
    rejected (inl e) = omega (arith, some)
    rejected (inr p) = let one : length bs ≡ 1 = lead p.0 in omega (arith, one)

-- the bytes so far are digits, and this is their number
pub record IsNumber (bs : List ℕ) (value : ℕ) : Type 0 where
  pub digits : AllDigits 10 bs
  pub number : value ≡ digits_value 10 bs
  pub fits : IsWord value

pub number_more : (bs : List ℕ) (i value more : ℕ) → i < length bs → IsNumber (take i bs) value → (more ≡ value * 10 + digit_value (get_or bs i 0)) × (digit_value (get_or bs i 0) < 10) × IsWord more → IsNumber (take (i + 1) bs) more
number_more bs i value more within so_far step =
    let longer : digits_value 10 (take (i + 1) bs) ≡ digits_value 10 (take i bs) * 10 + digit_value (get_or bs i 0) = digits_value_more 10 bs i within in
    record { digits = digits_more 10 bs i within so_far.digits step.1; number = omega (arith, longer, step.0, so_far.number); fits = step.2 }

digit_at : (ds : List ℕ) (i : ℕ) → AllDigits 10 ds → i < length ds → digit_value (get_or ds i 0) < 10
digit_at [] i digits within = absurd (omega arith)
digit_at (d ∷ ds) zero digits within = digits.0
digit_at (d ∷ ds) (suc i) digits within = digit_at ds i digits.1 (omega arith)

-- a byte that is no digit, or after which no word holds the number, stands in no number
pub number_stops : (bs : List ℕ) (i value : ℕ) → i < length bs → IsNumber (take i bs) value → (digit_value (get_or bs i 0) < 10 → 2 ^ 64 ≤ value * 10 + digit_value (get_or bs i 0)) → (n : ℕ) → IsWord n → decimal n ≢ bs
number_stops bs i value within so_far over n small same =
    let digits : AllDigits 10 bs = subst {A = List ℕ} (λ ds. AllDigits 10 ds) same (decimal_is_IsNumeral n small).0.1 in
    let whole : digits_value 10 bs ≡ n = subst {A = List ℕ} (λ ds. digits_value 10 ds ≡ n) same (decimal_is_IsNumeral n small).1 in
    let above : 2 ^ 64 ≤ value * 10 + digit_value (get_or bs i 0) = over (digit_at bs i digits within) in
    let longer : digits_value 10 (take (i + 1) bs) ≡ digits_value 10 (take i bs) * 10 + digit_value (get_or bs i 0) = digits_value_more 10 bs i within in
    let below : digits_value 10 (take (i + 1) bs) ≤ digits_value 10 bs = digits_value-take-le 10 bs (i + 1) (omega arith) in
    omega (arith, so_far.number)

-- the bytes are all digits, with nothing in front that stands before no number
pub number_all : (bs : List ℕ) (value : ℕ) → IsNumber bs value → 0 < length bs → (get_or bs 0 0 ≡ 48 → length bs ≡ 1) → IsReading IsWord decimal bs (Some value)
number_all bs value is some single =
    let fits : digits_value 10 bs < 2 ^ 64 = omega (arith, is.number, is.fits) in
    let written : decimal (digits_value 10 bs) ≡ bs = decimal-digits_value model bs is.digits some single fits in
    (is.fits, rw is.number written)
