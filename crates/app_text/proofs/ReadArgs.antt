-- The arguments are read back.
use Rattle.std.proofs.Common.{◌≡◌, ◌≢◌, ℕ, List, [], ◌∷◌, length, get_or, ◌∙◌, sym, arith, ◌<◌, ◌⊎◌, inl, inr}
use Rattle.std.{specs.Fmt.decimal, proofs.lemmas.Fmt.decimal_injective}
use Rattle.app_text.specs.{declared.args.TheConstants.MOST_PARTIES, Reading.IsWord, KindNames.IsCapacity, KindNames.IsPartyCount}

pub capacity_word : (n : ℕ) → IsCapacity n → IsWord n
capacity_word n is = is.0

-- a list of five elements
pub five : {X : Type 0} (xs : List X) (a b c d e : X) → length xs ≡ 5 → a ≡ get_or xs 0 a → b ≡ get_or xs 1 b → c ≡ get_or xs 2 c → d ≡ get_or xs 3 d → e ≡ get_or xs 4 e → xs ≡ a ∷ b ∷ c ∷ d ∷ e ∷ []
five [] a b c d e n p q r s t = absurd (omega arith)
five (x ∷ []) a b c d e n p q r s t = absurd (omega arith)
five (x ∷ y ∷ []) a b c d e n p q r s t = absurd (omega arith)
five (x ∷ y ∷ z ∷ []) a b c d e n p q r s t = absurd (omega arith)
five (x ∷ y ∷ z ∷ u ∷ []) a b c d e n p q r s t = absurd (omega arith)
five (x ∷ y ∷ z ∷ u ∷ v ∷ []) a b c d e n p q r s t = cc
five (x ∷ y ∷ z ∷ u ∷ v ∷ w ∷ ws) a b c d e n p q r s t = absurd (omega arith)

-- a list of three elements
pub three : {X : Type 0} (xs : List X) (a b c : X) → length xs ≡ 3 → a ≡ get_or xs 0 a → b ≡ get_or xs 1 b → c ≡ get_or xs 2 c → xs ≡ a ∷ b ∷ c ∷ []
three [] a b c h e f g = absurd (omega arith)
three (x ∷ []) a b c h e f g = absurd (omega arith)
three (x ∷ y ∷ []) a b c h e f g = absurd (omega arith)
three (x ∷ y ∷ z ∷ []) a b c h e f g = cc
three (x ∷ y ∷ z ∷ w ∷ ws) a b c h e f g = absurd (omega arith)

-- no party count is spelled as 0 or as more than the most
pub no_such_count : (count : ℕ) (text : List ℕ) → IsWord count → decimal count ≡ text → (count ≡ 0) ⊎ (MOST_PARTIES < count) → (n : ℕ) → IsPartyCount n → decimal n ≢ text
no_such_count count text small spelled wrong n is same =
    let one : n ≡ count = decimal_injective n count (omega arith) small (same ∙ sym spelled) in
    elim wrong [ inl e ↦ absurd (omega (arith, e)) | inr e ↦ absurd (omega (arith, e)) ]
