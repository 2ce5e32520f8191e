-- The lines of outcomes, one more.
use Rattle.std.proofs.Common.{◌≡◌, ◌∙◌, ◌+◌, ◌<◌, ◌++◌, ◌∷◌, [], ℕ, suc, List, length, map, take, sym, ap, arith, append_assoc, append-nil, codes, if◌then◌else◌, refl, Err, Ok, OnOk, Result}
use Rattle.std.specs.{Result.is_ok, Prelude.slice_index_or}
use Rattle.std.proofs.lemmas.List.{length-map, length-take-le, map_more, map_push}
use Rattle.app_explore.specs.{Listings.outcome_lines, Outcomes.outcome_line, Tails.Tail, Tails.tail_line}

outcome_lines-more : (os ts : List (List ℕ)) (n : ℕ) (o t : List ℕ) → length ts ≡ length os → outcome_lines n (os ++ o ∷ []) (ts ++ t ∷ []) ≡ outcome_lines n os ts ++ outcome_line (n + length os) o t
outcome_lines-more [] [] n o t same = append-nil (outcome_line n o t) ∙ ap (λ k. outcome_line k o t) (omega arith)
outcome_lines-more (x ∷ os) (y ∷ ts) n o t same =
    let line = outcome_line n x y in
    let next : (n + 1) + length os ≡ n + suc (length os) = omega arith in
    ap (λ l. line ++ l) (outcome_lines-more os ts (n + 1) o t (cc) ∙ ap (λ k. outcome_lines (n + 1) os ts ++ outcome_line k o t) next) ∙ sym (append_assoc line (outcome_lines (n + 1) os ts) (outcome_line (n + suc (length os)) o t))
outcome_lines-more [] (y ∷ ts) n o t same = cc
outcome_lines-more (x ∷ os) [] n o t same = cc

-- the line of the outcome at i is written behind those before it
pub line_more : {X : Type 0} (bytes : X → List ℕ) (tail : X → Tail) (xs : List X) (i : ℕ) (x : X) (start old new : List ℕ) → i < length xs → x ≡ slice_index_or xs i x
    → old ≡ start ++ outcome_lines 1 (map bytes (take i xs)) (map tail_line (map tail (take i xs))) → new ≡ old ++ outcome_line (i + 1) (bytes x) (tail_line (tail x))
    → new ≡ start ++ outcome_lines 1 (map bytes (take (i + 1) xs)) (map tail_line (map tail (take (i + 1) xs)))
line_more bytes tail xs i x start old new inside is before line =
    let texts = map bytes (take i xs) in
    let tails = map tail_line (map tail (take i xs)) in
    let last = outcome_line (i + 1) (bytes x) (tail_line (tail x)) in
    let taken : length (take i xs) ≡ i = length-take-le i xs (omega (arith, inside)) in
    let counted : length texts ≡ i = length-map (take i xs) bytes ∙ taken in
    let as_many : length tails ≡ length texts = length-map (map tail (take i xs)) tail_line ∙ length-map (take i xs) tail ∙ taken ∙ sym counted in
    let number : 1 + length texts ≡ i + 1 = omega (arith, counted) in
    let more : outcome_lines 1 (texts ++ bytes x ∷ []) (tails ++ tail_line (tail x) ∷ []) ≡ outcome_lines 1 texts tails ++ last
    = outcome_lines-more texts tails 1 (bytes x) (tail_line (tail x)) as_many ∙ ap (λ k. outcome_lines 1 texts tails ++ outcome_line k (bytes x) (tail_line (tail x))) number in
    let texts_more : map bytes (take (i + 1) xs) ≡ texts ++ bytes x ∷ [] = map_more bytes xs i x inside ∙ ap (λ y. texts ++ bytes y ∷ []) (sym is) in
    let each_more : map tail (take (i + 1) xs) ≡ map tail (take i xs) ++ tail x ∷ [] = map_more tail xs i x inside ∙ ap (λ y. map tail (take i xs) ++ tail y ∷ []) (sym is) in
    let tails_more : map tail_line (map tail (take (i + 1) xs)) ≡ tails ++ tail_line (tail x) ∷ [] = ap (map tail_line) each_more ∙ map_push tail_line (map tail (take i xs)) (tail x) in
    let all : outcome_lines 1 (map bytes (take (i + 1) xs)) (map tail_line (map tail (take (i + 1) xs))) ≡ outcome_lines 1 texts tails ++ last
    = ap (λ l. outcome_lines 1 l (map tail_line (map tail (take (i + 1) xs)))) texts_more ∙ ap (λ l. outcome_lines 1 (texts ++ bytes x ∷ []) l) tails_more ∙ more in
    line ∙ ap (λ l. l ++ last) before ∙ append_assoc start (outcome_lines 1 texts tails) last ∙ ap (λ l. start ++ l) (sym all)

-- a line is at its end, where d is its number, o its text, and t what stands behind that
pub line_ends : {E : Type 0} (r : Result Unit E) (d o t start told one new : List ℕ) → told ≡ start ++ (codes "outcome " ++ (d ++ (codes " | " ++ o))) → one ≡ told ++ t → new ≡ (if is_ok r then one ++ 10 ∷ [] else one)
    → OnOk r (new ≡ start ++ (codes "outcome " ++ d ++ codes " | " ++ o ++ t ++ 10 ∷ []))
line_ends (Ok u) d o t start told one new first tail end = end ∙ ap (λ l. l ++ 10 ∷ []) (tail ∙ ap (λ l. l ++ t) first) ∙ simp append_assoc refl
line_ends (Err e) d o t start told one new first tail end = tt
