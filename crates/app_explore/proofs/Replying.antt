-- The text of an outcome is written piece by piece.
use Rattle.std.proofs.Common.{◌≡◌, ◌∙◌, ℕ, ◌+◌, ◌<◌, ◌≤◌, List, [], ◌∷◌, ◌++◌, length, map, take, get_or, codes, OnOk, Result, Ok, Err, refl, sym, ap, subst, arith, append_assoc}
use Rattle.std.proofs.lemmas.List.{append-nil, length-map, length-take-le, map_more, take_all, take_more}
use Rattle.std.specs.{Fmt.decimal, List.join_with_byte}
use Rattle.queue_steps.specs.declared.model.Reply.{Reply}
use Rattle.app_explore.specs.{Lists.listed, Outcomes.lead_text, Outcomes.replies_text, Outcomes.party_text, Outcomes.parties_text, Outcomes.outcome_text}
use Rattle.app_text.specs.Items.{items_text}

joined_more : (ps : List (List ℕ)) (t : List ℕ) → join_with_byte 59 (ps ++ (32 ∷ t) ∷ []) ≡ join_with_byte 59 ps ++ (lead_text (length ps) ++ t)
joined_more [] t = refl
joined_more (p ∷ []) t = refl
joined_more (p ∷ q ∷ qs) t = ap (λ l. p ++ 59 ∷ l) (joined_more (q ∷ qs) t) ∙ sym (append_assoc p (59 ∷ join_with_byte 59 (q ∷ qs)) (59 ∷ 32 ∷ t))

-- one text more stands in the row
pub listed_more : {X : Type 0} (f : X → List ℕ) (xs : List X) (i : ℕ) (d : X) → i < length xs → listed f (take (i + 1) xs) ≡ listed f (take i xs) ++ (lead_text i ++ f (get_or xs i d))
listed_more {X} f xs i d within =
    let spaced : X → List ℕ = λ x. 32 ∷ f x in
    let count : length (map spaced (take i xs)) ≡ i = length-map (take i xs) spaced ∙ length-take-le i xs (omega (arith, within)) in
    ap (join_with_byte 59) (map_more spaced xs i d within)
    ∙ subst {A = ℕ} (λ n. join_with_byte 59 (map spaced (take i xs) ++ spaced (get_or xs i d) ∷ []) ≡ join_with_byte 59 (map spaced (take i xs)) ++ (lead_text n ++ f (get_or xs i d)))
    count (joined_more (map spaced (take i xs)) (f (get_or xs i d)))

parties_push : (n k : ℕ) (xs : List (List (Reply ℕ))) (x : List (Reply ℕ)) → k ≡ n + length xs → parties_text n (xs ++ x ∷ []) ≡ parties_text n xs ++ party_text k x
parties_push n k [] x at = let same : n ≡ k = omega (arith, at) in append-nil (party_text n x) ∙ ap (λ i. party_text i x) same
parties_push n k (y ∷ ys) x at = ap (λ l. party_text n y ++ l) (parties_push (n + 1) k ys x (omega (arith, at))) ∙ sym (append_assoc (party_text n y) (parties_text (n + 1) ys) (party_text k x))

-- the replies of one party more
pub parties_more : (xs : List (List (Reply ℕ))) (i : ℕ) (d : List (Reply ℕ)) → i < length xs → parties_text 0 (take (i + 1) xs) ≡ parties_text 0 (take i xs) ++ party_text i (get_or xs i d)
parties_more xs i d within =
    let count = length-take-le i xs (omega (arith, within)) in
    ap (parties_text 0) (take_more xs i d within) ∙ parties_push 0 i (take i xs) (get_or xs i d) (omega (arith, count))

-- a piece more of a text is written
pub piece_more : (new old first done piece all : List ℕ) → new ≡ old ++ piece → old ≡ first ++ done → all ≡ done ++ piece → new ≡ first ++ all
piece_more new old first done piece all wrote so_far is = wrote ∙ ap (λ l. l ++ piece) so_far ∙ append_assoc first done piece ∙ ap (λ l. first ++ l) (sym is)

-- the three pieces of a party's text
pub party_pieces : (start named told barred : List ℕ) (n : ℕ) (replies : List (Reply ℕ)) → named ≡ start ++ (decimal n ++ codes ":") → told ≡ named ++ replies_text replies → barred ≡ told ++ codes " | " → barred ≡ start ++ party_text n replies
party_pieces start named told barred n replies name replied bar =
    bar ∙ ap (λ l. l ++ codes " | ") (replied ∙ ap (λ l. l ++ replies_text replies) name) ∙ simp append_assoc refl

-- the text of an outcome is at its end
pub outcome_ends : {E : Type 0} (r : Result Unit E) (start told named ended : List ℕ) (i : ℕ) (replies : List (List (Reply ℕ))) (left : List ℕ) → told ≡ start ++ parties_text 0 (take i replies) → length replies ≤ i → named ≡ told ++ codes "left" → OnOk r (ended ≡ named ++ items_text left)
    → OnOk r (ended ≡ start ++ outcome_text replies left)
outcome_ends (Ok u) start told named ended i replies left so_far past name wrote =
    let all : take i replies ≡ replies = take_all i replies past in
    wrote ∙ ap (λ l. l ++ items_text left) (name ∙ ap (λ l. l ++ codes "left") (so_far ∙ ap (λ rs. start ++ parties_text 0 rs) all)) ∙ simp append_assoc refl
outcome_ends (Err e) start told named ended i replies left so_far past name wrote = tt
