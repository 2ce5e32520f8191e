-- The lines of who waits for whom, one more.
use Rattle.std.proofs.Common.{◌≡◌, ◌∙◌, ℕ, suc, ◌+◌, ◌<◌, List, [], ◌∷◌, ◌++◌, length, map, take, sym, ap, arith, append_assoc, append-nil, codes, if◌then◌else◌, refl, Err, Ok, OnOk, Result}
use Rattle.std.specs.{Result.is_ok, Prelude.slice_index_or}
use Rattle.std.proofs.lemmas.List.{length-map, length-take-le, map_more}
use Rattle.machine_explore.specs.Waiting.{Waiting}
use Rattle.app_explore.specs.WaitLines.{wait_line, wait_lines}

wait_lines-more : (xs : List Waiting) (n : ℕ) (x : Waiting) → wait_lines n (xs ++ x ∷ []) ≡ wait_lines n xs ++ wait_line (n + length xs) x.waiter x.other
wait_lines-more [] n x = append-nil (wait_line n x.waiter x.other) ∙ ap (λ k. wait_line k x.waiter x.other) (omega arith)
wait_lines-more (y ∷ ys) n x =
    let line = wait_line n y.waiter y.other in
    let next : (n + 1) + length ys ≡ n + suc (length ys) = omega arith in
    ap (λ l. line ++ l) (wait_lines-more ys (n + 1) x ∙ ap (λ k. wait_lines (n + 1) ys ++ wait_line k x.waiter x.other) next) ∙ sym (append_assoc line (wait_lines (n + 1) ys) (wait_line (n + suc (length ys)) x.waiter x.other))

-- the line of the one at i is written behind those before it
pub wait_more : {X : Type 0} (f : X → Waiting) (xs : List X) (i : ℕ) (x : X) (start old new : List ℕ) → i < length xs → x ≡ slice_index_or xs i x
    → old ≡ start ++ wait_lines 1 (map f (take i xs)) → new ≡ old ++ wait_line (i + 1) (f x).waiter (f x).other → new ≡ start ++ wait_lines 1 (map f (take (i + 1) xs))
wait_more f xs i x start old new inside is before line =
    let done = map f (take i xs) in
    let last = wait_line (i + 1) (f x).waiter (f x).other in
    let taken : length done ≡ i = length-map (take i xs) f ∙ length-take-le i xs (omega (arith, inside)) in
    let number : 1 + length done ≡ i + 1 = omega (arith, taken) in
    let more : map f (take (i + 1) xs) ≡ done ++ f x ∷ [] = map_more f xs i x inside ∙ ap (λ y. done ++ f y ∷ []) (sym is) in
    let all : wait_lines 1 (map f (take (i + 1) xs)) ≡ wait_lines 1 done ++ last = ap (λ l. wait_lines 1 l) more ∙ wait_lines-more done 1 (f x) ∙ ap (λ k. wait_lines 1 done ++ wait_line k (f x).waiter (f x).other) number in
    line ∙ ap (λ l. l ++ last) before ∙ append_assoc start (wait_lines 1 done) last ∙ ap (λ l. start ++ l) (sym all)

-- a line is at its end, where d is its number and a is what stands behind that
pub line_ends : {E : Type 0} (r : Result Unit E) (d a start numbered one new : List ℕ) → numbered ≡ start ++ (codes "wait " ++ d ++ codes " | ") → one ≡ numbered ++ a → new ≡ (if is_ok r then one ++ 10 ∷ [] else one)
    → OnOk r (new ≡ start ++ (codes "wait " ++ d ++ codes " | " ++ a ++ 10 ∷ []))
line_ends (Ok u) d a start numbered one new number first end = end ∙ ap (λ l. l ++ 10 ∷ []) (first ∙ ap (λ l. l ++ a) number) ∙ simp append_assoc refl
line_ends (Err e) d a start numbered one new number first end = tt
