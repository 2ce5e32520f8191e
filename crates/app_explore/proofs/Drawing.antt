-- The columns and the rows of a picture, one more.
use Rattle.std.proofs.Common.{◌≡◌, ◌∙◌, ℕ, zero, suc, ◌+◌, ◌-◌, ◌<◌, ◌≤◌, nat_lt, drop, Option, List, [], ◌∷◌, ◌++◌, OnOk, Ok, Err, Result, if◌then◌else◌, codes, length, map, replicate, take, sym, ap, refl, arith, append_assoc, append-nil}
use Rattle.std.specs.{Prelude.flat_map, Prelude.slice_index_or, Fmt.decimal, List.range_with_len, Result.is_ok}
use Rattle.std.proofs.lemmas.{Bool.le-ltb, Bool.lt-ltb, List.at_drop_all, List.at_drop_more, List.flat_map_more, List.get_or-map, List.length-map, List.take_more}
use Rattle.queue_steps.specs.declared.steps.types.Local.{Local}
use Rattle.machine_memory.specs.declared.types.{Event.Event, Told.Told}
use Rattle.machine_explore.specs.Traces.{Seen}
use Rattle.app_explore.specs.Lanes.{cell_text, column, columns, head_text, move_text, told_text, widest}

over_range : {X : Type 0} (f : ℕ → List X) (a n j : ℕ) → a + n ≡ j → flat_map f (range_with_len a (n + 1)) ≡ flat_map f (range_with_len a n) ++ f j
over_range f a zero j at = let same : a ≡ j = omega (arith, at) in append-nil (f a) ∙ ap f same
over_range f a (suc n) j at =
    let behind : suc n + 1 ≡ suc (n + 1) = omega arith in
    let next : (a + 1) + n ≡ j = omega (arith, at) in
    ap (λ k. flat_map f (range_with_len a k)) behind ∙ ap (λ l. f a ++ l) (over_range f (a + 1) n j next) ∙ sym (append_assoc (f a) (flat_map f (range_with_len (a + 1) n)) (f j))

-- one column more is written
pub column_more : (text_of : ℕ → List ℕ) (n width : ℕ) (cell start old new : List ℕ) → old ≡ start ++ columns n width text_of → cell ≡ text_of n → new ≡ old ++ column width cell → new ≡ start ++ columns (n + 1) width text_of
column_more text_of n width cell start old new before cell_is wrote =
    wrote ∙ ap (λ l. l ++ column width cell) before ∙ ap (λ l. (start ++ columns n width text_of) ++ column width l) cell_is
    ∙ append_assoc start (columns n width text_of) (column width (text_of n)) ∙ ap (λ l. start ++ l) (sym (over_range (λ p. column width (text_of p)) 0 n n (omega arith)))

-- one row more is written
pub row_more : {X : Type 0} (row_of : X → List ℕ) (xs : List X) (i : ℕ) (x : X) (row start old new : List ℕ) → i < length xs → x ≡ slice_index_or xs i x
    → old ≡ start ++ flat_map row_of (take i xs) → row ≡ row_of x → new ≡ old ++ row → new ≡ start ++ flat_map row_of (take (i + 1) xs)
row_more row_of xs i x row start old new inside x_is before row_is wrote =
    let taken : take (i + 1) xs ≡ take i xs ++ x ∷ [] = take_more xs i x inside ∙ ap (λ y. take i xs ++ y ∷ []) (sym x_is) in
    wrote ∙ ap (λ l. l ++ row) before ∙ ap (λ l. (start ++ flat_map row_of (take i xs)) ++ l) row_is ∙ flat_map_more row_of start (take i xs) x ∙ ap (λ l. start ++ flat_map row_of l) (sym taken)

-- a column is at its end
pub column_ends : {E : Type 0} (r : Result Unit E) (width n : ℕ) (cell start padded new : List ℕ) → n ≡ width - length cell → padded ≡ start ++ codes "| " ++ cell ++ replicate n 32 → new ≡ (if is_ok r then padded ++ 32 ∷ [] else padded)
    → OnOk r (new ≡ start ++ column width cell)
column_ends (Ok u) width n cell start padded new wide before wrote =
    wrote ∙ ap (λ l. l ++ 32 ∷ []) (before ∙ ap (λ k. start ++ codes "| " ++ cell ++ replicate k 32) wide) ∙ simp append_assoc refl
column_ends (Err e) width n cell start padded new wide before wrote = tt

-- two lists that read the same are as long as each other
pub within_same : {X Y Z : Type 0} (f : X → Z) (h : Y → Z) (xs : List X) (ys : List Y) (i : ℕ) → map f xs ≡ map h ys → i < length ys → i < length xs
within_same f h xs ys i same inside = let size : length xs ≡ length ys = sym (length-map xs f) ∙ ap length same ∙ length-map ys h in omega (arith, size, inside)

-- what stands at one place of two lists that read the same
pub same_at : {X Y Z : Type 0} (f : X → Z) (h : Y → Z) (xs : List X) (ys : List Y) (i : ℕ) (x : X) (y : Y) → map f xs ≡ map h ys → i < length ys → x ≡ slice_index_or xs i x → y ≡ slice_index_or ys i y → f x ≡ h y
same_at f h xs ys i x y same inside x_is y_is =
    let within : i < length xs = within_same f h xs ys i same inside in
    ap f x_is ∙ sym (get_or-map f xs i x (f x) within) ∙ ap (λ l. slice_index_or l i (f x)) same ∙ get_or-map h ys i y (f x) inside ∙ ap h (sym y_is)

-- a cell has what its party does, and what was told of it
pub cell_is : (s : Seen) (e : Event ℕ) (l : Option (Local ℕ)) (t : Told ℕ) (empty moved told : List ℕ) → e ≡ s.event → l ≡ s.local → t ≡ s.told → empty ≡ [] → moved ≡ empty ++ move_text e l → told ≡ moved ++ told_text t → told ≡ cell_text s
cell_is s e l t empty moved told e_is l_is t_is none moves tells =
    tells ∙ ap (λ k. moved ++ told_text k) t_is
    ∙ ap (λ m. m ++ told_text s.told) (moves ∙ ap (λ m. m ++ move_text e l) none ∙ ap (λ f. move_text f l) e_is ∙ ap (move_text s.event) l_is)

-- the next cell is longer than the width so far, or it is not
module _ {X : Type 0} (bytes : X → List ℕ) (cells : List X) (i width : ℕ) (cell : X) (inside : i < length cells) (is : cell ≡ slice_index_or cells i cell) where
  widest_at : widest width (map bytes (drop i cells)) ≡ widest (if nat_lt width (length (bytes cell)) then length (bytes cell) else width) (map bytes (drop (i + 1) cells))
  widest_at = at_drop_more (λ l. widest width (map bytes l)) cells i cell inside ∙ ap (λ c. widest width (map bytes (c ∷ drop (i + 1) cells))) (sym is)

  pub widest_more : (long : ℕ) → long ≡ length (bytes cell) → width < long → widest width (map bytes (drop i cells)) ≡ widest long (map bytes (drop (i + 1) cells))
  widest_more long long_is wider =
      widest_at ∙ ap (λ n. widest (if nat_lt width n then n else width) (map bytes (drop (i + 1) cells))) (sym long_is)
      ∙ ap (λ b. widest (if b then long else width) (map bytes (drop (i + 1) cells))) (lt-ltb width long wider)

  pub widest_same : (long : ℕ) → long ≡ length (bytes cell) → long ≤ width → widest width (map bytes (drop i cells)) ≡ widest width (map bytes (drop (i + 1) cells))
  widest_same long long_is wide =
      widest_at ∙ ap (λ n. widest (if nat_lt width n then n else width) (map bytes (drop (i + 1) cells))) (sym long_is)
      ∙ ap (λ b. widest (if b then long else width) (map bytes (drop (i + 1) cells))) (le-ltb width long wide)

pub widest_past : {X : Type 0} (bytes : X → List ℕ) (cells : List X) (i width : ℕ) → length cells ≤ i → widest width (map bytes (drop i cells)) ≡ width
widest_past bytes cells i width past = at_drop_all (λ l. widest width (map bytes l)) cells i past

-- the row of the numbers is at its end
pub head_ends : {E : Type 0} (r : Result Unit E) (parties n width : ℕ) (start old new : List ℕ) → n ≤ parties → parties ≤ n → old ≡ start ++ columns n width decimal → new ≡ (if is_ok r then old ++ (codes "| list" ++ 10 ∷ []) else old)
    → OnOk r (new ≡ start ++ head_text parties width)
head_ends (Ok u) parties n width start old new most least before wrote =
    let all : n ≡ parties = omega (arith, most, least) in
    let numbers = columns parties width decimal in
    wrote ∙ ap (λ l. l ++ (codes "| list" ++ 10 ∷ [])) (before ∙ ap (λ k. start ++ columns k width decimal) all)
    ∙ append_assoc start numbers (codes "| list" ++ 10 ∷ []) ∙ ap (λ l. start ++ l) (sym (append_assoc numbers (codes "| list") (10 ∷ [])))
head_ends (Err e) parties n width start old new most least before wrote = tt
