-- Raw blocks as pieces of a chain: what a change of a block is among the pieces.
use Rattle.std.proofs.Common.{◌≡◌, ℕ, zero, suc, ◌+◌, ◌-◌, ◌<◌, ◌≤◌, List, [], ◌∷◌, ◌++◌, length, Some, None, refl, arith, sym, ap, ◌∙◌, get_or, set, drop}
use Rattle.std.proofs.lemmas.List.{get_or-drop, length-drop, drop-set-add, drop-set-lt, drop_more, drop-append-le}
use mathlib.Core.Option.{some}
use lib.ListN.{get_elem?}
use Rattle.mem_blocks.specs.Web.{Block, Home, Content, AllVacant, block}
use Rattle.queue_steps.specs.Effect.{rest}
use Rattle.own_cells.specs.OneChain.{OwnChainCells.Piece, OwnChainCells.piece_at, OwnChainCells.IsEmptied, OwnChainCells.fresh_piece, OwnChainCells.no_name, OwnChain.piece, OwnChain.pieces_from, OwnChain.pieces_of, OwnChain.content_of, OwnChain.contents, OwnChain.at_home}

module _ {T : Type 0} where
  length-pieces_from : (f : ℕ) (xs : List (Block T)) → length (pieces_from f xs) ≡ length xs
  length-pieces_from f [] = refl
  length-pieces_from f (x ∷ xs) = ap suc (length-pieces_from (f + 1) xs)

  get-pieces_from : (f : ℕ) (xs : List (Block T)) (i : ℕ) (d : Piece T) (e : Block T) → i < length xs → get_or (pieces_from f xs) i d ≡ piece (f + i) (get_or xs i e)
  get-pieces_from f [] i d e h = absurd (omega arith)
  get-pieces_from f (x ∷ xs) zero d e h = let same : f ≡ f + 0 = omega arith in ap (λ n. piece n x) same
  get-pieces_from f (x ∷ xs) (suc i) d e h =
      let same : f + 1 + i ≡ f + suc i = omega arith in
      get-pieces_from (f + 1) xs i d e (omega arith) ∙ ap (λ n. piece n (get_or xs i e)) same

  set-pieces_from : (f : ℕ) (xs : List (Block T)) (i : ℕ) (y : Block T) → pieces_from f (set xs i y) ≡ set (pieces_from f xs) i (piece (f + i) y)
  set-pieces_from f [] i y = refl
  set-pieces_from f (x ∷ xs) zero y = let same : f ≡ f + 0 = omega arith in ap (λ n. piece n y ∷ pieces_from (f + 1) xs) same
  set-pieces_from f (x ∷ xs) (suc i) y =
      let same : f + 1 + i ≡ f + suc i = omega arith in
      ap (λ ps. piece f x ∷ ps) (set-pieces_from (f + 1) xs i y ∙ ap (λ n. set (pieces_from (f + 1) xs) i (piece n y)) same)

  append-pieces_from : (f : ℕ) (xs : List (Block T)) (y : Block T) → pieces_from f (xs ++ y ∷ []) ≡ pieces_from f xs ++ piece (f + length xs) y ∷ []
  append-pieces_from f [] y = let same : f ≡ f + 0 = omega arith in ap (λ n. piece n y ∷ []) same
  append-pieces_from f (x ∷ xs) y =
      let same : f + 1 + length xs ≡ f + suc (length xs) = omega arith in
      ap (λ ps. piece f x ∷ ps) (append-pieces_from (f + 1) xs y ∙ ap (λ n. pieces_from (f + 1) xs ++ piece n y ∷ []) same)

  -- as many pieces as blocks that are held
  pub length-pieces_of : (f : ℕ) (bs : List (Block T)) → length (pieces_of f bs) ≡ length bs - f
  length-pieces_of f bs = length-pieces_from f (drop f bs) ∙ length-drop f bs

  -- the piece of a block that is held
  pub at-pieces_of : (f : ℕ) (bs : List (Block T)) (k : ℕ) → f ≤ k → k < length bs → piece_at (pieces_of f bs) (k - f) ≡ piece k (block bs k)
  at-pieces_of f bs k from below =
      let e : Block T = block [] 0 in
      let same : f + (k - f) ≡ k = omega arith in
      let long : length (drop f bs) ≡ length bs - f = length-drop f bs in
      get-pieces_from f (drop f bs) (k - f) (fresh_piece no_name) e (omega arith)
      ∙ ap (λ x. piece (f + (k - f)) x) (get_or-drop f bs (k - f) e)
      ∙ ap (λ n. piece n (block bs n)) same

  -- a block that is held is changed
  pub set-pieces_of : (f : ℕ) (bs : List (Block T)) (k : ℕ) (y : Block T) → f ≤ k → pieces_of f (set bs k y) ≡ set (pieces_of f bs) (k - f) (piece k y)
  set-pieces_of f bs k y from =
      let same : f + (k - f) ≡ k = omega arith in
      ap (λ n. pieces_of f (set bs n y)) (sym same)
      ∙ ap (pieces_from f) (drop-set-add f bs (k - f) y)
      ∙ set-pieces_from f (drop f bs) (k - f) y
      ∙ ap (λ n. set (pieces_of f bs) (k - f) (piece n y)) same

  -- a block is laid
  pub append-pieces_of : (f : ℕ) (bs : List (Block T)) (y : Block T) → f ≤ length bs → pieces_of f (bs ++ y ∷ []) ≡ pieces_of f bs ++ piece (length bs) y ∷ []
  append-pieces_of f bs y from =
      let long : length (drop f bs) ≡ length bs - f = length-drop f bs in
      let same : f + length (drop f bs) ≡ length bs = omega arith in
      ap (pieces_from f) (drop-append-le f bs (y ∷ []) from)
      ∙ append-pieces_from f (drop f bs) y
      ∙ ap (λ n. pieces_of f bs ++ piece n y ∷ []) same

  -- the oldest block is given up
  pub rest-pieces_of : (f : ℕ) (bs : List (Block T)) (y : Block T) → f < length bs → pieces_of (f + 1) (set bs f y) ≡ rest (pieces_of f bs)
  rest-pieces_of f bs y below =
      let e : Block T = block [] 0 in
      ap (pieces_from (f + 1)) (drop-set-lt (f + 1) bs f y (omega arith))
      ∙ ap (λ xs. rest (pieces_from f xs)) (sym (drop_more bs f e below))

  pub length-contents : (hs : List (Home T)) → length (contents hs) ≡ length hs
  length-contents [] = refl
  length-contents (h ∷ hs) = ap suc (length-contents hs)

  -- a slot's content is changed
  pub set-contents : (hs : List (Home T)) (j : ℕ) (h : Home T) → contents (set hs j h) ≡ set (contents hs) j (content_of h)
  set-contents [] j h = refl
  set-contents (x ∷ hs) zero h = refl
  set-contents (x ∷ hs) (suc j) h = ap (λ cs. content_of x ∷ cs) (set-contents hs j h)

  pub set-at_home : (cs : List (Content T)) (j : ℕ) (c : Content T) → at_home (set cs j c) ≡ set (at_home cs) j (Some c)
  set-at_home [] j c = refl
  set-at_home (x ∷ cs) zero c = refl
  set-at_home (x ∷ cs) (suc j) c = ap (λ hs. Some x ∷ hs) (set-at_home cs j c)

  pub get-at_home : (cs : List (Content T)) (j : ℕ) → j < length cs → get_elem? (at_home cs) j ≡ some (Some (get_or cs j None))
  get-at_home [] j h = absurd (omega arith)
  get-at_home (x ∷ cs) zero h = refl
  get-at_home (x ∷ cs) (suc j) h = get-at_home cs j (omega arith)

  pub vacant-at_home : (cs : List (Content T)) → IsEmptied cs → AllVacant (at_home cs)
  vacant-at_home [] h = tt
  vacant-at_home (c ∷ cs) h = (ap Some h.0, vacant-at_home cs h.1)
