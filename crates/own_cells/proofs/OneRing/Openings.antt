-- The words of a ring that opens at some position, and the ring that they are with empty slots.
use Rattle.std.proofs.Common.{◌≡◌, ◌⊎◌, ℕ, zero, suc, ◌+◌, ◌-◌, ◌*◌, ◌%◌, ◌<◌, ◌≤◌, List, [], ◌∷◌, ◌++◌, length, map, get_or, set, subst, Option, None, Some, false, refl, ap, arith, sym, ◌∙◌, mod-lt, inl, inr, length-append}
use Rattle.std.{specs.Prelude.replicate, proofs.lemmas.List.get_or_append_left, proofs.lemmas.List.get_or-append_right, proofs.lemmas.List.get_or-set_same, proofs.lemmas.List.get_or-set_other, proofs.lemmas.List.length-set, proofs.lemmas.List.length-replicate}
use mathlib.Core.Option.{some}
use lib.ListN.{get_elem?}
use Rattle.atomic_table.specs.Table.{Final}
use Rattle.queue_steps.specs.{declared.sizes.TheConstants.LIMIT, Words.IsRing, Words.position_of, Words.is_shut, Words.slot_at}
use Rattle.own_cells.specs.{OneRing.RingOwned.HoldsItems, OneRing.RingOwned.items_of, OneRing.RingOpening.Opened, OneRing.RingOpening.OpensTo, OneRing.RingOpening.IsOpening, OneRing.RingOpening.IsUntouched, OneRing.RingNew.IsNew, OneRing.RingWords.words_of, OneRing.RingWords.stamps_in, OneRing.RingWords.stamp_word, OneRing.RingWords.bare_words, declared.ring.ring_words.TheConstants.TAIL, declared.ring.ring_words.TheConstants.HEAD}
use Rattle.queue_laws.proofs.Ring.RingIdle.{same_position}
use Rattle.own_cells.proofs.OneRing.RingWrites.{elem_or, word_in, word_after, stamps_more}

pub Opened-more : (n cap i q : ℕ) (stamps : List ℕ) → n ≤ q → q < n + cap → slot_at cap q ≡ i → Opened n cap i stamps → Opened n cap (i + 1) (stamps ++ q ∷ [])
Opened-more n cap i q stamps low high mine o = record { long = length-append stamps (q ∷ []) ∙ (let l = o.long in omega arith); free = λ k h. go k (split k h) }
  where
    split : (k : ℕ) → k < i + 1 → (k ≡ i) ⊎ (k < i)
    split k h = grind arith

    go : (k : ℕ) → (k ≡ i) ⊎ (k < i) → (p : ℕ) × (get_or (stamps ++ q ∷ []) k 0 ≡ p) × (n ≤ p) × (p < n + cap) × (slot_at cap p ≡ k)
    go k (inl e) =
        let l = o.long in
        let none : k - i ≡ 0 = omega arith in
        let got = get_or-append_right stamps (q ∷ []) i k 0 l (omega arith) in
        (q, got ∙ rw none refl, low, high, mine ∙ sym e)
    go k (inr h) = let old = o.free k h in (old.0, get_or_append_left stamps (q ∷ []) 0 k (let l = o.long in omega arith) ∙ old.1, old.2, old.3, old.4)

-- the words before the stamps are written
pub bare_long : (cap t h : ℕ) → length (bare_words cap t h) ≡ words_of cap
bare_long cap t h = let zeros : List ℕ = replicate (words_of cap) 0 in length-set (set (set zeros 0 1) TAIL t) HEAD h ∙ tail_long cap t
  where
    tail_long : (n x : ℕ) → length (set (set (replicate (words_of n) 0) 0 1) TAIL x) ≡ words_of n
    tail_long n x = let zeros : List ℕ = replicate (words_of n) 0 in length-set (set zeros 0 1) TAIL x ∙ (length-set zeros 0 1 ∙ length-replicate (words_of n) 0)

pub bare_head : (cap t h : ℕ) → get_or (bare_words cap t h) HEAD 0 ≡ h
bare_head cap t h =
    let zeros : List ℕ = replicate (words_of cap) 0 in
    let long : length (set (set zeros 0 1) TAIL t) ≡ words_of cap = length-set (set zeros 0 1) TAIL t ∙ (length-set zeros 0 1 ∙ length-replicate (words_of cap) 0) in
    get_or-set_same (set (set zeros 0 1) TAIL t) HEAD h 0 (omega (arith, long))

pub bare_tail : (cap t h : ℕ) → get_or (bare_words cap t h) TAIL 0 ≡ t
bare_tail cap t h =
    let zeros : List ℕ = replicate (words_of cap) 0 in
    let long : length (set zeros 0 1) ≡ words_of cap = length-set zeros 0 1 ∙ length-replicate (words_of cap) 0 in
    get_or-set_other (set (set zeros 0 1) TAIL t) HEAD TAIL h 0 (λ e. omega arith) ∙ get_or-set_same (set zeros 0 1) TAIL t 0 (omega (arith, long))

pub bare_one : (cap t h : ℕ) → get_or (bare_words cap t h) 0 0 ≡ 1
bare_one cap t h =
    let zeros : List ℕ = replicate (words_of cap) 0 in
    let long : length zeros ≡ words_of cap = length-replicate (words_of cap) 0 in
    get_or-set_other (set (set zeros 0 1) TAIL t) HEAD 0 h 0 (λ e. omega arith) ∙ (get_or-set_other (set zeros 0 1) TAIL 0 t 0 (λ e. omega arith) ∙ get_or-set_same zeros 0 1 0 (omega (arith, long)))

pub opens_bare : (cap n : ℕ) → OpensTo cap n 0 (bare_words cap (n * 2) n)
opens_bare cap n = record { long = bare_long cap (n * 2) n; tail = bare_tail cap (n * 2) n; head = bare_head cap (n * 2) n; opened = record { long = refl; free = λ k lt. absurd (omega arith) } }

-- one more stamp is written
pub opens_more : (cap n i q : ℕ) (ws : List ℕ) → i < cap → n ≤ q → q < n + cap → slot_at cap q ≡ i → OpensTo cap n i ws → OpensTo cap n (i + 1) (set ws (stamp_word i) q)
opens_more cap n i q ws lt low high mine o =
    let below = word_in cap i lt in let long = o.long in
    record {
      long = length-set ws (stamp_word i) q ∙ o.long;
      tail = get_or-set_other ws (stamp_word i) TAIL q 0 (λ e. word_after i TAIL (omega arith) (sym e)) ∙ o.tail;
      head = get_or-set_other ws (stamp_word i) HEAD q 0 (λ e. word_after i HEAD (omega arith) (sym e)) ∙ o.head;
      opened = subst (λ ss. Opened n cap (i + 1) ss) (sym (stamps_more i ws q (omega (arith, below, long)))) (Opened-more n cap i q (stamps_in i ws) low high mine o.opened);
    }

-- the slots of a new table are at home
pub homes_at : {A : Type 0} (n k : ℕ) (a : A) → k < length (map some (replicate n a)) → get_elem? (map some (replicate n a)) k ≡ some (some a)
homes_at zero k a lt = absurd (omega arith)
homes_at (suc n) zero a lt = refl
homes_at (suc n) (suc k) a lt = homes_at n k a (omega arith)

module _ {T : Type 0} where
  Opened-holds : (n cap : ℕ) (stamps : List ℕ) (xs : List (Option T)) → 0 < cap → length xs ≡ cap → ((k : ℕ) → k < cap → get_or xs k None ≡ None) → Opened n cap cap stamps
      → HoldsItems cap n n stamps xs
  Opened-holds n cap stamps xs wide long empty o =
      record {
        some = wide;
        stamped = o.long;
        slotted = long;
        order = omega arith;
        within = omega arith;
        filled = λ p low high. absurd (omega arith);
        free = λ p low high.
            let below : p % cap < cap = mod-lt p wide in
            let s = o.free (p % cap) below in
            let stamp : get_or stamps (p % cap) 0 ≡ p = s.1 ∙ same_position cap n s.0 p wide s.4 s.2 s.3 low high in
            (stamp, empty (p % cap) below);
      }

  -- with empty slots they are an empty open ring
  opens : (cap n : ℕ) (ws : List ℕ) (xs : List (Option T)) → IsRing cap → n ≤ LIMIT → length xs ≡ cap → ((k : ℕ) → k < cap → get_or xs k None ≡ None) → IsOpening cap n ws → IsNew cap n ws xs
  opens cap n ws xs ring below long empty o =
      let half : position_of (get_or ws TAIL 0) ≡ n = ap position_of o.tail ∙ omega arith in
      let open_is : is_shut (get_or ws TAIL 0) ≡ false = ap is_shut o.tail ∙ grind arith in
      let none : position_of (get_or ws TAIL 0) - get_or ws HEAD 0 ≡ 0 = (λ i. half i - o.head i) ∙ omega arith in
      record {
        idle = record {
          ring = ring;
          below = omega (arith, half);
          holds = subst (λ (z : ℕ × ℕ). HoldsItems cap z.0 z.1 (stamps_in cap ws) xs) (λ i. (sym o.head i, sym half i)) (Opened-holds n cap (stamps_in cap ws) xs (let wide = ring.0 in omega arith) long empty o.opened);
        };
        empty = λ i. record { queue = record { items = items_of cap xs (get_or ws HEAD 0) (none i); cap = Some cap; closed = open_is i; coming = None; accepted = half i }; blocks = 0 };
      }

  -- the memory of a table that was closed untouched is an empty open ring
  pub ring_opens : (cap n : ℕ) (first ws : List ℕ) (xs : List (Option T)) → IsRing cap → n ≤ LIMIT → IsOpening cap n first → length xs ≡ cap → Final (IsUntouched first) ws xs → IsNew cap n ws xs
  ring_opens cap n first ws xs ring below opening long end =
      let s = end.0 in let rule : IsUntouched first s = end.1 in
      let words : first ≡ ws = sym rule.0 ∙ end.2 in
      let empty : (k : ℕ) → k < cap → get_or xs k None ≡ None = λ k lt. elem_or None xs k None (end.4 k None (rule.1 k (omega (arith, lt, long, end.3)))) in
      opens cap n ws xs ring below long empty (subst (IsOpening cap n) words opening)
