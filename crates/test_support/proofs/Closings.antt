-- Each step of a party keeps the rule of the one history.
use Rattle.std.proofs.Common.{◌≡◌, ◌≢◌, ℕ, zero, suc, ◌<◌, ◌⊎◌, inl, inr, ⊎_elim, true, List, [], ◌∷◌, ◌++◌, length, set, sym, refl, ap, ◌∙◌, subst, arith, length-set, get_or, get_or-set_same, append-nil, replicate, lit<}
use Rattle.std.{specs.Prelude.bit_or, proofs.lemmas.List.append_assoc}
use mathlib.Core.Option.{some, some-injective, some-ne-none}
use lib.{ListN.get_elem?, Seq.set-get_or}
use denote.RawPtr.{Ptr}
use Rattle.atomic_table.proofs.Lists.{at_set, at_snoc}
use Rattle.mem_blocks.specs.{Web.Block, Web.State, Web.Sitter, Web.block, Web.Lives, Web.word_of, Web.with_word, Web.KeepsRule, Web.Allows, Web.CanFork, Web.CanMerge}
use Rattle.test_support.specs.ClosingRule as told
use Rattle.test_support.specs.{ClosingRule.mark, ClosingRule.Begins, ClosingRule.view, ClosingRule.IsViewOf, ClosingRule.ClosingHolds, declared.closing_rule.View.View, declared.closing_rule.QueueEnds.QueueEnds}
use Rattle.mem_blocks.specs.declared.sizes.TheConstants.{END_WORDS}

mark_is : (log : List ℕ) → (mark log ≡ 0) ⊎ (mark log ≡ 1)
mark_is [] = inl refl
mark_is (x ∷ xs) = inr refl

marked : (log : List ℕ) (x : ℕ) → mark (log ++ x ∷ []) ≡ 1
marked [] x = refl
marked (y ∷ ys) x = refl

-- an effect of a history is one of a longer history, and the last effect is there
stays_there : (xs ys : List ℕ) (p x : ℕ) → get_elem? xs p ≡ some x → get_elem? (xs ++ ys) p ≡ some x
stays_there [] ys p x at = absurd (some-ne-none x (sym at))
stays_there (z ∷ zs) ys zero x at = at
stays_there (z ∷ zs) ys (suc p) x at = stays_there zs ys p x at

last_there : (xs : List ℕ) (x : ℕ) → get_elem? (xs ++ x ∷ []) (length xs) ≡ some x
last_there [] x = refl
last_there (z ∷ zs) x = last_there zs x

longer : (xs log : List ℕ) (x : ℕ) → Begins xs log → Begins xs (log ++ x ∷ [])
longer xs log x b = (b.0 ++ x ∷ [], sym (append_assoc xs b.0 (x ∷ [])) ∙ ap (λ (l : List ℕ). l ++ x ∷ []) b.1)

module _ {S : Type 0} where
  -- another number in the first word of the first block
  abbrev Written : List (Block S) → ℕ → Ptr → Ptr → Type 0
  Written bs n p q = Lives bs 0 p × Lives bs 1 q × (0 < length (block bs 0).words) × (word_of bs 0 0 ≡ n)

  written : (bs : List (Block S)) (n : ℕ) (p q : Ptr) → Lives bs 0 p → Lives bs 1 q → 0 < length (block bs 0).words → Written (with_word bs 0 0 n) n p q
  written [] n p q lies other long = absurd (omega arith)
  written (b ∷ bs) n p q lies other long = (lies, other, subst (λ (l : ℕ). 0 < l) (sym (length-set b.words 0 n)) long, get_or-set_same b.words 0 n 0 long)

  same : (bs : List (Block S)) → with_word bs 0 0 (word_of bs 0 0) ≡ bs
  same [] = refl
  same (b ∷ bs) = ap (λ (ns : List ℕ). record { at = b.at; alive = b.alive; next = b.next; words = ns; homes = b.homes } ∷ bs) (set-get_or b.words 0 0)

module _ {S : Type 0} (key : QueueEnds S) (id : ℕ) (m : Sitter S View) (p : Ptr) (ep : p ≡ key.tail.ptr) where
  abbrev v : View
  v = m.view

  abbrev Here : State S View → Type 0
  Here s = get_elem? s.views id ≡ some v

  -- the history grows by an effect of this party's
  adds : (s : State S View) (r : ClosingHolds key s) → Here s → (n : ℕ) → n ≡ 1 → ClosingHolds key record { blocks = with_word s.blocks 0 0 n; views = set s.views id (view (r.log ++ id ∷ []) (v.mine ++ length r.log ∷ [])) }
  adds s r here n is = let log = r.log in let log' : List ℕ = log ++ id ∷ [] in let w : View = view log' (v.mine ++ length log ∷ []) in let mine = r.views id v here in
      let t = written s.blocks n key.tail.ptr key.head.ptr r.tail r.head r.long in
      let own : IsViewOf log' id w = (([], append-nil log'), λ i q at. ⊎_elim (λ old. stays_there log (id ∷ []) q id (mine.1 i q old)) (λ (e : length log ≡ q). subst (λ (j : ℕ). get_elem? log' j ≡ some id) e (last_there log id)) (at_snoc v.mine (length log) q i at)) in record {
        log = log';
        tail = t.0;
        head = t.1;
        long = t.2;
        word = t.3 ∙ is ∙ sym (marked log id);
        views = λ j d at. ⊎_elim (λ (x : (j ≡ id) × (w ≡ d)). subst (λ (y : ℕ × View). IsViewOf log' y.0 y.1) (λ i. (sym x.0 i, x.1 i)) own)
            (λ (x : (j ≢ id) × (get_elem? s.views j ≡ some d)). let k = r.views j d x.1 in (longer d.seen log id k.0, λ i q there. stays_there log (id ∷ []) q j (k.1 i q there))) (at_set s.views id j w d at);
      }

  -- nothing changes, and the party has seen the whole history
  sees : (s : State S View) (r : ClosingHolds key s) → Here s → ClosingHolds key record { blocks = s.blocks; views = set s.views id (view r.log v.mine) }
  sees s r here = let w : View = view r.log v.mine in record {
    log = r.log;
    tail = r.tail;
    head = r.head;
    long = r.long;
    word = r.word;
    views = λ j d at. ⊎_elim (λ (x : (j ≡ id) × (w ≡ d)). subst (λ (y : ℕ × View). IsViewOf r.log y.0 y.1) (λ i. (sym x.0 i, x.1 i)) (([], append-nil r.log), (r.views id v here).1))
        (λ (x : (j ≢ id) × (get_elem? s.views j ≡ some d)). r.views j d x.1) (at_set s.views id j w d at);
  }

  stays : (s : State S View) (r : ClosingHolds key s) (f : ℕ → ℕ) (then : Sitter S View → Type 0) → f (word_of s.blocks 0 0) ≡ word_of s.blocks 0 0 → Here s
      → then record { view = view r.log v.mine; hand = m.hand; spare = m.spare } → KeepsRule (ClosingHolds key) s (with_word s.blocks 0 0 (f (word_of s.blocks 0 0))) id m then
  stays s r f then e here good = (
    view r.log v.mine,
    [],
    tt,
    subst (λ (bs : List (Block S)). ClosingHolds key record { blocks = bs; views = set s.views id (view r.log v.mine) }) (sym (ap (with_word s.blocks 0 0) e ∙ same s.blocks)) (sees s r here),
    good,
  )

  pub closes : Allows (ClosingHolds key) id m p 0 (λ n. bit_or n 1) (told.closes m)
  closes s r here = (
    0,
    ((r.tail.0, r.tail.1 ∙ sym ep), r.long),
    λ small. let n : ℕ = word_of s.blocks 0 0 in let begins = (r.views id v here).0 in ⊎_elim
        (λ (clear : mark r.log ≡ 0). let e : n ≡ 0 = r.word ∙ clear in (
          view (r.log ++ id ∷ []) (v.mine ++ length r.log ∷ []),
          [],
          tt,
          adds s r here (bit_or n 1) (ap (λ (x : ℕ). bit_or x 1) e),
          ((refl, refl), (λ _. (r.log, id, begins, clear, refl, refl)), λ odd. absurd (odd e)),
        ))
        (λ (shut : mark r.log ≡ 1). let e : n ≡ 1 = r.word ∙ shut in stays s r (λ x. bit_or x 1) (told.closes m n) (ap (λ (x : ℕ). bit_or x 1) e ∙ sym e) here ((refl, refl), (λ zero_is. absurd (omega arith)), λ _. (begins, shut, refl)))
        (mark_is r.log),
  )

  pub looks : Allows (ClosingHolds key) id m p 0 (λ n. n) (told.looks m)
  looks s r here = (
    0,
    ((r.tail.0, r.tail.1 ∙ sym ep), r.long),
    λ small. let n : ℕ = word_of s.blocks 0 0 in let begins = (r.views id v here).0 in let is = r.word in
        stays s r (λ x. x) (told.looks m n) refl here ((refl, refl), (λ e. (begins, sym is ∙ e, refl)), λ ne. (begins, ⊎_elim (λ (clear : mark r.log ≡ 0). absurd (ne (is ∙ clear))) (λ shut. shut) (mark_is r.log), refl)),
  )

  pub parts : CanFork (ClosingHolds key) p id v v (told.newcomer v)
  parts s r here = (
    0,
    (r.tail.0, r.tail.1 ∙ sym ep),
    record {
      log = r.log;
      tail = r.tail;
      head = r.head;
      long = r.long;
      word = r.word;
      views = λ j d at. ⊎_elim (λ old. ⊎_elim (λ (x : (j ≡ id) × (v ≡ d)). subst (λ (y : ℕ × View). IsViewOf r.log y.0 y.1) (λ i. (sym x.0 i, x.1 i)) (r.views id v here))
          (λ (x : (j ≢ id) × (get_elem? s.views j ≡ some d)). r.views j d x.1) (at_set s.views id j v d old))
          (λ (new : told.newcomer v ≡ d). subst (IsViewOf r.log j) new ((r.views id v here).0, λ i q there. absurd (some-ne-none q (sym there)))) (at_snoc (set s.views id v) (told.newcomer v) d j at);
    },
  )

  pub returns : (other : ℕ) (w : View) → CanMerge (ClosingHolds key) p id v other w v told.nothing
  returns other w s r = (
    0,
    (r.tail.0, r.tail.1 ∙ sym ep),
    λ here apart there. record {
      log = r.log;
      tail = r.tail;
      head = r.head;
      long = r.long;
      word = r.word;
      views = λ j d at. ⊎_elim (λ (x : (j ≡ other) × (told.nothing ≡ d)). subst (IsViewOf r.log j) x.1 ((r.log, refl), λ i q none. absurd (some-ne-none q (sym none))))
          (λ (x : (j ≢ other) × (get_elem? (set s.views id v) j ≡ some d)). ⊎_elim (λ (y : (j ≡ id) × (v ≡ d)). subst (λ (u : ℕ × View). IsViewOf r.log u.0 u.1) (λ i. (sym y.0 i, y.1 i)) (r.views id v here))
          (λ (y : (j ≢ id) × (get_elem? s.views j ≡ some d)). r.views j d y.1) (at_set s.views id j v d x.1)) (at_set (set s.views id v) other j told.nothing d at);
    },
  )

-- an open queue, whose two ends were laid one after the other
pub begins : {S : Type 0} (key : QueueEnds S) (none one two : List (Block S)) (x y : Block S) → none ≡ [] → one ≡ none ++ x ∷ [] → two ≡ one ++ y ∷ [] → x.alive ≡ true → y.alive ≡ true → x.at ≡ key.tail.ptr → y.at ≡ key.head.ptr
    → x.words ≡ replicate END_WORDS 0 → ClosingHolds key record { blocks = two; views = told.nothing ∷ [] }
begins key none one two x y e₀ e₁ e₂ x_lives y_lives tail head words = subst (λ (bs : List (Block _)). ClosingHolds key record { blocks = bs; views = told.nothing ∷ [] }) (sym (e₂ ∙ ap (λ bs. bs ++ y ∷ []) (e₁ ∙ ap (λ bs. bs ++ x ∷ []) e₀))) record {
  log = [];
  tail = (x_lives, tail);
  head = (y_lives, head);
  long = subst (λ (ns : List ℕ). 0 < length ns) (sym words) (lit< tt);
  word = ap (λ (ns : List ℕ). get_or ns 0 0) words;
  views = known;
}
  where
    known : (j : ℕ) (d : View) → get_elem? (told.nothing ∷ []) j ≡ some d → IsViewOf [] j d
    known zero d there = subst (IsViewOf [] 0) (some-injective told.nothing d there) (([], refl), λ i q at. absurd (some-ne-none q (sym at)))
    known (suc j) d there = absurd (some-ne-none d (sym there))
