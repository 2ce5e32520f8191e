-- What changes of one word, link or slot leave of the blocks of a web, and which changes of a chain leave its blocks as they are.
use Rattle.std.proofs.Common.{ℕ, ◌+◌, ◌<◌, ◌≤◌, ◌≡◌, ◌≢◌, ◌∙◌, inl, inr, Bool, true, false, Option, Some, List, length, refl, sym, ap, arith, set, slice_index_or, get_or-set_same, get_or-set_other, length-set}
use Rattle.std.proofs.{lemmas.List.set-get_or, Common.subst}
use mathlib.Core.Option.{some}
use mathlib.Core.Option as maybe
use lib.ListN.{get_elem?}
use denote.RawPtr.{Ptr, Testable}
use Rattle.queue_laws.specs.Common.{Vocabulary.Next, Vocabulary.BLOCK_SLOTS, Vocabulary.WRITE, Vocabulary.READ, Puts.put}
use Rattle.queue_laws.specs.Chain.ChainCells.{Writer, Free, Wrote, Reader, Unread, Done, Before, GivenUp, Unused, Spare, Chained, Use, Chain, item_at, LAST}
use Rattle.queue_laws.specs.Chain.{ChainFacts.IsNamed, ChainAnswers.linked_of, ChainAnswers.is_wrote, ChainAnswers.is_done, ChainAnswers.IsState, ChainTransitions.lost_of, ChainTransitions.renamed, ChainAfter.left_by}
use Rattle.queue_laws.proofs.{Common.Puts.put_ok, Chain.ChainAnswers.done_is, Chain.ChainSlots.wrote_alike, Chain.ChainSlots.SameSlot, Chain.ChainSlots.SameBlock, Chain.ChainSlots.state_kept}
use Rattle.mem_blocks.specs.Web.{Block, block, worded, linked, homed, gone, with_word, with_next, with_home, without, word_of, Home, Lives}
use Rattle.shared_chain.specs.{Spots.spot, ChainCalls.OutChain, Rule.home_of, Rule.plain_state, Rule.lead_of, Rule.EndIs, Rule.BlockIs, Rule.IsThere, Rule.IsUsed, Rule.Codes}

-- a state that no walk waited for, by whether the slot is written and read
abbrev plain_by : Bool → Bool → ℕ
plain_by true true = WRITE + READ
plain_by true false = WRITE
plain_by false d = 0

plain_tells : {A : Type 0} (w : Writer A) (r : Reader) → plain_state w r ≡ plain_by (is_wrote w) (is_done r)
plain_tells Free r = refl
plain_tells (Wrote v) Unread = refl
plain_tells w r = refl

plain_same : {A : Type 0} {c s : Chain A} {b i : ℕ} → SameSlot c s b i → plain_state (c.writers (item_at b i)) (c.readers (item_at b i)) ≡ plain_state (s.writers (item_at b i)) (s.readers (item_at b i))
plain_same {c = c} {s = s} {b = b} {i = i} same =
    let w = s.writers (item_at b i) in let x = c.writers (item_at b i) in
    plain_tells x (c.readers (item_at b i)) ∙ ((λ j. plain_by (sym (wrote_alike w x same.wrote) j) (sym same.done j)) ∙ sym (plain_tells w (s.readers (item_at b i))))

used_before : (u : Use) → IsUsed (lost_of u) → IsUsed u
used_before (Spare who) h = tt
used_before (Chained b) h = tt
used_before u h = h

module _ {A : Type 0} where
  -- the block k with another word i, and every other block
  pub word_here : (bs : List (Block A)) (k i n : ℕ) → k < length bs → block (with_word bs k i n) k ≡ worded (block bs k) i n
  word_here bs k i n lt = get_or-set_same bs k (worded (block bs k) i n) _ lt

  pub word_else : (bs : List (Block A)) (k i n j : ℕ) → j ≢ k → block (with_word bs k i n) j ≡ block bs j
  word_else bs k i n j ne = get_or-set_other bs k j (worded (block bs k) i n) _ ne

  -- a word that becomes what it was
  pub word_same : (bs : List (Block A)) (k i : ℕ) → with_word bs k i (word_of bs k i) ≡ bs
  word_same bs k i = ap (λ (x : Block A). set bs k x) (ap (λ (ns : List ℕ). record { at = (block bs k).at; alive = (block bs k).alive; next = (block bs k).next; words = ns; homes = (block bs k).homes }) (set-get_or (block bs k).words i 0)) ∙ set-get_or bs k _

  -- the block k with another link
  pub next_here : (bs : List (Block A)) (k : ℕ) (q : Ptr) → k < length bs → block (with_next bs k q) k ≡ linked (block bs k) q
  next_here bs k q lt = get_or-set_same bs k (linked (block bs k) q) _ lt

  pub next_else : (bs : List (Block A)) (k : ℕ) (q : Ptr) (j : ℕ) → j ≢ k → block (with_next bs k q) j ≡ block bs j
  next_else bs k q j ne = get_or-set_other bs k j (linked (block bs k) q) _ ne

  pub next_same : (bs : List (Block A)) (k : ℕ) → with_next bs k (block bs k).next ≡ bs
  next_same bs k = set-get_or bs k _

  -- an end that is the same block, one with another word, and one with another link
  pub end_as : {p : Ptr} {w v : ℕ} {l k : Option ℕ} {x y : Block A} → EndIs p w l x → y ≡ x → w ≡ v → lead_of l ≡ lead_of k → EndIs p v k y
  end_as e same word lead = record {
    lives = (ap (λ (z : Block A). z.alive) same ∙ e.lives.0, ap (λ (z : Block A). z.at) same ∙ e.lives.1);
    words = ap (λ (z : Block A). length z.words) same ∙ e.words;
    word = ap (λ (z : Block A). slice_index_or z.words 0 0) same ∙ e.word ∙ word;
    next = ap (λ (z : Block A). z.next) same ∙ e.next ∙ lead;
  }

  pub end_worded : {p : Ptr} {w : ℕ} {l : Option ℕ} {x : Block A} → EndIs p w l x → (v : ℕ) → EndIs p v l (worded x 0 v)
  end_worded {x = x} e v = record { lives = e.lives; words = length-set x.words 0 v ∙ e.words; word = get_or-set_same x.words 0 v 0 (omega (arith, e.words)); next = e.next }

  pub end_linked : {p : Ptr} {w : ℕ} {l k : Option ℕ} {x : Block A} → EndIs p w l x → (q : Ptr) → q ≡ lead_of k → EndIs p w k (linked x q)
  end_linked e q leads = record { lives = e.lives; words = e.words; word = e.word; next = leads }

  -- the block k with another slot j
  pub home_here : (bs : List (Block A)) (k j : ℕ) (h : Home A) → k < length bs → block (with_home bs k j h) k ≡ homed (block bs k) j h
  home_here bs k j h lt = get_or-set_same bs k (homed (block bs k) j h) _ lt

  pub home_else : (bs : List (Block A)) (k j : ℕ) (h : Home A) (i : ℕ) → i ≢ k → block (with_home bs k j h) i ≡ block bs i
  home_else bs k j h i ne = get_or-set_other bs k i (homed (block bs k) j h) _ ne

  -- the block k taken out
  pub gone_here : (bs : List (Block A)) (k : ℕ) → k < length bs → block (without bs k) k ≡ gone (block bs k)
  gone_here bs k lt = get_or-set_same bs k (gone (block bs k)) _ lt

  pub gone_else : (bs : List (Block A)) (k j : ℕ) → j ≢ k → block (without bs k) j ≡ block bs j
  gone_else bs k j ne = get_or-set_other bs k j (gone (block bs k)) _ ne

  -- the home of the slot i of the block b
  abbrev pub home_in : OutChain A → ℕ → ℕ → Home A
  home_in g b i = home_of (g.chain.writers (item_at b i)) (g.chain.readers (item_at b i)) (g.out (item_at b i))

  -- what is said of one slot of a block, where its state word is n and its home h
  pub record SlotIs (g : OutChain A) (b i n : ℕ) (h : maybe.Option (Home A)) : Type 0 where
    pub state : (i ≡ LAST → g.chain.readers (item_at b i) ≢ Done) → IsState g.chain b i n
    pub plain : g.chain.walks b ≡ Before → n ≡ plain_state (g.chain.writers (item_at b i)) (g.chain.readers (item_at b i))
    pub slot : h ≡ some (home_in g b i)

  pub slot_is : {g : OutChain A} {b : ℕ} {x : Block A} → BlockIs g b x → (i : ℕ) → i < BLOCK_SLOTS → SlotIs g b i (slice_index_or x.words i 0) (get_elem? x.homes i)
  slot_is is i low = record { state = is.state i low; plain = λ before. is.plain before i low; slot = is.slot i low }

  pub slots_are : {g : OutChain A} {b : ℕ} {x : Block A} → length x.words ≡ BLOCK_SLOTS → length x.homes ≡ BLOCK_SLOTS → ((i : ℕ) → i < BLOCK_SLOTS → SlotIs g b i (slice_index_or x.words i 0) (get_elem? x.homes i))
      → x.next ≡ lead_of (linked_of (g.chain.links b) (g.chain.names (b + 1))) → BlockIs g b x
  slots_are words homes each leads = record { words = words; homes = homes; state = λ i low. (each i low).state; plain = λ before i low. (each i low).plain before; slot = λ i low. (each i low).slot; linked = leads }

  -- the same of a slot that is the same, and whose home is h now
  pub slot_same : {g r : OutChain A} {b i n : ℕ} {h k : maybe.Option (Home A)} → SameSlot g.chain r.chain b i → (r.chain.walks b ≡ Before → g.chain.walks b ≡ Before) → SlotIs g b i n h → k ≡ some (home_in r b i) → SlotIs r b i n k
  slot_same {r = r} {b = b} {i = i} {n = n} same begun s home = record {
    state = λ ne. state_kept n same (s.state (λ last e. ne last (done_is (r.chain.readers (item_at b i)) (same.done ∙ ap is_done e))));
    plain = λ before. s.plain (begun before) ∙ plain_same same;
    slot = home;
  }

  -- where the chain's block b is the same, and these are the homes of its slots now, the block stands for it with them
  pub there_with : (g r : OutChain A) (b : ℕ) (x : Block A) (hs : List (Home A)) → SameBlock g.chain r.chain b → length hs ≡ length x.homes
      → ((i : ℕ) → i < BLOCK_SLOTS → length x.homes ≡ BLOCK_SLOTS → get_elem? x.homes i ≡ some (home_in g b i) → get_elem? hs i ≡ some (home_in r b i)) → IsThere g b x
      → IsThere r b (record { at = x.at; alive = x.alive; next = x.next; words = x.words; homes = hs })
  there_with g r b x hs s long home (lies, inl gone) = (lies ∙ ap spot (sym s.name), inl (s.walk ∙ gone.0, gone.1))
  there_with g r b x hs s long home (lies, inr on) = (
    lies ∙ ap spot (sym s.name),
    inr (
      (λ e. on.0 (sym s.walk ∙ e)),
      on.1,
      slots_are on.2.words (long ∙ on.2.homes) (λ i low. slot_same (s.slot i low) (λ e. sym s.walk ∙ e) (slot_is on.2 i low) (home i low on.2.homes (on.2.slot i low))) (on.2.linked ∙ ap lead_of (sym s.link)),
    ),
  )

  -- where its homes are the same too, the block stands for it as before
  pub there_same : (g r : OutChain A) (b : ℕ) (x : Block A) → SameBlock g.chain r.chain b → ((i : ℕ) → i < BLOCK_SLOTS → home_in r b i ≡ home_in g b i) → IsThere g b x → IsThere r b x
  there_same g r b x s same there = there_with g r b x x.homes s refl (λ i low long at. at ∙ ap (λ h. some h) (sym (same i low))) there

  -- where a name is used otherwise, the blocks stand for the chain as before
  pub codes_renamed : (tail_end head_end : Ptr) (g : OutChain A) (f : ℕ) (u : Use) (bs : List (Block A)) → Codes tail_end head_end g bs
      → ((j : ℕ) → IsUsed (put g.chain.uses f u j) → Testable (spot j)) → (n : ℕ) × ((j : ℕ) → n ≤ j → put g.chain.uses f u j ≡ Unused)
      → Codes tail_end head_end (record { chain = renamed g.chain f u; out = g.out }) bs
  codes_renamed tail_end head_end g f u bs codes tested fresh = record {
    tail = codes.tail;
    head = codes.head;
    size = codes.size;
    there = λ b lt. there_same g (record { chain = renamed g.chain f u; out = g.out }) b (block bs (b + 2))
        (record { name = refl; link = refl; walk = refl; slot = λ i low. record { wrote = refl; done = refl; waits = refl } }) (λ i low. refl) (codes.there b lt);
    tested = tested;
    fresh = fresh;
  }

  -- a block that a reply gives up is a spare, or left the web before
  pub codes_left : (tail_end head_end : Ptr) (c : Chain A) (out : ℕ → Bool) (bs : List (Block A)) (n : Next ℕ) → Codes tail_end head_end (record { chain = c; out = out }) bs → Codes tail_end head_end (record { chain = left_by c n; out = out }) bs
  codes_left tail_end head_end c out bs (Next.Reply x (Some f)) codes =
      codes_renamed tail_end head_end (record { chain = c; out = out }) f (lost_of (c.uses f)) bs codes
      (λ g used. codes.tested g (put_ok c.uses f g (lost_of (c.uses f)) (λ j u. IsUsed u → IsUsed (c.uses j)) (used_before (c.uses f)) (λ ne h. h) used))
      (codes.fresh.0, λ g le. put_ok c.uses f g (lost_of (c.uses f)) (λ j u. c.uses j ≡ Unused → u ≡ Unused) (λ e. ap lost_of e) (λ ne e. e) (codes.fresh.1 g le))
  codes_left tail_end head_end c out bs n codes = codes

  -- the block b of the chain, which is not given up
  pub alive_is : (tail_end head_end : Ptr) (g : OutChain A) (bs : List (Block A)) (b : ℕ) → Codes tail_end head_end g bs → b < g.chain.blocks → g.chain.walks b ≢ GivenUp
      → Lives bs (b + 2) (spot (g.chain.names b)) × BlockIs g b (block bs (b + 2))
  alive_is tail_end head_end g bs b codes lt on = let t = codes.there b lt in elim (t.1) [ inl h ↦ absurd (on h.0) | inr h ↦ ((h.1, t.0), h.2) ]

  -- the same by the name of the block
  pub named_alive : {te he : Ptr} {g : OutChain A} {bs : List (Block A)} {b name : ℕ} → Codes te he g bs → IsNamed g.chain b name → g.chain.walks b ≢ GivenUp → Lives bs (b + 2) (spot name) × BlockIs g b (block bs (b + 2))
  named_alive {te = te} {he = he} {g = g} {bs = bs} {b = b} codes named on = let h = alive_is te he g bs b codes named.0 on in (subst (λ f. Lives bs (b + 2) (spot f)) (sym named.1) h.0, h.1)
