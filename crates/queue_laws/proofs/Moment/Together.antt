-- The effects of a call stand together in what a history settles into.
use Rattle.std.proofs.Common.{◌≡◌, ℕ, ◌<◌, ◌≤◌, ◌&&◌, nat_lt, nat_le, Bool, true, false, List, [], ◌∷◌, ◌++◌, refl, ap, sym, ◌∙◌, subst, inl, inr, arith}
use Rattle.queue_laws.specs.{Common.Vocabulary.Effect, Moment.Moments.others, Moment.Shared.StandsTogether}
use Rattle.queue_laws.specs.Moment.Entries.{Entry, front_first, fronts_at, other_first, other_entries, settle_first, settle, own_of}
use Rattle.queue_laws.proofs.Moment.{Naming.entry, Choosing.bool_or, Choosing.chosen_yes, Choosing.chosen_not, Owning.IsFew, Owning.head_of}

pub within_is : (b : Bool) (from upto n : ℕ) → (b && (nat_le from n && nat_lt n upto)) ≡ true → (from ≤ n) × (n < upto)
within_is true from upto n is = (grind arith, grind arith)
within_is false from upto n is = cc

module _ {T : Type 0} where
  -- right behind each front is its arrive, of the same event and party
  abbrev pub Paired : List (Entry T) → Type 0
  Paired [] = Unit {0}
  Paired (x ∷ xs) = ((old v : T) → x.effect ≡ Effect.Front old v → (ys : List (Entry T)) × (xs ≡ record x { effect = Effect.Arrive } ∷ ys)) × Paired xs

  plain_paired : (n p : ℕ) (e : Effect T) (ys : List (Entry T)) → others (e ∷ []) ≡ e ∷ [] → Paired ys → Paired (entry n p e ∷ ys)
  plain_paired n p e ys plain all = (
    λ old v is. absurd (
        let no : [] ≡ Effect.Front old v ∷ [] = sym (ap (λ (d : Effect T). others (d ∷ [])) is) ∙ (plain ∙ ap (λ (d : Effect T). d ∷ []) is) in cc
        ),
    all,
  )

  front_paired : (n p : ℕ) (old v : T) (ys : List (Entry T)) → Paired ys → Paired (entry n p (Effect.Front old v) ∷ entry n p Effect.Arrive ∷ ys)
  front_paired n p old v ys all = (λ a b is. (ys, refl), (λ a b is. absurd (let no : Effect.Arrive ≡ Effect.Front a b = is in cc), all))

  paired_append : (xs ys : List (Entry T)) → Paired xs → Paired ys → Paired (xs ++ ys)
  paired_append [] ys all more = more
  paired_append (x ∷ xs) ys all more = (λ old v is. let t = all.0 old v is in (t.0 ++ ys, ap (λ (l : List (Entry T)). l ++ ys) t.1), paired_append xs ys all.1 more)

  paired_behind : (xs ys : List (Entry T)) → Paired (xs ++ ys) → Paired ys
  paired_behind [] ys all = all
  paired_behind (x ∷ xs) ys all = paired_behind xs ys all.1

  fronts_named : (n k p : ℕ) (e : Effect T) (ys : List (Entry T)) → Paired ys → Paired (front_first n (entry k p e) e ys)
  fronts_named n k p (Effect.Front old v) ys all = front_paired n p old v ys all
  fronts_named n k p e ys all = all

  fronts_paired : (n : ℕ) (xs : List (Entry T)) → Paired (fronts_at n xs)
  fronts_paired n [] = tt
  fronts_paired n (x ∷ xs) = fronts_named n x.event x.party x.effect (fronts_at n xs) (fronts_paired n xs)

  others_named : (n p : ℕ) (e : Effect T) (ys : List (Entry T)) → Paired ys → Paired (other_first (entry n p e) e ys)
  others_named n p (Effect.Front old v) ys all = all
  others_named n p Effect.Arrive ys all = all
  others_named n p e ys all = plain_paired n p e ys refl all

  others_paired : (xs : List (Entry T)) → Paired (other_entries xs)
  others_paired [] = tt
  others_paired (x ∷ xs) = others_named x.event x.party x.effect (other_entries xs) (others_paired xs)

  settle_named : (n p : ℕ) (e : Effect T) (xs ys : List (Entry T)) → Paired ys → Paired (settle_first (entry n p e) e xs ys)
  settle_named n p (Effect.Front old v) xs ys all = front_paired n p old v ys all
  settle_named n p Effect.Arrive xs ys all = all
  settle_named n p Effect.Close xs ys all =
      paired_append (fronts_at n xs) (entry n p Effect.Close ∷ other_entries xs) (fronts_paired n xs) (plain_paired n p Effect.Close (other_entries xs) refl (others_paired xs))
  settle_named n p e xs ys all = plain_paired n p e ys refl all

  pub settle_paired : (xs : List (Entry T)) → Paired (settle xs)
  settle_paired [] = tt
  settle_paired (x ∷ xs) = settle_named x.event x.party x.effect xs (settle xs) (settle_paired xs)

  -- the first effect of a call
  record FirstOwn (own : ℕ → ℕ → Bool) (S : List (Entry T)) (e : Effect T) : Type 0 where
    before : List (Entry T)
    first : Entry T
    behind : List (Entry T)
    all : S ≡ before ++ (first ∷ behind)
    does : first.effect ≡ e
    passes : own first.party first.event ≡ true

  first_own : (own : ℕ → ℕ → Bool) (S : List (Entry T)) (e : Effect T) (es : List (Effect T)) → own_of own S ≡ e ∷ es → FirstOwn own S e
  first_own own [] e es is = absurd (cc)
  first_own own (x ∷ xs) e es is =
      elim (bool_or (own x.party x.event)) [
        | inl pass ↦ record {
          before = [];
          first = x;
          behind = xs;
          all = refl;
          does = head_of (own_of own xs) es x.effect e (sym (chosen_yes (λ y. own y.party y.event) x xs pass) ∙ is);
          passes = pass;
        }
        | inr other ↦
            let more = first_own own xs e es (sym (chosen_not (λ y. own y.party y.event) x xs other) ∙ is) in
            record { before = x ∷ more.before; first = more.first; behind = more.behind; all = ap (λ (l : List (Entry T)). x ∷ l) more.all; does = more.does; passes = more.passes }
      ]

  pub stands_together : (own : ℕ → ℕ → Bool) (S : List (Entry T)) (from upto : ℕ) (es : List (Effect T)) → Paired S → IsFew es → own_of own S ≡ es
      → ((p n : ℕ) → own p n ≡ true → (from ≤ n) × (n < upto)) → StandsTogether S own from upto es
  stands_together own S from upto es pairs (inl none) is inside = record { before = []; own = []; behind = S; all = refl; effects = sym none; whole = is; its = tt; inside = tt }
  stands_together own S from upto es pairs (inr (inl one)) is inside =
      let f = first_own own S one.0 [] (is ∙ one.1) in
      record {
        before = f.before;
        own = f.first ∷ [];
        behind = f.behind;
        all = f.all;
        effects = ap (λ (e : Effect T). e ∷ []) f.does ∙ sym one.1;
        whole = is;
        its = (f.passes, tt);
        inside = (inside f.first.party f.first.event f.passes, tt);
      }
  stands_together own S from upto es pairs (inr (inr two)) is inside =
      let front : Effect T = Effect.Front two.0 two.1 in
      let f = first_own own S front (Effect.Arrive ∷ []) (is ∙ two.2) in
      let behind : Paired (f.first ∷ f.behind) = paired_behind f.before (f.first ∷ f.behind) (subst Paired f.all pairs) in
      let arrive = behind.0 two.0 two.1 f.does in
      let here = inside f.first.party f.first.event f.passes in
      record {
        before = f.before;
        own = f.first ∷ record f.first { effect = Effect.Arrive } ∷ [];
        behind = arrive.0;
        all = f.all ∙ ap (λ (l : List (Entry T)). f.before ++ (f.first ∷ l)) arrive.1;
        effects = ap (λ (e : Effect T). e ∷ Effect.Arrive ∷ []) f.does ∙ sym two.2;
        whole = is;
        its = (f.passes, (f.passes, tt));
        inside = (here, (here, tt));
      }
