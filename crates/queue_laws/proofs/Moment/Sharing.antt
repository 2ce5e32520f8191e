-- A shared call stands in what the history of its queue settles into.
use Rattle.std.proofs.Common.{◌≡◌, ◌⊎◌, ℕ, zero, suc, ◌+◌, ◌<◌, ◌≤◌, ◌&&◌, ◌||◌, nat_lt, nat_le, Bool, true, false, Option, List, [], ◌∷◌, ◌++◌, length, refl, ap, sym, ◌∙◌, subst, inl, inr, arith, append-nil, append_assoc, length-append}
use Rattle.std.specs.List.{All, AllPairs, AllByRecursion}
use Rattle.std.proofs.lemmas.{List.Elements.All-nil, List.Elements.All-cons, List.Kept.AllPairs-cons, Bool.Decides.eqb_tells}
use mathlib.Core.Option.{some, some-injective}
use mathlib.Core.List.{IsPrefix}
use lib.ListN.{get_elem?}
use Rattle.queue_steps.specs.{State.State, State.start, Effect.IsHistory, Effect.after, Replies.Allows, Replies.Tells, Parties.View, Parties.StandAt, Parties.Displaces, Parties.SharedCall}
use Rattle.queue_laws.specs.{Common.Vocabulary.Call, Common.Vocabulary.Reply, Common.Vocabulary.Effect, Moment.Moments.arrived, Moment.Moments.displacements, Moment.Entries.Entry, Moment.Entries.chosen, Moment.Entries.effects_in, Moment.Entries.state_before, Moment.Entries.SeesNoMove}
use Rattle.queue_laws.specs.Moment.{Entries.KeepsFronts, Entries.own_of, Entries.SettlesInto, Shared.numbered, Shared.settled_history, Shared.is_one_of, Shared.is_own, Shared.CallsAtOnce, Shared.SharedCallsAtOnce}
use Rattle.queue_steps.proofs.Places.{below_at}
use Rattle.queue_laws.proofs.Moment.{Naming.Rising, Choosing.bool_or, Choosing.chosen_yes, Choosing.chosen_not, Histories.histories_settle, Shut.closed_within, Together.within_is, Together.settle_paired, Together.stands_together, Glances.cases_before, Glances.middle_or}
use Rattle.queue_laws.proofs.Moment.Owning.{IsFew, is_few, head_of, tail_of}

within_all : (a b k : ℕ) → a ≤ k → k < b → (nat_le a k && nat_lt k b) ≡ true
within_all a b k le lt = grind arith

is_early : (n k m : ℕ) → k < n → nat_lt k n ≡ true
is_early n k m lt = grind arith

is_late : (n k : ℕ) → n ≤ k → nat_lt k n ≡ false
is_late n k le = grind arith

same_place : (p q : ℕ) → is_one_of (p ∷ []) q ≡ true → p ≡ q
same_place p q is = elim (eqb_tells p q) [ inl e ↦ e.1 | inr e ↦ absurd (let no_one : is_one_of (p ∷ []) q ≡ false = ap (λ (b : Bool). b || false) e.0 in cc) ]

first_or_rest : (p : ℕ) (ps : List ℕ) (q : ℕ) → is_one_of (p ∷ ps) q ≡ true → (p ≡ q) ⊎ (is_one_of ps q ≡ true)
first_or_rest p ps q is = elim (eqb_tells p q) [ inl e ↦ inl e.1 | inr e ↦ inr (sym (ap (λ (b : Bool). b || is_one_of ps q) e.0) ∙ is) ]

is_first : (p : ℕ) (ps : List ℕ) (q : ℕ) → p ≡ q → is_one_of (p ∷ ps) q ≡ true
is_first p ps q is = elim (eqb_tells p q) [ inl e ↦ ap (λ (b : Bool). b || is_one_of ps q) e.0 | inr e ↦ absurd (e.1 is) ]

not_first : (p : ℕ) (ps : List ℕ) (q : ℕ) → p < q → is_one_of (p ∷ ps) q ≡ is_one_of ps q
not_first p ps q lt = elim (eqb_tells p q) [ inl e ↦ absurd (omega (arith, lt, e.1)) | inr e ↦ ap (λ (b : Bool). b || is_one_of ps q) e.0 ]

module _ {T : Type 0} where
  elem_more : (t d : List (Effect T)) (p : ℕ) (e : Effect T) → get_elem? t p ≡ some e → get_elem? (t ++ d) p ≡ some e
  elem_more [] d p e is = absurd (let lt = below_at [] p e is in omega (arith, lt))
  elem_more (x ∷ t) d zero e is = is
  elem_more (x ∷ t) d (suc p) e is = elem_more t d p e is

  elem_next : (s d : List (Effect T)) (x : Effect T) → get_elem? (s ++ x ∷ d) (length s) ≡ some x
  elem_next [] d x = refl
  elem_next (y ∷ s) d x = elem_next s d x

  stand_more : (t d : List (Effect T)) (n : ℕ) (ps : List ℕ) (es : List (Effect T)) → StandAt t n ps es → StandAt (t ++ d) n ps es
  stand_more t d n [] [] st = tt
  stand_more t d n (p ∷ ps) (e ∷ es) st = (st.0, elem_more t d p e st.1, stand_more t d (p + 1) ps es st.2)
  stand_more t d n ps es st = absurd st

  -- a place of the call is in what was seen, past what was seen before
  place_inside : (t : List (Effect T)) (n : ℕ) (ps : List ℕ) (es : List (Effect T)) → StandAt t n ps es → (q : ℕ) → is_one_of ps q ≡ true → (n ≤ q) × (q < length t)
  place_inside t n [] [] st q has = cc
  place_inside t n (p ∷ ps) (e ∷ es) st q has =
      elim (first_or_rest p ps q has) [
        | inl is ↦ let lt = below_at t p e st.1 in (omega (arith, st.0, is), omega (arith, lt, is))
        | inr more ↦ let there = place_inside t (p + 1) ps es st.2 q more in (omega (arith, st.0, there.0), there.1)
      ]
  place_inside t n ps es st q has = absurd st

  chosen_same : (f g : Entry T → Bool) (xs : List (Entry T)) → AllByRecursion (λ x. f x ≡ g x) xs → chosen f xs ≡ chosen g xs
  chosen_same f g [] all = refl
  chosen_same f g (x ∷ xs) all =
      elim (bool_or (g x)) [
        | inl e ↦ chosen_yes f x xs (all.0 ∙ e) ∙ (ap (λ (l : List (Effect T)). x.effect ∷ l) (chosen_same f g xs all.1) ∙ sym (chosen_yes g x xs e))
        | inr e ↦ chosen_not f x xs (all.0 ∙ e) ∙ (chosen_same f g xs all.1 ∙ sym (chosen_not g x xs e))
      ]

  abbrev at_places : List ℕ → Entry T → Bool
  at_places ps x = is_one_of ps x.event

  no_places : (xs : List (Entry T)) → chosen (at_places []) xs ≡ []
  no_places [] = refl
  no_places (x ∷ xs) = no_places xs

  places_from : (p k : ℕ) (ps : List ℕ) (es : List (Effect T)) → p < k → AllByRecursion (λ x. at_places (p ∷ ps) x ≡ at_places ps x) (numbered k es)
  places_from p k ps [] lt = tt
  places_from p k ps (e ∷ es) lt = (not_first p ps k lt, places_from p (k + 1) ps es (omega (arith, lt)))

  none_yet : (t : List (Effect T)) (k : ℕ) (ps : List ℕ) (es : List (Effect T)) → StandAt t (k + 1) ps es → is_one_of ps k ≡ false
  none_yet t k ps es st = elim (bool_or (is_one_of ps k)) [ inl e ↦ absurd (let in_it = place_inside t (k + 1) ps es st k e in omega (arith, in_it.0)) | inr e ↦ e ]

  -- what stands at the places of the call are its effects
  places_hold : (t : List (Effect T)) (k : ℕ) (pre l : List (Effect T)) (ps : List ℕ) (es : List (Effect T)) → t ≡ pre ++ l → k ≡ length pre → StandAt t k ps es → chosen (at_places ps) (numbered k l) ≡ es
  places_hold t k pre l [] [] is len st = no_places (numbered k l)
  places_hold t k pre [] (p ∷ ps) (e ∷ es) is len st =
      let lt = below_at t p e st.1 in let long : length t ≡ length pre = ap length (is ∙ append-nil pre) in absurd (omega (arith, lt, st.0, long, len))
  places_hold t k pre (x ∷ l) (p ∷ ps) (e ∷ es) is len st =
      let next : t ≡ (pre ++ x ∷ []) ++ l = is ∙ sym (append_assoc pre (x ∷ []) l) in
      let more : k + 1 ≡ length (pre ++ x ∷ []) = let long = length-append pre (x ∷ []) in omega (arith, len, long) in
      let y : Entry T = record { event = k; party = k; effect = x } in
      elim (eqb_tells p k) [
        | inl same ↦
            let here : get_elem? t p ≡ some x = ap (get_elem? t) (same.1 ∙ len) ∙ (ap (λ (s : List (Effect T)). get_elem? s (length pre)) is ∙ elem_next pre l x) in
            let it : x ≡ e = some-injective x e (sym here ∙ st.1) in
            let st' : StandAt t (k + 1) ps es = subst (λ (n : ℕ). StandAt t (n + 1) ps es) same.1 st.2 in
            chosen_yes (at_places (p ∷ ps)) y (numbered (k + 1) l) (is_first p ps k same.1)
            ∙ (λ i. it i ∷ (chosen_same (at_places (p ∷ ps)) (at_places ps) (numbered (k + 1) l) (places_from p (k + 1) ps l (omega (arith, same.1))) ∙ places_hold t (k + 1) (pre ++ x ∷ []) l ps es next more st') i)
        | inr other ↦
            let later : k + 1 ≤ p = let le = st.0 in let ne = other.1 in omega (arith, le, ne) in
            let st' : StandAt t (k + 1) (p ∷ ps) (e ∷ es) = (later, st.1, st.2) in
            chosen_not (at_places (p ∷ ps)) y (numbered (k + 1) l) (none_yet t k (p ∷ ps) (e ∷ es) st') ∙ places_hold t (k + 1) (pre ++ x ∷ []) l (p ∷ ps) (e ∷ es) next more st'
      ]
  places_hold t k pre l ps es is len st = absurd st

  -- an entry of the history is at its own place
  record Placed (h : List (Effect T)) (x : Entry T) : Type 0 where
    own : x.party ≡ x.event
    there : get_elem? h x.event ≡ some x.effect

  all_placed : (h : List (Effect T)) (k : ℕ) (pre l : List (Effect T)) → h ≡ pre ++ l → k ≡ length pre → AllByRecursion (Placed h) (numbered k l)
  all_placed h k pre [] is len = tt
  all_placed h k pre (x ∷ l) is len =
      let next : h ≡ (pre ++ x ∷ []) ++ l = is ∙ sym (append_assoc pre (x ∷ []) l) in
      let more : k + 1 ≡ length (pre ++ x ∷ []) = let long = length-append pre (x ∷ []) in omega (arith, len, long) in
      (record { own = refl; there = ap (get_elem? h) len ∙ (ap (λ (s : List (Effect T)). get_elem? s (length pre)) is ∙ elem_next pre l x) }, all_placed h (k + 1) (pre ++ x ∷ []) l next more)

  effects_numbered : (k : ℕ) (h : List (Effect T)) → effects_in (numbered k h) ≡ h
  effects_numbered k [] = refl
  effects_numbered k (e ∷ h) = ap (λ (l : List (Effect T)). e ∷ l) (effects_numbered (k + 1) h)

  numbered_past : (m k : ℕ) (h : List (Effect T)) → m < k → All (λ y. m < y.event) (numbered k h)
  numbered_past m k [] lt = All-nil (λ y. m < y.event)
  numbered_past m k (e ∷ h) lt = All-cons (λ y. m < y.event) (record { event = k; party = k; effect = e }) (numbered (k + 1) h) lt (numbered_past m (k + 1) h (omega (arith, lt)))

  numbered_rise : (k : ℕ) (h : List (Effect T)) → AllPairs (λ x y. x.event < y.event) (numbered k h)
  numbered_rise k [] = λ i j d lt inside. absurd (omega arith)
  numbered_rise k (e ∷ h) =
      AllPairs-cons (λ x y. x.event < y.event) (record { event = k; party = k; effect = e }) (numbered (k + 1) h) (numbered_past k (k + 1) h (omega arith)) (numbered_rise (k + 1) h)

  none_past : (n k : ℕ) (h : List (Effect T)) → n ≤ k → chosen (λ x. nat_lt x.event n) (numbered k h) ≡ []
  none_past n k [] le = refl
  none_past n k (e ∷ h) le = chosen_not (λ x. nat_lt x.event n) (record { event = k; party = k; effect = e }) (numbered (k + 1) h) (is_late n k le) ∙ none_past n (k + 1) h (omega (arith, le))

  -- what stands before the place n is the beginning of n effects
  first_effects : (n k : ℕ) (s d : List (Effect T)) → n ≡ k + length s → chosen (λ x. nat_lt x.event n) (numbered k (s ++ d)) ≡ s
  first_effects n k [] d is = none_past n k d (omega (arith, is))
  first_effects n k (e ∷ s) d is =
      chosen_yes (λ x. nat_lt x.event n) (record { event = k; party = k; effect = e }) (numbered (k + 1) (s ++ d)) (is_early n k 0 (omega (arith, is)))
      ∙ ap (λ (l : List (Effect T)). e ∷ l) (first_effects n (k + 1) s d (omega (arith, is)))

  prefix_long : (s t : List (Effect T)) → IsPrefix s t → length s ≤ length t
  prefix_long s t (d, is) = let long = length-append s d in let same = ap length is in omega (arith, long, same)

  -- a close before a front of the call is past what its party had seen
  close_past : (limit : Option ℕ) (s t d : List (Effect T)) (n : ℕ) (ps : List ℕ) (es : List (Effect T)) → StandAt t n ps es → IsFew es → Displaces limit s t ps
      → (q : ℕ) → is_one_of ps q ≡ true → (old v : T) → get_elem? (t ++ d) q ≡ some (Effect.Front old v) → (k : ℕ) → get_elem? (t ++ d) k ≡ some Effect.Close → k < q → length s ≤ k
  close_past limit s t d n [] [] st few shows q has old v front k shut lt = cc
  close_past limit s t d n (p ∷ []) (e ∷ []) st few shows q has old v front k shut lt =
      let here : get_elem? (t ++ d) q ≡ some e = subst (λ (m : ℕ). get_elem? (t ++ d) m ≡ some e) (same_place p q has) (elem_more t d p e st.1) in
      let is : e ≡ Effect.Front old v = some-injective e (Effect.Front old v) (sym here ∙ front) in
      elim few [
        | inl none ↦ absurd (cc)
        | inr (inl one) ↦
            absurd (let never : Effect.Front old v ∷ Effect.Arrive ∷ [] ≡ [] = ap (λ (x : Effect T). displacements (x ∷ [])) (sym is ∙ head_of [] [] e one.0 one.1) ∙ one.2 in cc)
        | inr (inr two) ↦ absurd (let never : [] ≡ Effect.Arrive ∷ [] = tail_of [] (Effect.Arrive ∷ []) e (Effect.Front two.0 two.1) two.2 in cc)
      ]
  close_past limit s t d n (p ∷ r ∷ []) (e ∷ f ∷ []) st few shows q has old v front k shut lt =
      elim few [
        | inl none ↦ absurd (cc)
        | inr (inl one) ↦ absurd (let never : f ∷ [] ≡ [] = tail_of (f ∷ []) [] e one.0 one.1 in cc)
        | inr (inr two) ↦
            elim (first_or_rest p (r ∷ []) q has) [
              | inl same ↦
                  let g : List (Effect T) = shows.0.0 in let long = prefix_long s g shows.0.1 in let d' : List (Effect T) = shows.0.2.0 in
                  elim (cases_before k (length g)) [
                    | inl early ↦
                        let there : get_elem? (g ++ (d' ++ d)) k ≡ some Effect.Close = ap (λ (l : List (Effect T)). get_elem? l k) (sym (append_assoc g d' d) ∙ ap (λ (l : List (Effect T)). l ++ d) shows.0.2.1) ∙ shut in
                        let closed : (after limit g).closed ≡ true = closed_within (start limit 0) g (d' ++ d) k there early in
                        let free = shows.0.4 in absurd (cc)
                    | inr le ↦ omega (arith, le, long)
                  ]
              | inr more ↦
                  let here : get_elem? (t ++ d) q ≡ some f = subst (λ (m : ℕ). get_elem? (t ++ d) m ≡ some f) (same_place r q more) (elem_more t d r f st.2.1) in
                  let arrive : f ≡ Effect.Arrive = head_of [] [] f Effect.Arrive (tail_of (f ∷ []) (Effect.Arrive ∷ []) e (Effect.Front two.0 two.1) two.2) in
                  let is : f ≡ Effect.Front old v = some-injective f (Effect.Front old v) (sym here ∙ front) in absurd (cc)
            ]
      ]
  close_past limit s t d n (p ∷ r ∷ u ∷ ps) (e ∷ f ∷ g ∷ es) st few shows q has old v front k shut lt =
      elim few [
        | inl none ↦ absurd (cc)
        | inr (inl one) ↦ absurd (let never : f ∷ g ∷ es ≡ [] = tail_of (f ∷ g ∷ es) [] e one.0 one.1 in cc)
        | inr (inr two) ↦ absurd (let never : g ∷ es ≡ [] = tail_of (g ∷ es) [] f Effect.Arrive (tail_of (f ∷ g ∷ es) (Effect.Arrive ∷ []) e (Effect.Front two.0 two.1) two.2) in cc)
      ]
  close_past limit s t d n (p ∷ r ∷ ps) (e ∷ f ∷ es) st few shows q has old v front k shut lt = absurd st.2.2
  close_past limit s t d n (p ∷ ps) (e ∷ es) st few shows q has old v front k shut lt = absurd st.2
  close_past limit s t d n ps es st few shows q has old v front k shut lt = absurd st

  -- the entries of a history rise, each at its place
  numbered_rising : (k : ℕ) (h : List (Effect T)) → Rising k (numbered k h)
  numbered_rising k [] = tt
  numbered_rising k (e ∷ h) = (omega arith, numbered_rising (k + 1) h)

  fronts_alike : (own : ℕ → ℕ → Bool) (h : List (Effect T)) → ((q k : ℕ) (old v : T) → get_elem? h q ≡ some (Effect.Front old v) → get_elem? h k ≡ some Effect.Close → k < q → own q k ≡ own q q)
      → (x : Entry T) → get_elem? h x.event ≡ some Effect.Close → (m : ℕ) (ys : List (Entry T)) → x.event < m → Rising m ys → AllByRecursion (Placed h) ys → SeesNoMove own x.event ys
  fronts_alike own h alike x shut m [] lt up all = tt
  fronts_alike own h alike x shut m (y ∷ ys) lt up all = (
    λ old v front. let there : get_elem? h y.event ≡ some (Effect.Front old v) = all.0.there ∙ ap some front in
        ap (λ (p : ℕ). own p x.event) all.0.own ∙ (alike y.event x.event old v there shut (omega (arith, lt, up.0)) ∙ sym (ap (λ (p : ℕ). own p y.event) all.0.own)),
    fronts_alike own h alike x shut (y.event + 1) ys (omega (arith, lt, up.0)) up.1 all.1,
  )

  closes_within : (own : ℕ → ℕ → Bool) (h : List (Effect T)) → ((q k : ℕ) (old v : T) → get_elem? h q ≡ some (Effect.Front old v) → get_elem? h k ≡ some Effect.Close → k < q → own q k ≡ own q q)
      → (m : ℕ) (xs : List (Entry T)) → Rising m xs → AllByRecursion (Placed h) xs → KeepsFronts own xs
  closes_within own h alike m [] up all = tt
  closes_within own h alike m (x ∷ xs) up all =
      (λ is. fronts_alike own h alike x (all.0.there ∙ ap some is) (x.event + 1) xs (omega arith) up.1 all.1, closes_within own h alike (x.event + 1) xs up.1 all.1)

  -- what the call sees as its own is what stands at its places
  own_places : (a b : ℕ) (ps : List ℕ) (k : ℕ) (h : List (Effect T)) → ((q : ℕ) → is_one_of ps q ≡ true → (a ≤ q) × (q < b)) → AllByRecursion (λ x. is_own ps a b x.party x.event ≡ at_places ps x) (numbered k h)
  own_places a b ps k [] inside = tt
  own_places a b ps k (e ∷ h) inside = (
    elim (bool_or (is_one_of ps k)) [
      | inl yes_so ↦ let here = inside k yes_so in (λ i. yes_so i && within_all a b k here.0 here.1 i) ∙ sym yes_so
      | inr none ↦ (λ i. none i && (nat_le a k && nat_lt k b)) ∙ sym none
    ],
    own_places a b ps (k + 1) h inside,
  )

  stand_lower : (t : List (Effect T)) (n : ℕ) (ps : List ℕ) (es : List (Effect T)) → StandAt t n ps es → StandAt t 0 ps es
  stand_lower t n [] [] st = tt
  stand_lower t n (p ∷ ps) (e ∷ es) st = (omega arith, st.1, st.2)
  stand_lower t n ps es st = absurd st

  call_settles : (limit : Option ℕ) (h d : List (Effect T)) (v w : View T) (c : Call T) (r : Reply T) → SettlesInto limit (numbered 0 h) (settled_history h) → w.seen ++ d ≡ h → SharedCall limit v w c r → CallsAtOnce limit h v w c r
  call_settles limit h d v w c r settles is s =
      let a = length v.seen in let b = length w.seen in let own = is_own s.places a b in
      let inside = place_inside w.seen a s.places s.effects s.stand in
      let few = is_few c r s.effects s.tells in
      let at_h : StandAt h a s.places s.effects = subst (λ (l : List (Effect T)). StandAt l a s.places s.effects) is (stand_more w.seen d a s.places s.effects s.stand) in
      let all : AllByRecursion (Placed h) (numbered 0 h) = all_placed h 0 [] h refl refl in
      let alike : (q k : ℕ) (old x : T) → get_elem? h q ≡ some (Effect.Front old x) → get_elem? h k ≡ some Effect.Close → k < q → own q k ≡ own q q =
      λ q k old x front shut lt. elim (bool_or (is_one_of s.places q)) [
        | inl has ↦
            let here = inside q has in
            let past : a ≤ k = close_past limit v.seen w.seen d a s.places s.effects s.stand few s.displaces q has old x (subst (λ (l : List (Effect T)). get_elem? l q ≡ some (Effect.Front old x)) (sym is) front) k
            (subst (λ (l : List (Effect T)). get_elem? l k ≡ some Effect.Close) (sym is) shut) lt in
            ap (λ (t : Bool). is_one_of s.places q && t) (within_all a b k past (omega (arith, lt, here.1)) ∙ sym (within_all a b q here.0 here.1))
        | inr none ↦ (λ i. none i && (nat_le a k && nat_lt k b)) ∙ sym (λ i. none i && (nat_le a q && nat_lt q b))
      ] in
      let within : KeepsFronts own (numbered 0 h) = closes_within own h alike 0 (numbered 0 h) (numbered_rising 0 h) all in
      let places : own_of own (numbered 0 h) ≡ s.effects =
      chosen_same (λ x. own x.party x.event) (at_places s.places) (numbered 0 h) (own_places a b s.places 0 h inside)
      ∙ places_hold h 0 [] h s.places s.effects refl refl (stand_lower h a s.places s.effects at_h) in
      let same : own_of own (settled_history h) ≡ s.effects = settles.own own c r within (subst (Tells c r) (sym places) s.tells) ∙ places in
      record {
        places = s.places;
        mine = s.mine;
        effects = s.effects;
        own = same;
        together = stands_together own (settled_history h) a b s.effects (settle_paired (numbered 0 h)) few same (λ p n. within_is (is_one_of s.places p) a b n);
        tells = s.tells;
        right = λ none.
            let between = s.right none in let g : List (Effect T) = between.0 in let n = length g in
            let d' : List (Effect T) = between.2.0 in
            let begins : g ++ (d' ++ d) ≡ h = sym (append_assoc g d' d) ∙ (ap (λ (l : List (Effect T)). l ++ d) between.2.1 ∙ is) in
            let here : state_before limit (numbered 0 h) n ≡ after limit g = ap (λ (l : List (Effect T)). after limit (chosen (λ x. nat_lt x.event n) (numbered 0 l))) (sym begins) ∙ ap (after limit) (first_effects n 0 g (d' ++ d) (omega arith)) in
            elim (middle_or c (after limit g)) [
              | inl calm ↦
                  inl (n, prefix_long v.seen g between.1, prefix_long g w.seen between.2, settles.right n c r (subst (Allows c r) (sym here) between.3) (λ glance. ap (λ (Q : State T). Q.coming) here ∙ calm glance))
              | inr mid ↦ inr (mid.0, (g, between.1, between.2, (between.3, mid.1)))
            ];
      }

pub shared_calls_at_once : {T : Type 0} → SharedCallsAtOnce T
shared_calls_at_once {T} limit h legal =
    let settles : SettlesInto limit (numbered 0 h) (settled_history h) = histories_settle limit (numbered 0 h) (subst (IsHistory limit) (sym (effects_numbered 0 h)) legal) (numbered_rise 0 h) in
    (settles.legal, settles.left ∙ ap (λ (l : List (Effect T)). arrived (after limit l)) (effects_numbered 0 h), λ v w c r begins s. call_settles limit h begins.0 v w c r settles begins.1 s)
