-- A party never has a spare but that in its call's hands.
use Rattle.std.proofs.Common.{ℕ, ◌+◌, ◌/◌, ◌≡◌, ◌==◌, ◌∙◌, inl, inr, zero, suc, Bool, true, false, if◌then◌else◌, Option, Some, None, List, ◌∷◌, refl, sym, subst}
use Rattle.queue_laws.specs.Common.{Vocabulary.Call, Vocabulary.Effect, Vocabulary.Answer, Vocabulary.Next, Vocabulary.PushKind, Vocabulary.BLOCK_SLOTS, Vocabulary.Look, Effects.with_effect, Pushes.pushes, Stand.Stand}
use Rattle.queue_laws.specs.Chain.{ChainCells.Spare, ChainCells.Chained, ChainCells.Chain, ChainCells.queue_of, ChainCells.item_at, ChainCells.ChainOk, ChainTransitions.laid_out, ChainTransitions.written, ChainTransitions.marked, ChainTransitions.renamed, ChainTransitions.walk_after}
use Rattle.queue_laws.specs.Chain.{ChainTransitions.walked, ChainTransitions.given_up, ChainFacts.head_of, ChainFacts.open_tail_of, ChainFacts.HasSpare, ChainAnswers.Answers, ChainAnswers.tail_word, ChainAnswers.head_word, ChainAnswers.last_of, ChainAnswers.is_done, ChainAfter.if_installed}
use Rattle.queue_laws.specs.Chain.{ChainAfter.claimed_if, ChainAfter.if_claimed, ChainAfter.taken_if, ChainAfter.chain_of, ChainAfter.carried_of, ChainAfter.if_granted, ChainAfter.after_of, ChainPasses.spare_in, ChainPasses.Spares}
use Rattle.queue_steps.specs.{State.State, Looks.call_of_look, ChainWords.offset_of, declared.steps.chain.ChainLocal.ChainLocal as chain}
use Rattle.queue_steps.specs.ChainNext.{chain_next, chain_tail_found, tail_block_found, asks, claims, granted, lays, writes}
use Rattle.queue_laws.proofs.{Common.Puts.put_ok, Chain.ChainPush.tail_ways, Chain.ChainPush.none_spare, Chain.ChainStepOk.NextOk, Chain.ChainGiven.spares_given, Chain.ChainGiven.none_given, Chain.ChainStep.step_good}
use Rattle.queue_laws.specs.Chain.ChainAt.{At, push_tail, push_block, asking, installing, showing, claiming, laying, opening, chaining, writing, spending, taking, walking, count_tail, count_head, count_again}

-- whether the call pushes
abbrev is_push : {A : Type 0} → Call A → Bool
is_push (Call.Push v) = true
is_push (Call.ForcePush v) = true
is_push _ = false

-- after a step the party has no spare but that in its hands; after a reply, none
abbrev pub SparesAfter : {A : Type 0} → Chain A → ℕ → Next ℕ → Type 0
SparesAfter s who (Next.Step l t o) = Spares s who (spare_in l)
SparesAfter s who (Next.Reply x spare) = Spares (given_up s spare) who None

look_is : (A : Type 0) (g : Look) → is_push (call_of_look {T = A} g) ≡ false
look_is A Look.Len = refl
look_is A g = refl

push_is : {A : Type 0} (d : PushKind) (v : A) → is_push (pushes d v) ≡ true
push_is PushKind.Push v = refl
push_is PushKind.Force v = refl

no_push : {A : Type 0} (d : PushKind) (v : A) (X : Type 0) → is_push (pushes d v) ≡ false → X
no_push d v X e = let z : true ≡ false = sym (push_is d v) ∙ e in cc

-- a call that is no push has no spare in its hands
no_spare : {A : Type 0} {c : Chain A} {who : ℕ} {ms : List (State A)} {k : Stand A} → At c who ms k → is_push k.call ≡ false → spare_in k.local ≡ None
no_spare (push_tail d x spare none spare_is) e = no_push d x (spare ≡ None) e
no_spare (push_block d x spare q none spare_is saw) e = no_push d x (spare ≡ None) e
no_spare (installing d x f none saw fresh) e = no_push d x (Some f ≡ None) e
no_spare (claiming d x q name spare none spare_is saw block enough) e = no_push d x (spare ≡ None) e
no_spare (laying d x n name f holds mine lays fresh) e = no_push d x (Some f ≡ None) e
no_spare (writing d x n name spare holds mine spare_is) e = no_push d x (spare ≡ None) e
no_spare (spending d x spare none spare_is spent) e = no_push d x (spare ≡ None) e
no_spare _ e = refl

others_spares : {A : Type 0} (s : Chain A) (who : ℕ) (ms : List (State A)) (n : Next ℕ) (v : Option A) (k : Call A) (es : List (Effect A)) → is_push k ≡ false → NextOk s who ms n v k es → Spares s who None → SparesAfter s who n
others_spares s who ms (Next.Step l t o) v k es other_call at only = subst (λ x. Spares s who x) (sym (no_spare at other_call)) only
others_spares s who ms (Next.Reply x spare) v k es other_call goes only = none_given s who spare only

tail_spares : {A : Type 0} (s : Chain A) (who : ℕ) (d : PushKind) (x : ℕ) (spare : Option ℕ) → Spares s who spare → SparesAfter s who (chain_tail_found d x spare)
tail_spares s who d x spare only = tail_ways d x spare (λ n. SparesAfter s who n) (λ shut. spares_given s who spare only) (λ opened spent. only) (λ over. only) (λ opened ne inner. only)

block_spares : {A : Type 0} (c : Chain A) (who : ℕ) (d : PushKind) (tail : ℕ) (spare : Option ℕ) (n : ℕ) → c.blocks ≡ n → HasSpare c who spare → Spares c who spare → SparesAfter c who (tail_block_found d tail (last_of c.names n) spare)
block_spares c who d tail spare zero e has only = subst (λ x. Spares c who x) (none_spare c who spare e has) only
block_spares c who d tail (Some f) (suc b) e has only = only
block_spares {A} c who d tail None (suc b) e has only = go (offset_of tail + 1 == BLOCK_SLOTS)
  where
    go : (t : Bool) → SparesAfter c who (if t then asks d tail (Some (c.names b)) else claims d tail (c.names b) None)
    go true = only
    go false = only

granted_spares : {A : Type 0} (c : Chain A) (who : ℕ) (d : PushKind) (tail : ℕ) (block : Option ℕ) (f : ℕ) → Spares c who None → SparesAfter (renamed c f (Spare who)) who (granted d tail block f)
granted_spares {A} c who d tail block f only = go block
  where
    mine : Spares (renamed c f (Spare who)) who (Some f)
    mine g = put_ok c.uses f g (Spare who) (λ j u. u ≡ Spare who → Some f ≡ Some j) (λ e. refl) (λ ne e. let z = only g e in cc)

    go : (block : Option ℕ) → SparesAfter (renamed c f (Spare who)) who (granted d tail block f)
    go None = mine
    go (Some name) = mine

-- a spare that became the chain's is no spare
laid_spares : {A : Type 0} (c : Chain A) (who f b : ℕ) → Spares c who (Some f) → Spares (renamed c f (Chained b)) who None
laid_spares c who f b only g = put_ok c.uses f g (Chained b) (λ j u. u ≡ Spare who → None ≡ Some j) (λ e. let z : Chained b ≡ Spare who = e in cc) (λ ne e. absurd (ne (let z = only g e in cc)))

installed_spares : {A : Type 0} (c : Chain A) (who : ℕ) (d : PushKind) (f n : ℕ) → Spares c who (Some f) → SparesAfter (if_installed c who f n) who (chain_next (chain.Installing d (open_tail_of 0) f) (Answer.Linked (last_of c.names n)))
installed_spares c who d f zero only = laid_spares c who f c.blocks only
installed_spares c who d f (suc b) only = only

claimed_uses : {A : Type 0} (c : Chain A) (who : ℕ) (v : A) (same last : Bool) (spare : Option ℕ) → Spares c who spare → Spares (claimed_if c who v same last) who spare
claimed_uses c who v true true spare only = only
claimed_uses c who v same last spare only = only

taken_uses : {A : Type 0} (c : Chain A) (who : ℕ) (more same last : Bool) → Spares c who None → Spares (taken_if c who more same last) who None
taken_uses c who more true true only = only
taken_uses c who more same last only = only

claimed_spares : {A : Type 0} (s : Chain A) (who : ℕ) (d : PushKind) (tail name found : ℕ) (spare : Option ℕ) → Spares s who spare → SparesAfter s who (chain_next (chain.Claiming d tail name spare) (Answer.Found found))
claimed_spares {A} s who d tail name found spare only = go (found == tail) (offset_of tail + 1 == BLOCK_SLOTS)
  where
    laid : (x : Option ℕ) → Spares s who x → SparesAfter s who (lays d tail name x)
    laid None h = h
    laid (Some f) h = h

    go : (same last : Bool) → SparesAfter s who (if same then (if last then lays d tail name spare else writes d tail name spare) else chain_tail_found d found spare)
    go true true = laid spare only
    go true false = only
    go false last = tail_spares s who d found spare only

if_uses : {A : Type 0} (c s : Chain A) (who : ℕ) (t : Bool) → Spares c who None → Spares s who None → Spares (if t then s else c) who None
if_uses c s who true a b = b
if_uses c s who false a b = a

-- the step of a call that is no push makes no spare
others_uses : {A : Type 0} {c : Chain A} {who : ℕ} {ms : List (State A)} {k : Stand A} (at : At c who ms k) (a : Answer ℕ)
    → is_push k.call ≡ false → Spares c who None → Spares (after_of at a) who None
others_uses {c = c} {who = who} (asking d x q block none saw asked) a other_call only = no_push d x (Spares (if_granted c who a) who None) other_call
others_uses {c = c} {who = who} (installing d x f none saw fresh) a other_call only = no_push d x (Spares (if_installed c who f c.blocks) who None) other_call
others_uses {c = c} {who = who} (claiming d x q name spare none spare_is saw block enough) a other_call only = no_push d x (Spares (if_claimed c who q x) who None) other_call
others_uses {c = c} {who = who} (laying d x n name f holds mine lays fresh) a other_call only = no_push d x (Spares (laid_out c who f) who None) other_call
others_uses {c = c} {who = who} (taking n name next more new none is front there word_is room) a other_call only = taken_uses c who new (head_word c == head_of n more) (offset_of (head_of n more) + 1 == BLOCK_SLOTS) only
others_uses {c = c} {who = who} (walking x b name slot holds is named) a other_call only = if_uses c (walked c b (walk_after who slot)) who (is_done (c.readers (item_at b slot))) only only
others_uses _ a other_call only = only

others_step : {A : Type 0} {c : Chain A} {who : ℕ} {ms : List (State A)} {k : Stand A} (at : At c who ms k) (a : Answer ℕ)
    → ChainOk c → Answers c k.op a → is_push k.call ≡ false → Spares c who None → SparesAfter (after_of at a) who (chain_next (chain_of k.local) a)
others_step {c = c} {who = who} {ms = ms} {k = k} at a ok found other_call only =
    let good = step_good at a ok found in
    others_spares (after_of at a) who (queue_of (after_of at a) ∷ ms) (chain_next (chain_of k.local) a) (carried_of at) k.call (with_effect k.effects good.e) other_call good.goes (others_uses at a other_call only)

-- after each step of its own the party has no spare but that in its hands
pub step_spares : {A : Type 0} {c : Chain A} {who : ℕ} {ms : List (State A)} {k : Stand A} (at : At c who ms k) (a : Answer ℕ)
    → ChainOk c → Answers c k.op a → Spares c who (spare_in k.local) → SparesAfter (after_of at a) who (chain_next (chain_of k.local) a)
step_spares {c = c} {who = who} (push_tail d x spare none spare_is) a ok found only = rw found (tail_spares c who d (tail_word c) spare only)
step_spares {c = c} {who = who} (push_block d x spare q none spare_is saw) a ok found only = rw found (block_spares c who d (open_tail_of q) spare c.blocks refl spare_is only)
step_spares {c = c} {who = who} (asking d x q block none saw asked) a ok (inl refused) only = rw refused only
step_spares {c = c} {who = who} (asking d x q block none saw asked) a ok (inr granted) only = rw (granted.1) (granted_spares c who d (open_tail_of q) block granted.0 only)
step_spares {c = c} {who = who} (installing d x f none saw fresh) a ok found only = rw found (installed_spares c who d f c.blocks only)
step_spares (showing d x name first saw is named) a ok found only = rw found only
step_spares {c = c} {who = who} (claiming d x q name spare none spare_is saw block enough) a ok found only =
    rw found (claimed_spares (if_claimed c who q x) who d (open_tail_of q) name (tail_word c) spare (claimed_uses c who x (tail_word c == open_tail_of q) (offset_of (open_tail_of q) + 1 == BLOCK_SLOTS) spare only))
step_spares {c = c} {who = who} (laying d x n name f holds mine lays fresh) a ok found only = rw found (laid_spares c who f c.blocks only)
step_spares (opening d x n name f holds mine opens links named) a ok found only = rw found only
step_spares (chaining d x n name f holds mine links named) a ok found only = rw found only
step_spares {c = c} {who = who} (writing d x n name spare holds mine spare_is) a ok found only = rw ((found (n / BLOCK_SLOTS) mine.named).1) (spares_given (written c n x) who spare only)
step_spares {c = c} {who = who} (spending d x spare none spare_is spent) a ok found only = rw found (spares_given (marked c) who spare only)
step_spares {ms = ms} (count_tail g count none) a ok found only = others_step {ms = ms} (count_tail g count none) a ok found (look_is _ g) only
step_spares {ms = ms} (count_head g w count none small low) a ok found only = others_step {ms = ms} (count_head g w count none small low) a ok found (look_is _ g) only
step_spares (count_again g w h count none small seen) a ok found only = others_step (count_again g w h count none small seen) a ok found (look_is _ g) only
step_spares at a ok found only = others_step at a ok found refl only
