-- A call on a chain that has had no effect yet has no part of the chain but its spare, and still carries its own value: so its party may give it up.
use Rattle.std.proofs.Common.{ℕ, ◌≡◌, inl, true, false, Some, List, [], refl, sym}
use Rattle.queue_steps.specs.{State.State, Kinds.call_value}
use Rattle.queue_steps.proofs.LookLaws.{look_value}
use Rattle.queue_laws.specs.{Common.Vocabulary.PushKind, Common.Pushes.pushes, Common.Stand.Stand, Chain.ChainCells.Chain, Chain.ChainCells.HoldsOnly, Chain.ChainCells.Nothing, Chain.ChainPasses.spare_in, Chain.ChainEarly.IsEarly, Chain.ChainEarly.IsBound, Chain.ChainEarly.IsPush}
use Rattle.queue_laws.specs.Chain.ChainAt.{At, push_tail, push_block, asking, installing, showing, claiming, laying, opening, chaining, writing, spending, pop_head, pop_block, pop_tail, taking, count_tail, count_head, count_again, empty_head, empty_tail, closing, closed_tail}
use Rattle.queue_laws.proofs.Chain.ChainStepOk.{GivesUp, spare_gives}

pushed : {A : Type 0} (d : PushKind) (v : A) → Some v ≡ call_value (pushes d v)
pushed PushKind.Push v = refl
pushed PushKind.Force v = refl

pub early : {A : Type 0} {c : Chain A} {who : ℕ} {ms : List (State A)} {k : Stand A}
    → IsEarly k.local → At c who ms k → (k.effects ≡ []) × HoldsOnly c who Nothing × GivesUp c who (spare_in k.local) × (k.carried ≡ call_value k.call)
early {c = c} {who = who} is (push_tail d v spare none has) = (refl, none, spare_gives c who spare has, pushed d v)
early {c = c} {who = who} is (push_block d v spare q none has saw) = (refl, none, spare_gives c who spare has, pushed d v)
early is (asking d v q block none saw asked) = (refl, none, tt, pushed d v)
early is (installing d v f none saw fresh) = (refl, none, inl fresh, pushed d v)
early {c = c} {who = who} is (claiming d v q name spare none has saw block enough) = (refl, none, spare_gives c who spare has, pushed d v)
early {c = c} {who = who} is (spending d v spare none has spent) = (refl, none, spare_gives c who spare has, pushed d v)
early is (pop_head none) = (refl, none, tt, refl)
early is (pop_block n more none front there) = (refl, none, tt, refl)
early is (pop_tail n block none front read) = (refl, none, tt, refl)
early is (taking n name after more new none front there low word_is room) = (refl, none, tt, refl)
early {A} is (count_tail g count none) = (refl, none, tt, sym (look_value A g))
early {A} is (count_head g t count none word low) = (refl, none, tt, sym (look_value A g))
early {A} is (count_again g t h count none words seen) = (refl, none, tt, sym (look_value A g))
early is (empty_head none) = (refl, none, tt, refl)
early is (empty_tail h none word saw) = (refl, none, tt, refl)
early is (closing none) = (refl, none, tt, refl)
early is (closed_tail none) = (refl, none, tt, refl)
early is x = absurd (let f : false ≡ true = is in cc)

-- a push waits for no item
pub unbound : {A : Type 0} {c : Chain A} {who : ℕ} {ms : List (State A)} {k : Stand A} → IsPush k.call → At c who ms k → ¬ (IsBound k.local)
unbound push (push_tail d v spare none has) = λ e. absurd (let f : false ≡ true = e in cc)
unbound push (push_block d v spare q none has saw) = λ e. absurd (let f : false ≡ true = e in cc)
unbound push (asking d v q block none saw asked) = λ e. absurd (let f : false ≡ true = e in cc)
unbound push (installing d v f none saw fresh) = λ e. absurd (let f : false ≡ true = e in cc)
unbound push (showing d v name first saw shown named) = λ e. absurd (let f : false ≡ true = e in cc)
unbound push (claiming d v q name spare none has saw block enough) = λ e. absurd (let f : false ≡ true = e in cc)
unbound push (laying d v n name f holds mine lays fresh) = λ e. absurd (let f : false ≡ true = e in cc)
unbound push (opening d v n name f holds mine opens links named) = λ e. absurd (let f : false ≡ true = e in cc)
unbound push (chaining d v n name f holds mine links named) = λ e. absurd (let f : false ≡ true = e in cc)
unbound push (writing d v n name spare holds mine has) = λ e. absurd (let f : false ≡ true = e in cc)
unbound push (spending d v spare none has spent) = λ e. absurd (let f : false ≡ true = e in cc)
unbound push (count_tail g count none) = λ e. absurd (let f : false ≡ true = e in cc)
unbound push (count_head g t count none word low) = λ e. absurd (let f : false ≡ true = e in cc)
unbound push (count_again g t h count none words seen) = λ e. absurd (let f : false ≡ true = e in cc)
unbound push _ = absurd push
