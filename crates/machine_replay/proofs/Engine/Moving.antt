-- How the effect that is told of a step moves the queue of the book, for rings and chains alike.
use Rattle.std.proofs.Common.{◌≡◌, Bool, true, false, if◌then◌else◌, Option, Some, None, refl, sym, subst}
use Rattle.queue_steps.specs.State.{State}
use Rattle.machine_replay.specs.{Vocabulary.Effect, Vocabulary.EffectKind, Book.Open, Book.Moves, Book.MayMake, Book.kind_of}
use Rattle.queue_laws.specs.Common.Effects.{Leads, with_effect, Whether}

-- a step without effect leaves the queue
pub no_move : {A : Type 0} (Q R S : State A) (o : Open A) (e : Option (Effect A)) → Q ≡ R → e ≡ None → Leads R e S → Moves Q o None S (with_effect o.effects e)
no_move {A} Q R S o e is none = subst (λ x. Leads R x S → Moves Q o None S (with_effect o.effects x)) (sym none) (λ same. (rw is same, refl))

-- a step with this effect moves it
pub moved : {A : Type 0} (Q R S : State A) (o : Open A) (e : Option (Effect A)) (x : Effect A) (k : EffectKind) → Q ≡ R → e ≡ Some x → kind_of x ≡ k → MayMake k o → Leads R e S
    → Moves Q o (Some k) S (with_effect o.effects e)
moved {A} Q R S o e x k is some kind_is may = subst (λ y. Leads R y S → Moves Q o (Some k) S (with_effect o.effects y)) (sym some) (λ makes. rw is (x, kind_is, may, makes.0, makes.1, refl))

-- the exchange that wins has an effect, and a mark has one where there was none
pub won : {A : Type 0} (Q R S : State A) (o : Open A) (e : Option (Effect A)) (k : EffectKind) (b : Bool) → Q ≡ R → MayMake k o → Whether b ((x : Effect A) × (e ≡ Some x) × (kind_of x ≡ k)) (e ≡ None) → Leads R e S
    → Moves Q o (if b then Some k else None) S (with_effect o.effects e)
won Q R S o e k true is may h makes = moved Q R S o e h.0 k is h.1 h.2 may makes
won Q R S o e k false is may h makes = no_move Q R S o e is h makes

pub marked : {A : Type 0} (Q R S : State A) (o : Open A) (e : Option (Effect A)) (x : Effect A) (k : EffectKind) (b : Bool) → Q ≡ R → kind_of x ≡ k → MayMake k o → Whether b (e ≡ None) (e ≡ Some x) → Leads R e S
    → Moves Q o (if b then None else Some k) S (with_effect o.effects e)
marked Q R S o e x k true is kind_is may h makes = no_move Q R S o e is h makes
marked Q R S o e x k false is kind_is may h makes = moved Q R S o e x k is h kind_is may makes

pub appends : {A : Type 0} (b : Bool) (e : Option (Effect A)) → Whether b ((v : A) × (e ≡ Some (Effect.Append v))) (e ≡ None) → Whether b ((x : Effect A) × (e ≡ Some x) × (kind_of x ≡ EffectKind.Append)) (e ≡ None)
appends true e h = (Effect.Append h.0, h.1, refl)
appends false e h = h

pub takes : {A : Type 0} (b : Bool) (e : Option (Effect A)) → Whether b ((v : A) × (e ≡ Some (Effect.Take v))) (e ≡ None) → Whether b ((x : Effect A) × (e ≡ Some x) × (kind_of x ≡ EffectKind.Take)) (e ≡ None)
takes true e h = (Effect.Take h.0, h.1, refl)
takes false e h = h
