-- The block that a call gives up with its reply, and that the spares of the others stay.
use Rattle.std.proofs.Common.{ℕ, ◌≡◌, ◌≢◌, ◌∙◌, inl, inr, Option, Some, None, sym, ap}
use Rattle.queue_laws.specs.{Common.Vocabulary.Effect, Common.Effects.Leads, Chain.ChainTransitions.lost_of, Chain.ChainTransitions.given_up, Chain.ChainPasses.Passes, Chain.ChainPasses.Spares}
use Rattle.queue_laws.proofs.{Common.Puts.put_ok, Chain.ChainTransitions.rename_ok, Chain.ChainPassesLaying.owner_renamed, Chain.ChainPassesLaying.passes_renamed, Chain.ChainStepOk.GivesUp}
use Rattle.queue_laws.specs.Chain.ChainCells.{Use, Unused, Spare, Chained, Chain, queue_of, ChainOk, Part, HoldsOnly}

pub spares_stay : {A : Type 0} {r s : Chain A} (who other : ℕ) (spare : Option ℕ) → other ≢ who → Passes who r s → Spares r other spare → Spares s other spare
spares_stay who other spare ne pass only = λ f e. only f (pass.spared f other ne e)

lost_chained : (u : Use) (b : ℕ) → lost_of u ≡ Chained b → u ≡ Chained b
lost_chained (Spare who) b e = cc
lost_chained u b e = e

lost_spare : (u : Use) (who : ℕ) → lost_of u ≢ Spare who
lost_spare Unused who e = cc
lost_spare u who e = cc

pub given_ok : {A : Type 0} (c : Chain A) (spare : Option ℕ) → ChainOk c → ChainOk (given_up c spare)
given_ok c None ok = ok
given_ok c (Some f) ok = rename_ok c f (lost_of (c.uses f)) ok (λ b e. ap lost_of e) (λ b e. lost_chained (c.uses f) b e)

-- no other party's spare is given up
not_theirs : {A : Type 0} (c : Chain A) (who f : ℕ) → ChainOk c → GivesUp c who (Some f) → (other : ℕ) → other ≢ who → c.uses f ≢ Spare other
not_theirs c who f ok (inl mine) other ne e = ne (let z : Spare who ≡ Spare other = sym mine ∙ e in cc)
not_theirs c who f ok (inr (b, named, over)) other ne e = let z : Chained b ≡ Spare other = sym (ok.name b named.0) ∙ (ap c.uses (sym named.1) ∙ e) in cc

pub passes_given : {A : Type 0} (r s : Chain A) (who : ℕ) (spare : Option ℕ) → ChainOk s → GivesUp s who spare → Passes who r s → Passes who r (given_up s spare)
passes_given r s who None ok gives pass = pass
passes_given r s who (Some f) ok gives pass = passes_renamed s who f (lost_of (s.uses f)) (not_theirs s who f ok gives) (λ other ne. lost_spare (s.uses f) other) pass

pub makes_given : {A : Type 0} (r s : Chain A) (spare : Option ℕ) (e : Option (Effect A)) → Leads (queue_of r) e (queue_of s) → Leads (queue_of r) e (queue_of (given_up s spare))
makes_given r s None e h = h
makes_given r s (Some f) None h = h
makes_given r s (Some f) (Some e) h = h

pub holds_given : {A : Type 0} (s : Chain A) (who : ℕ) (spare : Option ℕ) (P : Part → Type 0) → HoldsOnly s who P → HoldsOnly (given_up s spare) who P
holds_given s who None P holds = holds
holds_given s who (Some f) P holds = λ x e. holds x (sym (owner_renamed s f (lost_of (s.uses f)) x) ∙ e)

-- a party that gave its spare up has none
pub spares_given : {A : Type 0} (s : Chain A) (who : ℕ) (spare : Option ℕ) → Spares s who spare → Spares (given_up s spare) who None
spares_given s who None only = only
spares_given s who (Some f) only = λ g. put_ok s.uses f g (lost_of (s.uses f)) (λ j u. u ≡ Spare who → None ≡ Some j) (λ e. absurd (lost_spare (s.uses f) who e)) (λ ne e. absurd (ne (let z = only g e in cc)))

pub none_given : {A : Type 0} (s : Chain A) (who : ℕ) (spare : Option ℕ) → Spares s who None → Spares (given_up s spare) who None
none_given s who None only = only
none_given s who (Some f) only = λ g. put_ok s.uses f g (lost_of (s.uses f)) (λ j u. u ≡ Spare who → None ≡ Some j) (λ e. absurd (lost_spare (s.uses f) who e)) (λ ne e. only g e)
