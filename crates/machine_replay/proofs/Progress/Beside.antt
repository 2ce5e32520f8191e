-- A call that another one waits for.
use Rattle.std.proofs.Common.{ℕ, ◌≡◌, ◌==◌, ◌∙◌, false, Some, sym, ap, subst}
use Rattle.std.proofs.lemmas.Bool.{eqb-false}
use Rattle.machine_replay.specs.{Vocabulary.Local, Vocabulary.Running, Waits.IsBeside}
use Rattle.machine_memory.specs.SharedMemory.{MemoryState}
use Rattle.machine_steps.specs.World.{World, call_at}

-- a party at such a step is another one where this party's call is at none
pub beside : {T : Type 0} (w : World (MemoryState T) (Running T)) (p q : ℕ) (r s : Running T) (Such : Local ℕ → Type 0) → call_at w p ≡ Some r → call_at w q ≡ Some s → Such s.local → (Such r.local → ⊥) → IsBeside w p Such
beside {T} w p q r s Such is there such never =
    (q, λ at. let same : s ≡ r = (let e : Some s ≡ Some r = sym there ∙ (ap (λ i. call_at w i) at ∙ is) in cc) in never (subst (λ z. Such z.local) same such), (s, there, such))

-- where the call goes on at two places, these are one
pub not_back : {T : Type 0} {r : Running T} {l : Local ℕ} (x : Running T) → Some r ≡ Some x → x.local ≡ l → r.local ≡ l
not_back {r = r} x goes back = let same : r ≡ x = cc in ap (λ z. z.local) same ∙ back

pub same_call : {T : Type 0} {r : Running T} (x : Running T) → Some r ≡ Some x → r ≡ x
same_call x goes = cc

-- steps with two numbers are not one
pub apart : (number : Local ℕ → ℕ) (l m : Local ℕ) → (number l == number m) ≡ false → l ≡ m → ⊥
apart number l m other same = eqb-false (number l) (number m) other (ap number same)
