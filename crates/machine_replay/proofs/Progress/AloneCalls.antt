-- A call that is the only one in progress is hindered by nobody.
use Rattle.std.proofs.Common.{◌≡◌, ◌≢◌, ◌∙◌, ℕ, Some, None, List, [], ◌∷◌, refl, sym, subst}
use Rattle.machine_replay.specs.{Vocabulary.Kind, Vocabulary.Event, Vocabulary.Told, Vocabulary.Skipped, Vocabulary.Ran, Vocabulary.Running, Played.world_after}
use Rattle.machine_replay.specs.Progress.{Between, standing, effect_told, BeginsNone, IsAloneIn, IsLeftToIt, NobodyShows, RunsAloneReply}
use Rattle.machine_steps.specs.{Left.opening_world, World.call_at}
use Rattle.machine_replay.proofs.{Chain.Kind.chain_rules, Progress.Standings.Agrees, Engine.KindLaws.Rules, Progress.Stretch.reach, Progress.Stretch.first, Progress.Stretch.party-open, Progress.Unhindered.unhindered_calls}

without_effect : {T : Type 0} (t : Told T) → BeginsNone t → effect_told t ≡ None
without_effect Skipped none = refl
without_effect (Ran None (Some r)) none = refl
without_effect _ none = absurd none

left_alone : {T : Type 0} (p : ℕ) (es : List (Event T)) (ts : List (Told T)) → IsAloneIn p es ts → IsLeftToIt p es ts
left_alone p [] ts alone = tt
left_alone p (e ∷ es) [] alone = tt
left_alone p (e ∷ es) (t ∷ ts) alone = (alone.0, λ other. without_effect t (alone.1 other), left_alone p es ts alone.2)

-- a party that is between calls has no call in progress
has_none : {T : Type 0} (k : Kind) (laws : Rules T k) (parties q : ℕ) (past : List (Event T)) (r : Running T) → standing k parties q past ≡ Between → call_at (world_after k (opening_world k parties) past) q ≡ Some r → ⊥
has_none {T} k laws parties q past r rests is =
    let h = reach T k laws parties (opening_world k parties) (λ j. Between) past (first T k laws parties) in
    let w = world_after k (opening_world k parties) past in
    let o = party-open T k laws parties h.b.busy w.shared h.b.queue h.sim.g q (call_at w q) (h.b.open_call q) r (h.sim.each q) is in
    let none : h.b.open_call q ≡ None = subst (λ x. Agrees x (h.b.open_call q)) rests (h.agrees q) in
    let both : Some o.0 ≡ None = sym o.1 ∙ none in
    cc

nobody_shows : {T : Type 0} (k : Kind) (parties p : ℕ) (past : List (Event T)) → ((q : ℕ) → q ≢ p → standing k parties q past ≡ Between) → NobodyShows k (world_after k (opening_world k parties) past) p
nobody_shows Kind.Single parties p past others = tt
nobody_shows (Kind.Bounded n) parties p past others = tt
nobody_shows {T} Kind.Unbounded parties p past others = λ q r ne is shows. has_none Kind.Unbounded (chain_rules T) parties q past r (others q ne) is

pub runs_alone : (T : Type 0) → RunsAloneReply T
runs_alone T k can small parties p past stretch mine others alone =
    unhindered_calls k can small parties p past stretch (nobody_shows k parties p past others) mine (λ q ne half. let rests = others q ne in cc) (left_alone p stretch _ alone)
