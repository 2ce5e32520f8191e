use Rattle.std.proofs.Common.{◌≡◌, ◌+◌, ◌<◌, ◌≤◌, ◌∙◌, ◌++◌, ◌∷◌, [], ℕ, ap, arith, length, map, sym, take}
use Rattle.std.specs.Prelude.{slice_index_or}
use Rattle.std.proofs.lemmas.List.{map-append, take_all, take_more}
use Rattle.machine_steps.specs.Machine.{world_of}
use Rattle.machine_explore.{specs.Positions.Progress, specs.Positions.Standing, proofs.Runs.outcome_is}
use Rattle.machine_explore.proofs.position.Position.outcome.Goals as goal

pub loop-party-preserved : goal.loop-party-preserved
loop-party-preserved g c =
    let parties = c.args.self.now.parties in
    let i = c.loop-party.party-index in
    let party = c.party-item.result in
    let same = c.as_slice-party-items.ensures.value ∙ ap (λ (x : Standing). x.parties) c.self.view_is in
    let inside : i < length parties = let far = c.loop-party-test.true in let size = ap length same in omega (arith, far, size) in
    let read : party ≡ slice_index_or parties i party = c.party-item.is ∙ ap (λ l. slice_index_or l i party) same in
    let copied = c.of.ensures ∙ c.in_ok-copied.ensures.items ∙ c.replies.ensures ∙ ap (λ (x : Progress ℕ). x.replies) read in
    let grown = c.push_reserved.ensures in
    record {
      items = grown.items ∙ ap (λ l. l ++ c.of.result ∷ []) c.loop-party.invariant.items ∙ ap (λ x. map (λ (g : Progress ℕ). g.replies) (take i parties) ++ x ∷ []) copied
          ∙ sym (ap (λ l. map (λ (g : Progress ℕ). g.replies) l) (take_more parties i party inside) ∙ map-append (λ (g : Progress ℕ). g.replies) (take i parties) (slice_index_or parties i party ∷ []));
      len = grown.len ∙ ap (λ n. n + 1) c.loop-party.invariant.len;
      room = grown.capacity ∙ c.loop-party.invariant.room;
    }

pub returns : goal.returns
returns g c =
    let inside = c.self.inside in
    let s = c.args.self.now in
    let shown : (let x : Standing = record { kind = inside.run.machine.kind; world = world_of inside.run.machine; parties = inside.parties.items } in x) ≡ s = c.self.view_is in
    let all : length s.parties ≤ c.loop-party.party-index = let over = c.loop-party-test.false in let size = ap length c.as_slice-party-items.ensures.value in let there = ap (λ (x : Standing). length x.parties) shown in omega (arith, over, size, there) in
    let replies = c.loop-party.invariant.items ∙ ap (λ l. map (λ (g : Progress ℕ). g.replies) l) (take_all c.loop-party.party-index s.parties all) in
    outcome_is s c.loop-party.replies.items c.in_ok-left.left.items replies c.in_ok-left.ensures
