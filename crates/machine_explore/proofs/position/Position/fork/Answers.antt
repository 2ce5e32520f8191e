use Rattle.std.proofs.Common.{◌≡◌, ◌+◌, ◌<◌, ◌≤◌, ◌∙◌, ◌++◌, ◌∷◌, [], ap, arith, length, sym, take}
use Rattle.std.{specs.Prelude.slice_index_or, proofs.lemmas.List.take_all, proofs.lemmas.List.take_more}
use Rattle.machine_steps.specs.Machine.{world_of}
use Rattle.machine_explore.{specs.Positions.Standing, proofs.Runs.standing_is}
use Rattle.machine_explore.proofs.position.Position.fork.Goals as goal

pub push_reserved-requires : goal.push_reserved-requires
push_reserved-requires g c =
    let far = c.loop-party-test.true in
    let size = ap length (c.as_slice-party-items.ensures.value ∙ ap (λ (x : Standing). x.parties) c.self.view_is) in
    let i = c.loop-party.invariant.len in
    let room = c.loop-party.invariant.room in
    omega (arith, far, size, i, room)

pub loop-party-init : goal.loop-party-init
loop-party-init g c = record { items = c.in_ok-parties.ensures.items; len = c.in_ok-parties.ensures.len; room = c.in_ok-parties.ensures.exact ∙ c.len.ensures ∙ c.self.inside.parties.ok.0 ∙ ap (λ (x : Standing). length x.parties) c.self.view_is }

pub loop-party-preserved : goal.loop-party-preserved
loop-party-preserved g c =
    let parties = c.args.self.now.parties in
    let i = c.loop-party.party-index in
    let party = c.party-item.result in
    let same = c.as_slice-party-items.ensures.value ∙ ap (λ (x : Standing). x.parties) c.self.view_is in
    let inside : i < length parties = let far = c.loop-party-test.true in let size = ap length same in omega (arith, far, size) in
    let read : party ≡ slice_index_or parties i party = c.party-item.is ∙ ap (λ l. slice_index_or l i party) same in
    let grown = c.push_reserved.ensures in
    record {
      items = grown.items ∙ ap (λ l. l ++ c.in_ok-copy.field-0 ∷ []) c.loop-party.invariant.items ∙ ap (λ x. take i parties ++ x ∷ []) (c.in_ok-copy.ensures ∙ read) ∙ sym (take_more parties i party inside);
      len = grown.len ∙ ap (λ n. n + 1) c.loop-party.invariant.len;
      room = grown.capacity ∙ c.loop-party.invariant.room;
    }

pub returns : goal.returns
returns g c =
    let inside = c.self.inside in
    let s = c.args.self.now in
    let shown : (let x : Standing = record { kind = inside.run.machine.kind; world = world_of inside.run.machine; parties = inside.parties.items } in x) ≡ s = c.self.view_is in
    let all : length s.parties ≤ c.loop-party.party-index = let over = c.loop-party-test.false in let size = ap length c.as_slice-party-items.ensures.value in let there = ap (λ (x : Standing). length x.parties) shown in omega (arith, over, size, there) in
    standing_is s c.in_ok-run.run'.machine.kind (world_of c.in_ok-run.run'.machine) c.loop-party.parties.items
    (c.in_ok-run.ensures.kind ∙ ap (λ (x : Standing). x.kind) shown)
    (c.in_ok-run.ensures.world ∙ ap (λ (x : Standing). x.world) shown)
    (c.loop-party.invariant.items ∙ take_all c.loop-party.party-index s.parties all)
