use Rattle.std.proofs.Common.{◌≡◌, ◌≤◌, ◌∙◌, true, ap, arith, length, sym}
use Rattle.std.proofs.lemmas.List.{set_past}
use Rattle.machine_replay.specs.Conforms.{party_of}
use Rattle.machine_steps.specs.Machine.{event_of, world_of}
use Rattle.machine_explore.{specs.Moves.advanced, specs.Moves.led, specs.Positions.Standing, specs.Positions.progress_of, proofs.Runs.standing_is}
use Rattle.machine_explore.proofs.position.Position.take.Goals as goal

-- a party that there is not has no progress to note
pub returns-else-party-len-clause-leads : goal.returns-else-party-len-clause-leads
returns-else-party-len-clause-leads g c =
    let inside = c.self.inside in
    let s = c.args.self.now in
    let e = c.args.event in
    let shown : (let x : Standing = record { kind = inside.run.machine.kind; world = world_of inside.run.machine; parties = inside.parties.items } in x) ≡ s = c.self.view_is in
    let made = ap (λ (x : Standing). event_of x.kind true x.world e) shown in
    let past : length s.parties ≤ party_of e = let over = c.if-party-len.false in let len = c.len.ensures in let ok = inside.parties.ok.0 in let size = ap (λ (x : Standing). length x.parties) shown in let of = c.requires in omega (arith, over, len, ok, size, of) in
    standing_is (led s.kind s e) c.handle.new.run.machine.kind (world_of c.handle.new.run.machine) inside.parties.items
    (c.handle.ensures.kind ∙ ap (λ (x : Standing). x.kind) shown)
    (c.in_ok-told.ensures.world ∙ ap (λ m. m.0) made)
    (ap (λ (x : Standing). x.parties) shown ∙ sym (set_past s.parties (party_of e) (advanced (progress_of s (party_of e)) e (event_of s.kind true s.world e).1) past))

pub index_mut-requires : goal.index_mut-requires
index_mut-requires g c = let inside = c.if-party-len.true in let len = c.len.ensures in omega (arith, inside, len)

pub advance-requires : goal.advance-requires
advance-requires g c = λ κs within. within
