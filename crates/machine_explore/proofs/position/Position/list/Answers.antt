use Rattle.std.proofs.Common.{◌∙◌, ap}
use Rattle.machine_steps.specs.{Left.left_of, Machine.world_of}
use Rattle.machine_explore.{specs.Positions.Standing, proofs.Runs.copied-some}
use Rattle.machine_explore.proofs.position.Position.list.Goals as goal

pub end-requires : goal.end-requires
end-requires g c = copied-some c.self.inside.run c.in_ok-run.run' c.in_ok-run.ensures.same c.self.invariant

pub returns : goal.returns
returns g c =
    c.in_ok-ended.ensures.left
    ∙ ap (λ k. left_of k (world_of c.in_ok-run.run'.machine)) c.in_ok-run.ensures.kind
    ∙ ap (λ w. left_of c.self.inside.run.machine.kind w) c.in_ok-run.ensures.world
    ∙ ap (λ (s : Standing). left_of s.kind s.world) c.self.view_is
