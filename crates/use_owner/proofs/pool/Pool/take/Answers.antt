use Rattle.use_owner.proofs.PoolRings.{takes}
use Rattle.use_owner.proofs.pool.Pool.take.Goals as goal

pub invariant_of-self : goal.invariant_of-self
invariant_of-self g c = (takes c.self.inside.ring c.pop.new.self c.pop.result c.self.invariant c.pop.ensures.ok c.pop.ensures.empty c.pop.ensures.closed).0

pub returns : goal.returns
returns g c =
    let taken = (takes c.self.inside.ring c.pop.new.self c.pop.result c.self.invariant c.pop.ensures.ok c.pop.ensures.empty c.pop.ensures.closed).1 in
    rw (c.ok.ensures.value, ← c.self.view_is) taken
