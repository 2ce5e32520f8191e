use Rattle.std.proofs.Common.{sym, subst, ◌∙◌}
use Rattle.use_owner.specs.{Pool.Places, Pool.IsOut, PoolRings.places_of}
use Rattle.use_owner.proofs.{PoolRings.gives_back, PoolRings.spent_pool, pool.Pool.give_back.Goals.in-Ok, pool.Pool.give_back.Goals.in-Err}
use Rattle.use_owner.proofs.pool.Pool.give_back.Goals as goal

pub invariant_of-self : goal.invariant_of-self
invariant_of-self g c =
    let out : IsOut (places_of c.self.inside.ring) c.args.place = subst (λ (p : Places). IsOut p c.args.place) (sym c.self.view_is) c.requires in
    let says = c.push.ensures in
    elim c.match-push.branch [
      | in-Ok w ↦ let ok = rw w.in-Ok.is at says.ok in (gives_back c.self.inside.ring c.push.new.self c.args.place c.self.invariant out says.capacity ok).0
      | in-Err w ↦ let back = rw w.in-Err.is at says.back in
          (spent_pool c.self.inside.ring c.push.new.self c.args.place c.push.result w.in-Err.error w.in-Err.is c.self.invariant out back says.full says.closed says.memory).0
    ]

pub returns : goal.returns
returns g c =
    let out : IsOut (places_of c.self.inside.ring) c.args.place = subst (λ (p : Places). IsOut p c.args.place) (sym c.self.view_is) c.requires in
    let says = c.push.ensures in
    elim c.match-push.branch [
      | in-Ok w ↦ let ok = rw w.in-Ok.is at says.ok in rw (w.result-is, ← c.self.view_is) (gives_back c.self.inside.ring c.push.new.self c.args.place c.self.invariant out says.capacity ok).1
      | in-Err w ↦ let back = rw w.in-Err.is at says.back in
          let told = spent_pool c.self.inside.ring c.push.new.self c.args.place c.push.result w.in-Err.error w.in-Err.is c.self.invariant out back says.full says.closed says.memory in
          rw (w.result-is, ← c.self.view_is) (w.into_inner.ensures ∙ back, told.1, told.2)
    ]
