use Rattle.std.proofs.Common.{rules, sym, subst}
use Rattle.atomic_table.specs.Table.{Allows}
use Rattle.shared_tables.{specs.TableRule.Rule, specs.Quitting.HasQuit, proofs.Quits.gives_up}
use Rattle.shared_tables.proofs.table.SharedTable.quit.Goals as goal

pub load-requires-clause-may : goal.load-requires-clause-may
load-requires-clause-may g c =
    let t = c.args.self.now.table.shared.table_id in let sized = c.args.self.now.sized in let s = c.args.seat.now in let K = g.K.TableKind.layout in (
      search rules,
      subst (λ k. Allows (Rule (K k)) t.slots s.id s.me 0 (λ n. n) (λ n q. HasQuit (K t.slots).calls s.me q)) (sym sized.1)
          (gives_up (K t.slots) (g.K.Sizes.words t.slots) (g.met.K.TableSteps.laws t.slots sized.2 sized.3) t.slots s.id s.me c.requires.may),
    )
