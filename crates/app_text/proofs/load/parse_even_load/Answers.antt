use Rattle.std.proofs.Common.{sym, ◌∙◌}
use Rattle.app_text.proofs.ReadLoad.{uneven}
use Rattle.app_text.proofs.load.parse_even_load.Goals as goal

pub returns-then-load-ne0 : goal.returns-then-load-ne0
returns-then-load-ne0 c =
    let load = c.in_ok-load.load in
    let is = c.in_ok-load.ensures in
    let odd = c.if-load-ne0.true in
    λ l even same. uneven load is.0 odd l even (same ∙ sym is.1)
