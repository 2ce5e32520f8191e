use Rattle.std.proofs.Common.{◌≡◌, ◌∙◌, ◌++◌, ◌∷◌, [], List, ap, map, subst, sym}
use Rattle.std.{specs.List.All, proofs.lemmas.List.map-append, proofs.lemmas.List.Elements.All-push}
use Rattle.machine_explore.specs.{Reports.IsShownWait, Waiting.Waiting, Waiting.wait_of}
use Rattle.machine_explore.proofs.explore.show_waits.Goals as goal

pub loop-found-preserved : goal.loop-found-preserved
loop-found-preserved g c =
    let t = c.args.problem.now in
    let P : Waiting → Type 0 = IsShownWait t.kind t.refuses t.program.before t.program.parties.items in
    let old = c.loop-found.waits.items in
    let wait = c.in_ok-wait.wait in
    let more : map wait_of c.push.new.self.items ≡ map wait_of old ++ wait_of wait ∷ [] = ap (map wait_of) c.in_ok-push.ensures.items ∙ map-append wait_of old (wait ∷ []) in
    let all : List Waiting → Type 0 = λ l. All P l in
    subst all (sym more) (All-push P (map wait_of old) (wait_of wait) c.loop-found.invariant c.in_ok-wait.ensures)
