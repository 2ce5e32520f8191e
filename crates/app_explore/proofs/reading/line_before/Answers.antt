use Rattle.std.proofs.Common.{rules, ◌≡◌, ◌++◌, ◌∷◌, codes, take, drop, ap, ◌∙◌}
use Rattle.std.proofs.lemmas.List.{take-append-drop}
use Rattle.app_text.specs.Lines.{lines_of}
use Rattle.app_explore.proofs.reading.line_before.Goals as goal

pub returns : goal.returns
returns c =
    let front : take 7 c.in_ok-line.line.now ≡ codes "before:" = search rules in
    let behind : c.in_ok-spelled.spelled.now ≡ drop 7 c.in_ok-line.line.now = search rules in
    let both = take-append-drop 7 c.in_ok-line.line.now in
    let line : c.in_ok-line.line.now ≡ codes "before:" ++ c.in_ok-spelled.spelled.now = cc (front, behind, both) in
    c.in_ok-line.ensures.0 ∙ ap (λ l. l ∷ lines_of c.in_ok-line.rest.now) line
