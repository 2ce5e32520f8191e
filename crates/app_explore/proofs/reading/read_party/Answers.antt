use Rattle.std.proofs.Common.{rules, ◌≡◌, ◌≢◌, ◌+◌, ◌<◌, ◌∷◌, List, ℕ, arith}
use Rattle.app_explore.{specs.declared.limits.TheConstants.MOST_PARTIES, proofs.Programs.party_found, proofs.Programs.party_missing}
use Rattle.app_explore.proofs.reading.read_party.Goals as goal

pub returns-in-Some : goal.returns-in-Some
returns-in-Some g c =
    let below : c.args.number < MOST_PARTIES = omega (arith, c.if-number-ge-MOST_PARTIES.false) in
    let is : c.args.line.now ≡ (48 + c.args.number) ∷ 58 ∷ c.in-Some.spelled.now = search rules in
    party_found c.args.number c.args.line.now c.in-Some.spelled.now c.read_calls.result below is c.read_calls.ensures

pub returns-in-None : goal.returns-in-None
returns-in-None g c =
    let below : c.args.number < MOST_PARTIES = omega (arith, c.if-number-ge-MOST_PARTIES.false) in
    let none : (rest : List ℕ) → c.args.line.now ≢ (48 + c.args.number) ∷ 58 ∷ rest = search rules in
    party_missing c.args.number c.args.line.now below none
