use Rattle.std.proofs.Common.{◌≡◌, codes, ap, map, string_bytes, length, ◌<◌, arith, rules, tests}
use Rattle.app_explore.proofs.Words.{front_of}
use Rattle.app_explore.proofs.args.parse_refuses.Goals as goal

pub returns-in-len1-up-clause-parted : goal.returns-in-len1-up-clause-parted
returns-in-len1-up-clause-parted c =
    let some : 0 < length c.args.words.now = omega (arith, c.in-len1-up.len_at_least) in
    let words = ap (map string_bytes) (front_of c.args.words.now c.word-item.result some c.word-item.is) in
    let word : c.as_str.result.now ≡ codes "refuse" = search (rules, tests) in
    cc (words, word, c.as_str.ensures.value)
