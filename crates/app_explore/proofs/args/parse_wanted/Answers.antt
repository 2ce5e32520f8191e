use Rattle.std.proofs.Common.{◌≡◌, codes, ap, map, string_bytes, length, ◌<◌, arith, rules, tests}
use Rattle.app_explore.proofs.Words.{only_of}
use Rattle.app_explore.proofs.args.parse_wanted.Goals as goal

pub returns-in-len1 : goal.returns-in-len1
returns-in-len1 c =
    let some : 0 < length c.args.words.now = omega (arith, c.in-len1.len_at_least) in
    let few : length c.args.words.now < 2 = omega (arith, c.in-len1.len_below) in
    let words = ap (map string_bytes) (only_of c.args.words.now c.word-item.result some few c.word-item.is) in
    let word : c.as_str.result.now ≡ codes "waits" = search (rules, tests) in
    (cc, cc (words, word, c.as_str.ensures.value))
