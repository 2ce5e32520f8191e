use Rattle.std.proofs.Common.{inl, inr, rules, tests}
use Rattle.app_text.proofs.{ReadArgs.no_such_count, args.parse_parties.Goals.then-count-eq0-via-then-count-eq0, args.parse_parties.Goals.then-count-eq0-via-else-count-eq0+then-count-gt-MOST_PARTIES}
use Rattle.app_text.proofs.args.parse_parties.Goals as goal

pub returns-then-count-eq0 : goal.returns-then-count-eq0
returns-then-count-eq0 c =
    let read = rw c.as_bytes.ensures.value at c.in_ok-count.ensures in
    elim c.then-count-eq0.branch [
      | then-count-eq0-via-then-count-eq0 w ↦ no_such_count c.in_ok-count.count c.args.text.now read.0 read.1 (inl w.if-count-eq0.true)
      | then-count-eq0-via-else-count-eq0+then-count-gt-MOST_PARTIES w ↦ no_such_count c.in_ok-count.count c.args.text.now read.0 read.1 (inr w.if-count-gt-MOST_PARTIES.true)
    ]

pub returns : goal.returns
returns c = search (rules, tests)
