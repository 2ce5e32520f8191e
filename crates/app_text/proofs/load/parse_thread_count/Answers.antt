use Rattle.std.proofs.Common.{arith, rules, tests}
use Rattle.app_text.specs.KindNames.{IsThreadCount}
use Rattle.app_text.proofs.{ReadLoad.other_number, ReadLoad.thread_word, load.parse_thread_count.Goals.then-count-eq0-via-then-count-eq0, load.parse_thread_count.Goals.then-count-eq0-via-else-count-eq0+then-count-gt-MOST_THREADS}
use Rattle.app_text.proofs.load.parse_thread_count.Goals as goal

pub returns-then-count-eq0 : goal.returns-then-count-eq0
returns-then-count-eq0 c =
    let read = rw c.as_bytes.ensures.value at c.in_ok-count.ensures in
    other_number IsThreadCount c.in_ok-count.count c.args.text.now thread_word read.0 read.1 (λ is. elim c.then-count-eq0.branch [
      | then-count-eq0-via-then-count-eq0 w ↦ omega (arith, is, w.if-count-eq0.true)
      | then-count-eq0-via-else-count-eq0+then-count-gt-MOST_THREADS w ↦ omega (arith, is, w.if-count-gt-MOST_THREADS.true)
    ])

pub returns : goal.returns
returns c = search (rules, tests)
