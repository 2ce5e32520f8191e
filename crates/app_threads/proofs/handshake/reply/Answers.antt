use Rattle.std.proofs.Common.{refl, ◌∙◌}
use Rattle.std.proofs.lemmas.Bool.{false≢true}
use Rattle.app_threads.proofs.handshake.reply.Goals as goal

pub returns-then-not-expect_item : goal.returns-then-not-expect_item
returns-then-not-expect_item g c =
    let tried = c.expect_item.ensures in record {
      hands = (c.requires.0, tried.same.0 ∙ c.requires.1);
      share = (refl, tried.same.1);
      came = λ met. absurd (false≢true met);
    }

pub returns : goal.returns
returns g c =
    let tried = c.expect_item.ensures in let pushed = c.push.ensures in record {
      hands = (pushed.0 ∙ c.requires.0, tried.same.0 ∙ c.requires.1);
      share = (pushed.1.share, tried.same.1);
      came = λ _. tried.came c.if-not-expect_item.false;
    }
