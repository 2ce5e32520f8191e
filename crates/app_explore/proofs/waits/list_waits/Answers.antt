use Rattle.std.proofs.Common.{◌∙◌, ◌++◌, ap, map}
use Rattle.app_explore.specs.{Listed.listed_wait, WaitLines.waits_text}
use Rattle.app_explore.proofs.waits.list_waits.Goals as goal

pub returns : goal.returns
returns g c =
    record {
      waits = map listed_wait c.in_ok-waits.waits.items;
      are = c.in_ok-waits.ensures;
      text_is = c.in_ok-write_waits.ensures ∙ ap (λ l. l ++ waits_text (map listed_wait c.deref.result.now)) c.new-text.ensures.bytes ∙ ap (λ l. waits_text (map listed_wait l)) c.deref.ensures.value;
    }
