use Rattle.std.proofs.Common.{◌≡◌, ◌∙◌, ◌++◌, ap, length, map, sym}
use Rattle.std.proofs.lemmas.List.{length-map}
use Rattle.app_explore.specs.{Listed.bytes_of, Listed.listed_tail, Listings.outcome_lines, Tails.last_text, Tails.tail_line, Tails.without_order}
use Rattle.app_explore.proofs.listing.write_list.Goals as goal

pub returns : goal.returns
returns g c =
    let list = c.args.list.now in
    let all = list.outcomes.items in
    let texts = map bytes_of all in
    let tails = map listed_tail all in
    let n = c.count_without_order.result in
    let lines = outcome_lines 1 texts (map tail_line tails) in
    let size : length texts ≡ length all = length-map all bytes_of in
    record {
      tails = tails;
      counted = length-map all listed_tail ∙ sym size;
      total = list.schedules;
      alone = list.alone;
      text_is = c.in_ok-write_last.ensures
          ∙ ap (λ l. l ++ last_text c.len.result list.schedules list.alone n) (c.in_ok-write_lines.ensures ∙ ap (λ l. l ++ outcome_lines 1 (map bytes_of c.deref.result.now) (map tail_line (map listed_tail c.deref.result.now))) c.new-text.ensures.bytes
          ∙ ap (λ l. outcome_lines 1 (map bytes_of l) (map tail_line (map listed_tail l))) c.deref.ensures.value)
          ∙ ap (λ k. lines ++ last_text k list.schedules list.alone n) (c.len.ensures ∙ list.outcomes.ok.0 ∙ sym size)
          ∙ ap (λ k. lines ++ last_text (length texts) list.schedules list.alone k) (c.count_without_order.ensures ∙ ap (λ l. without_order (map listed_tail l)) c.deref-2.ensures.value);
    }
