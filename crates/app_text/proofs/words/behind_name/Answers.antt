use Rattle.std.proofs.Common.{◌∙◌, ap}
use Rattle.std.proofs.lemmas.Iterator.{items_from_collect, Adapters.YieldsList-from_skip, Adapters.YieldsList-from_vec}
use Rattle.std.specs.{Iterator.Adapters.skip_source, Vec.Iter.into_iter_items, Vec.Iter.into_iter_len}
use Rattle.app_text.proofs.words.behind_name.Goals as goal

pub returns : goal.returns
returns c =
    items_from_collect c.collect.result c.collect.ensures.ran
    (YieldsList-from_skip 1 (YieldsList-from_vec {s = skip_source c.skip.result} (into_iter_items c.args.args) (ap into_iter_items c.skip.ensures.source) (ap into_iter_len c.skip.ensures.source ∙ c.args.args.rest.ok.0)) c.skip.ensures.count)
