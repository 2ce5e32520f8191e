use Rattle.mem_blocks.specs.Web.{alive_at}
use Rattle.shared_chain.proofs.Opening.{has_count, opens}
use Rattle.shared_chain.proofs.web.ChainWeb.open.Goals as goal

pub set_word-requires : goal.set_word-requires
set_word-requires g c =
    let made = c.in_ok-hub.ensures in let t = made.tail in
    (made.hub.2, has_count _ _ _ _ _ _ c.empty-chain.ensures.1 c.lay.ensures.1 c.lay-2.ensures.1 (λ i. alive_at (t.1 i) (t.2 i) (t.3 i) (t.4 i)))

pub share-web-requires : goal.share-web-requires
share-web-requires g c =
    let made = c.in_ok-hub.ensures in let t = made.tail in let h = made.head in
    opens _ _ _ _ _ _ _ _ c.empty-chain.ensures.1 c.lay.ensures.1 c.lay-2.ensures.1 c.set_word.ensures.1 (λ i. alive_at (t.1 i) (t.2 i) (t.3 i) (t.4 i)) (λ i. alive_at (h.1 i) (h.2 i) (h.3 i) (h.4 i))
