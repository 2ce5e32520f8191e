use Rattle.std.proofs.Common.{◌≡◌, Option, Some, None, IfSome, refl, sym, ap, subst, ◌∙◌, arith}
use denote.RawPtr.{Ptr, null_ptr, InBlock, Testable}
use Rattle.mem_blocks.specs.{Web.block, Web.Lives, Web.without, Web.word_of, declared.block.BlockPtr.BlockPtr, declared.hub.TheConstants.TAIL, Web.HoldsWord}
use Rattle.shared_chain.{specs.Ending.LeadsTo, specs.Ending.IntoBlock, proofs.Frames.Blocks.gone_else}
use Rattle.shared_chain.proofs.ending.take_ends.Goals as goal

-- a link that was read leads to where the block's word does
leads : {T : Type 0} (o : Option (BlockPtr T)) (p q : Ptr) → p ≡ q → IfSome o (λ l. (l.ptr ≡ p) × InBlock l.ptr) → (o ≡ None → p ≡ null_ptr) → LeadsTo o q × IntoBlock o
leads None p q is some none = (sym is ∙ none refl, tt)
leads (Some l) p q is some none = (some.0 ∙ is, some.1)

pub word-requires : goal.word-requires
word-requires g c = (subst InBlock (sym c.requires.ends.2) tt, c.requires.lives.1)

pub word-requires-2 : goal.word-requires-2
word-requires-2 g c = (c.requires.ends.0, subst (λ s. HoldsWord s.blocks 0 c.args.tail.ptr TAIL) (sym c.word.ensures.0) c.requires.lives.0)

pub next-requires : goal.next-requires
next-requires g c = (subst InBlock (sym c.requires.ends.2) tt, subst (λ s. Lives s.blocks 1 c.args.head.ptr) (sym (c.word-2.ensures.0 ∙ c.word.ensures.0)) c.requires.lives.1.0)

pub get-requires : goal.get-requires
get-requires g c =
    let is = c.next.ensures ∙ ap (λ s. (block s.blocks 1).next) (c.word-2.ensures.0 ∙ c.word.ensures.0) in
    subst (λ p. Testable p) (sym is) c.requires.tested.1

pub next-requires-2 : goal.next-requires-2
next-requires-2 g c = (c.requires.ends.0, subst (λ s. Lives s.blocks 0 c.args.tail.ptr) (sym (c.word-2.ensures.0 ∙ c.word.ensures.0)) c.requires.lives.0.0)

pub get-requires-2 : goal.get-requires-2
get-requires-2 g c =
    let is = c.next-2.ensures ∙ ap (λ s. (block s.blocks 0).next) (c.word-2.ensures.0 ∙ c.word.ensures.0) in
    subst (λ p. Testable p) (sym is) c.requires.tested.0

pub lift-tail_end-requires : goal.lift-tail_end-requires
lift-tail_end-requires g c = subst (λ s. Lives s.blocks 0 c.args.tail.ptr) (sym (c.word-2.ensures.0 ∙ c.word.ensures.0)) c.requires.lives.0.0

pub lift-head_end-requires : goal.lift-head_end-requires
lift-head_end-requires g c =
    let lives = subst (λ s. Lives s.blocks 1 c.args.head.ptr) (sym (c.word-2.ensures.0 ∙ c.word.ensures.0)) c.requires.lives.1.0 in
    let stays = ap (λ bs. block bs 1) c.lift-tail_end.ensures.left.1 ∙ gone_else c.word-2.new.self.blocks 0 1 (λ e. omega (arith, e)) in
    (ap (λ x. x.alive) stays ∙ lives.0, ap (λ x. x.at) stays ∙ lives.1)

pub give_up-requires : goal.give_up-requires
give_up-requires g c =
    let heap = ap (λ s. s.heap) (c.word-2.ensures.0 ∙ c.word.ensures.0) ∙ c.requires.heap.0 in
    let tail = c.lift-tail_end.ensures in
    let head = c.lift-head_end.ensures in
    (c.requires.heap.1, tail.taken.0 ∙ heap, head.taken.0 ∙ tail.left.0 ∙ heap, c.requires.ends.1, tail.taken.1, head.taken.1 ∙ c.requires.ends.2)

pub returns-clause-chain : goal.returns-clause-chain
returns-clause-chain g c =
    let same = c.word-2.ensures.0 ∙ c.word.ensures.0 in
    let tail = c.lift-tail_end.ensures.left in
    let head = c.lift-head_end.ensures.left in
    (head.0 ∙ tail.0 ∙ ap (λ s. s.heap) same, head.1 ∙ ap (λ bs. without bs 1) (tail.1 ∙ ap (λ s. without s.blocks 0) same))

pub returns-clause-words : goal.returns-clause-words
returns-clause-words g c = (c.word-2.ensures.1 ∙ ap (λ s. word_of s.blocks 0 TAIL) c.word.ensures.0, c.word.ensures.1)

pub returns-clause-back : goal.returns-clause-back
returns-clause-back g c =
    let is = c.next-2.ensures ∙ ap (λ s. (block s.blocks 0).next) (c.word-2.ensures.0 ∙ c.word.ensures.0) in
    leads c.get-2.result c.next-2.result.ptr (block c.args.chain.now.blocks 0).next is c.get-2.ensures.some c.get-2.ensures.none

pub returns-clause-front : goal.returns-clause-front
returns-clause-front g c =
    let is = c.next.ensures ∙ ap (λ s. (block s.blocks 1).next) (c.word-2.ensures.0 ∙ c.word.ensures.0) in
    leads c.get.result c.next.result.ptr (block c.args.chain.now.blocks 1).next is c.get.ensures.some c.get.ensures.none
