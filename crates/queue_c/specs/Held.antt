-- What a handle owns that C keeps: nothing at null, and else a box with a party or none, whose address can be compared with null.
use base.Fml.{Fml, ftrue, fsep, fex}
use denote.{RattleType.RattleType, RawPtr.Ptr, RawPtr.block_ptr, RawPtr.null_ptr, RawPtr.Testable}
use Rattle.std.specs.{Prelude.Option, Prelude.Some, Prelude.None, contracts.option.Option.the_row as option_row, declared.alloc.Global.Global, contracts.impls.GlobalAllocator.TheImpl.ghosts}
use Rattle.std_alloc.specs.Box.Ownership.{box_owns}

abbrev pub boxed : (R : RattleType) → Global → Ptr → R.Denot → Fml
boxed R a = box_owns (ghosts.dealloc_token a) R

abbrev pub testable : Ptr → Fml
testable p = fex (Testable p) (λ _. ftrue)

abbrev pub held : (R : RattleType) → Global → Ptr → Option R.Denot → Fml
held R a null_ptr None = ftrue
held R a null_ptr (Some x) = fex ⊥ (λ _. ftrue)
held R a (block_ptr b o) end = fsep (testable (block_ptr b o)) (boxed (option_row R) a (block_ptr b o) end)
