-- What an operation makes of a link, and what it tells.
use Rattle.std.specs.Prelude.{◌≡◌}
use denote.RawPtr.{Ptr, Testable}
use Rattle.mem_blocks.specs.{Web.if_unset, declared.operation.LinkOperation.LinkOperation, declared.operation.LinkOperation.LinkOperation as does}

-- Where the link leads afterwards, with the operand p, where it led to q.
abbrev pub leads_to : LinkOperation → Ptr → Ptr → Ptr
leads_to does.Load p q = q
leads_to does.Store p q = p
leads_to does.Install p q = if_unset p q

-- What the operation tells where the link led to q: a store tells its operand.
abbrev pub answered_place : LinkOperation → Ptr → Ptr → Ptr
answered_place does.Load p q = q
answered_place does.Store p q = p
answered_place does.Install p q = q

-- What is known of the place q that an operation tells.
abbrev pub IsAnsweredPlace : LinkOperation → Ptr → Ptr → Type 0
IsAnsweredPlace does.Load p q = Testable q
IsAnsweredPlace does.Store p q = q ≡ p
IsAnsweredPlace does.Install p q = Testable q
