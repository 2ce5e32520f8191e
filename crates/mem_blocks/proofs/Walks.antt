-- The names that walks cite.
pub use Rattle.std.proofs.Common.{◌≡◌, ℕ, ◌+◌, ◌*◌, ◌-◌, ◌%◌, ◌^◌, ◌<◌, ◌≤◌, Bool, true, false, true≢false, List, [], ◌∷◌, ◌++◌, length, replicate, get_or, set, sym, refl, ap, ◌∙◌, subst, arith, lit<, w64, length-set, zero, suc}
pub use Rattle.std.specs.Prelude.{Option, Some, None, bit_and, bit_or}
pub use mathlib.Core.Option.{some as found_at}
pub use native.Mathlib.Nat.{mul-le-mul_right}
pub use lib.ListN.{get_elem?}
pub use lib.Dec.{eqb, ltb, T}
pub use mir.Syntax.{Ty, Body, a_type, dcons, dnil, named, ty_int, ty_ptr, ty_array, ty_unit}
pub use mir.Val.{Val, vunit, vint, vbool, vnull, vptr, vstruct, vcons, vnil, of_list, has_ty, WT, ptr_same}
pub use mir.MapTy.{inst_fn}
pub use mir.Raw.{raw as bare}
pub use base.Fraction.{full_share}
pub use base.Share.{left, right}
pub use base.Stored.{Coded}
pub use base.Logic.{SProp, ent, sep, wand, emp, via, all, guard, guard_i, id⊢, apply∗, all_e, ex, upd, upd_i}
pub use base.Fml.{Lft, Share, Fml, ftrue, fsep, fex, fwand, froom, fat, flft, finv, fbor, Incl-trans}
pub use prog.Atomic.{either}
pub use prog.Memory.{size, align, capped}
pub use prog.Capped.{capped_fits, capped_small, capped_is}
pub use prog.RawLaws.{size-raw, align-raw}
pub use prog.Wp.{WpFn, Wp, after_seq, at_return}
pub use types.Logic.{sem, Logic}
pub use types.Kit.{mean, ‵, raw, ◌⊛◌, some, given, later, at_ret, any_q, ◌$◌, ◌∵◌, !, qed, by}
pub use types.Kit.{move, keep, drop, use0, use1, use2, use3, split, split3, join, fsplit, fsplit3, fjoin, fjoin3, fpick, fpack, pick, learn, check, each, assume, suffices, await, rewrite, feq_i, flt_i, done, show, frame, settle}
pub use types.Run.{switches, stop, from, fld, hop, load, addr, lit, unit_lit, size_word, align_word, of_opd, bin, no_more, and_then, first, blocks, exec, Calls-last, returns, enter, assigns_last, assigns, look, look_raw, store, store_raw, init, switches_on}
pub use types.ByLocal.{alloc_all, pass_all, free_all, look_at, look_in_at, get, get_in, get_tag, through, sets, sets_last, lands_as, lands_last, is, env}
pub use types.Match.{live, vrt, in_variant}
pub use types.Part.{agg, sub, rep, whole as all_of_it}
pub use types.Tokens.{shr_bor-open, obor_close}
pub use types.Within.{tokens_halve}
pub use contract.Running.{tables}
pub use contract.Monad.{fact, fact_i, fact_use}
pub use contract.BorrowLft.{◌⊑◌, ⊑_refl}
pub use denote.Exit.{yes, no}
pub use denote.RattleType.{RattleType, Valss, owns}
pub use denote.Signature.{types_at, plain}
pub use denote.Memory.{mem, lone, part_at}
pub use denote.RawPtr.{Ptr, RawPtr, block_ptr, null_ptr, ptr_val, block_of, count_of, at_block, InBlock, Testable, tests_null, rawptr_vals, rawptr_Tells}
pub use denote.Steps.{nothing, heard, opens, closes, only}
pub use denote.Opens.{unhide}
pub use denote.Param.{param, bounded, layout, layouts}
pub use denote.Param.Laws.{param_laws}
pub use denote.Builtin.{RefOf, u64, usize, unit}
pub use denote.Ref.{mut_vals, mut_Tells, shr_vals, shr_Tells}
pub use denote.Plain.{uint_vals, uint_Tells}
pub use denote.Shadow.{makes_shadow}
pub use denote.Struct.Members.{Member, part_room}
pub use denote.Struct.Struct.{within}
pub use denote.Struct.Tuple.{Tuple, tuple_type}
pub use denote.Triple.Call.{calls_at, calls_at_last}
pub use denote.Triple.Entry.{alive}
pub use denote.Triple.Spec.{triple_of}
pub use denote.Triple.Walked.{Stays, stay_dropped, stay_ref, walk_of, Goes-dropped, Goes-ref}
pub use Rattle.std.specs.Sync.RawAtomic.{asks, always}
pub use Rattle.std.specs.Sync.RawAtomic.Pointer.{cell, alike, compares}
pub use Rattle.std.specs.declared.result.Result.TheVariants.{Ok, Err}
pub use Rattle.std.proofs.cell.Inside.{Good-round, one, spread, gather}
pub use Rattle.atomic_table.specs.Seated.{word, row}
pub use Rattle.atomic_table.proofs.Walks.{proved, proved_at, leaves}
pub use Rattle.atomic_table.proofs.Calls.{fm, seq_cst, found, stored, finds, has_stored, loads, stores, adds, subs, ors, ands, exchanges}
pub use Rattle.mem_blocks.specs.Web.{Content, Home, Hand, Block, Sitter, step, sitter, alive_at, away, vacant, full, HoldsWord}
pub use Rattle.mem_blocks.specs.Web.{block, Lives, Rests, AllVacant, word_of, with_word, with_next, with_home, without, gone, if_unset, StaysIn, Allows, AllowsLink, CanFork, CanMerge, LastBlocks, LastBlocksBy, Act, blocks_after, sitter_after}
pub use Rattle.mem_blocks.specs.Seats.{Sits, Same}
pub use Rattle.mem_blocks.specs.Laid.{WebId, age, Small, Sized, words_of, slots_at, content_owns, slot_owns, slots_own, hand_owns, edge, rim, hub_ty, hub_rooms, hub_rim, head_of, hub_size, block_owns, laid_owns, chain_owns, spare_owns, seat_owns, inside_owns, web_owns, block_ty, rooms}
pub use mathlib.Core.Bool.{cond}
pub use seplogic.Ra.Ura.{Ura}
pub use Rattle.mem_blocks.specs.declared.sizes.TheConstants.{SLOTS, END_WORDS}
pub use Rattle.mem_blocks.proofs.Made.{head, after, arm_body, ptr_good, blank_val, place_val, Blank, blank_values, blank_made, place_values, place_made, word_laws, full_product, ok_of, err_of}
pub use Rattle.mem_blocks.proofs.Stepping.{spent, lent_back, enters_at, tells, numbers, blank, puts_back, gives_back, spends, alone, takes_ref, takes_step, opens_ref, closes_ref, shuts_ref, begins_step, ends_step}
