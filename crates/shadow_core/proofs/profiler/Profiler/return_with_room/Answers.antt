use Rattle.std.proofs.Common.{◌≡◌, ◌+◌, ◌≤◌, ◌++◌, subst, sym}
use Rattle.std.specs.Prelude.{IsOk, OnErr, OnOk, vec_len}
use Rattle.std.specs.Vec.{vec_capacity}
use Rattle.trace_model.specs.Observing.{MayTake}
use Rattle.trace_model.specs.declared.event_kinds.Event.TheVariants.{Ret}
use Rattle.stamp_renumber.specs.Returned.{returned_by}
use Rattle.stamp_renumber.specs.Threads.{calls_of}
use Rattle.stamp_table.specs.Records.{finished}
use Rattle.stamp_table.specs.Renewal.{bounded_tick}
use Rattle.stamp_table.specs.Ticks.{table_after}
use Rattle.shadow_core.specs.Profiling.{StandsFor}
use Rattle.shadow_core.specs.State.{State, table_of_state}
use Rattle.shadow_core.proofs.SamePages.{seen_same}
use Rattle.shadow_core.proofs.profiler.Profiler.return_with_room.Goals as goal

pub return_full-requires : goal.return_full-requires
return_full-requires g c = subst (λ (k : State). MayTake (StandsFor g.S.Stamp.MAX) k (Ret c.args.tid c.args.target)) (sym c.in-None.ensures.same) c.requires.may

pub returns-in-None-clause-table : goal.returns-in-None-clause-table
returns-in-None-clause-table g c = subst (λ (k : State). OnOk c.return_full.result (table_of_state c.return_full.new.self ≡ table_after (bounded_tick g.S.Stamp.MAX) (Ret c.args.tid c.args.target) (table_of_state k))) c.in-None.ensures.same c.return_full.ensures.table

pub returns-in-None-clause-done : goal.returns-in-None-clause-done
returns-in-None-clause-done g c = subst (λ (k : State). OnOk c.return_full.result (c.return_full.new.done.items ≡ c.args.done.now.items ++ finished (Ret c.args.tid c.args.target) (table_of_state k))) c.in-None.ensures.same c.return_full.ensures.done

pub returns-in-None-clause-refused : goal.returns-in-None-clause-refused
returns-in-None-clause-refused g c = subst (λ (k : State). OnErr c.return_full.result (table_of_state c.return_full.new.self ≡ table_of_state k)) c.in-None.ensures.same c.return_full.ensures.refused

pub returns-in-None-clause-no_allocation : goal.returns-in-None-clause-no_allocation
returns-in-None-clause-no_allocation g c = subst (λ (k : State). vec_len c.args.done.now + returned_by c.args.target (calls_of k.live.threads c.args.tid) ≤ vec_capacity c.args.done.now → IsOk c.return_full.result) c.in-None.ensures.same c.return_full.ensures.no_allocation

pub returns-in-None-clause-pages : goal.returns-in-None-clause-pages
returns-in-None-clause-pages g c = seen_same c.in-None.ensures.same c.return_full.ensures.pages
