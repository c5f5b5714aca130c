-- A live thread is in the table, with a frame, and so the counter is not 0.
use Rattle.std.proofs.Common.{◌≡◌, ℕ, suc, ◌+◌, ◌<◌, true, List, [], ◌∷◌, length, Option, Some, None, refl, sym, ap, ◌∙◌, arith}
use Rattle.std.specs.Prelude.{is_some}
use Rattle.std.specs.List.{AllZip}
use Rattle.std.proofs.lemmas.Bool.{false≢true}
use Rattle.std.proofs.lemmas.List.{length-map}
use Rattle.guest_words.specs.ByThread.{value_of}
use Rattle.trace_model.specs.declared.event_kinds.Event.{Event}
use Rattle.trace_model.specs.declared.activations.Activation.{Activation}
use Rattle.trace_model.specs.Activations.{open_calls, backs}
use Rattle.trace_model.specs.WellFormed.{is_live, IsWellFormed}
use Rattle.shadow_stack.specs.Frames.{starts_of}
use Rattle.stamp_table.specs.Table.{Thread, Table}
use Rattle.stamp_table.specs.Stands.{IsFalling, ThreadStands, Agrees}
use Rattle.stamp_table.specs.Laws.{IsFresh}
use Rattle.stamp_table.proofs.Past.{rooted, rooted-positive}

-- after a tick the counter is not 0
pub positive_by : {table : Table} → IsFresh table → 0 < table.counter
positive_by fresh = omega (arith, fresh.writes 0)

-- a live thread is in the table
pub record IsThere (table : Table) (past : List Event) (t : ℕ) : Type 0 where
  pub thread : Thread
  pub found : value_of table.threads t ≡ Some thread
  pub stands : ThreadStands table past t thread

pub there : (table : Table) (past : List Event) (t : ℕ) → Agrees table past → is_live past t ≡ true → IsThere table past t
there table past t s live = by (value_of table.threads t) refl
  where
    by : (o : Option Thread) → value_of table.threads t ≡ o → IsThere table past t
    by None found = absurd (false≢true (sym (ap is_some found) ∙ s.live t ∙ live))
    by (Some thread) found = record { thread = thread; found = found; stands = s.threads t thread found }

pub zip-length : {A B : Type 0} (P : A → B → Type 0) (xs : List A) (ys : List B) → AllZip P xs ys → length xs ≡ length ys
zip-length P [] [] h = refl
zip-length P [] (y ∷ ys) h = absurd h
zip-length P (x ∷ xs) [] h = absurd h
zip-length P (x ∷ xs) (y ∷ ys) h = ap suc (zip-length P xs ys h.1)

-- it has as many frames as open activations, and at least one
pub depth_is : (table : Table) (past : List Event) (t : ℕ) (thread : Thread) → ThreadStands table past t thread →
    length (starts_of thread.frames) ≡ length (backs (open_calls past t))
depth_is table past t thread s =
    zip-length _ (starts_of thread.frames) (open_calls past t) s.starts ∙ sym (length-map (open_calls past t) (λ (a : Activation). a.back))

pub has_frame : (table : Table) (past : List Event) (t : ℕ) (thread : Thread) → IsWellFormed past → is_live past t ≡ true → ThreadStands table past t thread →
    0 < length (starts_of thread.frames)
has_frame table past t thread formed live s = omega (arith, rooted-positive (backs (open_calls past t)) (rooted past t formed live), depth_is table past t thread s)

pub positive : (table : Table) (past : List Event) (t : ℕ) → IsWellFormed past → Agrees table past → is_live past t ≡ true → 0 < table.counter
positive table past t formed s live =
    let i = there table past t s live in
    by (starts_of i.thread.frames) (has_frame table past t i.thread formed live i.stands) i.stands.falling
  where
    by : (starts : List ℕ) → 0 < length starts → IsFalling (table.counter + 1) starts → 0 < table.counter
    by [] some falling = absurd (omega (arith, some))
    by (s ∷ starts) some falling = omega (arith, falling.0, falling.1)
