-- Calls that carry parts.
use Rattle.std.proofs.Common.{◌≡◌, ℕ, ◌*◌, Bool, true, false, cond, List, [], ◌∷◌, ◌++◌, length, Option, Some, None, arith, refl, ap, sym, subst, ◌∙◌}
use Rattle.std.specs.Prelude.{not}
use Rattle.guest_memory.specs.declared.memory.GuestMemory.{GuestMemory}
use Rattle.guest_memory.specs.declared.reservations.Reservations.{Reservations}
use Rattle.guest_memory.specs.Guest.{memory_of}
use Rattle.guest_memory.specs.ReservedBy.{reserved_by}
use Rattle.rv_exec.specs.Accesses.{can_write}
use Rattle.trace_model.specs.EventList.{EventList}
use Rattle.trace_model.specs.declared.event_kinds.Event.{Event}
use Rattle.guest_kernel.specs.declared.answer.Answer.TheVariants.{Back}
use Rattle.guest_calls.specs.declared.caller.Caller.{Caller}
use Rattle.guest_kernel.specs.declared.descriptor.Descriptor.{Descriptor}
use Rattle.guest_kernel.specs.declared.parts.IoVec.{IoVec}
use Rattle.guest_kernel.specs.Errors.{ebadf, efault}
use Rattle.guest_kernel.specs.Descriptors.{is_source, advanced}
use Rattle.guest_kernel.specs.Kernel.{KernelState, descriptor}
use Rattle.guest_kernel.specs.Copies.{Adds, KeepsRoom, read_event}
use Rattle.guest_calls.specs.Outcome.{asked, guest_of, Does}
use Rattle.guest_calls.specs.Results.{Syscall, SyscallResult, Guest, arg, answered_or, first_answer, returns, unless, ◌⇒◌, ◌or◌, ◌▷◌, changes, reads}
use Rattle.guest_kernel.specs.Parts.{all_in_reach}
use Rattle.guest_calls.specs.Vectors.{fills_parts, filled_parts, readv, readv_effect, readv_parts, readv_tests, table_tests}
use Rattle.guest_calls.proofs.PartLists.{behind, filled_behind}
use Rattle.guest_kernel.proofs.Room.{adds_none}

through_cond : (b : Bool) (e : ℕ) (o p : Option ℕ) → cond b (Some e) o ≡ None → (o ≡ None → o ≡ None) → (b ≡ false) × (o ≡ None)
through_cond true e o p h same = absurd (cc)
through_cond false e o p h same = (refl, h)

-- tests that all fail leave the answer to the next ones
pub first_answer_none : (xs ys : List (Bool × ℕ)) → first_answer xs ≡ None → first_answer (xs ++ ys) ≡ first_answer ys
first_answer_none [] ys none = refl
first_answer_none (x ∷ xs) ys none =
    let parts = through_cond x.0 x.1 (first_answer xs) None none (λ h. h) in
    ap (λ (b : Bool). cond b (Some x.1) (first_answer (xs ++ ys))) parts.0 ∙ first_answer_none xs ys parts.1

-- readv(2), of the descriptor, the bytes and the cut parts
abbrev pub readv_of : Syscall → Descriptor → List ℕ → List IoVec → SyscallResult
readv_of c file bytes into =
    unless c (
    not (is_source file) ⇒ ebadf
    or table_tests c.memory (arg c 1) (arg c 2)
    or not (all_in_reach (can_write c.memory) into) ⇒ efault
    )
    λ _. returns c (length bytes)
    ▷ reads c.tid (arg c 1) (8 * arg c 2)
    ▷ fills_parts into bytes
    ▷ changes (advanced file (arg c 0) (length bytes))

-- where all tests pass, it carries the bytes
readv_carries : (c : Syscall) (file : Descriptor) (bytes : List ℕ) (into : List IoVec) → is_source file ≡ true → first_answer (table_tests c.memory (arg c 1) (arg c 2)) ≡ None → all_in_reach (can_write c.memory) into ≡ true
    → readv_of c file bytes into ≡ (returns c (length bytes) ▷ reads c.tid (arg c 1) (8 * arg c 2) ▷ fills_parts into bytes ▷ changes (advanced file (arg c 0) (length bytes)))
readv_carries c file bytes into source passed reach =
    let last : List (Bool × ℕ) = (not (all_in_reach (can_write c.memory) into), efault) ∷ [] in
    let tests : cond (not (is_source file)) (Some ebadf) (first_answer (table_tests c.memory (arg c 1) (arg c 2) ++ last)) ≡ None =
    ap (λ (b : Bool). cond (not b) (Some ebadf) (first_answer (table_tests c.memory (arg c 1) (arg c 2) ++ last))) source
    ∙ first_answer_none (table_tests c.memory (arg c 1) (arg c 2)) last passed
    ∙ ap (λ (b : Bool). cond (not b) (Some efault) (let none : Option ℕ = None in none)) reach
    in
    ap (λ (o : Option ℕ). answered_or o c (λ _. returns c (length bytes) ▷ reads c.tid (arg c 1) (8 * arg c 2) ▷ fills_parts into bytes ▷ changes (advanced file (arg c 0) (length bytes)))) tests

pub readv_does : (caller : Caller) (state new : KernelState) (memory memory' : GuestMemory) (held held' : Reservations) (before middle after : EventList) (file : Descriptor) (bytes : List ℕ) (into : List IoVec)
    → is_source file ≡ true
    → first_answer (table_tests (memory_of memory) (arg (asked caller state memory held) 1) (arg (asked caller state memory held) 2)) ≡ None
    → all_in_reach (can_write (memory_of memory)) into ≡ true
    → Adds (read_event caller.tid (arg (asked caller state memory held) 1) (8 * arg (asked caller state memory held) 2)) before middle
    → guest_of memory' held' after ≡ filled_parts into bytes (guest_of memory held middle)
    → KeepsRoom middle after
    → new ≡ advanced file (arg (asked caller state memory held) 0) (length bytes) state
    → Does (readv_of (asked caller state memory held) file bytes into) (Back (length bytes)) new memory' held' before after
readv_does caller state new memory memory' held held' before middle after file bytes into source passed reach noted filled kept moved =
    let c = asked caller state memory held in
    let e = read_event caller.tid (arg c 1) (8 * arg c 2) in
    let is : guest_of memory' held' after ≡ behind before.list (filled_parts into bytes (record { memory = memory_of memory; held = reserved_by held; events = e })) =
    filled ∙ ap (λ (es : List Event). filled_parts into bytes (record { memory = memory_of memory; held = reserved_by held; events = es })) noted.list_is
    ∙ filled_behind into bytes (memory_of memory) (reserved_by held) before.list e
    in
    subst (λ (r : SyscallResult). Does r (Back (length bytes)) new memory' held' before after) (sym (readv_carries c file bytes into source passed reach)) (record {
      answered = refl;
      state_is = moved;
      memory_is = ap (λ (g : Guest). g.memory) is;
      held_is = ap (λ (g : Guest). g.held) is;
      events = record { list_is = ap (λ (g : Guest). g.events) is; room = let first = noted.room in omega (arith, first, kept) };
    })

-- the first of some tests that holds is the first of more
first_answer_some : (xs ys : List (Bool × ℕ)) (e : ℕ) → first_answer xs ≡ Some e → first_answer (xs ++ ys) ≡ Some e
first_answer_some [] ys e some = absurd (cc)
first_answer_some (x ∷ xs) ys e some = by x.0 (first_answer_some xs ys e) some
  where
    by : (b : Bool) → (first_answer xs ≡ Some e → first_answer (xs ++ ys) ≡ Some e) → cond b (Some x.1) (first_answer xs) ≡ Some e →
        cond b (Some x.1) (first_answer (xs ++ ys)) ≡ Some e
    by true later some = some
    by false later some = later some

-- where the table of parts is refused, nothing changes
pub readv_refused : (caller : Caller) (state : KernelState) (memory : GuestMemory) (held : Reservations) (events : EventList) (errno : ℕ) →
    let made = asked caller state memory held in
    is_source (descriptor made.kernel (arg made 0)) ≡ true → first_answer (table_tests made.memory (arg made 1) (arg made 2)) ≡ Some errno →
    Does (readv made) (Back errno) state memory held events events
readv_refused caller state memory held events errno source refused =
    let made : Syscall = asked caller state memory held in
    let last : List (Bool × ℕ) = (not (all_in_reach (can_write made.memory) (readv_parts made)), efault) ∷ [] in
    let tests : first_answer (readv_tests made) ≡ Some errno =
    ap (λ (b : Bool). cond (not b) (Some ebadf) (first_answer (table_tests made.memory (arg made 1) (arg made 2) ++ last))) source
    ∙ first_answer_some (table_tests made.memory (arg made 1) (arg made 2)) last errno refused in
    subst (λ (o : Option ℕ). Does (answered_or o made (λ _. readv_effect made)) (Back errno) state memory held events events) (sym tests)
    (record { answered = refl; state_is = refl; memory_is = refl; held_is = refl; events = adds_none events })
