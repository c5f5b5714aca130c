-- The tick of a bounded counter: at the greatest stamp all stamps are renumbered, three for each open activation.
use Rattle.std.specs.Prelude.{ℕ, ◌+◌, ◌*◌, if◌then◌else◌, nat_lt, List, map, length}
use Rattle.std.specs.List.{flat_map}
use Rattle.shadow_stack.specs.Frames.{Frame, starts_of}
use Rattle.stamp_renumber.specs.Classes.{new_start, new_write, new_access}
use Rattle.stamp_table.specs.Table.{Thread, Table}

-- the start stamps of all threads' frames
abbrev pub all_starts : List (ℕ × Thread) → List ℕ
all_starts threads = flat_map (λ x. starts_of x.1.frames) threads

abbrev pub renewed_thread : List ℕ → (ℕ → ℕ) → Thread → Thread
renewed_thread starts write thread = record thread {
  frames = map (λ (f : Frame). record f { start = new_start starts f.start }) thread.frames;
  access = λ l. new_access starts (thread.access l) (write l);
}

abbrev pub renewed : Table → Table
renewed table =
    let starts = all_starts table.threads in
    record table {
      counter = 3 * length starts + 3;
      write = λ l. new_write starts (table.write l);
      threads = map (λ x. (x.0, renewed_thread starts table.write x.1)) table.threads;
      renumbered = table.renumbered + 1;
    }

-- the tick of a counter that has no end
abbrev pub plain_tick : Table → Table
plain_tick table = record table { counter = table.counter + 1 }

abbrev pub bounded_tick : ℕ → Table → Table
bounded_tick most table = if nat_lt table.counter most then plain_tick table else renewed table
