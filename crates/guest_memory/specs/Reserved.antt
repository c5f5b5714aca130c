-- The words that threads have reserved: a map from threads to words, each by its number.
use Rattle.std.specs.Prelude.{◌≡◌, ℕ, ◌≤◌, Bool, true, false, not, ◌&&◌, ◌==◌, if◌then◌else◌, List, length, Contains, Option, Some, None, is_some}
use Rattle.std.specs.Option.{option_map_or}
use Rattle.guest_memory.specs.Memory.{is_among}

-- the word that each thread has reserved, if it has one
abbrev pub Reserved : Type 0
Reserved = ℕ → Option ℕ

-- no thread has one
abbrev pub nothing_reserved : Reserved
nothing_reserved tid = None

-- this thread has reserved this word, and the others have what they had
abbrev pub with_word : Reserved → ℕ → ℕ → Reserved
with_word held tid word t = if t == tid then Some word else held t

-- this thread has reserved none, and the others have what they had
abbrev pub without_thread : Reserved → ℕ → Reserved
without_thread held tid t = if t == tid then None else held t

-- whether the thread's reservation is this word
abbrev pub holds : Reserved → ℕ → ℕ → Bool
holds held tid word = option_map_or (λ w. w == word) (held tid) false

-- whether the writer is this thread; the kernel, which is `None`, is no thread
abbrev pub is_by : Option ℕ → ℕ → Bool
is_by writer tid = option_map_or (λ t. t == tid) writer false

-- whether a write of `count` words from the first on drops a thread's reservation: it is another's, of one of them
abbrev pub is_dropped : Reserved → Option ℕ → ℕ → ℕ → ℕ → Bool
is_dropped held writer first count tid = not (is_by writer tid) && option_map_or (is_among first count) (held tid) false

-- what is reserved after such a write
abbrev pub after_write : Reserved → Option ℕ → ℕ → ℕ → Reserved
after_write held writer first count tid = if is_dropped held writer first count tid then None else held tid

-- At most `most` threads have a reservation: a list of that many has each of them.
pub record HoldAtMost (held : Reserved) (most : ℕ) : Type 0 where
  pub holders : List ℕ
  pub few : length holders ≤ most
  pub each : (tid : ℕ) → is_some (held tid) ≡ true → Contains holders tid
