-- The names that a report can show.
use Rattle.std.specs.Prelude.{ℕ, Bool, not, ◌&&◌, ◌==◌, nat_le, List, length, slice_index}
use Rattle.std.specs.List.{list_all}
use Rattle.guest_words.specs.declared.limits.TheConstants.{NAME_BYTES}

-- a visible ASCII byte: no space, and no control byte
abbrev pub is_visible : ℕ → Bool
is_visible b = nat_le 0x21 b && nat_le b 0x7e

-- the bytes are the single byte `-`, which stands for no name
abbrev pub is_dash : List ℕ → Bool
is_dash bytes = (length bytes == 1) && (slice_index bytes 0 == 45)

-- the bytes are a name: 1 to `NAME_BYTES` visible bytes, and not the dash
abbrev pub is_name : List ℕ → Bool
is_name bytes = not (is_dash bytes) && nat_le 1 (length bytes) && nat_le (length bytes) NAME_BYTES && list_all is_visible bytes
