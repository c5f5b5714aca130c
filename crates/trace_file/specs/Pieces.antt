-- How bytes stand to a set of texts: the beginning of one of them, or of none.
use Rattle.std.specs.Prelude.{◌≡◌, ◌≢◌, ℕ, List, ◌++◌, []}
use Rattle.trace_file.specs.declared.records.Record.{Record}
use Rattle.trace_file.specs.Records.{Fits, record_bytes}

-- With some bytes more the bytes are one of the texts, and none of the texts is whole in them.
pub record IsBegun (L : List ℕ → Type 0) (bytes : List ℕ) : Type 0 where
  pub more : List ℕ
  pub some : more ≢ []
  pub text : L (bytes ++ more)
  pub unfinished : (x rest : List ℕ) → L x → bytes ≢ x ++ rest

-- Whatever bytes follow them, they don't begin with one of the texts.
abbrev pub IsNone : (List ℕ → Type 0) → List ℕ → Type 0
IsNone L bytes = (x more rest : List ℕ) → L x → bytes ++ more ≢ x ++ rest

-- the texts of records
abbrev pub IsRecord : List ℕ → Type 0
IsRecord x = (r : Record) × Fits r × (x ≡ record_bytes r)
