-- Bytes read up to a limit, where the reader's bytes are known.
use Rattle.std.proofs.Common.{◌≡◌, ℕ, ◌<◌, ◌≤◌, List, length, take, Option, Some, None, Result, Ok, Err, IfOk, IsOk, IfSome, Vec, vec_len, min, ap, sym, subst, ◌∙◌, arith}
use Rattle.std.specs.Option.{option_map}
use Rattle.std.specs.declared.alloc.Global.{Global}
use Rattle.std.specs.declared.io.Error.{Error}
use Rattle.host_io.specs.declared.files.LoadError.{LoadError}
use Rattle.std.proofs.lemmas.List.{length-take, take_all}

front_is_all : (limit : ℕ) (got known : List ℕ) → got ≡ take limit known → length got < limit → got ≡ known
front_is_all limit got known same short =
    let count : length got ≡ min limit (length known) = ap length same ∙ length-take limit known in
    same ∙ take_all limit known (omega (arith, count, short))

-- fewer bytes than the limit are all bytes
pub fewer_is_all : (limit : ℕ) (got : List ℕ) (known : Option (List ℕ)) → IfSome (option_map (take limit) known) (λ front. got ≡ front) → length got < limit → IfSome known (λ all. got ≡ all)
fewer_is_all limit got None same short = tt
fewer_is_all limit got (Some known) same short = front_is_all limit got known same short

-- what was kept of bytes that were read to a limit are all bytes
pub kept_is_all : (limit most : ℕ) (known : Option (List ℕ)) (buffer : Vec ℕ Global) (read : Result ℕ Error) (result : Result (Vec ℕ Global) LoadError)
    → IfOk result (λ kept. IsOk read × (vec_len buffer ≤ most) × (kept ≡ buffer))
    → IfOk read (λ n. IfSome (option_map (take limit) known) (λ front. buffer.items ≡ front))
    → (vec_len buffer ≤ most → vec_len buffer < limit)
    → IfOk result (λ kept. IfSome known (λ all. kept.items ≡ all))
kept_is_all limit most known buffer (Ok n) (Ok kept) (done, small, same) front fewer =
    let few = fewer small in
    subst (λ (b : Vec ℕ Global). IfSome known (λ all. b.items ≡ all)) (sym same) (fewer_is_all limit buffer.items known front (omega (arith, few, buffer.ok.0)))
kept_is_all limit most known buffer (Err e) (Ok kept) (done, small, same) front fewer = absurd (cc)
kept_is_all limit most known buffer read (Err e) only front fewer = tt
