-- Why a call of the system is refused.
use Rattle.std.specs.Prelude.{◌≡◌, ◌≢◌, Result, Err}
use Rattle.std.specs.IoError.{error_kind}
use Rattle.std.specs.declared.io.Error.{Error}
use Rattle.std.specs.declared.io.ErrorKind.TheVariants.{OutOfMemory}

-- A call is refused for this error of the system: out of memory is told apart from every other cause.
pub record IsRefusedFor {T E : Type 0} (error : Error) (memory failed : E) (result : Result T E) : Type 0 where
  pub out_of_memory : error_kind error ≡ OutOfMemory → result ≡ Err memory
  pub fails : error_kind error ≢ OutOfMemory → result ≡ Err failed
