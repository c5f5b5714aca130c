-- The negative answers, errno(3): each is 2 ^ 32 less its number.
use Rattle.std.specs.Prelude.{ℕ, ◌-◌, ◌^◌}

abbrev pub minus : ℕ → ℕ
minus n = 2 ^ 32 - n

-- No such file or directory
abbrev pub enoent : ℕ
enoent = minus 2

-- Bad file descriptor
abbrev pub ebadf : ℕ
ebadf = minus 9

-- Resource temporarily unavailable
abbrev pub eagain : ℕ
eagain = minus 11

-- Not enough space/cannot allocate memory
abbrev pub enomem : ℕ
enomem = minus 12

-- Permission denied
abbrev pub eacces : ℕ
eacces = minus 13

-- Bad address
abbrev pub efault : ℕ
efault = minus 14

-- Invalid argument
abbrev pub einval : ℕ
einval = minus 22

-- Too many open files
abbrev pub emfile : ℕ
emfile = minus 24

-- Inappropriate I/O control operation
abbrev pub enotty : ℕ
enotty = minus 25

-- Invalid seek
abbrev pub espipe : ℕ
espipe = minus 29

-- Filename too long
abbrev pub enametoolong : ℕ
enametoolong = minus 36

-- Connection timed out
abbrev pub etimedout : ℕ
etimedout = minus 110

-- Function not implemented
abbrev pub enosys : ℕ
enosys = minus 38
