-- What the program can answer besides failures of the outside and out of memory: the statuses and the last texts.
use Rattle.std.specs.Prelude.{ℕ, List, []}
use Rattle.guest_words.specs.declared.endings.Finish.{Finish}
use Rattle.guest_words.specs.declared.endings.Finish.TheVariants.{Exit, Fault, Budget, Deadlock, Deep, Schedule}
use Rattle.aprof_top.specs.declared.ending.Verdict.{Verdict}
use Rattle.aprof_top.specs.declared.ending.Verdict.TheVariants.{BadCommand, BadImage, BadSchedule, BadTrace, TooLarge, Ran, ResultTooLarge, Done}
use Rattle.aprof_top.specs.Texts.{bad_command_text, bad_trace_text, finish_text, image_text, schedule_text, too_large_text}

-- the status of a run that ended so
abbrev pub finish_status : Finish → ℕ
finish_status (Exit status) = 0
finish_status (Fault kind tid at) = 5
finish_status Budget = 6
finish_status Deadlock = 7
finish_status Deep = 8
finish_status (Schedule line) = 9

abbrev pub verdict_status : Verdict → ℕ
verdict_status BadCommand = 1
verdict_status (BadImage e) = 3
verdict_status (BadSchedule line) = 9
verdict_status (BadTrace why) = 13
verdict_status TooLarge = 11
verdict_status (Ran finish) = finish_status finish
verdict_status ResultTooLarge = 11
verdict_status Done = 0

abbrev pub verdict_text : Verdict → List ℕ
verdict_text BadCommand = bad_command_text
verdict_text (BadImage e) = image_text e
verdict_text (BadSchedule line) = schedule_text line
verdict_text (BadTrace why) = bad_trace_text why
verdict_text TooLarge = too_large_text
verdict_text (Ran finish) = finish_text finish
verdict_text ResultTooLarge = too_large_text
verdict_text Done = []

-- a run came to it, or all that was asked was done
abbrev pub IsOfRun : Verdict → Type 0
IsOfRun (Ran finish) = Unit {0}
IsOfRun ResultTooLarge = Unit {0}
IsOfRun Done = Unit {0}
IsOfRun _ = ⊥
