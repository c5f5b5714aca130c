use Rattle.std.proofs.Common.{◌≡◌, take}
use Rattle.thread_sched.specs.ScheduleText.{schedule_text}
use Rattle.thread_sched.proofs.recording.Recording.text.Given as goal

abbrev pub invariant-loop-turn : goal.invariant-loop-turn
invariant-loop-turn l = l.text.items ≡ schedule_text (take l.turn-index l.self)
