-- The text of a run's trace.
use Rattle.std.specs.Prelude.{ℕ, List, length, nat_le, Bool}
use Rattle.std.specs.List.{flat_map}
use Rattle.std.specs.Option.{option_map, option_to_list}
use Rattle.elf_image.specs.Image.{Executable, name_of}
use Rattle.guest_run.specs.ObservedRun.{ObservedRun}
use Rattle.stored_traces.specs.Entries.{entries_begun}
use Rattle.guest_words.specs.declared.limits.TheConstants.{TRACE_BYTES}
use Rattle.trace_file.specs.TraceText.{Names, trace_text}
use Rattle.trace_model.specs.declared.event_kinds.Event.{Event}

-- the entry with the name that the executable gives it, where it gives one
abbrev pub named_entry : Executable → ℕ → Names
named_entry image entry = option_to_list (option_map (λ name. (entry, name)) (name_of image entry))

abbrev pub named_entries : Executable → List ℕ → Names
named_entries image entries = flat_map (named_entry image) entries

-- the names of the entries of the activations that began, the entries rising
abbrev pub names_begun : Executable → List Event → Names
names_begun image past = named_entries image (entries_begun past)

-- the text of the trace, with these names and how the run ended
abbrev pub trace_of : Executable → ObservedRun → List ℕ
trace_of image run = trace_text run.past (names_begun image run.past) run.finish

-- it is no longer than a trace that is stored
abbrev pub is_storable : List ℕ → Bool
is_storable text = nat_le (length text) TRACE_BYTES
