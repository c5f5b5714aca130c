use Rattle.std.proofs.Common.{◌≡◌, ◌∙◌, [], None, false, Option, Some, ap, length, refl, sym}
use Rattle.std.specs.Prelude.{is_some}
use Rattle.std.specs.Option.{option_map_or}
use Rattle.guest_words.specs.ByThread.{value_of}
use Rattle.shadow_core.specs.State.{State}
use Rattle.stamp_renumber.specs.Threads.{Stamped, pages_of}
use Rattle.shadow_core.proofs.profiler.Profiler.access_pages.Goals as goal

-- what is not there has no page
none_there : (o : Option Stamped) → is_some o ≡ false → length (option_map_or (λ (s : Stamped). s.pages) o []) ≡ 0
none_there None gone = refl
none_there (Some s) gone = absurd (cc)

pub shadow-requires : goal.shadow-requires
shadow-requires g c = sym c.lives.ensures ∙ c.if-lives.true

pub returns-else-lives : goal.returns-else-lives
returns-else-lives g c =
    sym (ap (λ (k : State). length (pages_of k.live.threads c.args.tid)) (sym c.self.view_is) ∙ none_there (value_of c.self.inside.threads.threads c.args.tid) (sym c.lives.ensures ∙ c.if-lives.false))
