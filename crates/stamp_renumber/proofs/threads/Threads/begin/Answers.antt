use Rattle.std.proofs.Common.{◌≡◌, ◌≤◌, ◌<◌, ◌+◌, ◌++◌, ◌∷◌, [], ◌∙◌, List, length, ap, sym, subst, arith, Some, All}
use Rattle.std.specs.Option.{option_copied_mut}
use Rattle.std.proofs.lemmas.List.{length_push}
use Rattle.guest_words.specs.ByThread.{value_of}
use Rattle.call_tracker.specs.ThreadCalls.{Calls}
use Rattle.shadow_stack.specs.Frames.{Frame, new_frame, starts_of}
use Rattle.stamp_renumber.specs.Threads.{Live, Stamped, frames_of}
use Rattle.stamp_renumber.proofs.Changed.{calls_are, calls_were, changed_to, frames_were, kept_changed, spare_is, spare_was}
use Rattle.stamp_renumber.proofs.threads.Threads.begin.Goals as goal

pub push-requires-clause-above : goal.push-requires-clause-above
push-requires-clause-above g c =
    let xs = c.self.inside.threads.list in
    let threads = c.args.self.now.threads in
    let is : xs ≡ threads = ap (λ (l : Live). l.threads) c.self.view_is in
    let t = c.args.tid in
    let old : Stamped = c.unwrap-thread.result.now in
    let here : value_of xs t ≡ Some old = sym c.get_mut.ensures.found ∙ ap option_copied_mut c.unwrap-thread.ensures in
    subst (λ (fs : List Frame). All (λ s. s < g.S.Stamp.number_of c.args.start) (starts_of fs)) (frames_were xs threads is t old here) c.requires.above

pub push-requires-clause-room : goal.push-requires-clause-room
push-requires-clause-room g c =
    let xs = c.self.inside.threads.list in
    let threads = c.args.self.now.threads in
    let is : xs ≡ threads = ap (λ (l : Live). l.threads) c.self.view_is in
    let t = c.args.tid in
    let old : Stamped = c.unwrap-thread.result.now in
    let here : value_of xs t ≡ Some old = sym c.get_mut.ensures.found ∙ ap option_copied_mut c.unwrap-thread.ensures in
    omega (arith, spare_was xs threads is t old here, c.requires.room.0)

pub invariant_of-self : goal.invariant_of-self
invariant_of-self g c =
    let xs = c.self.inside.threads.list in
    let threads = c.args.self.now.threads in
    let is : xs ≡ threads = ap (λ (l : Live). l.threads) c.self.view_is in
    let t = c.args.tid in
    let old : Stamped = c.unwrap-thread.result.now in
    let here : value_of xs t ≡ Some old = sym c.get_mut.ensures.found ∙ ap option_copied_mut c.unwrap-thread.ensures in
    let some : 1 ≤ c.args.self.now.marks = c.requires.room.1 in
    let marks : c.self.inside.marks ≡ c.args.self.now.marks = ap (λ (l : Live). l.marks) c.self.view_is in
    let long : length c.push.new.self.frames ≡ length old.frames + 1 = ap length c.push.ensures.frames ∙ length_push old.frames (new_frame (g.S.Stamp.number_of c.args.start)) in
    kept_changed xs t old c.push.new.self c.self.inside.frames c.self.inside.marks _ _ _ _ c.self.invariant here (omega (arith, long)) (omega (arith, some, marks))

pub returns-clause-threads : goal.returns-clause-threads
returns-clause-threads g c =
    let xs = c.self.inside.threads.list in
    let threads = c.args.self.now.threads in
    let is : xs ≡ threads = ap (λ (l : Live). l.threads) c.self.view_is in
    let t = c.args.tid in
    let old : Stamped = c.unwrap-thread.result.now in
    let here : value_of xs t ≡ Some old = sym c.get_mut.ensures.found ∙ ap option_copied_mut c.unwrap-thread.ensures in
    let frame = new_frame (g.S.Stamp.number_of c.args.start) in
    changed_to xs threads is t old here c.push.new.self (frames_of threads t ++ frame ∷ []) (c.push.ensures.frames ∙ ap (λ (fs : List Frame). fs ++ frame ∷ []) (sym (frames_were xs threads is t old here))) c.push.ensures.pages

pub returns-clause-list : goal.returns-clause-list
returns-clause-list g c =
    let xs = c.self.inside.threads.list in
    let threads = c.args.self.now.threads in
    let is : xs ≡ threads = ap (λ (l : Live). l.threads) c.self.view_is in
    let t = c.args.tid in
    let old : Stamped = c.unwrap-thread.result.now in
    let here : value_of xs t ≡ Some old = sym c.get_mut.ensures.found ∙ ap option_copied_mut c.unwrap-thread.ensures in
    let were = calls_were xs threads is t old here in
    ap (λ (k : Calls). k.list) (calls_are xs threads is t old here c.push.new.self)
    ∙ c.push.ensures.list
    ∙ (λ i. record { entry = c.args.entry; back = c.args.back; earlier = (sym were i).counts } ∷ (sym were i).list)

pub returns-clause-counts : goal.returns-clause-counts
returns-clause-counts g c =
    let xs = c.self.inside.threads.list in
    let threads = c.args.self.now.threads in
    let is : xs ≡ threads = ap (λ (l : Live). l.threads) c.self.view_is in
    let t = c.args.tid in
    let old : Stamped = c.unwrap-thread.result.now in
    let here : value_of xs t ≡ Some old = sym c.get_mut.ensures.found ∙ ap option_copied_mut c.unwrap-thread.ensures in
    ap (λ (k : Calls). k.counts) (calls_are xs threads is t old here c.push.new.self) ∙ c.push.ensures.counts ∙ ap (λ (k : Calls). k.counts) (sym (calls_were xs threads is t old here))

pub returns-clause-lowered : goal.returns-clause-lowered
returns-clause-lowered g c =
    let xs = c.self.inside.threads.list in
    let threads = c.args.self.now.threads in
    let is : xs ≡ threads = ap (λ (l : Live). l.threads) c.self.view_is in
    let t = c.args.tid in
    let old : Stamped = c.unwrap-thread.result.now in
    let here : value_of xs t ≡ Some old = sym c.get_mut.ensures.found ∙ ap option_copied_mut c.unwrap-thread.ensures in
    omega (arith, spare_was xs threads is t old here, spare_is xs threads is t old here c.push.new.self, c.push.ensures.lowered)
